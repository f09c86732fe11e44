-- Where reading a value stops: the item lacks bytes, or its bytes up to the first with which it is refused decide.
use Rattle.std.proofs.Common.{◌≡◌, ◌≢◌, ℕ, zero, suc, ◌+◌, ◌<◌, ◌≤◌, inl, inr, List, [], ◌++◌, length, take, drop, Err, refl, sym, ◌∙◌, ap, subst, append-nil, arith}
use Rattle.std.proofs.lemmas.Bool.{cases_lt}
use Rattle.std.proofs.lemmas.List.{length-take, take_all, take-take, take-append-drop}
use Rattle.cbor_profile.specs.Head.{spelling}
use Rattle.cbor_profile.specs.Item.{IsItem, most_levels, read_item}
use Rattle.cbor_profile.specs.declared.item.ItemRead.{ItemRead}
use Rattle.cbor_profile.specs.declared.item.ItemRead.TheVariants as items
use Rattle.cbor_profile.specs.declared.fault.Reason.{Reason}
use Rattle.cbor_profile.specs.declared.fault.Reason.TheVariants as reasons
use Rattle.cbor_profile.proofs.ItemFaults.{item_answer_stands}
use Rattle.bp_eid.specs.declared.stop.Stop.{Stop}
use Rattle.bp_eid.specs.Reading.{stops}
use Rattle.correct_prefix.proofs.ListStopsBehindPrefix.{stopped}
use Rattle.bpsec_asb.specs.Reading.{after_item, value_at}
use Rattle.correct_prefix.specs.Values.{TakesValue, IsRefused}
use Rattle.correct_prefix.proofs.Stopped.{Stopped}

-- ---- the first byte with which an item is refused

-- with fewer bytes it only lacks some
abbrev Lacks : ℕ → List ℕ → Type 0
Lacks n bytes = (few : ℕ) → few < n → read_item (take few bytes) ≡ items.Short

record Decides (bytes : List ℕ) : Type 0 where
  size : ℕ
  within : size ≤ length bytes
  lacks : Lacks size bytes
  enough : read_item (take size bytes) ≡ items.Short → ⊥

more_lack : (n : ℕ) (bytes : List ℕ) → Lacks n bytes → read_item (take n bytes) ≡ items.Short → Lacks (n + 1) bytes
more_lack n bytes lacks short few le = elim (cases_lt few n) [
  | inl less ↦ lacks few less
  | inr other ↦ let same : n ≡ few = omega arith in subst (λ (k : ℕ). read_item (take k bytes) ≡ items.Short) same short
]

decide_by : (n : ℕ) (bytes : List ℕ) (read : ItemRead) → read_item (take n bytes) ≡ read → n ≤ length bytes → Lacks n bytes → (Lacks (n + 1) bytes → Decides bytes) → Decides bytes
decide_by n bytes (items.Whole len) is le lacks next = record { size = n; within = le; lacks = lacks; enough = λ e. let c : items.Whole len ≡ items.Short = sym is ∙ e in cc }
decide_by n bytes items.Short is le lacks next = next (more_lack n bytes lacks is)
decide_by n bytes items.NotShortest is le lacks next = record { size = n; within = le; lacks = lacks; enough = λ e. let c : items.NotShortest ≡ items.Short = sym is ∙ e in cc }
decide_by n bytes items.Bad is le lacks next = record { size = n; within = le; lacks = lacks; enough = λ e. let c : items.Bad ≡ items.Short = sym is ∙ e in cc }
decide_by n bytes items.Deep is le lacks next = record { size = n; within = le; lacks = lacks; enough = λ e. let c : items.Deep ≡ items.Short = sym is ∙ e in cc }

decide_from : (left n : ℕ) (bytes : List ℕ) → n + left ≡ length bytes → Lacks n bytes → (read_item bytes ≡ items.Short → ⊥) → Decides bytes
decide_from zero n bytes all lacks enough =
    record { size = n; within = omega arith; lacks = lacks; enough = λ e. enough (ap read_item (sym (take_all n bytes (omega arith))) ∙ e) }
decide_from (suc left) n bytes all lacks enough = decide_by n bytes (read_item (take n bytes)) refl (omega arith) lacks (λ more. decide_from left (n + 1) bytes (omega arith) more enough)

decides : (bytes : List ℕ) → (read_item bytes ≡ items.Short → ⊥) → Decides bytes
decides bytes enough = decide_from (length bytes) 0 bytes (omega arith) (λ few less. absurd (omega arith)) enough

-- ---- values

pub takes_value : TakesValue (IsItem most_levels) []
takes_value = λ value item. (value, item, [], sym (append-nil value))

pub zero_item : List ℕ
zero_item = spelling (record { major = 0; value = 0 })

pub is_zero_item : IsItem most_levels zero_item
unfolding zero_item spelling
is_zero_item = (record { major = 0; value = 0 }, [], (omega arith, inl (omega arith)), refl, refl)

value_refused : (bytes : List ℕ) (read : ItemRead) (reason : Reason) (stop : Stop) → read_item bytes ≡ read → IsRefused read → (read ≡ items.Short → ⊥) → ((b : List ℕ) → after_item b read ≡ stops b reason) → reason ≢ reasons.Truncated
    → after_item bytes read ≡ Err stop → Stopped (IsItem most_levels) value_at bytes stop
unfolding value_at
value_refused bytes read reason stop is refused whole same other e =
    let s = stopped {A = List ℕ × List ℕ} bytes reason stop (sym (same bytes) ∙ e) in
    let d = decides bytes (λ short. whole (sym is ∙ short)) in
    let token = take d.size bytes in
    let within = d.within in
    let size : length token ≡ d.size = omega (arith, length-take d.size bytes) in
    let parts : bytes ≡ token ++ drop d.size bytes = sym (take-append-drop d.size bytes) in
    let alone : read_item token ≡ read = sym (item_answer_stands token (drop d.size bytes) d.enough) ∙ (ap read_item (sym parts) ∙ is) in
    record {
      front = [];
      rest = bytes;
      parts = refl;
      left = sym s.0;
      begins = inl (zero_item, is_zero_item, zero_item, refl);
      unfinished = λ early. absurd (other (sym s.1 ∙ early));
      sealed = λ no. record {
        token = token;
        more = drop d.size bytes;
        parts = parts;
        is_token = inr (takes_value, (subst IsRefused (sym alone) refused, λ few less. let le : few < d.size = omega (arith, size) in ap read_item (take-take few d.size bytes (omega arith)) ∙ d.lacks few le));
        again = λ others.
            ap (after_item (token ++ others)) (item_answer_stands token others d.enough ∙ alone) ∙ (same (token ++ others) ∙ ap (λ (r : Reason). Err (record { reason = r; left = length (token ++ others) })) (sym s.1));
      };
    }

value_by : (bytes : List ℕ) (read : ItemRead) (stop : Stop) → read_item bytes ≡ read → after_item bytes read ≡ Err stop → Stopped (IsItem most_levels) value_at bytes stop
value_by bytes (items.Whole len) stop is e = absurd cc
value_by bytes items.Short stop is e =
    let s = stopped {A = List ℕ × List ℕ} bytes reasons.Truncated stop e in
    record {
      front = [];
      rest = bytes;
      parts = refl;
      left = sym s.0;
      begins = inl (zero_item, is_zero_item, zero_item, refl);
      unfinished = λ early. inr (takes_value, is);
      sealed = λ other. absurd (other s.1);
    }
value_by bytes items.NotShortest stop is e = value_refused bytes items.NotShortest reasons.NotShortest stop is tt (λ s. cc) (λ b. refl) (λ q. cc) e
value_by bytes items.Bad stop is e = value_refused bytes items.Bad reasons.WrongKind stop is tt (λ s. cc) (λ b. refl) (λ q. cc) e
value_by bytes items.Deep stop is e = value_refused bytes items.Deep reasons.WrongValue stop is tt (λ s. cc) (λ b. refl) (λ q. cc) e

pub value_stops : (bytes : List ℕ) (stop : Stop) → value_at bytes ≡ Err stop → Stopped (IsItem most_levels) value_at bytes stop
unfolding value_at
value_stops bytes stop e = value_by bytes (read_item bytes) stop refl e
