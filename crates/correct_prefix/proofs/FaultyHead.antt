-- A head that isn't permitted is refused whatever follows it.
use Rattle.std.proofs.Common.{◌≡◌, ◌≢◌, ℕ, suc, ◌+◌, ◌-◌, ◌/◌, ◌%◌, ◌<◌, ◌≤◌, inl, inr, Bool, true, false, cond, ltb, eqb, List, [], ◌∷◌, ◌++◌, length, take, drop, Option, Some, None, Result, Ok, Err, refl, sym, ◌∙◌, ap, subst, arith}
use Rattle.std.specs.List.{list_any}
use Rattle.std.proofs.lemmas.Bool.{ltb-false, le-ltb}
use Rattle.std.proofs.lemmas.List.{length-append, length-take, take-append-drop}
use Rattle.cbor_profile.specs.Head.{spelling, read_head, is_bad, following, argument, least, IsHead}
use Rattle.cbor_profile.specs.Token.{token_head, after_read}
use Rattle.cbor_profile.specs.declared.TheConstants.{BUNDLE_LIMIT}
use Rattle.cbor_profile.specs.declared.head.Head.{Head}
use Rattle.cbor_profile.specs.declared.head.HeadRead.{HeadRead}
use Rattle.cbor_profile.specs.declared.head.HeadRead.TheVariants.{Whole, Short, NotShortest, Bad}
use Rattle.cbor_profile.specs.declared.fault.Reason.{Reason}
use Rattle.cbor_profile.specs.declared.fault.Reason.TheVariants as reasons
use Rattle.cbor_profile.specs.declared.fault.Fault.{Fault}
use Rattle.bp_blocks.specs.declared.block.Block.{Block}
use Rattle.bp_bundle.specs.declared.token.Token.{Token}
use Rattle.bp_bundle.specs.Tokens.{Cursor, stops, major_of, conditions, first_failing, announced, up_to, after_conditions, after_head, argument_at}
use Rattle.correct_prefix.specs.Prefix.{IsWholeHead, IsToken}
use Rattle.bp_bundle.proofs.HeadsAsSpelled.{IsBytes, here, head_of, text_of, argument_means, argument_again}
use Rattle.bp_bundle.proofs.ReadPrimaryIsSpelled.{Laws}
use Rattle.bp_bundle.proofs.ReadingStays.{let_by}
use Rattle.correct_prefix.proofs.StopsBehindPrefix.{stopped, argument_here}
use Rattle.correct_prefix.proofs.FaultyToken.{pairs, Kept, Sealed, Seals, stops_same}

-- the laws of the crates below
pub record SealLaws : Type 0 where
  pub laws : Laws
  pub reads : (head : Head) (rest : List ℕ) → IsHead head → read_head (spelling head ++ rest) ≡ Whole head (length (spelling head))
  pub judged : (bytes more : List ℕ) → (read_head bytes ≡ Short → ⊥) → read_head (bytes ++ more) ≡ read_head bytes

-- ---- what the first byte says

abbrev unless_bad : Bool → Bool → HeadRead → HeadRead
unless_bad short less whole = cond short Short (cond less NotShortest whole)

never_bad : (short less : Bool) (head : Head) (len : ℕ) → unless_bad short less (Whole head len) ≡ Bad → ⊥
never_bad true less head len e = cc
never_bad false true head len e = cc
never_bad false false head len e = cc

bad_by : (b : Bool) (y : HeadRead) → cond b Bad y ≡ Bad → (y ≡ Bad → ⊥) → b ≡ true
bad_by true y e never = refl
bad_by false y e never = absurd (never e)

bad_stays : (first : ℕ) (rest others : List ℕ) → read_head (first ∷ rest) ≡ Bad → read_head (first ∷ others) ≡ Bad
unfolding read_head
bad_stays first rest others e =
    let bad : is_bad first ≡ true = bad_by (is_bad first) _ e (never_bad (ltb (length rest) (following (first % 32))) (ltb (argument (first % 32) rest) (least (first % 32))) _ _) in
    rw bad refl

-- a head that isn't the shortest, with all its bytes
record Long (first : ℕ) (rest : List ℕ) : Type 0 where
  good : is_bad first ≡ false
  whole : following (first % 32) ≤ length rest

is_long : (first : ℕ) (rest : List ℕ) → read_head (first ∷ rest) ≡ NotShortest → Long first rest
unfolding read_head
is_long first rest e =
    let a = let_by (is_bad first) Bad _ NotShortest e (λ h. cc) in
    let b = let_by (ltb (length rest) (following (first % 32))) Short _ NotShortest a.1 (λ h. cc) in
    record { good = a.0; whole = ltb-false _ _ b.0 }

not_short_by : (less : Bool) (head : Head) (len : ℕ) → cond less NotShortest (Whole head len) ≡ Short → ⊥
not_short_by true head len e = cc
not_short_by false head len e = cc

not_short : (first : ℕ) (t : List ℕ) → is_bad first ≡ false → length t ≡ following (first % 32) → read_head (first ∷ t) ≡ Short → ⊥
unfolding read_head
not_short first t good long e =
    let enough : ltb (length t) (following (first % 32)) ≡ false = le-ltb _ _ (omega (arith, long)) in
    not_short_by (ltb (argument (first % 32) t) (least (first % 32))) _ _ (rw (good, enough) at e)

following_is : (first : ℕ) (rest : List ℕ) (head : Head) (len : ℕ) → read_head (first ∷ rest) ≡ Whole head len → following (first % 32) + 1 ≡ len
unfolding read_head
following_is first rest head len e =
    let a = let_by (is_bad first) Bad _ (Whole head len) e (λ h. cc) in
    let b = let_by (ltb (length rest) (following (first % 32))) Short _ (Whole head len) a.1 (λ h. cc) in
    let c = let_by (ltb (argument (first % 32) rest) (least (first % 32))) NotShortest _ (Whole head len) b.1 (λ h. cc) in
    cc

pub whole_head : (laws : SealLaws) (head : Head) → IsHead head → IsWholeHead (spelling head)
unfolding read_head
whole_head laws head is = by (spelling head) refl (laws.reads head [] is)
  where
    by : (text : List ℕ) → spelling head ≡ text → read_head (spelling head ++ []) ≡ Whole head (length (spelling head)) → IsWholeHead (spelling head)
    by [] same e = absurd (let none : read_head [] ≡ Whole head 0 = subst (λ (t : List ℕ). read_head (t ++ []) ≡ Whole head (length t)) same e in cc)
    by (first ∷ t) same e =
        let read : read_head (first ∷ (t ++ [])) ≡ Whole head (suc (length t)) = subst (λ (l : List ℕ). read_head (l ++ []) ≡ Whole head (length l)) same e in
        (first, t, same, omega (arith, following_is first (t ++ []) head (suc (length t)) read))

-- ---- heads

-- the first bytes of a head that is refused decide
pub record HeadSealed (kinds bytes : List ℕ) (reason : Reason) : Type 0 where
  pub token : List ℕ
  pub more : List ℕ
  pub parts : bytes ≡ token ++ more
  pub is_token : IsToken [] token
  pub again : (others : List ℕ) → token_head kinds (token ++ others) ≡ Err reason

refused_read : (laws : SealLaws) (kinds : List ℕ) (first : ℕ) (rest : List ℕ) (reason : Reason) (read : HeadRead) → reason ≢ reasons.Truncated → list_any (λ kind. eqb kind (first / 32)) kinds ≡ true → read_head (first ∷ rest) ≡ read
    → after_read (first ∷ rest) read ≡ Err reason → HeadSealed kinds (first ∷ rest) reason
unfolding token_head
refused_read laws kinds first rest reason (Whole head len) other among is e = absurd cc
refused_read laws kinds first rest reason Short other among is e = absurd (let same : reasons.Truncated ≡ reason = cc in other (sym same))
refused_read laws kinds first rest reason Bad other among is e = record {
  token = first ∷ [];
  more = rest;
  parts = refl;
  is_token = inl refl;
  again = λ others. rw among (ap (after_read (first ∷ others)) (bad_stays first rest others is) ∙ e);
}
refused_read laws kinds first rest reason NotShortest other among is e =
    let long = is_long first rest is in
    let k = following (first % 32) in
    let t = take k rest in
    let whole = long.whole in
    let size : length t ≡ k = omega (arith, length-take k rest) in
    let parts : first ∷ rest ≡ (first ∷ t) ++ drop k rest = ap (λ (l : List ℕ). first ∷ l) (sym (take-append-drop k rest)) in
    let judged = laws.judged (first ∷ t) (drop k rest) (not_short first t long.good size) in
    let alone : read_head (first ∷ t) ≡ NotShortest = sym judged ∙ (ap read_head (sym parts) ∙ is) in
    record {
      token = first ∷ t;
      more = drop k rest;
      parts = parts;
      is_token = inr (inl (first, t, refl, size));
      again = λ others. rw among (ap (after_read (first ∷ (t ++ others))) (laws.judged (first ∷ t) others (not_short first t long.good size) ∙ alone) ∙ e);
    }

pub refused_head : (laws : SealLaws) (kinds bytes : List ℕ) (reason : Reason) → reason ≢ reasons.Truncated → token_head kinds bytes ≡ Err reason → HeadSealed kinds bytes reason
unfolding token_head
refused_head laws kinds [] reason other e = absurd (let same : reasons.Truncated ≡ reason = cc in other (sym same))
refused_head laws kinds (first ∷ rest) reason other e = by (list_any (λ kind. eqb kind (first / 32)) kinds) refl e
  where
    by : (b : Bool) → list_any (λ kind. eqb kind (first / 32)) kinds ≡ b → cond b (after_read (first ∷ rest) (read_head (first ∷ rest))) (Err reasons.WrongKind) ≡ Err reason → HeadSealed kinds (first ∷ rest) reason
    by true is e = refused_read laws kinds first rest reason (read_head (first ∷ rest)) other is refl e
    by false is e = record { token = first ∷ []; more = rest; parts = refl; is_token = inl refl; again = λ others. rw is e }

-- ---- heads of the table

pub argument_once : (laws : SealLaws) (before : List Block) (token : Token) (c : Cursor) (x : ℕ × Cursor) → IsBytes c.rest → argument_at before token c ≡ Ok x → (more : List ℕ)
    → argument_at before token (here c.at (text_of token x.0 ++ more)) ≡ Ok (x.0, here x.1.at more)
argument_once laws before token c x fits e more =
    let h = argument_means laws.laws.heads before token c x fits e in
    let moved = h.took.moved in
    let room : c.at + length (text_of token x.0) + announced (head_of token x.0) < BUNDLE_LIMIT = rw (← moved) h.room in
    argument_again laws.laws.heads before token c.at x.0 more h.fits h.none_fails room ∙ ap (λ (n : ℕ). Ok (x.0, here n more)) (sym moved)

argument_kept : (laws : SealLaws) (before : List Block) (token : Token) (c : Cursor) (x : ℕ × Cursor) → IsBytes c.rest → argument_at before token c ≡ Ok x → Kept (pairs ℕ) (argument_at before token) c x
argument_kept laws before token c x fits e = record { text = text_of token x.0; took = (argument_means laws.laws.heads before token c x fits e).took; again = argument_once laws before token c x fits e }

-- the same refusal, whatever follows
refused_so : (at : ℕ) (rest rest' : List ℕ) (failing : Option Reason) (head : Head) (after after' : Cursor) (fault : Fault) → after.at ≡ after'.at → fault.reason ≢ reasons.Truncated
    → after_conditions (here at rest) failing head after ≡ Err fault → after_conditions (here at rest') failing head after' ≡ Err fault
refused_so at rest rest' (Some reason) head after after' fault same other e =
    let s = stopped {A = ℕ × Cursor} (here at rest) reason fault e in
    stops_same {A = ℕ × Cursor} at rest' rest reason (λ early. other (s.1 ∙ early)) ∙ e
refused_so at rest rest' None head after after' fault same other e =
    by (ltb (BUNDLE_LIMIT - 1) (after.at + announced head)) (ltb (BUNDLE_LIMIT - 1) (after'.at + announced head)) (ap (λ (n : ℕ). ltb (BUNDLE_LIMIT - 1) (n + announced head)) same) e
  where
    by : (b b' : Bool) → b ≡ b' → cond b (stops {A = ℕ × Cursor} (here at rest) reasons.TooLong) (Ok (head.value, after)) ≡ Err fault → cond b' (stops {A = ℕ × Cursor} (here at rest') reasons.TooLong) (Ok (head.value, after')) ≡ Err fault
    by true true is e = e
    by true false is e = absurd cc
    by false b' is e = absurd cc

argument_sealed : (laws : SealLaws) (before : List Block) (token : Token) (c : Cursor) (fault : Fault) → IsBytes c.rest → argument_at before token c ≡ Err fault → fault.reason ≢ reasons.Truncated → Sealed (argument_at before token) c fault
unfolding argument_at
argument_sealed laws before token c fault fits e other = by (token_head (major_of token ∷ []) c.rest) refl e
  where
    by : (r : Result (Head × List ℕ) Reason) → token_head (major_of token ∷ []) c.rest ≡ r → after_head before token c r ≡ Err fault → Sealed (argument_at before token) c fault
    by (Err reason) is e =
        let s = stopped {A = ℕ × Cursor} c reason fault e in
        let refused : reason ≢ reasons.Truncated = λ early. other (s.1 ∙ early) in
        let h = refused_head laws (major_of token ∷ []) c.rest reason refused is in
        record {
          front = [];
          token = h.token;
          more = h.more;
          parts = h.parts;
          place = (argument_here before token c fault (ap (after_head before token c) is ∙ e)).place other ∙ omega arith;
          is_token = h.is_token;
          again = λ others. ap (after_head before token (here c.at (h.token ++ others))) (h.again others) ∙ (stops_same {A = ℕ × Cursor} c.at (h.token ++ others) c.rest reason refused ∙ e);
        }
    by (Ok x) is e =
        let m = laws.laws.heads.means (major_of token ∷ []) c.rest x.0 x.1 fits is in
        let text = spelling x.0 in
        let all = ap length m.0 ∙ length-append text x.1 in
        record {
          front = [];
          token = text;
          more = x.1;
          parts = m.0;
          place = (argument_here before token c fault (ap (after_head before token c) is ∙ e)).place other ∙ omega arith;
          is_token = inr (inl (whole_head laws x.0 m.1));
          again = λ others.
              ap (after_head before token (here c.at (text ++ others))) (laws.laws.heads.again (major_of token ∷ []) x.0 others m.1 m.2)
              ∙ refused_so c.at c.rest (text ++ others) (first_failing (conditions before token) x.0.value) x.0 (up_to c x.1) (up_to (here c.at (text ++ others)) others) fault (omega (arith, all, length-append text others)) other e;
        }

pub argument_seals : (laws : SealLaws) (before : List Block) (token : Token) → Seals (pairs ℕ) (argument_at before token)
argument_seals laws before token = record { kept = argument_kept laws before token; sealed = argument_sealed laws before token }
