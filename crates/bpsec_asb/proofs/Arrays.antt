-- Arrays are read as they are spelled.
use Rattle.std.proofs.Common.{◌≡◌, ℕ, zero, suc, ◌^◌, ◌<◌, ◌≤◌, inl, Bool, true, false, cond, leb, ◌&&◌, List, [], ◌∷◌, ◌++◌, length, Result, Ok, refl, sym, ◌∙◌, ap, subst, append_assoc, arith}
use Rattle.std.specs.List.{flat_map}
use Rattle.std.proofs.lemmas.Bool.{leb-true, le-leb}
use Rattle.std.proofs.lemmas.List.{append-nil}
use Rattle.cbor_profile.specs.declared.fault.Reason.TheVariants as reasons
use Rattle.cbor_profile.specs.Head.{spelling}
use Rattle.cbor_profile.specs.Put.{array_head}
use Rattle.cbor_profile.proofs.Tokens.{token_again, token_means}
use Rattle.bp_eid.specs.declared.stop.Stop.{Stop}
use Rattle.bp_eid.specs.Reading.{stops, head_at}
use Rattle.bp_eid.proofs.Steps.{IsBytes, bind_ok, let_through, ok_is, Takes, Takes-then}
use Rattle.bp_eid.proofs.Tokens.{TokenLaws, head_again, head_means, spelled, one_kind, took}
use Rattle.bpsec_asb.specs.SecurityBlock.{array}
use Rattle.bpsec_asb.specs.Reading.{count_at, each_at, array_at}

pub laws : TokenLaws
laws = record { again = token_again; means = token_means }

-- ---- counts

count_again : (least most n : ℕ) (rest : List ℕ) → least ≤ n → n ≤ most → n < 2 ^ 64 → count_at least most (array_head n ++ rest) ≡ Ok (n, rest)
unfolding count_at array_head spelling
count_again least most n rest low high fits =
    let h = head_again laws (4 ∷ []) (record { major = 4; value = n }) rest (fits, inl (omega arith)) refl in
    rw (h, le-leb _ _ low, le-leb _ _ high) refl

between : (a b : Bool) → (a && b) ≡ true → (a ≡ true) × (b ≡ true)
between true b e = (refl, e)
between false b e = absurd cc

pub count_means : (least most : ℕ) (bytes : List ℕ) (x : ℕ × List ℕ) → IsBytes bytes → count_at least most bytes ≡ Ok x → Takes bytes (array_head x.0) x.1 × (least ≤ x.0) × (x.0 ≤ most)
unfolding count_at array_head
count_means least most bytes x fits e =
    let b = bind_ok (head_at (4 ∷ []) bytes) (λ head. cond (leb least head.0.value && leb head.0.value most) (Ok (head.0.value, head.1)) (stops bytes reasons.WrongCount)) x e in
    let g = let_through (leb least b.0.0.value && leb b.0.0.value most) bytes reasons.WrongCount (Ok (b.0.0.value, b.0.1)) x b.2 in
    let within = between (leb least b.0.0.value) (leb b.0.0.value most) g.0 in
    let h = head_means laws (4 ∷ []) bytes b.0 fits b.1 in
    let text = spelled b.0.0 4 b.0.0.value (one_kind 4 b.0.0.major h.among) refl in
    subst (λ (y : ℕ × List ℕ). Takes bytes (array_head y.0) y.1 × (least ≤ y.0) × (y.0 ≤ most)) (ok_is (b.0.0.value, b.0.1) x g.1)
    (took (4 ∷ []) bytes b.0.0 b.0.1 (array_head b.0.0.value) text h, leb-true _ _ within.0, leb-true _ _ within.1)

-- ---- items

-- each fits after those before it
abbrev pub AllAfter : {A : Type 0} → (List A → A → Type 0) → List A → List A → Type 0
AllAfter Fits before [] = Unit {0}
AllAfter Fits before (x ∷ xs) = Fits before x × AllAfter Fits (before ++ x ∷ []) xs

-- an item that fits is read as it is spelled, and what is read fits and is spelled so
pub record ReadsItems {A : Type 0} (item : A → List ℕ) (Fits : List A → A → Type 0) (item_at : List A → List ℕ → Result (A × List ℕ) Stop) : Type 0 where
  pub again : (before : List A) (x : A) (rest : List ℕ) → Fits before x → item_at before (item x ++ rest) ≡ Ok (x, rest)
  pub means : (before : List A) (bytes : List ℕ) (x : A × List ℕ) → IsBytes bytes → item_at before bytes ≡ Ok x → Takes bytes (item x.0) x.1 × Fits before x.0

joined : {A : Type 0} (before : List A) (x : A) (xs : List A) → (before ++ x ∷ []) ++ xs ≡ before ++ x ∷ xs
joined before x xs = append_assoc before (x ∷ []) xs

each_again : {A : Type 0} (item : A → List ℕ) (Fits : List A → A → Type 0) (item_at : List A → List ℕ → Result (A × List ℕ) Stop) → ReadsItems item Fits item_at
    → (before xs : List A) (rest : List ℕ) → AllAfter Fits before xs → each_at item_at (length xs) before (flat_map item xs ++ rest) ≡ Ok (before ++ xs, rest)
unfolding each_at
each_again item Fits item_at reads before [] rest fits = ap (λ (l : List _). Ok (l, rest)) (sym (append-nil before))
each_again item Fits item_at reads before (x ∷ xs) rest fits =
    let tail = flat_map item xs ++ rest in
    ap (each_at item_at (suc (length xs)) before) (append_assoc (item x) (flat_map item xs) rest)
    ∙ rw (reads.again before x tail fits.0) (each_again item Fits item_at reads (before ++ x ∷ []) xs rest fits.1)
    ∙ ap (λ l. Ok (l, rest)) (joined before x xs)

-- items that were read after those before them
pub record ReadsEach {A : Type 0} (item : A → List ℕ) (Fits : List A → A → Type 0) (count : ℕ) (before : List A) (bytes : List ℕ) (y : List A × List ℕ) : Type 0 where
  pub items : List A
  pub all : y.0 ≡ before ++ items
  pub number : length items ≡ count
  pub takes : Takes bytes (flat_map item items) y.1
  pub fits : AllAfter Fits before items

each_means : {A : Type 0} (item : A → List ℕ) (Fits : List A → A → Type 0) (item_at : List A → List ℕ → Result (A × List ℕ) Stop) → ReadsItems item Fits item_at
    → (count : ℕ) (before : List A) (bytes : List ℕ) (y : List A × List ℕ) → IsBytes bytes → each_at item_at count before bytes ≡ Ok y → ReadsEach item Fits count before bytes y
unfolding each_at
each_means item Fits item_at reads zero before bytes y small e =
    let same : (before, bytes) ≡ y = ok_is (before, bytes) y e in
    subst (ReadsEach item Fits zero before bytes) same
    (record { items = []; all = sym (append-nil before); number = refl; takes = record { parts = refl; rest_fits = small }; fits = tt })
each_means item Fits item_at reads (suc count) before bytes y small e =
    let b = bind_ok (item_at before bytes) (λ x. each_at item_at count (before ++ x.0 ∷ []) x.1) y e in
    let first = reads.means before bytes b.0 small b.1 in
    let others = each_means item Fits item_at reads count (before ++ b.0.0 ∷ []) b.0.1 y first.0.rest_fits b.2 in
    record {
      items = b.0.0 ∷ others.items;
      all = others.all ∙ joined before b.0.0 others.items;
      number = ap suc others.number;
      takes = Takes-then bytes (item b.0.0) b.0.1 (flat_map item others.items) y.1 first.0 others.takes;
      fits = (first.1, others.fits);
    }

-- ---- arrays

pub array_again : {A : Type 0} (item : A → List ℕ) (Fits : List A → A → Type 0) (item_at : List A → List ℕ → Result (A × List ℕ) Stop) → ReadsItems item Fits item_at
    → (least most : ℕ) (xs : List A) (rest : List ℕ) → least ≤ length xs → length xs ≤ most → length xs < 2 ^ 64 → AllAfter Fits [] xs → array_at item_at least most (array item xs ++ rest) ≡ Ok (xs, rest)
array_again item Fits item_at reads least most xs rest low high number fits =
    let tail = flat_map item xs ++ rest in
    ap (array_at item_at least most) (append_assoc (array_head (length xs)) (flat_map item xs) rest)
    ∙ rw (count_again least most (length xs) tail low high number) (each_again item Fits item_at reads [] xs rest fits)

-- an array that was read
pub record ReadsArray {A : Type 0} (item : A → List ℕ) (Fits : List A → A → Type 0) (least most : ℕ) (bytes : List ℕ) (y : List A × List ℕ) : Type 0 where
  pub takes : Takes bytes (array item y.0) y.1
  pub low : least ≤ length y.0
  pub high : length y.0 ≤ most
  pub fits : AllAfter Fits [] y.0

pub array_means : {A : Type 0} (item : A → List ℕ) (Fits : List A → A → Type 0) (item_at : List A → List ℕ → Result (A × List ℕ) Stop) → ReadsItems item Fits item_at
    → (least most : ℕ) (bytes : List ℕ) (y : List A × List ℕ) → IsBytes bytes → array_at item_at least most bytes ≡ Ok y → ReadsArray item Fits least most bytes y
array_means {A} item Fits item_at reads least most bytes y small e =
    let b = bind_ok (count_at least most bytes) (λ count. each_at item_at count.0 [] count.1) y e in
    let c = count_means least most bytes b.0 small b.1 in
    let m = each_means item Fits item_at reads b.0.0 [] b.0.1 y c.0.rest_fits b.2 in
    let same : y.0 ≡ m.items = m.all in
    let number : length y.0 ≡ b.0.0 = ap length same ∙ m.number in
    let head : Takes bytes (array_head (length y.0)) b.0.1 = rw number c.0 in
    let rest : Takes b.0.1 (flat_map item y.0) y.1 = subst (λ (l : List A). Takes b.0.1 (flat_map item l) y.1) (sym same) m.takes in
    record {
      takes = Takes-then bytes (array_head (length y.0)) b.0.1 (flat_map item y.0) y.1 head rest;
      low = rw number c.1;
      high = rw number c.2;
      fits = subst (λ (l : List A). AllAfter Fits [] l) (sym same) m.fits;
    }
