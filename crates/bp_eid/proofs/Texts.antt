-- Each id has one text.
use Rattle.std.proofs.Common.{◌≡◌, ◌≢◌, ℕ, suc, ◌^◌, ◌<◌, true, false, eqb, List, [], ◌∷◌, ◌++◌, length, get_or, Option, Some, None, Result, Ok, Err, refl, sym, ◌∙◌, ap, subst, arith}
use Rattle.std.specs.Prelude.{codes, IfOk}
use Rattle.std.specs.Fmt.{decimal}
use Rattle.std.proofs.lemmas.Bool.{false≢true}
use Rattle.std.proofs.lemmas.Fmt.{decimal_injective}
use Rattle.bp_eid.specs.declared.eid.Eid.{Eid}
use Rattle.bp_eid.specs.declared.eid.Eid.TheVariants.{Null, Dtn, Ipn}
use Rattle.bp_eid.specs.DtnText.{is_dtn_text, IsDtnText}
use Rattle.bp_eid.specs.EndpointId.{text_form, Fits}
use Rattle.bp_eid.specs.TextAnswer.{AreNumbersOf, IsIdOf}
use Rattle.bp_eid.proofs.Decimals.{no_dot}

none_is_no_text : IsDtnText (codes "none") → ⊥
unfolding is_dtn_text
none_is_no_text e = cc

schemes_differ : (x y : List ℕ) → codes "dtn:" ++ x ≡ codes "ipn:" ++ y → ⊥
schemes_differ x y e = false≢true (ap (λ (text : List ℕ). eqb (get_or text 0 0) 105) e)

-- ---- a text that is that of no id

pub no_dtn_text : (text part : List ℕ) → text ≡ codes "dtn:" ++ part → (text ≡ codes "dtn:none" → ⊥) → is_dtn_text part ≡ false → IsIdOf text None
unfolding text_form
no_dtn_text text part is other rule = λ eid fits e. go eid fits e
  where
    go : (eid : Eid) → Fits eid → text ≡ text_form eid → ⊥
    go Null fits e = other e
    go (Dtn t) fits e =
        let same : part ≡ t = cc in
        let wrong : false ≡ true = sym rule ∙ (ap is_dtn_text same ∙ fits) in
        cc
    go (Ipn node service) fits e = schemes_differ part _ (sym is ∙ e)

pub no_scheme : (text : List ℕ) → (text ≡ codes "dtn:none" → ⊥) → ((rest : List ℕ) → text ≢ codes "dtn:" ++ rest) → ((rest : List ℕ) → text ≢ codes "ipn:" ++ rest) → IsIdOf text None
unfolding text_form
no_scheme text other dtn ipn = λ eid fits e. go eid fits e
  where
    go : (eid : Eid) → Fits eid → text ≡ text_form eid → ⊥
    go Null fits e = other e
    go (Dtn t) fits e = dtn t e
    go (Ipn node service) fits e = ipn (decimal node ++ (46 ∷ decimal service)) e

pub no_ipn_text : (text part : List ℕ) → text ≡ codes "ipn:" ++ part → AreNumbersOf part None → IsIdOf text None
unfolding text_form
no_ipn_text text part is none = λ eid fits e. go eid fits e
  where
    go : (eid : Eid) → Fits eid → text ≡ text_form eid → ⊥
    go Null fits e = schemes_differ (codes "none") part (sym e ∙ is)
    go (Dtn t) fits e = schemes_differ t part (sym e ∙ is)
    go (Ipn node service) fits e =
        let same : part ≡ decimal node ++ (46 ∷ decimal service) = cc in
        none node service fits.0 fits.1 same

-- ---- one text

-- what stands before and after the first dot
one_dot : (a b x y : List ℕ) → ((i : ℕ) → i < length a → get_or a i 0 ≢ 46) → ((i : ℕ) → i < length b → get_or b i 0 ≢ 46) → a ++ (46 ∷ x) ≡ b ++ (46 ∷ y) → (a ≡ b) × (x ≡ y)
one_dot [] [] x y p q e = (refl, cc)
one_dot [] (d ∷ b) x y p q e = let first : d ≡ 46 = cc in absurd (q 0 (omega arith) first)
one_dot (c ∷ a) [] x y p q e = let first : c ≡ 46 = cc in absurd (p 0 (omega arith) first)
one_dot (c ∷ a) (d ∷ b) x y p q e =
    let first : c ≡ d = cc in
    let others : a ++ (46 ∷ x) ≡ b ++ (46 ∷ y) = cc in
    let parts = one_dot a b x y (λ i lt. p (suc i) (omega arith)) (λ i lt. q (suc i) (omega arith)) others in
    let same = parts.0 in
    (cc, parts.1)

one_pair : (m s n t : ℕ) → m < 2 ^ 64 → s < 2 ^ 64 → n < 2 ^ 64 → t < 2 ^ 64 → decimal m ++ (46 ∷ decimal s) ≡ decimal n ++ (46 ∷ decimal t) → (m ≡ n) × (s ≡ t)
one_pair m s n t hm hs hn ht e =
    let parts = one_dot (decimal m) (decimal n) (decimal s) (decimal t) (no_dot m hm) (no_dot n hn) e in
    (decimal_injective m n hm hn parts.0, decimal_injective s t hs ht parts.1)

pub one_text : (a b : Eid) → Fits a → Fits b → text_form a ≡ text_form b → a ≡ b
unfolding text_form
one_text Null Null ha hb e = refl
one_text Null (Dtn t) ha hb e = let same : t ≡ codes "none" = cc in absurd (none_is_no_text (subst IsDtnText same hb))
one_text Null (Ipn n t) ha hb e = absurd (schemes_differ (codes "none") _ e)
one_text (Dtn t) Null ha hb e = let same : t ≡ codes "none" = cc in absurd (none_is_no_text (subst IsDtnText same ha))
one_text (Dtn s) (Dtn t) ha hb e = let same : s ≡ t = cc in cc
one_text (Dtn s) (Ipn n t) ha hb e = absurd (schemes_differ s _ e)
one_text (Ipn m s) Null ha hb e = absurd (schemes_differ (codes "none") _ (sym e))
one_text (Ipn m s) (Dtn t) ha hb e = absurd (schemes_differ t _ (sym e))
one_text (Ipn m s) (Ipn n t) ha hb e =
    let numbers : decimal m ++ (46 ∷ decimal s) ≡ decimal n ++ (46 ∷ decimal t) = cc in
    let same = one_pair m s n t ha.0 ha.1 hb.0 hb.1 numbers in
    let node = same.0 in
    let service = same.1 in
    cc

pub is_the_id : {E : Type 0} (text : List ℕ) (r : Result (Option Eid) E) (eid : Eid) → IfOk r (IsIdOf text) → Fits eid → text ≡ text_form eid → IfOk r (λ found. found ≡ Some eid)
is_the_id text (Ok None) eid h fits e = absurd (h eid fits e)
is_the_id text (Ok (Some other)) eid h fits e = ap Some (one_text other eid h.0 fits (sym h.1 ∙ e))
is_the_id text (Err failed) eid h fits e = tt
