use Rattle.std.proofs.Common.{◌≡◌, ℕ, List, [], ◌∷◌, ◌++◌, length, Ok, refl, ap, sym, subst, ◌∙◌, append-nil}
use Rattle.bp_bundle.specs.Shape.{Contents}
use Rattle.bp_bundle.specs.Spelling.{Spells, spelling}
use Rattle.bp_bundle.specs.Tokens.{Cursor}
use Rattle.bp_bundle.specs.FirstFault.{read_bundle, read_only, end_of_input}
use Rattle.bp_bundle.proofs.HeadsAsSpelled.{bind_ok, ok_is}
use Rattle.bp_bundle.proofs.laws.inputs_are_read_as_spelled.Goals as goal

ended : (bundle found : Contents) (after : Cursor) (rest : List ℕ) → after.rest ≡ rest → end_of_input found after rest ≡ Ok bundle → (found ≡ bundle) × (rest ≡ [])
ended bundle found after [] e is = (ok_is found bundle is, refl)
ended bundle found after (first ∷ rest) e is = absurd cc

pub returns : goal.returns
unfolding read_only
returns c = λ bytes bundle fits. (
  λ e.
      let b = bind_ok (read_bundle bytes) _ bundle e in
      let m = c.bundles_are_read_as_spelled.ensures.means bytes b.0.0 b.0.1 fits b.1 in
      let end = ended bundle b.0.0 b.0.1 b.0.1.rest refl b.2 in
      let whole : bytes ≡ spelling b.0.0 = m.1 ∙ (ap (λ (t : List ℕ). spelling b.0.0 ++ t) end.1 ∙ append-nil (spelling b.0.0)) in
      let P : Contents → Type 0 = λ found. Spells found bytes in subst P end.0 (m.0, whole),
  λ spells.
      let again = c.bundles_are_read_as_spelled.ensures.again bundle [] spells.0 in
      let read : read_bundle bytes ≡ Ok (bundle, record { at = length (spelling bundle); rest = [] }) = ap read_bundle (spells.1 ∙ sym (append-nil (spelling bundle))) ∙ again in
      rw read refl,
)
