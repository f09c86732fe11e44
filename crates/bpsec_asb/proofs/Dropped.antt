-- A security block stays one without one of several targets.
use Rattle.std.proofs.Common.{◌≢◌, ◌^◌, ℕ, suc, ◌<◌, ◌≤◌, List, length, take, drop, arith}
use Rattle.std.specs.Prelude.{All, remove}
use Rattle.std.proofs.lemmas.List.Elements.{All-append, All-take, All-drop}
use Rattle.std.proofs.lemmas.List.Edits.{length-remove}
use Rattle.std.proofs.lemmas.List.Quantifiers.{all_pairs_remove}
use Rattle.bpsec_asb.specs.declared.asb.Asb.{Asb}
use Rattle.bpsec_asb.specs.SecurityBlock.{IsSecurityBlock, ArePairs}

All-remove : {X : Type 0} (P : X → Type 0) (xs : List X) (i : ℕ) → All P xs → All P (remove xs i)
All-remove P xs i h = All-append P (take i xs) (drop (suc i) xs) (All-take P i xs h) (All-drop P (suc i) xs h)

pub IsSecurityBlock-remove : (asb : Asb) (i : ℕ) → 2 ≤ length asb.targets → i < length asb.targets → IsSecurityBlock asb → IsSecurityBlock (record asb { targets = remove asb.targets i; results = remove asb.results i })
IsSecurityBlock-remove asb i several within fits =
    let targets = length-remove asb.targets i within in
    let results = length-remove asb.results i (omega (arith, fits.result_of_each)) in
    record {
      some_target = omega arith;
      most_targets = omega (arith, fits.most_targets);
      targets = All-remove (λ target. target < 2 ^ 64) asb.targets i fits.targets;
      distinct = all_pairs_remove ◌≢◌ asb.targets i within fits.distinct;
      context = fits.context;
      flags = fits.flags;
      source = fits.source;
      parameters_flag = fits.parameters_flag;
      parameters = fits.parameters;
      result_of_each = omega (arith, fits.result_of_each);
      results = All-remove ArePairs asb.results i fits.results;
    }
