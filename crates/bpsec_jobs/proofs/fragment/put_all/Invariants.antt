use Rattle.std.proofs.Common.{◌≡◌, ◌++◌, take}
use Rattle.std.specs.List.{flat_map}
use Rattle.bp_bundle.specs.Spelling.{spelling}
use Rattle.bpsec_jobs.proofs.fragment.put_all.Given as goal

abbrev pub invariant-loop-bundle : goal.invariant-loop-bundle
invariant-loop-bundle l = l.out ≡ l.fn.out ++ flat_map spelling (take l.bundle-index l.bundles)
