-- The bundle of a report has no fault of shape.
use Rattle.std.proofs.Common.{◌≡◌, ℕ, ◌+◌, ◌^◌, ◌≤◌, [], ◌∷◌, length, None, refl, arith, length-append}
use Rattle.std.proofs.lemmas.Bool.{le-ltb}
use Rattle.cbor_profile.specs.Put.{uint, array_head}
use Rattle.cbor_profile.proofs.Sizes.{string_at_most}
use Rattle.bp_primary.specs.declared.primary.Primary.{Primary}
use Rattle.bp_primary.specs.Spelling as primaries
use Rattle.bp_blocks.specs.Spelling as blocks
use Rattle.bp_blocks.specs.Spelling.{array_with}
use Rattle.bp_bundle.specs.Shape.{Contents}
use Rattle.bp_bundle.specs.Spelling.{spelling}
use Rattle.bp_bundle.specs.Faults.{shape_fault, shape_fault_of}
use Rattle.bp_status.specs.declared.report.Report.{Report}
use Rattle.bp_status.specs.StatusReport as reports
use Rattle.bp_report.specs.Due.{report_block}

abbrev pub made_of : Primary → Report → Contents
made_of primary report = record { primary = primary; blocks = report_block report ∷ [] }

length-block : (report : Report) → length (reports.spelling report) ≤ 1123
    → length (blocks.spelling (report_block report)) ≤ 1137
unfolding blocks.spelling array_with uint array_head
length-block report short =
    simp length-append (omega (arith, string_at_most (reports.spelling report)))

length-made : (primary : Primary) (report : Report)
    → length (spelling (made_of primary report))
    ≡ 2 + length (primaries.spelling primary) + length (blocks.spelling (report_block report))
unfolding spelling
length-made primary report = simp length-append (omega arith)

pub no_fault : (primary : Primary) (report : Report) → length (primaries.spelling primary) ≤ 3200
    → length (reports.spelling report) ≤ 1123 → shape_fault (made_of primary report) ≡ None
unfolding shape_fault shape_fault_of
no_fault primary report few short =
    let block = length-block report short in
    let within : length (spelling (made_of primary report)) ≤ 2 ^ 24 =
    omega (arith, length-made primary report) in
    rw (le-ltb _ _ within) refl
