use Rattle.std.specs.Prelude.{◌≡◌, Option, Some}
use Rattle.bp_bundle.specs.declared.edits.InsertFault.{InsertFault}
use Rattle.bp_bundle.specs.declared.edits.InsertFault.TheVariants.{Shape, NoMemory}
use Rattle.bp_bundle.specs.declared.shape.ShapeFault.{ShapeFault}

-- it is the fault of shape, or memory ran out
abbrev pub IsFaultOf : InsertFault → Option ShapeFault → Type 0
IsFaultOf (Shape fault) found = found ≡ Some fault
IsFaultOf NoMemory found = Unit {0}
