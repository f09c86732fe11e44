-- What `Covered` shows.
use Rattle.bpsec_scope.specs.declared.covered.Covered.{Covered}
use Rattle.bpsec_scope.specs.Target.{target_of}
use Rattle.bpsec_scope.specs.Parts.{Parts}

abbrev pub parts_of : Covered → Parts
parts_of covered = record {
  target = target_of covered.target;
  primary = covered.primary.now;
  target_header = covered.target_header;
  security_header = covered.security_header;
}
