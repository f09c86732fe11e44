-- A check whose kind is known only when the program runs.
use Rattle.std.specs.Prelude.{◌≡◌, ℕ, List, []}
use Rattle.std.specs.Coded.{Coded-set, Unit-prop, coded_ℕ}
use Rattle.bp_crc.specs.declared.kind.CheckKind.{CheckKind}
use Rattle.bp_crc.specs.declared.kind.CheckKind.TheVariants as kinds
use Rattle.bp_crc.specs.declared.checking.Checking.{Checking}
use Rattle.bp_crc.specs.declared.checking.Checking.TheVariants as running
use Rattle.bp_crc.specs.declared.checking.CheckBytes.{CheckBytes}
use Rattle.bp_crc.specs.declared.checking.CheckBytes.TheVariants.{NoBytes, Two, Four}
use Rattle.bp_crc.specs.Table.{register_of}

abbrev pub kind_of : Checking → CheckKind
kind_of running.None = kinds.None
kind_of (running.Crc16 crc) = kinds.Crc16
kind_of (running.Crc32c crc) = kinds.Crc32c

-- it has been fed these bytes
abbrev pub StandsFor : Checking → List ℕ → Type 0
StandsFor running.None fed = Unit {0}
StandsFor (running.Crc16 crc) fed = crc ≡ register_of 16 fed
StandsFor (running.Crc32c crc) fed = crc ≡ register_of 32 fed

-- in one way at most
pub StandsFor-prop : (checking : Checking) (fed : List ℕ) → IsProp (StandsFor checking fed)
StandsFor-prop running.None fed = Unit-prop
StandsFor-prop (running.Crc16 crc) fed = Coded-set coded_ℕ crc (register_of 16 fed)
StandsFor-prop (running.Crc32c crc) fed = Coded-set coded_ℕ crc (register_of 32 fed)

abbrev pub bytes_of : CheckBytes → List ℕ
bytes_of NoBytes = []
bytes_of (Two bytes) = bytes
bytes_of (Four bytes) = bytes
