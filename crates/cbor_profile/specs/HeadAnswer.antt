use Rattle.std.specs.Prelude.{ℕ}
use Rattle.cbor_profile.specs.declared.head.Head.{Head}
use Rattle.cbor_profile.specs.declared.head.HeadRead.{HeadRead}
use Rattle.cbor_profile.specs.declared.head.HeadRead.TheVariants.{Whole, Short, NotShortest, Bad}

-- a fact about a head that was read, and its length
abbrev pub IfWhole : HeadRead → (Head → ℕ → Type 0) → Type 0
IfWhole (Whole head len) P = P head len
IfWhole Short P = Unit {0}
IfWhole NotShortest P = Unit {0}
IfWhole Bad P = Unit {0}
