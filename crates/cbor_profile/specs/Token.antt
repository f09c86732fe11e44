-- The head of a token, and the first reason against it.
use Rattle.std.specs.Prelude.{◌≡◌, ℕ, ◌/◌, ◌==◌, if◌then◌else◌, List, [], ◌∷◌, drop, Result, Ok, Err}
use Rattle.std.specs.List.{list_any}
use Rattle.std.specs.Borrow.{Bor}
use Rattle.cbor_profile.specs.declared.head.Head.{Head}
use Rattle.cbor_profile.specs.declared.head.HeadRead.{HeadRead}
use Rattle.cbor_profile.specs.declared.head.HeadRead.TheVariants as heads
use Rattle.cbor_profile.specs.declared.fault.Reason.{Reason}
use Rattle.cbor_profile.specs.declared.fault.Reason.TheVariants.{Truncated, NotShortest, WrongKind}
use Rattle.cbor_profile.specs.Head.{read_head}

abbrev pub after_read : List ℕ → HeadRead → Result (Head × List ℕ) Reason
after_read bytes (heads.Whole head len) = Ok (head, drop len bytes)
after_read bytes heads.Short = Err Truncated
after_read bytes heads.NotShortest = Err NotShortest
after_read bytes heads.Bad = Err WrongKind

-- The head at the front, and the bytes after it, else the first of: no byte is left; the major type isn't permitted
-- here, or the head is bad; the head isn't whole; the head isn't the shortest.
unfoldable pub token_head : List ℕ → List ℕ → Result (Head × List ℕ) Reason
token_head kinds [] = Err Truncated
token_head kinds (first ∷ rest) = if list_any (λ kind. kind == first / 32) kinds then after_read (first ∷ rest) (read_head (first ∷ rest)) else Err WrongKind

-- what a function returned is what reading gives
abbrev pub IsToken : Result (Head × Bor (List ℕ)) Reason → Result (Head × List ℕ) Reason → Type 0
IsToken (Ok x) read = read ≡ Ok (x.0, x.1.now)
IsToken (Err reason) read = read ≡ Err reason
