-- A file that is longer than a text may be.
use Rattle.std.proofs.Common.{◌≡◌, ℕ, ◌+◌, ◌<◌, List, length, Option, Some, None, refl, sym, arith}
use Rattle.std.specs.Prelude.{IsSomeAnd, take}
use Rattle.bp_outside.specs.Outside.{IsTooLong}
use Rattle.bpsec_answer.specs.Due.{IsFile}

-- It is refused as the text of all its bytes would be.
pub long_file : {R : Type 0} (files : Option (List ℕ → Option (List ℕ))) (name bytes : List ℕ) (limit : ℕ) (read : List ℕ → R) (refused : R)
    → ((content : List ℕ) → limit < length content → read content ≡ refused) → IsTooLong files name limit bytes → length bytes ≡ limit + 1
    → (content : List ℕ) × IsFile files name content × (refused ≡ read content)
long_file None name bytes limit read refused law long more = let above : limit < length bytes = omega arith in (bytes, tt, sym (law bytes above))
long_file (Some held) name bytes limit read refused law long more = at (held name) refl long
  where
    at : (o : Option (List ℕ)) → held name ≡ o → IsSomeAnd o (λ content. (limit < length content) × (bytes ≡ take (limit + 1) content))
        → (content : List ℕ) × (held name ≡ Some content) × (refused ≡ read content)
    at (Some content) e h = (content, e, sym (law content h.0))
    at None e h = absurd h
