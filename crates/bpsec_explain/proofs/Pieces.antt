-- Pieces that are appended one after the other.
use Rattle.std.proofs.Common.{◌≡◌, List, ◌++◌, ℕ, Result, Ok, Err, ◌∙◌, ap, append_assoc}
use Rattle.std.specs.Prelude.{OnOk}

-- what is appended last
pub last_piece : {T E : Type 0} (r : Result T E) (old front last mid new : List ℕ) → mid ≡ old ++ front → OnOk r (new ≡ mid ++ last) → OnOk r (new ≡ old ++ (front ++ last))
last_piece (Ok x) old front last mid new is h = h ∙ (ap (λ (l : List ℕ). l ++ last) is ∙ append_assoc old front last)
last_piece (Err e) old front last mid new is h = tt

pub same_pieces : {T E : Type 0} (r : Result T E) (old x y new : List ℕ) → x ≡ y → OnOk r (new ≡ old ++ x) → OnOk r (new ≡ old ++ y)
same_pieces (Ok a) old x y new is h = h ∙ ap (λ (l : List ℕ). old ++ l) is
same_pieces (Err e) old x y new is h = tt

pub two_pieces : (old x mid y new : List ℕ) → mid ≡ old ++ x → new ≡ mid ++ y → new ≡ old ++ (x ++ y)
two_pieces old x mid y new first second = second ∙ (ap (λ (l : List ℕ). l ++ y) first ∙ append_assoc old x y)
