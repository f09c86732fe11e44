-- Reading step by step, and what a step returned, whatever the kind of its error.
use Rattle.std.specs.Prelude.{◌≡◌, Result, Ok, Err}

-- the next step, where this one gave a value
infixl 10 ◌>>=◌
abbrev pub ◌>>=◌ : {A B E : Type 0} → Result A E → (A → Result B E) → Result B E
(Ok x) >>= f = f x
(Err e) >>= f = Err e

-- it is what reading gives, seen by `view`
abbrev pub Stands : {X Y E : Type 0} → (X → Y) → Result X E → Result Y E → Type 0
Stands view (Ok x) read = read ≡ Ok (view x)
Stands view (Err e) read = read ≡ Err e

-- it is what reading gives, seen by `view`; of an error that is what `Fails` says
abbrev pub Gives : {X Y E F : Type 0} → (E → Result Y F → Type 0) → (X → Y) → Result X E → Result Y F → Type 0
Gives Fails view (Ok x) read = read ≡ Ok (view x)
Gives Fails view (Err e) read = Fails e read
