use Rattle.std.proofs.Common.{◌≡◌, ◌++◌, ◌<◌, ◌^◌, ℕ, List, length, drop, inl, refl, arith}
use Rattle.std.proofs.lemmas.List.{drop_at}
use Rattle.std.proofs.lemmas.Grind.{common_steps}
use Rattle.cbor_profile.specs.Head.{head_spelling, spelling, IsHead}
use Rattle.cbor_profile.specs.declared.head.Head.{Head}
use Rattle.cbor_profile.specs.declared.head.HeadRead.{HeadRead}
use Rattle.cbor_profile.specs.declared.head.HeadRead.TheVariants.{Whole}
use Rattle.bp_blocks.proofs.bodies.argument_at.Goals as goal

-- What is spelled as a head is read as that head.
Finds : List ℕ → HeadRead → Type 0
Finds bytes read = (head : Head) (rest : List ℕ) → IsHead head → bytes ≡ spelling head ++ rest → read ≡ Whole head (length (spelling head))

-- So where a head of this type was read, it has this argument, and the rest follows it.
reads : (bytes : List ℕ) (read : HeadRead) (major n : ℕ) (rest : List ℕ) → Finds bytes read → major < 6 → n < 2 ^ 64 → bytes ≡ head_spelling major n ++ rest
    → (read ≡ Whole (record { major = major; value = n }) (length (head_spelling major n))) × (drop (length (head_spelling major n)) bytes ≡ rest)
unfolding Finds spelling
reads bytes read major n rest finds kind fits e =
    (finds (record { major = major; value = n }) rest (fits, inl kind) e, rw e (drop_at (head_spelling major n) rest _ refl))

pub returns-in_default : goal.returns-in_default
unfolding Finds
returns-in_default c = record {
  means = tt;
  found = λ n rest fits e. c.in_default.not-Whole _ _ (reads c.args.bytes.now c.head_at.result c.args.major n rest c.head_at.ensures.found c.requires fits e).0;
}

pub returns-then-head-major-clause-found : goal.returns-then-head-major-clause-found
unfolding Finds
returns-then-head-major-clause-found c = λ n rest fits e.
    let there = reads c.args.bytes.now c.head_at.result c.args.major n rest c.head_at.ensures.found c.requires fits e in
    grind (arith, there, c.in-Whole.is, c.if-head-major.true)

pub returns-clause-found : goal.returns-clause-found
unfolding Finds
returns-clause-found c = λ n rest fits e.
    let there = reads c.args.bytes.now c.head_at.result c.args.major n rest c.head_at.ensures.found c.requires fits e in
    grind (arith, common_steps, there, c.in-Whole.is)
