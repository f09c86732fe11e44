-- What the work ends with, where the devices tell all.
use Rattle.std.proofs.Common.{◌≡◌, ℕ, List, Option, Some, None, sym, subst, ap, ◌∙◌}
use Rattle.std.specs.Prelude.{IfSome}
use Rattle.bpsec_answer.specs.declared.answer.Answer.{Answer}
use Rattle.bpsec_answer.specs.Job.{World, Job, Answered, Fetch, Read, answered}
use Rattle.bpsec_answer.specs.Due.{Devices, EndsWith, Tells, IsFile}
use Rattle.bp_bundle.specs.WholeInput.{IsInput}

told_input : (told : Option (List ℕ)) (input bytes : List ℕ) → told ≡ Some input → IsInput told bytes → input ≡ bytes
told_input (Some own) input bytes e is = (cc) ∙ is
told_input None input bytes e is = absurd cc

told_file : (files : Option (List ℕ → Option (List ℕ))) (held : List ℕ → Option (List ℕ)) (name content : List ℕ) → files ≡ Some held → IfSome files (λ h. h name ≡ Some content) → held name ≡ Some content
told_file files held name content e is = subst (λ (f : Option (List ℕ → Option (List ℕ))). IfSome f (λ h. h name ≡ Some content)) e is

pub world_ends : (devices : Devices) (world : World) → Tells devices world → (work : Job) (due : Answer) → EndsWith devices work due → due ≡ answered world work
world_ends devices world tells (Answered own) due is = is
world_ends devices world tells (Fetch name next) due is =
    let same = tells.contents name is.0 (told_file devices.files tells.held name is.0 tells.files is.1) in
    world_ends devices world tells (next is.0) due is.2 ∙ ap (λ (content : List ℕ). answered world (next content)) (sym same)
world_ends devices world tells (Read next) due is =
    let same = told_input devices.input world.input is.0 tells.input is.1 in
    world_ends devices world tells (next is.0) due is.2 ∙ ap (λ (bytes : List ℕ). answered world (next bytes)) (sym same)
