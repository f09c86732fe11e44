use Rattle.std.proofs.Common.{◌≡◌, ◌≤◌, ◌+◌, ℕ, List, length, ap, sym, subst, refl, ◌∙◌, arith}
use Rattle.bp_fragments.specs.Spans.{AreWithin}
use Rattle.bp_fragments.proofs.Lists.{length-written}
use Rattle.bp_fragments.proofs.Covered.{length-seen, put_bytes, overlaid_so}
use Rattle.bp_fragments.proofs.payload.Payload.put.Goals as goal

pub write_at-requires : goal.write_at-requires
write_at-requires c =
    let size : length c.self.inside.bytes ≡ length c.args.self.now = sym (length-seen c.self.inside.covered c.self.inside.bytes) ∙ ap length c.self.view_is in
    let room = c.requires.room in
    rw c.as_mut_slice.ensures.value (omega arith)

pub invariant_of-self : goal.invariant_of-self
invariant_of-self c =
    let size : length c.self.inside.bytes ≡ length c.args.self.now = sym (length-seen c.self.inside.covered c.self.inside.bytes) ∙ ap length c.self.view_is in
    let room = c.requires.room in
    let fits : c.args.offset + length c.args.piece.now ≤ length c.self.inside.bytes = omega arith in
    let same = put_bytes c.self.inside.bytes c.as_mut_slice.result.now c.write_at.new.bytes c.args.offset c.args.piece.now c.as_mut_slice.ensures.value c.write_at.ensures fits in
    let P : List ℕ → Type 0 = λ xs. AreWithin c.in_ok-spans.spans (length xs) in
    subst P (sym same) (subst (λ (n : ℕ). AreWithin c.in_ok-spans.spans n) (sym (length-written c.self.inside.bytes c.args.offset c.args.piece.now fits)) (c.in_ok-spans.ensures.within (length c.self.inside.bytes) (rw c.items.ensures c.self.invariant) fits))

pub returns-clause-ok : goal.returns-clause-ok
returns-clause-ok c =
    let size : length c.self.inside.bytes ≡ length c.args.self.now = sym (length-seen c.self.inside.covered c.self.inside.bytes) ∙ ap length c.self.view_is in
    let room = c.requires.room in
    let fits : c.args.offset + length c.args.piece.now ≤ length c.self.inside.bytes = omega arith in
    let same = put_bytes c.self.inside.bytes c.as_mut_slice.result.now c.write_at.new.bytes c.args.offset c.args.piece.now c.as_mut_slice.ensures.value c.write_at.ensures fits in
    rw (← c.self.view_is, same) (overlaid_so c.self.inside.covered c.in_ok-spans.spans c.self.inside.bytes c.args.piece.now c.args.offset (record { from = c.args.offset; to = c.args.offset + length c.args.piece.now; ordered = omega arith }) fits refl refl (rw c.items.ensures at c.in_ok-spans.ensures.covers))
