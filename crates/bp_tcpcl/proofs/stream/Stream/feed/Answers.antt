use Rattle.std.proofs.Common.{◌≡◌, ◌-◌, ℕ, List, ◌++◌, length, None, refl, sym, ◌∙◌, ap, arith}
use Rattle.bp_tcpcl.specs.Taking.{Link, Feeds}
use Rattle.bp_tcpcl.proofs.Links.{empty_waits, no_bytes, whole_feeds, took_more}
use Rattle.bp_tcpcl.proofs.stream.Stream.feed.Goals as goal

pub returns-in-Whole-clause-took : goal.returns-in-Whole-clause-took
returns-in-Whole-clause-took c = λ items bytes took.
    let old = c.args.self.now in
    let piece = c.args.piece.now in
    let inside = c.self.inside in
    let nothing : length inside.pending ≡ 0 = sym c.len.ensures ∙ c.if-len-eq0.true in
    let all : piece ≡ inside.pending ++ piece = sym (ap (λ (xs : List ℕ). xs ++ piece) (no_bytes inside.pending nothing)) in
    let start : Link = record { opened = inside.opened; place = inside.place; pending = inside.pending; met = inside.met } in
    let feeds : old.met ≡ None → Feeds old piece c.give.new.self c.give.result =
    whole_feeds c.parts_are_read_as_spelled.ensures.again start old c.give.new.self piece piece c.in-Whole.item c.in-Whole.len c.in-Whole.len _ _ c.give.result c.self.view_is c.self.invariant.1 c.in-Whole.ensures all (omega arith) refl refl c.give.ensures.kept c.give.ensures.result in
    took_more old c.give.new.self piece c.give.result items bytes feeds took

pub invariant_of-self : goal.invariant_of-self
invariant_of-self c = (c.self.invariant.0, empty_waits c.self.inside.opened c.self.inside.place c.replace-all.new.dest (c.replace-all.ensures.after ∙ c.new.ensures))

pub invariant_of-self-in-Whole-next : goal.invariant_of-self-in-Whole-next
invariant_of-self-in-Whole-next c = (c.self.invariant.0, empty_waits c.self.inside.opened c.self.inside.place c.replace-all.new.dest (c.replace-all.ensures.after ∙ c.new.ensures))

pub invariant_of-self-in-More-next : goal.invariant_of-self-in-More-next
invariant_of-self-in-More-next c = (c.self.invariant.0, empty_waits c.self.inside.opened c.self.inside.place c.replace-all.new.dest (c.replace-all.ensures.after ∙ c.new.ensures))

pub invariant_of-self-in-Error-next : goal.invariant_of-self-in-Error-next
invariant_of-self-in-Error-next c = (c.self.invariant.0, empty_waits c.self.inside.opened c.self.inside.place c.replace-all.new.dest (c.replace-all.ensures.after ∙ c.new.ensures))

pub returns-in-Whole-next-clause-means : goal.returns-in-Whole-next-clause-means
returns-in-Whole-next-clause-means c =
    let old = c.args.self.now in
    let piece = c.args.piece.now in
    let inside = c.self.inside in
    let all : c.as_slice.result.now ≡ inside.pending ++ piece = c.as_slice.ensures ∙ (c.in_default-extend.ensures.ok ∙ ap (λ (xs : List ℕ). xs ++ piece) c.replace-all.ensures.value) in
    let count : c.saturating_sub.result ≡ c.in-Whole-next.len - length inside.pending = c.saturating_sub.ensures ∙ ap (λ (n : ℕ). c.in-Whole-next.len - n) c.len-before.ensures in
    let start : Link = record { opened = inside.opened; place = inside.place; pending = inside.pending; met = inside.met } in
    let place = ap (λ (l : Link). l.place) c.self.view_is in
    let met = ap (λ (l : Link). l.met) c.self.view_is in
    whole_feeds c.parts_are_read_as_spelled.ensures.again start old c.give-in-Whole-next.new.self piece c.as_slice.result.now c.in-Whole-next.item c.in-Whole-next.len c.saturating_sub.result _ _ c.give-in-Whole-next.result c.self.view_is c.self.invariant.1 c.in-Whole-next.ensures all count place met c.give-in-Whole-next.ensures.kept c.give-in-Whole-next.ensures.result

pub returns-in-Whole-next-clause-took : goal.returns-in-Whole-next-clause-took
returns-in-Whole-next-clause-took c = λ items bytes took.
    took_more c.args.self.now c.give-in-Whole-next.new.self c.args.piece.now c.give-in-Whole-next.result items bytes (returns-in-Whole-next-clause-means c) took
