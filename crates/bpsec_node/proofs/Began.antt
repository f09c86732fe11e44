-- What a session keeps at its beginning.
use Rattle.std.proofs.Common.{◌≡◌, ℕ, ◌%◌, ◌≤◌, ◌↔◌, Bool, true, false, cond, eqb, List, [], ◌∷◌, ◌++◌, map, Option, Some, None, refl, sym, ◌∙◌, ap, subst}
use Rattle.std.specs.Prelude.{filter}
use Rattle.std.proofs.lemmas.Bool.{eqb-true, eq-eqb, ne_eqb}
use Rattle.cbor_profile.specs.declared.fault.Fault.{Fault}
use Rattle.bp_blocks.specs.declared.block.Block.{Block}
use Rattle.bp_bundle.specs.Shape.{Contents}
use Rattle.bpsec_asb.specs.declared.operation.Service.TheVariants.{Bcb}
use Rattle.bpsec_asb.specs.declared.operation.OpId.{OpId}
use Rattle.bpsec_asb.specs.Known.{operation, ciphers, targets_of}
use Rattle.bpsec_asb.specs.Reading.{read_body}
use Rattle.bpsec_asb.proofs.Members.{Among, among, contains, among-map, from-map, among-filter, from-filter}
use Rattle.bpsec_node.specs.declared.held.Held.{Held}
use Rattle.bpsec_node.specs.Site.{block_at}
use Rattle.bpsec_node.specs.Plain.{may_be_covered, covers}
use Rattle.bpsec_node.specs.Begin.{IsFirstBroken, AllReadable, IsFirstDouble, CoveredOnce, CanBegin, IsBeginFault}
use Rattle.bpsec_node.specs.declared.begin.BeginFault.{BeginFault}
use Rattle.bpsec_node.specs.declared.begin.BeginFault.TheVariants as faults
use Rattle.bpsec_node.specs.Session.{held_of}
use Rattle.bpsec_node.specs.Least.{is_cipher, read_those, ops_of, least_broken, double_of}
use Rattle.bpsec_node.specs.Start.{first_covers, IsStartFault, fault_of, begin_fault, IsFaultOf}
use Rattle.bpsec_node.proofs.Leasts.{none_broken, first_broken, none_double, some_double}

-- ---- security blocks that are read

first_held : (test : Block → Bool) (blocks : List Block) → List Held
first_held test blocks = read_those test blocks

ops_by : (block : Block) (blocks : List Block) (b : Bool) → eqb block.kind 12 ≡ b → ops_of Bcb (read_those is_cipher blocks) ≡ ciphers blocks
    → ops_of Bcb (map held_of (cond b (block ∷ filter is_cipher blocks) (filter is_cipher blocks))) ≡ cond b (map (operation Bcb block.number) (targets_of (read_body block.body))) [] ++ ciphers blocks
ops_by block blocks true e rest = ap (λ ops. map (operation Bcb block.number) (targets_of (read_body block.body)) ++ ops) rest
ops_by block blocks false e rest = rest

pub first_ciphers : (blocks : List Block) → ops_of Bcb (read_those is_cipher blocks) ≡ ciphers blocks
first_ciphers [] = refl
first_ciphers (block ∷ blocks) = ops_by block blocks (eqb block.kind 12) refl (first_ciphers blocks)

pub first_covers_are : (blocks : List Block) → first_covers blocks ≡ covers blocks
unfolding covers
first_covers_are blocks = ap (filter (λ (op : OpId). may_be_covered (block_at blocks op.target))) (first_ciphers blocks)

-- ---- faults

in_read : (blocks : List Block) (block : Block) → Among block blocks → block.kind ≡ 12 → Among (held_of block) (read_those is_cipher blocks)
in_read blocks block there kind = among-map held_of (filter is_cipher blocks) block (held_of block) (among-filter is_cipher blocks block there (eq-eqb block.kind 12 kind)) refl

from_read : (blocks : List Block) (h : Held) → Among h (read_those is_cipher blocks) → (block : Block) × Among block blocks × (block.kind ≡ 12) × (held_of block ≡ h)
from_read blocks h there =
    let m = from-map held_of (filter is_cipher blocks) h there in
    let f = from-filter is_cipher blocks m.0 m.1 in
    (m.0, f.0, eqb-true m.0.kind 12 f.1, m.2)

pub all_readable : (blocks : List Block) → least_broken (read_those is_cipher blocks) ≡ None → AllReadable blocks
all_readable blocks e number fault broken =
    none_broken (read_those is_cipher blocks) (held_of broken.block) fault e (in_read blocks broken.block (among blocks broken.block broken.there) broken.kind) broken.unreadable

pub first_unreadable : (blocks : List Block) (number : ℕ) (fault : Fault) → least_broken (read_those is_cipher blocks) ≡ Some (number, fault) → IsFirstBroken blocks number fault
first_unreadable blocks number fault e =
    let f = first_broken (read_those is_cipher blocks) number fault e in
    let b = from_read blocks f.at f.there in
    record {
      broken = record {
        block = b.0;
        there = contains blocks b.0 b.1;
        kind = b.2;
        number_is = ap (λ (h : Held). h.number) b.3 ∙ f.number_is;
        unreadable = ap (λ (h : Held). h.read) b.3 ∙ f.read_is;
      };
      least = λ other g broken. subst (λ n. number ≤ n) broken.number_is (f.least (held_of broken.block) g (in_read blocks broken.block (among blocks broken.block broken.there) broken.kind) broken.unreadable);
    }

-- ---- blocks that are covered twice

pub covered_once : (blocks : List Block) → double_of (first_covers blocks) ≡ None → CoveredOnce blocks
covered_once blocks e target a b (oa, ha, ta, ba) (ob, hb, tb, bb) = by (eqb a b) refl
  where
    none : double_of (covers blocks) ≡ None
    none = ap double_of (sym (first_covers_are blocks)) ∙ e

    by : (v : Bool) → eqb a b ≡ v → a ≡ b
    by true is = eqb-true a b is
    by false is =
        absurd (none_double (covers blocks) oa ob none (among (covers blocks) oa ha) (among (covers blocks) ob hb) (tb ∙ sym ta)
        (λ same. let t : true ≡ false = sym (eq-eqb a b (sym ba ∙ (sym same ∙ bb))) ∙ is in true_false t))
      where
        true_false : true ≡ false → ⊥
        true_false t = absurd cc

pub first_double_is : (blocks : List Block) (target first second : ℕ) → double_of (first_covers blocks) ≡ Some (target, first, second) → IsFirstDouble blocks target first second
first_double_is blocks target first second e =
    let d = some_double (covers blocks) target first second (ap double_of (sym (first_covers_are blocks)) ∙ e) in
    record {
      covers_first = (d.one, contains (covers blocks) d.one d.one_there, d.one_at, d.one_block);
      covers_second = (d.other, contains (covers blocks) d.other d.other_there, d.other_at, d.other_block);
      apart = d.apart;
      least = λ other by different. subst (λ n. second ≤ n) by.3 (d.least by.0 (among (covers blocks) by.0 by.1) by.2 (λ same. different (sym by.3 ∙ same)));
      lowest = λ other a b by by' different.
          subst (λ n. target ≤ n) by.2
          (d.lowest by.0 by'.0 (among (covers blocks) by.0 by.1) (among (covers blocks) by'.0 by'.1) (by'.2 ∙ sym by.2) (λ same. different (sym by.3 ∙ (sym same ∙ by'.3))));
    }

-- ---- the first that stands in the way

pub not_fragment : (found : Bool) (flags : ℕ) → (found ≡ true) ↔ (flags % 2 ≡ 1) → found ≡ false → eqb (flags % 2) 1 ≡ false
not_fragment found flags says is = ne_eqb (flags % 2) 1 (λ one. let t : true ≡ false = sym (says.1 one) ∙ is in absurd cc)

pub a_fragment : (found : Bool) (flags : ℕ) → (found ≡ true) ↔ (flags % 2 ≡ 1) → found ≡ true → eqb (flags % 2) 1 ≡ true
a_fragment found flags says is = eq-eqb (flags % 2) 1 (says.0 is)

pub is_begin_fault : (bundle : Contents) (fault : BeginFault) → eqb (bundle.primary.flags % 2) 1 ≡ false → IsStartFault bundle.blocks fault → IsBeginFault bundle fault
is_begin_fault bundle faults.IsFragment whole is = absurd is
is_begin_fault bundle (faults.BrokenBcb number fault) whole is = (whole, first_unreadable bundle.blocks number fault is)
is_begin_fault bundle (faults.DoubleCipher target first second) whole is = (whole, all_readable bundle.blocks is.0, first_double_is bundle.blocks target first second is.1)
is_begin_fault bundle faults.NoMemory whole is = tt

whole_fault : (bundle : Contents) → eqb (bundle.primary.flags % 2) 1 ≡ false → begin_fault bundle ≡ fault_of (least_broken (read_those is_cipher bundle.blocks)) (double_of (first_covers bundle.blocks))
unfolding begin_fault
whole_fault bundle whole = ap (λ (b : Bool). cond b (Some faults.IsFragment) (fault_of (least_broken (read_those is_cipher bundle.blocks)) (double_of (first_covers bundle.blocks)))) whole

pub fragment_fault : (bundle : Contents) → eqb (bundle.primary.flags % 2) 1 ≡ true → begin_fault bundle ≡ Some faults.IsFragment
unfolding begin_fault
fragment_fault bundle is = ap (λ (b : Bool). cond b (Some faults.IsFragment) (fault_of (least_broken (read_those is_cipher bundle.blocks)) (double_of (first_covers bundle.blocks)))) is

pub fault_is : (bundle : Contents) (fault : BeginFault) → eqb (bundle.primary.flags % 2) 1 ≡ false → IsStartFault bundle.blocks fault → IsFaultOf bundle fault
fault_is bundle faults.IsFragment whole is = absurd is
fault_is bundle (faults.BrokenBcb number fault) whole is = whole_fault bundle whole ∙ ap (λ (o : Option (ℕ × Fault)). fault_of o (double_of (first_covers bundle.blocks))) is
fault_is bundle (faults.DoubleCipher target first second) whole is =
    whole_fault bundle whole ∙ (ap (λ (o : Option (ℕ × Fault)). fault_of o (double_of (first_covers bundle.blocks))) is.0 ∙ ap (fault_of None) is.1)
fault_is bundle faults.NoMemory whole is = tt

pub no_fault : (bundle : Contents) → eqb (bundle.primary.flags % 2) 1 ≡ false → least_broken (read_those is_cipher bundle.blocks) ≡ None → double_of (first_covers bundle.blocks) ≡ None → begin_fault bundle ≡ None
no_fault bundle whole readable once =
    whole_fault bundle whole ∙ (ap (λ (o : Option (ℕ × Fault)). fault_of o (double_of (first_covers bundle.blocks))) readable ∙ ap (fault_of None) once)

pub can_begin : (bundle : Contents) → eqb (bundle.primary.flags % 2) 1 ≡ false → least_broken (read_those is_cipher bundle.blocks) ≡ None → double_of (first_covers bundle.blocks) ≡ None → CanBegin bundle
can_begin bundle whole readable once = record { whole = whole; readable = all_readable bundle.blocks readable; once = covered_once bundle.blocks once }
