-- What is the same by its test is the same.
use Rattle.std.proofs.Common.{◌≡◌, ℕ, Bool, true, false, eqb, eq-eqb, ◌&&◌, List, [], ◌∷◌, length, refl, sym, ◌∙◌, ap, arith}
use Rattle.std.specs.Prelude.{bytes_eq}
use Rattle.std.specs.List.{list_all, zip}
use Rattle.std.proofs.lemmas.Bool.{eqb-true}
use Rattle.std.proofs.lemmas.Slice.Eq.{bytes_eq-Decides}
use Rattle.bp_crc.specs.declared.kind.CheckKind.{CheckKind}
use Rattle.bp_crc.specs.declared.kind.CheckKind.TheVariants as kinds
use Rattle.bp_crc.specs.Item.{check_type}
use Rattle.bp_eid.specs.declared.eid.Eid.{Eid}
use Rattle.bp_eid.specs.declared.eid.Eid.TheVariants as ids
use Rattle.bp_primary.specs.declared.primary.Primary.{Primary}
use Rattle.bp_blocks.specs.declared.block.Block.{Block}
use Rattle.bp_fragments.specs.Fragment.{piece_of}
use Rattle.bp_fragments.specs.Agreement.{same_id, same_ids, same_times, same_primary, same_header, same_block, same_blocks}

pub both : (a b : Bool) → (a && b) ≡ true → (a ≡ true) × (b ≡ true)
both true b is = (refl, is)
both false b is = absurd cc

pub together : (a b : Bool) → a ≡ true → b ≡ true → (a && b) ≡ true
together true b is more = more
together false b is more = absurd cc

-- ---- ids and checks

id_is : (a b : Eid) → same_id a b ≡ true → a ≡ b
id_is ids.Null ids.Null is = refl
id_is ids.Null (ids.Dtn y) is = absurd cc
id_is ids.Null (ids.Ipn node service) is = absurd cc
id_is (ids.Dtn x) ids.Null is = absurd cc
id_is (ids.Dtn x) (ids.Dtn y) is = ap (λ (t : List ℕ). ids.Dtn t) ((bytes_eq-Decides x y).0 is)
id_is (ids.Dtn x) (ids.Ipn node service) is = absurd cc
id_is (ids.Ipn node service) ids.Null is = absurd cc
id_is (ids.Ipn node service) (ids.Dtn y) is = absurd cc
id_is (ids.Ipn node service) (ids.Ipn node' service') is =
    let parts = both (eqb node node') (eqb service service') is in
    ap (λ (n : ℕ). ids.Ipn n service) (eqb-true node node' parts.0) ∙ ap (λ (s : ℕ). ids.Ipn node' s) (eqb-true service service' parts.1)

is_id : (a : Eid) → same_id a a ≡ true
is_id ids.Null = refl
is_id (ids.Dtn x) = (bytes_eq-Decides x x).1 refl
is_id (ids.Ipn node service) = together (eqb node node) (eqb service service) (eq-eqb node node refl) (eq-eqb service service refl)

kind_is : (a b : CheckKind) → check_type a ≡ check_type b → a ≡ b
kind_is kinds.None kinds.None is = refl
kind_is kinds.None kinds.Crc16 is = absurd (omega arith)
kind_is kinds.None kinds.Crc32c is = absurd (omega arith)
kind_is kinds.Crc16 kinds.None is = absurd (omega arith)
kind_is kinds.Crc16 kinds.Crc16 is = refl
kind_is kinds.Crc16 kinds.Crc32c is = absurd (omega arith)
kind_is kinds.Crc32c kinds.None is = absurd (omega arith)
kind_is kinds.Crc32c kinds.Crc16 is = absurd (omega arith)
kind_is kinds.Crc32c kinds.Crc32c is = refl

-- ---- primary blocks

-- the primary blocks are equal but for the offset
pub record SameFields (a b : Primary) : Type 0 where
  pub flags : a.flags ≡ b.flags
  pub crc : a.crc ≡ b.crc
  pub destination : a.destination ≡ b.destination
  pub source : a.source ≡ b.source
  pub report_to : a.report_to ≡ b.report_to
  pub created : a.created ≡ b.created
  pub sequence : a.sequence ≡ b.sequence
  pub lifetime : a.lifetime ≡ b.lifetime
  pub total : (piece_of a).total ≡ (piece_of b).total

pub fields_are : (a b : Primary) → same_primary a b ≡ true → SameFields a b
fields_are a b is =
    let p = both (eqb a.flags b.flags && eqb (check_type a.crc) (check_type b.crc) && same_ids a b && same_times a b) (eqb (piece_of a).total (piece_of b).total) is in
    let q = both (eqb a.flags b.flags && eqb (check_type a.crc) (check_type b.crc) && same_ids a b) (same_times a b) p.0 in
    let r = both (eqb a.flags b.flags && eqb (check_type a.crc) (check_type b.crc)) (same_ids a b) q.0 in
    let s = both (eqb a.flags b.flags) (eqb (check_type a.crc) (check_type b.crc)) r.0 in
    let i = both (same_id a.destination b.destination && same_id a.source b.source) (same_id a.report_to b.report_to) r.1 in
    let j = both (same_id a.destination b.destination) (same_id a.source b.source) i.0 in
    let t = both (eqb a.created b.created && eqb a.sequence b.sequence) (eqb a.lifetime b.lifetime) q.1 in
    let u = both (eqb a.created b.created) (eqb a.sequence b.sequence) t.0 in
    record {
      flags = eqb-true _ _ s.0;
      crc = kind_is a.crc b.crc (eqb-true _ _ s.1);
      destination = id_is _ _ j.0;
      source = id_is _ _ j.1;
      report_to = id_is _ _ i.1;
      created = eqb-true _ _ u.0;
      sequence = eqb-true _ _ u.1;
      lifetime = eqb-true _ _ t.1;
      total = eqb-true _ _ p.1;
    }

same_of_id : (a b : Eid) → a ≡ b → same_id a b ≡ true
same_of_id a b is = ap (same_id a) (sym is) ∙ is_id a

pub are_fields : (a b : Primary) → SameFields a b → same_primary a b ≡ true
are_fields a b same =
    together (eqb a.flags b.flags && eqb (check_type a.crc) (check_type b.crc) && same_ids a b && same_times a b) (eqb (piece_of a).total (piece_of b).total)
    (together (eqb a.flags b.flags && eqb (check_type a.crc) (check_type b.crc) && same_ids a b) (same_times a b)
    (together (eqb a.flags b.flags && eqb (check_type a.crc) (check_type b.crc)) (same_ids a b)
    (together (eqb a.flags b.flags) (eqb (check_type a.crc) (check_type b.crc)) (eq-eqb _ _ same.flags) (eq-eqb _ _ (ap check_type same.crc)))
    (together (same_id a.destination b.destination && same_id a.source b.source) (same_id a.report_to b.report_to)
    (together (same_id a.destination b.destination) (same_id a.source b.source) (same_of_id _ _ same.destination) (same_of_id _ _ same.source)) (same_of_id _ _ same.report_to)))
    (together (eqb a.created b.created && eqb a.sequence b.sequence) (eqb a.lifetime b.lifetime)
    (together (eqb a.created b.created) (eqb a.sequence b.sequence) (eq-eqb _ _ same.created) (eq-eqb _ _ same.sequence)) (eq-eqb _ _ same.lifetime)))
    (eq-eqb _ _ same.total)

pub fields_turned : (a b : Primary) → SameFields a b → SameFields b a
fields_turned a b same = record {
  flags = sym same.flags;
  crc = sym same.crc;
  destination = sym same.destination;
  source = sym same.source;
  report_to = sym same.report_to;
  created = sym same.created;
  sequence = sym same.sequence;
  lifetime = sym same.lifetime;
  total = sym same.total;
}

pub fields_through : (a b c : Primary) → SameFields a b → SameFields b c → SameFields a c
fields_through a b c first then = record {
  flags = first.flags ∙ then.flags;
  crc = first.crc ∙ then.crc;
  destination = first.destination ∙ then.destination;
  source = first.source ∙ then.source;
  report_to = first.report_to ∙ then.report_to;
  created = first.created ∙ then.created;
  sequence = first.sequence ∙ then.sequence;
  lifetime = first.lifetime ∙ then.lifetime;
  total = first.total ∙ then.total;
}

pub own_fields : (a : Primary) → SameFields a a
own_fields a = record { flags = refl; crc = refl; destination = refl; source = refl; report_to = refl; created = refl; sequence = refl; lifetime = refl; total = refl }

-- ---- blocks

block_of : ℕ → ℕ → ℕ → CheckKind → List ℕ → Block
block_of kind number flags crc body = record { kind = kind; number = number; flags = flags; crc = crc; body = body }

block_is : (a b : Block) → same_block a b ≡ true → a ≡ b
unfolding block_of
block_is a b is =
    let p = both (same_header a b) (bytes_eq a.body b.body) is in
    let q = both (eqb a.kind b.kind && eqb a.number b.number && eqb a.flags b.flags) (eqb (check_type a.crc) (check_type b.crc)) p.0 in
    let r = both (eqb a.kind b.kind && eqb a.number b.number) (eqb a.flags b.flags) q.0 in
    let s = both (eqb a.kind b.kind) (eqb a.number b.number) r.0 in
    ap (λ (x : ℕ). block_of x a.number a.flags a.crc a.body) (eqb-true _ _ s.0)
    ∙ (ap (λ (x : ℕ). block_of b.kind x a.flags a.crc a.body) (eqb-true _ _ s.1)
    ∙ (ap (λ (x : ℕ). block_of b.kind b.number x a.crc a.body) (eqb-true _ _ r.1)
    ∙ (ap (λ (x : CheckKind). block_of b.kind b.number b.flags x a.body) (kind_is a.crc b.crc (eqb-true _ _ q.1))
    ∙ ap (λ (x : List ℕ). block_of b.kind b.number b.flags b.crc x) ((bytes_eq-Decides a.body b.body).0 p.1))))

is_block : (a : Block) → same_block a a ≡ true
is_block a =
    together (same_header a a) (bytes_eq a.body a.body)
    (together (eqb a.kind a.kind && eqb a.number a.number && eqb a.flags a.flags) (eqb (check_type a.crc) (check_type a.crc))
    (together (eqb a.kind a.kind && eqb a.number a.number) (eqb a.flags a.flags)
    (together (eqb a.kind a.kind) (eqb a.number a.number) (eq-eqb _ _ refl) (eq-eqb _ _ refl)) (eq-eqb _ _ refl)) (eq-eqb _ _ refl))
    ((bytes_eq-Decides a.body a.body).1 refl)

pub blocks_are : (xs ys : List Block) → same_blocks xs ys ≡ true → xs ≡ ys
blocks_are xs ys is =
    let parts = both (eqb (length xs) (length ys)) (list_all (λ pair. same_block pair.0 pair.1) (zip xs ys)) is in
    along xs ys (eqb-true _ _ parts.0) parts.1
  where
    along : (xs ys : List Block) → length xs ≡ length ys → list_all (λ pair. same_block pair.0 pair.1) (zip xs ys) ≡ true → xs ≡ ys
    along [] [] size all = refl
    along [] (y ∷ ys) size all = absurd (omega arith)
    along (x ∷ xs) [] size all = absurd (omega arith)
    along (x ∷ xs) (y ∷ ys) size all =
        let parts = both (same_block x y) (list_all (λ pair. same_block pair.0 pair.1) (zip xs ys)) all in
        ap (λ (b : Block). b ∷ xs) (block_is x y parts.0) ∙ ap (λ (bs : List Block). y ∷ bs) (along xs ys (omega arith) parts.1)

pub are_blocks : (xs ys : List Block) → xs ≡ ys → same_blocks xs ys ≡ true
are_blocks xs ys is = ap (same_blocks xs) (sym is) ∙ together (eqb (length xs) (length xs)) (list_all (λ pair. same_block pair.0 pair.1) (zip xs xs)) (eq-eqb _ _ refl) (along xs)
  where
    along : (xs : List Block) → list_all (λ pair. same_block pair.0 pair.1) (zip xs xs) ≡ true
    along [] = refl
    along (x ∷ xs) = together (same_block x x) (list_all (λ pair. same_block pair.0 pair.1) (zip xs xs)) (is_block x) (along xs)
