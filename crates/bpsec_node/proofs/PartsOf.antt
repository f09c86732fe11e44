-- The parts of a site are those of its bundle.
use Rattle.std.proofs.Common.{◌≡◌, ◌≢◌, ℕ, ◌^◌, ◌<◌, Bool, true, false, not, cond, eqb, List, length, Option, Some, None, refl, sym, ◌∙◌, ap, subst, arith}
use Rattle.std.specs.Prelude.{Contains, is_some, option_map}
use Rattle.std.proofs.lemmas.Bool.{eq-eqb, ne_eqb}
use Rattle.std.proofs.lemmas.List.Elements.{All-contains}
use Rattle.bp_blocks.specs.declared.block.Block.{Block}
use Rattle.bp_blocks.specs.Spelling.{IsBlock}
use Rattle.bp_bundle.specs.Shape.{Contents}
use Rattle.bp_bundle.specs.Spelling.{IsNumbered, IsBundle}
use Rattle.bpsec_asb.specs.declared.operation.OpId.{OpId}
use Rattle.bpsec_asb.specs.declared.operation.Service.{Service}
use Rattle.bpsec_asb.specs.declared.operation.Service.TheVariants.{Bib, Bcb}
use Rattle.bpsec_asb.proofs.Members.{among, contains}
use Rattle.bpsec_scope.specs.declared.header.Header.{Header}
use Rattle.bpsec_scope.specs.Target.{PrimaryBlock, Body, is_primary, body_of}
use Rattle.bpsec_scope.specs.Parts.{IsHeader, IsParts}
use Rattle.bpsec_node.specs.PartsOf.{IsTargetOf, IsPartsOf}
use Rattle.bpsec_node.specs.Site.{block_at, site, header_of, security_header, integrity_target, target_by, target_header, parts}
use Rattle.bpsec_node.proofs.Agree.{block_at_number}
use Rattle.bpsec_node.proofs.Operations.{at_itself}

-- ---- the block with a number

pub block_means : (blocks : List Block) (number : ℕ) (block : Block) → block_at blocks number ≡ Some block → Contains blocks block × (block.number ≡ number)
block_means blocks number block is = let f = block_at_number blocks number block is in (contains blocks block f.0, f.1)

pub block_found : (bundle : Contents) (number : ℕ) (block : Block) → IsBundle bundle → Contains bundle.blocks block → block.number ≡ number → block_at bundle.blocks number ≡ Some block
block_found bundle number block is there e = ap (block_at bundle.blocks) (sym e) ∙ at_itself bundle.blocks block is.distinct (among bundle.blocks block there)

not_zero : (bundle : Contents) (number : ℕ) (block : Block) → IsBundle bundle → Contains bundle.blocks block → block.number ≡ number → number ≢ 0
not_zero bundle number block is there e zero = let n : IsNumbered block = All-contains IsNumbered bundle.blocks block is.numbered there in n.0 (e ∙ zero)

-- ---- headers and targets

header_found : (number : ℕ) (at : Option Block) (block : Block) → at ≡ Some block → number ≢ 0 → target_header number at ≡ Some (header_of block)
header_found number at block is other = ap (λ b. cond b None (option_map header_of at)) (ne_eqb number 0 other) ∙ ap (option_map header_of) is

header_none : (number : ℕ) (at : Option Block) → number ≡ 0 → target_header number at ≡ None
header_none number at zero = ap (λ b. cond b None (option_map header_of at)) (eq-eqb number 0 zero)

primary_target : (number : ℕ) (at : Option Block) → number ≡ 0 → integrity_target number at ≡ PrimaryBlock
primary_target number None zero = refl
primary_target number (Some block) zero = ap (λ b. cond b PrimaryBlock (Body block.body)) (eq-eqb number 0 zero)

body_target : (number : ℕ) (at : Option Block) (block : Block) → at ≡ Some block → number ≢ 0 → integrity_target number at ≡ Body block.body
body_target number at block is other = ap (integrity_target number) is ∙ ap (λ b. cond b PrimaryBlock (Body block.body)) (ne_eqb number 0 other)

target_is : (bundle : Contents) (service : Service) (number : ℕ) → IsBundle bundle → IsTargetOf bundle service number (target_by service number (block_at bundle.blocks number))
target_is bundle Bib number is = (
  (λ zero. primary_target number (block_at bundle.blocks number) zero),
  (λ block there e. body_target number (block_at bundle.blocks number) block (block_found bundle number block is there e) (not_zero bundle number block is there e)),
)
target_is bundle Bcb number is = refl

pub parts_are : (bundle : Contents) (op : OpId) → IsBundle bundle → IsPartsOf bundle op (parts (site bundle op) op)
unfolding site parts
parts_are bundle op is = record {
  primary = refl;
  security_header = λ block there e. ap security_header (block_found bundle op.block block is there e);
  target_header = λ block there e. header_found op.target (block_at bundle.blocks op.target) block (block_found bundle op.target block is there e) (not_zero bundle op.target block is there e);
  no_header = λ zero. header_none op.target (block_at bundle.blocks op.target) zero;
  target = target_is bundle op.service op.target is;
}

-- ---- what the parts of every bundle keep

module _ (bundle : Contents) (is : IsBundle bundle) where
  header_kept : (number : ℕ) (block : Block) → block_at bundle.blocks number ≡ Some block → IsHeader (header_of block)
  header_kept number block at =
      let b : IsBlock block = All-contains IsBlock bundle.blocks block is.blocks (block_means bundle.blocks number block at).0 in
      (b.kind, b.number, b.flags)

  security_kept : (number : ℕ) (o : Option Block) → block_at bundle.blocks number ≡ o → IsHeader (security_header o)
  security_kept number None at = (omega arith, omega arith, omega arith)
  security_kept number (Some block) at = header_kept number block at

  target_kept : (number : ℕ) (o : Option Block) → block_at bundle.blocks number ≡ o → (b : Bool) (h : Header) → cond b None (option_map header_of o) ≡ Some h → IsHeader h
  target_kept number o at true h e = absurd cc
  target_kept number None at false h e = absurd cc
  target_kept number (Some block) at false h e = let same : header_of block ≡ h = cc in subst IsHeader same (header_kept number block at)

  body_kept : (number : ℕ) (o : Option Block) → block_at bundle.blocks number ≡ o → length (body_of (integrity_target number o)) < 2 ^ 64
  body_kept number None at = omega arith
  body_kept number (Some block) at = by (eqb number 0)
    where
      by : (b : Bool) → length (body_of (cond b PrimaryBlock (Body block.body))) < 2 ^ 64
      by true = omega arith
      by false = let b : IsBlock block = All-contains IsBlock bundle.blocks block is.blocks (block_means bundle.blocks number block at).0 in omega (arith, b.body)

  pub service_body : (service : Service) (number : ℕ) → length (body_of (target_by service number (block_at bundle.blocks number))) < 2 ^ 64
  service_body Bib number = body_kept number (block_at bundle.blocks number) refl
  service_body Bcb number = omega arith

integrity_header : (number : ℕ) (o : Option Block) → is_some (target_header number o) ≡ not (is_primary (integrity_target number o))
integrity_header number None = by (eqb number 0)
  where
    by : (b : Bool) → is_some (cond b None (option_map header_of None)) ≡ false
    by true = refl
    by false = refl
integrity_header number (Some block) = by (eqb number 0)
  where
    by : (b : Bool) → is_some (cond b None (Some (header_of block))) ≡ not (is_primary (cond b PrimaryBlock (Body block.body)))
    by true = refl
    by false = refl

-- the target of a confidentiality operation is a canonical block
abbrev pub IsThere : Contents → Service → ℕ → Type 0
IsThere bundle Bib number = Unit {0}
IsThere bundle Bcb number = (block : Block) × Contains bundle.blocks block × (block.number ≡ number)

has_header : (bundle : Contents) (service : Service) (number : ℕ) → IsBundle bundle → IsThere bundle service number
    → is_some (target_header number (block_at bundle.blocks number)) ≡ not (is_primary (target_by service number (block_at bundle.blocks number)))
has_header bundle Bib number is there = integrity_header number (block_at bundle.blocks number)
has_header bundle Bcb number is (block, there, e) =
    ap is_some (header_found number (block_at bundle.blocks number) block (block_found bundle number block is there e) (not_zero bundle number block is there e))

parts_by : (bundle : Contents) (op : OpId) → IsBundle bundle → IsThere bundle op.service op.target → IsParts (parts (site bundle op) op)
unfolding site parts
parts_by bundle op is there = record {
  primary = is.primary;
  target_header = target_kept bundle is op.target (block_at bundle.blocks op.target) refl (eqb op.target 0);
  security_header = security_kept bundle is op.block (block_at bundle.blocks op.block) refl;
  header = has_header bundle op.service op.target is there;
  body = service_body bundle is op.service op.target;
}

pub integrity_parts : (bundle : Contents) (op : OpId) → IsBundle bundle → op.service ≡ Bib → IsParts (parts (site bundle op) op)
integrity_parts bundle op is service = parts_by bundle op is (subst (λ (s : Service). IsThere bundle s op.target) (sym service) tt)

pub confidentiality_parts : (bundle : Contents) (op : OpId) (block : Block) → IsBundle bundle → op.service ≡ Bcb → Contains bundle.blocks block → block.number ≡ op.target
    → IsParts (parts (site bundle op) op)
confidentiality_parts bundle op block is service there e = parts_by bundle op is (subst (λ (s : Service). IsThere bundle s op.target) (sym service) (block, there, e))
