-- A bundle whose blocks keep their headers, some of them without their bodies' last bytes and some left out, is a bundle.
use Rattle.std.proofs.Common.{◌≡◌, ◌≢◌, ℕ, suc, ◌+◌, ◌-◌, ◌≤◌, inl, inr, IsTrue, List, [], ◌∷◌, ◌++◌, length, map, get_or, refl, sym, ◌∙◌, ap, subst, arith, length-append}
use Rattle.std.specs.List.{All, AllPairs, HoldsAt, flat_map}
use Rattle.std.proofs.lemmas.List.Kept.{AllPairs-cons}
use Rattle.cbor_profile.specs.Head.{head_spelling}
use Rattle.cbor_profile.proofs.Sizes.{head_grows}
use Rattle.cbor_profile.specs.Put.{uint, byte_string, array_head}
use Rattle.cbor_profile.specs.declared.TheConstants.{BUNDLE_LIMIT}
use Rattle.bp_crc.specs.declared.kind.CheckKind.{CheckKind}
use Rattle.bp_crc.specs.Item.{zeros, check_item, check_count, check_type}
use Rattle.bp_blocks.specs.declared.block.Block.{Block}
use Rattle.bp_blocks.specs.Spelling.{IsBlock}
use Rattle.bp_blocks.specs.Spelling as blocks
use Rattle.bp_blocks.proofs.Pieces as block_pieces
use Rattle.bp_bundle.specs.Shape.{Contents}
use Rattle.bp_bundle.specs.Spelling.{IsPayload, IsNumbered, is_single, IsBundle, spelling}
use Rattle.bp_primary.specs.Spelling as primaries
use Rattle.bpsec_asb.proofs.Members.{Among, contains}
use Rattle.bpsec_node.specs.Shrunk.{Shrinks, Shrunk}
use Rattle.bpsec_asb.proofs.Held.{all_members}
use Rattle.std.proofs.lemmas.List.Elements.{All-contains}

abbrev Differ : Block → Block → Type 0
Differ a b = a.number ≢ b.number

abbrev Once : Block → Block → Type 0
Once a b = IsTrue (is_single a.kind) → a.kind ≢ b.kind

abbrev pub spelled : List Block → List ℕ
spelled bs = flat_map blocks.spelling bs

whole_size : (bundle : Contents) → length (spelling bundle) ≡ 2 + length (primaries.spelling bundle.primary) + length (spelled bundle.blocks)
unfolding spelling
whole_size bundle =
    let p = primaries.spelling bundle.primary in
    let b = spelled bundle.blocks in
    omega (arith, length-append (p ++ b) (0xff ∷ []), length-append p b)

-- ---- blocks

pub shrinks_itself : (block : Block) → Shrinks block block
shrinks_itself block = record { kind = refl; number = refl; flags = refl; crc = refl; body = omega arith }

pub shrinks_body : (block : Block) (body : List ℕ) → length body ≤ length block.body → Shrinks block (record block { body = body })
shrinks_body block body less = record { kind = refl; number = refl; flags = refl; crc = refl; body = less }

pub shrinks_on : (a b c : Block) → Shrinks a b → Shrinks b c → Shrinks a c
shrinks_on a b c first second = record {
  kind = second.kind ∙ first.kind;
  number = second.number ∙ first.number;
  flags = second.flags ∙ first.flags;
  crc = second.crc ∙ first.crc;
  body = let x = first.body in let y = second.body in omega arith;
}

-- how many bytes stand beside the body
rest_size : Block → ℕ
rest_size block = length (array_head (5 + check_count block.crc)) + length (uint block.kind) + length (uint block.number) + length (uint block.flags) + length (uint (check_type block.crc)) + length (check_item block.crc (zeros block.crc))

block_size : (block : Block) → length (blocks.spelling block) ≡ rest_size block + length (head_spelling 2 (length block.body)) + length block.body
unfolding blocks.array_with rest_size byte_string
block_size block = rw (block_pieces.length-spelling block) (simp length-append (omega arith))

rest_same : (block less : Block) → Shrinks block less → rest_size less ≡ rest_size block
unfolding rest_size array_head
rest_same block less s =
    ap (λ n. length (array_head (5 + check_count less.crc)) + length (uint n) + length (uint less.number) + length (uint less.flags) + length (uint (check_type less.crc)) + length (check_item less.crc (zeros less.crc))) s.kind
    ∙ ap (λ n. length (array_head (5 + check_count less.crc)) + length (uint block.kind) + length (uint n) + length (uint less.flags) + length (uint (check_type less.crc)) + length (check_item less.crc (zeros less.crc))) s.number
    ∙ ap (λ n. length (array_head (5 + check_count less.crc)) + length (uint block.kind) + length (uint block.number) + length (uint n) + length (uint (check_type less.crc)) + length (check_item less.crc (zeros less.crc))) s.flags
    ∙ ap (λ (c : CheckKind). length (array_head (5 + check_count c)) + length (uint block.kind) + length (uint block.number) + length (uint block.flags) + length (uint (check_type c)) + length (check_item c (zeros c))) s.crc

pub shrinks_size : (block less : Block) → Shrinks block less → length (blocks.spelling less) ≤ length (blocks.spelling block)
shrinks_size block less s =
    let rest = rest_same block less s in
    let head = head_grows 2 (length less.body) (length block.body) s.body in
    let body = s.body in
    omega (arith, block_size block, block_size less)

-- ---- lists of blocks

pub shrunk_size : (all less : List Block) → Shrunk all less → length (spelled less) ≤ length (spelled all)
shrunk_size [] less is = rw is (omega arith)
shrunk_size (block ∷ more) less (inl out) = let rest = shrunk_size more less out.1 in omega (arith, length-append (blocks.spelling block) (spelled more))
shrunk_size (block ∷ more) less (inr (first, others, is, s, rest)) =
    let one = shrinks_size block first s in
    let two = shrunk_size more others rest in
    rw is (omega (arith, length-append (blocks.spelling block) (spelled more), length-append (blocks.spelling first) (spelled others)))

pub shrunk_count : (all less : List Block) → Shrunk all less → length less ≤ length all
shrunk_count [] less is = rw is (omega arith)
shrunk_count (block ∷ more) less (inl out) = let rest = shrunk_count more less out.1 in omega arith
shrunk_count (block ∷ more) less (inr (first, others, is, s, rest)) = let two = shrunk_count more others rest in rw is (omega arith)

-- each comes from a block of the list
pub shrunk_from : (all less : List Block) (b : Block) → Shrunk all less → Among b less → (a : Block) × Among a all × Shrinks a b
shrunk_from [] less b is there = let none : Among b [] = subst (Among b) is there in absurd none
shrunk_from (block ∷ more) less b (inl out) there = let f = shrunk_from more less b out.1 there in (f.0, inr f.1, f.2)
shrunk_from (block ∷ more) less b (inr (first, others, is, s, rest)) there =
    let there' : Among b (first ∷ others) = subst (Among b) is there in
    elim there' [
      | inl e ↦ (block, inl refl, subst (Shrinks block) e s)
      | inr more_there ↦ let f = shrunk_from more others b rest more_there in (f.0, inr f.1, f.2)
    ]

shrunk_all : (P : Block → Type 0) (all less : List Block) → ((a b : Block) → Shrinks a b → P a → P b) → Shrunk all less → All P all → All P less
shrunk_all P all less keeps is holds =
    all_members P less (λ b there. let f = shrunk_from all less b is there in keeps f.0 b f.2 (All-contains P all f.0 holds (contains all f.0 f.1)))

head_pairs : (R : Block → Block → Type 0) (block : Block) (more : List Block) (b : Block) → AllPairs R (block ∷ more) → Among b more → R block b
head_pairs R block more b pairs there =
    let at = contains more b there in
    subst (R block) at.2 (pairs 0 (suc at.0) b (omega arith) (omega (arith, at.1)))

tail_pairs : (R : Block → Block → Type 0) (block : Block) (more : List Block) → AllPairs R (block ∷ more) → AllPairs R more
tail_pairs R block more pairs i j d lt in' = pairs (suc i) (suc j) d (omega arith) (omega arith)

no_pairs : (R : Block → Block → Type 0) → AllPairs R []
no_pairs R i j d lt in' = absurd (omega arith)

pub shrunk_pairs : (R : Block → Block → Type 0) (all less : List Block) → ((a b a' b' : Block) → Shrinks a a' → Shrinks b b' → R a b → R a' b') → Shrunk all less → AllPairs R all → AllPairs R less
shrunk_pairs R [] less keeps is pairs = subst (AllPairs R) (sym is) (no_pairs R)
shrunk_pairs R (block ∷ more) less keeps (inl out) pairs = shrunk_pairs R more less keeps out.1 (tail_pairs R block more pairs)
shrunk_pairs R (block ∷ more) less keeps (inr (first, others, is, s, rest)) pairs =
    subst (AllPairs R) (sym is)
    (AllPairs-cons R first others
    (all_members (R first) others (λ b there. let f = shrunk_from more others b rest there in keeps block f.0 first b s f.2 (head_pairs R block more f.0 pairs f.1)))
    (shrunk_pairs R more others keeps rest (tail_pairs R block more pairs)))

-- ---- the payload block stays the last

abbrev Last : List Block → Type 0
Last [] = ⊥
Last (block ∷ []) = IsPayload block
Last (block ∷ next ∷ more) = Last (next ∷ more)

one_more : (n : ℕ) → suc (suc n) - 1 ≡ suc (suc n - 1)
one_more n = omega arith

last_from : (blocks : List Block) (d : Block) → 1 ≤ length blocks → HoldsAt IsPayload blocks (length blocks - 1) → Last blocks
last_from [] d some is = absurd (omega arith)
last_from (block ∷ []) d some is = is d
last_from (block ∷ next ∷ more) d some is =
    last_from (next ∷ more) d (omega arith) (λ d'. subst (λ i. IsPayload (get_or (block ∷ next ∷ more) i d')) (one_more (length more)) (is d'))

last_to : (blocks : List Block) → Last blocks → HoldsAt IsPayload blocks (length blocks - 1)
last_to [] is d = absurd is
last_to (block ∷ []) is d = is
last_to (block ∷ next ∷ more) is d = subst (λ i. IsPayload (get_or (block ∷ next ∷ more) i d)) (sym (one_more (length more))) (last_to (next ∷ more) is d)

payload_shrinks : (a b : Block) → Shrinks a b → IsPayload a → IsPayload b
payload_shrinks a b s is = (s.kind ∙ is.0, s.number ∙ is.1)

last_more : (first : Block) (others : List Block) → Last others → Last (first ∷ others)
last_more first [] is = absurd is
last_more first (next ∷ more) is = is

last_shrunk : (all less : List Block) → Shrunk all less → Last all → Last less
last_shrunk [] less is last = absurd last
last_shrunk (block ∷ []) less (inl out) last = absurd (out.0 last.1)
last_shrunk (block ∷ []) less (inr (first, others, is, s, rest)) last =
    let same : less ≡ first ∷ [] = is ∙ ap (λ (bs : List Block). first ∷ bs) rest in
    subst Last (sym same) (payload_shrinks block first s last)
last_shrunk (block ∷ next ∷ more) less (inl out) last = last_shrunk (next ∷ more) less out.1 last
last_shrunk (block ∷ next ∷ more) less (inr (first, others, is, s, rest)) last = subst Last (sym is) (last_more first others (last_shrunk (next ∷ more) others rest last))

some_last : (blocks : List Block) → Last blocks → 1 ≤ length blocks
some_last [] last = absurd last
some_last (block ∷ more) last = omega arith

-- ---- bundles

block_shrinks : (a b : Block) → Shrinks a b → IsBlock a → IsBlock b
block_shrinks a b s is = record {
  kind = rw s.kind is.kind;
  number = rw s.number is.number;
  flags = rw s.flags is.flags;
  body = let x = is.body in let y = s.body in omega arith;
}

numbered_shrinks : (a b : Block) → Shrinks a b → IsNumbered a → IsNumbered b
numbered_shrinks a b s is = rw (s.kind, s.number) is

differ_shrinks : (a b a' b' : Block) → Shrinks a a' → Shrinks b b' → Differ a b → Differ a' b'
differ_shrinks a b a' b' s t is = rw (s.number, t.number) is

once_shrinks : (a b a' b' : Block) → Shrinks a a' → Shrinks b b' → Once a b → Once a' b'
once_shrinks a b a' b' s t is = rw (s.kind, t.kind) is

any_block : (bundle : Contents) → IsBundle bundle → Block
any_block bundle is = first bundle.blocks is.some
  where
    first : (blocks : List Block) → 1 ≤ length blocks → Block
    first [] some = absurd (omega arith)
    first (block ∷ more) some = block

pub shrunk_spelling : (bundle : Contents) (less : List Block) → Shrunk bundle.blocks less → length (spelling (record bundle { blocks = less })) ≤ length (spelling bundle)
shrunk_spelling bundle less is =
    let size = shrunk_size bundle.blocks less is in
    omega (arith, whole_size bundle, whole_size (record bundle { blocks = less }))

-- what is left is a bundle
pub shrunk_bundle : (bundle : Contents) (less : List Block) → IsBundle bundle → Shrunk bundle.blocks less → IsBundle (record bundle { blocks = less })
shrunk_bundle bundle less is shrunk =
    let last : Last less = last_shrunk bundle.blocks less shrunk (last_from bundle.blocks (any_block bundle is) is.some is.payload_last) in
    record {
      primary = is.primary;
      blocks = shrunk_all IsBlock bundle.blocks less block_shrinks shrunk is.blocks;
      some = some_last less last;
      few = let few = is.few in let count = shrunk_count bundle.blocks less shrunk in omega arith;
      numbered = shrunk_all IsNumbered bundle.blocks less numbered_shrinks shrunk is.numbered;
      distinct = shrunk_pairs Differ bundle.blocks less differ_shrinks shrunk is.distinct;
      once = shrunk_pairs Once bundle.blocks less once_shrinks shrunk is.once;
      payload_last = last_to less last;
      within = let within = is.within in let size = shrunk_spelling bundle less shrunk in omega arith;
    }

-- a map that lets each block shrink
pub shrunk_map : (f : Block → Block) (all : List Block) → ((block : Block) → Among block all → Shrinks block (f block)) → Shrunk all (map f all)
shrunk_map f [] each = refl
shrunk_map f (block ∷ more) each = inr (f block, map f more, refl, each block (inl refl), shrunk_map f more (λ b there. each b (inr there)))

-- the body of a block of a bundle is shorter than the bundle may be
pub body_within : (bundle : Contents) (block : Block) → IsBundle bundle → Among block bundle.blocks → length block.body ≤ BUNDLE_LIMIT
body_within bundle block is there =
    let one = body_in_spelled bundle.blocks block there in
    let within = is.within in
    omega (arith, whole_size bundle)
  where
    body_in_spelled : (blocks : List Block) (block : Block) → Among block blocks → length block.body ≤ length (spelled blocks)
    body_in_spelled [] block there = absurd there
    body_in_spelled (first ∷ more) block (inl e) = subst (λ (b : Block). length b.body ≤ length (spelled (first ∷ more))) e (omega (arith, block_size first, length-append (blocks.spelling first) (spelled more)))
    body_in_spelled (first ∷ more) block (inr there) = let rest = body_in_spelled more block there in omega (arith, length-append (blocks.spelling first) (spelled more))
