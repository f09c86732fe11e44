-- What is read as canonical blocks, or as a bundle, is spelled so and keeps the rules.
use Rattle.std.proofs.Common.{◌≡◌, ℕ, zero, suc, ◌+◌, ◌-◌, ◌^◌, ◌<◌, ◌≤◌, Bool, true, false, not, cond, ltb, eqb, ◌||◌, List, [], ◌∷◌, ◌++◌, length, get_or, None, Ok, refl, sym, ◌∙◌, ap, subst, append_assoc, append-nil, arith}
use Rattle.std.specs.Prelude.{bytes_eq}
use Rattle.std.specs.List.{All, HoldsAt, flat_map}
use Rattle.std.proofs.lemmas.Bool.{ltb-true, eqb-true, or_from}
use Rattle.std.proofs.lemmas.List.{length-append}
use Rattle.cbor_profile.specs.Head.{head_spelling}
use Rattle.cbor_profile.specs.Put.{uint, array_head, byte_string}
use Rattle.cbor_profile.specs.Step.{◌>>=◌}
use Rattle.cbor_profile.specs.declared.TheConstants.{BUNDLE_LIMIT}
use Rattle.cbor_profile.specs.declared.fault.Reason.{Reason}
use Rattle.cbor_profile.specs.declared.fault.Reason.TheVariants as reasons
use Rattle.bp_crc.specs.declared.kind.CheckKind.{CheckKind}
use Rattle.bp_crc.specs.declared.kind.CheckKind.TheVariants as kinds
use Rattle.bp_crc.specs.Item.{check_type, check_count, check_item}
use Rattle.bp_primary.specs.declared.primary.Primary.{Primary}
use Rattle.bp_primary.specs.Spelling as primaries
use Rattle.bp_blocks.specs.declared.block.Block.{Block}
use Rattle.bp_blocks.specs.Spelling as blocks
use Rattle.bp_blocks.specs.Spelling.{IsBlock}
use Rattle.bp_bundle.specs.declared.header.Header.{Header}
use Rattle.bp_bundle.specs.declared.token.Token.TheVariants as tokens
use Rattle.bp_bundle.specs.Shape.{Contents}
use Rattle.bp_bundle.specs.Spelling.{IsPayload, IsNumbered, IsBundle, spelling}
use Rattle.bp_bundle.specs.Faults.{may_have, has_number, has_single, is_repeated, repeated_from, is_payload}
use Rattle.bp_bundle.specs.Tokens.{Cursor, stops, argument_at}
use Rattle.bp_bundle.specs.FirstFault.{content_at, check_type_at, check_string_at, check_at, primary_at, header_at, block_of, block_check, blocks_at, end_at, begin_at, after_byte, bundle_at, front_at}
use Rattle.bp_bundle.proofs.HeadsAsSpelled.{IsBytes, bind_ok, ok_is, Took, took-then, took-same, argument_means}
use Rattle.bp_bundle.proofs.ReadPrimaryIsSpelled.{Laws, first_holds, content_means, check_type_means, check_means, check_size, primary_means}
use Rattle.bp_bundle.proofs.ShapeRules.{numbered_is, all_differ, payload_is}

pub not_true : (b : Bool) → not b ≡ true → b ≡ false
not_true true is = absurd cc
not_true false is = refl

-- ---- one block

-- the head of the array of a block, and its fields up to the body's head
unfoldable pub header_text : Header → List ℕ
header_text header = array_head (5 + check_count header.crc) ++ uint header.kind ++ uint header.number ++ uint header.flags ++ uint (check_type header.crc) ++ head_spelling 2 header.len

pub record ReadsHeader (before : List Block) (cursor : Cursor) (header : Header) (after : Cursor) : Type 0 where
  pub took : Took (header_text header) cursor after
  pub kind : header.kind < 2 ^ 64
  pub number : header.number < 2 ^ 64
  pub flags : header.flags < 2 ^ 64
  pub few : length before < 64
  pub numbered : may_have header.kind header.number ≡ true
  pub new : is_repeated before (block_of header []) ≡ false
  pub room : after.at + header.len < BUNDLE_LIMIT

pub five_or_six : (items : ℕ) (checked : Bool) → (eqb items 5 || eqb items 6) ≡ true → eqb items 6 ≡ checked → items ≡ 5 + cond checked 1 0
five_or_six items true e f = eqb-true items 6 f
five_or_six items false e f = eqb-true items 5 (first_of (eqb items 5) (eqb items 6) e f)
  where
    first_of : (a b : Bool) → (a || b) ≡ true → b ≡ false → a ≡ true
    first_of true b e f = refl
    first_of false b e f = absurd cc

pub header_means : (laws : Laws) (before : List Block) (cursor : Cursor) (x : Header × Cursor) → IsBytes cursor.rest → header_at before cursor ≡ Ok x → ReadsHeader before cursor x.0 x.1
unfolding header_at header_text array_head uint
header_means laws before cursor x fits e =
    let i = bind_ok (argument_at before tokens.BlockArray cursor) _ x e in
    let ri = argument_means laws.heads before tokens.BlockArray cursor i.0 fits i.1 in
    let k = bind_ok (argument_at before tokens.BlockType i.0.1) _ x i.2 in
    let rk = argument_means laws.heads before tokens.BlockType i.0.1 k.0 ri.took.fits k.1 in
    let n = bind_ok (argument_at before (tokens.BlockNumber k.0.0) k.0.1) _ x k.2 in
    let rn = argument_means laws.heads before (tokens.BlockNumber k.0.0) k.0.1 n.0 rk.took.fits n.1 in
    let f = bind_ok (argument_at before tokens.Number n.0.1) _ x n.2 in
    let rf = argument_means laws.heads before tokens.Number n.0.1 f.0 rn.took.fits f.1 in
    let c = bind_ok (check_type_at (eqb i.0.0 6) f.0.1) _ x f.2 in
    let rc = check_type_means laws (eqb i.0.0 6) f.0.1 c.0 rf.took.fits c.1 in
    let l = bind_ok (argument_at before tokens.Body c.0.1) _ x c.2 in
    let rl = argument_means laws.heads before tokens.Body c.0.1 l.0 rc.took.fits l.1 in
    let some = first_holds (eqb i.0.0 5 || eqb i.0.0 6) reasons.WrongCount _ ri.none_fails in
    let few = first_holds (ltb (length before) 64) reasons.TooLong None some.1 in
    let single = first_holds (not (has_single before k.0.0)) reasons.Repeated None rk.none_fails in
    let number = first_holds (may_have k.0.0 n.0.0) reasons.WrongValue _ rn.none_fails in
    let unused = first_holds (not (has_number before n.0.0)) reasons.Repeated None number.1 in
    let count : i.0.0 ≡ 5 + check_count c.0.0 = five_or_six i.0.0 (eqb i.0.0 6) some.0 refl ∙ ap (λ (m : ℕ). 5 + m) (sym rc.count) in
    let head = took-same _ _ cursor i.0.1 (ap (head_spelling 4) count) ri.took in
    subst (λ (y : Header × Cursor). ReadsHeader before cursor y.0 y.1) (ok_is (record { kind = k.0.0; number = n.0.0; flags = f.0.0; crc = c.0.0; len = l.0.0 }, l.0.1) x l.2) (record {
      took = took-then _ _ cursor c.0.1 l.0.1 (took-then _ _ cursor f.0.1 c.0.1 (took-then _ _ cursor n.0.1 f.0.1 (took-then _ _ cursor k.0.1 n.0.1 (took-then _ _ cursor i.0.1 k.0.1 head rk.took) rn.took) rf.took) rc.took) rl.took;
      kind = rk.fits;
      number = rn.fits;
      flags = rf.fits;
      few = ltb-true _ _ few.0;
      numbered = number.0;
      new = or_from (has_number before n.0.0) (has_single before k.0.0) (not_true _ unused.0) (not_true _ single.0);
      room = rl.room;
    })

-- where a check was read, there is room for the end
pub string_room : (laws : Laws) (kind : CheckKind) (check : List ℕ) (cursor after : Cursor) → IsBytes cursor.rest → check_string_at kind check cursor ≡ Ok after → after.at < BUNDLE_LIMIT
unfolding check_string_at
string_room laws kind check cursor after fits e =
    let b = bind_ok (argument_at [] (tokens.CheckString kind) cursor) _ after e in
    let h = argument_means laws.heads [] (tokens.CheckString kind) cursor b.0 fits b.1 in
    let c = bind_ok (content_at b.0.0 b.0.1) _ after b.2 in
    let content = content_means b.0.0 b.0.1 c.0 h.took.fits c.1 in
    let room = h.room in
    let moved = content.took.moved in
    let long = content.long in
    let end : c.0.1.at < BUNDLE_LIMIT = omega arith in
    subst (λ (c : Cursor). c.at < BUNDLE_LIMIT) (passed_through (bytes_eq c.0.0 check) b.0.1 reasons.WrongCheck c.0.1 after c.2) end
  where
    passed_through : (b : Bool) (cursor : Cursor) (reason : Reason) (x y : Cursor) → cond b (Ok x) (stops cursor reason) ≡ Ok y → x ≡ y
    passed_through true cursor reason x y e = ok_is x y e
    passed_through false cursor reason x y e = absurd cc

check_room : (laws : Laws) (kind : CheckKind) (check : List ℕ) (cursor after : Cursor) → IsBytes cursor.rest → cursor.at < BUNDLE_LIMIT → check_at kind check cursor ≡ Ok after → after.at < BUNDLE_LIMIT
unfolding check_at
check_room laws kinds.None check cursor after fits room e = subst (λ (c : Cursor). c.at < BUNDLE_LIMIT) (ok_is cursor after e) room
check_room laws kinds.Crc16 check cursor after fits room e = string_room laws kinds.Crc16 check cursor after fits e
check_room laws kinds.Crc32c check cursor after fits room e = string_room laws kinds.Crc32c check cursor after fits e

-- a block that was read, up to the end of its check
pub record ReadsBlock (before : List Block) (cursor : Cursor) (block : Block) (after : Cursor) : Type 0 where
  pub took : Took (blocks.spelling block) cursor after
  pub fits : IsBlock block
  pub few : length before < 64
  pub numbered : may_have block.kind block.number ≡ true
  pub new : is_repeated before block ≡ false
  pub room : after.at < BUNDLE_LIMIT

pub block_text : (header : Header) (body : List ℕ) → length body ≡ header.len
    → header_text header ++ body ++ check_item header.crc (block_check (block_of header body)) ≡ blocks.spelling (block_of header body)
unfolding header_text blocks.spelling blocks.array_with byte_string
block_text header body long =
    let block = block_of header body in
    let fields = array_head (5 + check_count header.crc) ++ uint header.kind ++ uint header.number ++ uint header.flags ++ uint (check_type header.crc) in
    rw (← long) (ap (λ (t : List ℕ). t ++ check_item header.crc (block_check block)) (append_assoc fields (head_spelling 2 (length body)) body))

-- the rest of a block after its header
pub body_means : (laws : Laws) (before : List Block) (cursor : Cursor) (header : Header) (start : Cursor) (body : List ℕ) (middle after : Cursor) → ReadsHeader before cursor header start
    → content_at header.len start ≡ Ok (body, middle) → check_at header.crc (block_check (block_of header body)) middle ≡ Ok after → ReadsBlock before cursor (block_of header body) after
body_means laws before cursor header start body middle after rh eb ec =
    let content = content_means header.len start (body, middle) rh.took.fits eb in
    let check = check_means laws header.crc (block_check (block_of header body)) middle after (check_size header.crc _) content.took.fits ec in
    let moved = content.took.moved in
    let long = content.long in
    let room = rh.room in
    let short : middle.at < BUNDLE_LIMIT = omega arith in
    record {
      took = took-same _ _ cursor after (block_text header body long) (took-then _ _ cursor middle after (took-then _ _ cursor start middle rh.took content.took) check);
      fits = record { kind = rh.kind; number = rh.number; flags = rh.flags; body = omega arith };
      few = rh.few;
      numbered = rh.numbered;
      new = rh.new;
      room = check_room laws header.crc (block_check (block_of header body)) middle after content.took.fits short ec;
    }

-- ---- the blocks

record ReadsTail (before tail : List Block) (cursor after : Cursor) : Type 0 where
  pub took : Took (flat_map blocks.spelling tail ++ 0xff ∷ []) cursor after
  pub fits : All IsBlock tail
  pub numbered : All IsNumbered tail
  pub unrepeated : repeated_from before tail ≡ None
  pub some : 1 ≤ length tail
  pub few : length before + length tail ≤ 64
  pub payload_last : HoldsAt IsPayload tail (length tail - 1)
  pub room : after.at ≤ BUNDLE_LIMIT

-- all the blocks that were read: those before, and more
record ReadsBlocks (before : List Block) (cursor : Cursor) (all : List Block) (after : Cursor) : Type 0 where
  pub tail : List Block
  pub whole : all ≡ before ++ tail
  pub reads : ReadsTail before tail cursor after

through : (b : Bool) (cursor x y : Cursor) → cond b (Ok x) (stops cursor reasons.WrongKind) ≡ Ok y → (b ≡ true) × (x ≡ y)
through true cursor x y e = (refl, ok_is x y e)
through false cursor x y e = absurd cc

end_means : (cursor after : Cursor) → IsBytes cursor.rest → cursor.at < BUNDLE_LIMIT → end_at cursor ≡ Ok after → Took (0xff ∷ []) cursor after × (after.at ≤ BUNDLE_LIMIT)
unfolding end_at
end_means cursor after fits room e = end_by cursor.at cursor.rest after fits room e
  where
    end_by : (at : ℕ) (rest : List ℕ) (after : Cursor) → IsBytes rest → at < BUNDLE_LIMIT
        → after_byte 0xff (stops (record { at = at; rest = rest }) reasons.WrongKind) (record { at = at; rest = rest }) rest ≡ Ok after → Took (0xff ∷ []) (record { at = at; rest = rest }) after × (after.at ≤ BUNDLE_LIMIT)
    end_by at [] after fits room e = absurd cc
    end_by at (first ∷ rest) after fits room e =
        let p = through (eqb first 0xff) (record { at = at; rest = first ∷ rest }) (record { at = at + 1; rest = rest }) after e in
        let same : first ≡ 0xff = eqb-true first 0xff p.0 in
        subst (λ (c : Cursor). Took (0xff ∷ []) (record { at = at; rest = first ∷ rest }) c × (c.at ≤ BUNDLE_LIMIT)) p.1
        (record { parts = rw same refl; moved = refl; fits = λ i. fits (suc i) }, omega arith)

pub last_one : (block : Block) → is_payload block ≡ true → HoldsAt IsPayload (block ∷ []) (length (block ∷ []) - 1)
last_one block is = λ d. payload_is block is

pub last_more : (block : Block) (tail : List Block) → 1 ≤ length tail → HoldsAt IsPayload tail (length tail - 1) → HoldsAt IsPayload (block ∷ tail) (length (block ∷ tail) - 1)
last_more block [] some last = absurd (omega arith)
last_more block (next ∷ tail) some last = λ d.
    let one : length (block ∷ next ∷ tail) - 1 ≡ suc (length (next ∷ tail) - 1) = omega arith in
    rw one (last d)

pub all_more : (P : Block → Type 0) (block : Block) (tail : List Block) → P block → All P tail → All P (block ∷ tail)
all_more P block tail here more = at
  where
    at : (k : ℕ) (d : Block) → k < suc (length tail) → P (get_or (block ∷ tail) k d)
    at zero d within = here
    at (suc k) d within = more k d (omega arith)

-- a block, and those after it
tail_more : (before : List Block) (block : Block) (tail : List Block) (cursor middle after : Cursor) → ReadsBlock before cursor block middle → ReadsTail (before ++ block ∷ []) tail middle after
    → ReadsTail before (block ∷ tail) cursor after
tail_more before block tail cursor middle after one more =
    let few = more.few in
    record {
      took = took-same _ _ cursor after (sym (append_assoc (blocks.spelling block) (flat_map blocks.spelling tail) (0xff ∷ []))) (took-then _ _ cursor middle after one.took more.took);
      fits = all_more IsBlock block tail one.fits more.fits;
      numbered = all_more IsNumbered block tail (numbered_is block.kind block.number one.numbered) more.numbered;
      unrepeated = rw one.new more.unrepeated;
      some = omega arith;
      few = omega (arith, length-append before (block ∷ []));
      payload_last = last_more block tail more.some more.payload_last;
      room = more.room;
    }

tail_one : (before : List Block) (block : Block) (cursor middle after : Cursor) → ReadsBlock before cursor block middle → is_payload block ≡ true → Took (0xff ∷ []) middle after → after.at ≤ BUNDLE_LIMIT
    → ReadsTail before (block ∷ []) cursor after
tail_one before block cursor middle after one payload end room =
    let few = one.few in
    record {
      took = took-same _ _ cursor after (ap (λ (t : List ℕ). t ++ 0xff ∷ []) (sym (append-nil (blocks.spelling block)))) (took-then _ _ cursor middle after one.took end);
      fits = all_more IsBlock block [] one.fits (λ k d within. absurd (omega arith));
      numbered = all_more IsNumbered block [] (numbered_is block.kind block.number one.numbered) (λ k d within. absurd (omega arith));
      unrepeated = rw one.new refl;
      some = omega arith;
      few = omega arith;
      payload_last = last_one block payload;
      room = room;
    }

next_by : (laws : Laws) (more : ℕ) (before : List Block) (block : Block) (cursor middle : Cursor) (x : List Block × Cursor) (payload : Bool) → is_payload block ≡ payload → ReadsBlock before cursor block middle
    → ((b : List Block) (c : Cursor) (y : List Block × Cursor) → IsBytes c.rest → blocks_at more b c ≡ Ok y → ReadsBlocks b c y.0 y.1)
    → cond payload (end_at middle >>= λ after. Ok (before ++ block ∷ [], after)) (blocks_at more (before ++ block ∷ []) middle) ≡ Ok x → ReadsBlocks before cursor x.0 x.1
next_by laws more before block cursor middle x true payload one rec e =
    let b = bind_ok (end_at middle) _ x e in
    let end = end_means middle b.0 one.took.fits one.room b.1 in
    subst (λ (y : List Block × Cursor). ReadsBlocks before cursor y.0 y.1) (ok_is (before ++ block ∷ [], b.0) x b.2)
    (record { tail = block ∷ []; whole = refl; reads = tail_one before block cursor middle b.0 one payload end.0 end.1 })
next_by laws more before block cursor middle x false payload one rec e =
    let r = rec (before ++ block ∷ []) middle x one.took.fits e in
    record { tail = block ∷ r.tail; whole = r.whole ∙ append_assoc before (block ∷ []) r.tail; reads = tail_more before block r.tail cursor middle x.1 one r.reads }

blocks_means : (laws : Laws) (more : ℕ) (before : List Block) (cursor : Cursor) (x : List Block × Cursor) → IsBytes cursor.rest → blocks_at more before cursor ≡ Ok x → ReadsBlocks before cursor x.0 x.1
unfolding blocks_at
blocks_means laws zero before cursor x fits e = absurd cc
blocks_means laws (suc more) before cursor x fits e =
    let h = bind_ok (header_at before cursor) _ x e in
    let rh = header_means laws before cursor h.0 fits h.1 in
    let b = bind_ok (content_at h.0.0.len h.0.1) _ x h.2 in
    let block = block_of h.0.0 b.0.0 in
    let c = bind_ok (check_at block.crc (block_check block) b.0.1) _ x b.2 in
    let one = body_means laws before cursor h.0.0 h.0.1 b.0.0 b.0.1 c.0 rh b.1 c.1 in
    next_by laws more before block cursor c.0 x (is_payload block) refl one (blocks_means laws more) c.2

-- ---- bundles

pub begin_means : (cursor after : Cursor) → IsBytes cursor.rest → begin_at cursor ≡ Ok after → Took (0x9f ∷ []) cursor after
unfolding begin_at
begin_means cursor after fits e = begin_by cursor.at cursor.rest after fits e
  where
    passed_by : (b : Bool) (cursor x y : Cursor) → cond b (Ok x) (stops cursor reasons.NotBundle) ≡ Ok y → (b ≡ true) × (x ≡ y)
    passed_by true cursor x y e = (refl, ok_is x y e)
    passed_by false cursor x y e = absurd cc

    begin_by : (at : ℕ) (rest : List ℕ) (after : Cursor) → IsBytes rest
        → after_byte 0x9f (stops (record { at = at; rest = rest }) reasons.NotBundle) (record { at = at; rest = rest }) rest ≡ Ok after → Took (0x9f ∷ []) (record { at = at; rest = rest }) after
    begin_by at [] after fits e = absurd cc
    begin_by at (first ∷ rest) after fits e =
        let p = passed_by (eqb first 0x9f) (record { at = at; rest = first ∷ rest }) (record { at = at + 1; rest = rest }) after e in
        let same : first ≡ 0x9f = eqb-true first 0x9f p.0 in
        subst (λ (c : Cursor). Took (0x9f ∷ []) (record { at = at; rest = first ∷ rest }) c) p.1 (record { parts = rw same refl; moved = refl; fits = λ i. fits (suc i) })

-- a bundle that was read
pub record ReadsBundle (cursor : Cursor) (bundle : Contents) (after : Cursor) : Type 0 where
  pub took : Took (spelling bundle) cursor after
  pub shape : cursor.at ≡ 0 → IsBundle bundle

pub regrouped : (primary : Primary) (tail : List Block) → (0x9f ∷ []) ++ (primaries.spelling primary ++ (flat_map blocks.spelling tail ++ 0xff ∷ [])) ≡ spelling (record { primary = primary; blocks = tail })
unfolding spelling
regrouped primary tail = ap (λ (t : List ℕ). 0x9f ∷ t) (sym (append_assoc (primaries.spelling primary) (flat_map blocks.spelling tail) (0xff ∷ [])))

-- the parts make a bundle
whole_means : (cursor : Cursor) (primary : Primary) (tail : List Block) (middle after : Cursor) → Took (spelling (record { primary = primary; blocks = tail })) cursor after → primaries.IsPrimary primary
    → ReadsTail [] tail middle after → ReadsBundle cursor (record { primary = primary; blocks = tail }) after
whole_means cursor primary tail middle after took fits reads = record {
  took = took;
  shape = λ start.
      let apart = all_differ [] tail reads.unrepeated (λ i j d below within. absurd (omega arith)) (λ i j d below within. absurd (omega arith)) in
      let moved = took.moved in
      let room = reads.room in
      let few = reads.few in
      record {
        primary = fits;
        blocks = reads.fits;
        some = reads.some;
        few = omega arith;
        numbered = reads.numbered;
        distinct = apart.0;
        once = apart.1;
        payload_last = reads.payload_last;
        within = omega arith;
      };
}

pub bundle_means : (laws : Laws) (cursor : Cursor) (x : Contents × Cursor) → IsBytes cursor.rest → bundle_at cursor ≡ Ok x → ReadsBundle cursor x.0 x.1
unfolding bundle_at front_at
bundle_means laws cursor x fits e =
    let f = bind_ok (begin_at cursor >>= primary_at) _ x e in
    let b = bind_ok (begin_at cursor) primary_at f.0 f.1 in
    let rb = begin_means cursor b.0 fits b.1 in
    let rp = primary_means laws b.0 f.0 rb.fits b.2 in
    let k = bind_ok (blocks_at 65 [] f.0.1) _ x f.2 in
    let rk = blocks_means laws 65 [] f.0.1 k.0 rp.took.fits k.1 in
    let took = took-same _ _ cursor k.0.1 (regrouped f.0.0 rk.tail) (took-then _ _ cursor b.0 k.0.1 rb (took-then _ _ b.0 f.0.1 k.0.1 rp.took rk.reads.took)) in
    let whole = whole_means cursor f.0.0 rk.tail f.0.1 k.0.1 took rp.fits rk.reads in
    let P : List Block → Type 0 = λ bs. ReadsBundle cursor (record { primary = f.0.0; blocks = bs }) k.0.1 in
    subst (λ (y : Contents × Cursor). ReadsBundle cursor y.0 y.1) (ok_is (record { primary = f.0.0; blocks = k.0.0 }, k.0.1) x k.2) (subst P (sym rk.whole) whole)
