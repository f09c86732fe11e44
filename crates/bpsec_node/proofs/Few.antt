-- A session has at most 4,096 operations.
use Rattle.std.proofs.Common.{◌≡◌, ℕ, zero, suc, ◌+◌, ◌*◌, ◌<◌, ◌≤◌, inl, inr, Bool, true, false, ◌&&◌, cond, eqb, not, List, [], ◌∷◌, ◌++◌, length, map, Result, Ok, Err, refl, sym, ◌∙◌, ap, subst, arith, length-append}
use Rattle.std.specs.Prelude.{filter, nat_le, ◌==◌, if◌then◌else◌}
use Rattle.std.proofs.lemmas.List.{length-map}
use Rattle.std.proofs.lemmas.Bool.{leb-true, eqb-true, ne_eqb}
use Rattle.std.specs.List.{flat_map, list_any}
use Rattle.cbor_profile.specs.declared.fault.Fault.{Fault}
use Rattle.cbor_profile.specs.declared.fault.Reason.TheVariants as reasons
use Rattle.cbor_profile.specs.declared.head.Head.{Head}
use Rattle.cbor_profile.specs.Step.{◌>>=◌}
use Rattle.bp_eid.specs.declared.stop.Stop.{Stop}
use Rattle.bp_eid.specs.Reading.{stops, head_at, number_at, id_at}
use Rattle.bp_blocks.specs.declared.block.Block.{Block}
use Rattle.bp_bundle.specs.Spelling.{IsBundle}
use Rattle.bpsec_asb.specs.declared.asb.Asb.{Asb}
use Rattle.bpsec_asb.specs.declared.operation.Service.{Service}
use Rattle.bpsec_asb.specs.declared.operation.Service.TheVariants.{Bib, Bcb}
use Rattle.bpsec_asb.specs.declared.operation.OpId.{OpId}
use Rattle.bpsec_asb.specs.Reading.{count_at, each_at, array_at, target_at, context_at, parameters_at, results_at, asb_at, ends, body_at, answer, read_body}
use Rattle.bpsec_asb.specs.Operations.{NumbersAreDistinct}
use Rattle.bpsec_asb.specs.Known.{operation, held_by, targets_of, ciphers}
use Rattle.bpsec_asb.proofs.Members.{Among, among-map, among-filter, from-filter, among-flat_map, from-flat_map}
use Rattle.bpsec_node.specs.Situation.{Situation, is_op}
use Rattle.bpsec_node.specs.Plain.{is_opened, plain_block, plain}
use Rattle.bpsec_node.specs.AllOperations.{revealed, all_operations}
use Rattle.bpsec_node.specs.Order.{Legal}
use Rattle.bpsec_node.proofs.Members.{both, is_op_same, is_op_itself, from_known, from_all}
use Rattle.bpsec_node.proofs.Operations.{at_itself, uncovered, plain_uncovered, held_target}
use Rattle.bpsec_node.proofs.OutcomeSame.{bcb_uncovered}
use Rattle.bpsec_node.proofs.Legal.{Once, done_once, done_among_all}

-- ---- lists without repeats

others : OpId → List OpId → List OpId
others op ops = filter (λ o. not (is_op op o)) ops

fewer_if : (op one : OpId) (ops : List OpId) (b : Bool) → is_op op one ≡ b → (Among op ops → length (filter (λ o. not (is_op op o)) ops) < length ops) → length (filter (λ o. not (is_op op o)) ops) ≤ length ops → Among op (one ∷ ops)
    → length (cond (not b) (one ∷ filter (λ o. not (is_op op o)) ops) (filter (λ o. not (is_op op o)) ops)) < suc (length ops)
fewer_if op one ops true is more le there = omega arith
fewer_if op one ops false is more le (inl e) = let t : false ≡ true = sym is ∙ (ap (λ o. is_op op o) e ∙ is_op_itself op) in absurd_at t
  where
    absurd_at : false ≡ true → length (one ∷ filter (λ o. not (is_op op o)) ops) < suc (length ops)
    absurd_at t = absurd cc
fewer_if op one ops false is more le (inr there) = let lt = more there in omega arith

filter_few : (p : OpId → Bool) (ops : List OpId) → length (filter p ops) ≤ length ops
filter_few p [] = omega arith
filter_few p (op ∷ ops) = one (p op) (filter_few p ops)
  where
    one : (b : Bool) → length (filter p ops) ≤ length ops → length (cond b (op ∷ filter p ops) (filter p ops)) ≤ suc (length ops)
    one true le = omega arith
    one false le = omega arith

fewer : (op : OpId) (ops : List OpId) → Among op ops → length (filter (λ o. not (is_op op o)) ops) < length ops
fewer op [] there = absurd there
fewer op (one ∷ ops) there = fewer_if op one ops (is_op op one) refl (λ more. fewer op ops more) (filter_few (λ o. not (is_op op o)) ops) there

apart : (op other : OpId) → (op ≡ other → ⊥) → not (is_op op other) ≡ true
apart op other differ = cases (is_op op other) refl
  where
    cases : (b : Bool) → is_op op other ≡ b → not (is_op op other) ≡ true
    cases true is = absurd (differ (is_op_same op other is))
    cases false is = ap not is

-- a list without repeats whose members stand in another isn't longer than that
pub once_within : (xs ys : List OpId) → Once xs → ((op : OpId) → Among op xs → Among op ys) → length xs ≤ length ys
once_within [] ys once within = omega arith
once_within (x ∷ xs) ys once within =
    let rest = once_within xs (filter (λ o. not (is_op x o)) ys) once.1
    (λ op there. among-filter (λ o. not (is_op x o)) ys op (within op (inr there)) (apart x op (λ e. once.0 (subst (λ o. Among o xs) (sym e) there)))) in
    let less = fewer x ys (within x (inl refl)) in
    omega arith

-- ---- a security block has at most 64 targets

ok_parts : {A B : Type 0} (x : Result A Stop) (f : A → Result B Stop) (y : B) → (x >>= f) ≡ Ok y → (a : A) × (x ≡ Ok a) × (f a ≡ Ok y)
ok_parts (Ok a) f y e = (a, refl, e)
ok_parts (Err stop) f y e = absurd cc

ok_same : {A B : Type 0} (x y : A) → ◌≡◌ {A = Result A B} (Ok x) (Ok y) → x ≡ y
ok_same x y e = cc

each_length : (count : ℕ) (before bytes rest items : List ℕ) → each_at target_at count before bytes ≡ Ok (items, rest) → length items ≡ length before + count
unfolding each_at
each_length zero before bytes rest items e =
    let same : before ≡ items = ap (λ (p : List ℕ × List ℕ). p.0) (ok_same {B = Stop} (before, bytes) (items, rest) e) in
    omega (arith, ap (λ (xs : List ℕ). length xs) same)
each_length (suc count) before bytes rest items e =
    let parts = ok_parts (target_at before bytes) (λ item. each_at target_at count (before ++ item.0 ∷ []) item.1) (items, rest) e in
    omega (arith, each_length count (before ++ parts.0.0 ∷ []) parts.0.1 rest items parts.2, length-append before (parts.0.0 ∷ []))

few_if : (least most : ℕ) (bytes : List ℕ) (head : Head × List ℕ) (count : ℕ) (rest : List ℕ) (b : Bool) → (nat_le least head.0.value && nat_le head.0.value most) ≡ b
    → cond {A = Result (ℕ × List ℕ) Stop} b (Ok (head.0.value, head.1)) (stops bytes reasons.WrongCount) ≡ Ok (count, rest) → count ≤ most
few_if least most bytes head count rest true is e =
    let same : head.0.value ≡ count = ap (λ (p : ℕ × List ℕ). p.0) (ok_same {B = Stop} (head.0.value, head.1) (count, rest) e) in
    let le : head.0.value ≤ most = leb-true head.0.value most (both (nat_le least head.0.value) (nat_le head.0.value most) is).1 in
    omega (arith, same, le)
few_if least most bytes head count rest false is e = absurd cc

count_few : (least most : ℕ) (bytes : List ℕ) (count : ℕ) (rest : List ℕ) → count_at least most bytes ≡ Ok (count, rest) → count ≤ most
unfolding count_at
count_few least most bytes count rest e =
    let parts = ok_parts (head_at (4 ∷ []) bytes) (λ head. cond {A = Result (ℕ × List ℕ) Stop} (nat_le least head.0.value && nat_le head.0.value most) (Ok (head.0.value, head.1)) (stops bytes reasons.WrongCount)) (count, rest) e in
    few_if least most bytes parts.0 count rest (nat_le least parts.0.0.value && nat_le parts.0.0.value most) refl parts.2

targets_few : (bytes : List ℕ) (targets rest : List ℕ) → array_at target_at 1 64 bytes ≡ Ok (targets, rest) → length targets ≤ 64
targets_few bytes targets rest e =
    let parts = ok_parts (count_at 1 64 bytes) (λ count. each_at target_at count.0 [] count.1) (targets, rest) e in
    let len = each_length parts.0.0 [] parts.0.1 rest targets parts.2 in
    let few = count_few 1 64 bytes parts.0.0 parts.0.1 parts.1 in
    omega arith

asb_few : (bytes : List ℕ) (asb : Asb) (rest : List ℕ) → asb_at bytes ≡ Ok (asb, rest) → length asb.targets ≤ 64
unfolding asb_at
asb_few bytes asb rest e =
    let targets = ok_parts (array_at target_at 1 64 bytes) _ (asb, rest) e in
    let context = ok_parts (context_at targets.0.1) _ (asb, rest) targets.2 in
    let flags = ok_parts (number_at context.0.1) _ (asb, rest) context.2 in
    let source = ok_parts (id_at flags.0.1) _ (asb, rest) flags.2 in
    let parameters = ok_parts (parameters_at flags.0.0 source.0.1) _ (asb, rest) source.2 in
    let results = ok_parts (results_at (length targets.0.0) parameters.0.1) _ (asb, rest) parameters.2 in
    let same : targets.0.0 ≡ asb.targets = ap (λ (p : Asb × List ℕ). p.0.targets) (ok_same {B = Stop} _ (asb, rest) results.2) in
    subst (λ (ts : List ℕ). length ts ≤ 64) same (targets_few bytes targets.0.0 targets.0.1 targets.1)

ends_whole : (x : Asb × List ℕ) (asb : Asb) → ends x ≡ Ok asb → x.0 ≡ asb
ends_whole (own, []) asb e = ok_same {B = Stop} own asb e
ends_whole (own, byte ∷ bytes) asb e = absurd cc

answer_ok : (given : ℕ) (r : Result Asb Stop) (asb : Asb) → answer given r ≡ Ok asb → r ≡ Ok asb
answer_ok given (Ok own) asb e = ap Ok (ok_same {B = Fault} own asb e)
answer_ok given (Err stop) asb e = absurd cc

pub read_few : (body : List ℕ) (asb : Asb) → read_body body ≡ Ok asb → length asb.targets ≤ 64
unfolding read_body body_at
read_few body asb e =
    let whole = answer_ok (length body) (asb_at body >>= ends) asb e in
    let parts = ok_parts (asb_at body) ends asb whole in
    subst (λ (a : Asb). length a.targets ≤ 64) (ends_whole parts.0 asb parts.2) (asb_few body parts.0.0 parts.0.1 parts.1)

targets_of_few : (body : List ℕ) (r : Result Asb Fault) → read_body body ≡ r → length (targets_of r) ≤ 64
targets_of_few body (Ok asb) e = read_few body asb e
targets_of_few body (Err fault) e = omega arith

-- ---- the operations of all blocks

-- the operations of a security block of its own type
abbrev pub own_ops : Block → List OpId
own_ops block = if block.kind == 11 then held_by Bib block else held_by Bcb block

held_few_if : (service : Service) (block : Block) (b : Bool) → length (cond b (map (operation service block.number) (targets_of (read_body block.body))) []) ≤ 64
held_few_if service block true = let few = targets_of_few block.body (read_body block.body) refl in omega (arith, length-map (targets_of (read_body block.body)) (operation service block.number))
held_few_if service block false = omega arith

own_few : (block : Block) → length (own_ops block) ≤ 64
own_few block = cases (eqb block.kind 11)
  where
    cases : (b : Bool) → length (cond b (held_by Bib block) (held_by Bcb block)) ≤ 64
    cases true = held_few_if Bib block (eqb block.kind 11)
    cases false = held_few_if Bcb block (eqb block.kind 12)

pub all_few : (blocks : List Block) → length (flat_map own_ops blocks) ≤ 64 * length blocks
all_few [] = omega arith
all_few (block ∷ blocks) =
    let one = own_few block in
    let rest = all_few blocks in
    omega (arith, length-append (own_ops block) (flat_map own_ops blocks))

-- ---- all operations are among them

among_own_bib : (block : Block) (op : OpId) → Among op (held_by Bib block) → Among op (own_ops block)
among_own_bib block op there = subst (λ b. Among op (cond b (held_by Bib block) (held_by Bcb block))) (sym (held_target block op there).0) there

among_own_bcb : (block : Block) (op : OpId) (b : Bool) → eqb block.kind 12 ≡ b → Among op (cond b (map (operation Bcb block.number) (targets_of (read_body block.body))) []) → Among op (own_ops block)
among_own_bcb block op true is there =
    let other : eqb block.kind 11 ≡ false = ne_eqb block.kind 11 (λ eleven. let twelve : block.kind ≡ 12 = eqb-true block.kind 12 is in omega arith) in
    subst (λ b. Among op (cond b (held_by Bib block) (held_by Bcb block))) (sym other) (subst (λ b. Among op (cond b (map (operation Bcb block.number) (targets_of (read_body block.body))) [])) (sym is) there)
among_own_bcb block op false is there = absurd there

by_cipher : (s : Situation) (op : OpId) → NumbersAreDistinct s.bundle.blocks → Among op (ciphers s.bundle.blocks) → Among op (flat_map own_ops (plain s).blocks)
unfolding plain
by_cipher s op distinct there =
    let b = from-flat_map (held_by Bcb) s.bundle.blocks op there in
    let kind : eqb b.0.kind 12 ≡ true = bcb_kind b.0 op (eqb b.0.kind 12) refl b.2 in
    let same : plain_block s b.0 ≡ b.0 = plain_uncovered s b.0 (bcb_uncovered s.bundle.blocks b.0 (at_itself s.bundle.blocks b.0 distinct b.1) kind) in
    among-flat_map own_ops (map (plain_block s) s.bundle.blocks) b.0 op
    (among-map (plain_block s) s.bundle.blocks b.0 b.0 b.1 same)
    (among_own_bcb b.0 op (eqb b.0.kind 12) refl b.2)
  where
    bcb_kind : (block : Block) (op : OpId) (b : Bool) → eqb block.kind 12 ≡ b → Among op (cond b (map (operation Bcb block.number) (targets_of (read_body block.body))) []) → eqb block.kind 12 ≡ true
    bcb_kind block op true is there = is
    bcb_kind block op false is there = absurd there

by_visible : (s : Situation) (op : OpId) (block : Block) → Among block s.bundle.blocks → list_any (λ (o : OpId). eqb o.target block.number) (ciphers s.bundle.blocks) ≡ false → Among op (held_by Bib block) → Among op (flat_map own_ops (plain s).blocks)
unfolding plain
by_visible s op block there none held =
    among-flat_map own_ops (map (plain_block s) s.bundle.blocks) block op
    (among-map (plain_block s) s.bundle.blocks block block there (plain_uncovered s block (uncovered s.bundle.blocks block.number none)))
    (among_own_bib block op held)

by_revealed : (s : Situation) (op : OpId) (block : Block) → Among block (revealed s) → Among op (held_by Bib block) → Among op (flat_map own_ops (plain s).blocks)
unfolding revealed
by_revealed s op block there held =
    among-flat_map own_ops (plain s).blocks block op (from-filter (λ (b : Block). is_opened s b.number) (plain s).blocks block there).0 (among_own_bib block op held)

pub all_own : (s : Situation) (op : OpId) → NumbersAreDistinct s.bundle.blocks → Among op (all_operations s) → Among op (flat_map own_ops (plain s).blocks)
all_own s op distinct there =
    elim (from_all s op there) [
      | inl known ↦ elim (from_known s.bundle.blocks op known) [
        | inl cipher ↦ by_cipher s op distinct cipher
        | inr bib ↦ by_visible s op bib.0 bib.1 bib.2 bib.3
      ]
      | inr bib ↦ by_revealed s op bib.0 bib.1 bib.2
    ]

-- a legal order has at most 4,096 operations
pub done_few : (s : Situation) (done : List OpId) → IsBundle s.bundle → Legal s done → length done ≤ 4096
unfolding plain
done_few s done is legal =
    let within = once_within done (flat_map own_ops (plain s).blocks) (done_once s done legal) (λ op there. all_own s op is.distinct (done_among_all s done op legal there)) in
    let few = all_few (map (plain_block s) s.bundle.blocks) in
    let blocks = is.few in
    omega (arith, length-map s.bundle.blocks (plain_block s))
