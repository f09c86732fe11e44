-- What was read, and a fault but for bytes that end too early, stay when bytes are added.
use Rattle.std.proofs.Common.{◌≡◌, ℕ, ℤ, zero, suc, pos, negsuc, ◌^◌, ◌≤◌, cond, ltb, leb, eqb, ◌&&◌, List, [], ◌∷◌, ◌++◌, length, Some, None, Result, Ok, refl, ◌∙◌, ap}
use Rattle.std.specs.List.{list_any}
use Rattle.std.proofs.lemmas.List.{take-append-le, drop-append-le}
use Rattle.cbor_profile.specs.declared.fault.Reason.TheVariants as reasons
use Rattle.cbor_profile.specs.declared.item.ItemRead.{ItemRead}
use Rattle.cbor_profile.specs.declared.item.ItemRead.TheVariants as items
use Rattle.cbor_profile.specs.Item.{read_item}
use Rattle.cbor_profile.specs.Step.{◌>>=◌}
use Rattle.cbor_profile.proofs.ItemFaults.{item_answer_stands, item_within}
use Rattle.bp_eid.specs.declared.stop.Stop.{Stop}
use Rattle.bp_eid.specs.Reading.{stops, head_at, pair_at, number_at, id_at}
use Rattle.bp_eid.proofs.Growing.{with_more, rest_more, Stays, Grows, then_grows, either_grows, stops_grows, ok_grows, head_grows, pair_grows, number_grows, id_grows}
use Rattle.bpsec_asb.specs.SecurityBlock.{has_parameters}
use Rattle.bpsec_asb.specs.Reading.{count_at, each_at, array_at, target_at, context_at, after_item, value_at, pair_of, pairs_at, parameters_at, results_at, asb_at}
use Rattle.bpsec_asb.proofs.Blocks.{built, after_parameters, after_source, after_flags, after_context, after_targets}

-- a reader answers the same when bytes are added
abbrev pub ReadsOn : {A : Type 0} → (List ℕ → Result (A × List ℕ) Stop) → Type 0
ReadsOn read = (bytes more : List ℕ) → Grows (with_more more) (length more) (read bytes) (read (bytes ++ more))

count_grows : (least most : ℕ) → ReadsOn (count_at least most)
unfolding count_at
count_grows least most bytes more =
    let e : ℕ × List ℕ → ℕ × List ℕ = with_more more in
    let k = length more in
    then_grows (with_more more) e k (head_at (4 ∷ []) bytes) (head_at (4 ∷ []) (bytes ++ more))
    (λ head. cond (leb least head.0.value && leb head.0.value most) (Ok (head.0.value, head.1)) (stops bytes reasons.WrongCount))
    (λ head. cond (leb least head.0.value && leb head.0.value most) (Ok (head.0.value, head.1)) (stops (bytes ++ more) reasons.WrongCount)) (head_grows (4 ∷ []) bytes more)
    (λ x. either_grows e k (leb least x.0.value && leb x.0.value most) (Ok (x.0.value, x.1)) (Ok (x.0.value, x.1 ++ more)) _ _ (ok_grows e k (x.0.value, x.1)) (stops_grows e bytes more reasons.WrongCount))

each_grows : {A : Type 0} (item_at : List A → List ℕ → Result (A × List ℕ) Stop) → ((before : List A) → ReadsOn (item_at before)) → (count : ℕ) (before : List A) → ReadsOn (each_at item_at count before)
unfolding each_at
each_grows item_at each zero before bytes more = ok_grows (with_more more) (length more) (before, bytes)
each_grows item_at each (suc count) before bytes more =
    then_grows (with_more more) (with_more more) (length more) (item_at before bytes) (item_at before (bytes ++ more))
    (λ item. each_at item_at count (before ++ item.0 ∷ []) item.1) (λ item. each_at item_at count (before ++ item.0 ∷ []) item.1) (each before bytes more)
    (λ x. each_grows item_at each count (before ++ x.0 ∷ []) x.1 more)

array_grows : {A : Type 0} (item_at : List A → List ℕ → Result (A × List ℕ) Stop) → ((before : List A) → ReadsOn (item_at before)) → (least most : ℕ) → ReadsOn (array_at item_at least most)
array_grows item_at each least most bytes more =
    then_grows (with_more more) (with_more more) (length more) (count_at least most bytes) (count_at least most (bytes ++ more))
    (λ count. each_at item_at count.0 [] count.1) (λ count. each_at item_at count.0 [] count.1) (count_grows least most bytes more) (λ x. each_grows item_at each x.0 [] x.1 more)

target_grows : (before : List ℕ) → ReadsOn (target_at before)
unfolding target_at
target_grows before bytes more =
    let e : ℕ × List ℕ → ℕ × List ℕ = with_more more in
    let k = length more in
    then_grows (with_more more) e k (number_at bytes) (number_at (bytes ++ more))
    (λ target. cond (list_any (λ listed. eqb listed target.0) before) (stops bytes reasons.Repeated) (Ok target))
    (λ target. cond (list_any (λ listed. eqb listed target.0) before) (stops (bytes ++ more) reasons.Repeated) (Ok target)) (number_grows bytes more)
    (λ x. either_grows e k (list_any (λ listed. eqb listed x.0) before) _ _ (Ok x) (Ok (x.0, x.1 ++ more)) (stops_grows e bytes more reasons.Repeated) (ok_grows e k x))

context_grows : ReadsOn context_at
unfolding context_at
context_grows bytes more =
    let e : ℤ × List ℕ → ℤ × List ℕ = with_more more in
    let k = length more in
    then_grows (with_more more) e k (head_at (0 ∷ 1 ∷ []) bytes) (head_at (0 ∷ 1 ∷ []) (bytes ++ more))
    (λ head. cond (ltb head.0.value (2 ^ 63)) (Ok (cond (eqb head.0.major 0) (pos head.0.value) (negsuc head.0.value), head.1)) (stops bytes reasons.WrongValue))
    (λ head. cond (ltb head.0.value (2 ^ 63)) (Ok (cond (eqb head.0.major 0) (pos head.0.value) (negsuc head.0.value), head.1)) (stops (bytes ++ more) reasons.WrongValue)) (head_grows (0 ∷ 1 ∷ []) bytes more)
    (λ x. either_grows e k (ltb x.0.value (2 ^ 63)) (Ok (cond (eqb x.0.major 0) (pos x.0.value) (negsuc x.0.value), x.1)) _ _ _
    (ok_grows e k (cond (eqb x.0.major 0) (pos x.0.value) (negsuc x.0.value), x.1)) (stops_grows e bytes more reasons.WrongValue))

-- ---- values

after_item_grows : (bytes more : List ℕ) (read : ItemRead) → ((len : ℕ) → read ≡ items.Whole len → len ≤ length bytes) → Grows (with_more more) (length more) (after_item bytes read) (after_item (bytes ++ more) read)
after_item_grows bytes more (items.Whole len) within stays = let le = within len refl in rw (take-append-le len bytes more le, drop-append-le len bytes more le) refl
after_item_grows bytes more items.Short within stays = stops_grows (with_more more) bytes more reasons.Truncated stays
after_item_grows bytes more items.NotShortest within stays = stops_grows (with_more more) bytes more reasons.NotShortest stays
after_item_grows bytes more items.Bad within stays = stops_grows (with_more more) bytes more reasons.WrongKind stays
after_item_grows bytes more items.Deep within stays = stops_grows (with_more more) bytes more reasons.WrongValue stays

not_short : (bytes : List ℕ) (read : ItemRead) → Stays (after_item bytes read) → read ≡ items.Short → ⊥
unfolding Stays
not_short bytes (items.Whole len) stays e = cc
not_short bytes items.Short stays e = stays refl
not_short bytes items.NotShortest stays e = cc
not_short bytes items.Bad stays e = cc
not_short bytes items.Deep stays e = cc

value_grows : ReadsOn value_at
unfolding value_at
value_grows bytes more stays =
    ap (after_item (bytes ++ more)) (item_answer_stands bytes more (not_short bytes (read_item bytes) stays))
    ∙ after_item_grows bytes more (read_item bytes) (item_within bytes) stays

pair_of_grows : ReadsOn pair_of
unfolding pair_of
pair_of_grows bytes more =
    let k = length more in
    then_grows (rest_more more) (with_more more) k (pair_at bytes) (pair_at (bytes ++ more))
    (λ rest. number_at rest >>= λ id. value_at id.1 >>= λ value. Ok (record { id = id.0; value = value.0 }, value.1))
    (λ rest. number_at rest >>= λ id. value_at id.1 >>= λ value. Ok (record { id = id.0; value = value.0 }, value.1)) (pair_grows bytes more)
    (λ rest. then_grows (with_more more) (with_more more) k (number_at rest) (number_at (rest ++ more))
    (λ id. value_at id.1 >>= λ value. Ok (record { id = id.0; value = value.0 }, value.1)) (λ id. value_at id.1 >>= λ value. Ok (record { id = id.0; value = value.0 }, value.1)) (number_grows rest more)
    (λ id. then_grows (with_more more) (with_more more) k (value_at id.1) (value_at (id.1 ++ more)) (λ value. Ok (record { id = id.0; value = value.0 }, value.1)) (λ value. Ok (record { id = id.0; value = value.0 }, value.1)) (value_grows id.1 more)
    (λ value. ok_grows (with_more more) k (record { id = id.0; value = value.0 }, value.1))))

pairs_grows : ReadsOn pairs_at
pairs_grows = array_grows (λ before. pair_of) (λ before. pair_of_grows) 0 16

parameters_grows : (flags : ℕ) → ReadsOn (parameters_at flags)
unfolding parameters_at
parameters_grows flags bytes more =
    let k = length more in
    either_grows (with_more more) k (has_parameters flags) _ _ (Ok (None, bytes)) (Ok (None, bytes ++ more))
    (then_grows (with_more more) (with_more more) k (pairs_at bytes) (pairs_at (bytes ++ more)) (λ parameters. Ok (Some parameters.0, parameters.1)) (λ parameters. Ok (Some parameters.0, parameters.1)) (pairs_grows bytes more)
    (λ x. ok_grows (with_more more) k (Some x.0, x.1)))
    (ok_grows (with_more more) k (None, bytes))

results_grows : (targets : ℕ) → ReadsOn (results_at targets)
results_grows targets = array_grows (λ before. pairs_at) (λ before. pairs_grows) targets targets

pub asb_grows : ReadsOn asb_at
unfolding asb_at
asb_grows bytes more =
    let k = length more in
    then_grows (with_more more) (with_more more) k (array_at target_at 1 64 bytes) (array_at target_at 1 64 (bytes ++ more)) after_targets after_targets (array_grows target_at target_grows 1 64 bytes more)
    (λ t. then_grows (with_more more) (with_more more) k (context_at t.1) (context_at (t.1 ++ more)) (after_context t.0) (after_context t.0) (context_grows t.1 more)
    (λ c. then_grows (with_more more) (with_more more) k (number_at c.1) (number_at (c.1 ++ more)) (after_flags t.0 c.0) (after_flags t.0 c.0) (number_grows c.1 more)
    (λ f. then_grows (with_more more) (with_more more) k (id_at f.1) (id_at (f.1 ++ more)) (after_source t.0 c.0 f.0) (after_source t.0 c.0 f.0) (id_grows f.1 more)
    (λ s. then_grows (with_more more) (with_more more) k (parameters_at f.0 s.1) (parameters_at f.0 (s.1 ++ more)) (after_parameters t.0 c.0 f.0 s.0) (after_parameters t.0 c.0 f.0 s.0) (parameters_grows f.0 s.1 more)
    (λ p. then_grows (with_more more) (with_more more) k (results_at (length t.0) p.1) (results_at (length t.0) (p.1 ++ more)) (built t.0 c.0 f.0 s.0 p.0) (built t.0 c.0 f.0 s.0 p.0) (results_grows (length t.0) p.1 more)
    (λ r. ok_grows (with_more more) k (record { targets = t.0; context = c.0; flags = f.0; source = s.0; parameters = p.0; results = r.0 }, r.1)))))))
