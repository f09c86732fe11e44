-- A security block is read as it is spelled.
use Rattle.std.proofs.Common.{◌≡◌, ℕ, ℤ, drop, ◌^◌, ◌<◌, List, [], ◌∷◌, ◌++◌, length, Option, Result, Ok, Err, refl, sym, ◌∙◌, ap, subst, append_assoc, arith}
use Rattle.std.specs.Prelude.{All, IfOk}
use Rattle.std.proofs.lemmas.List.{append-nil, drop_at}
use Rattle.cbor_profile.specs.declared.fault.SpellError.{SpellError}
use Rattle.cbor_profile.specs.Put.{uint, int}
use Rattle.cbor_profile.specs.Step.{◌>>=◌}
use Rattle.bp_eid.specs.EndpointId as ids
use Rattle.bp_eid.specs.declared.eid.Eid.{Eid}
use Rattle.bp_eid.specs.declared.stop.Stop.{Stop}
use Rattle.bp_eid.specs.Reading.{number_at, id_at}
use Rattle.bp_eid.proofs.Steps.{IsBytes, IsBytes-drop, bind_ok, ok_is, Takes, Takes-then}
use Rattle.bp_eid.proofs.Tokens.{number_again, number_means}
use Rattle.bp_eid.proofs.Ids.{id_again, id_means}
use Rattle.bpsec_asb.specs.declared.asb.Pair.{Pair}
use Rattle.bpsec_asb.specs.declared.asb.Asb.{Asb}
use Rattle.bpsec_asb.specs.SecurityBlock.{array, pairs, parameters_item, spelling, ArePairs, IsSecurityBlock, Reads}
use Rattle.bpsec_asb.specs.Reading.{array_at, target_at, context_at, pairs_at, parameters_at, results_at, asb_at, ends, body_at, read_body, answer, Answers}
use Rattle.bpsec_asb.proofs.Arrays.{laws, array_again, array_means}
use Rattle.bpsec_asb.proofs.Fields.{FitsTarget, FitsAlone, reads_targets, context_read, context_means, reads_results, parameters_again, parameters_means, after-all, all-after}
use Rattle.bpsec_asb.proofs.Distinct.{distinct, small, fits_after}

-- ---- what is spelled is read

results_again : (targets : ℕ) (results : List (List Pair)) (rest : List ℕ) → targets < 2 ^ 64 → length results ≡ targets → All ArePairs results → results_at targets (array pairs results ++ rest) ≡ Ok (results, rest)
results_again targets results rest few number fits =
    array_again pairs (FitsAlone ArePairs) (λ before. pairs_at) reads_results targets targets results rest (omega arith) (omega arith) (omega arith) (after-all ArePairs [] results fits)

regrouped : (asb : Asb) (rest : List ℕ)
    → spelling asb ++ rest ≡ array uint asb.targets ++ (int asb.context ++ (uint asb.flags ++ (ids.spelling asb.source ++ (parameters_item asb.parameters ++ (array pairs asb.results ++ rest)))))
unfolding spelling
regrouped asb rest = simp append_assoc

pub asb_again : (asb : Asb) (rest : List ℕ) → IsSecurityBlock asb → asb_at (spelling asb ++ rest) ≡ Ok (asb, rest)
unfolding asb_at
asb_again asb rest fits =
    let r6 = array pairs asb.results ++ rest in
    let r5 = parameters_item asb.parameters ++ r6 in
    let r4 = ids.spelling asb.source ++ r5 in
    let r3 = uint asb.flags ++ r4 in
    let r2 = int asb.context ++ r3 in
    let t = array_again uint FitsTarget target_at reads_targets 1 64 asb.targets r2 fits.some_target fits.most_targets (omega (arith, fits.most_targets)) (fits_after [] asb.targets fits.distinct fits.targets) in
    let few : length asb.targets < 2 ^ 64 = omega (arith, fits.most_targets) in
    ap asb_at (regrouped asb rest)
    ∙ rw (
      t,
      context_read asb.context r3 fits.context,
      number_again laws asb.flags r4 fits.flags,
      id_again laws asb.source r5 fits.source,
      parameters_again asb.flags asb.parameters r6 fits.parameters_flag fits.parameters,
      results_again (length asb.targets) asb.results rest few fits.result_of_each fits.results,
    ) refl

-- ---- what is read is spelled so

pub rest_is_bytes : (bytes text rest : List ℕ) → IsBytes bytes → bytes ≡ text ++ rest → IsBytes rest
rest_is_bytes bytes text rest bs parts = subst IsBytes (ap (drop (length text)) parts ∙ drop_at text rest (length text) refl) (IsBytes-drop (length text) bytes bs)

-- a security block that was read
pub record ReadsBlock (bytes : List ℕ) (x : Asb × List ℕ) : Type 0 where
  pub takes : Takes bytes (spelling x.0) x.1
  pub fits : IsSecurityBlock x.0

-- what follows each field
abbrev pub built : List ℕ → ℤ → ℕ → Eid → Option (List Pair) → List (List Pair) × List ℕ → Result (Asb × List ℕ) Stop
built targets context flags source parameters results =
    Ok (record { targets = targets; context = context; flags = flags; source = source; parameters = parameters; results = results.0 }, results.1)

abbrev pub after_parameters : List ℕ → ℤ → ℕ → Eid → Option (List Pair) × List ℕ → Result (Asb × List ℕ) Stop
after_parameters targets context flags source parameters = results_at (length targets) parameters.1 >>= built targets context flags source parameters.0

abbrev pub after_source : List ℕ → ℤ → ℕ → Eid × List ℕ → Result (Asb × List ℕ) Stop
after_source targets context flags source = parameters_at flags source.1 >>= after_parameters targets context flags source.0

abbrev pub after_flags : List ℕ → ℤ → ℕ × List ℕ → Result (Asb × List ℕ) Stop
after_flags targets context flags = id_at flags.1 >>= after_source targets context flags.0

abbrev pub after_context : List ℕ → ℤ × List ℕ → Result (Asb × List ℕ) Stop
after_context targets context = number_at context.1 >>= after_flags targets context.0

abbrev pub after_targets : List ℕ × List ℕ → Result (Asb × List ℕ) Stop
after_targets targets = context_at targets.1 >>= after_context targets.0

pub asb_means : (bytes : List ℕ) (x : Asb × List ℕ) → IsBytes bytes → asb_at bytes ≡ Ok x → ReadsBlock bytes x
unfolding asb_at spelling
asb_means bytes x bs e =
    let t = bind_ok (array_at target_at 1 64 bytes) after_targets x e in
    let c = bind_ok (context_at t.0.1) (after_context t.0.0) x t.2 in
    let f = bind_ok (number_at c.0.1) (after_flags t.0.0 c.0.0) x c.2 in
    let s = bind_ok (id_at f.0.1) (after_source t.0.0 c.0.0 f.0.0) x f.2 in
    let p = bind_ok (parameters_at f.0.0 s.0.1) (after_parameters t.0.0 c.0.0 f.0.0 s.0.0) x s.2 in
    let r = bind_ok (results_at (length t.0.0) p.0.1) (built t.0.0 c.0.0 f.0.0 s.0.0 p.0.0) x p.2 in
    let targets = array_means uint FitsTarget target_at reads_targets 1 64 bytes t.0 bs t.1 in
    let context = context_means t.0.1 c.0 targets.takes.rest_fits c.1 in
    let flags = number_means laws c.0.1 f.0 context.0.rest_fits f.1 in
    let source = id_means laws f.0.1 s.0 flags.0.rest_fits s.1 in
    let source_takes : Takes f.0.1 (ids.spelling s.0.0) s.0.1 = record { parts = source.0; rest_fits = rest_is_bytes f.0.1 (ids.spelling s.0.0) s.0.1 flags.0.rest_fits source.0 } in
    let parameters = parameters_means f.0.0 s.0.1 p.0 source_takes.rest_fits p.1 in
    let results = array_means pairs (FitsAlone ArePairs) (λ before. pairs_at) reads_results (length t.0.0) (length t.0.0) p.0.1 r.0 parameters.takes.rest_fits r.1 in
    let t5 = Takes-then s.0.1 (parameters_item p.0.0) p.0.1 (array pairs r.0.0) r.0.1 parameters.takes results.takes in
    let t4 = Takes-then f.0.1 (ids.spelling s.0.0) s.0.1 (parameters_item p.0.0 ++ array pairs r.0.0) r.0.1 source_takes t5 in
    let t3 = Takes-then c.0.1 (uint f.0.0) f.0.1 (ids.spelling s.0.0 ++ (parameters_item p.0.0 ++ array pairs r.0.0)) r.0.1 flags.0 t4 in
    let t2 = Takes-then t.0.1 (int c.0.0) c.0.1 (uint f.0.0 ++ (ids.spelling s.0.0 ++ (parameters_item p.0.0 ++ array pairs r.0.0))) r.0.1 context.0 t3 in
    let t1 = Takes-then bytes (array uint t.0.0) t.0.1 (int c.0.0 ++ (uint f.0.0 ++ (ids.spelling s.0.0 ++ (parameters_item p.0.0 ++ array pairs r.0.0)))) r.0.1 targets.takes t2 in
    subst (ReadsBlock bytes) (ok_is (record { targets = t.0.0; context = c.0.0; flags = f.0.0; source = s.0.0; parameters = p.0.0; results = r.0.0 }, r.0.1) x r.2)
    (record {
      takes = t1;
      fits = record {
        some_target = targets.low;
        most_targets = targets.high;
        targets = small [] t.0.0 targets.fits;
        distinct = distinct t.0.0 targets.fits;
        context = context.1;
        flags = flags.1;
        source = source.1;
        parameters_flag = parameters.flag;
        parameters = parameters.fits;
        result_of_each = omega (arith, results.low, results.high);
        results = all-after ArePairs [] r.0.0 results.fits;
      };
    })

-- ---- the whole body

ends_ok : (x : Asb × List ℕ) (asb : Asb) → ends x ≡ Ok asb → x ≡ (asb, [])
ends_ok (y, []) asb e = cc
ends_ok (y, byte ∷ bytes) asb e = absurd cc

pub body_means : (body : List ℕ) (asb : Asb) → IsBytes body → body_at body ≡ Ok asb → Reads body asb
unfolding body_at
body_means body asb bs e =
    let b = bind_ok (asb_at body) ends asb e in
    let same = ends_ok b.0 asb b.2 in
    let m = subst (ReadsBlock body) same (asb_means body b.0 bs b.1) in
    (m.fits, m.takes.parts ∙ append-nil (spelling asb))

pub body_again : (body : List ℕ) (asb : Asb) → Reads body asb → body_at body ≡ Ok asb
unfolding body_at
body_again body asb reads =
    let whole : body ≡ spelling asb ++ [] = reads.1 ∙ sym (append-nil (spelling asb)) in
    ap (λ (l : List ℕ). asb_at l >>= ends) whole ∙ rw (asb_again asb [] reads.0) refl

-- ---- what is answered

answer_ok : (given : ℕ) (r : Result Asb Stop) (asb : Asb) → answer given r ≡ Ok asb → r ≡ Ok asb
answer_ok given (Ok x) asb e = cc
answer_ok given (Err stop) asb e = absurd cc

pub read_means : (body : List ℕ) (asb : Asb) → IsBytes body → read_body body ≡ Ok asb → Reads body asb
unfolding read_body
read_means body asb bs e = body_means body asb bs (answer_ok (length body) (body_at body) asb e)

pub read_again : (body : List ℕ) (asb : Asb) → Reads body asb → read_body body ≡ Ok asb
unfolding read_body
read_again body asb reads = rw (body_again body asb reads) refl

pub is_meant : (body : List ℕ) (r : Result Asb SpellError) → IsBytes body → Answers r (read_body body) → IfOk r (Reads body)
is_meant body (Ok asb) bs h = read_means body asb bs h
is_meant body (Err e) bs h = tt

pub is_found : (body : List ℕ) (r : Result Asb SpellError) (asb : Asb) → Answers r (read_body body) → Reads body asb → Answers r (Ok asb)
is_found body r asb h reads = subst (Answers r) (read_again body asb reads) h

abbrev pub asb_done : Asb × List ℕ → Result (Asb × List ℕ) Stop
asb_done x = Ok x

pub ok_of_asb : (x y : Asb × List ℕ) → asb_done x ≡ asb_done y → x ≡ y
ok_of_asb x y e = ok_is x y e
