-- The keys of a ring, as a session goes on.
use Rattle.std.proofs.Common.{◌≡◌, ℕ, ◌+◌, inl, inr, ◌⊎◌, Bool, true, false, cond, List, [], ◌∷◌, ◌++◌, length, Option, Some, None, refl, sym, ◌∙◌, ap, arith}
use mathlib.Core.Path.{fun_ext}
use Rattle.bpsec_asb.specs.declared.operation.Service.{Service}
use Rattle.bpsec_asb.specs.declared.operation.Service.TheVariants.{Bib, Bcb}
use Rattle.bpsec_asb.specs.declared.operation.OpId.{OpId}
use Rattle.bpsec_asb.proofs.Members.{Among, among, among-left, among-right, among-append}
use Rattle.bpsec_policy.specs.declared.ring.NamedKey.{NamedKey}
use Rattle.bpsec_policy.specs.declared.rule.Rule.{Rule}
use Rattle.bpsec_node.specs.Situation.{Meaning, Situation, is_op, is_among}
use Rattle.bpsec_node.specs.Agree.{with_keys, Agree}
use Rattle.bpsec_node.specs.Plain.{cover}
use Rattle.bpsec_node.specs.Verdict.{rule}
use Rattle.bpsec_node.specs.Order.{ready}
use Rattle.bpsec_node.specs.Ring.{key_named, ring_key, others_by, with_ring}
use Rattle.bpsec_node.specs.View.{Progress, key_in, situation, after_step}
use Rattle.bpsec_node.proofs.Members.{is_op_same, is_op_itself, from_is_among, is_among_from, cover_found, from_ready}
use Rattle.bpsec_node.proofs.Agree.{AgreeAt, Settled, ready_bib, rule_same, ready_same}
use Rattle.bpsec_node.proofs.Ended.{cipher_service}
use Rattle.bpsec_node.proofs.Legal.{settled_by, not_done}

-- ---- rules of confidentiality operations depend on no key

settled_bcb : (s : Situation) (key : OpId → Option (List ℕ)) (op : OpId) (service : Service) → service ≡ Bcb → Settled s key op service
settled_bcb s key op Bib e = absurd cc
settled_bcb s key op Bcb e = tt

pub bcb_rule : (s : Situation) (key : OpId → Option (List ℕ)) (op : OpId) → op.service ≡ Bcb → rule s op ≡ rule (with_keys s key) op
bcb_rule s key op service = rule_same s key op (settled_bcb s key op op.service service)

-- ---- rules of all operations depend on the keys of confidentiality operations alone

abbrev AgreeOnCiphers : Situation → (OpId → Option (List ℕ)) → Type 0
AgreeOnCiphers s key = (op : OpId) → op.service ≡ Bcb → s.key op ≡ key op

agree_on_cover : (s : Situation) (key : OpId → Option (List ℕ)) (number : ℕ) (c : Option OpId) → cover s.bundle.blocks number ≡ c → AgreeOnCiphers s key → AgreeAt s key c
agree_on_cover s key number None is agree = tt
agree_on_cover s key number (Some op) is agree = agree op (cipher_service s.bundle.blocks op (cover_found s.bundle.blocks number op is).0)

settled_by_ciphers : (s : Situation) (key : OpId → Option (List ℕ)) (op : OpId) (service : Service) → AgreeOnCiphers s key → Settled s key op service
settled_by_ciphers s key op Bib agree = (agree_on_cover s key op.block (cover s.bundle.blocks op.block) refl agree, agree_on_cover s key op.target (cover s.bundle.blocks op.target) refl agree)
settled_by_ciphers s key op Bcb agree = tt

rule_by_ciphers : (s : Situation) (key : OpId → Option (List ℕ)) (op : OpId) → AgreeOnCiphers s key → rule s op ≡ rule (with_keys s key) op
rule_by_ciphers s key op agree = rule_same s key op (settled_by_ciphers s key op op.service agree)

-- ---- the keys of a ring are those that rules name

abbrev key_of_name : List NamedKey → Rule → Option (List ℕ)
key_of_name ring rule = key_named ring rule.key

-- those of the situation in which the rules are read, and those of the last one, agree on confidentiality operations
ciphers_agree_if : (s : Situation) (done : List OpId) (ring : List NamedKey) (op : OpId) (b : Bool) → op.service ≡ Bcb → cond b (s.key op) (ring_key s ring op) ≡ cond b (s.key op) (ring_key (others_by s done ring) ring op)
ciphers_agree_if s done ring op true service = refl
ciphers_agree_if s done ring op false service = ap (key_of_name ring) (bcb_rule s (others_by s done ring).key op service)

ring_ciphers : (s : Situation) (done : List OpId) (ring : List NamedKey) → AgreeOnCiphers (others_by s done ring) (with_ring s done ring).key
unfolding with_ring
ring_ciphers s done ring op service = ciphers_agree_if s done ring op (is_among done op) service

ring_key_if : (s : Situation) (done : List OpId) (ring : List NamedKey) (op : OpId) (b : Bool) → is_among done op ≡ b → (with_ring s done ring).key op ≡ cond b (s.key op) (ring_key (others_by s done ring) ring op)
unfolding with_ring
ring_key_if s done ring op b is = ap (λ t. cond t (s.key op) (ring_key (others_by s done ring) ring op)) is

-- an operation that is done keeps its key
pub ring_keeps : (s : Situation) (done : List OpId) (ring : List NamedKey) → Agree s (with_ring s done ring).key done
ring_keeps s done ring op there = sym (ring_key_if s done ring op true (is_among_from done op (among done op there)))

-- another operation has the key that its own rule names
pub ring_gives : (s : Situation) (done : List OpId) (ring : List NamedKey) (op : OpId) → is_among done op ≡ false → (with_ring s done ring).key op ≡ ring_key (with_ring s done ring) ring op
unfolding with_ring
ring_gives s done ring op fresh =
    ring_key_if s done ring op false fresh
    ∙ ap (key_of_name ring) (rule_by_ciphers (others_by s done ring) (with_ring s done ring).key op (ring_ciphers s done ring))

-- ---- a further step

more_if : (done : List OpId) (keys : List (Option (List ℕ))) (last : OpId) (k key : Option (List ℕ)) (one op : OpId) (b : Bool) → is_op op one ≡ b → (Among op done → key_in (done ++ last ∷ []) (keys ++ key ∷ []) op ≡ key_in done keys op) → Among op (one ∷ done)
    → cond b k (key_in (done ++ last ∷ []) (keys ++ key ∷ []) op) ≡ cond b k (key_in done keys op)
more_if done keys last k key one op true is more there = refl
more_if done keys last k key one op false is more (inl e) = let t : false ≡ true = sym is ∙ (ap (λ o. is_op op o) e ∙ is_op_itself op) in absurd cc
more_if done keys last k key one op false is more (inr there) = more there

pub key_more : (done : List OpId) (keys : List (Option (List ℕ))) (last : OpId) (key : Option (List ℕ)) (op : OpId) → length keys ≡ length done → Among op done → key_in (done ++ last ∷ []) (keys ++ key ∷ []) op ≡ key_in done keys op
key_more [] keys last key op same there = absurd there
key_more (one ∷ done) [] last key op same there = absurd (omega arith)
key_more (one ∷ done) (k ∷ keys) last key op same there = more_if done keys last k key one op (is_op op one) refl (λ more. key_more done keys last key op (omega arith) more) there

last_if : (done : List OpId) (keys : List (Option (List ℕ))) (k key : Option (List ℕ)) (one op : OpId) (b : Bool) → is_op op one ≡ b → (one ≡ op → ⊥) → key_in (done ++ op ∷ []) (keys ++ key ∷ []) op ≡ key → cond b k (key_in (done ++ op ∷ []) (keys ++ key ∷ []) op) ≡ key
last_if done keys k key one op true is other rest = absurd (other (sym (is_op_same op one is)))
last_if done keys k key one op false is other rest = rest

pub key_last : (done : List OpId) (keys : List (Option (List ℕ))) (key : Option (List ℕ)) (op : OpId) → length keys ≡ length done → (Among op done → ⊥) → key_in (done ++ op ∷ []) (keys ++ key ∷ []) op ≡ key
key_last [] [] key op same fresh = ap (λ b. cond b key None) (is_op_itself op)
key_last [] (k ∷ keys) key op same fresh = absurd (omega arith)
key_last (one ∷ done) [] key op same fresh = absurd (omega arith)
key_last (one ∷ done) (k ∷ keys) key op same fresh = last_if done keys k key one op (is_op op one) refl (λ e. fresh (inl e)) (key_last done keys key op (omega arith) (λ there. fresh (inr there)))

-- the keys of a session stay after a further step
pub step_agrees : (suite : Meaning) (p : Progress) (op : OpId) (key : Option (List ℕ)) → length p.keys ≡ length p.done → Agree (situation suite p) (situation suite (after_step p op key)).key p.done
unfolding situation
step_agrees suite p op key same o there = sym (key_more p.done p.keys op key o same (among p.done o there))

-- ---- the ring's keys are the same before and after a step with the ring's key

among_more : (done : List OpId) (last op : OpId) → Among op (done ++ last ∷ []) → Among op done ⊎ (last ≡ op)
among_more done last op there = elim (among-append done (last ∷ []) op there) [ inl before ↦ inl before | inr at ↦ elim at [ inl e ↦ inr e | inr none ↦ absurd none ] ]

ready_settled : (s : Situation) (done : List OpId) (key : OpId → Option (List ℕ)) (op : OpId) → Agree s key done → Among op (ready s done) → Settled s key op op.service
ready_settled s done key op agree there =
    settled_by s key done op op.service agree (λ service. ready_bib s.bundle.blocks done op service (from_ready s done op there).1)

-- the rule of an operation that is ready is known
pub ready_rule : (s : Situation) (done : List OpId) (key : OpId → Option (List ℕ)) (op : OpId) → Agree s key done → Among op (ready s done) → rule s op ≡ rule (with_keys s key) op
ready_rule s done key op agree there = rule_same s key op (ready_settled s done key op agree there)

is_among_cases : (ops : List OpId) (op : OpId) → (is_among ops op ≡ true) ⊎ (is_among ops op ≡ false)
is_among_cases ops op = cases (is_among ops op) refl
  where
    cases : (b : Bool) → is_among ops op ≡ b → (is_among ops op ≡ true) ⊎ (is_among ops op ≡ false)
    cases true e = inl e
    cases false e = inr e

not_among_more : (done : List OpId) (last op : OpId) → is_among done op ≡ false → (last ≡ op → ⊥) → is_among (done ++ last ∷ []) op ≡ false
not_among_more done last op fresh other = cases (is_among (done ++ last ∷ []) op) refl
  where
    cases : (b : Bool) → is_among (done ++ last ∷ []) op ≡ b → is_among (done ++ last ∷ []) op ≡ false
    cases false e = e
    cases true e = elim (among_more done last op (from_is_among (done ++ last ∷ []) op e)) [ inl before ↦ let t : false ≡ true = sym fresh ∙ is_among_from done op before in absurd cc | inr same ↦ absurd (other same) ]

is_op_or_not : (a b : OpId) → (a ≡ b) ⊎ (a ≡ b → ⊥)
is_op_or_not a b = cases (is_op a b) refl
  where
    cases : (t : Bool) → is_op a b ≡ t → (a ≡ b) ⊎ (a ≡ b → ⊥)
    cases true is = inl (is_op_same a b is)
    cases false is = inr (λ e. let t : false ≡ true = sym is ∙ (ap (λ o. is_op o b) e ∙ is_op_itself b) in absurd_of t)
      where
        absurd_of : false ≡ true → ⊥
        absurd_of t = absurd cc

last_among : (done : List OpId) (op c : OpId) → op ≡ c → Among c (done ++ op ∷ [])
last_among done op c e = among-right done (op ∷ []) c (inl e)

-- the rule that is read before the step, and the one after it
others_agree : (suite : Meaning) (p : Progress) (op : OpId) (ring : List NamedKey) → length p.keys ≡ length p.done → (Among op p.done → ⊥)
    → AgreeOnCiphers (others_by (situation suite p) p.done ring) (others_by (situation suite (after_step p op (ring_key (situation suite p) ring op))) (p.done ++ op ∷ []) ring).key
unfolding situation
others_agree suite p op ring same fresh c service =
    let s = situation suite p in
    let s' = situation suite (after_step p op (ring_key s ring op)) in
    elim (is_among_cases p.done c) [
      | inl was ↦
          let there = from_is_among p.done c was in
          ap (λ b. cond b (s.key c) (ring_key s ring c)) was
          ∙ (sym (key_more p.done p.keys op (ring_key s ring op) c same there)
          ∙ sym (ap (λ b. cond b (s'.key c) (ring_key s' ring c)) (is_among_from (p.done ++ op ∷ []) c (among-left p.done (op ∷ []) c there))))
      | inr new ↦ elim (is_op_or_not op c) [
        | inl e ↦
            ap (λ b. cond b (s.key c) (ring_key s ring c)) new
            ∙ (ap (ring_key s ring) (sym e)
            ∙ (sym (key_last p.done p.keys (ring_key s ring op) op same fresh)
            ∙ (ap s'.key e ∙ sym (ap (λ b. cond b (s'.key c) (ring_key s' ring c)) (is_among_from (p.done ++ op ∷ []) c (last_among p.done op c e))))))
        | inr other ↦
            ap (λ b. cond b (s.key c) (ring_key s ring c)) new
            ∙ (ap (key_of_name ring) (bcb_rule s s'.key c service)
            ∙ sym (ap (λ b. cond b (s'.key c) (ring_key s' ring c)) (not_among_more p.done op c new other)))
      ]
    ]

others_keep : (s : Situation) (done : List OpId) (ring : List NamedKey) → Agree s (others_by s done ring).key done
others_keep s done ring o there = sym (ap (λ b. cond b (s.key o) (ring_key s ring o)) (is_among_from done o (among done o there)))

ring_step_at : (suite : Meaning) (p : Progress) (op : OpId) (ring : List NamedKey) (c : OpId) → length p.keys ≡ length p.done → Among op (ready (situation suite p) p.done)
    → (with_ring (situation suite (after_step p op (ring_key (situation suite p) ring op))) (p.done ++ op ∷ []) ring).key c ≡ (with_ring (situation suite p) p.done ring).key c
unfolding with_ring situation
ring_step_at suite p op ring c same there =
    let s = situation suite p in
    let s' = situation suite (after_step p op (ring_key s ring op)) in
    let o = others_by s p.done ring in
    let o' = others_by s' (p.done ++ op ∷ []) ring in
    let fresh : Among op p.done → ⊥ = not_done s.bundle.blocks p.done op (from_ready s p.done op there).1 in
    let End : Bool → Option (List ℕ) = λ b. cond b (s.key c) (ring_key o ring c) in
    let End' : Bool → Option (List ℕ) = λ b. cond b (s'.key c) (ring_key o' ring c) in
    elim (is_among_cases p.done c) [
      | inl was ↦
          let at = from_is_among p.done c was in
          ap End' (is_among_from (p.done ++ op ∷ []) c (among-left p.done (op ∷ []) c at))
          ∙ (key_more p.done p.keys op (ring_key s ring op) c same at ∙ sym (ap End was))
      | inr new ↦ elim (is_op_or_not op c) [
        | inl e ↦
            ap End' (is_among_from (p.done ++ op ∷ []) c (last_among p.done op c e))
            ∙ (ap s'.key (sym e)
            ∙ (key_last p.done p.keys (ring_key s ring op) op same fresh
            ∙ (ap (key_of_name ring) (ready_rule s p.done o.key op (others_keep s p.done ring) there)
            ∙ (ap (ring_key o ring) e ∙ sym (ap End new)))))
        | inr other ↦
            ap End' (not_among_more p.done op c new other)
            ∙ (ap (key_of_name ring) (sym (rule_by_ciphers o o'.key c (others_agree suite p op ring same fresh))) ∙ sym (ap End new))
      ]
    ]

-- a step with the ring's key leaves the situation in which all operations have theirs
pub ring_step : (suite : Meaning) (p : Progress) (op : OpId) (ring : List NamedKey) → length p.keys ≡ length p.done → Among op (ready (situation suite p) p.done)
    → with_ring (situation suite (after_step p op (ring_key (situation suite p) ring op))) (p.done ++ op ∷ []) ring ≡ with_ring (situation suite p) p.done ring
unfolding with_ring situation
ring_step suite p op ring same there =
    ap (λ (key : OpId → Option (List ℕ)). record { bundle = p.received; policy = p.policy; suite = suite; key = key })
    (fun_ext (λ c. ring_step_at suite p op ring c same there))

-- what is ready is the same in both
pub ring_ready : (s : Situation) (done : List OpId) (ring : List NamedKey) → ready s done ≡ ready (with_ring s done ring) done
unfolding with_ring
ring_ready s done ring = ready_same s (with_ring s done ring).key done (ring_keeps s done ring)
