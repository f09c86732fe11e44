-- Two bodies in counter mode under one vector: what is added to both falls away.
use Rattle.std.proofs.Common.{◌≡◌, ℕ, ◌+◌, List, [], ◌∷◌, Ok, Some, Bool, true, false, length, take, bit_xor, refl, sym, ap, ◌∙◌, arith}
use Rattle.std.proofs.lemmas.List.{take_at, take_all}
use Rattle.std.proofs.Math.Seq.{take-nil}
use Rattle.std.specs.Int.Bits.{xor_assoc, xor_comm, xor_self, xor_zero_l, xor_zero_r}
use Rattle.bpsec_asb.specs.declared.asb.Pair.{Pair}
use Rattle.bpsec_scope.specs.Parts.{Parts}
use Rattle.gcm_core.specs.Counter.{bytes_sum, key_stream, counter_mode_from, counter_mode}
use Rattle.gcm_core.specs.Gcm.{first_block, ciphered}
use Rattle.bp_blocks.specs.declared.block.Block.{Block}
use Rattle.bpsec_plan.specs.declared.item.Cover.{Cover}
use Rattle.bpsec_plan.specs.declared.item.Item.{Item}
use Rattle.bpsec_plan.specs.declared.item.Item.TheVariants.{Bib, Bcb, Split}
use Rattle.bpsec_policy.specs.declared.ring.NamedKey.{NamedKey}
use Rattle.bpsec_facts.specs.Facts.{Facts}
use Rattle.bpsec_facts.specs.Left as left
use Rattle.bpsec_secure.specs.Secured as plans
use Rattle.bpsec_context.specs.Calls.{Protected}
use Rattle.bpsec_context.specs.Tables as tables
use Rattle.bpsec_context.specs.Confidentiality.{sealed, enciphered, block_cipher, vector_of}

both : (x y k : ℕ) → bit_xor (bit_xor x k) (bit_xor y k) ≡ bit_xor x y
both x y k =
    xor_assoc x k (bit_xor y k)
    ∙ ap (bit_xor x) (ap (bit_xor k) (xor_comm y k) ∙ (sym (xor_assoc k k y) ∙ (ap (λ n. bit_xor n y) (xor_self k) ∙ xor_zero_l y)))

counted : (e : List ℕ → List ℕ) (first : List ℕ) (i : ℕ) (one other : List ℕ)
    → bytes_sum (counter_mode_from e first i one) (counter_mode_from e first i other) ≡ bytes_sum one other
counted e first i [] other = refl
counted e first i (x ∷ one) [] = refl
counted e first i (x ∷ one) (y ∷ other) = rw (both x y (key_stream e first i), counted e first (i + 1) one other) refl

pub ciphered_twice : (e : List ℕ → List ℕ) (iv one other : List ℕ) → bytes_sum (ciphered e iv one) (ciphered e iv other) ≡ bytes_sum one other
unfolding ciphered counter_mode
ciphered_twice e iv one other = counted e (first_block e iv) 0 one other

-- what sealing gives is the body in counter mode
made : (key : List ℕ) (parameters : List Pair) (parts : Parts) (body : List ℕ) (is : Protected) → sealed key parameters parts body ≡ Ok is
    → is.ciphertext ≡ ciphered (block_cipher key parameters) (vector_of parameters) body
unfolding sealed enciphered
made key parameters parts body is e =
    ap (λ (it : Protected). it.ciphertext) (sym (tables.made_freely _ _ _ _ is e).3)

pub sealed_twice : (key : List ℕ) (parameters : List Pair) (a b : Parts) (one other : List ℕ) (first second : Protected)
    → sealed key parameters a one ≡ Ok first → sealed key parameters b other ≡ Ok second
    → bytes_sum first.ciphertext second.ciphertext ≡ bytes_sum one other
sealed_twice key parameters a b one other first second e f =
    rw (made key parameters a one first e, made key parameters b other second f)
    (ciphered_twice (block_cipher key parameters) (vector_of parameters) one other)

twice : (x y : ℕ) → bit_xor (bit_xor x y) y ≡ x
twice x y = xor_assoc x y y ∙ (ap (bit_xor x) (xor_self y) ∙ xor_zero_r x)

-- what is added twice falls away, as far as it goes
added_twice : (a b : List ℕ) → bytes_sum (bytes_sum a b) b ≡ take (length b) a
added_twice [] b = sym (take-nil (length b))
added_twice (x ∷ a) [] = refl
added_twice (x ∷ a) (y ∷ b) = rw (twice x y, added_twice a b) refl

pub read : (key : List ℕ) (parameters : List Pair) (a b : Parts) (one other : List ℕ) (first second : Protected)
    → sealed key parameters a one ≡ Ok first → sealed key parameters b other ≡ Ok second
    → bytes_sum (bytes_sum second.ciphertext first.ciphertext) one ≡ take (length one) other
read key parameters a b one other first second e f =
    ap (λ (sum : List ℕ). bytes_sum sum one) (sealed_twice key parameters b a other one second first f e) ∙ added_twice other one

-- ---- in the bundle that a plan gives

-- the ciphertext is a front as long as the body, whether the tag stands behind it or not
front : (made : Protected) (tag_in_body : Bool) (n : ℕ) → length made.ciphertext ≡ n → take n (plans.with_tag tag_in_body made) ≡ made.ciphertext
front made true n long = take_at made.ciphertext made.tag n long
front made false n long = take_all n made.ciphertext (omega arith)

-- two bodies that are sealed by one cipher under one vector
item_twice : (e : List ℕ → List ℕ) (iv : List ℕ) (tag_in_body : Bool) (one other : List ℕ) (first second : Protected)
    → ((body : List ℕ) → length (ciphered e iv body) ≡ length body) → first.ciphertext ≡ ciphered e iv one → second.ciphertext ≡ ciphered e iv other
    → bytes_sum (take (length one) (plans.with_tag tag_in_body first)) (take (length other) (plans.with_tag tag_in_body second)) ≡ bytes_sum one other
item_twice e iv tag_in_body one other first second long p q =
    ap (λ (bytes : List ℕ). bytes_sum bytes (take (length other) (plans.with_tag tag_in_body second))) (front first tag_in_body (length one) (ap length p ∙ long one) ∙ p)
    ∙ (ap (bytes_sum (ciphered e iv one)) (front second tag_in_body (length other) (ap length q ∙ long other) ∙ q)
    ∙ ciphered_twice e iv one other)

-- what is made of a block's body by an item
by_item : Facts → Cover → List ℕ → Bool → Bool → Block → Protected
by_item facts cover iv shared tag_in_body block =
    plans.protected facts.ring cover iv (plans.sealed_parts (left.primary_left facts) (left.new_header (Bcb cover iv shared tag_in_body)) (left.header_of block)) block.body

pub secured_twice : ((e : List ℕ → List ℕ) (iv body : List ℕ) → length (ciphered e iv body) ≡ length body)
    → (facts : Facts) (item : Item) (one other : Block) → plans.sealing_item facts one ≡ Some item → plans.sealing_item facts other ≡ Some item
    → bytes_sum (take (length one.body) (plans.sealed facts one).body) (take (length other.body) (plans.sealed facts other).body) ≡ bytes_sum one.body other.body
unfolding plans.sealed plans.protected by_item
secured_twice long facts (Bib cover) one other e f = rw (e, f, take_all (length one.body) one.body (omega arith), take_all (length other.body) other.body (omega arith)) refl
secured_twice long facts (Split split) one other e f = rw (e, f, take_all (length one.body) one.body (omega arith), take_all (length other.body) other.body (omega arith)) refl
secured_twice long facts (Bcb cover iv shared tag_in_body) one other e f =
    let cipher = plans.block_cipher facts.ring cover in
    rw (e, f)
    (item_twice cipher iv tag_in_body one.body other.body (by_item facts cover iv shared tag_in_body one) (by_item facts cover iv shared tag_in_body other) (long cipher iv) refl refl)
