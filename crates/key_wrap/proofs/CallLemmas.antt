-- What the calls make, as equations of plain lists.
use Rattle.std.proofs.Common.{◌≡◌, ℕ, List, ◌++◌, length, take, drop, refl, sym, ap, ◌∙◌, arith}
use Rattle.std.proofs.lemmas.List.{take_all, length-drop}
use Rattle.aes_core.specs.Cipher.{cipher, inverse_cipher}
use Rattle.gf2_polynomial.specs.Bytes.{bytes_sum}
use Rattle.key_wrap.specs.KeyWrap.{registers, initial_value, step_bytes, place, group, with_group, step_count, wrap_step, wrap_steps, wrap, unwrap_step, unwrap_steps, unwrap}

-- one step of wrapping, by its parts
pub wrap_step_by : (nk : ℕ) (kek : List ℕ) (t : ℕ) (a r part block after first last a' r' : List ℕ)
    → part ≡ group r (place r t) → block ≡ a ++ part → after ≡ cipher nk kek block → first ≡ take 8 after
    → a' ≡ bytes_sum first (step_bytes t) → last ≡ drop 8 after → r' ≡ with_group r (place r t) last
    → wrap_step nk kek t (registers a r) ≡ registers a' r'
unfolding wrap_step
wrap_step_by nk kek t a r part block after first last a' r' e1 e2 e3 e4 e5 e6 e7 = rw (e7, e6, e5, e4, e3, e2, e1) refl

-- one step of unwrapping, by its parts
pub unwrap_step_by : (nk : ℕ) (kek : List ℕ) (t : ℕ) (a r part added block after last a' r' : List ℕ)
    → part ≡ group r (place r t) → added ≡ bytes_sum a (step_bytes t) → block ≡ added ++ part → after ≡ inverse_cipher nk kek block
    → a' ≡ take 8 after → last ≡ drop 8 after → r' ≡ with_group r (place r t) last
    → unwrap_step nk kek t (registers a r) ≡ registers a' r'
unfolding unwrap_step
unwrap_step_by nk kek t a r part added block after last a' r' e1 e2 e3 e4 e5 e6 e7 = rw (e7, e6, e5, e4, e3, e2, e1) refl

-- the last half of a block
pub last_half : (block : List ℕ) → length block ≡ 16 → take 8 (drop 8 block) ≡ drop 8 block
last_half block h = take_all 8 (drop 8 block) (omega (arith, length-drop 8 block))

pub wrap_by : (nk : ℕ) (kek key given a r : List ℕ) → given ≡ key
    → wrap_steps nk kek (step_count given) (registers initial_value given) ≡ registers a r → a ++ r ≡ wrap nk kek key
unfolding wrap
wrap_by nk kek key given a r e h = let all = rw e at h in rw all refl

pub unwrap_by : (nk : ℕ) (kek wrapped first rest a r : List ℕ) → first ≡ take 8 wrapped → rest ≡ drop 8 wrapped
    → unwrap_steps nk kek (step_count rest) (registers first rest) ≡ registers a r → unwrap nk kek wrapped ≡ registers a r
unfolding unwrap
unwrap_by nk kek wrapped first rest a r e f h = rw (e, f) at h

-- what a wrapped key is unwrapped to
pub key_back : (nk : ℕ) (kek wrapped key a r : List ℕ) → unwrap nk kek wrapped ≡ registers a r → wrapped ≡ wrap nk kek key
    → unwrap nk kek (wrap nk kek key) ≡ registers initial_value key → (a ≡ initial_value) × (r ≡ key)
key_back nk kek wrapped key a r e w law =
    let same : registers a r ≡ registers initial_value key = sym e ∙ ap (unwrap nk kek) w ∙ law in
    (ap (λ s. s.check) same, ap (λ s. s.groups) same)
