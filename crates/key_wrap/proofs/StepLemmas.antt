-- A step of unwrapping undoes that of wrapping, and so do all steps.
use Rattle.std.proofs.Common.{◌≡◌, ℕ, zero, suc, ◌+◌, ◌-◌, ◌%◌, ◌<◌, ◌≤◌, List, ◌++◌, All, length, take, drop, refl, sym, ap, ◌∙◌, arith, length-append, length-take, length-drop}
use Rattle.std.proofs.lemmas.List.{take_at, drop_at, take-append-drop}
use Rattle.std.proofs.lemmas.List.Elements.{All-append, All-take, All-drop, All-replicate}
use Rattle.aes_core.specs.Cipher.{cipher, inverse_cipher}
use Rattle.key_wrap.specs.KeyWrap.{IsWrappable, initial_value, step_count, wrap, unwrap, Registers, registers, step_bytes, place, group, with_group, wrap_step, wrap_steps, unwrap_step, unwrap_steps}
use Rattle.gf2_polynomial.proofs.ByteSums.{length-bytes_sum, bytes_sum_twice, All-bytes_sum}
use Rattle.key_wrap.proofs.StepNumbers.{length-step_bytes, All-step_bytes}
use Rattle.key_wrap.proofs.RegisterLemmas.{place_within, length-group, length-with_group, group-with_group, with_group-undone}

-- a register of 8 bytes, and whole registers of 8 bytes
pub record IsState (s : Registers) : Type 0 where
  pub eight : length s.check ≡ 8
  pub some : 8 ≤ length s.groups
  pub whole : length s.groups % 8 ≡ 0
  pub check_bytes : All (λ b. b < 256) s.check
  pub group_bytes : All (λ b. b < 256) s.groups

module _ (nk : ℕ) (kek : List ℕ) (sixteen : (block : List ℕ) → length (cipher nk kek block) ≡ 16) where
  pub length-wrap_step : (t : ℕ) (s : Registers) → IsState s → length (wrap_step nk kek t s).groups ≡ length s.groups
  unfolding wrap_step
  length-wrap_step t s h =
      let p : ℕ = place s.groups t in
      let b : List ℕ = cipher nk kek (s.check ++ group s.groups p) in
      let half : length (drop 8 b) ≡ 8 = omega (arith, length-drop 8 b, sixteen (s.check ++ group s.groups p)) in
      length-with_group s.groups p (place_within s.groups t h.some h.whole) (drop 8 b) half

module _ (nk : ℕ) (kek : List ℕ) (sixteen : (block : List ℕ) → length (cipher nk kek block) ≡ 16) (bytes : (block : List ℕ) → All (λ b. b < 256) (cipher nk kek block)) (undone : (block : List ℕ) → length block ≡ 16 → All (λ b. b < 256) block → inverse_cipher nk kek (cipher nk kek block) ≡ block) where
  IsState-wrap_step : (t : ℕ) (s : Registers) → IsState s → IsState (wrap_step nk kek t s)
  unfolding wrap_step
  IsState-wrap_step t s h =
      let p : ℕ = place s.groups t in
      let a : List ℕ = s.check ++ group s.groups p in
      let b : List ℕ = cipher nk kek a in
      let within = place_within s.groups t h.some h.whole in
      let first : length (take 8 b) ≡ 8 = omega (arith, length-take 8 b, sixteen a) in
      let last : length (drop 8 b) ≡ 8 = omega (arith, length-drop 8 b, sixteen a) in
      let same : length (take 8 b) ≡ length (step_bytes t) = first ∙ sym (length-step_bytes t) in
      let kept : length (with_group s.groups p (drop 8 b)) ≡ length s.groups = length-with_group s.groups p within (drop 8 b) last in
      record {
        eight = length-bytes_sum (take 8 b) (step_bytes t) (omega (arith, same)) ∙ first;
        some = rw kept h.some;
        whole = rw kept h.whole;
        check_bytes = All-bytes_sum (take 8 b) (step_bytes t) (All-take (λ b. b < 256) 8 b (bytes a)) (All-step_bytes t);
        group_bytes =
            All-append (λ b. b < 256) (take p s.groups ++ drop 8 b) (drop (p + 8) s.groups)
            (All-append (λ b. b < 256) (take p s.groups) (drop 8 b) (All-take (λ b. b < 256) p s.groups h.group_bytes) (All-drop (λ b. b < 256) 8 b (bytes a)))
            (All-drop (λ b. b < 256) (p + 8) s.groups h.group_bytes);
      }

  IsState-wrap_steps : (t : ℕ) (s : Registers) → IsState s → IsState (wrap_steps nk kek t s)
  unfolding wrap_steps
  IsState-wrap_steps zero s h = h
  IsState-wrap_steps (suc t) s h = IsState-wrap_step (suc t) (wrap_steps nk kek t s) (IsState-wrap_steps t s h)

  length-wrap_steps : (t : ℕ) (s : Registers) → IsState s → length (wrap_steps nk kek t s).groups ≡ length s.groups
  unfolding wrap_steps
  length-wrap_steps zero s h = refl
  length-wrap_steps (suc t) s h =
      length-wrap_step nk kek sixteen (suc t) (wrap_steps nk kek t s) (IsState-wrap_steps t s h) ∙ length-wrap_steps t s h

  unwrap_step-wrap_step : (t : ℕ) (s : Registers) → IsState s → unwrap_step nk kek t (wrap_step nk kek t s) ≡ s
  unfolding wrap_step unwrap_step
  unwrap_step-wrap_step t s h =
      let p : ℕ = place s.groups t in
      let a : List ℕ = s.check ++ group s.groups p in
      let b : List ℕ = cipher nk kek a in
      let within = place_within s.groups t h.some h.whole in
      let first : length (take 8 b) ≡ 8 = omega (arith, length-take 8 b, sixteen a) in
      let last : length (drop 8 b) ≡ 8 = omega (arith, length-drop 8 b, sixteen a) in
      let same : length (take 8 b) ≡ length (step_bytes t) = first ∙ sym (length-step_bytes t) in
      let kept : length (with_group s.groups p (drop 8 b)) ≡ length s.groups = length-with_group s.groups p within (drop 8 b) last in
      let long : length a ≡ 16 = omega (arith, length-append s.check (group s.groups p), length-group s.groups p within, h.eight) in
      let clean : All (λ b. b < 256) a =
      All-append (λ b. b < 256) s.check (group s.groups p) h.check_bytes (All-take (λ b. b < 256) 8 (drop p s.groups) (All-drop (λ b. b < 256) p s.groups h.group_bytes)) in
      rw (kept, bytes_sum_twice (take 8 b) (step_bytes t) (omega (arith, same)), group-with_group s.groups p within (drop 8 b) last, take-append-drop 8 b, undone a long clean, take_at s.check (group s.groups p) 8 h.eight, drop_at s.check (group s.groups p) 8 h.eight, with_group-undone s.groups p within (drop 8 b) last)
      refl

  pub unwrap_steps-wrap_steps : (t : ℕ) (s : Registers) → IsState s → unwrap_steps nk kek t (wrap_steps nk kek t s) ≡ s
  unfolding wrap_steps unwrap_steps
  unwrap_steps-wrap_steps zero s h = refl
  unwrap_steps-wrap_steps (suc t) s h =
      rw (unwrap_step-wrap_step (suc t) (wrap_steps nk kek t s) (IsState-wrap_steps t s h)) (unwrap_steps-wrap_steps t s h)

  first_state : (key : List ℕ) → IsWrappable key → IsState (registers initial_value key)
  first_state key k = record {
    eight = refl;
    some = omega (arith, k.at_least);
    whole = k.whole;
    check_bytes = All-replicate (λ b. b < 256) 8 0xa6 (omega arith);
    group_bytes = k.has_bytes;
  }

  -- what was wrapped is unwrapped
  pub unwrap-wrap : (key : List ℕ) → IsWrappable key → unwrap nk kek (wrap nk kek key) ≡ registers initial_value key
  unfolding wrap unwrap
  unwrap-wrap key k =
      let start : Registers = registers initial_value key in
      let end : Registers = wrap_steps nk kek (step_count key) start in
      let state = IsState-wrap_steps (step_count key) start (first_state key k) in
      let same : length end.groups ≡ length key = length-wrap_steps (step_count key) start (first_state key k) in
      rw (take_at end.check end.groups 8 state.eight, drop_at end.check end.groups 8 state.eight, same)
      (unwrap_steps-wrap_steps (step_count key) start (first_state key k))

  -- a wrapped key has 8 bytes more
  pub length-wrap : (key : List ℕ) → IsWrappable key → length (wrap nk kek key) ≡ length key + 8
  unfolding wrap
  length-wrap key k =
      let start : Registers = registers initial_value key in
      let end : Registers = wrap_steps nk kek (step_count key) start in
      let state = IsState-wrap_steps (step_count key) start (first_state key k) in
      let same : length end.groups ≡ length key = length-wrap_steps (step_count key) start (first_state key k) in
      omega (arith, length-append end.check end.groups, state.eight, same)

  pub All-wrap : (key : List ℕ) → IsWrappable key → All (λ b. b < 256) (wrap nk kek key)
  unfolding wrap
  All-wrap key k =
      let start : Registers = registers initial_value key in
      let end : Registers = wrap_steps nk kek (step_count key) start in
      let state = IsState-wrap_steps (step_count key) start (first_state key k) in
      All-append (λ b. b < 256) end.check end.groups state.check_bytes state.group_bytes

-- ---- one step more, in the code's numbers

pub wrap_steps_more : (nk : ℕ) (kek : List ℕ) (t : ℕ) (s : Registers) → 1 ≤ t → wrap_steps nk kek (t + 1 - 1) s ≡ wrap_step nk kek t (wrap_steps nk kek (t - 1) s)
unfolding wrap_steps
wrap_steps_more nk kek t s h =
    let e : t + 1 - 1 ≡ suc (t - 1) = omega arith in
    let f : suc (t - 1) ≡ t = omega arith in
    rw e (ap (λ m. wrap_step nk kek m (wrap_steps nk kek (t - 1) s)) f)

pub unwrap_steps_more : (nk : ℕ) (kek : List ℕ) (t : ℕ) (s : Registers) → 1 ≤ t → unwrap_steps nk kek t s ≡ unwrap_steps nk kek (t - 1) (unwrap_step nk kek t s)
unfolding unwrap_steps
unwrap_steps_more nk kek t s h =
    let f : suc (t - 1) ≡ t = omega arith in
    sym (ap (λ m. unwrap_steps nk kek m s) f) ∙ ap (λ m. unwrap_steps nk kek (t - 1) (unwrap_step nk kek m s)) f
