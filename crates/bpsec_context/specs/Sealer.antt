-- What a sealer is ready for.
use Rattle.std.specs.Prelude.{◌≡◌, ℕ, List}
use Rattle.gcm_core.specs.State.{HasTaken}
use Rattle.bpsec_context.specs.declared.sealer.Sealer.{Sealer}
use Rattle.bpsec_context.specs.declared.sealer.Sealer.TheVariants.{Aes128, Aes256}

-- it has this key of so many words, and has taken this additional data
abbrev pub IsReady : ℕ → List ℕ → List ℕ → Sealer → Type 0
IsReady words key aad (Aes128 gcm) = (words ≡ 4) × (gcm.key ≡ key) × HasTaken 4 gcm aad
IsReady words key aad (Aes256 gcm) = (words ≡ 8) × (gcm.key ≡ key) × HasTaken 8 gcm aad
