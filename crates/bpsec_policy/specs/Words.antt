-- The words of policies.
use Rattle.std.specs.Prelude.{ℕ, if◌then◌else◌, List, codes, Option, Some, None}
use Rattle.std.specs.Str.{bytes_eq}
use Rattle.bpsec_asb.specs.declared.operation.Service.{Service}
use Rattle.bpsec_asb.specs.declared.operation.Service.TheVariants.{Bib, Bcb}
use Rattle.bpsec_policy.specs.declared.rule.Role.{Role}
use Rattle.bpsec_policy.specs.declared.rule.Role.TheVariants as roles
use Rattle.bpsec_policy.specs.declared.rule.Action.{Action}
use Rattle.bpsec_policy.specs.declared.rule.Action.TheVariants.{Keep, Remove, Discard}

abbrev pub role_word : Role → List ℕ
role_word roles.Acceptor = codes "acceptor"
role_word roles.Verifier = codes "verifier"
role_word roles.None = codes "none"

abbrev pub action_word : Action → List ℕ
action_word Keep = codes "keep"
action_word Remove = codes "remove"
action_word Discard = codes "discard"

abbrev pub service_word : Service → List ℕ
service_word Bib = codes "bib"
service_word Bcb = codes "bcb"

abbrev pub role_of : List ℕ → Option Role
role_of text =
    if bytes_eq text (role_word roles.Acceptor) then Some roles.Acceptor
    else if bytes_eq text (role_word roles.Verifier) then Some roles.Verifier
    else if bytes_eq text (role_word roles.None) then Some roles.None
    else None

abbrev pub action_of : List ℕ → Option Action
action_of text =
    if bytes_eq text (action_word Keep) then Some Keep
    else if bytes_eq text (action_word Remove) then Some Remove
    else if bytes_eq text (action_word Discard) then Some Discard
    else None

abbrev pub service_of : List ℕ → Option Service
service_of text =
    if bytes_eq text (service_word Bib) then Some Bib
    else if bytes_eq text (service_word Bcb) then Some Bcb
    else None
