-- A suite of one integrity context and one cipher context.
use Rattle.std.specs.Prelude.{ℤ, if◌then◌else◌}
use Rattle.std.specs.Ordering.{int_eq}
use Rattle.bpsec_context.specs.declared.service.ServiceOf.{ServiceOf}
use Rattle.bpsec_context.specs.declared.service.ServiceOf.TheVariants.{Integrity, Confidentiality, Unknown}

-- which service the context of an id has, of the ids of both contexts
unfoldable pub pair_service : ℤ → ℤ → ℤ → ServiceOf
pair_service integrity confidentiality context =
    if int_eq context integrity then Integrity else if int_eq context confidentiality then Confidentiality else Unknown

-- one of three, by the service
abbrev pub by_service : {A : Type 0} → ServiceOf → A → A → A → A
by_service Integrity integrity confidentiality unknown = integrity
by_service Confidentiality integrity confidentiality unknown = confidentiality
by_service Unknown integrity confidentiality unknown = unknown
