-- Lines of findings: what a line says, and of what.
use Rattle.std.specs.Prelude.{ℕ, Bool, true, false, List, [], ◌∷◌, ◌++◌, codes}
use Rattle.bpsec_audit.specs.declared.line.Finding.{Finding}
use Rattle.bpsec_audit.specs.declared.line.Finding.TheVariants.{DeadRule, KeylessRule, UnknownKeyOfRule, KeyLength, RuleForType0, KeepingRule, RequirementForType0, KeepingRequirement, NoRequirement, UnusedKey, EqualKey, SharedVector, UnboundItem, VectorLength, UnknownKeyOfItem}

-- how the line begins
unfoldable pub front : Finding → List ℕ
front DeadRule = codes "dead rule="
front KeylessRule = codes "no-key rule="
front UnknownKeyOfRule = codes "unknown-key rule="
front KeyLength = codes "key-length rule="
front RuleForType0 = codes "type-0 rule="
front KeepingRule = codes "keeps rule="
front RequirementForType0 = codes "type-0 requirement="
front KeepingRequirement = codes "keeps requirement="
front NoRequirement = codes "no-requirement service="
front UnusedKey = codes "unused key="
front EqualKey = codes "equal key="
front SharedVector = codes "shared-vector item="
front UnboundItem = codes "unbound item="
front VectorLength = codes "vector-length item="
front UnknownKeyOfItem = codes "unknown-key item="

-- what stands between two names
unfoldable pub link : Finding → List ℕ
link DeadRule = codes " by="
link EqualKey = codes " to="
link finding = codes " key="

unfoldable pub line : Finding → List ℕ → List ℕ
line finding name = front finding ++ name

unfoldable pub line_of_two : Finding → List ℕ → List ℕ → List ℕ
line_of_two finding name other = front finding ++ (name ++ (link finding ++ other))

-- a line where something holds
unfoldable pub line_if : Bool → List ℕ → List (List ℕ)
line_if true text = text ∷ []
line_if false text = []

-- what is told of each, with those that stand before it
unfoldable pub each_after : {A : Type 0} → (List A → A → List (List ℕ)) → List A → List A → List (List ℕ)
each_after lines before [] = []
each_after lines before (x ∷ xs) = lines before x ++ each_after lines (before ++ x ∷ []) xs
