use Rattle.std.proofs.Common.{ℕ, sym}
use Rattle.bpsec_policy.specs.RuleText.{rule_at, requirement_at}
use Rattle.bpsec_policy.proofs.EntryLaws.{EntryLaws}
use Rattle.bpsec_policy.proofs.Policies.{parts_mean}
use Rattle.bpsec_policy.proofs.policy.Policy.of_tree.Goals as goal

pub of-requires : goal.of-requires
of-requires c =
    let rules : (version : ℕ) → EntryLaws (rule_at version) = λ version. record {
      all = λ i t ds xs e. c.names_stand_once.ensures.all version i t ds xs e;
      once = λ i t ds xs e. c.names_stand_once.ensures.once version i t ds xs e;
      free = λ i t ds xs e. c.names_stand_once.ensures.new version i t ds xs e;
      pass = λ i t ds xs test h e. c.entries_are_alike.ensures.pass version i t ds xs test h e;
      names = λ i t ds xs name h e. c.entries_are_alike.ensures.names version i t ds xs name h e;
    } in
    let required : EntryLaws requirement_at = record {
      all = λ i t ds xs e. c.names_stand_once-2.ensures.all 1 i t ds xs e;
      once = λ i t ds xs e. c.names_stand_once-2.ensures.once 1 i t ds xs e;
      free = λ i t ds xs e. c.names_stand_once-2.ensures.new 1 i t ds xs e;
      pass = λ i t ds xs test h e. c.entries_are_alike-2.ensures.pass 1 i t ds xs test h e;
      names = λ i t ds xs name h e. c.entries_are_alike-2.ensures.names 1 i t ds xs name h e;
    } in
    parts_mean rules required _ _ c.in-Ok.head (c.in_ok-rules.rules, c.in_ok-rules.required) (sym c.if-not-are_short.ensures) c.in-Ok.ensures c.in_ok-rules.ensures
