use Rattle.bpsec_policy.specs.RingText.{key_at}
use Rattle.bpsec_policy.proofs.EntryLaws.{EntryLaws}
use Rattle.bpsec_policy.proofs.Rings.{ring_means}
use Rattle.bpsec_policy.proofs.ring.KeyRing.from_json.Goals as goal

pub invariant_of-result : goal.invariant_of-result
invariant_of-result c =
    let laws : EntryLaws key_at = record {
      all = λ i t ds xs e. c.names_stand_once.ensures.all 1 i t ds xs e;
      once = λ i t ds xs e. c.names_stand_once.ensures.once 1 i t ds xs e;
      free = λ i t ds xs e. c.names_stand_once.ensures.new 1 i t ds xs e;
      pass = λ i t ds xs test h e. c.entries_are_alike.ensures.pass 1 i t ds xs test h e;
      names = λ i t ds xs name h e. c.entries_are_alike.ensures.names 1 i t ds xs name h e;
    } in
    ring_means laws _ _ c.in-Ok-keys_of.ensures
