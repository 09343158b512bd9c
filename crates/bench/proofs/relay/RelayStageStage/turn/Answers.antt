use Rattle.std.proofs.Common.{◌≡◌, false, arith, rules}
use Rattle.std.proofs.lemmas.Grind.{common_steps}
use Rattle.bench.specs.Relay.{has_end}
use Rattle.bench.proofs.Relayed.{has_end-snoc}
use Rattle.bench.proofs.relay.RelayStageStage.turn.Goals as goal

pub invariant_of-self-in-Some-take : goal.invariant_of-self-in-Some-take
invariant_of-self-in-Some-take g c = let s = c.self.inside in let open_yet : has_end s.from.taken ≡ false = search rules in (
  grind (arith, common_steps),
  rw c.in-Some-take.ensures.taken (has_end-snoc s.from.taken c.in-Some-take.item c.is_none-self-inside.result open_yet c.is_none-self-inside.ensures),
)
