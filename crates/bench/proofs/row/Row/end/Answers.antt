use Rattle.std.proofs.Common.{subst, ◌∙◌}
use Rattle.vault_types.specs.Stages.{IsFront}
use Rattle.bench.specs.Row.{Rowing}
use Rattle.bench.proofs.Relayed.{IsFront-then}
use Rattle.bench.proofs.row.Row.end.Goals as goal

-- from the last line to the first
pub returns : goal.returns
returns g c =
    let Front : Rowing → Type 0 = λ r. IsFront r.taken r.sent in let near = c.self.inside.near.sent in let far = c.self.inside.far.taken in
    let from = c.end-from.result.0.taken in let to = c.end-from.result.1.sent in let second_from = c.end-second_from.result.0.taken in let second_to = c.end-second_from.result.1.sent in
    let first : IsFront to near = IsFront-then to from near (c.end.result.ready, c.end-from.ensures.sent) (c.close.ensures.0, c.close.ensures.1.same) in
    let second : IsFront second_to to = IsFront-then second_to second_from to (c.end-2.result.ready, c.end-second_from.ensures.sent) (c.close-2.ensures.0, c.close-2.ensures.1.same) in
    subst Front (c.self.view_is ∙ c.finish_rest.ensures) (IsFront-then far second_to near (c.close-3.ensures.0, c.close-3.ensures.1.same) (IsFront-then second_to to near second first))
