use Rattle.std.proofs.Common.{◌∙◌, subst, ◌++◌}
use Rattle.std.specs.Prelude.{length, option_to_list}
use Rattle.vault_types.specs.Decide.{decide}
use Rattle.vault_types.specs.Fill.{fill}
use Rattle.container_fill.specs.Filling.{IsFilledBy}
use Rattle.backup_pass.specs.Placing.{places_in, answers_of, joined}
use Rattle.backup_pass.proofs.Taking.{placed_all}
use Rattle.backup_pass.proofs.Decisions.{decide_in_turn}
use Rattle.backup_pass.proofs.placer.Placer.finish.Goals as goal

pub returns-in-Ok-clause-filled : goal.returns-in-Ok-clause-filled
returns-in-Ok-clause-filled c r first chunks gone h =
    let p = c.args.self in
    let f = c.finish.result in
    let filled = placed_all p r first chunks _ _ c.place_segment.new.filler h
    (c.in-Ok.ensures.filled r (places_in (answers_of p) r h.done) first gone (joined h.done) h.decided h.filled) in
    subst (λ n. IsFilledBy (option_to_list f.last) f.rows f.next f.containers f.written first (gone ++ c.place_segment.new.out.items) (length chunks) (fill first chunks (decide (answers_of p) r chunks) n))
    (c.in-Ok.ensures.capacity ∙ h.capacity)
    (c.finish.ensures.in_turn first _ chunks (decide (answers_of p) r chunks) filled (decide_in_turn (answers_of p) r chunks))
