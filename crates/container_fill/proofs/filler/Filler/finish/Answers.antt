use Rattle.std.proofs.Common.{◌≡◌, ℕ, List, length, ap, ◌∙◌, refl, option_to_list}
use Rattle.vault_types.specs.declared.How.{How}
use Rattle.vault_types.specs.Names.{NamedChunk}
use Rattle.vault_types.specs.Tables.{Container}
use Rattle.vault_types.specs.Fill.{Filled, fill}
use Rattle.container_fill.specs.Carried.{carried}
use Rattle.container_fill.specs.Fields.{filling_in}
use Rattle.container_fill.specs.Filling.{opened, closed, HasFilled, IsFilledBy}
use Rattle.container_fill.proofs.FillerLemmas.{filled-by, filled-in_turn, filled-moved}
use Rattle.container_fill.proofs.filler.Filler.finish.Goals as goal

now : (c : goal.After-drop-filler-inside-3) → filling_in c.filler.inside ≡ closed c.args.self
now c = c.filler.view_is ∙ c.close-last.ensures.filler

by : (c : goal.After-drop-filler-inside-3) (first : ℕ) (gone : List Container) (chunks : List NamedChunk) (hows : List How) (G : Filled)
    → HasFilled c.args.self first gone chunks hows → fill first chunks (carried chunks hows) c.args.self.capacity ≡ G
    → IsFilledBy (option_to_list c.close-last.result) c.from_vec.result c.filler.inside.next c.filler.inside.containers c.filler.inside.written first gone (length chunks) G
by c first gone chunks hows G h same =
    filled-moved (option_to_list c.close-last.result) (opened c.args.self.next c.args.self.held) c.from_vec.result (closed c.args.self).rows
    c.filler.inside.next (closed c.args.self).next c.filler.inside.containers (closed c.args.self).containers c.filler.inside.written (closed c.args.self).written
    first gone (length chunks) (fill first chunks (carried chunks hows) c.args.self.capacity) G (filled-by c.args.self first gone chunks hows h)
    c.close-last.ensures.given
    (c.from_vec.ensures ∙ ap (λ f. f.rows) (now c))
    (ap (λ f. f.next) (now c))
    (ap (λ f. f.containers) (now c))
    (ap (λ f. f.written) (now c))
    same

pub returns-clause-filled : goal.returns-clause-filled
returns-clause-filled c first gone chunks hows h = by c first gone chunks hows (fill first chunks (carried chunks hows) c.args.self.capacity) h refl

pub returns-clause-in_turn : goal.returns-clause-in_turn
returns-clause-in_turn c first gone chunks hows h turn = by c first gone chunks hows (fill first chunks hows c.args.self.capacity) h (filled-in_turn c.args.self first gone chunks hows h turn)
