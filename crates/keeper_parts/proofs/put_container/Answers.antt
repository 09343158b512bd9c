use Rattle.std.proofs.Common.{◌∙◌, ap, Some, ℕ, List}
use Rattle.state_laws.proofs.Standing.{put_there, put_held, put_moment}
use Rattle.keeper_parts.proofs.Telling.{tells_in_turn, other_in_turn}
use Rattle.keeper_parts.proofs.put_container.Goals as goal

pub returns-clause-there : goal.returns-clause-there
returns-clause-there g c = put_there _ _ (c.payload-payload.ensures.there ∙ ap (λ (p : List ℕ). Some p) c.payload-payload.ensures.is) _ _ _ _ _ c.put.ensures.ok

pub returns-clause-held : goal.returns-clause-held
returns-clause-held g c K one two held = put_held _ _ (c.payload-payload.ensures.there ∙ ap (λ (p : List ℕ). Some p) c.payload-payload.ensures.is) _ _ _ _ K one two c.put.ensures.at_most held

pub returns-clause-any_moment : goal.returns-clause-any_moment
returns-clause-any_moment g c K one two here = put_moment _ _ (c.payload-payload.ensures.there ∙ ap (λ (p : List ℕ). Some p) c.payload-payload.ensures.is) _ _ _ _ K one two c.put.ensures.at_most here

pub returns-clause-tells : goal.returns-clause-tells
returns-clause-tells g c tells = tells_in_turn _ _ _ _ _ _ _ _ c.put.ensures.at_most tells

pub returns-clause-others : goal.returns-clause-others
returns-clause-others g c q one two = other_in_turn _ _ _ _ _ _ _ _ c.put.ensures.at_most q one two
