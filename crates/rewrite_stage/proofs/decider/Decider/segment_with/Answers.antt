use Rattle.std.proofs.Common.{◌≡◌, ◌++◌, map, ap, ◌∙◌}
use Rattle.vault_types.specs.Decide.{counted_id, decisions_of}
use Rattle.rewrite_stage.specs.Deciding.{looked_with, places_of}
use Rattle.rewrite_stage.specs.Steps.{fps_with_olds, decide_all}
use Rattle.rewrite_stage.proofs.Rule.{whole_segment, both_ok}
use Rattle.rewrite_stage.proofs.decider.Decider.segment_with.Goals as goal

pub returns-clause-places : goal.returns-clause-places
returns-clause-places c = λ r places h.
    let same : decide_all places (fps_with_olds c.args.chunks.items c.as_slice-2.result.now) ≡ decisions_of r places (looked_with c.args.chunks.items c.args.found.now) =
    ap (λ os. decide_all places (fps_with_olds c.args.chunks.items os)) c.as_slice-2.ensures.value
    ∙ whole_segment r places c.args.chunks.items c.args.found.now c.in_ok-counted.counted.items c.in_ok-allowed.allowed.items c.self.inside.config
    (ap (λ d. d.rules.config) c.self.view_is ∙ h.config)
    (c.in_ok-counted.ensures r places h ∙ ap (λ cs. map (counted_id r places) (looked_with cs c.args.found.now)) c.as_slice.ensures.value)
    c.in_ok-allowed.ensures in
    both_ok c.decide.result _ _ (λ d. places ++ places_of d.items ≡ decisions_of r places (looked_with c.args.chunks.items c.args.found.now))
    c.decide.ensures.chunks (c.decide.ensures.places r places h)
    (λ d e p. p ∙ ap (λ cs. decide_all places (fps_with_olds cs c.as_slice-2.result.now)) e ∙ same)
