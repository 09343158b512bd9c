use Rattle.std.proofs.Common.{◌≡◌, ◌++◌, map, IfOk, ap, subst, ◌∙◌}
use Rattle.vault_types.specs.Names.{fp}
use Rattle.vault_types.specs.Decide.{decisions_of}
use Rattle.fp_index.specs.Index.{found_in}
use Rattle.rewrite_stage.specs.Deciding.{looked_with, looked_up, places_of}
use Rattle.rewrite_stage.proofs.Steps.{looked-up}
use Rattle.rewrite_stage.proofs.decider.Decider.segment.Goals as goal

pub returns-clause-places : goal.returns-clause-places
returns-clause-places c = λ r places h.
    let same : looked_with c.args.chunks.items c.as_slice-2.result.now ≡ looked_up c.args.self.now.index c.args.chunks.items =
    ap (looked_with c.args.chunks.items) (c.as_slice-2.ensures.value ∙ c.in_ok-found.ensures ∙ ap (map (λ c'. found_in c.self.inside.index (fp c'))) c.as_slice.ensures.value)
    ∙ looked-up c.self.inside.index c.args.chunks.items
    ∙ ap (λ d. looked_up d.index c.args.chunks.items) c.self.view_is in
    subst (λ ls. IfOk c.segment_with.result (λ d. places ++ places_of d.items ≡ decisions_of r places ls)) same (c.segment_with.ensures.places r places h)
