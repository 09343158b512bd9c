use Rattle.std.proofs.Common.{◌∙◌, ap, refl, map, ◌++◌, ◌∷◌, [], subst}
use Rattle.vault_types.specs.Names.{named_chunk}
use Rattle.rewrite_stage.specs.Deciding.{looked_up, HasDecided}
use Rattle.vault_types.specs.Decide.{decisions_of}
use Rattle.container_fill.specs.Filling.{HasFilled}
use Rattle.backup_pass.specs.Placing.{places_in, answers_of, joined, hows_at}
use Rattle.backup_pass.proofs.Taking.{placed_same, placed_new}
use Rattle.backup_pass.proofs.placer.Placer.take.Goals as goal

pub returns-in-Same-clause-placed : goal.returns-in-Same-clause-placed
returns-in-Same-clause-placed c r first chunks gone h =
    placed_same c.args.self.now _ r first chunks c.args.chunk c.len.result c.len.ensures.len (c.in-Same.ensures.pushed r.config.segment _ h.pushed) _ (c.in-Same.ensures.cut r.config.segment _ h.pushed)
    c.in_ok-push-in-Same.ensures.items refl refl h

pub returns-in-NewBefore-clause-placed : goal.returns-in-NewBefore-clause-placed
returns-in-NewBefore-clause-placed c r first chunks gone h =
    let same = c.replace-segment.ensures.value in
    placed_new c.args.self.now _ r first chunks c.args.chunk c.len.result c.len.ensures.len (c.in-NewBefore.ensures.pushed r.config.segment _ h.pushed) _ _ (c.in-NewBefore.ensures.cut r.config.segment _ h.pushed)
    (c.in_ok-push-in-NewBefore.ensures.items ∙ ap (λ v. v.items ++ c.args.chunk ∷ []) c.replace-segment.ensures.after ∙ ap (λ items. items ++ c.args.chunk ∷ []) c.new.ensures.items)
    c.in_ok-place_segment-in-NewBefore.ensures.index c.in_ok-place_segment-in-NewBefore.ensures.capacity h
    (subst (λ v. HasDecided c.place_segment.new.decider r (decisions_of r (places_in (answers_of c.args.self.now) r h.done) (looked_up c.args.self.now.decider.index v.items))) same
    (c.in_ok-place_segment-in-NewBefore.ensures.decided r (places_in (answers_of c.args.self.now) r h.done) h.decided))
    (subst (λ v. HasFilled c.place_segment.new.filler first (gone ++ c.place_segment.new.out.items) (joined h.done ++ map named_chunk v.items) (hows_at (decisions_of r (places_in (answers_of c.args.self.now) r h.done) (looked_up c.args.self.now.decider.index v.items)))) same
    (c.in_ok-place_segment-in-NewBefore.ensures.filled r (places_in (answers_of c.args.self.now) r h.done) first gone (joined h.done) h.decided h.filled))
