use Rattle.std.proofs.Common.{◌∙◌}
use Rattle.belady_cache.specs.declared.present.Held.{Held}
use Rattle.belady_cache.proofs.Replaced.{replaced_more, written_yes, written_no, found_yes, found_no}
use Rattle.belady_cache.proofs.present.replace.Goals as goal
use Rattle.belady_cache.proofs.present.replace.Goals.{then-held-id, else-held-id}

pub loop-held-preserved : goal.loop-held-preserved
loop-held-preserved c =
    let i = c.loop-held.held-index in
    let d : Held = record { id = 0; next = 0 } in
    let inv = c.loop-held.invariant in
    elim c.if-held-id.branch [
      | then-held-id w ↦ record {
        front = replaced_more c.args.id c.args.new c.args.present.now c.loop-held.present c.if-held-id.present i d _ c.loop-held-test.true inv.front c.loop-held.auto.present w.present-is (written_yes c.args.id c.args.new _ w.if-held-id.true);
        found = found_yes c.args.id c.args.new c.args.present.now c.loop-held.present i d _ c.loop-held-test.true inv.front w.if-held-id.true w.found-is;
      }
      | else-held-id w ↦ record {
        front = replaced_more c.args.id c.args.new c.args.present.now c.loop-held.present c.if-held-id.present i d _ c.loop-held-test.true inv.front c.loop-held.auto.present w.present-is (written_no c.args.id c.args.new _ w.if-held-id.false);
        found = found_no c.args.id c.args.new c.args.present.now c.loop-held.present i d _ c.loop-held-test.true inv.front w.if-held-id.false (w.found-is ∙ inv.found);
      }
    ]
