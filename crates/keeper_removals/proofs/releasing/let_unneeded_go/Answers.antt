use Rattle.std.proofs.Common.{◌<◌, ◌-◌, length, arith, not, ◌&&◌}
use Rattle.std.proofs.lemmas.List.{get_or_default}
use Rattle.vault_types.specs.Lists.{has}
use Rattle.vault_types.specs.Marks.{marked_ids}
use Rattle.restore_pins.specs.Pins.{listed_ids}
use Rattle.keeper_removals.proofs.Gone.{leaves_more, leaves_all}
use Rattle.keeper_removals.proofs.releasing.let_unneeded_go.Goals as goal

pub loop-left-preserved : goal.loop-left-preserved
loop-left-preserved c =
    let inv = c.loop-left.invariant in
    let some : 0 < c.loop-left.left = omega (arith, c.loop-left-test.true) in
    let below : c.loop-left.left - 1 < length c.args.ids.now = omega (arith, inv.low) in
    record {
      low = omega (arith, inv.low);
      left = λ marks are. leaves_more (λ k. not (has k (marked_ids marks)) && not (has k (listed_ids c.args.pins.now))) c.args.ids.now c.loop-left.left _ _ _ _ _ _ _ some inv.low (get_or_default c.args.ids.now (c.loop-left.left - 1) 0 _ below) (inv.left marks are) (c.let_one_go.ensures.left marks are);
      room = omega (arith, inv.room, c.let_one_go.ensures.room);
      capacity = omega (arith, inv.capacity, c.let_one_go.ensures.capacity);
    }

pub returns-clause-left : goal.returns-clause-left
returns-clause-left c = λ marks are. leaves_all (λ k. not (has k (marked_ids marks)) && not (has k (listed_ids c.args.pins.now))) c.args.ids.now c.loop-left.left _ _ _ _ c.loop-left-test.false (c.loop-left.invariant.left marks are)
