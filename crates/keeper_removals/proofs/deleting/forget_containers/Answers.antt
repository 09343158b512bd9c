use Rattle.std.proofs.Common.{◌<◌, ◌-◌, ℕ, List, length, refl, sym, ◌∙◌, ap, subst, arith, not}
use Rattle.std.proofs.lemmas.List.{get_or_default}
use Rattle.std.proofs.Math.Seq.{drop-length}
use Rattle.vault_types.specs.declared.Table.{Table}
use Rattle.vault_types.specs.Lists.{has}
use Rattle.fp_index.specs.Index.{IsIndexOf}
use Rattle.restore_pins.specs.Pins.{listed_ids}
use Rattle.deletion_laws.specs.Deleting.{without_ids}
use Rattle.deletion_laws.proofs.Indexing.{without_none}
use Rattle.keeper_removals.proofs.Gone.{leaves_first, leaves_more, leaves_all, index_more}
use Rattle.keeper_removals.proofs.deleting.forget_containers.Goals as goal

pub loop-left-init : goal.loop-left-init
loop-left-init c = record {
  low = omega arith;
  left = leaves_first (λ k. not (has k (listed_ids c.args.pins.now))) c.args.ids.now _ _ _ refl;
  index = λ known each is. subst (λ (l : List Table). IsIndexOf c.args.index.now l) (sym (ap (λ (l : List ℕ). without_ids l known) (drop-length c.args.ids.now) ∙ without_none known)) is;
  room = omega arith;
  capacity = omega arith;
}

pub loop-left-preserved : goal.loop-left-preserved
loop-left-preserved c =
    let inv = c.loop-left.invariant in
    let some : 0 < c.loop-left.left = omega (arith, c.loop-left-test.true) in
    let below : c.loop-left.left - 1 < length c.args.ids.now = omega (arith, inv.low) in
    record {
      low = omega (arith, inv.low);
      left = leaves_more (λ k. not (has k (listed_ids c.args.pins.now))) c.args.ids.now c.loop-left.left _ _ _ _ _ _ _ some inv.low (get_or_default c.args.ids.now (c.loop-left.left - 1) 0 _ below) inv.left c.forget_container.ensures.left;
      index = λ known each is. index_more _ _ (λ k. not (has k (listed_ids c.args.pins.now))) c.args.ids.now c.loop-left.left _ _ _ known some inv.low (get_or_default c.args.ids.now (c.loop-left.left - 1) 0 _ below) each inv.left.tables c.forget_container.ensures.index (inv.index known each is);
      room = omega (arith, inv.room, c.forget_container.ensures.room);
      capacity = omega (arith, inv.capacity, c.forget_container.ensures.capacity);
    }

pub returns-clause-left : goal.returns-clause-left
returns-clause-left c = leaves_all (λ k. not (has k (listed_ids c.args.pins.now))) c.args.ids.now c.loop-left.left _ _ _ _ c.loop-left-test.false c.loop-left.invariant.left
