use Rattle.std.proofs.Common.{sym, ◌∙◌, subst, arith, ◌<◌, ◌-◌, length, refl}
use Rattle.std.specs.Prelude.{Contains, List}
use Rattle.vault_types.specs.declared.Name.{Name}
use Rattle.state_laws.specs.Parts.{HeldIfTold, with_strays}
use Rattle.vault_types.specs.Events.{IsNear}
use Rattle.vault_traits.proofs.Moments.{stays}
use Rattle.keeper_parts.proofs.Cleaning.{removed_from, stays_held, goes_held, moment, few_left, few_gone, ok_of, err_of}
use Rattle.keeper_parts.proofs.clean.Goals as goal

pub loop-left-init : goal.loop-left-init
loop-left-init g c = record {
  below = omega (arith, c.len-left.ensures);
  held = λ K was can held. subst (λ (l : List Name). HeldIfTold ((g.S.Shelf.told c.args.shelf.now).blobs) (with_strays l K)) was held;
  any_moment = λ K was can here. stays (IsNear K.state K.other) _ _ refl here;
  within = λ n there. there;
  few = λ low. omega (arith, c.len-left.ensures, c.args.strays.now.ok);
  room = refl;
  gets = refl;
  later = omega arith;
}

pub loop-left-preserved : goal.loop-left-preserved
loop-left-preserved g c =
    let inv = c.loop-left.invariant in
    let below : c.loop-left.left - 1 < length c.loop-left.strays.items = omega (arith, inv.below, c.loop-left-test.true, c.loop-left.strays.ok) in
    record {
      below = omega (arith, inv.below);
      held = λ K was can held. stays_held K c.loop-left.strays.items (c.loop-left.left - 1) c.index.result.now _ was can below inv.within c.index.ensures c.remove.ensures.at_most (inv.held K was can held);
      any_moment = λ K was can here. moment K c.loop-left.strays.items (c.loop-left.left - 1) c.index.result.now _ was can below inv.within c.index.ensures _ _ _ c.remove.ensures.at_most (inv.any_moment K was can here);
      within = inv.within;
      few = λ low. few_left _ _ _ _ _ c.loop-left-test.true inv.few (err_of c.remove.result (sym c.is_ok.ensures.value ∙ c.if-is_ok.false) (c.remove.ensures.cause.failed)) c.remove.ensures.cause.later low;
      room = inv.room;
      gets = c.remove.ensures.gets ∙ inv.gets;
      later = omega (arith, inv.later, c.remove.ensures.cause.later);
    }

pub loop-left-preserved-then-is_ok : goal.loop-left-preserved-then-is_ok
loop-left-preserved-then-is_ok g c =
    let inv = c.loop-left.invariant in
    let below : c.loop-left.left - 1 < length c.loop-left.strays.items = omega (arith, inv.below, c.loop-left-test.true, c.loop-left.strays.ok) in
    record {
      below = omega (arith, inv.below, c.remove-then-is_ok.ensures.len);
      held = λ K was can held. goes_held K c.loop-left.strays.items (c.loop-left.left - 1) c.index.result.now _ was can below inv.within c.index.ensures (ok_of c.remove.result (sym c.is_ok.ensures.value ∙ c.if-is_ok.true) c.remove.ensures.ok) _ c.remove-then-is_ok.ensures.items (inv.held K was can held);
      any_moment = λ K was can here. moment K c.loop-left.strays.items (c.loop-left.left - 1) c.index.result.now _ was can below inv.within c.index.ensures _ _ _ c.remove.ensures.at_most (inv.any_moment K was can here);
      within = λ n there. inv.within n (removed_from c.loop-left.strays.items (c.loop-left.left - 1) n n below (subst (λ l. Contains l n) c.remove-then-is_ok.ensures.items there));
      few = λ low. few_gone (length c.loop-left.strays.items) _ _ _ _ _ c.loop-left-test.true (omega (arith, c.remove-then-is_ok.ensures.len, c.remove-then-is_ok.new.self.ok, c.loop-left.strays.ok)) inv.few c.remove.ensures.cause.later low;
      room = c.remove-then-is_ok.ensures.capacity ∙ inv.room;
      gets = c.remove.ensures.gets ∙ inv.gets;
      later = omega (arith, inv.later, c.remove.ensures.cause.later);
    }
