use Rattle.std.proofs.Common.{sym, ◌∙◌, subst, arith, ◌≡◌, ◌<◌, ◌≤◌, ◌-◌, length, take, drop, refl}
use Rattle.std.specs.Prelude.{Contains, List}
use Rattle.vault_types.specs.declared.Name.{Name}
use Rattle.vault_types.specs.Events.{IsNear}
use Rattle.vault_traits.proofs.Maps.{other_blob}
use Rattle.vault_traits.proofs.Moments.{stays, silent_write}
use Rattle.state_laws.specs.Parts.{HeldIfTold, with_strays}
use Rattle.keeper_parts.proofs.Cleaning.{removed_from, few_left, few_gone, ok_of, err_of}
use Rattle.keeper_parts.proofs.Telling.{tells_may}
use Rattle.deletion_laws.proofs.Removing.{apart_from, front_stays, behind_fewer, silent_blobs, loop_stays, loop_goes, loop_moment}
use Rattle.deletion_laws.proofs.clean_from.Goals as goal

pub loop-left-init : goal.loop-left-init
loop-left-init g c = record {
  low = omega (arith, c.requires, c.len-left.ensures);
  below = omega (arith, c.len-left.ensures);
  held = λ K was idle held. subst (λ (l : List Name). HeldIfTold ((g.S.Shelf.told c.args.shelf.now).blobs) (with_strays l K)) was held;
  any_moment = λ K was idle here. stays (IsNear K.state K.other) _ _ refl here;
  others = λ n none. refl;
  within = λ n there. there;
  behind = λ n there. there;
  front = refl;
  fewer = omega arith;
  few = λ low. omega (arith, c.len-left.ensures, c.args.strays.now.ok);
  tells = λ t. t;
  quiet = λ none. none;
  quiet_past = λ none. none;
  room = refl;
  gets = refl;
  later = omega arith;
}

pub loop-left-preserved : goal.loop-left-preserved
loop-left-preserved g c =
    let inv = c.loop-left.invariant in
    let low : c.args.start ≤ c.loop-left.left - 1 = omega (arith, inv.low, c.loop-left-test.true) in
    let below : c.loop-left.left - 1 < length c.loop-left.strays.items = omega (arith, inv.below, c.loop-left-test.true, c.loop-left.strays.ok) in
    let some : 0 < c.loop-left.left = omega (arith, c.loop-left-test.true) in
    record {
      low = low;
      below = omega (arith, inv.below);
      held = λ K was idle held. loop_stays K _ c.loop-left.strays.items c.args.start (c.loop-left.left - 1) c.index.result.now low below c.index.ensures inv.behind _ idle inv.quiet c.remove.ensures.at_most (inv.held K was idle held);
      any_moment = λ K was idle here. loop_moment K _ c.loop-left.strays.items c.args.start (c.loop-left.left - 1) c.index.result.now low below c.index.ensures inv.behind _ idle _ _ _ (g.met.S.Shelf.reads_an_image c.args.shelf.now) inv.quiet_past c.remove.ensures.at_most (inv.any_moment K was idle here);
      others = λ n none. other_blob c.remove.ensures.at_most n (apart_from c.args.strays.now.items c.loop-left.strays.items c.args.start (c.loop-left.left - 1) c.index.result.now n low below c.index.ensures inv.behind none) ∙ inv.others n none;
      within = inv.within;
      behind = inv.behind;
      front = inv.front;
      fewer = inv.fewer;
      few = λ low. few_left _ _ _ _ _ some inv.few (err_of c.remove.result (sym c.is_ok.ensures.value ∙ c.if-is_ok.false) (c.remove.ensures.cause.failed)) c.remove.ensures.cause.later low;
      tells = λ t. tells_may c.remove.ensures.at_most (inv.tells t);
      quiet = λ none. silent_blobs c.remove.ensures.at_most (inv.quiet none);
      quiet_past = λ none. silent_write c.remove.ensures.at_most (inv.quiet_past none);
      room = inv.room;
      gets = c.remove.ensures.gets ∙ inv.gets;
      later = omega (arith, inv.later, c.remove.ensures.cause.later);
    }

pub loop-left-preserved-then-is_ok : goal.loop-left-preserved-then-is_ok
loop-left-preserved-then-is_ok g c =
    let inv = c.loop-left.invariant in
    let low : c.args.start ≤ c.loop-left.left - 1 = omega (arith, inv.low, c.loop-left-test.true) in
    let below : c.loop-left.left - 1 < length c.loop-left.strays.items = omega (arith, inv.below, c.loop-left-test.true, c.loop-left.strays.ok) in
    let some : 0 < c.loop-left.left = omega (arith, c.loop-left-test.true) in
    record {
      low = low;
      below = omega (arith, inv.below, c.remove-then-is_ok.ensures.len);
      held = λ K was idle held. loop_goes K _ c.loop-left.strays.items c.args.start (c.loop-left.left - 1) c.index.result.now low below c.index.ensures inv.behind _ idle inv.quiet c.remove.ensures.at_most (ok_of c.remove.result (sym c.is_ok.ensures.value ∙ c.if-is_ok.true) c.remove.ensures.ok) _ c.remove-then-is_ok.ensures.items (inv.held K was idle held);
      any_moment = λ K was idle here. loop_moment K _ c.loop-left.strays.items c.args.start (c.loop-left.left - 1) c.index.result.now low below c.index.ensures inv.behind _ idle _ _ _ (g.met.S.Shelf.reads_an_image c.args.shelf.now) inv.quiet_past c.remove.ensures.at_most (inv.any_moment K was idle here);
      others = λ n none. other_blob c.remove.ensures.at_most n (apart_from c.args.strays.now.items c.loop-left.strays.items c.args.start (c.loop-left.left - 1) c.index.result.now n low below c.index.ensures inv.behind none) ∙ inv.others n none;
      within = λ n there. inv.within n (removed_from c.loop-left.strays.items (c.loop-left.left - 1) n n below (subst (λ l. Contains l n) c.remove-then-is_ok.ensures.items there));
      behind = λ n there. inv.behind n (behind_fewer c.loop-left.strays.items c.args.start (c.loop-left.left - 1) n low below (subst (λ l. Contains (drop c.args.start l) n) c.remove-then-is_ok.ensures.items there));
      front = subst (λ l. take c.args.start l ≡ take c.args.start c.loop-left.strays.items) (sym c.remove-then-is_ok.ensures.items) (front_stays c.loop-left.strays.items c.args.start (c.loop-left.left - 1) low below) ∙ inv.front;
      fewer = omega (arith, inv.fewer, c.remove-then-is_ok.ensures.len, c.remove-then-is_ok.new.self.ok, c.loop-left.strays.ok);
      few = λ low. few_gone (length c.loop-left.strays.items) _ _ _ _ _ some (omega (arith, c.remove-then-is_ok.ensures.len, c.remove-then-is_ok.new.self.ok, c.loop-left.strays.ok)) inv.few c.remove.ensures.cause.later low;
      tells = λ t. tells_may c.remove.ensures.at_most (inv.tells t);
      quiet = λ none. silent_blobs c.remove.ensures.at_most (inv.quiet none);
      quiet_past = λ none. silent_write c.remove.ensures.at_most (inv.quiet_past none);
      room = c.remove-then-is_ok.ensures.capacity ∙ inv.room;
      gets = c.remove.ensures.gets ∙ inv.gets;
      later = omega (arith, inv.later, c.remove.ensures.cause.later);
    }
