use Rattle.std.proofs.Common.{rules, ◌≡◌, ◌≤◌, ◌∙◌, ◌++◌, ℕ, List, length, take, drop, ap, sym, refl, arith}
use Rattle.std.proofs.Math.Seq.{take-append_seam}
use Rattle.std.proofs.lemmas.List.{take-append-drop}
use Rattle.vault_types.specs.declared.Name.{Name}
use Rattle.vault_types.specs.Events.{after_release}
use Rattle.keeper_removals.proofs.Gone.{leaves_longer}
use Rattle.keeper_removals.proofs.Released.{memo_released, held_released, gone_released, idle_released, within_released}
use Rattle.keeper_removals.proofs.releasing.release_pin.Goals as goal

pub clean_from-requires : goal.clean_from-requires
clean_from-requires g c =
    let r = c.requires.can.1 in
    let longer : length c.args.catalog.now.strays.items ≤ length c.let_unneeded_go.new.strays.items = leaves_longer _ _ _ _ _ (c.let_unneeded_go.ensures.left r.memo.markers.0 r.memo.markers.1) in
    omega (arith, c.len-start.ensures, c.args.catalog.now.strays.ok)

pub returns : goal.returns
returns g c = record {
  memo = λ K r. memo_released _ _ _ K c.args.no r _ (c.deref.ensures.value ∙ c.release-ids.ensures.ids) (c.release-ids.ensures.pins K.pins r.pins_are) _ _ c.let_unneeded_go.ensures.left c.clean_from.new.strays.items _ _;
  pins = search rules;
  left = search rules;
  held = λ K r held.
      let ids = c.deref.ensures.value ∙ c.release-ids.ensures.ids in
      let pins = c.release-ids.ensures.pins K.pins r.pins_are in
      c.clean_from.ensures.held (after_release c.args.no c.let_unneeded_go.new.strays.items K) refl
      (λ tells. idle_released _ _ _ K c.args.no r _ ids pins _ _ c.let_unneeded_go.ensures.left c.len-start.result (omega (arith, c.len-start.ensures, c.args.catalog.now.strays.ok)))
      (held_released _ _ _ K c.args.no r _ ids pins _ _ c.let_unneeded_go.ensures.left _ held);
  others = λ K r n none.
      c.clean_from.ensures.others n
      (λ there. none (gone_released _ _ _ K c.args.no r _ (c.deref.ensures.value ∙ c.release-ids.ensures.ids) (c.release-ids.ensures.pins K.pins r.pins_are) _ _ c.let_unneeded_go.ensures.left c.len-start.result (omega (arith, c.len-start.ensures, c.args.catalog.now.strays.ok)) n there));
  any_moment = λ K r here.
      c.clean_from.ensures.any_moment (after_release c.args.no c.let_unneeded_go.new.strays.items K) refl
      (λ tells. idle_released _ _ _ K c.args.no r _ (c.deref.ensures.value ∙ c.release-ids.ensures.ids) (c.release-ids.ensures.pins K.pins r.pins_are) _ _ c.let_unneeded_go.ensures.left c.len-start.result (omega (arith, c.len-start.ensures, c.args.catalog.now.strays.ok)))
      here;
  within = λ K r n there. within_released _ _ _ K c.args.no r _ (c.deref.ensures.value ∙ c.release-ids.ensures.ids) (c.release-ids.ensures.pins K.pins r.pins_are) _ _ c.let_unneeded_go.ensures.left n (c.clean_from.ensures.within n there);
  few = search rules;
  added = let r = c.requires.can.1 in
      let left = c.let_unneeded_go.ensures.left r.memo.markers.0 r.memo.markers.1 in
      let old : List Name = c.args.catalog.now.strays.items in
      let now : List Name = c.clean_from.new.strays.items in
      let start : c.len-start.result ≡ length old = omega (arith, c.len-start.ensures, c.args.catalog.now.strays.ok) in
      let front : take c.len-start.result now ≡ old = c.clean_from.ensures.front ∙ ap (take c.len-start.result) left.strays_are ∙ ap (λ (k : ℕ). take k (old ++ left.added)) start ∙ take-append_seam old left.added in
      (drop c.len-start.result now, sym (take-append-drop c.len-start.result now) ∙ ap (λ (xs : List Name). xs ++ drop c.len-start.result now) front);
  room = search rules;
  tells = search rules;
  gets = search rules;
  later = search rules;
}
