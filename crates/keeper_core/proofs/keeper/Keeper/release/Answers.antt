use Rattle.std.proofs.Common.{rules, ◌≡◌, ◌++◌, List, sym, subst}
use Rattle.vault_types.specs.declared.Name.{Name}
use Rattle.vault_types.specs.Shelf.{blob_at}
use Rattle.vault_types.specs.Events.{after_release}
use Rattle.keeper_catalog.specs.View.{View, Keeps}
use Rattle.keeper_core.proofs.Removing.{releasing_of, released}
use Rattle.keeper_core.proofs.keeper.Keeper.release.Goals as goal

pub invariant_of-self : goal.invariant_of-self
invariant_of-self g c =
    let k = c.self.invariant.0 in
    let r = releasing_of _ k.0 k.1 in
    ((after_release c.args.no c.release_pin.new.catalog.strays.items k.0, released _ k.0 k.1 c.args.no _ _ _ (c.release_pin.ensures.memo k.0 r) (c.release_pin.ensures.pins k.0 r) (c.release_pin.ensures.held k.0 r k.1.held)), c.release_pin.ensures.room)

pub returns : goal.returns
returns g c = record {
  releases = λ K keeps.
      let k = subst (λ (v : View). Keeps v K) (sym c.self.view_is) keeps in
      let r = releasing_of _ K k in
      released _ K k c.args.no _ _ _ (c.release_pin.ensures.memo K r) (c.release_pin.ensures.pins K r) (c.release_pin.ensures.held K r k.held);
  pins = search rules;
  others = λ K keeps n none.
      let k = subst (λ (v : View). Keeps v K) (sym c.self.view_is) keeps in
      subst (λ (v : View). blob_at (g.S.Shelf.told c.release_pin.new.shelf).blobs n ≡ blob_at v.told.blobs n) c.self.view_is (c.release_pin.ensures.others K (releasing_of _ K k) n none);
  any_moment = search rules;
  within = search rules;
  few = search rules;
  added = subst (λ (v : View). (added : List Name) × (c.release_pin.new.catalog.strays.items ≡ v.memo.strays ++ added)) c.self.view_is c.release_pin.ensures.added;
  same = search rules;
  tells = search rules;
  gets = search rules;
  later = search rules;
}
