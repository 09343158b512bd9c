use Rattle.std.proofs.Common.{◌≡◌, ℕ, List, Option, Some, sym, subst, ap, ◌∙◌}
use Rattle.std.specs.Prelude.{IsSome, IsSomeAnd}
use Rattle.vault_types.specs.Shelf.{blob_at, recipe_name}
use Rattle.vault_types.specs.Tables.{IsWhole}
use Rattle.vault_types.specs.Events.{after_put, after_refused}
use Rattle.keeper_catalog.specs.declared.JobInfo.{JobInfo}
use Rattle.keeper_catalog.specs.View.{View, Keeps}
use Rattle.keeper_core.specs.Calls.{due_after}
use Rattle.keeper_core.specs.Stands.{index_of, job_of}
use Rattle.keeper_core.proofs.Keeping.{puts_of, table_fresh, put_refused, put_done}
use Rattle.keeper_core.proofs.keeper.Keeper.put.Goals as goal

pub put_sealed-requires-clause-fresh : goal.put_sealed-requires-clause-fresh
put_sealed-requires-clause-fresh g c =
    let k = c.self.invariant.0 in
    let job = ap job_of c.in-Lent.is in
    let next = subst (λ (o : Option JobInfo). IsSomeAnd o (λ j. c.args.sealed.table.id ≡ j.next)) (ap (λ (v : View). v.job) (sym c.self.view_is) ∙ job) c.requires.next in
    table_fresh _ k.0 k.1 c.in-Lent.job job _ next

pub invariant_of-self : goal.invariant_of-self
invariant_of-self g c =
    let k = c.self.invariant.0 in
    let job = ap job_of c.in-Lent.is in
    let next = subst (λ (o : Option JobInfo). IsSomeAnd o (λ j. c.args.sealed.table.id ≡ j.next)) (ap (λ (v : View). v.job) (sym c.self.view_is) ∙ job) c.requires.next in
    let payload = subst (λ (o : Option (List ℕ)). IsSomeAnd o (IsWhole c.args.sealed.table)) (sym c.payload-payload.ensures.there) c.payload-payload.ensures.whole in (
      (
        after_put c.args.sealed c.put_sealed.new.catalog.strays.items k.0,
        put_done _ k.0 k.1 c.in-Lent.job job c.args.sealed next c.table-table.ensures.rules payload _ _ _ _ c.in-Ok.ensures.done (ap index_of (sym c.in-Lent.is)) c.in-Ok.ensures.same.0 c.in-Ok.ensures.same.1 c.in-Ok.ensures.tables
            (c.in-Ok.ensures.held k.0 (puts_of _ k.0 k.1 c.in-Lent.job job _ next) k.1.held) c.in-Ok.ensures.there,
      ),
      c.in-Ok.ensures.room,
    )

pub returns-in-Ok-clause-ok : goal.returns-in-Ok-clause-ok
returns-in-Ok-clause-ok g c K keeps =
    let k = subst (λ (v : View). Keeps v K) (sym c.self.view_is) keeps in
    let job = ap job_of c.in-Lent.is in
    let next = subst (λ (o : Option JobInfo). IsSomeAnd o (λ j. c.args.sealed.table.id ≡ j.next)) (ap (λ (v : View). v.job) (sym c.self.view_is) ∙ job) c.requires.next in
    let payload = subst (λ (o : Option (List ℕ)). IsSomeAnd o (IsWhole c.args.sealed.table)) (sym c.payload-payload.ensures.there) c.payload-payload.ensures.whole in
    put_done _ K k c.in-Lent.job job c.args.sealed next c.table-table.ensures.rules payload _ _ _ _ c.in-Ok.ensures.done (ap index_of (sym c.in-Lent.is)) c.in-Ok.ensures.same.0 c.in-Ok.ensures.same.1 c.in-Ok.ensures.tables
    (c.in-Ok.ensures.held K (puts_of _ K k c.in-Lent.job job _ next) k.held) c.in-Ok.ensures.there

pub invariant_of-self-in-Err : goal.invariant_of-self-in-Err
invariant_of-self-in-Err g c =
    let k = c.self.invariant.0 in
    let job = ap job_of c.in-Lent.is in
    let next = subst (λ (o : Option JobInfo). IsSomeAnd o (λ j. c.args.sealed.table.id ≡ j.next)) (ap (λ (v : View). v.job) (sym c.self.view_is) ∙ job) c.requires.next in (
      (
        after_refused k.0.other k.0.job c.put_sealed.new.catalog.strays.items c.due_after-self-inside.result k.0,
        put_refused _ k.0 k.1 c.in-Lent.job job _ _ _ _ _ _ (c.due_after-self-inside.ensures ∙ ap (λ (j : JobInfo). due_after c.in-Err.fault j.set c.self.inside.pending) c.in-Err.ensures.refused) (ap index_of (sym c.in-Lent.is)) (ap (λ (j : JobInfo). Some j) c.in-Err.ensures.refused ∙ sym job) c.in-Err.ensures.same.0 c.in-Err.ensures.same.1 c.in-Err.ensures.as_before
            (c.in-Err.ensures.held k.0 (puts_of _ k.0 k.1 c.in-Lent.job job _ next) k.1.held),
      ),
      c.in-Err.ensures.room,
    )

pub returns-in-Err-clause-err : goal.returns-in-Err-clause-err
returns-in-Err-clause-err g c K keeps =
    let k = subst (λ (v : View). Keeps v K) (sym c.self.view_is) keeps in
    let job = ap job_of c.in-Lent.is in
    let next = subst (λ (o : Option JobInfo). IsSomeAnd o (λ j. c.args.sealed.table.id ≡ j.next)) (ap (λ (v : View). v.job) (sym c.self.view_is) ∙ job) c.requires.next in
    put_refused _ K k c.in-Lent.job job _ _ _ _ _ _ (c.due_after-self-inside.ensures ∙ ap (λ (j : JobInfo). due_after c.in-Err.fault j.set c.self.inside.pending) c.in-Err.ensures.refused) (ap index_of (sym c.in-Lent.is)) (ap (λ (j : JobInfo). Some j) c.in-Err.ensures.refused ∙ sym job) c.in-Err.ensures.same.0 c.in-Err.ensures.same.1 c.in-Err.ensures.as_before
    (c.in-Err.ensures.held K (puts_of _ K k c.in-Lent.job job _ next) k.held)

pub returns-in-Ok-clause-tells : goal.returns-in-Ok-clause-tells
returns-in-Ok-clause-tells g c told = c.put_sealed.ensures.tells (subst (λ (v : View). IsSome v.told.blobs) (sym c.self.view_is) told)

pub returns-in-Ok-clause-pins : goal.returns-in-Ok-clause-pins
returns-in-Ok-clause-pins g c = ap (λ (v : View). v.pins) c.self.view_is

pub returns-in-Err-clause-tells : goal.returns-in-Err-clause-tells
returns-in-Err-clause-tells g c told = c.put_sealed.ensures.tells (subst (λ (v : View). IsSome v.told.blobs) (sym c.self.view_is) told)

pub returns-in-Err-clause-pins : goal.returns-in-Err-clause-pins
returns-in-Err-clause-pins g c = ap (λ (v : View). v.pins) c.self.view_is

pub returns-in-Ok-clause-recipes : goal.returns-in-Ok-clause-recipes
returns-in-Ok-clause-recipes g c s n = c.put_sealed.ensures.recipes s n ∙ ap (λ (v : View). blob_at v.told.blobs (recipe_name s n)) c.self.view_is

pub returns-in-Err-clause-recipes : goal.returns-in-Err-clause-recipes
returns-in-Err-clause-recipes g c s n = c.put_sealed.ensures.recipes s n ∙ ap (λ (v : View). blob_at v.told.blobs (recipe_name s n)) c.self.view_is
