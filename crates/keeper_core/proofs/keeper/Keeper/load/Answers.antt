use Rattle.std.proofs.Common.{◌≡◌, ℕ, Some, sym, subst, ap, ◌∙◌}
use Rattle.std.specs.Prelude.{IsSome}
use Rattle.std.specs.Global.{Vec}
use Rattle.std.specs.Option.{option_copied}
use Rattle.vault_types.specs.declared.Table.{Table}
use Rattle.vault_types.specs.Tables.{Container, IsTable}
use Rattle.vault_types.specs.Shelf.{payload_name, Has}
use Rattle.vault_types.specs.Events.{Core}
use Rattle.vault_traits.specs.Causes.{HasCauses}
use Rattle.vault_types.specs.BlobDamage.{IsLoaded, IsPayloadOf, IsPayloadDamage}
use Rattle.keeper_catalog.specs.View.{View, Keeps}
use Rattle.commit_laws.proofs.Listing.{some_same, none_some}
use Rattle.keeper_core.specs.Calls.{Lists}
use Rattle.keeper_core.proofs.Openings.{ok_more}
use Rattle.keeper_core.proofs.Listing.{table_there, table_rules, payload_is}
use Rattle.keeper_core.proofs.keeper.Keeper.load.Goals as goal

pub load-requires : goal.load-requires
load-requires g c =
    let r = c.requires in
    let there = table_there _ r.0 (subst (λ (v : View). Keeps v r.0) (sym c.self.view_is) r.2) _ c.args.id r.1 r.3 in
    let same = some_same c.in-Some.table.now r.1.table (ap option_copied (sym c.in-Some.is) ∙ c.get.ensures.value ∙ there) in
    subst IsTable (sym same) (table_rules c.args.self.now r.0 r.2 _ c.args.id r.1 r.3)

pub unreachable-requires : goal.unreachable-requires
unreachable-requires g c =
    let r = c.requires in
    let there = table_there _ r.0 (subst (λ (v : View). Keeps v r.0) (sym c.self.view_is) r.2) _ c.args.id r.1 r.3 in
    none_some r.1.table (ap option_copied (sym c.in-None.is) ∙ c.get.ensures.value ∙ there)

pub returns-clause-given : goal.returns-clause-given
returns-clause-given g c =
    ok_more (λ (b : Vec ℕ). IsLoaded (g.S.Shelf.told c.self.inside.shelf).blobs c.in-Some.table.now b.items)
    (λ (b : Vec ℕ). IsSome c.args.self.now.told.blobs → (K : Core) (d : Container) → Keeps c.args.self.now K → Lists K.pins c.args.no.now c.args.id d → d.payload ≡ Some b.items)
    c.load.result
    (λ b loaded tells K d keeps lists.
    let there = table_there _ K (subst (λ (v : View). Keeps v K) (sym c.self.view_is) keeps) _ c.args.id d lists in
    let same = some_same c.in-Some.table.now d.table (ap option_copied (sym c.in-Some.is) ∙ c.get.ensures.value ∙ there) in
    payload_is c.args.self.now K keeps _ c.args.id d lists b.items tells
    (subst (λ (t : Table). Has c.args.self.now.told.blobs (payload_name t.id) (Some b.items)) same (subst (λ (v : View). Has v.told.blobs (payload_name c.in-Some.table.now.id) (Some b.items)) c.self.view_is loaded.there)))
    c.load.ensures.loaded

pub returns-clause-whole : goal.returns-clause-whole
returns-clause-whole g c =
    ok_more (λ (b : Vec ℕ). IsLoaded (g.S.Shelf.told c.self.inside.shelf).blobs c.in-Some.table.now b.items)
    (λ (b : Vec ℕ). (K : Core) (d : Container) → Keeps c.args.self.now K → Lists K.pins c.args.no.now c.args.id d → IsPayloadOf d.table b.items)
    c.load.result
    (λ b loaded K d keeps lists.
    let there = table_there _ K (subst (λ (v : View). Keeps v K) (sym c.self.view_is) keeps) _ c.args.id d lists in
    let same = some_same c.in-Some.table.now d.table (ap option_copied (sym c.in-Some.is) ∙ c.get.ensures.value ∙ there) in
    subst (λ (t : Table). IsPayloadOf t b.items) same loaded.fits)
    c.load.ensures.loaded

pub returns-clause-causes : goal.returns-clause-causes
returns-clause-causes g c K d keeps lists =
    let there = table_there _ K (subst (λ (v : View). Keeps v K) (sym c.self.view_is) keeps) _ c.args.id d lists in
    let same = some_same c.in-Some.table.now d.table (ap option_copied (sym c.in-Some.is) ∙ c.get.ensures.value ∙ there) in
    subst (λ (v : View). HasCauses v.told.faults (g.S.Shelf.told c.load.new.shelf).faults (IsPayloadDamage v.told.blobs d.table) c.load.result) c.self.view_is
    (subst (λ (t : Table). HasCauses (g.S.Shelf.told c.self.inside.shelf).faults (g.S.Shelf.told c.load.new.shelf).faults (IsPayloadDamage (g.S.Shelf.told c.self.inside.shelf).blobs t) c.load.result) same c.load.ensures.causes)
