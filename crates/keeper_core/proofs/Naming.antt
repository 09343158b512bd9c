-- The named containers, and their tables in memory.
use Rattle.std.proofs.Common.{◌≡◌, ℕ, Bool, true, false, map, List, ◌++◌, Option, Some, None, sym, ◌∙◌, ap}
use Rattle.std.specs.Prelude.{option_map}
use Rattle.std.specs.Option.{option_or}
use Rattle.vault_types.specs.Lists.{has}
use Rattle.vault_types.specs.Marks.{Mark, marked_ids}
use Rattle.vault_types.specs.Tables.{Container, id_of, IsTable}
use Rattle.vault_types.specs.State.{container_in}
use Rattle.vault_types.specs.Events.{Core, put_by, pinned_containers}
use Rattle.set_markers.specs.SetMarkers.{AreMarkersOfSets}
use Rattle.keeper_catalog.specs.Catalog.{table_at}
use Rattle.keeper_catalog.specs.View.{View, Keeps}
use Rattle.commit_laws.proofs.Listing.{all_at, found_append, found_is}
use Rattle.state_laws.proofs.Members.{container_in-none, container_in-some}
use Rattle.deletion_laws.proofs.Marking.{marked_are_named}

module _ (v : View) (K : Core) (keeps : Keeps v K) (id : ℕ) (test : Bool) (tests : (marks : List Mark) → AreMarkersOfSets v.memo.markers marks → test ≡ has id (marked_ids marks)) where
  listed : test ≡ has id (map id_of K.state.containers)
  listed = let are = keeps.memo.markers in tests are.0 are.1 ∙ ap (has id) (marked_are_named K.state are.0 are.2 ∙ sym keeps.core.state.containers)

  -- without a mark no named container has the id
  pub none_named : test ≡ false → container_in K.state.containers id ≡ None
  none_named is = container_in-none K.state.containers id (sym listed ∙ is)

  -- with one the table of that container is in memory
  pub one_named : test ≡ true → (c : Container) × (container_in K.state.containers id ≡ Some c) × (table_at v.memo.tables id ≡ Some c.table) × IsTable c.table
  one_named marked =
      let c = container_in-some K.state.containers id (sym listed ∙ marked) in
      let place = found_is K.state.containers id c.0 c.1 in (
        c.0,
        c.1,
        keeps.memo.tables id ∙ ap (λ (o : Option Container). option_map (λ (d : Container). d.table) o) (found_append K.state.containers (pinned_containers K.pins ++ put_by K.job) id ∙ ap (λ (o : Option Container). option_or o (container_in (pinned_containers K.pins ++ put_by K.job) id)) c.1),
        all_at (λ (d : Container). IsTable d.table) K.state.containers c.0 keeps.core.state.tables place.0,
      )
