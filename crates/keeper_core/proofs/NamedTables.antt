-- The table and the payload of a named container.
use Rattle.std.proofs.Common.{◌≡◌, true, false, ℕ, List, ◌++◌, Option, Some, None, refl, sym, ◌∙◌, ap, subst}
use Rattle.std.specs.Prelude.{IsSome, option_map}
use Rattle.std.specs.Option.{option_or}
use Rattle.vault_types.specs.Lists.{has}
use Rattle.vault_types.specs.Marks.{Mark, marked_ids}
use Rattle.vault_types.specs.Tables.{Container, IsTable, id_of}
use Rattle.vault_types.specs.State.{container_in, named}
use Rattle.vault_types.specs.Shelf.{Blobs, payload_name, Has}
use Rattle.vault_types.specs.Events.{Core, put_by, pinned_containers}
use Rattle.state_laws.specs.Parts.{HeldIfTold}
use Rattle.state_laws.proofs.Members.{container_in-some}
use Rattle.set_markers.specs.SetMarkers.{AreMarkersOfSets}
use Rattle.commit_laws.proofs.Listing.{all_at, found_append, found_is}
use Rattle.commit_laws.proofs.Pinned.{held_has}
use Rattle.deletion_laws.proofs.Marking.{marked_are_named}
use Rattle.keeper_catalog.specs.Catalog.{table_at}
use Rattle.keeper_catalog.specs.View.{View, Keeps}
use Rattle.keeper_core.specs.NextNamed.{IsNextAbove}

module _ (v : View) (K : Core) (keeps : Keeps v K) where
  pub table_of_named : (id : ℕ) (c : Container) → container_in K.state.containers id ≡ Some c → table_at v.memo.tables id ≡ Some c.table
  table_of_named id c at =
      keeps.memo.tables id
      ∙ ap (λ (o : Option Container). option_map (λ (d : Container). d.table) o) (found_append K.state.containers (pinned_containers K.pins ++ put_by K.job) id ∙ ap (λ (o : Option Container). option_or o (container_in (pinned_containers K.pins ++ put_by K.job) id)) at)

  pub rules_of_named : (id : ℕ) (c : Container) → container_in K.state.containers id ≡ Some c → IsTable c.table
  rules_of_named id c at = all_at (λ (d : Container). IsTable d.table) K.state.containers c keeps.core.state.tables (found_is K.state.containers id c at).0

  pub payload_of_named : (id : ℕ) (c : Container) → container_in K.state.containers id ≡ Some c → (found : Option (List ℕ)) → IsSome v.told.blobs → Has v.told.blobs (payload_name id) found → found ≡ c.payload
  payload_of_named id c at found tells there = step v.told.blobs tells there keeps.held
    where
      step : (b : Option Blobs) → IsSome b → Has b (payload_name id) found → HeldIfTold b K → found ≡ c.payload
      step None some has_it held = absurd (let clash : false ≡ true = some in cc)
      step (Some m) some has_it held =
          let place = found_is K.state.containers id c at in
          sym (subst (λ (n : ℕ). Has (Some m) (payload_name n) found) (sym place.1) has_it) ∙ (held_has K keeps.core m held c place.0).payload

  -- each id with a mark has its table in memory
  marked_table : (marks : List Mark) → marked_ids marks ≡ named K.state → (m : ℕ) → has m (marked_ids marks) ≡ true → IsSome (table_at v.memo.tables m)
  marked_table marks same m marked =
      let c = container_in-some K.state.containers m (ap (has m) (keeps.core.state.containers ∙ sym same) ∙ marked) in
      subst (λ (o : Option _). IsSome o) (sym (table_of_named m c.0 c.1)) refl

  -- so what is the next with a mark is the next that is named
  pub next_named : (above : ℕ) (found : Option ℕ)
      → ((marks : List Mark) → AreMarkersOfSets v.memo.markers marks → ((m : ℕ) → has m (marked_ids marks) ≡ true → IsSome (table_at v.memo.tables m)) → IsNextAbove (marked_ids marks) above found)
      → IsNextAbove (named K.state) above found
  next_named above found next =
      let are = keeps.memo.markers in
      let same = marked_are_named K.state are.0 are.2 in
      subst (λ (ids : List ℕ). IsNextAbove ids above found) same (next are.0 are.1 (marked_table are.0 same))
