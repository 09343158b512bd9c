-- What was read is opened.
use Rattle.std.proofs.Common.{◌≡◌, true, ℕ, List, map, length, Option, Some, None, refl, sym, ap, subst, ◌∙◌}
use Rattle.std.specs.Prelude.{Contains, IsSome, IfSome, filter, not, find, ◌==◌}
use Rattle.std.specs.Map.{lookup}
use Rattle.std.specs.FinMap as fin
use Rattle.vault_types.specs.declared.Name.{Name}
use Rattle.vault_types.specs.declared.Row.{Row}
use Rattle.vault_types.specs.declared.Table.{Table}
use Rattle.vault_types.specs.Lists.{IsAscending}
use Rattle.vault_types.specs.State.{State}
use Rattle.vault_types.specs.Shelf.{Blobs}
use Rattle.vault_types.proofs.SetLemmas.{IsAscending-set_of}
use Rattle.vault_traits.specs.Shelf.{IsListing}
use Rattle.fp_index.specs.Index.{IsIndexOf}
use Rattle.set_markers.specs.SetMarkers.{Marked, AreMarkersOfSets}
use Rattle.state_laws.specs.Parts.{HeldIfTold}
use Rattle.keeper_catalog.specs.declared.SetInfo.{SetInfo}
use Rattle.keeper_catalog.specs.declared.Catalog.{Catalog}
use Rattle.keeper_catalog.specs.Catalog.{memo_of, table_at, HasRoom}
use Rattle.vault_types.specs.FirstDamage.{Opens}
use Rattle.keeper_catalog.specs.View.{opened_core}
use Rattle.keeper_open.specs.declared.notes.Chunk.{Chunk}
use Rattle.keeper_open.specs.declared.notes.Notes.{Notes}
use Rattle.keeper_open.specs.declared.reading.Found.{Found}
use Rattle.keeper_open.specs.Opening.{IsStoreOpened}
use Rattle.keeper_open.specs.Reading.{SetRead, AreSets, AreReadTables, all_recipes, rows_of_all, marks_in, chunk_of_row, same_chunk, some_has, AreNoted, IsFound, needs}
use Rattle.keeper_open.proofs.Stated.{containers_in, state_of, tables_back}
use Rattle.keeper_open.proofs.Valid.{valid_state, infos_are, tables_are, marks_are, opens_state, blobs_stand}
use Rattle.keeper_open.proofs.Holding.{held_state, strays_listed}
use Rattle.keeper_open.proofs.Judging.{ids_in, rows_all}

opens_if : (told : Option Blobs) (ds : List SetRead) (ts : List Table) → AreSets told 0 ds → length ds ≡ 256 → AreReadTables told ts → map (λ t. t.id) ts ≡ ids_in ds → ((r : Row) → Contains (rows_of_all (all_recipes ds)) r → some_has ts (chunk_of_row r) ≡ true)
    → IfSome told (λ m. Opens m (state_of told ds ts))
opens_if None ds ts read count tables ids rows = tt
opens_if (Some m) ds ts read count tables ids rows = opens_state m ds ts read count tables ids rows

module _ (ds : List SetRead) (ts : List Table) (infos : List SetInfo) (tables : List (ℕ × Table)) (names strays : List Name) (count : length ds ≡ 256) (infos_of : map (λ d. d.info) ds ≡ infos) (ids : map (λ t. t.id) ts ≡ ids_in ds)
    (rows : (r : Row) → Contains (rows_of_all (all_recipes ds)) r → some_has ts (chunk_of_row r) ≡ true) (at : (c : ℕ) → table_at tables c ≡ find (λ t. t.id == c) ts) (strays_are : strays ≡ filter (λ n. not (needs infos tables n)) names) where
  up : IsAscending (map (λ t. t.id) ts)
  up = subst IsAscending (sym ids) (IsAscending-set_of (map (λ r. r.id) (rows_of_all (all_recipes ds))))

  held_if : (told : Option Blobs) → AreSets told 0 ds → AreReadTables told ts → IfSome told (λ m. IsListing m names) → HeldIfTold told (opened_core (state_of told ds ts) strays)
  held_if None read all listing = tt
  held_if (Some m) read all listing = held_state (Some m) ds ts infos tables read count infos_of up at m names strays listing (blobs_stand m ds ts read count all ids rows) strays_are

  listed_if : (told : Option Blobs) → AreSets told 0 ds → AreReadTables told ts → IfSome told (λ m. IsListing m names) → IfSome told (λ m. (n : Name) → Contains strays n → IsSome (fin.get m n))
  listed_if None read all listing = tt
  listed_if (Some m) read all listing = strays_listed (Some m) ds ts infos tables read count infos_of up at m names strays listing (blobs_stand m ds ts read count all ids rows) strays_are

pub is_opened : (told : Option Blobs) (names : List Name) (ds : List SetRead) (ts : List Table) (notes : Notes) (found : Found) (catalog : Catalog) → IfSome told (λ m. IsListing m names) → AreSets told 0 ds → length ds ≡ 256
    → map (λ d. d.info) ds ≡ catalog.sets.items → AreNoted notes (all_recipes ds) → catalog.markers ≡ notes.markers → IsFound told notes.ids.keys notes.places.entries found ts → catalog.tables.entries ≡ found.tables.entries
    → ((k : Chunk) → lookup (same_chunk k) found.places.entries ≡ None) → catalog.strays.items ≡ filter (λ n. not (needs catalog.sets.items catalog.tables.entries n)) names → HasRoom (memo_of catalog)
    → (T : State) × IsStoreOpened told T catalog found.index
is_opened told names ds ts notes found catalog listing read count infos noted markers is tables none strays room =
    let ids : map (λ t. t.id) ts ≡ ids_in ds = is.of ∙ noted.ids in
    let rows : (r : Row) → Contains (rows_of_all (all_recipes ds)) r → some_has ts (chunk_of_row r) ≡ true = rows_all ds ts notes.places.entries found.places.entries noted.places is.left none in
    let at : (c : ℕ) → table_at catalog.tables.entries c ≡ find (λ t. t.id == c) ts = λ c. ap (λ (l : List (ℕ × Table)). table_at l c) tables ∙ is.tables c in (
      state_of told ds ts,
      record {
        valid = valid_state told ds ts read count is.read ids rows;
        opens = opens_if told ds ts read count is.read ids rows;
        held = held_if ds ts catalog.sets.items catalog.tables.entries names catalog.strays.items count infos ids rows at strays told read is.read listing;
        memo = record {
          sets = sym infos ∙ infos_are (containers_in told ts) told 0 ds read;
          tables = tables_are told ts catalog.tables.entries at;
          markers = (marks_in (all_recipes ds), subst (λ (x : Marked). AreMarkersOfSets x (marks_in (all_recipes ds))) (sym markers) noted.markers, marks_are told ds ts read count is.read ids rows);
          strays = refl;
        };
        index = subst (λ (l : List Table). IsIndexOf found.index l) (sym (tables_back told ts)) is.index;
        strays = listed_if ds ts catalog.sets.items catalog.tables.entries names catalog.strays.items count infos ids rows at strays told read is.read listing;
        room = room;
      },
    )
