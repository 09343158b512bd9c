-- What a pin with its recipe gives, and the rows of pinned containers.
use Rattle.std.proofs.Common.{◌≡◌, ◌<◌, ◌≤◌, ◌^◌, ℕ, zero, suc, List, [], ◌∷◌, length, get_or, map, refl, sym, ap, subst, arith}
use Rattle.std.specs.Prelude.{Option, Result, Ok, Err, IsErrAnd, IsSomeAnd, Contains, slice_get}
use Rattle.std.specs.Option.{option_map_or}
use Rattle.std.specs.List.{AllByRecursion}
use Rattle.std.proofs.lemmas.List.Sums.{sum_by-cons}
use Rattle.vault_types.specs.declared.Fault.{Fault}
use Rattle.vault_types.specs.declared.Fp.{Fp}
use Rattle.vault_types.specs.declared.Row.{Row}
use Rattle.vault_types.specs.declared.Spot.{Spot}
use Rattle.vault_types.specs.declared.Table.{Table}
use Rattle.vault_types.specs.declared.TableRow.{TableRow}
use Rattle.vault_types.specs.Bytes.{offset_of}
use Rattle.vault_types.specs.Tables.{Container, IsTable, payload_len}
use Rattle.vault_types.specs.Events.{Core}
use Rattle.row_spots.specs.Spots.{spot_in, HasPlace}
use Rattle.keeper_catalog.specs.View.{View, Keeps}
use Rattle.keeper_core.specs.declared.copying.PinnedRecipe.{PinnedRecipe}
use Rattle.keeper_core.specs.Calls.{Lists}
use Rattle.keeper_core.specs.Copying.{IsSpotOf, AreSpotsOf}
use Rattle.keeper_core.proofs.Listing.{table_there}

-- what an early return hands out
pub pinned_as : (P : Result PinnedRecipe Fault → Type 0) (r : Result PinnedRecipe Fault) (e : Fault) → IsErrAnd r (λ f. f ≡ e) → P (Err e) → P r
pinned_as P (Ok a) e is h = absurd is
pinned_as P (Err f) e is h = subst (λ (g : Fault). P (Err g)) (sym is) h

few : (rows : List TableRow) → AllByRecursion (λ r. (1 ≤ r.len) × (r.len ≤ 65536)) rows → length rows ≤ payload_len rows
few [] lens = omega arith
few (r ∷ rows) lens = omega (arith, few rows lens.1, lens.0.0, sum_by-cons (λ (q : TableRow). q.len) r rows)

-- a table has few rows
pub few_rows : (t : Table) → IsTable t → length t.rows < 2 ^ 32
few_rows t rules = omega (arith, few t.rows rules.lens, rules.total)

-- the row at a place
at_index : (rows : List TableRow) (i : ℕ) (d : TableRow) (f : Fp) → i < length rows → (get_or rows i d).fp ≡ f → IsSomeAnd (slice_get rows i) (λ r. r.fp ≡ f)
at_index [] i d f low is = absurd (omega (arith, low))
at_index (r ∷ rows) zero d f low is = is
at_index (r ∷ rows) (suc i) d f low is = at_index rows i d f (omega (arith, low)) is

pub at_place : (rows : List TableRow) (i n : ℕ) (d : TableRow) (f : Fp) → n ≡ i → i < length rows → (get_or rows i d).fp ≡ f → IsSomeAnd (slice_get rows n) (λ r. r.fp ≡ f)
at_place rows i n d f same low is = subst (λ (m : ℕ). IsSomeAnd (slice_get rows m) (λ r. r.fp ≡ f)) (sym same) (at_index rows i d f low is)

-- the spots of rows that have their places
module _ (v : View) (K : Core) (keeps : Keeps v K) (number : ℕ) where
  one_spot : (r : Row) → HasPlace v.memo.tables r → IsSpotOf K.pins number r (spot_in v.memo.tables r)
  one_spot r place = record {
    id = refl;
    len = refl;
    there = λ c lists.
        let table = table_there v K keeps number r.id c lists in (
          subst (λ (o : Option Table). IsSomeAnd o (λ t. Contains t.rows (record { fp = r.fp; len = r.len }))) table place,
          ap (λ (o : Option Table). option_map_or (λ t. offset_of t.rows r.fp) o 0) table,
        );
  }

  pub spots_of_rows : (rows : List Row) → AllByRecursion (HasPlace v.memo.tables) rows → AreSpotsOf K.pins number rows (map (spot_in v.memo.tables) rows)
  spots_of_rows [] placed = tt
  spots_of_rows (r ∷ rows) placed = (one_spot r placed.0, spots_of_rows rows placed.1)
