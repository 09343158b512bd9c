-- For callers: spots and places as those of the containers.
use Rattle.std.proofs.Common.{◌≡◌, ℕ, Bool, true, false, cond, List, [], ◌∷◌, map, refl, ap, ◌∙◌, sym, subst, Option, Some, None}
use Rattle.std.specs.Prelude.{◌==◌, Contains, IsSomeAnd, option_map}
use Rattle.std.specs.Option.{option_map_or}
use Rattle.std.specs.List.{AllByRecursion}
use Rattle.std.specs.Ordering.{nat_cmp}
use Rattle.std.specs.BTreeMap.{is_at}
use Rattle.std.proofs.lemmas.Option.{none-some, same_Some}
use Rattle.vault_types.specs.declared.Table.{Table}
use Rattle.vault_types.specs.declared.Row.{Row}
use Rattle.vault_types.specs.Tables.{Container, IsTable}
use Rattle.vault_types.specs.State.{container_in}
use Rattle.vault_types.specs.Bytes.{offset_of, spot_of, HasRow}
use Rattle.keeper_catalog.specs.Catalog.{table_at, AreTables}
use Rattle.row_spots.specs.Spots.{spot_in, HasPlace, AreRuled}

module _ (tables : List (ℕ × Table)) (cs : List Container) (are : AreTables tables cs) where
  pub spot_same : (r : Row) → spot_in tables r ≡ spot_of cs r
  spot_same r =
      ap (λ o. record { id = r.id; at = option_map_or (λ t. offset_of t.rows r.fp) o 0; len = r.len }) (are r.id)
      ∙ ap (λ n. record { id = r.id; at = n; len = r.len }) (step (container_in cs r.id))
    where
      step : (o : Option Container) → option_map_or (λ t. offset_of t.rows r.fp) (option_map (λ c. c.table) o) 0 ≡ option_map_or (λ c. offset_of c.table.rows r.fp) o 0
      step None = refl
      step (Some c) = refl

  pub spots_same : (rows : List Row) → map (spot_in tables) rows ≡ map (spot_of cs) rows
  spots_same [] = refl
  spots_same (r ∷ rows) = ap (λ s. s ∷ map (spot_in tables) rows) (spot_same r) ∙ ap (λ ss. spot_of cs r ∷ ss) (spots_same rows)

  pub place_row : (r : Row) → HasPlace tables r → HasRow cs r
  place_row r h = step (container_in cs r.id) (subst (λ o. IsSomeAnd o (λ t. Contains t.rows (record { fp = r.fp; len = r.len }))) (are r.id) h)
    where
      step : (o : Option Container) → IsSomeAnd (option_map (λ c. c.table) o) (λ t. Contains t.rows (record { fp = r.fp; len = r.len })) → IsSomeAnd o (λ c. Contains c.table.rows (record { fp = r.fp; len = r.len }))
      step None i = i
      step (Some c) i = i

  pub row_place : (r : Row) → HasRow cs r → HasPlace tables r
  row_place r h = subst (λ o. IsSomeAnd o (λ t. Contains t.rows (record { fp = r.fp; len = r.len }))) (sym (are r.id)) (step (container_in cs r.id) h)
    where
      step : (o : Option Container) → IsSomeAnd o (λ c. Contains c.table.rows (record { fp = r.fp; len = r.len })) → IsSomeAnd (option_map (λ c. c.table) o) (λ t. Contains t.rows (record { fp = r.fp; len = r.len }))
      step None i = i
      step (Some c) i = i

  pub places_rows : (rows : List Row) → AllByRecursion (HasPlace tables) rows → AllByRecursion (HasRow cs) rows
  places_rows [] h = tt
  places_rows (r ∷ rows) h = (place_row r h.0, places_rows rows h.1)

  pub rows_places : (rows : List Row) → AllByRecursion (HasRow cs) rows → AllByRecursion (HasPlace tables) rows
  rows_places [] h = tt
  rows_places (r ∷ rows) h = (row_place r h.0, rows_places rows h.1)

-- one table more
pub ruled_more : (old new : List (ℕ × Table)) (id : ℕ) (t : Table) → IsTable t → ((q : ℕ) → table_at new q ≡ cond (is_at (nat_cmp id) q) (Some t) (table_at old q)) → AreRuled old → AreRuled new
ruled_more old new id t is n rules = λ q u e. step q u (is_at (nat_cmp id) q) (sym (n q) ∙ e)
  where
    step : (q : ℕ) (u : Table) (b : Bool) → cond b (Some t) (table_at old q) ≡ Some u → IsTable u
    step q u true e = subst IsTable (same_Some t u e) is
    step q u false e = rules q u e

-- the tables of containers that have spellings
pub ruled_all : (tables : List (ℕ × Table)) (cs : List Container) → AreTables tables cs → AllByRecursion (λ c. IsTable c.table) cs → AreRuled tables
ruled_all tables cs are all = λ id t e. in_list cs all id t (sym (are id) ∙ e)
  where
    in_list : (ds : List Container) → AllByRecursion (λ c. IsTable c.table) ds → (id : ℕ) (t : Table) → option_map (λ c. c.table) (container_in ds id) ≡ Some t → IsTable t
    in_list [] h id t e = absurd (none-some t e)
    in_list (d ∷ ds) h id t e = step (d.table.id == id) e (λ i. in_list ds h.1 id t i)
      where
        step : (b : Bool) → option_map (λ (c : Container). c.table) (cond b (Some d) (container_in ds id)) ≡ Some t → (option_map (λ (c : Container). c.table) (container_in ds id) ≡ Some t → IsTable t) → IsTable t
        step true i rest = subst IsTable (same_Some d.table t i) h.0
        step false i rest = rest i
