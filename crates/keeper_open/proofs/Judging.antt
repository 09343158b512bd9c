-- Rows against tables, and the first table or row that is bad.
use Rattle.std.proofs.Common.{◌≡◌, ◌⊎◌, ⊎_elim, ℕ, ◌+◌, ◌-◌, ◌*◌, ◌^◌, ◌<◌, ◌≤◌, Bool, true, false, List, [], ◌++◌, map, length, Option, Some, None, refl, sym, ap, subst, ◌∙◌, arith}
use Rattle.std.specs.Prelude.{Contains, slice_get}
use Rattle.std.specs.Map.{lookup}
use Rattle.std.proofs.lemmas.List.{append-nil}
use Rattle.vault_types.specs.declared.Kind.{Kind}
use Rattle.vault_types.specs.declared.Kind.TheVariants as kind
use Rattle.vault_types.specs.declared.Why.{Why}
use Rattle.vault_types.specs.declared.Why.TheVariants as why
use Rattle.vault_types.specs.declared.Row.{Row}
use Rattle.vault_types.specs.declared.Table.{Table}
use Rattle.vault_types.specs.declared.Recipe.{Recipe}
use Rattle.vault_types.specs.Lists.{set_of}
use Rattle.vault_types.specs.Shelf.{Blobs}
use Rattle.blob_parts.proofs.Fields.{blob_same}
use Rattle.container_store.proofs.TableLemmas.{has_widths}
use Rattle.container_store.proofs.TableField.{table_field}
use Rattle.keeper_open.specs.declared.notes.Chunk.{Chunk}
use Rattle.keeper_open.specs.declared.notes.RowPlace.{RowPlace}
use Rattle.vault_types.specs.FirstDamage.{ReadsRecipe, ReadsTable, IsRecipeDue, IsRowAt, IsNamedByRow, IsInTable, IsBefore, FloorsBefore, RecipesBefore, RowsBefore, AreTablesGood, IsFirstDamage, IsOpeningWhy, IsDamageOf}
use Rattle.keeper_open.specs.Reading.{SetRead, AreFloors, IsSetRead, AreSets, AreReadTables, all_recipes, rows_of_all, chunk_of_row, same_chunk, number_of, placed, AreFirst, IsNotAfter, some_has, left_of, IsFirstTable}
use Rattle.keeper_open.proofs.Noting.{not_after_trans}
use Rattle.keeper_open.proofs.Gathering.{place_of, recipe_read, set_at, mapped_in, floors_before}
use Rattle.damage_laws.proofs.Elements.{at_below, in_place, all_in}
use Rattle.damage_laws.proofs.Unique.{recipe_unique}
use Rattle.keeper_open.proofs.Damaging.{due_recipe, due_in, sets_good}
use Rattle.keeper_open.proofs.Stated.{located, recipe_among, placed_recipe_row, recipe_placed, row_of_recipe, row_in_all, has_is, is_has, set_in, in_set, map_at}

-- the table of a container is one
table_unique : (m : Blobs) (id : ℕ) (t u : Table) → ReadsTable (Some m) id t → ReadsTable (Some m) id u → t ≡ u
table_unique m id t u one two =
    let found : ◌≡◌ {A = Option (List ℕ)} (Some one.0) (Some two.0) = sym one.1 ∙ two.1 in
    let same : one.0 ≡ two.0 = cc in
    (blob_same table_field 0 t u [] (has_widths t one.2.rules) (has_widths u two.2.rules) (ap (λ (x : List ℕ). x ++ []) (sym one.2.spelled) ∙ append-nil one.0 ∙ same ∙ two.2.spelled)).0

abbrev Entries : Type 0
Entries = List (Chunk × RowPlace)

abbrev pub ids_in : List SetRead → List ℕ
ids_in ds = set_of (map (λ r. r.id) (rows_of_all (all_recipes ds)))

-- where no place is left, each row stands in its table
pub rows_all : (ds : List SetRead) (ts : List Table) (places left : Entries) → AreFirst places (placed (all_recipes ds)) → ((k : Chunk) → lookup (same_chunk k) left ≡ left_of (some_has ts k) (lookup (same_chunk k) places))
    → ((k : Chunk) → lookup (same_chunk k) left ≡ None) → (row : Row) → Contains (rows_of_all (all_recipes ds)) row → some_has ts (chunk_of_row row) ≡ true
rows_all ds ts places left first is none row there =
    let of = row_of_recipe (all_recipes ds) row there in
    let place = place_of of.0.rows row of.2 in
    let found = first.first (chunk_of_row row) (record { number = number_of of.0; row = 0 + place.0 }) (placed_recipe_row (all_recipes ds) of.0 place.0 row of.1 place.1) in
    by_test found.0 (some_has ts (chunk_of_row row)) (sym (none (chunk_of_row row)) ∙ is (chunk_of_row row) ∙ ap (left_of (some_has ts (chunk_of_row row))) found.1)
  where
    by_test : (q : RowPlace) (b : Bool) → None ≡ left_of b (Some q) → b ≡ true
    by_test q true e = refl
    by_test q false e = let clash : ◌≡◌ {A = Option RowPlace} None (Some q) = e in cc

-- a place that is not after a later one
too_late : (p : RowPlace) (n s v i t w j : ℕ) → n ≡ t * 2 ^ 32 + w → p.number ≡ s * 2 ^ 32 + v → p.row ≡ i → w ≤ 4294967294 → IsBefore t w s v ⊎ ((t ≡ s) × (w ≡ v) × (j < i)) → IsNotAfter p (record { number = n; row = 0 + j }) → ⊥
too_late p n s v i t w j same number at last before after = ⊎_elim
    (λ (lower : p.number < n). ⊎_elim
    (λ earlier. ⊎_elim
    (λ (less : t < s). omega (arith, lower, same, number, less, last))
    (λ (less : (t ≡ s) × (w < v)). omega (arith, lower, same, number, less.0, less.1))
    earlier)
    (λ (less : (t ≡ s) × (w ≡ v) × (j < i)). omega (arith, lower, same, number, less.0, less.1))
    before)
    (λ (equal : (p.number ≡ n) × (p.row ≤ 0 + j)). ⊎_elim
    (λ earlier. ⊎_elim
    (λ (less : t < s). omega (arith, equal.0, same, number, less, last))
    (λ (less : (t ≡ s) × (w < v)). omega (arith, equal.0, same, number, less.0, less.1))
    earlier)
    (λ (less : (t ≡ s) × (w ≡ v) × (j < i)). omega (arith, equal.1, at, less.2))
    before)
    after

module _ (m : Blobs) (ds : List SetRead) (read : AreSets (Some m) 0 ds) (count : length ds ≡ 256) where
  -- a recipe that was read is due
  due_of : (r : Recipe) → Contains (all_recipes ds) r → IsRecipeDue m r.set r.version × ReadsRecipe (Some m) r.set r.version r
  due_of r there =
      let at = located (Some m) 0 ds r read there in
      let d = at.1 in
      let set : r.set ≡ at.0 = at.5 ∙ (let e : 0 + at.0 ≡ at.0 = omega arith in e) in
      let info : IsSetRead (Some m) r.set d.info d.recipes = subst (λ (s : ℕ). IsSetRead (Some m) s d.info d.recipes) (sym at.5) (set_at (Some m) 0 ds at.0 d read at.3) in
      let version = at.6 in
      let below = at_below d.recipes at.2 r at.4 in
      let total = info.count in
      let high = info.high in
      let in_range = at_below ds at.0 d at.3 in (
        record {
          set = omega (arith, set, in_range, count);
          floor = d.info.floor;
          reads = info.floor;
          from = omega (arith, version);
          last = omega (arith, version, below, total, high);
          due = info.last.due r.version (omega (arith, version)) (omega (arith, version, below, total));
        },
        subst (λ (v : ℕ). ReadsRecipe (Some m) r.set v r) (sym version) (recipe_read (Some m) r.set d.info.floor d.recipes at.2 r info.read.recipes at.4),
      )

  row_at : (r : Recipe) (j : ℕ) (row : Row) → Contains (all_recipes ds) r → slice_get r.rows j ≡ Some row → IsRowAt m r.set r.version j row
  row_at r j row there is = let due = due_of r there in record { recipe = r; due = due.0; reads = due.1; at = is }

  -- a row of the blobs was read
  row_back : (t w j : ℕ) (row : Row) → IsRowAt m t w j row → (r : Recipe) × Contains (all_recipes ds) r × (slice_get r.rows j ≡ Some row) × (r.set ≡ t) × (r.version ≡ w)
  row_back t w j row is =
      let low = is.due.set in
      let d = due_in m ds read t w (omega (arith, low, count)) is.due in
      let r = due_recipe m t d.0.info.floor d.0.recipes d.2.floor d.2.read w is.due d.4 in
      let same : r.0 ≡ is.recipe = recipe_unique m t w r.0 is.recipe r.2 is.reads in
      (r.0, recipe_among ds t (w - d.0.info.floor) d.0 r.0 d.1 r.1, ap (λ (q : Recipe). slice_get q.rows j) same ∙ is.at, r.2.2.set, r.2.2.number)

  pub named_in : (c : ℕ) → IsNamedByRow m c → Contains (ids_in ds) c
  named_in c named =
      let back = row_back named.set named.version named.place named.row named.is_row in
      in_set c (map (λ r. r.id) (rows_of_all (all_recipes ds)))
      (subst (λ (i : ℕ). Contains (map (λ r. r.id) (rows_of_all (all_recipes ds))) i) named.is
      (map_at (λ (r : Row). r.id) (rows_of_all (all_recipes ds)) named.row (row_in_all (all_recipes ds) back.0 named.row back.1 (in_place back.0.rows named.place named.row back.2))))

  pub is_named : (c : ℕ) → Contains (ids_in ds) c → IsNamedByRow m c
  is_named c there =
      let of = mapped_in (λ (r : Row). r.id) (rows_of_all (all_recipes ds)) c (set_in c (map (λ r. r.id) (rows_of_all (all_recipes ds))) there) in
      let recipe = row_of_recipe (all_recipes ds) of.0 of.1 in
      let place = place_of recipe.0.rows of.0 recipe.2 in
      record { set = recipe.0.set; version = recipe.0.version; place = place.0; row = of.0; is_row = row_at recipe.0 place.0 of.0 recipe.1 place.1; is = of.2 }

  module _ (fs : List ℕ) (floors : AreFloors (Some m) 0 fs) (all : length fs ≡ 256) where
    floors_good : FloorsBefore m 256
    floors_good = floors_before m fs 256 floors (omega (arith, all))

    recipes_good : RecipesBefore m 256 0
    recipes_good t w before due = let low = due.set in sets_good m ds read t w (omega (arith, low, count)) due

    pub table_first : (k : Kind) (n : ℕ) (w : Why) → IsFirstTable (Some m) (ids_in ds) k n w → IsFirstDamage m k n w
    table_first kind.Table n w first = (record { floors = floors_good; recipes = recipes_good }, λ c low named. first.2 c low (named_in c named), is_named n first.0, first.1)
    table_first kind.Payload n w first = first
    table_first kind.Recipe n w first = absurd first
    table_first kind.Floor n w first = absurd first

    module _ (ts : List Table) (tables : AreReadTables (Some m) ts) (ids : map (λ t. t.id) ts ≡ ids_in ds) where
      table_good : (c : ℕ) → IsNamedByRow m c → (t : Table) × Contains ts t × (t.id ≡ c) × ReadsTable (Some m) c t
      table_good c named =
          let of = mapped_in (λ (t : Table). t.id) ts c (subst (λ (l : List ℕ). Contains l c) (sym ids) (named_in c named)) in
          (of.0, of.1, of.2, subst (λ (i : ℕ). ReadsTable (Some m) i of.0) of.2 (all_in (λ (t : Table). ReadsTable (Some m) t.id t) ts of.0 tables of.1))

      tables_good : AreTablesGood m
      tables_good = record { floors = floors_good; recipes = recipes_good; tables = λ c named. let t = table_good c named in (t.0, t.3) }

      in_table : (row : Row) → some_has ts (chunk_of_row row) ≡ true → IsInTable m row
      in_table row is =
          let of = has_is ts row is in
          (of.0, subst (λ (i : ℕ). ReadsTable (Some m) i of.0) of.2 (all_in (λ (t : Table). ReadsTable (Some m) t.id t) ts of.0 tables of.1), of.3)

      table_in : (row : Row) → IsNamedByRow m row.id → IsInTable m row → some_has ts (chunk_of_row row) ≡ true
      table_in row named is =
          let t = table_good row.id named in
          let same : is.0 ≡ t.0 = table_unique m row.id is.0 t.0 is.1 t.3 in
          is_has ts row t.0 t.1 t.2 (subst (λ (u : Table). Contains u.rows (record { fp = row.fp; len = row.len })) same is.2)

      module _ (places left : Entries) (first : AreFirst places (placed (all_recipes ds))) (is : (k : Chunk) → lookup (same_chunk k) left ≡ left_of (some_has ts k) (lookup (same_chunk k) places))
          (p : RowPlace) (k : Chunk) (here : lookup (same_chunk k) left ≡ Some p) (least : (k : Chunk) (q : RowPlace) → lookup (same_chunk k) left ≡ Some q → IsNotAfter p q) where
        stays : (b : Bool) (o : Option RowPlace) → left_of b o ≡ Some p → (b ≡ false) × (o ≡ Some p)
        stays true o e = absurd (let clash : ◌≡◌ {A = Option RowPlace} None (Some p) = e in cc)
        stays false o e = (refl, e)

        bad : (some_has ts k ≡ false) × (lookup (same_chunk k) places ≡ Some p)
        bad = stays (some_has ts k) (lookup (same_chunk k) places) (sym (is k) ∙ here)

        of_place : (r : Recipe) × (j : ℕ) × (row : Row) × Contains (all_recipes ds) r × (slice_get r.rows j ≡ Some row) × (p.number ≡ number_of r) × (p.row ≡ j) × (chunk_of_row row ≡ k)
        of_place = recipe_placed (all_recipes ds) k p (first.sound k p bad.1)

        not_in : (row : Row) → chunk_of_row row ≡ k → IsNamedByRow m row.id → IsInTable m row → ⊥
        not_in row same named stands = let clash : true ≡ false = sym (table_in row named stands) ∙ ap (some_has ts) same ∙ bad.0 in cc

        rows_before : (s v i : ℕ) → p.number ≡ s * 2 ^ 32 + v → p.row ≡ i → RowsBefore m s v i
        rows_before s v i number at t w j row before is_row = by_test (row_back t w j row is_row) (some_has ts (chunk_of_row row)) refl
          where
            by_test : (r : Recipe) × Contains (all_recipes ds) r × (slice_get r.rows j ≡ Some row) × (r.set ≡ t) × (r.version ≡ w) → (b : Bool) → some_has ts (chunk_of_row row) ≡ b → IsInTable m row
            by_test back true e = in_table row e
            by_test back false e =
                let found = first.first (chunk_of_row row) (record { number = number_of back.0; row = 0 + j }) (placed_recipe_row (all_recipes ds) back.0 j row back.1 back.2) in
                let after = least (chunk_of_row row) found.0 (is (chunk_of_row row) ∙ ap (λ b. left_of b (lookup (same_chunk (chunk_of_row row)) places)) e ∙ found.1) in
                let set = back.3 in
                let version = back.4 in
                absurd (too_late p (number_of back.0) s v i t w j (omega (arith, set, version)) number at is_row.due.last before (not_after_trans p found.0 (record { number = number_of back.0; row = 0 + j }) after found.2))

        pub row_first : IsFirstDamage m kind.Recipe p.number (why.BadRow p.row)
        row_first =
            let r = of_place.0 in
            let due = due_of r of_place.3 in
            let place = row_at r of_place.1 of_place.2 of_place.3 of_place.4 in
            let named : IsNamedByRow m of_place.2.id = record { set = r.set; version = r.version; place = of_place.1; row = of_place.2; is_row = place; is = refl } in (
              r.set,
              r.version,
              of_place.5,
              due.0,
              (
                tables_good,
                rows_before r.set r.version p.row of_place.5 refl,
                (of_place.2, subst (λ (i : ℕ). IsRowAt m r.set r.version i of_place.2) (sym of_place.6) place, not_in of_place.2 of_place.7 named),
              ),
            )

-- the same of what the shelf tells

table_why : (now : Option Blobs) (ids : List ℕ) (k : Kind) (n : ℕ) (w : Why) → IsFirstTable now ids k n w → IsOpeningWhy k w
table_why now ids kind.Table n why.Absent first = tt
table_why now ids kind.Table n why.Spelling first = tt
table_why now ids kind.Table n other first = absurd first.1
table_why now ids kind.Floor n w first = absurd first
table_why now ids kind.Payload n w first = absurd first
table_why now ids kind.Recipe n w first = absurd first

pub table_damage_of : (told now : Option Blobs) (fs : List ℕ) (ds : List SetRead) (ids : List ℕ) → now ≡ told → AreFloors told 0 fs → length fs ≡ 256 → AreSets told 0 ds → length ds ≡ 256 → ids ≡ ids_in ds
    → (k : Kind) (n : ℕ) (w : Why) → IsFirstTable now ids k n w → IsDamageOf told k n w
table_damage_of None now fs ds ids same floors all read count of k n w first = table_why now ids k n w first
table_damage_of (Some m) now fs ds ids same floors all read count of k n w first =
    table_first m ds read count fs floors all k n w (subst (λ (l : List ℕ). IsFirstTable (Some m) l k n w) of (subst (λ (t : Option Blobs). IsFirstTable t ids k n w) same first))

pub row_damage_of : (told : Option Blobs) (fs : List ℕ) (ds : List SetRead) (ts : List Table) (places left : Entries) → AreFloors told 0 fs → length fs ≡ 256 → AreSets told 0 ds → length ds ≡ 256 → AreReadTables told ts → map (λ t. t.id) ts ≡ ids_in ds
    → AreFirst places (placed (all_recipes ds)) → ((k : Chunk) → lookup (same_chunk k) left ≡ left_of (some_has ts k) (lookup (same_chunk k) places)) → (p : RowPlace) → (k : Chunk) × (lookup (same_chunk k) left ≡ Some p)
    → ((k : Chunk) (q : RowPlace) → lookup (same_chunk k) left ≡ Some q → IsNotAfter p q) → IsDamageOf told kind.Recipe p.number (why.BadRow p.row)
row_damage_of None fs ds ts places left floors all read count tables ids first is p here least = tt
row_damage_of (Some m) fs ds ts places left floors all read count tables ids first is p here least = row_first m ds read count fs floors all ts tables ids places left first is p here.0 here.1 least
