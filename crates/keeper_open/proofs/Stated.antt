-- The state that was read: its rows, containers and versions.
use Rattle.std.proofs.Common.{◌≡◌, ⊎_elim, ℕ, zero, suc, ◌+◌, ◌-◌, ◌<◌, ◌≤◌, Bool, true, false, cond, ◌||◌, List, [], ◌∷◌, ◌++◌, map, flat_map, length, Option, Some, None, refl, sym, ap, subst, ◌∙◌, arith}
use Rattle.std.specs.Prelude.{Contains, IsSomeAnd, IsTrue, option_map, slice_get, slice_index_or, nat_eq, nat_lt, find, ◌==◌}
use Rattle.std.specs.List.{AllByRecursion, last_or, list_any}
use Rattle.std.proofs.lemmas.Bool.{cases_lt}
use Rattle.std.proofs.lemmas.Bool.Decides.{nat_tests}
use Rattle.std.proofs.lemmas.List.Elements.{Contains-append_left, Contains-append_right, Contains-append_cases}
use Rattle.std.proofs.lemmas.List.Concat.{flat_map-append}
use Rattle.vault_types.specs.declared.Fp.{Fp}
use Rattle.vault_types.specs.declared.Row.{Row}
use Rattle.vault_types.specs.declared.TableRow.{TableRow}
use Rattle.vault_types.specs.declared.Table.{Table}
use Rattle.vault_types.specs.declared.Recipe.{Recipe}
use Rattle.vault_types.specs.Lists.{IsAscending, set_of, has}
use Rattle.vault_types.specs.Names.{same_fp}
use Rattle.vault_types.specs.Tables.{Container, id_of, has_fp}
use Rattle.vault_types.specs.State.{State, Dataset, KeptVersion, empty_dataset, dataset, version_in, version_of, all_rows, container_in, HasFp}
use Rattle.vault_types.specs.Bytes.{HasRow}
use Rattle.vault_types.specs.Shelf.{Blobs, blob_at, payload_name}
use Rattle.vault_types.specs.Events.{version_in_recipe}
use Rattle.vault_types.proofs.FillLemmas.{bytes_eq-same}
use Rattle.vault_types.proofs.SetLemmas.{has-set_of}
use Rattle.keeper_open.specs.declared.notes.Chunk.{Chunk}
use Rattle.keeper_open.specs.declared.notes.RowPlace.{RowPlace}
use Rattle.keeper_open.specs.Reading.{SetRead, AreSets, all_recipes, rows_of_all, chunk_of_row, same_chunk, placed_rows, number_of, placed, has_chunk, some_has}
use Rattle.keeper_open.proofs.Noting.{cons_cases, first_in, later_in, none_in, same_chunks, chunk_self}
use Rattle.keeper_open.proofs.Gathering.{place_of, recipe_read}
use Rattle.damage_laws.proofs.Elements.{some_at, in_place, all_in}

abbrev pub container_of : Option Blobs → Table → Container
container_of told t = record { table = t; payload = blob_at told (payload_name t.id) }

abbrev pub containers_in : Option Blobs → List Table → List Container
containers_in told ts = map (container_of told) ts

abbrev pub dataset_of : List Container → SetRead → Dataset
dataset_of cs d = record { floor = d.info.floor; versions = map (version_in_recipe cs) d.recipes }

-- the state of the sets and the tables that were read
abbrev pub state_of : Option Blobs → List SetRead → List Table → State
state_of told ds ts = record { datasets = map (dataset_of (containers_in told ts)) ds; containers = containers_in told ts }

-- lists

pub all_from : {X : Type 0} (P : X → Type 0) (xs : List X) → ((x : X) → Contains xs x → P x) → AllByRecursion P xs
all_from P [] each = tt
all_from P (x ∷ xs) each = (each x (first_in x xs), all_from P xs (λ y there. each y (later_in x y xs there)))

pub length_map : {X Y : Type 0} (f : X → Y) (xs : List X) → length (map f xs) ≡ length xs
length_map f [] = refl
length_map f (x ∷ xs) = ap suc (length_map f xs)

pub get_map : {X Y : Type 0} (f : X → Y) (xs : List X) (i : ℕ) → slice_get (map f xs) i ≡ option_map f (slice_get xs i)
get_map f [] i = refl
get_map f (x ∷ xs) zero = refl
get_map f (x ∷ xs) (suc i) = get_map f xs i

last_map : {X Y : Type 0} (f : X → Y) (o : Option X) (xs : List X) → last_or (option_map f o) (map f xs) ≡ option_map f (last_or o xs)
last_map f o [] = refl
last_map f o (x ∷ xs) = last_map f (Some x) xs

pub index_is : {X : Type 0} (xs : List X) (i : ℕ) (x d : X) → slice_get xs i ≡ Some x → slice_index_or xs i d ≡ x
index_is {X} [] i x d is = absurd (let clash : ◌≡◌ {A = Option X} None (Some x) = is in cc)
index_is (y ∷ xs) zero x d is = let same : y ≡ x = cc in same
index_is (y ∷ xs) (suc i) x d is = index_is xs i x d is

self_eq : (n : ℕ) → nat_eq n n ≡ true
self_eq n = grind (arith, nat_tests)

any_at : {X : Type 0} (test : X → Bool) (xs : List X) (x : X) → Contains xs x → test x ≡ true → list_any test xs ≡ true
any_at test [] x there is = absurd (none_in x there)
any_at test (y ∷ xs) x there is = ⊎_elim
    (λ (here : y ≡ x). ap (λ b. b || list_any test xs) (ap test here ∙ is))
    (λ later. either (test y) (any_at test xs x later is))
    (cons_cases y x xs there)
  where
    either : (b : Bool) → list_any test xs ≡ true → (b || list_any test xs) ≡ true
    either true h = refl
    either false h = h

pub any_in : {X : Type 0} (test : X → Bool) (xs : List X) → list_any test xs ≡ true → (x : X) × Contains xs x × (test x ≡ true)
any_in test [] is = absurd (let clash : false ≡ true = is in cc)
any_in test (y ∷ xs) is = by_test (λ h. any_in test xs h) (test y) refl is
  where
    by_test : (list_any test xs ≡ true → (x : _) × Contains xs x × (test x ≡ true)) → (b : Bool) → test y ≡ b → (b || list_any test xs) ≡ true → (x : _) × Contains (y ∷ xs) x × (test x ≡ true)
    by_test rest true e h = (y, first_in y xs, e)
    by_test rest false e h = let found = rest h in (found.0, later_in y found.0 xs found.1, found.2)

pub has_in : (c : ℕ) (ns : List ℕ) → has c ns ≡ true → Contains ns c
has_in c ns is = let found = any_in (nat_eq c) ns is in let same : c ≡ found.0 = grind (arith, nat_tests, found.2) in subst (λ (n : ℕ). Contains ns n) (sym same) found.1

pub in_has : (c : ℕ) (ns : List ℕ) → Contains ns c → has c ns ≡ true
in_has c ns there = any_at (nat_eq c) ns c there (self_eq c)

pub in_set : (c : ℕ) (ns : List ℕ) → Contains ns c → Contains (set_of ns) c
in_set c ns there = has_in c (set_of ns) (has-set_of c ns ∙ in_has c ns there)

pub set_in : (c : ℕ) (ns : List ℕ) → Contains (set_of ns) c → Contains ns c
set_in c ns there = has_in c ns (sym (has-set_of c ns) ∙ in_has c (set_of ns) there)

pub map_at : {X Y : Type 0} (f : X → Y) (xs : List X) (x : X) → Contains xs x → Contains (map f xs) (f x)
map_at f [] x there = absurd (none_in x there)
map_at f (y ∷ xs) x there = ⊎_elim
    (λ (here : y ≡ x). subst (λ z. Contains (map f (y ∷ xs)) (f z)) here (first_in (f y) (map f xs)))
    (λ later. later_in (f y) (f x) (map f xs) (map_at f xs x later))
    (cons_cases y x xs there)

-- rows

version_rows : (cs : List Container) (rs : List Recipe) → flat_map (λ k. k.rows) (map (version_in_recipe cs) rs) ≡ rows_of_all rs
version_rows cs [] = refl
version_rows cs (r ∷ rs) = ap (λ (l : List Row). r.rows ++ l) (version_rows cs rs)

pub all_rows_are : (cs : List Container) (ds : List SetRead) → all_rows (map (dataset_of cs) ds) ≡ rows_of_all (all_recipes ds)
all_rows_are cs [] = refl
all_rows_are cs (d ∷ ds) =
    ap (λ (l : List Row). l ++ all_rows (map (dataset_of cs) ds)) (version_rows cs d.recipes) ∙ ap (λ (l : List Row). rows_of_all d.recipes ++ l) (all_rows_are cs ds)
    ∙ sym (flat_map-append (λ (r : Recipe). r.rows) d.recipes (all_recipes ds))

-- each row has a place
pub placed_row : (number i : ℕ) (rows : List Row) (j : ℕ) (row : Row) → slice_get rows j ≡ Some row → Contains (placed_rows number i rows) (chunk_of_row row, record { number = number; row = i + j })
placed_row number i [] j row is = absurd (let clash : ◌≡◌ {A = Option Row} None (Some row) = is in cc)
placed_row number i (r ∷ rows) zero row is =
    let same : r ≡ row = cc in
    subst (λ (e : Chunk × RowPlace). Contains (placed_rows number i (r ∷ rows)) e) (λ k. (chunk_of_row (same k), record { number = number; row = (let e : i ≡ i + 0 = omega arith in e) k }))
    (first_in (chunk_of_row r, record { number = number; row = i }) (placed_rows number (i + 1) rows))
placed_row number i (r ∷ rows) (suc j) row is =
    later_in (chunk_of_row r, record { number = number; row = i }) (chunk_of_row row, record { number = number; row = i + suc j }) (placed_rows number (i + 1) rows)
    (subst (λ (n : ℕ). Contains (placed_rows number (i + 1) rows) (chunk_of_row row, record { number = number; row = n })) (let e : i + 1 + j ≡ i + suc j = omega arith in e) (placed_row number (i + 1) rows j row is))

pub placed_recipe_row : (rs : List Recipe) (r : Recipe) (j : ℕ) (row : Row) → Contains rs r → slice_get r.rows j ≡ Some row → Contains (placed rs) (chunk_of_row row, record { number = number_of r; row = 0 + j })
placed_recipe_row [] r j row there is = absurd (none_in r there)
placed_recipe_row (q ∷ rs) r j row there is = ⊎_elim
    (λ (here : q ≡ r). Contains-append_left (placed_rows (number_of q) 0 q.rows) (placed rs) (chunk_of_row row, record { number = number_of r; row = 0 + j })
    (subst (λ (p : Recipe). Contains (placed_rows (number_of p) 0 p.rows) (chunk_of_row row, record { number = number_of r; row = 0 + j })) (sym here) (placed_row (number_of r) 0 r.rows j row is)))
    (λ later. Contains-append_right (placed_rows (number_of q) 0 q.rows) (placed rs) (chunk_of_row row, record { number = number_of r; row = 0 + j }) (placed_recipe_row rs r j row later is))
    (cons_cases q r rs there)

-- what stands at a place
pub row_placed : (number i : ℕ) (rows : List Row) (k : Chunk) (p : RowPlace) → Contains (placed_rows number i rows) (k, p) → (j : ℕ) × (row : Row) × (slice_get rows j ≡ Some row) × (p.number ≡ number) × (p.row ≡ i + j) × (chunk_of_row row ≡ k)
row_placed number i [] k p there = absurd (none_in (k, p) there)
row_placed number i (r ∷ rows) k p there = ⊎_elim
    (λ here. (0, r, refl, ap (λ (e : Chunk × RowPlace). e.1.number) (sym here), ap (λ (e : Chunk × RowPlace). e.1.row) (sym here) ∙ (let e : i ≡ i + 0 = omega arith in e), ap (λ (e : Chunk × RowPlace). e.0) here))
    (λ later. let found = row_placed number (i + 1) rows k p later in (suc found.0, found.1, found.2, found.3, found.4 ∙ (let e : i + 1 + found.0 ≡ i + suc found.0 = omega arith in e), found.5))
    (cons_cases (chunk_of_row r, record { number = number; row = i }) (k, p) (placed_rows number (i + 1) rows) there)

pub recipe_placed : (rs : List Recipe) (k : Chunk) (p : RowPlace) → Contains (placed rs) (k, p) → (r : Recipe) × (j : ℕ) × (row : Row) × Contains rs r × (slice_get r.rows j ≡ Some row) × (p.number ≡ number_of r) × (p.row ≡ j) × (chunk_of_row row ≡ k)
recipe_placed [] k p there = absurd (none_in (k, p) there)
recipe_placed (q ∷ rs) k p there = ⊎_elim
    (λ own. let found = row_placed (number_of q) 0 q.rows k p own in (q, found.0, found.1, first_in q rs, found.2, found.3, found.4 ∙ (let e : 0 + found.0 ≡ found.0 = omega arith in e), found.5))
    (λ later. let found = recipe_placed rs k p later in (found.0, found.1, found.2, later_in q found.0 rs found.3, found.4, found.5, found.6, found.7))
    (Contains-append_cases (placed_rows (number_of q) 0 q.rows) (placed rs) (k, p) there)

pub row_of_recipe : (rs : List Recipe) (row : Row) → Contains (rows_of_all rs) row → (r : Recipe) × Contains rs r × Contains r.rows row
row_of_recipe [] row there = absurd (none_in row there)
row_of_recipe (q ∷ rs) row there = ⊎_elim
    (λ own. (q, first_in q rs, own))
    (λ later. let found = row_of_recipe rs row later in (found.0, later_in q found.0 rs found.1, found.2))
    (Contains-append_cases q.rows (rows_of_all rs) row there)

pub row_in_all : (rs : List Recipe) (r : Recipe) (row : Row) → Contains rs r → Contains r.rows row → Contains (rows_of_all rs) row
row_in_all [] r row there own = absurd (none_in r there)
row_in_all (q ∷ rs) r row there own = ⊎_elim
    (λ (here : q ≡ r). Contains-append_left q.rows (rows_of_all rs) row (subst (λ (p : Recipe). Contains p.rows row) (sym here) own))
    (λ later. Contains-append_right q.rows (rows_of_all rs) row (row_in_all rs r row later own))
    (cons_cases q r rs there)

-- containers

pub find_is : (ts : List Table) (t : Table) → IsAscending (map (λ u. u.id) ts) → Contains ts t → find (λ u. u.id == t.id) ts ≡ Some t
find_is [] t up there = absurd (none_in t there)
find_is (u ∷ ts) t up there = ⊎_elim
    (λ (here : u ≡ t). ap (λ b. cond b (Some u) (find (λ v. v.id == t.id) ts)) (ap (λ (v : Table). v.id == t.id) here ∙ self_eq t.id) ∙ ap (λ (v : Table). Some v) here)
    (λ later.
    let less : u.id < t.id = all_in (λ j. u.id < j) (map (λ v. v.id) ts) t.id up.0 (map_at (λ (v : Table). v.id) ts t later) in
    let other : (u.id == t.id) ≡ false = grind (arith, nat_tests) in
    ap (λ b. cond b (Some u) (find (λ v. v.id == t.id) ts)) other ∙ find_is ts t up.1 later)
    (cons_cases u t ts there)

pub found_in : (ts : List Table) (c : ℕ) (t : Table) → find (λ u. u.id == c) ts ≡ Some t → Contains ts t × (t.id ≡ c)
found_in [] c t is = absurd (let clash : ◌≡◌ {A = Option Table} None (Some t) = is in cc)
found_in (u ∷ ts) c t is = by_test (λ h. found_in ts c t h) (u.id == c) refl is
  where
    by_test : (find (λ u. u.id == c) ts ≡ Some t → Contains ts t × (t.id ≡ c)) → (b : Bool) → (u.id == c) ≡ b → cond b (Some u) (find (λ u. u.id == c) ts) ≡ Some t → Contains (u ∷ ts) t × (t.id ≡ c)
    by_test rest true e h =
        let same : u ≡ t = cc in
        let id : u.id ≡ c = grind (arith, nat_tests) in
        (subst (λ (v : Table). Contains (u ∷ ts) v) same (first_in u ts), subst (λ (v : Table). v.id ≡ c) same id)
    by_test rest false e h = let found = rest h in (later_in u t ts found.0, found.1)

pub container_found : (told : Option Blobs) (ts : List Table) (c : ℕ) → container_in (containers_in told ts) c ≡ option_map (container_of told) (find (λ t. t.id == c) ts)
container_found told [] c = refl
container_found told (t ∷ ts) c = by_test (t.id == c) (container_found told ts c)
  where
    by_test : (b : Bool) → container_in (containers_in told ts) c ≡ option_map (container_of told) (find (λ t. t.id == c) ts) → cond b (Some (container_of told t)) (container_in (containers_in told ts) c) ≡ option_map (container_of told) (cond b (Some t) (find (λ t. t.id == c) ts))
    by_test true h = refl
    by_test false h = h

pub tables_back : (told : Option Blobs) (ts : List Table) → map (λ c. c.table) (containers_in told ts) ≡ ts
tables_back told [] = refl
tables_back told (t ∷ ts) = ap (λ (l : List Table). t ∷ l) (tables_back told ts)

pub ids_back : (told : Option Blobs) (ts : List Table) → map id_of (containers_in told ts) ≡ map (λ t. t.id) ts
ids_back told [] = refl
ids_back told (t ∷ ts) = ap (λ (l : List ℕ). t.id ∷ l) (ids_back told ts)

-- the table that has a chunk
pub has_is : (ts : List Table) (row : Row) → some_has ts (chunk_of_row row) ≡ true → (t : Table) × Contains ts t × (t.id ≡ row.id) × Contains t.rows (record { fp = row.fp; len = row.len })
has_is ts row is =
    let table = any_in (λ (t : Table). has_chunk t.id t.rows (chunk_of_row row)) ts is in
    let entry = any_in (λ (r : TableRow). same_chunk (record { fp = r.fp; id = table.0.id; len = r.len }) (chunk_of_row row)) table.0.rows table.2 in
    let same : record { fp = entry.0.fp; id = table.0.id; len = entry.0.len } ≡ chunk_of_row row = same_chunks (record { fp = entry.0.fp; id = table.0.id; len = entry.0.len }) (chunk_of_row row) entry.2 in
    (table.0, table.1, ap (λ (k : Chunk). k.id) same, subst (λ (r : TableRow). Contains table.0.rows r) (λ i. record { fp = (same i).fp; len = (same i).len }) entry.1)

pub is_has : (ts : List Table) (row : Row) (t : Table) → Contains ts t → t.id ≡ row.id → Contains t.rows (record { fp = row.fp; len = row.len }) → some_has ts (chunk_of_row row) ≡ true
is_has ts row t there id own =
    any_at (λ (u : Table). has_chunk u.id u.rows (chunk_of_row row)) ts t there
    (any_at (λ (r : TableRow). same_chunk (record { fp = r.fp; id = t.id; len = r.len }) (chunk_of_row row)) t.rows (record { fp = row.fp; len = row.len }) own
    (ap (λ (c : ℕ). same_chunk (record { fp = row.fp; id = c; len = row.len }) (chunk_of_row row)) id ∙ chunk_self (chunk_of_row row)))

fp_in : (t : Table) (f : Fp) (len : ℕ) → Contains t.rows (record { fp = f; len = len }) → has_fp f t ≡ true
fp_in t f len own = any_at (λ (r : TableRow). same_fp r.fp f) t.rows (record { fp = f; len = len }) own (bytes_eq-same f.0)

-- a row whose chunk a table has
pub row_stands : (told : Option Blobs) (ts : List Table) (row : Row) → IsAscending (map (λ u. u.id) ts) → some_has ts (chunk_of_row row) ≡ true → HasFp (containers_in told ts) row × HasRow (containers_in told ts) row
row_stands told ts row up is =
    let found = has_is ts row is in
    let at : container_in (containers_in told ts) row.id ≡ Some (container_of told found.0) =
    container_found told ts row.id ∙ ap (option_map (container_of told)) (ap (λ (c : ℕ). find (λ t. t.id == c) ts) (sym found.2) ∙ find_is ts found.0 up found.1) in (
      subst (λ (o : Option Container). IsSomeAnd o (λ c. IsTrue (has_fp row.fp c.table))) (sym at) (fp_in found.0 row.fp row.len found.3),
      subst (λ (o : Option Container). IsSomeAnd o (λ c. Contains c.table.rows (record { fp = row.fp; len = row.len }))) (sym at) found.3,
    )

-- versions

module _ (told : Option Blobs) (ds : List SetRead) (ts : List Table) where
  abbrev pub cs : List Container
  cs = containers_in told ts

  pub dataset_is : (s : ℕ) (d : SetRead) → slice_get ds s ≡ Some d → dataset (state_of told ds ts) s ≡ dataset_of cs d
  dataset_is s d is = index_is (map (dataset_of cs) ds) s (dataset_of cs d) empty_dataset (get_map (dataset_of cs) ds s ∙ ap (option_map (dataset_of cs)) is)

  pub version_is : (s v : ℕ) (d : SetRead) (r : Recipe) → slice_get ds s ≡ Some d → d.info.floor ≤ v → slice_get d.recipes (v - d.info.floor) ≡ Some r → version_of (state_of told ds ts) s v ≡ Some (version_in_recipe cs r)
  version_is s v d r is from own =
      let test : nat_lt v d.info.floor ≡ false = grind (arith, nat_tests) in
      ap (λ (x : Dataset). version_in x v) (dataset_is s d is)
      ∙ ap (λ b. cond b None (slice_get (map (version_in_recipe cs) d.recipes) (v - d.info.floor))) test
      ∙ get_map (version_in_recipe cs) d.recipes (v - d.info.floor) ∙ ap (option_map (version_in_recipe cs)) own

  in_dataset : (d : SetRead) (v : ℕ) (k : KeptVersion) → version_in (dataset_of cs d) v ≡ Some k → (d.info.floor ≤ v) × ((r : Recipe) × (slice_get d.recipes (v - d.info.floor) ≡ Some r) × (k ≡ version_in_recipe cs r))
  in_dataset d v k is = by_test (nat_lt v d.info.floor) refl is
    where
      by_get : (o : Option Recipe) → option_map (version_in_recipe cs) o ≡ Some k → (r : Recipe) × (o ≡ Some r) × (k ≡ version_in_recipe cs r)
      by_get None e = absurd (let clash : ◌≡◌ {A = Option KeptVersion} None (Some k) = e in cc)
      by_get (Some r) e = (r, refl, sym (let same : version_in_recipe cs r ≡ k = cc in same))

      by_test : (b : Bool) → nat_lt v d.info.floor ≡ b → cond b None (slice_get (map (version_in_recipe cs) d.recipes) (v - d.info.floor)) ≡ Some k → (d.info.floor ≤ v) × ((r : Recipe) × (slice_get d.recipes (v - d.info.floor) ≡ Some r) × (k ≡ version_in_recipe cs r))
      by_test true t e = absurd (let clash : ◌≡◌ {A = Option KeptVersion} None (Some k) = e in cc)
      by_test false t e = (grind (arith, nat_tests), by_get (slice_get d.recipes (v - d.info.floor)) (sym (get_map (version_in_recipe cs) d.recipes (v - d.info.floor)) ∙ e))

  -- a kept version, as it was read
  pub version_back : (s v : ℕ) (k : KeptVersion) → version_of (state_of told ds ts) s v ≡ Some k → (d : SetRead) × (r : Recipe) × (slice_get ds s ≡ Some d) × (d.info.floor ≤ v) × (slice_get d.recipes (v - d.info.floor) ≡ Some r) × (k ≡ version_in_recipe cs r)
  version_back s v k is = ⊎_elim
      (λ below.
      let d = some_at ds s below in
      let found = in_dataset d.0 v k (ap (λ (x : Dataset). version_in x v) (sym (dataset_is s d.0 d.1)) ∙ is) in
      (d.0, found.1.0, d.1, found.0, found.1.1, found.1.2))
      (λ past. absurd (none_there v (sym (ap (λ (x : Dataset). version_in x v) (past_end (map (dataset_of cs) ds) s (subst (λ (n : ℕ). n ≤ s) (sym (length_map (dataset_of cs) ds)) past))) ∙ is)))
      (cases_lt s (length ds))
    where
      past_end : (xs : List Dataset) (s : ℕ) → length xs ≤ s → slice_index_or xs s empty_dataset ≡ empty_dataset
      past_end [] s past = refl
      past_end (x ∷ xs) zero past = absurd (omega arith)
      past_end (x ∷ xs) (suc s) past = past_end xs s (omega arith)

      none_there : (v : ℕ) → version_in empty_dataset v ≡ Some k → ⊥
      none_there v e = by_test (nat_lt v 1) e
        where
          by_test : (b : Bool) → cond b None (slice_get {X = KeptVersion} [] (v - 1)) ≡ Some k → ⊥
          by_test true e = let clash : ◌≡◌ {A = Option KeptVersion} None (Some k) = e in cc
          by_test false e = let clash : ◌≡◌ {A = Option KeptVersion} None (Some k) = e in cc

-- where a recipe was read

pub located : (told : Option Blobs) (s : ℕ) (ds : List SetRead) (r : Recipe) → AreSets told s ds → Contains (all_recipes ds) r
    → (i : ℕ) × (d : SetRead) × (j : ℕ) × (slice_get ds i ≡ Some d) × (slice_get d.recipes j ≡ Some r) × (r.set ≡ s + i) × (r.version ≡ d.info.floor + j)
located told s [] r all there = absurd (none_in r there)
located told s (d ∷ ds) r all there = ⊎_elim
    (λ own.
    let place = place_of d.recipes r own in
    let reads = recipe_read told s d.info.floor d.recipes place.0 r all.0.read.recipes place.1 in
    (0, d, place.0, refl, place.1, reads.2.set ∙ (let e : s ≡ s + 0 = omega arith in e), reads.2.number))
    (λ later.
    let found = located told (s + 1) ds r all.1 later in
    (suc found.0, found.1, found.2, found.3, found.4, found.5 ∙ (let e : s + 1 + found.0 ≡ s + suc found.0 = omega arith in e), found.6))
    (Contains-append_cases d.recipes (all_recipes ds) r there)

pub recipe_among : (ds : List SetRead) (i j : ℕ) (d : SetRead) (r : Recipe) → slice_get ds i ≡ Some d → slice_get d.recipes j ≡ Some r → Contains (all_recipes ds) r
recipe_among [] i j d r is own = absurd (let clash : ◌≡◌ {A = Option SetRead} None (Some d) = is in cc)
recipe_among (e ∷ ds) zero j d r is own =
    let same : e ≡ d = cc in
    Contains-append_left e.recipes (all_recipes ds) r (subst (λ (x : SetRead). Contains x.recipes r) (sym same) (in_place d.recipes j r own))
recipe_among (e ∷ ds) (suc i) j d r is own = Contains-append_right e.recipes (all_recipes ds) r (recipe_among ds i j d r is own)
