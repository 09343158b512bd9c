-- The state that was read is valid, the blobs stand for it, and the memory is that of it.
use Rattle.std.proofs.Common.{◌≡◌, inl, inr, ⊎_elim, ℕ, ◌+◌, ◌-◌, ◌<◌, ◌≤◌, true, List, [], ◌∷◌, ◌++◌, map, length, Option, Some, None, refl, sym, ap, subst, ◌∙◌, arith}
use Rattle.std.specs.Prelude.{Contains, IfSome, MatchOption, option_map, unwrap_or, slice_get, find, ◌==◌}
use Rattle.std.specs.Option.{option_map_or}
use Rattle.std.specs.List.{AllByRecursion, last_or}
use Rattle.std.specs.FinMap as fin
use Rattle.std.proofs.lemmas.Bool.{cases_lt}
use Rattle.std.proofs.lemmas.List.{append-nil}
use Rattle.std.proofs.lemmas.List.Elements.{Contains-append_left, Contains-append_right, Contains-append_cases}
use Rattle.vault_types.specs.declared.Fp.{Fp}
use Rattle.vault_types.specs.declared.Row.{Row}
use Rattle.vault_types.specs.declared.Table.{Table}
use Rattle.vault_types.specs.declared.Recipe.{Recipe}
use Rattle.vault_types.specs.Lists.{EachNext, IsAscending, set_of}
use Rattle.vault_types.specs.Marks.{Mark, marks_of}
use Rattle.vault_types.specs.Names.{fp, IsFp}
use Rattle.vault_types.specs.Tables.{Container, IsTable}
use Rattle.vault_types.specs.State.{State, Dataset, KeptVersion, latest_in, latest_version, next_in, version_of, latest_of, all_rows, container_in, length_of, recipe_of, HasFp, HasRecipeRules, IsDataset, IsValid}
use Rattle.vault_types.specs.Bytes.{row_bytes, HasRow}
use Rattle.vault_types.specs.Blobs.{recipe_bytes_1, recipe_bytes_2, IsRecipe, SpellsFloor}
use Rattle.vault_types.specs.Shelf.{Blobs, floor_name, recipe_name, IsFloorBlob, IsRecipeBlob, HasContainer, Stands}
use Rattle.vault_types.specs.Events.{version_in_recipe}
use Rattle.vault_types.proofs.SetLemmas.{IsAscending-set_of}
use Rattle.sha1.specs.Sha1.{sha1}
use Rattle.keeper_catalog.specs.Catalog.{set_info, table_at, Names, AreMarks}
use Rattle.vault_types.specs.FirstDamage.{Opens, ReadsRecipe, ReadsTable}
use Rattle.keeper_open.specs.Reading.{SetRead, AreRecipes, IsSetRead, AreSets, AreReadTables, all_recipes, rows_of_all, marks_in, chunk_of_row, some_has}
use Rattle.keeper_open.proofs.Noting.{cons_cases, first_in, later_in, none_in}
use Rattle.keeper_open.proofs.Gathering.{recipe_read, set_at, mapped_in}
use Rattle.damage_laws.proofs.Elements.{some_at, all_in}
use Rattle.keeper_open.proofs.Damaging.{floor_version}
use Rattle.vault_types.proofs.SumLemmas.{fp-is_fp}
use Rattle.keeper_open.proofs.Stated.{container_of, containers_in, dataset_of, state_of, all_from, length_map, all_rows_are, container_found, ids_back, row_stands, dataset_is, version_is, version_back, located, recipe_among, set_in, in_set, map_at}

-- datasets

recipes_rules : (cs : List Container) (told : Option Blobs) (s v : ℕ) (rs : List Recipe) → AreRecipes told s v rs → AllByRecursion (λ k. HasRecipeRules k.next k.rows k.sparse) (map (version_in_recipe cs) rs)
recipes_rules cs told s v [] all = tt
recipes_rules cs told s v (r ∷ rs) all = (all.0.2.rules.rules, recipes_rules cs told s (v + 1) rs all.1)

sum_is : (cs : List Container) (r : Recipe) → IsRecipe r → IsFp (version_in_recipe cs r).sum × (r.rows ≡ [] → (version_in_recipe cs r).sum ≡ fp [])
sum_is cs r rules = by_whole r.whole rules.whole rules.no_bytes
  where
    by_whole : (o : Option Fp) → IfSome o IsFp → (r.rows ≡ [] → IfSome o (λ w. w.0 ≡ sha1 [])) → IsFp (unwrap_or o (fp (row_bytes cs r.rows))) × (r.rows ≡ [] → unwrap_or o (fp (row_bytes cs r.rows)) ≡ fp [])
    by_whole None is none = (fp-is_fp (row_bytes cs r.rows), λ empty. ap (λ (rows : List Row). fp (row_bytes cs rows)) empty)
    by_whole (Some w) is none = (is, λ empty. let e = none empty in λ i. record { 0 = e i })

recipes_sums : (cs : List Container) (told : Option Blobs) (s v : ℕ) (rs : List Recipe) → AreRecipes told s v rs → AllByRecursion (λ k. IsFp k.sum × (k.rows ≡ [] → k.sum ≡ fp [])) (map (version_in_recipe cs) rs)
recipes_sums cs told s v [] all = tt
recipes_sums cs told s v (r ∷ rs) all = (sum_is cs r all.0.2.rules, recipes_sums cs told s (v + 1) rs all.1)

rising_map : (cs : List Container) (rs : List Recipe) → EachNext (λ q r. q.next ≤ r.next) rs → EachNext (λ k l. k.next ≤ l.next) (map (version_in_recipe cs) rs)
rising_map cs [] all = tt
rising_map cs (r ∷ []) all = tt
rising_map cs (r ∷ q ∷ rs) all = (all.0, rising_map cs (q ∷ rs) all.1)

latest_is : (cs : List Container) (told : Option Blobs) (s : ℕ) (d : SetRead) → IsSetRead told s d.info d.recipes → latest_in (dataset_of cs d) ≡ d.info.latest
latest_is cs told s d read = let count = read.count in omega (arith, length_map (version_in_recipe cs) d.recipes, count)

dataset_valid : (cs : List Container) (told : Option Blobs) (s : ℕ) (d : SetRead) → IsSetRead told s d.info d.recipes → IsDataset (dataset_of cs d)
dataset_valid cs told s d read = record {
  floor = (floor_version told s d.info.floor read.floor).0;
  fresh = λ none.
      let empty : length d.recipes ≡ 0 = sym (length_map (version_in_recipe cs) d.recipes) ∙ ap length none in
      let positive = (floor_version told s d.info.floor read.floor).0 in
      ⊎_elim (λ above. let up = read.low above in let count = read.count in absurd (omega (arith, up, count, empty))) (λ low. omega (arith, low, positive)) (cases_lt 1 d.info.floor);
  last = let high = read.high in omega (arith, latest_is cs told s d read, high);
  each = recipes_rules cs told s d.info.floor d.recipes read.read.recipes;
  sums = recipes_sums cs told s d.info.floor d.recipes read.read.recipes;
  rising = rising_map cs d.recipes read.read.rising;
}

sets_valid : (cs : List Container) (told : Option Blobs) (s : ℕ) (ds : List SetRead) → AreSets told s ds → AllByRecursion IsDataset (map (dataset_of cs) ds)
sets_valid cs told s [] all = tt
sets_valid cs told s (d ∷ ds) all = (dataset_valid cs told s d all.0, sets_valid cs told (s + 1) ds all.1)

tables_valid : (told : Option Blobs) (ts : List Table) → AreReadTables told ts → AllByRecursion (λ c. IsTable c.table) (containers_in told ts)
tables_valid told [] all = tt
tables_valid told (t ∷ ts) all = (all.0.2.rules, tables_valid told ts all.1)

-- what is in memory of the sets

last_of_map : {X Y : Type 0} (f : X → Y) (o : Option X) (xs : List X) → last_or (option_map f o) (map f xs) ≡ option_map f (last_or o xs)
last_of_map f o [] = refl
last_of_map f o (x ∷ xs) = last_of_map f (Some x) xs

next_same : (cs : List Container) (o : Option Recipe) → unwrap_or (option_map (λ k. k.next) (option_map (version_in_recipe cs) o)) 1 ≡ unwrap_or (option_map (λ r. r.next) o) 1
next_same cs None = refl
next_same cs (Some r) = refl

sparse_same : (cs : List Container) (o : Option Recipe) → option_map_or (λ k. k.sparse) (option_map (version_in_recipe cs) o) [] ≡ option_map_or (λ r. r.sparse) o []
sparse_same cs None = refl
sparse_same cs (Some r) = refl

info_is : (cs : List Container) (told : Option Blobs) (s : ℕ) (d : SetRead) → IsSetRead told s d.info d.recipes → set_info (dataset_of cs d) ≡ d.info
info_is cs told s d read =
    let latest = latest_is cs told s d read in
    let next : next_in (dataset_of cs d) ≡ d.info.next =
    ap (λ (o : Option KeptVersion). unwrap_or (option_map (λ k. k.next) o) 1) (last_of_map (version_in_recipe cs) None d.recipes) ∙ next_same cs (last_or None d.recipes) ∙ sym read.next in
    let used : option_map_or (λ k. k.sparse) (latest_version (dataset_of cs d)) [] ≡ d.info.sparse =
    ap (λ (o : Option KeptVersion). option_map_or (λ k. k.sparse) o []) (last_of_map (version_in_recipe cs) None d.recipes) ∙ sparse_same cs (last_or None d.recipes) ∙ sym read.sparse in
    λ i. record { floor = d.info.floor; latest = latest i; next = next i; sparse = used i }

pub infos_are : (cs : List Container) (told : Option Blobs) (s : ℕ) (ds : List SetRead) → AreSets told s ds → map (λ d. d.info) ds ≡ map set_info (map (dataset_of cs) ds)
infos_are cs told s [] all = refl
infos_are cs told s (d ∷ ds) all = λ i. sym (info_is cs told s d all.0) i ∷ infos_are cs told (s + 1) ds all.1 i

-- tables

table_back : (told : Option Blobs) (o : Option Table) → option_map (λ c. c.table) (option_map (container_of told) o) ≡ o
table_back told None = refl
table_back told (Some t) = refl

pub tables_are : (told : Option Blobs) (ts : List Table) (tables : List (ℕ × Table)) → ((c : ℕ) → table_at tables c ≡ find (λ t. t.id == c) ts) → (c : ℕ) → table_at tables c ≡ option_map (λ c. c.table) (container_in (containers_in told ts ++ []) c)
tables_are told ts tables at c =
    at c ∙ sym (table_back told (find (λ t. t.id == c) ts)) ∙ ap (option_map (λ (d : Container). d.table)) (sym (container_found told ts c))
    ∙ ap (λ (l : List Container). option_map (λ (d : Container). d.table) (container_in l c)) (sym (append-nil (containers_in told ts)))

-- marks

mark_of : (rs : List Recipe) (m : Mark) → Contains (marks_in rs) m → (r : Recipe) × Contains rs r × (m.set ≡ r.set) × (m.version ≡ r.version) × Contains (map (λ q. q.id) r.rows) m.id
mark_of [] m there = absurd (none_in m there)
mark_of (r ∷ rs) m there = ⊎_elim
    (λ own.
    let of = mapped_in (λ (c : ℕ). record { id = c; set = r.set; version = r.version }) (set_of (map (λ q. q.id) r.rows)) m own in (
      r,
      first_in r rs,
      ap (λ (n : Mark). n.set) (sym of.2),
      ap (λ (n : Mark). n.version) (sym of.2),
      subst (λ (c : ℕ). Contains (map (λ q. q.id) r.rows) c) (ap (λ (n : Mark). n.id) of.2) (set_in of.0 (map (λ q. q.id) r.rows) of.1),
    ))
    (λ later. let found = mark_of rs m later in (found.0, later_in r found.0 rs found.1, found.2, found.3, found.4))
    (Contains-append_cases (marks_of r.set r.version (set_of (map (λ q. q.id) r.rows))) (marks_in rs) m there)

is_mark : (rs : List Recipe) (r : Recipe) (c : ℕ) → Contains rs r → Contains (map (λ q. q.id) r.rows) c → Contains (marks_in rs) (record { id = c; set = r.set; version = r.version })
is_mark [] r c there own = absurd (none_in r there)
is_mark (q ∷ rs) r c there own = ⊎_elim
    (λ (here : q ≡ r). Contains-append_left (marks_of q.set q.version (set_of (map (λ p. p.id) q.rows))) (marks_in rs) (record { id = c; set = r.set; version = r.version })
    (subst (λ (p : Recipe). Contains (marks_of p.set p.version (set_of (map (λ o. o.id) p.rows))) (record { id = c; set = r.set; version = r.version })) (sym here)
    (map_at (λ (d : ℕ). record { id = d; set = r.set; version = r.version }) (set_of (map (λ p. p.id) r.rows)) c (in_set c (map (λ p. p.id) r.rows) own))))
    (λ later. Contains-append_right (marks_of q.set q.version (set_of (map (λ p. p.id) q.rows))) (marks_in rs) (record { id = c; set = r.set; version = r.version }) (is_mark rs r c later own))
    (cons_cases q r rs there)

-- the state

module _ (told : Option Blobs) (ds : List SetRead) (ts : List Table) (read : AreSets told 0 ds) (count : length ds ≡ 256) (tables : AreReadTables told ts) (ids : map (λ t. t.id) ts ≡ set_of (map (λ r. r.id) (rows_of_all (all_recipes ds)))) (rows : (r : Row) → Contains (rows_of_all (all_recipes ds)) r → some_has ts (chunk_of_row r) ≡ true) where
  abbrev T : State
  T = state_of told ds ts

  abbrev cs : List Container
  cs = containers_in told ts

  up : IsAscending (map (λ t. t.id) ts)
  up = subst IsAscending (sym ids) (IsAscending-set_of (map (λ r. r.id) (rows_of_all (all_recipes ds))))

  pub valid_state : IsValid T
  valid_state = record {
    sets = length_map (dataset_of cs) ds ∙ count;
    datasets = sets_valid cs told 0 ds read;
    containers = ids_back told ts ∙ ids ∙ ap (λ (l : List Row). set_of (map (λ r. r.id) l)) (sym (all_rows_are cs ds));
    tables = tables_valid told ts tables;
    rows = subst (λ (l : List Row). AllByRecursion (HasFp cs) l) (sym (all_rows_are cs ds)) (all_from (HasFp cs) (rows_of_all (all_recipes ds)) (λ r there. (row_stands told ts r up (rows r there)).0));
  }

  pub rows_stand : AllByRecursion (HasRow cs) (all_rows T.datasets)
  rows_stand = subst (λ (l : List Row). AllByRecursion (HasRow cs) l) (sym (all_rows_are cs ds)) (all_from (HasRow cs) (rows_of_all (all_recipes ds)) (λ r there. (row_stands told ts r up (rows r there)).1))

  -- a kept version's recipe
  pub read_back : (s v : ℕ) (k : KeptVersion) → version_of T s v ≡ Some k → (r : Recipe) × Contains (all_recipes ds) r × ReadsRecipe told s v r × (k ≡ version_in_recipe cs r)
  read_back s v k is =
      let back = version_back told ds ts s v k is in
      let d = back.0 in
      let set = set_at told 0 ds s d read back.2 in
      let reads = recipe_read told (0 + s) d.info.floor d.recipes (v - d.info.floor) back.1 set.read.recipes back.4 in
      let from = back.3 in (
        back.1,
        recipe_among ds s (v - d.info.floor) d back.1 back.2 back.4,
        subst (λ (t : ℕ). ReadsRecipe told t v back.1) (let e : 0 + s ≡ s = omega arith in e) (subst (λ (u : ℕ). ReadsRecipe told (0 + s) u back.1) (let e : d.info.floor + (v - d.info.floor) ≡ v = omega (arith, from) in e) reads),
        back.5,
      )

  pub kept_is : (r : Recipe) → Contains (all_recipes ds) r → version_of T r.set r.version ≡ Some (version_in_recipe cs r)
  kept_is r there =
      let at = located told 0 ds r read there in
      let d = at.1 in
      let set : r.set ≡ at.0 = at.5 ∙ (let e : 0 + at.0 ≡ at.0 = omega arith in e) in
      let version = at.6 in
      ap (λ (s : ℕ). version_of T s r.version) set
      ∙ version_is told ds ts at.0 r.version d r at.3 (omega (arith, version)) (ap (λ (i : ℕ). slice_get d.recipes i) (let e : r.version - d.info.floor ≡ at.2 = omega (arith, version) in e) ∙ at.4)

  pub marks_are : AreMarks (marks_in (all_recipes ds)) T
  marks_are = record {
    sound = λ m there.
        let of = mark_of (all_recipes ds) m there in
        subst (λ (o : Option KeptVersion). Names o m.id) (sym (ap (λ (s : ℕ). version_of T s m.version) of.2 ∙ ap (λ (v : ℕ). version_of T of.0.set v) of.3 ∙ kept_is of.0 of.1)) of.4;
    complete = λ s v c names. by_version s v c (version_of T s v) refl names;
  }
    where
      by_version : (s v c : ℕ) (o : Option KeptVersion) → version_of T s v ≡ o → Names o c → Contains (marks_in (all_recipes ds)) (record { id = c; set = s; version = v })
      by_version s v c None is names = absurd names
      by_version s v c (Some k) is names =
          let back = read_back s v k is in
          let spells = back.2.2 in
          subst (λ (m : Mark). Contains (marks_in (all_recipes ds)) m) (λ i. record { id = c; set = spells.set i; version = spells.number i })
          (is_mark (all_recipes ds) back.0 c back.1 (subst (λ (x : KeptVersion). Contains (map (λ q. q.id) x.rows) c) back.3 names))

-- the blobs stand for it

floor_blob : (m : Blobs) (s f : ℕ) (o : Option (List ℕ)) → fin.get m (floor_name s) ≡ o → MatchOption o (f ≡ 1) (λ bytes. SpellsFloor s bytes f) → IsFloorBlob s f (fin.get m (floor_name s))
floor_blob m s f None is one = inr (one, is)
floor_blob m s f (Some bytes) is spells = inl (is ∙ ap (λ (b : List ℕ). Some b) spells.spelled)

bytes_of_2 : (cs : List Container) (s v : ℕ) (r : Recipe) (w : Fp) → r.set ≡ s → r.version ≡ v → r.length ≡ length_of r.rows → recipe_bytes_2 w r ≡ recipe_bytes_2 w (recipe_of s v (version_in_recipe cs r))
bytes_of_2 cs s v r w set version total = λ i. recipe_bytes_2 w (record { set = set i; version = version i; next = r.next; length = total i; rows = r.rows; sparse = r.sparse; whole = None })

bytes_of_1 : (cs : List Container) (s v : ℕ) (r : Recipe) → r.set ≡ s → r.version ≡ v → r.length ≡ length_of r.rows → recipe_bytes_1 r ≡ recipe_bytes_1 (recipe_of s v (version_in_recipe cs r))
bytes_of_1 cs s v r set version total = λ i. recipe_bytes_1 (record { set = set i; version = version i; next = r.next; length = total i; rows = r.rows; sparse = r.sparse; whole = None })

module _ (m : Blobs) (ds : List SetRead) (ts : List Table) (read : AreSets (Some m) 0 ds) (count : length ds ≡ 256) (tables : AreReadTables (Some m) ts) (ids : map (λ t. t.id) ts ≡ set_of (map (λ r. r.id) (rows_of_all (all_recipes ds)))) (rows : (r : Row) → Contains (rows_of_all (all_recipes ds)) r → some_has ts (chunk_of_row r) ≡ true) where
  abbrev U : State
  U = state_of (Some m) ds ts

  abbrev held : List Container
  held = containers_in (Some m) ts

  set_of_state : (s : ℕ) → s < length U.datasets → (d : SetRead) × (slice_get ds s ≡ Some d) × IsSetRead (Some m) s d.info d.recipes
  set_of_state s below =
      let d = some_at ds s (omega (arith, below, length_map (dataset_of held) ds)) in
      (d.0, d.1, subst (λ (t : ℕ). IsSetRead (Some m) t d.0.info d.0.recipes) (let e : 0 + s ≡ s = omega arith in e) (set_at (Some m) 0 ds s d.0 read d.1))

  recipe_blob : (s v : ℕ) (r : Recipe) → version_of U s v ≡ Some (version_in_recipe held r) → ReadsRecipe (Some m) s v r → (o : Option Fp) → r.whole ≡ o → IsRecipeBlob U s v (version_in_recipe held r) (fin.get m (recipe_name s v))
  recipe_blob s v r is reads (Some w) whole =
      let spells = reads.2 in
      let spelled : reads.0 ≡ recipe_bytes_2 w r = spells.spelled ∙ ap (λ (o : Option Fp). option_map_or (λ w. recipe_bytes_2 w r) o (recipe_bytes_1 r)) whole in
      let sum : (version_in_recipe held r).sum ≡ w = ap (λ (o : Option Fp). unwrap_or o (fp (row_bytes held r.rows))) whole in
      inl (reads.1 ∙ ap (λ (b : List ℕ). Some b) (spelled ∙ bytes_of_2 held s v r w spells.set spells.number spells.rules.total ∙ ap (λ (x : Fp). recipe_bytes_2 x (recipe_of s v (version_in_recipe held r))) (sym sum)))
  recipe_blob s v r is reads None whole =
      let spells = reads.2 in
      let spelled : reads.0 ≡ recipe_bytes_1 r = spells.spelled ∙ ap (λ (o : Option Fp). option_map_or (λ w. recipe_bytes_2 w r) o (recipe_bytes_1 r)) whole in
      inr (
        reads.1 ∙ ap (λ (b : List ℕ). Some b) (spelled ∙ bytes_of_1 held s v r spells.set spells.number spells.rules.total),
        ap (λ (o : Option Fp). unwrap_or o (fp (row_bytes held r.rows))) whole ∙ ap fp (sym (ap (λ (o : Option KeptVersion). option_map_or (λ k. row_bytes held k.rows) o []) is)),
      )

  pub blobs_stand : Stands m U
  blobs_stand = record {
    floors = λ s below.
        let d = set_of_state s below in
        subst (λ (f : ℕ). IsFloorBlob s f (fin.get m (floor_name s))) (sym (ap (λ (x : Dataset). x.floor) (dataset_is (Some m) ds ts s d.0 d.1)))
        (floor_blob m s d.0.info.floor d.2.floor.0 d.2.floor.1 d.2.floor.2);
    recipes = λ s v below. by_version s v (version_of U s v) refl;
    containers = λ c there.
        let of = mapped_in (container_of (Some m)) ts c there in
        let reads = all_in (λ (t : Table). ReadsTable (Some m) t.id t) ts of.0 tables of.1 in
        subst (λ (x : Container). HasContainer m x) of.2 (let h : HasContainer m (container_of (Some m) of.0) = record { table = reads.1 ∙ ap (λ (b : List ℕ). Some b) reads.2.spelled; payload = refl } in h);
    newest = λ s v below later last.
        let d = set_of_state s below in
        let is : latest_of U s ≡ d.0.info.latest = ap latest_in (dataset_is (Some m) ds ts s d.0 d.1) ∙ latest_is held (Some m) s d.0 d.2 in
        let number = d.2.count in
        d.2.last.above v (omega (arith, later, is, number)) (omega (arith, later, is)) last;
  }
    where
      by_version : (s v : ℕ) (o : Option KeptVersion) → version_of U s v ≡ o → IfSome o (λ k. IsRecipeBlob U s v k (fin.get m (recipe_name s v)))
      by_version s v None is = tt
      by_version s v (Some k) is =
          let back = read_back (Some m) ds ts read count tables ids rows s v k is in
          subst (λ (x : KeptVersion). IsRecipeBlob U s v x (fin.get m (recipe_name s v))) (sym back.3)
          (recipe_blob s v back.0 (is ∙ ap (λ (x : KeptVersion). Some x) back.3) back.2 back.0.whole refl)

  pub opens_state : Opens m U
  opens_state = record {
    stands = blobs_stand;
    valid = valid_state (Some m) ds ts read count tables ids rows;
    rows = rows_stand (Some m) ds ts read count tables ids rows;
  }
