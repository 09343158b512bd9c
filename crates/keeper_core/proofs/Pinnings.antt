-- What a keeper keeps over a pin, and what a pin gives of its version.
use Rattle.std.proofs.Common.{All, Global, Vec, ⊎_elim, ◌≤◌, ◌≡◌, true, false, ℕ, ◌<◌, ◌+◌, map, Bool, cond, List, [], ◌∷◌, ◌++◌, Option, Some, None, refl, sym, ◌∙◌, ap, subst, arith}
use Rattle.row_spots.specs.declared.Unplaced.{Unplaced}
use Rattle.row_spots.specs.declared.Unplaced.TheVariants as unplaced
use Rattle.std.specs.Prelude.{Result, Err, Contains, IsSome, IsSomeAnd, IsTrue, slice_get}
use Rattle.std.specs.List.{AllByRecursion}
use Rattle.std.specs.Option.{option_map_or}
use Rattle.std.proofs.lemmas.List.Sums.{sum_by-cons}
use Rattle.std.proofs.lemmas.List.Elements.{recursion_from_All}
use Rattle.vault_types.specs.declared.Fp.{Fp}
use Rattle.vault_types.specs.declared.Row.{Row}
use Rattle.vault_types.specs.declared.Table.{Table}
use Rattle.vault_types.specs.declared.Spot.{Spot}
use Rattle.vault_types.specs.declared.Recipe.{Recipe}
use Rattle.vault_types.specs.declared.TableRow.{TableRow}
use Rattle.vault_types.specs.Names.{same_fp}
use Rattle.vault_types.specs.Lists.{has, set_of}
use Rattle.vault_types.specs.Marks.{Mark, marked_ids}
use Rattle.vault_types.specs.Tables.{Container, IsTable, id_of, has_fp, payload_len}
use Rattle.vault_types.specs.State.{KeptVersion, version_of, container_in, length_of, named, HasFp}
use Rattle.vault_types.specs.Bytes.{offset_of, spot_of, HasRow}
use Rattle.vault_types.specs.Blobs.{SpellsRecipe}
use Rattle.vault_types.specs.Shelf.{recipe_name, Has}
use Rattle.vault_types.specs.Events.{Core, Pin, put_by, pinned_containers, containers_of, with_pins, after_pin, Held}
use Rattle.vault_types.proofs.GrowLemmas.{container_in-more}
use Rattle.vault_types.proofs.FillLemmas.{bytes_eq-same}
use Rattle.vault_types.proofs.SetLemmas.{has-set_of}
use Rattle.vault_traits.specs.Told.{ShelfTold}
use Rattle.set_markers.specs.SetMarkers.{AreMarkersOfSets}
use Rattle.restore_pins.specs.Pins.{Listed, numbers, IsListOf, AreListsOf}
use Rattle.restore_pins.proofs.Callers.{numbers-same, lists-more}
use Rattle.state_laws.proofs.Changing.{told_same}
use Rattle.state_laws.proofs.Growing.{rows_of}
use Rattle.keeper_catalog.specs.Catalog.{listed, AreMarks}
use Rattle.keeper_catalog.specs.View.{View, Keeps}
use Rattle.row_spots.specs.Spots.{spot_in, HasPlace, AreRuled}
use Rattle.row_spots.proofs.Callers.{places_rows, spots_same, row_place, ruled_all}
use Rattle.commit_laws.specs.Laws.{pin_with, pinned_core}
use Rattle.commit_laws.proofs.Listing.{all_append, all_of, all_at, found_is}
use Rattle.commit_laws.proofs.Pinned.{filter_was, pinned_more, pin_core, pin_tables, pin_told}
use Rattle.commit_laws.proofs.Loading.{pin_ids, pin_list}
use Rattle.vault_traits.specs.Causes.{IsCause}
use Rattle.deletion_laws.proofs.Marking.{marked_are_named}
use Rattle.state_laws.proofs.Members.{clash, here, later, first_or_rest, of_map, in_map}
use Rattle.deletion_laws.proofs.Pinning.{alike_more}
use Rattle.keeper_core.specs.Calls.{Lists, HasListed, IsPinned, IsUnplaced, IsBadRow, IsPinDamage, unplaced_fault}
use Rattle.keeper_core.proofs.Openings.{says_version}
use Rattle.keeper_core.proofs.Listing.{table_there}

pub same_row : (a b : ℕ) → ◌≡◌ {A = Result (Vec Spot Global) Unplaced} (Err (unplaced.BadRow a)) (Err (unplaced.BadRow b)) → a ≡ b
same_row a b e = cc

pub some_weaker : (P Q : Row → Type 0) (o : Option Row) → ((r : Row) → P r → Q r) → IsSomeAnd o P → IsSomeAnd o Q
some_weaker P Q None f h = absurd h
some_weaker P Q (Some r) f h = f r h

-- what is in some containers is in more of them

row_more : (cs more : List Container) (r : Row) → HasRow cs r → HasRow (cs ++ more) r
row_more cs more r h = step (container_in cs r.id) refl h
  where
    step : (o : Option Container) → container_in cs r.id ≡ o → IsSomeAnd o (λ c. Contains c.table.rows (record { fp = r.fp; len = r.len })) → HasRow (cs ++ more) r
    step None e has = absurd has
    step (Some c) e has = subst (λ (o : Option Container). IsSomeAnd o (λ c. Contains c.table.rows (record { fp = r.fp; len = r.len }))) (sym (container_in-more cs more r.id c e)) has

spot_more : (cs more : List Container) (r : Row) → HasFp cs r → spot_of (cs ++ more) r ≡ spot_of cs r
spot_more cs more r h = step (container_in cs r.id) refl h
  where
    step : (o : Option Container) → container_in cs r.id ≡ o → IsSomeAnd o (λ c. IsTrue (has_fp r.fp c.table)) → spot_of (cs ++ more) r ≡ spot_of cs r
    step None e has = absurd has
    step (Some c) e has = ap (λ (o : Option Container). record { id = r.id; at = option_map_or (λ c. offset_of c.table.rows r.fp) o 0; len = r.len }) (container_in-more cs more r.id c e ∙ sym e)

spots_more : (cs more : List Container) (rows : List Row) → AllByRecursion (HasFp cs) rows → map (spot_of (cs ++ more)) rows ≡ map (spot_of cs) rows
spots_more cs more [] h = refl
spots_more cs more (r ∷ rows) h = ap (λ (s : Spot). s ∷ map (spot_of (cs ++ more)) rows) (spot_more cs more r h.0) ∙ ap (λ (ss : List Spot). spot_of cs r ∷ ss) (spots_more cs more rows h.1)

-- and so in fewer, where its fingerprint is
row_fewer : (cs more : List Container) (r : Row) → HasFp cs r → HasRow (cs ++ more) r → HasRow cs r
row_fewer cs more r h has_row = step (container_in cs r.id) refl h
  where
    step : (o : Option Container) → container_in cs r.id ≡ o → IsSomeAnd o (λ c. IsTrue (has_fp r.fp c.table)) → HasRow cs r
    step None e none = absurd none
    step (Some c) e some = subst (λ (o : Option Container). IsSomeAnd o (λ c. Contains c.table.rows (record { fp = r.fp; len = r.len }))) (container_in-more cs more r.id c e ∙ sym e) has_row

rows_fewer : (cs more : List Container) (rows : List Row) → AllByRecursion (HasFp cs) rows → AllByRecursion (HasRow (cs ++ more)) rows → AllByRecursion (HasRow cs) rows
rows_fewer cs more [] h has_rows = tt
rows_fewer cs more (r ∷ rows) h has_rows = (row_fewer cs more r h.0 has_rows.0, rows_fewer cs more rows h.1 has_rows.1)

row_named : (cs : List Container) (r : Row) → HasRow cs r → has r.id (map id_of cs) ≡ true
row_named cs r h = step (container_in cs r.id) refl h
  where
    step : (o : Option Container) → container_in cs r.id ≡ o → IsSomeAnd o (λ c. Contains c.table.rows (record { fp = r.fp; len = r.len })) → has r.id (map id_of cs) ≡ true
    step None e has_row = absurd has_row
    step (Some c) e has_row = let found = found_is cs r.id c e in subst (λ (n : ℕ). has n (map id_of cs) ≡ true) found.1 (in_map id_of cs c found.0)

named_of : (ids : List ℕ) (rows : List Row) → AllByRecursion (λ r. has r.id ids ≡ true) rows → (c : ℕ) → has c (map (λ q. q.id) rows) ≡ true → has c ids ≡ true
named_of ids rows named c h =
    let found = of_map (λ (q : Row). q.id) rows c h in
    subst (λ (n : ℕ). has n ids ≡ true) found.2 (all_in rows named found.0 found.1)
  where
    all_in : (qs : List Row) → AllByRecursion (λ r. has r.id ids ≡ true) qs → (q : Row) → Contains qs q → has q.id ids ≡ true
    all_in [] all q there = absurd (omega (arith, there.1))
    all_in (p ∷ qs) all q there = ⊎_elim (λ same. subst (λ (x : Row). has x.id ids ≡ true) same all.0) (λ rest. all_in qs all.1 q rest) (first_or_rest p qs q there)

-- the pin of the last list
pin_at : (before : List Listed) (pins : List Pin) (l : Listed) → AreListsOf (before ++ l ∷ []) pins → (q : Pin) × Contains pins q × IsListOf l q
pin_at [] [] l h = absurd h
pin_at [] (q ∷ qs) l h = (q, here q qs, h.0)
pin_at (k ∷ ks) [] l h = absurd h
pin_at (k ∷ ks) (q ∷ qs) l h = let r = pin_at ks qs l h.1 in (r.0, later q qs r.0 r.1, r.2)

-- a chunk lies within its payload

len_within : (rows : List TableRow) (x : TableRow) → Contains rows x → x.len ≤ payload_len rows
len_within [] x there = absurd (omega (arith, there.1))
len_within (r ∷ rows) x there = ⊎_elim
    (λ (same : r ≡ x). let e : r.len ≡ x.len = ap (λ q. q.len) same in let all : payload_len (r ∷ rows) ≡ r.len + payload_len rows = sum_by-cons (λ (q : TableRow). q.len) r rows in omega (arith, e, all))
    (λ rest. let h = len_within rows x rest in let all : payload_len (r ∷ rows) ≡ r.len + payload_len rows = sum_by-cons (λ (q : TableRow). q.len) r rows in omega (arith, h, all))
    (first_or_rest r rows x there)

within : (rows : List TableRow) (f : Fp) (len : ℕ) → Contains rows (record { fp = f; len = len }) → offset_of rows f + len ≤ payload_len rows
within [] f len there = absurd (omega (arith, there.1))
within (r ∷ rows) f len there = step (same_fp r.fp f) refl (within rows f len)
  where
    step : (b : Bool) → same_fp r.fp f ≡ b → (Contains rows (record { fp = f; len = len }) → offset_of rows f + len ≤ payload_len rows) → offset_of (r ∷ rows) f + len ≤ payload_len (r ∷ rows)
    step true t later_too =
        let none : offset_of (r ∷ rows) f ≡ 0 = ap (λ b. cond b 0 (r.len + offset_of rows f)) t in
        let h = len_within (r ∷ rows) (record { fp = f; len = len }) there in
        omega (arith, none, h)
    step false t later_too =
        let more : offset_of (r ∷ rows) f ≡ r.len + offset_of rows f = ap (λ b. cond b 0 (r.len + offset_of rows f)) t in
        let rest = ⊎_elim
        (λ (same : r ≡ record { fp = f; len = len }). clash {A = Contains rows (record { fp = f; len = len })} (same_fp r.fp f) (ap (λ (q : TableRow). same_fp q.fp f) same ∙ bytes_eq-same f.0) t)
        (λ h. h)
        (first_or_rest r rows (record { fp = f; len = len }) there) in
        let h = later_too rest in
        let all : payload_len (r ∷ rows) ≡ r.len + payload_len rows = sum_by-cons (λ (q : TableRow). q.len) r rows in
        omega (arith, more, h, all)

module _ (v : View) (K : Core) (keeps : Keeps v K) where
  -- what the markers call named is named
  pub named_in_state : (marks : List Mark) → AreMarks marks K.state → (c : ℕ) → has c (marked_ids marks) ≡ has c (map id_of K.state.containers)
  named_in_state marks are c = ap (has c) (marked_are_named K.state marks are ∙ sym keeps.core.state.containers)

  pub tables_ruled : AreRuled v.memo.tables
  tables_ruled = ruled_all v.memo.tables (listed K) keeps.memo.tables
      (all_append (λ c. IsTable c.table) K.state.containers (pinned_containers K.pins ++ put_by K.job) keeps.core.state.tables (all_append (λ c. IsTable c.table) (pinned_containers K.pins) (put_by K.job) keeps.pinned keeps.core.tables))

  -- a pin of any ids that are named
  pub pinned_keeps : (number s n : ℕ) (ids : List ℕ) (told : ShelfTold) (pins : List Listed) → pins ≡ v.pins ++ record { number = number; version = n; ids = ids } ∷ [] → has number (numbers v.pins) ≡ false
      → ((c : ℕ) → has c ids ≡ true → has c (map id_of K.state.containers) ≡ true) → told.blobs ≡ v.told.blobs
      → Keeps (record { told = told; memo = v.memo; index = v.index; pins = pins; job = v.job; pending = v.pending }) (pinned_core number s n ids K)
  pinned_keeps number s n ids told pins are fresh named same = record {
    core = pin_core K keeps.core number s n ids (ap (has number) (numbers-same v.pins K.pins keeps.pins) ∙ fresh);
    held = pin_told K keeps.core number s n ids told.blobs (told_same (λ m. Held m K) v.told.blobs told.blobs same keeps.held);
    memo = record {
      sets = keeps.memo.sets;
      tables = pin_tables K keeps.core number s n ids v.memo.tables keeps.memo.tables;
      markers = keeps.memo.markers;
      strays = keeps.memo.strays;
    };
    index = keeps.index;
    pins = subst (λ (l : List Listed). AreListsOf l (K.pins ++ pin_with number s n ids K.state ∷ [])) (sym are)
        (lists-more v.pins K.pins (record { number = number; version = n; ids = ids }) (pin_with number s n ids K.state) keeps.pins (pin_list K.state number s n ids named));
    alike = alike_more K (pin_with number s n ids K.state) ids keeps.core keeps.alike refl;
    pinned = subst (λ (l : List Container). AllByRecursion (λ c. IsTable c.table) l) (sym (pinned_more K keeps.core number s n ids))
        (all_append (λ c. IsTable c.table) (pinned_containers K.pins) (containers_of K.state.containers ids) keeps.pinned
        (all_of (λ c. IsTable c.table) (containers_of K.state.containers ids) (λ c there. all_at (λ c. IsTable c.table) K.state.containers c keeps.core.state.tables (filter_was (λ c. has c.table.id ids) K.state.containers c there))));
    job = keeps.job;
    pending = keeps.pending;
  }

  -- a row of the state that has no place in memory is in no table
  bad_row : (s n i : ℕ) (q : Recipe) (bytes : List ℕ) (marks : List Mark) → AreMarks marks K.state → s < 256 → Has v.told.blobs (recipe_name s n) (Some bytes) → SpellsRecipe s n bytes q
      → IsSomeAnd (slice_get q.rows i) (IsUnplaced v.memo.tables marks) → IsBadRow v.told.blobs K.state s n i
  bad_row s n i q bytes marks are below there spells bad tells k kept =
      subst (λ (rows : List Row). IsSomeAnd (slice_get rows i) (λ r. HasRow K.state.containers r → ⊥)) (says_version v K k s n q bytes keeps below kept tells there spells).rows
      (some_weaker (IsUnplaced v.memo.tables marks) (λ r. HasRow K.state.containers r → ⊥) (slice_get q.rows i)
      (λ r why has_row. ⊎_elim
      (λ unnamed. clash (has r.id (marked_ids marks)) (named_in_state marks are r.id ∙ row_named K.state.containers r has_row) unnamed)
      (λ none. none (row_place v.memo.tables (listed K) keeps.memo.tables r (row_more K.state.containers (pinned_containers K.pins ++ put_by K.job) r has_row)))
      why)
      bad)

  pub unplaced_cause : (s n : ℕ) (q : Recipe) (bytes : List ℕ) (marks : List Mark) → AreMarks marks K.state → s < 256 → Has v.told.blobs (recipe_name s n) (Some bytes) → SpellsRecipe s n bytes q
      → (u : Unplaced) (before now : ℕ) → ((i : ℕ) → u ≡ unplaced.BadRow i → IsSomeAnd (slice_get q.rows i) (IsUnplaced v.memo.tables marks)) → IsCause before now (IsPinDamage v.told.blobs K.state s n) (unplaced_fault s n u)
  unplaced_cause s n q bytes marks are below there spells unplaced.Memory before now bad = tt
  unplaced_cause s n q bytes marks are below there spells (unplaced.BadRow i) before now bad = (refl, bad_row s n i q bytes marks are below there spells (bad i refl))

  -- the ids of rows that are named
  pub all_named : (marks : List Mark) → AreMarks marks K.state → (rows : List Row) → All (λ r. has r.id (marked_ids marks) ≡ true) rows
      → (c : ℕ) → has c (set_of (map (λ q. q.id) rows)) ≡ true → has c (map id_of K.state.containers) ≡ true
  all_named marks are rows named c h = sym (named_in_state marks are c) ∙ named_of (marked_ids marks) rows (recursion_from_All (λ r. has r.id (marked_ids marks) ≡ true) rows named) c (sym (has-set_of c (map (λ q. q.id) rows)) ∙ h)

  -- a pin of the ids of rows that are named
  pub pinned_rows : (rows : List Row) → ((marks : List Mark) → AreMarkersOfSets v.memo.markers marks → All (λ r. has r.id (marked_ids marks) ≡ true) rows) → (number s n : ℕ) (ids : List ℕ) (told : ShelfTold) (pins : List Listed)
      → ids ≡ set_of (map (λ q. q.id) rows) → pins ≡ v.pins ++ record { number = number; version = n; ids = ids } ∷ [] → has number (numbers v.pins) ≡ false → told.blobs ≡ v.told.blobs
      → Keeps (record { told = told; memo = v.memo; index = v.index; pins = pins; job = v.job; pending = v.pending }) (pinned_core number s n (set_of (map (λ q. q.id) rows)) K)
  pinned_rows rows named number s n ids told pins ids_are pins_are fresh same =
      let marks = keeps.memo.markers in
      pinned_keeps number s n (set_of (map (λ q. q.id) rows)) told pins (pins_are ∙ ap (λ (l : List ℕ). v.pins ++ record { number = number; version = n; ids = l } ∷ []) ids_are) fresh
      (all_named marks.0 marks.2 rows (named marks.0 marks.1)) same

  -- a pin of the ids of a version's rows is that of the version
  pub pin_is : (number s n : ℕ) (k : KeptVersion) → pinned_core number s n (set_of (map (λ q. q.id) k.rows)) K ≡ after_pin number s n k K
  pin_is number s n k = ap (λ (cs : List Container). with_pins (K.pins ++ record { number = number; set = s; version = n; containers = cs } ∷ []) K.strays K) (pin_ids K.state.containers (map (λ q. q.id) k.rows))

  -- what is given of the version
  pub pinned_version : (s n : ℕ) (k : KeptVersion) (q : Recipe) (bytes : List ℕ) (spots : List Spot) → s < 256 → version_of K.state s n ≡ Some k → IsSome v.told.blobs → Has v.told.blobs (recipe_name s n) (Some bytes) → SpellsRecipe s n bytes q
      → spots ≡ map (spot_in v.memo.tables) q.rows → AllByRecursion (HasPlace v.memo.tables) q.rows → IsPinned K.state k q.length spots q.whole
  pinned_version s n k q bytes spots below kept tells there spells are placed =
      let says = says_version v K k s n q bytes keeps below kept tells there spells in
      record {
        bytes = spells.rules.total ∙ ap length_of says.rows;
        spots_are = are ∙ ap (map (spot_in v.memo.tables)) says.rows ∙ spots_same v.memo.tables (listed K) keeps.memo.tables k.rows
            ∙ spots_more K.state.containers (pinned_containers K.pins ++ put_by K.job) k.rows (rows_of K.state s n k (HasFp K.state.containers) keeps.core.state.rows kept);
        rows = rows_fewer K.state.containers (pinned_containers K.pins ++ put_by K.job) k.rows (rows_of K.state s n k (HasFp K.state.containers) keeps.core.state.rows kept)
            (places_rows v.memo.tables (listed K) keeps.memo.tables k.rows (subst (AllByRecursion (HasPlace v.memo.tables)) says.rows placed));
        sum = says.sum;
      }

  -- a pin lists the container of each spot of rows that have their places, where it lists their ids

  one_listed : (l : Listed) (q : Pin) → Contains K.pins q → IsListOf l q → (r : Row) → has r.id l.ids ≡ true → HasPlace v.memo.tables r → HasListed K.pins l.number (spot_in v.memo.tables r)
  one_listed l q among of r named place =
      let found = of_map id_of q.containers r.id (of.ids r.id ∙ named) in
      let lists : Lists K.pins l.number r.id found.0 = record { pin = q; among = among; has_number = of.number; listed = found.1; has_id = found.2 } in
      let table = table_there v K keeps l.number r.id found.0 lists in
      let has_row = subst (λ (o : Option Table). IsSomeAnd o (λ t. Contains t.rows (record { fp = r.fp; len = r.len }))) table place in
      let offset : (spot_in v.memo.tables r).at ≡ offset_of found.0.table.rows r.fp = ap (λ (o : Option Table). option_map_or (λ t. offset_of t.rows r.fp) o 0) table in
      (found.0, lists, omega (arith, offset, within found.0.table.rows r.fp r.len has_row))

  all_listed : (l : Listed) (q : Pin) → Contains K.pins q → IsListOf l q → (rows : List Row) → ((r : Row) → Contains rows r → has r.id l.ids ≡ true) → AllByRecursion (HasPlace v.memo.tables) rows → AllByRecursion (HasListed K.pins l.number) (map (spot_in v.memo.tables) rows)
  all_listed l q among of [] named place = tt
  all_listed l q among of (r ∷ rows) named place = (one_listed l q among of r (named r (here r rows)) place.0, all_listed l q among of rows (λ s there. named s (later r rows s there)) place.1)

  pub spots_listed : (number n : ℕ) (before : List Listed) (rows : List Row) → v.pins ≡ before ++ record { number = number; version = n; ids = set_of (map (λ q. q.id) rows) } ∷ [] → AllByRecursion (HasPlace v.memo.tables) rows
      → AllByRecursion (HasListed K.pins number) (map (spot_in v.memo.tables) rows)
  spots_listed number n before rows are placed =
      let at = pin_at before K.pins (record { number = number; version = n; ids = set_of (map (λ q. q.id) rows) }) (subst (λ (l : List Listed). AreListsOf l K.pins) are keeps.pins) in
      all_listed (record { number = number; version = n; ids = set_of (map (λ q. q.id) rows) }) at.0 at.1 at.2 rows (λ r there. has-set_of r.id (map (λ q. q.id) rows) ∙ in_map (λ (q : Row). q.id) rows r there) placed
