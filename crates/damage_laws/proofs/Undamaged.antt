-- Blobs that open as a state have no place that is damaged first.
use Rattle.std.proofs.Common.{◌≡◌, ⊎_elim, ℕ, zero, suc, ◌+◌, ◌-◌, ◌<◌, ◌≤◌, Bool, true, false, cond, List, [], ◌∷◌, length, Option, Some, None, refl, sym, ap, subst, ◌∙◌, arith}
use Rattle.std.specs.Prelude.{Contains, IsSome, IfSome, IsSomeAnd, MatchOption, slice_get, slice_index_or, nat_lt, ◌==◌}
use Rattle.std.specs.List.{AllByRecursion}
use Rattle.std.specs.FinMap as fin
use Rattle.std.proofs.lemmas.Bool.{cases_lt}
use Rattle.std.proofs.lemmas.Bool.Decides.{nat_tests}
use Rattle.vault_types.specs.declared.Kind.{Kind}
use Rattle.vault_types.specs.declared.Kind.TheVariants as kind
use Rattle.vault_types.specs.declared.Why.{Why}
use Rattle.vault_types.specs.declared.Why.TheVariants as why
use Rattle.vault_types.specs.declared.Row.{Row}
use Rattle.vault_types.specs.declared.Table.{Table}
use Rattle.vault_types.specs.declared.Recipe.{Recipe}
use Rattle.vault_types.specs.Lists.{EachNext}
use Rattle.vault_types.specs.Tables.{Container, IsTable}
use Rattle.vault_types.specs.State.{State, Dataset, KeptVersion, empty_dataset, dataset, version_in, version_of, floor_of, latest_of, container_in, length_of, recipe_of, IsDataset}
use Rattle.vault_types.specs.Bytes.{HasRow}
use Rattle.vault_types.specs.Blobs.{floor_bytes, recipe_bytes_1, recipe_bytes_2, table_bytes, IsVersion, SpellsFloor, SpellsRecipe, SpellsTable}
use Rattle.vault_types.specs.Shelf.{Blobs, floor_name, recipe_name, table_name, IsRecipeBlob}
use Rattle.vault_types.specs.BlobDamage.{IsFloorIn, IsFloorWhy, IsTableWhy}
use Rattle.state_laws.proofs.Growing.{rows_of}
use Rattle.vault_types.specs.FirstDamage.{Opens, ReadsRecipe, ReadsTable, IsRecipeDue, IsRowAt, IsNamedByRow, IsInTable, IsLower, IsRecipeFirst, IsFirstDamage}
use Rattle.state_laws.proofs.Members.{here, later}
use Rattle.damage_laws.proofs.Elements.{some_at, at_below, in_place, all_in}
use Rattle.damage_laws.proofs.Unique.{floor_unique, recipe_unique}

all_index : {X : Type 0} (P : X → Type 0) (xs : List X) (i : ℕ) (d : X) → AllByRecursion P xs → i < length xs → P (slice_index_or xs i d)
all_index P [] i d all below = absurd (omega arith)
all_index P (x ∷ xs) zero d all below = all.0
all_index P (x ∷ xs) (suc i) d all below = all_index P xs i d all.1 (omega arith)

next_at : {X : Type 0} (R : X → X → Type 0) (xs : List X) (i : ℕ) (x y : X) → EachNext R xs → slice_get xs i ≡ Some x → slice_get xs (suc i) ≡ Some y → R x y
next_at {X} R [] i x y all is next = absurd (let clash : ◌≡◌ {A = Option X} None (Some x) = is in cc)
next_at {X} R (p ∷ []) i x y all is next = absurd (let clash : ◌≡◌ {A = Option X} None (Some y) = next in cc)
next_at R (p ∷ o ∷ xs) zero x y all is next = let one : p ≡ x = cc in let two : o ≡ y = cc in subst (λ z. R z y) one (subst (λ z. R p z) two all.0)
next_at R (p ∷ o ∷ xs) (suc i) x y all is next = next_at R (o ∷ xs) i x y all.1 is next

there_not : {X : Type 0} (o : Option X) (x : X) → o ≡ Some x → o ≡ None → ⊥
there_not {X} o x is none = let clash : ◌≡◌ {A = Option X} (Some x) None = sym is ∙ none in cc

there_some : {X : Type 0} (o : Option X) → o ≡ None → IsSome o → ⊥
there_some {X} None none some = let clash : false ≡ true = some in cc
there_some {X} (Some x) none some = let clash : ◌≡◌ {A = Option X} (Some x) None = none in cc

same_bytes : (o : Option (List ℕ)) (a b : List ℕ) → o ≡ Some a → o ≡ Some b → a ≡ b
same_bytes o a b one two = let found : ◌≡◌ {A = Option (List ℕ)} (Some a) (Some b) = sym one ∙ two in cc

found_container : (cs : List Container) (id : ℕ) (c : Container) → container_in cs id ≡ Some c → Contains cs c × (c.table.id ≡ id)
found_container [] id c is = absurd (let clash : ◌≡◌ {A = Option Container} None (Some c) = is in cc)
found_container (d ∷ cs) id c is = by_test (λ h. found_container cs id c h) (d.table.id == id) refl is
  where
    by_test : (container_in cs id ≡ Some c → Contains cs c × (c.table.id ≡ id)) → (b : Bool) → (d.table.id == id) ≡ b → cond b (Some d) (container_in cs id) ≡ Some c → Contains (d ∷ cs) c × (c.table.id ≡ id)
    by_test rest true e h =
        let same : d ≡ c = cc in
        let number : d.table.id ≡ id = grind (arith, nat_tests) in
        (subst (λ (x : Container). Contains (d ∷ cs) x) same (here d cs), subst (λ (x : Container). x.table.id ≡ id) same number)
    by_test rest false e h = let found = rest h in (later d cs c found.0, found.1)

version_parts : (d : Dataset) (v : ℕ) (k : KeptVersion) → version_in d v ≡ Some k → (d.floor ≤ v) × (slice_get d.versions (v - d.floor) ≡ Some k)
version_parts d v k is = by_test (nat_lt v d.floor) refl is
  where
    by_test : (b : Bool) → nat_lt v d.floor ≡ b → cond b None (slice_get d.versions (v - d.floor)) ≡ Some k → (d.floor ≤ v) × (slice_get d.versions (v - d.floor) ≡ Some k)
    by_test true t e = absurd (let clash : ◌≡◌ {A = Option KeptVersion} None (Some k) = e in cc)
    by_test false t e = (grind (arith, nat_tests), e)

version_there : (d : Dataset) (v : ℕ) → d.floor ≤ v → v < d.floor + length d.versions → (k : KeptVersion) × (version_in d v ≡ Some k)
version_there d v from below =
    let found = some_at d.versions (v - d.floor) (omega (arith, from, below)) in
    let test : nat_lt v d.floor ≡ false = grind (arith, nat_tests, from) in
    (found.0, ap (λ b. cond b None (slice_get d.versions (v - d.floor))) test ∙ found.1)

module _ (m : Blobs) (S : State) (opens : Opens m S) where
  in_sets : (s : ℕ) → s < 256 → s < length S.datasets
  in_sets s low = let sets = opens.valid.sets in omega (arith, sets, low)

  is_dataset : (s : ℕ) → s < 256 → IsDataset (dataset S s)
  is_dataset s low = all_index IsDataset S.datasets s empty_dataset opens.valid.datasets (in_sets s low)

  floor_in_range : (d : Dataset) → IsDataset d → IsVersion d.floor
  floor_in_range d is = ⊎_elim
      (λ some. (is.floor, let high = is.last in omega (arith, high, some)))
      (λ none. let one = is.fresh (no_versions d.versions none) in (is.floor, omega (arith, one)))
      (cases_lt 0 (length d.versions))
    where
      no_versions : (ks : List KeptVersion) → length ks ≤ 0 → ks ≡ []
      no_versions [] none = refl
      no_versions (k ∷ ks) none = absurd (omega arith)

  floor_read : (s : ℕ) → s < 256 → IsFloorIn (Some m) s (floor_of S s)
  floor_read s low = ⊎_elim
      (λ (is : fin.get m (floor_name s) ≡ Some (floor_bytes s (floor_of S s))). (Some (floor_bytes s (floor_of S s)), is, record { rules = floor_in_range (dataset S s) (is_dataset s low); spelled = refl }))
      (λ (none : (floor_of S s ≡ 1) × (fin.get m (floor_name s) ≡ None)). (None, none.1, none.0))
      (opens.stands.floors s (in_sets s low))

  -- a version that is due is kept
  due_kept : (s v : ℕ) → IsRecipeDue m s v → (k : KeptVersion) × (version_of S s v ≡ Some k)
  due_kept s v due =
      let d = dataset S s in
      let is = is_dataset s due.set in
      let same = floor_unique m s due.floor d.floor due.reads (floor_read s due.set) in
      let from : d.floor ≤ v = (let low = due.from in omega (arith, low, same)) in
      version_there d v from (⊎_elim
      (λ here. ⊎_elim
      (λ some. omega (arith, here.0, same, some))
      (λ none. let one = is.fresh (no_versions d.versions none) in absurd (omega (arith, one, here.1, same)))
      (cases_lt 0 (length d.versions)))
      (λ listed. ⊎_elim
      (λ late. absurd (there_some (fin.get m (recipe_name s listed.0)) (opens.stands.newest s listed.0 (in_sets s due.set) late listed.2) listed.3))
      (λ within. let up = listed.1 in let positive = is.floor in omega (arith, within, up, positive))
      (cases_lt (latest_of S s) listed.0))
      due.due)
    where
      no_versions : (ks : List KeptVersion) → length ks ≤ 0 → ks ≡ []
      no_versions [] none = refl
      no_versions (k ∷ ks) none = absurd (omega arith)

  -- its recipe is there, and says what the version does
  kept_read : (s v : ℕ) (k : KeptVersion) → s < 256 → version_of S s v ≡ Some k → (r : Recipe) × ReadsRecipe (Some m) s v r × (r.next ≡ k.next) × (r.rows ≡ k.rows)
  kept_read s v k low is =
      let d = dataset S s in
      let parts = version_parts d v k is in
      let own = in_place d.versions (v - d.floor) k parts.1 in
      let valid = is_dataset s low in
      let below = at_below d.versions (v - d.floor) k parts.1 in
      let from = parts.0 in
      let positive = valid.floor in
      let high = valid.last in
      let number : IsVersion v = (omega (arith, from, positive), omega (arith, from, below, high)) in
      let rules = all_in (λ j. _) d.versions k valid.each own in
      let sums = all_in (λ j. _) d.versions k valid.sums own in
      let blob : IsRecipeBlob S s v k (fin.get m (recipe_name s v)) = subst (λ (o : Option KeptVersion). IfSome o (λ j. IsRecipeBlob S s v j (fin.get m (recipe_name s v)))) is (opens.stands.recipes s v (in_sets s low)) in
      ⊎_elim
      (λ (two : fin.get m (recipe_name s v) ≡ Some (recipe_bytes_2 k.sum (recipe_of s v k))). (
        recipe_of s v k,
        (
          recipe_bytes_2 k.sum (recipe_of s v k),
          two,
          record { set = refl; number = refl; rules = record { version = number; total = refl; rules = rules; whole = sums.0; no_bytes = λ none i. (sums.1 none i).0 }; spelled = refl },
        ),
        refl,
        refl,
      ))
      (λ one. (
        record { set = s; version = v; next = k.next; length = length_of k.rows; rows = k.rows; sparse = k.sparse; whole = None },
        (
          recipe_bytes_1 (recipe_of s v k),
          one.0,
          record { set = refl; number = refl; rules = record { version = number; total = refl; rules = rules; whole = tt; no_bytes = λ none. tt }; spelled = refl },
        ),
        refl,
        refl,
      ))
      blob

  -- a recipe that is due is that of a kept version
  due_read : (s v : ℕ) (r : Recipe) → IsRecipeDue m s v → ReadsRecipe (Some m) s v r → (k : KeptVersion) × (version_of S s v ≡ Some k) × (r.next ≡ k.next) × (r.rows ≡ k.rows)
  due_read s v r due reads =
      let k = due_kept s v due in
      let q = kept_read s v k.0 due.set k.1 in
      let same = recipe_unique m s v r q.0 reads q.1 in
      (k.0, k.1, ap (λ (x : Recipe). x.next) same ∙ q.2, ap (λ (x : Recipe). x.rows) same ∙ q.3)

  row_in_table : (s v i : ℕ) (row : Row) → IsRowAt m s v i row → IsInTable m row
  row_in_table s v i row is =
      let k = due_read s v is.recipe is.due is.reads in
      let own : Contains k.0.rows row = in_place k.0.rows i row (ap (λ (rows : List Row). slice_get rows i) (sym k.3) ∙ is.at) in
      by_container (container_in S.containers row.id) refl (all_in (HasRow S.containers) k.0.rows row (rows_of S s v k.0 (HasRow S.containers) opens.rows k.1) own)
    where
      by_container : (o : Option Container) → container_in S.containers row.id ≡ o → IsSomeAnd o (λ c. Contains c.table.rows (record { fp = row.fp; len = row.len })) → IsInTable m row
      by_container None is stands = absurd stands
      by_container (Some c) is stands =
          let found = found_container S.containers row.id c is in
          let has = opens.stands.containers c found.0 in
          (c.table, (table_bytes c.table, ap (λ (id : ℕ). fin.get m (table_name id)) (sym found.1) ∙ has.table, record { number = found.1; rules = all_in (λ (d : Container). IsTable d.table) S.containers c opens.valid.tables found.0; spelled = refl }), stands)

  named_read : (c : ℕ) → IsNamedByRow m c → (t : Table) × ReadsTable (Some m) c t
  named_read c named =
      let t = row_in_table named.set named.version named.place named.row named.is_row in
      (t.0, subst (λ (id : ℕ). ReadsTable (Some m) id t.0) named.is t.1)

  no_floor : (s : ℕ) (w : Why) → s < 256 → IsFloorWhy (Some m) s w → ⊥
  no_floor s why.Spelling low bad = by_found (floor_read s low).0 (floor_read s low).1 (floor_read s low).2
    where
      by_found : (o : Option (List ℕ)) → fin.get m (floor_name s) ≡ o → MatchOption o (floor_of S s ≡ 1) (λ bytes. SpellsFloor s bytes (floor_of S s)) → ⊥
      by_found None is one = there_not (fin.get m (floor_name s)) bad.0 bad.1 is
      by_found (Some bytes) is spells = bad.2 (floor_of S s) (subst (λ (b : List ℕ). SpellsFloor s b (floor_of S s)) (same_bytes (fin.get m (floor_name s)) bytes bad.0 is bad.1) spells)
  no_floor s why.Absent low bad = bad
  no_floor s (why.Lower before found) low bad = bad
  no_floor s (why.BadRow i) low bad = bad
  no_floor s (why.Length want found) low bad = bad
  no_floor s (why.Sum want found) low bad = bad
  no_floor s (why.Whole want found) low bad = bad
  no_floor s (why.Chunk row want found) low bad = bad

  no_lower : (s v before found : ℕ) → IsRecipeDue m s v → IsLower m s v before found → ⊥
  no_lower s v before found due bad =
      let first = due_read s bad.0 bad.1 bad.4 bad.5 in
      let second = due_read s v bad.2 due bad.6 in
      let d = dataset S s in
      let one = version_parts d bad.0 first.0 first.1 in
      let two = version_parts d v second.0 second.1 in
      let from = one.0 in
      let next = bad.3 in
      let step : suc (bad.0 - d.floor) ≡ v - d.floor = omega (arith, from, next) in
      let up = next_at (λ j k. j.next ≤ k.next) d.versions (bad.0 - d.floor) first.0 second.0 (is_dataset s due.set).rising one.1 (ap (λ (i : ℕ). slice_get d.versions i) step ∙ two.1) in
      omega (arith, up, first.2, second.2, bad.7, bad.8, bad.9)

  no_recipe : (s v : ℕ) (w : Why) → IsRecipeDue m s v → IsRecipeFirst m s v w → ⊥
  no_recipe s v why.Absent due bad = let k = due_kept s v due in let r = kept_read s v k.0 due.set k.1 in there_not (fin.get m (recipe_name s v)) r.1.0 r.1.1 bad.2
  no_recipe s v why.Spelling due bad =
      let k = due_kept s v due in
      let r = kept_read s v k.0 due.set k.1 in
      bad.2.2 r.0 (subst (λ (b : List ℕ). SpellsRecipe s v b r.0) (same_bytes (fin.get m (recipe_name s v)) r.1.0 bad.2.0 r.1.1 bad.2.1) r.1.2)
  no_recipe s v (why.Lower before found) due bad = no_lower s v before found due bad.2
  no_recipe s v (why.BadRow i) due bad = bad.2.2 (row_in_table s v i bad.2.0 bad.2.1)
  no_recipe s v (why.Length want found) due bad = bad.2
  no_recipe s v (why.Sum want found) due bad = bad.2
  no_recipe s v (why.Whole want found) due bad = bad.2
  no_recipe s v (why.Chunk row want found) due bad = bad.2

  no_table : (id : ℕ) (w : Why) → IsNamedByRow m id → IsTableWhy (Some m) id w → ⊥
  no_table id why.Absent named bad = let t = named_read id named in there_not (fin.get m (table_name id)) t.1.0 t.1.1 bad
  no_table id why.Spelling named bad =
      let t = named_read id named in
      bad.2 t.0 (subst (λ (b : List ℕ). SpellsTable id b t.0) (same_bytes (fin.get m (table_name id)) t.1.0 bad.0 t.1.1 bad.1) t.1.2)
  no_table id (why.Lower before found) named bad = bad
  no_table id (why.BadRow i) named bad = bad
  no_table id (why.Length want found) named bad = bad
  no_table id (why.Sum want found) named bad = bad
  no_table id (why.Whole want found) named bad = bad
  no_table id (why.Chunk row want found) named bad = bad

  pub undamaged : (k : Kind) (n : ℕ) (w : Why) → IsFirstDamage m k n w → ⊥
  undamaged kind.Floor n w bad = no_floor n w bad.0 bad.2
  undamaged kind.Recipe n w bad = no_recipe bad.0 bad.1 w bad.3 bad.4
  undamaged kind.Table n w bad = no_table n w bad.2 bad.3
  undamaged kind.Payload n w bad = bad
