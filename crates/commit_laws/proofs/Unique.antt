-- Blobs open as one state at most.
use Rattle.std.proofs.Common.{◌≡◌, ℕ, zero, suc, ◌+◌, ◌-◌, ◌<◌, ◌⊎◌, inl, inr, ⊎_elim, Bool, true, false, cond, length, map, List, [], ◌∷◌, ◌++◌, Option, Some, None, refl, sym, ap, ◌∙◌, subst, arith}
use Rattle.std.specs.Prelude.{IfSome, slice_get, slice_index_or, nat_lt, flat_map}
use Rattle.std.specs.Option.{option_map_or}
use Rattle.std.specs.List.{AllByRecursion, AllZip}
use Rattle.std.proofs.lemmas.Bool.Decides.{nat_tests}
use Rattle.std.proofs.lemmas.List.{append-nil}
use Rattle.std.specs.FinMap as fin
use Rattle.vault_types.specs.declared.Fp.{Fp}
use Rattle.vault_types.specs.declared.Row.{Row}
use Rattle.vault_types.specs.declared.Recipe.{Recipe}
use Rattle.vault_types.specs.declared.Table.{Table}
use Rattle.vault_types.specs.Lists.{set_of}
use Rattle.vault_types.specs.Names.{fp, IsFp}
use Rattle.vault_types.specs.Tables.{Container, id_of, IsTable}
use Rattle.vault_types.specs.State.{State, Dataset, KeptVersion, dataset, empty_dataset, floor_of, version_in, version_of, recipe_of, length_of, all_rows, HasRecipeRules, IsDataset, IsValid}
use Rattle.vault_types.specs.Bytes.{row_bytes}
use Rattle.vault_types.specs.Blobs.{table_bytes, floor_bytes, recipe_bytes, recipe_bytes_1, recipe_bytes_2, IsVersion, IsRecipe}
use Rattle.vault_types.specs.Shelf.{Stands, Blobs, table_name, payload_name, recipe_name, floor_name, HasContainer, IsFloorBlob, IsRecipeBlob}
use Rattle.blob_parts.proofs.Fields.{blob_same}
use Rattle.container_store.proofs.TableLemmas.{has_widths}
use Rattle.container_store.proofs.TableField.{table_field}
use Rattle.recipe_store.proofs.Apart.{recipes_apart, floors_apart}
use Rattle.state_laws.proofs.Changing.{version_low, version_high}
use Rattle.commit_laws.proofs.Listing.{all_of, some_same, none_some}
use Rattle.commit_laws.proofs.Growing.{dataset_at}

-- what is spelled alike is one

floors_same : (s f g : ℕ) → IsVersion f → IsVersion g → floor_bytes s f ≡ floor_bytes s g → f ≡ g
floors_same s f g one two e = (floors_apart s f g (floor_bytes s f) (floor_bytes s g) [] (record { rules = one; spelled = refl }) (record { rules = two; spelled = refl }) (append-nil (floor_bytes s f) ∙ e)).0

tables_same : (t u : Table) → IsTable t → IsTable u → table_bytes t ≡ table_bytes u → t ≡ u
tables_same t u one two e = (blob_same table_field 0 t u [] (has_widths t one) (has_widths u two) (append-nil (table_bytes t) ∙ e)).0

recipes_same : (s v : ℕ) (r q : Recipe) → r.set ≡ s → r.version ≡ v → IsRecipe r → q.set ≡ s → q.version ≡ v → IsRecipe q → recipe_bytes r ≡ recipe_bytes q → r ≡ q
recipes_same s v r q set number rules set' number' rules' e =
    (recipes_apart s v r q (recipe_bytes r) (recipe_bytes q) [] (record { set = set; number = number; rules = rules; spelled = refl }) (record { set = set'; number = number'; rules = rules'; spelled = refl }) (append-nil (recipe_bytes r) ∙ e)).0

-- lists place by place

got_is : {X : Type 0} (xs : List X) (i : ℕ) (x d : X) → slice_get xs i ≡ Some x → (i < length xs) × (slice_index_or xs i d ≡ x)
got_is [] i x d e = absurd (none_some x e)
got_is (y ∷ xs) zero x d e = (omega arith, some_same y x e)
got_is (y ∷ xs) (suc i) x d e = let rest = got_is xs i x d e in (omega (arith, rest.0), rest.1)

got : {X : Type 0} (xs : List X) (i : ℕ) → i < length xs → (x : X) × (slice_get xs i ≡ Some x)
got [] i below = absurd (omega arith)
got (y ∷ xs) zero below = (y, refl)
got (y ∷ xs) (suc i) below = got xs i (omega arith)

all_got : {X : Type 0} (P : X → Type 0) (xs : List X) (i : ℕ) (x : X) → AllByRecursion P xs → slice_get xs i ≡ Some x → P x
all_got P [] i x all e = absurd (none_some x e)
all_got P (y ∷ xs) zero x all e = subst P (some_same y x e) all.0
all_got P (y ∷ xs) (suc i) x all e = all_got P xs i x all.1 e

zip_of : {X : Type 0} (R : X → X → Type 0) (xs ys : List X) → length xs ≡ length ys → ((i : ℕ) (x y : X) → slice_get xs i ≡ Some x → slice_get ys i ≡ Some y → R x y) → AllZip R xs ys
zip_of R [] [] same each = tt
zip_of R [] (y ∷ ys) same each = absurd (omega arith)
zip_of R (x ∷ xs) [] same each = absurd (omega arith)
zip_of R (x ∷ xs) (y ∷ ys) same each = (each zero x y refl refl, zip_of R xs ys (omega arith) (λ i. each (suc i)))

zip_same : {X : Type 0} (R : X → X → Type 0) (xs ys : List X) → ((x y : X) → R x y → x ≡ y) → AllZip R xs ys → xs ≡ ys
zip_same R [] [] f each = refl
zip_same R [] (y ∷ ys) f each = absurd each
zip_same R (x ∷ xs) [] f each = absurd each
zip_same R (x ∷ xs) (y ∷ ys) f each = ap (λ z. z ∷ xs) (f x y each.0) ∙ ap (λ zs. y ∷ zs) (zip_same R xs ys f each.1)

-- a dataset

floor_version : (d : Dataset) → IsDataset d → IsVersion d.floor
floor_version d is = at d.versions refl
  where
    at : (vs : List KeptVersion) → d.versions ≡ vs → IsVersion d.floor
    at [] none = let one = is.fresh none in (omega (arith, one), omega (arith, one))
    at (v ∷ vs) some = let n : length d.versions ≡ suc (length vs) = ap length some in (is.floor, omega (arith, is.last, is.floor))

version_got : (d : Dataset) (i : ℕ) (k : KeptVersion) → slice_get d.versions i ≡ Some k → version_in d (d.floor + i) ≡ Some k
version_got d i k e =
    let no : nat_lt (d.floor + i) d.floor ≡ false = grind (arith, nat_tests) in
    let place : d.floor + i - d.floor ≡ i = omega arith in
    ap (λ b. cond b None (slice_get d.versions (d.floor + i - d.floor))) no ∙ (ap (slice_get d.versions) place ∙ e)

-- a version of a recipe in either format

-- what a recipe in format 1 says of a version
abbrev pub plain_of : ℕ → ℕ → KeptVersion → Recipe
plain_of s v k = record { set = s; version = v; next = k.next; length = length_of k.rows; rows = k.rows; sparse = k.sparse; whole = None }

abbrev pub HasRules : KeptVersion → Type 0
HasRules k = HasRecipeRules k.next k.rows k.sparse × (IsFp k.sum × (k.rows ≡ [] → k.sum ≡ fp []))

pub with_whole : (s v : ℕ) (k : KeptVersion) → IsVersion v → HasRules k → IsRecipe (recipe_of s v k)
with_whole s v k number rules = record { version = number; total = refl; rules = rules.0; whole = rules.1.0; no_bytes = λ none. ap (λ (f : Fp). f.0) (rules.1.1 none) }

pub without_whole : (s v : ℕ) (k : KeptVersion) → IsVersion v → HasRules k → IsRecipe (plain_of s v k)
without_whole s v k number rules = record { version = number; total = refl; rules = rules.0; whole = tt; no_bytes = λ none. tt }

-- of a valid state

pub kept_rules : (S : State) → IsValid S → (s v : ℕ) (k : KeptVersion) → s < length S.datasets → version_of S s v ≡ Some k → HasRules k
kept_rules S valid s v k below is = by_test (nat_lt v (floor_of S s)) is
  where
    d : IsDataset (dataset S s)
    d = dataset_at S.datasets s below valid.datasets

    by_test : (b : Bool) → cond b None (slice_get (dataset S s).versions (v - (dataset S s).floor)) ≡ Some k → HasRules k
    by_test true e = absurd (none_some k e)
    by_test false e = (
      all_got (λ (k : KeptVersion). HasRecipeRules k.next k.rows k.sparse) (dataset S s).versions (v - (dataset S s).floor) k d.each e,
      all_got (λ (k : KeptVersion). IsFp k.sum × (k.rows ≡ [] → k.sum ≡ fp [])) (dataset S s).versions (v - (dataset S s).floor) k d.sums e,
    )

pub kept_number : (S : State) → IsValid S → (s v : ℕ) (k : KeptVersion) → s < length S.datasets → version_of S s v ≡ Some k → IsVersion v
kept_number S valid s v k below is =
    let low = version_low S s v k is in
    let high = version_high S s v k is in
    let first = (dataset_at S.datasets s below valid.datasets).floor in
    let last = (dataset_at S.datasets s below valid.datasets).last in
    (omega arith, omega arith)

-- two versions that differ at most in sums, and those are of the bytes
record IsAlike (cs ds : List Container) (k l : KeptVersion) : Type 0 where
  next : k.next ≡ l.next
  rows : k.rows ≡ l.rows
  sparse : k.sparse ≡ l.sparse
  sum : (k.sum ≡ l.sum) ⊎ ((k.sum ≡ fp (row_bytes cs k.rows)) × (l.sum ≡ fp (row_bytes ds l.rows)))

alike_same : (cs ds : List Container) → cs ≡ ds → (k l : KeptVersion) → IsAlike cs ds k l → k ≡ l
alike_same cs ds is k l alike = λ i. record { next = alike.next i; rows = alike.rows i; sparse = alike.sparse i; sum = sums i }
  where
    sums : k.sum ≡ l.sum
    sums = ⊎_elim (λ same. same) (λ both. both.0 ∙ ap (λ (x : List Container). fp (row_bytes x k.rows)) is ∙ ap (λ (x : List Row). fp (row_bytes ds x)) alike.rows ∙ sym both.1) alike.sum

blob_alike : (T U : State) (s v : ℕ) (k l : KeptVersion) (b : Option (List ℕ)) → IsVersion v → HasRules k → HasRules l → version_of T s v ≡ Some k → version_of U s v ≡ Some l
    → IsRecipeBlob T s v k b → IsRecipeBlob U s v l b → IsAlike T.containers U.containers k l
blob_alike T U s v k l b number one two is there (inl first) (inl second) =
    let e : recipe_of s v k ≡ recipe_of s v l = recipes_same s v (recipe_of s v k) (recipe_of s v l) refl refl (with_whole s v k number one) refl refl (with_whole s v l number two)
    (some_same (recipe_bytes (recipe_of s v k)) (recipe_bytes (recipe_of s v l)) (sym first ∙ second)) in
    record { next = ap (λ (r : Recipe). r.next) e; rows = ap (λ (r : Recipe). r.rows) e; sparse = ap (λ (r : Recipe). r.sparse) e; sum = inl (some_same k.sum l.sum (ap (λ (r : Recipe). r.whole) e)) }
blob_alike T U s v k l b number one two is there (inl first) (inr second) =
    let e : recipe_of s v k ≡ plain_of s v l = recipes_same s v (recipe_of s v k) (plain_of s v l) refl refl (with_whole s v k number one) refl refl (without_whole s v l number two)
    (some_same (recipe_bytes (recipe_of s v k)) (recipe_bytes (plain_of s v l)) (sym first ∙ second.0)) in
    absurd (none_some k.sum (sym (ap (λ (r : Recipe). r.whole) e)))
blob_alike T U s v k l b number one two is there (inr first) (inl second) =
    let e : plain_of s v k ≡ recipe_of s v l = recipes_same s v (plain_of s v k) (recipe_of s v l) refl refl (without_whole s v k number one) refl refl (with_whole s v l number two)
    (some_same (recipe_bytes (plain_of s v k)) (recipe_bytes (recipe_of s v l)) (sym first.0 ∙ second)) in
    absurd (none_some l.sum (ap (λ (r : Recipe). r.whole) e))
blob_alike T U s v k l b number one two is there (inr first) (inr second) =
    let e : plain_of s v k ≡ plain_of s v l = recipes_same s v (plain_of s v k) (plain_of s v l) refl refl (without_whole s v k number one) refl refl (without_whole s v l number two)
    (some_same (recipe_bytes (plain_of s v k)) (recipe_bytes (plain_of s v l)) (sym first.0 ∙ second.0)) in
    record {
      next = ap (λ (r : Recipe). r.next) e;
      rows = ap (λ (r : Recipe). r.rows) e;
      sparse = ap (λ (r : Recipe). r.sparse) e;
      sum = inr (
        first.1 ∙ ap (λ (o : Option KeptVersion). fp (option_map_or (λ k. row_bytes T.containers k.rows) o [])) is,
        second.1 ∙ ap (λ (o : Option KeptVersion). fp (option_map_or (λ k. row_bytes U.containers k.rows) o [])) there,
      );
    }

blob_some : (T : State) (s v : ℕ) (k : KeptVersion) → IsRecipeBlob T s v k None → ⊥
blob_some T s v k (inl e) = none_some (recipe_bytes_2 k.sum (recipe_of s v k)) e
blob_some T s v k (inr e) = none_some (recipe_bytes_1 (recipe_of s v k)) e.0

floor_alike : (s f g : ℕ) (b : Option (List ℕ)) → IsVersion f → IsVersion g → IsFloorBlob s f b → IsFloorBlob s g b → f ≡ g
floor_alike s f g b one two (inl first) (inl second) = floors_same s f g one two (some_same (floor_bytes s f) (floor_bytes s g) (sym first ∙ second))
floor_alike s f g b one two (inl first) (inr second) = absurd (none_some (floor_bytes s f) (sym second.1 ∙ first))
floor_alike s f g b one two (inr first) (inl second) = absurd (none_some (floor_bytes s g) (sym first.1 ∙ second))
floor_alike s f g b one two (inr first) (inr second) = first.0 ∙ sym second.0

equal : (a b : ℕ) → (a < b → ⊥) → (b < a → ⊥) → a ≡ b
equal a b f g = by_test (nat_lt a b) (nat_lt b a) refl refl
  where
    by_test : (x y : Bool) → nat_lt a b ≡ x → nat_lt b a ≡ y → a ≡ b
    by_test true y e h = let less : a < b = grind (arith, nat_tests) in absurd (f less)
    by_test false true e h = let less : b < a = grind (arith, nat_tests) in absurd (g less)
    by_test false false e h = grind (arith, nat_tests)

-- what blobs that stand for a state have of it

-- the blobs stand for the valid state
pub record StandsFor (m : Blobs) (T : State) : Type 0 where
  pub stands : Stands m T
  pub valid : IsValid T

module _ (m : Blobs) (T : State) (opens : StandsFor m T) where
  is_dataset : (s : ℕ) → s < length T.datasets → IsDataset (dataset T s)
  is_dataset s below = dataset_at T.datasets s below opens.valid.datasets

  has_rules : (s i : ℕ) (k : KeptVersion) → s < length T.datasets → slice_get (dataset T s).versions i ≡ Some k → HasRules k
  has_rules s i k below e = (
    all_got (λ (k : KeptVersion). HasRecipeRules k.next k.rows k.sparse) (dataset T s).versions i k (is_dataset s below).each e,
    all_got (λ (k : KeptVersion). IsFp k.sum × (k.rows ≡ [] → k.sum ≡ fp [])) (dataset T s).versions i k (is_dataset s below).sums e,
  )

  has_blob : (s i : ℕ) (k : KeptVersion) → s < length T.datasets → slice_get (dataset T s).versions i ≡ Some k → IsRecipeBlob T s (floor_of T s + i) k (fin.get m (recipe_name s (floor_of T s + i)))
  has_blob s i k below e = subst (λ (o : Option KeptVersion). IfSome o (λ k. IsRecipeBlob T s (floor_of T s + i) k (fin.get m (recipe_name s (floor_of T s + i))))) (version_got (dataset T s) i k e) (opens.stands.recipes s (floor_of T s + i) below)

  has_number : (s i : ℕ) (k : KeptVersion) → s < length T.datasets → slice_get (dataset T s).versions i ≡ Some k → IsVersion (floor_of T s + i)
  has_number s i k below e =
      let is = is_dataset s below in
      let low = is.floor in
      let last = is.last in
      let place = (got_is (dataset T s).versions i k k e).0 in
      (omega arith, omega arith)

module _ (m : Blobs) (T U : State) (one : StandsFor m T) (two : StandsFor m U) where
  sets_alike : length T.datasets ≡ length U.datasets
  sets_alike = one.valid.sets ∙ sym two.valid.sets

  floors_are : (s : ℕ) → s < length T.datasets → floor_of T s ≡ floor_of U s
  floors_are s below = floor_alike s (floor_of T s) (floor_of U s) (fin.get m (floor_name s))
      (floor_version (dataset T s) (is_dataset m T one s below)) (floor_version (dataset U s) (is_dataset m U two s (omega (arith, below, sets_alike))))
      (one.stands.floors s below) (two.stands.floors s (omega (arith, below, sets_alike)))

  -- what U keeps T keeps
  no_more : (s : ℕ) → s < length T.datasets → length (dataset T s).versions < length (dataset U s).versions → ⊥
  no_more s below more =
      let i = length (dataset T s).versions in
      let in_two : s < length U.datasets = omega (arith, below, sets_alike) in
      let l = got (dataset U s).versions i more in
      let low = (is_dataset m T one s below).floor in
      let same = floors_are s below in
      let number = has_number m U two s i l.0 in_two l.1 in
      let there = has_blob m U two s i l.0 in_two l.1 in
      blob_some U s (floor_of U s + i) l.0 (subst (λ (b : Option (List ℕ)). IsRecipeBlob U s (floor_of U s + i) l.0 b) (one.stands.newest s (floor_of U s + i) below (omega arith) number.1) there)

module _ (m : Blobs) (T U : State) (one : StandsFor m T) (two : StandsFor m U) where
  lengths_are : (s : ℕ) → s < length T.datasets → length (dataset T s).versions ≡ length (dataset U s).versions
  lengths_are s below = equal (length (dataset T s).versions) (length (dataset U s).versions) (no_more m T U one two s below) (no_more m U T two one s (omega (arith, below, sets_alike m T U one two)))

  abbrev AreAlike : Dataset → Dataset → Type 0
  AreAlike d e = (d.floor ≡ e.floor) × AllZip (IsAlike T.containers U.containers) d.versions e.versions

  versions_are : (s : ℕ) → s < length T.datasets → AreAlike (dataset T s) (dataset U s)
  versions_are s below = (
    floors_are m T U one two s below,
    zip_of (IsAlike T.containers U.containers) (dataset T s).versions (dataset U s).versions (lengths_are s below) each,
  )
    where
      in_two : s < length U.datasets
      in_two = omega (arith, below, sets_alike m T U one two)

      each : (i : ℕ) (k l : KeptVersion) → slice_get (dataset T s).versions i ≡ Some k → slice_get (dataset U s).versions i ≡ Some l → IsAlike T.containers U.containers k l
      each i k l first second =
          let same = floors_are m T U one two s below in
          blob_alike T U s (floor_of T s + i) k l (fin.get m (recipe_name s (floor_of T s + i)))
          (has_number m T one s i k below first) (has_rules m T one s i k below first) (has_rules m U two s i l in_two second)
          (version_got (dataset T s) i k first)
          (ap (λ (f : ℕ). version_of U s (f + i)) same ∙ version_got (dataset U s) i l second)
          (has_blob m T one s i k below first)
          (subst (λ (f : ℕ). IsRecipeBlob U s (f + i) l (fin.get m (recipe_name s (f + i)))) (sym same) (has_blob m U two s i l in_two second))

  datasets_are : AllZip AreAlike T.datasets U.datasets
  datasets_are = zip_of AreAlike T.datasets U.datasets (sets_alike m T U one two) (λ s d e first second.
      let here = got_is T.datasets s d empty_dataset first in
      let there = got_is U.datasets s e empty_dataset second in
      subst (λ (d : Dataset). AreAlike d e) here.1 (subst (λ (e : Dataset). AreAlike (dataset T s) e) there.1 (versions_are s here.0)))

  rows_alike : (vs ws : List KeptVersion) → AllZip (IsAlike T.containers U.containers) vs ws → flat_map (λ (k : KeptVersion). k.rows) vs ≡ flat_map (λ (k : KeptVersion). k.rows) ws
  rows_alike [] [] each = refl
  rows_alike [] (w ∷ ws) each = absurd each
  rows_alike (v ∷ vs) [] each = absurd each
  rows_alike (v ∷ vs) (w ∷ ws) each = ap (λ (x : List Row). x ++ flat_map (λ (k : KeptVersion). k.rows) vs) each.0.rows ∙ ap (λ (x : List Row). w.rows ++ x) (rows_alike vs ws each.1)

  all_rows_alike : (ds es : List Dataset) → AllZip AreAlike ds es → all_rows ds ≡ all_rows es
  all_rows_alike [] [] each = refl
  all_rows_alike [] (e ∷ es) each = absurd each
  all_rows_alike (d ∷ ds) [] each = absurd each
  all_rows_alike (d ∷ ds) (e ∷ es) each = ap (λ (x : List Row). x ++ all_rows ds) (rows_alike d.versions e.versions each.0.1) ∙ ap (λ (x : List Row). flat_map (λ (k : KeptVersion). k.rows) e.versions ++ x) (all_rows_alike ds es each.1)

-- containers

container_same : (m : Blobs) (c d : Container) → c.table.id ≡ d.table.id → IsTable c.table → IsTable d.table → HasContainer m c → HasContainer m d → c ≡ d
container_same m c d id one two first second =
    let table : c.table ≡ d.table = tables_same c.table d.table one two (some_same (table_bytes c.table) (table_bytes d.table) (sym first.table ∙ ap (λ (i : ℕ). fin.get m (table_name i)) id ∙ second.table)) in
    let payload : c.payload ≡ d.payload = sym first.payload ∙ ap (λ (i : ℕ). fin.get m (payload_name i)) id ∙ second.payload in
    λ i. record { table = table i; payload = payload i }

heads : (a b : ℕ) (xs ys : List ℕ) → a ∷ xs ≡ b ∷ ys → (a ≡ b) × (xs ≡ ys)
heads a b xs ys e = (cc, cc)

containers_same : (m : Blobs) (cs ds : List Container) → map id_of cs ≡ map id_of ds → AllByRecursion (λ c. IsTable c.table) cs → AllByRecursion (λ c. IsTable c.table) ds
    → AllByRecursion (HasContainer m) cs → AllByRecursion (HasContainer m) ds → cs ≡ ds
containers_same m [] [] ids one two first second = refl
containers_same m [] (d ∷ ds) ids one two first second = absurd (let clash : 0 ≡ suc (length (map id_of ds)) = ap length ids in omega arith)
containers_same m (c ∷ cs) [] ids one two first second = absurd (let clash : suc (length (map id_of cs)) ≡ 0 = ap length ids in omega arith)
containers_same m (c ∷ cs) (d ∷ ds) ids one two first second =
    let both = heads c.table.id d.table.id (map id_of cs) (map id_of ds) ids in
    ap (λ (x : Container). x ∷ cs) (container_same m c d both.0 one.0 two.0 first.0 second.0)
    ∙ ap (λ (x : List Container). d ∷ x) (containers_same m cs ds both.1 one.1 two.1 first.1 second.1)

-- blobs stand for one valid state at most
pub stands_unique : (m : Blobs) (T U : State) → StandsFor m T → StandsFor m U → T ≡ U
stands_unique m T U one two = λ i. record { datasets = datasets i; containers = containers i }
  where
    alike : AllZip (AreAlike m T U one two) T.datasets U.datasets
    alike = datasets_are m T U one two

    ids : map id_of T.containers ≡ map id_of U.containers
    ids = one.valid.containers ∙ ap (λ (rows : List Row). set_of (map (λ r. r.id) rows)) (all_rows_alike m T U one two T.datasets U.datasets alike) ∙ sym two.valid.containers

    containers : T.containers ≡ U.containers
    containers = containers_same m T.containers U.containers ids one.valid.tables two.valid.tables
        (all_of (HasContainer m) T.containers one.stands.containers) (all_of (HasContainer m) U.containers two.stands.containers)

    datasets : T.datasets ≡ U.datasets
    datasets = zip_same (AreAlike m T U one two) T.datasets U.datasets (λ d e each.
        let versions = zip_same (IsAlike T.containers U.containers) d.versions e.versions (alike_same T.containers U.containers containers) each.1 in
        λ i. record { floor = each.0 i; versions = versions i }) alike
