-- What is read of a shelf, step by step.
use Rattle.std.proofs.Common.{◌≡◌, ⊎_elim, ℕ, zero, suc, ◌+◌, ◌-◌, ◌*◌, ◌^◌, ◌<◌, ◌≤◌, Bool, true, false, cond, ◌||◌, List, [], ◌∷◌, ◌++◌, map, length, take, get_or, Option, Some, None, Result, Ok, Err, refl, sym, ap, subst, ◌∙◌, arith, length-append}
use Rattle.std.specs.Prelude.{Contains, IfSome, IsErrAnd, find, ◌==◌, option_map, unwrap_or, slice_get}
use Rattle.std.specs.Option.{option_map_or}
use Rattle.std.specs.List.{AllByRecursion, last_or}
use Rattle.std.specs.Map.{lookup}
use Rattle.std.specs.Ordering.{nat_cmp}
use Rattle.std.specs.BTreeMap.{is_at}
use Rattle.std.proofs.lemmas.Bool.Decides.{nat_tests}
use Rattle.std.proofs.lemmas.List.{append_assoc, append-nil, map-append, take_more}
use Rattle.std.proofs.lemmas.List.Folds.{list_any-append}
use Rattle.std.proofs.lemmas.List.Elements.{Contains-append_cases, Contains-get_or}
use Rattle.std.proofs.lemmas.List.Concat.{flat_map-append}
use Rattle.vault_types.specs.declared.Fp.{Fp}
use Rattle.vault_types.specs.declared.Kind.{Kind}
use Rattle.vault_types.specs.declared.Kind.TheVariants as kind
use Rattle.vault_types.specs.declared.Why.{Why}
use Rattle.vault_types.specs.declared.Why.TheVariants as why
use Rattle.vault_types.specs.declared.Fault.{Fault}
use Rattle.vault_types.specs.declared.Fault.TheVariants as fault
use Rattle.vault_types.specs.declared.Recipe.{Recipe}
use Rattle.vault_types.specs.declared.Table.{Table}
use Rattle.vault_types.specs.Lists.{EachNext, IsAscending}
use Rattle.vault_types.specs.Shelf.{Blobs}
use Rattle.vault_traits.specs.Counts.{Rose}
use Rattle.vault_traits.specs.Causes.{IsCause, HasCauses}
use Rattle.vault_types.specs.BlobDamage.{IsTableDamage, IsTableWhy, IsFloorIn, IsFloorDamage, IsFloorWhy}
use Rattle.fp_index.specs.Index.{IsIndexOf}
use Rattle.keeper_catalog.specs.declared.SetInfo.{SetInfo}
use Rattle.keeper_catalog.specs.Catalog.{table_at}
use Rattle.keeper_open.specs.declared.notes.Chunk.{Chunk}
use Rattle.keeper_open.specs.declared.notes.RowPlace.{RowPlace}
use Rattle.keeper_open.specs.declared.notes.Notes.{Notes}
use Rattle.vault_types.specs.FirstDamage.{ReadsRecipe, ReadsTable, IsDueFrom, FloorsBefore, IsOpeningWhy, IsDamageOf}
use Rattle.keeper_open.specs.Reading.{SetRead, AreFloors, AreRecipes, AreReadInOrder, IsLastDue, IsSetRead, IsVersionDamage, IsVersionWhy, IsSetDamage, AreSets, AreReadTables, last_next, last_sparse, number_of, AreBelow, NotesMore, AreNoted, all_recipes, same_chunk, has_chunk, some_has, left_of, IsFirstTable}
use Rattle.damage_laws.proofs.Elements.{all_in}
use Rattle.keeper_open.proofs.Noting.{cons_cases, first_in, later_in, none_in}

-- causes

rose_from : (old before now : ℕ) → old ≤ before → Rose before now → Rose old now
rose_from old before now later rose = grind arith

cause_from : (old before now : ℕ) (P Q : Kind → ℕ → Why → Type 0) → old ≤ before → ((k : Kind) (n : ℕ) (w : Why) → P k n w → Q k n w) → (f : Fault) → IsCause before now P f → IsCause old now Q f
cause_from old before now P Q up goes fault.Memory h = tt
cause_from old before now P Q up goes (fault.StoreFault n) h = (h.0, rose_from old before now up h.1)
cause_from old before now P Q up goes (fault.Damaged k n w) h = goes k n w h
cause_from old before now P Q up goes fault.Usage h = h
cause_from old before now P Q up goes (fault.NotKept s v floor latest) h = h
cause_from old before now P Q up goes (fault.ReadFault n) h = h
cause_from old before now P Q up goes (fault.WriteFault n) h = h
cause_from old before now P Q up goes (fault.TooMany limit) h = h
cause_from old before now P Q up goes (fault.LastVersion s through latest) h = h
cause_from old before now P Q up goes (fault.PlaceFault n) h = h
cause_from old before now P Q up goes (fault.BadLine n) h = h
cause_from old before now P Q up goes (fault.ScriptTooLong limit) h = h
cause_from old before now P Q up goes (fault.Full s latest next) h = h

-- a fault that is handed on
pub causes_again : {U : Type 0} (old before now : ℕ) (P Q : Kind → ℕ → Why → Type 0) → old ≤ before → before ≤ now → ((k : Kind) (n : ℕ) (w : Why) → P k n w → Q k n w) → (f : Fault) → IsCause before now P f
    → (r : Result U Fault) → IsErrAnd r (λ e. e ≡ f) → HasCauses old now Q r
causes_again old before now P Q up later goes f h (Ok x) is = absurd is
causes_again old before now P Q up later goes f h (Err e) is = record { later = omega arith; each = cause_from old before now P Q up goes e (subst (λ (d : Fault). IsCause before now P d) (sym is) h) }

-- the first versions of a set
pub record AreVersions (told : Option Blobs) (s floor version low : ℕ) (sparse : List ℕ) (old new : Notes) (rs : List Recipe) : Type 0 where
  pub read : AreReadInOrder told s floor rs
  pub count : floor + length rs ≡ version
  pub last : low ≡ last_next rs
  pub used : sparse ≡ last_sparse rs
  pub noted : NotesMore old new (s * 2 ^ 32) rs

-- the first sets
pub record AreFirstSets (told : Option Blobs) (infos : List SetInfo) (number : ℕ) (old new : Notes) (ds : List SetRead) : Type 0 where
  pub infos_are : map (λ d. d.info) ds ≡ infos
  pub count : length ds ≡ number
  pub read : AreSets told 0 ds
  pub noted : AreNoted old [] → AreNoted new (all_recipes ds)

-- the first tables
pub record AreFirstTables (told : Option Blobs) (ids : List ℕ) (tables : List (ℕ × Table)) (found : List (Fp × List ℕ)) (old new : List (Chunk × RowPlace)) (ts : List Table) : Type 0 where
  pub read : AreReadTables told ts
  pub of : map (λ t. t.id) ts ≡ ids
  pub at : (c : ℕ) → table_at tables c ≡ find (λ t. t.id == c) ts
  pub index : IsIndexOf found ts
  pub left : (k : Chunk) → lookup (same_chunk k) new ≡ left_of (some_has ts k) (lookup (same_chunk k) old)

-- floors

floors_more : (told : Option Blobs) (s : ℕ) (fs : List ℕ) (f : ℕ) → AreFloors told s fs → IsFloorIn told (s + length fs) f → AreFloors told s (fs ++ f ∷ [])
floors_more told s [] f all is = (subst (λ (t : ℕ). IsFloorIn told t f) (let e : s + 0 ≡ s = omega arith in e) is, tt)
floors_more told s (g ∷ fs) f all is = (all.0, floors_more told (s + 1) fs f all.1 (subst (λ (t : ℕ). IsFloorIn told t f) (let e : s + suc (length fs) ≡ s + 1 + length fs = omega arith in e) is))

pub floor_at : (told : Option Blobs) (s : ℕ) (fs : List ℕ) (t d : ℕ) → AreFloors told s fs → t < length fs → IsFloorIn told (s + t) (get_or fs t d)
floor_at told s [] t d all below = absurd (omega arith)
floor_at told s (f ∷ fs) zero d all below = subst (λ (u : ℕ). IsFloorIn told u f) (let e : s ≡ s + 0 = omega arith in e) all.0
floor_at told s (f ∷ fs) (suc t) d all below = subst (λ (u : ℕ). IsFloorIn told u (get_or fs t d)) (let e : s + 1 + t ≡ s + suc t = omega arith in e) (floor_at told (s + 1) fs t d all.1 (omega arith))

pub floor_pushed : (told : Option Blobs) (fs gs : List ℕ) (s f : ℕ) → AreFloors told 0 fs → length fs ≡ s → IsFloorIn told s f → gs ≡ fs ++ f ∷ [] → AreFloors told 0 gs
floor_pushed told fs gs s f all count is pushed = subst (λ (l : List ℕ). AreFloors told 0 l) (sym pushed) (floors_more told 0 fs f all (subst (λ (t : ℕ). IsFloorIn told t f) (let e : s ≡ 0 + length fs = omega arith in e) is))

pub floors_before : (m : Blobs) (fs : List ℕ) (s : ℕ) → AreFloors (Some m) 0 fs → s ≤ length fs → FloorsBefore m s
floors_before m fs s all up t low = (get_or fs t 0, subst (λ (u : ℕ). IsFloorIn (Some m) u (get_or fs t 0)) (let e : 0 + t ≡ t = omega arith in e) (floor_at (Some m) 0 fs t 0 all (omega arith)))

floor_why : (now : Option Blobs) (s : ℕ) (k : Kind) (n : ℕ) (w : Why) → IsFloorDamage now s k n w → IsOpeningWhy k w
floor_why now s kind.Floor n why.Spelling damage = tt
floor_why now s kind.Floor n other damage = absurd damage.1
floor_why now s kind.Table n w damage = absurd damage
floor_why now s kind.Payload n w damage = absurd damage
floor_why now s kind.Recipe n w damage = absurd damage

pub floor_damage : (told now : Option Blobs) (fs : List ℕ) (s : ℕ) → now ≡ told → AreFloors told 0 fs → length fs ≡ s → s < 256 → (k : Kind) (n : ℕ) (w : Why) → IsFloorDamage now s k n w → IsDamageOf told k n w
floor_damage None now fs s same all count low k n w damage = floor_why now s k n w damage
floor_damage (Some m) now fs s same all count low kind.Floor n w damage =
    let number : n ≡ s = damage.0 in
    (omega (arith, number), floors_before m fs n all (omega (arith, number, count)), subst (λ (t : ℕ). IsFloorWhy (Some m) t w) (sym number) (subst (λ (t : Option Blobs). IsFloorWhy t s w) same damage.1))
floor_damage (Some m) now fs s same all count low kind.Table n w damage = absurd damage
floor_damage (Some m) now fs s same all count low kind.Payload n w damage = absurd damage
floor_damage (Some m) now fs s same all count low kind.Recipe n w damage = absurd damage

-- places in lists

pub place_of : {X : Type 0} (xs : List X) (x : X) → Contains xs x → (i : ℕ) × (slice_get xs i ≡ Some x)
place_of [] x there = absurd (none_in x there)
place_of {X} (y ∷ xs) x there = ⊎_elim
    (λ (here : y ≡ x). (0, ap (λ (z : X). Some z) here))
    (λ later. let found = place_of xs x later in (suc found.0, found.1))
    (cons_cases y x xs there)

-- recipes of a set

pub recipes_more : (told : Option Blobs) (s v : ℕ) (rs : List Recipe) (r : Recipe) → AreRecipes told s v rs → ReadsRecipe told s (v + length rs) r → AreRecipes told s v (rs ++ r ∷ [])
recipes_more told s v [] r all is = (subst (λ (u : ℕ). ReadsRecipe told s u r) (let e : v + 0 ≡ v = omega arith in e) is, tt)
recipes_more told s v (q ∷ rs) r all is = (all.0, recipes_more told s (v + 1) rs r all.1 (subst (λ (u : ℕ). ReadsRecipe told s u r) (let e : v + suc (length rs) ≡ v + 1 + length rs = omega arith in e) is))

pub recipe_read : (told : Option Blobs) (s v : ℕ) (rs : List Recipe) (i : ℕ) (r : Recipe) → AreRecipes told s v rs → slice_get rs i ≡ Some r → ReadsRecipe told s (v + i) r
recipe_read told s v [] i r all is = absurd (let clash : ◌≡◌ {A = Option Recipe} None (Some r) = is in cc)
recipe_read told s v (q ∷ rs) zero r all is = let same : q ≡ r = cc in subst (λ (p : Recipe). ReadsRecipe told s (v + 0) p) same (subst (λ (u : ℕ). ReadsRecipe told s u q) (let e : v ≡ v + 0 = omega arith in e) all.0)
recipe_read told s v (q ∷ rs) (suc i) r all is = subst (λ (u : ℕ). ReadsRecipe told s u r) (let e : v + 1 + i ≡ v + suc i = omega arith in e) (recipe_read told s (v + 1) rs i r all.1 is)

-- each has the set and a version of these
pub recipe_numbers : (told : Option Blobs) (s v : ℕ) (rs : List Recipe) (r : Recipe) → AreRecipes told s v rs → Contains rs r → (r.set ≡ s) × (r.version < v + length rs) × (r.version ≤ 4294967294)
recipe_numbers told s v [] r all there = absurd (none_in r there)
recipe_numbers told s v (q ∷ rs) r all there = ⊎_elim
    (λ (here : q ≡ r).
    let spells = all.0.2 in
    let numbers : (q.set ≡ s) × (q.version < v + suc (length rs)) × (q.version ≤ 4294967294) = (spells.set, omega (arith, spells.number), spells.rules.version.1) in
    subst (λ (p : Recipe). (p.set ≡ s) × (p.version < v + suc (length rs)) × (p.version ≤ 4294967294)) here numbers)
    (λ later. let found = recipe_numbers told s (v + 1) rs r all.1 later in (found.0, omega (arith, found.1), found.2))
    (cons_cases q r rs there)

abbrev Rises : List Recipe → Type 0
Rises rs = EachNext (λ q r. q.next ≤ r.next) rs

pub rising_more : (rs : List Recipe) (r : Recipe) → Rises rs → last_next rs ≤ r.next → Rises (rs ++ r ∷ [])
rising_more [] r all up = tt
rising_more (q ∷ []) r all up = (up, tt)
rising_more (q ∷ p ∷ rs) r all up = (all.0, rising_more (p ∷ rs) r all.1 up)

pub rising_at : (rs : List Recipe) (i : ℕ) (q r : Recipe) → Rises rs → slice_get rs i ≡ Some q → slice_get rs (suc i) ≡ Some r → q.next ≤ r.next
rising_at [] i q r all is next = absurd (let clash : ◌≡◌ {A = Option Recipe} None (Some q) = is in cc)
rising_at (p ∷ []) i q r all is next = absurd (let clash : ◌≡◌ {A = Option Recipe} None (Some r) = next in cc)
rising_at (p ∷ o ∷ rs) zero q r all is next = let one : p ≡ q = cc in let two : o ≡ r = cc in subst (λ (x : Recipe). x.next ≤ r.next) one (subst (λ (x : Recipe). p.next ≤ x.next) two all.0)
rising_at (p ∷ o ∷ rs) (suc i) q r all is next = rising_at (o ∷ rs) i q r all.1 is next

pub last_more : {X : Type 0} (o : Option X) (xs : List X) (x : X) → last_or o (xs ++ x ∷ []) ≡ Some x
last_more o [] x = refl
last_more o (y ∷ xs) x = last_more (Some y) xs x

-- the last of some elements
pub last_at : {X : Type 0} (o : Option X) (xs : List X) → 0 < length xs → (x : X) × (slice_get xs (length xs - 1) ≡ Some x) × (last_or o xs ≡ Some x)
last_at o [] some = absurd (omega arith)
last_at o (x ∷ []) some = (x, refl, refl)
last_at {X} o (x ∷ y ∷ xs) some =
    let found = last_at (Some x) (y ∷ xs) (omega arith) in
    (found.0, ap (λ (i : ℕ). slice_get (x ∷ y ∷ xs) i) (let e : suc (suc (length xs)) - 1 ≡ suc (suc (length xs) - 1) = omega arith in e) ∙ found.1, found.2)

-- one more version of a set
pub versions_more : (told : Option Blobs) (s floor version low : ℕ) (sparse : List ℕ) (old mid new : Notes) (rs : List Recipe) (r : Recipe) → AreVersions told s floor version low sparse old mid rs
    → ReadsRecipe told s version r → low ≤ r.next → ((before : List Recipe) → AreBelow before (number_of r) → AreNoted mid before → AreNoted new (before ++ r ∷ []))
    → AreVersions told s floor (version + 1) r.next r.sparse old new (rs ++ r ∷ [])
versions_more told s floor version low sparse old mid new rs r was reads up step = record {
  read = record {
    recipes = recipes_more told s floor rs r was.read.recipes (subst (λ (v : ℕ). ReadsRecipe told s v r) (sym was.count) reads);
    rising = rising_more rs r was.read.rising (subst (λ (n : ℕ). n ≤ r.next) was.last up);
  };
  count = ap (λ (n : ℕ). floor + n) (length-append rs (r ∷ [])) ∙ (let e : floor + (length rs + 1) ≡ version + 1 = omega (arith, was.count) in e);
  last = sym (ap (λ (o : Option Recipe). unwrap_or (option_map (λ q. q.next) o) 1) (last_more None rs r));
  used = sym (ap (λ (o : Option Recipe). option_map_or (λ q. q.sparse) o []) (last_more None rs r));
  noted = λ before below start. subst (λ (l : List Recipe). AreNoted new l) (append_assoc before rs (r ∷ []))
      (step (before ++ rs) (λ q there. ⊎_elim
      (λ old. let low = below q old in omega (arith, low, reads.2.set, reads.2.number))
      (λ late. let numbers = recipe_numbers told s floor rs q was.read.recipes late in omega (arith, numbers.0, numbers.1, reads.2.set, reads.2.number, was.count))
      (Contains-append_cases before rs q there)) (was.noted before below start));
}

pub if_listed : (told : Option Blobs) (P Q : Blobs → Type 0) → IfSome told P → ((m : Blobs) → P m → Q m) → IfSome told Q
if_listed None P Q is goes = tt
if_listed (Some m) P Q is goes = goes m is

pub set_read : (told : Option Blobs) (s floor latest low : ℕ) (sparse : List ℕ) (old new : Notes) (rs : List Recipe) → AreVersions told s floor (latest + 1) low sparse old new rs → IsFloorIn told s floor
    → IfSome told (λ m. IsLastDue m s floor latest) → (1 < floor → floor ≤ latest) → latest ≤ 4294967294 → IsSetRead told s (record { floor = floor; latest = latest; next = low; sparse = sparse }) rs
set_read told s floor latest low sparse old new rs was is last up high = record {
  floor = is;
  last = last;
  low = up;
  high = high;
  count = was.count;
  read = was.read;
  next = was.last;
  sparse = was.used;
}

version_why : (now : Option Blobs) (s v low : ℕ) (w : Why) → IsVersionWhy now s v low w → IsOpeningWhy kind.Recipe w
version_why now s v low (why.Lower before found) is = is.1.3
version_why now s v low why.Absent is = tt
version_why now s v low why.Spelling is = tt
version_why now s v low other is = absurd is

pub version_damage : (told now : Option Blobs) (s floor latest version low : ℕ) (sparse : List ℕ) (old new : Notes) (rs : List Recipe) → now ≡ told → AreVersions told s floor version low sparse old new rs
    → IfSome told (λ m. IsLastDue m s floor latest) → version ≤ latest → latest ≤ 4294967294 → (k : Kind) (n : ℕ) (w : Why) → IsVersionDamage now s version low k n w → IsSetDamage told s floor k n w
version_damage told now s floor latest version low sparse old new rs same was last up high kind.Table n w damage = damage
version_damage told now s floor latest version low sparse old new rs same was last up high kind.Payload n w damage = damage
version_damage told now s floor latest version low sparse old new rs same was last up high kind.Floor n w damage = damage
version_damage told now s floor latest version low sparse old new rs same was last up high kind.Recipe n w damage = by_told told same was last
  where
    by_told : (told : Option Blobs) → now ≡ told → AreVersions told s floor version low sparse old new rs → IfSome told (λ m. IsLastDue m s floor latest) → IsSetDamage told s floor kind.Recipe n w
    by_told None same was last = version_why now s version low w damage.1
    by_told (Some m) same was last = (
      rs,
      record {
        read = was.read;
        due = subst (λ (v : ℕ). IsDueFrom m s floor v) (sym was.count) (last.due version (omega (arith, was.count)) up);
        last = omega (arith, was.count);
        is = subst (λ (v : ℕ). IsVersionDamage (Some m) s v (last_next rs) kind.Recipe n w) (sym was.count)
            (subst (λ (l : ℕ). IsVersionDamage (Some m) s version l kind.Recipe n w) was.last (subst (λ (t : Option Blobs). IsVersionDamage t s version low kind.Recipe n w) same damage));
      },
    )

-- sets

pub sets_more : (told : Option Blobs) (s : ℕ) (ds : List SetRead) (d : SetRead) → AreSets told s ds → IsSetRead told (s + length ds) d.info d.recipes → AreSets told s (ds ++ d ∷ [])
sets_more told s [] d all is = (subst (λ (t : ℕ). IsSetRead told t d.info d.recipes) (let e : s + 0 ≡ s = omega arith in e) is, tt)
sets_more told s (e ∷ ds) d all is = (all.0, sets_more told (s + 1) ds d all.1 (subst (λ (t : ℕ). IsSetRead told t d.info d.recipes) (let e : s + suc (length ds) ≡ s + 1 + length ds = omega arith in e) is))

pub set_at : (told : Option Blobs) (s : ℕ) (ds : List SetRead) (i : ℕ) (d : SetRead) → AreSets told s ds → slice_get ds i ≡ Some d → IsSetRead told (s + i) d.info d.recipes
set_at told s [] i d all is = absurd (let clash : ◌≡◌ {A = Option SetRead} None (Some d) = is in cc)
set_at told s (e ∷ ds) zero d all is = let same : e ≡ d = cc in subst (λ (x : SetRead). IsSetRead told (s + 0) x.info x.recipes) same (subst (λ (t : ℕ). IsSetRead told t e.info e.recipes) (let f : s ≡ s + 0 = omega arith in f) all.0)
set_at told s (e ∷ ds) (suc i) d all is = subst (λ (t : ℕ). IsSetRead told t d.info d.recipes) (let f : s + 1 + i ≡ s + suc i = omega arith in f) (set_at told (s + 1) ds i d all.1 is)

pub sets_below : (told : Option Blobs) (s : ℕ) (ds : List SetRead) → AreSets told s ds → AreBelow (all_recipes ds) ((s + length ds) * 2 ^ 32)
sets_below told s [] all r there = absurd (none_in r there)
sets_below told s (d ∷ ds) all r there = ⊎_elim
    (λ own. let numbers = recipe_numbers told s d.info.floor d.recipes r all.0.read.recipes own in omega (arith, numbers.0, numbers.2))
    (λ later. let low = sets_below told (s + 1) ds all.1 r later in omega (arith, low))
    (Contains-append_cases d.recipes (all_recipes ds) r there)

pub set_more_read : (told : Option Blobs) (infos news : List SetInfo) (number : ℕ) (old mid new : Notes) (ds : List SetRead) (info : SetInfo) (rs : List Recipe) → AreFirstSets told infos number old mid ds
    → IsSetRead told number info rs → NotesMore mid new (number * 2 ^ 32) rs → news ≡ infos ++ info ∷ [] → AreFirstSets told news (number + 1) old new (ds ++ record { info = info; recipes = rs } ∷ [])
set_more_read told infos news number old mid new ds info rs was is notes pushed = record {
  infos_are = map-append (λ (d : SetRead). d.info) ds (record { info = info; recipes = rs } ∷ []) ∙ ap (λ (l : List SetInfo). l ++ info ∷ []) was.infos_are ∙ sym pushed;
  count = length-append ds (record { info = info; recipes = rs } ∷ []) ∙ ap (λ (n : ℕ). n + 1) was.count;
  read = sets_more told 0 ds (record { info = info; recipes = rs }) was.read (subst (λ (t : ℕ). IsSetRead told t info rs) (let e : number ≡ 0 + length ds = omega (arith, was.count) in e) is);
  noted = λ start. subst (λ (l : List Recipe). AreNoted new l) (sym (flat_map-append (λ (d : SetRead). d.recipes) ds (record { info = info; recipes = rs } ∷ []) ∙ ap (λ (l : List Recipe). all_recipes ds ++ l) (append-nil rs)))
      (notes (all_recipes ds) (subst (λ (n : ℕ). AreBelow (all_recipes ds) (n * 2 ^ 32)) (let e : 0 + length ds ≡ number = omega (arith, was.count) in e) (sets_below told 0 ds was.read)) (was.noted start));
}

-- tables

pub all_push : {X : Type 0} (P : X → Type 0) (xs : List X) (x : X) → AllByRecursion P xs → P x → AllByRecursion P (xs ++ x ∷ [])
all_push P [] x all is = (is, tt)
all_push P (y ∷ xs) x all is = (all.0, all_push P xs x all.1 is)

pub mapped_in : {X Y : Type 0} (f : X → Y) (xs : List X) (y : Y) → Contains (map f xs) y → (x : X) × Contains xs x × (f x ≡ y)
mapped_in f [] y there = absurd (none_in y there)
mapped_in f (x ∷ xs) y there = ⊎_elim
    (λ (here : f x ≡ y). (x, first_in x xs, here))
    (λ later. let found = mapped_in f xs y later in (found.0, later_in x found.0 xs found.1, found.2))
    (cons_cases (f x) y (map f xs) there)

-- in an ascending list, those below an element are before it
pub earlier : (ids : List ℕ) (i d c : ℕ) → IsAscending ids → i < length ids → c < get_or ids i d → Contains ids c → Contains (take i ids) c
earlier [] i d c up below low there = absurd (omega arith)
earlier (id ∷ ids) zero d c up below low there = absurd (⊎_elim
    (λ (here : id ≡ c). omega (arith, here, low))
    (λ later. let more : id < c = all_in (λ j. id < j) ids c up.0 later in omega (arith, more, low))
    (cons_cases id c ids there))
earlier (id ∷ ids) (suc i) d c up below low there = ⊎_elim
    (λ (here : id ≡ c). subst (λ (j : ℕ). Contains (id ∷ take i ids) j) here (first_in id (take i ids)))
    (λ later. later_in id c (take i ids) (earlier ids i d c up.1 (omega arith) low later))
    (cons_cases id c ids there)

pub below_later : (ids : List ℕ) (i d c : ℕ) → IsAscending ids → i < length ids → Contains (take i ids) c → c < get_or ids i d
below_later [] i d c up below there = absurd (omega arith)
below_later (id ∷ ids) zero d c up below there = absurd (none_in c there)
below_later (id ∷ ids) (suc i) d c up below there = ⊎_elim
    (λ (here : id ≡ c). let more : id < get_or ids i d = all_in (λ j. id < j) ids (get_or ids i d) up.0 (Contains-get_or ids i d (omega arith)) in omega (arith, here, more))
    (λ later. below_later ids i d c up.1 (omega arith) later)
    (cons_cases id c (take i ids) there)

map_in : (ts : List Table) (t : Table) → Contains ts t → Contains (map (λ t. t.id) ts) t.id
map_in [] t there = absurd (none_in t there)
map_in (u ∷ ts) t there = ⊎_elim
    (λ (here : u ≡ t). subst (λ (x : Table). Contains (map (λ t. t.id) (u ∷ ts)) x.id) here (first_in u.id (map (λ t. t.id) ts)))
    (λ later. later_in u.id t.id (map (λ t. t.id) ts) (map_in ts t later))
    (cons_cases u t ts there)

find_push : (ts : List Table) (t : Table) (c : ℕ) → ((u : Table) → Contains ts u → u.id < t.id) → (b : Bool) → (t.id == c) ≡ b → find (λ u. u.id == c) (ts ++ t ∷ []) ≡ cond b (Some t) (find (λ u. u.id == c) ts)
find_push [] t c low b is = ap (λ e. cond e (Some t) None) is
find_push (u ∷ ts) t c low true is =
    let less : u.id < t.id = low u (first_in u ts) in
    let other : (u.id == c) ≡ false = grind (arith, nat_tests) in
    ap (λ e. cond e (Some u) (find (λ u. u.id == c) (ts ++ t ∷ []))) other ∙ find_push ts t c (λ v there. low v (later_in u v ts there)) true is
find_push (u ∷ ts) t c low false is = ap (cond (u.id == c) (Some u)) (find_push ts t c (λ v there. low v (later_in u v ts there)) false is)

at_is : (id c : ℕ) → is_at (nat_cmp id) c ≡ (id == c)
at_is id c = grind (arith, nat_tests)

left_twice : (a b : Bool) (o : Option RowPlace) → left_of b (left_of a o) ≡ left_of (a || (b || false)) o
left_twice true true o = refl
left_twice true false o = refl
left_twice false true o = refl
left_twice false false o = refl

pub table_more : (told : Option Blobs) (ids : List ℕ) (i d : ℕ) (tables news : List (ℕ × Table)) (found more : List (Fp × List ℕ)) (first old new : List (Chunk × RowPlace)) (ts : List Table) (t : Table)
    → IsAscending ids → i < length ids → AreFirstTables told (take i ids) tables found first old ts → ReadsTable told (get_or ids i d) t
    → ((c : ℕ) → table_at news c ≡ cond (is_at (nat_cmp (get_or ids i d)) c) (Some t) (table_at tables c)) → IsIndexOf more (ts ++ t ∷ [])
    → ((k : Chunk) → lookup (same_chunk k) new ≡ left_of (has_chunk (get_or ids i d) t.rows k) (lookup (same_chunk k) old))
    → AreFirstTables told (take (i + 1) ids) news more first new (ts ++ t ∷ [])
table_more told ids i d tables news found more first old new ts t up below was reads update index struck =
    let id : t.id ≡ get_or ids i d = reads.2.number in
    record {
      read = all_push (λ u. ReadsTable told u.id u) ts t was.read (subst (λ (c : ℕ). ReadsTable told c t) (sym id) reads);
      of = map-append (λ (u : Table). u.id) ts (t ∷ []) ∙ ap (λ (l : List ℕ). l ++ t.id ∷ []) was.of ∙ ap (λ (c : ℕ). take i ids ++ c ∷ []) id ∙ sym (take_more ids i d below);
      at = λ c. update c ∙ ap (λ b. cond b (Some t) (table_at tables c)) (at_is (get_or ids i d) c ∙ ap (λ (j : ℕ). j == c) (sym id)) ∙ ap (cond (t.id == c) (Some t)) (was.at c)
          ∙ sym (find_push ts t c (λ u there. let low = below_later ids i d u.id up below (subst (λ (l : List ℕ). Contains l u.id) was.of (map_in ts u there)) in omega (arith, low, id)) (t.id == c) refl);
      index = index;
      left = λ k. struck k ∙ ap (λ (c : ℕ). left_of (has_chunk c t.rows k) (lookup (same_chunk k) old)) (sym id) ∙ ap (left_of (has_chunk t.id t.rows k)) (was.left k)
          ∙ left_twice (some_has ts k) (has_chunk t.id t.rows k) (lookup (same_chunk k) first)
          ∙ ap (λ b. left_of b (lookup (same_chunk k) first)) (sym (list_any-append (λ (u : Table). has_chunk u.id u.rows k) ts (t ∷ [])));
    }

pub table_damage : (told now : Option Blobs) (ids : List ℕ) (i d : ℕ) (tables : List (ℕ × Table)) (found : List (Fp × List ℕ)) (first old : List (Chunk × RowPlace)) (ts : List Table) → now ≡ told
    → IsAscending ids → i < length ids → AreFirstTables told (take i ids) tables found first old ts → (k : Kind) (n : ℕ) (w : Why) → IsTableDamage now (get_or ids i d) k n w → IsFirstTable told ids k n w
table_damage told now ids i d tables found first old ts same up below was kind.Payload n w damage = damage
table_damage told now ids i d tables found first old ts same up below was kind.Floor n w damage = damage
table_damage told now ids i d tables found first old ts same up below was kind.Recipe n w damage = damage
table_damage told now ids i d tables found first old ts same up below was kind.Table n w damage =
    let number : n ≡ get_or ids i d = damage.0 in (
      subst (λ (c : ℕ). Contains ids c) (sym number) (Contains-get_or ids i d below),
      subst (λ (c : ℕ). IsTableWhy told c w) (sym number) (subst (λ (t : Option Blobs). IsTableWhy t (get_or ids i d) w) same damage.1),
      λ c low there.
          let before = earlier ids i d c up below (omega (arith, low, number)) there in
          let of = mapped_in (λ (t : Table). t.id) ts c (subst (λ (l : List ℕ). Contains l c) (sym was.of) before) in
          (of.0, subst (λ (j : ℕ). ReadsTable told j of.0) of.2 (all_in (λ u. ReadsTable told u.id u) ts of.0 was.read of.1)),
    )

pub floor_of_set : (told now : Option Blobs) (fs : List ℕ) (t : ℕ) → now ≡ told → AreFloors told 0 fs → length fs ≡ 256 → t < 256 → IsFloorIn now t (get_or fs t 0)
floor_of_set told now fs t same all count low =
    subst (λ (b : Option Blobs). IsFloorIn b t (get_or fs t 0)) (sym same) (subst (λ (u : ℕ). IsFloorIn told u (get_or fs t 0)) (let e : 0 + t ≡ t = omega arith in e) (floor_at told 0 fs t 0 all (omega (arith, count))))
