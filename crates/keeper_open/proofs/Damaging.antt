-- What the first bad place of a shelf is.
use Rattle.std.proofs.Common.{◌≡◌, inr, ⊎_elim, ℕ, suc, ◌+◌, ◌-◌, ◌<◌, ◌≤◌, true, false, List, [], ◌∷◌, length, Option, Some, None, refl, sym, ap, subst, ◌∙◌, arith}
use Rattle.std.specs.Prelude.{IsSome, MatchOption, option_map, unwrap_or, slice_get}
use Rattle.std.specs.FinMap as fin
use Rattle.std.proofs.lemmas.Bool.{cases_lt}
use Rattle.vault_types.specs.declared.Kind.{Kind}
use Rattle.vault_types.specs.declared.Kind.TheVariants as kind
use Rattle.vault_types.specs.declared.Why.{Why}
use Rattle.vault_types.specs.declared.Why.TheVariants as why
use Rattle.vault_types.specs.declared.Recipe.{Recipe}
use Rattle.vault_types.specs.Blobs.{SpellsFloor, IsVersion}
use Rattle.vault_types.specs.Shelf.{Blobs, recipe_name}
use Rattle.vault_types.specs.BlobDamage.{IsFloorIn}
use Rattle.keeper_catalog.specs.declared.SetInfo.{SetInfo}
use Rattle.keeper_open.specs.declared.notes.Notes.{Notes}
use Rattle.vault_types.specs.FirstDamage.{ReadsRecipe, IsDueFrom, IsRecipeDue, IsGoodRecipe, FloorsBefore, RecipesBefore, IsLower, IsRecipeFirst, IsFirstDamage, IsDamageOf}
use Rattle.keeper_open.specs.Reading.{SetRead, AreFloors, AreReadInOrder, IsLastDue, IsSetRead, IsVersionWhy, IsSetDamage, IsSetFirst, AreSets, last_next}
use Rattle.keeper_open.proofs.Gathering.{AreFirstSets, floors_before, recipe_read, rising_at, last_at, set_at}
use Rattle.damage_laws.proofs.Elements.{some_at}
use Rattle.damage_laws.proofs.Unique.{floor_unique, recipe_unique}

-- a floor is a version
pub floor_version : (told : Option Blobs) (s f : ℕ) → IsFloorIn told s f → IsVersion f
floor_version told s f is = by_found is.0 is.2
  where
    by_found : (o : Option (List ℕ)) → MatchOption o (f ≡ 1) (λ bytes. SpellsFloor s bytes f) → IsVersion f
    by_found None one = (omega (arith, one), omega (arith, one))
    by_found (Some bytes) spells = spells.rules

-- the recipes that were read are good
module _ (m : Blobs) (s floor : ℕ) (rs : List Recipe) (is : IsFloorIn (Some m) s floor) (read : AreReadInOrder (Some m) s floor rs) where
  due_from : (v : ℕ) → IsRecipeDue m s v → floor ≤ v
  due_from v due = let same = floor_unique m s floor due.floor is due.reads in let low = due.from in omega (arith, same, low)

  -- the recipe of a version that is due
  pub due_recipe : (v : ℕ) → IsRecipeDue m s v → v < floor + length rs → (r : Recipe) × (slice_get rs (v - floor) ≡ Some r) × ReadsRecipe (Some m) s v r
  due_recipe v due below =
      let from = due_from v due in
      let found = some_at rs (v - floor) (omega (arith, from, below)) in
      (found.0, found.1, subst (λ (u : ℕ). ReadsRecipe (Some m) s u found.0) (let e : floor + (v - floor) ≡ v = omega (arith, from) in e) (recipe_read (Some m) s floor rs (v - floor) found.0 read.recipes found.1))

  pub good_recipe : (v : ℕ) → IsRecipeDue m s v → v < floor + length rs → IsGoodRecipe m s v
  good_recipe v due below =
      let found = due_recipe v due below in
      record {
        recipe = found.0;
        reads = found.2;
        after = λ u q next due_u reads_u.
            let from = due_from u due_u in
            let before = due_recipe u due_u (omega (arith, next, below)) in
            let same : before.0 ≡ q = recipe_unique m s u before.0 q before.2 reads_u in
            subst (λ (p : Recipe). p.next ≤ found.0.next) same
            (rising_at rs (u - floor) before.0 found.0 read.rising before.1 (ap (λ (i : ℕ). slice_get rs i) (let e : suc (u - floor) ≡ v - floor = omega (arith, next, from) in e) ∙ found.1));
      }

-- a version that is due is not above the last one
pub due_within : (m : Blobs) (s floor latest v : ℕ) → IsLastDue m s floor latest → (1 < floor → floor ≤ latest) → floor ≤ v → v ≤ 4294967294 → IsDueFrom m s floor v → v ≤ latest
due_within m s floor latest v last low from high due = ⊎_elim
    (λ here. let up = low here.1 in omega (arith, up, here.0))
    (λ listed. ⊎_elim
    (λ above. absurd (no_some (fin.get m (recipe_name s listed.0)) (last.above listed.0 (omega (arith, from, listed.1)) (omega (arith, above, listed.1)) listed.2) listed.3))
    (λ up. up)
    (cases_lt latest v))
    due
  where
    no_some : {X : Type 0} (o : Option X) → o ≡ None → IsSome o → ⊥
    no_some {X} None e some = let clash : false ≡ true = some in cc
    no_some {X} (Some x) e some = let clash : ◌≡◌ {A = Option X} (Some x) None = e in cc

module _ (m : Blobs) (ds : List SetRead) (all : AreSets (Some m) 0 ds) where
  set_of_due : (t w : ℕ) → t < length ds → (d : SetRead) × (slice_get ds t ≡ Some d) × IsSetRead (Some m) t d.info d.recipes
  set_of_due t w below =
      let found = some_at ds t below in
      (found.0, found.1, subst (λ (u : ℕ). IsSetRead (Some m) u found.0.info found.0.recipes) (let e : 0 + t ≡ t = omega arith in e) (set_at (Some m) 0 ds t found.0 all found.1))

  pub due_below : (t w : ℕ) (d : SetRead) → IsSetRead (Some m) t d.info d.recipes → IsRecipeDue m t w → (d.info.floor ≤ w) × (w < d.info.floor + length d.recipes)
  due_below t w d read due =
      let same = floor_unique m t due.floor d.info.floor due.reads read.floor in
      let from : d.info.floor ≤ w = (let low = due.from in omega (arith, low, same)) in
      let within = due_within m t d.info.floor d.info.latest w read.last read.low from due.last (subst (λ (f : ℕ). IsDueFrom m t f w) same due.due) in
      let count = read.count in
      (from, omega (arith, within, count))

  pub due_in : (t w : ℕ) → t < length ds → IsRecipeDue m t w → (d : SetRead) × (slice_get ds t ≡ Some d) × IsSetRead (Some m) t d.info d.recipes × (d.info.floor ≤ w) × (w < d.info.floor + length d.recipes)
  due_in t w below due =
      let found = set_of_due t w below in
      let bounds = due_below t w found.0 found.2 due in
      (found.0, found.1, found.2, bounds.0, bounds.1)

  pub sets_good : (t w : ℕ) → t < length ds → IsRecipeDue m t w → IsGoodRecipe m t w
  sets_good t w below due =
      let found = due_in t w below due in
      good_recipe m t found.0.info.floor found.0.recipes found.2.floor found.2.read w due found.4

  -- the first bad recipe
  module _ (fs : List ℕ) (s floor : ℕ) (floors : AreFloors (Some m) 0 fs) (count : length fs ≡ 256) (number : length ds ≡ s) (low : s < 256) (is : IsFloorIn (Some m) s floor) where
    recipes_before : (rs : List Recipe) → AreReadInOrder (Some m) s floor rs → RecipesBefore m s (floor + length rs)
    recipes_before rs read t w before due = ⊎_elim
        (λ earlier. sets_good t w (omega (arith, earlier, number)) due)
        (λ here. subst (λ (u : ℕ). IsGoodRecipe m u w) (sym here.0) (good_recipe m s floor rs is read w (subst (λ (u : ℕ). IsRecipeDue m u w) here.0 due) here.1))
        before

    all_floors : FloorsBefore m 256
    all_floors = floors_before m fs 256 floors (omega (arith, count))

    module _ (rs : List Recipe) (n : ℕ) (w : Why) (first : IsSetFirst m s floor rs n w) where
      place_due : IsRecipeDue m s (floor + length rs)
      place_due = record { set = low; floor = floor; reads = is; from = omega arith; last = first.last; due = first.due }

      low_is : (before found : ℕ) → IsVersionWhy (Some m) s (floor + length rs) (last_next rs) (why.Lower before found) → IsLower m s (floor + length rs) before found
      low_is before found bad = ⊎_elim
          (λ some.
          let last = last_at None rs some in
          let next : last_next rs ≡ last.0.next = ap (λ (o : Option Recipe). unwrap_or (option_map (λ r. r.next) o) 1) last.2 in
          let reads : ReadsRecipe (Some m) s (floor + (length rs - 1)) last.0 = recipe_read (Some m) s floor rs (length rs - 1) last.0 first.read.recipes last.1 in
          let bad_last = first.last in
          let due : IsRecipeDue m s (floor + (length rs - 1)) = record { set = low; floor = floor; reads = is; from = omega arith; last = omega (arith, bad_last); due = due_before some first.due } in
          (floor + (length rs - 1), last.0, bad.1.0, omega (arith, some), due, reads, bad.1.1, sym next ∙ sym bad.0, bad.1.2, bad.1.3))
          (λ none.
          let empty : last_next rs ≡ 1 = nothing rs none in
          let positive = bad.1.1.2.rules.rules.next_low in
          absurd (omega (arith, empty, positive, bad.0, bad.1.2, bad.1.3)))
          (cases_lt 0 (length rs))
        where
          nothing : (rs : List Recipe) → length rs ≤ 0 → last_next rs ≡ 1
          nothing [] none = refl
          nothing (r ∷ rs) none = absurd (omega arith)

          due_before : 0 < length rs → IsDueFrom m s floor (floor + length rs) → IsDueFrom m s floor (floor + (length rs - 1))
          due_before some = ⊎_elim
              (λ here. absurd (omega (arith, here.0, some)))
              (λ listed. inr (listed.0, omega (arith, listed.1), listed.2, listed.3))

      why_first : (w : Why) → IsVersionWhy (Some m) s (floor + length rs) (last_next rs) w → IsRecipeFirst m s (floor + length rs) w
      why_first (why.Lower before found) bad = (all_floors, recipes_before rs first.read, low_is before found bad)
      why_first why.Absent bad = (all_floors, recipes_before rs first.read, bad)
      why_first why.Spelling bad = (all_floors, recipes_before rs first.read, bad)
      why_first (why.BadRow i) bad = absurd bad
      why_first (why.Length want found) bad = absurd bad
      why_first (why.Sum want found) bad = absurd bad
      why_first (why.Whole want found) bad = absurd bad
      why_first (why.Chunk row want found) bad = absurd bad

      pub recipe_first : IsFirstDamage m kind.Recipe n w
      recipe_first = (s, floor + length rs, first.is.0, place_due, why_first w first.is.1)

pub set_damage : (told now : Option Blobs) (fs : List ℕ) (infos : List SetInfo) (s floor : ℕ) (old new : Notes) (ds : List SetRead) → now ≡ told → AreFloors told 0 fs → length fs ≡ 256 → AreFirstSets told infos s old new ds → s < 256 → IsFloorIn told s floor
    → (k : Kind) (n : ℕ) (w : Why) → IsSetDamage now s floor k n w → IsDamageOf told k n w
set_damage None now fs infos s floor old new ds same floors count was low is kind.Recipe n w damage = subst (λ (t : Option Blobs). IsSetDamage t s floor kind.Recipe n w) same damage
set_damage None now fs infos s floor old new ds same floors count was low is kind.Table n w damage = absurd damage
set_damage None now fs infos s floor old new ds same floors count was low is kind.Payload n w damage = absurd damage
set_damage None now fs infos s floor old new ds same floors count was low is kind.Floor n w damage = absurd damage
set_damage (Some m) now fs infos s floor old new ds same floors count was low is kind.Recipe n w damage =
    let first : IsSetDamage (Some m) s floor kind.Recipe n w = subst (λ (t : Option Blobs). IsSetDamage t s floor kind.Recipe n w) same damage in
    recipe_first m ds was.read fs s floor floors count was.count low is first.0 n w first.1
set_damage (Some m) now fs infos s floor old new ds same floors count was low is kind.Table n w damage = absurd damage
set_damage (Some m) now fs infos s floor old new ds same floors count was low is kind.Payload n w damage = absurd damage
set_damage (Some m) now fs infos s floor old new ds same floors count was low is kind.Floor n w damage = absurd damage
