-- What a kept version's blob says, and the ids that a pin of it lists.
use Rattle.std.proofs.Common.{◌≡◌, ◌≢◌, ℕ, ◌+◌, ◌<◌, ◌≤◌, ◌⊎◌, inl, inr, ⊎_elim, Bool, true, false, cond, ◌||◌, length, map, List, [], ◌∷◌, Option, Some, None, refl, sym, ap, ◌∙◌, subst, arith}
use Rattle.std.specs.Prelude.{IfSome, nat_eq}
use Rattle.std.proofs.lemmas.List.{append-nil}
use Rattle.std.proofs.lemmas.List.Elements.{filter_agree}
use Rattle.std.specs.FinMap as fin
use Rattle.vault_types.specs.declared.Row.{Row}
use Rattle.vault_types.specs.declared.Recipe.{Recipe}
use Rattle.vault_types.specs.declared.Pending.TheVariants as pending
use Rattle.vault_types.specs.Lists.{has, set_of}
use Rattle.vault_types.specs.Names.{fp}
use Rattle.vault_types.specs.Tables.{Container, id_of}
use Rattle.vault_types.specs.State.{State, KeptVersion, latest_of, version_of, recipe_of, HasFp, IsValid}
use Rattle.vault_types.specs.Bytes.{bytes_of}
use Rattle.vault_types.specs.Blobs.{recipe_bytes, SpellsRecipe}
use Rattle.vault_types.specs.Shelf.{Blobs, recipe_name, IsRecipeBlob, Stands}
use Rattle.vault_types.specs.Events.{Core, Change, containers_of, IsNear, IsChange, IsCore, Held}
use Rattle.vault_types.proofs.SetLemmas.{has-set_of}
use Rattle.vault_traits.proofs.Maps.{get_other}
use Rattle.recipe_store.proofs.Apart.{recipes_apart}
use Rattle.restore_pins.specs.Pins.{IsListOf}
use Rattle.state_laws.proofs.Changing.{version_high, latest_low, recipe_same, recipe_no_floor}
use Rattle.state_laws.proofs.Growing.{rows_of}
use Rattle.commit_laws.specs.Laws.{pin_with, SaysVersion}
use Rattle.commit_laws.proofs.Listing.{all_at, all_map, all_weaker, some_same, contains_of, same_number}
use Rattle.commit_laws.proofs.Committing.{found_named}
use Rattle.commit_laws.proofs.Unique.{plain_of, kept_rules, with_whole, without_whole, kept_number}

-- the blob of a kept version, also while a write is half done

module _ (K : Core) (core : IsCore K) (s v : ℕ) (k : KeptVersion) (below : s < length K.state.datasets) (kept : version_of K.state s v ≡ Some k) where
  of_stands : (m : Blobs) → Stands m K.state → IsRecipeBlob K.state s v k (fin.get m (recipe_name s v))
  of_stands m stands = subst (λ (o : Option KeptVersion). IfSome o (λ k. IsRecipeBlob K.state s v k (fin.get m (recipe_name s v)))) kept (stands.recipes s v below)

  other_name : (t : ℕ) (h : Change) → IsChange K.state t h → recipe_name s v ≢ h.name
  other_name t h of same = ⊎_elim
      (λ kind.
      let high = version_high K.state s v k kept in
      let one = latest_low K.state s core.state in
      let two = latest_low K.state t core.state in
      let e = recipe_same s v t (latest_of K.state t + 1) (omega arith) (omega arith) (same ∙ kind.0) in
      let f : v ≤ latest_of K.state t = subst (λ (u : ℕ). v ≤ latest_of K.state u) e.0 high in
      omega (arith, f, e.1))
      (λ kind. recipe_no_floor s v t (same ∙ kind.0))
      of.kind

  of_near : (o : Option Change) → IfSome o (λ h. (t : ℕ) × (K.pending ≡ pending.FailedFor t) × IsChange K.state t h) → (m : Blobs) → IsNear K.state o m → IsRecipeBlob K.state s v k (fin.get m (recipe_name s v))
  of_near o of m (inl stands) = of_stands m stands
  of_near None of m (inr none) = absurd none
  of_near (Some h) of m (inr has) = subst (λ (b : Option (List ℕ)). IsRecipeBlob K.state s v k b)
      (sym (ap (λ (c : Blobs). fin.get c (recipe_name s v)) has.is ∙ get_other has.before h.name (Some h.bytes) (recipe_name s v) (other_name of.0 h of.2)))
      (of_stands has.before has.stands)

  pub held_recipe : (m : Blobs) → Held m K → IsRecipeBlob K.state s v k (fin.get m (recipe_name s v))
  held_recipe m held = of_near K.other core.other m held.near

  -- what is read from it is that version, with its whole or without one
  pub held_says : (m : Blobs) (bytes : List ℕ) (r : Recipe) → Held m K → fin.get m (recipe_name s v) ≡ Some bytes → SpellsRecipe s v bytes r
      → (r ≡ recipe_of s v k) ⊎ ((r ≡ plain_of s v k) × (k.sum ≡ fp (bytes_of K.state s v)))
  held_says m bytes r held there spells = at (held_recipe m held)
    where
      one : (q : Recipe) → SpellsRecipe s v (recipe_bytes q) q → fin.get m (recipe_name s v) ≡ Some (recipe_bytes q) → r ≡ q
      one q said is = (recipes_apart s v r q bytes (recipe_bytes q) [] spells said (append-nil bytes ∙ some_same bytes (recipe_bytes q) (sym there ∙ is))).0

      at : IsRecipeBlob K.state s v k (fin.get m (recipe_name s v)) → (r ≡ recipe_of s v k) ⊎ ((r ≡ plain_of s v k) × (k.sum ≡ fp (bytes_of K.state s v)))
      at (inl is) = inl (one (recipe_of s v k) (record { set = refl; number = refl; rules = with_whole s v k (kept_number K.state core.state s v k below kept) (kept_rules K.state core.state s v k below kept); spelled = refl }) is)
      at (inr is) = inr (
        one (plain_of s v k) (record { set = refl; number = refl; rules = without_whole s v k (kept_number K.state core.state s v k below kept) (kept_rules K.state core.state s v k below kept); spelled = refl }) is.0,
        is.1,
      )

  pub held_version : (m : Blobs) (bytes : List ℕ) (r : Recipe) → Held m K → fin.get m (recipe_name s v) ≡ Some bytes → SpellsRecipe s v bytes r → SaysVersion r k
  held_version m bytes r held there spells = ⊎_elim
      (λ is. subst (λ (q : Recipe). SaysVersion q k) (sym is) (record { next = refl; rows = refl; sparse = refl; sum = refl }))
      (λ is. subst (λ (q : Recipe). SaysVersion q k) (sym is.0) (record { next = refl; rows = refl; sparse = refl; sum = tt }))
      (held_says m bytes r held there spells)

-- ids that a kept version names are the state's
pub version_named : (S : State) (s v : ℕ) (k : KeptVersion) → IsValid S → version_of S s v ≡ Some k → (c : ℕ) → has c (map (λ q. q.id) k.rows) ≡ true → has c (map id_of S.containers) ≡ true
version_named S s v k valid kept c h = all_at (λ (n : ℕ). has n (map id_of S.containers) ≡ true) (map (λ (q : Row). q.id) k.rows) c
    (all_map (λ (q : Row). q.id) (λ n. has n (map id_of S.containers) ≡ true) k.rows
    (all_weaker (HasFp S.containers) (λ q. has q.id (map id_of S.containers) ≡ true) k.rows (λ q there. found_named S.containers q there) (rows_of S s v k (HasFp S.containers) valid.rows kept)))
    (contains_of c (map (λ (q : Row). q.id) k.rows) h)

-- a pin's list

-- ids as a set
pub pin_ids : (cs : List Container) (ids : List ℕ) → containers_of cs (set_of ids) ≡ containers_of cs ids
pin_ids cs ids = filter_agree (λ (c : Container). has c.table.id (set_of ids)) (λ (c : Container). has c.table.id ids) (λ c. has-set_of c.table.id ids) cs

picked : (ids : List ℕ) (c : ℕ) → has c ids ≡ true → (cs : List Container) → has c (map id_of (containers_of cs ids)) ≡ has c (map id_of cs)
picked ids c h [] = refl
picked ids c h (d ∷ cs) = step (has d.table.id ids) (nat_eq c d.table.id) refl refl (picked ids c h cs)
  where
    step : (a b : Bool) → has d.table.id ids ≡ a → nat_eq c d.table.id ≡ b → has c (map id_of (containers_of cs ids)) ≡ has c (map id_of cs) → has c (map id_of (cond a (d ∷ containers_of cs ids) (containers_of cs ids))) ≡ (nat_eq c d.table.id || has c (map id_of cs))
    step true b e f rest = ap (λ x. nat_eq c d.table.id || x) rest
    step false true e f rest = absurd (let clash : true ≡ false = sym h ∙ ap (λ (n : ℕ). has n ids) (sym (same_number c d.table.id f)) ∙ e in cc)
    step false false e f rest = rest ∙ ap (λ x. x || has c (map id_of cs)) (sym f)

not_picked : (ids : List ℕ) (c : ℕ) → has c ids ≡ false → (cs : List Container) → has c (map id_of (containers_of cs ids)) ≡ false
not_picked ids c h [] = refl
not_picked ids c h (d ∷ cs) = step (has d.table.id ids) (nat_eq c d.table.id) refl refl (not_picked ids c h cs)
  where
    step : (a b : Bool) → has d.table.id ids ≡ a → nat_eq c d.table.id ≡ b → has c (map id_of (containers_of cs ids)) ≡ false → has c (map id_of (cond a (d ∷ containers_of cs ids) (containers_of cs ids))) ≡ false
    step true true e f rest = absurd (let clash : true ≡ false = sym e ∙ ap (λ (n : ℕ). has n ids) (same_number c d.table.id f) ∙ h in cc)
    step true false e f rest = ap (λ x. x || has c (map id_of (containers_of cs ids))) f ∙ rest
    step false b e f rest = rest

-- a pin lists the ids that it is given, where they are the state's
pub pin_list : (S : State) (number s v : ℕ) (ids : List ℕ) → ((c : ℕ) → has c ids ≡ true → has c (map id_of S.containers) ≡ true) → IsListOf (record { number = number; version = v; ids = ids }) (pin_with number s v ids S)
pin_list S number s v ids named = record { number = refl; version = refl; ids = λ c. by_test c (has c ids) refl }
  where
    by_test : (c : ℕ) (b : Bool) → has c ids ≡ b → has c (map id_of (containers_of S.containers ids)) ≡ has c ids
    by_test c true e = picked ids c e S.containers ∙ named c e ∙ sym e
    by_test c false e = not_picked ids c e S.containers ∙ sym e
