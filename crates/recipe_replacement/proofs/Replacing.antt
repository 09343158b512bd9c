-- A recipe that takes the place of its version's.
use Rattle.std.proofs.Common.{◌≡◌, ◌⊎◌, inl, inr, ⊎_elim, ℕ, ◌<◌, ◌≤◌, length, List, Option, Some, None, refl, sym, ◌∙◌, ap, subst, arith}
use Rattle.std.specs.Prelude.{IsSome, IfSome}
use Rattle.std.specs.FinMap as fin
use Rattle.vault_types.specs.declared.Name.{Name}
use Rattle.vault_types.specs.declared.Recipe.{Recipe}
use Rattle.vault_types.specs.State.{State, KeptVersion, latest_of, floor_of, version_of, recipe_of}
use Rattle.vault_types.specs.Blobs.{recipe_bytes, recipe_bytes_2}
use Rattle.vault_types.specs.Shelf.{Blobs, with_blob, recipe_name, floor_name, IsFloorBlob, IsRecipeBlob, Stands}
use Rattle.vault_types.specs.Events.{Core, Change, IsNear, IsNeeded, Held, pinned_containers}
use Rattle.vault_traits.specs.Crash.{History, LeavesNowIfTold, LeavesOnlyIfTold, ReadsAnImage}
use Rattle.vault_traits.specs.Shelf.{MayBeWritten, blobs_with}
use Rattle.vault_traits.proofs.Maps.{get_other, get_is, written_or_other}
use Rattle.vault_traits.proofs.Moments.{may_write, told_or_silent, silent, silent_write}
use Rattle.state_laws.specs.Parts.{HeldIfTold}
use Rattle.state_laws.proofs.Standing.{keeps_container, needs_recipe}
use Rattle.state_laws.proofs.Changing.{recipe_no_floor, recipe_no_table, recipe_no_payload, recipe_same, version_high, latest_low, near_alone}
use Rattle.recipe_replacement.specs.Replacing.{IsRecipeOf, IsRecipeOfIfTold}

module _ (S : State) (r : Recipe) (of : IsRecipeOf S r) where
  abbrev name : Name
  name = recipe_name r.set r.version

  low : r.version ≤ 4294967294
  low = let high = version_high S r.set r.version of.version of.kept in let last = latest_low S r.set of.valid in omega (arith, high, last)

  second : recipe_bytes r ≡ recipe_bytes_2 of.version.sum (recipe_of r.set r.version of.version)
  second = ap recipe_bytes of.says

  replaced : (m : Blobs) (s v : ℕ) (k : KeptVersion) → s ≡ r.set → v ≡ r.version → version_of S s v ≡ Some k → IsRecipeBlob S s v k (fin.get (with_blob m name (Some (recipe_bytes r))) (recipe_name s v))
  replaced m s v k at number kept =
      let same : of.version ≡ k = let e : ◌≡◌ {A = Option KeptVersion} (Some of.version) (Some k) = sym of.kept ∙ sym (ap (λ (t : ℕ). version_of S t v) at ∙ ap (λ (w : ℕ). version_of S r.set w) number) ∙ kept in cc in
      inl (get_is m name (Some (recipe_bytes r)) (recipe_name s v) (λ i. recipe_name (at i) (number i))
      ∙ ap (λ (b : List ℕ). Some b) second
      ∙ (λ i. Some (recipe_bytes_2 (same i).sum (recipe_of (sym at i) (sym number i) (same i)))))

  recipe_stays : (m : Blobs) (s v : ℕ) → s < length S.datasets → (o : Option KeptVersion) → version_of S s v ≡ o → IfSome o (λ k. IsRecipeBlob S s v k (fin.get m (recipe_name s v)))
      → IfSome o (λ k. IsRecipeBlob S s v k (fin.get (with_blob m name (Some (recipe_bytes r))) (recipe_name s v)))
  recipe_stays m s v below None is here = tt
  recipe_stays m s v below (Some k) is here = ⊎_elim
      (λ (same : recipe_name s v ≡ name).
      let high = version_high S s v k is in
      let last = latest_low S s of.valid in
      let e = recipe_same s v r.set r.version (omega (arith, high, last)) (omega (arith, low)) same in
      replaced m s v k e.0 e.1 is)
      (λ kept. subst (λ (b : Option (List ℕ)). IsRecipeBlob S s v k b) (sym kept) here)
      (written_or_other m name (Some (recipe_bytes r)) (recipe_name s v))

  -- the blobs go on standing for the state
  pub stands_with : (m : Blobs) → Stands m S → Stands (with_blob m (recipe_name r.set r.version) (Some (recipe_bytes r))) S
  stands_with m stands = record {
    floors = λ s below. subst (λ (b : Option (List ℕ)). IsFloorBlob s (floor_of S s) b) (sym (get_other m name (Some (recipe_bytes r)) (floor_name s) (λ same. recipe_no_floor r.set r.version s (sym same)))) (stands.floors s below);
    recipes = λ s v below. recipe_stays m s v below (version_of S s v) refl (stands.recipes s v below);
    containers = λ c among. keeps_container m name (Some (recipe_bytes r)) c (λ same. recipe_no_table r.set r.version c.table.id (sym same)) (λ same. recipe_no_payload r.set r.version c.table.id (sym same)) (stands.containers c among);
    newest = λ s v below later last.
        get_other m name (Some (recipe_bytes r)) (recipe_name s v)
        (λ same.
        let e = recipe_same s v r.set r.version (omega (arith, last)) (omega (arith, low)) same in
        let high = version_high S r.set r.version of.version of.kept in
        let over : latest_of S r.set < v = subst (λ (t : ℕ). latest_of S t < v) e.0 later in
        omega (arith, high, over, e.1))
        ∙ stands.newest s v below later last;
  }

  pub near_with : (m : Blobs) → IsNear S None m → IsNear S None (with_blob m (recipe_name r.set r.version) (Some (recipe_bytes r)))
  near_with m near = inl (stands_with m (near_alone S m near))

-- so they do for a core that has nothing half done
pub held_with : (K : Core) (r : Recipe) → IsRecipeOf K.state r → (o : Option Change) → K.other ≡ o → o ≡ None → (m : Blobs) → Held m K → Held (with_blob m (recipe_name r.set r.version) (Some (recipe_bytes r))) K
held_with K r of o is none m held = record {
  near = inl (stands_with K.state r of m (near_alone K.state m (subst (λ (p : Option Change). IsNear K.state p m) (is ∙ none) held.near)));
  containers = λ c among. keeps_container m (recipe_name r.set r.version) (Some (recipe_bytes r)) c (λ same. recipe_no_table r.set r.version c.table.id (sym same)) (λ same. recipe_no_payload r.set r.version c.table.id (sym same)) (held.containers c among);
  others = λ q there. ⊎_elim
      (λ (same : q ≡ recipe_name r.set r.version). inl (subst (λ (n : Name). IsNeeded K.state (pinned_containers K.pins) n) (sym same) (needs_recipe K.state (pinned_containers K.pins) r.set r.version of.version of.in_range of.kept)))
      (λ kept. held.others q (subst (λ (b : Option (List ℕ)). IsSome b) kept there))
      (written_or_other m (recipe_name r.set r.version) (Some (recipe_bytes r)) q);
  apart = held.apart;
}

-- where blobs are told

tells_some : (m : Blobs) → IsSome {T = Blobs} (Some m)
tells_some m = refl

pub held_may : (K : Core) (r : Recipe) → K.other ≡ None → {before after : Option Blobs} {past now : Option History} → IsRecipeOfIfTold before K.state r → MayBeWritten before after past now (recipe_name r.set r.version) (Some (recipe_bytes r)) → HeldIfTold before K → HeldIfTold after K
held_may K r none {before} {after} of may held = at before after of may.blobs held
  where
    at : (b a : Option Blobs) → (IsSome b → IsRecipeOf K.state r) → (a ≡ b) ⊎ (a ≡ blobs_with b (recipe_name r.set r.version) (Some (recipe_bytes r))) → HeldIfTold b K → HeldIfTold a K
    at b a of (inl same) held = subst (λ (t : Option Blobs). HeldIfTold t K) (sym same) held
    at None a of (inr same) held = subst (λ (t : Option Blobs). HeldIfTold t K) (sym same) tt
    at (Some m) a of (inr same) held = subst (λ (t : Option Blobs). HeldIfTold t K) (sym same) (held_with K r (of (tells_some m)) K.other refl none m held)

-- at any moment of the put
pub put_moment : (A : State) (r : Recipe) {before after : Option Blobs} {past now : Option History} → ReadsAnImage before past → IsRecipeOfIfTold before A r → MayBeWritten before after past now (recipe_name r.set r.version) (Some (recipe_bytes r))
    → LeavesNowIfTold past (IsNear A None) → LeavesOnlyIfTold past now (IsNear A None)
put_moment A r {before} {after} {past} {now} reads of may here = ⊎_elim
    (λ (told : (m : Blobs) × (before ≡ Some m)). may_write (IsNear A None) may here (near_with A r (of (subst (λ (t : Option Blobs). IsSome t) (sym told.1) (tells_some told.0)))))
    (λ none. silent (IsNear A None) past now none (silent_write may none))
    (told_or_silent before past reads)

-- the blobs behind it stand for the state
pub put_near : (A : State) (r : Recipe) (before after : Option Blobs) → IsRecipeOfIfTold before A r → after ≡ blobs_with before (recipe_name r.set r.version) (Some (recipe_bytes r)) → IfSome before (λ m. Stands m A) → IfSome after (IsNear A None)
put_near A r before after of is stands = subst (λ (t : Option Blobs). IfSome t (IsNear A None)) (sym is) (at before of stands)
  where
    at : (b : Option Blobs) → (IsSome b → IsRecipeOf A r) → IfSome b (λ m. Stands m A) → IfSome (blobs_with b (recipe_name r.set r.version) (Some (recipe_bytes r))) (IsNear A None)
    at None of stands = tt
    at (Some m) of stands = inl (stands_with A r (of (tells_some m)) m stands)

-- a settle changes no blob
pub by_settle : (old mid now : Option Blobs) {with : Option Blobs} → now ≡ mid → (mid ≡ old) ⊎ (mid ≡ with) → (now ≡ old) ⊎ (now ≡ with)
by_settle old mid now same may = ⊎_elim (λ is. inl (same ∙ is)) (λ is. inr (same ∙ is)) may
