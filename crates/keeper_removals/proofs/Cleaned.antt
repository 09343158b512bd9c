-- What the shelf holds, and what a crash leaves, behind a deletion and the removal of what goes with it.
use Rattle.std.proofs.Common.{◌≡◌, ◌⊎◌, inl, inr, ℕ, ◌<◌, ◌≤◌, ◌+◌, map, length, Bool, false, cond, not, List, [], ◌∷◌, drop, Option, Some, None, max, refl, sym, ◌∙◌, ap, subst, arith}
use Rattle.std.specs.Prelude.{Contains, IsSome, IsErrAnd, Result, Ok, Err, slice_index_or, filter}
use Rattle.vault_types.specs.declared.Fp.{Fp}
use Rattle.vault_types.specs.declared.Name.{Name}
use Rattle.vault_types.specs.declared.Pending.TheVariants.{Not}
use Rattle.vault_types.specs.Lists.{has}
use Rattle.vault_types.specs.State.{State, KeptVersion, named, floor_of, version_of}
use Rattle.vault_types.specs.Blobs.{floor_bytes}
use Rattle.vault_types.specs.Delete.{delete, reclaimed_ids}
use Rattle.vault_types.specs.Shelf.{Blobs, blob_at, floor_name, recipe_name}
use Rattle.vault_types.specs.Events.{Core, IsNear, after_delete, delete_change}
use Rattle.vault_traits.specs.Crash.{History, LeavesNowIfTold, LeavesOnlyIfTold}
use Rattle.vault_traits.specs.Shelf.{blobs_with}
use Rattle.vault_traits.proofs.Maps.{other_blob}
use Rattle.vault_traits.proofs.Moments.{then, more}
use Rattle.fp_index.specs.Index.{IsIndexOf}
use Rattle.restore_pins.specs.Pins.{Listed}
use Rattle.state_laws.specs.Parts.{HeldIfTold, change}
use Rattle.state_laws.proofs.Changing.{recipe_no_floor}
use Rattle.state_laws.proofs.Standing.{needs_recipe}
use Rattle.keeper_parts.proofs.Telling.{tells_with}
use Rattle.keeper_catalog.specs.declared.SetInfo.{SetInfo}
use Rattle.keeper_catalog.specs.Catalog.{Memo, IsMemoOf}
use Rattle.deletion_laws.specs.Deleting.{IsDeleting, AreStraysAfter}
use Rattle.deletion_laws.specs.Removal.{AreIdle}
use Rattle.state_laws.proofs.Members.{here, later, has_contained}
use Rattle.deletion_laws.proofs.Keeping.{delete_same}
use Rattle.deletion_laws.proofs.Going.{told_deleted, told_cleans, told_deleted_same, told_cleans_same}
use Rattle.keeper_removals.specs.Removals.{Removing, Rises}
use Rattle.keeper_removals.proofs.Deleted.{some_info}

-- what holds of a refusal holds of it as it is handed on
pub again : {T E : Type 0} (P : Result T E → Type 0) (f : E) → P (Err f) → (r : Result T E) → IsErrAnd r (λ e. e ≡ f) → P r
again P f h (Ok x) is = absurd is
again {E = E} P f h (Err e) is = subst (λ (d : E). P (Err d)) (sym is) h

none_pass : (p : ℕ → Bool) (xs : List ℕ) → ((x : ℕ) → Contains xs x → p x ≡ false) → filter p xs ≡ []
none_pass p [] none = refl
none_pass p (x ∷ xs) none = ap (λ (b : Bool). cond b (x ∷ filter p xs) (filter p xs)) (none x (here x xs)) ∙ none_pass p xs (λ y there. none y (later x xs y there))

some_before : (b : Option Blobs) (name : Name) (bytes : Option (List ℕ)) → IsSome (blobs_with b name bytes) → IsSome b
some_before None name bytes some = some
some_before (Some m) name bytes some = refl

module _ (m : Memo) (index : List (Fp × List ℕ)) (pins : List Listed) (K : Core) (s n : ℕ) (r : Removing m index pins K s n) where
  -- the floor rises, or stays
  pub rises : (i : SetInfo) (floor : ℕ) → i ≡ slice_index_or m.sets s i → floor ≡ n + 1 → i.floor < floor → Rises K s n floor
  rises i floor is same low = record { is = same; not_below = omega (arith, some_info m index pins K s n r i is) }

  pub stays_even : (i : SetInfo) → i ≡ slice_index_or m.sets s i → n + 1 ≤ i.floor → n + 1 ≤ floor_of K.state s
  stays_even i is low = omega (arith, some_info m index pins K s n r i is)

  -- where it stays

  module _ (even : n + 1 ≤ floor_of K.state s) where
    same : delete K.state s n ≡ K.state
    same = delete_same K.state s n r.core.state even

    pub even_removed : 0 ≡ length (reclaimed_ids K.state (delete K.state s n))
    even_removed = sym (ap (λ (T : State). length (reclaimed_ids K.state T)) same ∙ ap length (none_pass (λ c. not (has c (named K.state))) (named K.state) (λ x there. ap not (has_contained (named K.state) x there))))

    pub even_index : IsIndexOf index (map (λ c. c.table) (delete K.state s n).containers)
    even_index = subst (λ (T : State). IsIndexOf index (map (λ c. c.table) T.containers)) (sym same) r.index_is

    pub even_memo : (strays : List Name) (room : ℕ) → IsMemoOf (record { sets = m.sets; tables = m.tables; markers = m.markers; strays = strays; room = room; spare = m.spare }) (after_delete s n strays K)
    even_memo strays room = subst (λ (T : State). IsMemoOf (record { sets = m.sets; tables = m.tables; markers = m.markers; strays = strays; room = room; spare = m.spare }) (record { state = T; other = None; pins = K.pins; strays = strays; job = K.job; pending = Not })) (sym same)
        (record { sets = r.memo.sets; tables = r.memo.tables; markers = r.memo.markers; strays = refl })

    pub even_held : (b : Option Blobs) → HeldIfTold b K → HeldIfTold b (after_delete s n m.strays K)
    even_held b held = told_deleted_same K s n r.core.state even r.alone m.strays r.memo.strays b held

    pub even_idle : (b : Option Blobs) → HeldIfTold b K → IsSome b → AreIdle (after_delete s n m.strays K) (drop 0 m.strays)
    even_idle b held tells = λ q there. told_cleans_same K s n r.core.state even r.in_range r.low r.no_job r.alone m.strays r.memo.strays b held tells q there

    pub even_now : (past : Option History) → LeavesNowIfTold past (IsNear K.state None) → LeavesNowIfTold past (IsNear (delete K.state s n) None)
    even_now past now = subst (λ (T : State). LeavesNowIfTold past (IsNear T None)) (sym same) now

  pub only_deleted : (past now : Option History) → LeavesOnlyIfTold past now (IsNear (delete K.state s n) None) → LeavesOnlyIfTold past now (IsDeleting K.state s n)
  only_deleted past now leaves = more (IsNear (delete K.state s n) None) (IsDeleting K.state s n) (λ b near. inr near) past now leaves

  -- where it rises, with the names that go among the strays

  module _ (floor : ℕ) (floor_is : floor ≡ n + 1) (up : Rises K s n floor) (strays : List Name) (are : AreStraysAfter K s n strays) (b now : Option Blobs) (is : now ≡ blobs_with b (floor_name s) (Some (floor_bytes s floor))) (held : HeldIfTold b K) where
    pub risen_held : HeldIfTold now (after_delete s n strays K)
    risen_held = told_deleted K s n strays r.core.state r.in_range r.low are floor (omega (arith, up.is, up.not_below)) r.no_job r.alone b now is held

    pub risen_idle : IsSome now → AreIdle (after_delete s n strays K) (drop 0 strays)
    risen_idle tells = λ q there. told_cleans K s n strays r.core.state r.in_range r.low are r.no_job r.alone b held (some_before b (floor_name s) (Some (floor_bytes s floor)) (subst (λ (o : Option Blobs). IsSome o) is tells)) q there

  pub then_deleted : (h0 h1 h2 : Option History) → LeavesOnlyIfTold h0 h1 (IsDeleting K.state s n) → LeavesOnlyIfTold h1 h2 (IsNear (delete K.state s n) None) → LeavesOnlyIfTold h0 h2 (IsDeleting K.state s n)
  then_deleted h0 h1 h2 first second = then (IsDeleting K.state s n) h0 h1 h2 first (only_deleted h1 h2 second)

-- near the state with the floor half written, whichever way the floor is written down
pub floor_half : (K : Core) (s n floor : ℕ) → floor ≡ max (floor_of K.state s) (n + 1) → (past now : Option History) → LeavesOnlyIfTold past now (IsNear K.state (Some (change (floor_name s) (floor_bytes s floor) (delete K.state s n))))
    → LeavesOnlyIfTold past now (IsNear K.state (Some (delete_change s n K.state)))
floor_half K s n floor is past now leaves = subst (λ (f : ℕ). LeavesOnlyIfTold past now (IsNear K.state (Some (change (floor_name s) (floor_bytes s f) (delete K.state s n))))) is leaves

-- no recipe that the state keeps is among names that may go
pub recipe_apart : (K : Core) (names : List Name) → AreIdle K names → (s v : ℕ) (k : KeptVersion) → s < length K.state.datasets → version_of K.state s v ≡ Some k → Contains names (recipe_name s v) → ⊥
recipe_apart K names idle s v k below is there = (idle (recipe_name s v) there).0.free.unneeded (needs_recipe K.state [] s v k below is)

-- a floor's write leaves each recipe, and a shelf that tells its blobs goes on
module _ (before after : Option Blobs) (s floor : ℕ) where
  pub floor_leaves : (after ≡ before) ⊎ (after ≡ blobs_with before (floor_name s) (Some (floor_bytes s floor))) → (t v : ℕ) → blob_at after (recipe_name t v) ≡ blob_at before (recipe_name t v)
  floor_leaves may t v =
      other_blob {before = before} {after = after} {past = None} {now = None} {name = floor_name s} {bytes = Some (floor_bytes s floor)} (record { blobs = may; history = inl refl }) (recipe_name t v) (recipe_no_floor t v s)

  pub floor_tells : after ≡ blobs_with before (floor_name s) (Some (floor_bytes s floor)) → IsSome before → IsSome after
  floor_tells is tells = subst (λ (o : Option Blobs). IsSome o) (sym is) (tells_with before (floor_name s) (Some (floor_bytes s floor)) tells)

  pub floor_goes_on : (after ≡ before) ⊎ (after ≡ blobs_with before (floor_name s) (Some (floor_bytes s floor))) → IsSome before → IsSome after
  floor_goes_on (inl same) tells = subst (λ (o : Option Blobs). IsSome o) (sym same) tells
  floor_goes_on (inr is) tells = floor_tells is tells
