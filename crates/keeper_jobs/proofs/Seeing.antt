-- What the memory of the sets says of a core that is mended.
use Rattle.std.proofs.Common.{◌≡◌, ◌<◌, ◌≤◌, ◌+◌, ◌-◌, ℕ, zero, suc, length, map, List, [], ◌∷◌, Option, Some, None, refl, sym, ◌∙◌, ap, subst, arith, get_or}
use Rattle.std.specs.Prelude.{◌≢◌, IfSome, slice_index_or}
use Rattle.std.specs.List.{AllByRecursion}
use Rattle.std.proofs.lemmas.List.{get_or_default}
use Rattle.std.proofs.Math.ListN.{get_or-map}
use Rattle.vault_types.specs.declared.Pending.{Pending}
use Rattle.vault_types.specs.declared.Pending.TheVariants.{Not, Opened, FailedFor}
use Rattle.vault_types.specs.State.{State, Dataset, KeptVersion, dataset, empty_dataset, floor_of, latest_of, IsDataset, IsValid}
use Rattle.vault_types.specs.Shelf.{recipe_name}
use Rattle.vault_types.specs.Events.{Core, Change, IsChange}
use Rattle.state_laws.specs.Parts.{Mends, IsOf}
use Rattle.state_laws.proofs.Changing.{recipe_same, latest_low}
use Rattle.keeper_catalog.specs.declared.SetInfo.{SetInfo}
use Rattle.keeper_catalog.specs.Catalog.{set_info}
use Rattle.keeper_jobs.specs.Jobs.{mended_by, Sees}

pub not_failed : (s : ℕ) → ◌≡◌ {A = Pending} Not (FailedFor s) → ⊥
not_failed s e = cc

pub opened_failed : (s : ℕ) → ◌≡◌ {A = Pending} Opened (FailedFor s) → ⊥
opened_failed s e = cc

pub failed_same : (s t : ℕ) → ◌≡◌ {A = Pending} (FailedFor s) (FailedFor t) → s ≡ t
failed_same s t e = cc

pub some_same : {A : Type 0} (x y : A) → ◌≡◌ {A = Option A} (Some x) (Some y) → x ≡ y
some_same x y e = cc

pub none_some : {A : Type 0} (x : A) → ◌≡◌ {A = Option A} None (Some x) → ⊥
none_some x e = cc

no_other : (K : Core) → (p : Pending) → K.pending ≡ p → ((s : ℕ) → p ≡ FailedFor s → ⊥) → (o : Option Change) → IfSome o (λ h. (s : ℕ) × (K.pending ≡ FailedFor s) × IsChange K.state s h) → o ≡ None
no_other K p is none None other = refl
no_other K p is none (Some h) other = absurd (none other.0 (sym is ∙ other.1))

-- a core that isn't pending after a failure has nothing half done
pub alone : (K : Core) → IfSome K.other (λ h. (s : ℕ) × (K.pending ≡ FailedFor s) × IsChange K.state s h) → (p : Pending) → K.pending ≡ p → ((s : ℕ) → p ≡ FailedFor s → ⊥) → K.other ≡ None
alone K other p is none = no_other K p is none K.other other

other_of : (K : Core) (m : ℕ) → K.pending ≡ FailedFor m → (o : Option Change) → IfSome o (λ h. (s : ℕ) × (K.pending ≡ FailedFor s) × IsChange K.state s h) → IsOf K.state m o
other_of K m is None other = other
other_of K m is (Some h) other = subst (λ (s : ℕ). IsChange K.state s h) (failed_same other.0 m (sym other.1 ∙ is)) other.2

length_map : {X Y : Type 0} (f : X → Y) (xs : List X) → length (map f xs) ≡ length xs
length_map f [] = refl
length_map f (x ∷ xs) = ap suc (length_map f xs)

module _ (sets : List SetInfo) (p : Pending) (K : Core) (sees : Sees sets p K) where
  pub same_len : length sets ≡ length K.state.datasets
  same_len = ap length sees.sets_are ∙ length_map set_info K.state.datasets

  pub info_is : (m : ℕ) (i : SetInfo) → m < length sets → i ≡ slice_index_or sets m i → i ≡ set_info (dataset K.state m)
  info_is m i below is = is ∙ get_or_default sets m i (set_info empty_dataset) below ∙ ap (λ (l : List SetInfo). get_or l m (set_info empty_dataset)) sees.sets_are ∙ get_or-map set_info K.state.datasets m empty_dataset

  in_range : (s m : ℕ) → s < length sets → (q : Pending) → p ≡ q → mended_by q s ≡ Some m → m < length K.state.datasets
  in_range s m below Not is mended = absurd (none_some m mended)
  in_range s m below Opened is mended = let e : s ≡ m = some_same s m mended in omega (arith, same_len)
  in_range s m below (FailedFor t) is mended = let e : t ≡ m = some_same t m mended in subst (λ (u : ℕ). u < length K.state.datasets) e (sees.core.failed t (sym sees.pending_is ∙ is))

  pub mended_below : (s m : ℕ) → s < length sets → mended_by p s ≡ Some m → m < length sets
  mended_below s m below mended = omega (arith, in_range s m below p refl mended, same_len)

  of_mended : (s m : ℕ) → (q : Pending) → p ≡ q → mended_by q s ≡ Some m → IsOf K.state m K.other
  of_mended s m Not is mended = absurd (none_some m mended)
  of_mended s m Opened is mended = subst (λ (o : Option Change). IsOf K.state m o) (sym (alone K sees.core.other Opened (sym sees.pending_is ∙ is) opened_failed)) tt
  of_mended s m (FailedFor t) is mended = other_of K m (sym sees.pending_is ∙ is ∙ ap FailedFor (some_same t m mended)) K.other sees.core.other

  pub mends : (s m : ℕ) (i : SetInfo) → s < length sets → mended_by p s ≡ Some m → i ≡ slice_index_or sets m i → Mends K m (i.latest + 1) i.floor
  mends s m i below mended is =
      let e = info_is m i (mended_below s m below mended) is in
      record {
        valid = sees.core.state;
        in_range = in_range s m below p refl mended;
        version = ap (λ (j : SetInfo). j.latest + 1) e;
        floor = ap (λ (j : SetInfo). j.floor) e;
        of = of_mended s m p refl mended;
      }

floors_low : (ds : List Dataset) (s : ℕ) → AllByRecursion IsDataset ds → (slice_index_or ds s empty_dataset).floor ≤ 4294967294
floors_low [] s h = omega arith
floors_low (d ∷ ds) zero h = low d.versions h.0.fresh h.0.last
  where
    low : (vs : List KeptVersion) → (vs ≡ [] → d.floor ≡ 1) → d.floor + length vs - 1 ≤ 4294967294 → d.floor ≤ 4294967294
    low [] fresh last = omega (arith, fresh refl)
    low (v ∷ vs) fresh last = omega arith
floors_low (d ∷ ds) (suc s) h = floors_low ds s h.1

pub floor_low : (S : State) (s : ℕ) → IsValid S → floor_of S s ≤ 4294967294
floor_low S s valid = floors_low S.datasets s valid.datasets

-- no kept recipe is the one that a mending takes out
pub not_mended : (K : Core) (m x w : ℕ) → Mends K m x w → (s v : ℕ) → v ≤ latest_of K.state s → recipe_name s v ≢ recipe_name m x
not_mended K m x w mends s v low is =
    let a = latest_low K.state s mends.valid in
    let b = latest_low K.state m mends.valid in
    let e = recipe_same s v m x (omega (arith, a, low)) (omega (arith, b, mends.version)) is in
    let there : v ≤ latest_of K.state m = subst (λ (t : ℕ). v ≤ latest_of K.state t) e.0 low in
    absurd (omega (arith, there, e.1, mends.version))
