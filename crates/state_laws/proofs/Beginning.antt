-- The empty store: it is valid, and no blobs stand for it.
use Rattle.std.proofs.Common.{◌≡◌, inr, ℕ, zero, suc, ◌+◌, ◌-◌, length, map, Bool, true, false, cond, [], Option, None, refl, sym, ◌∙◌, ap, subst, arith, replicate}
use Rattle.std.specs.Prelude.{fold, max, IfSome, slice_index_or, nat_lt, slice_get}
use Rattle.std.specs.List.{AllByRecursion}
use Rattle.vault_types.specs.Lists.{set_of}
use Rattle.std.specs.FinMap as fin
use Rattle.vault_types.specs.declared.Name.{Name}
use Rattle.vault_types.specs.State.{Dataset, KeptVersion, empty_dataset, empty_state, floor_of, latest_of, next_of, next_in, version_of, version_in, all_rows, IsDataset, IsValid, HasFp}
use Rattle.vault_types.specs.Shelf.{Blobs, recipe_name, floor_name, IsRecipeBlob, Stands}

all_empty : (n : ℕ) → AllByRecursion IsDataset (replicate n empty_dataset)
all_empty zero = tt
all_empty (suc n) = (record { floor = omega arith; fresh = λ e. refl; last = omega arith; each = tt; sums = tt; rising = tt }, all_empty n)

pub no_rows : (n : ℕ) → all_rows (replicate n empty_dataset) ≡ []
no_rows zero = refl
no_rows (suc n) = no_rows n

pub dataset_empty : (n s : ℕ) → slice_index_or (replicate n empty_dataset) s empty_dataset ≡ empty_dataset
dataset_empty zero s = refl
dataset_empty (suc n) zero = refl
dataset_empty (suc n) (suc s) = dataset_empty n s

pub sets_of : (n : ℕ) → length (replicate n empty_dataset) ≡ n
sets_of zero = refl
sets_of (suc n) = omega (arith, sets_of n)

pub empty_valid : IsValid (empty_state 256)
empty_valid = record {
  sets = sets_of 256;
  datasets = all_empty 256;
  containers = ap (λ rows. set_of (map (λ r. r.id) rows)) (sym (no_rows 256));
  tables = tt;
  rows = subst (λ rows. AllByRecursion (HasFp []) rows) (sym (no_rows 256)) tt;
}

pub floor_one : (s : ℕ) → floor_of (empty_state 256) s ≡ 1
floor_one s = ap (λ (d : Dataset). d.floor) (dataset_empty 256 s)

pub latest_zero : (s : ℕ) → latest_of (empty_state 256) s ≡ 0
latest_zero s = ap (λ (d : Dataset). d.floor + length d.versions - 1) (dataset_empty 256 s)

pub no_version : (s v : ℕ) → version_of (empty_state 256) s v ≡ None
no_version s v = ap (λ (d : Dataset). version_in d v) (dataset_empty 256 s) ∙ none (nat_lt v 1)
  where
    none : (b : Bool) → cond b None (slice_get {X = KeptVersion} [] (v - 1)) ≡ None
    none true = refl
    none false = refl

-- the empty store's next id
next_one : (n : ℕ) → fold max 1 (map next_in (replicate n empty_dataset)) ≡ 1
next_one zero = refl
next_one (suc n) = next_one n

pub next_first : next_of (empty_state 256) ≡ 1
next_first = next_one 256

-- a shelf without blobs stands for the empty store
pub bare_stands : (m : Blobs) → ((n : Name) → fin.get m n ≡ None) → Stands m (empty_state 256)
bare_stands m bare = record {
  floors = λ s below. inr (floor_one s, bare (floor_name s));
  recipes = λ s v below. subst (λ (o : Option KeptVersion). IfSome o (λ k. IsRecipeBlob (empty_state 256) s v k (fin.get m (recipe_name s v)))) (sym (no_version s v)) tt;
  containers = λ c among. absurd (omega (arith, among.1));
  newest = λ s v below later last. bare (recipe_name s v);
}
