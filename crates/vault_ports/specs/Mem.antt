-- What is seen of a shelf in memory.
use Rattle.std.specs.Prelude.{ℕ, ◌+◌, List, [], ◌∷◌, ◌++◌, Option, None, Some, Vec, map, refl, ◌≡◌, ◌≢◌}
use Rattle.std.specs.declared.alloc.Global.{Global}
use Rattle.std.specs.Coded.{Coded, code_by, coded×, coded_ℕ}
use Rattle.std.specs.FinMap as map_of
use Rattle.std.specs.Set.{is_member}
use Rattle.std.specs.Ordering.{eq_by_cmp}
use Rattle.std.specs.List.Sorted.{IsStrictlySortedBy}
use Rattle.std.proofs.Common.{subst, sym}
use Rattle.vault_types.specs.declared.Name.{Name}
use Rattle.vault_types.specs.declared.Kind.TheVariants.{Floor}
use Rattle.vault_types.specs.Shelf.{Blobs, with_blob, floor_name, name_cmp}
use Rattle.vault_traits.specs.Codes.{coded_blobs}

-- names and their bytes as a map; of a name that stands twice, the first
abbrev pub blobs_of : List (Name × Vec ℕ Global) → Blobs
blobs_of entries = map_of.from_entries (map (λ e. (e.0, e.1.items)) entries)

-- the floors of the sets from s on
abbrev pub floors_from : ℕ → List (Option (List ℕ)) → Blobs
floors_from s [] = map_of.empty
floors_from s (f ∷ fs) = with_blob (floors_from (s + 1) fs) (floor_name s) f

-- what is on one map, and else on the other
abbrev pub overlaid : Blobs → Blobs → Blobs
overlaid over under = map_of.from_entries (map_of.entries over ++ map_of.entries under)

-- only floors are there
abbrev pub HasOnlyFloors : Blobs → Type 0
HasOnlyFloors m = (q : Name) → q.kind ≢ Floor → map_of.get m q ≡ None

-- the blobs, and the count of payload gets
pub record Shown : Type 0 where
  pub blobs : Blobs
  pub gets : ℕ

abbrev pub coded_shown : Coded Shown
coded_shown =
    code_by (Blobs × ℕ) (coded× coded_blobs coded_ℕ) (λ s. (s.blobs, s.gets))
    (λ p. record { blobs = p.0; gets = p.1 }) (λ _. refl)

-- the same names in order, each once
pub record IsInOrder (ordered names : List Name) : Type 0 where
  pub sorted : IsStrictlySortedBy name_cmp ordered
  pub same : (q : Name) → is_member (eq_by_cmp name_cmp) ordered q ≡ is_member (eq_by_cmp name_cmp) names q

is_told : {A : Type 0} → Option A → Type 0
is_told None = ⊥
is_told (Some x) = Unit {0}

-- a shelf that tells no history
pub none_told : {A : Type 0} (h : A) → ◌≡◌ {A = Option A} None (Some h) → ⊥
unfolding is_told
none_told {A} h e = subst is_told (sym e) tt
