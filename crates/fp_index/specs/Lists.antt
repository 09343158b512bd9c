-- The lists of containers by fingerprint, as a map keeps them.
use Rattle.std.specs.Prelude.{◌≡◌, ℕ, ◌<◌, ◌⊎◌, Bool, true, not, List, map, filter, nat_eq, vec_len, vec_capacity, IsSomeAnd}
use Rattle.std.specs.Global.{Vec}
use Rattle.std.specs.List.{AllByRecursion, list_any}
use Rattle.std.specs.Map.{lookup}
use Rattle.vault_types.specs.declared.Fp.{Fp}
use Rattle.vault_types.specs.declared.TableRow.{TableRow}
use Rattle.vault_types.specs.Lists.{has, IsAscending}
use Rattle.vault_types.specs.Names.{same_fp}
use Rattle.fp_index.specs.Index.{ids_for}

-- the entries, where each vector is its list
abbrev pub lists : List (Fp × Vec ℕ) → List (Fp × List ℕ)
lists entries = map (λ e. (e.0, e.1.items)) entries

-- the ids at a fingerprint
abbrev pub ids_in : List (Fp × Vec ℕ) → Fp → List ℕ
ids_in entries f = ids_for (lists entries) f

-- each list ascends
abbrev pub AllAscend : List (Fp × Vec ℕ) → Type 0
AllAscend entries = (f : Fp) → IsAscending (ids_in entries f)

-- the id is in the list, or there is room for it
abbrev pub HasRoomFor : ℕ → Vec ℕ → Type 0
HasRoomFor id v = (has id v.items ≡ true) ⊎ (vec_len v < vec_capacity v)

-- so for the list of the fingerprint
abbrev pub TakesId : List (Fp × Vec ℕ) → ℕ → Fp → Type 0
TakesId entries id f = IsSomeAnd (lookup (same_fp f) entries) (HasRoomFor id)

-- so for that of each row
abbrev pub TakesRows : List (Fp × Vec ℕ) → ℕ → List TableRow → Type 0
TakesRows entries id rows = AllByRecursion (λ r. TakesId entries id r.fp) rows

-- the ids but one
abbrev pub without : ℕ → List ℕ → List ℕ
without id ids = filter (λ n. not (nat_eq n id)) ids

-- whether a row has the fingerprint
abbrev pub row_has : Fp → List TableRow → Bool
row_has f rows = list_any (λ r. same_fp r.fp f) rows
