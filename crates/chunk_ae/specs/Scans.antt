-- What is known of a chunk while its bytes pass. Positions count from 1.
use Rattle.std.specs.Prelude.{◌≡◌, ℕ, ◌+◌, ◌<◌, ◌≤◌, false, List, ◌++◌, length, take, min, max, Some}
use Rattle.std.specs.List.{AllByRecursion}
use Rattle.vault_types.specs.declared.Cutting.TheVariants.{Ae}
use Rattle.vault_types.specs.Cuts.{value_at, ends_at, settled_len}
use Rattle.chunk_ae.specs.declared.scan.Scan.{Scan}
use Rattle.chunk_ae.specs.declared.scan.Scanned.{Scanned}
use Rattle.chunk_ae.specs.declared.scan.Scanned.TheVariants.{End, Open}

-- the chunk's bytes so far are x. Its last value is recent; the value at place is the first of the
-- greatest; and where no greater one comes, the chunk has the length end
pub record IsPeak (window most : ℕ) (x : List ℕ) (recent peak end : ℕ) : Type 0 where
  pub bytes : AllByRecursion (λ b. b < 256) x
  pub recent_is : recent ≡ value_at x (length x)
  pub place : ℕ
  pub low : 1 ≤ place
  pub high : place ≤ max 1 (length x)
  pub peak_is : peak ≡ value_at x place
  pub earlier : (p : ℕ) → 1 ≤ p → p < place → value_at x p < value_at x place
  pub later : (p : ℕ) → place < p → p ≤ length x → value_at x p ≤ value_at x place
  pub end_is : end ≡ min (place + window) most

-- the chunk may not end so far
pub record IsScan (window most : ℕ) (x : List ℕ) (s : Scan) : Type 0 where
  pub len : s.len ≡ length x
  pub peak : IsPeak window most x s.recent s.peak s.end
  pub before : length x < s.end
  pub none : (n : ℕ) → 1 ≤ n → n ≤ length x → ends_at window most x n ≡ false

-- the piece ends the chunk after so many bytes
pub record IsEnd (window most : ℕ) (x piece : List ℕ) (taken : ℕ) : Type 0 where
  pub some : 1 ≤ taken
  pub within : taken ≤ length piece
  pub fixed : settled_len (Ae window most) (x ++ take taken piece) ≡ Some (length (x ++ take taken piece))

abbrev pub IsScanned : ℕ → ℕ → List ℕ → List ℕ → Scanned → Type 0
IsScanned window most x piece (End taken) = IsEnd window most x piece taken
IsScanned window most x piece (Open s) = IsScan window most (x ++ piece) s
