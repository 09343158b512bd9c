-- A pass over a stream.
use Rattle.std.specs.Prelude.{◌≡◌, ◌≤◌, ◌<◌, ℕ, List, map, length, Option, Vec}
use Rattle.vault_types.specs.declared.Fp.{Fp}
use Rattle.vault_types.specs.declared.Fault.{Fault}
use Rattle.vault_types.specs.declared.Fault.TheVariants as fault
use Rattle.vault_types.specs.Cuts.{HasCut}
use Rattle.vault_types.specs.Names.{named_chunk}
use Rattle.vault_types.specs.Tables.{Container}
use Rattle.vault_types.specs.Decide.{Rules}
use Rattle.fingerprint_stage.specs.Sums.{HasSummed}
use Rattle.vault_types.specs.JobRanges.{IsCuttable}
use Rattle.backup_pass.specs.Placing.{HasPlaced, answers_of, index_of}
use Rattle.backup_pass.specs.declared.pass.Pass.{Pass}

-- some vectors as lists
abbrev pub bytes_of_all : {Z : Type 0} → List (Vec ℕ Z) → List (List ℕ)
bytes_of_all vs = map (λ v. v.items) vs

-- why a pass stops, where there are so many chunks
abbrev pub IsPassFault : ℕ → ℕ → Fault → Type 0
IsPassFault limit count fault.Memory = Unit {0}
IsPassFault limit count (fault.TooMany n) = (n ≡ limit) × (limit < count)
IsPassFault limit count other = ⊥

-- the index that was lent to the pass
abbrev pub index_in : Pass → List (Fp × List ℕ)
index_in p = index_of p.placer

-- the answers of the pass's index
abbrev pub answers_in : Pass → Fp → Option ℕ
answers_in p = answers_of p.placer

-- the pass was fed the bytes x by these rules, with this limit, its first container has the id
-- first, and it gave these containers out
pub record HasPassed (p : Pass) (r : Rules) (most first : ℕ) (x : List ℕ)
    (gone : List Container) : Type 0 where
  pub cuttable : IsCuttable r.config.cutting
  pub chunks : List (List ℕ)
  pub cut : HasCut p.chunker chunks x
  pub cutting : p.chunker.cutting ≡ r.config.cutting
  pub summed : HasSummed p.sum x
  pub placed : HasPlaced p.placer r first (map named_chunk chunks) gone
  pub count : p.count ≡ length chunks
  pub within : p.count ≤ p.limit
  pub most_is : p.limit ≡ most
