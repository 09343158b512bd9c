-- What the deciding stage has to send: `decided_items` of the definition, by parts and a last item.
use Rattle.std.specs.Prelude.{◌≡◌, ◌<◌, ◌⊎◌, Some, ◌+◌, ℕ, List, ◌++◌, length, take, nat_le, if◌then◌else◌, Option}
use Rattle.vault_types.specs.declared.Fault.{Fault}
use Rattle.vault_types.specs.declared.Fault.TheVariants as fault
use Rattle.vault_types.specs.declared.Fp.{Fp}
use Rattle.vault_types.specs.declared.How.{How}
use Rattle.vault_types.specs.Names.{NamedChunk}
use Rattle.vault_types.specs.Decide.{Rules}
use Rattle.vault_types.specs.Stages.{decided_parts, complete_chunks, IsFront}
use Rattle.stage_flows.specs.declared.Last.{Last}
use Rattle.stage_flows.specs.declared.Last.TheVariants as last
use Rattle.stage_flows.specs.Runs.{is_end, Sent}
use Rattle.stage_rules.specs.Chunking.{limited_last}

-- the chunks of the segments that are complete, and of all once the end came
abbrev pub whole_segments : ℕ → List NamedChunk → Option Last → List NamedChunk
whole_segments segment chunks over = if is_end over then chunks else complete_chunks segment chunks

-- the decisions that are due
abbrev pub decisions_due : (Fp → Option ℕ) → Rules → ℕ → List NamedChunk → Option Last
    → List (NamedChunk × How)
decisions_due find r limit chunks over =
    if nat_le (length chunks) limit
    then decided_parts find r (whole_segments r.config.segment chunks over)
    else decided_parts find r (complete_chunks r.config.segment (take (limit + 1) chunks))

abbrev pub IsDeciding : (Fp → Option ℕ) → Rules → ℕ → List NamedChunk → Option Last
    → List (NamedChunk × How) → Option Last → Type 0
IsDeciding find r limit chunks over parts l = Sent (decisions_due find r limit chunks over) (limited_last limit (length chunks) over) parts l

-- with the end all was decided, and without it what was given begins the decisions on all chunks,
-- whatever chunks come later; each fault has its cause; a stop was taken
pub record IsDecidedBy (find : Fp
    → Option ℕ) (r : Rules) (limit : ℕ) (chunks : List NamedChunk) (over : Option Last) (parts : List (NamedChunk × How)) (l : Option Last) : Type 0 where
  pub ended : l ≡ Some last.End → (over ≡ Some last.End) × (parts ≡ decided_parts find r chunks)
  pub front : (l ≡ Some last.End → ⊥) → (more : List NamedChunk)
      → IsFront parts (decided_parts find r (chunks ++ more))
  pub failed : (f : Fault) → l ≡ Some (last.Failed f) → (over ≡ Some (last.Failed f))
      ⊎ (((f ≡ fault.TooMany limit) × (limit < length chunks)) ⊎ (f ≡ fault.Memory))
  pub stopped : l ≡ Some last.Stopped → over ≡ Some last.Stopped
