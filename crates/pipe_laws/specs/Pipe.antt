-- A pipeline of four stages when all its ends are back, and what that tells of what came out.
use Rattle.std.specs.Prelude.{◌≡◌, ◌⊎◌, ◌<◌, ◌≤◌, ℕ, Bool, List, map, length, Option, Some, None}
use Rattle.std.specs.List.{concat}
use Rattle.vault_types.specs.declared.Cutting.{Cutting}
use Rattle.vault_types.specs.declared.Fault.{Fault}
use Rattle.vault_types.specs.declared.Fault.TheVariants as fault
use Rattle.vault_types.specs.declared.Flow.{Flow}
use Rattle.vault_types.specs.declared.Fp.{Fp}
use Rattle.vault_types.specs.declared.How.{How}
use Rattle.vault_types.specs.Cuts.{cuts}
use Rattle.vault_types.specs.Names.{NamedChunk, named_chunk}
use Rattle.vault_types.specs.Decide.{Rules}
use Rattle.vault_types.specs.Stages.{IsFront, Sends, chunk_items, decided_items, decided_parts}
use Rattle.stage_flows.specs.declared.Last.{Last}
use Rattle.stage_flows.specs.declared.Last.TheVariants as last
use Rattle.stage_flows.specs.Runs.{run}
use Rattle.vault_types.specs.JobRanges.{IsCuttable}
use Rattle.hash_stage.specs.Hashing.{IsHashed}
use Rattle.source_reads.specs.Reading.{HasRead}
use Rattle.stage_lanes.specs.Lanes.{lane_parts, picked_from}
use Rattle.stage_rules.specs.Chunking.{chunks_of, IsChunking}
use Rattle.stage_rules.specs.Deciding.{IsDecidedBy, IsDeciding}

-- a lane: what was dealt to it, what its stage took and has to send, and what was taken at its far
-- end
pub record LaneBack (dealt far : List (Flow (List ℕ))) : Type 0 where
  pub took : List (Flow (List ℕ))
  pub out : List (Flow (List ℕ))
  pub over : Option Last
  pub near_line : IsFront took dealt
  pub named : IsHashed took out over
  pub far_line : IsFront far out

-- a pipeline: what the source gave, by reads, and how that ended; what the summing stage took and
-- sent on; what the chunking stage took and dealt; what the deciding stage took and decided; and
-- what was taken at the far end
pub record Pipe (c : Cutting) (find : Fp
    → Option ℕ) (r : Rules) (limit lanes read : ℕ) (saw : Bool) (out : List (Flow (List ℕ))) (over : Option Last) (far : List (Flow (NamedChunk × How))) : Type 0 where
  pub cuttable : IsCuttable c
  pub some : 0 < lanes
  pub reading : HasRead limit read out over saw
  pub reads : List (List ℕ)
  pub reads_over : Option Last
  pub summed : List (List ℕ)
  pub summed_over : Option Last
  pub first_line : IsFront (run summed summed_over) out
  pub second_line : IsFront (run reads reads_over) (run summed summed_over)
  pub chunks : List (List ℕ)
  pub chunks_over : Option Last
  pub chunking : IsChunking c limit reads reads_over chunks chunks_over
  pub named : List (List ℕ)
  pub named_over : Option Last
  pub middle_lines : (j : ℕ) → j < lanes
      → LaneBack (run (lane_parts lanes 0 j chunks) chunks_over) (picked_from lanes named named_over j)
  pub decided : List (NamedChunk × How)
  pub decided_over : Option Last
  pub deciding : IsDecidedBy find r limit (map named_chunk named) named_over decided decided_over
  pub last_line : IsFront far (run decided decided_over)

-- why a pipeline failed: the source's own fault or a limit of the reading stage, a want of memory,
-- or too many chunks
abbrev pub IsPipeFault : Cutting → ℕ → List (List ℕ) → Option Last → Fault → Type 0
IsPipeFault c limit reads over f =
    (over ≡ Some (last.Failed f))
    ⊎ ((f ≡ fault.Memory)
    ⊎ ((f ≡ fault.TooMany limit) × (taken : List (List ℕ)) × (taken_over : Option Last)
    × IsFront taken reads × ((taken_over ≡ None) ⊎ ((taken_over ≡ over) × (taken ≡ reads)))
    × (limit < length (chunks_of c taken taken_over))))

-- what came out: parts, no more than the limit, which begin the decisions on all chunks of all that
-- was read; and a last item, if it came. With the end they are all of them, to the source's end
pub record ReadBack (c : Cutting) (find : Fp
    → Option ℕ) (r : Rules) (limit : ℕ) (reads : List (List ℕ)) (over : Option Last) (far : List (Flow (NamedChunk × How))) : Type 0 where
  pub parts : List (NamedChunk × How)
  pub l : Option Last
  pub far_is : far ≡ run parts l
  pub few : length parts ≤ limit
  pub front : IsFront parts (decided_parts find r (map named_chunk (cuts (concat reads) c)))
  pub ended : l ≡ Some last.End → (over ≡ Some last.End)
      × (parts ≡ decided_parts find r (map named_chunk (cuts (concat reads) c)))
      × (length (cuts (concat reads) c) ≤ limit)
  pub failed : (f : Fault) → l ≡ Some (last.Failed f) → IsPipeFault c limit reads over f
  pub stopped : l ≡ Some last.Stopped → over ≡ Some last.Stopped

-- a last item that was taken was sent by the stage before: that of the deciding stage came out, what
-- it took was the chunking stage's, and what that took the reading stage's. Where the last item that
-- came out is no fault, the chunking stage and the deciding stage ended with it, and where it is the
-- end, all that was read was summed
pub record AsOne (reads : List (List ℕ)) (over : Option Last) (summed : List (List ℕ)) (reads_over chunks_over named_over decided_over : Option Last) (far : List (Flow (NamedChunk × How))) : Type 0 where
  pub far_last : (parts : List (NamedChunk × How)) (k : Last) → far ≡ run parts (Some k)
      → decided_over ≡ Some k
  pub lane_last : (k : Last) → named_over ≡ Some k → chunks_over ≡ Some k
  pub read_last : (k : Last) → reads_over ≡ Some k → over ≡ Some k
  pub whole : (parts : List (NamedChunk × How)) → far ≡ run parts (Some last.End) → summed ≡ reads
  pub one : (parts : List (NamedChunk × How)) (k : Last) → far ≡ run parts (Some k)
      → ((f : Fault) → k ≡ last.Failed f → ⊥) → (chunks_over ≡ Some k) × (decided_over ≡ Some k)

abbrev pub IsAsOne : Type 0
IsAsOne =
    (c : Cutting) (find : Fp
    → Option ℕ) (r : Rules) (limit lanes read : ℕ) (saw : Bool) (out : List (Flow (List ℕ))) (over : Option Last) (far : List (Flow (NamedChunk × How)))
    → (p : Pipe c find r limit lanes read saw out over far)
    → AsOne p.reading.reads over p.summed p.reads_over p.chunks_over p.named_over p.decided_over far

abbrev pub IsReadBack : Type 0
IsReadBack =
    (c : Cutting) (find : Fp
    → Option ℕ) (r : Rules) (limit lanes read : ℕ) (saw : Bool) (out : List (Flow (List ℕ))) (over : Option Last) (far : List (Flow (NamedChunk × How)))
    → (p : Pipe c find r limit lanes read saw out over far) → ReadBack c find r limit p.reading.reads over far

-- what the chunking stage has sent is that of the definition by flows
abbrev pub IsChunkingByFlows : Type 0
IsChunkingByFlows =
    (c : Cutting) (limit : ℕ) (reads : List (List ℕ)) (over : Option Last) (parts : List (List ℕ)) (l : Option Last)
    → IsChunking c limit reads over parts l → Sends (chunk_items c limit (run reads over)) (run parts l)

-- and what the deciding stage has sent
abbrev pub IsDecidingByFlows : Type 0
IsDecidingByFlows =
    (find : Fp
    → Option ℕ) (r : Rules) (limit : ℕ) (chunks : List NamedChunk) (over : Option Last) (parts : List (NamedChunk × How)) (l : Option Last)
    → IsDeciding find r limit chunks over parts l
    → Sends (decided_items find r limit (run chunks over)) (run parts l)
