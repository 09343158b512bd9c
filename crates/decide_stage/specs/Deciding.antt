-- What the deciding stage keeps.
use Rattle.std.specs.Prelude.{◌≡◌, ◌≤◌, ℕ, ◌+◌, Bool, true, false, List, [], ◌∷◌, ◌++◌, map, length, Option, None, Some, Result, Ok, Err, IsSome, slice_get}
use Rattle.std.specs.Option.{is_some}
use Rattle.vault_types.specs.declared.Fault.{Fault}
use Rattle.vault_types.specs.declared.Flow.{Flow}
use Rattle.vault_types.specs.declared.Fp.{Fp}
use Rattle.vault_types.specs.declared.How.{How}
use Rattle.vault_types.specs.Names.{NamedChunk, named_chunk}
use Rattle.vault_types.specs.Decide.{Rules}
use Rattle.vault_types.specs.Stages.{decided_parts, complete_chunks, IsFront}
use Rattle.fp_index.specs.Index.{found_in}
use Rattle.rewrite_stage.specs.declared.Decided.{Decided}
use Rattle.stage_queue.specs.Ends.{Sender, Receiver}
use Rattle.stage_flows.specs.declared.Last.{Last}
use Rattle.stage_flows.specs.Runs.{run, memory}
use Rattle.stage_lanes.specs.Lanes.{AllAt, lane_parts, picked_from}
use Rattle.stage_lanes.specs.Dealing.{HasDealt, HasPicked}
use Rattle.stage_lanes.specs.declared.dealer.Dealer.{Dealer}
use Rattle.stage_lanes.specs.declared.picker.Picker.{Picker}
use Rattle.stage_rules.specs.Chunking.{IsOwnFault}
use Rattle.stage_rules.specs.Deciding.{IsDecidedBy, IsDeciding}
use Rattle.segment_gather.specs.Segmented.{parts_of}
use Rattle.segment_gather.specs.Gathering.{HasGathered, index_of}
use Rattle.segment_gather.specs.declared.gatherer.Gatherer.{Gatherer}

-- an item as a chunk, and as a last one
abbrev pub chunk_of : Result (List ℕ) Last → List NamedChunk
chunk_of (Ok x) = named_chunk x ∷ []
chunk_of (Err l) = []

abbrev pub last_in : Result (List ℕ) Last → Option Last
last_in (Ok x) = None
last_in (Err l) = Some l

-- a gatherer that goes on; where it does not, the last item was given
abbrev pub GoesOn : Bool → Rules → ℕ → List NamedChunk → Option Last → List (NamedChunk × How)
    → Option Last → Gatherer → ℕ → Type 0
GoesOn false r limit chunks over parts l g count = IsSome l
GoesOn true r limit chunks over parts l g count = HasGathered g r chunks parts × (count ≡ length chunks)
    × (count ≤ limit) × (l ≡ None) × (over ≡ None)

-- where memory was short: what was given begins what is decided of the complete segments of the chunks
-- up to there and any that came later
pub record ShortAt (find : Fp
    → Option ℕ) (r : Rules) (limit : ℕ) (chunks : List NamedChunk) (parts : List (NamedChunk
    × How)) : Type 0 where
  pub base : List NamedChunk
  pub base_is : IsFront base chunks
  pub few : length base ≤ limit + 1
  pub later : (more : List NamedChunk)
      → IsFront parts (decided_parts find r (complete_chunks r.config.segment (base ++ more)))

-- of these chunks, and this last item behind them, if it came, the stage has given what is due
pub record HasJudged (index : List (Fp
    × List ℕ)) (r : Rules) (limit : ℕ) (chunks : List NamedChunk) (over : Option Last) (goes : Bool) (g : Gatherer) (count : ℕ) (d : Dealer Decided) (raised : Bool) : Type 0 where
  pub index_is : index_of g ≡ index
  pub gone : List Decided
  pub l : Option Last
  pub dealt : HasDealt d gone l
  pub goes_on : GoesOn goes r limit chunks over (parts_of gone) l g count
  pub decided : IsDecidedBy (found_in index) r limit chunks over (parts_of gone) l
  pub due : IsDeciding (found_in index) r limit chunks over (parts_of gone) l
  pub short : l ≡ memory → ShortAt (found_in index) r limit chunks (parts_of gone)
  pub own : Option Fault
  pub own_is : IsOwnFault own over l
  pub raised_is : raised ≡ is_some own

-- the same of the stage as a whole: what it took of its lanes in turn
pub record HasTaken (r : Rules) (limit : ℕ) (p : Picker (List ℕ)) (goes : Bool) (g : Gatherer) (count : ℕ) (d : Dealer Decided) (raised : Bool) : Type 0 where
  pub chunks : List (List ℕ)
  pub picked : HasPicked p chunks p.last
  pub judged : HasJudged (index_of g) r limit (map named_chunk chunks) p.last goes g count d raised

-- what the ends of a stage say when it is back: what it took of its lanes in turn, what it decided
-- of that, that what was sent begins it, and that it raised the word exactly where it sent a fault
-- of its own
pub record IsBack (find : Fp
    → Option ℕ) (r : Rules) (limit : ℕ) (lanes : List (Receiver (Flow (List ℕ)))) (over : Option Last) (outs : List (Sender (Flow Decided))) (raised : Bool) : Type 0 where
  pub chunks : List (List ℕ)
  pub picked : AllAt
      (λ (t : Receiver (Flow (List ℕ))). t.taken) lanes (picked_from (length lanes) chunks over)
  pub gone : List Decided
  pub l : Option Last
  pub decided : IsDecidedBy find r limit (map named_chunk chunks) over (parts_of gone) l
  pub due : IsDeciding find r limit (map named_chunk chunks) over (parts_of gone) l
  pub lines : (j : ℕ) (t : Sender (Flow Decided)) → slice_get outs j ≡ Some t
      → IsFront t.sent (run (lane_parts (length outs) 0 j gone) l)
  pub own : Option Fault
  pub own_is : IsOwnFault own over l
  pub raised_is : raised ≡ is_some own
