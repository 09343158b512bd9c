-- What the chunking stage keeps.
use Rattle.std.specs.Prelude.{◌≡◌, ℕ, Bool, List, length, Option, None, Some, slice_get, IsSome}
use Rattle.std.specs.Option.{is_some}
use Rattle.std.specs.List.{concat}
use Rattle.vault_types.specs.declared.Cutting.{Cutting}
use Rattle.vault_types.specs.declared.Fault.{Fault}
use Rattle.vault_types.specs.declared.Flow.{Flow}
use Rattle.vault_types.specs.Cuts.{Chunker, settled}
use Rattle.vault_types.specs.Stages.{IsFront}
use Rattle.stage_queue.specs.Ends.{Sender}
use Rattle.stage_flows.specs.declared.Last.{Last}
use Rattle.stage_flows.specs.Runs.{run}
use Rattle.stage_lanes.specs.Lanes.{lane_parts}
use Rattle.stage_lanes.specs.Dealing.{HasDealt}
use Rattle.stage_lanes.specs.declared.dealer.Dealer.{Dealer}
use Rattle.vault_types.specs.JobRanges.{IsCuttable}
use Rattle.stage_rules.specs.Chunking.{IsChunking, IsOpen, IsOwnFault}

-- a chunker that goes on, with what was given so far; where there is none, the last item was given
abbrev pub GoesOn : Cutting → ℕ → List (List ℕ) → Option Last → List (List ℕ) → Option Last
    → Option Chunker → ℕ → Type 0
GoesOn c limit reads over parts l None count = IsSome l
GoesOn c limit reads over parts l (Some k) count = IsOpen c limit reads k count × (l ≡ None)
    × (over ≡ None) × (parts ≡ settled (concat reads) c)

-- of these reads, and this last item behind them, if it came, the stage has dealt what is due, and
-- raised the word exactly where it dealt a fault of its own
pub record HasChunked (c : Cutting) (limit : ℕ) (reads : List (List ℕ)) (over : Option Last) (k : Option Chunker) (count : ℕ) (d : Dealer (List ℕ)) (raised : Bool) : Type 0 where
  pub cuttable : IsCuttable c
  pub parts : List (List ℕ)
  pub l : Option Last
  pub dealt : HasDealt d parts l
  pub chunking : IsChunking c limit reads over parts l
  pub goes_on : GoesOn c limit reads over parts l k count
  pub own : Option Fault
  pub own_is : IsOwnFault own over l
  pub raised_is : raised ≡ is_some own

-- the same of the stage as a whole
pub record HasTaken (c : Cutting) (limit : ℕ) (taken : List (Flow (List ℕ))) (over : Option Last) (k : Option Chunker) (count : ℕ) (d : Dealer (List ℕ)) (raised : Bool) : Type 0 where
  pub reads : List (List ℕ)
  pub took : taken ≡ run reads over
  pub chunked : HasChunked c limit reads over k count d raised

-- what the lanes of a stage say when it is back
pub record IsBack (c : Cutting) (limit : ℕ) (taken : List (Flow (List ℕ))) (over : Option Last) (lanes : List (Sender (Flow (List ℕ)))) (raised : Bool) : Type 0 where
  pub reads : List (List ℕ)
  pub took : taken ≡ run reads over
  pub parts : List (List ℕ)
  pub l : Option Last
  pub chunking : IsChunking c limit reads over parts l
  pub lines : (j : ℕ) (t : Sender (Flow (List ℕ))) → slice_get lanes j ≡ Some t
      → IsFront t.sent (run (lane_parts (length lanes) 0 j parts) l)
  pub own : Option Fault
  pub own_is : IsOwnFault own over l
  pub raised_is : raised ≡ is_some own
