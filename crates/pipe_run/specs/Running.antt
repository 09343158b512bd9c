-- What holds of a job that runs: its lines go from stage to stage, its stages began with nothing,
-- and its holders are all of one word.
use Rattle.std.specs.Prelude.{◌≡◌, ◌≤◌, ◌<◌, ◌+◌, ℕ, List, [], ◌∷◌, ◌++◌, length, map}
use Rattle.std.specs.List.{AllByRecursion}
use Rattle.stage_queue.specs.Ends.{Sender, Receiver}
use Rattle.vault_types.specs.declared.Flow.{Flow}
use Rattle.rewrite_stage.specs.declared.Decided.{Decided}
use Rattle.atomic_table.specs.Seated.{TableId}
use Rattle.stop_word.specs.Holders.{HolderState, Family}
use Rattle.vault_types.specs.JobRanges.{IsCuttable}
use Rattle.source_reads.specs.Reading.{Reading}
use Rattle.sum_stage.specs.Summing.{Summing}
use Rattle.chunk_stage.specs.Views.{Chunking}
use Rattle.decide_stage.specs.Views.{Deciding}
use Rattle.stage_lanes.specs.Steps.{lines_of}
use Rattle.pipe_lanes.specs.Lanes.{LaneView, HaveEnds, AreRooms, AreNew}

pub record IsRunning {I : Type 0} (reads sums ends : TableId) (read : Reading I) (sum : Summing) (chunk : Chunking) (decide : Deciding) (lanes : List LaneView) (far : TableId) (own : HolderState) (len room : ℕ) (back : List HolderState) : Type 0 where
  pub first_line : (read.to.line ≡ reads) × (sum.from.line ≡ reads)
  pub second_line : (sum.to.line ≡ sums) × (chunk.from.line ≡ sums)
  pub last_line : (lines_of decide.outs ≡ ends ∷ []) × (far ≡ ends)
  pub lane_lines : HaveEnds chunk.lanes lanes decide.lanes
  pub unread : read.to.sent ++ read.ready ≡ []
  pub cuttable : IsCuttable chunk.cutting
  pub limits : (read.limit ≡ decide.limit) × (chunk.limit ≡ decide.limit)
  pub some : 0 < length lanes
  pub family : Family
  pub kin : own.family ≡ family
  pub stages : AreNew family (read.holder ∷ chunk.holder ∷ decide.holder ∷ [])
  pub lane_holders : AreNew family (map (λ l. l.holder) lanes)
  pub count : 4 + length lanes ≡ family.count
  pub none : (back ≡ []) × (len ≡ 0)
  pub enough : 4 + length lanes ≤ room

-- what a job takes of memory, of which nothing was used
pub record IsReady (reads sums ends : TableId) (read_to : Sender (Flow (List ℕ))) (sum_from : Receiver (Flow (List ℕ))) (sum_to : Sender (Flow (List ℕ))) (chunk_from : Receiver (Flow (List ℕ)))
    (outs : List (Sender (Flow Decided))) (far : Receiver (Flow Decided)) (near : List (Sender (Flow (List ℕ)))) (rooms : List LaneView) (lane_ends : List (Receiver (Flow (List ℕ)))) (hands : List HolderState)
    (lanes : List LaneView) (lanes_len lanes_room : ℕ) (back : List HolderState) (len room : ℕ) (sparse copy : List ℕ) : Type 0 where
  pub first_line : (read_to.line ≡ reads) × (sum_from.line ≡ reads)
  pub first_unused : (read_to.sent ≡ []) × (sum_from.taken ≡ [])
  pub second_line : (sum_to.line ≡ sums) × (chunk_from.line ≡ sums)
  pub second_unused : (sum_to.sent ≡ []) × (chunk_from.taken ≡ [])
  pub last_line : (lines_of outs ≡ ends ∷ []) × (far.line ≡ ends)
  pub last_unused : (far.taken ≡ []) × AllByRecursion (λ t. t.sent ≡ []) outs
  pub lane_rooms : AreRooms near rooms lane_ends
  pub some : 0 < length rooms
  pub family : Family
  pub hands_new : AreNew family hands
  pub lane_holders : AreNew family (map (λ l. l.holder) rooms)
  pub count : 4 + length rooms ≡ family.count
  pub lanes_none : lanes ≡ []
  pub lanes_enough : lanes_len + length rooms ≤ lanes_room
  pub none : (back ≡ []) × (len ≡ 0)
  pub enough : 4 + length rooms ≤ room
  pub copied : copy ≡ sparse
