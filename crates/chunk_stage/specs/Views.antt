-- What contracts see of the chunking stage: its settings, the end that it takes from, its lanes, the
-- last item that it took, if it came, whether all that it has to send so far was sent, and its holder.
use Rattle.std.specs.Prelude.{ℕ, Bool, List, Option}
use Rattle.stage_queue.specs.Ends.{Sender, Receiver}
use Rattle.stop_word.specs.Holders.{HolderState}
use Rattle.vault_types.specs.declared.Cutting.{Cutting}
use Rattle.vault_types.specs.declared.Flow.{Flow}
use Rattle.stage_flows.specs.declared.Last.{Last}

pub record Chunking : Type 0 where
  pub cutting : Cutting
  pub limit : ℕ
  pub from : Receiver (Flow (List ℕ))
  pub lanes : List (Sender (Flow (List ℕ)))
  pub over : Option Last
  pub through : Bool
  pub holder : HolderState
