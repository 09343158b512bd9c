-- What contracts see of the deciding stage: its settings, the index that it was lent, the lanes that it
-- takes from, its end, the last item that it took, if it came, whether all that it has to send so far
-- was sent, and its holder.
use Rattle.std.specs.Prelude.{ℕ, Bool, List, Option}
use Rattle.stage_queue.specs.Ends.{Sender, Receiver}
use Rattle.stop_word.specs.Holders.{HolderState}
use Rattle.vault_types.specs.declared.Flow.{Flow}
use Rattle.vault_types.specs.declared.Fp.{Fp}
use Rattle.vault_types.specs.Decide.{Rules}
use Rattle.rewrite_stage.specs.declared.Decided.{Decided}
use Rattle.stage_flows.specs.declared.Last.{Last}

pub record Deciding : Type 0 where
  pub limit : ℕ
  pub rules : Rules
  pub index : List (Fp × List ℕ)
  pub lanes : List (Receiver (Flow (List ℕ)))
  pub outs : List (Sender (Flow Decided))
  pub over : Option Last
  pub through : Bool
  pub holder : HolderState
