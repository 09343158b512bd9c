-- What the sealing stage keeps.
use Rattle.std.specs.Prelude.{◌≡◌, List, Option}
use Rattle.stage_queue.specs.Ends.{Sender, Receiver}
use Rattle.vault_types.specs.declared.Flow.{Flow}
use Rattle.vault_types.specs.Tables.{Container}
use Rattle.stage_flows.specs.declared.Last.{Last}
use Rattle.stage_flows.specs.Runs.{run}

-- what contracts see of the stage: its ends, what it holds ready, and the last item that it took, if it
-- came
pub record Sealing : Type 0 where
  pub from : Receiver (Flow Container)
  pub to : Sender (Flow Container)
  pub ready : List (Flow Container)
  pub over : Option Last

-- it sends the containers that it took
pub record AreSealed (taken out : List (Flow Container)) (over : Option Last) : Type 0 where
  pub containers : List Container
  pub took : taken ≡ run containers over
  pub gave : out ≡ run containers over
