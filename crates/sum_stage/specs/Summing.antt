-- What the summing stage keeps.
use Rattle.std.specs.Prelude.{◌≡◌, ℕ, List, Option}
use Rattle.std.specs.List.{concat}
use Rattle.stage_queue.specs.Ends.{Sender, Receiver}
use Rattle.fingerprint_stage.specs.Sums.{HasSummed}
use Rattle.fingerprint_stage.specs.declared.running_sum.RunningSum.{RunningSum}
use Rattle.vault_types.specs.declared.Flow.{Flow}
use Rattle.stage_flows.specs.declared.Last.{Last}
use Rattle.stage_flows.specs.Runs.{run}

-- what contracts see of the stage: its ends, what it holds ready, and the last item that it took,
-- if it came
pub record Summing : Type 0 where
  pub from : Receiver (Flow (List ℕ))
  pub to : Sender (Flow (List ℕ))
  pub ready : List (Flow (List ℕ))
  pub over : Option Last

-- it sends what it took, and has summed it
pub record IsSummed (taken out : List (Flow (List ℕ))) (over : Option Last) (sum : RunningSum) : Type 0 where
  pub parts : List (List ℕ)
  pub took : taken ≡ run parts over
  pub gave : out ≡ run parts over
  pub summed : HasSummed sum (concat parts)
