-- What the naming stage keeps: it has sent, or holds ready, each chunk of what it took.
use Rattle.std.specs.Prelude.{◌≡◌, ℕ, List, filter, Option, map}
use Rattle.stage_queue.specs.Ends.{Sender, Receiver}
use Rattle.stop_word.specs.Holders.{HolderState}
use Rattle.vault_types.specs.declared.Flow.{Flow}
use Rattle.vault_types.specs.declared.Flow.TheVariants.{Part, End, Failed, Stopped}
use Rattle.vault_types.specs.Names.{NamedChunk, named_chunk}
use Rattle.vault_types.specs.Stages.{is_chunk}
use Rattle.stage_flows.specs.declared.Last.{Last}
use Rattle.stage_flows.specs.Runs.{run}

-- what contracts see of the stage: its ends, what it holds ready, the last item that it took, if it
-- came, and its holder
pub record Hashing : Type 0 where
  pub from : Receiver (Flow (List ℕ))
  pub to : Sender (Flow (List ℕ))
  pub ready : List (Flow (List ℕ))
  pub over : Option Last
  pub holder : HolderState

pub record IsHashed (taken out : List (Flow (List ℕ))) (over : Option Last) : Type 0 where
  pub parts : List (List ℕ)
  pub took : taken ≡ run parts over
  pub gave : out ≡ run (filter is_chunk parts) over

-- an item with its chunk and the chunk's name
abbrev pub with_name : Flow (List ℕ) → Flow NamedChunk
with_name (Part x) = Part (named_chunk x)
with_name End = End
with_name (Failed f) = Failed f
with_name Stopped = Stopped

abbrev pub with_names : List (Flow (List ℕ)) → List (Flow NamedChunk)
with_names items = map with_name items
