-- What a restore that ran has come to, and its result.
use Rattle.std.specs.Prelude.{◌≡◌, ℕ, List, ◌∷◌, length, Option, None, Some, Result, Ok, Err}
use Rattle.vault_types.specs.declared.Answer.{Answer}
use Rattle.vault_types.specs.declared.Answer.TheVariants.{Restored}
use Rattle.vault_types.specs.declared.Fault.{Fault}
use Rattle.vault_types.specs.declared.Fault.TheVariants as fault
use Rattle.vault_types.specs.Stages.{IsLine}
use Rattle.vault_traits.specs.Told.{SinkTold}
use Rattle.restore_stage.specs.declared.Loaded.{Loaded}
use Rattle.restore_stage.specs.declared.Reply.{Reply}
use Rattle.restore_stage.specs.declared.Reply.TheVariants as reply
use Rattle.restore_stage.specs.Assembling.{Assembling, IsSame, reply_of}

-- what the call on one thread would have given, where these loads were planned. A payload that was
-- not wanted never comes
abbrev pub result_of : ℕ → ℕ → List ℕ → Reply → Result Answer Fault
result_of s n ids (reply.Written bytes) = Ok (Restored s n bytes (length ids))
result_of s n ids (reply.Failed f) = Err f
result_of s n ids reply.Unwanted = Err fault.Memory

-- the last stage took a front of what was sent or held, and gave this reply; its sink tells this
pub record HasReplied (first : Assembling) (sent : List Loaded) (r : Reply) (sink : SinkTold) : Type 0 where
  pub last : Assembling
  pub same : IsSame first last
  pub waiting : List Loaded
  pub line : IsLine sent last.loads.taken waiting
  pub more : List Reply
  pub replied : reply_of last ≡ r ∷ more
  pub sink_is : last.sink ≡ sink

-- how often the shelf had failed when a restore met a fault of it, or before it if it met none
abbrev pub faults_at : ℕ → Option ℕ → ℕ
faults_at before None = before
faults_at before (Some m) = m
