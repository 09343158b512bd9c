-- What contracts see of a restore that is planned, and of one that runs.
use Rattle.std.specs.Prelude.{◌≡◌, ℕ, Bool, false, List, [], Option, None}
use Rattle.atomic_table.specs.Seated.{TableId}
use Rattle.stage_queue.specs.Ends.{Sender, Receiver}
use Rattle.vault_traits.specs.Told.{SinkTold}
use Rattle.restore_assembler.specs.Copying.{Copying}
use Rattle.restore_stage.specs.declared.Loaded.{Loaded}
use Rattle.restore_stage.specs.declared.Reply.{Reply}
use Rattle.restore_stage.specs.Assembling.{Assembling}
use Rattle.keeper_catalog.specs.View.{View}
use Rattle.restore_turns.specs.Entry.{IsEntry, IsGoing}
use Rattle.restore_turns.specs.Started.{IsPlanned, HasStarted}

-- a restore under its pin: the keeper from before the pin and from behind it; its version, and so
-- many slots; its pin's number, the ids of its loads, the version's bytes, and its copier
pub record PlannedView : Type 0 where
  pub from : View
  pub behind : View
  pub set : ℕ
  pub version : ℕ
  pub slots : ℕ
  pub number : ℕ
  pub ids : List ℕ
  pub bytes : ℕ
  pub copying : Copying

abbrev pub IsPlannedView : PlannedView → Type 0
IsPlannedView p = IsPlanned p.from p.behind p.set p.version p.slots p.number p.ids p.bytes p.copying

-- a restore that runs: so, and its first stage; how many loads were tried, and the number of the
-- store fault that was met, if one was; the payloads that were sent or are held to be sent, and the
-- fault behind them, if a load failed; and the replies that were taken
pub record RunningView : Type 0 where
  pub from : View
  pub behind : View
  pub set : ℕ
  pub version : ℕ
  pub slots : ℕ
  pub number : ℕ
  pub ids : List ℕ
  pub first : Assembling
  pub got : ℕ
  pub met : Option ℕ
  pub sent : List Loaded
  pub replied : List Reply

abbrev pub IsStarted : RunningView → Type 0
IsStarted r = HasStarted r.from r.behind r.set r.version r.slots r.number r.ids r.first

-- the keeper's side of it, where this is the keeper now
abbrev pub IsRunning : View → RunningView → Type 0
IsRunning now r = IsEntry r.behind now r.number r.first.copying.spots r.ids r.got r.met r.sent

-- it has just started, over a sink that tells this
pub record Starts (p : PlannedView) (sink : SinkTold) (r : RunningView) : Type 0 where
  pub from : r.from ≡ p.from
  pub behind : r.behind ≡ p.behind
  pub set : r.set ≡ p.set
  pub version : r.version ≡ p.version
  pub slots : r.slots ≡ p.slots
  pub sink_is : r.first.sink ≡ sink
  pub got : r.got ≡ 0
  pub met : r.met ≡ None
  pub sent : r.sent ≡ []
  pub number : r.number ≡ p.number
  pub replied : r.replied ≡ []
  pub started : IsStarted r
  pub running : IsRunning r.behind r

-- two lines, the one for payloads and the other for the reply, by which nothing was sent or taken
pub record AreNew (loads replies : TableId) (to : Sender Loaded) (from : Receiver Loaded)
    (back : Sender Reply) (reply : Receiver Reply) : Type 0 where
  pub loads_line : (to.line ≡ loads) × (from.line ≡ loads)
  pub reply_line : (back.line ≡ replies) × (reply.line ≡ replies)
  pub loads_unused : (to.sent ≡ []) × (from.taken ≡ [])
  pub reply_unused : (back.sent ≡ []) × (reply.taken ≡ [])

-- the ends here and those of the first stage are of the same lines; no load has failed, unless it is
-- over
pub record IsTied (loads replies : TableId) (to : Sender Loaded) (reply : Receiver Reply) (over : Bool)
    (r : RunningView) : Type 0 where
  pub loads_line : (to.line ≡ loads) × (r.first.loads.line ≡ loads)
  pub reply_line : (r.first.reply.line ≡ replies) × (reply.line ≡ replies)
  pub started : IsStarted r
  pub going : over ≡ false → IsGoing r.got r.met r.sent
