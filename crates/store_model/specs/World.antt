-- What is handed in and given back, as it tells itself, and what is printed.
use Rattle.std.specs.Prelude.{◌≡◌, ◌⊎◌, ℕ, List, [], ◌∷◌, flat_map, Option, Some, None}
use Rattle.std.specs.Option.{option_map_or, option_or}
use Rattle.vault_types.specs.declared.Fault.{Fault}
use Rattle.vault_types.specs.declared.Fault.TheVariants as fault
use Rattle.vault_types.specs.declared.Answer.{Answer}
use Rattle.vault_types.specs.declared.Answer.TheVariants.{Refused}
use Rattle.vault_types.specs.Texts.{answer_text, fault_line, status_of}
use Rattle.vault_traits.specs.Counts.{Rose, RiseFrom}
use Rattle.vault_traits.specs.Told.{ShelfTold, PlacesTold, SourceTold, SinkTold, Takes}
use Rattle.store_model.specs.Outputs.{IsFrontOf}

pub record World : Type 0 where
  pub shelf : ShelfTold
  pub places : PlacesTold
  pub input : SourceTold
  pub out : SinkTold
  pub report : SinkTold

abbrev pub world : ShelfTold → PlacesTold → SourceTold → SinkTold → SinkTold → World
world shelf places input out report =
    record { shelf = shelf; places = places; input = input; out = out; report = report }

-- the fault of the first refused answer
abbrev pub first_fault : List Answer → Option Fault
first_fault [] = None
first_fault (Refused f ∷ answers) = Some f
first_fault (answer ∷ answers) = first_fault answers

-- the status: that of the first refused answer, else that of the fault, else 0
abbrev pub status_after : List Answer → Option Fault → ℕ
status_after answers fault = option_map_or status_of (option_or (first_fault answers) fault) 0

abbrev pub report_text : List Answer → List ℕ
report_text answers = flat_map answer_text answers

-- a front of the text was written
abbrev pub TakesFront : SinkTold → SinkTold → List ℕ → Type 0
TakesFront before now text = (front : List ℕ) × IsFrontOf front text × Takes before.taken now.taken front

-- the text was written and there is no fault; or the sink failed, a front was written, and the fault is that
abbrev pub IsPrinted : List ℕ → SinkTold → SinkTold → Option Fault → Type 0
IsPrinted text before now None = Takes before.taken now.taken text
IsPrinted text before now (Some f) =
    (n : ℕ) × (f ≡ fault.WriteFault n) × RiseFrom before.faults (n ∷ []) now.faults
    × TakesFront before now text

-- the fault's line was written, or a front of it where the sink failed
abbrev pub IsTold : Fault → SinkTold → SinkTold → Type 0
IsTold f before now =
    Takes before.taken now.taken (fault_line f)
    ⊎ (Rose before.faults now.faults × TakesFront before now (fault_line f))
