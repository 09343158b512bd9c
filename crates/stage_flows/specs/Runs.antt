-- A flow as its parts and the last item behind them, if that came.
use Rattle.std.specs.Prelude.{◌≡◌, ◌⊎◌, Bool, true, false, List, [], ◌∷◌, ◌++◌, Option, Some, None}
use Rattle.vault_types.specs.declared.Fault.TheVariants as fault
use Rattle.vault_types.specs.declared.Flow.{Flow}
use Rattle.vault_types.specs.declared.Flow.TheVariants.{End, Failed, Stopped}
use Rattle.vault_types.specs.Stages.{as_parts, IsFront}
use Rattle.stage_flows.specs.declared.Last.{Last}
use Rattle.stage_flows.specs.declared.Last.TheVariants as last

abbrev pub item_of : {X : Type 0} → Last → Flow X
item_of last.End = End
item_of (last.Failed f) = Failed f
item_of last.Stopped = Stopped

-- the last item of a flow, if it came
abbrev pub closing : {X : Type 0} → Option Last → List (Flow X)
closing None = []
closing (Some l) = item_of l ∷ []

abbrev pub run : {X : Type 0} → List X → Option Last → List (Flow X)
run xs l = as_parts xs ++ closing l

-- an item that is held ready, if there is one
abbrev pub held : {X : Type 0} → Option X → List X
held None = []
held (Some x) = x ∷ []

abbrev pub is_end : Option Last → Bool
is_end None = false
is_end (Some last.End) = true
is_end (Some (last.Failed f)) = false
is_end (Some last.Stopped) = false

abbrev pub is_stop : Option Last → Bool
is_stop None = false
is_stop (Some last.End) = false
is_stop (Some (last.Failed f)) = false
is_stop (Some last.Stopped) = true

abbrev pub memory : Option Last
memory = Some (last.Failed fault.Memory)

-- these parts and this last item, if any, are due; or the rest of them was replaced by a want of
-- memory
abbrev pub Sent : {X : Type 0} → List X → Option Last → List X → Option Last → Type 0
Sent due due_last parts l = ((parts ≡ due) × (l ≡ due_last)) ⊎ (IsFront parts due × (l ≡ memory))

-- the front of a flow is a flow: of fewer parts without the last item, or the whole of it
abbrev pub Begins : {X : Type 0} → List X → Option Last → List X → Option Last → Type 0
Begins parts l all m = IsFront parts all × ((l ≡ None) ⊎ ((l ≡ m) × (parts ≡ all)))
