-- What the reading stage keeps.
use Rattle.std.specs.Prelude.{◌≡◌, ◌<◌, ◌≤◌, ◌*◌, ℕ, Bool, true, false, List, [], ◌∷◌, ◌++◌, length, Option, None, Some, IfSome}
use Rattle.std.specs.List.{concat, AllByRecursion}
use Rattle.stage_queue.specs.Ends.{Sender}
use Rattle.stop_word.specs.Holders.{HolderState}
use Rattle.vault_traits.specs.Told.{SourceTold, Gives}
use Rattle.vault_traits.specs.Counts.{Rose}
use Rattle.vault_types.specs.declared.Fault.{Fault}
use Rattle.vault_types.specs.declared.Fault.TheVariants as fault
use Rattle.vault_types.specs.declared.Flow.{Flow}
use Rattle.vault_types.specs.declared.Flow.TheVariants.{Part, End, Failed, Stopped}
use Rattle.vault_types.specs.Stages.{but_last}
use Rattle.stage_flows.specs.declared.Last.{Last}
use Rattle.stage_flows.specs.declared.Last.TheVariants as last
use Rattle.stage_flows.specs.Runs.{run, is_stop}

-- what contracts see of the stage: its source, its limit, its end, what it holds ready, the last
-- item, if there is one, how many bytes it has read, and its holder
pub record Reading (I : Type 0) : Type 0 where
  pub source : I
  pub limit : ℕ
  pub to : Sender (Flow (List ℕ))
  pub ready : List (Flow (List ℕ))
  pub over : Option Last
  pub read : ℕ
  pub holder : HolderState

-- nothing is left
abbrev pub IsAtEnd : SourceTold → Type 0
IsAtEnd to = IfSome to.left (λ rest. rest ≡ [])

-- a last item of the stage's own, after so many bytes
abbrev pub IsOwnEnd : ℕ → ℕ → Option Last → Type 0
IsOwnEnd limit read None = Unit {0}
IsOwnEnd limit read (Some last.End) = Unit {0}
IsOwnEnd limit read (Some last.Stopped) = Unit {0}
IsOwnEnd limit read (Some (last.Failed fault.Memory)) = Unit {0}
IsOwnEnd limit read (Some (last.Failed (fault.ReadFault n))) = Unit {0}
IsOwnEnd limit read (Some (last.Failed (fault.TooMany n))) = (n ≡ limit) × (limit * 65536 < read)
IsOwnEnd limit read (Some (last.Failed f)) = ⊥

-- the reads of 1 to 65,536 bytes each, of which none was made once too many bytes were read, and
-- the last item behind them
pub record HasRead (limit read : ℕ) (out : List (Flow (List ℕ))) (over : Option Last) (saw : Bool) : Type 0 where
  pub reads : List (List ℕ)
  pub gave : out ≡ run reads over
  pub sizes : AllByRecursion (λ x. (1 ≤ length x) × (length x ≤ 65536)) reads
  pub count : read ≡ length (concat reads)
  pub within : length (concat (but_last reads)) ≤ limit * 65536
  pub ended : IsOwnEnd limit read over
  pub looked : saw ≡ is_stop over

-- the bytes of some items
abbrev pub bytes_of : List (Flow (List ℕ)) → List ℕ
bytes_of [] = []
bytes_of (Part x ∷ items) = x ++ bytes_of items
bytes_of (End ∷ items) = bytes_of items
bytes_of (Failed f ∷ items) = bytes_of items
bytes_of (Stopped ∷ items) = bytes_of items

abbrev pub is_end_item : Flow (List ℕ) → Bool
is_end_item (Part x) = false
is_end_item End = true
is_end_item (Failed f) = false
is_end_item Stopped = false

-- the number of a read fault
abbrev pub number_in : Fault → Option ℕ
number_in (fault.ReadFault n) = Some n
number_in other = None

abbrev pub read_fault : Flow (List ℕ) → Option ℕ
read_fault (Part x) = None
read_fault End = None
read_fault (Failed f) = number_in f
read_fault Stopped = None

-- why an item comes of a source that was read meanwhile
pub record HasCause (from to : SourceTold) (item : Flow (List ℕ)) : Type 0 where
  pub ended : is_end_item item ≡ true → IsAtEnd to
  pub failed : IfSome (read_fault item) (λ n. Rose from.faults n × (n ≤ to.faults))

-- the source went on from one state to another while these items were read
pub record WentOn (from to : SourceTold) (items : List (Flow (List ℕ))) : Type 0 where
  pub given : Gives from.left to.left (bytes_of items)
  pub later : from.faults ≤ to.faults
  pub causes : AllByRecursion (HasCause from to) items

-- the second has come further than the first, by what was read meanwhile
abbrev pub Advances : SourceTold → List (Flow (List ℕ)) → SourceTold → List (Flow (List ℕ)) → Type 0
Advances from out to out' = (items : List (Flow (List ℕ))) × (out' ≡ out ++ items) × WentOn from to items
