-- The rule of a line: what was sent is what was taken and then what the line holds. At most one
-- pass may send, and it knows the list of what was sent. At most one may take, and it knows the
-- list of what was taken.
use Rattle.std.specs.Prelude.{◌≡◌, ℕ, Bool, true, List}
use mathlib.Core.Option.{some}
use lib.ListN.{get_elem?}
use Rattle.vault_types.specs.Stages.{IsLine}
use Rattle.stage_queue.specs.declared.rule.Log.{Log}

module _ {T : Type 0} where
  abbrev pub log : Bool → Bool → List T → List T → Log T
  log sends takes sent taken = record { sends = sends; takes = takes; sent = sent; taken = taken }

  -- a pass that may send is the writer's, with its list; one that may take is the reader's, with its list
  abbrev pub Fits : ℕ → ℕ → List T → List T → ℕ → Log T → Type 0
  Fits writer reader sent taken port v =
      (v.sends ≡ true → (port ≡ writer) × (v.sent ≡ sent))
      × (v.takes ≡ true → (port ≡ reader) × (v.taken ≡ taken))

  abbrev pub Relayed : List T → List (Log T) → Type 0
  Relayed items views =
      (writer : ℕ) × (reader : ℕ) × (sent : List T) × (taken : List T) × IsLine sent taken items
      × ((port : ℕ) (v : Log T) → get_elem? views port ≡ some v → Fits writer reader sent taken port v)
