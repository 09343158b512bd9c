-- A stage that passes numbers on, up to the first None.
use Rattle.std.specs.Prelude.{◌≡◌, ℕ, ◌+◌, Bool, true, false, List, [], ◌∷◌, length, Option, Some, None}
use Rattle.stage_queue.specs.Ends.{Sender, Receiver}
use Rattle.vault_types.specs.declared.Turn.{Turn}
use Rattle.vault_types.specs.declared.Turn.TheVariants.{Moved, Idle, Done}

-- what contracts see of it: its two ends, and what it holds ready
pub record Relaying : Type 0 where
  pub from : Receiver (Option ℕ)
  pub to : Sender (Option ℕ)
  pub ready : List (Option ℕ)

abbrev pub held : {T : Type 0} → Option T → List T
held None = []
held (Some x) = x ∷ []

-- whether the end is among them
abbrev pub has_end : List (Option ℕ) → Bool
has_end [] = false
has_end (None ∷ xs) = true
has_end (Some n ∷ xs) = has_end xs

-- how many items it has taken and sent
abbrev pub moves_of : Relaying → ℕ
moves_of s = length s.from.taken + length s.to.sent

-- what a turn tells: it took or sent one item; nothing changed; nothing changed, and all is sent,
-- with the end
abbrev pub Tells : Relaying → Turn → Relaying → Type 0
Tells a Moved b = moves_of b ≡ moves_of a + 1
Tells a Idle b = b ≡ a
Tells a Done b = (b ≡ a) × (b.ready ≡ []) × (has_end b.from.taken ≡ true)
