-- What a turn of a stage tells.
use Rattle.std.specs.Prelude.{◌≡◌, ◌<◌, ℕ, Bool, true, false, List, [], ◌∷◌, Option, Some, None}
use Rattle.vault_types.specs.declared.Turn.{Turn}
use Rattle.vault_types.specs.declared.Turn.TheVariants.{Moved, Idle, Done}
use Rattle.stage_flows.specs.declared.Last.{Last}

-- Moved: something was taken, sent or read. Idle: nothing was, and there is more to do. Done: there
-- is nothing more to do
abbrev pub Tells : Turn → ℕ → ℕ → Bool → Type 0
Tells Moved before after done = before < after
Tells Idle before after done = (after ≡ before) × (done ≡ false)
Tells Done before after done = (after ≡ before) × (done ≡ true)

-- the last item came, and nothing is held
abbrev pub is_done : {X : Type 0} → Option Last → List X → Bool
is_done None ready = false
is_done (Some l) [] = true
is_done (Some l) (x ∷ xs) = false
