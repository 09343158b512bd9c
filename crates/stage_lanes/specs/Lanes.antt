-- How parts are dealt to lanes in turn, and taken from them again.
use Rattle.std.specs.Prelude.{◌≡◌, ℕ, ◌+◌, ◌==◌, List, [], ◌∷◌, ◌++◌, Option, Some, slice_get, if◌then◌else◌, nat_lt}
use Rattle.vault_types.specs.declared.Flow.{Flow}
use Rattle.vault_types.specs.Stages.{as_parts}
use Rattle.stage_flows.specs.declared.Last.{Last}
use Rattle.stage_flows.specs.Runs.{closing}

-- the lane after lane c of n
abbrev pub after : ℕ → ℕ → ℕ
after n c = if c + 1 == n then 0 else (c + 1)

-- an element that goes to lane c, as lane j sees it
abbrev pub at_lane : {X : Type 0} → ℕ → ℕ → X → List X
at_lane c j x = if c == j then (x ∷ []) else []

-- what lane j gets of these elements, of which the first goes to lane c of n
abbrev pub lane_parts : {X : Type 0} → ℕ → ℕ → ℕ → List X → List X
lane_parts n c j [] = []
lane_parts n c j (x ∷ xs) = at_lane c j x ++ lane_parts n (after n c) j xs

-- the lane of the next element, where the first of these went to lane c
abbrev pub lane_after : {X : Type 0} → ℕ → ℕ → List X → ℕ
lane_after n c [] = c
lane_after n c (x ∷ xs) = lane_after n (after n c) xs

-- what each element has, by its place
abbrev pub AllAt : {A B : Type 0} → (A → B) → List A → (ℕ → B) → Type 0
AllAt {A} p xs f = (j : ℕ) (a : A) → slice_get xs j ≡ Some a → p a ≡ f j

-- what went to lane j: its parts, and the last item, if it is told to so many lanes
abbrev pub dealt_to : {X : Type 0} → ℕ → List X → Option Last → ℕ → ℕ → List (Flow X)
dealt_to n parts last told j = as_parts (lane_parts n 0 j parts) ++ (if nat_lt j told then closing last else [])

-- what was taken from lane j: its parts, and the last item, if it came, from the lane whose turn it
-- was
abbrev pub picked_from : {X : Type 0} → ℕ → List X → Option Last → ℕ → List (Flow X)
picked_from n parts last j = as_parts (lane_parts n 0 j parts) ++ (if lane_after n 0 parts == j then closing last else [])
