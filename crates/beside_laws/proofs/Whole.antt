-- Lines of which all have begun, where no restore runs any more, are a run.
use Rattle.std.proofs.Common.{◌<◌, ℕ, false, List, [], ◌∷◌, ◌++◌, length, Option, None, refl, arith}
use Rattle.std.specs.List.{AllByRecursion}
use Rattle.vault_types.specs.declared.Answer.{Answer}
use Rattle.vault_types.specs.declared.Limits.{Limits}
use Rattle.vault_types.specs.declared.Line.{Line}
use Rattle.vault_types.specs.declared.Name.{Name}
use Rattle.vault_types.specs.Events.{Change}
use Rattle.vault_types.specs.State.{State}
use Rattle.vault_traits.specs.Files.{IsThere}
use Rattle.vault_traits.specs.Told.{ShelfTold}
use Rattle.store_model.specs.Script.{RunsLines}
use Rattle.store_model.specs.Steps.{Moment}
use Rattle.store_model.specs.Strays.{StraysOf}
use Rattle.store_model.specs.View.{IsKept}
use Rattle.beside_laws.specs.Progress.{Underway}
use Rattle.beside_laws.proofs.Loop.{onward_ends}
use Rattle.beside_laws.proofs.Runs.{runs_beside}
use Rattle.beside_laws.specs.Running.{Past}
use Rattle.beside_laws.proofs.Standing.{standing_of, there_at}

module _ {K : Type 0} (shelf : K → ShelfTold) (keeps : K → State → Option Change → Type 0) (known : K → Name → Type 0) (keeps_is : (k : K) (S : State) (other : Option Change) → keeps k S other → IsKept (shelf k) S other) (limits : Limits) (lines : List Line) (start : Moment K) where
  pub runs_at_end : (answers : List Answer) (now : Moment K) → ((T : State) (other : Option Change) → keeps now.keeper T other → (name : Name) → StraysOf (shelf now.keeper) T name → known now.keeper name)
      → Underway shelf keeps known limits lines start (length lines) answers [] now
      → RunsLines false (λ S. keeps start.keeper S None) (λ S. known start.keeper) limits lines answers (shelf start.keeper) (shelf now.keeper) start.places now.places
  runs_at_end answers now strays_known u =
      let s = standing_of shelf keeps known keeps_is limits lines start (length lines) answers [] now u in
      runs_beside shelf keeps known keeps_is limits start now lines answers s.all strays_known (onward_ends shelf keeps known keeps_is limits lines start (length lines) answers now refl s.under)

  low_at : (i : ℕ) (first : List (Past K)) (p : Past K) (later : List (Past K)) → AllByRecursion (λ q. q.place < i) (first ++ p ∷ later) → p.place < i
  low_at i [] p later h = h.0
  low_at i (a ∷ first) p later h = low_at i first p later h.1

  -- of a restore that runs
  pub stands_at : (i : ℕ) (answers : List Answer) (first : List (Past K)) (p : Past K) (later : List (Past K)) (now : Moment K) → Underway shelf keeps known limits lines start i answers (first ++ p ∷ later) now
      → IsThere now.places.files p.name × (p.place < length answers)
  stands_at i answers first p later now u =
      let s = standing_of shelf keeps known keeps_is limits lines start i answers (first ++ p ∷ later) now u in
      let low : p.place < i = low_at i first p later s.under.low in
      (there_at shelf keeps known keeps_is limits lines start i answers first p later now s, omega (arith, low, s.under.within, s.under.long))
