-- A single line, as a script of one line.
use Rattle.std.proofs.Common.{[], ◌∷◌, Option, None, refl}
use Rattle.vault_types.specs.declared.Limits.{Limits}
use Rattle.vault_types.specs.declared.Name.{Name}
use Rattle.vault_types.specs.declared.Answer.{Answer}
use Rattle.vault_types.specs.declared.Line.{Line}
use Rattle.vault_types.specs.State.{State}
use Rattle.vault_types.specs.Script.{Sources, after}
use Rattle.vault_traits.specs.Told.{ShelfTold, PlacesTold}
use Rattle.store_model.specs.Script.{MeansScript}
use Rattle.store_model.specs.Strays.{StraysOf}
use Rattle.store_model.specs.View.{IsKept}
use Rattle.vault_types.specs.Events.{Change}
use Rattle.store_model.specs.Steps.{Moment, StepsOn}
use Rattle.script_laws.proofs.Composed.{means}

-- places that tell nothing
silent : PlacesTold
silent = record { files = None; faults = 0; read_faults = 0; write_faults = 0 }

module _ {K : Type 0} (shelf : K → ShelfTold) (keeps : K → State → Option Change → Type 0) (known : K → Name → Type 0) (keeps_is : (k : K) (S : State) (other : Option Change) → keeps k S other → IsKept (shelf k) S other)
    (strays_known : (k : K) (S : State) (other : Option Change) → keeps k S other → (n : Name) → StraysOf (shelf k) S n → known k n) (limits : Limits) where
  pub one_line_means : (sources : Sources) (S : State) (k k' : K) (line : Line) (answer : Answer) → keeps k S None
      → (next : Option Change) × keeps k' (after sources S line answer) next × StepsOn limits sources S None line answer next (known k) (known k') (shelf k) (shelf k')
      → MeansScript limits sources S (line ∷ []) (answer ∷ []) (known k) (shelf k) (shelf k')
  unfolding silent
  one_line_means sources S k k' line answer keep step =
      let old : Moment K = record { keeper = k; places = silent } in
      let new : Moment K = record { keeper = k'; places = silent } in
      means shelf keeps known keeps_is strays_known limits sources S old new (line ∷ []) (answer ∷ []) keep (new, step.0, step.1, step.2, tt, tt, refl)
