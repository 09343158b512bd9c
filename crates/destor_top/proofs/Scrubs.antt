-- A run of `scrub`.
use Rattle.std.proofs.Common.{◌≡◌, ⊎_elim, Bool, ℕ, List, Option, Some, None, ap, ◌∙◌}
use Rattle.vault_types.specs.declared.Limits.{Limits}
use Rattle.vault_types.specs.declared.Command.TheVariants as command
use Rattle.vault_types.specs.declared.Fault.{Fault}
use Rattle.vault_types.specs.declared.Answer.{Answer}
use Rattle.vault_types.specs.Words.{command_of}
use Rattle.vault_types.specs.Bytes.{IsSound}
use Rattle.vault_types.specs.State.{State}
use Rattle.store_model.specs.Leaves.{Begins}
use Rattle.store_model.specs.World.{World}
use Rattle.store_model.specs.Run.{IsRun, NoneRose}
use Rattle.scrub_model.specs.Words.{first_damage}
use Rattle.scrub_model.specs.Scrubbing.{RunsScrub}
use Rattle.command_runner.specs.Going.{GoesOn}
use Rattle.destor_top.specs.Reached.{Reached, IsCompleteRun}
use Rattle.destor_top.proofs.Reaching.{printed_whole, run_of_own, complete_of_own}

-- over a sound shelf, where none rose, there is no fault: nothing is damaged
no_fault : (before now : World) (answers : List Answer) (f : Option Fault) (S : State) → Begins before.shelf S → IsSound S → NoneRose before now → RunsScrub before now answers f → f ≡ None
no_fault before now answers f S begins sound none r = ⊎_elim
    (λ done. ⊎_elim
    (λ all. all.1 ∙ ap first_damage (done.2.sound S begins sound))
    (λ cut. printed_whole before now _ f none cut.2)
    done.2.ends)
    (λ refused. printed_whole before now _ f none refused.2.printed)
    r.course

module _ (in_order : Bool) (words : List (List ℕ)) (limits : Limits) (before now : World) (answers : List Answer) (f : Option Fault) (status workers : ℕ) (is : command_of words ≡ Some (command.Scrub workers)) where
  pub run_of_scrub : GoesOn RunsScrub before now answers f status → IsRun in_order Reached words limits before now answers f status
  run_of_scrub goes = run_of_own in_order words limits before now answers (command.Scrub workers) is tt (λ batch. batch) RunsScrub f status (λ r. r) goes

  pub complete_of_scrub : IsRun in_order Reached words limits before now answers f status → IsCompleteRun words limits before now answers f
  complete_of_scrub run = complete_of_own in_order words limits before now answers (command.Scrub workers) is tt (λ batch. batch) RunsScrub f status (λ r. r) (no_fault before now answers f) run
