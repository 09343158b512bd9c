-- What a crash leaves around a line, from what it leaves around a call.
use Rattle.std.proofs.Common.{◌≡◌, ◌⊎◌, inl, inr, ⊎_elim, IsTrue, Option, Some, None, sym, subst}
use Rattle.std.specs.Prelude.{IsSomeAnd}
use Rattle.vault_types.specs.declared.Fault.{Fault}
use Rattle.vault_types.specs.declared.Answer.{Answer}
use Rattle.vault_types.specs.declared.Answer.TheVariants.{Refused}
use Rattle.vault_types.specs.declared.Line.{Line}
use Rattle.vault_types.specs.State.{State}
use Rattle.vault_types.specs.Events.{Change, IsNear}
use Rattle.vault_types.specs.Script.{Sources, after, after_line, is_store_fault, changes}
use Rattle.vault_traits.specs.Crash.{History, LeavesNowIfTold, LeavesOnlyIfTold}
use Rattle.vault_traits.proofs.Moments.{ends, more, more_now}
use Rattle.vault_types.specs.Shelf.{Stands}
use Rattle.store_model.specs.Steps.{BearsStep, IsNextOther, StandsWith}
use Rattle.script_laws.proofs.Following.{near_with}

module _ (sources : Sources) (S : State) (other : Option Change) (line : Line) where
  -- a refusal that writes nothing new
  pub still_bears : (f : Fault) (old new : Option History) → LeavesOnlyIfTold old new (IsNear S other) → BearsStep sources S other line (Refused f) other old new
  still_bears f old new leaves = record {
    any_moment = more (IsNear S other) (λ c. StandsWith S other c ⊎ StandsWith S other c) (λ c near. inl (near_with S other c near)) old new leaves;
    behind = ends (IsNear S other) old new leaves;
  }

  -- a refusal behind which the line may be half done
  pub half_bears : (f : Fault) (next : Option Change) (old new : Option History) → LeavesOnlyIfTold old new (λ c. IsNear S other c ⊎ IsNear S next c) → LeavesNowIfTold new (IsNear S next) → BearsStep sources S other line (Refused f) next old new
  half_bears f next old new leaves behind = record {
    any_moment = more (λ c. IsNear S other c ⊎ IsNear S next c) (λ c. StandsWith S other c ⊎ StandsWith S next c)
        (λ c near. ⊎_elim (λ h. inl (near_with S other c h)) (λ h. inr (near_with S next c h)) near) old new leaves;
    behind = behind;
  }

  pub half_next : (f : Fault) (next : Option Change) (h : Change) (X : Type 0) → (next ≡ None) ⊎ ((next ≡ Some h) × X) → IsTrue (is_store_fault (Refused f)) → IsTrue (changes line) → h.state ≡ after_line sources S line
      → IsNextOther sources S other line (Refused f) next
  half_next f next h X (inl none) failed change is = inl none
  half_next f next h X (inr some) failed change is = inr (inr (failed, change, subst (λ (o : Option Change). IsSomeAnd o (λ k. k.state ≡ after_line sources S line)) (sym some.0) is))

  -- a line that was done, by one change of a blob
  pub done_bears : (answer : Answer) (h : Change) (old new : Option History) → h.state ≡ after sources S line answer
      → LeavesOnlyIfTold old new (λ c. IsNear S other c ⊎ (IsNear S (Some h) c ⊎ IsNear (after sources S line answer) None c)) → LeavesNowIfTold new (IsNear (after sources S line answer) None)
      → BearsStep sources S other line answer None old new
  done_bears answer h old new is leaves behind = record {
    any_moment = more (λ c. IsNear S other c ⊎ (IsNear S (Some h) c ⊎ IsNear (after sources S line answer) None c)) (λ c. StandsWith S other c ⊎ StandsWith (after sources S line answer) None c)
        (λ c near. ⊎_elim (λ k. inl (near_with S other c k))
        (λ e. ⊎_elim (λ k. ⊎_elim (λ here. inl (inl here)) (λ there. inr (inl (subst (Stands c) is there))) (near_with S (Some h) c k)) (λ k. inr (near_with (after sources S line answer) None c k)) e) near) old new leaves;
    behind = behind;
  }

-- what is near a state with no change half done stands for it
pub near_alone : (S : State) (h : Option History) → LeavesNowIfTold h (IsNear S None) → LeavesNowIfTold h (λ c. Stands c S)
near_alone S h = more_now (IsNear S None) (λ c. Stands c S) (λ c near. ⊎_elim (λ stands. stands) (λ none. absurd none) near) h
