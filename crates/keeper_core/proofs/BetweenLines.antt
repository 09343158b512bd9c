-- What is kept between two lines, of the core.
use Rattle.std.proofs.Common.{◌≡◌, List, Option, sym, subst}
use Rattle.std.specs.Prelude.{IfSome}
use Rattle.vault_types.specs.declared.Pending.TheVariants as pending
use Rattle.vault_types.specs.State.{State, IsValid}
use Rattle.vault_types.specs.Events.{Change, Pin, IsNear}
use Rattle.vault_traits.specs.Crash.{LeavesNowIfTold}
use Rattle.keeper_catalog.specs.View.{View}
use Rattle.keeper_core.specs.Keeping.{IsStateWith}

-- what holds of the state and the change that are named, of those of the core
pub changed_of : {ps : List Pin} (u : View) (S : State) (other : Option Change) (here : IsStateWith u ps S other) → IfSome here.core.other (λ h. IsValid h.state)
changed_of u S other here = subst (λ (o : Option Change). IfSome o (λ h. IsValid h.state)) (sym here.change) here.changed

pub images_of : {ps : List Pin} (u : View) (S : State) (other : Option Change) (here : IsStateWith u ps S other) → u.pending ≡ pending.Not → LeavesNowIfTold u.told.history (IsNear here.core.state here.core.other)
images_of u S other here e = subst (λ (T : State). LeavesNowIfTold u.told.history (IsNear T here.core.other)) (sym here.state) (subst (λ (o : Option Change). LeavesNowIfTold u.told.history (IsNear S o)) (sym here.change) (here.images e))
