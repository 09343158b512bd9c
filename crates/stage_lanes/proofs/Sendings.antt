-- What went to a lane begins what is dealt to it.
use Rattle.std.proofs.Common.{◌≡◌, ⊎_elim, ℕ, ◌<◌, Bool, true, false, List, [], ◌∷◌, ◌++◌, length, refl, sym, ap, ◌∙◌, subst, append_assoc, append-nil, Option, Some, arith}
use Rattle.std.specs.Prelude.{slice_get, nat_lt, cond}
use Rattle.std.proofs.lemmas.Bool.Decides.{nat_tests}
use Rattle.vault_types.specs.declared.Flow.{Flow}
use Rattle.vault_types.specs.declared.Flow.TheVariants.{Part}
use Rattle.vault_types.specs.Stages.{as_parts, IsFront}
use Rattle.stage_queue.specs.Ends.{Sender}
use Rattle.stage_flows.specs.declared.Last.{Last}
use Rattle.stage_flows.specs.Runs.{run, closing}
use Rattle.stage_lanes.specs.Lanes.{lane_parts, lane_after}
use Rattle.stage_lanes.specs.Dealing.{HasDealt, waiting}
use Rattle.stage_lanes.specs.declared.dealer.Dealer.{Dealer}
use Rattle.stage_lanes.proofs.Fronts.{lane_parts-append}

as_parts-append : {X : Type 0} (xs ys : List X) → as_parts (xs ++ ys) ≡ as_parts xs ++ as_parts ys
as_parts-append [] ys = refl
as_parts-append (x ∷ xs) ys = ap (λ l. Part x ∷ l) (as_parts-append xs ys)

-- what was sent begins what was given
pub dealt_front : {X : Type 0} (d : Dealer X) (given : List X) (l : Option Last) → HasDealt d given l → (j : ℕ) (t : Sender (Flow X)) → slice_get d.lanes.items j ≡ Some t → IsFront t.sent (run (lane_parts (length d.lanes.items) 0 j given) l)
dealt_front {X} d given l h j t at = subst (λ z. IsFront z (run (lane_parts (length d.lanes.items) 0 j given) l)) (sym (h.lanes j t at)) (step (nat_lt j d.told) refl)
  where
    step : (b : Bool) → nat_lt j d.told ≡ b → IsFront (as_parts (lane_parts (length d.lanes.items) 0 j h.dealt) ++ cond b (closing l) []) (run (lane_parts (length d.lanes.items) 0 j given) l)
    step false e =
        let n = length d.lanes.items in
        let A = lane_parts n 0 j h.dealt in
        let B = lane_parts n (lane_after n 0 h.dealt) j (waiting d) in
        let whole : as_parts (lane_parts n 0 j given) ≡ as_parts A ++ as_parts B = ap (λ q. as_parts (lane_parts n 0 j q)) h.all ∙ ap as_parts (lane_parts-append n 0 j h.dealt (waiting d)) ∙ as_parts-append A B in
        (as_parts B ++ closing l, ap (λ q. q ++ (as_parts B ++ closing l)) (append-nil (as_parts A)) ∙ sym (append_assoc (as_parts A) (as_parts B) (closing l)) ∙ ap (λ q. q ++ closing l) (sym whole))
    step true e =
        let n = length d.lanes.items in
        let below : j < d.told = grind (arith, nat_tests) in
        let none : (waiting d) ≡ [] = ⊎_elim (λ (z : d.told ≡ 0). absurd (omega arith)) (λ z. z) h.told in
        let same : given ≡ h.dealt = h.all ∙ ap (λ q. h.dealt ++ q) none ∙ append-nil h.dealt in
        ([], append-nil (as_parts (lane_parts n 0 j h.dealt) ++ closing l) ∙ ap (λ q. as_parts (lane_parts n 0 j q) ++ closing l) (sym same))
