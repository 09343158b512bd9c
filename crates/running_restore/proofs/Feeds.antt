-- A turn of a restore that runs: nothing was loaded, or the next payload.
use Rattle.std.proofs.Common.{◌≡◌, inl, ℕ, ◌+◌, false, true, List, [], ◌∷◌, ◌++◌, Option, Some, None, refl, sym, ap, subst, arith}
use Rattle.std.proofs.Math.Nat.{le_refl}
use Rattle.std.proofs.lemmas.List.{append-nil}
use Rattle.std.specs.Option.{is_some}
use Rattle.vault_types.specs.declared.Spot.{Spot}
use Rattle.stage_flows.specs.Runs.{held}
use Rattle.restore_stage.specs.declared.Loaded.{Loaded}
use Rattle.keeper_catalog.specs.View.{View}
use Rattle.serial_restore.specs.Going.{Stays}
use Rattle.serial_restore.proofs.Loads.{stays_same}
use Rattle.restore_turns.specs.Entry.{IsEntry, IsGoing, MeetsFirst}
use Rattle.restore_turns.specs.Sent.{IsPart}
use Rattle.running_restore.specs.Feeding.{HasLoaded, HasFed, met_by}
use Rattle.running_restore.specs.Views.{RunningView}

pub fed_nothing : (v : View) (r : RunningView) → HasFed v v r r
fed_nothing v r = record {
  more = 0;
  met = r.met;
  sent = r.sent;
  is = ap (λ (g : ℕ). record r { got = g; met = r.met; sent = r.sent }) (let e : r.got ≡ r.got + 0 = omega arith in e);
  stays = stays_same v;
  gets = refl;
  meets = inl (refl, le_refl v.told.faults);
}

-- what a load gave, of the plan's ids
pub loaded_of : (u v w : View) (number : ℕ) (spots : List Spot) (ids slice : List ℕ) (got : ℕ) (met : Option ℕ) (sent : List Loaded) (item : Loaded) → slice ≡ ids
    → ((u : View) (spots : List Spot) (met : Option ℕ) (sent : List Loaded) → IsEntry u v number spots slice got met sent → IsGoing got met sent → HasLoaded u v w number spots slice got met sent item)
    → IsEntry u v number spots ids got met sent → IsGoing got met sent → HasLoaded u v w number spots ids got met sent item
loaded_of u v w number spots ids slice got met sent item is loaded e going =
    subst (λ (is : List ℕ). HasLoaded u v w number spots is got met sent item) is (loaded u spots met sent (subst (λ (is : List ℕ). IsEntry u v number spots is got met sent) (sym is) e) going)

-- where nothing is held
module _ (u v w : View) (number : ℕ) (spots : List Spot) (ids : List ℕ) (got : ℕ) (met : Option ℕ) (to : List Loaded) (waiting : Option Loaded) (none : is_some waiting ≡ false) (item : Loaded) (h : HasLoaded u v w number spots ids got met (to ++ held waiting) item) (now : Option ℕ) (is : now ≡ met_by met item) where
  sent_on : (to ++ held waiting) ++ item ∷ [] ≡ to ++ item ∷ []
  sent_on = at waiting none
    where
      at : (o : Option Loaded) → is_some o ≡ false → (to ++ held o) ++ item ∷ [] ≡ to ++ item ∷ []
      at None e = ap (λ (xs : List Loaded). xs ++ item ∷ []) (append-nil to)
      at (Some x) e = absurd (let clash : true ≡ false = e in cc)

  pub next_entry : IsEntry u w number spots ids (got + 1) now (to ++ item ∷ [])
  unfolding sent_on
  next_entry = subst (λ (xs : List Loaded). IsEntry u w number spots ids (got + 1) now xs) sent_on (subst (λ (o : Option ℕ). IsEntry u w number spots ids (got + 1) o ((to ++ held waiting) ++ item ∷ [])) (sym is) h.entry)

  pub next_going : IsPart item → IsGoing (got + 1) now (to ++ item ∷ [])
  unfolding sent_on
  next_going part = subst (λ (xs : List Loaded). IsGoing (got + 1) now xs) sent_on (subst (λ (o : Option ℕ). IsGoing (got + 1) o ((to ++ held waiting) ++ item ∷ [])) (sym is) (h.going part))

  pub next_meets : MeetsFirst v.told.faults met now w.told.faults
  next_meets = subst (λ (o : Option ℕ). MeetsFirst v.told.faults met o w.told.faults) (sym is) h.meets
