-- A restore that is ready to run.
use Rattle.std.proofs.Common.{◌≡◌, ℕ, List, [], ◌++◌, None, refl, sym, ap, subst, ◌∙◌}
use Rattle.vault_traits.specs.Told.{SinkTold}
use Rattle.stage_queue.specs.Ends.{Sender, Receiver}
use Rattle.restore_assembler.specs.Copying.{Copying}
use Rattle.restore_stage.specs.declared.Loaded.{Loaded}
use Rattle.restore_stage.specs.declared.Reply.{Reply}
use Rattle.restore_stage.specs.Assembling.{Assembling}
use Rattle.keeper_catalog.specs.View.{View}
use Rattle.restore_turns.specs.Entry.{IsEntry}
use Rattle.restore_turns.specs.Started.{IsPlanned, HasStarted}
use Rattle.restore_turns.proofs.Pinned.{planned_entry}

module _ (v u : View) (s n slots number : ℕ) (ids : List ℕ) (bytes : ℕ) (c : Copying) (p : IsPlanned v u s n slots number ids bytes c) (sink : SinkTold) (loads : Receiver Loaded) (reply : Sender Reply)
    (first : Assembling) (is : first ≡ record { copying = c; sink = sink; bytes = bytes; loads = loads; reply = reply; ready = [] }) where
  pub has_started : loads.taken ≡ [] → reply.sent ≡ [] → HasStarted v u s n slots number ids first
  has_started taken sent = subst (λ (a : Assembling). HasStarted v u s n slots number ids a) (sym is) (record {
    planned = p;
    taken = taken;
    unsent = ap (λ (rs : List Reply). rs ++ []) sent;
  })

  pub starts_entry : (sent : List Loaded) → sent ≡ [] → IsEntry u u number first.copying.spots ids 0 None sent
  starts_entry sent none = subst (λ (xs : List Loaded). IsEntry u u number first.copying.spots ids 0 None xs) (sym none) (subst (λ (a : Assembling). IsEntry u u number a.copying.spots ids 0 None []) (sym is) (planned_entry v u s n slots number ids bytes c p).0)
