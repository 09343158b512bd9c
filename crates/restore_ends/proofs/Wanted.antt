-- A restore that is sent the payloads of its pin finds none unwanted.
use Rattle.std.proofs.Common.{◌≡◌, ⊎_elim, ℕ, ◌+◌, ◌≤◌, List, [], ◌∷◌, ◌++◌, Option, sym, ap, subst, ◌∙◌, arith}
use Rattle.std.specs.List.{AllByRecursion}
use Rattle.vault_types.specs.declared.Spot.{Spot}
use Rattle.vault_types.specs.Events.{Core}
use Rattle.vault_types.specs.Tables.{payload_len}
use Rattle.vault_traits.specs.Told.{SinkTold}
use Rattle.restore_assembler.specs.Payloads.{Covers}
use Rattle.restore_stage.specs.declared.Loaded.{Loaded}
use Rattle.restore_stage.specs.declared.Loaded.TheVariants as loaded
use Rattle.restore_stage.specs.declared.Reply.{Reply}
use Rattle.restore_stage.specs.declared.Reply.TheVariants as reply
use Rattle.restore_stage.specs.Assembling.{Assembling, ids, load_ids, IsRight}
use Rattle.restore_stage.proofs.Right.{never_off}
use Rattle.keeper_catalog.specs.View.{View}
use Rattle.keeper_core.specs.Calls.{Lists, HasListed}
use Rattle.serial_restore.specs.Going.{HasPinned}
use Rattle.restore_turns.specs.Entry.{IsEntry}
use Rattle.restore_turns.specs.Sent.{IsOwnPayload, AreSent}
use Rattle.restore_turns.specs.Started.{HasStarted}
use Rattle.restore_ends.specs.Results.{HasReplied}
use Rattle.restore_ends.proofs.Came.{stage_came}

-- a payload of a pinned container covers the spots in it
covers : (u : View) (number : ℕ) (spots : List Spot) (K : Core) → HasPinned u number spots K → (id : ℕ) (bytes : List ℕ) → IsOwnPayload u number id bytes → Covers id bytes spots
covers u number spots K pinned id bytes own = each spots pinned.listed
  where
    each : (qs : List Spot) → AllByRecursion (HasListed K.pins number) qs → Covers id bytes qs
    each [] all = tt
    each (q ∷ qs) all = (
      (λ same.
          let c = all.0.0 in
          let lists : Lists K.pins number id c = subst (λ (n : ℕ). Lists K.pins number n c) same all.0.1 in
          let long = (own.whole K c pinned.keeps lists).len in
          let within : q.at + q.len ≤ payload_len c.table.rows = all.0.2 in
          omega (arith, long, within)),
      each qs all.1,
    )

right : (u : View) (number : ℕ) (spots : List Spot) (met : Option ℕ) (K : Core) → HasPinned u number spots K → (items : List Loaded) → AreSent u number spots met items → AllByRecursion (IsRight spots) items
right u number spots met K pinned [] all = tt
right u number spots met K pinned (loaded.Payload p ∷ items) all = (covers u number spots K pinned p.id p.bytes.items all.0, right u number spots met K pinned items all.1)
right u number spots met K pinned (loaded.Failed f ∷ items) all = (tt, right u number spots met K pinned items all.1)

pub never_unwanted : (v u now : View) (s n slots number : ℕ) (loads : List ℕ) (a : Assembling) (got : ℕ) (met : Option ℕ) (sent : List Loaded) (sink : SinkTold) (r : Reply)
    → HasStarted v u s n slots number loads a → IsEntry u now number a.copying.spots loads got met sent → HasReplied a sent r sink → r ≡ reply.Unwanted → ⊥
never_unwanted v u now s n slots number loads a got met sent sink r t e h is =
    let replied = h.replied ∙ ap (λ (y : Reply). y ∷ h.more) is in
    never_off a.copying.steps h.last sent h.waiting e.tried.left (sym h.line.same) (e.tried.parts ∙ t.planned.plan.ids_are)
    (subst (λ (qs : List Spot). AllByRecursion (IsRight qs) sent) (sym h.same.spots) (right u number a.copying.spots met e.core.0 e.core.1 sent e.all))
    (stage_came a h.last h.same t.taken t.unsent reply.Unwanted h.more replied)
