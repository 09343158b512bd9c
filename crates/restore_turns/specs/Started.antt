-- A restore that is planned under its pin, and one that has started.
use Rattle.std.specs.Prelude.{◌≡◌, ◌<◌, ◌-◌, ◌^◌, ℕ, true, IsTrue, List, [], map, length, Contains, Option, Ok}
use Rattle.std.specs.Option.{option_map}
use Rattle.vault_types.specs.declared.Spot.{Spot}
use Rattle.vault_types.specs.declared.Whole.{Whole}
use Rattle.vault_types.specs.Events.{Core}
use Rattle.vault_types.specs.Plans.{requests, serves, loads, IsLeast}
use Rattle.vault_types.specs.State.{is_kept}
use Rattle.vault_traits.specs.Told.{SinkTold}
use Rattle.restore_assembler.specs.Copying.{Copying, HasCopied}
use Rattle.restore_stage.specs.Assembling.{Assembling, load_ids, reply_of}
use Rattle.keeper_catalog.specs.View.{View, Keeps, HasCore}
use Rattle.keeper_core.specs.declared.pinning.Pinned.{Pinned}
use Rattle.keeper_core.specs.Pins.{PinsVersion}
use Rattle.serial_restore.specs.Restoring.{whole_of}

-- c has copied nothing yet of the bytes at these spots, by a plan with so many slots and as few
-- loads as any has; the ids are those of its loads, in order
pub record IsPlanOf (spots : List Spot) (whole : Option Whole) (slots : ℕ) (ids : List ℕ)
    (c : Copying) : Type 0 where
  pub spots_are : c.spots ≡ spots
  pub whole_is : c.whole ≡ whole
  pub least : IsLeast (requests (map (λ q. q.id) c.spots)) slots (loads c.steps)
  pub served : IsTrue (serves slots [] c.steps (requests (map (λ q. q.id) c.spots)))
  pub done : c.done ≡ 0
  pub copied : (payloads : ℕ → List ℕ) (told : SinkTold) → HasCopied payloads told told c
  pub ids_are : ids ≡ load_ids c.steps
  pub asked : (id : ℕ) → Contains ids id → Contains (map (λ q. q.id) c.spots) id
  pub few : length ids < 2 ^ 64 - 1

-- version n of set s, which was kept, was pinned under this number, from the keeper v to u. Its
-- bytes are so many, and c copies them by these loads
pub record IsPlanned (v u : View) (s n slots number : ℕ) (ids : List ℕ) (bytes : ℕ) (c : Copying) : Type 0 where
  pub core : HasCore v
  pub range : s < 256
  pub kept : (K : Core) → Keeps v K → true ≡ is_kept K.state s n
  pub pin : Pinned
  pub pinned : PinsVersion s n v u (Ok pin)
  pub number_is : pin.no ≡ number
  pub bytes_are : bytes ≡ pin.length
  pub plan : IsPlanOf pin.spots.items (option_map (whole_of s n) pin.whole) slots ids c

-- so, and its first stage has taken and sent nothing
pub record HasStarted (v u : View) (s n slots number : ℕ) (ids : List ℕ) (a : Assembling) : Type 0 where
  pub planned : IsPlanned v u s n slots number ids a.bytes a.copying
  pub taken : a.loads.taken ≡ []
  pub unsent : reply_of a ≡ []
