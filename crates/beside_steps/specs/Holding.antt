-- Restores that run over a keeper, beside the line that it is in.
use Rattle.std.specs.Prelude.{◌≡◌, ℕ, Bool, false, List, [], ◌∷◌, map, Option, None, Some, IfSome}
use Rattle.std.specs.List.{AllByRecursion}
use Rattle.vault_types.specs.Lists.{has}
use Rattle.vault_traits.specs.Told.{Files}
use Rattle.restore_pins.specs.Pins.{numbers}
use Rattle.keeper_catalog.specs.View.{View}
use Rattle.beside_laws.specs.Running.{Past}
use Rattle.running_restore.specs.Views.{RunningView, IsStarted, IsRunning}

-- a restore that runs, the name of its output, the place of its line, and whether its reply was
-- taken
pub record BesideView : Type 0 where
  pub restore : RunningView
  pub name : List ℕ
  pub place : ℕ
  pub ended : Bool

abbrev pub past_of : BesideView → Past View
past_of e =
    record {
      from = e.restore.from;
      set = e.restore.set;
      version = e.restore.version;
      name = e.name;
      cache = e.restore.slots;
      got = e.restore.got;
      met = e.restore.met;
      place = e.place;
    }

-- it runs over the keeper as it is now, with places that have these files, and its sink was new
pub record IsOne (now : View) (files : Option Files) (e : BesideView) : Type 0 where
  pub running : IsRunning now e.restore
  pub started : IsStarted e.restore
  pub fresh : e.restore.first.sink.faults ≡ 0
  pub empty : IfSome files (λ f. e.restore.first.sink.taken ≡ Some [])
  pub unreplied : e.ended ≡ false → e.restore.replied ≡ []

-- each number comes once
abbrev pub AreApart : List ℕ → Type 0
AreApart [] = Unit {0}
AreApart (n ∷ ns) = (has n ns ≡ false) × AreApart ns

-- these run, no other pin is there, and no job is open
pub record Holds (now : View) (files : Option Files) (es : List BesideView) : Type 0 where
  pub job : now.job ≡ None
  pub each : AllByRecursion (IsOne now files) es
  pub pins : numbers now.pins ≡ map (λ e. e.restore.number) es
  pub apart : AreApart (numbers now.pins)

-- the same but for its reply, which was taken or not
pub record IsSameButReply (e d : BesideView) : Type 0 where
  pub restore : d.restore ≡ record e.restore { replied = d.restore.replied }
  pub name : d.name ≡ e.name
  pub place : d.place ≡ e.place
  pub unreplied : d.ended ≡ false → d.restore.replied ≡ []
