-- Turns of one among the restores that run.
use Rattle.std.proofs.Common.{◌≡◌, ◌<◌, ◌+◌, ℕ, List, [], ◌∷◌, ◌++◌, Option, None, map, length, get_or, set, sym, ap, subst}
use Rattle.vault_types.specs.declared.Answer.{Answer}
use Rattle.vault_types.specs.declared.Limits.{Limits}
use Rattle.vault_types.specs.declared.Line.{Line}
use Rattle.vault_traits.specs.Told.{Files, PlacesTold}
use Rattle.restore_pins.specs.Pins.{Listed, numbers}
use Rattle.store_model.specs.Steps.{Moment, StepsLine}
use Rattle.beside_laws.specs.Progress.Underway.{answers_line}
use Rattle.beside_runner.specs.Turns.{IsBegun}
use Rattle.beside_runner.proofs.Served.{under_begun}
use Rattle.keeper_catalog.specs.View.{View}
use Rattle.keeper_core.specs.Keeping.{IsKnownStray}
use Rattle.restore_turns.specs.Entry.{IsStateBeside}
use Rattle.beside_steps.specs.Holding.{BesideView, AreApart, Holds, IsSameButReply, past_of}
use Rattle.beside_jobs.specs.Under.{told_of, IsUnder}

pub past_replied : (e d : BesideView) → IsSameButReply e d → past_of d ≡ past_of e
past_replied e d same = λ i. record {
  from = (same.restore i).from;
  set = (same.restore i).set;
  version = (same.restore i).version;
  name = same.name i;
  cache = (same.restore i).slots;
  got = (same.restore i).got;
  met = (same.restore i).met;
  place = same.place i;
}

-- none runs
pub none_hold : (v : View) (files : Option Files) → v.job ≡ None → v.pins ≡ [] → Holds v files []
none_hold v files job pins = record { job = job; each = tt; pins = ap numbers pins; apart = subst (λ (ps : List Listed). AreApart (numbers ps)) (sym pins) tt }

module _ (limits : Limits) (lines : List Line) (start : Moment View) (i : ℕ) (answers : List Answer) (es : List BesideView) (v w : View) (p q : PlacesTold) (line is : Line) (below : i < length lines) (here : line ≡ get_or lines i line) (same : line ≡ is) where
  -- the line at this place has answered
  pub answered : (answer : Answer) → StepsLine told_of IsStateBeside IsKnownStray limits (record { keeper = v; places = p }) is answer (record { keeper = w; places = q })
      → IsUnder limits lines start i answers es v p → IsUnder limits lines start (i + 1) (set answers i answer) es w q
  answered answer step u =
      answers_line i answers (map past_of es) (record { keeper = v; places = p }) (record { keeper = w; places = q }) line answer below here
      (subst (λ (l : Line). StepsLine told_of IsStateBeside IsKnownStray limits (record { keeper = v; places = p }) l answer (record { keeper = w; places = q })) (sym same) step) u

  -- or it is a restore, which runs from now on
  pub begun : (ds : List BesideView) (e : BesideView) → ds ≡ es ++ e ∷ [] → IsBegun told_of IsStateBeside IsKnownStray (record { keeper = v; places = p }) is i (record { keeper = w; places = q }) (past_of e)
      → IsUnder limits lines start i answers es v p → IsUnder limits lines start (i + 1) answers ds w q
  begun ds e more step u =
      under_begun told_of IsStateBeside IsKnownStray limits lines start past_of i answers es ds e (record { keeper = v; places = p }) (record { keeper = w; places = q }) line below here
      (subst (λ (l : Line). IsBegun told_of IsStateBeside IsKnownStray (record { keeper = v; places = p }) l i (record { keeper = w; places = q }) (past_of e)) (sym same) step) more u
