-- A backup's line beside whatever pins, and what it leaves of the restores that run.
use Rattle.std.proofs.Common.{◌≡◌, ℕ, List, Option, Result, sym, ap, subst}
use Rattle.vault_types.specs.declared.Answer.{Answer}
use Rattle.vault_types.specs.declared.Fault.{Fault}
use Rattle.vault_types.specs.declared.JobConfig.{JobConfig}
use Rattle.vault_types.specs.declared.Limits.{Limits}
use Rattle.vault_types.specs.declared.Line.{Line}
use Rattle.vault_types.specs.JobRanges.{IsCuttable}
use Rattle.vault_traits.specs.Files.{AreKept}
use Rattle.vault_traits.specs.Told.{Files, PlacesTold, SourceTold}
use Rattle.store_model.specs.Calls.{BacksUpLine}
use Rattle.store_model.specs.Steps.{Moment, StepsLine}
use Rattle.keeper_catalog.specs.View.{View, HasCore}
use Rattle.keeper_core.specs.Keeping.{IsKnownStray}
use Rattle.backup_jobs.specs.Backup.{BacksUp}
use Rattle.backup_lines.proofs.Following.{backup_follows}
use Rattle.backup_lines.proofs.Lines.{backs_up_beside}
use Rattle.restore_turns.specs.Entry.{IsStateBeside}
use Rattle.beside_steps.specs.Holding.{BesideView, Holds}
use Rattle.beside_steps.proofs.Held.{holds_still}
use Rattle.beside_steps.proofs.Answered.{told_kept_twice}
use Rattle.beside_jobs.specs.Under.{told_of}
use Rattle.beside_jobs.specs.Beside.{Reached, RunsThere, HasBackedUp, AnswersBeside}

pub backed_up : (v w : View) (s : ℕ) (config : JobConfig) (limits : Limits) (from to : SourceTold) (result is : Result Answer Fault) → HasCore v → IsCuttable config.cutting → BacksUp s config limits v w from to result → result ≡ is
    → BacksUpLine (IsStateBeside v) (IsStateBeside w) (IsKnownStray v) (IsKnownStray w) limits s config v.told w.told from to is
backed_up v w s config limits from to result is core can h same =
    subst (λ (r : Result Answer Fault). BacksUpLine (IsStateBeside v) (IsStateBeside w) (IsKnownStray v) (IsKnownStray w) limits s config v.told w.told from to r) same
    (backs_up_beside v w s config limits from to result core can h)

module _ (r : Reached) (es : List BesideView) (v : View) where
  -- the line has answered, over the places that the run has come to
  pub answers_at : (limits : Limits) (places : PlacesTold) (line : Line) (answer : Answer) (now : Moment View) → r.limits ≡ limits → r.places ≡ places → RunsThere r es v
      → StepsLine told_of IsStateBeside IsKnownStray limits (record { keeper = v; places = places }) line answer now → AnswersBeside r es line answer now
  answers_at limits places line answer now limited told h steps = record {
    behind = v;
    under = h.under;
    steps =
        subst (λ (l : Limits). StepsLine told_of IsStateBeside IsKnownStray l (record { keeper = v; places = r.places }) line answer now) (sym limited)
        (subst (λ (p : PlacesTold). StepsLine told_of IsStateBeside IsKnownStray limits (record { keeper = v; places = p }) line answer now) (sym told) steps);
  }

  pub held_there : (places : PlacesTold) → r.places ≡ places → RunsThere r es v → Holds v places.files es
  held_there places told h = subst (λ (p : PlacesTold). Holds v p.files es) told h.holds

-- a backup leaves the pins
pub holds_backed : (r : Reached) (p : PlacesTold) (m q : Option Files) (es : List BesideView) (s : ℕ) (config : JobConfig) (limits : Limits) (now : View) (from to : SourceTold) (result : Result Answer Fault) → r.places ≡ p → AreKept p.files m → AreKept m q
    → HasBackedUp r es s config limits now from to result → Holds now q es
holds_backed r p m q es s config limits now from to result told opened closed h =
    holds_still h.behind now p.files q h.backs_up.store_later (told_kept_twice p.files m q opened closed) (backup_follows s config limits h.behind now from to result h.backs_up) es
    (held_there r es h.behind p told h.restores) h.backs_up.idle h.backs_up.pins
