-- A restore goes on within a backup's job: to the run that is a load before the job.
use Rattle.std.proofs.Common.{◌≡◌, ◌≤◌, ◌<◌, inl, inr, ℕ, List, Option, Some, refl, sym, ◌∙◌, ap, subst, arith, length, get_or, set}
use Rattle.std.specs.Prelude.{map}
use Rattle.vault_types.specs.Tables.{Container}
use Rattle.vault_traits.specs.Counts.{Rose, counted_up}
use Rattle.vault_traits.specs.Told.{Files}
use Rattle.keeper_catalog.specs.View.{View, HasCore}
use Rattle.keeper_core.specs.Keeping.{IsKnownStray}
use Rattle.backup_jobs.specs.Going.{Began, IsUnderway}
use Rattle.backup_lines.proofs.Following.{underway_follows}
use Rattle.pipe_backup.specs.Loading.{IsLoaded, counted_as}
use Rattle.pipe_backup.proofs.Moved.{keeps_counted}
use Rattle.pin_laws.specs.Following.{Follows}
use Rattle.pin_laws.proofs.Calls.{further}
use Rattle.beside_runner.proofs.Served.{held_set, under_on}
use Rattle.restore_turns.specs.Entry.{MeetsFirst, IsStateBeside}
use Rattle.restore_turns.proofs.Turns.{load_follows}
use Rattle.serial_restore.specs.Going.{Stays}
use Rattle.running_restore.specs.Feeding.{HasFed}
use Rattle.running_restore.specs.Views.{RunningView, IsRunning}
use Rattle.beside_steps.specs.Holding.{BesideView, IsOne, Holds, past_of}
use Rattle.beside_steps.proofs.Held.{one_at, one_follows}
use Rattle.beside_steps.proofs.Going.{gone_on, holds_fed}
use Rattle.beside_jobs.specs.Under.{told_of}
use Rattle.beside_jobs.specs.Beside.{Reached, RunsThere}

rose_back : (a b n : ℕ) → a ≤ b → Rose b n → Rose a n
rose_back a b n later rose = grind arith

-- what was met behind a later count was met behind an earlier one
meets_back : (a b : ℕ) (was met : Option ℕ) (now : ℕ) → a ≤ b → MeetsFirst b was met now → MeetsFirst a was met now
meets_back a b was met now later (inl same) = let on = same.1 in inl (same.0, omega (arith, later, on))
meets_back a b was met now later (inr first) = inr (first.0, (first.1.0, first.1.1, (rose_back a b first.1.0 later first.1.2.0, first.1.2.1)))

module _ (b : Began) (now : View) (containers : List Container) (u : IsUnderway b now containers) where
  -- the keeper at this moment of the job still has its pin
  pub running_now : (files : Option Files) (e : BesideView) → IsOne b.keeper files e → IsRunning now e.restore
  running_now files e one = (one_follows b.keeper now files files u.later (λ some. some) e (underway_follows b now containers u e.restore.number) one).running

  module _ (next : View) (r q : RunningView) (fed : HasFed now next r q) where
    abbrev behind : View
    behind = counted_as b.keeper next

    later_on : b.keeper.told.faults ≤ next.told.faults
    later_on = let first = u.later in let then = fed.stays.later in omega (arith, first, then)

    stays_behind : Stays b.keeper behind
    unfolding later_on
    stays_behind = record { memo = refl; index = refl; pins = refl; job = refl; pending = refl; blobs = refl; history = refl; later = later_on; keeps = keeps_counted b.keeper next }

    pub fed_before : HasFed b.keeper behind r q
    unfolding stays_behind
    fed_before = record {
      more = fed.more;
      met = fed.met;
      sent = fed.sent;
      is = fed.is;
      stays = stays_behind;
      gets = fed.gets ∙ ap (λ (n : ℕ). counted_up n fed.more) u.gets;
      meets = meets_back b.keeper.told.faults now.told.faults r.met fed.met next.told.faults u.later fed.meets;
    }

    pub running_before : IsRunning b.keeper r → IsRunning next q → IsRunning behind q
    unfolding stays_behind
    running_before was on =
        let follows : Follows r.behind behind r.number = further r.behind b.keeper behind r.number was.follows (load_follows b.keeper behind r.number stays_behind) in
        record {
          follows = subst (λ (x : RunningView). Follows x.behind behind x.number) (sym fed.is) follows;
          later = on.later;
          core = on.core;
          asked = on.asked;
          all = on.all;
          tried = on.tried;
          rose = on.rose;
        }

  -- one of the restores that run has gone on
  module _ (next : View) (r : Reached) (es : List BesideView) (at : ℕ) (e d : BesideView) (below : at < length es) (is : e ≡ get_or es at e) (fed : HasFed now next e.restore d.restore)
      (named : d.name ≡ e.name) (placed : d.place ≡ e.place) (same : d.ended ≡ e.ended) (running : IsRunning next d.restore) where
    pub runs_on : RunsThere r es b.keeper → RunsThere r (set es at d) (counted_as b.keeper next)
    runs_on h =
        let w = counted_as b.keeper next in
        let before = fed_before next e.restore d.restore fed in
        let one = one_at b.keeper r.places.files es at e below is h.holds in
        record {
          holds = held_set (Holds b.keeper r.places.files) (Holds w r.places.files) es at e below is h.holds d (holds_fed b.keeper w r.places e d before same (running_before next e.restore d.restore fed one.running running));
          under = under_on told_of IsStateBeside IsKnownStray r.limits r.lines r.start past_of r.begun r.answers es at e d (record { keeper = b.keeper; places = r.places }) (record { keeper = w; places = r.places }) below is
              (gone_on b.keeper w r.places e d before named placed) h.under;
        }

-- a core is kept whatever the counts
pub core_counted : (v now : View) → HasCore v → HasCore (counted_as v now)
core_counted v now core = (core.0, keeps_counted v now core.0 core.1)

-- what was fed was loaded
pub fed_loads : (v w : View) (r q : RunningView) → HasFed v w r q → IsLoaded v w
fed_loads v w r q fed = let s = fed.stays in record { memo = s.memo; index = s.index; pins = s.pins; job = s.job; pending = s.pending; blobs = s.blobs; history = s.history; later = s.later }
