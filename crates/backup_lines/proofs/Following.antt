-- A pin stays over a whole backup, and so long as its job is underway.
use Rattle.std.proofs.Common.{ℕ, List, None, Result, Ok, Err, refl}
use Rattle.std.specs.Prelude.{OnOk, IfErr}
use Rattle.vault_types.specs.declared.Answer.{Answer}
use Rattle.vault_types.specs.declared.Fault.{Fault}
use Rattle.vault_types.specs.declared.JobConfig.{JobConfig}
use Rattle.vault_types.specs.declared.Limits.{Limits}
use Rattle.vault_types.specs.Events.{Core, after_refused}
use Rattle.vault_types.specs.Tables.{Container}
use Rattle.vault_traits.specs.Told.{SourceTold}
use Rattle.keeper_catalog.specs.View.{View, Keeps}
use Rattle.backup_jobs.specs.Backup.{BacksUp, IsBackupRefused, after_backup}
use Rattle.backup_jobs.specs.Going.{Began, IsUnderway, job_core}
use Rattle.pin_laws.specs.Following.{Follows}
use Rattle.pin_laws.proofs.Calls.{by_event}

pub backup_follows : (s : ℕ) (config : JobConfig) (limits : Limits) (v w : View) (from to : SourceTold) (result : Result Answer Fault) → BacksUp s config limits v w from to result → (number : ℕ) → Follows v w number
backup_follows s config limits v w from to result h number = at result h.done h.refused
  where
    at : (r : Result Answer Fault) → OnOk r ((K : Core) → Keeps v K → Keeps w (after_backup s h.read config w.memo.strays w.pending K)) → IfErr r (λ f. (K : Core) → Keeps v K → IsBackupRefused s config limits h.read v w from to K f) → Follows v w number
    at (Ok a) done refused = by_event v w number h.tells (λ K. after_backup s h.read config w.memo.strays w.pending K) (λ K. refl) done
    at (Err f) done refused = record {
      tells = h.tells;
      cores = λ K keeps. let r = refused K keeps in record { core = after_refused r.other None w.memo.strays w.pending K; keeps = r.keeps; pinned = λ p is there. there };
    }

-- within the job, from the keeper at its beginning: for what is served beside a job
pub underway_follows : (b : Began) (now : View) (containers : List Container) → IsUnderway b now containers → (number : ℕ) → Follows b.keeper now number
underway_follows b now containers u number = by_event b.keeper now number u.tells (λ K. job_core b.set containers now K) (λ K. refl) u.keeps
