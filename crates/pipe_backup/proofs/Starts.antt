-- A job begins.
use Rattle.std.proofs.Common.{◌≡◌, ℕ, List, [], false, None, refl, ap, ◌∙◌, subst, arith}
use Rattle.std.specs.Prelude.{Result}
use Rattle.vault_types.specs.declared.Answer.{Answer}
use Rattle.vault_types.specs.declared.Fault.{Fault}
use Rattle.vault_types.specs.declared.Fault.TheVariants as fault
use Rattle.vault_types.specs.declared.JobConfig.{JobConfig}
use Rattle.vault_types.specs.declared.Limits.{Limits}
use Rattle.vault_types.specs.JobRanges.{IsCuttable}
use Rattle.vault_traits.specs.Told.{SourceTold}
use Rattle.container_fill.specs.Filling.{Filling, HasFilled}
use Rattle.keeper_catalog.specs.View.{View}
use Rattle.pipe_run.specs.Jobs.{JobView}
use Rattle.seal_lane.specs.Lanes.{SealView}
use Rattle.backup_jobs.specs.Backup.{BacksUp}
use Rattle.backup_jobs.specs.declared.opening.Opened.{Opened}
use Rattle.backup_jobs.specs.Going.{IsOpened, IsStopped, began_with}
use Rattle.backup_jobs.proofs.Causes.{gives_none}
use Rattle.pipe_backup.specs.Piping.{PipingView, IsJobFor, HasStartedPiping}

module _ (s : ℕ) (config : JobConfig) (limits : Limits) (before now : View) (from : SourceTold) (o : Opened) (h : IsOpened s config limits before now from o) where
  -- there was no memory for its stages
  pub no_room : IsStopped (began_with s config limits before from o) now from fault.Memory
  no_room = record {
    read = [];
    given = gives_none from.left;
    within = omega arith;
    source_later = omega arith;
    containers = [];
    underway = h.underway;
    cause = tt;
  }

-- the stages are those of this job
job_for : {I : Type 0} (s : ℕ) (config : JobConfig) (limits : Limits) (before : View) (told : I → SourceTold) (o : Opened) (source : I) (sparse : List ℕ) (j : JobView I) → sparse ≡ o.sparse.items
    → j ≡ record { source = source; cutting = config.cutting; rules = record { sparse = sparse; config = config }; limit = limits.chunks; index = o.index; taken = []; stopped = false }
    → IsJobFor (began_with s config limits before (told source) o) told j
job_for {I} s config limits before told o source sparse j same is = record {
  source = ap (λ (k : JobView I). told k.source) is;
  cutting = ap (λ (k : JobView I). k.cutting) is;
  rules = ap (λ (k : JobView I). k.rules) is ∙ ap (λ (x : List ℕ). record { sparse = x; config = config }) same;
  limit = ap (λ (k : JobView I). k.limit) is;
  index = ap (λ (k : JobView I). k.index) is;
  stopped = ap (λ (k : JobView I). k.stopped) is;
}

-- a backup that has just started
pub starts : {I : Type 0} (s : ℕ) (config : JobConfig) (limits : Limits) (before now : View) (told : I → SourceTold) (o : Opened) (source : I) (sparse : List ℕ) (j : JobView I) (lane : SealView) (f : Filling) (lens : List ℕ)
    → IsOpened s config limits before now (told source) o → IsCuttable config.cutting → sparse ≡ o.sparse.items
    → j ≡ record { source = source; cutting = config.cutting; rules = record { sparse = sparse; config = config }; limit = limits.chunks; index = o.index; taken = []; stopped = false }
    → lane ≡ record { given = []; back = [] } → HasFilled f o.job.first [] [] [] → f.capacity ≡ config.container → lens ≡ []
    → HasStartedPiping told s config limits before now (told source) (record { job = o.job; stages = j; lane = lane; filler = f; held = None; span = record { first = o.job.first; limit = limits.chunks }; lens = lens; count = 0 })
starts {I} s config limits before now told o source sparse j lane f lens h can same is new filled capacity none = record {
  began = began_with s config limits before (told source) o;
  set_is = refl;
  config_is = refl;
  limits_are = refl;
  keeper_is = refl;
  source_is = refl;
  piping = record {
    backup = record { job = h.job; span = record { first = refl; limit = refl }; stages = job_for s config limits before told o source sparse j same is; cuttable = can };
    parts = [];
    taken = ap (λ (k : JobView I). k.taken) is;
    count_is = refl;
    filling = record {
      gone = [];
      filled = record { filled = filled; capacity = capacity; cuttable = can; few = omega arith };
      handed = record {
        put = [];
        given_are = ap (λ (v : SealView). v.given) new;
        back_are = ap (λ (v : SealView). v.back) new;
        all = record { underway = h.underway; waits = h.waits; named = h.named; lens_are = none };
      };
    };
  };
}

-- what a backup that has started ensures at its end
pub started_backs_up : {I : Type 0} (told : I → SourceTold) (s : ℕ) (config : JobConfig) (limits : Limits) (before now : View) (from : SourceTold) (p : PipingView I) → (h : HasStartedPiping told s config limits before now from p)
    → (after : View) (to : SourceTold) (r : Result Answer Fault) → BacksUp h.began.set h.began.config h.began.limits h.began.keeper after h.began.source to r → BacksUp s config limits before after from to r
started_backs_up {I} told s config limits before now from p h after to r is =
    subst (λ (x : ℕ × JobConfig × Limits × View × SourceTold). BacksUp x.0 x.1 x.2 x.3 after x.4 to r) (λ i. (h.set_is i, h.config_is i, h.limits_are i, h.keeper_is i, h.source_is i)) is
