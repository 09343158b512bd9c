-- A job begins, and ends.
use Rattle.std.proofs.Common.{◌≡◌, ℕ, ◌+◌, ◌++◌, List, [], Option, None, refl, sym, ◌∙◌, ap, subst, arith}
use Rattle.std.specs.Prelude.{IsSome, IsSomeAnd, option_map}
use Rattle.std.specs.List.{AllByRecursion}
use Rattle.vault_types.specs.declared.Name.{Name}
use Rattle.vault_types.specs.declared.Pending.{Pending}
use Rattle.vault_types.specs.State.{latest_of, HasFp}
use Rattle.vault_types.specs.Events.{Core, after_begin, after_refused}
use Rattle.blob_parts.specs.Recipes.{FitsRow}
use Rattle.keeper_catalog.specs.declared.JobInfo.{JobInfo}
use Rattle.keeper_catalog.specs.View.{View, Keeps, job_info}
use Rattle.keeper_core.specs.declared.keeper.Begun.{Begun}
use Rattle.keeper_core.specs.Calls.{IsBegun}
use Rattle.keeper_core.proofs.Keeping.{no_job}
use Rattle.keeper_driver.specs.declared.jobs.Draft.{Draft}
use Rattle.keeper_driver.specs.Drafts.{HasNoJob, HasOpenJob, IsDraft}

pub idle : (w : View) (K : Core) → Keeps w K → K.job ≡ None → HasNoJob w
idle w K keeps none = record { core = K; keeps = keeps; no_job = keeps.job ∙ ap (option_map (job_info K.state)) none }

pub idle_job : (v : View) (is : HasNoJob v) → is.core.job ≡ None
idle_job v is = no_job is.core.state is.core.job (sym is.keeps.job ∙ is.no_job)

pub begun : (v w : View) (is : HasNoJob v) (d : Draft) (b : Begun) (s : ℕ) → ((K : Core) → Keeps v K → Keeps w (after_begin s K.strays K) × IsBegun K.state s b) → b.index ≡ w.index
    → d.set ≡ b.set → d.version ≡ b.version → d.next ≡ b.next → d.index ≡ b.index → d.rows ≡ [] → IsDraft w d
begun v w is d b s begins lent set version next index rows =
    let K = is.core in
    let has = begins K is.keeps in
    record {
      opened = record { core = after_begin s K.strays K; keeps = has.0; job = record { set = s; containers = [] }; open_job = refl; lent = index ∙ lent };
      set = set ∙ has.1.set;
      version = version ∙ has.1.version ∙ ap (λ t. latest_of K.state t + 1) (sym (set ∙ has.1.set));
      next = let at = has.1.next in omega (arith, next, at);
      rows = subst (AllByRecursion (HasFp (K.state.containers ++ []))) (sym rows) tt;
      uses = tt;
      fits = subst (AllByRecursion FitsRow) (sym rows) tt;
    }

-- the job's next container

pub next_put : (v : View) (d : Draft) (is : IsDraft v d) (id : ℕ) → id ≡ d.next → IsSomeAnd v.job (λ j. id ≡ j.next)
next_put v d is id at = subst (λ (o : Option JobInfo). IsSomeAnd o (λ j. id ≡ j.next)) (sym (is.opened.keeps.job ∙ ap (option_map (job_info is.opened.core.state)) is.opened.open_job)) (at ∙ is.next)

pub in_job : (v : View) (d : Draft) (is : HasOpenJob v d) → IsSome v.job
in_job v d is = subst (λ (o : Option JobInfo). IsSome o) (sym (is.keeps.job ∙ ap (option_map (job_info is.core.state)) is.open_job)) refl

-- a put was refused
pub refused : (v w : View) (d e : Draft) (is : HasOpenJob v d) (strays : List Name) (waits : Pending) → Keeps w (after_refused is.core.other is.core.job strays waits is.core) → w.index ≡ v.index → e.index ≡ d.index → HasOpenJob w e
refused v w d e is strays waits keeps same index = record {
  core = after_refused is.core.other is.core.job strays waits is.core;
  keeps = keeps;
  job = is.job;
  open_job = is.open_job;
  lent = index ∙ is.lent ∙ sym same;
}
