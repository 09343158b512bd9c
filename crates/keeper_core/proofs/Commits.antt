-- A commit, by where it ends.
use Rattle.std.proofs.Common.{◌≡◌, inl, inr, ℕ, List, None, Some, Option, refl, sym, subst}
use Rattle.std.specs.Prelude.{Result, Ok, Err, IfSome}
use Rattle.vault_types.specs.declared.Fp.{Fp}
use Rattle.vault_types.specs.declared.Fault.{Fault}
use Rattle.vault_types.specs.declared.Pending.{Pending}
use Rattle.vault_types.specs.declared.Recipe.{Recipe}
use Rattle.vault_types.specs.Shelf.{recipe_name}
use Rattle.vault_types.specs.Events.{Core, Job, CanCommit}
use Rattle.vault_traits.specs.declared.names.Refused.{Refused}
use Rattle.vault_traits.specs.declared.names.Refused.TheVariants.{Memory, Failed}
use Rattle.vault_traits.specs.Told.{ShelfTold}
use Rattle.vault_traits.specs.Causes.{fault_of}
use Rattle.vault_traits.specs.Causes.{IsCause, IsUndamaged}
use Rattle.keeper_parts.specs.declared.Halt.{Halt}
use Rattle.keeper_parts.specs.declared.Halt.TheVariants.{Before, Half}
use Rattle.keeper_catalog.specs.declared.JobInfo.{JobInfo}
use Rattle.keeper_catalog.specs.Catalog.{Memo}
use Rattle.keeper_catalog.specs.View.{View, Keeps, HasCore}
use Rattle.keeper_jobs.specs.Jobs.{Commits}
use Rattle.keeper_jobs.specs.Commits.{CommitsRecipe}
use Rattle.keeper_core.specs.Calls.{due_after}
use Rattle.keeper_core.specs.Commits.{CommitsJob, halt_fault}
use Rattle.keeper_core.proofs.Keeping.{commits_of, commit_done, commit_still, commit_halved, due_cases}
use Rattle.keeper_core.proofs.Refusing.{commit_untried, commit_tried, not_next}

-- some core is kept behind it
pub core_behind : {T : Type 0} (r : Recipe) (u v : View) (result : Result T Fault) → CommitsJob r u v result → (K : Core) (j : Job) → Keeps u K → CanCommit K j r → HasCore v
core_behind r u v (Ok x) commits K j keeps can = (_, commits.ok K j keeps can)
core_behind r u v (Err f) commits K j keeps can = (_, (commits.err K j keeps can).keeps)

module _ (u : View) (info : JobInfo) (open_job : u.job ≡ Some info) (r : Recipe) (told : ShelfTold) (l : Memo) (entries rest : List (Fp × List ℕ)) (same : entries ≡ u.index) where
  abbrev over : Pending → View
  over waits = record { told = told; memo = l; index = rest; pins = u.pins; job = None; pending = waits }

  with_recipe : (K : Core) (j : Job) → Keeps u K → CanCommit K j r → Commits u.memo entries info r K j
  with_recipe K j keeps can = commits_of u K keeps info open_job j r can entries same

  -- it is done
  pub done : {T : Type 0} (x : T) → CommitsRecipe info r u.memo l entries rest u.told told (Ok x) → CommitsJob r u (over u.pending) (Ok x)
  done x commits = record {
    ok = λ K j keeps can.
        let may = with_recipe K j keeps can in
        commit_done u K keeps info open_job j r can told l rest (commits.memo K j may) (commits.index K j may) (commits.held K j may keeps.held);
    err = tt;
    spelled = λ K j keeps can. commits.spelled K j (with_recipe K j keeps can);
    recipes = λ K j keeps can s n i below is. commits.others K j (with_recipe K j keeps can) (recipe_name s n) (not_next K j r keeps.core can s n i is);
    any_moment = λ K j keeps can here. commits.any_moment K j (with_recipe K j keeps can) keeps.held here;
    acknowledged = λ K j keeps can. commits.acknowledged K j (with_recipe K j keeps can) keeps.held;
    due = tt;
    left = λ K j keeps can. commits.left K j (with_recipe K j keeps can);
    strays = tt;
    tells = commits.tells;
    pins = refl;
    gets = commits.gets;
    causes = record { later = commits.later; each = tt };
  }

  due_here : (f : Fault) → IfSome u.job (λ j. due_after f info.set u.pending ≡ due_after f j.set u.pending)
  due_here f = subst (λ (o : Option JobInfo). IfSome o (λ j. due_after f info.set u.pending ≡ due_after f j.set u.pending)) (sym open_job) refl

  -- the recipe's put was not tried
  untried : {T : Type 0} (why : Refused) → IsCause u.told.faults told.faults IsUndamaged (fault_of told.faults why) → CommitsRecipe {T = T} info r u.memo l entries rest u.told told (Err (Before why))
      → CommitsJob {T = T} r u (over (due_after (fault_of told.faults why) info.set u.pending)) (Err (fault_of told.faults why))
  untried why cause commits = record {
    ok = tt;
    err = λ K j keeps can.
        let may = with_recipe K j keeps can in
        commit_untried u (over (due_after (fault_of told.faults why) info.set u.pending)) K keeps info open_job _ None _
        (commit_still u K keeps info open_job j r can told l rest _ (due_cases (fault_of told.faults why) info.set u.pending) (λ w. commits.still K j w may) (commits.same_index K j may) (commits.before why refl K j _ may keeps.held))
        (λ here. commits.untried why refl K j may here);
    spelled = tt;
    recipes = λ K j keeps can s n i below is. commits.others K j (with_recipe K j keeps can) (recipe_name s n) (not_next K j r keeps.core can s n i is);
    any_moment = λ K j keeps can here. commits.any_moment K j (with_recipe K j keeps can) keeps.held here;
    acknowledged = tt;
    due = due_here (fault_of told.faults why);
    left = tt;
    strays = inl (commits.as_before why refl);
    tells = commits.tells;
    pins = refl;
    gets = commits.gets;
    causes = record { later = commits.later; each = cause };
  }

  -- a refusal
  halted : {T : Type 0} (h : Halt) → CommitsRecipe {T = T} info r u.memo l entries rest u.told told (Err h) → CommitsJob {T = T} r u (over (due_after (halt_fault told.faults h) info.set u.pending)) (Err (halt_fault told.faults h))
  halted (Before Memory) commits = untried Memory tt commits
  halted (Before Failed) commits = untried Failed (refl, commits.failed_before refl) commits
  halted Half commits = record {
    ok = tt;
    err = λ K j keeps can.
        let may = with_recipe K j keeps can in
        commit_tried u (over (due_after (halt_fault told.faults Half) info.set u.pending)) K keeps info open_job _ None _ (_, refl)
        (commit_halved u K keeps info open_job j r can told l rest (λ w. commits.still K j w may) (commits.same_index K j may) (commits.half refl K j may keeps.held))
        (λ here. commits.any_moment K j may keeps.held here);
    spelled = tt;
    recipes = λ K j keeps can s n i below is. commits.others K j (with_recipe K j keeps can) (recipe_name s n) (not_next K j r keeps.core can s n i is);
    any_moment = λ K j keeps can here. commits.any_moment K j (with_recipe K j keeps can) keeps.held here;
    acknowledged = tt;
    due = due_here (halt_fault told.faults Half);
    left = tt;
    strays = inr (commits.tried refl, (_, refl));
    tells = commits.tells;
    pins = refl;
    gets = commits.gets;
    causes = record { later = commits.later; each = (refl, commits.failed_half refl) };
  }

  pub refused : {T : Type 0} (h : Halt) → CommitsRecipe {T = T} info r u.memo l entries rest u.told told (Err h) → (f : Fault) → f ≡ halt_fault told.faults h → (waits : Pending) → waits ≡ due_after f info.set u.pending → CommitsJob {T = T} r u (over waits) (Err f)
  refused {T = T} h commits f f_is waits waits_are =
      subst (λ (w : Pending). CommitsJob {T = T} r u (over w) (Err f)) (sym waits_are)
      (subst (λ (g : Fault). CommitsJob {T = T} r u (over (due_after g info.set u.pending)) (Err g)) (sym f_is) (halted h commits))

-- the same where the view before is told otherwise
pub from_view : {T : Type 0} (r : Recipe) (w u v : View) (result : Result T Fault) → w ≡ u → CommitsJob r w v result → CommitsJob r u v result
from_view r w u v result is commits = subst (λ (x : View). CommitsJob r x v result) is commits
