-- A pass begins.
use Rattle.std.proofs.Common.{◌≡◌, ℕ, List, [], arith}
use Rattle.vault_types.specs.declared.JobConfig.{JobConfig}
use Rattle.vault_types.specs.declared.Limits.{Limits}
use Rattle.vault_traits.specs.Told.{SourceTold}
use Rattle.backup_pass.specs.declared.pass.Pass.{Pass}
use Rattle.backup_pass.specs.Passing.{HasPassed, index_in}
use Rattle.keeper_catalog.specs.View.{View}
use Rattle.backup_jobs.specs.declared.opening.Opened.{Opened}
use Rattle.backup_jobs.specs.Going.{IsOpened, began_with, rules_of}
use Rattle.backup_jobs.proofs.Causes.{gives_none}
use Rattle.serial_backup.specs.Streaming.{IsGoing}

pub starts : (s : ℕ) (config : JobConfig) (limits : Limits) (before now : View) (from : SourceTold) (o : Opened) → IsOpened s config limits before now from o
    → (pass : Pass) → HasPassed pass (rules_of (began_with s config limits before from o)) limits.chunks o.job.first [] [] → index_in pass ≡ o.index → (lens : List ℕ) → lens ≡ []
    → IsGoing (began_with s config limits before from o) now from pass lens []
starts s config limits before now from o h pass passed index lens none = record {
  given = gives_none from.left;
  within = omega arith;
  source_later = omega arith;
  fed = record { containers = []; underway = h.underway; passed = passed; index = index; waits = h.waits; named = h.named; lens_are = none };
}
