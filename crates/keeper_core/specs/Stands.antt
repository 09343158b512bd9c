-- The index and the job of a keeper.
use Rattle.std.specs.Prelude.{ℕ, List, Option, Some, None}
use Rattle.vault_types.specs.declared.Fp.{Fp}
use Rattle.keeper_catalog.specs.declared.JobInfo.{JobInfo}
use Rattle.keeper_core.specs.declared.keeper.Stand.{Stand}
use Rattle.keeper_core.specs.declared.keeper.Stand.TheVariants.{Here, Lent}

abbrev pub index_of : Stand → List (Fp × List ℕ)
index_of (Here index) = index
index_of (Lent job index) = index.value

abbrev pub job_of : Stand → Option JobInfo
job_of (Here index) = None
job_of (Lent job index) = Some job
