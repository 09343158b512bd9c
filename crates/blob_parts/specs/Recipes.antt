-- A recipe whose numbers and sums have their widths.
use Rattle.std.specs.Prelude.{ℕ, ◌<◌, ◌^◌, List, length, IfSome}
use Rattle.std.specs.List.{AllByRecursion}
use Rattle.vault_types.specs.declared.Row.{Row}
use Rattle.vault_types.specs.declared.Recipe.{Recipe}
use Rattle.vault_types.specs.Names.{IsFp}

abbrev pub FitsRow : Row → Type 0
FitsRow r = IsFp r.fp × ((r.id < 2 ^ 64) × (r.len < 2 ^ 32))

abbrev pub FitIds : List ℕ → Type 0
FitIds ids = (length ids < 2 ^ 32) × AllByRecursion (λ id. id < 2 ^ 64) ids

pub record HasWidths (r : Recipe) : Type 0 where
  pub version : r.version < 2 ^ 32
  pub next : r.next < 2 ^ 64
  pub len : r.length < 2 ^ 64
  pub few : length r.rows < 2 ^ 32
  pub rows : AllByRecursion FitsRow r.rows
  pub sparse : FitIds r.sparse
  pub whole : IfSome r.whole IsFp
