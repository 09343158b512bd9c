-- A source of places as it is opened and closed.
use Rattle.std.specs.Prelude.{◌≡◌, ◌≤◌, ℕ, List}
use Rattle.vault_traits.specs.Counts.{added}
use Rattle.vault_traits.specs.Files.{AreKept, IsReaderOf}
use Rattle.vault_traits.specs.Told.{PlacesTold, SourceTold}

-- it was opened, and reads what the name has
pub record HasOpenedSource (before opened : PlacesTold) (name : List ℕ) (from : SourceTold) : Type 0 where
  pub reader : IsReaderOf before.files name from
  pub files : AreKept before.files opened.files
  pub later : before.faults ≤ opened.faults
  pub reads : opened.read_faults ≡ before.read_faults
  pub writes : opened.write_faults ≡ before.write_faults

-- it was closed, as it was left then, and its faults are counted
pub record HasClosedSource (before closed : PlacesTold) (to : SourceTold) : Type 0 where
  pub files : AreKept before.files closed.files
  pub same : closed.faults ≡ before.faults
  pub reads : closed.read_faults ≡ added before.read_faults to.faults
  pub writes : closed.write_faults ≡ before.write_faults
