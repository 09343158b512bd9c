-- What is seen of a sink that sums what it takes.
use Rattle.std.specs.Prelude.{ℕ, List}

-- the bytes that it took, and how many writes failed
pub record Summing : Type 0 where
  pub taken : List ℕ
  pub faults : ℕ
