-- What is seen of sources and sinks in memory.
use Rattle.std.specs.Prelude.{ℕ, List}

-- of a source: what is left, and the most that a read gives
pub record Giving : Type 0 where
  pub left : List ℕ
  pub piece : ℕ

-- of a source whose numbered reads fail: besides, their numbers, how many reads there were, and how
-- many failed
pub record FaultyGiving : Type 0 where
  pub left : List ℕ
  pub piece : ℕ
  pub fail : List ℕ
  pub calls : ℕ
  pub faults : ℕ

-- of a sink: what it has taken, for how many bytes it has room in all, and how many writes failed
pub record Taking : Type 0 where
  pub taken : List ℕ
  pub room : ℕ
  pub faults : ℕ

-- of a sink whose numbered writes fail: besides, their numbers, and how many writes there were
pub record FaultyTaking : Type 0 where
  pub taken : List ℕ
  pub room : ℕ
  pub fail : List ℕ
  pub calls : ℕ
  pub faults : ℕ
