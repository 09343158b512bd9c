-- What is seen of a reader and a writer that wait for each other.
use Rattle.std.specs.Prelude.{ℕ, List}

-- of a reader: the bytes that are left, and how many reads failed
pub record MeetingGiving : Type 0 where
  pub left : List ℕ
  pub faults : ℕ

-- of a writer: what it has taken, for how many bytes it has room in all, and how many writes failed
pub record MeetingTaking : Type 0 where
  pub taken : List ℕ
  pub room : ℕ
  pub faults : ℕ
