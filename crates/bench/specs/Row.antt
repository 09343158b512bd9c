-- What contracts see of a row of stages: what went in at its near end, and what was taken at its far end.
use Rattle.std.specs.Prelude.{ℕ, List, Option}

pub record Rowing : Type 0 where
  pub sent : List (Option ℕ)
  pub taken : List (Option ℕ)
