-- What a source gave, and why no more could be read of it.
use Rattle.std.specs.Prelude.{◌≡◌, ◌≤◌, ◌<◌, ℕ, List, length, IfSome}
use Rattle.vault_types.specs.declared.Fault.{Fault}
use Rattle.vault_types.specs.declared.Fault.TheVariants as fault
use Rattle.vault_traits.specs.Counts.{Rose}
use Rattle.vault_traits.specs.Told.{SourceTold, Gives}

-- it gave this text, and its count of faults has not fallen
pub record HasGiven (from to : SourceTold) (text : List ℕ) : Type 0 where
  pub given : Gives from.left to.left text
  pub later : from.faults ≤ to.faults

-- no memory, the source failed, or it has more than so many bytes
abbrev pub IsTextFault : ℕ → SourceTold → SourceTold → Fault → Type 0
IsTextFault limit from to fault.Memory = Unit {0}
IsTextFault limit from to (fault.ReadFault n) = Rose from.faults n × (n ≤ to.faults)
IsTextFault limit from to (fault.ScriptTooLong most) =
    (most ≡ limit) × IfSome from.left (λ text. limit < length text)
IsTextFault limit from to other = ⊥
