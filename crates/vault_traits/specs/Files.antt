-- What the calls of places do to the bytes under their names.
use Rattle.std.specs.Prelude.{◌≡◌, ◌≢◌, ◌⊎◌, ◌≤◌, ◌<◌, ℕ, List, [], length, Option, None, Some, IsSome, IfSome}
use Rattle.vault_traits.specs.Told.{Files, SourceTold, SinkTold}

-- what a name has becomes something, and each other name keeps its bytes; who tells goes on
-- telling, who doesn't goes on so
abbrev pub ChangesOnly : Option Files → Option Files → List ℕ → (Option (List ℕ) → Option (List ℕ) → Type 0)
    → Type 0
ChangesOnly None None name Becomes = Unit {0}
ChangesOnly None (Some new) name Becomes = ⊥
ChangesOnly (Some old) None name Becomes = ⊥
ChangesOnly (Some old) (Some new) name Becomes =
    Becomes (old name) (new name) × ((other : List ℕ) → other ≢ name → new other ≡ old other)

-- every name keeps its bytes
abbrev pub AreKept : Option Files → Option Files → Type 0
AreKept None None = Unit {0}
AreKept None (Some new) = ⊥
AreKept (Some old) None = ⊥
AreKept (Some old) (Some new) = (name : List ℕ) → new name ≡ old name

-- a reader with all the name's bytes left, that has not failed
pub record IsReaderOf (files : Option Files) (name : List ℕ) (reader : SourceTold) : Type 0 where
  pub left : IfSome files (λ f. IsSome (f name) × (reader.left ≡ f name))
  pub fresh : reader.faults ≡ 0

-- a writer that has taken nothing, and has not failed
pub record IsNewWriter (files : Option Files) (writer : SinkTold) : Type 0 where
  pub taken : IfSome files (λ f. writer.taken ≡ Some [])
  pub fresh : writer.faults ≡ 0

-- the name is empty now
abbrev pub IsEmptied : Option (List ℕ) → Option (List ℕ) → Type 0
IsEmptied before after = after ≡ Some []

-- the name keeps its bytes, or is empty now
abbrev pub MayBeEmptied : Option (List ℕ) → Option (List ℕ) → Type 0
MayBeEmptied before after = (after ≡ before) ⊎ (after ≡ Some [])

-- the name has what the writer took
abbrev pub IsWhatWasTaken : Option (List ℕ) → Option (List ℕ) → Option (List ℕ) → Type 0
IsWhatWasTaken taken before after = IfSome taken (λ bytes. after ≡ Some bytes)

-- the name is there, where that is told
abbrev pub IsThere : Option Files → List ℕ → Type 0
IsThere files name = IfSome files (λ f. IsSome (f name))

-- a writer has failed only where it has taken as many bytes as it has room for, if its room is told
abbrev pub FailsOnlyFull : Option ℕ → SinkTold → Type 0
FailsOnlyFull room writer =
    IfSome room (λ most. 0 < writer.faults → IfSome writer.taken (λ taken. most ≤ length taken))
