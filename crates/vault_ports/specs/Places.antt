-- What is seen of places in memory.
use Rattle.std.specs.Prelude.{◌≡◌, ◌≢◌, ◌^◌, ◌-◌, ℕ, zero, suc, List, [], ◌∷◌, Option, Some, None, Result, Ok, Err, Vec, map, cond}
use Rattle.std.specs.declared.alloc.Global.{Global}
use Rattle.std.specs.declared.string.String.{String}
use Rattle.std.specs.String.{string_bytes}
use Rattle.std.specs.Map.{lookup}
use Rattle.std.specs.Str.{bytes_eq}
use Rattle.vault_ports.specs.Streams.{FaultyGiving, FaultyTaking}

-- names and their bytes
abbrev pub Named : Type 0
Named = List (List ℕ × List ℕ)

-- what is under a name; where it stands twice, the first
abbrev pub file_at : Named → List ℕ → Option (List ℕ)
file_at files name = lookup (bytes_eq name) files

abbrev pub files_of : List (String Global × Vec ℕ Global) → Named
files_of list = map (λ f. (string_bytes f.0, f.1.items)) list

-- of places: the names and their bytes, for how many bytes a writer has room, and the counts of faults
pub record Placing : Type 0 where
  pub files : Named
  pub room : ℕ
  pub faults : ℕ
  pub read_faults : ℕ
  pub write_faults : ℕ

-- of places whose first reader and first writer fail at numbered calls: besides, the most that a
-- read of that reader gives, and the numbers, until that reader or that writer is opened
pub record FaultyPlacing : Type 0 where
  pub places : Placing
  pub piece : ℕ
  pub reads : Option (List ℕ)
  pub writes : Option (List ℕ)

-- a reader of these bytes, whose reads fail at these numbers; without numbers, one that never fails
abbrev pub reader_of : List ℕ → ℕ → Option (List ℕ) → FaultyGiving
reader_of bytes piece None = record { left = bytes; piece = 2 ^ 64 - 1; fail = []; calls = 0; faults = 0 }
reader_of bytes piece (Some fail) = record { left = bytes; piece = piece; fail = fail; calls = 0; faults = 0 }

-- a writer with room for so many bytes, whose writes fail at these numbers too
abbrev pub writer_of : ℕ → Option (List ℕ) → FaultyTaking
writer_of room None = record { taken = []; room = room; fail = []; calls = 0; faults = 0 }
writer_of room (Some fail) = record { taken = []; room = room; fail = fail; calls = 0; faults = 0 }

-- the numbers that are left after an opening: they go with the first one that succeeds
abbrev pub unless_taken : {T E : Type 0} → Result T E → Option (List ℕ) → Option (List ℕ)
unless_taken (Ok x) numbers = None
unless_taken (Err e) numbers = numbers

-- the name stands first at that place
abbrev pub IsFirst : Named → List ℕ → ℕ → Type 0
IsFirst [] name i = ⊥
IsFirst (f ∷ fs) name zero = f.0 ≡ name
IsFirst (f ∷ fs) name (suc i) = (f.0 ≢ name) × IsFirst fs name i

-- the name has these bytes now, and each other what it had
abbrev pub IsFiled : Named → Named → List ℕ → List ℕ → Type 0
IsFiled old new name bytes =
    (q : List ℕ) → file_at new q ≡ cond (bytes_eq q name) (Some bytes) (file_at old q)
