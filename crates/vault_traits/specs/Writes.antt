-- Two writes of a shelf, of which the second begins once the first is done.
use Rattle.std.specs.Prelude.{◌⊎◌, ℕ, List, Option}
use Rattle.vault_types.specs.declared.Name.{Name}
use Rattle.vault_types.specs.Shelf.{Blobs}
use Rattle.vault_traits.specs.Crash.{History}
use Rattle.vault_traits.specs.Shelf.{blobs_with, history_with, IsWritten, MayBeWritten}

-- both were done
abbrev pub AreWritten : Option Blobs → Option Blobs → Option History → Option History → Name → Option (List ℕ)
    → Name → Option (List ℕ) → Type 0
AreWritten before after past now first a second b =
    IsWritten (blobs_with before first a) after (history_with past first a) now second b

-- the first may be done or not; or it was done, and so the second may be
abbrev pub MayBeWrittenInTurn : Option Blobs → Option Blobs → Option History → Option History → Name
    → Option (List ℕ) → Name → Option (List ℕ) → Type 0
MayBeWrittenInTurn before after past now first a second b =
    MayBeWritten before after past now first a
    ⊎ MayBeWritten (blobs_with before first a) after (history_with past first a) now second b
