-- What the devices tell. A device that tells its content is called honest.
use Rattle.std.specs.Prelude.{◌≡◌, ℕ, List, [], ◌++◌, Option, IfSome}
use Rattle.std.specs.Option.{option_map}
use Rattle.vault_types.specs.Shelf.{Blobs}
use Rattle.vault_traits.specs.Crash.{History}

-- of a shelf: its blobs, and the steps from which follows what a crash leaves, where it tells them;
-- how often it failed; how many gets of a payload there were
pub record ShelfTold : Type 0 where
  pub blobs : Option Blobs
  pub history : Option History
  pub faults : ℕ
  pub gets : ℕ

-- of a source: what is left, where it tells that, and how often it failed
pub record SourceTold : Type 0 where
  pub left : Option (List ℕ)
  pub faults : ℕ

-- of a sink: what it has taken, where it tells that, and how often it failed
pub record SinkTold : Type 0 where
  pub taken : Option (List ℕ)
  pub faults : ℕ

-- the bytes under each name
abbrev pub Files : Type 0
Files = List ℕ → Option (List ℕ)

-- of places: the bytes under each name, where they tell them; how often an opening failed, and how
-- often those readers and writers failed that were closed
pub record PlacesTold : Type 0 where
  pub files : Option Files
  pub faults : ℕ
  pub read_faults : ℕ
  pub write_faults : ℕ

-- the piece is the next of what was left
abbrev pub Gives : Option (List ℕ) → Option (List ℕ) → List ℕ → Type 0
Gives left rest piece = left ≡ option_map (λ x. piece ++ x) rest

-- nothing is left
abbrev pub IsAtEnd : SourceTold → Type 0
IsAtEnd to = IfSome to.left (λ rest. rest ≡ [])

-- the piece was taken behind what had been taken
abbrev pub Takes : Option (List ℕ) → Option (List ℕ) → List ℕ → Type 0
Takes before after piece = after ≡ option_map (λ x. x ++ piece) before
