-- Which bytes the versions have behind lines.
use Rattle.std.specs.Prelude.{◌≡◌, ◌⊎◌, ℕ, List, [], ◌∷◌, Some}
use Rattle.vault_types.specs.declared.Answer.{Answer}
use Rattle.vault_types.specs.declared.Answer.TheVariants.{Stored}
use Rattle.vault_types.specs.declared.Line.{Line}
use Rattle.vault_types.specs.declared.Line.TheVariants.{Backup}
use Rattle.vault_types.specs.State.{State, KeptVersion, version_of}
use Rattle.vault_types.specs.Bytes.{bytes_of}
use Rattle.vault_types.specs.Script.{Sources}

-- the line made this version of a source with these bytes, as its answer says
abbrev pub MakesVersion : Sources → Line → Answer → ℕ → ℕ → List ℕ → Type 0
MakesVersion sources (Backup s name config) (Stored t n chunks bytes containers written sparse) set version
    x =
    (s ≡ set) × (n ≡ version) × (x ≡ sources name)
MakesVersion sources line answer set version x = ⊥

-- one of the lines made it
abbrev pub MakeVersion : Sources → List Line → List Answer → ℕ → ℕ → List ℕ → Type 0
MakeVersion sources [] answers set version x = ⊥
MakeVersion sources (line ∷ lines) [] set version x = ⊥
MakeVersion sources (line ∷ lines) (answer ∷ answers) set version x =
    MakesVersion sources line answer set version x ⊎ MakeVersion sources lines answers set version x

-- each version that is kept in both has the same bytes
abbrev pub HasBytesOf : State → State → Type 0
HasBytesOf S T =
    (set version : ℕ) (j k : KeptVersion) → version_of S set version ≡ Some j
    → version_of T set version ≡ Some k → bytes_of T set version ≡ bytes_of S set version

-- of the versions that are kept behind the lines, each that was kept before them has its bytes, and
-- each that a line made has the bytes of that line's source
pub record KeepBytes (sources : Sources) (S T : State) (lines : List Line)
    (answers : List Answer) : Type 0 where
  pub kept : HasBytesOf S T
  pub made : (set version : ℕ) (x : List ℕ) (k : KeptVersion)
      → MakeVersion sources lines answers set version x → version_of T set version ≡ Some k
      → bytes_of T set version ≡ x
