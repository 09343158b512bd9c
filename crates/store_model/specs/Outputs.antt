-- What the restores of a script write.
use Rattle.std.specs.Prelude.{◌≡◌, ◌⊎◌, ℕ, false, IsTrue, List, [], ◌∷◌, ◌++◌, map, flat_map, unwrap_or, Contains, Option, Some, None, IsSomeAnd, IfSome}
use Rattle.std.specs.List.{AllByRecursion}
use Rattle.vault_types.specs.declared.Fault.TheVariants as fault
use Rattle.vault_types.specs.declared.Kind.TheVariants as kind
use Rattle.vault_types.specs.declared.Why.TheVariants as why
use Rattle.vault_types.specs.declared.Answer.{Answer}
use Rattle.vault_types.specs.declared.Answer.TheVariants.{Restored, Refused}
use Rattle.vault_types.specs.declared.Line.{Line}
use Rattle.vault_types.specs.declared.Line.TheVariants.{Backup, Restore, Delete}
use Rattle.vault_types.specs.State.{State}
use Rattle.vault_types.specs.Bytes.{bytes_of}
use Rattle.vault_types.specs.Words.{sources_of, outputs_of, may_follow, is_one_of}
use Rattle.vault_types.specs.Script.{Sources, after, is_refused}
use Rattle.vault_traits.specs.Told.{Files}
use Rattle.vault_traits.specs.Files.{MayBeEmptied, IsThere}

-- these bytes are the front of those
abbrev pub IsFrontOf : List ℕ → List ℕ → Type 0
IsFrontOf front whole = (rest : List ℕ) × (front ++ rest ≡ whole)

-- the name has a front of the bytes
abbrev pub HasFront : List ℕ → Option (List ℕ) → Type 0
HasFront bytes now = (front : List ℕ) × IsFrontOf front bytes × (now ≡ Some front)

-- what a restore makes of what a name has: a restore that was done gives it the version's bytes,
-- and so does one whose bytes have another sum; one that is not kept leaves it; one whose place
-- could not be opened leaves it or empties it; one that had no memory leaves it or gives it a
-- front; any other refused one has opened it, and gives it a front
abbrev pub IsOutput : List ℕ → Answer → Option (List ℕ) → Option (List ℕ) → Type 0
IsOutput bytes (Restored s v n loads) before now = now ≡ Some bytes
IsOutput bytes (Refused (fault.NotKept s v floor latest)) before now = now ≡ before
IsOutput bytes (Refused (fault.PlaceFault n)) before now = MayBeEmptied before now
IsOutput bytes (Refused fault.Memory) before now = (now ≡ before) ⊎ HasFront bytes now
IsOutput bytes (Refused (fault.Damaged kind.Recipe number (why.Whole want found))) before now =
    now ≡ Some bytes
IsOutput bytes (Refused f) before now = HasFront bytes now
IsOutput bytes other before now = ⊥

abbrev pub IsOutputOf : State → Line → Answer → Files → Files → Type 0
IsOutputOf S (Backup s name config) answer before now = Unit {0}
IsOutputOf S (Restore s v name cache) answer before now =
    IsOutput (bytes_of S s v) answer (before name) (now name)
IsOutputOf S (Delete s n) answer before now = Unit {0}

abbrev pub AreOutputs : Sources → State → List Line → List Answer → Files → Files → Type 0
AreOutputs sources S [] answers before now = Unit {0}
AreOutputs sources S (line ∷ lines) [] before now = Unit {0}
AreOutputs sources S (line ∷ lines) (answer ∷ answers) before now =
    IsOutputOf S line answer before now
    × AreOutputs sources (after sources S line answer) lines answers before now

-- each name that is no output of the lines keeps its bytes
abbrev pub KeepsOthers : List Line → Files → Files → Type 0
KeepsOthers lines before now =
    (name : List ℕ) → is_one_of (flat_map outputs_of lines) name ≡ false → now name ≡ before name

-- a fact about the bytes before and now, where they are told; who tells goes on telling, who
-- doesn't goes on so
abbrev pub OnFiles : Option Files → Option Files → (Files → Files → Type 0) → Type 0
OnFiles None None Fact = Unit {0}
OnFiles None (Some now) Fact = ⊥
OnFiles (Some before) None Fact = ⊥
OnFiles (Some before) (Some now) Fact = Fact before now

-- the sources are the bytes under the names that backups read, which are told
abbrev pub AreFedBy : Option Files → Sources → List Line → Type 0
AreFedBy files sources lines =
    (name : List ℕ) → Contains (flat_map sources_of lines) name
    → IsSomeAnd files (λ f. sources name ≡ unwrap_or (f name) [])

-- the bytes that backups read, each with the name that they have
abbrev pub Reads : Type 0
Reads = List (List ℕ × List ℕ)

-- the lines' sources in order, each with the bytes under its name; with any bytes where that is not told
pub record AreRead (files : Option Files) (lines : List Line) (reads : Reads) : Type 0 where
  pub names : map (λ r. r.0) reads ≡ flat_map sources_of lines
  pub told : IfSome files (λ f. AllByRecursion (λ r. r.1 ≡ unwrap_or (f r.0) []) reads)

-- the sources have these bytes
abbrev pub AreFed : Sources → Reads → Type 0
AreFed sources reads = AllByRecursion (λ r. sources r.0 ≡ r.1) reads

-- the source of each backup that is done is there
abbrev pub AreThere : Option Files → List Line → List Answer → Type 0
AreThere files [] answers = Unit {0}
AreThere files (line ∷ lines) [] = Unit {0}
AreThere files (line ∷ lines) (answer ∷ answers) =
    (is_refused answer ≡ false → AllByRecursion (IsThere files) (sources_of line))
    × AreThere files lines answers

-- no output is named twice, and none is a source
abbrev pub AreApartFrom : List (List ℕ) → List (List ℕ) → List Line → Type 0
AreApartFrom sources outputs [] = Unit {0}
AreApartFrom sources outputs (line ∷ lines) =
    IsTrue (may_follow sources outputs line)
    × AreApartFrom (sources ++ sources_of line) (outputs ++ outputs_of line) lines

abbrev pub AreApartLines : List Line → Type 0
AreApartLines lines = AreApartFrom [] [] lines
