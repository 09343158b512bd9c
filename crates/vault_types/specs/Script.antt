-- What a script of lines leaves, answers and writes.
use Rattle.std.specs.Prelude.{◌≡◌, ℕ, ◌<◌, ◌⊎◌, Bool, true, false, List, [], ◌∷◌, ◌++◌, map, length, IsTrue, if◌then◌else◌}
use Rattle.std.specs.Option.{option_map_or}
use Rattle.vault_types.specs.declared.Fault.TheVariants as fault
use Rattle.vault_types.specs.declared.Answer.{Answer}
use Rattle.vault_types.specs.declared.Answer.TheVariants.{Stored, Restored, Removed, Shown, Migrated, Scrubbed, Refused}
use Rattle.vault_types.specs.declared.Line.{Line}
use Rattle.vault_types.specs.declared.Line.TheVariants.{Backup, Restore, Delete}
use Rattle.vault_types.specs.State.{State, version_of, is_kept, latest_of}
use Rattle.vault_types.specs.Bytes.{bytes_of}
use Rattle.vault_types.specs.Backup.{backup, stored}
use Rattle.vault_types.specs.Delete.{delete, removed}
use Rattle.vault_types.specs.Plans.{requests, IsLeast}

-- the bytes of a source, by its name
abbrev pub Sources : Type 0
Sources = List ℕ → List ℕ

-- the state after a line that was done
abbrev pub after_line : Sources → State → Line → State
after_line sources S (Backup s name config) = backup S s (sources name) config
after_line sources S (Restore s v name cache) = S
after_line sources S (Delete s n) = delete S s n

abbrev pub is_refused : Answer → Bool
is_refused (Stored s v chunks bytes containers written sparse) = false
is_refused (Restored s v bytes loads) = false
is_refused (Removed s n floor reclaimed) = false
is_refused (Shown s v rows) = false
is_refused (Migrated recipes) = false
is_refused (Scrubbed containers damaged) = false
is_refused (Refused f) = true

-- a refused line leaves the state
abbrev pub after : Sources → State → Line → Answer → State
after sources S line answer = if is_refused answer then S else after_line sources S line

-- the state after the lines
abbrev pub state_after : Sources → State → List Line → List Answer → State
state_after sources S [] answers = S
state_after sources S (line ∷ lines) [] = S
state_after sources S (line ∷ lines) (answer ∷ answers) =
    state_after sources (after sources S line answer) lines answers

-- what a restore line that was done writes, and under which name
abbrev pub written_by : State → Line → List (List ℕ × List ℕ)
written_by S (Backup s name config) = []
written_by S (Restore s v name cache) = (name, bytes_of S s v) ∷ []
written_by S (Delete s n) = []

-- what the lines write
abbrev pub outputs : Sources → State → List Line → List Answer → List (List ℕ × List ℕ)
outputs sources S [] answers = []
outputs sources S (line ∷ lines) [] = []
outputs sources S (line ∷ lines) (answer ∷ answers) =
    (if is_refused answer then [] else written_by S line)
    ++ outputs sources (after sources S line answer) lines answers

-- the container ids of a version's rows
abbrev pub row_ids : State → ℕ → ℕ → List ℕ
row_ids S s v = option_map_or (λ k. map (λ r. r.id) k.rows) (version_of S s v) []

-- the answer to a line that was done
abbrev pub IsDone : Sources → State → Line → Answer → Type 0
IsDone sources S (Backup s name config) answer = answer ≡ stored S s (sources name) config
IsDone sources S (Restore s v name cache) answer =
    IsTrue (is_kept S s v) × (n : ℕ) × IsLeast (requests (row_ids S s v)) cache n
    × (answer ≡ Restored s v (length (bytes_of S s v)) n)
IsDone sources S (Delete s n) answer = (n < latest_of S s) × (answer ≡ removed S s n)

-- an answer that is no refusal is that of the line done
abbrev pub IsAnswer : Sources → State → Line → Answer → Type 0
IsAnswer sources S line answer = IsTrue (is_refused answer) ⊎ IsDone sources S line answer

-- one answer for each line, each in the state that the lines before leave
abbrev pub AreAnswers : Sources → State → List Line → List Answer → Type 0
AreAnswers sources S [] [] = Unit {0}
AreAnswers sources S [] (answer ∷ answers) = ⊥
AreAnswers sources S (line ∷ lines) [] = ⊥
AreAnswers sources S (line ∷ lines) (answer ∷ answers) =
    IsAnswer sources S line answer × AreAnswers sources (after sources S line answer) lines answers

-- a store fault, by which a line may have been done in part
abbrev pub is_store_fault : Answer → Bool
is_store_fault (Refused (fault.StoreFault n)) = true
is_store_fault other = false

-- a line that changes the state where it is done
abbrev pub changes : Line → Bool
changes (Backup s name config) = true
changes (Restore s v name cache) = false
changes (Delete s n) = true

-- the states that a crash may leave: that after some of the lines, or that one with the next line
-- done where it is a backup or a deletion that answered a store fault
abbrev pub Reaches : Sources → State → List Line → List Answer → State → Type 0
Reaches sources S [] answers S' = S' ≡ S
Reaches sources S (line ∷ lines) [] S' = S' ≡ S
Reaches sources S (line ∷ lines) (answer ∷ answers) S' =
    (S' ≡ S)
    ⊎ (IsTrue (is_store_fault answer) × IsTrue (changes line) × (S' ≡ after_line sources S line))
    ⊎ Reaches sources (after sources S line answer) lines answers S'
