-- The strays at the end of a run of lines. What a keeper knows as strays are names, each with a
-- blob or not; each stray of its blobs is among them.
use Rattle.std.specs.Prelude.{◌≡◌, ◌⊎◌, ◌≤◌, ◌<◌, ◌+◌, ◌-◌, ◌*◌, ◌^◌, ℕ, List, [], ◌∷◌, length, Contains, IsSome, IfSome, MatchBool}
use Rattle.std.specs.FinMap as fin
use Rattle.vault_types.specs.declared.Limits.{Limits}
use Rattle.vault_types.specs.declared.Name.{Name}
use Rattle.vault_types.specs.declared.Answer.{Answer}
use Rattle.vault_types.specs.declared.Line.{Line}
use Rattle.vault_types.specs.declared.Line.TheVariants.{Backup, Restore, Delete}
use Rattle.vault_types.specs.State.{State, next_of}
use Rattle.vault_types.specs.Shelf.{Blobs, table_name, payload_name}
use Rattle.vault_types.specs.Events.{IsNeeded}
use Rattle.vault_types.specs.Script.{Sources, after, is_refused}
use Rattle.vault_traits.specs.Told.{ShelfTold}

-- the name has a blob that the state does not need
pub record IsStray (S : State) (m : Blobs) (name : Name) : Type 0 where
  pub there : IsSome (fin.get m name)
  pub unneeded : IsNeeded S [] name → ⊥

-- the strays of the blobs that a shelf tells
abbrev pub StraysOf : ShelfTold → State → Name → Type 0
StraysOf shelf S name = IfSome shelf.blobs (λ m. IsStray S m name)

-- the name is that of a container that a refused backup may have numbered
abbrev pub IsNumberedBy : Limits → State → Line → Name → Type 0
IsNumberedBy limits S (Backup s name config) n =
    (id : ℕ) × (next_of S ≤ id) × (id < next_of S + limits.chunks)
    × ((n ≡ table_name id) ⊎ (n ≡ payload_name id))
IsNumberedBy limits S (Restore s v name cache) n = ⊥
IsNumberedBy limits S (Delete s through) n = ⊥

-- what may be a stray behind a line, besides the names whose removal or put failed: nothing behind
-- a deletion that was done
abbrev pub MayStayBehind : Limits → State → Line → Answer → (Name → Type 0) → Name → Type 0
MayStayBehind limits S (Backup s name config) answer Known n =
    MatchBool (is_refused answer) (Known n ⊎ IsNumberedBy limits S (Backup s name config) n) (Known n)
MayStayBehind limits S (Restore s v name cache) answer Known n = Known n
MayStayBehind limits S (Delete s through) answer Known n = MatchBool (is_refused answer) (Known n) ⊥

abbrev pub MayStay : Limits → Sources → State → List Line → List Answer → (Name → Type 0) → Name → Type 0
MayStay limits sources S [] answers Known n = Known n
MayStay limits sources S (line ∷ lines) [] Known n = Known n
MayStay limits sources S (line ∷ lines) (answer ∷ answers) Known n =
    MayStay limits sources (after sources S line answer) lines answers
    (MayStayBehind limits S line answer Known) n

-- where the first ones were known before the lines, each of those behind them is one that may stay,
-- or one of two for each unit that the count of faults rose by
pub record StraysAreKnown (limits : Limits) (sources : Sources) (S : State) (lines : List Line)
    (answers : List Answer) (Known Behind : Name → Type 0) (old new : ShelfTold) : Type 0 where
  pub later : old.faults ≤ new.faults
  pub others : List Name
  pub few : new.faults < 2 ^ 64 - 1 → length others ≤ 2 * (new.faults - old.faults)
  pub each : (n : Name) → Behind n → MayStay limits sources S lines answers Known n ⊎ Contains others n
