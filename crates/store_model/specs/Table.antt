-- What each answer means in the state of its line: the table of answers.
use Rattle.std.specs.Prelude.{◌≡◌, ◌≢◌, ◌<◌, ◌≤◌, ◌||◌, IsTrue, ℕ, List, [], ◌∷◌, length, None, IsSomeAnd, slice_get, false}
use Rattle.vault_types.specs.declared.Limits.{Limits}
use Rattle.vault_types.specs.declared.Kind.{Kind}
use Rattle.vault_types.specs.declared.Kind.TheVariants as kind
use Rattle.vault_types.specs.declared.Why.{Why}
use Rattle.vault_types.specs.declared.Why.TheVariants as why
use Rattle.vault_types.specs.declared.Fault.TheVariants as fault
use Rattle.vault_types.specs.declared.Answer.{Answer}
use Rattle.vault_types.specs.declared.Answer.TheVariants.{Restored, Refused}
use Rattle.vault_types.specs.declared.Line.{Line}
use Rattle.vault_types.specs.declared.Line.TheVariants.{Backup, Restore, Delete}
use Rattle.vault_types.specs.Cuts.{cuts}
use Rattle.vault_types.specs.Names.{fp}
use Rattle.vault_types.specs.Tables.{Container, payload_len}
use Rattle.vault_types.specs.State.{State, container_in, version_of}
use Rattle.vault_types.specs.Bytes.{bytes_of, HasRow}
use Rattle.vault_types.specs.Script.{Sources, after, is_refused, IsAnswer}
use Rattle.vault_types.specs.Refusals.{IsExact, is_of_state, may_refuse}

-- a refusal is one that the state alone asks for, or by a fault that may refuse the line in the state
abbrev pub MayBeAnswer : Limits → State → Line → Answer → Type 0
MayBeAnswer limits S line (Refused f) = IsTrue (is_of_state f || may_refuse limits S line f)
MayBeAnswer limits S line other = Unit {0}

-- what is wrong with a payload: it is not there, or it has another length or another sum than its table says
abbrev pub IsBadPayload : Container → Why → Type 0
IsBadPayload c why.Absent = c.payload ≡ None
IsBadPayload c (why.Length want found) =
    (want ≡ payload_len c.table.rows) × IsSomeAnd c.payload (λ p. found ≡ length p) × (want ≢ found)
IsBadPayload c (why.Sum want found) =
    (want ≡ c.table.payload_sum) × IsSomeAnd c.payload (λ p. found ≡ fp p) × (want ≢ found)
IsBadPayload c other = ⊥

-- what is wrong with a recipe that is spelled: a row is not in its table with its length, or the
-- version's bytes have another sum
abbrev pub IsBadRecipe : State → ℕ → ℕ → Why → Type 0
IsBadRecipe S s v (why.BadRow i) =
    IsSomeAnd (version_of S s v) (λ k. IsSomeAnd (slice_get k.rows i) (λ r. HasRow S.containers r → ⊥))
IsBadRecipe S s v (why.Whole want found) =
    IsSomeAnd (version_of S s v) (λ k. want ≡ k.sum) × (found ≡ fp (bytes_of S s v)) × (want ≢ found)
IsBadRecipe S s v other = ⊥

-- what a restore of a version may find damaged: its recipe, or a payload
abbrev pub IsDamage : State → ℕ → ℕ → Kind → ℕ → Why → Type 0
IsDamage S s v kind.Table number why = ⊥
IsDamage S s v kind.Payload number why =
    IsSomeAnd (container_in S.containers number) (λ c. IsBadPayload c why)
IsDamage S s v kind.Recipe number why = IsBadRecipe S s v why
IsDamage S s v kind.Floor number why = ⊥

-- a restore that was done found none: the bytes have the version's sum. Damage that refuses one is there
abbrev pub ShowsDamage : State → Line → Answer → Type 0
ShowsDamage S (Restore s v name cache) (Restored t w bytes loads) =
    IsSomeAnd (version_of S s v) (λ k. fp (bytes_of S s v) ≡ k.sum)
ShowsDamage S (Restore s v name cache) (Refused (fault.Damaged kind number why)) =
    IsDamage S s v kind number why
ShowsDamage S line answer = Unit {0}

-- a backup is refused as too long only where its source has more chunks than the limit, and is not done then
pub record KeepsLimit (limits : Limits) (chunks : ℕ) (answer : Answer) : Type 0 where
  pub too_many : (n : ℕ) → answer ≡ Refused (fault.TooMany n) → limits.chunks < chunks
  pub done : is_refused answer ≡ false → chunks ≤ limits.chunks

abbrev pub KeepsLimits : Limits → Sources → Line → Answer → Type 0
KeepsLimits limits sources (Backup s name config) answer =
    KeepsLimit limits (length (cuts (sources name) config.cutting)) answer
KeepsLimits limits sources (Restore s v name cache) answer = Unit {0}
KeepsLimits limits sources (Delete s n) answer = Unit {0}

-- the answer of a line in a state
pub record MeansLine (limits : Limits) (sources : Sources) (S : State) (line : Line)
    (answer : Answer) : Type 0 where
  -- it is a refusal, or that of the line done
  pub done : IsAnswer sources S line answer
  -- full, not kept and latest version come exactly where they are due
  pub exact : IsExact limits S line answer
  pub refused : MayBeAnswer limits S line answer
  pub limit : KeepsLimits limits sources line answer
  pub damage : ShowsDamage S line answer

-- one answer for each line, each in the state that the lines before leave
abbrev pub MeanLines : Limits → Sources → State → List Line → List Answer → Type 0
MeanLines limits sources S [] [] = Unit {0}
MeanLines limits sources S [] (answer ∷ answers) = ⊥
MeanLines limits sources S (line ∷ lines) [] = ⊥
MeanLines limits sources S (line ∷ lines) (answer ∷ answers) =
    MeansLine limits sources S line answer
    × MeanLines limits sources (after sources S line answer) lines answers
