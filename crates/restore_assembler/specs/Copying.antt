-- What is seen of a copier.
use Rattle.std.specs.Prelude.{◌≡◌, ◌≢◌, ℕ, ◌<◌, List, [], ◌∷◌, ◌++◌, take, length, flat_map, nat_lt, Option, Some, None, IfSome, IsSomeAnd, if◌then◌else◌}
use Rattle.vault_types.specs.declared.Spot.{Spot}
use Rattle.vault_types.specs.declared.Step.{Step}
use Rattle.vault_types.specs.declared.Step.TheVariants.{Load, Evict, Serve}
use Rattle.vault_types.specs.declared.Whole.{Whole}
use Rattle.vault_types.specs.declared.Kind.TheVariants.{Recipe}
use Rattle.vault_types.specs.declared.Why.TheVariants as why
use Rattle.vault_types.specs.declared.Fault.{Fault}
use Rattle.vault_types.specs.declared.Fault.TheVariants as fault
use Rattle.vault_types.specs.Names.{fp}
use Rattle.vault_types.specs.Bytes.{spot_bytes}
use Rattle.vault_traits.specs.Counts.{Rose}
use Rattle.vault_traits.specs.Told.{SinkTold, Takes}
use Rattle.fingerprint_stage.specs.declared.running_sum.RunningSum.{RunningSum}
use Rattle.restore_assembler.specs.declared.payload.Payload.{Payload}
use Rattle.restore_assembler.specs.Payloads.{Covers, AreKnown}
use Rattle.restore_assembler.specs.Writing.{IsSumOf}

-- the version's spots, and how many of them are written; the steps of the plan that are left; how
-- many payloads may be present, and those that are; what the sum of all bytes should be, and that
-- of the bytes so far, where it is known
pub record Copying : Type 0 where
  pub spots : List Spot
  pub done : ℕ
  pub steps : List Step
  pub slots : ℕ
  pub present : List Payload
  pub whole : Option Whole
  pub sum : Option RunningSum

abbrev pub next_load : List Step → Option ℕ
next_load [] = None
next_load (Load c ∷ steps) = Some c
next_load (Evict c ∷ steps) = next_load steps
next_load (Serve ∷ steps) = next_load steps

-- the next load, or none where all is written
abbrev pub wanted : Copying → Option ℕ
wanted s = if nat_lt s.done (length s.spots) then next_load s.steps else None

-- a payload is wanted, and this one is long enough for every spot of its container
abbrev pub IsCovered : Copying → List ℕ → Type 0
IsCovered s payload = IsSomeAnd (wanted s) (λ id. Covers id payload s.spots)

-- the payload that is wanted, of these, is this one
abbrev pub IsWanted : (ℕ → List ℕ) → Copying → List ℕ → Type 0
IsWanted payloads s payload = IfSome (wanted s) (λ id. payload ≡ payloads id)

-- the bytes of a version with these spots, where payloads are known by the id of their container
abbrev pub version_bytes : (ℕ → List ℕ) → List Spot → List ℕ
version_bytes payload spots = flat_map (spot_bytes payload) spots

-- the bytes of the spots that are written
abbrev pub done_bytes : (ℕ → List ℕ) → Copying → List ℕ
done_bytes payload s = version_bytes payload (take s.done s.spots)

-- with these payloads: those that are present are among them, and the sink has taken the bytes of
-- the spots that are written, and nothing else
pub record HasCopied (payload : ℕ → List ℕ) (before now : SinkTold) (s : Copying) : Type 0 where
  pub known : AreKnown payload s.present
  pub taken : Takes before.taken now.taken (done_bytes payload s)
  pub summed : IsSumOf s.sum (done_bytes payload s)

-- the sink failed, or the bytes have another sum than they should
abbrev pub IsOutputFault : Option Whole → SinkTold → SinkTold → Fault → Type 0
IsOutputFault whole before now (fault.WriteFault n) = (n ≡ now.faults) × Rose before.faults now.faults
IsOutputFault whole before now (fault.Damaged Recipe number (why.Whole want found)) =
    (whole ≡ Some (record { number = number; want = want })) × (found ≢ want)
IsOutputFault whole before now other = ⊥

-- what was taken of all the bytes: a front of them where the sink failed, and else all of them,
-- which have the sum that was found
abbrev pub IsTakenAt : List ℕ → SinkTold → SinkTold → Fault → Type 0
IsTakenAt bytes before now (fault.WriteFault n) =
    (front : List ℕ) × (rest : List ℕ) × (front ++ rest ≡ bytes) × (0 < length rest)
    × Takes before.taken now.taken front
IsTakenAt bytes before now (fault.Damaged kind number (why.Whole want found)) =
    (found ≡ fp bytes) × Takes before.taken now.taken bytes
IsTakenAt bytes before now other = ⊥
