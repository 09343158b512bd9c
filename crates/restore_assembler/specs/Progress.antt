-- How far a restore has come.
use Rattle.std.specs.Prelude.{◌≡◌, ℕ, ◌≤◌, ◌<◌, IsTrue, Bool, true, false, List, [], ◌∷◌, ◌++◌, map, drop, is_some, length, flat_map, vec_capacity}
use Rattle.vault_types.specs.declared.Spot.{Spot}
use Rattle.vault_types.specs.declared.Step.{Step}
use Rattle.vault_types.specs.declared.Step.TheVariants.{Load, Evict, Serve}
use Rattle.vault_types.specs.Plans.{requests, serves, loads}
use Rattle.vault_types.specs.Bytes.{spot_bytes}
use Rattle.vault_traits.specs.Told.{SinkTold}
use Rattle.restore_assembler.specs.declared.progress.Progress.{Progress}
use Rattle.restore_assembler.specs.Payloads.{ids_of, AreCovering, AreKnown}
use Rattle.restore_assembler.specs.Copying.{Copying}
use Rattle.restore_assembler.specs.Writing.{IsWrittenWithSum}

-- the spots that are not yet written
abbrev pub left_spots : Progress → List Spot
left_spots p = drop p.done p.spots.items

-- the bytes of the spots that are not yet written
abbrev pub left_bytes : (ℕ → List ℕ) → Progress → List ℕ
left_bytes payload p = flat_map (spot_bytes payload) (left_spots p)

-- the steps that are left serve what is not yet written, the present payloads are long enough for
-- their spots and no more than the slots, and there is room for every slot
pub record IsProgress (p : Progress) : Type 0 where
  pub within : p.done ≤ length p.spots.items
  pub few : length p.present.items ≤ p.slots
  pub room : p.slots ≤ vec_capacity p.present
  pub covering : AreCovering p.spots.items p.present.items
  pub serves : IsTrue
      (serves p.slots (ids_of p.present.items) (drop p.step p.steps.items)
      (requests (map (λ s. s.id) (left_spots p))))

-- the next step is a load
abbrev pub starts_with_load : List Step → Bool
starts_with_load [] = false
starts_with_load (Load c ∷ steps) = true
starts_with_load (Evict c ∷ steps) = false
starts_with_load (Serve ∷ steps) = false

-- the next step is a load, where something is left to write
abbrev pub LoadsNext : Progress → Type 0
LoadsNext p = p.done < length p.spots.items → IsTrue (starts_with_load (drop p.step p.steps.items))

-- what was to be written at first is what has been written, and then what is left
pub record HasAdvanced (payload : ℕ → List ℕ) (p q : Progress) (before now : SinkTold) : Type 0 where
  pub bytes : List ℕ
  pub parts : bytes ++ left_bytes payload q ≡ left_bytes payload p
  pub written : IsWrittenWithSum bytes before now p.sum q.sum

-- from one state of a restore to a later one
pub record Advances (p q : Progress) (before now : SinkTold) : Type 0 where
  pub spots : q.spots.items ≡ p.spots.items
  pub steps : q.steps.items ≡ p.steps.items
  pub slots : q.slots ≡ p.slots
  pub behind : p.step ≤ q.step
  pub loads : loads (drop q.step q.steps.items) ≡ loads (drop p.step p.steps.items)
  pub kept : is_some q.sum ≡ is_some p.sum
  pub later : before.faults ≤ now.faults
  pub known : (payload : ℕ → List ℕ) → AreKnown payload p.present.items → AreKnown payload q.present.items
  pub copied : (payload : ℕ → List ℕ) → AreKnown payload p.present.items → HasAdvanced payload p q before now

-- a restore that goes on has a sum exactly where it should have one
abbrev pub IsSumming : Progress → Type 0
IsSumming p = p.done < length p.spots.items → is_some p.sum ≡ is_some p.whole

-- what is seen of it
abbrev pub seen_of : Progress → Copying
seen_of p =
    record {
      spots = p.spots.items;
      done = p.done;
      steps = drop p.step p.steps.items;
      slots = p.slots;
      present = p.present.items;
      whole = p.whole;
      sum = p.sum;
    }
