-- A run of `scrub`.
use Rattle.std.specs.Prelude.{◌≡◌, ◌⊎◌, ◌≤◌, ◌++◌, ℕ, Bool, true, false, IsTrue, List, [], ◌∷◌, length, Option, Some, MatchOption}
use Rattle.vault_types.specs.declared.Kind.TheVariants as kind
use Rattle.vault_types.specs.declared.Why.TheVariants as why
use Rattle.vault_types.specs.declared.Fault.{Fault}
use Rattle.vault_types.specs.declared.Fault.TheVariants as fault
use Rattle.vault_types.specs.declared.Answer.{Answer}
use Rattle.vault_types.specs.declared.Answer.TheVariants.{Scrubbed, Refused}
use Rattle.vault_types.specs.State.{State}
use Rattle.vault_types.specs.Bytes.{IsSound}
use Rattle.vault_traits.specs.Counts.{counted_up}
use Rattle.vault_traits.specs.Told.{SinkTold, Takes}
use Rattle.payload_health.specs.declared.Findings.{Findings}
use Rattle.payload_health.specs.Findings.{findings_in}
use Rattle.store_model.specs.Causes.{CausesRise, counts_of_shelf}
use Rattle.store_model.specs.Complete.{is_counted}
use Rattle.store_model.specs.Leaves.{Begins}
use Rattle.store_model.specs.World.{World, IsPrinted, IsTold, report_text}
use Rattle.scrub_model.specs.Words.{damage_lines, first_damage}

abbrev pub answer_to : Findings → Answer
answer_to found = Scrubbed found.containers (length found.damaged)

-- a line for each container that is not good, and then the report
abbrev pub scrub_text : Findings → List ℕ
scrub_text found = damage_lines found.damaged ++ report_text (answer_to found ∷ [])

-- all was printed: then the first damage is the fault, whose line is on `report`; or `out` failed, and that is the fault
abbrev pub EndsScrub : Findings → SinkTold → SinkTold → SinkTold → SinkTold → Option Fault → Type 0
EndsScrub found out_before out_now report_before report_now f =
    (Takes out_before.taken out_now.taken (scrub_text found) × (f ≡ first_damage found.damaged)
    × MatchOption f (report_now ≡ report_before) (λ d. IsTold d report_before report_now))
    ⊎ ((n : ℕ) × (f ≡ Some (fault.WriteFault n)) × IsPrinted (scrub_text found) out_before out_now f
    × (report_now ≡ report_before))

-- what is found is what the definition says of the containers of the state that the shelf begins with, and each of their
-- payloads is got once; in a sound state all are good
pub record IsDoneScrub (before now : World) (f : Option Fault) (found : Findings) : Type 0 where
  pub means : (S : State) → Begins before.shelf S → found ≡ findings_in S.containers
  pub sound : (S : State) → Begins before.shelf S → IsSound S → found.damaged ≡ []
  pub gets : (S : State) → Begins before.shelf S
      → now.shelf.gets ≡ counted_up before.shelf.gets (length S.containers)
  pub ends : EndsScrub found before.out now.out before.report now.report f

-- whether the fault may refuse a scrub
abbrev pub may_refuse_scrub : Fault → Bool
may_refuse_scrub (fault.StoreFault n) = true
may_refuse_scrub (fault.Damaged kind.Table number why.Absent) = true
may_refuse_scrub (fault.Damaged kind.Table number why.Spelling) = true
may_refuse_scrub fault.Memory = true
may_refuse_scrub other = false

-- it was refused: over a shelf that tells its blobs, for a fault that was counted or for want of memory; the report is on
-- `out`
pub record IsRefusedScrub (before now : World) (f : Option Fault) (refusal : Fault) : Type 0 where
  pub kind : IsTrue (may_refuse_scrub refusal)
  pub causes : CausesRise (counts_of_shelf before.shelf) (counts_of_shelf now.shelf) (Refused refusal ∷ [])
  pub undamaged : (S : State) → Begins before.shelf S
      → (refusal ≡ fault.Memory) ⊎ IsTrue (is_counted (Refused refusal))
  pub gets : (S : State) → Begins before.shelf S
      → (n : ℕ) × (n ≤ length S.containers) × (now.shelf.gets ≡ counted_up before.shelf.gets n)
  pub printed : IsPrinted (report_text (Refused refusal ∷ [])) before.out now.out f
  pub report : now.report ≡ before.report

-- `scrub`: the store is as before
pub record RunsScrub (before now : World) (answers : List Answer) (f : Option Fault) : Type 0 where
  pub course : ((found : Findings) × (answers ≡ answer_to found ∷ []) × IsDoneScrub before now f found)
      ⊎ ((refusal : Fault) × (answers ≡ Refused refusal ∷ []) × IsRefusedScrub before now f refusal)
  pub blobs : now.shelf.blobs ≡ before.shelf.blobs
  pub history : now.shelf.history ≡ before.shelf.history
  pub later : before.shelf.faults ≤ now.shelf.faults
  pub input : now.input ≡ before.input
  pub places : now.places ≡ before.places
