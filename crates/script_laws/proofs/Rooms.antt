-- Restores that are refused by their sinks, over sinks whose room is told.
use Rattle.std.proofs.Common.{◌≡◌, ◌≤◌, ◌<◌, ℕ, false, true, List, [], ◌∷◌, ◌++◌, length, Option, Some, None, refl, ◌∙◌, ap, subst, arith}
use Rattle.std.specs.Prelude.{IsSome, IfSome}
use Rattle.std.specs.Option.{option_map}
use Rattle.vault_types.specs.declared.Limits.{Limits}
use Rattle.vault_types.specs.declared.Name.{Name}
use Rattle.vault_types.specs.declared.Fault.{Fault}
use Rattle.vault_types.specs.declared.Fault.TheVariants as fault
use Rattle.vault_types.specs.declared.Answer.{Answer}
use Rattle.vault_types.specs.declared.Answer.TheVariants.{Stored, Restored, Removed, Shown, Migrated, Scrubbed, Refused}
use Rattle.vault_types.specs.declared.Line.{Line}
use Rattle.vault_types.specs.declared.Line.TheVariants.{Restore}
use Rattle.vault_types.specs.Bytes.{bytes_of}
use Rattle.vault_types.specs.Events.{Change}
use Rattle.vault_types.specs.Script.{Sources, after, is_refused}
use Rattle.vault_types.specs.State.{State}
use Rattle.vault_types.specs.Words.{sources_of, outputs_of}
use Rattle.vault_traits.specs.Counts.{counted}
use Rattle.vault_traits.specs.Files.{FailsOnlyFull, IsNewWriter}
use Rattle.vault_traits.specs.Told.{ShelfTold, SinkTold, Files}
use Rattle.store_model.specs.Calls.{IsShortAt}
use Rattle.store_model.specs.Causes.{CausesRise, counts_of_sink}
use Rattle.store_model.specs.Outputs.{AreApartFrom, AreFedBy, KeepsOthers, OnFiles}
use Rattle.store_model.specs.Steps.{Chain, Moment, StepsLine, write_numbered}
use Rattle.store_model.specs.Room.{NeedRoom, NeedsRoom, StepsWithin}
use Rattle.script_laws.proofs.Names.{fed_first, fed_rest, fed_told}

-- a restore that was done needs no room
pub done_needs : (room : Option ℕ) (S : State) (s v : ℕ) (name : List ℕ) (cache : ℕ) (a : Answer) → is_refused a ≡ false → NeedsRoom room S (Restore s v name cache) a
done_needs room S s v name cache (Refused f) e = absurd (let clash : true ≡ false = e in cc)
done_needs room S s v name cache (Stored a b c d e f g) h = tt
done_needs room S s v name cache (Restored a b c d) h = tt
done_needs room S s v name cache (Removed a b c d) h = tt
done_needs room S s v name cache (Shown a b c) h = tt
done_needs room S s v name cache (Migrated a) h = tt
done_needs room S s v name cache (Scrubbed a b) h = tt

-- a sink that has failed is full, and has taken less than the version
longer : (bytes : List ℕ) (most : ℕ) (files : Option Files) (w w' : SinkTold) (n : ℕ) → IsSome files → IsNewWriter files w → FailsOnlyFull (Some most) w' → counted w.faults ≤ n → n ≤ w'.faults
    → (front : List ℕ) → w'.taken ≡ option_map (λ x. x ++ front) w.taken → length front < length bytes → most < length bytes
longer bytes most None w w' n told new full rose later front takes short = absurd (let clash : false ≡ true = told in cc)
longer bytes most (Some x) w w' n told new full rose later front takes short =
    let first : counted 0 ≤ n = subst (λ (k : ℕ). counted k ≤ n) new.fresh rose in
    let failed : 0 < w'.faults = omega (arith, first, later) in
    let taken : w'.taken ≡ Some front = takes ∙ ap (option_map (λ y. y ++ front)) new.taken in
    let at_least : most ≤ length front = subst (λ (o : Option (List ℕ)). IfSome o (λ y. most ≤ length y)) taken (full failed) in
    omega arith

pub sink_needs : (room : Option ℕ) (S : State) (s v : ℕ) (name : List ℕ) (cache : ℕ) (files : Option Files) (old new : ShelfTold) (w w' : SinkTold) (f : Fault) (m : ℕ) → IsSome files → IsNewWriter files w → FailsOnlyFull room w'
    → CausesRise (counts_of_sink old w) (counts_of_sink new w') (Refused f ∷ []) → IsShortAt (bytes_of S s v) w.taken w'.taken f → NeedsRoom room S (Restore s v name cache) (Refused (write_numbered m f))
sink_needs None S s v name cache files old new w w' (fault.WriteFault n) m told fresh full causes short = tt
sink_needs (Some most) S s v name cache files old new w w' (fault.WriteFault n) m told fresh full causes short =
    longer (bytes_of S s v) most files w w' n told fresh full causes.write.0 causes.write.1 short.0 short.1 short.2
sink_needs room S s v name cache files old new w w' fault.Usage m told fresh full causes short = tt
sink_needs room S s v name cache files old new w w' (fault.NotKept a b c d) m told fresh full causes short = tt
sink_needs room S s v name cache files old new w w' (fault.ReadFault n) m told fresh full causes short = tt
sink_needs room S s v name cache files old new w w' (fault.StoreFault n) m told fresh full causes short = tt
sink_needs room S s v name cache files old new w w' (fault.Damaged a b c) m told fresh full causes short = tt
sink_needs room S s v name cache files old new w w' fault.Memory m told fresh full causes short = tt
sink_needs room S s v name cache files old new w w' (fault.TooMany n) m told fresh full causes short = tt
sink_needs room S s v name cache files old new w w' (fault.LastVersion a b c) m told fresh full causes short = tt
sink_needs room S s v name cache files old new w w' (fault.PlaceFault n) m told fresh full causes short = tt
sink_needs room S s v name cache files old new w w' (fault.BadLine n) m told fresh full causes short = tt
sink_needs room S s v name cache files old new w w' (fault.ScriptTooLong n) m told fresh full causes short = tt
sink_needs room S s v name cache files old new w w' (fault.Full a b c) m told fresh full causes short = tt

still_tells : (a b : Option Files) (Fact : Files → Files → Type 0) → OnFiles a b Fact → IsSome a → IsSome b
still_tells None b Fact on told = absurd (let clash : false ≡ true = told in cc)
still_tells (Some x) None Fact on told = absurd on
still_tells (Some x) (Some y) Fact on told = refl

module _ {K : Type 0} (shelf : K → ShelfTold) (keeps : K → State → Option Change → Type 0) (known : K → Name → Type 0) (limits : Limits) (room : Option ℕ) where
  -- the lines as a run
  pub steps_of : (old new : Moment K) (lines : List Line) (answers : List Answer) → Chain (StepsWithin shelf keeps known limits room) old lines answers new → Chain (StepsLine shelf keeps known limits) old lines answers new
  steps_of old new [] [] chain = chain
  steps_of old new [] (answer ∷ answers) chain = absurd chain
  steps_of old new (line ∷ lines) [] chain = absurd chain
  steps_of old new (line ∷ lines) (answer ∷ answers) (mid, step, chain) = (mid, step.step, steps_of mid new lines answers chain)

  rooms_from : (sources : Sources) (S : State) (other : Option Change) (old new : Moment K) (before outputs : List (List ℕ)) (lines : List Line) (answers : List Answer)
      → keeps old.keeper S other → AreFedBy old.places.files sources lines → IsSome old.places.files → AreApartFrom before outputs lines → Chain (StepsWithin shelf keeps known limits room) old lines answers new
      → NeedRoom room sources S lines answers
  rooms_from sources S other old new before outputs [] answers keep fed told apart chain = tt
  rooms_from sources S other old new before outputs (line ∷ lines) [] keep fed told apart chain = tt
  rooms_from sources S other old new before outputs (line ∷ lines) (answer ∷ answers) keep fed told apart (mid, step, chain) =
      let means = step.step.means S other sources keep (fed_told old.places.files sources (line ∷ []) step.step.reads step.step.read (fed_first old.places.files sources line lines fed)) in (
        step.needs S other keep told,
        rooms_from sources (after sources S line answer) means.0 mid new (before ++ sources_of line) (outputs ++ outputs_of line) lines answers means.1
            (fed_rest old.places.files mid.places.files sources (before ++ sources_of line) outputs line lines apart.1 step.step.others fed)
            (still_tells old.places.files mid.places.files (KeepsOthers (line ∷ [])) step.step.others told) apart.1 chain,
      )

  -- each restore needs its room, in the state that the lines before it leave
  pub rooms_of_chain : (sources : Sources) (S : State) (old new : Moment K) (lines : List Line) (answers : List Answer) → keeps old.keeper S None → AreFedBy old.places.files sources lines → IsSome old.places.files
      → AreApartFrom [] [] lines → Chain (StepsWithin shelf keeps known limits room) old lines answers new → NeedRoom room sources S lines answers
  rooms_of_chain sources S old new lines answers keep fed told apart chain = rooms_from sources S None old new [] [] lines answers keep fed told apart chain
