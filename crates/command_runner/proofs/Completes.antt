-- A run over a sound shelf where nothing failed has no fault.
use Rattle.std.proofs.Common.{◌≡◌, inl, inr, ⊎_elim, ◌≤◌, ◌<◌, ◌-◌, ◌^◌, ℕ, false, true, List, [], ◌∷◌, ◌++◌, length, Option, Some, None, refl, sym, ap, subst, arith, ◌∙◌}
use Rattle.std.specs.Prelude.{Bool, IsSome, IsSomeAnd, IfSome, Result, Ok, Err}
use Rattle.vault_types.specs.declared.Limits.{Limits}
use Rattle.vault_types.specs.declared.Command.{Command}
use Rattle.vault_types.specs.declared.Command.TheVariants as command
use Rattle.vault_types.specs.declared.Fault.{Fault}
use Rattle.vault_types.specs.declared.Fault.TheVariants as fault
use Rattle.vault_types.specs.declared.Kind.{Kind}
use Rattle.vault_types.specs.declared.Why.{Why}
use Rattle.vault_types.specs.declared.Line.{Line}
use Rattle.vault_types.specs.declared.Answer.{Answer}
use Rattle.vault_types.specs.Words.{command_of, script_of}
use Rattle.vault_types.specs.Bytes.{IsSound}
use Rattle.vault_types.specs.Generator.{fill_lines}
use Rattle.vault_types.specs.Shelf.{Blobs, Stands}
use Rattle.vault_types.specs.State.{State}
use Rattle.vault_traits.specs.Counts.{Rose, RiseFrom}
use Rattle.vault_traits.specs.Told.{Files, SinkTold}
use Rattle.vault_types.specs.FirstDamage.{IsDamageOf}
use Rattle.damage_laws.proofs.Undamaged.{undamaged}
use Rattle.store_model.specs.Leaves.{Begins}
use Rattle.store_model.specs.World.{World, IsPrinted, report_text}
use Rattle.store_model.specs.Filling.{outputs_text}
use Rattle.store_model.specs.Early.{CanOpen, EndsEarly, IsBatch, IsEarly, IsScript, IsScriptFault}
use Rattle.store_model.specs.Run.{IsRun, NoneRose, Runs}
use Rattle.command_runner.specs.Unbuilt.{Unbuilt}
use Rattle.command_runner.specs.Completes.{IsBuilt, IsCompleteRun}

-- a count that is where it was did not rise
still : (before now n : ℕ) → now ≡ before → before < 2 ^ 64 - 1 → RiseFrom before (n ∷ []) now → ⊥
still before now n same below rose = omega (arith, same, below, rose.0, rose.1)

never_rose : (before now : ℕ) → now ≡ before → before < 2 ^ 64 - 1 → Rose before now → ⊥
never_rose before now same below rose = omega (arith, same, below, rose)

-- what was printed has no fault
printed : (text : List ℕ) (before now : SinkTold) (f : Option Fault) → now.faults ≡ before.faults → before.faults < 2 ^ 64 - 1 → IsPrinted text before now f → f ≡ None
printed text before now None same below p = refl
printed text before now (Some f) same below p = absurd (still before.faults now.faults p.0 same below p.2)

sound_opens : (told : Option Blobs) (S : State) (k : Kind) (n : ℕ) (w : Why) → IsSomeAnd told (λ m. Stands m S) → IsSound S → IsDamageOf told k n w → ⊥
sound_opens None S k n w stands sound bad = absurd stands
sound_opens (Some m) S k n w stands sound bad = undamaged m S (record { stands = stands; valid = sound.valid; rows = sound.lens }) k n w bad

-- a script that can be run is not refused by its text
fits : (left : Option (List ℕ)) (limits : Limits) (lines : List Line) → IsSome left → IfSome left (λ text. (length text ≤ limits.script) × (script_of text ≡ Ok lines))
    → (text : List ℕ) × (left ≡ Some text) × (length text ≤ limits.script) × (script_of text ≡ Ok lines)
fits None limits lines some h = absurd (let clash : false ≡ true = some in cc)
fits (Some text) limits lines some h = (text, refl, h.0, h.1)

module _ (in_order : Bool) (words : List (List ℕ)) (limits : Limits) (before now : World) (answers : List Answer) (c : Command) (S : State) (is : command_of words ≡ Some c) (can : CanOpen (Some c) limits before.input) (told : IsBatch (Some c) → IsSome before.input.left)
    (begins : Begins before.shelf S) (sound : IsSound S) (none : NoneRose before now) where
  script : (o : Option Command) → IsBatch o → CanOpen o limits before.input → (lines : List Line) × IsScript limits before.input lines
  script None batch h = absurd batch
  script (Some (command.Batch q l w)) batch h = h
  script (Some (command.Backup a b d e f)) batch h = absurd batch
  script (Some (command.Restore a b d e)) batch h = absurd batch
  script (Some (command.Delete a b)) batch h = absurd batch
  script (Some (command.Show a b)) batch h = absurd batch
  script (Some (command.Fill a b d e f)) batch h = absurd batch
  script (Some command.Migrate) batch h = absurd batch
  script (Some (command.Scrub a)) batch h = absurd batch

  can_now : CanOpen (command_of words) limits before.input
  can_now = subst (λ (o : Option Command). CanOpen o limits before.input) (sym is) can

  -- the script's text
  the_text : IsBatch (command_of words) → (text : List ℕ) × (before.input.left ≡ Some text) × (length text ≤ limits.script) × ((lines : List Line) × (script_of text ≡ Ok lines))
  the_text batch =
      let s = script (command_of words) batch can_now in
      let t = fits before.input.left limits s.0 (told (subst (λ (o : Option Command). IsBatch o) is batch)) s.1 in
      (t.0, t.1, t.2, (s.0, t.3))

  no_script_fault : (f : Fault) → IsBatch (command_of words) → IsScriptFault limits before.input now.input f → f ≡ fault.Memory
  no_script_fault fault.Memory batch why = refl
  no_script_fault (fault.ReadFault n) batch why = absurd (still before.input.faults now.input.faults n none.input.0 none.input.1 why)
  no_script_fault (fault.ScriptTooLong n) batch why =
      let t = the_text batch in
      let long : limits.script < length t.0 = subst (λ (o : Option (List ℕ)). IfSome o (λ text. limits.script < length text)) t.1 why.1 in
      absurd (omega (arith, long, t.2))
  no_script_fault (fault.BadLine n) batch why =
      let t = the_text batch in
      let bad : (length t.0 ≤ limits.script) × (script_of t.0 ≡ Err n) = subst (λ (o : Option (List ℕ)). IfSome o (λ text. (length text ≤ limits.script) × (script_of text ≡ Err n))) t.1 why in
      let clash : ◌≡◌ {A = Result (List Line) ℕ} (Err n) (Ok t.3.0) = sym bad.1 ∙ t.3.1 in
      absurd (apart clash)
    where
      apart : {x : ℕ} {y : List Line} → ◌≡◌ {A = Result (List Line) ℕ} (Err x) (Ok y) → ⊥
      apart e = cc
  no_script_fault fault.Usage batch why = absurd why
  no_script_fault (fault.NotKept x y z w) batch why = absurd why
  no_script_fault (fault.WriteFault n) batch why = absurd why
  no_script_fault (fault.StoreFault n) batch why = absurd why
  no_script_fault (fault.Damaged x y z) batch why = absurd why
  no_script_fault (fault.TooMany n) batch why = absurd why
  no_script_fault (fault.LastVersion x y z) batch why = absurd why
  no_script_fault (fault.PlaceFault n) batch why = absurd why
  no_script_fault (fault.Full x y z) batch why = absurd why

  not_usage : command_of words ≡ None → ⊥
  not_usage nothing = let clash : ◌≡◌ {A = Option Command} None (Some c) = sym nothing ∙ is in cc

  early : (f : Fault) → IsEarly words limits before now f → f ≡ fault.Memory
  early fault.Memory why = refl
  early fault.Usage why = absurd (not_usage why)
  early (fault.StoreFault n) why = absurd (never_rose before.shelf.faults now.shelf.faults none.shelf.0 none.shelf.1 why.1.1)
  early (fault.Damaged k n w) why = absurd (sound_opens before.shelf.blobs S k n w begins.blobs sound why.1)
  early (fault.ReadFault n) why = no_script_fault (fault.ReadFault n) why.0 why.1
  early (fault.ScriptTooLong n) why = no_script_fault (fault.ScriptTooLong n) why.0 why.1
  early (fault.BadLine n) why = no_script_fault (fault.BadLine n) why.0 why.1
  early (fault.NotKept x y z w) why = no_script_fault (fault.NotKept x y z w) why.0 why.1
  early (fault.WriteFault n) why = no_script_fault (fault.WriteFault n) why.0 why.1
  early (fault.TooMany n) why = no_script_fault (fault.TooMany n) why.0 why.1
  early (fault.LastVersion x y z) why = no_script_fault (fault.LastVersion x y z) why.0 why.1
  early (fault.PlaceFault n) why = no_script_fault (fault.PlaceFault n) why.0 why.1
  early (fault.Full x y z) why = no_script_fault (fault.Full x y z) why.0 why.1

  ended : (f : Option Fault) → IsSomeAnd f (EndsEarly words limits before now answers) → (answers ≡ []) × (f ≡ Some fault.Memory)
  ended None h = absurd h
  ended (Some f) h = (h.none, ap (λ (g : Fault). Some g) (early f h.why))

  ran : (d : Command) (f : Option Fault) → IsBuilt d → Runs in_order Unbuilt d limits before now answers f → f ≡ None
  ran (command.Backup s config q l None) f built r = printed (report_text answers) before.out now.out f none.out.0 none.out.1 r.runs.printed
  ran (command.Backup s config q l (Some p)) f built r = absurd built
  ran (command.Restore s v cache None) f built r = printed (report_text answers) before.report now.report f none.report.0 none.report.1 r.runs.printed
  ran (command.Restore s v cache (Some a)) f built r = absurd built
  ran (command.Delete s n) f built r = printed (report_text answers) before.out now.out f none.out.0 none.out.1 r.runs.printed
  ran (command.Show s v) f built r = printed (report_text answers) before.report now.report f none.report.0 none.report.1 r.runs.printed
  ran (command.Batch q l w) f built r = printed (report_text answers) before.out now.out f none.out.0 none.out.1 r.runs.printed
  ran (command.Fill a b d e g) f built r = filled r.runs.left.files f r.runs.printed
    where
      filled : (o : Option Files) (h : Option Fault) → IsSomeAnd o (λ files. IsPrinted (report_text answers ++ outputs_text files (fill_lines b) answers) before.out now.out h) → h ≡ None
      filled None h p = absurd p
      filled (Some files) h p = printed (report_text answers ++ outputs_text files (fill_lines b) answers) before.out now.out h none.out.0 none.out.1 p
  ran command.Migrate f built r = printed (report_text answers) before.out now.out f none.out.0 none.out.1 r.runs.printed
  ran (command.Scrub a) f built r = absurd built

pub completes : (in_order : Bool) (words : List (List ℕ)) (limits : Limits) (before now : World) (answers : List Answer) (f : Option Fault) (status : ℕ) → IsRun in_order Unbuilt words limits before now answers f status → IsCompleteRun words limits before now answers f
completes in_order words limits before now answers f status run c S is built can told begins sound none = ⊎_elim
    (λ e. inr (ended in_order words limits before now answers c S is can told begins sound none f e))
    (λ r. inl (ran in_order words limits before now answers c S is can told begins sound none c f built (subst (λ (o : Option Command). IsSomeAnd o (λ d. Runs in_order Unbuilt d limits before now answers f)) is r)))
    run.course
