-- What `fill` prints, and what it runs.
use Rattle.std.specs.Prelude.{Bool, min, IsSome}
use Rattle.std.proofs.Common.{◌≡◌, ◌≤◌, ◌<◌, ◌+◌, ◌-◌, ℕ, zero, suc, List, [], ◌∷◌, ◌++◌, length, length-drop, drop, get_or, Option, Some, None, refl, sym, ap, subst, arith, ◌∙◌, append_assoc, add-one}
use Rattle.std.proofs.Math.Seq.{drop-cons}
use Rattle.std.proofs.lemmas.List.{append-nil}
use Rattle.vault_types.specs.declared.Fault.{Fault}
use Rattle.vault_types.specs.declared.Answer.{Answer}
use Rattle.vault_types.specs.declared.Line.{Line}
use Rattle.vault_types.specs.declared.Limits.{Limits}
use Rattle.vault_types.specs.Generator.{generated, fill_lines}
use Rattle.vault_types.specs.Script.{Sources}
use Rattle.vault_types.specs.State.{State}
use Rattle.vault_traits.specs.Told.{SinkTold, Files, Takes}
use Rattle.store_model.specs.Leaves.{Begins}
use Rattle.store_model.specs.Outputs.{AreFedBy}
use Rattle.store_model.specs.Room.{NeedRoom}
use Rattle.store_model.specs.Script.{RunsLines}
use Rattle.store_model.specs.Strays.{StraysOf}
use Rattle.store_model.specs.Filling.{AreGenerated, RunsFill, output_of, outputs_text}
use Rattle.store_model.specs.World.{World, IsPrinted, report_text}
use Rattle.vault_traits.proofs.Written.{takes_nothing, takes_then}
use Rattle.report_printer.proofs.Written.{front_behind}
use Rattle.workload.specs.Places.{FilledPlaces, file_at, source_name, told_of}

-- a text that was cut off is cut off in front of another
pub printed_first : (first second : List ℕ) (before now : SinkTold) (f : Fault) → IsPrinted first before now (Some f) → IsPrinted (first ++ second) before now (Some f)
printed_first first second before now f (n, same, rises, (front, rest, taken)) =
    (n, same, rises, (front, (rest.0 ++ second, sym (append_assoc front rest.0 second) ∙ ap (λ (x : List ℕ). x ++ second) rest.1), taken))

-- a text behind one that was written
pub printed_then : (first second : List ℕ) (before mid now : SinkTold) (f : Option Fault) → Takes before.taken mid.taken first → before.faults ≤ mid.faults → IsPrinted second mid now f → IsPrinted (first ++ second) before now f
printed_then first second before mid now None taken later p = takes_then before.taken mid.taken now.taken first second taken p
printed_then first second before mid now (Some f) taken later (n, same, rises, cut) =
    (n, same, (omega (arith, later, rises.0), rises.1), front_behind first (first ++ second) (first ++ second) second [] before mid now refl (append-nil (first ++ second)) taken cut)

-- the sums up to a line are printed: what is left is that of the lines and answers from there on
pub record SummedTo (files : Files) (lines : List Line) (answers : List Answer) (i : ℕ) (before now : SinkTold) : Type 0 where
  pub front : List ℕ
  pub parts : outputs_text files lines answers ≡ front ++ outputs_text files (drop i lines) (drop i answers)
  pub taken : Takes before.taken now.taken front
  pub later : before.faults ≤ now.faults

pub summed_none : (files : Files) (lines : List Line) (answers : List Answer) (told : SinkTold) → SummedTo files lines answers 0 told told
summed_none files lines answers told = record { front = []; parts = refl; taken = takes_nothing told.taken; later = omega arith }

next_line : (lines : List Line) (i : ℕ) (line : Line) → i < length lines → line ≡ get_or lines i line → drop i lines ≡ line ∷ drop (i + 1) lines
next_line lines i line within is = drop-cons lines i line within ∙ ap (λ (x : Line). x ∷ drop (suc i) lines) (sym is) ∙ ap (λ (k : ℕ). line ∷ drop k lines) (sym (add-one i))

next_answer : (answers : List Answer) (i : ℕ) (answer : Answer) → i < length answers → answer ≡ get_or answers i answer → drop i answers ≡ answer ∷ drop (i + 1) answers
next_answer answers i answer within is = drop-cons answers i answer within ∙ ap (λ (x : Answer). x ∷ drop (suc i) answers) (sym is) ∙ ap (λ (k : ℕ). answer ∷ drop k answers) (sym (add-one i))

-- what is read within a list does not depend on the default
pub read_within : (answers : List Answer) (i : ℕ) (d e : Answer) → i < length answers → get_or answers i d ≡ get_or answers i e
read_within [] i d e within = absurd (omega arith)
read_within (answer ∷ answers) zero d e within = refl
read_within (answer ∷ answers) (suc i) d e within = read_within answers i d e (omega arith)

module _ (files : Files) (lines : List Line) (answers : List Answer) (i : ℕ) (before mid : SinkTold) (so_far : SummedTo files lines answers i before mid) where
  module _ (line : Line) (answer : Answer) (in_lines : i < length lines) (in_answers : i < length answers) (is_line : line ≡ get_or lines i line) (is_answer : answer ≡ get_or answers i answer) where
    next_parts : outputs_text files lines answers ≡ (so_far.front ++ output_of files line answer) ++ outputs_text files (drop (i + 1) lines) (drop (i + 1) answers)
    next_parts =
        so_far.parts
        ∙ ap (λ (ls : List Line). so_far.front ++ outputs_text files ls (drop i answers)) (next_line lines i line in_lines is_line)
        ∙ ap (λ (l : List Answer). so_far.front ++ outputs_text files (line ∷ drop (i + 1) lines) l) (next_answer answers i answer in_answers is_answer)
        ∙ sym (append_assoc so_far.front (output_of files line answer) (outputs_text files (drop (i + 1) lines) (drop (i + 1) answers)))

    pub summed_more : (now : SinkTold) → IsPrinted (output_of files line answer) mid now None → mid.faults ≤ now.faults → SummedTo files lines answers (i + 1) before now
    summed_more now printed later = record {
      front = so_far.front ++ output_of files line answer;
      parts = next_parts;
      taken = takes_then before.taken mid.taken now.taken so_far.front (output_of files line answer) so_far.taken printed;
      later = omega (arith, so_far.later, later);
    }

    pub summed_cut : (now : SinkTold) (f : Fault) → IsPrinted (output_of files line answer) mid now (Some f) → IsPrinted (outputs_text files lines answers) before now (Some f)
    summed_cut now f printed =
        subst (λ (x : List ℕ). IsPrinted x before now (Some f)) (sym next_parts)
        (printed_first (so_far.front ++ output_of files line answer) (outputs_text files (drop (i + 1) lines) (drop (i + 1) answers)) before now f
        (printed_then so_far.front (output_of files line answer) before mid now (Some f) so_far.taken so_far.later printed))

  -- all of them
  no_more : (ls : List Line) (rest : List Answer) → (k : ℕ) → k ≡ min (length ls) (length rest) → k ≡ 0 → outputs_text files ls rest ≡ []
  no_more [] rest k is none = refl
  no_more (line ∷ ls) [] k is none = refl
  no_more (line ∷ ls) (answer ∷ rest) k is none = absurd (omega (arith, is, none))

  pub summed_all : i ≡ min (length lines) (length answers) → IsPrinted (outputs_text files lines answers) before mid None
  summed_all all =
      let left_lines : length (drop i lines) ≡ length lines - i = length-drop i lines in
      let left_answers : length (drop i answers) ≡ length answers - i = length-drop i answers in
      let rest : outputs_text files (drop i lines) (drop i answers) ≡ [] = no_more (drop i lines) (drop i answers) 0 (omega arith) refl in
      subst (λ (x : List ℕ). Takes before.taken mid.taken x) (sym (so_far.parts ∙ ap (λ (x : List ℕ). so_far.front ++ x) rest ∙ append-nil so_far.front)) so_far.taken

-- the places as they are made
pub are_generated : (seed versions : ℕ) (p made : FilledPlaces) → versions ≤ 64 → p ≡ made → made.write_faults ≡ 0 → ((v : ℕ) → 1 ≤ v → v ≤ 64 → file_at p.seed p.places (source_name v) ≡ Some (generated seed v)) → AreGenerated seed versions (told_of p)
are_generated seed versions p made few is none bytes = record {
  sources = λ v low high. bytes v low (omega (arith, few, high));
  opened = refl;
  read = refl;
  written = ap (λ (q : FilledPlaces). q.write_faults) is ∙ none;
}

-- the script over the places that were made, behind the opening of the shelf
pub filled : (in_order : Bool) (seed versions : ℕ) (limits : Limits) (before now : World) (lines slice : List Line) (answers printed : List Answer) (f : Option Fault) (made left : FilledPlaces) → lines ≡ fill_lines versions → slice ≡ lines → printed ≡ answers → AreGenerated seed versions (told_of made)
    → RunsLines in_order (Begins before.shelf) (StraysOf before.shelf) limits slice answers before.shelf now.shelf (told_of made) (told_of left)
    → ((T : State) (sources : Sources) → Begins before.shelf T → AreFedBy (told_of made).files sources slice → IsSome (told_of made).files → NeedRoom (Some 8388671) sources T slice answers)
    → IsPrinted (report_text printed ++ outputs_text (file_at left.seed left.places) slice printed) before.out now.out f
    → now.report ≡ before.report → now.input ≡ before.input → now.places ≡ before.places → RunsFill in_order seed versions limits before now answers f
filled in_order seed versions limits before now lines slice answers printed f made left are same shown generated runs room text report input places =
    let all : slice ≡ fill_lines versions = same ∙ are in
    record {
      made = told_of made;
      left = told_of left;
      generated = generated;
      opened = refl;
      read = refl;
      runs = subst (λ (ls : List Line). RunsLines in_order (Begins before.shelf) (StraysOf before.shelf) limits ls answers before.shelf now.shelf (told_of made) (told_of left)) all runs;
      room = subst (λ (ls : List Line). (T : State) (sources : Sources) → Begins before.shelf T → AreFedBy (told_of made).files sources ls → NeedRoom (Some 8388671) sources T ls answers) all (λ T sources begins fed. room T sources begins fed refl);
      printed = subst (λ (ls : List Line). IsPrinted (report_text answers ++ outputs_text (file_at left.seed left.places) ls answers) before.out now.out f) all
          (subst (λ (l : List Answer). IsPrinted (report_text l ++ outputs_text (file_at left.seed left.places) slice l) before.out now.out f) shown text);
      report = report;
      input = input;
      places = places;
    }
