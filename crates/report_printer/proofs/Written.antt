-- What was written of a line.
use Rattle.std.proofs.Common.{◌≡◌, inl, inr, ◌≤◌, ◌<◌, ◌+◌, ◌-◌, ◌++◌, length, ℕ, suc, get_or, List, [], ◌∷◌, take, drop, append_assoc, Some, Ok, Err, refl, sym, ap, subst, arith, ◌∙◌}
use Rattle.std.specs.Prelude.{Result, OnOk, OnErr}
use Rattle.std.proofs.Math.Seq.{take-add, drop-cons}
use Rattle.std.proofs.lemmas.Grind.{flat_map-append}
use Rattle.std.proofs.lemmas.List.{append-nil, take-append-drop}
use Rattle.vault_types.specs.declared.Fault.{Fault}
use Rattle.vault_types.specs.declared.Fault.TheVariants as fault
use Rattle.vault_types.specs.declared.Answer.{Answer}
use Rattle.vault_types.specs.Texts.{answer_text, fault_line}
use Rattle.vault_traits.specs.Counts.{Rose}
use Rattle.vault_traits.specs.Told.{SinkTold, Takes}
use Rattle.vault_traits.specs.CutOff.{IsCutOff}
use Rattle.vault_traits.proofs.Written.{takes_then}
use Rattle.store_model.specs.World.{IsPrinted, IsTold, TakesFront, report_text}

-- a text that was cut off
pub front_of : (text : List ℕ) (before now : SinkTold) → IsCutOff text before now → Rose before.faults now.faults × TakesFront before now text
front_of text before now cut = (cut.failed, (cut.front, (cut.rest, cut.parts), cut.taken))

pub not_printed : (text : List ℕ) (before now : SinkTold) (n : ℕ) → n ≡ now.faults → Rose before.faults now.faults × TakesFront before now text → IsPrinted text before now (Some (fault.WriteFault n))
not_printed text before now n is cut = (n, refl, (subst (λ (m : ℕ). Rose before.faults m) (sym is) cut.0, omega (arith, is)), cut.1)

-- the lines of the answers up to one, and its own
up_to : (answers : List Answer) (i : ℕ) (d : Answer) → i < length answers → report_text (take (i + 1) answers) ≡ report_text (take i answers) ++ answer_text (get_or answers i d)
up_to answers i d within =
    let a = get_or answers i d in
    let more : take (i + 1) answers ≡ take i answers ++ take 1 (drop i answers) = take-add i 1 answers in
    let front : drop i answers ≡ a ∷ drop (suc i) answers = drop-cons answers i d within in
    let one : take 1 (drop i answers) ≡ a ∷ [] = ap (λ (l : List Answer). take 1 l) front in
    let all : take (i + 1) answers ≡ take i answers ++ a ∷ [] = more ∙ ap (λ (l : List Answer). take i answers ++ l) one in
    ap report_text all ∙ flat_map-append answer_text (take i answers) (a ∷ []) ∙ ap (λ (x : List ℕ). report_text (take i answers) ++ x) (append-nil (answer_text a))

-- a front of what comes next, behind what was written
pub front_behind : (done up whole line behind : List ℕ) (before mid now : SinkTold) → done ++ line ≡ up → up ++ behind ≡ whole → Takes before.taken mid.taken done → TakesFront mid now line → TakesFront before now whole
front_behind done up whole line behind before mid now one two taken (front, rest, more) = (
  done ++ front,
  (
    rest.0 ++ behind,
    append_assoc done front (rest.0 ++ behind)
        ∙ ap (λ (x : List ℕ). done ++ x) (sym (append_assoc front rest.0 behind))
        ∙ ap (λ (x : List ℕ). done ++ (x ++ behind)) rest.1
        ∙ sym (append_assoc done line behind)
        ∙ ap (λ (x : List ℕ). x ++ behind) one
        ∙ two,
  ),
  takes_then before.taken mid.taken now.taken done front taken more,
)

pub printed_front : (answers : List Answer) (i : ℕ) (d : Answer) (f : Fault) (before mid now : SinkTold) → i < length answers → Takes before.taken mid.taken (report_text (take i answers)) → before.faults ≤ mid.faults
    → IsPrinted (answer_text (get_or answers i d)) mid now (Some f) → IsPrinted (report_text answers) before now (Some f)
printed_front answers i d f before mid now within done later (n, same, rises, line) =
    let front_text : report_text (take i answers) ++ answer_text (get_or answers i d) ≡ report_text (take (i + 1) answers) = sym (up_to answers i d within) in
    let whole : report_text (take (i + 1) answers) ++ report_text (drop (i + 1) answers) ≡ report_text answers =
    sym (flat_map-append answer_text (take (i + 1) answers) (drop (i + 1) answers)) ∙ ap report_text (take-append-drop (i + 1) answers) in
    (n, same, (omega (arith, later, rises.0), rises.1), front_behind (report_text (take i answers)) (report_text (take (i + 1) answers)) (report_text answers) (answer_text (get_or answers i d)) (report_text (drop (i + 1) answers)) before mid now front_text whole done line)

-- the line of one answer is the report
pub one_line : (a : Answer) (answers : List Answer) → answers ≡ a ∷ [] → answer_text a ≡ report_text answers
one_line a answers is = sym (ap report_text is ∙ append-nil (answer_text a))

pub told : {T E : Type 0} (f : Fault) (before now : SinkTold) (r : Result T E) → OnOk r (Takes before.taken now.taken (fault_line f)) → OnErr r (Rose before.faults now.faults × TakesFront before now (fault_line f)) → IsTold f before now
told f before now (Ok x) ok err = inl ok
told f before now (Err e) ok err = inr err
