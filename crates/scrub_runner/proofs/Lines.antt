-- The lines of damaged containers, one after another.
use Rattle.std.proofs.Common.{◌≡◌, ◌≤◌, ◌<◌, ◌+◌, ℕ, suc, get_or, List, [], ◌∷◌, ◌++◌, take, drop, length, Some, sym, ap, arith, ◌∙◌}
use Rattle.std.proofs.Math.Seq.{take-add, drop-cons}
use Rattle.std.proofs.lemmas.Grind.{flat_map-append}
use Rattle.std.proofs.lemmas.List.{append-nil, take-append-drop}
use Rattle.vault_types.specs.declared.Fault.{Fault}
use Rattle.vault_traits.specs.Told.{SinkTold, Takes}
use Rattle.store_model.specs.World.{IsPrinted}
use Rattle.report_printer.proofs.Written.{front_behind}
use Rattle.payload_health.specs.declared.Bad.{Bad}
use Rattle.scrub_model.specs.Words.{damage_line, damage_lines}

-- the lines up to one, and its own
up_to : (bad : List Bad) (i : ℕ) (d : Bad) → i < length bad → damage_lines (take (i + 1) bad) ≡ damage_lines (take i bad) ++ damage_line (get_or bad i d)
up_to bad i d within =
    let b = get_or bad i d in
    let more : take (i + 1) bad ≡ take i bad ++ take 1 (drop i bad) = take-add i 1 bad in
    let front : drop i bad ≡ b ∷ drop (suc i) bad = drop-cons bad i d within in
    let one : take 1 (drop i bad) ≡ b ∷ [] = ap (λ (l : List Bad). take 1 l) front in
    let all : take (i + 1) bad ≡ take i bad ++ b ∷ [] = more ∙ ap (λ (l : List Bad). take i bad ++ l) one in
    ap damage_lines all ∙ flat_map-append damage_line (take i bad) (b ∷ []) ∙ ap (λ (x : List ℕ). damage_lines (take i bad) ++ x) (append-nil (damage_line b))

pub printed_front : (bad : List Bad) (i : ℕ) (d : Bad) (f : Fault) (before mid now : SinkTold) → i < length bad → Takes before.taken mid.taken (damage_lines (take i bad)) → before.faults ≤ mid.faults
    → IsPrinted (damage_line (get_or bad i d)) mid now (Some f) → IsPrinted (damage_lines bad) before now (Some f)
printed_front bad i d f before mid now within done later (n, same, rises, line) =
    let front_text : damage_lines (take i bad) ++ damage_line (get_or bad i d) ≡ damage_lines (take (i + 1) bad) = sym (up_to bad i d within) in
    let whole : damage_lines (take (i + 1) bad) ++ damage_lines (drop (i + 1) bad) ≡ damage_lines bad =
    sym (flat_map-append damage_line (take (i + 1) bad) (drop (i + 1) bad)) ∙ ap damage_lines (take-append-drop (i + 1) bad) in
    (n, same, (omega (arith, later, rises.0), rises.1), front_behind (damage_lines (take i bad)) (damage_lines (take (i + 1) bad)) (damage_lines bad) (damage_line (get_or bad i d)) (damage_lines (drop (i + 1) bad)) before mid now front_text whole done line)
