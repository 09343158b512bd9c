-- The lines of a script, one after the other.
use Rattle.std.proofs.Common.{◌≡◌, ◌<◌, ◌≤◌, ◌+◌, ◌-◌, ℕ, List, [], ◌∷◌, ◌++◌, true, false, Option, Some, None, option_and_then, Result, Ok, Err, take, drop, length, refl, ap, sym, ◌∙◌, arith, append_assoc, append-nil, length-drop}
use Rattle.std.specs.List.{flat_map}
use Rattle.std.specs.Option.{option_map_or}
use Rattle.std.proofs.lemmas.Grind.{flat_map-append}
use Rattle.std.proofs.lemmas.List.{drop-drop, drop_all}
use Rattle.vault_types.specs.declared.Line.{Line}
use Rattle.vault_types.specs.Words.{sources_of, outputs_of, line_of, lines_of, may_follow, only_after, with_line, script_from, script_of}
use Rattle.script_words.proofs.Splits.{place, lines_more}

-- lines in front of those that follow, or the number of the first bad one
abbrev pub after_lines : List Line → Result (List Line) ℕ → Result (List Line) ℕ
after_lines lines (Ok more) = Ok (lines ++ more)
after_lines lines (Err n) = Err n

abbrev pub sources : List Line → List (List ℕ)
sources lines = flat_map sources_of lines

abbrev pub outputs : List Line → List (List ℕ)
outputs lines = flat_map outputs_of lines

-- what the lines from a place on make of a script
abbrev pub rest_of : List ℕ → ℕ → ℕ → List Line → Result (List Line) ℕ
rest_of text start number lines = script_from (number + 1) (sources lines) (outputs lines) (lines_of (drop start text))

abbrev pub ReadSoFar : List ℕ → ℕ → ℕ → List Line → Type 0
ReadSoFar text start number lines = script_of text ≡ after_lines lines (rest_of text start number lines)

after_nothing : (r : Result (List Line) ℕ) → r ≡ after_lines [] r
after_nothing (Ok lines) = refl
after_nothing (Err n) = refl

pub nothing_read : (text : List ℕ) → ReadSoFar text 0 0 []
nothing_read text = after_nothing (script_of text)

pub all_read : (text : List ℕ) (start number : ℕ) (lines : List Line) → length text ≤ start → ReadSoFar text start number lines → script_of text ≡ Ok lines
all_read text start number lines h so_far =
    let none : drop start text ≡ [] = drop_all start text h in
    so_far ∙ rw none (ap (λ (ls : List Line). Ok ls) (append-nil lines))

line_here : (text : List ℕ) (start end : ℕ) → start < length text → end ≡ start + place 10 (drop start text)
    → lines_of (drop start text) ≡ take (end - start) (drop start text) ∷ lines_of (drop (end + 1) text)
line_here text start end h e =
    let t = drop start text in
    let some : 0 < length t = omega (arith, length-drop start text) in
    let n : place 10 t ≡ end - start = omega arith in
    let m : start + (place 10 t + 1) ≡ end + 1 = omega arith in
    lines_more t some
    ∙ ap (λ (rest : List ℕ). take (place 10 t) t ∷ lines_of rest) (drop-drop (place 10 t + 1) start text ∙ ap (λ (k : ℕ). drop k text) m)
    ∙ ap (λ (k : ℕ). take k t ∷ lines_of (drop (end + 1) text)) n

-- what a line and those after it make of a script
abbrev with_rest : ℕ → List (List ℕ) → List (List ℕ) → List (List ℕ) → Option Line → Result (List Line) ℕ
with_rest n ins outs texts line =
    option_map_or (λ l. with_line l (script_from (n + 1) (ins ++ sources_of l) (outs ++ outputs_of l) texts)) (option_and_then (only_after ins outs) line) (Err n)

-- the line that was read stands for its text
read_at : (text : List ℕ) (start end number : ℕ) (lines : List Line) (line : Option Line) → start < length text → end ≡ start + place 10 (drop start text)
    → line ≡ line_of (take (end - start) (drop start text)) → ReadSoFar text start number lines
    → script_of text ≡ after_lines lines (with_rest (number + 1) (sources lines) (outputs lines) (lines_of (drop (end + 1) text)) line)
read_at text start end number lines line h e f so_far =
    so_far
    ∙ ap (λ (texts : List (List ℕ)). after_lines lines (script_from (number + 1) (sources lines) (outputs lines) texts)) (line_here text start end h e)
    ∙ ap (λ (l : Option Line). after_lines lines (with_rest (number + 1) (sources lines) (outputs lines) (lines_of (drop (end + 1) text)) l)) (sym f)

pub bad_line : (text : List ℕ) (start end number : ℕ) (lines : List Line) → start < length text → end ≡ start + place 10 (drop start text)
    → None ≡ line_of (take (end - start) (drop start text)) → ReadSoFar text start number lines → script_of text ≡ Err (number + 1)
bad_line text start end number lines h e f so_far = read_at text start end number lines None h e f so_far

pub bad_names : (text : List ℕ) (start end number : ℕ) (lines : List Line) (line : Line) → start < length text → end ≡ start + place 10 (drop start text)
    → Some line ≡ line_of (take (end - start) (drop start text)) → may_follow (sources lines) (outputs lines) line ≡ false
    → ReadSoFar text start number lines → script_of text ≡ Err (number + 1)
bad_names text start end number lines line h e f g so_far = read_at text start end number lines (Some line) h e f so_far ∙ rw g refl

after_more : (lines : List Line) (line : Line) (r : Result (List Line) ℕ) → after_lines lines (with_line line r) ≡ after_lines (lines ++ line ∷ []) r
after_more lines line (Ok more) = ap (λ (ls : List Line). Ok ls) (sym (append_assoc lines (line ∷ []) more))
after_more lines line (Err n) = refl

pub uses_more : (f : Line → List (List ℕ)) (lines new : List Line) (line : Line) → new ≡ lines ++ line ∷ [] → flat_map f lines ++ f line ≡ flat_map f new
uses_more f lines new line e = rw (e, flat_map-append f lines (line ∷ []), append-nil (f line)) refl

pub good_line : (text : List ℕ) (start end number : ℕ) (lines new : List Line) (line : Line) → start < length text → end ≡ start + place 10 (drop start text)
    → Some line ≡ line_of (take (end - start) (drop start text)) → may_follow (sources lines) (outputs lines) line ≡ true
    → new ≡ lines ++ line ∷ [] → ReadSoFar text start number lines → ReadSoFar text (end + 1) (number + 1) new
good_line text start end number lines new line h e f g n so_far =
    let rest = λ (ins outs : List (List ℕ)). script_from (number + 1 + 1) ins outs (lines_of (drop (end + 1) text)) in
    let ins = sources lines ++ sources_of line in
    let outs = outputs lines ++ outputs_of line in
    let first : script_of text ≡ after_lines lines (with_line line (rest ins outs)) = rw g at (read_at text start end number lines (Some line) h e f so_far) in
    let second : after_lines (lines ++ line ∷ []) (rest ins outs) ≡ after_lines new (rest (sources new) (outputs new)) =
    rw (uses_more sources_of lines new line n, uses_more outputs_of lines new line n, ← n) refl in
    first ∙ after_more lines line (rest ins outs) ∙ second
