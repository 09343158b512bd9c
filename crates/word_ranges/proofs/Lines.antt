-- The settings of each line of a script are in their ranges, and its names are apart.
use Rattle.std.proofs.Common.{◌≡◌, ◌+◌, ℕ, Bool, true, false, cond, ◌&&◌, ◌++◌, List, [], ◌∷◌, Option, Some, None, codes, refl, subst, arith}
use Rattle.std.specs.Prelude.{Result, Ok, Err}
use Rattle.std.specs.List.{AllByRecursion, list_all}
use Rattle.std.specs.Str.{bytes_eq}
use Rattle.std.specs.Option.{option_and_then, option_map_or}
use Rattle.std.proofs.lemmas.Bool.{and_parts}
use Rattle.vault_types.specs.declared.Line.{Line}
use Rattle.vault_types.specs.declared.Line.TheVariants as line
use Rattle.vault_types.specs.Words.{Number, Kinds, Settings, allows, are_allowed, names_differ, set_kind, job_kinds, cache_kind, set_in, config_in, cache_in, job_agrees, always, checked, is_name, is_value, is_allowed, value_of_digits, backup_line, restore_line, delete_line, line_settings, line_with, line_of, split_at_byte, sources_of, outputs_of, may_follow, only_after, with_line, script_from, script_of, lines_of}
use Rattle.store_model.specs.Outputs.{AreApartFrom, AreApartLines}
use Rattle.store_model.specs.Ranges.{IsLineInRange}
use Rattle.word_ranges.proofs.Ranges.{settings_within, job_in_range}

-- what is there lies in its range
abbrev IsFine : Option Line → Line → Type 0
IsFine o l = o ≡ Some l → IsLineInRange l

none_fine : (l : Line) → IsFine None l
none_fine l e = absurd (let clash : ◌≡◌ {A = Option Line} None (Some l) = e in cc)

some_fine : (b l : Line) → IsLineInRange b → IsFine (Some b) l
some_fine b l h e = let same : b ≡ l = cc in subst IsLineInRange same h

either : (t : Bool) (x y : Option Line) (l : Line) → IsFine x l → IsFine y l → IsFine (cond t x y) l
either true x y l one two = one
either false x y l one two = two

-- a line whose settings are allowed and pass
checked_fine : (kinds : Kinds) (passes : Settings → Bool) (make : Settings → Line) (s : Settings) (l : Line) (t : Bool) → (are_allowed kinds s && passes s) ≡ t → (list_all (allows kinds) s ≡ true → passes s ≡ true → IsLineInRange (make s))
    → IsFine (cond t (Some (make s)) None) l
checked_fine kinds passes make s l false is h = none_fine l
checked_fine kinds passes make s l true is h =
    let both = and_parts (are_allowed kinds s) (passes s) is in
    some_fine (make s) l (h (and_parts (names_differ s) (list_all (allows kinds) s) both.0).1 both.1)

settings_fine : (kinds : Kinds) (passes : Settings → Bool) (make : Settings → Line) (o : Option Settings) (l : Line) → ((s : Settings) → list_all (allows kinds) s ≡ true → passes s ≡ true → IsLineInRange (make s))
    → IsFine (option_and_then (checked kinds passes make) o) l
settings_fine kinds passes make None l h = none_fine l
settings_fine kinds passes make (Some s) l h = checked_fine kinds passes make s l _ refl (h s)

abbrev backup_kinds : Kinds
backup_kinds = set_kind ++ job_kinds

abbrev restore_kinds : Kinds
restore_kinds = set_kind ++ cache_kind

backup_fine : (name : List ℕ) (words : List (List ℕ)) (l : Line) → IsFine (backup_line name words) l
backup_fine name words l =
    either (is_name name) _ _ l
    (settings_fine backup_kinds job_agrees (λ s. line.Backup (set_in s) name (config_in s)) (line_settings words) l
    (λ s each fits. job_in_range backup_kinds (record { size = refl; container = refl; window = refl; max = refl }) s each fits))
    (none_fine l)

restore_fine : (version name : List ℕ) (words : List (List ℕ)) (l : Line) → IsFine (restore_line version name words) l
restore_fine version name words l =
    either (is_name name && is_value version && is_allowed (Number 0 4294967295) version) _ _ l
    (settings_fine restore_kinds always (λ s. line.Restore (set_in s) (value_of_digits version) name (cache_in s)) (line_settings words) l
    (λ s each passes. settings_within restore_kinds s (codes "cache") 1 64 16 refl (omega arith, omega arith) each))
    (none_fine l)

delete_fine : (through : List ℕ) (words : List (List ℕ)) (l : Line) → IsFine (delete_line through words) l
delete_fine through words l =
    either (is_value through && is_allowed (Number 0 4294967295) through) _ _ l
    (settings_fine set_kind always (λ s. line.Delete (set_in s) (value_of_digits through)) (line_settings words) l (λ s each passes. tt))
    (none_fine l)

words_fine : (words : List (List ℕ)) (l : Line) → IsFine (line_with words) l
words_fine [] l = none_fine l
words_fine (w ∷ []) l = none_fine l
words_fine (w ∷ a ∷ []) l = either (bytes_eq w (codes "backup")) _ _ l (backup_fine a [] l) (either (bytes_eq w (codes "delete")) _ _ l (delete_fine a [] l) (none_fine l))
words_fine (w ∷ a ∷ b ∷ words) l =
    either (bytes_eq w (codes "backup")) _ _ l (backup_fine a (b ∷ words) l)
    (either (bytes_eq w (codes "delete")) _ _ l (delete_fine a (b ∷ words) l)
    (either (bytes_eq w (codes "restore")) _ _ l (restore_fine a b words l) (none_fine l)))

-- the lines from one on
abbrev AreFine : List (List ℕ) → List (List ℕ) → Result (List Line) ℕ → List Line → Type 0
AreFine sources outputs r lines = r ≡ Ok lines → AreApartFrom sources outputs lines × AllByRecursion IsLineInRange lines

bad_fine : (sources outputs : List (List ℕ)) (n : ℕ) (lines : List Line) → AreFine sources outputs (Err n) lines
bad_fine sources outputs n lines e = absurd (let clash : ◌≡◌ {A = Result (List Line) ℕ} (Err n) (Ok lines) = e in cc)

good_fine : (sources outputs : List (List ℕ)) (ls lines : List Line) → AreApartFrom sources outputs ls → AllByRecursion IsLineInRange ls → AreFine sources outputs (Ok ls) lines
good_fine sources outputs ls lines apart ranges e =
    let same : ls ≡ lines = cc in
    subst (λ (xs : List Line). AreApartFrom sources outputs xs × AllByRecursion IsLineInRange xs) same (apart, ranges)

with_fine : (sources outputs : List (List ℕ)) (l : Line) (rest : Result (List Line) ℕ) (lines : List Line) → may_follow sources outputs l ≡ true → IsLineInRange l
    → ((ls : List Line) → AreFine (sources ++ sources_of l) (outputs ++ outputs_of l) rest ls) → AreFine sources outputs (with_line l rest) lines
with_fine sources outputs l (Err k) lines may range rest = bad_fine sources outputs k lines
with_fine sources outputs l (Ok ls) lines may range rest = let behind = rest ls refl in good_fine sources outputs (l ∷ ls) lines (may, behind.0) (range, behind.1)

-- a line in front of others
line_fine : (sources outputs : List (List ℕ)) (n : ℕ) (rest : List (List ℕ) → List (List ℕ) → Result (List Line) ℕ) (lines : List Line) (fine : (ss os : List (List ℕ)) (ls : List Line) → AreFine ss os (rest ss os) ls) (l : Line) (t : Bool)
    → may_follow sources outputs l ≡ t → IsLineInRange l → AreFine sources outputs (option_map_or (λ k. with_line k (rest (sources ++ sources_of k) (outputs ++ outputs_of k))) (cond t (Some l) None) (Err n)) lines
line_fine sources outputs n rest lines fine l false is range = bad_fine sources outputs n lines
line_fine sources outputs n rest lines fine l true is range = with_fine sources outputs l (rest (sources ++ sources_of l) (outputs ++ outputs_of l)) lines is range (fine (sources ++ sources_of l) (outputs ++ outputs_of l))

text_fine : (sources outputs : List (List ℕ)) (n : ℕ) (rest : List (List ℕ) → List (List ℕ) → Result (List Line) ℕ) (lines : List Line) (fine : (ss os : List (List ℕ)) (ls : List Line) → AreFine ss os (rest ss os) ls) (o : Option Line)
    → ((l : Line) → o ≡ Some l → IsLineInRange l) → AreFine sources outputs (option_map_or (λ k. with_line k (rest (sources ++ sources_of k) (outputs ++ outputs_of k))) (option_and_then (only_after sources outputs) o) (Err n)) lines
text_fine sources outputs n rest lines fine None range = bad_fine sources outputs n lines
text_fine sources outputs n rest lines fine (Some l) range = line_fine sources outputs n rest lines fine l (may_follow sources outputs l) refl (range l refl)

lines_fine : (texts : List (List ℕ)) (n : ℕ) (sources outputs : List (List ℕ)) (lines : List Line) → AreFine sources outputs (script_from n sources outputs texts) lines
lines_fine [] n sources outputs lines = good_fine sources outputs [] lines tt tt
lines_fine (text ∷ texts) n sources outputs lines = text_fine sources outputs n (λ ss os. script_from (n + 1) ss os texts) lines (λ ss os ls. lines_fine texts (n + 1) ss os ls) (line_of text) (λ l e. words_fine (split_at_byte 32 text) l e)

pub of_script : (text : List ℕ) (lines : List Line) → script_of text ≡ Ok lines → AreApartLines lines × AllByRecursion IsLineInRange lines
of_script text lines = lines_fine (lines_of text) 1 [] [] lines
