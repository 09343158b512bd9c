-- Settings that are read one after the other.
use Rattle.std.proofs.Common.{◌≡◌, ◌<◌, ◌≤◌, ◌+◌, ◌-◌, ℕ, List, [], ◌∷◌, ◌++◌, map, drop, length, get_or, Option, Some, None, option_map, refl, ap, sym, ◌∙◌, append_assoc, arith, length-drop}
use Rattle.std.proofs.lemmas.List.{at_drop_more, map_push, length-map, drop-map, drop-drop}
use Rattle.vault_types.specs.Words.{Settings, with_setting, line_settings, settings_of, split_setting}
use Rattle.script_words.specs.declared.settings.Setting.{Setting}
use Rattle.script_words.specs.Settings.{pair_of, pairs}

-- settings in front of those that follow, if there are such
abbrev pub followed : Settings → Option Settings → Option Settings
followed xs rest = option_map (λ ys. xs ++ ys) rest

pub followed_more : (xs : Settings) (p : List ℕ × List ℕ) (rest : Option Settings) → followed xs (with_setting (Some p) rest) ≡ followed (xs ++ p ∷ []) rest
followed_more xs p None = refl
followed_more xs p (Some ys) = ap (λ (zs : Settings). Some zs) (sym (append_assoc xs (p ∷ []) ys))

pairs_push : (items : List Setting) (setting : Setting) → pairs (items ++ setting ∷ []) ≡ pairs items ++ pair_of setting ∷ []
pairs_push items setting = map_push pair_of items setting

followed_push : (items new : List Setting) (setting : Setting) (rest : Option Settings) → new ≡ items ++ setting ∷ []
    → followed (pairs items) (with_setting (Some (pair_of setting)) rest) ≡ followed (pairs new) rest
followed_push items new setting rest e =
    followed_more (pairs items) (pair_of setting) rest
    ∙ ap (λ (xs : Settings). followed xs rest) (sym (ap pairs e ∙ pairs_push items setting))

pub line_step : {X : Type 0} (f : X → List ℕ) (words : List X) (i : ℕ) (d : X) (items new : List Setting) (setting : Setting) → i < length words
    → line_settings (map f words) ≡ followed (pairs items) (line_settings (map f (drop i words)))
    → Some (pair_of setting) ≡ split_setting (f (get_or words i d)) → new ≡ items ++ setting ∷ []
    → line_settings (map f words) ≡ followed (pairs new) (line_settings (map f (drop (i + 1) words)))
line_step f words i d items new setting h so_far e n =
    let rest = line_settings (map f (drop (i + 1) words)) in
    let next : followed (pairs items) (line_settings (map f (drop i words))) ≡ followed (pairs items) (with_setting (split_setting (f (get_or words i d))) rest) =
    at_drop_more (λ ys. followed (pairs items) (line_settings (map f ys))) words i d h in
    so_far ∙ next ∙ ap (λ (s : Option (List ℕ × List ℕ)). followed (pairs items) (with_setting s rest)) (sym e) ∙ followed_push items new setting rest n

pub settings_step : {X : Type 0} (f : X → List ℕ) (words part : List X) (i k : ℕ) (items new : List Setting) (setting : Setting)
    → part ≡ drop i words
    → settings_of (map f words) ≡ followed (pairs items) (settings_of (map f (drop i words)))
    → settings_of (map f part) ≡ with_setting (Some (pair_of setting)) (settings_of (drop k (map f part))) → new ≡ items ++ setting ∷ []
    → settings_of (map f words) ≡ followed (pairs new) (settings_of (map f (drop (i + k) words)))
settings_step f words part i k items new setting p so_far e n =
    let step : settings_of (map f (drop i words)) ≡ with_setting (Some (pair_of setting)) (settings_of (drop k (map f (drop i words)))) = rw p at e in
    let rest : drop k (map f (drop i words)) ≡ map f (drop (i + k) words) = drop-map f k (drop i words) ∙ ap (map f) (drop-drop k i words) in
    so_far ∙ ap (λ (s : Option Settings). followed (pairs items) s) (step ∙ ap (λ ws. with_setting (Some (pair_of setting)) (settings_of ws)) rest)
    ∙ followed_push items new setting (settings_of (map f (drop (i + k) words))) n

pub step_within : {X : Type 0} (f : X → List ℕ) (words part : List X) (i k : ℕ) → part ≡ drop i words → i ≤ length words → k ≤ length (map f part) → i + k ≤ length words
step_within f words part i k p h g =
    let same : length (map f part) ≡ length words - i = length-map part f ∙ ap length p ∙ length-drop i words in
    omega arith
