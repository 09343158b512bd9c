-- What the tables of settings, and the settings that were read, stand for.
use Rattle.std.specs.Prelude.{◌≡◌, ℕ, Bool, not, nat_le, is_some, if◌then◌else◌, false, codes, ◌<◌, ◌≤◌, ◌^◌, List, map, length, drop, Option, Some, None}
use Rattle.std.specs.List.{list_all, list_any}
use Rattle.std.specs.Str.{bytes_eq}
use Rattle.vault_types.specs.Words.{Allowed, Number, Word, Kinds, Settings, number, number_in, settings_of, with_setting}
use Rattle.script_words.specs.declared.settings.Setting.{Setting}
use Rattle.script_words.specs.declared.kinds.Range.{Range}
use Rattle.script_words.specs.declared.kinds.Range.TheVariants as range
use Rattle.script_words.specs.declared.kinds.SettingKind.{SettingKind}

-- a setting as a pair of a name and a value
abbrev pub pair_of : Setting → List ℕ × List ℕ
pair_of setting = (setting.name.now, setting.value.now)

abbrev pub pairs : List Setting → Settings
pairs settings = map pair_of settings

abbrev pub allowed_by : Range → Allowed
allowed_by (range.Number low high) = Number low high
allowed_by (range.Word texts) = Word (map (λ t. t.now) texts.now)

-- the rows of a table of settings
abbrev pub kinds_of : List SettingKind → Kinds
kinds_of kinds = map (λ k. (k.name.now, allowed_by k.range)) kinds

-- the greatest number that a name's value may be
abbrev pub greatest_value : List ℕ → ℕ
greatest_value name =
    if bytes_eq name (codes "seed") then 18446744073709551615
    else if bytes_eq name (codes "set") then 255
    else 4294967295

abbrev pub is_at_most : ℕ → Allowed → Bool
is_at_most n (Number low high) = nat_le high n
is_at_most n (Word texts) = not (list_any (λ t. is_some (number t)) texts)

-- the numbers that a table of settings allows are not above those
abbrev pub kinds_fit : Kinds → Bool
kinds_fit kinds = list_all (λ k. is_at_most (greatest_value k.0) k.1) kinds

-- the numbers among the values fit: the seed 64 bits, the set 8, and each other 32
pub record NumbersFit (settings : Settings) : Type 0 where
  pub each : (name : List ℕ) → bytes_eq name (codes "seed") ≡ false → number_in settings name 0 < 2 ^ 32
  pub set : number_in settings (codes "set") 0 < 2 ^ 8
  pub seed : number_in settings (codes "seed") 0 < 2 ^ 64

-- what the first setting of some words is, and how many words it is, if it is one
abbrev pub FirstSetting : List (List ℕ) → Option ((List ℕ × List ℕ) × ℕ) → Type 0
FirstSetting words None = settings_of words ≡ None
FirstSetting words (Some r) =
    (0 < r.1) × (r.1 ≤ length words)
    × (settings_of words ≡ with_setting (Some r.0) (settings_of (drop r.1 words)))
