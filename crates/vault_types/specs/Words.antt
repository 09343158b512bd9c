-- The words of a command, and the lines of a script.
use Rattle.std.specs.Prelude.{ℕ, ◌+◌, ◌-◌, ◌*◌, Bool, true, false, not, ◌&&◌, ◌||◌, List, [], ◌∷◌, ◌++◌, length, fold, take, drop, find, nat_lt, nat_le, nat_eq, ◌==◌, codes, decimal, is_some, unwrap_or, option_map, option_and_then, if◌then◌else◌, Option, Some, None, Result, Ok, Err}
use Rattle.std.specs.Option.{option_map_or}
use Rattle.std.specs.List.{list_all, list_any, starts_with, position_or_len}
use Rattle.std.specs.Str.{bytes_eq}
use Rattle.std.specs.Char.{is_ascii_digit, is_ascii_lowercase, is_ascii_uppercase}
use Rattle.vault_types.specs.declared.Cutting.{Cutting}
use Rattle.vault_types.specs.declared.Cutting.TheVariants.{Fixed, Ae}
use Rattle.vault_types.specs.declared.Rewrite.{Rewrite}
use Rattle.vault_types.specs.declared.Rewrite.TheVariants.{Off, Cap, Har, Both}
use Rattle.vault_types.specs.declared.JobConfig.{JobConfig}
use Rattle.vault_types.specs.declared.Command.{Command}
use Rattle.vault_types.specs.declared.Command.TheVariants as command
use Rattle.vault_types.specs.declared.Line.{Line}
use Rattle.vault_types.specs.declared.Line.TheVariants as line

-- a setting is a name and a value
abbrev pub Settings : Type 0
Settings = List (List ℕ × List ℕ)

-- values

abbrev pub is_value : List ℕ → Bool
is_value v =
    nat_le 1 (length v) && nat_le (length v) 20 && list_all (λ b. is_ascii_digit b || is_ascii_lowercase b) v

abbrev pub value_of_digits : List ℕ → ℕ
value_of_digits v = fold (λ n b. n * 10 + (b - 48)) 0 v

-- the number that a text is the decimal form of
abbrev pub number : List ℕ → Option ℕ
number v =
    if list_all is_ascii_digit v && bytes_eq (decimal (value_of_digits v)) v then Some (value_of_digits v)
    else None

abbrev pub in_range : ℕ → ℕ → Option ℕ → Bool
in_range low high None = false
in_range low high (Some n) = nat_le low n && nat_le n high

abbrev pub is_one_of : List (List ℕ) → List ℕ → Bool
is_one_of texts v = list_any (bytes_eq v) texts

-- settings

-- what a setting's value may be: a number in a range, or one of some words
pub data Allowed : Type 0 where
  Number : (low high : ℕ) → Allowed
  Word : (texts : List (List ℕ)) → Allowed

abbrev pub is_allowed : Allowed → List ℕ → Bool
is_allowed (Number low high) v = in_range low high (number v)
is_allowed (Word texts) v = is_one_of texts v

-- the settings that there may be, each with what its value may be
abbrev pub Kinds : Type 0
Kinds = List (List ℕ × Allowed)

abbrev pub job_kinds : Kinds
job_kinds =
    (codes "chunk", Word (codes "fixed" ∷ codes "ae" ∷ []))
    ∷ (codes "size", Number 1 65536)
    ∷ (codes "window", Number 1 65535)
    ∷ (codes "max", Number 2 65536)
    ∷ (codes "rewrite", Word (codes "none" ∷ codes "cap" ∷ codes "har" ∷ codes "both" ∷ []))
    ∷ (codes "segment", Number 1 67108864)
    ∷ (codes "cap", Number 1 4096)
    ∷ (codes "threshold", Number 0 100)
    ∷ (codes "limit", Number 0 100)
    ∷ (codes "container", Number 1 4194304)
    ∷ []

abbrev pub set_kind : Kinds
set_kind = (codes "set", Number 0 255) ∷ []

abbrev pub queue_kinds : Kinds
queue_kinds = (codes "queue", Number 1 1024) ∷ (codes "lanes", Number 1 8) ∷ []

abbrev pub workers_kind : Kinds
workers_kind = (codes "workers", Number 1 8) ∷ []

abbrev pub cache_kind : Kinds
cache_kind = (codes "cache", Number 1 64) ∷ []

abbrev pub area_kind : Kinds
area_kind = (codes "area", Number 65536 67108864) ∷ []

abbrev pub sample_kinds : Kinds
sample_kinds = (codes "sample", Number 1 65536) ∷ (codes "prefetch", Number 1 16) ∷ []

abbrev pub version_kind : List ℕ → Kinds
version_kind name = (name, Number 0 4294967295) ∷ []

-- the value of a name in the settings
abbrev pub value_in : Settings → List ℕ → Option (List ℕ)
value_in settings name = option_map (λ p. p.1) (find (λ p. bytes_eq name p.0) settings)

abbrev pub allows : Kinds → List ℕ × List ℕ → Bool
allows kinds setting =
    is_value setting.1 && list_any (λ k. bytes_eq k.0 setting.0 && is_allowed k.1 setting.1) kinds

abbrev pub names_differ : Settings → Bool
names_differ [] = true
names_differ (p ∷ settings) = not (list_any (λ q. bytes_eq p.0 q.0) settings) && names_differ settings

-- each name at most once, each known, and each value allowed
abbrev pub are_allowed : Kinds → Settings → Bool
are_allowed kinds settings = names_differ settings && list_all (allows kinds) settings

abbrev pub number_in : Settings → List ℕ → ℕ → ℕ
number_in settings name default = unwrap_or (option_and_then number (value_in settings name)) default

abbrev pub is_word : Settings → List ℕ → List ℕ → Bool
is_word settings name text = option_map_or (bytes_eq text) (value_in settings name) false

abbrev pub has_value : Settings → List ℕ → Bool
has_value settings name = is_some (value_in settings name)

-- the settings of a backup

abbrev pub cutting_in : Settings → Cutting
cutting_in s =
    if is_word s (codes "chunk") (codes "fixed") then Fixed (number_in s (codes "size") 4096)
    else Ae (number_in s (codes "window") 4096) (number_in s (codes "max") 65536)

abbrev pub rewrite_in : Settings → Rewrite
rewrite_in s =
    if is_word s (codes "rewrite") (codes "none") then Off
    else if is_word s (codes "rewrite") (codes "cap") then Cap
    else if is_word s (codes "rewrite") (codes "both") then Both
    else Har

abbrev pub config_in : Settings → JobConfig
config_in s = record {
  cutting = cutting_in s;
  rewrite = rewrite_in s;
  segment = number_in s (codes "segment") 4194304;
  cap = number_in s (codes "cap") 16;
  threshold = number_in s (codes "threshold") 50;
  limit = number_in s (codes "limit") 5;
  container = number_in s (codes "container") 4194304;
}

-- a container holds the greatest chunk, and the greatest chunk is above the window
abbrev pub agrees : Cutting → ℕ → Bool
agrees (Fixed size) container = nat_le size container
agrees (Ae window max) container = nat_lt window max && nat_le max container

abbrev pub job_agrees : Settings → Bool
job_agrees s = agrees (cutting_in s) (number_in s (codes "container") 4194304)

-- how settings are spelled

-- name=value
abbrev pub split_setting : List ℕ → Option (List ℕ × List ℕ)
split_setting w =
    let i =
    position_or_len (nat_eq 61) w in if nat_lt i (length w) then Some (take i w, drop (i + 1) w) else None

-- a word that begins with two dashes, without them
abbrev pub undashed : List ℕ → Option (List ℕ)
undashed w = if starts_with nat_eq w (codes "--") then Some (drop 2 w) else None

abbrev pub with_setting : Option (List ℕ × List ℕ) → Option Settings → Option Settings
with_setting None rest = None
with_setting (Some p) None = None
with_setting (Some p) (Some settings) = Some (p ∷ settings)

abbrev pub is_joint : List ℕ → Bool
is_joint w = list_any (nat_eq 61) w

-- the words after the command: `--name value` or `--name=value`
abbrev pub settings_of : List (List ℕ) → Option Settings
settings_of [] = Some []
settings_of (w ∷ []) = with_setting (option_and_then split_setting (undashed w)) (Some [])
settings_of (w ∷ v ∷ ws) =
    if is_joint w then with_setting (option_and_then split_setting (undashed w)) (settings_of (v ∷ ws))
    else with_setting (option_map (λ name. (name, v)) (undashed w)) (settings_of ws)

-- the words of a script's line after its fixed ones: `name=value`
abbrev pub line_settings : List (List ℕ) → Option Settings
line_settings [] = Some []
line_settings (w ∷ ws) = with_setting (split_setting w) (line_settings ws)

-- the settings, where they are allowed and the test passes, give a command or a line
abbrev pub checked : {X : Type 0} → Kinds → (Settings → Bool) → (Settings → X) → Settings → Option X
checked kinds passes make s = if are_allowed kinds s && passes s then Some (make s) else None

abbrev pub always : Settings → Bool
always s = true

-- commands

abbrev pub set_in : Settings → ℕ
set_in s = number_in s (codes "set") 0

abbrev pub queue_in : Settings → ℕ
queue_in s = number_in s (codes "queue") 64

abbrev pub lanes_in : Settings → ℕ
lanes_in s = number_in s (codes "lanes") 1

abbrev pub workers_in : Settings → ℕ
workers_in s = number_in s (codes "workers") 2

abbrev pub cache_in : Settings → ℕ
cache_in s = number_in s (codes "cache") 16

-- a number that has no default
abbrev pub number_if_given : Settings → List ℕ → Option ℕ
number_if_given s name = option_and_then number (value_in s name)

-- both numbers, where both are given
abbrev pub both : Option ℕ → Option ℕ → Option (ℕ × ℕ)
both None b = None
both (Some n) None = None
both (Some n) (Some m) = Some (n, m)

abbrev pub sample_in : Settings → Option (ℕ × ℕ)
sample_in s = both (number_if_given s (codes "sample")) (number_if_given s (codes "prefetch"))

-- the sampled index is asked for by both of its settings or by none
abbrev pub sample_agrees : Settings → Bool
sample_agrees s =
    if has_value s (codes "sample") then has_value s (codes "prefetch")
    else not (has_value s (codes "prefetch"))

-- an area takes the place of the cache
abbrev pub area_agrees : Settings → Bool
area_agrees s = not (has_value s (codes "area") && has_value s (codes "cache"))

abbrev pub backup_command : Settings → Command
backup_command s = command.Backup (set_in s) (config_in s) (queue_in s) (lanes_in s) (sample_in s)

abbrev pub restore_command : Settings → Command
restore_command s =
    command.Restore (set_in s) (number_in s (codes "version") 0) (cache_in s)
    (number_if_given s (codes "area"))

abbrev pub delete_command : Settings → Command
delete_command s = command.Delete (set_in s) (number_in s (codes "through") 0)

abbrev pub show_command : Settings → Command
show_command s = command.Show (set_in s) (number_in s (codes "version") 0)

abbrev pub batch_command : Settings → Command
batch_command s = command.Batch (queue_in s) (lanes_in s) (workers_in s)

abbrev pub fill_command : Settings → Command
fill_command s =
    command.Fill (number_in s (codes "seed") 0) (number_in s (codes "versions") 1) (queue_in s) (lanes_in s)
    (workers_in s)

abbrev pub scrub_command : Settings → Command
scrub_command s = command.Scrub (workers_in s)

-- the command with its settings
abbrev pub command_with : List ℕ → Settings → Option Command
command_with name s =
    if bytes_eq name (codes "backup")
    then checked (set_kind ++ job_kinds ++ queue_kinds ++ sample_kinds)
    (λ s. job_agrees s && sample_agrees s) backup_command s
    else if bytes_eq name (codes "restore")
    then checked (set_kind ++ version_kind (codes "version") ++ cache_kind ++ area_kind)
    (λ s. has_value s (codes "version") && area_agrees s) restore_command s
    else if bytes_eq name (codes "delete")
    then checked (set_kind ++ version_kind (codes "through")) (λ s. has_value s (codes "through"))
    delete_command s
    else if bytes_eq name (codes "show")
    then checked (set_kind ++ version_kind (codes "version")) (λ s. has_value s (codes "version"))
    show_command s
    else if bytes_eq name (codes "batch") then checked (queue_kinds ++ workers_kind) always batch_command s
    else if bytes_eq name (codes "fill") then
    checked
    ((codes "seed", Number 0 18446744073709551615) ∷ (codes "versions", Number 1 64) ∷ queue_kinds
    ++ workers_kind)
    (λ s. has_value s (codes "seed") && has_value s (codes "versions")) fill_command s
    else if bytes_eq name (codes "migrate") then checked [] always (λ s. command.Migrate) s
    else if bytes_eq name (codes "scrub") then checked workers_kind always scrub_command s
    else None

-- the command that the words are, if they are one
abbrev pub command_of : List (List ℕ) → Option Command
command_of [] = None
command_of (name ∷ words) = option_and_then (command_with name) (settings_of words)

-- the set and version that the words of a replica name
abbrev pub replica_with : Settings → Option (ℕ × ℕ)
replica_with s =
    checked (set_kind ++ version_kind (codes "version")) (λ s. has_value s (codes "version"))
    (λ s. (set_in s, number_in s (codes "version") 0)) s

abbrev pub replica_of : List (List ℕ) → Option (ℕ × ℕ)
replica_of words = option_and_then replica_with (settings_of words)

-- scripts

-- the parts of a text between the bytes c
abbrev pub onto_first : ℕ → List (List ℕ) → List (List ℕ)
onto_first b [] = (b ∷ []) ∷ []
onto_first b (part ∷ parts) = (b ∷ part) ∷ parts

abbrev pub split_at_byte : ℕ → List ℕ → List (List ℕ)
split_at_byte c [] = [] ∷ []
split_at_byte c (b ∷ bs) = if b == c then [] ∷ split_at_byte c bs else onto_first b (split_at_byte c bs)

-- the parts, without an empty one at the end
abbrev pub without_empty_last : List (List ℕ) → List (List ℕ)
without_empty_last [] = []
without_empty_last ([] ∷ []) = []
without_empty_last ((b ∷ bs) ∷ []) = (b ∷ bs) ∷ []
without_empty_last (p ∷ q ∷ parts) = p ∷ without_empty_last (q ∷ parts)

-- the lines of a script; the last line feed may be missing
abbrev pub lines_of : List ℕ → List (List ℕ)
lines_of text = without_empty_last (split_at_byte 10 text)

abbrev pub is_letter_or_digit : ℕ → Bool
is_letter_or_digit b = is_ascii_digit b || is_ascii_lowercase b || is_ascii_uppercase b

abbrev pub is_name_byte : ℕ → Bool
is_name_byte b = is_letter_or_digit b || (b == 46) || (b == 95) || (b == 45)

abbrev pub begins_well : List ℕ → Bool
begins_well [] = false
begins_well (b ∷ bs) = not (b == 46) && not (b == 45)

-- the name of a place: 1 to 64 letters, digits, dots, dashes and underscores, the first neither a
-- dot nor a dash
abbrev pub is_name : List ℕ → Bool
is_name name = begins_well name && nat_le (length name) 64 && list_all is_name_byte name

abbrev pub backup_line : List ℕ → List (List ℕ) → Option Line
backup_line name words =
    if is_name name
    then option_and_then (checked (set_kind ++ job_kinds) job_agrees
    (λ s. line.Backup (set_in s) name (config_in s)))
    (line_settings words)
    else None

abbrev pub restore_line : List ℕ → List ℕ → List (List ℕ) → Option Line
restore_line version name words =
    if is_name name && is_value version && is_allowed (Number 0 4294967295) version
    then option_and_then (checked (set_kind ++ cache_kind) always
    (λ s. line.Restore (set_in s) (value_of_digits version) name (cache_in s)))
    (line_settings words)
    else None

abbrev pub delete_line : List ℕ → List (List ℕ) → Option Line
delete_line through words =
    if is_value through && is_allowed (Number 0 4294967295) through
    then option_and_then (checked set_kind always (λ s. line.Delete (set_in s) (value_of_digits through)))
    (line_settings words)
    else None

-- the line that the words are, if they are one
abbrev pub line_with : List (List ℕ) → Option Line
line_with [] = None
line_with (w ∷ []) = None
line_with (w ∷ a ∷ []) =
    if bytes_eq w (codes "backup") then backup_line a []
    else if bytes_eq w (codes "delete") then delete_line a []
    else None
line_with (w ∷ a ∷ b ∷ words) =
    if bytes_eq w (codes "backup") then backup_line a (b ∷ words)
    else if bytes_eq w (codes "delete") then delete_line a (b ∷ words)
    else if bytes_eq w (codes "restore") then restore_line a b words
    else None

abbrev pub line_of : List ℕ → Option Line
line_of text = line_with (split_at_byte 32 text)

abbrev pub sources_of : Line → List (List ℕ)
sources_of (line.Backup s name config) = name ∷ []
sources_of (line.Restore s v name cache) = []
sources_of (line.Delete s n) = []

abbrev pub outputs_of : Line → List (List ℕ)
outputs_of (line.Backup s name config) = []
outputs_of (line.Restore s v name cache) = name ∷ []
outputs_of (line.Delete s n) = []

abbrev pub are_apart : List (List ℕ) → List (List ℕ) → Bool
are_apart names others = not (list_any (is_one_of others) names)

-- whether a line may follow lines with these sources and outputs: no output is named twice, and
-- none is a source
abbrev pub may_follow : List (List ℕ) → List (List ℕ) → Line → Bool
may_follow sources outputs l =
    are_apart (outputs_of l) outputs && are_apart (outputs_of l) sources && are_apart (sources_of l) outputs

abbrev pub only_after : List (List ℕ) → List (List ℕ) → Line → Option Line
only_after sources outputs l = if may_follow sources outputs l then Some l else None

-- a line in front of what follows it
abbrev pub with_line : Line → Result (List Line) ℕ → Result (List Line) ℕ
with_line l (Ok lines) = Ok (l ∷ lines)
with_line l (Err n) = Err n

-- the script that the lines from number n on are, or the number of the first bad one
abbrev pub script_from : ℕ → List (List ℕ) → List (List ℕ) → List (List ℕ) → Result (List Line) ℕ
script_from n sources outputs [] = Ok []
script_from n sources outputs (text ∷ texts) =
    option_map_or
    (λ l. with_line l (script_from (n + 1) (sources ++ sources_of l) (outputs ++ outputs_of l) texts))
    (option_and_then (only_after sources outputs) (line_of text)) (Err n)

abbrev pub script_of : List ℕ → Result (List Line) ℕ
script_of text = script_from 1 [] [] (lines_of text)
