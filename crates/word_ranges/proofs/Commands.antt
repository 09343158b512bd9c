-- The settings of a command are in their ranges.
use Rattle.std.proofs.Common.{◌≡◌, ◌≤◌, ℕ, Bool, true, false, cond, ◌&&◌, ◌++◌, List, [], ◌∷◌, Option, Some, None, codes, refl, subst, arith}
use Rattle.std.specs.List.{list_all}
use Rattle.std.specs.Str.{bytes_eq}
use Rattle.std.specs.Option.{option_and_then}
use Rattle.std.proofs.lemmas.Bool.{and_parts}
use Rattle.vault_types.specs.declared.Command.{Command}
use Rattle.vault_types.specs.declared.Command.TheVariants as command
use Rattle.vault_types.specs.Words.{Number, Kinds, Settings, queue_in, lanes_in, workers_in, number_in, allows, are_allowed, names_differ, set_kind, job_kinds, queue_kinds, sample_kinds, version_kind, cache_kind, area_kind, workers_kind, job_agrees, sample_agrees, always, has_value, area_agrees, backup_command, restore_command, delete_command, show_command, batch_command, fill_command, scrub_command, command_with, command_of, settings_of}
use Rattle.store_model.specs.Ranges.{IsCommandInRange, IsQueue, IsThreadCount, AreThreadSettings}
use Rattle.word_ranges.proofs.Ranges.{keeps, settings_within, job_in_range}

-- what is there lies in its range
abbrev IsFine : Option Command → Command → Type 0
IsFine o c = o ≡ Some c → IsCommandInRange c

none_fine : (c : Command) → IsFine None c
none_fine c e = absurd (let clash : ◌≡◌ {A = Option Command} None (Some c) = e in cc)

some_fine : (b c : Command) → IsCommandInRange b → IsFine (Some b) c
some_fine b c h e = let same : b ≡ c = cc in subst IsCommandInRange same h

either : (t : Bool) (x y : Option Command) (c : Command) → IsFine x c → IsFine y c → IsFine (cond t x y) c
either true x y c one two = one
either false x y c one two = two

-- a command whose settings are allowed and pass
checked_fine : (kinds : Kinds) (passes : Settings → Bool) (make : Settings → Command) (s : Settings) (c : Command) (t : Bool) → (are_allowed kinds s && passes s) ≡ t → (list_all (allows kinds) s ≡ true → passes s ≡ true → IsCommandInRange (make s))
    → IsFine (cond t (Some (make s)) None) c
checked_fine kinds passes make s c false is h = none_fine c
checked_fine kinds passes make s c true is h =
    let both = and_parts (are_allowed kinds s) (passes s) is in
    some_fine (make s) c (h (and_parts (names_differ s) (list_all (allows kinds) s) both.0).1 both.1)

abbrev backup_kinds : Kinds
backup_kinds = set_kind ++ job_kinds ++ queue_kinds ++ sample_kinds

abbrev restore_kinds : Kinds
restore_kinds = set_kind ++ version_kind (codes "version") ++ cache_kind ++ area_kind

abbrev fill_kinds : Kinds
fill_kinds = (codes "seed", Number 0 18446744073709551615) ∷ (codes "versions", Number 1 64) ∷ queue_kinds ++ workers_kind

-- the settings of threads that these kinds keep in their ranges
queue_within : (kinds : Kinds) (s : Settings) → keeps (codes "queue") 1 1024 kinds ≡ true → list_all (allows kinds) s ≡ true → IsQueue (queue_in s)
queue_within kinds s h each = let p = settings_within kinds s (codes "queue") 1 1024 64 h (omega arith, omega arith) each in record { low = p.0; high = p.1 }

count_within : (kinds : Kinds) (s : Settings) (name : List ℕ) (d : ℕ) → keeps name 1 8 kinds ≡ true → (1 ≤ d) × (d ≤ 8) → list_all (allows kinds) s ≡ true → IsThreadCount (number_in s name d)
count_within kinds s name d h fits each = let p = settings_within kinds s name 1 8 d h fits each in record { low = p.0; high = p.1 }

threads_within : (kinds : Kinds) (s : Settings) → keeps (codes "queue") 1 1024 kinds ≡ true → keeps (codes "lanes") 1 8 kinds ≡ true → keeps (codes "workers") 1 8 kinds ≡ true → list_all (allows kinds) s ≡ true
    → AreThreadSettings (queue_in s) (lanes_in s) (workers_in s)
threads_within kinds s q l w each = record {
  queue = queue_within kinds s q each;
  lanes = count_within kinds s (codes "lanes") 1 l (omega arith, omega arith) each;
  workers = count_within kinds s (codes "workers") 2 w (omega arith, omega arith) each;
}

abbrev batch_kinds : Kinds
batch_kinds = queue_kinds ++ workers_kind

of_command : (name : List ℕ) (s : Settings) (c : Command) → IsFine (command_with name s) c
of_command name s c =
    either (bytes_eq name (codes "backup")) _ _ c
    (checked_fine backup_kinds (λ s. job_agrees s && sample_agrees s) backup_command s c _ refl (λ each passes. (
      job_in_range backup_kinds (record { size = refl; container = refl; window = refl; max = refl }) s each (and_parts (job_agrees s) (sample_agrees s) passes).0,
      record { queue = queue_within backup_kinds s refl each; lanes = count_within backup_kinds s (codes "lanes") 1 refl (omega arith, omega arith) each; workers = record { low = omega arith; high = omega arith } },
    )))
    (either (bytes_eq name (codes "restore")) _ _ c
    (checked_fine restore_kinds (λ s. has_value s (codes "version") && area_agrees s) restore_command s c _ refl (λ each passes. settings_within restore_kinds s (codes "cache") 1 64 16 refl (omega arith, omega arith) each))
    (either (bytes_eq name (codes "delete")) _ _ c (checked_fine (set_kind ++ version_kind (codes "through")) (λ s. has_value s (codes "through")) delete_command s c _ refl (λ each passes. tt))
    (either (bytes_eq name (codes "show")) _ _ c (checked_fine (set_kind ++ version_kind (codes "version")) (λ s. has_value s (codes "version")) show_command s c _ refl (λ each passes. tt))
    (either (bytes_eq name (codes "batch")) _ _ c (checked_fine batch_kinds always batch_command s c _ refl (λ each passes. threads_within batch_kinds s refl refl refl each))
    (either (bytes_eq name (codes "fill")) _ _ c
    (checked_fine fill_kinds (λ s. has_value s (codes "seed") && has_value s (codes "versions")) fill_command s c _ refl (λ each passes. let p = settings_within fill_kinds s (codes "versions") 1 64 1 refl (omega arith, omega arith) each in (p.0, p.1, threads_within fill_kinds s refl refl refl each)))
    (either (bytes_eq name (codes "migrate")) _ _ c (checked_fine [] always (λ s. command.Migrate) s c _ refl (λ each passes. tt))
    (either (bytes_eq name (codes "scrub")) _ _ c (checked_fine workers_kind always scrub_command s c _ refl (λ each passes. tt))
    (none_fine c))))))))

of_settings : (name : List ℕ) (o : Option Settings) (c : Command) → IsFine (option_and_then (command_with name) o) c
of_settings name None c = none_fine c
of_settings name (Some s) c = of_command name s c

pub of_words : (words : List (List ℕ)) (c : Command) → command_of words ≡ Some c → IsCommandInRange c
of_words [] c = none_fine c
of_words (name ∷ words) c = of_settings name (settings_of words) c
