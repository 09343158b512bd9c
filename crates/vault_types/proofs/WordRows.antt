-- Worked rows on words, scripts and texts.
use Rattle.std.proofs.Common.{◌≡◌, [], ◌∷◌, ◌++◌, refl, Some, None, Ok, Err}
use Rattle.std.specs.Prelude.{codes}
use Rattle.std.specs.Fmt.{digits}
use Rattle.std.specs.Option.{option_map_or}
use Rattle.sha1.specs.Sha1.{sha1, hash_after, compress, schedule, rounds, first_words, digest_bytes}
use Rattle.hex.specs.Hex.{encode_with}
use Rattle.vault_types.specs.declared.Cutting.TheVariants.{Fixed}
use Rattle.vault_types.specs.declared.Rewrite.TheVariants.{Har}
use Rattle.vault_types.specs.declared.Command.TheVariants as command
use Rattle.vault_types.specs.declared.Line.TheVariants as line
use Rattle.vault_types.specs.declared.Answer.TheVariants.{Stored, Removed}
use Rattle.vault_types.specs.State.{State, empty_state, recipe_of, version_of}
use Rattle.vault_types.specs.Backup.{backup}
use Rattle.vault_types.specs.Words.{command_of, script_of, replica_of}
use Rattle.vault_types.specs.Texts.{answer_text, recipe_text}
use Rattle.vault_types.specs.Generator.{bytes_from}

restore_row : command_of (codes "restore" ∷ codes "--version=3" ∷ []) ≡ Some (command.Restore 0 3 16 None)
unfolding digits
restore_row = refl

restore_two : command_of (codes "restore" ∷ codes "--version" ∷ codes "3" ∷ []) ≡ Some (command.Restore 0 3 16 None)
unfolding digits
restore_two = refl

size_row : command_of (codes "backup" ∷ codes "--chunk" ∷ codes "fixed" ∷ codes "--size" ∷ codes "4" ∷ [])
    ≡ Some (command.Backup 0 (record { cutting = Fixed 4; rewrite = Har; segment = 4194304; cap = 16; threshold = 50; limit = 5; container = 4194304 }) 64 1 None)
unfolding digits
size_row = refl

zero_size : command_of (codes "backup" ∷ codes "--size" ∷ codes "0" ∷ []) ≡ None
unfolding digits
zero_size = refl

no_value : command_of (codes "backup" ∷ codes "--size" ∷ []) ≡ None
unfolding digits
no_value = refl

twice : command_of (codes "backup" ∷ codes "--size" ∷ codes "4" ∷ codes "--size" ∷ codes "4" ∷ []) ≡ None
unfolding digits
twice = refl

colour : command_of (codes "backup" ∷ codes "--colour" ∷ codes "1" ∷ []) ≡ None
unfolding digits
colour = refl

no_word : command_of [] ≡ None
unfolding digits
no_word = refl

low_max : command_of (codes "backup" ∷ codes "--max" ∷ codes "4096" ∷ []) ≡ None
unfolding digits
low_max = refl

scrub_row : command_of (codes "scrub" ∷ []) ≡ Some (command.Scrub 2)
unfolding digits
scrub_row = refl

area_row : command_of (codes "restore" ∷ codes "--version=1" ∷ codes "--area=65536" ∷ []) ≡ Some (command.Restore 0 1 16 (Some 65536))
unfolding digits
area_row = refl

low_area : command_of (codes "restore" ∷ codes "--version=1" ∷ codes "--area=65535" ∷ []) ≡ None
unfolding digits
low_area = refl

area_with_cache : command_of (codes "restore" ∷ codes "--version=1" ∷ codes "--area=65536" ∷ codes "--cache=2" ∷ []) ≡ None
unfolding digits
area_with_cache = refl

sample_alone : command_of (codes "backup" ∷ codes "--sample=1" ∷ []) ≡ None
unfolding digits
sample_alone = refl

sample_row : command_of (codes "backup" ∷ codes "--chunk=fixed" ∷ codes "--size=4" ∷ codes "--sample=1" ∷ codes "--prefetch=2" ∷ [])
    ≡ Some (command.Backup 0 (record { cutting = Fixed 4; rewrite = Har; segment = 4194304; cap = 16; threshold = 50; limit = 5; container = 4194304 }) 64 1 (Some (1, 2)))
unfolding digits
sample_row = refl

replica_row : replica_of (codes "--version" ∷ codes "2" ∷ codes "--set=3" ∷ []) ≡ Some (3, 2)
unfolding digits
replica_row = refl

area_in_script : script_of (codes "restore 1 x area=65536") ≡ Err 1
unfolding digits
area_in_script = refl

bad_line : script_of (codes "delete 1" ++ 10 ∷ codes "delete 01") ≡ Err 2
unfolding digits
bad_line = refl

two_outputs : script_of (codes "restore 1 x" ++ 10 ∷ codes "restore 1 x" ++ 10 ∷ []) ≡ Err 2
unfolding digits
two_outputs = refl

output_as_source : script_of (codes "restore 1 x" ++ 10 ∷ codes "backup x" ++ 10 ∷ []) ≡ Err 2
unfolding digits
output_as_source = refl

empty_script : script_of [] ≡ Ok []
unfolding digits
empty_script = refl

empty_line : script_of (10 ∷ []) ≡ Err 1
unfolding digits
empty_line = refl

good_script : script_of (codes "restore 1 x cache=3 set=2" ++ 10 ∷ codes "delete 4 set=5") ≡ Ok (line.Restore 2 1 (codes "x") 3 ∷ line.Delete 5 4 ∷ [])
unfolding digits
good_script = refl

stored_text : answer_text (Stored 0 1 3 10 1 6 0) ≡ codes "backup 1: 3 chunks, 10 bytes, 1 new containers, 6 bytes written, 0 sparse" ++ 10 ∷ []
unfolding digits
stored_text = refl

set_text : answer_text (Removed 3 1 2 1) ≡ codes "delete 3/1: floor 2, 1 containers reclaimed" ++ 10 ∷ []
unfolding digits
set_text = refl

shown : State
shown = backup (empty_state 1) 0 (codes "abc") (record { cutting = Fixed 4096; rewrite = Har; segment = 4194304; cap = 16; threshold = 50; limit = 5; container = 4194304 })

shown_text : option_map_or (λ k. recipe_text (recipe_of 0 1 k)) (version_of shown 0 1) []
    ≡ codes "version 1 length 3 next 2 chunks 1 sparse 0" ++ 10 ∷ codes "a9993e364706816aba3e25717850c26c9cd0d89d 1 3" ++ 10 ∷ []
unfolding shown encode_with sha1 hash_after compress schedule rounds first_words digest_bytes digits
shown_text = refl

first_byte : bytes_from 0 1 ≡ 20 ∷ []
unfolding digits
first_byte = refl
