-- What is printed of a container that is not good.
use Rattle.std.specs.Prelude.{ℕ, List, ◌++◌, codes, decimal}
use Rattle.script_words.specs.declared.lines.Damage.{Damage}
use Rattle.script_words.specs.declared.lines.Damage.TheVariants.{Absent, Length, Sum, Chunk}

abbrev pub damage_word : Damage → List ℕ
damage_word Absent = codes "absent"
damage_word Length = codes "length"
damage_word Sum = codes "sum"
damage_word (Chunk row) = codes "chunk " ++ decimal row
