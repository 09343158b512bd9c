-- Under which file name a blob lies in the folder.
use Rattle.std.specs.Prelude.{ℕ, zero, suc, ◌+◌, ◌<◌, ◌^◌, ◌/◌, ◌%◌, List, [], ◌∷◌, ◌++◌, codes, ◌==◌, nat_lt, if◌then◌else◌}
use Rattle.vault_types.specs.declared.Kind.{Kind}
use Rattle.vault_types.specs.declared.Kind.TheVariants.{Table, Payload, Recipe, Floor}
use Rattle.vault_types.specs.declared.Name.{Name}

-- a hexadecimal digit: 0 to 9, and a to f in lower case
abbrev pub digit : ℕ → ℕ
digit d = if nat_lt d 10 then 48 + d else 87 + d

-- the last digits of a number, so many of them
abbrev pub hex : ℕ → ℕ → List ℕ
hex zero n = []
hex (suc count) n = hex count (n / 16) ++ digit (n % 16) ∷ []

-- the set and the version of a recipe. Set 0 is left out
abbrev pub recipe_tail : ℕ → ℕ → List ℕ
recipe_tail s v = if s == 0 then hex 8 v else hex 2 s ++ codes "-" ++ hex 8 v

-- the set of a floor. Set 0 is left out
abbrev pub floor_tail : ℕ → List ℕ
floor_tail s = if s == 0 then [] else codes "-" ++ hex 2 s

-- the number of a recipe has its set above the 32 bits of its version
abbrev pub text_of : Kind → ℕ → List ℕ
text_of Table n = codes "table-" ++ hex 16 n
text_of Payload n = codes "payload-" ++ hex 16 n
text_of Recipe n = codes "recipe-" ++ recipe_tail (n / 2 ^ 32) (n % 2 ^ 32)
text_of Floor n = codes "floor" ++ floor_tail n

-- the file name of a blob
abbrev pub file_name : Name → List ℕ
file_name name = text_of name.kind name.number

abbrev pub IsInReach : Kind → ℕ → Type 0
IsInReach Table n = n < 2 ^ 64
IsInReach Payload n = n < 2 ^ 64
IsInReach Recipe n = n < 2 ^ 40
IsInReach Floor n = n < 2 ^ 8

-- the names that have a file name: sets are 0 to 255
abbrev pub HasFile : Name → Type 0
HasFile name = IsInReach name.kind name.number
