-- How far a version was read.
use Rattle.std.specs.Prelude.{ℕ, zero, suc, ◌+◌, ◌-◌, ◌*◌, ◌%◌, ◌^◌, List, ◌++◌, flat_map}
use Rattle.std.specs.List.{range_with_len}
use Rattle.vault_types.specs.Generator.{next_number, bytes_from, generation, block}
use Rattle.workload.specs.declared.blocks.Blocks.{Blocks}

-- the number behind n bytes
abbrev pub number_after : ℕ → ℕ → ℕ
number_after x zero = x
number_after x (suc n) = number_after (next_number x) n

-- the number before the first byte of block j of version v
abbrev pub first_number : ℕ → ℕ → ℕ → ℕ
first_number seed j v = (seed + 64 * generation j v + j) % 2 ^ 64

-- so many bytes behind a number, and the blocks from j on
unfoldable pub bytes_left : ℕ → ℕ → ℕ → ℕ → ℕ → List ℕ
bytes_left seed v j left x =
    bytes_from x left ++ flat_map (λ i. block seed (generation i v) i) (range_with_len j (64 - j))

-- what is left of the block that was begun, and the blocks behind it
abbrev pub blocks_left : Blocks → List ℕ
blocks_left b = bytes_left b.seed b.version b.next b.left b.number
