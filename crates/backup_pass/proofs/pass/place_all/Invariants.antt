use Rattle.std.proofs.Common.{◌≡◌, ◌≤◌, ◌+◌, List, ℕ, map, ◌++◌, length}
use Rattle.std.specs.Prelude.{filter}
use Rattle.vault_types.specs.Names.{NamedChunk, named_chunk}
use Rattle.vault_types.specs.Tables.{Container}
use Rattle.vault_types.specs.Decide.{Rules}
use Rattle.vault_types.specs.Stages.{is_chunk}
use Rattle.backup_pass.specs.Placing.{HasPlaced, index_of}
use Rattle.backup_pass.specs.Passing.{bytes_of_all}
use Rattle.backup_pass.proofs.pass.place_all.Given as goal

abbrev pub invariant-loop-bytes : goal.invariant-loop-bytes
invariant-loop-bytes l =
    record {
      placed : (r : Rules) (first : ℕ) (taken : List NamedChunk) (gone : List Container)
          → HasPlaced l.fn.placer r first taken (gone ++ l.fn.out.items)
          → HasPlaced l.placer r first (taken ++ map named_chunk (filter is_chunk (bytes_of_all l.yielded))) (gone ++ l.out.items);
      index : index_of l.placer ≡ index_of l.fn.placer;
      count : l.count ≡ l.fn.count + length l.yielded;
      within : l.fn.count ≤ l.limit → l.count ≤ l.limit;
    }
