use Rattle.std.proofs.Common.{◌≡◌, ◌++◌, take}
use Rattle.std.specs.List.{flat_map}
use Rattle.vault_types.specs.Texts as spec
use Rattle.script_words.proofs.show.add_sparse.Given as goal

abbrev pub invariant-loop-id : goal.invariant-loop-id
invariant-loop-id l = l.out.items ≡ l.fn.out.items ++ flat_map spec.sparse_text (take l.id-index l.ids)
