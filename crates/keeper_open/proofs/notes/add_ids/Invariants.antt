use Rattle.std.proofs.Common.{◌≡◌, ◌++◌, ℕ, List, take}
use Rattle.vault_types.specs.Lists.{set_of}
use Rattle.keeper_open.proofs.notes.add_ids.Given as goal

abbrev pub invariant-loop-id : goal.invariant-loop-id
invariant-loop-id l = (before : List ℕ) → l.initial.all.keys ≡ set_of before → l.all.keys ≡ set_of (before ++ take l.id-index l.ids)
