use Rattle.std.proofs.Common.{ap, sym, refl, map, []}
use Rattle.vault_types.specs.Names.{named_chunk}
use Rattle.backup_pass.specs.Placing.{only_segment}
use Rattle.backup_pass.proofs.placer.Placer.new.Goals as goal

pub returns-clause-placed : goal.returns-clause-placed
returns-clause-placed c = record {
  pushed = c.new.ensures;
  done = [];
  split = ap (λ items. only_segment (map named_chunk items)) (sym c.new-2.ensures.items);
  some = λ e. refl;
  decided = c.new-3.ensures.nothing;
  filled = c.new-4.ensures.filled;
  capacity = c.new-4.ensures.capacity;
}
