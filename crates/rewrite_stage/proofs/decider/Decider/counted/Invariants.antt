use Rattle.std.proofs.Common.{◌≡◌, List, map, take, vec_len}
use Rattle.vault_types.specs.declared.Fp.{Fp}
use Rattle.vault_types.specs.declared.How.{How}
use Rattle.vault_types.specs.Decide.{Rules, counted_id}
use Rattle.rewrite_stage.specs.Deciding.{HasDecided, looked_with}
use Rattle.rewrite_stage.proofs.decider.Decider.counted.Given as goal

abbrev pub invariant-loop-chunk : goal.invariant-loop-chunk
invariant-loop-chunk l = record {
  len : vec_len l.counted ≡ l.chunk-index;
  counts : (r : Rules) (places : List (Fp × How)) → HasDecided l.self r places → l.counted.items ≡ map (counted_id r places) (looked_with (take l.chunk-index l.chunks) l.found);
}
