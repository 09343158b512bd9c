use Rattle.std.proofs.Common.{◌≡◌, map, take}
use Rattle.vault_types.specs.Names.{fp}
use Rattle.fp_index.specs.Index.{found_in}
use Rattle.rewrite_stage.proofs.decider.look_up.Given as goal

abbrev pub invariant-loop-chunk : goal.invariant-loop-chunk
invariant-loop-chunk l = l.found.items ≡ map (λ c. found_in l.index (fp c)) (take l.chunk-index l.chunks)
