use Rattle.std.proofs.Common.{rules, ◌≡◌, [], None, refl, arith}
use Rattle.std.proofs.lemmas.Grind.{common_steps}
use Rattle.chunk_stage.proofs.stage.ChunkStage.new.Goals as goal

pub invariant_of-result : goal.invariant_of-result
invariant_of-result c = record {
  reads = [];
  took = search rules;
  chunked = record {
    cuttable = search rules;
    parts = [];
    l = None;
    dealt = search rules;
    chunking = first_of (search rules, grind (arith, common_steps));
    goes_on = first_of (search rules, grind (arith, common_steps));
    own = None;
    own_is = refl;
    raised_is = search rules;
  };
}
