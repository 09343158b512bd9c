use Rattle.std.proofs.Common.{◌∙◌, ap, sym, arith}
use Rattle.std.specs.Prelude.{option_to_list}
use Rattle.backup_pass.proofs.Feeding.{placed_some, placed_none}
use Rattle.std.proofs.lemmas.List.{length_push}
use Rattle.backup_pass.proofs.pass.place_all.Goals as goal

pub loop-bytes-preserved-in-Continue-branch-2 : goal.loop-bytes-preserved-in-Continue-branch-2
loop-bytes-preserved-in-Continue-branch-2 c = record {
  placed = λ r first taken gone h.
      placed_some _ r first taken c.loop-bytes.yielded c.in-Some.bytes c.in-Some-chunk_of.chunk _ (ap option_to_list (sym c.in-Some-chunk_of.is) ∙ c.chunk_of.ensures)
      (c.in_ok-take-in-Some-chunk_of.ensures.placed r first _ gone (c.loop-bytes.invariant.placed r first taken gone h));
  index = c.in_ok-take-in-Some-chunk_of.ensures.index ∙ c.loop-bytes.invariant.index;
  count = let n = length_push c.loop-bytes.yielded c.in-Some.bytes in omega (arith, c.in_ok-count_one.ensures.ok.0, c.loop-bytes.invariant.count, n);
  within = λ low. c.in_ok-count_one.ensures.ok.1;
}

pub loop-bytes-preserved : goal.loop-bytes-preserved
loop-bytes-preserved c = record {
  placed = λ r first taken gone h.
      placed_none _ r first taken c.loop-bytes.yielded c.in-Some.bytes _ (ap option_to_list (sym c.in-None-chunk_of.is) ∙ c.chunk_of.ensures)
      (c.loop-bytes.invariant.placed r first taken gone h);
  index = c.loop-bytes.invariant.index;
  count = let n = length_push c.loop-bytes.yielded c.in-Some.bytes in omega (arith, c.in_ok-count_one.ensures.ok.0, c.loop-bytes.invariant.count, n);
  within = λ low. c.in_ok-count_one.ensures.ok.1;
}
