use Rattle.std.proofs.Common.{◌≡◌, ◌-◌, false, []}
use Rattle.std.specs.Arc.{arc_value}
use Rattle.stop_word.specs.Holders.{fresh}
use Rattle.stop_word.specs.Word.{seen_as}
use Rattle.stop_word.proofs.holders.Given as goal

abbrev pub invariant-loop-number : goal.invariant-loop-number
invariant-loop-number l = let shared = (arc_value l.board).shared in record {
  table : l.seat.table_id ≡ shared.table_id;
  words : shared.table_id.words ≡ 1;
  key : shared.key ≡ l.n;
  seat : l.seat.me ≡ (seen_as (l.n - l.number) false false, []);
  made : l.all.items ≡ fresh (record { word = shared.table_id; count = l.n }) l.number;
}
