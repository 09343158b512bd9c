-- The places around a backup.
use Rattle.std.specs.Prelude.{ℕ, List}
use Rattle.vault_traits.specs.Told.{PlacesTold, SourceTold}
use Rattle.store_model.specs.Calls.{AroundSource}
use Rattle.script_runner.specs.Sources.{HasOpenedSource, HasClosedSource}

pub around : (p m q : PlacesTold) (name : List ℕ) (r r' : SourceTold) → HasOpenedSource p m name r → HasClosedSource m q r' → AroundSource p m q name r r'
around p m q name r r' opened closed = record {
  reader = opened.reader;
  opened_files = opened.files;
  later = opened.later;
  reads = opened.reads;
  writes = opened.writes;
  closed_files = closed.files;
  same = closed.same;
  added_reads = closed.reads;
  same_writes = closed.writes;
}
