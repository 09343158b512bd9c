use Rattle.std.proofs.Common.{◌≡◌, ◌++◌, take, drop}
use Rattle.belady_cache.specs.Present.{is_present, replaced}
use Rattle.belady_cache.proofs.present.replace.Given as goal

abbrev pub invariant-loop-held : goal.invariant-loop-held
invariant-loop-held l = record {
  front : l.present ≡ replaced l.id l.initial.new (take l.held-index l.initial.present) ++ drop l.held-index l.initial.present;
  found : l.found ≡ is_present l.id (take l.held-index l.initial.present);
}
