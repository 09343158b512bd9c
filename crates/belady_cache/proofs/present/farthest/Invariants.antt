use Rattle.std.proofs.Common.{◌≡◌, take}
use Rattle.std.specs.List.{best_of}
use Rattle.belady_cache.specs.Present.{is_farther}
use Rattle.belady_cache.proofs.present.farthest.Given as goal

abbrev pub invariant-loop-held : goal.invariant-loop-held
invariant-loop-held l = l.best ≡ best_of is_farther l.initial.best (take l.held-index l.rest)
