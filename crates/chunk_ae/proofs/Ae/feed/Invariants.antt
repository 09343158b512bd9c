use Rattle.std.proofs.Common.{map, length}
use Rattle.vault_types.proofs.FeedLemmas.{IsOnWay}
use Rattle.chunk_ae.proofs.Ae.feed.Given as goal

abbrev pub invariant-loop-chunk : goal.invariant-loop-chunk
invariant-loop-chunk l = IsOnWay l.fn.self l.self (map (λ c. c.items) l.fn.out.items) (map (λ c. c.items) l.out.items) l.fn.piece l.rest

abbrev pub decreases-loop-chunk : goal.decreases-loop-chunk
decreases-loop-chunk l = length l.rest
