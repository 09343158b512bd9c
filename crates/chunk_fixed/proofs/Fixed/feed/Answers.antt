use Rattle.std.proofs.Common.{map, arith, length-drop}
use Rattle.std.proofs.lemmas.List.{map-append}
use Rattle.vault_types.specs.Feeds.{MakesChunk}
use Rattle.vault_types.proofs.FeedLemmas.{IsFed, way-begins, way-on, way-over, slice_behind}
use Rattle.chunk_fixed.proofs.Fixed.feed.Goals as goal

pub loop-chunk-init : goal.loop-chunk-init
loop-chunk-init c = way-begins c.args.self.now (map (λ v. v.items) c.args.out.now.items) c.args.piece.now

step_of : (c : goal.After-rest-1) → MakesChunk c.loop-chunk.self c.fill.new.self c.loop-chunk.rest.now c.in-Whole.chunk.items c.in-Whole.taken
step_of c = rw c.in-Whole.is at c.in_ok-chunk.ensures

pub loop-chunk-smaller : goal.loop-chunk-smaller
loop-chunk-smaller c =
    let whole = step_of c in
    rw (slice_behind c.in-Whole.taken c.loop-chunk.rest.now) (omega (arith, length-drop c.in-Whole.taken c.loop-chunk.rest.now, whole.some, whole.within))

pub loop-chunk-preserved : goal.loop-chunk-preserved
loop-chunk-preserved c =
    rw (slice_behind c.in-Whole.taken c.loop-chunk.rest.now, c.in_ok-push-in-Whole.ensures.items, map-append)
    (way-on _ _ _ _ _ _ _ _ _ c.loop-chunk.invariant (step_of c))

fed : (c : goal.In-Held) → IsFed c.args.self.now c.fill.new.self (map (λ v. v.items) c.args.out.now.items) (map (λ v. v.items) c.loop-chunk.out.items) c.args.piece.now
fed c = way-over _ _ _ _ _ _ _ c.loop-chunk.invariant (rw c.in-Held.is at c.in_ok-chunk.ensures)

pub returns-in-Held-clause-cutting : goal.returns-in-Held-clause-cutting
returns-in-Held-clause-cutting c = (fed c).cutting

pub returns-in-Held-clause-chunks : goal.returns-in-Held-clause-chunks
returns-in-Held-clause-chunks c = (fed c).chunks

pub returns-in-Held-clause-held : goal.returns-in-Held-clause-held
returns-in-Held-clause-held c = (fed c).held

pub returns-in-Held-clause-stream : goal.returns-in-Held-clause-stream
returns-in-Held-clause-stream c = (fed c).stream
