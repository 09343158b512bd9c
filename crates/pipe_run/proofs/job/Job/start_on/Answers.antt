use Rattle.std.proofs.Common.{◌≡◌, [], arith}
use Rattle.std.proofs.lemmas.List.Elements.{All-from_recursion}
use Rattle.pipe_run.proofs.Ends.{ends_len, one_len}
use Rattle.pipe_run.proofs.job.Job.start_on.Goals as goal

pub new-chunk-requires-clause-some : goal.new-chunk-requires-clause-some
new-chunk-requires-clause-some g c =
    let r = c.room.inside in let i = c.room.invariant in let n = (ends_len r.near.items r.rooms.items r.lane_ends.items i.lane_rooms.ends).0 in let s = i.some in omega arith

pub new-chunk-requires-clause-sent : goal.new-chunk-requires-clause-sent
new-chunk-requires-clause-sent g c = All-from_recursion (λ t. t.sent ≡ []) c.room.inside.near.items c.room.invariant.lane_rooms.unsent

pub new-decide-requires-clause-some : goal.new-decide-requires-clause-some
new-decide-requires-clause-some g c =
    let r = c.room.inside in let i = c.room.invariant in let n = (ends_len r.near.items r.rooms.items r.lane_ends.items i.lane_rooms.ends).1 in let s = i.some in let o = one_len r.outs.items r.ends i.last_line.0 in
    (omega arith, omega arith)

pub new-decide-requires-clause-taken : goal.new-decide-requires-clause-taken
new-decide-requires-clause-taken g c = All-from_recursion (λ t. t.taken ≡ []) c.room.inside.lane_ends.items c.room.invariant.lane_rooms.untaken

pub new-decide-requires-clause-sent : goal.new-decide-requires-clause-sent
new-decide-requires-clause-sent g c = All-from_recursion (λ t. t.sent ≡ []) c.room.inside.outs.items c.room.invariant.last_unused.1
