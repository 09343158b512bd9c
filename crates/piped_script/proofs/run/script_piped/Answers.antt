use Rattle.std.proofs.Common.{◌≡◌, length, arith}
use Rattle.keeper_catalog.specs.View.{View}
use Rattle.keeper_core.specs.Keeping.{IsStateOf, IsKnownStray}
use Rattle.keeper_store.specs.Kept.{kept_of, known_of}
use Rattle.script_laws.proofs.Chained.{chain_begins, chain_goes_on, chain_ends}
use Rattle.script_laws.proofs.Composed.{runs_of_chain}
use Rattle.script_laws.proofs.Rooms.{steps_of, rooms_of_chain}
use Rattle.piped_script.proofs.run.script_piped.Goals as goal

pub loop-line-init : goal.loop-line-init
loop-line-init g c = record {
  chained = rw c.in-Ok.ensures.items (chain_begins _ _ _);
  count = c.in-Ok.ensures.len;
  room = c.in-Ok.ensures.capacity;
  within = omega arith;
}

pub unreachable-requires : goal.unreachable-requires
unreachable-requires g c = omega (arith, c.in-Err.ensures.full, c.loop-line.invariant.count, c.loop-line.invariant.room, c.loop-line-test.true)

pub loop-line-preserved : goal.loop-line-preserved
loop-line-preserved g c = record {
  chained = rw c.in-Ok-push.ensures.items (chain_goes_on _ _ _ _ _ _ _ c.line-item.result c.one_line-behind.result.1 c.loop-line-test.true c.line-item.is c.loop-line.invariant.chained (record { step = c.one_line-behind.ensures.steps; needs = c.one_line-behind.ensures.room }));
  count = rw c.in-Ok-push.ensures.len (omega (arith, c.loop-line.invariant.count));
  room = omega (arith, c.push.ensures.capacity, c.loop-line.invariant.room);
  within = omega (arith, c.loop-line-test.true);
}

pub returns-clause-runs : goal.returns-clause-runs
returns-clause-runs g c =
    let all : c.loop-line.line-index ≡ length c.args.lines.now = omega (arith, c.loop-line.invariant.within, c.loop-line-test.false) in
    runs_of_chain (λ (k : View). k.told) IsStateOf IsKnownStray kept_of known_of _ _ _ _ _ c.requires.apart
    (steps_of (λ (k : View). k.told) IsStateOf IsKnownStray c.args.limits.now g.P.Places.room _ _ _ _ (chain_ends _ _ _ _ _ _ all c.loop-line.invariant.chained))

pub returns-clause-room : goal.returns-clause-room
returns-clause-room g c S sources keep fed told =
    let all : c.loop-line.line-index ≡ length c.args.lines.now = omega (arith, c.loop-line.invariant.within, c.loop-line-test.false) in
    rooms_of_chain (λ (k : View). k.told) IsStateOf IsKnownStray c.args.limits.now g.P.Places.room sources S _ _ _ _ keep fed told c.requires.apart (chain_ends _ _ _ _ _ _ all c.loop-line.invariant.chained)
