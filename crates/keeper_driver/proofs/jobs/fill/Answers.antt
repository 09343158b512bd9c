use Rattle.keeper_driver.proofs.jobs.fill.Goals as goal

pub returns-in-Err : goal.returns-in-Err
returns-in-Err g c = record {
  ok = tt;
  err = let still = c.add_kept.ensures _ c.loop-chunk.invariant in still.opened;
}
