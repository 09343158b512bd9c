use Rattle.beside_runner.proofs.serving.serve_until.Goals as goal

pub serve-requires-clause-under : goal.serve-requires-clause-under
serve-requires-clause-under g c = let u = c.requires.under in (u.0, u.1, u.2, c.loop.invariant.under u.0 u.1 u.2 u.3)
