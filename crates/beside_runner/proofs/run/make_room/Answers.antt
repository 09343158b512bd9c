use Rattle.beside_runner.proofs.run.make_room.Goals as goal

pub serve_until-requires-clause-under : goal.serve_until-requires-clause-under
serve_until-requires-clause-under g c = let u = c.requires.under in (u.0, u.1, u.2, c.serve.ensures.under u.0 u.1 u.2 u.3)
