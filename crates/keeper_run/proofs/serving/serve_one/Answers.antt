use Rattle.std.proofs.Common.{List, sym, subst}
use Rattle.beside_laws.specs.Progress.{Underway}
use Rattle.beside_laws.specs.Running.{Past}
use Rattle.keeper_catalog.specs.View.{View}
use Rattle.keeper_core.specs.Keeping.{IsKnownStray}
use Rattle.restore_turns.specs.Entry.{IsStateBeside}
use Rattle.beside_jobs.specs.Under.{told_of}
use Rattle.keeper_run.proofs.serving.serve_one.Goals as goal

pub reply_at-requires-clause-holds : goal.reply_at-requires-clause-holds
reply_at-requires-clause-holds g c = (c.args.keeper.now, (g.P.Places.told c.args.places.now).files, c.requires.holds)

pub feed_at-requires-clause-holds : goal.feed_at-requires-clause-holds
feed_at-requires-clause-holds g c = let files = (g.P.Places.told c.args.places.now).files in (files, c.reply_at.ensures.holds c.args.keeper.now files c.requires.holds)

pub end_at-requires-clause-under : goal.end_at-requires-clause-under
end_at-requires-clause-under g c κs within =
    let u = c.requires.under in (
      u.0,
      u.1,
      u.2,
      subst (λ (P : List (Past View)). Underway told_of IsStateBeside IsKnownStray c.args.limits.now u.0 u.1 u.2 c.args.answers.now.items P (record { keeper = c.args.keeper.now; places = g.P.Places.told c.args.places.now })) (sym c.reply_at.ensures.past) u.3,
    )

pub end_at-requires-clause-holds : goal.end_at-requires-clause-holds
end_at-requires-clause-holds g c κs within = c.reply_at.ensures.holds c.args.keeper.now (g.P.Places.told c.args.places.now).files c.requires.holds

pub returns-in-None-clause-holds : goal.returns-in-None-clause-holds
returns-in-None-clause-holds g c =
    let p = g.P.Places.told c.args.places.now in
    c.feed_at.ensures.holds p (c.reply_at.ensures.holds c.args.keeper.now p.files c.requires.holds)
