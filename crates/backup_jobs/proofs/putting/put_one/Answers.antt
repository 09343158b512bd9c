use Rattle.std.proofs.Common.{[], ◌∷◌, ◌++◌, ◌∙◌, ap, arith}
use Rattle.backup_jobs.proofs.Jobs.{next_is, put_named, put_ok, put_stop, put_waits, on_ok, stopped_by_memory}
use Rattle.backup_jobs.proofs.putting.put_one.Goals as goal

pub put-requires-clause-next : goal.put-requires-clause-next
put-requires-clause-next g c = next_is c.requires.0 _ c.requires.1 c.requires.2 _ c.requires.3

pub put-requires-clause-low : goal.put-requires-clause-low
put-requires-clause-low g c = omega (arith, c.requires.3, c.requires.4, c.requires.2.fits)

pub returns-in_err-push-clause-err : goal.returns-in_err-push-clause-err
returns-in_err-push-clause-err g c b before id room h = stopped_by_memory b _ before c.from_residual.result h c.from_residual.ensures.1

pub returns-clause-ok : goal.returns-clause-ok
returns-clause-ok g c b before id room h =
    put_ok b _ _ before c.args.sealed id room h c.put.ensures.any_moment c.put.ensures.strays c.put.ensures.lent c.put.ensures.pins c.put.ensures.tells c.put.ensures.gets c.put.ensures.causes.later c.put.ensures.recipes c.put.result c.put.ensures.ok

pub returns-clause-err : goal.returns-clause-err
returns-clause-err g c b before id room h =
    put_stop b _ _ before c.args.sealed id room h c.put.ensures.any_moment c.put.ensures.strays c.put.ensures.lent c.put.ensures.pins c.put.ensures.tells c.put.ensures.gets c.put.ensures.causes.later c.put.ensures.recipes c.put.result c.put.ensures.err c.put.ensures.causes.each

pub returns-clause-waits : goal.returns-clause-waits
returns-clause-waits g c = put_waits c.requires.0 _ _ c.requires.1 c.args.sealed c.requires.2 c.put.result c.put.ensures.ok

pub returns-clause-named : goal.returns-clause-named
returns-clause-named g c = on_ok c.put.result (put_named _ _ c.args.sealed c.put.ensures.strays)

pub returns-clause-lens : goal.returns-clause-lens
returns-clause-lens g c = on_ok c.put.result (c.in_ok-push.ensures.items ∙ ap (λ n. c.args.lens.now.items ++ n ∷ []) c.payload_len.ensures)
