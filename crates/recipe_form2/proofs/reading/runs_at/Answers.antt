use Rattle.std.proofs.Common.{◌≡◌, ◌++◌, ◌∙◌, List, ap}
use Rattle.vault_types.specs.declared.Row.{Row}
use Rattle.std.proofs.lemmas.Result.{err_from_is_err_and}
use Rattle.recipe_form2.specs.Reading.{runs_at}
use Rattle.recipe_form2.specs.Runs.{run_seen}
use Rattle.recipe_form2.proofs.RunLoop.{goes_on, ends}
use Rattle.recipe_form2.proofs.reading.runs_at.Goals as goal

pub returns-in_err-run : goal.returns-in_err-run
returns-in_err-run c =
    let p = err_from_is_err_and c.from_residual.result c.from_residual.ensures.1 in
    rw (p.1, p.2) (ends c.in_err-run.field-0.0 c.runs.before c.runs.rows.items c.args.count c.runs.counter c.runs.rest.now (runs_at 0 c.args.count c.args.bytes.now) c.runs-test.true c.in_err-run.ensures c.runs.invariant)

pub runs-preserved : goal.runs-preserved
runs-preserved c =
    let grown : c.extend_from_slice.new.self.items ≡ c.runs.rows.items ++ c.in_ok-run.run'.rows.items = c.in_ok-extend_from_slice.ensures.items ∙ ap (λ (x : List Row). c.runs.rows.items ++ x) c.as_slice.ensures.value in
    rw grown
    (goes_on c.runs.before c.runs.rows.items c.args.count c.runs.counter c.runs.rest.now (run_seen c.in_ok-run.run'.id c.in_ok-run.run'.rows.items) c.in_ok-run.after.now (runs_at 0 c.args.count c.args.bytes.now) c.runs-test.true c.in_ok-run.ensures c.runs.invariant)
