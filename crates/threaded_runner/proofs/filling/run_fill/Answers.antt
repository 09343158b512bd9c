use Rattle.std.proofs.Common.{◌∙◌, sym, subst, List}
use Rattle.std.specs.List.{AllByRecursion}
use Rattle.std.specs.Prelude.{true}
use Rattle.vault_types.specs.declared.Line.{Line}
use Rattle.store_model.specs.Outputs.{AreApartLines}
use Rattle.store_model.specs.Ranges.{IsLineInRange}
use Rattle.word_ranges.proofs.Fills.{fill_in_range, fill_apart}
use Rattle.threaded_runner.proofs.filling.run_fill.Goals as goal

pub run_over-ran-requires-clause-apart : goal.run_over-ran-requires-clause-apart
run_over-ran-requires-clause-apart g c κs within =
    let are = c.as_slice-script.ensures.value ∙ c.in-Ok.ensures.lines in
    subst (λ (lines : List Line). AreApartLines lines) (sym are) (fill_apart c.args.versions c.requires.few)

pub run_over-ran-requires-clause-ranges : goal.run_over-ran-requires-clause-ranges
run_over-ran-requires-clause-ranges g c κs within =
    let are = c.as_slice-script.ensures.value ∙ c.in-Ok.ensures.lines in
    subst (λ (lines : List Line). AllByRecursion IsLineInRange lines) (sym are) (fill_in_range c.args.versions)

pub returns : goal.returns
returns g c p =
    let are = c.as_slice-script.ensures.value ∙ c.in-Ok.ensures.lines in
    c.ended_fill.ensures true c.args.seed c.args.versions (g.S.Shelf.told c.args.shelf) c.args.limits.now c.in-Ok.made.1 p are c.in-Ok.ensures.places c.run_over-ran.ensures.ok c.run_over-ran.ensures.room c.run_over-ran.ensures.err
