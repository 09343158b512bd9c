use Rattle.std.proofs.Common.{sym, ◌∙◌}
use Rattle.std.proofs.lemmas.Bool.{and_from}
use Rattle.script_words.specs.Settings.{pairs, kinds_of}
use Rattle.script_words.proofs.Fits.{fits}
use Rattle.script_words.proofs.settings.are_allowed.Goals as goal

pub returns-then-names_differ-clause-fit : goal.returns-then-names_differ-clause-fit
returns-then-names_differ-clause-fit c = λ e.
    fits (kinds_of c.args.kinds.now) (pairs c.args.settings.now) c.requires
    (and_from _ _ (sym c.names_differ.ensures ∙ c.if-names_differ.true) (sym c.each_is_allowed.ensures ∙ e))
