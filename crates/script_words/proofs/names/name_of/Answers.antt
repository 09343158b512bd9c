use Rattle.std.proofs.Common.{sym, ◌∙◌}
use Rattle.script_words.proofs.ScriptLines.{name_is_utf8}
use Rattle.script_words.proofs.names.name_of.Goals as goal

pub returns-in-Err : goal.returns-in-Err
returns-in-Err c = absurd (c.in-Err.ensures.cases.0 (name_is_utf8 c.args.text.now (sym c.is_name.ensures ∙ c.if-not-is_name.false)))
