use Rattle.std.proofs.Common.{sym, ◌∙◌, arith, nat_lt, length, codes}
use Rattle.std.specs.Str.{bytes_eq}
use Rattle.std.proofs.lemmas.Bool.{and_left, and_right, le-ltb}
use Rattle.script_words.proofs.ScriptLines.{no_line, is_backup, is_delete, is_restore, is_none, as_line, at}
use Rattle.script_words.proofs.script_line.line_with.Goals as goal

pub returns-then-words-lt2 : goal.returns-then-words-lt2
returns-then-words-lt2 c = no_line c.args.words.now c.if-words-lt2.true

pub returns-then-is_text : goal.returns-then-is_text
returns-then-is_text c =
    as_line _ _ _ (is_backup c.args.words.now (omega arith) (sym c.is_text.ensures ∙ c.if-is_text.true)) c.backup_line.ensures

pub returns-then-is_text-2 : goal.returns-then-is_text-2
returns-then-is_text-2 c =
    as_line _ _ _ (is_delete c.args.words.now (omega arith) (sym c.is_text.ensures ∙ c.if-is_text.false) (sym c.is_text-2.ensures ∙ c.if-is_text-2.true)) c.delete_line.ensures

pub returns-then-words-lt3 : goal.returns-then-words-lt3
returns-then-words-lt3 c =
    is_none c.args.words.now (omega arith) (sym c.is_text.ensures ∙ c.if-is_text.false) (sym c.is_text-2.ensures ∙ c.if-is_text-2.false)
    (and_left (nat_lt 2 (length c.args.words.now)) (bytes_eq (at c.args.words.now 0) (codes "restore")) (le-ltb 2 (length c.args.words.now) (omega arith)))

pub returns-then-is_text-3 : goal.returns-then-is_text-3
returns-then-is_text-3 c =
    as_line _ _ _ (is_restore c.args.words.now (omega arith) (sym c.is_text.ensures ∙ c.if-is_text.false) (sym c.is_text-2.ensures ∙ c.if-is_text-2.false) (sym c.is_text-3.ensures ∙ c.if-is_text-3.true)) c.restore_line.ensures

pub returns : goal.returns
returns c =
    is_none c.args.words.now (omega arith) (sym c.is_text.ensures ∙ c.if-is_text.false) (sym c.is_text-2.ensures ∙ c.if-is_text-2.false)
    (and_right (nat_lt 2 (length c.args.words.now)) (bytes_eq (at c.args.words.now 0) (codes "restore")) (sym c.is_text-3.ensures ∙ c.if-is_text-3.false))
