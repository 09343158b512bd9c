use Rattle.std.proofs.Common.{◌≡◌, map, drop}
use Rattle.vault_types.specs.Words as spec
use Rattle.script_words.specs.Settings.{pairs}
use Rattle.script_words.proofs.Readings.{followed}
use Rattle.script_words.proofs.reader.line_settings.Given as goal

abbrev pub invariant-loop-word : goal.invariant-loop-word
invariant-loop-word l = spec.line_settings (map (λ w. w.now) l.words) ≡ followed (pairs l.settings.items) (spec.line_settings (map (λ w. w.now) (drop l.word-index l.words)))
