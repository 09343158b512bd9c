use Rattle.std.proofs.Common.{◌≡◌, drop}
use Rattle.vault_types.specs.Words as spec
use Rattle.script_words.specs.Settings.{pairs}
use Rattle.script_words.proofs.settings.names_differ.Given as goal

abbrev pub invariant-loop-i : goal.invariant-loop-i
invariant-loop-i l = spec.names_differ (pairs (drop l.i l.settings)) ≡ spec.names_differ (pairs l.settings)
