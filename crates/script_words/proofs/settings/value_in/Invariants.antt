use Rattle.std.proofs.Common.{◌≡◌, drop}
use Rattle.vault_types.specs.Words as spec
use Rattle.script_words.specs.Settings.{pairs}
use Rattle.script_words.proofs.settings.value_in.Given as goal

abbrev pub invariant-loop-setting : goal.invariant-loop-setting
invariant-loop-setting l = spec.value_in (pairs (drop l.setting-index l.settings)) l.name ≡ spec.value_in (pairs l.settings) l.name
