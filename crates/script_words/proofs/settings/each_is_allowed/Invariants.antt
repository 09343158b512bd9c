use Rattle.std.proofs.Common.{◌≡◌, drop}
use Rattle.std.specs.List.{list_all}
use Rattle.vault_types.specs.Words as spec
use Rattle.script_words.specs.Settings.{pairs, kinds_of}
use Rattle.script_words.proofs.settings.each_is_allowed.Given as goal

abbrev pub invariant-loop-setting : goal.invariant-loop-setting
invariant-loop-setting l = list_all (spec.allows (kinds_of l.kinds)) (pairs (drop l.setting-index l.settings)) ≡ list_all (spec.allows (kinds_of l.kinds)) (pairs l.settings)
