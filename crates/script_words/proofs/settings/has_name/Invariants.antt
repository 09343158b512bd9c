use Rattle.std.proofs.Common.{◌≡◌, drop}
use Rattle.std.specs.List.{list_any}
use Rattle.std.specs.Str.{bytes_eq}
use Rattle.script_words.specs.Settings.{pairs}
use Rattle.script_words.proofs.settings.has_name.Given as goal

abbrev pub invariant-loop-setting : goal.invariant-loop-setting
invariant-loop-setting l = list_any (λ q. bytes_eq l.name q.0) (pairs (drop l.setting-index l.settings)) ≡ list_any (λ q. bytes_eq l.name q.0) (pairs l.settings)
