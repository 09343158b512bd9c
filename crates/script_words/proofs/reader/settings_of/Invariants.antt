use Rattle.std.proofs.Common.{◌≡◌, ◌≤◌, ◌-◌, map, drop, length, string_bytes}
use Rattle.vault_types.specs.Words as spec
use Rattle.script_words.specs.Settings.{pairs}
use Rattle.script_words.proofs.Readings.{followed}
use Rattle.script_words.proofs.reader.settings_of.Given as goal

abbrev pub invariant-loop-i : goal.invariant-loop-i
invariant-loop-i l = record {
  within : l.i ≤ length l.words;
  so_far : spec.settings_of (map string_bytes l.words) ≡ followed (pairs l.settings.items) (spec.settings_of (map string_bytes (drop l.i l.words)));
}

abbrev pub decreases-loop-i : goal.decreases-loop-i
decreases-loop-i l = length l.words - l.i
