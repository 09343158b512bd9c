use Rattle.std.proofs.Common.{◌≡◌, ◌-◌, ◌^◌, min, take}
use Rattle.vault_types.specs.Words as spec
use Rattle.script_words.proofs.values.value_of_digits.Given as goal

abbrev pub invariant-loop-digit : goal.invariant-loop-digit
invariant-loop-digit l = l.value ≡ min (spec.value_of_digits (take l.digit-index l.digits)) (2 ^ 128 - 1)
