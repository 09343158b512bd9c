use Rattle.std.proofs.Common.{◌≡◌, map, drop}
use Rattle.vault_types.specs.Words as spec
use Rattle.script_words.proofs.values.is_one_of.Given as goal

abbrev pub invariant-loop-other : goal.invariant-loop-other
invariant-loop-other l = spec.is_one_of (map (λ t. t.now) (drop l.other-index l.texts)) l.text ≡ spec.is_one_of (map (λ t. t.now) l.texts) l.text
