use Rattle.std.proofs.Common.{◌≡◌, ◌&&◌, drop}
use Rattle.std.specs.List.{list_any}
use Rattle.std.specs.Str.{bytes_eq}
use Rattle.vault_types.specs.Words as spec
use Rattle.script_words.specs.Settings.{kinds_of}
use Rattle.script_words.proofs.kinds.may_be.Given as goal

abbrev pub invariant-loop-kind : goal.invariant-loop-kind
invariant-loop-kind l = list_any (λ k. bytes_eq k.0 l.name && spec.is_allowed k.1 l.value) (kinds_of (drop l.kind-index l.kinds)) ≡ list_any (λ k. bytes_eq k.0 l.name && spec.is_allowed k.1 l.value) (kinds_of l.kinds)
