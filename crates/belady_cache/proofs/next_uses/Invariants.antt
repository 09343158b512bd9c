use Rattle.std.proofs.Common.{◌≡◌, ℕ, ◌+◌, nat_eq, drop, length}
use Rattle.std.specs.Option.{unwrap_or}
use Rattle.std.specs.HashMap as hash
use Rattle.vault_types.specs.Plans.{next_use, next_uses_from}
use Rattle.belady_cache.proofs.next_uses.Given as goal

abbrev pub invariant-loop-i : goal.invariant-loop-i
invariant-loop-i l = record {
  len : length l.next.items ≡ length l.reqs;
  later : (q : ℕ) → unwrap_or (hash.get nat_eq l.later q) (length l.reqs) ≡ l.i + next_use (drop l.i l.reqs) q;
  known : drop l.i l.next.items ≡ next_uses_from l.i (drop l.i l.reqs);
}
