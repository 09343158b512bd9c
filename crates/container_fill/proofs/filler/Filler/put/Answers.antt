use Rattle.std.proofs.Common.{◌≡◌, ◌≤◌, ◌+◌, ◌^◌, cond, [], ◌∷◌, ◌++◌, length, length-append, ap, ◌∙◌, arith, Some}
use Rattle.std.specs.Map.{lookup}
use Rattle.std.specs.Option.{option_map_or}
use Rattle.std.proofs.lemmas.Grind.{common_steps}
use Rattle.vault_types.specs.declared.Fp.{Fp}
use Rattle.vault_types.specs.Names.{fp, same_fp}
use Rattle.container_fill.specs.Fields.{filling_in}
use Rattle.container_fill.proofs.KeepLemmas.{covered-put}
use Rattle.container_fill.proofs.filler.Filler.put.Goals as goal
use Rattle.container_fill.proofs.filler.Filler.put.Goals.{in-Some+in_ok-open-in-Some, in-None+in_ok-open-in-None}

held : (c : goal.After-self-2-1) → c.match-take.open ≡ option_map_or (λ o. o) c.self.inside.open [] ++ c.args.chunk.now ∷ []
held c = elim c.match-take.branch [ in-Some+in_ok-open-in-Some w ↦ grind (arith, common_steps) | in-None+in_ok-open-in-None w ↦ grind (arith, common_steps) ]

pub invariant_of-self-2 : goal.invariant_of-self-2
invariant_of-self-2 c =
    let rows : length c.push.new.self.items ≡ length c.self.inside.rows.items + 1 = ap length c.in_ok-push.ensures.items ∙ length-append c.self.inside.rows.items (_ ∷ []) in
    let high : c.self.inside.next ≤ 2 ^ 63 + length c.self.inside.rows.items = c.self.invariant.high in
    let updates : (q : Fp) → lookup (same_fp q) c.insert.new.self.entries ≡ cond (same_fp (fp c.args.chunk.now) q) (Some c.self.inside.next) (lookup (same_fp q) c.self.inside.taken.entries) =
    λ q. c.in_ok-insert.ensures.updates.0 q ∙ ap (λ k. cond (same_fp k q) (Some c.self.inside.next) (lookup (same_fp q) c.self.inside.taken.entries)) c.fp.ensures in
    record {
      some = c.self.invariant.some;
      most = c.self.invariant.most;
      low = c.self.invariant.low;
      high = omega arith;
      higher = λ more. omega arith;
      covered = covered-put (filling_in c.self.inside) c.args.chunk.now c.self.inside.next c.insert.new.self.entries c.match-take.open c.self.invariant.covered (held c) updates;
    }
