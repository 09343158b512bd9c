use Rattle.std.proofs.Common.{◌≡◌, ◌+◌, ◌*◌, ◌<◌, ◌≤◌, ◌^◌, ◌&&◌, true, false, cond, [], ◌∷◌, ◌++◌, length, sym, ap, subst, ◌∙◌, arith, unwrap_or, is_some}
use Rattle.std.specs.Prelude.{nat_eq, sum_by}
use Rattle.std.specs.List.{list_any}
use Rattle.std.specs.Map.{lookup}
use Rattle.std.proofs.lemmas.Bool.{OnFalse_at}
use Rattle.vault_types.specs.Names.{same_fp}
use Rattle.vault_types.specs.Sparse.{referenced}
use Rattle.har_monitor.specs.Monitor.{refers}
use Rattle.har_monitor.specs.Used.{IsAdded}
use Rattle.har_monitor.proofs.Seeing.{seen-again, seen-new, found-sum, sum-short, referenced-short, not_true, not_false}
use Rattle.har_monitor.proofs.Monitor.see.Goals as goal
use Rattle.har_monitor.proofs.Monitor.see.Goals.{then-branch+in_ok-add, else-branch}

pub returns : goal.returns
returns c = λ seen h.
    let row = c.args.row.now in
    let few : length seen < 2 ^ 32 = omega (arith, h.rows, c.requires.few) in
    let most : sum_by (λ r. r.len) seen ≤ 65536 * length seen = sum-short seen h.lens in
    let known : list_any (λ p. same_fp row.fp p.0 && nat_eq row.id p.1) c.self.inside.pairs.keys ≡ refers seen row.fp row.id =
    ap (λ d. list_any (λ p. same_fp row.fp p.0 && nat_eq row.id p.1) d.pairs) c.self.view_is ∙ h.pairs row.fp row.id in
    elim c.if-branch.branch [
      | then-branch+in_ok-add w ↦
          let fresh : refers seen row.fp row.id ≡ false = sym known ∙ not_true _ (sym c.in_ok-insert.ensures.added ∙ w.if-branch.true) in
          let sum : unwrap_or (lookup (nat_eq row.id) c.self.inside.sums.entries) 0 ≡ referenced seen row.id =
          ap (λ d. unwrap_or (lookup (nat_eq row.id) d.sums) 0) c.self.view_is ∙ found-sum c.args.self.now seen row.id h in
          let some : referenced seen row.id ≤ 65536 * length seen = referenced-short seen row.id h.lens in
          let fits : unwrap_or (lookup (nat_eq row.id) c.self.inside.sums.entries) 0 + row.len < 2 ^ 64 = omega (arith, c.requires.high) in
          let total : c.if-branch.self-inside.total ≡ c.args.self.now.total = ap (λ s. s.total) w.self-inside-is ∙ ap (λ d. d.total) c.self.view_is in
          seen-new c.args.self.now _ seen row h c.requires.high fresh
          (ap (λ s. s.rows + 1) w.self-inside-is ∙ ap (λ d. d.rows + 1) c.self.view_is)
          (omega (arith, h.total, c.requires.high))
          (ap (λ s. s.ids.items) w.self-inside-is ∙ w.in_ok-add.ensures.ids ∙ ap (λ d. cond (is_some (lookup (nat_eq row.id) d.sums)) d.ids (d.ids ++ row.id ∷ [])) c.self.view_is)
          (λ f id. ap (λ s. list_any (λ p. same_fp f p.0 && nat_eq id p.1) s.pairs.keys) w.self-inside-is ∙ c.in_ok-insert.ensures.updates.0 (f, id)
          ∙ ap (λ d. cond (same_fp row.fp f && nat_eq row.id id) true (list_any (λ p. same_fp f p.0 && nat_eq id p.1) d.pairs)) c.self.view_is)
          (subst (λ d. IsAdded d.sums c.if-branch.self-inside.sums.entries row.id (unwrap_or (lookup (nat_eq row.id) d.sums) 0 + row.len)) c.self.view_is
          (subst (λ s. IsAdded c.self.inside.sums.entries s.sums.entries row.id (unwrap_or (lookup (nat_eq row.id) c.self.inside.sums.entries) 0 + row.len)) (sym w.self-inside-is) (w.in_ok-add.ensures.sums fits)))
      | else-branch w ↦
          let again : refers seen row.fp row.id ≡ true = sym known ∙ not_false _ (sym c.in_ok-insert.ensures.added ∙ w.if-branch.false) in
          let total : c.if-branch.self-inside.total ≡ c.args.self.now.total = ap (λ s. s.total) w.self-inside-is ∙ ap (λ d. d.total) c.self.view_is in
          seen-again c.args.self.now _ seen row h c.requires.high again
          (ap (λ s. s.rows + 1) w.self-inside-is ∙ ap (λ d. d.rows + 1) c.self.view_is)
          (omega (arith, h.total, c.requires.high))
          (ap (λ s. s.ids.items) w.self-inside-is ∙ ap (λ d. d.ids) c.self.view_is)
          (ap (λ s. s.pairs.keys) w.self-inside-is ∙ OnFalse_at w.if-branch.false c.in_ok-insert.ensures.unchanged ∙ ap (λ d. d.pairs) c.self.view_is)
          (ap (λ s. s.sums.entries) w.self-inside-is ∙ ap (λ d. d.sums) c.self.view_is)
    ]
