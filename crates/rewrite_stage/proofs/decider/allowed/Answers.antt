use Rattle.std.proofs.Common.{◌≡◌, map, IfOk, sym, ap, subst, ◌∙◌}
use Rattle.vault_types.specs.Capping.{kept_ids}
use Rattle.rewrite_stage.specs.Steps.{only_kept, allowed_of}
use Rattle.rewrite_stage.proofs.Rule.{uncapped, capped-is}
use Rattle.rewrite_stage.proofs.decider.allowed.Goals as goal

pub returns-then-not-caps : goal.returns-then-not-caps
returns-then-not-caps c = uncapped c.args.config c.args.counted.items (sym c.caps.ensures ∙ c.if-not-caps.true)

pub returns : goal.returns
returns c =
    let same : map (only_kept (kept_ids c.as_slice.result.now c.args.config.cap)) c.as_slice.result.now ≡ allowed_of c.args.config c.args.counted.items =
    ap (λ os. map (only_kept (kept_ids os c.args.config.cap)) os) c.as_slice.ensures.value ∙ capped-is c.args.config c.args.counted.items (sym c.caps.ensures ∙ c.if-not-caps.false) in
    subst (λ os. IfOk c.capped.result (λ a. a.items ≡ os)) same c.capped.ensures
