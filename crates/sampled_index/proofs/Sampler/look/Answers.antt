use Rattle.std.proofs.Common.{◌≡◌, refl, sym, ap, ◌∙◌, Option, Some, None, ℕ}
use Rattle.std.specs.Option.{option_map_or}
use Rattle.vault_types.specs.Names.{same_fp}
use Rattle.std.specs.Map.{lookup}
use Rattle.sampled_index.specs.declared.Look.{Look}
use Rattle.sampled_index.specs.declared.Look.TheVariants as look
use Rattle.sampled_index.specs.Sampling.{Sampling}
use Rattle.sampled_index.proofs.Looking.{known_on, absent_on}
use Rattle.sampled_index.proofs.Sampler.look.Goals as goal

pub returns-in-Some-clause-known : goal.returns-in-Some-clause-known
returns-in-Some-clause-known c tables used id h is =
    let same : c.in-Some.id ≡ id = cc in
    known_on (λ s. s.keys) tables used c.args.self.now c.self.inside.hooks.entries c.self.inside.tables c.promote.new.self (sym c.self.view_is) h id c.args.fp.now c.in-Some.id same c.in-Some.ensures c.promote.ensures.entries

want_of : (o : Option ℕ) (id : ℕ) → option_map_or (λ i. look.Want i) o look.Unknown ≡ look.Want id → o ≡ Some id
want_of None id e = cc
want_of (Some i) id e = let same : i ≡ id = cc in ap (λ n. Some n) same

unknown_of : (o : Option ℕ) → option_map_or (λ i. look.Want i) o look.Unknown ≡ look.Unknown → o ≡ None
unknown_of None e = refl
unknown_of (Some i) e = cc

pub returns-in-None-clause-want : goal.returns-in-None-clause-want
returns-in-None-clause-want c tables used id h is = (
  absent_on (λ s. s.keys) tables used c.args.self.now c.self.inside.hooks.entries c.self.inside.tables c.self.inside.tables (sym c.self.view_is) h id c.args.fp.now c.in-None.ensures,
  ap (λ (s : Sampling). lookup (same_fp c.args.fp.now) s.hooks) (sym c.self.view_is) ∙ sym c.hook_at.ensures ∙ want_of c.hook_at.result id (sym c.hooked.ensures ∙ is),
  refl,
)

pub returns-in-None-clause-unknown : goal.returns-in-None-clause-unknown
returns-in-None-clause-unknown c tables used h is = (
  absent_on (λ s. s.keys) tables used c.args.self.now c.self.inside.hooks.entries c.self.inside.tables c.self.inside.tables (sym c.self.view_is) h 0 c.args.fp.now c.in-None.ensures,
  ap (λ (s : Sampling). lookup (same_fp c.args.fp.now) s.hooks) (sym c.self.view_is) ∙ sym c.hook_at.ensures ∙ unknown_of c.hook_at.result (sym c.hooked.ensures ∙ is),
  refl,
)
