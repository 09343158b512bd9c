use Rattle.std.proofs.Common.{◌≡◌, refl, sym, ap, ◌∙◌}
use Rattle.sampled_index.proofs.Looking.{put_on}
use Rattle.sampled_index.proofs.Sampler.give.Goals as goal

pub returns-clause-used : goal.returns-clause-used
returns-clause-used c tables used h table =
    put_on (λ s. s.keys) tables used c.args.self.now c.self.inside.hooks.entries c.self.inside.tables c.put.new.self (sym c.self.view_is) h c.args.table.now.id c.in_ok-fps.fps (λ f. c.in_ok-fps.ensures f ∙ table f) c.in_ok-put.ensures.entries
