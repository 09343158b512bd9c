use Rattle.std.proofs.Common.{map, ap, ◌∙◌}
use Rattle.std.specs.Prelude.{IfOk, Result, Ok, Err}
use Rattle.backup_jobs.specs.Going.{len_at}
use Rattle.backup_jobs.proofs.Sparses.{named, sparse_given}
use Rattle.backup_jobs.proofs.sparse.sparse_ids.Goals as goal

IfOk_then : {T E : Type 0} {P Q : T → Type 0} (r : Result T E) → ((x : T) → P x → Q x) → IfOk r P → IfOk r Q
IfOk_then (Ok x) f p = f x p
IfOk_then (Err e) f p = p

pub finish-requires : goal.finish-requires
finish-requires g c =
    let K = c.requires.core.0 in
    record {
      named = named c.in_ok-monitor.monitor c.args.rows.now (len_at K.state.containers c.args.first c.args.lens.now) c.as_slice.result.now c.in_ok-monitor.ensures
          (c.as_slice.ensures.value ∙ c.in_ok-payloads.ensures K c.requires.core.1 ∙ ap (map (λ n. (n, len_at K.state.containers c.args.first c.args.lens.now n))) c.ids.ensures);
    }

pub returns : goal.returns
returns g c =
    IfOk_then c.finish.result
    (λ list is K keeps. is ∙ sparse_given c.in_ok-monitor.monitor c.args.rows.now (len_at K.state.containers c.args.first c.args.lens.now) c.as_slice.result.now c.in_ok-monitor.ensures
    (c.as_slice.ensures.value ∙ c.in_ok-payloads.ensures K keeps ∙ ap (map (λ n. (n, len_at K.state.containers c.args.first c.args.lens.now n))) c.ids.ensures) c.args.threshold c.args.limit)
    (c.finish.ensures c.args.rows.now c.in_ok-monitor.ensures)
