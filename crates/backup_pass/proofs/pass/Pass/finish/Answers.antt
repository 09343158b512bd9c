use Rattle.std.proofs.Common.{◌≡◌, ◌∙◌, ap, sym, map, ◌++◌, subst, length, List, ◌≤◌, ◌+◌}
use Rattle.std.specs.Prelude.{filter, option_to_list, IfOk, IfErr, OnOk}
use Rattle.vault_types.specs.Names.{NamedChunk, named_chunk}
use Rattle.vault_types.specs.Cuts.{cuts, only_bytes}
use Rattle.vault_types.specs.Decide.{decide}
use Rattle.vault_types.specs.Fill.{fill}
use Rattle.vault_types.specs.Stages.{is_chunk}
use Rattle.container_fill.specs.Filling.{IsFilledBy}
use Rattle.backup_pass.specs.Passing.{bytes_of_all, IsPassFault, answers_in}
use Rattle.vault_types.specs.JobRanges.{IsCuttable}
use Rattle.stream_cutter.proofs.Sizes.{last_chunks}
use Rattle.backup_pass.proofs.Feeding.{fault_is, all_named, few_is}
use Rattle.backup_pass.proofs.pass.Pass.finish.Goals as goal

pub returns-in-Err-filled-clause-causes : goal.returns-in-Err-filled-clause-causes
returns-in-Err-filled-clause-causes c r limit first x gone h =
    let p = c.args.self in
    let more = only_bytes p.chunker.held in
    subst (λ q. IfErr q (IsPassFault limit (length (cuts x r.config.cutting)))) c.in-Err-filled.is
    (fault_is p r limit first x _ h c.finish.new.out.items more (c.in-Ok.ensures.chunks ∙ ap (λ items. bytes_of_all items ++ more) c.new-chunks.ensures.items)
    (cuts x r.config.cutting) (c.in-Ok.ensures.stream h.chunks x h.cut ∙ ap (cuts x) h.cutting) c.place_last-index.result.1 c.place_last-index.ensures.causes)

pub returns-in-Ok-filled-clause-passed : goal.returns-in-Ok-filled-clause-passed
returns-in-Ok-filled-clause-passed c r limit first x gone h =
    let p = c.args.self in
    let more = only_bytes p.chunker.held in
    let given = c.in-Ok.ensures.chunks ∙ ap (λ items. bytes_of_all items ++ more) c.new-chunks.ensures.items in
    let same = c.in-Ok.ensures.stream h.chunks x h.cut ∙ ap (cuts x) h.cutting in
    let chunks : filter is_chunk more ≡ more =
    subst (λ y. filter is_chunk (only_bytes y) ≡ only_bytes y) (sym h.cut.held) (last_chunks p.chunker.cutting (subst IsCuttable (sym h.cutting) h.cuttable) x) in (
      c.finish-whole.ensures x h.summed,
      few_is p r limit first x _ h c.finish.new.out.items more given (cuts x r.config.cutting) same (subst (λ q. OnOk q (p.count + length c.finish.new.out.items ≤ p.limit)) c.in-Ok-filled.is (c.place_last-index.ensures.within h.within)),
      subst (λ (cs : List NamedChunk). IsFilledBy (option_to_list c.in-Ok-filled.filled.last) c.in-Ok-filled.filled.rows c.in-Ok-filled.filled.next c.in-Ok-filled.filled.containers c.in-Ok-filled.filled.written first (gone ++ c.place_last-index.new.out.items) (length cs)
          (fill first cs (decide (answers_in p) r cs) r.config.container)) (all_named p r limit first x _ h c.finish.new.out.items more given chunks (cuts x r.config.cutting) same)
          (subst (λ q. IfOk q (λ f. IsFilledBy (option_to_list f.last) f.rows f.next f.containers f.written first (gone ++ c.place_last-index.new.out.items) (length (map named_chunk h.chunks ++ map named_chunk (filter is_chunk (bytes_of_all c.finish.new.out.items))))
          (fill first (map named_chunk h.chunks ++ map named_chunk (filter is_chunk (bytes_of_all c.finish.new.out.items))) (decide (answers_in p) r (map named_chunk h.chunks ++ map named_chunk (filter is_chunk (bytes_of_all c.finish.new.out.items)))) r.config.container)))
          c.in-Ok-filled.is (c.place_last-index.ensures.filled r first (map named_chunk h.chunks) gone h.placed)),
    )
