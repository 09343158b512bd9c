use Rattle.std.proofs.Common.{◌∙◌, ap, refl, sym, map, ◌++◌, subst}
use Rattle.vault_types.specs.Names.{named_chunk}
use Rattle.vault_types.specs.Cuts.{settled}
use Rattle.backup_pass.specs.Passing.{bytes_of_all}
use Rattle.vault_types.specs.JobRanges.{IsCuttable}
use Rattle.vault_types.proofs.FeedLemmas.{cut_more}
use Rattle.stream_cutter.proofs.Sizes.{settled_chunks}
use Rattle.vault_types.proofs.CutLemmas.{settled_len-stable}
use Rattle.backup_pass.proofs.Feeding.{fed, fault_is}
use Rattle.backup_pass.proofs.pass.Pass.feed.Goals as goal

pub returns-clause-passed : goal.returns-clause-passed
returns-clause-passed c r limit first x gone h =
    let p = c.args.self.now in
    let can : IsCuttable p.chunker.cutting = subst IsCuttable (sym h.cutting) h.cuttable in
    let more = settled (p.chunker.held ++ c.args.piece.now) p.chunker.cutting in
    fed p r limit first x _ h c.feed.new.out.items more (c.in_ok-feed.ensures.chunks ∙ ap (λ items. bytes_of_all items ++ more) c.new-chunks.ensures.items)
    _ c.args.piece.now _ c.place_all.result
    (settled_chunks p.chunker.cutting can (p.chunker.held ++ c.args.piece.now))
    (cut_more p.chunker _ (settled_len-stable p.chunker.cutting can) c.args.piece.now c.in_ok-feed.ensures.cutting c.in_ok-feed.ensures.held h.chunks x h.cut) c.in_ok-feed.ensures.cutting (c.add.ensures x h.summed) refl
    (c.place_all.ensures.placed r first (map named_chunk h.chunks) gone h.placed) c.place_all.ensures.count c.place_all.ensures.within

pub returns-clause-causes : goal.returns-clause-causes
returns-clause-causes c r limit first x gone h =
    let p = c.args.self.now in
    let more = settled (p.chunker.held ++ c.args.piece.now) p.chunker.cutting in
    let can : IsCuttable p.chunker.cutting = subst IsCuttable (sym h.cutting) h.cuttable in
    let cut = cut_more p.chunker c.feed.new.self (settled_len-stable p.chunker.cutting can) c.args.piece.now c.in_ok-feed.ensures.cutting c.in_ok-feed.ensures.held h.chunks x h.cut in
    fault_is p r limit first x _ h c.feed.new.out.items more (c.in_ok-feed.ensures.chunks ∙ ap (λ items. bytes_of_all items ++ more) c.new-chunks.ensures.items)
    (settled (x ++ c.args.piece.now) r.config.cutting) (cut.gone ∙ ap (settled (x ++ c.args.piece.now)) (c.in_ok-feed.ensures.cutting ∙ h.cutting)) c.place_all.result c.place_all.ensures.causes
