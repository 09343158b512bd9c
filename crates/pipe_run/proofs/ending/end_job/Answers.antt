use Rattle.std.proofs.Common.{◌≡◌, ◌++◌, ◌∷◌, [], List, ℕ, length, map, sym, ap, ◌∙◌, subst, arith, rules, false}
use Rattle.std.proofs.lemmas.List.{length-map}
use Rattle.vault_types.specs.declared.Flow.{Flow}
use Rattle.vault_traits.specs.Told.{SourceTold}
use Rattle.source_reads.specs.Reading.{HasRead, Advances}
use Rattle.fp_index.specs.Index.{found_in}
use Rattle.stage_lanes.specs.Steps.{lines_of, ends_of}
use Rattle.chunk_stage.specs.Stage.{IsBack as ChunkBack}
use Rattle.decide_stage.specs.Deciding.{IsBack as DecideBack}
use Rattle.pipe_lanes.proofs.Made.{ends_by_lines}
use Rattle.pipe_run.proofs.Ends.{ends_len, only_one}
use Rattle.pipe_run.proofs.Holding.{whole_of, raised_is, seen_by, head_new}
use Rattle.pipe_run.proofs.Backwards.{Ends, job_back}
use Rattle.pipe_run.proofs.ending.end_job.Goals as goal

pub close-requires-3 : goal.close-requires-3
close-requires-3 g c = let run = c.requires.running in
    let lines : lines_of c.end-index.result.2.items ≡ c.args.ends ∷ [] = ap lines_of c.end-index.ensures.ends.2 ∙ sym c.end-decide_stage.ensures.same.4 ∙ run.last_line.0 in
    ((only_one c.end-index.result.2.items c.pop.new.self.items c.in-Some.out c.args.ends c.in-Some.ensures.items lines).0, run.last_line.1)

pub end_all-requires-clause-ends : goal.end_all-requires-clause-ends
end_all-requires-clause-ends g c = let run = c.requires.running in
    ends_by_lines c.end-chunk_from.result.1.items c.args.lanes.items c.end-index.result.1.items (
      ap lines_of c.end-chunk_from.ensures.ends.1 ∙ sym c.end-chunk_stage.ensures.same.3 ∙ run.lane_lines.0,
      ap ends_of c.end-index.ensures.ends.1 ∙ sym c.end-decide_stage.ensures.same.3 ∙ run.lane_lines.1,
    )

pub gather-raised-requires : goal.gather-raised-requires
gather-raised-requires g c = let run = c.requires.running in
    let own = c.args.own in let r = c.end-source.result.2 in let k = c.end-chunk_from.result.2 in let d = c.end-index.result.3 in
    let one : c.push.new.self.items ≡ c.args.back.items ++ own ∷ [] = search rules in
    let two : c.push-2.new.self.items ≡ c.push.new.self.items ++ r ∷ [] = search rules in
    let three : c.push-3.new.self.items ≡ c.push-2.new.self.items ++ k ∷ [] = search rules in
    let four : c.push-4.new.self.items ≡ c.push-3.new.self.items ++ d ∷ [] = search rules in
    let ls = map (λ l. l.holder) c.args.lanes.items in
    let all : c.end_all.new.holders.items ≡ own ∷ r ∷ k ∷ d ∷ ls =
    c.end_all.ensures.holders ∙ ap (λ q. q ++ ls) (four ∙ ap (λ q. q ++ d ∷ []) (three ∙ ap (λ q. q ++ k ∷ []) (two ∙ ap (λ q. q ++ r ∷ []) (one ∙ ap (λ q. q ++ own ∷ []) run.none.0)))) in
    let a = head_new run.family c.args.single.read.first.holder (c.args.single.chunk.first.holder ∷ c.args.single.decide.first.holder ∷ []) run.stages in
    let b = head_new run.family c.args.single.chunk.first.holder (c.args.single.decide.first.holder ∷ []) a.1 in
    let e = head_new run.family c.args.single.decide.first.holder [] b.1 in
    let count = run.count in
    whole_of run.family c.end_all.new.holders.items own r k d ls all run.kin
    (ap (λ q. q.family) c.end-source.ensures.ends.2 ∙ sym c.end-read_stage.ensures.same.2 ∙ a.0.0)
    (ap (λ q. q.family) c.end-chunk_from.ensures.ends.2 ∙ sym c.end-chunk_stage.ensures.same.4 ∙ b.0.0)
    (ap (λ q. q.family) c.end-index.ensures.ends.3 ∙ sym c.end-decide_stage.ensures.same.5 ∙ e.0.0)
    run.lane_holders
    (let n : length ls ≡ length c.args.lanes.items = length-map c.args.lanes.items (λ l. l.holder) in omega arith)

pub returns-clause-back : goal.returns-clause-back
returns-clause-back g c = let run = c.requires.running in let last = c.requires.last in
    let single = c.args.single in
    let own = c.args.own in let r = c.end-source.result.2 in let k = c.end-chunk_from.result.2 in let d = c.end-index.result.3 in
    let one : c.push.new.self.items ≡ c.args.back.items ++ own ∷ [] = search rules in
    let two : c.push-2.new.self.items ≡ c.push.new.self.items ++ r ∷ [] = search rules in
    let three : c.push-3.new.self.items ≡ c.push-2.new.self.items ++ k ∷ [] = search rules in
    let four : c.push-4.new.self.items ≡ c.push-3.new.self.items ++ d ∷ [] = search rules in
    let ls = map (λ l. l.holder) c.args.lanes.items in
    let all : c.end_all.new.holders.items ≡ own ∷ r ∷ k ∷ d ∷ ls =
    c.end_all.ensures.holders ∙ ap (λ q. q ++ ls) (four ∙ ap (λ q. q ++ d ∷ []) (three ∙ ap (λ q. q ++ k ∷ []) (two ∙ ap (λ q. q ++ r ∷ []) (one ∙ ap (λ q. q ++ own ∷ []) run.none.0)))) in
    let a = head_new run.family single.read.first.holder (single.chunk.first.holder ∷ single.decide.first.holder ∷ []) run.stages in
    let idle : r.raised ≡ false = ap (λ q. q.raised) c.end-source.ensures.ends.2 ∙ sym c.end-read_stage.ensures.same.4 ∙ a.0.1 in
    let told = g.I.Source.told in
    let near = c.end-chunk_from.result.1.items in let far = c.end-index.result.1.items in
    let near_lines : lines_of near ≡ map (λ l. l.near) c.args.lanes.items = ap lines_of c.end-chunk_from.ensures.ends.1 ∙ sym c.end-chunk_stage.ensures.same.3 ∙ run.lane_lines.0 in
    let far_lines : ends_of far ≡ map (λ l. l.far) c.args.lanes.items = ap ends_of c.end-index.ensures.ends.1 ∙ sym c.end-decide_stage.ensures.same.3 ∙ run.lane_lines.1 in
    let lines : lines_of c.end-index.result.2.items ≡ c.args.ends ∷ [] = ap lines_of c.end-index.ensures.ends.2 ∙ sym c.end-decide_stage.ensures.same.4 ∙ run.last_line.0 in
    let out = (only_one c.end-index.result.2.items c.pop.new.self.items c.in-Some.out c.args.ends c.in-Some.ensures.items lines).1 in
    let len = (ends_len near c.args.lanes.items far (near_lines, far_lines)).0 in let some = run.some in
    let decide = c.end-decide_stage.ensures.same in let chunk = c.end-chunk_stage.ensures.same in let read = c.end-read_stage.ensures.same in
    let cut = single.chunk.first.cutting in let limit = single.decide.first.limit in let find = found_in single.decide.first.index in let rules_are = single.decide.first.rules in
    let ready = c.end-read_stage.result.ready in
    let e : Ends cut find rules_are limit (told single.read.first.source) (told c.end-source.result.0) c.args.far.taken c.end-sum_from.result.2 near far k.raised d.raised = record {
      cuttable = run.cuttable;
      some = omega arith;
      read_sent = c.end-source.result.1.sent;
      read_ready = ready;
      over = c.end-read_stage.result.over;
      read = c.end-read_stage.result.read;
      saw = r.saw;
      reading = subst (λ n. HasRead n c.end-read_stage.result.read (c.end-source.result.1.sent ++ ready) c.end-read_stage.result.over r.saw) (sym read.0 ∙ run.limits.0) c.end-source.ensures.sent;
      going = subst (λ (z : List (Flow (List ℕ)) × SourceTold × List (Flow (List ℕ))). Advances (told single.read.first.source) z.0 z.1 z.2) (λ i. (run.unread i, told (sym c.end-source.ensures.ends.0 i), (sym c.end-source.ensures.ends.1 i).sent ++ ready)) read.5;
      sum_taken = c.end-sum_from.result.0.taken;
      first_line = (c.close.ensures.0, c.close.ensures.1.same);
      sum_sent = c.end-sum_from.result.1.sent;
      sum_ready = c.end-sum_stage.result.ready;
      passed = c.end-sum_from.ensures.sent;
      summed_over = c.end-sum_stage.result.over;
      summed = c.end-sum_from.ensures.sum;
      chunk_taken = c.end-chunk_from.result.0.taken;
      second_line = (c.close-2.ensures.0, c.close-2.ensures.1.same);
      reads_over = c.end-chunk_stage.result.over;
      chunking = subst (λ q. ChunkBack q limit c.end-chunk_from.result.0.taken c.end-chunk_stage.result.over near k.raised) (sym chunk.0)
          (subst (λ n. ChunkBack c.end-chunk_stage.result.cutting n c.end-chunk_from.result.0.taken c.end-chunk_stage.result.over near k.raised) (sym chunk.1 ∙ run.limits.1) c.end-chunk_from.ensures.back);
      lanes = c.end_all.ensures.back;
      named_over = c.end-decide_stage.result.over;
      out = c.in-Some.out;
      deciding = subst (λ q. DecideBack find rules_are limit far c.end-decide_stage.result.over q d.raised) out
          (subst (λ n. DecideBack find rules_are n far c.end-decide_stage.result.over c.end-index.result.2.items d.raised) (sym decide.0)
          (subst (λ q. DecideBack find q c.end-decide_stage.result.limit far c.end-decide_stage.result.over c.end-index.result.2.items d.raised) (sym decide.1)
          (subst (λ q. DecideBack (found_in q) c.end-decide_stage.result.rules c.end-decide_stage.result.limit far c.end-decide_stage.result.over c.end-index.result.2.items d.raised) (sym decide.2) c.end-index.ensures.back)));
      last_line = (c.close-3.ensures.0, c.close-3.ensures.1.same);
    } in
    job_back cut find rules_are limit (told single.read.first.source) (told c.end-source.result.0) c.args.far.taken c.end-sum_from.result.2 near far k.raised d.raised e
    own.raised c.gather-raised.result last.0 last.1 last.2
    (raised_is run.family c.end_all.new.holders.items own r k d ls c.gather-raised.result all idle run.lane_holders c.gather-raised.ensures.raised)
    (λ saw. c.gather-raised.ensures.seen (seen_by c.end_all.new.holders.items own r (k ∷ d ∷ ls) all saw))
