use Rattle.std.proofs.Common.{◌≡◌, ◌∙◌, ◌++◌, List, [], None, length, inl, refl, sym, subst, arith}
use Rattle.std.proofs.lemmas.Option.{get_or_from_slice_get, slice_get_within}
use Rattle.std.proofs.lemmas.List.Elements.{All-get_or}
use Rattle.stage_queue.specs.Ends.{Sender}
use Rattle.vault_types.specs.declared.Flow.{Flow}
use Rattle.stage_lanes.proofs.Dealt.{none_told}
use Rattle.stage_lanes.proofs.dealer.Dealer.new.Goals as goal

pub returns-clause-dealt : goal.returns-clause-dealt
returns-clause-dealt g c = let xs = c.args.lanes.items in record {
  dealt = [];
  all = λ i. sym c.new.ensures i ++ sym c.new-2.ensures.items i;
  below = c.requires.some;
  turn = refl;
  last_is = refl;
  told = inl refl;
  most = omega arith;
  open_yet = λ z. refl;
  lanes = λ j t at.
      subst (λ (q : Sender (Flow g.row.T.Denot)). q.sent ≡ []) (get_or_from_slice_get xs j t t at) (All-get_or (λ (q : Sender (Flow g.row.T.Denot)). q.sent ≡ []) xs j t (slice_get_within xs j t at) c.requires.unused)
      ∙ sym (none_told (length xs) [] None j);
}
