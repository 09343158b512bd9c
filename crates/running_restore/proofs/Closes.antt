-- A restore that has ended, from its lines as they were closed.
use Rattle.std.proofs.Common.{◌≡◌, List, [], ◌∷◌, ◌++◌, Option, sym, ap, ◌∙◌, append_assoc}
use Rattle.vault_types.specs.Stages.{IsLine}
use Rattle.vault_traits.specs.Told.{SinkTold}
use Rattle.stage_queue.specs.Ends.{Sender, Receiver}
use Rattle.restore_stage.specs.declared.Loaded.{Loaded}
use Rattle.restore_stage.specs.declared.Reply.{Reply}
use Rattle.restore_stage.specs.Assembling.{Assembling, IsSame}
use Rattle.restore_ends.specs.Results.{HasReplied}

pub has_replied : (first last : Assembling) (to held : List Loaded) (near : List Reply) (r : Reply) (sink : SinkTold) → IsSame first last → (from : Receiver Loaded) (back : Sender Reply) → from ≡ last.loads → back ≡ last.reply
    → (left : List Loaded) × IsLine to from.taken left → (left : List Reply) × IsLine back.sent near left → near ≡ r ∷ [] → last.sink ≡ sink → HasReplied first (to ++ held) r sink
has_replied first last to held near r sink same from back from_is back_is loads replies replied sink_is = record {
  last = last;
  same = same;
  waiting = loads.0 ++ held;
  line = record { same = sym (append_assoc last.loads.taken loads.0 held) ∙ ap (λ (xs : List Loaded). xs ++ held) (ap (λ (f : Receiver Loaded). f.taken ++ loads.0) (sym from_is) ∙ loads.1.same) };
  more = replies.0 ++ last.ready;
  replied = ap (λ (xs : List Reply). xs ++ last.ready) (ap (λ (b : Sender Reply). b.sent) (sym back_is) ∙ sym replies.1.same ∙ ap (λ (xs : List Reply). xs ++ replies.0) replied);
  sink_is = sink_is;
}
