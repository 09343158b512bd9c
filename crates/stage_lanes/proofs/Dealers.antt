-- What a dealer and a picker keep at a step.
use Rattle.std.proofs.Common.{◌≡◌, inl, inr, ⊎_elim, ℕ, ◌+◌, ◌<◌, List, [], ◌∷◌, ◌++◌, Option, Some, None, length, sym, refl, ap, ◌∙◌, subst, arith, append_assoc, append-nil}
use Rattle.stage_queue.specs.Ends.{Sender, Receiver}
use Rattle.vault_types.specs.declared.Flow.{Flow}
use Rattle.vault_types.specs.declared.Flow.TheVariants.{Part}
use Rattle.stage_flows.specs.declared.Last.{Last}
use Rattle.stage_flows.specs.Runs.{item_of}
use Rattle.stage_lanes.specs.Lanes.{after, lane_after, AllAt, dealt_to, picked_from}
use Rattle.stage_lanes.specs.Steps.{Stays, HasSent, HasTaken}
use Rattle.stage_lanes.specs.Dealing.{HasDealt, HasPicked, waiting}
use Rattle.stage_lanes.specs.declared.dealer.Dealer.{Dealer}
use Rattle.stage_lanes.specs.declared.picker.Picker.{Picker}
use Rattle.stage_lanes.proofs.Dealt.{lane_after-snoc, none_told, dealt_here, dealt_there, told_here, told_there, picked_here, picked_there, last_here, last_there}

module _ {X : Type 0} where
  abbrev sent_by : Sender (Flow X) → List (Flow X)
  sent_by t = t.sent

  abbrev taken_by : Receiver (Flow X) → List (Flow X)
  taken_by r = r.taken

  -- the same rule, with a count of lanes and of those that are told that are equal
  same_rule : (lanes : List (Sender (Flow X))) (n m : ℕ) (dealt : List X) (last last' : Option Last) (k k' : ℕ) → n ≡ m → last ≡ last' → k ≡ k' → AllAt sent_by lanes (dealt_to n dealt last k) → AllAt sent_by lanes (dealt_to m dealt last' k')
  same_rule lanes n m dealt last last' k k' p q r all j t at = all j t at ∙ (λ i. dealt_to (p i) dealt (q i) (r i) j)

  pub HasDealt_still : (d e : Dealer X) (parts : List X) (l : Option Last) → HasDealt d parts l → length e.lanes.items ≡ length d.lanes.items → e.next ≡ d.next → waiting e ≡ waiting d → e.last ≡ d.last → e.told ≡ d.told → Stays sent_by d.lanes.items e.lanes.items → HasDealt e parts l
  HasDealt_still d e parts l h len next ready last told stays = record {
    dealt = h.dealt;
    all = h.all ∙ ap (λ r. h.dealt ++ r) (sym ready);
    below = omega (arith, h.below, len, next);
    turn = next ∙ h.turn ∙ ap (λ n. lane_after n 0 h.dealt) (sym len);
    last_is = last ∙ h.last_is;
    told = ⊎_elim (λ (z : d.told ≡ 0). inl (told ∙ z)) (λ (z : waiting d ≡ []). inr (ready ∙ z)) h.told;
    most = omega (arith, h.most, len, told);
    open_yet = λ z. told ∙ h.open_yet (sym last ∙ z);
    lanes = same_rule e.lanes.items (length d.lanes.items) (length e.lanes.items) h.dealt l l d.told e.told (sym len) refl (sym told) (stays (dealt_to (length d.lanes.items) h.dealt l d.told) h.lanes);
  }

  pub HasDealt_part : (d e : Dealer X) (x : X) (parts : List X) (l : Option Last) → HasDealt d parts l → waiting d ≡ x ∷ waiting e → HasSent d.lanes.items d.next (Part x) e.lanes.items → length e.lanes.items ≡ length d.lanes.items
      → e.next ≡ after (length d.lanes.items) d.next → e.next < length d.lanes.items → e.last ≡ d.last → e.told ≡ d.told → HasDealt e parts l
  HasDealt_part d e x parts l h ready sent len next below last told =
      let n = length d.lanes.items in
      let none : d.told ≡ 0 = ⊎_elim (λ (z : d.told ≡ 0). z) (λ (z : waiting d ≡ []). let clash : x ∷ waiting e ≡ [] = sym ready ∙ z in cc) h.told in
      let all0 : AllAt sent_by d.lanes.items (dealt_to n h.dealt l 0) = same_rule d.lanes.items n n h.dealt l l d.told 0 refl refl none h.lanes in
      let all1 : AllAt sent_by e.lanes.items (dealt_to n (h.dealt ++ x ∷ []) l 0) =
      sent.all (dealt_to n h.dealt l 0) (dealt_to n (h.dealt ++ x ∷ []) l 0) all0 (dealt_here n d.next h.dealt l x h.turn) (dealt_there n d.next h.dealt l x h.turn) in
      record {
        dealt = h.dealt ++ x ∷ [];
        all = h.all ∙ ap (λ r. h.dealt ++ r) ready ∙ sym (append_assoc h.dealt (x ∷ []) (waiting e));
        below = omega (arith, below, len);
        turn = next ∙ ap (after n) h.turn ∙ sym (lane_after-snoc n 0 h.dealt x) ∙ ap (λ k. lane_after k 0 (h.dealt ++ x ∷ [])) (sym len);
        last_is = last ∙ h.last_is;
        told = inl (told ∙ none);
        most = omega (arith, told, none);
        open_yet = λ z. told ∙ none;
        lanes = same_rule e.lanes.items n (length e.lanes.items) (h.dealt ++ x ∷ []) l l 0 e.told (sym len) refl (sym (told ∙ none)) all1;
      }

  pub HasDealt_told : (d e : Dealer X) (k : Last) (parts : List X) (l : Option Last) → HasDealt d parts l → waiting d ≡ [] → d.last ≡ Some k → d.told < length d.lanes.items → HasSent d.lanes.items d.told (item_of k) e.lanes.items → length e.lanes.items ≡ length d.lanes.items
      → e.next ≡ d.next → waiting e ≡ waiting d → e.last ≡ d.last → e.told ≡ d.told + 1 → HasDealt e parts l
  HasDealt_told d e k parts l h none is few sent len next ready last told =
      let n = length d.lanes.items in
      let known : l ≡ Some k = sym h.last_is ∙ is in
      let all0 : AllAt sent_by d.lanes.items (dealt_to n h.dealt (Some k) d.told) = same_rule d.lanes.items n n h.dealt l (Some k) d.told d.told refl known refl h.lanes in
      let all1 : AllAt sent_by e.lanes.items (dealt_to n h.dealt (Some k) (d.told + 1)) =
      sent.all (dealt_to n h.dealt (Some k) d.told) (dealt_to n h.dealt (Some k) (d.told + 1)) all0 (told_here n d.told h.dealt k) (told_there n d.told h.dealt (Some k)) in
      record {
        dealt = h.dealt;
        all = h.all ∙ ap (λ r. h.dealt ++ r) (sym ready);
        below = omega (arith, h.below, len, next);
        turn = next ∙ h.turn ∙ ap (λ m. lane_after m 0 h.dealt) (sym len);
        last_is = last ∙ h.last_is;
        told = inr (ready ∙ none);
        most = omega (arith, few, len, told);
        open_yet = λ z. let clash : Some k ≡ None = sym is ∙ sym last ∙ z in cc;
        lanes = same_rule e.lanes.items n (length e.lanes.items) h.dealt (Some k) l (d.told + 1) e.told (sym len) (sym known) (sym told) all1;
      }

  pub HasDealt_given : (d e : Dealer X) (before more : List X) (l : Option Last) → HasDealt d before None → e.lanes.items ≡ d.lanes.items → e.next ≡ d.next → waiting e ≡ waiting d ++ more → e.last ≡ l → e.told ≡ d.told → HasDealt e (before ++ more) l
  HasDealt_given d e before more l h lanes next ready last told =
      let n = length d.lanes.items in
      let len : length e.lanes.items ≡ length d.lanes.items = ap length lanes in
      let zero_told : d.told ≡ 0 = h.open_yet h.last_is in
      let all0 : AllAt sent_by e.lanes.items (dealt_to n h.dealt None 0) = subst (λ q. AllAt sent_by q (dealt_to n h.dealt None 0)) (sym lanes) (same_rule d.lanes.items n n h.dealt None None d.told 0 refl refl zero_told h.lanes) in
      let all1 : AllAt sent_by e.lanes.items (dealt_to n h.dealt l 0) = λ j t at. all0 j t at ∙ none_told n h.dealt None j ∙ sym (none_told n h.dealt l j) in
      record {
        dealt = h.dealt;
        all = ap (λ b. b ++ more) h.all ∙ append_assoc h.dealt (waiting d) more ∙ ap (λ r. h.dealt ++ r) (sym ready);
        below = omega (arith, h.below, len, next);
        turn = next ∙ h.turn ∙ ap (λ m. lane_after m 0 h.dealt) (sym len);
        last_is = last;
        told = inl (told ∙ zero_told);
        most = omega (arith, told, zero_told);
        open_yet = λ z. told ∙ zero_told;
        lanes = same_rule e.lanes.items n (length e.lanes.items) h.dealt l l 0 e.told (sym len) refl (sym (told ∙ zero_told)) all1;
      }

  same_pick : (lanes : List (Receiver (Flow X))) (n m : ℕ) (parts : List X) (l : Option Last) → n ≡ m → AllAt taken_by lanes (picked_from n parts l) → AllAt taken_by lanes (picked_from m parts l)
  same_pick lanes n m parts l p all j r at = all j r at ∙ (λ i. picked_from (p i) parts l j)

  pub HasPicked_still : (d e : Picker X) (parts : List X) (l : Option Last) → HasPicked d parts l → length e.lanes.items ≡ length d.lanes.items → e.next ≡ d.next → e.last ≡ d.last → Stays taken_by d.lanes.items e.lanes.items → HasPicked e parts l
  HasPicked_still d e parts l h len next last stays = record {
    below = omega (arith, h.below, len, next);
    turn = next ∙ h.turn ∙ ap (λ n. lane_after n 0 parts) (sym len);
    last_is = last ∙ h.last_is;
    lanes = same_pick e.lanes.items (length d.lanes.items) (length e.lanes.items) parts l (sym len) (stays (picked_from (length d.lanes.items) parts l) h.lanes);
  }

  pub HasPicked_part : (d e : Picker X) (x : X) (parts : List X) → HasPicked d parts None → HasTaken d.lanes.items d.next (Part x) e.lanes.items → length e.lanes.items ≡ length d.lanes.items → e.next ≡ after (length d.lanes.items) d.next → e.next < length d.lanes.items → e.last ≡ d.last → HasPicked e (parts ++ x ∷ []) None
  HasPicked_part d e x parts h took len next below last =
      let n = length d.lanes.items in
      record {
        below = omega (arith, below, len);
        turn = next ∙ ap (after n) h.turn ∙ sym (lane_after-snoc n 0 parts x) ∙ ap (λ k. lane_after k 0 (parts ++ x ∷ [])) (sym len);
        last_is = last ∙ h.last_is;
        lanes = same_pick e.lanes.items n (length e.lanes.items) (parts ++ x ∷ []) None (sym len)
            (took.all (picked_from n parts None) (picked_from n (parts ++ x ∷ []) None) h.lanes (picked_here n d.next parts x h.turn) (picked_there n d.next parts x h.turn));
      }

  pub HasPicked_last : (d e : Picker X) (k : Last) (parts : List X) → HasPicked d parts None → HasTaken d.lanes.items d.next (item_of k) e.lanes.items → length e.lanes.items ≡ length d.lanes.items → e.next ≡ d.next → e.last ≡ Some k → HasPicked e parts (Some k)
  HasPicked_last d e k parts h took len next last =
      let n = length d.lanes.items in
      record {
        below = omega (arith, h.below, len, next);
        turn = next ∙ h.turn ∙ ap (λ m. lane_after m 0 parts) (sym len);
        last_is = last;
        lanes = same_pick e.lanes.items n (length e.lanes.items) parts (Some k) (sym len)
            (took.all (picked_from n parts None) (picked_from n parts (Some k)) h.lanes (last_here n d.next parts k h.turn) (last_there n d.next parts k h.turn));
      }
