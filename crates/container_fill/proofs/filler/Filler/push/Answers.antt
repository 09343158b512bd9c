use Rattle.std.proofs.Common.{◌≡◌, ◌+◌, ℕ, List, [], ◌∷◌, ◌++◌, length, arith, ap, ◌∙◌, sym, subst}
use Rattle.std.specs.Prelude.{option_to_list}
use Rattle.vault_types.specs.Names.{named_chunk}
use Rattle.vault_types.specs.Tables.{Container}
use Rattle.container_fill.specs.Filling.{Filling, taken_by, HasFilled, with_row, IsPut, roomed, given_for, is_over}
use Rattle.container_fill.proofs.FillerLemmas.{row-old, row-own, gone-none, is_new, filled-put, given-id, roomed-next, roomed-capacity}
use Rattle.container_fill.proofs.filler.Filler.push.Goals as goal

pub returns-in-Old-clause-filled : goal.returns-in-Old-clause-filled
returns-in-Old-clause-filled c first gone chunks hows h =
    rw c.in-Old.is
    (gone-none _ first gone _ _
    (row-old c.args.self.now c.add_row.new.self c.fp-fp.result c.in-Old.id c.len-len.result c.in_ok-add_row.ensures
    (named_chunk c.args.decided.chunk) (sym c.fp-fp.ensures) (sym c.len-len.ensures.len) first gone chunks hows h))

pub returns-in-Some : goal.returns-in-Some
returns-in-Some c =
    let now : c.add_row-in-Some.new.self ≡ with_row c.args.self.now (record { fp = c.fp-fp.result; id = c.in-Some.taker; len = c.len-len.result }) = c.in_ok-add_row-2.ensures in
    let next : c.add_row-in-Some.new.self.next ≡ c.args.self.now.next = ap (λ f. f.next) now in
    record {
      filled = λ first gone chunks hows h.
          gone-none _ first gone _ _
          (row-own c.args.self.now c.add_row-in-Some.new.self c.fp-fp.result c.in-Some.taker c.len-len.result c.args.decided.how
          (is_new c.args.decided.how c.in_default.not-Old) (sym c.place.ensures ∙ c.in-Some.is) now
          (named_chunk c.args.decided.chunk) (sym c.fp-fp.ensures) (sym c.len-len.ensures.len) first gone chunks hows h);
      id = tt;
      next = omega arith;
      capacity = ap (λ f. f.capacity) now;
    }

-- what was put, after room was made for this chunk
put : (c : goal.After-drop-chunk-inside-2) → IsPut (roomed c.args.self.now (length c.args.decided.chunk)) c.put.new.self c.args.decided.chunk
put c =
    let P : Filling → Type 0 = λ f. IsPut f c.put.new.self c.args.decided.chunk in
    subst P (c.make_room-given.ensures.filler ∙ ap (roomed c.args.self.now) c.len-len.ensures.len) c.in_ok-put.ensures

given : (c : goal.After-drop-chunk-inside-2) → option_to_list c.make_room-given.result ≡ given_for c.args.self.now (length c.args.decided.chunk)
given c = c.make_room-given.ensures.given ∙ ap (given_for c.args.self.now) c.len-len.ensures.len

pub returns : goal.returns
returns c =
    let f : Filling = c.args.self.now in
    let chunk : List ℕ = c.args.decided.chunk in
    let over = is_over f (length chunk) in
    record {
      filled = λ first gone chunks hows h.
          (let P : List Container → Type 0 = λ more. HasFilled c.put.new.self first (gone ++ more) (chunks ++ named_chunk chunk ∷ []) (hows ++ c.args.decided.how ∷ []) in
          subst P (sym (given c))
          (filled-put f c.put.new.self first gone chunks hows chunk c.args.decided.how
          (is_new c.args.decided.how c.in_default.not-Old) c.len-len.ensures.most
          (ap (taken_by f) (sym c.fp-fp.ensures) ∙ sym c.place.ensures ∙ c.in_default-place.is) (put c) h));
      id = given-id c.make_room-given.result f (length chunk) (given c);
      next = (put c).next ∙ roomed-next over f ∙ ap (λ more. f.next + length more) (sym (given c));
      capacity = (put c).capacity ∙ roomed-capacity over f;
    }
