use Rattle.std.proofs.Common.{◌≡◌, ◌∙◌, ap, sym, subst, [], ◌∷◌, ◌++◌, map, append_assoc, arith, rules}
use Rattle.std.proofs.lemmas.Grind.{common_steps}
use Rattle.std.proofs.lemmas.List.{map-append}
use Rattle.std.specs.Vec.Iter.{into_iter_items}
use Rattle.backup_jobs.specs.Going.{IsUnderway, IsPutStop, len_of}
use Rattle.backup_jobs.proofs.Jobs.{next_of_all, room_of_all, named_none, named_then, stopped_again}
use Rattle.backup_jobs.proofs.putting.put_all.Goals as goal

pub put_one-requires : goal.put_one-requires
put_one-requires g c =
    let next : c.args.sealed.items ≡ c.loop-one.yielded ++ c.in-Some.one ∷ into_iter_items c.next.new.self = c.loop-one.invariant.rest ∙ ap (λ xs. c.loop-one.yielded ++ xs) c.in-Some.ensures.steps.0 in
    let b = c.requires.0 in
    let before = c.requires.1 in
    (b, before ++ c.loop-one.yielded, c.loop-one.invariant.underway b before c.requires.3 c.requires.4 c.requires.2, next_of_all b.first before c.loop-one.yielded _ _ c.in-Some.one next c.requires.3, room_of_all b.limits.chunks before c.loop-one.yielded _ _ c.in-Some.one next c.requires.4)

pub returns-in_err-put_one-clause-err : goal.returns-in_err-put_one-clause-err
returns-in_err-put_one-clause-err g c b before numbered few h =
    let next : c.args.sealed.items ≡ c.loop-one.yielded ++ c.in-Some.one ∷ into_iter_items c.next.new.self = c.loop-one.invariant.rest ∙ ap (λ xs. c.loop-one.yielded ++ xs) c.in-Some.ensures.steps.0 in
    stopped_again (IsPutStop b c.put_one.new.keeper) c.from_residual.result c.in_err-put_one.field-0.0 c.from_residual.ensures.1
    (c.in_err-put_one.ensures.err b (before ++ c.loop-one.yielded) (next_of_all b.first before c.loop-one.yielded _ _ c.in-Some.one next numbered) (room_of_all b.limits.chunks before c.loop-one.yielded _ _ c.in-Some.one next few) (c.loop-one.invariant.underway b before numbered few h))

pub loop-one-init : goal.loop-one-init
loop-one-init g c = record {
  rest = first_of (search rules, grind (arith, common_steps));
  underway = first_of (search rules, grind (arith, common_steps));
  waits = first_of (search rules, grind (arith, common_steps));
  named = named_none _;
  lens = first_of (search rules, grind (arith, common_steps));
}

pub loop-one-preserved : goal.loop-one-preserved
loop-one-preserved g c =
    let next : c.args.sealed.items ≡ c.loop-one.yielded ++ c.in-Some.one ∷ into_iter_items c.next.new.self = c.loop-one.invariant.rest ∙ ap (λ xs. c.loop-one.yielded ++ xs) c.in-Some.ensures.steps.0 in
    record {
      rest = next ∙ sym (append_assoc c.loop-one.yielded (c.in-Some.one ∷ []) (into_iter_items c.next.new.self));
      underway = λ b before numbered few h. subst (IsUnderway b c.put_one.new.keeper) (append_assoc before c.loop-one.yielded (c.in-Some.one ∷ []))
          (c.in_ok-put_one.ensures.ok b (before ++ c.loop-one.yielded) (next_of_all b.first before c.loop-one.yielded _ _ c.in-Some.one next numbered) (room_of_all b.limits.chunks before c.loop-one.yielded _ _ c.in-Some.one next few) (c.loop-one.invariant.underway b before numbered few h));
      waits = c.in_ok-put_one.ensures.waits ∙ c.loop-one.invariant.waits;
      named = named_then _ _ _ c.loop-one.yielded (c.in-Some.one ∷ []) c.loop-one.invariant.named c.in_ok-put_one.ensures.named;
      lens = c.in_ok-put_one.ensures.lens ∙ ap (λ xs. xs ++ len_of c.in-Some.one ∷ []) c.loop-one.invariant.lens
          ∙ append_assoc c.args.lens.now.items (map len_of c.loop-one.yielded) (len_of c.in-Some.one ∷ [])
          ∙ ap (λ xs. c.args.lens.now.items ++ xs) (sym (map-append len_of c.loop-one.yielded (c.in-Some.one ∷ [])));
    }
