-- What is due of the decisions, as it is given.
use Rattle.std.proofs.Common.{◌≡◌, inl, inr, ⊎_elim, ℕ, ◌+◌, ◌-◌, ◌<◌, ◌≤◌, Bool, true, false, List, [], ◌++◌, length, take, refl, sym, ap, ◌∙◌, subst, append_assoc, append-nil, Option, Some, None, arith, length-append}
use Rattle.std.specs.Prelude.{IsSome, nat_le, cond}
use Rattle.std.proofs.lemmas.Bool.Decides.{nat_tests}
use Rattle.std.proofs.lemmas.List.{take-append-le, take_all}
use Rattle.std.proofs.Math.Seq.{take-append-add}
use Rattle.fp_index.specs.Index.{found_in}
use Rattle.vault_types.specs.declared.Fault.TheVariants as fault
use Rattle.vault_types.specs.declared.Fp.{Fp}
use Rattle.vault_types.specs.declared.How.{How}
use Rattle.vault_types.specs.Names.{NamedChunk}
use Rattle.vault_types.specs.Decide.{Rules}
use Rattle.vault_types.specs.Stages.{IsFront, decided_parts, complete_chunks}
use Rattle.rewrite_stage.specs.declared.Decided.{Decided}
use Rattle.segment_gather.specs.Segmented.{parts_of}
use Rattle.segment_gather.specs.Gathering.{HasGathered, answers_of, index_of}
use Rattle.segment_gather.specs.declared.gatherer.Gatherer.{Gatherer}
use Rattle.segment_gather.proofs.Later.{gathered_front}
use Rattle.segment_gather.proofs.Complete.{gathered_due, gathered_later}
use Rattle.stage_flows.specs.declared.Last.{Last}
use Rattle.stage_flows.specs.declared.Last.TheVariants as last
use Rattle.stage_flows.specs.Runs.{is_end, memory}
use Rattle.stage_rules.specs.Chunking.{limited_last}
use Rattle.stage_rules.specs.Deciding.{IsDeciding, decisions_due, whole_segments}
use Rattle.decide_stage.specs.Deciding.{ShortAt}

module _ (find : Fp → Option ℕ) (r : Rules) (limit : ℕ) (chunks : List NamedChunk) (over : Option Last) where
  -- within the limit
  due_within : length chunks ≤ limit → decisions_due find r limit chunks over ≡ decided_parts find r (whole_segments r.config.segment chunks over)
  due_within few = let yes : nat_le (length chunks) limit ≡ true = grind (arith, nat_tests) in rw yes refl

  last_within : length chunks ≤ limit → limited_last limit (length chunks) over ≡ over
  last_within few = let yes : nat_le (length chunks) limit ≡ true = grind (arith, nat_tests) in rw yes refl

  -- beyond it
  due_beyond : limit < length chunks → decisions_due find r limit chunks over ≡ decided_parts find r (complete_chunks r.config.segment (take (limit + 1) chunks))
  due_beyond many = let off : nat_le (length chunks) limit ≡ false = grind (arith, nat_tests) in rw off refl

  last_beyond : limit < length chunks → limited_last limit (length chunks) over ≡ Some (last.Failed (fault.TooMany limit))
  last_beyond many = let off : nat_le (length chunks) limit ≡ false = grind (arith, nat_tests) in rw off refl

  -- what begins what is due whatever is due
  front_of_due : (parts : List (NamedChunk × How)) → IsFront parts (decided_parts find r chunks) → IsFront parts (decided_parts find r (complete_chunks r.config.segment chunks)) → (limit < length chunks → IsFront parts (decided_parts find r (complete_chunks r.config.segment (take (limit + 1) chunks))))
      → IsFront parts (decisions_due find r limit chunks over)
  front_of_due parts all complete beyond = step (nat_le (length chunks) limit) refl
    where
      either : (b : Bool) → IsFront parts (decided_parts find r (cond b chunks (complete_chunks r.config.segment chunks)))
      either true = all
      either false = complete

      step : (b : Bool) → nat_le (length chunks) limit ≡ b → IsFront parts (decisions_due find r limit chunks over)
      step true e = let few : length chunks ≤ limit = grind (arith, nat_tests) in subst (IsFront parts) (sym (due_within few)) (either (is_end over))
      step false e = let many : limit < length chunks = grind (arith, nat_tests) in subst (IsFront parts) (sym (due_beyond many)) (beyond many)

-- a gatherer that took these chunks, and no last item is due but the one that came
pub due_taken : (g g' : Gatherer) (r : Rules) (limit : ℕ) (chunks : List NamedChunk) (over : Option Last) (gone : List (NamedChunk × How)) (l : Option Last) → HasGathered g' r chunks gone → index_of g' ≡ index_of g → length chunks ≤ limit → is_end over ≡ false → l ≡ over
    → IsDeciding (answers_of g) r limit chunks over gone l
due_taken g g' r limit chunks over gone l h same few unended is = inl (
  subst (λ q. gone ≡ decided_parts (found_in q) r (complete_chunks r.config.segment chunks)) same (gathered_due g' r chunks gone h)
      ∙ ap (λ b. decided_parts (answers_of g) r (cond b chunks (complete_chunks r.config.segment chunks))) (sym unended)
      ∙ sym (due_within (answers_of g) r limit chunks over few),
  is ∙ sym (last_within (answers_of g) r limit chunks over few),
)

-- one that took a chunk too many
pub due_many : (g g' : Gatherer) (r : Rules) (limit : ℕ) (chunks : List NamedChunk) (over : Option Last) (gone : List (NamedChunk × How)) (l : Option Last) → HasGathered g' r chunks gone → index_of g' ≡ index_of g → length chunks ≡ limit + 1 → l ≡ Some (last.Failed (fault.TooMany limit))
    → IsDeciding (answers_of g) r limit chunks over gone l
due_many g g' r limit chunks over gone l h same count is =
    let many : limit < length chunks = omega arith in
    inl (
      subst (λ q. gone ≡ decided_parts (found_in q) r (complete_chunks r.config.segment chunks)) same (gathered_due g' r chunks gone h)
          ∙ ap (λ q. decided_parts (answers_of g) r (complete_chunks r.config.segment q)) (sym (take_all (limit + 1) chunks (omega arith)))
          ∙ sym (due_beyond (answers_of g) r limit chunks over many),
      is ∙ sym (last_beyond (answers_of g) r limit chunks over many),
    )

-- one that decided all
pub due_all : (find : Fp → Option ℕ) (r : Rules) (limit : ℕ) (chunks : List NamedChunk) (parts : List (NamedChunk × How)) (l : Option Last) → parts ≡ decided_parts find r chunks → length chunks ≤ limit → l ≡ Some last.End → IsDeciding find r limit chunks (Some last.End) parts l
due_all find r limit chunks parts l all few is = inl (all ∙ sym (due_within find r limit chunks (Some last.End) few), is ∙ sym (last_within find r limit chunks (Some last.End) few))

-- one that had no memory for what came next
module _ (g : Gatherer) (r : Rules) (limit : ℕ) (chunks : List NamedChunk) (gone : List (NamedChunk × How)) (next : List NamedChunk) (more : List Decided) (none : more ≡ []) (h : HasGathered g r chunks gone) (few : length (chunks ++ next) ≤ limit + 1) where
  nothing_more : gone ++ parts_of more ≡ gone
  nothing_more = ap (λ q. gone ++ parts_of q) none ∙ append-nil gone

  pub due_short : (over l : Option Last) → l ≡ memory → IsDeciding (answers_of g) r limit (chunks ++ next) over (gone ++ parts_of more) l
  due_short over l is = inr (
    subst (λ q. IsFront q (decisions_due (answers_of g) r limit (chunks ++ next) over)) (sym nothing_more)
        (front_of_due (answers_of g) r limit (chunks ++ next) over gone (gathered_front g r chunks gone h next) (gathered_later g r chunks gone h next)
        (λ many. subst (λ q. IsFront gone (decided_parts (answers_of g) r (complete_chunks r.config.segment q))) (sym (take_all (limit + 1) (chunks ++ next) few)) (gathered_later g r chunks gone h next))),
    is,
  )

  pub short_here : ShortAt (answers_of g) r limit (chunks ++ next) (gone ++ parts_of more)
  short_here = record {
    base = chunks ++ next;
    base_is = ([], append-nil (chunks ++ next));
    few = few;
    later = λ ms. subst (λ (z : List (NamedChunk × How) × List NamedChunk). IsFront z.0 (decided_parts (answers_of g) r (complete_chunks r.config.segment z.1))) (λ i. (sym nothing_more i, sym (append_assoc chunks next ms) i)) (gathered_later g r chunks gone h (next ++ ms));
  }

-- a chunk, or a last item, that is dropped
module _ (find : Fp → Option ℕ) (r : Rules) (limit : ℕ) (chunks next : List NamedChunk) (parts : List (NamedChunk × How)) (l : Option Last) where
  pub short_stays : ShortAt find r limit chunks parts → ShortAt find r limit (chunks ++ next) parts
  short_stays s = record {
    base = s.base;
    base_is = (s.base_is.0 ++ next, sym (append_assoc s.base s.base_is.0 next) ∙ ap (λ q. q ++ next) s.base_is.1);
    few = s.few;
    later = s.later;
  }

  beyond : ShortAt find r limit chunks parts → limit < length (chunks ++ next) → IsFront parts (decided_parts find r (complete_chunks r.config.segment (take (limit + 1) (chunks ++ next))))
  unfolding short_stays
  beyond s many =
      let t = short_stays s in
      let n : length s.base + ((limit + 1) - length s.base) ≡ limit + 1 = (let m = s.few in omega arith) in
      let cut : take (limit + 1) (chunks ++ next) ≡ s.base ++ take ((limit + 1) - length s.base) t.base_is.0 =
      ap (take (limit + 1)) (sym t.base_is.1) ∙ ap (λ k. take k (s.base ++ t.base_is.0)) (sym n) ∙ take-append-add s.base t.base_is.0 ((limit + 1) - length s.base) in
      subst (λ q. IsFront parts (decided_parts find r (complete_chunks r.config.segment q))) (sym cut) (s.later (take ((limit + 1) - length s.base) t.base_is.0))

  pub due_stays : (over : Option Last) → IsSome l → (l ≡ memory → ShortAt find r limit chunks parts) → ((l ≡ Some last.End → ⊥) → IsFront parts (decided_parts find r (chunks ++ next)))
      → IsDeciding find r limit chunks None parts l → IsDeciding find r limit (chunks ++ next) over parts l
  unfolding short_stays
  due_stays over some short front s = ⊎_elim
      (λ (e : (parts ≡ decisions_due find r limit chunks None) × (l ≡ limited_last limit (length chunks) None)). exact (nat_le (length chunks) limit) refl e)
      (λ (e : IsFront parts (decisions_due find r limit chunks None) × (l ≡ memory)).
      let at = short e.1 in let t = short_stays at in
      inr (
        front_of_due find r limit (chunks ++ next) over parts
            (front (λ is. let clash : memory ≡ Some last.End = sym e.1 ∙ is in cc))
            (subst (λ q. IsFront parts (decided_parts find r (complete_chunks r.config.segment q))) t.base_is.1 (at.later t.base_is.0))
            (beyond at),
        e.1,
      ))
      s
    where
      exact : (b : Bool) → nat_le (length chunks) limit ≡ b → (parts ≡ decisions_due find r limit chunks None) × (l ≡ limited_last limit (length chunks) None) → IsDeciding find r limit (chunks ++ next) over parts l
      exact true t e = let few : length chunks ≤ limit = grind (arith, nat_tests) in
          let none : l ≡ None = e.1 ∙ last_within find r limit chunks None few in absurd (let gone = subst IsSome none some in cc)
      exact false t e =
          let many : limit < length chunks = grind (arith, nat_tests) in
          let more : length (chunks ++ next) ≡ length chunks + length next = length-append chunks next in
          let many' : limit < length (chunks ++ next) = omega arith in
          inl (
            e.0 ∙ due_beyond find r limit chunks None many
                ∙ ap (λ q. decided_parts find r (complete_chunks r.config.segment q)) (sym (take-append-le (limit + 1) chunks next (omega arith)))
                ∙ sym (due_beyond find r limit (chunks ++ next) over many'),
            e.1 ∙ last_beyond find r limit chunks None many ∙ sym (last_beyond find r limit (chunks ++ next) over many'),
          )
