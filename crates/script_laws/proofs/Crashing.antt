-- What a crash leaves while lines run, from what it leaves around each.
use Rattle.std.proofs.Common.{◌≡◌, ◌⊎◌, inl, inr, ⊎_elim, Bool, true, false, not, ◌&&◌, ◌||◌, IsTrue, List, [], ◌∷◌, Option, Some, None, refl, sym, subst}
use Rattle.std.specs.Prelude.{IsSomeAnd, IfSome}
use Rattle.vault_types.specs.declared.Limits.{Limits}
use Rattle.vault_types.specs.declared.Name.{Name}
use Rattle.vault_types.specs.declared.Answer.{Answer}
use Rattle.vault_types.specs.declared.Answer.TheVariants.{Stored, Restored, Removed, Shown, Migrated, Scrubbed, Refused}
use Rattle.vault_types.specs.declared.Line.{Line}
use Rattle.vault_types.specs.State.{State, IsValid}
use Rattle.vault_types.specs.Script.{Sources, after, after_line, is_refused, is_store_fault, changes, state_after, Reaches}
use Rattle.vault_types.specs.Shelf.{Blobs, Stands}
use Rattle.vault_types.specs.Events.{Change, IsNear}
use Rattle.vault_traits.specs.Crash.{History, LeavesNowIfTold, LeavesOnlyIfTold}
use Rattle.vault_traits.specs.Told.{ShelfTold}
use Rattle.vault_traits.proofs.Moments.{then, ends, more, more_now, stays}
use Rattle.store_model.specs.Leaves.{is_change, has_change, MayBeDone, StandsForOne, IsOr, HalfBehind, BearsLines, BearsOnceDone}
use Rattle.store_model.specs.View.{IsKept}
use Rattle.store_model.specs.Steps.{Moment, IsNextOther, BearsStep, StandsWith}
use Rattle.script_laws.proofs.Following.{Follows, near_with, half_step, stand_more, reaches_start}

-- ---- of lines that are told

both_false : (a b : Bool) → a ≡ false → b ≡ false → (a || b) ≡ false
both_false true b e f = cc
both_false false b e f = f

-- what a crash leaves at the end
pub bears_at_the_end : (sources : Sources) (S : State) (Half : State → Type 0) (lines : List Line) (answers : List Answer) (old new : Option History) → BearsLines sources S Half lines answers old new
    → LeavesNowIfTold new (StandsForOne (IsOr (state_after sources S lines answers) (λ T. (Half T × (has_change lines answers ≡ false)) ⊎ MayBeDone sources S lines answers T)))
bears_at_the_end sources S Half [] answers old new bears =
    more_now (StandsForOne (IsOr S Half)) (StandsForOne _) (stand_more (IsOr S Half) _ (λ T is. ⊎_elim (λ e. inl e) (λ half. inr (inl (half, refl))) is)) new (ends (StandsForOne (IsOr S Half)) old new bears)
bears_at_the_end sources S Half (line ∷ lines) [] old new bears = absurd bears
bears_at_the_end sources S Half (line ∷ lines) (answer ∷ answers) old new bears =
    more_now (StandsForOne (IsOr (state_after sources S' lines answers) Rest)) (StandsForOne (IsOr (state_after sources S' lines answers) All))
    (stand_more _ _ (λ T is. ⊎_elim (λ e. inl e) (λ left. inr (goes T left)) is)) new
    (bears_at_the_end sources S' (HalfBehind sources S line answer Half) lines answers bears.0 new bears.3)
  where
    S' : State
    S' = after sources S line answer

    Rest : State → Type 0
    Rest T = (HalfBehind sources S line answer Half T × (has_change lines answers ≡ false)) ⊎ MayBeDone sources S' lines answers T

    All : State → Type 0
    All T = (Half T × (has_change (line ∷ lines) (answer ∷ answers) ≡ false)) ⊎ MayBeDone sources S (line ∷ lines) (answer ∷ answers) T

    goes : (T : State) → Rest T → All T
    goes T (inl (inl (no_change, half), none)) = inl (half, both_false _ _ no_change none)
    goes T (inl (inr (failed, change, is), none)) = inr (inl (failed, change, none, is))
    goes T (inr later) = inr (inr later)

-- what a crash leaves at any moment: a state that the lines reach, or that of a change from before
pub bears_any_moment : (sources : Sources) (S : State) (Half : State → Type 0) (lines : List Line) (answers : List Answer) (old new : Option History) → BearsLines sources S Half lines answers old new
    → LeavesOnlyIfTold old new (StandsForOne (λ T. Half T ⊎ Reaches sources S lines answers T))
bears_any_moment sources S Half [] answers old new bears = more (StandsForOne (IsOr S Half)) (StandsForOne _) (stand_more (IsOr S Half) _ (λ T is. ⊎_elim (λ e. inr e) (λ half. inl half) is)) old new bears
bears_any_moment sources S Half (line ∷ lines) [] old new bears = absurd bears
bears_any_moment sources S Half (line ∷ lines) (answer ∷ answers) old new bears =
    then (StandsForOne All) old bears.0 new (more (StandsForOne First) (StandsForOne All) (stand_more First All first) old bears.0 bears.1)
    (more (StandsForOne Rest) (StandsForOne All) (stand_more Rest All rest) bears.0 new (bears_any_moment sources S' Half' lines answers bears.0 new bears.3))
  where
    S' : State
    S' = after sources S line answer

    Half' : State → Type 0
    Half' = HalfBehind sources S line answer Half

    First : State → Type 0
    First T = IsOr S Half T ⊎ IsOr S' Half' T

    Rest : State → Type 0
    Rest T = Half' T ⊎ Reaches sources S' lines answers T

    All : State → Type 0
    All T = Half T ⊎ Reaches sources S (line ∷ lines) (answer ∷ answers) T

    left : (T : State) → Half' T → All T
    left T (inl (no_change, half)) = inl half
    left T (inr done) = inr (inr (inl done))

    first : (T : State) → First T → All T
    first T (inl (inl e)) = inr (inl e)
    first T (inl (inr half)) = inl half
    first T (inr (inl e)) = inr (inr (inr (subst (λ (U : State). Reaches sources S' lines answers U) (sym e) (reaches_start sources S' lines answers))))
    first T (inr (inr half)) = left T half

    rest : (T : State) → Rest T → All T
    rest T (inl half) = left T half
    rest T (inr later) = inr (inr (inr later))

-- ---- of a chain of lines

-- a change that was done leaves none half done
none_behind : (sources : Sources) (S : State) (other next : Option Change) (line : Line) (answer : Answer) → IsNextOther sources S other line answer next → IsTrue (is_change line answer)
    → (T : State) → IsSomeAnd next (λ h. h.state ≡ T) → ⊥
none_behind sources S other next line answer is done T here = ⊎_elim (λ (h : (is_change line answer ≡ false) × ⊥). h.1) (λ (h : IsTrue (is_store_fault answer) × IsTrue (changes line) × (T ≡ after_line sources S line)). clash (changes line) answer h.0 done)
    (half_step sources S None next line answer (λ T. ⊥) (as_none is) (λ T none. none) T here)
  where
    clash : (c : Bool) (a : Answer) → IsTrue (is_store_fault a) → IsTrue (c && not (is_refused a)) → ⊥
    clash true (Refused f) failed is = let e : false ≡ true = is in cc
    clash false a failed is = let e : false ≡ true = is in cc
    clash true (Stored s v chunks bytes containers written sparse) failed is = let e : false ≡ true = failed in cc
    clash true (Restored s v bytes loads) failed is = let e : false ≡ true = failed in cc
    clash true (Removed s n floor reclaimed) failed is = let e : false ≡ true = failed in cc
    clash true (Shown s v rows) failed is = let e : false ≡ true = failed in cc
    clash true (Migrated recipes) failed is = let e : false ≡ true = failed in cc
    clash true (Scrubbed containers damaged) failed is = let e : false ≡ true = failed in cc

    unchanged : (c : Bool) (a : Answer) → (IsTrue (is_refused a) ⊎ (c ≡ false)) → IsTrue (c && not (is_refused a)) → ⊥
    unchanged true a (inl refused) is = let e : (true && not true) ≡ true = subst (λ (b : Bool). (true && not b) ≡ true) refused is in cc
    unchanged true a (inr e) is = cc
    unchanged false a why is = let e : false ≡ true = is in cc

    as_none : IsNextOther sources S other line answer next → IsNextOther sources S None line answer next
    as_none (inl none) = inl none
    as_none (inr (inl same)) = absurd (unchanged (changes line) answer same.0 done)
    as_none (inr (inr half)) = inr (inr half)

-- what stands for the state or for that with the change, stands for a valid one
one_of : (S : State) (other : Option Change) (May : State → Type 0) → IsValid S → IfSome other (λ h. IsValid h.state) → May S → ((T : State) → IsSomeAnd other (λ h. h.state ≡ T) → May T) → (m : Blobs)
    → StandsWith S other m → StandsForOne May m
one_of S other May valid changed here there m (inl stands) = (S, here, valid, stands)
one_of S None May valid changed here there m (inr none) = absurd none
one_of S (Some h) May valid changed here there m (inr stands) = (h.state, there h.state refl, changed, stands)

-- where a line begins and the others follow it

-- the states are valid, also those of the changes that may be half done
pub record AreValid (S : State) (other : Option Change) : Type 0 where
  pub valid : IsValid S
  pub changed : IfSome other (λ h. IsValid h.state)

-- the state of the change, if there is one
abbrev pub OfChange : Option Change → State → Type 0
OfChange other T = IsSomeAnd other (λ h. h.state ≡ T)

-- what is near a state stands for it or for that of the change
pub one_near : (S : State) (other : Option Change) → AreValid S other → (m : Blobs) → IsNear S other m → StandsForOne (IsOr S (OfChange other)) m
one_near S other is m near = one_of S other (IsOr S (OfChange other)) is.valid is.changed (inl refl) (λ T h. inr h) m (near_with S other m near)

-- with more changes that may be half done
pub bears_more : (sources : Sources) (S : State) (Half More : State → Type 0) (lines : List Line) (answers : List Answer) (old new : Option History) → ((T : State) → Half T → More T)
    → BearsLines sources S Half lines answers old new → BearsLines sources S More lines answers old new
bears_more sources S Half More [] answers old new wider bears =
    more (StandsForOne (IsOr S Half)) (StandsForOne (IsOr S More)) (stand_more (IsOr S Half) (IsOr S More) (λ T is. ⊎_elim (λ e. inl e) (λ h. inr (wider T h)) is)) old new bears
bears_more sources S Half More (line ∷ lines) [] old new wider bears = absurd bears
bears_more sources S Half More (line ∷ lines) (answer ∷ answers) old new wider bears = (
  bears.0,
  more (StandsForOne (λ T. IsOr S Half T ⊎ IsOr S' Half' T)) (StandsForOne (λ T. IsOr S More T ⊎ IsOr S' More' T))
      (stand_more _ _ (λ T is. ⊎_elim (λ (w : IsOr S Half T). inl (⊎_elim (λ e. inl e) (λ h. inr (wider T h)) w)) (λ (w : IsOr S' Half' T). inr (or T w)) is)) old bears.0 bears.1,
  more_now (StandsForOne (IsOr S' Half')) (StandsForOne (IsOr S' More')) (stand_more (IsOr S' Half') (IsOr S' More') or) bears.0 bears.2,
  bears_more sources S' Half' More' lines answers bears.0 new behind bears.3,
)
  where
    S' : State
    S' = after sources S line answer

    Half' : State → Type 0
    Half' = HalfBehind sources S line answer Half

    More' : State → Type 0
    More' = HalfBehind sources S line answer More

    behind : (T : State) → Half' T → More' T
    behind T (inl here) = inl (here.0, wider T here.1)
    behind T (inr done) = inr done

    or : (T : State) → IsOr S' Half' T → IsOr S' More' T
    or T (inl e) = inl e
    or T (inr half) = inr (behind T half)

-- before any line: what changes nothing
pub bears_later : (sources : Sources) (S : State) (Half : State → Type 0) (lines : List Line) (answers : List Answer) (old mid new : Option History) → LeavesOnlyIfTold old mid (StandsForOne (IsOr S Half))
    → BearsLines sources S Half lines answers mid new → BearsLines sources S Half lines answers old new
bears_later sources S Half [] answers old mid new first bears = then (StandsForOne (IsOr S Half)) old mid new first bears
bears_later sources S Half (line ∷ lines) [] old mid new first bears = absurd bears
bears_later sources S Half (line ∷ lines) (answer ∷ answers) old mid new first bears = (
  bears.0,
  then (StandsForOne Either) old mid bears.0 (more (StandsForOne (IsOr S Half)) (StandsForOne Either) (stand_more (IsOr S Half) Either (λ T is. inl is)) old mid first) bears.1,
  bears.2,
  bears.3,
)
  where
    Either : State → Type 0
    Either T = IsOr S Half T ⊎ IsOr (after sources S line answer) (HalfBehind sources S line answer Half) T

module _ (sources : Sources) (S : State) (other next : Option Change) (line : Line) (answer : Answer) (lines : List Line) (answers : List Answer) where
  abbrev pub Behind : State
  Behind = after sources S line answer

  pub bears_line : (old mid new : Option History) → AreValid S other → AreValid Behind next → IsNextOther sources S other line answer next → BearsStep sources S other line answer next old mid
      → BearsLines sources Behind (OfChange next) lines answers mid new → BearsLines sources S (OfChange other) (line ∷ lines) (answer ∷ answers) old new
  bears_line old mid new was is next_other step rest = (
    mid,
    more (λ m. StandsWith S other m ⊎ StandsWith Behind next m) (StandsForOne (λ T. IsOr S (OfChange other) T ⊎ IsOr Behind Half T))
        (λ m e. ⊎_elim (λ w. one_of S other _ was.valid was.changed (inl (inl refl)) (λ T h. inl (inr h)) m w) (λ w. one_of Behind next _ is.valid is.changed (inr (inl refl)) (λ T h. inr (inr (left T h))) m w) e)
        old mid step.any_moment,
    more_now (StandsForOne (IsOr Behind (OfChange next))) (StandsForOne (IsOr Behind Half)) (stand_more (IsOr Behind (OfChange next)) (IsOr Behind Half) (λ T h. ⊎_elim (λ e. inl e) (λ here. inr (left T here)) h)) mid
        (more_now (IsNear Behind next) (StandsForOne (IsOr Behind (OfChange next))) (one_near Behind next is) mid step.behind),
    bears_more sources Behind (OfChange next) Half lines answers mid new left rest,
  )
    where
      Half : State → Type 0
      Half = HalfBehind sources S line answer (OfChange other)

      left : (T : State) → OfChange next T → Half T
      left = half_step sources S other next line answer (OfChange other) next_other (λ T h. h)

  pub once_line : (mid new : Option History) → AreValid Behind next → IsNextOther sources S other line answer next → (IsTrue (is_change line answer) → LeavesNowIfTold mid (λ m. Stands m Behind))
      → (LeavesNowIfTold mid (IsNear Behind next) → BearsLines sources Behind (OfChange next) lines answers mid new)
      → BearsOnceDone sources Behind lines answers new → BearsOnceDone sources S (line ∷ lines) (answer ∷ answers) new
  once_line mid new is next_other settles bears rest = (
    λ done. (
      mid,
      more_now (λ m. Stands m Behind) (StandsForOne (λ T. T ≡ Behind)) (λ m stands. (Behind, refl, is.valid, stands)) mid (settles done),
      bears_more sources Behind (OfChange next) (λ T. ⊥) lines answers mid new (none_behind sources S other next line answer next_other done)
          (bears (more_now (λ m. Stands m Behind) (IsNear Behind next) (λ m stands. inl stands) mid (settles done))),
    ),
    rest,
  )

module _ {K : Type 0} (shelf : K → ShelfTold) (keeps : K → State → Option Change → Type 0) (known : K → Name → Type 0) (keeps_is : (k : K) (S : State) (other : Option Change) → keeps k S other → IsKept (shelf k) S other) (limits : Limits) where
  pub are_valid : (k : K) (S : State) (other : Option Change) → keeps k S other → AreValid S other
  are_valid k S other keep = let is = keeps_is k S other keep in record { valid = is.valid; changed = is.changed }

  pub crashes : (sources : Sources) (S : State) (other : Option Change) (old new : Moment K) (lines : List Line) (answers : List Answer) → keeps old.keeper S other → Follows shelf keeps known limits sources S other old lines answers new
      → LeavesNowIfTold (shelf old.keeper).history (IsNear S other) → BearsLines sources S (OfChange other) lines answers (shelf old.keeper).history (shelf new.keeper).history
  crashes sources S other old new [] [] keep chain here =
      subst (λ (m : Moment K). LeavesOnlyIfTold (shelf old.keeper).history (shelf m.keeper).history (StandsForOne (IsOr S (OfChange other)))) (sym chain)
      (stays (StandsForOne (IsOr S (OfChange other))) _ _ refl (more_now (IsNear S other) (StandsForOne (IsOr S (OfChange other))) (one_near S other (are_valid old.keeper S other keep)) _ here))
  crashes sources S other old new [] (answer ∷ answers) keep chain here = absurd chain
  crashes sources S other old new (line ∷ lines) [] keep chain here = absurd chain
  crashes sources S other old new (line ∷ lines) (answer ∷ answers) keep chain here =
      let step = chain.3.crash here in
      bears_line sources S other chain.1 line answer lines answers _ (shelf chain.0.keeper).history _ (are_valid old.keeper S other keep) (are_valid chain.0.keeper (after sources S line answer) chain.1 chain.2) chain.3.next_other step
      (crashes sources (after sources S line answer) chain.1 chain.0 new lines answers chain.2 chain.6 step.behind)

  pub once : (sources : Sources) (S : State) (other : Option Change) (old new : Moment K) (lines : List Line) (answers : List Answer) → Follows shelf keeps known limits sources S other old lines answers new
      → BearsOnceDone sources S lines answers (shelf new.keeper).history
  once sources S other old new [] answers chain = tt
  once sources S other old new (line ∷ lines) [] chain = tt
  once sources S other old new (line ∷ lines) (answer ∷ answers) chain =
      once_line sources S other chain.1 line answer lines answers (shelf chain.0.keeper).history (shelf new.keeper).history (are_valid chain.0.keeper (after sources S line answer) chain.1 chain.2) chain.3.next_other chain.3.settles
      (crashes sources (after sources S line answer) chain.1 chain.0 new lines answers chain.2 chain.6)
      (once sources (after sources S line answer) chain.1 chain.0 new lines answers chain.6)

-- ---- of lines that began with no change half done

pub alone_any_moment : (sources : Sources) (S : State) (lines : List Line) (answers : List Answer) (old new : Option History) → BearsLines sources S (λ T. ⊥) lines answers old new
    → LeavesOnlyIfTold old new (StandsForOne (Reaches sources S lines answers))
alone_any_moment sources S lines answers old new bears =
    more (StandsForOne (λ T. ⊥ ⊎ Reaches sources S lines answers T)) (StandsForOne (Reaches sources S lines answers)) (stand_more _ _ (λ T is. ⊎_elim (λ (none : ⊥). absurd none) (λ h. h) is)) old new
    (bears_any_moment sources S (λ T. ⊥) lines answers old new bears)

pub alone_at_the_end : (sources : Sources) (S : State) (lines : List Line) (answers : List Answer) (old new : Option History) → BearsLines sources S (λ T. ⊥) lines answers old new
    → LeavesNowIfTold new (StandsForOne (IsOr (state_after sources S lines answers) (MayBeDone sources S lines answers)))
alone_at_the_end sources S lines answers old new bears =
    more_now (StandsForOne (IsOr (state_after sources S lines answers) Left)) (StandsForOne (IsOr (state_after sources S lines answers) (MayBeDone sources S lines answers)))
    (stand_more _ _ (λ T is. ⊎_elim (λ e. inl e) (λ left. inr (⊎_elim (λ (h : ⊥ × (has_change lines answers ≡ false)). absurd h.0) (λ h. h) left)) is)) new
    (bears_at_the_end sources S (λ T. ⊥) lines answers old new bears)
  where
    Left : State → Type 0
    Left T = (⊥ × (has_change lines answers ≡ false)) ⊎ MayBeDone sources S lines answers T

-- behind a change that was done, whatever could be left before
pub settled_at_the_end : (sources : Sources) (S : State) (lines : List Line) (answers : List Answer) (new : Option History) → BearsOnceDone sources S lines answers new → IsTrue (has_change lines answers)
    → LeavesNowIfTold new (StandsForOne (IsOr (state_after sources S lines answers) (MayBeDone sources S lines answers)))
settled_at_the_end sources S [] answers new once is = absurd (let clash : false ≡ true = is in cc)
settled_at_the_end sources S (line ∷ lines) [] new once is = absurd (let clash : false ≡ true = is in cc)
settled_at_the_end sources S (line ∷ lines) (answer ∷ answers) new once is =
    more_now (StandsForOne (IsOr (state_after sources (after sources S line answer) lines answers) (MayBeDone sources (after sources S line answer) lines answers)))
    (StandsForOne (IsOr (state_after sources S (line ∷ lines) (answer ∷ answers)) (MayBeDone sources S (line ∷ lines) (answer ∷ answers))))
    (stand_more _ _ (λ T h. ⊎_elim (λ e. inl e) (λ left. inr (inr left)) h)) new
    (⊎_elim (λ here. let done = once.0 here in alone_at_the_end sources (after sources S line answer) lines answers done.0 new done.2)
    (λ later. settled_at_the_end sources (after sources S line answer) lines answers new once.1 later)
    (one_of_both (is_change line answer) (has_change lines answers) is))
  where
    one_of_both : (a b : Bool) → IsTrue (a || b) → IsTrue a ⊎ IsTrue b
    one_of_both true b h = inl refl
    one_of_both false b h = inr h
