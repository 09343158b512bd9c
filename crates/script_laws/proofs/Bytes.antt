-- Versions have their bytes behind lines, as long as they are kept.
use Rattle.std.proofs.Common.{◌≡◌, ◌⊎◌, inl, inr, ⊎_elim, ℕ, ◌<◌, ◌≤◌, ◌+◌, ◌-◌, length, Bool, true, false, cond, IsTrue, Option, Some, None, List, [], ◌∷◌, ◌++◌, map, refl, sym, ◌∙◌, ap, subst, arith}
use Rattle.std.specs.Prelude.{max, nat_lt, slice_get, slice_index_or, if◌then◌else◌, MatchOption}
use Rattle.std.proofs.lemmas.Bool.Decides.{nat_tests}
use Rattle.vault_types.specs.declared.Answer.{Answer}
use Rattle.vault_types.specs.declared.Answer.TheVariants as answer
use Rattle.vault_types.specs.declared.Answer.TheVariants.{Refused}
use Rattle.vault_types.specs.declared.Fault.TheVariants as fault
use Rattle.vault_types.specs.declared.JobConfig.{JobConfig}
use Rattle.vault_types.specs.declared.Limits.{Limits}
use Rattle.vault_types.specs.declared.Line.{Line}
use Rattle.vault_types.specs.declared.Line.TheVariants.{Backup, Restore, Delete}
use Rattle.vault_types.specs.Cuts.{cuts}
use Rattle.vault_types.specs.Names.{named_chunk, fp}
use Rattle.vault_types.specs.State.{State, Dataset, KeptVersion, dataset, empty_dataset, floor_of, latest_of, version_in, version_of, IsValid}
use Rattle.vault_types.specs.Bytes.{bytes_of, IsSound}
use Rattle.vault_types.specs.Backup.{backup, stored, filling, version_from}
use Rattle.vault_types.specs.Delete.{delete, removed}
use Rattle.vault_types.specs.Fill.{Filled}
use Rattle.vault_types.specs.Script.{Sources, after, after_line, state_after, is_refused, is_store_fault, changes, IsAnswer, IsDone, Reaches}
use Rattle.vault_types.specs.Refusals.{refuses_by_state, IsExact}
use Rattle.vault_types.proofs.GrowLemmas.{version_of-new, version_of-kept}
use Rattle.vault_types.proofs.NextLemmas.{backed_up_bytes}
use Rattle.vault_types.proofs.StateLemmas.{own_version}
use Rattle.state_laws.proofs.Changing.{version_low}
use Rattle.state_laws.proofs.Growing as growing
use Rattle.state_laws.proofs.Shrinking as shrinking
use Rattle.store_model.specs.Complete.{IsWell}
use Rattle.store_model.specs.Keeping.{MakesVersion, MakeVersion, HasBytesOf, KeepBytes}
use Rattle.store_model.specs.Table.{MeanLines}
use Rattle.script_laws.proofs.Staying.{in_range, set_past, get_past, below_set, clash_of_source, bytes_kept, well_behind}

-- all is well before each line, each is answered, and the states are valid
abbrev pub Goes : Limits → Sources → State → List Line → List Answer → Type 0
Goes limits sources S [] [] = IsValid S
Goes limits sources S [] (answer ∷ answers) = ⊥
Goes limits sources S (line ∷ lines) [] = ⊥
Goes limits sources S (line ∷ lines) (answer ∷ answers) =
    IsWell limits sources S (line ∷ lines) × IsAnswer sources S line answer × IsValid (after sources S line answer) × Goes limits sources (after sources S line answer) lines answers

-- the same without what makes all well
abbrev pub GoesOn : Sources → State → List Line → List Answer → Type 0
GoesOn sources S [] [] = IsValid S
GoesOn sources S [] (answer ∷ answers) = ⊥
GoesOn sources S (line ∷ lines) [] = ⊥
GoesOn sources S (line ∷ lines) (answer ∷ answers) =
    IsValid S × IsAnswer sources S line answer × IsValid (after sources S line answer) × GoesOn sources (after sources S line answer) lines answers

goes_on : (limits : Limits) (sources : Sources) (S : State) (lines : List Line) (answers : List Answer) → Goes limits sources S lines answers → GoesOn sources S lines answers
goes_on limits sources S [] [] go = go
goes_on limits sources S [] (answer ∷ answers) go = absurd go
goes_on limits sources S (line ∷ lines) [] go = absurd go
goes_on limits sources S (line ∷ lines) (answer ∷ answers) go = (go.0.sound.valid, go.1, go.2, goes_on limits sources (after sources S line answer) lines answers go.3)

-- ---- floors rise, and a version goes only below one

abbrev filled : Sources → State → ℕ → List ℕ → JobConfig → Filled
filled sources S s name config = filling S s (map named_chunk (cuts (sources name) config.cutting)) config

abbrev new_version : Sources → State → ℕ → List ℕ → JobConfig → KeptVersion
new_version sources S s name config = version_from S (filled sources S s name config) (fp (sources name)) config

floor_of_line : (sources : Sources) (S : State) (line : Line) (answer : Answer) (t : ℕ) → IsValid S → IsDone sources S line answer → floor_of S t ≤ floor_of (after_line sources S line) t
floor_of_line sources S (Backup s name config) answer t valid done = ⊎_elim
    (λ below. let e = growing.floor_same S s (new_version sources S s name config) (filled sources S s name config).containers valid below t in omega arith)
    (λ past. let e : floor_of (backup S s (sources name) config) t ≡ floor_of S t = ap (λ (ds : List Dataset). (slice_index_or ds t empty_dataset).floor) (set_past S.datasets s _ past) in omega arith)
    (in_range s (length S.datasets))
floor_of_line sources S (Restore s v name cache) answer t valid done = omega arith
floor_of_line sources S (Delete s n) answer t valid done = ⊎_elim
    (λ here.
    let e : floor_of (delete S s n) t ≡ max (floor_of S s) (n + 1) = ap (λ (d : Dataset). d.floor) here.1 in
    let f : floor_of S t ≡ floor_of S s = ap (λ (u : ℕ). floor_of S u) here.0 in
    omega arith)
    (λ there. let e : floor_of (delete S s n) t ≡ floor_of S t = ap (λ (d : Dataset). d.floor) there.1 in omega arith)
    (shrinking.at_set S s n valid (below_set S s n done.0) done.0 t)

-- behind a line a version is there as it was, or lies below the floor
stays_or_low : (sources : Sources) (S : State) (line : Line) (answer : Answer) (t v : ℕ) (j : KeptVersion) → IsValid S → IsDone sources S line answer → version_of S t v ≡ Some j
    → (version_of (after_line sources S line) t v ≡ Some j) ⊎ (v < floor_of (after_line sources S line) t)
stays_or_low sources S (Backup s name config) answer t v j valid done is = ⊎_elim
    (λ below. inl (version_of-kept S s (new_version sources S s name config) (filled sources S s name config).containers t v j below is))
    (λ past. inl (ap (λ (ds : List Dataset). version_in (slice_index_or ds t empty_dataset) v) (set_past S.datasets s _ past) ∙ is))
    (in_range s (length S.datasets))
stays_or_low sources S (Restore s u name cache) answer t v j valid done is = inl is
stays_or_low sources S (Delete s n) answer t v j valid done is = ⊎_elim
    (λ here. ⊎_elim
    (λ low. inr (let e : floor_of (delete S s n) t ≡ max (floor_of S s) (n + 1) = ap (λ (d : Dataset). d.floor) here.1 in omega arith))
    (λ high. inl (ap (λ (d : Dataset). version_in d v) here.1
    ∙ own_version (dataset S s) (max (floor_of S s) (n + 1)) v (omega arith) high
    ∙ ap (λ (u : ℕ). version_of S u v) (sym here.0)
    ∙ is))
    (in_range v (max (floor_of S s) (n + 1))))
    (λ there. inl (ap (λ (d : Dataset). version_in d v) there.1 ∙ is))
    (shrinking.at_set S s n valid (below_set S s n done.0) done.0 t)

module _ (sources : Sources) (S : State) (line : Line) (answer : Answer) (valid : IsValid S) (is_answer : IsAnswer sources S line answer) where
  of_done : {A : Type 0} → is_refused answer ≡ false → (IsDone sources S line answer → A) → A
  of_done is f = ⊎_elim (λ (refused : IsTrue (is_refused answer)). absurd (let clash : true ≡ false = sym refused ∙ is in cc)) f is_answer

  floor_rises : (t : ℕ) → floor_of S t ≤ floor_of (after sources S line answer) t
  floor_rises t = at (is_refused answer) refl
    where
      at : (b : Bool) → is_refused answer ≡ b → floor_of S t ≤ floor_of (if b then S else after_line sources S line) t
      at true is = omega arith
      at false is = of_done is (λ done. floor_of_line sources S line answer t valid done)

  stays : (t v : ℕ) (j : KeptVersion) → version_of S t v ≡ Some j → (version_of (after sources S line answer) t v ≡ Some j) ⊎ (v < floor_of (after sources S line answer) t)
  stays t v j was = at (is_refused answer) refl
    where
      at : (b : Bool) → is_refused answer ≡ b → (version_of (if b then S else after_line sources S line) t v ≡ Some j) ⊎ (v < floor_of (if b then S else after_line sources S line) t)
      at true is = inl was
      at false is = of_done is (λ done. stays_or_low sources S line answer t v j valid done was)

module _ (sources : Sources) where
  floors_rise : (S : State) (lines : List Line) (answers : List Answer) → GoesOn sources S lines answers → (t : ℕ) → floor_of S t ≤ floor_of (state_after sources S lines answers) t
  floors_rise S [] [] go t = omega arith
  floors_rise S [] (answer ∷ answers) go t = absurd go
  floors_rise S (line ∷ lines) [] go t = absurd go
  floors_rise S (line ∷ lines) (answer ∷ answers) go t =
      let first = floor_rises sources S line answer go.0 go.1 t in
      let rest = floors_rise (after sources S line answer) lines answers go.3 t in
      omega arith

  pub kept_on : (S : State) (lines : List Line) (answers : List Answer) → GoesOn sources S lines answers → (t v : ℕ) (j k : KeptVersion) → version_of S t v ≡ Some j → version_of (state_after sources S lines answers) t v ≡ Some k
      → bytes_of (state_after sources S lines answers) t v ≡ bytes_of S t v
  kept_on S [] [] go t v j k was is = refl
  kept_on S [] (answer ∷ answers) go t v j k was is = absurd go
  kept_on S (line ∷ lines) [] go t v j k was is = absurd go
  kept_on S (line ∷ lines) (answer ∷ answers) go t v j k was is = ⊎_elim
      (λ still. kept_on (after sources S line answer) lines answers go.3 t v j k still is ∙ bytes_kept sources S line answer t v j j go.0 go.2 go.1 was still)
      (λ gone. absurd (
      let low = version_low (state_after sources (after sources S line answer) lines answers) t v k is in
      let rise = floors_rise (after sources S line answer) lines answers go.3 t in
      omega arith))
      (stays sources S line answer go.0 go.1 t v j was)

  -- a version that is kept before and behind is there between, and it is the same behind
  pub between : (S : State) (line : Line) (answer : Answer) (lines : List Line) (answers : List Answer) → GoesOn sources S (line ∷ lines) (answer ∷ answers) → (t v : ℕ) (j k : KeptVersion) → version_of S t v ≡ Some j
      → version_of (state_after sources (after sources S line answer) lines answers) t v ≡ Some k → version_of (after sources S line answer) t v ≡ Some j
  between S line answer lines answers go t v j k was is = ⊎_elim
      (λ still. still)
      (λ gone. absurd (
      let low = version_low (state_after sources (after sources S line answer) lines answers) t v k is in
      let rise = floors_rise (after sources S line answer) lines answers go.3 t in
      omega arith))
      (stays sources S line answer go.0 go.1 t v j was)

  pub kept_same : (S : State) (lines : List Line) (answers : List Answer) → GoesOn sources S lines answers → (t v : ℕ) (j k : KeptVersion) → version_of S t v ≡ Some j → version_of (state_after sources S lines answers) t v ≡ Some k → j ≡ k
  kept_same S [] [] go t v j k was is = let e : ◌≡◌ {A = Option KeptVersion} (Some j) (Some k) = sym was ∙ is in cc
  kept_same S [] (answer ∷ answers) go t v j k was is = absurd go
  kept_same S (line ∷ lines) [] go t v j k was is = absurd go
  kept_same S (line ∷ lines) (answer ∷ answers) go t v j k was is = kept_same (after sources S line answer) lines answers go.3 t v j k (between S line answer lines answers go t v j k was is) is

module _ (limits : Limits) (sources : Sources) where
  valid_before : (S : State) (lines : List Line) (answers : List Answer) → Goes limits sources S lines answers → IsValid S
  valid_before S [] [] go = go
  valid_before S [] (answer ∷ answers) go = absurd go
  valid_before S (line ∷ lines) [] go = absurd go
  valid_before S (line ∷ lines) (answer ∷ answers) go = go.0.sound.valid

  valid_behind : (S : State) (lines : List Line) (answers : List Answer) → Goes limits sources S lines answers → IsValid (state_after sources S lines answers)
  valid_behind S [] [] go = go
  valid_behind S [] (answer ∷ answers) go = absurd go
  valid_behind S (line ∷ lines) [] go = absurd go
  valid_behind S (line ∷ lines) (answer ∷ answers) go = valid_behind (after sources S line answer) lines answers go.3

  -- ---- the version that a line made

  -- a version is of a set that is there
  set_there : (T : State) (t v : ℕ) (k : KeptVersion) → version_of T t v ≡ Some k → t < length T.datasets
  set_there T t v k is = ⊎_elim (λ below. below) (λ past. absurd (none (nat_lt v 1) (ap (λ (d : Dataset). version_in d v) (sym (get_past T.datasets t past)) ∙ is))) (in_range t (length T.datasets))
    where
      none : (b : Bool) → ◌≡◌ {A = Option KeptVersion} (cond b None (slice_get [] (v - 1))) (Some k) → ⊥
      none true e = let clash : ◌≡◌ {A = Option KeptVersion} None (Some k) = e in cc
      none false e = let clash : ◌≡◌ {A = Option KeptVersion} None (Some k) = e in cc

  abbrev pub IsMade : State → ℕ → ℕ → List ℕ → Type 0
  IsMade T set version x = ((k : KeptVersion) × (version_of T set version ≡ Some k)) × (bytes_of T set version ≡ x)

  number_of : Answer → ℕ
  number_of (answer.Stored t n chunks bytes containers written sparse) = n
  number_of other = 0

  one_made : (S : State) (lines : List Line) (line : Line) (answer : Answer) (set version : ℕ) (x : List ℕ) → IsWell limits sources S (line ∷ lines) → IsAnswer sources S line answer → set < length S.datasets
      → MakesVersion sources line answer set version x → IsMade (after sources S line answer) set version x
  unfolding number_of
  one_made S lines (Backup s name config) (answer.Stored t n chunks bytes containers written sparse) set version x w (inl refused) below m = absurd (let clash : false ≡ true = refused in cc)
  one_made S lines (Backup s name config) (answer.Stored t n chunks bytes containers written sparse) set version x w (inr done) below m =
      let T : State = backup S s (sources name) config in
      let in_set : s < length S.datasets = subst (λ (u : ℕ). u < length S.datasets) (sym m.0) below in
      let number : version ≡ latest_of S s + 1 = sym m.1 ∙ ap number_of done in
      let there : version_of T s (latest_of S s + 1) ≡ Some (new_version sources S s name config) = version_of-new S s (new_version sources S s name config) (filled sources S s name config).containers in_set (growing.floor_pos S s w.sound.valid) in
      let has : bytes_of T s (latest_of S s + 1) ≡ sources name = backed_up_bytes S s (sources name) config w.sound in_set (clash_of_source limits sources S lines s name config w) in (
        (new_version sources S s name config, ap (λ (u : ℕ). version_of T u version) (sym m.0) ∙ ap (λ (u : ℕ). version_of T s u) number ∙ there),
        ap (λ (u : ℕ). bytes_of T u version) (sym m.0) ∙ ap (λ (u : ℕ). bytes_of T s u) number ∙ has ∙ sym m.2,
      )
  one_made S lines (Backup s name config) (answer.Restored t n bytes loads) set version x w a below m = absurd m
  one_made S lines (Backup s name config) (answer.Removed t n floor reclaimed) set version x w a below m = absurd m
  one_made S lines (Backup s name config) (answer.Shown t n rows) set version x w a below m = absurd m
  one_made S lines (Backup s name config) (answer.Migrated recipes) set version x w a below m = absurd m
  one_made S lines (Backup s name config) (answer.Scrubbed containers damaged) set version x w a below m = absurd m
  one_made S lines (Backup s name config) (answer.Refused f) set version x w a below m = absurd m
  one_made S lines (Restore s v name cache) answer set version x w a below m = absurd m
  one_made S lines (Delete s n) answer set version x w a below m = absurd m

  made : (S : State) (lines : List Line) (answers : List Answer) → Goes limits sources S lines answers → (set version : ℕ) (x : List ℕ) (k : KeptVersion) → MakeVersion sources lines answers set version x
      → version_of (state_after sources S lines answers) set version ≡ Some k → bytes_of (state_after sources S lines answers) set version ≡ x
  made S [] [] go set version x k m is = absurd m
  made S [] (answer ∷ answers) go set version x k m is = absurd m
  made S (line ∷ lines) [] go set version x k m is = absurd m
  made S (line ∷ lines) (answer ∷ answers) go set version x k (inl m) is =
      let T : State = state_after sources (after sources S line answer) lines answers in
      let end = valid_behind (after sources S line answer) lines answers go.3 in
      let there = set_there T set version k is in
      let below : set < length S.datasets = omega (arith, there, end.sets, go.0.sound.valid.sets) in
      let one = one_made S lines line answer set version x go.0 go.1 below m in
      kept_on sources (after sources S line answer) lines answers (goes_on limits sources (after sources S line answer) lines answers go.3) set version one.0.0 k one.0.1 is ∙ one.1
  made S (line ∷ lines) (answer ∷ answers) go set version x k (inr m) is = made (after sources S line answer) lines answers go.3 set version x k m is

  pub keep_bytes : (S : State) (lines : List Line) (answers : List Answer) → Goes limits sources S lines answers → KeepBytes sources S (state_after sources S lines answers) lines answers
  keep_bytes S lines answers go = record { kept = kept_on sources S lines answers (goes_on limits sources S lines answers go); made = made S lines answers go }

-- ---- a state that a crash may leave while the lines run

-- the state is sound, and its versions that were kept before have their bytes
pub record IsReached (S T : State) : Type 0 where
  pub sound : IsSound T
  pub kept : HasBytesOf S T
  pub floors : (t : ℕ) → floor_of S t ≤ floor_of T t

module _ (limits real : Limits) (sources : Sources) (T : State) (valid : IsValid T) where
  here : (S : State) → IsSound S → T ≡ S → IsReached S T
  here S sound e = subst (λ (U : State). IsReached S U) (sym e) (record { sound = sound; kept = λ t v j k was is. refl; floors = λ t. omega arith })

  behind_line : (S : State) (line : Line) (answer : Answer) → IsValid S → IsValid (after sources S line answer) → IsAnswer sources S line answer → IsReached (after sources S line answer) T → IsReached S T
  behind_line S line answer was_valid is_valid is_answer r = record {
    sound = r.sound;
    kept = λ t v j k was is. ⊎_elim
        (λ still. r.kept t v j k still is ∙ bytes_kept sources S line answer t v j j was_valid is_valid is_answer was still)
        (λ gone. absurd (let low = version_low T t v k is in let rise = r.floors t in omega arith))
        (stays sources S line answer was_valid is_answer t v j was);
    floors = λ t. let first = floor_rises sources S line answer was_valid is_answer t in let rest = r.floors t in omega arith;
  }

  -- with the line done that answered a store fault
  half_done : (S : State) (line : Line) (lines : List Line) (done : Answer) → IsWell limits sources S (line ∷ lines) → IsDone sources S line done → after sources S line done ≡ after_line sources S line → T ≡ after_line sources S line → IsReached S T
  half_done S line lines done w is_done same e =
      let at : T ≡ after sources S line done = e ∙ sym same in
      let is_valid : IsValid (after sources S line done) = subst IsValid at valid in
      behind_line S line done w.sound.valid is_valid (inr is_done) (here (after sources S line done) (well_behind limits sources S lines line done is_valid (inr is_done) w).sound at)

  not_last : (S : State) (s n : ℕ) (answer : Answer) → IsExact real S (Delete s n) answer → IsTrue (is_store_fault answer) → n < latest_of S s
  not_last S s n answer exact failed = by_test (nat_lt n (latest_of S s)) refl exact
    where
      by_test : (b : Bool) → nat_lt n (latest_of S s) ≡ b → MatchOption (if b then None else Some (fault.LastVersion s n (latest_of S s))) (refuses_by_state answer ≡ false) (λ f. answer ≡ Refused f) → n < latest_of S s
      by_test true is h = let e : n < latest_of S s = grind (arith, nat_tests) in e
      by_test false is h = let clash : false ≡ true = subst (λ (a : Answer). is_store_fault a ≡ true) h failed in cc

  half : (S : State) (line : Line) (answer : Answer) (lines : List Line) → IsWell limits sources S (line ∷ lines) → IsExact real S line answer → IsTrue (is_store_fault answer) → IsTrue (changes line) → T ≡ after_line sources S line → IsReached S T
  half S (Backup s name config) answer lines w exact failed change e = half_done S (Backup s name config) lines (stored S s (sources name) config) w refl refl e
  half S (Restore s v name cache) answer lines w exact failed change e = absurd (let clash : false ≡ true = change in cc)
  half S (Delete s n) answer lines w exact failed change e = half_done S (Delete s n) lines (removed S s n) w (not_last S s n answer exact failed, refl) refl e

  pub reached : (S : State) (lines : List Line) (answers : List Answer) → Goes limits sources S lines answers → MeanLines real sources S lines answers → IsSound (state_after sources S lines answers)
      → Reaches sources S lines answers T → IsReached S T
  reached S [] [] go table sound e = here S sound e
  reached S [] (answer ∷ answers) go table sound e = absurd go
  reached S (line ∷ lines) [] go table sound e = absurd go
  reached S (line ∷ lines) (answer ∷ answers) go table sound (inl e) = here S go.0.sound e
  reached S (line ∷ lines) (answer ∷ answers) go table sound (inr (inl h)) = half S line answer lines go.0 table.0.exact h.0 h.1 h.2
  reached S (line ∷ lines) (answer ∷ answers) go table sound (inr (inr later)) =
      behind_line S line answer go.0.sound.valid go.2 go.1 (reached (after sources S line answer) lines answers go.3 table.1 sound later)

  -- one line more in front
  behind_first : (S : State) (line : Line) (front rest : List Line) (answer : Answer) (given : List Answer) → IsWell limits sources S (line ∷ (front ++ rest)) → IsAnswer sources S line answer → IsValid (after sources S line answer)
      → IsReached (after sources S line answer) T × KeepBytes sources (after sources S line answer) T front given → IsReached S T × KeepBytes sources S T (line ∷ front) (answer ∷ given)
  behind_first S line front rest answer given w is_answer is_valid later = (r, record { kept = r.kept; made = made_too })
    where
      r : IsReached S T
      r = behind_line S line answer w.sound.valid is_valid is_answer later.0

      made_too : (set version : ℕ) (x : List ℕ) (k : KeptVersion) → MakeVersion sources (line ∷ front) (answer ∷ given) set version x → version_of T set version ≡ Some k → bytes_of T set version ≡ x
      made_too set version x k (inr m) there = later.1.made set version x k m there
      made_too set version x k (inl m) there =
          let in_it = set_there limits sources T set version k there in
          let below : set < length S.datasets = omega (arith, in_it, valid.sets, w.sound.valid.sets) in
          let one = one_made limits sources S (front ++ rest) line answer set version x w is_answer below m in
          later.0.kept set version one.0.0 k one.0.1 there ∙ one.1

  -- the same of a state that is reached behind the first lines, which has also the bytes of the versions that they made
  pub reached_behind : (S : State) (front rest : List Line) (given more : List Answer) → length front ≡ length given → Goes limits sources S (front ++ rest) (given ++ more) → MeanLines real sources S (front ++ rest) (given ++ more)
      → IsSound (state_after sources S (front ++ rest) (given ++ more)) → Reaches sources (state_after sources S front given) rest more T → IsReached S T × KeepBytes sources S T front given
  reached_behind S [] rest [] more long go table sound is =
      let r = reached S rest more go table sound is in
      (r, record { kept = r.kept; made = λ t v x k m there. absurd m })
  reached_behind S [] rest (answer ∷ given) more long go table sound is = absurd (omega (arith, long))
  reached_behind S (line ∷ front) rest [] more long go table sound is = absurd (omega (arith, long))
  reached_behind S (line ∷ front) rest (answer ∷ given) more long go table sound is =
      behind_first S line front rest answer given go.0 go.1 go.2 (reached_behind (after sources S line answer) front rest given more (omega (arith, long)) go.3 table.1 sound is)
