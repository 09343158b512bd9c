-- What is well stays well from line to line.
use Rattle.std.proofs.Common.{◌≡◌, ◌+◌, ◌⊎◌, inl, inr, ⊎_elim, ℕ, zero, suc, ◌<◌, ◌≤◌, Bool, true, false, IsTrue, Some, List, [], ◌∷◌, ◌++◌, map, length, refl, sym, ◌∙◌, ap, subst, arith}
use Rattle.std.specs.Prelude.{Contains, flat_map, if◌then◌else◌, nat_lt, slice_index_or, slice_set}
use Rattle.std.proofs.lemmas.Bool.Decides.{nat_tests}
use Rattle.std.proofs.lemmas.List.{append-nil}
use Rattle.std.proofs.lemmas.List.Elements.{Contains-append_left, Contains-append_right, Contains-append_cases}
use Rattle.std.specs.List.{AllByRecursion}
use Rattle.vault_types.specs.declared.Answer.{Answer}
use Rattle.vault_types.specs.declared.JobConfig.{JobConfig}
use Rattle.vault_types.specs.declared.Limits.{Limits}
use Rattle.vault_types.specs.declared.Line.{Line}
use Rattle.vault_types.specs.declared.Line.TheVariants.{Backup, Restore, Delete}
use Rattle.vault_types.specs.Cuts.{cuts}
use Rattle.vault_types.specs.Names.{named_chunk, fp, NoClash}
use Rattle.vault_types.specs.Tables.{Container, id_of}
use Rattle.vault_types.specs.State.{State, Dataset, KeptVersion, empty_dataset, latest_in, latest_of, named_in, version_of, IsValid}
use Rattle.vault_types.specs.Bytes.{all_chunks, bytes_of, IsSound}
use Rattle.vault_types.specs.Backup.{backup, filling, version_from}
use Rattle.state_laws.proofs.Growing as growing
use Rattle.state_laws.proofs.Shrinking as shrinking
use Rattle.vault_types.specs.Delete.{delete}
use Rattle.vault_types.specs.Script.{Sources, after, after_line, is_refused, IsAnswer, IsDone}
use Rattle.store_model.specs.Complete.{IsSafe, IsWell, chunks_of_line}
use Rattle.script_laws.proofs.Sound.{backup_sound, chunks_backed_up, chunks_kept, delete_sound}

-- at each line all is well
abbrev pub AreWell : Limits → Sources → State → List Line → List Answer → Type 0
AreWell limits sources S [] answers = Unit {0}
AreWell limits sources S (line ∷ lines) [] = Unit {0}
AreWell limits sources S (line ∷ lines) (answer ∷ answers) =
    IsWell limits sources S (line ∷ []) × AreWell limits sources (after sources S line answer) lines answers

-- ---- sets out of range

pub in_range : (s n : ℕ) → (s < n) ⊎ (n ≤ s)
in_range s n = by_test (nat_lt s n) refl
  where
    by_test : (b : Bool) → nat_lt s n ≡ b → (s < n) ⊎ (n ≤ s)
    by_test true is = let e : s < n = grind (arith, nat_tests) in inl e
    by_test false is = let e : n ≤ s = grind (arith, nat_tests) in inr e

pub set_past : (ds : List Dataset) (s : ℕ) (d : Dataset) → length ds ≤ s → slice_set ds s d ≡ ds
set_past [] s d past = refl
set_past (e ∷ ds) zero d past = absurd (omega (arith, past))
set_past (e ∷ ds) (suc s) d past = ap (λ (es : List Dataset). e ∷ es) (set_past ds s d (omega (arith, past)))

pub get_past : (ds : List Dataset) (s : ℕ) → length ds ≤ s → slice_index_or ds s empty_dataset ≡ empty_dataset
get_past [] s past = refl
get_past (e ∷ ds) zero past = absurd (omega (arith, past))
get_past (e ∷ ds) (suc s) past = get_past ds s (omega (arith, past))

none_more : (cs more : List Container) → map id_of (cs ++ more) ≡ map id_of cs → more ≡ []
none_more [] [] same = refl
none_more [] (c ∷ more) same = cc
none_more (c ∷ cs) more same = let tail : map id_of (cs ++ more) ≡ map id_of cs = cc in none_more cs more tail

-- a valid state with more containers and no more versions has none more
same_state : (S : State) (ds : List Dataset) (more : List Container) → IsValid S → ds ≡ S.datasets → IsValid (record { datasets = ds; containers = S.containers ++ more }) → (let T : State = record { datasets = ds; containers = S.containers ++ more } in T) ≡ S
same_state S ds more valid same valid_too =
    let none : more ≡ [] = none_more S.containers more (valid_too.containers ∙ ap named_in same ∙ sym valid.containers) in
    let containers : S.containers ++ more ≡ S.containers = ap (λ (cs : List Container). S.containers ++ cs) none ∙ append-nil S.containers in
    λ i. record { datasets = same i; containers = containers i }

pub below_set : (S : State) (s n : ℕ) → n < latest_of S s → s < length S.datasets
below_set S s n low = ⊎_elim
    (λ below. below)
    (λ past. absurd (let none : latest_of S s ≡ 0 = ap latest_in (get_past S.datasets s past) in omega (arith, low, none)))
    (in_range s (length S.datasets))

-- ---- a line

fewer_clash : (known some : List (List ℕ)) → NoClash known → ((z : List ℕ) → Contains some z → Contains known z) → NoClash some
fewer_clash known some clash within x y a b e = clash x y (within x a) (within y b) e

more_behind : (xs ys zs : List (List ℕ)) (z : List ℕ) → Contains (xs ++ zs) z → Contains (xs ++ (ys ++ zs)) z
more_behind xs ys zs z there = ⊎_elim
    (λ one. Contains-append_left xs (ys ++ zs) z one)
    (λ two. Contains-append_right xs (ys ++ zs) z (Contains-append_right ys zs z two))
    (Contains-append_cases xs zs z there)

more_between : (xs ys zs ws : List (List ℕ)) → ((z : List ℕ) → Contains ws z → Contains (xs ++ ys) z) → (z : List ℕ) → Contains (ws ++ zs) z → Contains (xs ++ (ys ++ zs)) z
more_between xs ys zs ws within z there = ⊎_elim
    (λ one. ⊎_elim
    (λ left. Contains-append_left xs (ys ++ zs) z left)
    (λ right. Contains-append_right xs (ys ++ zs) z (Contains-append_left ys zs z right))
    (Contains-append_cases xs ys z (within z one)))
    (λ two. Contains-append_right xs (ys ++ zs) z (Contains-append_right ys zs z two))
    (Contains-append_cases ws zs z there)

module _ (limits : Limits) (sources : Sources) (S : State) (lines : List Line) where
  pub well_alone : (line : Line) → IsWell limits sources S (line ∷ lines) → IsWell limits sources S (line ∷ [])
  well_alone line w = record {
    sound = w.sound;
    no_clash = fewer_clash (all_chunks S ++ flat_map (chunks_of_line sources) (line ∷ lines)) (all_chunks S ++ flat_map (chunks_of_line sources) (line ∷ [])) w.no_clash
        (λ z there. more_between (all_chunks S) (chunks_of_line sources line) (flat_map (chunks_of_line sources) lines) (all_chunks S ++ chunks_of_line sources line) (λ z h. h) z
        (Contains-append_left (all_chunks S ++ chunks_of_line sources line) (flat_map (chunks_of_line sources) lines) z
        (subst (λ (cs : List (List ℕ)). Contains (all_chunks S ++ cs) z) (append-nil (chunks_of_line sources line)) there)));
    few = (w.few.0, tt);
  }

  left_alone : (line : Line) → IsWell limits sources S (line ∷ lines) → IsWell limits sources S lines
  left_alone line w = record {
    sound = w.sound;
    no_clash = fewer_clash (all_chunks S ++ flat_map (chunks_of_line sources) (line ∷ lines)) (all_chunks S ++ flat_map (chunks_of_line sources) lines) w.no_clash
        (more_behind (all_chunks S) (chunks_of_line sources line) (flat_map (chunks_of_line sources) lines));
    few = w.few.1;
  }

  pub clash_of_source : (s : ℕ) (name : List ℕ) (config : JobConfig) → IsWell limits sources S (Backup s name config ∷ lines) → NoClash (all_chunks S ++ cuts (sources name) config.cutting)
  clash_of_source s name config w = fewer_clash (all_chunks S ++ (cuts (sources name) config.cutting ++ flat_map (chunks_of_line sources) lines)) (all_chunks S ++ cuts (sources name) config.cutting) w.no_clash
      (λ z there. more_between (all_chunks S) (cuts (sources name) config.cutting) (flat_map (chunks_of_line sources) lines) (all_chunks S ++ cuts (sources name) config.cutting) (λ z h. h) z
      (Contains-append_left (all_chunks S ++ cuts (sources name) config.cutting) (flat_map (chunks_of_line sources) lines) z there))

  done_well : (line : Line) (answer : Answer) → IsDone sources S line answer → IsValid (after_line sources S line) → IsWell limits sources S (line ∷ lines) → IsWell limits sources (after_line sources S line) lines
  done_well (Backup s name config) answer done valid w = record {
    sound = ⊎_elim
        (λ below. backup_sound S s (sources name) config w.sound clash valid below)
        (λ past. subst IsSound (sym (same_state S _ _ w.sound.valid (set_past S.datasets s _ past) valid)) w.sound)
        (in_range s (length S.datasets));
    no_clash = fewer_clash (all_chunks S ++ (cuts (sources name) config.cutting ++ flat_map (chunks_of_line sources) lines)) (all_chunks (backup S s (sources name) config) ++ flat_map (chunks_of_line sources) lines) w.no_clash
        (more_between (all_chunks S) (cuts (sources name) config.cutting) (flat_map (chunks_of_line sources) lines) (all_chunks (backup S s (sources name) config)) (chunks_backed_up S s (sources name) config w.sound clash));
    few = w.few.1;
  }
    where
      clash : NoClash (all_chunks S ++ cuts (sources name) config.cutting)
      clash = clash_of_source s name config w
  done_well (Restore s v name cache) answer done valid w = left_alone (Restore s v name cache) w
  done_well (Delete s n) answer done valid w = record {
    sound = delete_sound S s n w.sound valid (below_set S s n done.0) done.0;
    no_clash = fewer_clash (all_chunks S ++ flat_map (chunks_of_line sources) lines) (all_chunks (delete S s n) ++ flat_map (chunks_of_line sources) lines) w.no_clash
        (λ z there. ⊎_elim
        (λ one. Contains-append_left (all_chunks S) (flat_map (chunks_of_line sources) lines) z (chunks_kept S s n w.sound z one))
        (λ two. Contains-append_right (all_chunks S) (flat_map (chunks_of_line sources) lines) z two)
        (Contains-append_cases (all_chunks (delete S s n)) (flat_map (chunks_of_line sources) lines) z there));
    few = w.few.1;
  }

  pub well_behind : (line : Line) (answer : Answer) → IsValid (after sources S line answer) → IsAnswer sources S line answer → IsWell limits sources S (line ∷ lines) → IsWell limits sources (after sources S line answer) lines
  well_behind line answer valid is_answer w = at (is_refused answer) refl valid
    where
      at : (b : Bool) → is_refused answer ≡ b → IsValid (if b then S else after_line sources S line) → IsWell limits sources (if b then S else after_line sources S line) lines
      at true is valid = left_alone line w
      at false is valid = ⊎_elim (λ (refused : IsTrue (is_refused answer)). absurd (let clash : true ≡ false = sym refused ∙ is in cc)) (λ done. done_well line answer done valid w) is_answer

-- ---- bytes

-- a version that is kept before and behind a line keeps its bytes
pub bytes_kept : (sources : Sources) (S : State) (line : Line) (answer : Answer) (t v : ℕ) (j q : KeptVersion) → IsValid S → IsValid (after sources S line answer) → IsAnswer sources S line answer
    → version_of S t v ≡ Some j → version_of (after sources S line answer) t v ≡ Some q → bytes_of (after sources S line answer) t v ≡ bytes_of S t v
bytes_kept sources S line answer t v j q valid valid_too is_answer was is = at (is_refused answer) refl valid_too is
  where
    of_line : (l : Line) → IsDone sources S l answer → IsValid (after_line sources S l) → version_of (after_line sources S l) t v ≡ Some q → bytes_of (after_line sources S l) t v ≡ bytes_of S t v
    of_line (Backup s name config) done valid_too is = ⊎_elim
        (λ below. growing.bytes_same S s (version_from S (filling S s (map named_chunk (cuts (sources name) config.cutting)) config) (fp (sources name)) config)
        (filling S s (map named_chunk (cuts (sources name) config.cutting)) config).containers valid below t v j was)
        (λ past. ap (λ (T : State). bytes_of T t v) (same_state S _ _ valid (set_past S.datasets s _ past) valid_too))
        (in_range s (length S.datasets))
    of_line (Restore s u name cache) done valid_too is = refl
    of_line (Delete s n) done valid_too is = shrinking.bytes_same S s n valid (below_set S s n done.0) done.0 t v q is

    at : (b : Bool) → is_refused answer ≡ b → IsValid (if b then S else after_line sources S line) → version_of (if b then S else after_line sources S line) t v ≡ Some q
        → bytes_of (if b then S else after_line sources S line) t v ≡ bytes_of S t v
    at true e valid_too is = refl
    at false e valid_too is = ⊎_elim (λ (refused : IsTrue (is_refused answer)). absurd (let clash : true ≡ false = sym refused ∙ e in cc)) (λ done. of_line line done valid_too is) is_answer

-- ---- limits that no source passes

most_of : Sources → List Line → ℕ
most_of sources [] = 0
most_of sources (line ∷ lines) = length (chunks_of_line sources line) + most_of sources lines

few_of : (sources : Sources) (lines : List Line) (m : ℕ) → most_of sources lines ≤ m → AllByRecursion (λ line. length (chunks_of_line sources line) ≤ m) lines
unfolding most_of
few_of sources [] m low = tt
few_of sources (line ∷ lines) m low = (omega (arith, low), few_of sources lines m (omega (arith, low)))

pub wide : Limits → Sources → List Line → Limits
wide limits sources lines = record limits { chunks = most_of sources lines }

pub wide_well : (limits : Limits) (sources : Sources) (S : State) (lines : List Line) → IsSafe sources S lines → IsWell (wide limits sources lines) sources S lines
unfolding wide
wide_well limits sources S lines safe = record { sound = safe.sound; no_clash = safe.no_clash; few = few_of sources lines (most_of sources lines) (omega arith) }
