-- The recipe of a version, and the answer.
use Rattle.std.proofs.Common.{◌≡◌, ℕ, ◌+◌, ◌<◌, ◌≤◌, ◌^◌, true, List, [], ◌∷◌, ◌++◌, length, map, Option, Some, refl, sym, ap, ◌∙◌, subst, arith}
use Rattle.std.specs.Prelude.{All, Contains, IsTrue, IsSomeAnd, is_some}
use Rattle.std.specs.List.{AllByRecursion, concat}
use Rattle.std.proofs.lemmas.List.Sums.{sum_by-le}
use Rattle.std.proofs.lemmas.List.Elements.{All-from_recursion}
use Rattle.vault_types.specs.declared.Fp.{Fp}
use Rattle.vault_types.specs.declared.How.{How}
use Rattle.vault_types.specs.declared.JobConfig.{JobConfig}
use Rattle.vault_types.specs.declared.Recipe.{Recipe}
use Rattle.vault_types.specs.declared.Row.{Row}
use Rattle.vault_types.specs.declared.Answer.TheVariants.{Stored}
use Rattle.vault_types.specs.Lists.{IsAscending}
use Rattle.vault_types.specs.Cuts.{cuts}
use Rattle.vault_types.specs.Names.{NamedChunk, fp, IsFp}
use Rattle.vault_types.specs.Tables.{Container, has_fp, IsTable}
use Rattle.vault_types.specs.Sparse.{sparse}
use Rattle.vault_types.specs.Decide.{decide, decisions, segments, segments_of, is_written}
use Rattle.vault_types.specs.Fill.{Filled, fill, taker}
use Rattle.vault_types.specs.State.{State, next_of, length_of, container_in, index, all_rows, HasFp, IsValid}
use Rattle.vault_types.specs.Backup.{filling, inherited_ids, sparse_for, answer_from}
use Rattle.vault_types.specs.Blobs.{IsRecipe}
use Rattle.vault_types.specs.Events.{Core}
use Rattle.vault_types.proofs.BackupLemmas.{concat-cuts, joined-pieces, greatest-in, FoundWith, found_with}
use Rattle.vault_types.proofs.DecideLemmas.{AreFair, fair, all_found, places_of, places-same, written-writes}
use Rattle.vault_types.proofs.RestoreLemmas.{fps-decide}
use Rattle.vault_types.proofs.FillLemmas.{first_with, all_of, taker_above}
use Rattle.vault_types.proofs.GrowLemmas.{container_in-more}
use Rattle.vault_types.proofs.NextLemmas.{ids_below}
use Rattle.vault_types.proofs.SetLemmas.{IsAscending-set_of}
use Rattle.fp_index.specs.Index.{found_in}
use Rattle.har_monitor.proofs.Callers.{sparse_few, sparse_ascending, sparse_used}
use Rattle.vault_types.proofs.SumLemmas.{fp-is_fp}
use Rattle.vault_types.specs.JobRanges.{IsCuttable}
use Rattle.backup_pass.proofs.Decisions.{decide_in_turn}
use Rattle.commit_laws.proofs.Listing.{found_is}
use Rattle.keeper_catalog.specs.View.{View, Keeps}
use Rattle.backup_jobs.specs.declared.closing.StreamEnd.{StreamEnd}
use Rattle.backup_jobs.specs.declared.opening.Job.{Job}
use Rattle.backup_jobs.specs.Going.{Began, IsBegunAt, IsJobOf, HasEnded, IsReady, chunks_of, made, rules_of, len_at}
use Rattle.backup_jobs.proofs.Chunks.{hows, written, written_pieces, made_numbered, made_few, made_rows, cuts_are_chunks}
use Rattle.backup_jobs.proofs.Sparses.{sparse_found}
use Rattle.fp_index.proofs.Tables.{found-newest}
use Rattle.backup_jobs.proofs.Rows.{rows_fps, rows_lens, rows_each, taker_found, taker_below, found_later, apart_writes, written_rows, pieces_filled, all_used, AreApart}

-- what the job makes of a stream is what the definition makes of it

filled_by : JobConfig → List NamedChunk → ℕ → (Fp → Option ℕ) → List ℕ → Filled
filled_by config chunks next find avoided = fill next chunks (decide find (record { sparse = avoided; config = config }) chunks) config.container

pub made_is : (b : Began) (S : State) (x : List ℕ) → IsBegunAt b S → filling S b.set (chunks_of b.config x) b.config ≡ made b x
unfolding filled_by
made_is b S x h =
    ap (λ n. filled_by b.config (chunks_of b.config x) n (index S) (inherited_ids S b.set)) (sym h.first)
    ∙ ap (λ find. filled_by b.config (chunks_of b.config x) b.first find (inherited_ids S b.set)) (sym (λ i f. found-newest b.index (map (λ c. c.table) S.containers) f h.index i))
    ∙ ap (λ avoided. filled_by b.config (chunks_of b.config x) b.first (found_in b.index) avoided) (sym h.sparse)

-- only a stream without bytes has no rows

no_chunks : (ys : List (List ℕ)) → length ys ≡ 0 → ys ≡ []
no_chunks [] e = refl
no_chunks (y ∷ ys) e = absurd (omega arith)

no_rows_no_bytes : (b : Began) (x : List ℕ) → (made b x).rows ≡ [] → x ≡ []
no_rows_no_bytes b x e =
    let none : length (cuts x b.config.cutting) ≡ 0 = sym (made_rows b x) ∙ ap length e in
    sym (concat-cuts x b.config.cutting) ∙ ap concat (no_chunks (cuts x b.config.cutting) none)

-- the containers of a job, over a state

abbrev places : Began → List ℕ → List (Fp × How)
places b x = decisions (rules_of b) [] (segments (found_in b.index) b.config (chunks_of b.config x))

-- an id from 1 on and below the next free one, whose container has the fingerprint
abbrev IsPlace : Began → State → List ℕ → Fp → ℕ → Type 0
IsPlace b S x f id = (1 ≤ id) × (id < b.first + length (made b x).containers) × IsSomeAnd (container_in (S.containers ++ (made b x).containers) id) (λ k. IsTrue (has_fp f k.table))

module _ (b : Began) (S : State) (x : List ℕ) (h : IsBegunAt b S) (valid : IsValid S) (low : 1 ≤ b.first) where
  abbrev IsOld : Container → Type 0
  IsOld k = IsTable k.table × (k.table.id < next_of S)

  both : (cs : List Container) → AllByRecursion (λ c. IsTable c.table) cs → AllByRecursion (λ c. c.table.id < next_of S) cs → AllByRecursion IsOld cs
  both [] one two = tt
  both (c ∷ cs) one two = ((one.0, two.0), both cs one.1 two.1)

  old_place : (f : Fp) (c : ℕ) → found_in b.index f ≡ Some c → IsPlace b S x f c
  old_place f c e =
      let w : (k : Container) × FoundWith S.containers c f IsOld k =
      found_with S.containers c f IsOld (subst IsAscending (sym valid.containers) (IsAscending-set_of (map (λ q. q.id) (all_rows S.datasets)))) (both S.containers valid.tables (ids_below S valid))
      (greatest-in _ c (sym (found-newest b.index (map (λ k. k.table) S.containers) f h.index) ∙ e)) in
      let id : w.0.table.id ≡ c = (found_is S.containers c w.0 w.1.there).1 in (
        (let one : 1 ≤ w.0.table.id = w.1.fact.0.id_low in omega arith),
        (let two : w.0.table.id < next_of S = w.1.fact.1 in omega (arith, id, two, h.first)),
        subst (λ (o : Option Container). IsSomeAnd o (λ k. IsTrue (has_fp f k.table))) (sym (container_in-more S.containers (made b x).containers c w.0 w.1.there)) w.1.has_it,
      )

  same_places : places_of (chunks_of b.config x) (hows b x) ≡ places b x
  same_places = places-same (chunks_of b.config x) (places b x) (fps-decide (found_in b.index) (rules_of b) (chunks_of b.config x))

  all_fair : AreFair (found_in b.index) (places b x) (places_of (chunks_of b.config x) (hows b x))
  all_fair = subst (AreFair (found_in b.index) (places b x)) (sym same_places) (fair (found_in b.index) (rules_of b) (segments (found_in b.index) b.config (chunks_of b.config x)) [] (all_found (found_in b.index) (segments_of b.config (chunks_of b.config x))) tt)

  whole : all_of (written_pieces b x) ≡ written b x
  whole = joined-pieces (λ c. length c.bytes) b.config.container (written b x)

  own_place : (f : Fp) → is_written (places b x) f ≡ true → IsPlace b S x f (taker (made b x).containers f)
  own_place f is =
      let among : is_some (first_with f (written b x)) ≡ true = written-writes f (chunks_of b.config x) (hows b x) (ap (λ ps. is_written ps f) same_places ∙ is) in
      let there : is_some (first_with f (all_of (written_pieces b x))) ≡ true = ap (λ cs. is_some (first_with f cs)) whole ∙ among in
      let above = taker_above b.first (written_pieces b x) f there in (
        omega (arith, above, low),
        taker_below b.first (written_pieces b x) f low,
        subst (λ (o : Option Container). IsSomeAnd o (λ k. IsTrue (has_fp f k.table)))
            (sym (found_later (next_of S) S.containers (made b x).containers (taker (made b x).containers f) (ids_below S valid) (omega (arith, above, h.first))))
            (taker_found b.first (written_pieces b x) f there),
      )

  row_places : AllByRecursion (λ r. IsPlace b S x r.fp r.id) (made b x).rows
  row_places = rows_each (IsPlace b S x) (made b x).containers (found_in b.index) (places b x) old_place own_place (cuts x b.config.cutting) (hows b x) all_fair

  pub rows_there : AllByRecursion (HasFp (S.containers ++ (made b x).containers)) (made b x).rows
  rows_there = each (made b x).rows row_places
    where
      each : (rows : List Row) → AllByRecursion (λ r. IsPlace b S x r.fp r.id) rows → AllByRecursion (HasFp (S.containers ++ (made b x).containers)) rows
      each [] p = tt
      each (r ∷ rows) p = (p.0.2, each rows p.1)

  pub rows_ruled : IsCuttable b.config.cutting → AllByRecursion (λ r. (1 ≤ r.id) × (r.id < b.first + length (made b x).containers) × (1 ≤ r.len) × (r.len ≤ 65536)) (made b x).rows
  rows_ruled can = each (made b x).rows row_places (rows_lens (made b x).containers (cuts x b.config.cutting) (hows b x) (cuts_are_chunks b.config.cutting can x))
    where
      each : (rows : List Row) → AllByRecursion (λ r. IsPlace b S x r.fp r.id) rows → AllByRecursion (λ r. (1 ≤ r.len) × (r.len ≤ 65536)) rows → AllByRecursion (λ r. (1 ≤ r.id) × (r.id < b.first + length (made b x).containers) × (1 ≤ r.len) × (r.len ≤ 65536)) rows
      each [] p q = tt
      each (r ∷ rows) p q = ((p.0.0, p.0.1, q.0.0, q.0.1), each rows p.1 q.1)

-- each container of the job is named by a row

pub all_named : (b : Began) (x : List ℕ) → AllByRecursion (λ c. Contains (map (λ r. r.id) (made b x).rows) c.table.id) (made b x).containers
all_named b x =
    let all : all_of (written_pieces b x) ≡ written b x = joined-pieces (λ c. length c.bytes) b.config.container (written b x) in
    all_used (map (λ r. r.id) (made b x).rows) b.first (written_pieces b x) (pieces_filled b.config.container (written b x))
    (subst AreApart (sym all) (apart_writes [] (chunks_of b.config x) (hows b x) (decide_in_turn (found_in b.index) (rules_of b) (chunks_of b.config x))).0)
    (λ f some. written_rows (made b x).containers f (chunks_of b.config x) (hows b x) (ap (λ cs. is_some (first_with f cs)) (sym all) ∙ some))

-- the rows that the filling came to

module _ (b : Began) (now : View) (e : StreamEnd) (lens read : List ℕ) (h : HasEnded b now e lens read) (rows : List Row) (are : rows ≡ e.rest.rows) where
  rows_are : rows ≡ (made b read).rows
  rows_are = are ∙ h.put.is.rows

  -- there are at most 4,194,304
  pub rows_few : length rows ≤ 4194304
  rows_few =
      let same : length rows ≡ length (made b read).rows = ap length rows_are in
      omega (arith, same, made_rows b read, h.put.is.few, h.put.underway.most)

  -- each has 1 to 65,536 bytes
  pub rows_sized : All (λ r. (1 ≤ r.len) × (r.len ≤ 65536)) rows
  rows_sized = All-from_recursion (λ r. (1 ≤ r.len) × (r.len ≤ 65536)) rows
      (subst (AllByRecursion (λ r. (1 ≤ r.len) × (r.len ≤ 65536))) (sym rows_are) (rows_lens (made b read).containers (cuts read b.config.cutting) (hows b read) (cuts_are_chunks b.config.cutting h.put.is.cuttable read)))

  -- so their bytes are few enough to count
  pub bytes_fit : length_of rows < 2 ^ 64
  bytes_fit = omega (arith, rows_few, sum_by-le (λ r. r.len) 65536 rows (λ k d low. (rows_sized k d low).1))

  module _ (ids : List ℕ) (found : (K : Core) → Keeps b.keeper K → ids ≡ sparse rows (len_at K.state.containers b.first lens) b.config.threshold b.config.limit) where
    -- and so are the sparse containers
    pub sparse_fit : length ids ≤ 4194304
    sparse_fit =
        let K = h.put.underway.core.0 in
        let many : length ids ≡ length (sparse rows (len_at K.state.containers b.first lens) b.config.threshold b.config.limit) = ap length (found K h.put.underway.core.1) in
        omega (arith, many, rows_few, sparse_few rows (len_at K.state.containers b.first lens) b.config.threshold b.config.limit)

    -- which are those of the version
    sparse_are : (K : Core) → Keeps b.keeper K → ids ≡ sparse_for K.state (made b read) b.config
    sparse_are K kept =
        found K kept
        ∙ ap (λ rs. sparse rs (len_at K.state.containers b.first lens) b.config.threshold b.config.limit) rows_are
        ∙ ap (λ ls. sparse (made b read).rows (len_at K.state.containers b.first ls) b.config.threshold b.config.limit) h.put.is.lens_are
        ∙ sym (sparse_found (made b read).rows K.state.containers (made b read).containers b.first b.config.threshold b.config.limit (made_numbered b read))

    module _ (bytes : ℕ) (count : bytes ≡ length_of rows) where
      bytes_are : bytes ≡ length_of (made b read).rows
      bytes_are = count ∙ ap length_of rows_are

      abbrev recipe : Recipe
      recipe = record { set = b.set; version = b.version; next = e.rest.next; length = bytes; rows = e.rest.rows; sparse = ids; whole = Some e.whole }

      -- the recipe keeps the rules
      recipe_rules : (K : Core) → Keeps b.keeper K → IsRecipe recipe
      recipe_rules K kept =
          let of = h.put.underway.told K kept in
          let containers : length (made b read).containers ≤ length (cuts read b.config.cutting) = made_few b read in
          let many : length e.rest.rows ≡ length (made b read).rows = ap length h.put.is.rows in
          record {
            version = (omega (arith, of.version), h.put.underway.version);
            total = count ∙ ap length_of are;
            rules = record {
              next_low = omega (arith, h.put.is.next, h.put.underway.low);
              next_high = omega (arith, h.put.is.next, h.put.underway.fits, containers, h.put.is.few);
              few = omega (arith, many, made_rows b read, h.put.is.few, h.put.underway.most);
              fps = subst (AllByRecursion (λ r. IsFp r.fp)) (sym h.put.is.rows) (rows_fps (made b read).containers (cuts read b.config.cutting) (hows b read));
              each = subst (λ (n : ℕ). AllByRecursion (λ r. (1 ≤ r.id) × (r.id < n) × (1 ≤ r.len) × (r.len ≤ 65536)) e.rest.rows) (sym h.put.is.next)
                  (subst (AllByRecursion (λ r. (1 ≤ r.id) × (r.id < b.first + length (made b read).containers) × (1 ≤ r.len) × (r.len ≤ 65536))) (sym h.put.is.rows)
                  (rows_ruled b K.state read of kept.core.state h.put.underway.low h.put.is.cuttable));
              ascending = subst IsAscending (sym (found K kept)) (sparse_ascending rows (len_at K.state.containers b.first lens) b.config.threshold b.config.limit);
              used = subst (λ (rs : List Row). AllByRecursion (λ c. Contains (map (λ r. r.id) rs) c) ids) are
                  (subst (AllByRecursion (λ c. Contains (map (λ r. r.id) rows) c)) (sym (found K kept)) (sparse_used rows (len_at K.state.containers b.first lens) b.config.threshold b.config.limit));
            };
            whole = subst IsFp (sym h.whole) (fp-is_fp read);
            no_bytes = λ none. ap (λ (w : Fp). w.0) h.whole ∙ ap (λ bytes. (fp bytes).0) (no_rows_no_bytes b read (sym h.put.is.rows ∙ none));
          }

      -- the recipe may be committed and says the version of the definition, and the answer is that of it
      pub is_ready : (few : ℕ) → few ≡ length ids → IsReady b now read (recipe, Stored b.set b.version (length rows) bytes e.rest.containers e.rest.written few)
      is_ready few counted = record {
        can = λ K kept. let of = h.put.underway.told K kept in record {
          open_job = refl;
          rules = recipe_rules K kept;
          set = refl;
          in_range = omega (arith, h.put.underway.set, kept.core.state.sets);
          version = of.version;
          rows = subst (AllByRecursion (HasFp (K.state.containers ++ (made b read).containers))) (sym h.put.is.rows) (rows_there b K.state read of kept.core.state h.put.underway.low);
          uses = subst (λ (rs : List Row). AllByRecursion (λ c. Contains (map (λ r. r.id) rs) c.table.id) (made b read).containers) (sym h.put.is.rows) (all_named b read);
          next = h.put.is.next ∙ ap (λ n. n + length (made b read).containers) of.first;
        };
        says = λ K kept.
            let next : e.rest.next ≡ next_of K.state + length (made b read).containers = h.put.is.next ∙ ap (λ n. n + length (made b read).containers) (h.put.underway.told K kept).first in
            cc (next, h.put.is.rows, sparse_are K kept, h.whole);
        whole = refl;
        answer = λ K kept.
            let of = h.put.underway.told K kept in
            let chunks : length rows ≡ length (made b read).rows = ap length rows_are in
            let same : few ≡ length (sparse_for K.state (made b read) b.config) = counted ∙ ap length (sparse_are K kept) in
            let all : Stored b.set b.version (length rows) bytes e.rest.containers e.rest.written few ≡ answer_from K.state b.set (made b read) b.config = cc (of.version, chunks, bytes_are, h.put.is.containers, h.put.is.written, same) in
            all ∙ sym (ap (λ f. answer_from K.state b.set f b.config) (made_is b K.state read of));
      }

      -- with the numbers of the job
      pub ready_as : (job : Job) → IsJobOf b job → (few : ℕ) → few ≡ length ids
          → IsReady b now read (record { set = job.set; version = job.version; next = e.rest.next; length = bytes; rows = e.rest.rows; sparse = ids; whole = Some e.whole }, Stored job.set job.version (length rows) bytes e.rest.containers e.rest.written few)
      ready_as job j few counted =
          subst (λ (s : ℕ). IsReady b now read (record { set = s; version = job.version; next = e.rest.next; length = bytes; rows = e.rest.rows; sparse = ids; whole = Some e.whole }, Stored s job.version (length rows) bytes e.rest.containers e.rest.written few)) (sym j.set)
          (subst (λ (v : ℕ). IsReady b now read (record { set = b.set; version = v; next = e.rest.next; length = bytes; rows = e.rest.rows; sparse = ids; whole = Some e.whole }, Stored b.set v (length rows) bytes e.rest.containers e.rest.written few)) (sym j.version) (is_ready few counted))

-- the sparse list by the numbers of the job is that by what the backup began with
pub found_as : (b : Began) (job : Job) → IsJobOf b job → (old : List Container) (rows : List Row) (lens ids : List ℕ) → ids ≡ sparse rows (len_at old job.first lens) job.config.threshold job.config.limit → ids ≡ sparse rows (len_at old b.first lens) b.config.threshold b.config.limit
found_as b job j old rows lens ids is =
    is
    ∙ ap (λ n. sparse rows (len_at old n lens) job.config.threshold job.config.limit) j.first
    ∙ ap (λ (config : JobConfig). sparse rows (len_at old b.first lens) config.threshold config.limit) j.config
