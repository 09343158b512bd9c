-- A sound state stays sound behind a line that was done, where no two chunks clash.
use Rattle.std.proofs.Common.{◌≡◌, ◌⊎◌, inl, inr, ⊎_elim, ℕ, suc, ◌+◌, ◌-◌, ◌<◌, Bool, true, false, cond, ◌||◌, IsTrue, List, [], ◌∷◌, ◌++◌, map, length, drop, Option, Some, None, refl, sym, ◌∙◌, ap, subst, arith}
use Rattle.std.specs.Prelude.{Contains, IfSome, IsSomeAnd, flat_map, nat_lt, slice_get, slice_index_or}
use Rattle.std.specs.Option.{option_map_or}
use Rattle.std.specs.List.{AllByRecursion, concat, list_any}
use Rattle.std.proofs.Math.Seq.{take-append_seam, drop-append_seam}
use Rattle.std.proofs.lemmas.Bool.Decides.{nat_tests}
use Rattle.std.proofs.lemmas.List.Elements.{Contains-append_left, Contains-append_right, Contains-append_cases}
use Rattle.vault_types.specs.declared.Fp.{Fp}
use Rattle.vault_types.specs.declared.How.{How}
use Rattle.vault_types.specs.declared.How.TheVariants.{Old, Own, Write}
use Rattle.vault_types.specs.declared.JobConfig.{JobConfig}
use Rattle.vault_types.specs.declared.Row.{Row}
use Rattle.vault_types.specs.declared.TableRow.{TableRow}
use Rattle.vault_types.specs.Lists.{has}
use Rattle.vault_types.specs.Cuts.{cuts}
use Rattle.vault_types.specs.Names.{NamedChunk, named_chunk, fp, same_fp, NoClash}
use Rattle.vault_types.specs.Pieces.{pieces}
use Rattle.vault_types.specs.Tables.{Container, has_fp, table_row, IsWhole}
use Rattle.vault_types.specs.Decide.{decide}
use Rattle.vault_types.specs.Fill.{new_container, new_containers, rows_of as fill_rows, writes}
use Rattle.vault_types.specs.State.{State, Dataset, KeptVersion, all_rows, container_in, empty_dataset, index, latest_of, named, next_of, version_in, version_of, HasFp, IsValid}
use Rattle.vault_types.specs.Bytes.{all_chunks, bytes_of, chunks_in, chunks_of_rows, HasPayload, HasRow, IsSound}
use Rattle.vault_types.specs.Backup.{backup, filling, inherited_ids, version_from}
use Rattle.vault_types.specs.Delete.{delete}
use Rattle.vault_types.proofs.BackupLemmas.{joined-pieces}
use Rattle.vault_types.proofs.FillLemmas.{same_fps}
use Rattle.vault_types.proofs.GrowLemmas.{version_of-new, container_in-more}
use Rattle.vault_types.proofs.NextLemmas.{backed_up_bytes}
use Rattle.vault_types.proofs.SetLemmas.{has-set_of}
use Rattle.vault_types.proofs.StateLemmas.{container-kept}
use Rattle.state_laws.proofs.Growing as growing
use Rattle.state_laws.proofs.Growing.{floor_pos, rows_of}
use Rattle.state_laws.proofs.Members.{here, later, no_member, first_or_rest, filter_within, container_in-is}
use Rattle.state_laws.proofs.Shrinking as shrinking
use Rattle.state_laws.proofs.Shrinking.{has_all}

-- ---- lists

all_each : {X : Type 0} (P : X → Type 0) (xs : List X) → ((x : X) → Contains xs x → P x) → AllByRecursion P xs
all_each P [] each = tt
all_each P (x ∷ xs) each = (each x (here x xs), all_each P xs (λ y there. each y (later x xs y there)))

each_of : {X : Type 0} (P : X → Type 0) (xs : List X) (x : X) → AllByRecursion P xs → Contains xs x → P x
each_of P [] x all there = absurd (no_member x there)
each_of P (y ∷ ys) x all there = ⊎_elim (λ same. subst P same all.0) (λ rest. each_of P ys x all.1 rest) (first_or_rest y ys x there)

all_append : {X : Type 0} (P : X → Type 0) (xs ys : List X) → AllByRecursion P xs → AllByRecursion P ys → AllByRecursion P (xs ++ ys)
all_append P [] ys one two = two
all_append P (x ∷ xs) ys one two = (one.0, all_append P xs ys one.1 two)

all_both : {X : Type 0} (P Q R : X → Type 0) (xs : List X) → ((x : X) → P x → Q x → R x) → AllByRecursion P xs → AllByRecursion Q xs → AllByRecursion R xs
all_both P Q R [] both one two = tt
all_both P Q R (x ∷ xs) both one two = (both x one.0 two.0, all_both P Q R xs both one.1 two.1)

all_more : {X : Type 0} (P Q : X → Type 0) (xs : List X) → ((x : X) → P x → Q x) → AllByRecursion P xs → AllByRecursion Q xs
all_more P Q [] more all = tt
all_more P Q (x ∷ xs) more all = (more x all.0, all_more P Q xs more all.1)

of_image : {X Y : Type 0} (f : X → Y) (xs : List X) (y : Y) → Contains (map f xs) y → (x : X) × Contains xs x × (f x ≡ y)
of_image f [] y there = absurd (no_member y there)
of_image f (x ∷ xs) y there = ⊎_elim
    (λ same. (x, here x xs, same))
    (λ rest. let w = of_image f xs y rest in (w.0, later x xs w.0 w.1, w.2))
    (first_or_rest (f x) (map f xs) y there)

of_flat : {X Y : Type 0} (f : X → List Y) (xs : List X) (y : Y) → Contains (flat_map f xs) y → (x : X) × Contains xs x × Contains (f x) y
of_flat f [] y there = absurd (no_member y there)
of_flat f (x ∷ xs) y there = ⊎_elim
    (λ one. (x, here x xs, one))
    (λ rest. let w = of_flat f xs y rest in (w.0, later x xs w.0 w.1, w.2))
    (Contains-append_cases (f x) (flat_map f xs) y there)

in_flat : {X Y : Type 0} (f : X → List Y) (xs : List X) (x : X) (y : Y) → Contains xs x → Contains (f x) y → Contains (flat_map f xs) y
in_flat f [] x y there inside = absurd (no_member x there)
in_flat {X} {Y} f (z ∷ zs) x y there inside = ⊎_elim
    (λ (same : z ≡ x). Contains-append_left (f z) (flat_map f zs) y (subst (λ (w : X). Contains (f w) y) (sym same) inside))
    (λ rest. Contains-append_right (f z) (flat_map f zs) y (in_flat f zs x y rest inside))
    (first_or_rest z zs x there)

-- ---- whole payloads

chunks_again : (chunks : List (List ℕ)) → chunks_of_rows (map table_row chunks) (concat chunks) ≡ chunks
chunks_again [] = refl
chunks_again (x ∷ xs) =
    ap (λ y. y ∷ chunks_of_rows (map table_row xs) (drop (length x) (x ++ concat xs))) (take-append_seam x (concat xs))
    ∙ ap (λ p. x ∷ chunks_of_rows (map table_row xs) p) (drop-append_seam x (concat xs))
    ∙ ap (λ ys. x ∷ ys) (chunks_again xs)

chunks_whole : (rows : List TableRow) (payload : List ℕ) (chunks : List (List ℕ)) → concat chunks ≡ payload → map table_row chunks ≡ rows → chunks_of_rows rows payload ≡ chunks
chunks_whole rows payload chunks joined named = ap (λ (rs : List TableRow). chunks_of_rows rs payload) (sym named) ∙ (ap (chunks_of_rows (map table_row chunks)) (sym joined) ∙ chunks_again chunks)

abbrev table_row_of : Fp → ℕ → TableRow
table_row_of f n = record { fp = f; len = n }

-- the row of a fingerprint is that of a chunk
row_named : (f : Fp) (chunks : List (List ℕ)) → list_any (λ r. same_fp r.fp f) (map table_row chunks) ≡ true
    → (z : List ℕ) × Contains chunks z × (fp z ≡ f) × Contains (map table_row chunks) (table_row_of f (length z))
row_named f [] h = cc
row_named f (x ∷ xs) h = step (same_fp (fp x) f) refl h (row_named f xs)
  where
    step : (b : Bool) → same_fp (fp x) f ≡ b → (b || list_any (λ r. same_fp r.fp f) (map table_row xs)) ≡ true
        → (list_any (λ r. same_fp r.fp f) (map table_row xs) ≡ true → (z : List ℕ) × Contains xs z × (fp z ≡ f) × Contains (map table_row xs) (table_row_of f (length z)))
        → (z : List ℕ) × Contains (x ∷ xs) z × (fp z ≡ f) × Contains (map table_row (x ∷ xs)) (table_row_of f (length z))
    step true is e rest =
        let same : fp x ≡ f = same_fps (fp x) f is in
        (x, here x xs, same, subst (λ (g : Fp). Contains (map table_row (x ∷ xs)) (table_row_of g (length x))) same (here (table_row x) (map table_row xs)))
    step false is e rest = let w = rest e in (w.0, later x xs w.0 w.1, w.2, later (table_row x) (map table_row xs) (table_row_of f (length w.0)) w.3)

-- the payload is there and whole, and its chunks are among some
record IsOf (known : List (List ℕ)) (c : Container) : Type 0 where
  payload : HasPayload c
  within : (z : List ℕ) → Contains (chunks_in c) z → Contains known z

module _ (known : List (List ℕ)) (clash : NoClash known) where
  row_here : (c : Container) → IsOf known c → (f : Fp) (n : ℕ) (y : List ℕ) → Contains known y → f ≡ fp y → n ≡ length y → has_fp f c.table ≡ true → Contains c.table.rows (table_row_of f n)
  row_here c of f n y among named long has_it = at c.payload of.payload of.within
    where
      at : (o : Option (List ℕ)) → IsSomeAnd o (IsWhole c.table) → ((z : List ℕ) → Contains (option_map_or (chunks_of_rows c.table.rows) o []) z → Contains known z) → Contains c.table.rows (table_row_of f n)
      at None none within = absurd none
      at (Some p) w within =
          let found = row_named f w.0 (ap (list_any (λ (r : TableRow). same_fp r.fp f)) w.2 ∙ has_it) in
          let known_too : Contains known found.0 = within found.0 (subst (λ (xs : List (List ℕ)). Contains xs found.0) (sym (chunks_whole c.table.rows p w.0 w.1 w.2)) found.1) in
          let same : found.0 ≡ y = clash found.0 y known_too among (found.2 ∙ named) in
          subst (λ (rows : List TableRow). Contains rows (table_row_of f n)) w.2
          (subst (λ (m : ℕ). Contains (map table_row w.0) (table_row_of f m)) (ap (λ (z : List ℕ). length z) same ∙ sym long) found.3)

  row_in : (cs : List Container) → ((c : Container) → Contains cs c → IsOf known c) → (r : Row) (y : List ℕ) → Contains known y → r.fp ≡ fp y → r.len ≡ length y → HasFp cs r → HasRow cs r
  row_in cs of r y among named long has_it = at (container_in cs r.id) refl has_it
    where
      at : (o : Option Container) → container_in cs r.id ≡ o → IsSomeAnd o (λ c. IsTrue (has_fp r.fp c.table)) → IsSomeAnd o (λ c. Contains c.table.rows (table_row_of r.fp r.len))
      at None is none = absurd none
      at (Some c) is h = row_here c (of c (container_in-is cs r.id c is).0) r.fp r.len y among named long h

-- ---- what a backup writes

record IsChunkOf (known : List (List ℕ)) (c : NamedChunk) : Type 0 where
  named : c.fp ≡ fp c.bytes
  among : Contains known c.bytes

chunk_rows : (known : List (List ℕ)) (p : List NamedChunk) → ((c : NamedChunk) → Contains p c → IsChunkOf known c) → map table_row (map (λ c. c.bytes) p) ≡ map (λ c. table_row_of c.fp (length c.bytes)) p
chunk_rows known [] each = refl
chunk_rows known (c ∷ cs) each =
    ap (λ (f : Fp). table_row_of f (length c.bytes) ∷ map table_row (map (λ c. c.bytes) cs)) (sym (each c (here c cs)).named)
    ∙ ap (λ (rs : List TableRow). table_row_of c.fp (length c.bytes) ∷ rs) (chunk_rows known cs (λ d there. each d (later c cs d there)))

new_one : (known : List (List ℕ)) (id : ℕ) (p : List NamedChunk) → ((c : NamedChunk) → Contains p c → IsChunkOf known c) → IsOf known (new_container id p)
new_one known id p each = record {
  payload = (map (λ c. c.bytes) p, refl, chunk_rows known p each, refl);
  within = λ z there.
      let w = of_image (λ (c : NamedChunk). c.bytes) p z
      (subst (λ (xs : List (List ℕ)). Contains xs z) (chunks_whole (map (λ c. table_row_of c.fp (length c.bytes)) p) (concat (map (λ c. c.bytes) p)) (map (λ c. c.bytes) p) refl (chunk_rows known p each)) there) in
      subst (λ (b : List ℕ). Contains known b) w.2 (each w.0 w.1).among;
}

new_of : (known : List (List ℕ)) (next : ℕ) (ps : List (List NamedChunk)) → ((c : NamedChunk) → Contains (flat_map (λ p. p) ps) c → IsChunkOf known c) → (k : Container) → Contains (new_containers next ps) k → IsOf known k
new_of known next [] each k there = absurd (no_member k there)
new_of known next (p ∷ ps) each k there = ⊎_elim
    (λ same. subst (IsOf known) same (new_one known next p (λ c inside. each c (Contains-append_left p (flat_map (λ p. p) ps) c inside))))
    (λ rest. new_of known (next + 1) ps (λ c inside. each c (Contains-append_right p (flat_map (λ p. p) ps) c inside)) k rest)
    (first_or_rest (new_container next p) (new_containers (next + 1) ps) k there)

written_in : (cs : List NamedChunk) (hows : List How) (c : NamedChunk) → Contains (writes cs hows) c → Contains cs c
written_in [] hows c there = there
written_in (d ∷ cs) [] c there = absurd (no_member c there)
written_in (d ∷ cs) (Write ∷ hows) c there = ⊎_elim
    (λ (same : d ≡ c). subst (λ (e : NamedChunk). Contains (d ∷ cs) e) same (here d cs))
    (λ rest. later d cs c (written_in cs hows c rest))
    (first_or_rest d (writes cs hows) c there)
written_in (d ∷ cs) (Own ∷ hows) c there = later d cs c (written_in cs hows c there)
written_in (d ∷ cs) (Old id ∷ hows) c there = later d cs c (written_in cs hows c there)

abbrev IsRowOf : List (List ℕ) → Row → Type 0
IsRowOf known r = (y : List ℕ) × Contains known y × (r.fp ≡ fp y) × (r.len ≡ length y)

rows_known : (known : List (List ℕ)) (new : List Container) (ys : List (List ℕ)) (hows : List How) → ((y : List ℕ) → Contains ys y → Contains known y) → AllByRecursion (IsRowOf known) (fill_rows new (map named_chunk ys) hows)
rows_known known new [] hows each = tt
rows_known known new (y ∷ ys) [] each = tt
rows_known known new (y ∷ ys) (how ∷ hows) each = ((y, each y (here y ys), refl, refl), rows_known known new ys hows (λ z there. each z (later y ys z there)))

-- ---- what holds of the rows of each version holds of all rows

version_at : (d : Dataset) (n : ℕ) → version_in d (d.floor + n) ≡ slice_get d.versions n
version_at d n =
    let low : nat_lt (d.floor + n) d.floor ≡ false = grind (arith, nat_tests) in
    let back : d.floor + n - d.floor ≡ n = omega arith in
    ap (λ (b : Bool). cond b None (slice_get d.versions (d.floor + n - d.floor))) low ∙ ap (λ (i : ℕ). slice_get d.versions i) back

of_versions : (P : Row → Type 0) (vs : List KeptVersion) → ((n : ℕ) (j : KeptVersion) → slice_get vs n ≡ Some j → AllByRecursion P j.rows) → AllByRecursion P (flat_map (λ k. k.rows) vs)
of_versions P [] each = tt
of_versions P (k ∷ vs) each = all_append P k.rows (flat_map (λ k. k.rows) vs) (each 0 k refl) (of_versions P vs (λ n j is. each (suc n) j is))

of_datasets : (P : Row → Type 0) (ds : List Dataset) → ((t v : ℕ) (j : KeptVersion) → version_in (slice_index_or ds t empty_dataset) v ≡ Some j → AllByRecursion P j.rows) → AllByRecursion P (all_rows ds)
of_datasets P [] each = tt
of_datasets P (d ∷ ds) each = all_append P (flat_map (λ k. k.rows) d.versions) (all_rows ds)
    (of_versions P d.versions (λ n j is. each 0 (d.floor + n) j (version_at d n ∙ is)))
    (of_datasets P ds (λ t v j is. each (suc t) v j is))

row_more : (cs more : List Container) (r : Row) → HasRow cs r → HasRow (cs ++ more) r
row_more cs more r h = at (container_in cs r.id) refl h
  where
    at : (o : Option Container) → container_in cs r.id ≡ o → IsSomeAnd o (λ c. Contains c.table.rows (table_row_of r.fp r.len)) → HasRow (cs ++ more) r
    at None is none = absurd none
    at (Some c) is inside = subst (λ (o : Option Container). IsSomeAnd o (λ c. Contains c.table.rows (table_row_of r.fp r.len))) (sym (container_in-more cs more r.id c is)) inside

sum_new : (T : State) (t v s w : ℕ) (j q : KeptVersion) (x : List ℕ) → t ≡ s → v ≡ w → j ≡ q → q.sum ≡ fp x → bytes_of T s w ≡ x → j.sum ≡ fp (bytes_of T t v)
sum_new T t v s w j q x set number same sum bytes =
    ap (λ (p : KeptVersion). p.sum) same ∙ sum ∙ ap fp (sym bytes) ∙ ap (λ (u : ℕ). fp (bytes_of T u w)) (sym set) ∙ ap (λ (u : ℕ). fp (bytes_of T t u)) (sym number)

sum_old : (S T : State) (t v : ℕ) (j : KeptVersion) → ((t v : ℕ) → IfSome (version_of S t v) (λ k. k.sum ≡ fp (bytes_of S t v))) → version_of S t v ≡ Some j → bytes_of T t v ≡ bytes_of S t v → j.sum ≡ fp (bytes_of T t v)
sum_old S T t v j sums is same = subst (λ (o : Option KeptVersion). IfSome o (λ j. j.sum ≡ fp (bytes_of S t v))) is (sums t v) ∙ ap fp (sym same)

-- ---- a backup

module _ (S : State) (s : ℕ) (x : List ℕ) (config : JobConfig) (sound : IsSound S) (clash : NoClash (all_chunks S ++ cuts x config.cutting)) where
  abbrev known : List (List ℕ)
  known = all_chunks S ++ cuts x config.cutting

  abbrev chunks : List NamedChunk
  chunks = map named_chunk (cuts x config.cutting)

  abbrev hows : List How
  hows = decide (index S) (record { sparse = inherited_ids S s; config = config }) chunks

  abbrev new : List Container
  new = new_containers (next_of S) (pieces (λ c. length c.bytes) config.container (writes chunks hows))

  abbrev k : KeptVersion
  k = version_from S (filling S s chunks config) (fp x) config

  chunk_known : (c : NamedChunk) → Contains chunks c → IsChunkOf known c
  chunk_known c there =
      let w = of_image named_chunk (cuts x config.cutting) c there in
      subst (IsChunkOf known) w.2 (record { named = refl; among = Contains-append_right (all_chunks S) (cuts x config.cutting) w.0 w.1 })

  new_known : (c : Container) → Contains new c → IsOf known c
  new_known = new_of known (next_of S) (pieces (λ c. length c.bytes) config.container (writes chunks hows))
      (λ c there. chunk_known c (written_in chunks hows c (subst (λ (cs : List NamedChunk). Contains cs c) (joined-pieces (λ c. length c.bytes) config.container (writes chunks hows)) there)))

  all_known : (c : Container) → Contains (S.containers ++ new) c → IsOf known c
  all_known c there = ⊎_elim
      (λ old. record {
        payload = each_of HasPayload S.containers c sound.payloads old;
        within = λ z inside. Contains-append_left (all_chunks S) (cuts x config.cutting) z (in_flat chunks_in S.containers c z old inside);
      })
      (λ one. new_known c one)
      (Contains-append_cases S.containers new c there)

  pub chunks_backed_up : (z : List ℕ) → Contains (all_chunks (backup S s x config)) z → Contains known z
  chunks_backed_up z there = let w = of_flat chunks_in (S.containers ++ new) z there in (all_known w.0 w.1).within z w.2

  module _ (valid : IsValid (backup S s x config)) (below : s < length S.datasets) where
    is_new : version_of (backup S s x config) s (latest_of S s + 1) ≡ Some k
    is_new = version_of-new S s k new below (floor_pos S s sound.valid)

    new_rows : AllByRecursion (HasRow (S.containers ++ new)) k.rows
    new_rows = all_both (IsRowOf known) (HasFp (S.containers ++ new)) (HasRow (S.containers ++ new)) k.rows
        (λ r of has_it. row_in known clash (S.containers ++ new) all_known r of.0 of.1 of.2 of.3 has_it)
        (rows_known known new (cuts x config.cutting) hows (λ y there. Contains-append_right (all_chunks S) (cuts x config.cutting) y there))
        (rows_of (backup S s x config) s (latest_of S s + 1) k (HasFp (S.containers ++ new)) valid.rows is_new)

    sums : (t v : ℕ) (o : Option KeptVersion) → version_of (backup S s x config) t v ≡ o → IfSome o (λ j. j.sum ≡ fp (bytes_of (backup S s x config) t v))
    sums t v None is = tt
    sums t v (Some j) is = of_either (growing.version_back S s k new sound.valid below t v j is)
      where
        of_either : ((t ≡ s) × (v ≡ latest_of S s + 1) × (j ≡ k)) ⊎ (version_of S t v ≡ Some j) → j.sum ≡ fp (bytes_of (backup S s x config) t v)
        of_either (inl one) = sum_new (backup S s x config) t v s (latest_of S s + 1) j k x one.0 one.1 one.2 refl (backed_up_bytes S s x config sound below clash)
        of_either (inr old) = sum_old S (backup S s x config) t v j sound.sums old (growing.bytes_same S s k new sound.valid below t v j old)

    pub backup_sound : IsSound (backup S s x config)
    backup_sound = record {
      valid = valid;
      lens = of_datasets (HasRow (S.containers ++ new)) (backup S s x config).datasets (λ t v j is. ⊎_elim
          (λ one. subst (λ (q : KeptVersion). AllByRecursion (HasRow (S.containers ++ new)) q.rows) (sym one.2) new_rows)
          (λ old. all_more (HasRow S.containers) (HasRow (S.containers ++ new)) j.rows (row_more S.containers new) (rows_of S t v j (HasRow S.containers) sound.lens old))
          (growing.version_back S s k new sound.valid below t v j is));
      payloads = all_each HasPayload (S.containers ++ new) (λ c there. (all_known c there).payload);
      sums = λ t v. sums t v (version_of (backup S s x config) t v) refl;
    }

-- ---- a deletion

module _ (S : State) (s n : ℕ) (sound : IsSound S) where
  pub chunks_kept : (z : List ℕ) → Contains (all_chunks (delete S s n)) z → Contains (all_chunks S) z
  chunks_kept z there =
      let w = of_flat chunks_in (delete S s n).containers z there in
      in_flat chunks_in S.containers w.0 z (filter_within (λ c. has c.table.id (named (delete S s n))) S.containers w.0 w.1) w.2

  module _ (valid : IsValid (delete S s n)) (below : s < length S.datasets) (low : n < latest_of S s) where
    rows_kept : (t v : ℕ) (j : KeptVersion) → version_of (delete S s n) t v ≡ Some j → AllByRecursion (HasRow (delete S s n).containers) j.rows
    rows_kept t v j is = all_both (HasRow S.containers) (λ r. has r.id (map (λ r. r.id) (all_rows (delete S s n).datasets)) ≡ true) (HasRow (delete S s n).containers) j.rows
        (λ r there named_too. subst (λ (o : Option Container). IsSomeAnd o (λ c. Contains c.table.rows (table_row_of r.fp r.len)))
        (sym (container-kept (named (delete S s n)) r.id S.containers (has-set_of r.id (map (λ r. r.id) (all_rows (delete S s n).datasets)) ∙ named_too))) there)
        (rows_of S t v j (HasRow S.containers) sound.lens (shrinking.version_was S s n sound.valid below low t v j is))
        (rows_of (delete S s n) t v j (λ r. has r.id (map (λ r. r.id) (all_rows (delete S s n).datasets)) ≡ true) (has_all (all_rows (delete S s n).datasets) (all_rows (delete S s n).datasets) (λ i h. h)) is)

    sums_kept : (t v : ℕ) (o : Option KeptVersion) → version_of (delete S s n) t v ≡ o → IfSome o (λ j. j.sum ≡ fp (bytes_of (delete S s n) t v))
    sums_kept t v None is = tt
    sums_kept t v (Some j) is = sum_old S (delete S s n) t v j sound.sums (shrinking.version_was S s n sound.valid below low t v j is) (shrinking.bytes_same S s n sound.valid below low t v j is)

    pub delete_sound : IsSound (delete S s n)
    delete_sound = record {
      valid = valid;
      lens = of_datasets (HasRow (delete S s n).containers) (delete S s n).datasets (λ t v j is. rows_kept t v j is);
      payloads = all_each HasPayload (delete S s n).containers (λ c there. each_of HasPayload S.containers c sound.payloads (filter_within (λ c. has c.table.id (named (delete S s n))) S.containers c there));
      sums = λ t v. sums_kept t v (version_of (delete S s n) t v) refl;
    }
