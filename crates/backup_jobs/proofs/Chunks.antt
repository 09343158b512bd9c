-- The chunks of a stream, and the containers that a job fills with them.
use Rattle.std.proofs.Common.{◌≡◌, ℕ, zero, suc, ◌+◌, ◌≤◌, Bool, true, false, cond, ◌&&◌, List, [], ◌∷◌, ◌++◌, length, drop, take, refl, sym, ap, ◌∙◌, subst, arith, Option, Some, None}
use Rattle.std.specs.Prelude.{nat_lt, nat_le, filter}
use Rattle.std.specs.Option.{option_map_or}
use Rattle.std.specs.List.{AllByRecursion}
use Rattle.std.proofs.lemmas.List.{length-map}
use Rattle.std.proofs.lemmas.Bool.Decides.{nat_tests}
use Rattle.vault_types.specs.declared.How.{How}
use Rattle.vault_types.specs.declared.How.TheVariants.{Old, Own, Write}
use Rattle.vault_types.specs.declared.Cutting.{Cutting}
use Rattle.vault_types.specs.Lists.{parts_up_to}
use Rattle.vault_types.specs.Cuts.{cuts, settled, unsettled, only_bytes}
use Rattle.vault_types.specs.Names.{NamedChunk, named_chunk}
use Rattle.vault_types.specs.Pieces.{piece_len, pieces}
use Rattle.vault_types.specs.Stages.{is_chunk}
use Rattle.vault_types.specs.Tables.{Container}
use Rattle.vault_types.specs.Decide.{decide, decisions, segments}
use Rattle.vault_types.specs.Fill.{fill, new_containers, rows_of, writes}
use Rattle.vault_types.proofs.RestoreLemmas.{fps-decide}
use Rattle.fp_index.specs.Index.{found_in}
use Rattle.container_fill.proofs.PlaceLemmas.{containers-len}
use Rattle.vault_types.specs.JobRanges.{IsCuttable}
use Rattle.stream_cutter.proofs.Sizes.{settled_chunks, last_chunks}
use Rattle.backup_jobs.specs.Going.{Began, AreNumbered, rules_of, chunks_of, made}

-- chunks have 1 to 65,536 bytes

abbrev pub AreChunks : List (List ℕ) → Type 0
AreChunks ys = AllByRecursion (λ y. is_chunk y ≡ true) ys

pub chunk_sizes : (y : List ℕ) → is_chunk y ≡ true → (1 ≤ length y) × (length y ≤ 65536)
chunk_sizes y h = step (nat_lt 0 (length y)) (nat_le (length y) 65536) refl refl h
  where
    step : (a b : Bool) → nat_lt 0 (length y) ≡ a → nat_le (length y) 65536 ≡ b → (a && b) ≡ true → (1 ≤ length y) × (length y ≤ 65536)
    step true true e f h = (grind (arith, nat_tests), grind (arith, nat_tests))
    step true false e f h = cc
    step false b e f h = cc

chunks_pass : (ys : List (List ℕ)) → AreChunks (filter is_chunk ys)
chunks_pass [] = tt
chunks_pass (y ∷ ys) =
    elim (is_chunk y) as (λ b. is_chunk y ≡ b → AreChunks (cond b (y ∷ filter is_chunk ys) (filter is_chunk ys))) [
      | true ↦ λ e. (e, chunks_pass ys)
      | false ↦ λ e. chunks_pass ys
    ] refl

chunks_append : (xs ys : List (List ℕ)) → AreChunks xs → AreChunks ys → AreChunks (xs ++ ys)
chunks_append [] ys h i = i
chunks_append (x ∷ xs) ys h i = (h.0, chunks_append xs ys h.1 i)

pub cuts_are_chunks : (c : Cutting) → IsCuttable c → (x : List ℕ) → AreChunks (cuts x c)
cuts_are_chunks c h x =
    chunks_append (settled x c) (only_bytes (unsettled x c))
    (subst AreChunks (settled_chunks c h x) (chunks_pass (settled x c)))
    (subst AreChunks (last_chunks c h x) (chunks_pass (only_bytes (unsettled x c))))

-- containers are numbered

pub numbered_new : (n : ℕ) (ps : List (List NamedChunk)) → AreNumbered n (new_containers n ps)
numbered_new n [] = tt
numbered_new n (p ∷ ps) = (refl, numbered_new (n + 1) ps)

-- what a job makes of a stream

abbrev pub hows : Began → List ℕ → List How
hows b x = decide (found_in b.index) (rules_of b) (chunks_of b.config x)

abbrev pub written : Began → List ℕ → List NamedChunk
written b x = writes (chunks_of b.config x) (hows b x)

abbrev pub written_pieces : Began → List ℕ → List (List NamedChunk)
written_pieces b x = pieces (λ c. length c.bytes) b.config.container (written b x)

pub made_numbered : (b : Began) (x : List ℕ) → AreNumbered b.first (made b x).containers
made_numbered b x = numbered_new b.first (written_pieces b x)

pub chunks_len : (b : Began) (x : List ℕ) → length (chunks_of b.config x) ≡ length (cuts x b.config.cutting)
chunks_len b x = length-map (cuts x b.config.cutting) named_chunk

pub hows_len : (b : Began) (x : List ℕ) → length (hows b x) ≡ length (chunks_of b.config x)
hows_len b x =
    length-map (decisions (rules_of b) [] (segments (found_in b.index) b.config (chunks_of b.config x))) (λ p. p.1)
    ∙ sym (length-map (decisions (rules_of b) [] (segments (found_in b.index) b.config (chunks_of b.config x))) (λ p. p.0))
    ∙ ap length (fps-decide (found_in b.index) (rules_of b) (chunks_of b.config x))
    ∙ length-map (chunks_of b.config x) (λ c. c.fp)

parts_few : {X : Type 0} (n : ℕ) (len : List X → Option ℕ) (xs : List X) → length (parts_up_to n len xs) ≤ n
parts_few zero len xs = omega arith
parts_few {X} (suc n) len xs =
    elim (len xs) as (λ o. length (option_map_or (λ k. take k xs ∷ parts_up_to n len (drop k xs)) o []) ≤ suc n) [
      | None ↦ omega arith
      | Some k ↦ let few : length (parts_up_to n len (drop k xs)) ≤ n = parts_few n len (drop k xs) in omega arith
    ]

writes_few : (cs : List NamedChunk) (hs : List How) → length (writes cs hs) ≤ length cs
writes_few [] hs = omega arith
writes_few (c ∷ cs) [] = omega arith
writes_few (c ∷ cs) (Write ∷ hs) = omega (arith, writes_few cs hs)
writes_few (c ∷ cs) (Own ∷ hs) = omega (arith, writes_few cs hs)
writes_few (c ∷ cs) (Old id ∷ hs) = omega (arith, writes_few cs hs)

pub fill_few : (first : ℕ) (cs : List NamedChunk) (hs : List How) (capacity : ℕ) → length (fill first cs hs capacity).containers ≤ length cs
fill_few first cs hs capacity =
    let ps : List (List NamedChunk) = pieces (λ c. length c.bytes) capacity (writes cs hs) in
    let containers : length (new_containers first ps) ≡ length ps = containers-len first ps in
    let some : length ps ≤ length (writes cs hs) = parts_few (length (writes cs hs)) (piece_len (λ c. length c.bytes) capacity) (writes cs hs) in
    omega (arith, containers, some, writes_few cs hs)

pub made_few : (b : Began) (x : List ℕ) → length (made b x).containers ≤ length (cuts x b.config.cutting)
made_few b x = omega (arith, fill_few b.first (chunks_of b.config x) (hows b x) b.config.container, chunks_len b x)

-- each chunk has a row

rows_len : (new : List Container) (cs : List NamedChunk) (hs : List How) → length hs ≡ length cs → length (rows_of new cs hs) ≡ length cs
rows_len new [] hs e = refl
rows_len new (c ∷ cs) [] e = absurd (omega arith)
rows_len new (c ∷ cs) (h ∷ hs) e = let rest : length (rows_of new cs hs) ≡ length cs = rows_len new cs hs (omega arith) in omega arith

pub made_rows : (b : Began) (x : List ℕ) → length (made b x).rows ≡ length (cuts x b.config.cutting)
made_rows b x = rows_len (made b x).containers (chunks_of b.config x) (hows b x) (hows_len b x) ∙ chunks_len b x
