-- What a step of feeding leaves, and the first chunk of some bytes.
use Rattle.std.proofs.Common.{◌≡◌, ℕ, ◌≤◌, List, [], ◌∷◌, ◌++◌, length, take, drop, refl, sym, ap, ◌∙◌, subst, arith, append-nil, None}
use Rattle.std.specs.Prelude.{slice_index_or}
use Rattle.std.proofs.lemmas.List.{take-append-drop, length-take-le}
use Rattle.vault_types.specs.declared.Cutting.TheVariants.{Ae}
use Rattle.vault_types.specs.Cuts.{Chunker, settled_len, settled, unsettled, only_bytes, cuts}
use Rattle.vault_types.proofs.PartsLemmas.{parts_end, rest_end}
use Rattle.chunk_ae.specs.declared.scan.Scan.{Scan}
use Rattle.vault_types.specs.JobRanges.{IsCuttable}
use Rattle.vault_types.specs.Feeds.{HoldsPiece}
use Rattle.chunk_ae.specs.Scans.{IsScan, IsEnd}
use Rattle.vault_types.proofs.CutLemmas.{ae-stable}
use Rattle.vault_types.proofs.FeedLemmas.{settled_whole}
use Rattle.chunk_ae.proofs.ScanLemmas.{open-none}

abbrev pub chunker : ℕ → ℕ → List ℕ → Chunker
chunker w m held = record { cutting = Ae w m; held = held }

pub kept-by : (k n : Chunker) (w m : ℕ) (held next piece : List ℕ) (s : Scan) → chunker w m held ≡ k → chunker w m next ≡ n → IsCuttable (Ae w m)
    → IsScan w m next s → next ≡ held ++ piece → HoldsPiece k n piece
kept-by k n w m held next piece s e f can scan is =
    let P : Chunker → Type 0 = λ c. settled_len c.cutting c.held ≡ None in
    record {
      cuttable = subst (λ (c : Chunker). IsCuttable c.cutting) e can;
      cutting = ap (λ c. c.cutting) (sym f) ∙ ap (λ c. c.cutting) e;
      held = ap (λ c. c.held) (sym f) ∙ is ∙ ap (λ c. c.held ++ piece) e;
      none = subst P f (open-none w m next s scan);
    }

pub nothing_more : (held piece : List ℕ) → length piece ≡ 0 → held ≡ held ++ piece
nothing_more held [] e = sym (append-nil held)
nothing_more held (b ∷ bs) e = absurd (omega arith)

pub first-whole : (w m t : ℕ) (bytes : List ℕ) → IsEnd w m [] bytes t → t ≡ length (slice_index_or (cuts bytes (Ae w m)) 0 [])
first-whole w m t bytes h =
    let within : t ≤ length bytes = h.within in
    let chunk : List ℕ = take t bytes in
    let first : settled bytes (Ae w m) ≡ chunk ∷ settled (drop t bytes) (Ae w m) =
    ap (λ x. settled x (Ae w m)) (sym (take-append-drop t bytes)) ∙ settled_whole (Ae w m) (ae-stable w m) chunk (drop t bytes) h.fixed in
    sym (length-take-le t bytes within)
    ∙ ap (λ cs. length (slice_index_or (cs ++ only_bytes (unsettled bytes (Ae w m))) 0 [])) (sym first)

only-first : (bytes : List ℕ) → length bytes ≡ length (slice_index_or (only_bytes bytes) 0 [])
only-first [] = refl
only-first (b ∷ bs) = refl

pub first-open : (w m : ℕ) (bytes : List ℕ) (s : Scan) → IsScan w m bytes s → length bytes ≡ length (slice_index_or (cuts bytes (Ae w m)) 0 [])
first-open w m bytes s h =
    let none : settled_len (Ae w m) bytes ≡ None = open-none w m bytes s h in
    only-first bytes
    ∙ ap (λ x. length (slice_index_or (only_bytes x) 0 [])) (sym (rest_end (settled_len (Ae w m)) bytes none))
    ∙ ap (λ cs. length (slice_index_or (cs ++ only_bytes (unsettled bytes (Ae w m))) 0 [])) (sym (parts_end (settled_len (Ae w m)) bytes none))
