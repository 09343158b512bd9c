-- One more byte of a chunk: it goes on, or ends.
use Rattle.std.proofs.Common.{◌≡◌, ◌⊎◌, inl, inr, take, get_or, append-nil, append_assoc, ℕ, suc, ◌+◌, ◌*◌, ◌-◌, ◌%◌, ◌^◌, ◌<◌, ◌≤◌, Bool, true, false, List, [], ◌∷◌, ◌++◌, length, refl, sym, ap, ◌∙◌, subst, arith, length-append, Some, None}
use Rattle.std.specs.Prelude.{nat_le, min, find, bit_or}
use Rattle.std.proofs.lemmas.Nat.{or_shifted}
use Rattle.std.proofs.lemmas.List.{take_more}
use Rattle.std.specs.List.{range_with_len}
use Rattle.std.proofs.lemmas.Bool.Decides.{nat_tests}
use Rattle.vault_types.specs.declared.Cutting.TheVariants.{Ae}
use Rattle.vault_types.specs.Cuts.{ends_at, settled_len}
use Rattle.chunk_ae.specs.declared.scan.Scan.{Scan}
use Rattle.std.proofs.Math.Seq.{take-length}
use Rattle.chunk_ae.specs.Scans.{IsPeak, IsScan, IsEnd}
use Rattle.chunk_ae.proofs.EndLemmas.{find-none, find-last}
use Rattle.vault_types.proofs.CutLemmas.{ends_at-append}
use Rattle.chunk_ae.proofs.PeakLemmas.{peak-start, peak-new, peak-old, ends-no, ends-yes}

-- what has no end so far has none settled
pub open-none : (w m : ℕ) (x : List ℕ) (s : Scan) → IsScan w m x s → settled_len (Ae w m) x ≡ None
open-none w m x s h = find-none (ends_at w m x) 1 (length x) (λ p i j. h.none p i (omega arith))

pub scan-start : (w m : ℕ) (s : Scan) → 1 ≤ w → w < m → s ≡ record { len = 0; recent = 0; peak = 0; end = w + 1 } → IsScan w m [] s
scan-start w m s some less is =
    let P : Scan → Type 0 = λ t. IsScan w m [] t in
    subst P (sym is) (record {
      len = refl;
      peak = peak-start w m less;
      before = omega arith;
      none = λ n i j. absurd (omega arith);
    })

-- no end before one more byte
none-more : (w m : ℕ) (x : List ℕ) (b : ℕ) (s : Scan) → IsScan w m x s → (n : ℕ) → 1 ≤ n → n ≤ length x → ends_at w m (x ++ b ∷ []) n ≡ false
none-more w m x b s h n i j = ends_at-append w m x (b ∷ []) n j ∙ h.none n i j

pub scan-on : (w m : ℕ) (x : List ℕ) (b : ℕ) (s : Scan) (r p e : ℕ) → 1 ≤ w → IsScan w m x s → IsPeak w m (x ++ b ∷ []) r p e → length x + 1 < e
    → IsScan w m (x ++ b ∷ []) (record { len = s.len + 1; recent = r; peak = p; end = e })
scan-on w m x b s r p e some h peak before =
    let len : length (x ++ b ∷ []) ≡ length x + 1 = length-append x (b ∷ []) in
    let was : s.len ≡ length x = h.len in
    record {
      len = omega arith;
      peak = peak;
      before = omega arith;
      none = λ n i j. step n i j (nat_le n (length x)) refl len;
    }
  where
    step : (n : ℕ) → 1 ≤ n → n ≤ length (x ++ b ∷ []) → (t : Bool) → nat_le n (length x) ≡ t → length (x ++ b ∷ []) ≡ length x + 1 → ends_at w m (x ++ b ∷ []) n ≡ false
    step n i j true t len = none-more w m x b s h n i (grind (arith, nat_tests))
    step n i j false t len =
        let past : length x < n = grind (arith, nat_tests) in
        let last : n ≡ length (x ++ b ∷ []) = omega arith in
        ap (ends_at w m (x ++ b ∷ [])) last ∙ ends-no w m (x ++ b ∷ []) r p e some peak (omega arith) (omega arith)

pub scan-end : (w m : ℕ) (x : List ℕ) (b : ℕ) (s : Scan) (r p e : ℕ) → IsScan w m x s → IsPeak w m (x ++ b ∷ []) r p e → length x + 1 ≡ e
    → settled_len (Ae w m) (x ++ b ∷ []) ≡ Some (length (x ++ b ∷ []))
scan-end w m x b s r p e h peak at =
    let len : length (x ++ b ∷ []) ≡ length x + 1 = length-append x (b ∷ []) in
    let yes : ends_at w m (x ++ b ∷ []) (length (x ++ b ∷ [])) ≡ true = ends-yes w m (x ++ b ∷ []) r p e peak (omega arith) (omega arith) in
    let size : length (x ++ b ∷ []) ≡ suc (length x) = omega arith in
    let one : length (x ++ b ∷ []) ≡ 1 + length x = omega arith in
    let P : ℕ → Type 0 = λ n. ends_at w m (x ++ b ∷ []) n ≡ true in
    ap (λ n. find (ends_at w m (x ++ b ∷ [])) (range_with_len 1 n)) size
    ∙ find-last (ends_at w m (x ++ b ∷ [])) 1 (length x) (λ n i j. none-more w m x b s h n i (omega arith)) (subst P one yes)
    ∙ ap Some (sym one)

-- at the code's values

pub scan-same : (w m : ℕ) (x : List ℕ) (s : Scan) (len e : ℕ) → len ≡ s.len → e ≡ s.end → IsScan w m x s
    → IsScan w m (x ++ []) (record { len = len; recent = s.recent; peak = s.peak; end = e })
scan-same w m x s len e same end h =
    let P : List ℕ → Type 0 = λ y. IsScan w m y (record { len = len; recent = s.recent; peak = s.peak; end = e }) in
    let Q : ℕ → Type 0 = λ n. IsPeak w m x s.recent s.peak n in
    let before : length x < s.end = h.before in
    subst P (sym (append-nil x)) (record {
      len = same ∙ h.len;
      peak = subst Q (sym end) h.peak;
      before = omega arith;
      none = h.none;
    })

-- the peak behind one more byte: a greater value is the new one, and an equal one isn't
pub peak-step : (w m : ℕ) (x : List ℕ) (s : Scan) (b v p e : ℕ) → IsScan w m x s → b < 256 → v ≡ (s.recent * 256) % 2 ^ 64 + b
    → ((s.peak < v) × (p ≡ v) × (e ≡ min (length x + 1 + w) m)) ⊎ ((v ≤ s.peak) × (p ≡ s.peak) × (e ≡ s.end))
    → IsPeak w m (x ++ b ∷ []) v p e
peak-step w m x s b v p e h i is (inl new) =
    let P : ℕ → Type 0 = λ q. IsPeak w m (x ++ b ∷ []) v q e in
    let Q : ℕ → Type 0 = λ f. IsPeak w m (x ++ b ∷ []) v v f in
    subst P (sym new.1) (subst Q (sym new.2) (peak-new w m x s.recent s.peak s.end b v h.peak i is new.0))
peak-step w m x s b v p e h i is (inr old) =
    let P : ℕ → Type 0 = λ q. IsPeak w m (x ++ b ∷ []) v q e in
    let Q : ℕ → Type 0 = λ f. IsPeak w m (x ++ b ∷ []) v s.peak f in
    subst P (sym old.1) (subst Q (sym old.2) (peak-old w m x s.recent s.peak s.end b v h.peak i is old.0))

-- the code's last eight bytes
pub shift-in : (r b : ℕ) → b < 256 → bit_or ((r * 2 ^ 8) % 2 ^ 64) b ≡ (r * 256) % 2 ^ 64 + b
shift-in r b i =
    let low : (r * 2 ^ 8) % 2 ^ 64 ≡ (r % 2 ^ 56) * 2 ^ 8 = omega arith in
    let same : (r % 2 ^ 56) * 2 ^ 8 ≡ (r * 256) % 2 ^ 64 = omega arith in
    ap (λ n. bit_or n b) low ∙ or_shifted (r % 2 ^ 56) 8 b i ∙ ap (λ n. n + b) same

-- one more byte of a piece
pub take-next : (x piece : List ℕ) (i : ℕ) → i < length piece → x ++ take (i + 1) piece ≡ (x ++ take i piece) ++ get_or piece i 0 ∷ []
take-next x piece i h = ap (λ ys. x ++ ys) (take_more piece i 0 h) ∙ sym (append_assoc x (take i piece) (get_or piece i 0 ∷ []))

abbrev pub at : ℕ → ℕ → ℕ → ℕ → ℕ → Scan
at len i recent peak stop = record { len = len + i; recent = recent; peak = peak; end = len + stop }

-- what the code finds at one more byte
abbrev pub Finds : ℕ → ℕ → ℕ → ℕ → ℕ → ℕ → ℕ → ℕ → ℕ → Type 0
Finds w m len i peak stop v p e = ((peak < v) × (p ≡ v) × (e ≡ min (i + 1 + w) (m - len))) ⊎ ((v ≤ peak) × (p ≡ peak) × (e ≡ stop))

code-peak : (w m len : ℕ) (x piece : List ℕ) (i recent peak stop v p e : ℕ) → len ≤ m → i < length piece → get_or piece i 0 < 256
    → IsScan w m (x ++ take i piece) (at len i recent peak stop) → v ≡ bit_or ((recent * 2 ^ 8) % 2 ^ 64) (get_or piece i 0) → Finds w m len i peak stop v p e
    → IsPeak w m ((x ++ take i piece) ++ get_or piece i 0 ∷ []) v p (len + e)
code-peak w m len x piece i recent peak stop v p e short within byte h is finds =
    let long : len + i ≡ length (x ++ take i piece) = h.len in
    peak-step w m (x ++ take i piece) (at len i recent peak stop) (get_or piece i 0) v p (len + e) h byte (is ∙ shift-in recent (get_or piece i 0) byte)
    (step finds long)
  where
    step : Finds w m len i peak stop v p e → len + i ≡ length (x ++ take i piece)
        → ((peak < v) × (p ≡ v) × (len + e ≡ min (length (x ++ take i piece) + 1 + w) m)) ⊎ ((v ≤ peak) × (p ≡ peak) × (len + e ≡ len + stop))
    step (inl new) long = let stop_is : e ≡ min (i + 1 + w) (m - len) = new.2 in inl (new.0, new.1, omega arith)
    step (inr old) long = inr (old.0, old.1, ap (λ n. len + n) old.2)

pub code-on : (w m len : ℕ) (x piece : List ℕ) (i recent peak stop v p e : ℕ) → 1 ≤ w → len ≤ m → i < length piece → get_or piece i 0 < 256
    → IsScan w m (x ++ take i piece) (at len i recent peak stop) → v ≡ bit_or ((recent * 2 ^ 8) % 2 ^ 64) (get_or piece i 0) → Finds w m len i peak stop v p e
    → i + 1 < e → IsScan w m (x ++ take (i + 1) piece) (at len (i + 1) v p e)
code-on w m len x piece i recent peak stop v p e some short within byte h is finds before =
    let long : len + i ≡ length (x ++ take i piece) = h.len in
    let next : IsScan w m ((x ++ take i piece) ++ get_or piece i 0 ∷ []) (record { len = len + i + 1; recent = v; peak = p; end = len + e }) =
    scan-on w m (x ++ take i piece) (get_or piece i 0) (at len i recent peak stop) v p (len + e) some h
    (code-peak w m len x piece i recent peak stop v p e short within byte h is finds) (omega arith) in
    let P : List ℕ → Type 0 = λ y. IsScan w m y (at len (i + 1) v p e) in
    let Q : ℕ → Type 0 = λ n. IsScan w m ((x ++ take i piece) ++ get_or piece i 0 ∷ []) (record { len = n; recent = v; peak = p; end = len + e }) in
    subst P (sym (take-next x piece i within)) (subst Q (let l : len + i + 1 ≡ len + (i + 1) = omega arith in l) next)

pub code-end : (w m len : ℕ) (x piece : List ℕ) (i recent peak stop v p e : ℕ) → len ≤ m → i < length piece → get_or piece i 0 < 256
    → IsScan w m (x ++ take i piece) (at len i recent peak stop) → v ≡ bit_or ((recent * 2 ^ 8) % 2 ^ 64) (get_or piece i 0) → Finds w m len i peak stop v p e
    → i + 1 ≡ e → IsEnd w m x piece e
code-end w m len x piece i recent peak stop v p e short within byte h is finds last =
    let long : len + i ≡ length (x ++ take i piece) = h.len in
    let P : List ℕ → Type 0 = λ y. settled_len (Ae w m) y ≡ Some (length y) in
    let Q : ℕ → Type 0 = λ n. settled_len (Ae w m) (x ++ take n piece) ≡ Some (length (x ++ take n piece)) in
    record {
      some = omega arith;
      within = omega arith;
      fixed = subst Q last (subst P (sym (take-next x piece i within))
          (scan-end w m (x ++ take i piece) (get_or piece i 0) (at len i recent peak stop) v p (len + e) h
          (code-peak w m len x piece i recent peak stop v p e short within byte h is finds) (omega arith)));
    }

pub code-all : (w m len : ℕ) (x piece : List ℕ) (i recent peak stop : ℕ) → i ≡ length piece
    → IsScan w m (x ++ take i piece) (at len i recent peak stop) → IsScan w m (x ++ piece) (at len (length piece) recent peak stop)
code-all w m len x piece i recent peak stop all h =
    let P : ℕ → Type 0 = λ n. IsScan w m (x ++ take n piece) (at len n recent peak stop) in
    let Q : List ℕ → Type 0 = λ y. IsScan w m (x ++ y) (at len (length piece) recent peak stop) in
    subst Q (take-length piece) (subst P all h)
