-- The first of the greatest values of a chunk, as its bytes pass, and where the chunk ends by it.
use Rattle.std.proofs.Common.{◌≡◌, ℕ, ◌+◌, ◌*◌, ◌-◌, ◌%◌, ◌^◌, ◌<◌, ◌≤◌, ◌==◌, Bool, true, false, ◌&&◌, ◌||◌, List, [], ◌∷◌, ◌++◌, length, refl, sym, ap, ◌∙◌, arith, length-append}
use Rattle.std.specs.Prelude.{◌≢◌, nat_le, nat_lt, min, max}
use Rattle.std.proofs.lemmas.Bool.Decides.{nat_tests}
use Rattle.vault_types.specs.Cuts.{value_at, is_peak, is_unbeaten, ends_at}
use Rattle.chunk_ae.specs.Scans.{IsPeak}
use Rattle.chunk_ae.proofs.EndLemmas.{list_all-holds, list_all-fails}
use Rattle.vault_types.proofs.CutLemmas.{value_at-append}
use Rattle.chunk_ae.proofs.ValueLemmas.{bytes-more, value-next}

pub peak-start : (w m : ℕ) → w < m → IsPeak w m [] 0 0 (w + 1)
peak-start w m less = record {
  bytes = tt;
  recent_is = refl;
  place = 1;
  low = omega arith;
  high = omega arith;
  peak_is = refl;
  earlier = λ p i j. absurd (omega arith);
  later = λ p i j. absurd (omega arith);
  end_is = omega arith;
}

-- no value passes the peak
peak-bound : (w m : ℕ) (x : List ℕ) (r p e : ℕ) (h : IsPeak w m x r p e) (q : ℕ) → 1 ≤ q → q ≤ length x → value_at x q ≤ p
peak-bound w m x r p e h q i j = step (nat_lt q h.place) refl (q == h.place) refl
  where
    peak : p ≡ value_at x h.place
    peak = h.peak_is

    step : (a : Bool) → nat_lt q h.place ≡ a → (b : Bool) → (q == h.place) ≡ b → value_at x q ≤ p
    step true s b t =
        let before : q < h.place = grind (arith, nat_tests) in
        let less : value_at x q < value_at x h.place = h.earlier q i before in
        omega (arith, peak)
    step false s true t =
        let same : q ≡ h.place = grind (arith, nat_tests) in
        let here : value_at x q ≡ value_at x h.place = ap (value_at x) same in
        omega (arith, peak)
    step false s false t =
        let behind : h.place < q = grind (arith, nat_tests) in
        let most : value_at x q ≤ value_at x h.place = h.later q behind j in
        omega (arith, peak)

-- the value behind one more byte
now : (w m : ℕ) (x : List ℕ) (r p e b v : ℕ) → IsPeak w m x r p e → b < 256 → v ≡ (r * 256) % 2 ^ 64 + b → v ≡ value_at (x ++ b ∷ []) (length (x ++ b ∷ []))
now w m x r p e b v h i is = is ∙ ap (λ n. (n * 256) % 2 ^ 64 + b) h.recent_is ∙ sym (value-next x b h.bytes i)

pub peak-new : (w m : ℕ) (x : List ℕ) (r p e b v : ℕ) → IsPeak w m x r p e → b < 256 → v ≡ (r * 256) % 2 ^ 64 + b → p < v
    → IsPeak w m (x ++ b ∷ []) v v (min (length x + 1 + w) m)
peak-new w m x r p e b v h i is more =
    let len : length (x ++ b ∷ []) ≡ length x + 1 = length-append x (b ∷ []) in
    let here : v ≡ value_at (x ++ b ∷ []) (length x + 1) = now w m x r p e b v h i is ∙ ap (value_at (x ++ b ∷ [])) len in
    record {
      bytes = bytes-more x b h.bytes i;
      recent_is = now w m x r p e b v h i is;
      place = length x + 1;
      low = omega arith;
      high = omega arith;
      peak_is = here;
      earlier = λ q j k.
          let same : value_at (x ++ b ∷ []) q ≡ value_at x q = value_at-append x (b ∷ []) q (omega arith) in
          let bound : value_at x q ≤ p = peak-bound w m x r p e h q j (omega arith) in
          omega arith;
      later = λ q j k. absurd (omega arith);
      end_is = refl;
    }

old-first : (w m r p e b v : ℕ) → IsPeak w m [] r p e → b < 256 → v ≡ (r * 256) % 2 ^ 64 + b → v ≤ p → IsPeak w m (b ∷ []) v p e
old-first w m r p e b v h i is less =
    let low : 1 ≤ h.place = h.low in
    let high : h.place ≤ max 1 (length {A = ℕ} []) = h.high in
    let one : h.place ≡ 1 = omega arith in
    let nothing : p ≡ 0 = h.peak_is ∙ ap (value_at []) one in
    let here : v ≡ value_at (b ∷ []) 1 = now w m [] r p e b v h i is in
    record {
      bytes = (i, tt);
      recent_is = here;
      place = 1;
      low = omega arith;
      high = omega arith;
      peak_is = (let zero_too : p ≡ v = omega arith in zero_too) ∙ here;
      earlier = λ q j k. absurd (omega arith);
      later = λ q j k. absurd (omega arith);
      end_is = h.end_is ∙ ap (λ n. min (n + w) m) one;
    }

old-later : (w m y : ℕ) (ys : List ℕ) (r p e b v : ℕ) → IsPeak w m (y ∷ ys) r p e → b < 256 → v ≡ (r * 256) % 2 ^ 64 + b → v ≤ p
    → IsPeak w m ((y ∷ ys) ++ b ∷ []) v p e
old-later w m y ys r p e b v h i is less =
    let len : length ((y ∷ ys) ++ b ∷ []) ≡ length (y ∷ ys) + 1 = length-append (y ∷ ys) (b ∷ []) in
    let low : 1 ≤ h.place = h.low in
    let high : h.place ≤ max 1 (length (y ∷ ys)) = h.high in
    let peak : p ≡ value_at (y ∷ ys) h.place = h.peak_is in
    let stays : value_at ((y ∷ ys) ++ b ∷ []) h.place ≡ value_at (y ∷ ys) h.place = value_at-append (y ∷ ys) (b ∷ []) h.place (omega arith) in
    let here : v ≡ value_at ((y ∷ ys) ++ b ∷ []) (length (y ∷ ys) + 1) = now w m (y ∷ ys) r p e b v h i is ∙ ap (value_at ((y ∷ ys) ++ b ∷ [])) len in
    record {
      bytes = bytes-more (y ∷ ys) b h.bytes i;
      recent_is = now w m (y ∷ ys) r p e b v h i is;
      place = h.place;
      low = h.low;
      high = omega arith;
      peak_is = peak ∙ sym stays;
      earlier = λ q j k.
          let same : value_at ((y ∷ ys) ++ b ∷ []) q ≡ value_at (y ∷ ys) q = value_at-append (y ∷ ys) (b ∷ []) q (omega arith) in
          let before : value_at (y ∷ ys) q < value_at (y ∷ ys) h.place = h.earlier q j k in
          omega arith;
      later = λ q j k. behind q j k;
      end_is = h.end_is;
    }
  where
    behind : (q : ℕ) → h.place < q → q ≤ length ((y ∷ ys) ++ b ∷ []) → value_at ((y ∷ ys) ++ b ∷ []) q ≤ value_at ((y ∷ ys) ++ b ∷ []) h.place
    behind q j k =
        let len : length ((y ∷ ys) ++ b ∷ []) ≡ length (y ∷ ys) + 1 = length-append (y ∷ ys) (b ∷ []) in
        let low : 1 ≤ h.place = h.low in
        let high : h.place ≤ max 1 (length (y ∷ ys)) = h.high in
        let peak : p ≡ value_at (y ∷ ys) h.place = h.peak_is in
        let stays : value_at ((y ∷ ys) ++ b ∷ []) h.place ≡ value_at (y ∷ ys) h.place = value_at-append (y ∷ ys) (b ∷ []) h.place (omega arith) in
        let here : v ≡ value_at ((y ∷ ys) ++ b ∷ []) (length (y ∷ ys) + 1) = now w m (y ∷ ys) r p e b v h i is ∙ ap (value_at ((y ∷ ys) ++ b ∷ [])) len in
        step (nat_le q (length (y ∷ ys))) refl stays peak here len
      where
        step : (t : Bool) → nat_le q (length (y ∷ ys)) ≡ t
            → value_at ((y ∷ ys) ++ b ∷ []) h.place ≡ value_at (y ∷ ys) h.place → p ≡ value_at (y ∷ ys) h.place
            → v ≡ value_at ((y ∷ ys) ++ b ∷ []) (length (y ∷ ys) + 1) → length ((y ∷ ys) ++ b ∷ []) ≡ length (y ∷ ys) + 1
            → value_at ((y ∷ ys) ++ b ∷ []) q ≤ value_at ((y ∷ ys) ++ b ∷ []) h.place
        step true s stays peak here len =
            let within : q ≤ length (y ∷ ys) = grind (arith, nat_tests) in
            let same : value_at ((y ∷ ys) ++ b ∷ []) q ≡ value_at (y ∷ ys) q = value_at-append (y ∷ ys) (b ∷ []) q within in
            let most : value_at (y ∷ ys) q ≤ value_at (y ∷ ys) h.place = h.later q j within in
            omega arith
        step false s stays peak here len =
            let past : length (y ∷ ys) < q = grind (arith, nat_tests) in
            let last : q ≡ length (y ∷ ys) + 1 = omega arith in
            let at : value_at ((y ∷ ys) ++ b ∷ []) q ≡ value_at ((y ∷ ys) ++ b ∷ []) (length (y ∷ ys) + 1) = ap (value_at ((y ∷ ys) ++ b ∷ [])) last in
            omega arith

pub peak-old : (w m : ℕ) (x : List ℕ) (r p e b v : ℕ) → IsPeak w m x r p e → b < 256 → v ≡ (r * 256) % 2 ^ 64 + b → v ≤ p
    → IsPeak w m (x ++ b ∷ []) v p e
peak-old w m [] r p e b v h i is less = old-first w m r p e b v h i is less
peak-old w m (y ∷ ys) r p e b v h i is less = old-later w m y ys r p e b v h i is less

-- where the chunk ends

no_end : (b : Bool) → (b && false) ≡ false
no_end true = refl
no_end false = refl

pub ends-no : (w m : ℕ) (x : List ℕ) (r p e : ℕ) → 1 ≤ w → IsPeak w m x r p e → 1 ≤ length x → length x < e → ends_at w m x (length x) ≡ false
ends-no w m x r p e some h one less =
    let end : e ≡ min (h.place + w) m = h.end_is in
    let short : (length x == m) ≡ false = (let far : length x < m = omega arith in grind (arith, nat_tests)) in
    ap (λ b. b || (nat_lt w (length x) && is_peak x (length x - w) && is_unbeaten x w (length x - w))) short
    ∙ step (nat_lt w (length x)) refl
  where
    step : (b : Bool) → nat_lt w (length x) ≡ b → (b && is_peak x (length x - w) && is_unbeaten x w (length x - w)) ≡ false
    step true s =
        let end : e ≡ min (h.place + w) m = h.end_is in
        let long : w < length x = grind (arith, nat_tests) in
        let high : h.place ≤ max 1 (length x) = h.high in
        let beaten : value_at x (length x - w) < value_at x h.place = h.earlier (length x - w) (omega arith) (omega arith) in
        let fails : is_unbeaten x w (length x - w) ≡ false =
        list_all-fails (λ q. nat_le (value_at x q) (value_at x (length x - w))) (length x - w + 1) w h.place (omega arith) (omega arith) (grind (arith, nat_tests)) in
        ap (λ b. is_peak x (length x - w) && b) fails ∙ no_end (is_peak x (length x - w))
    step false s = refl

pub ends-yes : (w m : ℕ) (x : List ℕ) (r p e : ℕ) → IsPeak w m x r p e → 1 ≤ length x → length x ≡ e → ends_at w m x (length x) ≡ true
ends-yes w m x r p e h one same = step (length x == m) refl
  where
    inside : length x ≡ h.place + w → is_peak x h.place ≡ true × is_unbeaten x w h.place ≡ true
    inside at = (
      list_all-holds (λ q. nat_lt (value_at x q) (value_at x h.place)) 1 (h.place - 1)
          (λ q i j. let low : 1 ≤ h.place = h.low in (let less : value_at x q < value_at x h.place = h.earlier q i (omega arith) in grind (arith, nat_tests))),
      list_all-holds (λ q. nat_le (value_at x q) (value_at x h.place)) (h.place + 1) w
          (λ q i j. let most : value_at x q ≤ value_at x h.place = h.later q (omega arith) (omega arith) in grind (arith, nat_tests)),
    )

    step : (b : Bool) → (length x == m) ≡ b → (b || (nat_lt w (length x) && is_peak x (length x - w) && is_unbeaten x w (length x - w))) ≡ true
    step true s = refl
    step false s =
        let end : e ≡ min (h.place + w) m = h.end_is in
        let low : 1 ≤ h.place = h.low in
        let apart : length x ≢ m = grind (arith, nat_tests) in
        let at : length x ≡ h.place + w = omega arith in
        let longer : nat_lt w (length x) ≡ true = (let l : w < length x = omega arith in grind (arith, nat_tests)) in
        let place : length x - w ≡ h.place = omega arith in
        let both : is_peak x h.place ≡ true × is_unbeaten x w h.place ≡ true = inside at in
        ap (λ b. b && is_peak x (length x - w) && is_unbeaten x w (length x - w)) longer
        ∙ ap (λ n. is_peak x n && is_unbeaten x w n) place
        ∙ ap (λ b. b && is_unbeaten x w h.place) both.0
        ∙ both.1
