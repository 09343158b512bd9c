-- What was written, piece by piece.
use Rattle.std.proofs.Common.{◌≡◌, ◌≤◌, ◌<◌, ◌+◌, ◌-◌, ◌++◌, length, length-drop, ℕ, List, [], take, drop, append_assoc, Option, Some, None, refl, sym, ap, subst, arith, ◌∙◌}
use Rattle.std.specs.Option.{option_map}
use Rattle.std.proofs.Math.Seq.{take-add}
use Rattle.std.proofs.lemmas.List.{append-nil, take-append-drop, take_all}
use Rattle.vault_traits.specs.Counts.{Rose}
use Rattle.vault_traits.specs.Told.{SinkTold, Takes}
use Rattle.vault_traits.specs.CutOff.{IsCutOff}

pub takes_nothing : (told : Option (List ℕ)) → Takes told told []
takes_nothing None = refl
takes_nothing (Some x) = ap Some (sym (append-nil x))

pub takes_then : (before mid now : Option (List ℕ)) (x y : List ℕ) → Takes before mid x → Takes mid now y → Takes before now (x ++ y)
takes_then None mid now x y p q = q ∙ ap (option_map (λ z. z ++ y)) p
takes_then (Some w) mid now x y p q = q ∙ ap (option_map (λ z. z ++ y)) p ∙ ap Some (append_assoc w x y)

-- what is left of the bytes, as the slice from there
left_of : (bytes : List ℕ) (done : ℕ) → take (length bytes - done) (drop done bytes) ≡ drop done bytes
left_of bytes done = let left : length (drop done bytes) ≡ length bytes - done = length-drop done bytes in take_all (length bytes - done) (drop done bytes) (omega arith)

-- more of the bytes behind what was written
pub takes_more : (before mid now : Option (List ℕ)) (bytes : List ℕ) (done n : ℕ) → Takes before mid (take done bytes) → Takes mid now (take n (take (length bytes - done) (drop done bytes))) → Takes before now (take (done + n) bytes)
takes_more before mid now bytes done n p q =
    let r : Takes mid now (take n (drop done bytes)) = subst (λ (piece : List ℕ). Takes mid now (take n piece)) (left_of bytes done) q in
    subst (λ (x : List ℕ). Takes before now x) (sym (take-add done n bytes)) (takes_then before mid now (take done bytes) (take n (drop done bytes)) p r)

pub within_more : (bytes : List ℕ) (done n : ℕ) → done ≤ length bytes → n ≤ length (take (length bytes - done) (drop done bytes)) → done + n ≤ length bytes
within_more bytes done n h few =
    let left : length (drop done bytes) ≡ length bytes - done = length-drop done bytes in
    let most : n ≤ length (drop done bytes) = subst (λ (piece : List ℕ). n ≤ length piece) (left_of bytes done) few in
    omega arith

pub cut_off : (bytes : List ℕ) (done : ℕ) (before mid now : SinkTold) → Takes before.taken mid.taken (take done bytes) → before.faults ≤ mid.faults → now.taken ≡ mid.taken → Rose mid.faults now.faults → done < length bytes → IsCutOff bytes before now
cut_off bytes done before mid now taken later same rose some = record {
  failed = omega arith;
  front = take done bytes;
  rest = drop done bytes;
  short = omega (arith, length-drop done bytes);
  parts = take-append-drop done bytes;
  taken = same ∙ taken;
}
