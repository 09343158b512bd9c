-- Neighbouring pieces of a payload, written as one.
use Rattle.std.proofs.Common.{◌≡◌, ◌≤◌, ◌<◌, ◌+◌, ◌-◌, ◌++◌, ℕ, List, [], ◌∷◌, length, take, drop, get_or, flat_map, append_assoc, Option, refl, sym, ap, subst, arith, ◌∙◌}
use Rattle.std.proofs.Math.Seq.{take-add}
use Rattle.std.proofs.lemmas.List.{append-nil, take-append-drop, take_more, drop-drop}
use Rattle.std.proofs.lemmas.List.Concat.{flat_map-append}
use Rattle.vault_types.specs.declared.Spot.{Spot}
use Rattle.vault_types.specs.Bytes.{spot_bytes}
use Rattle.vault_traits.specs.Told.{SinkTold}
use Rattle.fingerprint_stage.specs.declared.running_sum.RunningSum.{RunningSum}
use Rattle.vault_traits.specs.CutOff.{IsCutOff}
use Rattle.restore_assembler.specs.Writing.{IsWrittenWithSum, IsWaiting}
use Rattle.restore_assembler.proofs.Written.{written_nothing, written_then, cut_off_then, cut_off_before}

abbrev pub bytes_in : List ℕ → Spot → List ℕ
bytes_in payload = spot_bytes (λ _. payload)

-- the bytes of the first spots
abbrev pub bytes_to : List ℕ → List Spot → ℕ → List ℕ
bytes_to payload run i = flat_map (bytes_in payload) (take i run)

-- those of one spot more
bytes_more : (payload : List ℕ) (run : List Spot) (i : ℕ) (d : Spot) → i < length run
    → bytes_to payload run (i + 1) ≡ bytes_to payload run i ++ bytes_in payload (get_or run i d)
bytes_more payload run i d l =
    ap (flat_map (bytes_in payload)) (take_more run i d l)
    ∙ flat_map-append (bytes_in payload) (take i run) (get_or run i d ∷ [])
    ∙ ap (λ ys. bytes_to payload run i ++ ys) (append-nil (bytes_in payload (get_or run i d)))

-- a slice and the bytes behind it
slice_more : (payload : List ℕ) (start end len : ℕ) → start ≤ end → take (end + len - start) (drop start payload) ≡ take (end - start) (drop start payload) ++ take len (drop end payload)
slice_more payload start end len o =
    let longer : end + len - start ≡ (end - start) + len = omega (arith, o) in
    let back : start + (end - start) ≡ end = omega (arith, o) in
    ap (λ n. take n (drop start payload)) longer
    ∙ take-add (end - start) len (drop start payload)
    ∙ ap (λ ys. take (end - start) (drop start payload) ++ take len ys) (drop-drop (end - start) start payload ∙ ap (λ n. drop n payload) back)

pub waits_for_none : (payload : List ℕ) (told : SinkTold) (sum : Option RunningSum) → IsWaiting payload [] 0 0 told told sum sum
waits_for_none payload told sum = record {
  front = [];
  parts = refl;
  ordered = omega arith;
  within = omega arith;
  written = written_nothing told sum;
}

-- a spot that begins where the last one ended
pub waits_longer : (payload : List ℕ) (run : List Spot) (i start end : ℕ) (d : Spot) (before now : SinkTold) (sum sum' : Option RunningSum) → i < length run
    → (get_or run i d).at ≡ end → (get_or run i d).at + (get_or run i d).len ≤ length payload
    → IsWaiting payload (bytes_to payload run i) start end before now sum sum' → IsWaiting payload (bytes_to payload run (i + 1)) start ((get_or run i d).at + (get_or run i d).len) before now sum sum'
waits_longer payload run i start end d before now sum sum' l at within w =
    let x : Spot = get_or run i d in
    record {
      front = w.front;
      parts =
          ap (λ n. w.front ++ take (n + x.len - start) (drop start payload)) at
          ∙ ap (λ ys. w.front ++ ys) (slice_more payload start end x.len w.ordered)
          ∙ sym (append_assoc w.front (take (end - start) (drop start payload)) (take x.len (drop end payload)))
          ∙ ap (λ ys. ys ++ take x.len (drop end payload)) w.parts
          ∙ ap (λ n. bytes_to payload run i ++ take x.len (drop n payload)) (sym at)
          ∙ sym (bytes_more payload run i d l);
      ordered = omega (arith, at, w.ordered);
      within = within;
      written = w.written;
    }

-- what waited was written
pub all_written : (payload bytes : List ℕ) (start end : ℕ) (before mid now : SinkTold) (sum sum' sum'' : Option RunningSum)
    → IsWaiting payload bytes start end before mid sum sum' → IsWrittenWithSum (take (end - start) (drop start payload)) mid now sum' sum'' → IsWrittenWithSum bytes before now sum sum''
all_written payload bytes start end before mid now sum sum' sum'' w more =
    subst (λ (x : List ℕ). IsWrittenWithSum x before now sum sum'') w.parts
    (written_then w.front (take (end - start) (drop start payload)) before mid now sum sum' sum'' w.written more)

-- a spot that begins elsewhere, once what waited was written
pub waits_anew : (payload : List ℕ) (run : List Spot) (i : ℕ) (d : Spot) (before now : SinkTold) (sum sum' : Option RunningSum) → i < length run
    → (get_or run i d).at + (get_or run i d).len ≤ length payload
    → IsWrittenWithSum (bytes_to payload run i) before now sum sum' → IsWaiting payload (bytes_to payload run (i + 1)) (get_or run i d).at ((get_or run i d).at + (get_or run i d).len) before now sum sum'
waits_anew payload run i d before now sum sum' l within done =
    let x : Spot = get_or run i d in
    let long : x.at + x.len - x.at ≡ x.len = omega arith in
    record {
      front = bytes_to payload run i;
      parts =
          ap (λ n. bytes_to payload run i ++ take n (drop x.at payload)) long
          ∙ sym (bytes_more payload run i d l);
      ordered = omega arith;
      within = within;
      written = done;
    }

-- the sink failed in what waited
pub waiting_cut_off : (payload : List ℕ) (run : List Spot) (i start end : ℕ) (before mid now : SinkTold) (sum sum' : Option RunningSum)
    → IsWaiting payload (bytes_to payload run i) start end before mid sum sum' → IsCutOff (take (end - start) (drop start payload)) mid now → IsCutOff (flat_map (bytes_in payload) run) before now
waiting_cut_off payload run i start end before mid now sum sum' w cut =
    let piece : List ℕ = take (end - start) (drop start payload) in
    let rest : List ℕ = flat_map (bytes_in payload) (drop i run) in
    let all : w.front ++ (piece ++ rest) ≡ flat_map (bytes_in payload) run =
    sym (append_assoc w.front piece rest)
    ∙ ap (λ ys. ys ++ rest) w.parts
    ∙ sym (flat_map-append (bytes_in payload) (take i run) (drop i run))
    ∙ ap (flat_map (bytes_in payload)) (take-append-drop i run) in
    subst (λ (bytes : List ℕ). IsCutOff bytes before now) all
    (cut_off_then w.front (piece ++ rest) before mid now sum sum' w.written (cut_off_before piece rest mid now cut))
