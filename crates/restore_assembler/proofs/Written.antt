-- What was written, piece by piece.
use Rattle.std.proofs.Common.{◌≡◌, ◌<◌, ◌+◌, ◌-◌, ◌++◌, length, length-append, get_or, flat_map, ℕ, List, [], take, drop, append_assoc, Option, refl, sym, ap, subst, arith, ◌∙◌}
use Rattle.std.proofs.lemmas.List.{append-nil, take-append-drop, drop_more}
use Rattle.std.proofs.lemmas.List.Concat.{flat_map-append}
use Rattle.vault_types.specs.declared.Spot.{Spot}
use Rattle.vault_types.specs.Bytes.{spot_bytes}
use Rattle.vault_traits.specs.Told.{SinkTold}
use Rattle.fingerprint_stage.specs.declared.running_sum.RunningSum.{RunningSum}
use Rattle.vault_traits.specs.CutOff.{IsCutOff}
use Rattle.vault_traits.proofs.Written.{takes_nothing, takes_then}
use Rattle.restore_assembler.specs.Writing.{IsSumOf, IsWrittenWithSum}

-- no bytes
pub written_nothing : (told : SinkTold) (sum : Option RunningSum) → IsWrittenWithSum [] told told sum sum
written_nothing told sum = record {
  taken = takes_nothing told.taken;
  summed = λ x h. subst (IsSumOf sum) (sym (append-nil x)) h;
  kept = refl;
  later = omega arith;
}

-- two pieces one after another
pub written_then : (x y : List ℕ) (before mid now : SinkTold) (sum sum' sum'' : Option RunningSum) → IsWrittenWithSum x before mid sum sum' → IsWrittenWithSum y mid now sum' sum'' → IsWrittenWithSum (x ++ y) before now sum sum''
written_then x y before mid now sum sum' sum'' p q = record {
  taken = takes_then before.taken mid.taken now.taken x y p.taken q.taken;
  summed = λ z h. subst (IsSumOf sum'') (append_assoc z x y) (q.summed (z ++ x) (p.summed z h));
  kept = q.kept ∙ p.kept;
  later = omega (arith, p.later, q.later);
}

-- the sink failed in the second piece
pub cut_off_then : (x y : List ℕ) (before mid now : SinkTold) (sum sum' : Option RunningSum) → IsWrittenWithSum x before mid sum sum' → IsCutOff y mid now → IsCutOff (x ++ y) before now
cut_off_then x y before mid now sum sum' p q = record {
  failed = omega (arith, p.later, q.failed);
  front = x ++ q.front;
  rest = q.rest;
  short = q.short;
  parts = append_assoc x q.front q.rest ∙ ap (λ z. x ++ z) q.parts;
  taken = takes_then before.taken mid.taken now.taken x q.front p.taken q.taken;
}

-- it failed in the first of two pieces
pub cut_off_before : (x y : List ℕ) (before now : SinkTold) → IsCutOff x before now → IsCutOff (x ++ y) before now
cut_off_before x y before now q = record {
  failed = q.failed;
  front = q.front;
  rest = q.rest ++ y;
  short = omega (arith, length-append q.rest y, q.short);
  parts = sym (append_assoc q.front q.rest y) ∙ ap (λ z. z ++ y) q.parts;
  taken = q.taken;
}

-- the sink failed in a spot of a run
pub cut_off_in : (payload : List ℕ) (run : List Spot) (i : ℕ) (spot : Spot) (end : ℕ) (before mid now : SinkTold) (sum sum' : Option RunningSum) → i < length run → end ≡ (get_or run i spot).at + (get_or run i spot).len → IsWrittenWithSum (flat_map (spot_bytes (λ _. payload)) (take i run)) before mid sum sum' → IsCutOff (take (end - (get_or run i spot).at) (drop (get_or run i spot).at payload)) mid now → IsCutOff (flat_map (spot_bytes (λ _. payload)) run) before now
cut_off_in payload run i spot end before mid now sum sum' l is done cut =
    let f : Spot → List ℕ = spot_bytes (λ _. payload) in
    let x : Spot = get_or run i spot in
    let long : end - x.at ≡ x.len = omega arith in
    let piece : IsCutOff (f x) mid now = subst (λ (n : ℕ). IsCutOff (take n (drop x.at payload)) mid now) long cut in
    let all : flat_map f (take i run) ++ (f x ++ flat_map f (drop (i + 1) run)) ≡ flat_map f run =
    ap (λ ys. flat_map f (take i run) ++ flat_map f ys) (sym (drop_more run i spot l))
    ∙ sym (flat_map-append f (take i run) (drop i run))
    ∙ ap (flat_map f) (take-append-drop i run) in
    subst (λ (bytes : List ℕ). IsCutOff bytes before now) all
    (cut_off_then (flat_map f (take i run)) (f x ++ flat_map f (drop (i + 1) run)) before mid now sum sum' done
    (cut_off_before (f x) (flat_map f (drop (i + 1) run)) mid now piece))
