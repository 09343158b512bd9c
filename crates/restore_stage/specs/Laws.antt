-- An assembler that has come far, and further, has come as far.
use Rattle.std.specs.Prelude.{◌++◌, ℕ, List, [], ◌∷◌, refl}
use Rattle.std.proofs.Common.{◌∙◌, sym, ap, subst, append_assoc}
use Rattle.std.proofs.Math.Nat.{le_refl, le_trans}
use Rattle.std.proofs.lemmas.List.{append-nil}
use Rattle.restore_stage.specs.declared.Loaded.{Loaded}
use Rattle.restore_stage.specs.Assembling.{Assembling, AreOf, IsSame}

of_front : (known : ℕ → List ℕ) (xs ys : List Loaded) → AreOf known (xs ++ ys) → AreOf known xs
of_front known [] ys h = tt
of_front known (x ∷ xs) ys h = (h.0, of_front known xs ys h.1)

pub is_same_refl : (s : Assembling) → IsSame s s
is_same_refl s = record {
  from = refl;
  to = refl;
  bytes = refl;
  spots = refl;
  whole = refl;
  later = le_refl s.sink.faults;
  more = ([], sym (append-nil s.loads.taken));
  come = λ start steps later h. h;
  written = λ known start all h. h;
}

pub is_same_trans : (a b c : Assembling) → IsSame a b → IsSame b c → IsSame a c
is_same_trans a b c p q = record {
  from = q.from ∙ p.from;
  to = q.to ∙ p.to;
  bytes = q.bytes ∙ p.bytes;
  spots = q.spots ∙ p.spots;
  whole = q.whole ∙ p.whole;
  later = le_trans p.later q.later;
  more = (
    p.more.0 ++ q.more.0,
    q.more.1 ∙ ap (λ (xs : List Loaded). xs ++ q.more.0) p.more.1
        ∙ append_assoc a.loads.taken p.more.0 q.more.0,
  );
  come = λ start steps later h. q.come start steps (le_trans later p.later) (p.come start steps later h);
  written = λ known start all h.
      let front = of_front known b.loads.taken q.more.0 (subst (AreOf known) q.more.1 all) in
      q.written known start all (p.written known start front h);
}
