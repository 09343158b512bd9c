-- Reading fields one after the other, as a loop does.
use Rattle.std.proofs.Common.{◌≡◌, ℕ, suc, ◌-◌, ◌+◌, ◌≤◌, ◌<◌, List, [], ◌∷◌, ◌++◌, Option, Some, None, refl, sym, ap, ◌∙◌, append_assoc, arith}
use Rattle.std.proofs.lemmas.List.{append-nil}
use Rattle.blob_parts.specs.declared.unread.Unread.{Unread}
use Rattle.blob_parts.specs.declared.unread.Unread.TheVariants as unread
use Rattle.blob_parts.specs.Reading.{◌>>=◌, Field, Fails, many_at}

module _ {X : Type 0} where
  -- what was read before, and what is still read
  abbrev pub with_front : List X → Option (List X × List ℕ) → Option (List X × List ℕ)
  with_front front read = read >>= λ x. Some (front ++ x.0, x.1)

  regroup : (front : List X) (n : X) (read : Option (List X × List ℕ)) → with_front front (read >>= λ x. Some (n ∷ x.0, x.1)) ≡ with_front (front ++ n ∷ []) read
  regroup front n (Some x) = ap (λ (ns : List X). Some (ns, x.1)) (simp append_assoc)
  regroup front n None = refl

  pub goes_on : (field : Field X) (front : List X) (count i : ℕ) (bytes : List ℕ) (n : X) (after : List ℕ) (total : Option (List X × List ℕ)) → i < count → field bytes ≡ Some (n, after)
      → with_front front (many_at field (count - i) bytes) ≡ total → with_front (front ++ n ∷ []) (many_at field (count - (i + 1)) after) ≡ total
  goes_on field front count i bytes n after total lt h so_far =
      let k : count - i ≡ suc (count - (i + 1)) = omega arith in
      let one : with_front front (many_at field (count - i) bytes) ≡ with_front (front ++ n ∷ []) (many_at field (count - (i + 1)) after) = rw (k, h) (regroup front n (many_at field (count - (i + 1)) after)) in
      sym one ∙ so_far

  pub ends : (field : Field X) (e : Unread) (front : List X) (count i : ℕ) (bytes : List ℕ) (total : Option (List X × List ℕ)) → i < count → Fails e (field bytes)
      → with_front front (many_at field (count - i) bytes) ≡ total → Fails e total
  ends field unread.Memory front count i bytes total lt h so_far = tt
  ends field unread.Spelling front count i bytes total lt h so_far =
      let k : count - i ≡ suc (count - (i + 1)) = omega arith in
      let one : with_front front (many_at field (count - i) bytes) ≡ None = rw (k, h) refl in
      sym so_far ∙ one

  pub is_done : (field : Field X) (front : List X) (count i : ℕ) (bytes : List ℕ) (total : Option (List X × List ℕ)) → count ≤ i → with_front front (many_at field (count - i) bytes) ≡ total → total ≡ Some (front, bytes)
  is_done field front count i bytes total le so_far =
      let k : count - i ≡ 0 = omega arith in
      let one : with_front front (many_at field (count - i) bytes) ≡ Some (front, bytes) = rw k (ap (λ (ns : List X). Some (ns, bytes)) (append-nil front)) in
      sym so_far ∙ one
