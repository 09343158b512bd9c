-- The order of names is total and tells all names apart; what a map has after a write.
use Rattle.std.proofs.Common.{◌≡◌, ◌≢◌, ◌⊎◌, inl, inr, ⊎_elim, ℕ, zero, suc, List, Bool, true, false, cond, Option, Some, None, refl, sym, ◌∙◌, ap, subst}
use Rattle.std.specs.Ordering.{nat_cmp, eq_by_cmp}
use Rattle.std.specs.declared.cmp.Ordering.{Ordering}
use Rattle.std.specs.declared.cmp.Ordering.TheVariants.{Less, Equal, Greater}
use Rattle.std.specs.Cmp.{IsTotalOrder, eq_by_cmp_equiv, nat_cmp_total}
use Rattle.std.specs.FinMap.{get, get-insert, get-remove, same_map}
use Rattle.std.proofs.lemmas.Map.Lookups.{CmpEqualImpliesEq, exact_pairs, exact_unsigned}
use Rattle.std.proofs.lemmas.Cmp.{on_total, then_total}
use Rattle.vault_types.specs.declared.Name.{Name}
use Rattle.vault_types.specs.declared.Kind.{Kind}
use Rattle.vault_types.specs.declared.Kind.TheVariants.{Table, Payload, Recipe, Floor}
use Rattle.vault_types.specs.Shelf.{kind_rank, name_cmp, Blobs, with_blob, blob_at}
use Rattle.vault_traits.specs.Crash.{History}
use Rattle.vault_traits.specs.Shelf.{blobs_with, MayBeWritten}

abbrev kind_at : ℕ → Kind
kind_at zero = Table
kind_at (suc zero) = Payload
kind_at (suc (suc zero)) = Recipe
kind_at n = Floor

kind_back : (k : Kind) → kind_at (kind_rank k) ≡ k
kind_back Table = refl
kind_back Payload = refl
kind_back Recipe = refl
kind_back Floor = refl

-- names that compare alike are one
pub exact_names : CmpEqualImpliesEq name_cmp
exact_names a b h =
    let pairs = exact_pairs nat_cmp nat_cmp exact_unsigned exact_unsigned (kind_rank a.kind, a.number) (kind_rank b.kind, b.number) h in
    let kinds : a.kind ≡ b.kind = sym (kind_back a.kind) ∙ ap (λ (p : ℕ × ℕ). kind_at p.0) pairs ∙ kind_back b.kind in
    let numbers : a.number ≡ b.number = ap (λ (p : ℕ × ℕ). p.1) pairs in
    λ i. record { kind = kinds i; number = numbers i }

pub names_total : IsTotalOrder name_cmp
names_total = then_total (on_total (λ n. kind_rank n.kind) nat_cmp_total) (on_total (λ n. n.number) nat_cmp_total)

-- what a map has after a write
pub get-with_blob : (m : Blobs) (name : Name) (bytes : Option (List ℕ)) (q : Name) → get (with_blob m name bytes) q ≡ cond (eq_by_cmp name_cmp q name) bytes (get m q)
get-with_blob m name (Some bytes) q = get-insert names_total m name bytes q
get-with_blob m name None q = get-remove names_total m name q

tied : (q name : Name) (r : Ordering) → name_cmp q name ≡ r → (q ≡ name) ⊎ (eq_by_cmp name_cmp q name ≡ false)
tied q name Less is = inr (rw is)
tied q name Equal is = inl (exact_names q name is)
tied q name Greater is = inr (rw is)

-- the name that was written has what was written
pub get-with_blob_same : (m : Blobs) (name : Name) (bytes : Option (List ℕ)) → get (with_blob m name bytes) name ≡ bytes
get-with_blob_same m name bytes = get-with_blob m name bytes name ∙ ap (λ (b : Bool). cond b bytes (get m name)) ((eq_by_cmp_equiv names_total).refl name)

-- a name is the one that was written, or has what it had
pub written_or_other : (m : Blobs) (name : Name) (bytes : Option (List ℕ)) (q : Name) → (q ≡ name) ⊎ (get (with_blob m name bytes) q ≡ get m q)
written_or_other m name bytes q = elim (tied q name (name_cmp q name) refl) [
  | inl same ↦ inl same
  | inr other ↦ inr (get-with_blob m name bytes q ∙ ap (λ (b : Bool). cond b bytes (get m q)) other)
]

-- two maps that answer alike are one
pub same_blobs : (m n : Blobs) → ((q : Name) → get m q ≡ get n q) → m ≡ n
same_blobs m n is = same_map names_total exact_names m n is

-- each other name has what it had, where that is told
pub other_blob : {before after : Option Blobs} {past now : Option History} {name : Name} {bytes : Option (List ℕ)} → MayBeWritten before after past now name bytes → (q : Name) → q ≢ name → blob_at after q ≡ blob_at before q
other_blob {before} {after} {past} {now} {name} {bytes} may q other = ⊎_elim
    (λ same. ap (λ (t : Option Blobs). blob_at t q) same)
    (λ same. ap (λ (t : Option Blobs). blob_at t q) same ∙ write before)
    may.blobs
  where
    write : (t : Option Blobs) → blob_at (blobs_with t name bytes) q ≡ blob_at t q
    write None = refl
    write (Some m) = ⊎_elim (λ (is : q ≡ name). absurd (other is)) (λ same_as. same_as) (written_or_other m name bytes q)

-- ---- two writes

pub is_or_not : (q name : Name) → (q ≡ name) ⊎ (q ≢ name)
is_or_not q name = elim (tied q name (name_cmp q name) refl) [
  | inl same ↦ inl same
  | inr other ↦ inr (λ same. true_not_false (sym (subst (λ (n : Name). eq_by_cmp name_cmp q n ≡ true) same ((eq_by_cmp_equiv names_total).refl q)) ∙ other))
]
  where
    true_not_false : true ≡ false → ⊥
    true_not_false e = cc

pub get_other : (m : Blobs) (name : Name) (bytes : Option (List ℕ)) (q : Name) → q ≢ name → get (with_blob m name bytes) q ≡ get m q
get_other m name bytes q other = ⊎_elim (λ (same : q ≡ name). absurd (other same)) (λ kept. kept) (written_or_other m name bytes q)

pub get_is : (m : Blobs) (name : Name) (bytes : Option (List ℕ)) (q : Name) → q ≡ name → get (with_blob m name bytes) q ≡ bytes
get_is m name bytes q same = ap (λ (n : Name). get (with_blob m name bytes) n) same ∙ get-with_blob_same m name bytes

-- writes of two names, in either order
pub with_blob_comm : (m : Blobs) (n k : Name) (a b : Option (List ℕ)) → n ≢ k → with_blob (with_blob m n a) k b ≡ with_blob (with_blob m k b) n a
with_blob_comm m n k a b apart = same_blobs _ _ (λ q. at q (is_or_not q n) (is_or_not q k))
  where
    at : (q : Name) → (q ≡ n) ⊎ (q ≢ n) → (q ≡ k) ⊎ (q ≢ k) → get (with_blob (with_blob m n a) k b) q ≡ get (with_blob (with_blob m k b) n a) q
    at q (inl is) (inl also) = absurd (apart (sym is ∙ also))
    at q (inl is) (inr not) = get_other (with_blob m n a) k b q not ∙ get_is m n a q is ∙ sym (get_is (with_blob m k b) n a q is)
    at q (inr not) (inl is) = get_is (with_blob m n a) k b q is ∙ sym (get_other (with_blob m k b) n a q not ∙ get_is m k b q is)
    at q (inr one) (inr two) = get_other (with_blob m n a) k b q two ∙ get_other m n a q one ∙ sym (get_other (with_blob m k b) n a q one ∙ get_other m k b q two)

-- the later write of one name stands
pub with_blob_twice : (m : Blobs) (n : Name) (a b : Option (List ℕ)) → with_blob (with_blob m n a) n b ≡ with_blob m n b
with_blob_twice m n a b = same_blobs _ _ (λ q. at q (is_or_not q n))
  where
    at : (q : Name) → (q ≡ n) ⊎ (q ≢ n) → get (with_blob (with_blob m n a) n b) q ≡ get (with_blob m n b) q
    at q (inl is) = get_is (with_blob m n a) n b q is ∙ sym (get_is m n b q is)
    at q (inr not) = get_other (with_blob m n a) n b q not ∙ get_other m n a q not ∙ sym (get_other m n b q not)

pub with_blob_absent : (m : Blobs) (n : Name) → get m n ≡ None → with_blob m n None ≡ m
with_blob_absent m n none = same_blobs _ _ (λ q. at q (is_or_not q n))
  where
    at : (q : Name) → (q ≡ n) ⊎ (q ≢ n) → get (with_blob m n None) q ≡ get m q
    at q (inl is) = get_is m n None q is ∙ sym (ap (λ (k : Name). get m k) is ∙ none)
    at q (inr not) = get_other m n None q not
