-- How what a crash may leave goes on from call to call.
use Rattle.std.proofs.Common.{◌≡◌, ◌⊎◌, inl, inr, ⊎_elim, ℕ, List, [], ◌∷◌, ◌++◌, length, Option, Some, None, refl, sym, ◌∙◌, ap, subst, arith, append_assoc}
use Rattle.vault_types.specs.declared.Name.{Name}
use Rattle.vault_types.specs.Shelf.{Blobs, with_blob}
use Rattle.vault_traits.specs.Crash.{ShelfStep, Wrote, Settled, History, IsImage, LeftSince, LeavesNow, LeavesThrough, LeavesOnly, LeavesNowIfTold, LeavesOnlyIfTold, ReadsAnImage}
use Rattle.vault_traits.specs.Shelf.{history_with, history_settled, IsWritten, MayBeWritten}

-- ---- of steps that are told

-- a write that what has P bears
pub leaves_write : (P : Blobs → Type 0) (past : History) (name : Name) (bytes : Option (List ℕ)) → LeavesNow past P → ((b : Blobs) → P b → P (with_blob b name bytes)) → LeavesNow (Wrote name bytes ∷ past) P
leaves_write P past name bytes before bears c (inl was) = before c was
leaves_write P past name bytes before bears c (inr made) = subst P (sym made.2) (bears made.0 (before made.0 made.1))

leaves_more : (P Q : Blobs → Type 0) (steps : List ShelfStep) (past : History) → ((c : Blobs) → P c → Q c) → LeavesThrough P steps past → LeavesThrough Q steps past
leaves_more P Q [] past more each = λ c image. more c (each c image)
leaves_more P Q (step ∷ steps) past more each = (λ c image. more c (each.0 c image), leaves_more P Q steps past more each.1)

leaves_both : (P : Blobs → Type 0) (newer older : List ShelfStep) (past : History) → LeavesThrough P older past → LeavesThrough P newer (older ++ past) → LeavesThrough P (newer ++ older) past
leaves_both P [] older past first second = first
leaves_both P (step ∷ newer) older past first second = (
  subst (λ (h : History). LeavesNow (step ∷ h) P) (sym (append_assoc newer older past)) second.0,
  leaves_both P newer older past first second.1,
)

leaves_last : (P : Blobs → Type 0) (steps : List ShelfStep) (past : History) → LeavesThrough P steps past → LeavesNow (steps ++ past) P
leaves_last P [] past each = each
leaves_last P (step ∷ steps) past each = each.0

no_more : (steps : List ShelfStep) (past : History) (c : Blobs) → LeftSince (length past) past c → IsImage past c
no_more steps [] c left = left
no_more steps (step ∷ past) c (inl image) = image
no_more steps (step ∷ past) c (inr earlier) = absurd (omega (arith, earlier.0))

through_since : (P : Blobs → Type 0) (steps : List ShelfStep) (past : History) → LeavesThrough P steps past → (c : Blobs) → LeftSince (length past) (steps ++ past) c → P c
through_since P [] past each c left = each c (no_more [] past c left)
through_since P (step ∷ steps) past each c (inl image) = each.0 c image
through_since P (step ∷ steps) past each c (inr earlier) = through_since P steps past each.1 c earlier.1

-- at no moment since may a crash have left anything else
pub leaves_since : (P : Blobs → Type 0) (old new : History) → LeavesOnly old new P → (c : Blobs) → LeftSince (length old) new c → P c
leaves_since P old new leaves c left = through_since P leaves.steps old leaves.each c (subst (λ (h : History). LeftSince (length old) h c) leaves.goes_on left)

-- ---- of shelves

module _ (P : Blobs → Type 0) where
  pub stays : (past now : Option History) → now ≡ past → LeavesNowIfTold past P → LeavesOnlyIfTold past now P
  stays past now same here = subst (λ (h : Option History). LeavesOnlyIfTold past h P) (sym same) (stay past here)
    where
      stay : (h : Option History) → LeavesNowIfTold h P → LeavesOnlyIfTold h h P
      stay None here = tt
      stay (Some h) here = record { steps = []; goes_on = refl; each = here }

  -- a write that what has P bears
  pub writes : (past now : Option History) (name : Name) (bytes : Option (List ℕ)) → now ≡ history_with past name bytes → LeavesNowIfTold past P → ((b : Blobs) → P b → P (with_blob b name bytes)) → LeavesOnlyIfTold past now P
  writes past now name bytes same here bears = subst (λ (h : Option History). LeavesOnlyIfTold past h P) (sym same) (write past here)
    where
      write : (h : Option History) → LeavesNowIfTold h P → LeavesOnlyIfTold h (history_with h name bytes) P
      write None here = tt
      write (Some h) here = record { steps = Wrote name bytes ∷ []; goes_on = refl; each = (leaves_write P h name bytes here bears, here) }

  -- the same of one that failed
  pub may_write : {before after : Option Blobs} {past now : Option History} {name : Name} {bytes : Option (List ℕ)} → MayBeWritten before after past now name bytes → LeavesNowIfTold past P → ((b : Blobs) → P b → P (with_blob b name bytes)) → LeavesOnlyIfTold past now P
  may_write {past = past} {now = now} {name = name} {bytes = bytes} may here bears = ⊎_elim (λ same. stays past now same here) (λ same. writes past now name bytes same here bears) may.history

  -- a settle, of blobs that have P
  pub settles : (told : Option Blobs) (m : Blobs) (past now : Option History) → told ≡ Some m → now ≡ history_settled told past → LeavesNowIfTold past P → P m → LeavesOnlyIfTold past now P
  settles told m past now is same here has = subst (λ (h : Option History). LeavesOnlyIfTold past h P) (sym (same ∙ ap (λ (t : Option Blobs). history_settled t past) is)) (settle past here)
    where
      settle : (h : Option History) → LeavesNowIfTold h P → LeavesOnlyIfTold h (history_settled (Some m) h) P
      settle None here = tt
      settle (Some h) here = record { steps = Settled m ∷ []; goes_on = refl; each = (λ c image. subst P (sym image) has, here) }

  -- one run of calls after another
  pub then : (old mid new : Option History) → LeavesOnlyIfTold old mid P → LeavesOnlyIfTold mid new P → LeavesOnlyIfTold old new P
  then None None None first second = tt
  then (Some old) (Some mid) (Some new) first second = record {
    steps = second.steps ++ first.steps;
    goes_on = second.goes_on ∙ ap (λ (h : History). second.steps ++ h) first.goes_on ∙ sym (append_assoc second.steps first.steps old);
    each = leaves_both P second.steps first.steps old first.each (subst (λ (h : History). LeavesThrough P second.steps h) first.goes_on second.each);
  }
  then None None (Some new) first second = second
  then None (Some mid) new first second = absurd first
  then (Some old) None new first second = absurd first
  then (Some old) (Some mid) None first second = second

  -- and at its end
  pub ends : (old new : Option History) → LeavesOnlyIfTold old new P → LeavesNowIfTold new P
  ends None None leaves = tt
  ends None (Some new) leaves = absurd leaves
  ends (Some old) None leaves = tt
  ends (Some old) (Some new) leaves = subst (λ (h : History). LeavesNow h P) (sym leaves.goes_on) (leaves_last P leaves.steps old leaves.each)

pub more : (P Q : Blobs → Type 0) → ((c : Blobs) → P c → Q c) → (old new : Option History) → LeavesOnlyIfTold old new P → LeavesOnlyIfTold old new Q
more P Q wider None None leaves = tt
more P Q wider None (Some new) leaves = leaves
more P Q wider (Some old) None leaves = leaves
more P Q wider (Some old) (Some new) leaves = record { steps = leaves.steps; goes_on = leaves.goes_on; each = leaves_more P Q leaves.steps old wider leaves.each }

pub more_now : (P Q : Blobs → Type 0) → ((c : Blobs) → P c → Q c) → (h : Option History) → LeavesNowIfTold h P → LeavesNowIfTold h Q
more_now P Q wider None leaves = tt
more_now P Q wider (Some h) leaves = λ c image. wider c (leaves c image)

-- behind a settle a crash leaves what stood
pub settled_now : (told : Option Blobs) (m : Blobs) (past now : Option History) → told ≡ Some m → now ≡ history_settled told past → LeavesNowIfTold now (λ c. c ≡ m)
settled_now told m past now is same = subst (λ (h : Option History). LeavesNowIfTold h (λ c. c ≡ m)) (sym (same ∙ ap (λ (t : Option Blobs). history_settled t past) is)) (settle past)
  where
    settle : (h : Option History) → LeavesNowIfTold (history_settled (Some m) h) (λ c. c ≡ m)
    settle None = tt
    settle (Some h) = λ c image. image

-- m, or m after a write
abbrev IsEither : Blobs → Name → Option (List ℕ) → Blobs → Type 0
IsEither m name bytes c = (c ≡ m) ⊎ (c ≡ with_blob m name bytes)

write_once : (m : Blobs) (name : Name) (bytes : Option (List ℕ)) (h : Option History) → LeavesNowIfTold h (λ c. c ≡ m) → LeavesOnlyIfTold h (history_with h name bytes) (IsEither m name bytes)
write_once m name bytes None here = tt
write_once m name bytes (Some h) here = record {
  steps = Wrote name bytes ∷ [];
  goes_on = refl;
  each = (
    λ c image. ⊎_elim (λ was. inl (here c was)) (λ made. inr (made.2 ∙ ap (λ (b : Blobs). with_blob b name bytes) (here made.0 made.1))) image,
    λ c image. inl (here c image),
  );
}

-- one write behind a settle
pub writes_once : (P : Blobs → Type 0) (m : Blobs) {before after : Option Blobs} {past now : Option History} {name : Name} {bytes : Option (List ℕ)} → MayBeWritten before after past now name bytes → LeavesNowIfTold past (λ c. c ≡ m) → P m → P (with_blob m name bytes) → LeavesOnlyIfTold past now P
writes_once P m {past = past} {now = now} {name = name} {bytes = bytes} may only old new =
    more E P (λ c e. ⊎_elim (λ is. subst P (sym is) old) (λ is. subst P (sym is) new) e) past now (⊎_elim kept done may.history)
  where
    E : Blobs → Type 0
    E = IsEither m name bytes

    kept : now ≡ past → LeavesOnlyIfTold past now E
    kept same = stays E past now same (more_now (λ c. c ≡ m) E (λ c is. inl is) past only)

    done : now ≡ history_with past name bytes → LeavesOnlyIfTold past now E
    done same = subst (λ (h : Option History). LeavesOnlyIfTold past h E) (sym same) (write_once m name bytes past only)

-- ---- shelves that tell nothing

pub told_or_silent : (told : Option Blobs) (kept : Option History) → ReadsAnImage told kept → ((m : Blobs) × (told ≡ Some m)) ⊎ (kept ≡ None)
told_or_silent told None reads = inr refl
told_or_silent told (Some h) reads = let image = reads h refl in inl (image.0, image.1)

pub silent : (P : Blobs → Type 0) (old new : Option History) → old ≡ None → new ≡ None → LeavesOnlyIfTold old new P
silent P old new was is = subst (λ (h : Option History). LeavesOnlyIfTold h new P) (sym was) (subst (λ (h : Option History). LeavesOnlyIfTold None h P) (sym is) tt)

pub silent_write : {before after : Option Blobs} {past now : Option History} {name : Name} {bytes : Option (List ℕ)} → MayBeWritten before after past now name bytes → past ≡ None → now ≡ None
silent_write {past = past} {name = name} {bytes = bytes} may none = ⊎_elim (λ same. same ∙ none) (λ same. same ∙ ap (λ (h : Option History). history_with h name bytes) none) may.history

pub silent_settle : (told : Option Blobs) (past now : Option History) → now ≡ history_settled told past → past ≡ None → now ≡ None
silent_settle None past now same none = same
silent_settle (Some m) past now same none = same ∙ ap (λ (h : Option History). history_settled (Some m) h) none

-- a write that was done is one that may be
pub may_of : {before after : Option Blobs} {past now : Option History} {name : Name} {bytes : Option (List ℕ)} → IsWritten before after past now name bytes → MayBeWritten before after past now name bytes
may_of done = record { blobs = inr done.blobs; history = inr done.history }
