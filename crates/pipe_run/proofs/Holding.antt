-- A job's holders, all back.
use Rattle.std.proofs.Common.{◌≡◌, ℕ, zero, suc, ◌+◌, ◌||◌, Bool, true, false, true≢false, List, [], ◌∷◌, ◌++◌, length, refl, sym, ap, ◌∙◌, subst, arith, length-append}
use Rattle.std.specs.List.{AllByRecursion, list_any}
use Rattle.std.proofs.lemmas.List.Elements.{All-from_recursion}
use Rattle.stop_word.specs.Holders.{HolderState, Family, fresh, AreAllHolders}
use Rattle.pipe_lanes.specs.Lanes.{AreNew}
use Rattle.pipe_lanes.proofs.Made.{all_push, all_split}
use Rattle.std.specs.Prelude.{Result, Ok, Err, IfOk}

pub fresh_new : (f : Family) (n : ℕ) → AreNew f (fresh f n)
fresh_new f zero = tt
fresh_new f (suc n) = all_push (λ k. (k.family ≡ f) × (k.raised ≡ false) × (k.saw ≡ false)) (fresh f n) _ (fresh_new f n) (refl, refl, refl)

kin_of : (f : Family) (hs : List HolderState) → AreNew f hs → AllByRecursion (λ k. k.family ≡ f) hs
kin_of f [] h = tt
kin_of f (x ∷ xs) h = (h.0.0, kin_of f xs h.1)

pub whole_of : (f : Family) (all : List HolderState) (own r c d : HolderState) (ls : List HolderState) → all ≡ own ∷ r ∷ c ∷ d ∷ ls
    → own.family ≡ f → r.family ≡ f → c.family ≡ f → d.family ≡ f → AreNew f ls → 4 + length ls ≡ f.count → AreAllHolders all
whole_of f all own r c d ls is a b e g h count = subst AreAllHolders (sym is) (
  (let n : own.family.count ≡ f.count = ap (λ q. q.count) a in omega arith),
  All-from_recursion (λ k. k.family ≡ own.family) (own ∷ r ∷ c ∷ d ∷ ls)
      (subst (λ q. AllByRecursion (λ k. k.family ≡ q) (own ∷ r ∷ c ∷ d ∷ ls)) (sym a) (a, (b, (e, (g, kin_of f ls h))))),
)

none_any : (f : Family) (hs : List HolderState) → AreNew f hs → list_any (λ h. h.raised) hs ≡ false
none_any f [] h = refl
none_any f (x ∷ xs) h = ap (λ b. b || list_any (λ k. k.raised) xs) h.0.1 ∙ none_any f xs h.1

or_false : (a : Bool) → (a || false) ≡ a
or_false true = refl
or_false false = refl

-- the word was raised exactly where the job's own holder, the chunking stage's or the deciding stage's has raised it
pub raised_is : (f : Family) (all : List HolderState) (own r c d : HolderState) (ls : List HolderState) (raised : Bool) → all ≡ own ∷ r ∷ c ∷ d ∷ ls → r.raised ≡ false → AreNew f ls → raised ≡ list_any (λ h. h.raised) all
    → raised ≡ (own.raised || (c.raised || d.raised))
raised_is f all own r c d ls raised is idle none e =
    e ∙ ap (λ q. list_any (λ h. h.raised) q) is
    ∙ ap (λ b. own.raised || (b || (c.raised || (d.raised || list_any (λ h. h.raised) ls)))) idle
    ∙ ap (λ b. own.raised || (c.raised || (d.raised || b))) (none_any f ls none)
    ∙ ap (λ b. own.raised || (c.raised || b)) (or_false d.raised)

pub if_ok : {T E : Type 0} {P Q : T → Type 0} (r : Result T E) → ((x : T) → P x → Q x) → IfOk r P → IfOk r Q
if_ok (Ok x) f p = f x p
if_ok (Err e) f p = tt

pub fresh_length : (f : Family) (n : ℕ) → length (fresh f n) ≡ n
fresh_length f zero = refl
fresh_length f (suc n) = let e = fresh_length f n in omega (arith, length-append (fresh f n) (record { family = f; number = n; raised = false; saw = false } ∷ []))

-- one holder, and two, leave the list
abbrev pub IsNew : Family → HolderState → Type 0
IsNew f k = (k.family ≡ f) × (k.raised ≡ false) × (k.saw ≡ false)

popped : (f : Family) (a b : List HolderState) (x : HolderState) → a ≡ b ++ x ∷ [] → AreNew f a → AreNew f b × IsNew f x
popped f a b x e h = let s = all_split (IsNew f) b (x ∷ []) (subst (AreNew f) e h) in (s.0, s.1.0)

pub four_popped : (f : Family) (a b c d e : List HolderState) (x y z w : HolderState) → a ≡ b ++ x ∷ [] → b ≡ c ++ y ∷ [] → c ≡ d ++ z ∷ [] → d ≡ e ++ w ∷ [] → AreNew f a → AreNew f (x ∷ y ∷ z ∷ w ∷ []) × AreNew f e
four_popped f a b c d e x y z w p q r s h =
    let one = popped f a b x p h in
    let two = popped f b c y q one.0 in
    let three = popped f c d z r two.0 in
    let four = popped f d e w s three.0 in
    ((one.1, (two.1, (three.1, (four.1, tt)))), four.0)

pub head_new : (f : Family) (x : HolderState) (xs : List HolderState) → AreNew f (x ∷ xs) → IsNew f x × AreNew f xs
head_new f x xs h = (h.0, h.1)

or_left : (a b : Bool) → a ≡ true → (a || b) ≡ true
or_left true b h = refl
or_left false b h = absurd (true≢false (sym h))

or_right : (a b : Bool) → b ≡ true → (a || b) ≡ true
or_right true b h = refl
or_right false b h = h

-- the reading stage saw the word raised
pub seen_by : (all : List HolderState) (own r : HolderState) (rest : List HolderState) → all ≡ own ∷ r ∷ rest → r.saw ≡ true → list_any (λ h. h.saw) all ≡ true
seen_by all own r rest is saw = ap (λ q. list_any (λ h. h.saw) q) is ∙ or_right own.saw (r.saw || list_any (λ h. h.saw) rest) (or_left r.saw (list_any (λ h. h.saw) rest) saw)
