-- Containers that go from memory, one after the other.
use Rattle.std.proofs.Common.{◌≡◌, inl, inr, ⊎_elim, ℕ, suc, ◌<◌, ◌≤◌, ◌-◌, length, Bool, true, false, cond, ◌||◌, ◌&&◌, not, List, [], ◌∷◌, ◌++◌, drop, Option, Some, None, refl, sym, ◌∙◌, ap, subst, arith, append_assoc, get_or, length-append}
use Rattle.std.specs.Prelude.{Contains, IsSome, nat_eq}
use Rattle.std.proofs.lemmas.Bool.Decides.{nat_tests}
use Rattle.std.proofs.lemmas.List.{append-nil}
use Rattle.std.proofs.lemmas.List.Elements.{Contains-append_left, Contains-append_right, Contains-append_cases}
use Rattle.std.proofs.Math.Seq.{drop-cons, drop-length}
use Rattle.vault_types.specs.declared.Name.{Name}
use Rattle.vault_types.specs.declared.Table.{Table}
use Rattle.vault_types.specs.Lists.{has}
use Rattle.vault_types.specs.Shelf.{table_name, payload_name}
use Rattle.fp_index.specs.Index.{without_id, IsOnlyOne, IsIndexOf}
use Rattle.vault_types.specs.declared.Fp.{Fp}
use Rattle.keeper_catalog.specs.Catalog.{table_at}
use Rattle.deletion_laws.specs.Deleting.{without_ids}
use Rattle.state_laws.proofs.Members.{here, later, no_member, first_or_rest, or_left, or_right, has_contained}
use Rattle.keeper_removals.specs.Removals.{IsNameOf, Leaves, IsTableIn, IsKnown}

none_some : {A : Type 0} (x : A) → ◌≡◌ {A = Option A} None (Some x) → ⊥
none_some x e = cc

some_same : {A : Type 0} (x y : A) → ◌≡◌ {A = Option A} (Some x) (Some y) → x ≡ y
some_same x y e = cc

not_some : (o : Option Table) → o ≡ None → IsSome o → ⊥
not_some o none some = let e : false ≡ true = sym (ap (λ (p : Option Table). elim p [ Some x ↦ true | None ↦ false ]) none) ∙ flag o some in cc
  where
    flag : (o : Option Table) → IsSome o → (elim o [ Some x ↦ true | None ↦ false ]) ≡ true
    flag None some = some
    flag (Some x) some = refl

-- nothing is there, and nothing goes
pub leaves_none : (test : ℕ → Bool) (t : List (ℕ × Table)) (s : List Name) → ((id : ℕ) → test id ≡ true → table_at t id ≡ None) → Leaves test t t s s
leaves_none test t s none = record {
  tables = λ id. step id (test id) refl;
  added = [];
  strays_are = sym (append-nil s);
  only = λ q there. absurd (no_member q there);
  gone = λ id q passes some is. absurd (not_some (table_at t id) (none id passes) some);
}
  where
    step : (id : ℕ) (b : Bool) → test id ≡ b → table_at t id ≡ cond b None (table_at t id)
    step id true e = none id e
    step id false e = refl

-- the table at an id is taken out, and its names are added
pub leaves_one : (id : ℕ) (t u : List (ℕ × Table)) (s r : List Name) → ((k : ℕ) → table_at u k ≡ cond (nat_eq k id) None (table_at t k)) → r ≡ (s ++ payload_name id ∷ []) ++ table_name id ∷ [] → Leaves (λ k. nat_eq k id) t u s r
leaves_one id t u s r tables strays = record {
  tables = tables;
  added = payload_name id ∷ table_name id ∷ [];
  strays_are = strays ∙ append_assoc s (payload_name id ∷ []) (table_name id ∷ []);
  only = λ q there. record { id = id; passes = (let e : nat_eq id id ≡ true = grind (arith, nat_tests) in e); is = which q there };
  gone = λ k q passes some is. let same : k ≡ id = grind (arith, nat_tests) in at q (subst (λ (i : ℕ). IsNameOf i q) same is);
}
  where
    which : (q : Name) → Contains (payload_name id ∷ table_name id ∷ []) q → IsNameOf id q
    which q there = ⊎_elim
        (λ first. inr (sym first))
        (λ rest. inl (sym (⊎_elim (λ second. second) (λ none. absurd (no_member q none)) (first_or_rest (table_name id) [] q rest))))
        (first_or_rest (payload_name id) (table_name id ∷ []) q there)

    at : (q : Name) → IsNameOf id q → Contains (payload_name id ∷ table_name id ∷ []) q
    at q (inl is) = subst (λ (n : Name). Contains (payload_name id ∷ table_name id ∷ []) n) (sym is) (later (payload_name id) (table_name id ∷ []) (table_name id) (here (table_name id) []))
    at q (inr is) = subst (λ (n : Name). Contains (payload_name id ∷ table_name id ∷ []) n) (sym is) (here (payload_name id) (table_name id ∷ []))

-- one that may stay
pub leaves_stays : (free : ℕ → Bool) (id : ℕ) (t : List (ℕ × Table)) (s : List Name) → free id ≡ false → Leaves (λ k. nat_eq k id && free k) t t s s
leaves_stays free id t s stays = leaves_none (λ k. nat_eq k id && free k) t s (λ k passes. absurd (step k (nat_eq k id) refl passes))
  where
    step : (k : ℕ) (b : Bool) → nat_eq k id ≡ b → (b && free k) ≡ true → ⊥
    step k true e passes = let same : k ≡ id = grind (arith, nat_tests) in let c : true ≡ false = sym passes ∙ ap free same ∙ stays in cc
    step k false e passes = let c : false ≡ true = passes in cc

-- another test that says the same
pub leaves_same : (f g : ℕ → Bool) (t u : List (ℕ × Table)) (s r : List Name) → ((k : ℕ) → g k ≡ f k) → Leaves f t u s r → Leaves g t u s r
leaves_same f g t u s r same a = record {
  tables = λ k. a.tables k ∙ ap (λ (b : Bool). cond b None (table_at t k)) (sym (same k));
  added = a.added;
  strays_are = a.strays_are;
  only = λ q there. let n = a.only q there in record { id = n.id; passes = same n.id ∙ n.passes; is = n.is };
  gone = λ k q passes some is. a.gone k q (sym (same k) ∙ passes) some is;
}

-- one that need not stay
pub leaves_goes : (free : ℕ → Bool) (id : ℕ) (t u : List (ℕ × Table)) (s r : List Name) → free id ≡ true → Leaves (λ k. nat_eq k id) t u s r → Leaves (λ k. nat_eq k id && free k) t u s r
leaves_goes free id t u s r goes a = leaves_same (λ k. nat_eq k id) (λ k. nat_eq k id && free k) t u s r (λ k. step k (nat_eq k id) refl) a
  where
    step : (k : ℕ) (b : Bool) → nat_eq k id ≡ b → (b && free k) ≡ b
    step k true e = let same : k ≡ id = grind (arith, nat_tests) in ap free same ∙ goes
    step k false e = refl

-- some go, and then others
pub leaves_then : (f g h : ℕ → Bool) (t u v : List (ℕ × Table)) (s r q : List Name) → ((k : ℕ) → h k ≡ (f k || g k)) → Leaves f t u s r → Leaves g u v r q → Leaves h t v s q
leaves_then f g h t u v s r q same a b = record {
  tables = λ k. b.tables k ∙ ap (λ (o : Option Table). cond (g k) None o) (a.tables k) ∙ both (f k) (g k) (table_at t k) ∙ ap (λ (c : Bool). cond c None (table_at t k)) (sym (same k));
  added = a.added ++ b.added;
  strays_are = b.strays_are ∙ ap (λ (l : List Name). l ++ b.added) a.strays_are ∙ append_assoc s a.added b.added;
  only = λ n there. ⊎_elim
      (λ first. let w = a.only n first in record { id = w.id; passes = same w.id ∙ or_left (f w.id) (g w.id) w.passes; is = w.is })
      (λ second. let w = b.only n second in record { id = w.id; passes = same w.id ∙ or_right (f w.id) (g w.id) w.passes; is = w.is })
      (Contains-append_cases a.added b.added n there);
  gone = λ k n passes some is. goes k n (f k) refl (sym (same k) ∙ passes) some is;
}
  where
    both : (c d : Bool) (o : Option Table) → cond d None (cond c None o) ≡ cond (c || d) None o
    both true true o = refl
    both true false o = refl
    both false true o = refl
    both false false o = refl

    goes : (k : ℕ) (n : Name) (c : Bool) → f k ≡ c → (f k || g k) ≡ true → IsSome (table_at t k) → IsNameOf k n → Contains (a.added ++ b.added) n
    goes k n true e passes some is = Contains-append_left a.added b.added n (a.gone k n e some is)
    goes k n false e passes some is = Contains-append_right a.added b.added n (b.gone k n (sym (ap (λ (c : Bool). c || g k) e) ∙ passes)
        (subst (λ (o : Option Table). IsSome o) (sym (a.tables k ∙ ap (λ (c : Bool). cond c None (table_at t k)) e)) some) is)

-- names are only added
pub leaves_longer : (f : ℕ → Bool) (t u : List (ℕ × Table)) (s r : List Name) → Leaves f t u s r → length s ≤ length r
leaves_longer f t u s r a = omega (arith, ap length a.strays_are, length-append s a.added)

-- a list of ids, from its end

has_at : (ids : List ℕ) (left x k : ℕ) → 0 < left → left ≤ length ids → x ≡ get_or ids (left - 1) x → has k (drop (left - 1) ids) ≡ (nat_eq k x || has k (drop left ids))
has_at ids left x k some low is =
    let e : suc (left - 1) ≡ left = omega arith in
    ap (has k) (drop-cons ids (left - 1) x (omega arith)) ∙ ap (λ (y : ℕ). nat_eq k y || has k (drop (suc (left - 1)) ids)) (sym is) ∙ ap (λ (i : ℕ). nat_eq k x || has k (drop i ids)) e

pub leaves_first : (free : ℕ → Bool) (ids : List ℕ) (left : ℕ) (t : List (ℕ × Table)) (s : List Name) → left ≡ length ids → Leaves (λ k. has k (drop left ids) && free k) t t s s
leaves_first free ids left t s is = leaves_none (λ k. has k (drop left ids) && free k) t s (λ id passes. absurd (let e : false ≡ true = sym (ap (λ (l : List ℕ). has id l && free id) (ap (λ (i : ℕ). drop i ids) is ∙ drop-length ids)) ∙ passes in cc))

pub leaves_more : (free : ℕ → Bool) (ids : List ℕ) (left x : ℕ) (t u v : List (ℕ × Table)) (s r q : List Name) → 0 < left → left ≤ length ids → x ≡ get_or ids (left - 1) x
    → Leaves (λ k. has k (drop left ids) && free k) t u s r → Leaves (λ k. nat_eq k x && free k) u v r q → Leaves (λ k. has k (drop (left - 1) ids) && free k) t v s q
leaves_more free ids left x t u v s r q some low is a b =
    leaves_then (λ k. has k (drop left ids) && free k) (λ k. nat_eq k x && free k) (λ k. has k (drop (left - 1) ids) && free k) t u v s r q
    (λ k. ap (λ (c : Bool). c && free k) (has_at ids left x k some low is) ∙ parts (nat_eq k x) (has k (drop left ids)) (free k)) a b
  where
    parts : (a b c : Bool) → ((a || b) && c) ≡ ((b && c) || (a && c))
    parts true true true = refl
    parts true true false = refl
    parts true false true = refl
    parts true false false = refl
    parts false true true = refl
    parts false true false = refl
    parts false false true = refl
    parts false false false = refl

pub leaves_all : (free : ℕ → Bool) (ids : List ℕ) (left : ℕ) (t u : List (ℕ × Table)) (s r : List Name) → left ≤ 0 → Leaves (λ k. has k (drop left ids) && free k) t u s r → Leaves (λ k. has k ids && free k) t u s r
leaves_all free ids left t u s r low a = let e : left ≡ 0 = omega arith in subst (λ (i : ℕ). Leaves (λ k. has k (drop i ids) && free k) t u s r) e a

-- the index of the tables that are left

without_one_more : (id : ℕ) (gone : List ℕ) (tables : List Table) → without_id id (without_ids gone tables) ≡ without_ids (id ∷ gone) tables
without_one_more id gone [] = refl
without_one_more id gone (t ∷ ts) = step (has t.id gone) (nat_eq t.id id) refl (without_one_more id gone ts)
  where
    step : (a b : Bool) → nat_eq t.id id ≡ b → without_id id (without_ids gone ts) ≡ without_ids (id ∷ gone) ts
        → without_id id (cond (not a) (t ∷ without_ids gone ts) (without_ids gone ts)) ≡ cond (not (b || a)) (t ∷ without_ids (id ∷ gone) ts) (without_ids (id ∷ gone) ts)
    step true true e h = h
    step true false e h = h
    step false b e h = ap (λ (c : Bool). cond (not c) (t ∷ without_id id (without_ids gone ts)) (without_id id (without_ids gone ts))) e ∙ rest b h
      where
        rest : (b : Bool) → without_id id (without_ids gone ts) ≡ without_ids (id ∷ gone) ts → cond (not b) (t ∷ without_id id (without_ids gone ts)) (without_id id (without_ids gone ts)) ≡ cond (not (b || false)) (t ∷ without_ids (id ∷ gone) ts) (without_ids (id ∷ gone) ts)
        rest true h = h
        rest false h = ap (λ (l : List Table). t ∷ l) h

-- an id that is gone already
gone_before : (id : ℕ) (gone : List ℕ) (tables : List Table) → has id gone ≡ true → without_id id (without_ids gone tables) ≡ without_ids gone tables
gone_before id gone [] there = refl
gone_before id gone (t ∷ ts) there = step (has t.id gone) (nat_eq t.id id) refl refl (gone_before id gone ts there)
  where
    step : (a b : Bool) → has t.id gone ≡ a → nat_eq t.id id ≡ b → without_id id (without_ids gone ts) ≡ without_ids gone ts
        → without_id id (cond (not a) (t ∷ without_ids gone ts) (without_ids gone ts)) ≡ cond (not a) (t ∷ without_ids gone ts) (without_ids gone ts)
    step true b e f h = h
    step false true e f h = absurd (let same : t.id ≡ id = grind (arith, nat_tests) in let c : true ≡ false = sym there ∙ ap (λ (i : ℕ). has i gone) (sym same) ∙ e in cc)
    step false false e f h = ap (λ (c : Bool). cond (not c) (t ∷ without_id id (without_ids gone ts)) (without_id id (without_ids gone ts))) f ∙ ap (λ (l : List Table). t ∷ l) h

only_left : (t : Table) (gone : List ℕ) (tables : List Table) → IsOnlyOne t tables → IsOnlyOne t (without_ids gone tables)
only_left t gone [] only = tt
only_left t gone (u ∷ us) only = step (has u.id gone) (only_left t gone us only.1)
  where
    step : (a : Bool) → IsOnlyOne t (without_ids gone us) → IsOnlyOne t (cond (not a) (u ∷ without_ids gone us) (without_ids gone us))
    step true h = h
    step false h = (only.0, h)

module _ (free : ℕ → Bool) (gone : List ℕ) (t u : List (ℕ × Table)) (known : List Table) (id : ℕ) (is : IsKnown t known id) (left : (k : ℕ) → table_at u k ≡ cond (has k gone && free k) None (table_at t k)) where
  there_at : (b : Bool) → (has id gone && free id) ≡ b → (w : Table) → table_at u id ≡ Some w → (w.id ≡ id) × IsOnlyOne w (without_ids gone known)
  there_at true e w found = absurd (none_some w (sym (left id ∙ ap (λ (c : Bool). cond c None (table_at t id)) e) ∙ found))
  there_at false e w found =
      let same : is.table ≡ w = some_same is.table w (sym is.there ∙ sym (left id ∙ ap (λ (c : Bool). cond c None (table_at t id)) e) ∙ found) in
      subst (λ (x : Table). (x.id ≡ id) × IsOnlyOne x (without_ids gone known)) same (is.same_id, only_left is.table gone known is.only)

  absent_at : (b : Bool) → (has id gone && free id) ≡ b → table_at u id ≡ None → without_id id (without_ids gone known) ≡ without_ids gone known
  absent_at true e none = gone_before id gone known (first (has id gone) (free id) e)
    where
      first : (a b : Bool) → (a && b) ≡ true → a ≡ true
      first true b e = refl
      first false b e = e
  absent_at false e none = absurd (none_some is.table (sym none ∙ left id ∙ ap (λ (c : Bool). cond c None (table_at t id)) e ∙ is.there))

  pub table_in : IsTableIn u id (without_ids gone known)
  table_in = record { there = λ w found. there_at (has id gone && free id) refl w found; absent = λ none. absent_at (has id gone && free id) refl none }

has_first : (ids : List ℕ) (left x : ℕ) → 0 < left → left ≤ length ids → x ≡ get_or ids (left - 1) x → has x ids ≡ true
has_first ids left x some low is = has_contained ids x (left - 1, omega arith, sym is)

pub index_more : (index next : List (Fp × List ℕ)) (free : ℕ → Bool) (ids : List ℕ) (left x : ℕ) (t u : List (ℕ × Table)) (known : List Table) → 0 < left → left ≤ length ids → x ≡ get_or ids (left - 1) x
    → ((id : ℕ) → has id ids ≡ true → IsKnown t known id) → ((k : ℕ) → table_at u k ≡ cond (has k (drop left ids) && free k) None (table_at t k))
    → ((known : List Table) → IsTableIn u x known → IsIndexOf index known → IsIndexOf next (without_id x known)) → IsIndexOf index (without_ids (drop left ids) known) → IsIndexOf next (without_ids (drop (left - 1) ids) known)
index_more index next free ids left x t u known some low is each tables drops h =
    let e : suc (left - 1) ≡ left = omega arith in
    subst (λ (l : List Table). IsIndexOf next l)
    (without_one_more x (drop left ids) known ∙ ap (λ (l : List ℕ). without_ids l known) (sym (drop-cons ids (left - 1) x (omega arith) ∙ ap (λ (y : ℕ). y ∷ drop (suc (left - 1)) ids) (sym is) ∙ ap (λ (i : ℕ). x ∷ drop i ids) e)))
    (drops (without_ids (drop left ids) known) (table_in free (drop left ids) t u known x (each x (has_first ids left x some low is)) tables) h)
