-- What a filler keeps, step by step.
use Rattle.std.proofs.Common.{◌≡◌, ℕ, ◌+◌, ◌*◌, ◌≤◌, Bool, true, false, cond, ◌&&◌, ◌||◌, List, [], ◌∷◌, ◌++◌, map, length, refl, sym, ap, ◌∙◌, subst, arith, length-append, append-nil, Option, Some, None}
use Rattle.std.specs.Prelude.{is_some, unwrap_or}
use Rattle.std.specs.List.{list_any}
use Rattle.std.specs.Map.{lookup}
use Rattle.std.proofs.lemmas.List.{map-append}
use Rattle.std.proofs.lemmas.List.Folds.{list_any-append}
use Rattle.vault_types.specs.declared.Fp.{Fp}
use Rattle.vault_types.specs.declared.How.{How}
use Rattle.vault_types.specs.declared.How.TheVariants.{Old, Own, Write}
use Rattle.vault_types.specs.Names.{fp, same_fp, NamedChunk, named_chunk}
use Rattle.vault_types.specs.Decide.{is_written, is_write}
use Rattle.vault_types.specs.Tables.{Container}
use Rattle.vault_types.specs.Fill.{rows_of, new_container}
use Rattle.vault_types.proofs.FillLemmas.{same_fps}
use Rattle.container_fill.specs.Filling.{Filling, taken_by, opened, place_of, written_in, saturated, places_of, HasPacked, closed_with, with_row, IsPut}
use Rattle.container_fill.proofs.FpLemmas.{same-refl, same-symm}
use Rattle.container_fill.proofs.PlaceLemmas.{place-put, written-put, opened-len}
use Rattle.container_fill.proofs.StepLemmas.{rows-more, rows-stay, places-more, takers-more, takers-stay}

-- the containers so far, where the last one is held
abbrev all_of : Filling → List Container → List Container
all_of f gone = gone ++ opened f.next f.held

-- whether one more place wrote a fingerprint
known-more : (cs : List NamedChunk) (ds : List How) (c : NamedChunk) (d : How) (g : Fp) → length cs ≡ length ds
    → is_written (places_of (cs ++ c ∷ []) (ds ++ d ∷ [])) g ≡ (is_written (places_of cs ds) g || ((same_fp c.fp g && is_write d) || false))
known-more cs ds c d g e =
    ap (λ ps. is_written ps g) (places-more cs ds c d e)
    ∙ list_any-append (λ p. same_fp p.0 g && is_write p.1) (places_of cs ds) ((c.fp, d) ∷ [])

no_write : (a b : Bool) → (a || ((b && false) || false)) ≡ a
no_write true true = refl
no_write true false = refl
no_write false true = refl
no_write false false = refl

pub keeps-closed : (held : List (List ℕ)) (f : Filling) (first : ℕ) (gone : List Container) (cs : List NamedChunk) (ds : List How)
    → f.held ≡ held → HasPacked f first gone cs ds → HasPacked (closed_with held f) first (gone ++ opened f.next held) cs ds
keeps-closed [] f first gone cs ds e k = let P : List Container → Type 0 = λ xs. HasPacked f first xs cs ds in subst P (sym (append-nil gone)) k
keeps-closed (c ∷ rest) f first gone cs ds e k =
    let last : Container = new_container f.next (map named_chunk (c ∷ rest)) in
    let same : all_of f gone ≡ (gone ++ last ∷ []) ++ [] = ap (λ h. gone ++ opened f.next h) e ∙ sym (append-nil (gone ++ last ∷ [])) in
    let len : length (gone ++ last ∷ []) ≡ length gone + 1 = length-append gone (last ∷ []) in
    let n : f.next ≡ first + length gone = k.next in
    let m : f.containers ≡ saturated (length gone) = k.containers in
    record {
      count = k.count;
      next = omega arith;
      taken = λ g. k.taken g ∙ ap (λ xs. place_of xs g) same;
      known = k.known;
      takers = k.takers;
      rows = k.rows ∙ ap (λ xs. rows_of xs cs ds) same;
      containers = omega arith;
      written = k.written ∙ ap (λ xs. saturated (written_in xs)) same;
      few = (let P : List Container → Type 0 = λ xs. length xs ≤ length cs in subst P same k.few);
      small = (let P : List Container → Type 0 = λ xs. written_in xs ≤ 65536 * length cs in subst P same k.small);
    }

-- one more row

one_more : {X : Type 0} (cs : List X) (c : X) → length (cs ++ c ∷ []) ≡ length cs + 1
one_more cs c = length-append cs (c ∷ [])

pub keeps-old : (f : Filling) (first : ℕ) (gone : List Container) (cs : List NamedChunk) (ds : List How) (c : NamedChunk) (id : ℕ)
    → HasPacked f first gone cs ds → HasPacked (with_row f (record { fp = c.fp; id = id; len = length c.bytes })) first gone (cs ++ c ∷ []) (ds ++ Old id ∷ [])
keeps-old f first gone cs ds c id k =
    let a : length (cs ++ c ∷ []) ≡ length cs + 1 = one_more cs c in
    let b : length (ds ++ Old id ∷ []) ≡ length ds + 1 = one_more ds (Old id) in
    let count : length cs ≡ length ds = k.count in
    let few : length (all_of f gone) ≤ length cs = k.few in
    let small : written_in (all_of f gone) ≤ 65536 * length cs = k.small in
    record {
      count = omega arith;
      next = k.next;
      taken = k.taken;
      known = λ g. known-more cs ds c (Old id) g k.count ∙ no_write (is_written (places_of cs ds) g) (same_fp c.fp g) ∙ k.known g;
      takers = takers-more (taken_by f) cs ds c (Old id) k.takers tt k.count;
      rows = ap (λ rs. rs ++ (record { fp = c.fp; id = id; len = length c.bytes }) ∷ []) k.rows ∙ sym (rows-more (all_of f gone) cs ds c (Old id) k.count);
      containers = k.containers;
      written = k.written;
      few = omega arith;
      small = omega arith;
    }

pub keeps-own : (f : Filling) (first : ℕ) (gone : List Container) (cs : List NamedChunk) (ds : List How) (c : NamedChunk) (id : ℕ)
    → taken_by f c.fp ≡ Some id → HasPacked f first gone cs ds → HasPacked (with_row f (record { fp = c.fp; id = id; len = length c.bytes })) first gone (cs ++ c ∷ []) (ds ++ Own ∷ [])
keeps-own f first gone cs ds c id here k =
    let a : length (cs ++ c ∷ []) ≡ length cs + 1 = one_more cs c in
    let b : length (ds ++ Own ∷ []) ≡ length ds + 1 = one_more ds Own in
    let count : length cs ≡ length ds = k.count in
    let few : length (all_of f gone) ≤ length cs = k.few in
    let small : written_in (all_of f gone) ≤ 65536 * length cs = k.small in
    let at : id ≡ unwrap_or (place_of (all_of f gone) c.fp) 0 = ap (λ o. unwrap_or o 0) (sym here ∙ k.taken c.fp) in
    record {
      count = omega arith;
      next = k.next;
      taken = k.taken;
      known = λ g. known-more cs ds c Own g k.count ∙ no_write (is_written (places_of cs ds) g) (same_fp c.fp g) ∙ k.known g;
      takers = takers-more (taken_by f) cs ds c Own k.takers (ap is_some here, tt) k.count;
      rows =
          ap (λ rs. rs ++ (record { fp = c.fp; id = id; len = length c.bytes }) ∷ []) k.rows
          ∙ ap (λ n. rows_of (all_of f gone) cs ds ++ (record { fp = c.fp; id = n; len = length c.bytes }) ∷ []) at
          ∙ sym (rows-more (all_of f gone) cs ds c Own k.count);
      containers = k.containers;
      written = k.written;
      few = omega arith;
      small = omega arith;
    }

-- one more write

some_known : (a b : Bool) (id : ℕ) (o : Option ℕ) → a ≡ is_some o → (a || ((b && true) || false)) ≡ is_some (cond b (Some id) o)
some_known true true id o e = refl
some_known true false id o e = e
some_known false true id o e = refl
some_known false false id o e = e

still_some : (b : Bool) (id : ℕ) (o : Option ℕ) → is_some o ≡ true → is_some (cond b (Some id) o) ≡ true
still_some true id o e = refl
still_some false id o e = e

pub keeps-put : (f g : Filling) (first : ℕ) (gone : List Container) (cs : List NamedChunk) (ds : List How) (chunk : List ℕ)
    → length chunk ≤ 65536 → taken_by f (fp chunk) ≡ None → IsPut f g chunk
    → HasPacked f first gone cs ds → HasPacked g first gone (cs ++ named_chunk chunk ∷ []) (ds ++ Write ∷ [])
keeps-put f g first gone cs ds chunk short absent put k =
    let a : length (cs ++ named_chunk chunk ∷ []) ≡ length cs + 1 = one_more cs (named_chunk chunk) in
    let b : length (ds ++ Write ∷ []) ≡ length ds + 1 = one_more ds Write in
    let count : length cs ≡ length ds = k.count in
    let now : List Container = gone ++ opened f.next (f.held ++ chunk ∷ []) in
    let all : gone ++ opened g.next g.held ≡ now = ap (λ n. gone ++ opened n g.held) put.next ∙ ap (λ h. gone ++ opened f.next h) put.held in
    let nowhere : place_of (all_of f gone) (fp chunk) ≡ None = sym (k.taken (fp chunk)) ∙ absent in
    let places : (q : Fp) → place_of now q ≡ cond (same_fp (fp chunk) q) (Some f.next) (place_of (all_of f gone) q) = λ q. place-put gone f.next f.held chunk q nowhere in
    let here : place_of now (fp chunk) ≡ Some f.next = places (fp chunk) ∙ ap (λ t. cond t (Some f.next) (place_of (all_of f gone) (fp chunk))) (same-refl (fp chunk)) in
    let bytes : written_in now ≡ written_in (all_of f gone) + length chunk = written-put gone f.next f.held chunk in
    let few : length (all_of f gone) ≤ length cs = k.few in
    let small : written_in (all_of f gone) ≤ 65536 * length cs = k.small in
    let were : f.written ≡ saturated (written_in (all_of f gone)) = k.written in
    let are : g.written ≡ saturated (f.written + length chunk) = put.written in
    let lens : length now ≡ length gone + length (opened f.next (f.held ++ chunk ∷ [])) = length-append gone (opened f.next (f.held ++ chunk ∷ [])) in
    let lens_before : length (all_of f gone) ≡ length gone + length (opened f.next f.held) = length-append gone (opened f.next f.held) in
    let one : length (opened f.next (f.held ++ chunk ∷ [])) ≤ length (opened f.next f.held) + 1 = opened-len f.next f.held chunk in
    let written : g.written ≡ saturated (written_in now) = omega arith in
    let short_list : length now ≤ length (cs ++ named_chunk chunk ∷ []) = omega arith in
    let few_bytes : written_in now ≤ 65536 * length (cs ++ named_chunk chunk ∷ []) = omega arith in
    record {
      count = omega arith;
      next = put.next ∙ k.next;
      taken = λ q.
          put.taken q
          ∙ ap (cond (same_fp (fp chunk) q) (Some f.next)) (k.taken q)
          ∙ sym (places q)
          ∙ ap (λ xs. place_of xs q) (sym all);
      known = λ q.
          known-more cs ds (named_chunk chunk) Write q k.count
          ∙ some_known (is_written (places_of cs ds) q) (same_fp (fp chunk) q) f.next (taken_by f q) (k.known q)
          ∙ ap is_some (sym (put.taken q));
      takers =
          takers-more (taken_by g) cs ds (named_chunk chunk) Write
          (takers-stay (taken_by f) (taken_by g) (λ q s. ap is_some (put.taken q) ∙ still_some (same_fp (fp chunk) q) f.next (taken_by f q) s) cs ds k.takers)
          (ap is_some (put.taken (fp chunk) ∙ ap (λ t. cond t (Some f.next) (taken_by f (fp chunk))) (same-refl (fp chunk))), tt) k.count;
      rows =
          put.rows
          ∙ ap (λ rs. rs ++ (record { fp = fp chunk; id = f.next; len = length chunk }) ∷ []) (k.rows ∙ sym (rows-stay (all_of f gone) now (taken_by f) (λ q s. places q ∙ stays q s) cs ds k.takers))
          ∙ ap (λ o. rows_of now cs ds ++ (record { fp = fp chunk; id = unwrap_or o 0; len = length chunk }) ∷ []) (sym here)
          ∙ sym (rows-more now cs ds (named_chunk chunk) Write k.count)
          ∙ ap (λ xs. rows_of xs (cs ++ named_chunk chunk ∷ []) (ds ++ Write ∷ [])) (sym all);
      containers = put.containers ∙ k.containers;
      written = written ∙ ap (λ xs. saturated (written_in xs)) (sym all);
      few = (let P : List Container → Type 0 = λ xs. length xs ≤ length (cs ++ named_chunk chunk ∷ []) in subst P (sym all) short_list);
      small = (let P : List Container → Type 0 = λ xs. written_in xs ≤ 65536 * length (cs ++ named_chunk chunk ∷ []) in subst P (sym all) few_bytes);
    }
  where
    stays : (q : Fp) → is_some (taken_by f q) ≡ true → cond (same_fp (fp chunk) q) (Some f.next) (place_of (all_of f gone) q) ≡ place_of (all_of f gone) q
    stays q s = step (same_fp (fp chunk) q) refl
      where
        step : (b : Bool) → same_fp (fp chunk) q ≡ b → cond b (Some f.next) (place_of (all_of f gone) q) ≡ place_of (all_of f gone) q
        step true e =
            let none : taken_by f q ≡ None = (let P : Fp → Type 0 = λ r. taken_by f r ≡ None in subst P (same_fps (fp chunk) q e) absent) in
            let clash : false ≡ true = ap is_some (sym none) ∙ s in
            cc
        step false e = refl

-- each chunk that is held has a container, also behind a write
pub covered-put : (f : Filling) (chunk : List ℕ) (id : ℕ) (taken : List (Fp × ℕ)) (held : List (List ℕ))
    → ((g : Fp) → taken_by f g ≡ None → list_any (same_fp g) (map fp f.held) ≡ false)
    → held ≡ f.held ++ chunk ∷ []
    → ((q : Fp) → lookup (same_fp q) taken ≡ cond (same_fp (fp chunk) q) (Some id) (taken_by f q))
    → (g : Fp) → lookup (same_fp g) taken ≡ None → list_any (same_fp g) (map fp held) ≡ false
covered-put f chunk id taken held covered e updates g none =
    ap (λ hs. list_any (same_fp g) (map fp hs)) e
    ∙ ap (list_any (same_fp g)) (map-append fp f.held (chunk ∷ []))
    ∙ list_any-append (same_fp g) (map fp f.held) (fp chunk ∷ [])
    ∙ ap (λ b. list_any (same_fp g) (map fp f.held) || (b || false)) (same-symm g (fp chunk))
    ∙ step (same_fp (fp chunk) g) (sym (updates g) ∙ none)
  where
    step : (b : Bool) → cond b (Some id) (taken_by f g) ≡ None → (list_any (same_fp g) (map fp f.held) || (b || false)) ≡ false
    step true i = cc
    step false i = ap (λ b. b || false) (covered g i)
