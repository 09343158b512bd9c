-- Which container has a fingerprint, as chunks are written.
use Rattle.std.proofs.Common.{◌≡◌, ℕ, ◌+◌, ◌≤◌, Bool, true, false, cond, ◌||◌, List, [], ◌∷◌, ◌++◌, map, length, refl, sym, ap, ◌∙◌, subst, arith, suc, Option, Some, None}
use Rattle.std.specs.Prelude.{sum_by, find, option_map}
use Rattle.std.specs.Option.{option_or}
use Rattle.std.specs.List.{list_any}
use Rattle.std.proofs.lemmas.List.Folds.{find-append, list_any-append}
use Rattle.std.proofs.lemmas.List.Sums.{sum_by-append, sum_by-cons}
use Rattle.vault_types.specs.declared.Fp.{Fp}
use Rattle.vault_types.specs.declared.TableRow.{TableRow}
use Rattle.vault_types.specs.Names.{fp, same_fp, NamedChunk, named_chunk}
use Rattle.vault_types.specs.Tables.{Container, id_of, has_fp, payload_len, table_row}
use Rattle.vault_types.specs.Fill.{new_container, new_containers}
use Rattle.vault_types.proofs.FillLemmas.{same_fps}
use Rattle.container_fill.specs.Opened.{bytes_in}
use Rattle.container_fill.specs.Filling.{opened, place_of, written_in, size_of}
use Rattle.container_fill.proofs.PackLemmas.{only}

-- containers by their pieces

pub containers-append : (first : ℕ) (ps qs : List (List NamedChunk)) → new_containers first (ps ++ qs) ≡ new_containers first ps ++ new_containers (first + length ps) qs
containers-append first [] qs = let e : first ≡ first + 0 = omega arith in ap (λ n. new_containers n qs) e
containers-append first (p ∷ ps) qs =
    let e : first + 1 + length ps ≡ first + length (p ∷ ps) = omega arith in
    ap (λ cs. new_container first p ∷ cs) (containers-append (first + 1) ps qs ∙ ap (λ n. new_containers (first + 1) ps ++ new_containers n qs) e)

pub containers-len : (first : ℕ) (ps : List (List NamedChunk)) → length (new_containers first ps) ≡ length ps
containers-len first [] = refl
containers-len first (p ∷ ps) = ap suc (containers-len (first + 1) ps)

pub opened-as : (id : ℕ) (held : List (List ℕ)) → opened id held ≡ new_containers id (only (map named_chunk held))
opened-as id [] = refl
opened-as id (c ∷ cs) = refl

pub opened-len : (id : ℕ) (held : List (List ℕ)) (c : List ℕ) → length (opened id (held ++ c ∷ [])) ≤ length (opened id held) + 1
opened-len id [] c = omega arith
opened-len id (h ∷ hs) c = omega arith

-- fingerprints

place-or : (x y : Option Container) → option_map id_of (option_or x y) ≡ option_or (option_map id_of x) (option_map id_of y)
place-or None y = refl
place-or (Some c) y = refl

pub place-append : (xs ys : List Container) (g : Fp) → place_of (xs ++ ys) g ≡ option_or (place_of xs g) (place_of ys g)
place-append xs ys g = ap (option_map id_of) (find-append (λ c. has_fp g c.table) xs ys) ∙ place-or (find (λ c. has_fp g c.table) xs) (find (λ c. has_fp g c.table) ys)

abbrev pub has_chunk : Fp → List (List ℕ) → Bool
has_chunk g held = list_any (λ c. same_fp (fp c) g) held

any-rows : (g : Fp) (held : List (List ℕ)) → list_any {X = TableRow} (λ r. same_fp r.fp g) (map (λ c. record { fp = c.fp; len = length c.bytes }) (map named_chunk held)) ≡ has_chunk g held
any-rows g [] = refl
any-rows g (c ∷ cs) = ap (λ b. same_fp (fp c) g || b) (any-rows g cs)

-- the id, if the test holds
abbrev pub when : Bool → ℕ → Option ℕ
when b id = cond b (Some id) None

pub place-opened : (id : ℕ) (held : List (List ℕ)) (g : Fp) → place_of (opened id held) g ≡ when (has_chunk g held) id
place-opened id [] g = refl
place-opened id (c ∷ cs) g =
    ap (λ b. option_map id_of (cond b (Some (new_container id (map named_chunk (c ∷ cs)))) None)) (any-rows g (c ∷ cs))
    ∙ elim (has_chunk g (c ∷ cs)) as (λ b. option_map id_of (cond b (Some (new_container id (map named_chunk (c ∷ cs)))) None) ≡ when b id) [ true ↦ refl | false ↦ refl ]

pub place-put : (gone : List Container) (id : ℕ) (held : List (List ℕ)) (c : List ℕ) (q : Fp) → place_of (gone ++ opened id held) (fp c) ≡ None
    → place_of (gone ++ opened id (held ++ c ∷ [])) q ≡ cond (same_fp (fp c) q) (Some id) (place_of (gone ++ opened id held) q)
place-put gone id held c q none =
    place-append gone (opened id (held ++ c ∷ [])) q
    ∙ ap (option_or (place_of gone q)) (place-opened id (held ++ c ∷ []) q)
    ∙ ap (λ b. option_or (place_of gone q) (when b id)) (list_any-append (λ d. same_fp (fp d) q) held (c ∷ []))
    ∙ step (same_fp (fp c) q) refl
  where
    before : place_of (gone ++ opened id held) q ≡ option_or (place_of gone q) (when (has_chunk q held) id)
    before = place-append gone (opened id held) q ∙ ap (option_or (place_of gone q)) (place-opened id held q)

    nowhere : (p : Option ℕ) (b : Bool) → option_or p (when b id) ≡ None → option_or p (when (b || true) id) ≡ Some id
    nowhere (Some n) b e = cc
    nowhere None true e = refl
    nowhere None false e = refl

    same : (b : Bool) → (b || false) ≡ b
    same true = refl
    same false = refl

    step : (b : Bool) → same_fp (fp c) q ≡ b → option_or (place_of gone q) (when (has_chunk q held || (b || false)) id) ≡ cond b (Some id) (place_of (gone ++ opened id held) q)
    step true e =
        let at : place_of (gone ++ opened id held) q ≡ None = (let P : Fp → Type 0 = λ k. place_of (gone ++ opened id held) k ≡ None in subst P (same_fps (fp c) q e) none) in
        nowhere (place_of gone q) (has_chunk q held) (sym before ∙ at)
    step false e = ap (λ b. option_or (place_of gone q) (when b id)) (same (has_chunk q held)) ∙ sym before

-- bytes

rows-named : (chunks : List (List ℕ)) → payload_len (map (λ c. record { fp = c.fp; len = length c.bytes }) (map named_chunk chunks)) ≡ bytes_in chunks
rows-named [] = refl
rows-named (x ∷ xs) =
    sum_by-cons (λ r. r.len) (table_row x) (map (λ c. record { fp = c.fp; len = length c.bytes }) (map named_chunk xs))
    ∙ ap (λ n. length x + n) (rows-named xs)
    ∙ sym (sum_by-cons length x xs)

written-opened : (id : ℕ) (held : List (List ℕ)) → written_in (opened id held) ≡ bytes_in held
written-opened id [] = refl
written-opened id (c ∷ cs) = let e : payload_len (map (λ d. record { fp = d.fp; len = length d.bytes }) (map named_chunk (c ∷ cs))) ≡ bytes_in (c ∷ cs) = rows-named (c ∷ cs) in omega arith

pub written-put : (gone : List Container) (id : ℕ) (held : List (List ℕ)) (c : List ℕ) → written_in (gone ++ opened id (held ++ c ∷ [])) ≡ written_in (gone ++ opened id held) + length c
written-put gone id held c =
    let before : written_in (gone ++ opened id held) ≡ written_in gone + written_in (opened id held) = sum_by-append (λ k. payload_len k.table.rows) gone (opened id held) in
    let after : written_in (gone ++ opened id (held ++ c ∷ [])) ≡ written_in gone + written_in (opened id (held ++ c ∷ [])) = sum_by-append (λ k. payload_len k.table.rows) gone (opened id (held ++ c ∷ [])) in
    let one : written_in (opened id held) ≡ bytes_in held = written-opened id held in
    let two : written_in (opened id (held ++ c ∷ [])) ≡ bytes_in (held ++ c ∷ []) = written-opened id (held ++ c ∷ []) in
    let more : bytes_in (held ++ c ∷ []) ≡ bytes_in held + (0 + length c) = sum_by-append length held (c ∷ []) in
    omega arith

-- sizes of named chunks
pub named-bytes : (held : List (List ℕ)) → sum_by size_of (map named_chunk held) ≡ bytes_in held
named-bytes [] = refl
named-bytes (x ∷ xs) = sum_by-cons size_of (named_chunk x) (map named_chunk xs) ∙ ap (λ n. length x + n) (named-bytes xs) ∙ sym (sum_by-cons length x xs)
