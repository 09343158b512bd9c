-- One more chunk, and what was done with it.
use Rattle.std.proofs.Common.{◌≡◌, ℕ, true, List, [], ◌∷◌, ◌++◌, length, refl, sym, ap, ◌∙◌, arith, append_assoc, suc, Option}
use Rattle.std.specs.Prelude.{is_some, unwrap_or}
use Rattle.vault_types.specs.declared.Fp.{Fp}
use Rattle.vault_types.specs.declared.How.{How}
use Rattle.vault_types.specs.declared.How.TheVariants.{Old, Own, Write}
use Rattle.vault_types.specs.Names.{NamedChunk}
use Rattle.vault_types.specs.Decide.{is_written}
use Rattle.vault_types.specs.Tables.{Container}
use Rattle.vault_types.specs.Fill.{writes, rows_of, home}
use Rattle.container_fill.specs.Carried.{carried_how, carried_behind, IsInTurn, AreInTurnBehind}
use Rattle.container_fill.specs.Filling.{HaveTakers, places_of, place_of}

pub writes-more : (cs : List NamedChunk) (hs : List How) (c : NamedChunk) (h : How) → length cs ≡ length hs → writes (cs ++ c ∷ []) (hs ++ h ∷ []) ≡ writes cs hs ++ writes (c ∷ []) (h ∷ [])
writes-more [] [] c h e = refl
writes-more [] (g ∷ hs) c h e = absurd (omega arith)
writes-more (d ∷ cs) [] c h e = absurd (omega arith)
writes-more (d ∷ cs) (Old id ∷ hs) c h e = writes-more cs hs c h (omega arith)
writes-more (d ∷ cs) (Own ∷ hs) c h e = writes-more cs hs c h (omega arith)
writes-more (d ∷ cs) (Write ∷ hs) c h e = ap (λ xs. d ∷ xs) (writes-more cs hs c h (omega arith))

pub rows-more : (A : List Container) (cs : List NamedChunk) (hs : List How) (c : NamedChunk) (h : How) → length cs ≡ length hs
    → rows_of A (cs ++ c ∷ []) (hs ++ h ∷ []) ≡ rows_of A cs hs ++ rows_of A (c ∷ []) (h ∷ [])
rows-more A [] [] c h e = refl
rows-more A [] (g ∷ hs) c h e = absurd (omega arith)
rows-more A (d ∷ cs) [] c h e = absurd (omega arith)
rows-more A (d ∷ cs) (g ∷ hs) c h e = ap (λ xs. record { fp = d.fp; id = home A d.fp g; len = length d.bytes } ∷ xs) (rows-more A cs hs c h (omega arith))

pub places-more : (cs : List NamedChunk) (hs : List How) (c : NamedChunk) (h : How) → length cs ≡ length hs → places_of (cs ++ c ∷ []) (hs ++ h ∷ []) ≡ places_of cs hs ++ (c.fp, h) ∷ []
places-more [] [] c h e = refl
places-more [] (g ∷ hs) c h e = absurd (omega arith)
places-more (d ∷ cs) [] c h e = absurd (omega arith)
places-more (d ∷ cs) (g ∷ hs) c h e = ap (λ xs. (d.fp, g) ∷ xs) (places-more cs hs c h (omega arith))

pub takers-more : (t : Fp → Option ℕ) (cs : List NamedChunk) (hs : List How) (c : NamedChunk) (h : How) → HaveTakers t cs hs → HaveTakers t (c ∷ []) (h ∷ []) → length cs ≡ length hs → HaveTakers t (cs ++ c ∷ []) (hs ++ h ∷ [])
takers-more t [] [] c h i j e = j
takers-more t [] (g ∷ hs) c h i j e = absurd (omega arith)
takers-more t (d ∷ cs) [] c h i j e = absurd (omega arith)
takers-more t (d ∷ cs) (Old id ∷ hs) c h i j e = takers-more t cs hs c h i j (omega arith)
takers-more t (d ∷ cs) (Own ∷ hs) c h i j e = (i.0, takers-more t cs hs c h i.1 j (omega arith))
takers-more t (d ∷ cs) (Write ∷ hs) c h i j e = (i.0, takers-more t cs hs c h i.1 j (omega arith))

pub takers-stay : (t u : Fp → Option ℕ) → ((g : Fp) → is_some (t g) ≡ true → is_some (u g) ≡ true) → (cs : List NamedChunk) (hs : List How) → HaveTakers t cs hs → HaveTakers u cs hs
takers-stay t u k [] hs i = tt
takers-stay t u k (d ∷ cs) [] i = tt
takers-stay t u k (d ∷ cs) (Old id ∷ hs) i = takers-stay t u k cs hs i
takers-stay t u k (d ∷ cs) (Own ∷ hs) i = (k d.fp i.0, takers-stay t u k cs hs i.1)
takers-stay t u k (d ∷ cs) (Write ∷ hs) i = (k d.fp i.0, takers-stay t u k cs hs i.1)

pub rows-stay : (A B : List Container) (t : Fp → Option ℕ) → ((g : Fp) → is_some (t g) ≡ true → place_of B g ≡ place_of A g) → (cs : List NamedChunk) (hs : List How) → HaveTakers t cs hs → rows_of B cs hs ≡ rows_of A cs hs
rows-stay A B t k [] hs i = refl
rows-stay A B t k (d ∷ cs) [] i = refl
rows-stay A B t k (d ∷ cs) (Old id ∷ hs) i = ap (λ xs. record { fp = d.fp; id = id; len = length d.bytes } ∷ xs) (rows-stay A B t k cs hs i)
rows-stay A B t k (d ∷ cs) (Own ∷ hs) i =
    ap (λ o. record { fp = d.fp; id = unwrap_or o 0; len = length d.bytes } ∷ rows_of B cs hs) (k d.fp i.0)
    ∙ ap (λ xs. record { fp = d.fp; id = unwrap_or (place_of A d.fp) 0; len = length d.bytes } ∷ xs) (rows-stay A B t k cs hs i.1)
rows-stay A B t k (d ∷ cs) (Write ∷ hs) i =
    ap (λ o. record { fp = d.fp; id = unwrap_or o 0; len = length d.bytes } ∷ rows_of B cs hs) (k d.fp i.0)
    ∙ ap (λ xs. record { fp = d.fp; id = unwrap_or (place_of A d.fp) 0; len = length d.bytes } ∷ xs) (rows-stay A B t k cs hs i.1)

pub carried-len : (ps : List (Fp × How)) (cs : List NamedChunk) (hs : List How) → length cs ≡ length hs → length cs ≡ length (carried_behind ps cs hs)
carried-len ps [] hs e = refl
carried-len ps (d ∷ cs) [] e = absurd (omega arith)
carried-len ps (d ∷ cs) (g ∷ hs) e = ap suc (carried-len (ps ++ (d.fp, carried_how (is_written ps d.fp) g) ∷ []) cs hs (omega arith))

pub carried-more : (ps : List (Fp × How)) (cs : List NamedChunk) (hs : List How) (c : NamedChunk) (h : How) → length cs ≡ length hs
    → carried_behind ps (cs ++ c ∷ []) (hs ++ h ∷ []) ≡ carried_behind ps cs hs ++ carried_how (is_written (ps ++ places_of cs (carried_behind ps cs hs)) c.fp) h ∷ []
carried-more ps [] [] c h e = ap (λ qs. carried_how (is_written qs c.fp) h ∷ []) (sym (nothing-more ps))
  where
    nothing-more : (xs : List (Fp × How)) → xs ++ [] ≡ xs
    nothing-more [] = refl
    nothing-more (x ∷ xs) = ap (λ ys. x ∷ ys) (nothing-more xs)
carried-more ps [] (g ∷ hs) c h e = absurd (omega arith)
carried-more ps (d ∷ cs) [] c h e = absurd (omega arith)
carried-more ps (d ∷ cs) (g ∷ hs) c h e =
    let k : How = carried_how (is_written ps d.fp) g in
    let qs : List (Fp × How) = ps ++ (d.fp, k) ∷ [] in
    ap (λ xs. k ∷ xs)
    (carried-more qs cs hs c h (omega arith)
    ∙ ap (λ xs. carried_behind qs cs hs ++ carried_how (is_written xs c.fp) h ∷ []) (append_assoc ps ((d.fp, k) ∷ []) (places_of cs (carried_behind qs cs hs))))

-- decisions that are in turn are carried out as they are
in_turn-how : (ps : List (Fp × How)) (f : Fp) (h : How) → IsInTurn ps f h → carried_how (is_written ps f) h ≡ h
in_turn-how ps f (Old id) i = refl
in_turn-how ps f Own i = ap (λ b. carried_how b Own) i
in_turn-how ps f Write i = ap (λ b. carried_how b Write) i

pub carried-in_turn : (ps : List (Fp × How)) (cs : List NamedChunk) (hs : List How) → length cs ≡ length hs → AreInTurnBehind ps cs hs → carried_behind ps cs hs ≡ hs
carried-in_turn ps [] [] e i = refl
carried-in_turn ps [] (g ∷ hs) e i = absurd (omega arith)
carried-in_turn ps (d ∷ cs) [] e i = absurd (omega arith)
carried-in_turn ps (d ∷ cs) (g ∷ hs) e i =
    let same : carried_how (is_written ps d.fp) g ≡ g = in_turn-how ps d.fp g i.0 in
    ap (λ k. k ∷ carried_behind (ps ++ (d.fp, k) ∷ []) cs hs) same
    ∙ ap (λ ks. g ∷ ks) (carried-in_turn (ps ++ (d.fp, g) ∷ []) cs hs (omega arith) i.1)
