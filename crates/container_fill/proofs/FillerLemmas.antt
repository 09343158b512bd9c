-- What a filler has filled, step by step and at the end.
use Rattle.std.proofs.Common.{◌≡◌, ◌⊎◌, inl, inr, ℕ, ◌+◌, ◌*◌, ◌≤◌, ◌<◌, Bool, true, false, cond, List, [], ◌∷◌, ◌++◌, map, length, refl, sym, ap, ◌∙◌, subst, arith, length-append, append-nil, Option, Some, None}
use Rattle.std.specs.Prelude.{is_some, sum_by, unwrap_or, IsSome, IfSome, OnOk, Result, Ok, Err, option_to_list}
use Rattle.std.proofs.lemmas.List.{map-append}
use Rattle.std.proofs.lemmas.Bool.Decides.{nat_tests}
use Rattle.vault_types.specs.declared.Fp.{Fp}
use Rattle.vault_types.specs.declared.Row.{Row}
use Rattle.vault_types.specs.declared.How.{How}
use Rattle.vault_types.specs.declared.How.TheVariants.{Old, Own, Write}
use Rattle.vault_types.specs.Names.{fp, NamedChunk, named_chunk}
use Rattle.vault_types.specs.Pieces.{pieces}
use Rattle.vault_types.specs.Tables.{Container}
use Rattle.vault_types.specs.Fill.{writes, new_container, new_containers, rows_of, Filled, fill}
use Rattle.container_fill.specs.Opened.{bytes_in}
use Rattle.container_fill.specs.Carried.{carried, carried_how, AreInTurn}
use Rattle.container_fill.specs.Filling.{Filling, taken_by, opened, written_in, saturated, size_of, ArePacked, HasPacked, HasFilled, closed_with, closed, is_over, roomed, given_for, with_row, IsPut, IsFilledBy}
use Rattle.container_fill.proofs.PackLemmas.{packed-fits, packed-over, packed-end, only}
use Rattle.container_fill.proofs.PlaceLemmas.{containers-append, containers-len, opened-as, named-bytes}
use Rattle.container_fill.proofs.StepLemmas.{writes-more, carried-more, carried-in_turn}
use Rattle.container_fill.proofs.KeepLemmas.{keeps-closed, keeps-old, keeps-own, keeps-put}

-- a decision that is not for an old container
abbrev pub IsNew : How → Type 0
IsNew h = (h ≡ Own) ⊎ (h ≡ Write)

new-written : (h : How) → IsNew h → carried_how true h ≡ Own
new-written h (inl e) = ap (carried_how true) e
new-written h (inr e) = ap (carried_how true) e

new-first : (h : How) → IsNew h → carried_how false h ≡ Write
new-first h (inl e) = ap (carried_how false) e
new-first h (inr e) = ap (carried_how false) e

one_more : {X : Type 0} (xs : List X) (x : X) → length (xs ++ x ∷ []) ≡ length xs + 1
one_more xs x = length-append xs (x ∷ [])

counts : (cs : List NamedChunk) (hs : List How) (c : NamedChunk) (h : How) → length cs ≡ length hs → length (cs ++ c ∷ []) ≡ length (hs ++ h ∷ [])
counts cs hs c h e =
    let a : length (cs ++ c ∷ []) ≡ length cs + 1 = one_more cs c in
    let b : length (hs ++ h ∷ []) ≡ length hs + 1 = one_more hs h in
    omega arith

-- what one more decision comes to
carried-as : (f : Filling) (first : ℕ) (gone : List Container) (cs : List NamedChunk) (hs : List How) (c : NamedChunk) (h d : How)
    → length cs ≡ length hs → HasPacked f first gone cs (carried cs hs) → carried_how (is_some (taken_by f c.fp)) h ≡ d
    → carried (cs ++ c ∷ []) (hs ++ h ∷ []) ≡ carried cs hs ++ d ∷ []
carried-as f first gone cs hs c h d e k is =
    carried-more [] cs hs c h e
    ∙ ap (λ b. carried cs hs ++ carried_how b h ∷ []) (k.known c.fp)
    ∙ ap (λ x. carried cs hs ++ x ∷ []) is

-- a chunk that is not written changes nothing of what is packed
packed-same : (capacity : ℕ) (full : List (List NamedChunk)) (held : List NamedChunk) (cs : List NamedChunk) (ds : List How) (c : NamedChunk) (d : How)
    → length cs ≡ length ds → writes (c ∷ []) (d ∷ []) ≡ []
    → ArePacked capacity (writes cs ds) full held → ArePacked capacity (writes (cs ++ c ∷ []) (ds ++ d ∷ [])) full held
packed-same capacity full held cs ds c d e none h =
    let same : writes (cs ++ c ∷ []) (ds ++ d ∷ []) ≡ writes cs ds = writes-more cs ds c d e ∙ ap (λ ws. writes cs ds ++ ws) none ∙ append-nil (writes cs ds) in
    let P : List NamedChunk → Type 0 = λ ws. ArePacked capacity ws full held in
    subst P (sym same) h

pub filled-old : (f : Filling) (first : ℕ) (gone : List Container) (cs : List NamedChunk) (hs : List How) (c : NamedChunk) (id : ℕ)
    → HasFilled f first gone cs hs → HasFilled (with_row f (record { fp = c.fp; id = id; len = length c.bytes })) first gone (cs ++ c ∷ []) (hs ++ Old id ∷ [])
filled-old f first gone cs hs c id h =
    let is : carried (cs ++ c ∷ []) (hs ++ Old id ∷ []) ≡ carried cs hs ++ Old id ∷ [] = carried-as f first gone cs hs c (Old id) (Old id) h.count h.keeps refl in
    let P : List How → Type 0 = λ ds. ArePacked f.capacity (writes (cs ++ c ∷ []) ds) h.full (map named_chunk f.held) in
    let Q : List How → Type 0 = λ ds. HasPacked (with_row f (record { fp = c.fp; id = id; len = length c.bytes })) first gone (cs ++ c ∷ []) ds in
    record {
      full = h.full;
      gone_are = h.gone_are;
      packed = subst P (sym is) (packed-same f.capacity h.full (map named_chunk f.held) cs (carried cs hs) c (Old id) h.keeps.count refl h.packed);
      count = counts cs hs c (Old id) h.count;
      keeps = subst Q (sym is) (keeps-old f first gone cs (carried cs hs) c id h.keeps);
    }

pub filled-own : (f : Filling) (first : ℕ) (gone : List Container) (cs : List NamedChunk) (hs : List How) (c : NamedChunk) (how : How) (id : ℕ)
    → IsNew how → taken_by f c.fp ≡ Some id
    → HasFilled f first gone cs hs → HasFilled (with_row f (record { fp = c.fp; id = id; len = length c.bytes })) first gone (cs ++ c ∷ []) (hs ++ how ∷ [])
filled-own f first gone cs hs c how id new here h =
    let done : carried_how (is_some (taken_by f c.fp)) how ≡ Own = ap (λ o. carried_how (is_some o) how) here ∙ new-written how new in
    let is : carried (cs ++ c ∷ []) (hs ++ how ∷ []) ≡ carried cs hs ++ Own ∷ [] = carried-as f first gone cs hs c how Own h.count h.keeps done in
    let P : List How → Type 0 = λ ds. ArePacked f.capacity (writes (cs ++ c ∷ []) ds) h.full (map named_chunk f.held) in
    let Q : List How → Type 0 = λ ds. HasPacked (with_row f (record { fp = c.fp; id = id; len = length c.bytes })) first gone (cs ++ c ∷ []) ds in
    record {
      full = h.full;
      gone_are = h.gone_are;
      packed = subst P (sym is) (packed-same f.capacity h.full (map named_chunk f.held) cs (carried cs hs) c Own h.keeps.count refl h.packed);
      count = counts cs hs c how h.count;
      keeps = subst Q (sym is) (keeps-own f first gone cs (carried cs hs) c id here h.keeps);
    }

-- what a chunk that is written does to what is packed
pub record IsWritten (f g : Filling) (first : ℕ) (gone more : List Container) (full : List (List NamedChunk)) (written : List NamedChunk) (c : NamedChunk) : Type 0 where
  pub full_now : List (List NamedChunk)
  pub gone_now : gone ++ more ≡ new_containers first full_now
  pub packed_now : ArePacked f.capacity (written ++ c ∷ []) full_now (map named_chunk g.held)

put-here : (f g : Filling) (first : ℕ) (gone : List Container) (full : List (List NamedChunk)) (written : List NamedChunk) (chunk : List ℕ)
    → gone ≡ new_containers first full → ArePacked f.capacity written full (map named_chunk f.held)
    → (1 ≤ length (map named_chunk f.held) → bytes_in f.held + length chunk ≤ f.capacity) → g.held ≡ f.held ++ chunk ∷ []
    → IsWritten f g first gone [] full written (named_chunk chunk)
put-here f g first gone full written chunk gone_are packed room held = record {
  full_now = full;
  gone_now = append-nil gone ∙ gone_are;
  packed_now =
      (let P : List NamedChunk → Type 0 = λ xs. ArePacked f.capacity (written ++ named_chunk chunk ∷ []) full xs in
      subst P (sym (ap (map named_chunk) held ∙ map-append named_chunk f.held (chunk ∷ [])))
      (packed-fits f.capacity written full (map named_chunk f.held) (named_chunk chunk) packed
      (λ some. let b : sum_by size_of (map named_chunk f.held) ≡ bytes_in f.held = named-bytes f.held in (let r : bytes_in f.held + length chunk ≤ f.capacity = room some in omega arith))));
}

put-over : (f g : Filling) (first : ℕ) (gone : List Container) (full : List (List NamedChunk)) (written : List NamedChunk) (chunk o : List ℕ) (os : List (List ℕ))
    → f.held ≡ o ∷ os → f.next ≡ first + length gone → gone ≡ new_containers first full → ArePacked f.capacity written full (map named_chunk f.held)
    → f.capacity < bytes_in f.held + length chunk → g.held ≡ chunk ∷ []
    → IsWritten f g first gone (opened f.next f.held) full written (named_chunk chunk)
put-over f g first gone full written chunk o os e next gone_are packed over held =
    let lens : length gone ≡ length full = ap length gone_are ∙ containers-len first full in
    let b : sum_by size_of (map named_chunk f.held) ≡ bytes_in f.held = named-bytes f.held in
    let s : sum_by size_of (map named_chunk f.held) ≡ sum_by size_of (map named_chunk (o ∷ os)) = ap (λ hs. sum_by size_of (map named_chunk hs)) e in
    let P : List (List ℕ) → Type 0 = λ hs. ArePacked f.capacity written full (map named_chunk hs) in
    let Q : List (List ℕ) → Type 0 = λ hs. ArePacked f.capacity (written ++ named_chunk chunk ∷ []) (full ++ map named_chunk (o ∷ os) ∷ []) (map named_chunk hs) in
    record {
      full_now = full ++ map named_chunk (o ∷ os) ∷ [];
      gone_now =
          ap (λ h. gone ++ opened f.next h) e
          ∙ ap (λ n. gone ++ opened n (o ∷ os)) (let n : f.next ≡ first + length full = omega arith in n)
          ∙ ap (λ xs. xs ++ opened (first + length full) (o ∷ os)) gone_are
          ∙ sym (containers-append first full (map named_chunk (o ∷ os) ∷ []));
      packed_now = subst Q (sym held) (packed-over f.capacity written full (named_chunk o) (map named_chunk os) (named_chunk chunk) (subst P e packed) (omega arith));
    }

closed-held : (held : List (List ℕ)) (f : Filling) → f.held ≡ held → (closed_with held f).held ≡ []
closed-held [] f e = e
closed-held (c ∷ cs) f e = refl

pub closed-taken : (held : List (List ℕ)) (f : Filling) → (closed_with held f).taken ≡ f.taken
closed-taken [] f = refl
closed-taken (c ∷ cs) f = refl

pub closed-capacity : (held : List (List ℕ)) (f : Filling) → (closed_with held f).capacity ≡ f.capacity
closed-capacity [] f = refl
closed-capacity (c ∷ cs) f = refl

pub closed-next : (held : List (List ℕ)) (f : Filling) → (closed_with held f).next ≡ f.next + length (opened f.next held)
closed-next [] f = omega arith
closed-next (c ∷ cs) f = refl

closed-rows : (held : List (List ℕ)) (f : Filling) → (closed_with held f).rows ≡ f.rows
closed-rows [] f = refl
closed-rows (c ∷ cs) f = refl

closed-written : (held : List (List ℕ)) (f : Filling) → (closed_with held f).written ≡ f.written
closed-written [] f = refl
closed-written (c ∷ cs) f = refl

put-closed : (f g : Filling) (first : ℕ) (gone : List Container) (full : List (List NamedChunk)) (written : List NamedChunk) (chunk : List ℕ) (held : List (List ℕ))
    → f.held ≡ held → f.next ≡ first + length gone → gone ≡ new_containers first full → ArePacked f.capacity written full (map named_chunk f.held)
    → f.capacity < bytes_in f.held + length chunk → g.held ≡ chunk ∷ []
    → IsWritten f g first gone (opened f.next f.held) full written (named_chunk chunk)
put-closed f g first gone full written chunk [] e next gone_are packed over held =
    let P : List (List ℕ) → Type 0 = λ hs. IsWritten f g first gone (opened f.next hs) full written (named_chunk chunk) in
    subst P (sym e) (put-here f g first gone full written chunk gone_are packed
    (λ some. absurd (let l : length (map named_chunk f.held) ≡ 0 = ap (λ hs. length (map named_chunk hs)) e in omega arith))
    (held ∙ ap (λ hs. hs ++ chunk ∷ []) (sym e)))
put-closed f g first gone full written chunk (o ∷ os) e next gone_are packed over held = put-over f g first gone full written chunk o os e next gone_are packed over held

-- a write, in a container that has room for it
roomed-written : (b : Bool) (f g : Filling) (first : ℕ) (gone : List Container) (cs : List NamedChunk) (ds : List How) (chunk : List ℕ) (full : List (List NamedChunk))
    → is_over f (length chunk) ≡ b → gone ≡ new_containers first full → ArePacked f.capacity (writes cs ds) full (map named_chunk f.held)
    → HasPacked f first gone cs ds → g.held ≡ (cond b (closed f) f).held ++ chunk ∷ []
    → IsWritten f g first gone (cond b (opened f.next f.held) []) full (writes cs ds) (named_chunk chunk)
roomed-written true f g first gone cs ds chunk full e gone_are packed k held =
    let over : f.capacity < bytes_in f.held + length chunk = grind (arith, nat_tests) in
    put-closed f g first gone full (writes cs ds) chunk f.held refl k.next gone_are packed over
    (held ∙ ap (λ hs. hs ++ chunk ∷ []) (closed-held f.held f refl))
roomed-written false f g first gone cs ds chunk full e gone_are packed k held =
    let room : bytes_in f.held + length chunk ≤ f.capacity = grind (arith, nat_tests) in
    put-here f g first gone full (writes cs ds) chunk gone_are packed (λ some. room) held

roomed-keeps : (b : Bool) (f : Filling) (first : ℕ) (gone : List Container) (cs : List NamedChunk) (ds : List How)
    → HasPacked f first gone cs ds → HasPacked (cond b (closed f) f) first (gone ++ cond b (opened f.next f.held) []) cs ds
roomed-keeps true f first gone cs ds k = keeps-closed f.held f first gone cs ds refl k
roomed-keeps false f first gone cs ds k = let P : List Container → Type 0 = λ xs. HasPacked f first xs cs ds in subst P (sym (append-nil gone)) k

pub roomed-taken : (b : Bool) (f : Filling) (q : Fp) → taken_by (cond b (closed f) f) q ≡ taken_by f q
roomed-taken true f q = ap (λ t. taken_by (record { capacity = 0; next = 0; held = []; taken = t; rows = []; containers = 0; written = 0 }) q) (closed-taken f.held f)
roomed-taken false f q = refl

pub roomed-capacity : (b : Bool) (f : Filling) → (cond b (closed f) f).capacity ≡ f.capacity
roomed-capacity true f = closed-capacity f.held f
roomed-capacity false f = refl

pub roomed-next : (b : Bool) (f : Filling) → (cond b (closed f) f).next ≡ f.next + length (cond b (opened f.next f.held) [])
roomed-next true f = closed-next f.held f
roomed-next false f = omega arith

pub filled-put : (f g : Filling) (first : ℕ) (gone : List Container) (cs : List NamedChunk) (hs : List How) (chunk : List ℕ) (how : How)
    → IsNew how → length chunk ≤ 65536 → taken_by f (fp chunk) ≡ None → IsPut (roomed f (length chunk)) g chunk
    → HasFilled f first gone cs hs → HasFilled g first (gone ++ given_for f (length chunk)) (cs ++ named_chunk chunk ∷ []) (hs ++ how ∷ [])
filled-put f g first gone cs hs chunk how new short absent put h =
    let b : Bool = is_over f (length chunk) in
    let done : carried_how (is_some (taken_by f (fp chunk))) how ≡ Write = ap (λ o. carried_how (is_some o) how) absent ∙ new-first how new in
    let is : carried (cs ++ named_chunk chunk ∷ []) (hs ++ how ∷ []) ≡ carried cs hs ++ Write ∷ [] = carried-as f first gone cs hs (named_chunk chunk) how Write h.count h.keeps done in
    let w : IsWritten f g first gone (given_for f (length chunk)) h.full (writes cs (carried cs hs)) (named_chunk chunk) =
    roomed-written b f g first gone cs (carried cs hs) chunk h.full refl h.gone_are h.packed h.keeps put.held in
    let capacity : g.capacity ≡ f.capacity = put.capacity ∙ roomed-capacity b f in
    let R : ℕ → Type 0 = λ n. ArePacked n (writes cs (carried cs hs) ++ named_chunk chunk ∷ []) w.full_now (map named_chunk g.held) in
    let S : List NamedChunk → Type 0 = λ ws. ArePacked g.capacity ws w.full_now (map named_chunk g.held) in
    let P : List How → Type 0 = λ ds. ArePacked g.capacity (writes (cs ++ named_chunk chunk ∷ []) ds) w.full_now (map named_chunk g.held) in
    let Q : List How → Type 0 = λ ds. HasPacked g first (gone ++ given_for f (length chunk)) (cs ++ named_chunk chunk ∷ []) ds in
    record {
      full = w.full_now;
      gone_are = w.gone_now;
      packed = subst P (sym is) (subst S (sym (writes-more cs (carried cs hs) (named_chunk chunk) Write h.keeps.count)) (subst R (sym capacity) w.packed_now));
      count = counts cs hs (named_chunk chunk) how h.count;
      keeps = subst Q (sym is) (keeps-put (roomed f (length chunk)) g first (gone ++ given_for f (length chunk)) cs (carried cs hs) chunk short
          (roomed-taken b f (fp chunk) ∙ absent) put (roomed-keeps b f first gone cs (carried cs hs) h.keeps));
    }

-- the end

closed-count : (held : List (List ℕ)) (f : Filling) (n : ℕ) → f.containers ≡ saturated n → (closed_with held f).containers ≡ saturated (n + length (opened f.next held))
closed-count [] f n e = omega arith
closed-count (c ∷ cs) f n e = omega arith

pub filled-by : (f : Filling) (first : ℕ) (gone : List Container) (cs : List NamedChunk) (hs : List How) → HasFilled f first gone cs hs
    → IsFilledBy (opened f.next f.held) (closed f).rows (closed f).next (closed f).containers (closed f).written first gone (length cs) (fill first cs (carried cs hs) f.capacity)
filled-by f first gone cs hs h =
    let lens : length gone ≡ length h.full = ap length h.gone_are ∙ containers-len first h.full in
    let next : f.next ≡ first + length gone = h.keeps.next in
    let all : List Container = gone ++ opened f.next f.held in
    let packed : pieces size_of f.capacity (writes cs (carried cs hs)) ≡ h.full ++ only (map named_chunk f.held) = packed-end f.capacity (writes cs (carried cs hs)) h.full (map named_chunk f.held) h.packed in
    let are : all ≡ new_containers first (pieces size_of f.capacity (writes cs (carried cs hs))) =
    ap (λ n. gone ++ opened n f.held) (let n : f.next ≡ first + length h.full = omega arith in n)
    ∙ ap (λ xs. xs ++ opened (first + length h.full) f.held) h.gone_are
    ∙ ap (λ xs. new_containers first h.full ++ xs) (opened-as (first + length h.full) f.held)
    ∙ sym (containers-append first h.full (only (map named_chunk f.held)))
    ∙ ap (new_containers first) (sym packed) in
    let len : length all ≡ length gone + length (opened f.next f.held) = length-append gone (opened f.next f.held) in
    let next_now : (closed f).next ≡ f.next + length (opened f.next f.held) = closed-next f.held f in
    let count : (closed f).containers ≡ saturated (length all) = closed-count f.held f (length gone) h.keeps.containers ∙ ap saturated (sym len) in
    let written : (closed f).written ≡ saturated (written_in all) = closed-written f.held f ∙ h.keeps.written in
    let few : length all ≤ length cs = h.keeps.few in
    let small : written_in all ≤ 65536 * length cs = h.keeps.small in
    let end : (closed f).next ≡ first + length all = omega arith in
    record {
      containers_are = are;
      rows_are = closed-rows f.held f ∙ h.keeps.rows ∙ ap (λ xs. rows_of xs cs (carried cs hs)) are;
      next_is = end ∙ ap (λ xs. first + length xs) are;
      count_is = count ∙ ap (λ xs. saturated (length xs)) are;
      written_is = written ∙ ap (λ xs. saturated (written_in xs)) are;
      count_exact = λ less. (let e : (closed f).containers ≡ length all = omega arith in e) ∙ ap length are;
      written_exact = λ less. (let e : (closed f).written ≡ written_in all = omega arith in e) ∙ ap written_in are;
    }

pub filled-in_turn : (f : Filling) (first : ℕ) (gone : List Container) (cs : List NamedChunk) (hs : List How) → HasFilled f first gone cs hs → AreInTurn cs hs
    → fill first cs (carried cs hs) f.capacity ≡ fill first cs hs f.capacity
filled-in_turn f first gone cs hs h turn = ap (λ ds. fill first cs ds f.capacity) (carried-in_turn [] cs hs h.count turn)

pub filled-moved : (last more : List Container) (rows rs : List Row) (next n containers c written w : ℕ) (first : ℕ) (gone : List Container) (count : ℕ) (F G : Filled)
    → IsFilledBy more rs n c w first gone count F → last ≡ more → rows ≡ rs → next ≡ n → containers ≡ c → written ≡ w → F ≡ G
    → IsFilledBy last rows next containers written first gone count G
filled-moved last more rows rs next n containers c written w first gone count F G h a b d e i j =
    let P : Filled → Type 0 = λ X. IsFilledBy last rows next containers written first gone count X in
    subst P j (record {
      containers_are = ap (λ l. gone ++ l) a ∙ h.containers_are;
      rows_are = b ∙ h.rows_are;
      next_is = d ∙ h.next_is;
      count_is = e ∙ h.count_is;
      written_is = i ∙ h.written_is;
      count_exact = λ less. e ∙ h.count_exact less;
      written_exact = λ less. i ∙ h.written_exact less;
    })

-- at the code's values

row-is : (f g : Filling) (c : NamedChunk) (k : Fp) (id len : ℕ) → g ≡ with_row f (record { fp = k; id = id; len = len }) → c.fp ≡ k → length c.bytes ≡ len
    → with_row f (record { fp = c.fp; id = id; len = length c.bytes }) ≡ g
row-is f g c k id len e p q =
    ap (λ x. with_row f (record { fp = x; id = id; len = length c.bytes })) p
    ∙ ap (λ n. with_row f (record { fp = k; id = id; len = n })) q
    ∙ sym e

pub row-old : (f g : Filling) (k : Fp) (id len : ℕ) → g ≡ with_row f (record { fp = k; id = id; len = len })
    → (c : NamedChunk) → c.fp ≡ k → length c.bytes ≡ len
    → (first : ℕ) (gone : List Container) (chunks : List NamedChunk) (hows : List How)
    → HasFilled f first gone chunks hows → HasFilled g first gone (chunks ++ c ∷ []) (hows ++ Old id ∷ [])
row-old f g k id len e c p q first gone chunks hows h =
    let P : Filling → Type 0 = λ x. HasFilled x first gone (chunks ++ c ∷ []) (hows ++ Old id ∷ []) in
    subst P (row-is f g c k id len e p q) (filled-old f first gone chunks hows c id h)

pub row-own : (f g : Filling) (k : Fp) (id len : ℕ) (how : How) → IsNew how → taken_by f k ≡ Some id → g ≡ with_row f (record { fp = k; id = id; len = len })
    → (c : NamedChunk) → c.fp ≡ k → length c.bytes ≡ len
    → (first : ℕ) (gone : List Container) (chunks : List NamedChunk) (hows : List How)
    → HasFilled f first gone chunks hows → HasFilled g first gone (chunks ++ c ∷ []) (hows ++ how ∷ [])
row-own f g k id len how new here e c p q first gone chunks hows h =
    let P : Filling → Type 0 = λ x. HasFilled x first gone (chunks ++ c ∷ []) (hows ++ how ∷ []) in
    subst P (row-is f g c k id len e p q) (filled-own f first gone chunks hows c how id new (ap (taken_by f) p ∙ here) h)

pub on_ok : {T E P Q : Type 0} (r : Result T E) → OnOk r P → (P → Q) → OnOk r Q
on_ok (Ok x) h f = f h
on_ok (Err e) h f = tt

-- what is there has a value
pub there : (o : Option ℕ) → IsSome o → o ≡ Some (unwrap_or o 0)
there None h = cc
there (Some n) h = refl

pub gone-none : (f : Filling) (first : ℕ) (gone : List Container) (cs : List NamedChunk) (hs : List How) → HasFilled f first gone cs hs → HasFilled f first (gone ++ []) cs hs
gone-none f first gone cs hs h = let P : List Container → Type 0 = λ xs. HasFilled f first xs cs hs in subst P (sym (append-nil gone)) h

pub is_new : (h : How) → ((id : ℕ) → h ≡ Old id → ⊥) → IsNew h
is_new (Old id) n = absurd (n id refl)
is_new Own n = inl refl
is_new Write n = inr refl

opened-id : (held : List (List ℕ)) (n : ℕ) (s : Container) → s ∷ [] ≡ opened n held → s.table.id ≡ n
opened-id [] n s e = cc
opened-id (c ∷ cs) n s e = let same : s ≡ new_container n (map named_chunk (c ∷ cs)) = cc in ap (λ k. k.table.id) same

pub given-id : (o : Option Container) (f : Filling) (len : ℕ) → option_to_list o ≡ given_for f len → IfSome o (λ s. s.table.id ≡ f.next)
given-id None f len e = tt
given-id (Some s) f len e = step (is_over f len) e
  where
    step : (b : Bool) → s ∷ [] ≡ cond b (opened f.next f.held) [] → s.table.id ≡ f.next
    step true e = opened-id f.held f.next s e
    step false e = cc
