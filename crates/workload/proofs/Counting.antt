-- Steps of the generator.
use mir.Val.{bool_byte}
use Rattle.std.proofs.Common.{◌≡◌, ℕ, zero, suc, ◌+◌, ◌-◌, ◌/◌, ◌%◌, ◌^◌, ◌<◌, ◌≤◌, Bool, true, false, cond, List, [], ◌∷◌, ◌++◌, refl, sym, ap, ◌∙◌, arith, length, take}
use Rattle.std.specs.Prelude.{count_by, flat_map, replicate, ◌==◌}
use Rattle.std.specs.List.{range_with_len}
use Rattle.std.proofs.Math.ListN.{set}
use Rattle.std.proofs.lemmas.List.{append_assoc, length-replicate, replicate-append-replicate, replicate_more, take_more_set}
use Rattle.std.proofs.Math.Seq.{take-append_seam}
use Rattle.std.proofs.lemmas.List.Sums.{sum_by-append}
use Rattle.vault_types.specs.Generator.{next_number, bytes_from, generation, block, generated}
use Rattle.workload.specs.Numbers.{number_after, first_number, bytes_left}

-- one number more
pub after_one : (x n : ℕ) → number_after x (suc n) ≡ next_number (number_after x n)
after_one x zero = refl
after_one x (suc n) = after_one (next_number x) n

-- one byte more
pub bytes_one : (x n : ℕ) → bytes_from x (suc n) ≡ bytes_from x n ++ (next_number (number_after x n) / 2 ^ 56) ∷ []
bytes_one x zero = refl
bytes_one x (suc n) = ap (λ (l : List ℕ). (next_number x / 2 ^ 56) ∷ l) (bytes_one (next_number x) n)

-- some bytes more
pub bytes_more : (x n m : ℕ) → bytes_from x (n + m) ≡ bytes_from x n ++ bytes_from (number_after x n) m
bytes_more x zero m = let e : zero + m ≡ m = omega arith in ap (bytes_from x) e
bytes_more x (suc n) m =
    let e : suc n + m ≡ suc (n + m) = omega arith in
    ap (bytes_from x) e ∙ ap (λ (l : List ℕ). (next_number x / 2 ^ 56) ∷ l) (bytes_more (next_number x) n m)

-- one number more of a range
range_one : (a n : ℕ) → range_with_len a (suc n) ≡ range_with_len a n ++ (a + n) ∷ []
range_one a zero = let e : a ≡ a + zero = omega arith in ap (λ (k : ℕ). k ∷ []) e
range_one a (suc n) =
    let e : a + 1 + n ≡ a + suc n = omega arith in
    ap (λ (l : List ℕ). a ∷ l) (range_one (a + 1) n ∙ ap (λ (k : ℕ). range_with_len (a + 1) n ++ k ∷ []) e)

-- one number more that counts or not
pub count_one : (j e : ℕ) → 2 ≤ e → count_by (λ u. j % 16 == u % 16) (range_with_len 2 (e + 1 - 2)) ≡ count_by (λ u. j % 16 == u % 16) (range_with_len 2 (e - 2)) + cond (j % 16 == e % 16) 1 0
count_one j e low =
    let more : e + 1 - 2 ≡ suc (e - 2) = omega arith in
    let at : 2 + (e - 2) ≡ e = omega arith in
    let last : 0 + cond (j % 16 == (2 + (e - 2)) % 16) 1 0 ≡ cond (j % 16 == (2 + (e - 2)) % 16) 1 0 = omega arith in
    ap (λ (n : ℕ). count_by (λ u. j % 16 == u % 16) (range_with_len 2 n)) more
    ∙ ap (count_by (λ u. j % 16 == u % 16)) (range_one 2 (e - 2))
    ∙ sum_by-append (λ u. cond (j % 16 == u % 16) 1 0) (range_with_len 2 (e - 2)) ((2 + (e - 2)) ∷ [])
    ∙ ap (λ (n : ℕ). count_by (λ u. j % 16 == u % 16) (range_with_len 2 (e - 2)) + n) (last ∙ ap (λ (u : ℕ). cond (j % 16 == u % 16) 1 0) at)

pub as_number : (b : Bool) → bool_byte b ≡ cond b 1 0
as_number true = refl
as_number false = refl

pub at_most_one : (b : Bool) → cond b 1 0 ≤ 1
at_most_one true = omega arith
at_most_one false = omega arith

-- the blocks from one on
blocks_step : (f : ℕ → List ℕ) (n j : ℕ) → j < n → flat_map f (range_with_len j (n - j)) ≡ f j ++ flat_map f (range_with_len (j + 1) (n - (j + 1)))
blocks_step f n j below =
    let more : n - j ≡ suc (n - (j + 1)) = omega arith in
    ap (λ (k : ℕ). flat_map f (range_with_len j k)) more

-- a block is begun
begin_block : (seed v j x m n : ℕ) → j < n → bytes_from (first_number seed j v) m ++ flat_map (λ i. bytes_from (first_number seed i v) m) (range_with_len (j + 1) (n - (j + 1))) ≡ bytes_from x 0 ++ flat_map (λ i. bytes_from (first_number seed i v) m) (range_with_len j (n - j))
begin_block seed v j x m n below = sym (blocks_step (λ i. bytes_from (first_number seed i v) m) n j below)

pub begun : (seed v j x : ℕ) → j < 64 → bytes_left seed v (j + 1) 131072 (first_number seed j v) ≡ bytes_left seed v j 0 x
unfolding bytes_left
begun seed v j x below = begin_block seed v j x 131072 64 below

-- some bytes are read
pub bytes_read : (seed v j left x n : ℕ) → n ≤ left → bytes_left seed v j left x ≡ bytes_from x n ++ bytes_left seed v j (left - n) (number_after x n)
unfolding bytes_left
bytes_read seed v j left x n within =
    let e : left ≡ n + (left - n) = omega arith in
    ap (λ (k : ℕ). bytes_from x k ++ flat_map (λ i. block seed (generation i v) i) (range_with_len j (64 - j))) e
    ∙ ap (λ (l : List ℕ). l ++ flat_map (λ i. block seed (generation i v) i) (range_with_len j (64 - j))) (bytes_more x n (left - n))
    ∙ append_assoc (bytes_from x n) (bytes_from (number_after x n) (left - n)) (flat_map (λ i. block seed (generation i v) i) (range_with_len j (64 - j)))

-- nothing is left behind the last block
pub all_read : (seed v j x : ℕ) → 64 ≤ j → bytes_left seed v j 0 x ≡ []
unfolding bytes_left
all_read seed v j x past =
    let e : 64 - j ≡ zero = omega arith in
    ap (λ (k : ℕ). flat_map (λ i. block seed (generation i v) i) (range_with_len j k)) e

-- a version is its zeros and its blocks
at_start : (seed v m n : ℕ) → replicate (v - 1) 0 ++ (bytes_from 0 0 ++ flat_map (λ i. bytes_from (first_number seed i v) m) (range_with_len 0 n)) ≡ replicate (v - 1) 0 ++ flat_map (λ i. bytes_from (first_number seed i v) m) (range_with_len 0 n)
at_start seed v m n = refl

pub whole : (seed v : ℕ) → replicate (v - 1) 0 ++ bytes_left seed v 0 0 0 ≡ generated seed v
unfolding bytes_left
whole seed v = at_start seed v 131072 64

-- ---- of the loops

-- one more number, and its byte
pub number_more : (x at last next : ℕ) → last ≡ number_after x at → next ≡ next_number last → next ≡ number_after x (at + 1)
number_more x at last next before is =
    let e : suc at ≡ at + 1 = omega arith in
    is ∙ ap next_number before ∙ sym (after_one x at) ∙ ap (number_after x) e

pub byte_more : (x at last next : ℕ) (buf : List ℕ) → at < length buf → last ≡ number_after x at → take at buf ≡ bytes_from x at → next ≡ next_number last → take (at + 1) (set buf at (next / 2 ^ 56)) ≡ bytes_from x (at + 1)
byte_more x at last next buf within before front is =
    let e : suc at ≡ at + 1 = omega arith in
    take_more_set buf at (next / 2 ^ 56) within
    ∙ ap (λ (l : List ℕ). l ++ (next / 2 ^ 56) ∷ []) front
    ∙ ap (λ (k : ℕ). bytes_from x at ++ (k / 2 ^ 56) ∷ []) (is ∙ ap next_number before)
    ∙ sym (bytes_one x at) ∙ ap (bytes_from x) e

-- a piece of a block is read
pub piece_read : (seed v j left x n m : ℕ) (piece rest : List ℕ) (last : ℕ) → n ≤ left → m ≡ n → length piece ≡ m → piece ≡ bytes_from x m → last ≡ number_after x m → bytes_left seed v j left x ≡ take n (piece ++ rest) ++ bytes_left seed v j (left - n) last
piece_read seed v j left x n m piece rest last within many size is after =
    bytes_read seed v j left x n within
    ∙ ap (λ (l : List ℕ). l ++ bytes_left seed v j (left - n) (number_after x n)) (ap (bytes_from x) (sym many) ∙ sym is ∙ sym (take-append_seam piece rest) ∙ ap (λ (k : ℕ). take k (piece ++ rest)) (size ∙ many))
    ∙ ap (λ (k : ℕ). take n (piece ++ rest) ++ bytes_left seed v j (left - n) k) (ap (number_after x) (sym many) ∙ sym after)

-- a piece of the zeros is read
pub zeros_read : (zeros n m : ℕ) (piece rest blocks : List ℕ) → n ≤ zeros → m ≡ n → piece ≡ replicate m 0 → replicate zeros 0 ++ blocks ≡ take n (piece ++ rest) ++ (replicate (zeros - n) 0 ++ blocks)
zeros_read zeros n m piece rest blocks within many is =
    let e : zeros ≡ n + (zeros - n) = omega arith in
    let size : length piece ≡ n = ap length is ∙ length-replicate m 0 ∙ many in
    let front : take n (piece ++ rest) ≡ replicate n 0 = ap (λ (k : ℕ). take k (piece ++ rest)) (sym size) ∙ take-append_seam piece rest ∙ is ∙ ap (λ (k : ℕ). replicate k 0) many in
    split e ∙ ap (λ (l : List ℕ). l ++ (replicate (zeros - n) 0 ++ blocks)) (sym front)
  where
    split : zeros ≡ n + (zeros - n) → replicate zeros 0 ++ blocks ≡ replicate n 0 ++ (replicate (zeros - n) 0 ++ blocks)
    split e =
        ap (λ (k : ℕ). replicate k 0 ++ blocks) e
        ∙ ap (λ (l : List ℕ). l ++ blocks) (sym (replicate-append-replicate n (zeros - n) 0))
        ∙ append_assoc (replicate n 0) (replicate (zeros - n) 0) blocks

-- one byte more is 0
pub zero_more : (at : ℕ) (buf : List ℕ) → at < length buf → take at buf ≡ replicate at 0 → take (at + 1) (set buf at 0) ≡ replicate (at + 1) 0
zero_more at buf within front = take_more_set buf at 0 within ∙ ap (λ (l : List ℕ). l ++ 0 ∷ []) front ∙ replicate_more at 0
