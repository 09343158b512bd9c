-- A SHA-1 has twenty bytes.
use Rattle.std.proofs.Common.{◌≡◌, ℕ, zero, suc, ◌+◌, ◌*◌, ◌/◌, ◌<◌, List, [], ◌∷◌, ◌++◌, length, refl, arith, length-append}
use Rattle.std.specs.Prelude.{slice_index}
use Rattle.std.specs.Int.{w32, to_be_bytes}
use Rattle.std.specs.List.{AllByRecursion}
use Rattle.sha1.specs.Sha1.{sha1, digest_bytes, hash_after, padded_message}
use Rattle.vault_types.specs.Names.{fp, IsFp}

abbrev AreBytes : List ℕ → Type 0
AreBytes bs = AllByRecursion (λ b. b < 256) bs

all-append : (xs ys : List ℕ) → AreBytes xs → AreBytes ys → AreBytes (xs ++ ys)
all-append [] ys h i = i
all-append (x ∷ xs) ys h i = (h.0, all-append xs ys h.1 i)

word-len : (n : ℕ) → length (to_be_bytes w32 n) ≡ 4
word-len n = refl

word-bytes : (n : ℕ) → AreBytes (to_be_bytes w32 n)
word-bytes n = (omega arith, (omega arith, (omega arith, (omega arith, tt))))

digest-len : (h : List ℕ) (n : ℕ) → length (digest_bytes h n) ≡ 4 * n
unfolding digest_bytes
digest-len h zero = refl
digest-len h (suc n) =
    let more : length (digest_bytes h n ++ to_be_bytes w32 (slice_index h n)) ≡ length (digest_bytes h n) + length (to_be_bytes w32 (slice_index h n)) = length-append (digest_bytes h n) (to_be_bytes w32 (slice_index h n)) in
    let here : length (digest_bytes h n) ≡ 4 * n = digest-len h n in
    let four : length (to_be_bytes w32 (slice_index h n)) ≡ 4 = word-len (slice_index h n) in
    omega arith

digest-all : (h : List ℕ) (n : ℕ) → AreBytes (digest_bytes h n)
unfolding digest_bytes
digest-all h zero = tt
digest-all h (suc n) = all-append (digest_bytes h n) (to_be_bytes w32 (slice_index h n)) (digest-all h n) (word-bytes (slice_index h n))

pub fp-is_fp : (x : List ℕ) → IsFp (fp x)
unfolding sha1
fp-is_fp x = record {
  len = digest-len (hash_after (padded_message x) (length (padded_message x) / 64)) 5;
  bytes = digest-all (hash_after (padded_message x) (length (padded_message x) / 64)) 5;
}
