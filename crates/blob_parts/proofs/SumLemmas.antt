-- A blob is its body and twenty bytes of sum.
use Rattle.std.proofs.Common.{◌≡◌, ℕ, zero, suc, ◌-◌, ◌*◌, ◌<◌, List, ◌++◌, length, take, drop, refl, ap, ◌∙◌, arith, length-append}
use Rattle.std.proofs.lemmas.List.{take_at, drop_at}
use Rattle.sha1.specs.Sha1.{sha1, digest_bytes}
use Rattle.vault_types.specs.Blobs.{with_sum, set_mark}

length-digest_bytes : (h : List ℕ) (n : ℕ) → length (digest_bytes h n) ≡ 4 * n
unfolding digest_bytes
length-digest_bytes h zero = refl
length-digest_bytes h (suc n) = omega (arith, length-append (digest_bytes h n), length-digest_bytes h n)

pub length-sha1 : (m : List ℕ) → length (sha1 m) ≡ 20
unfolding sha1
length-sha1 m = length-digest_bytes _ 5

pub with_sum-short : (s : ℕ) (blob body : List ℕ) → blob ≡ with_sum s body → length blob < 20 → ⊥
with_sum-short s blob body e short = omega (arith, ap length e, length-append body (sha1 (body ++ set_mark s)), length-sha1 (body ++ set_mark s))

-- the two parts of a blob
pub with_sum-parts : (s : ℕ) (blob body : List ℕ) → blob ≡ with_sum s body → (take (length blob - 20) blob ≡ body) × (drop (length blob - 20) blob ≡ sha1 (body ++ set_mark s))
with_sum-parts s blob body e =
    let n : length body ≡ length blob - 20 = omega (arith, ap length e, length-append body (sha1 (body ++ set_mark s)), length-sha1 (body ++ set_mark s)) in
    (ap (take (length blob - 20)) e ∙ take_at body _ _ n, ap (drop (length blob - 20)) e ∙ drop_at body _ _ n)
