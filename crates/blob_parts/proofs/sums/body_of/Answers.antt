use Rattle.std.proofs.Common.{◌≡◌, ◌≢◌, ◌∙◌, sym, ap, refl, Bool, true, false, not, ◌++◌, ℕ, List}
use Rattle.std.specs.Cmp.Lexicographic.{told_text}
use Rattle.std.specs.Prelude.{nat_eq}
use lib.Pointwise.{pointwise}
use Rattle.sha1.specs.Sha1.{sha1}
use Rattle.vault_types.specs.Blobs.{set_mark}
use Rattle.blob_parts.proofs.SumLemmas.{with_sum-short, with_sum-parts}
use Rattle.blob_parts.proofs.sums.body_of.Goals as goal

differs : (xs ys : List ℕ) → true ≡ not (pointwise nat_eq xs ys) → xs ≢ ys
differs xs ys e = told_text xs ys false (flip _ e)
  where
    flip : (b : Bool) → true ≡ not b → false ≡ b
    flip true h = cc
    flip false h = refl

pub returns-then-blob-lt20-clause-none : goal.returns-then-blob-lt20-clause-none
returns-then-blob-lt20-clause-none c body e = with_sum-short c.args.set c.args.blob.now body e c.if-blob-lt20.true

pub returns-then-ne-clause-none : goal.returns-then-ne-clause-none
returns-then-ne-clause-none c body e =
    let parts = with_sum-parts c.args.set c.args.blob.now body e in
    let body-is : c.split_at.result.0.now ≡ body = c.split_at.ensures.front ∙ parts.0 in
    let sum-is : c.as_slice.result.now ≡ c.split_at.result.1.now = c.as_slice.ensures ∙ c.sum_of.ensures ∙ ap (λ (b : List ℕ). sha1 (b ++ set_mark c.args.set)) body-is ∙ sym (c.split_at.ensures.back ∙ parts.1) in
    differs _ _ (sym c.if-ne.true ∙ c.ne.ensures) sum-is
