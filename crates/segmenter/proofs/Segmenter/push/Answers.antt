use Rattle.std.proofs.Common.{◌≡◌, ◌∷◌, [], ◌++◌, length, Some, sym, ap, ◌∙◌, arith, le_refl}
use Rattle.segmenter.specs.Segments.{segments_of, last_sum, in_last}
use Rattle.segmenter.proofs.Pushing.{segments-same, segments-new, segments-one, last_sum-in_last, last_sum-new, no_segments}
use Rattle.segmenter.proofs.Segmenter.push.Goals as goal

pub returns-in-Some-clause-cut : goal.returns-in-Some-clause-cut
returns-in-Some-clause-cut c = λ size lens h.
    let held : last_sum (segments_of size lens) ≡ Some c.in-Some.used = sym h.used ∙ sym (ap (λ s. s.used) c.self.view_is) ∙ c.in-Some.is in
    let limit : c.self.inside.size ≡ size = ap (λ s. s.size) c.self.view_is ∙ h.size in
    segments-new (length lens) size c.in-Some.used c.args.len lens (le_refl _) held (omega arith)

pub returns-in-Some-clause-pushed : goal.returns-in-Some-clause-pushed
returns-in-Some-clause-pushed c = λ size lens h.
    let cut : segments_of size (lens ++ c.args.len ∷ []) ≡ segments_of size lens ++ (c.args.len ∷ []) ∷ [] = returns-in-Some-clause-cut c size lens h in
    record {
      size = ap (λ s. s.size) c.self.view_is ∙ h.size;
      used = sym (ap last_sum cut ∙ last_sum-new (segments_of size lens) c.args.len);
    }

pub returns-in-Some-2-clause-cut : goal.returns-in-Some-2-clause-cut
returns-in-Some-2-clause-cut c = λ size lens h.
    let held : last_sum (segments_of size lens) ≡ Some c.in-Some-2.used = sym h.used ∙ sym (ap (λ s. s.used) c.self.view_is) ∙ c.in-Some-2.is in
    let limit : c.self.inside.size ≡ size = ap (λ s. s.size) c.self.view_is ∙ h.size in
    let same : c.in-Some.used ≡ c.in-Some-2.used = cc in
    segments-same (length lens) size c.in-Some-2.used c.args.len lens (le_refl _) held (omega arith)

pub returns-in-Some-2-clause-pushed : goal.returns-in-Some-2-clause-pushed
returns-in-Some-2-clause-pushed c = λ size lens h.
    let held : last_sum (segments_of size lens) ≡ Some c.in-Some-2.used = sym h.used ∙ sym (ap (λ s. s.used) c.self.view_is) ∙ c.in-Some-2.is in
    let cut : segments_of size (lens ++ c.args.len ∷ []) ≡ in_last (segments_of size lens) c.args.len = returns-in-Some-2-clause-cut c size lens h in
    record {
      size = ap (λ s. s.size) c.self.view_is ∙ h.size;
      used = sym (ap last_sum cut ∙ last_sum-in_last (segments_of size lens) c.in-Some-2.used c.args.len held);
    }

pub returns-in-None-clause-cut : goal.returns-in-None-clause-cut
returns-in-None-clause-cut c = λ size lens h.
    let none : lens ≡ [] = no_segments size lens (sym h.used ∙ sym (ap (λ s. s.used) c.self.view_is) ∙ c.in-None.is) in
    ap (λ xs. segments_of size (xs ++ c.args.len ∷ [])) none ∙ segments-one size c.args.len ∙ sym (ap (λ xs. in_last (segments_of size xs) c.args.len) none)

pub returns-in-None-clause-pushed : goal.returns-in-None-clause-pushed
returns-in-None-clause-pushed c = λ size lens h.
    let none : lens ≡ [] = no_segments size lens (sym h.used ∙ sym (ap (λ s. s.used) c.self.view_is) ∙ c.in-None.is) in
    record {
      size = ap (λ s. s.size) c.self.view_is ∙ h.size;
      used = sym (ap (λ xs. last_sum (segments_of size (xs ++ c.args.len ∷ []))) none ∙ ap last_sum (segments-one size c.args.len) ∙ last_sum-new [] c.args.len);
    }
