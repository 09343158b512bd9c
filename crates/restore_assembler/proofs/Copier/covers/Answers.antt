use Rattle.std.proofs.Common.{◌∙◌, ◌≤◌, length, sym, subst, IsTrue, leb}
use Rattle.std.proofs.lemmas.Bool.{leb-true, le-leb}
use Rattle.restore_assembler.specs.Copying.{Copying, IsCovered}
use Rattle.restore_assembler.specs.Progress.{seen_of}
use Rattle.restore_assembler.proofs.Covered.{covers_is}
use Rattle.restore_assembler.proofs.Copier.covers.Goals as goal

pub returns-in-Some : goal.returns-in-Some
returns-in-Some c =
    let bytes = c.args.payload.now in
    let end = c.end_at.result in
    let both : (end ≤ length bytes → IsCovered (seen_of c.self.inside.progress) bytes) × (IsCovered (seen_of c.self.inside.progress) bytes → end ≤ length bytes) =
    covers_is (seen_of c.self.inside.progress) c.in-Some.id end bytes (c.end_at.ensures ∙ c.self.invariant.3 c.in-Some.id) (sym c.wanted.ensures.next ∙ c.in-Some.is) in
    subst (λ (s : Copying). (IsTrue (leb end (length bytes)) → IsCovered s bytes) × (IsCovered s bytes → IsTrue (leb end (length bytes)))) c.self.view_is
    (λ t. both.0 (leb-true end (length bytes) t), λ h. le-leb end (length bytes) (both.1 h))
