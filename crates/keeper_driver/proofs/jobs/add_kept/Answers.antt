use Rattle.std.proofs.Common.{Some, refl, sym, ap, ◌∙◌, append-nil}
use Rattle.vault_types.specs.Tables.{newest}
use Rattle.keeper_driver.proofs.Drafting.{with_rows, with_kept}
use Rattle.keeper_driver.proofs.jobs.add_kept.Goals as goal

pub returns-in_err-extend_from_slice : goal.returns-in_err-extend_from_slice
returns-in_err-extend_from_slice c v is = with_rows v _ is _ _ refl refl refl refl (sym (append-nil _)) tt tt

pub returns-in_err-push : goal.returns-in_err-push
returns-in_err-push c v is = with_rows v _ is _ _ refl refl refl refl (c.in_err-push.ensures ∙ sym (append-nil _)) tt tt

pub returns : goal.returns
returns c v is = with_kept v _ is _ c.row-kept.result refl refl refl refl c.in_ok-push.ensures
    (λ tables at. ap (λ q. Some q.id) c.row-kept.ensures.is ∙ c.in-Some.ensures.newest tables at ∙ ap (newest tables) (c.sum-fp.ensures.is ∙ sym (ap (λ q. q.fp) c.row-kept.ensures.is)))
    c.row-kept.ensures.fits
