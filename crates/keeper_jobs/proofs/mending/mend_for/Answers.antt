use Rattle.std.proofs.Common.{arith, sym, ◌∙◌, ◌≡◌, Some}
use Rattle.keeper_jobs.specs.Jobs.{mended_by}
use Rattle.state_laws.proofs.Changing.{latest_low, recipe_no_floor}
use Rattle.state_laws.proofs.Growing.{floor_pos}
use Rattle.keeper_jobs.proofs.Seeing.{mends, floor_low, not_mended}
use Rattle.keeper_jobs.proofs.mending.mend_for.Goals as goal

pub overflow_add-info : goal.overflow_add-info
overflow_add-info g c =
    let seen = c.requires.seen in
    let is : mended_by c.args.pending.now c.args.set ≡ Some c.in-Some.mended = sym c.mended_set.ensures ∙ c.in-Some.is in
    let m = mends _ _ seen.0 seen.1 _ _ _ c.requires.in_range is c.index-sets-mended.is in
    omega (arith, m.version, latest_low seen.0.state c.in-Some.mended m.valid)

pub returns-in_err-mend-clause-held : goal.returns-in_err-mend-clause-held
returns-in_err-mend-clause-held g c K sees held =
    c.mend.ensures.held K (mends _ _ K sees _ _ _ c.requires.in_range (sym c.mended_set.ensures ∙ c.in-Some.is) c.index-sets-mended.is) held

pub returns-clause-held : goal.returns-clause-held
returns-clause-held g c K sees held =
    c.mend.ensures.held K (mends _ _ K sees _ _ _ c.requires.in_range (sym c.mended_set.ensures ∙ c.in-Some.is) c.index-sets-mended.is) held

pub returns-clause-mended : goal.returns-clause-mended
returns-clause-mended g c K sees held =
    c.in_ok-mend.ensures.mended K (mends _ _ K sees _ _ _ c.requires.in_range (sym c.mended_set.ensures ∙ c.in-Some.is) c.index-sets-mended.is) held

pub returns-clause-any_moment : goal.returns-clause-any_moment
returns-clause-any_moment g c K sees here =
    c.mend.ensures.any_moment K (mends _ _ K sees _ _ _ c.requires.in_range (sym c.mended_set.ensures ∙ c.in-Some.is) c.index-sets-mended.is) here

pub returns-clause-acknowledged : goal.returns-clause-acknowledged
returns-clause-acknowledged g c waits K sees held =
    c.in_ok-mend.ensures.acknowledged K (mends _ _ K sees _ _ _ c.requires.in_range (sym c.mended_set.ensures ∙ c.in-Some.is) c.index-sets-mended.is) held

pub mend-requires : goal.mend-requires
mend-requires g c =
    let seen = c.requires.seen in
    let is : mended_by c.args.pending.now c.args.set ≡ Some c.in-Some.mended = sym c.mended_set.ensures ∙ c.in-Some.is in
    let m = mends _ _ seen.0 seen.1 _ _ _ c.requires.in_range is c.index-sets-mended.is in
    (omega (arith, m.floor, floor_pos seen.0.state c.in-Some.mended m.valid), omega (arith, m.floor, floor_low seen.0.state c.in-Some.mended m.valid))

pub returns-in_err-mend-clause-recipes : goal.returns-in_err-mend-clause-recipes
returns-in_err-mend-clause-recipes g c K sees s v low =
    c.mend.ensures.others _ (not_mended K _ _ _ (mends _ _ K sees _ _ _ c.requires.in_range (sym c.mended_set.ensures ∙ c.in-Some.is) c.index-sets-mended.is) s v low) (recipe_no_floor s v _)

pub returns-clause-recipes : goal.returns-clause-recipes
returns-clause-recipes g c K sees s v low =
    c.mend.ensures.others _ (not_mended K _ _ _ (mends _ _ K sees _ _ _ c.requires.in_range (sym c.mended_set.ensures ∙ c.in-Some.is) c.index-sets-mended.is) s v low) (recipe_no_floor s v _)
