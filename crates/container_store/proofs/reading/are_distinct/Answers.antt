use Rattle.std.proofs.Common.{◌≡◌, ◌∙◌, ℕ, Bool, true, false, not, List, [], length, take, ap, arith, refl, subst}
use Rattle.std.specs.HashSet as bag
use Rattle.std.specs.List.{list_any, IsDistinct}
use Rattle.std.proofs.Math.Seq.{take-length}
use Rattle.vault_types.specs.declared.Fp.{Fp}
use Rattle.vault_types.specs.declared.TableRow.{TableRow}
use Rattle.vault_types.specs.Names.{same_fp}
use Rattle.container_store.proofs.Apart.{fps, seen_none, seen_more, seen_twice}
use Rattle.container_store.proofs.reading.are_distinct.Goals as goal

is_old : (added was : Bool) → added ≡ not was → added ≡ false → was ≡ true
is_old added true e f = refl
is_old added false e f = cc

is_new : (added was : Bool) → added ≡ not was → added ≡ true → was ≡ false
is_new added true e f = cc
is_new added false e f = refl

abbrev none : TableRow
none = record { fp = record { 0 = [] }; len = 0 }

pub loop-row-init : goal.loop-row-init
loop-row-init c = seen_none (λ q. bag.contains same_fp c.in_ok-seen.seen q) (λ q. ap (λ (ks : List Fp). list_any (same_fp q) ks) c.in_ok-seen.ensures.empty)

pub returns-then-not-branch-clause-no : goal.returns-then-not-branch-clause-no
returns-then-not-branch-clause-no c distinct =
    absurd (seen_twice (λ q. bag.contains same_fp c.loop-row.seen q) c.args.rows.now c.loop-row.row-index none c.loop-row-test.true c.loop-row.invariant (is_old _ _ c.in_ok-insert.ensures.added c.if-not-branch.true) distinct)

pub loop-row-preserved : goal.loop-row-preserved
loop-row-preserved c =
    seen_more (λ q. bag.contains same_fp c.loop-row.seen q) (λ q. bag.contains same_fp c.insert.new.self q) c.args.rows.now c.loop-row.row-index none c.loop-row-test.true c.loop-row.invariant
    (is_new _ _ c.in_ok-insert.ensures.added c.if-not-branch.false) c.in_ok-insert.ensures.updates.0

pub returns-clause-yes : goal.returns-clause-yes
returns-clause-yes c done =
    let end : c.loop-row.row-index ≡ length c.args.rows.now = omega arith in
    subst (λ (l : List Fp). IsDistinct same_fp l) (ap (λ (n : ℕ). fps (take n c.args.rows.now)) end ∙ ap fps (take-length c.args.rows.now)) c.loop-row.invariant.distinct
