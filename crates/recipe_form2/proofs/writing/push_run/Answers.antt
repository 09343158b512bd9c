use Rattle.std.proofs.Common.{◌≡◌, ◌++◌, ◌∙◌, ℕ, List, ap, append_assoc, length}
use Rattle.std.specs.Prelude.{flat_map}
use Rattle.vault_types.specs.Blobs.{u32_bytes, u64_bytes, row_bytes_2}
use Rattle.recipe_form2.proofs.writing.push_run.Goals as goal

regroup : (a x y z : List ℕ) → ((a ++ x) ++ y) ++ z ≡ a ++ ((x ++ y) ++ z)
regroup a x y z = simp append_assoc

pub returns : goal.returns
returns c =
    c.in_ok-push_rows.ensures
    ∙ ap (λ (b : List ℕ). b ++ flat_map row_bytes_2 c.args.rows.now) (c.in_ok-push_u32.ensures ∙ ap (λ (b : List ℕ). b ++ u32_bytes (length c.args.rows.now)) c.in_ok-push_u64.ensures)
    ∙ regroup c.args.blob.now.items (u64_bytes c.args.id) (u32_bytes (length c.args.rows.now)) (flat_map row_bytes_2 c.args.rows.now)
