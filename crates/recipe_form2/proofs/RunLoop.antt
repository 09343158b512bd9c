-- Reading runs one after the other, as a loop does.
use Rattle.std.proofs.Common.{◌≡◌, ℕ, suc, ◌-◌, ◌+◌, ◌<◌, List, ◌++◌, Option, Some, None, refl, sym, ap, ◌∙◌, append_assoc, arith}
use Rattle.vault_types.specs.declared.Row.{Row}
use Rattle.vault_types.specs.Blobs.{Run}
use Rattle.blob_parts.specs.declared.unread.Unread.{Unread}
use Rattle.blob_parts.specs.declared.unread.Unread.TheVariants as unread
use Rattle.blob_parts.specs.Reading.{◌>>=◌, Fails}
use Rattle.blob_parts.proofs.Loop.{with_front}
use Rattle.recipe_form2.specs.Reading.{run_at, runs_at}

regroup : (front rows : List Row) (read : Option (List Row × List ℕ)) → with_front front (read >>= λ x. Some (rows ++ x.0, x.1)) ≡ with_front (front ++ rows) read
regroup front rows (Some x) = ap (λ (all : List Row). Some (all, x.1)) (sym (append_assoc front rows x.0))
regroup front rows None = refl

pub goes_on : (before : ℕ) (front : List Row) (count i : ℕ) (bytes : List ℕ) (run : Run) (after : List ℕ) (total : Option (List Row × List ℕ)) → i < count → run_at before bytes ≡ Some (run, after)
    → with_front front (runs_at before (count - i) bytes) ≡ total → with_front (front ++ run.rows) (runs_at run.id (count - (i + 1)) after) ≡ total
goes_on before front count i bytes run after total lt h so_far =
    let k : count - i ≡ suc (count - (i + 1)) = omega arith in
    let one : with_front front (runs_at before (count - i) bytes) ≡ with_front (front ++ run.rows) (runs_at run.id (count - (i + 1)) after) =
    ap (λ (n : ℕ). with_front front (runs_at before n bytes)) k
    ∙ ap (λ (r : Option (Run × List ℕ)). with_front front (r >>= λ x. runs_at x.0.id (count - (i + 1)) x.1 >>= λ xs. Some (x.0.rows ++ xs.0, xs.1))) h
    ∙ regroup front run.rows (runs_at run.id (count - (i + 1)) after)
    in
    sym one ∙ so_far

pub ends : (e : Unread) (before : ℕ) (front : List Row) (count i : ℕ) (bytes : List ℕ) (total : Option (List Row × List ℕ)) → i < count → Fails e (run_at before bytes)
    → with_front front (runs_at before (count - i) bytes) ≡ total → Fails e total
ends unread.Memory before front count i bytes total lt h so_far = tt
ends unread.Spelling before front count i bytes total lt h so_far =
    let k : count - i ≡ suc (count - (i + 1)) = omega arith in
    let one : with_front front (runs_at before (count - i) bytes) ≡ None =
    ap (λ (n : ℕ). with_front front (runs_at before n bytes)) k
    ∙ ap (λ (r : Option (Run × List ℕ)). with_front front (r >>= λ x. runs_at x.0.id (count - (i + 1)) x.1 >>= λ xs. Some (x.0.rows ++ xs.0, xs.1))) h
    in
    sym so_far ∙ one
