-- A stream has no more bytes than its chunks can have.
use Rattle.std.proofs.Common.{◌≡◌, ℕ, ◌*◌, ◌<◌, ◌≤◌, List, [], ◌∷◌, length, ap, arith, length-append}
use Rattle.std.specs.List.{concat}
use Rattle.vault_types.specs.declared.Cutting.{Cutting}
use Rattle.vault_types.specs.Cuts.{cuts}
use Rattle.vault_types.proofs.BackupLemmas.{concat-cuts}
use Rattle.vault_types.specs.JobRanges.{IsCuttable}
use Rattle.backup_jobs.proofs.Chunks.{AreChunks, chunk_sizes, cuts_are_chunks}

bytes_within : (ys : List (List ℕ)) → AreChunks ys → length (concat ys) ≤ 65536 * length ys
bytes_within [] h = omega arith
bytes_within (y ∷ ys) h = omega (arith, (chunk_sizes y h.0).1, bytes_within ys h.1, length-append y (concat ys))

pub cuts_within : (c : Cutting) (x : List ℕ) → IsCuttable c → length x ≤ 65536 * length (cuts x c)
cuts_within c x sized =
    let all : length (concat (cuts x c)) ≡ length x = ap length (concat-cuts x c) in
    omega (arith, all, bytes_within (cuts x c) (cuts_are_chunks c sized x))

-- so many bytes are more chunks than the limit
pub too_many_bytes : (c : Cutting) (x : List ℕ) (limit : ℕ) → IsCuttable c → limit * 65536 < length x → limit < length (cuts x c)
too_many_bytes c x limit sized many = omega (arith, cuts_within c x sized, many)
