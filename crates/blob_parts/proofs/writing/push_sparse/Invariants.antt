use Rattle.std.proofs.Common.{◌≡◌, ◌++◌, take, length}
use Rattle.std.specs.Prelude.{flat_map}
use Rattle.vault_types.specs.Blobs.{u32_bytes, u64_bytes}
use Rattle.blob_parts.proofs.writing.push_sparse.Given as goal

abbrev pub invariant-loop-id : goal.invariant-loop-id
invariant-loop-id l = l.blob.items ≡ l.fn.blob.items ++ (u32_bytes (length l.ids) ++ flat_map u64_bytes (take l.id-index l.ids))
