use Rattle.std.proofs.Common.{arith, ap, length}
use Rattle.blob_parts.proofs.SparseLemmas.{few_sparse}
use Rattle.recipe_store.proofs.plain.encode_plain.Goals as goal

pub blob_len-requires-clause-sparse : goal.blob_len-requires-clause-sparse
blob_len-requires-clause-sparse c = omega (arith, few_sparse _ _ _ c.requires.rules, ap length c.as_slice-sparse.ensures)

pub push_sparse-requires : goal.push_sparse-requires
push_sparse-requires c = omega (arith, few_sparse _ _ _ c.requires.rules, ap length c.as_slice-sparse.ensures)
