use Rattle.vault_types.specs.declared.Cutting.TheVariants.{Fixed}
use Rattle.vault_types.specs.Cuts.{settled_len}
use Rattle.vault_types.proofs.PartsLemmas.{parts-append}
use Rattle.vault_types.proofs.BackupLemmas.{concat-cuts}
use Rattle.vault_types.proofs.FeedLemmas.{rest-append}
use Rattle.vault_types.proofs.CutLemmas.{fixed-stable}
use Rattle.chunk_fixed.proofs.pieces_do_not_matter.Goals as goal

pub returns : goal.returns
returns c = record {
  chunks = λ size x y h. parts-append (settled_len (Fixed size)) (fixed-stable size h) x y;
  left = λ size x y h. rest-append (settled_len (Fixed size)) (fixed-stable size h) x y;
  bytes = λ size x. concat-cuts x (Fixed size);
}
