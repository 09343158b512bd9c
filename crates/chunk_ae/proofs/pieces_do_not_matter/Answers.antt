use Rattle.vault_types.specs.declared.Cutting.TheVariants.{Ae}
use Rattle.vault_types.specs.Cuts.{settled_len}
use Rattle.vault_types.proofs.PartsLemmas.{parts-append}
use Rattle.vault_types.proofs.BackupLemmas.{concat-cuts}
use Rattle.vault_types.proofs.CutLemmas.{ae-stable}
use Rattle.vault_types.proofs.FeedLemmas.{rest-append}
use Rattle.chunk_ae.proofs.pieces_do_not_matter.Goals as goal

pub returns : goal.returns
returns c = record {
  chunks = λ w m x y h i. parts-append (settled_len (Ae w m)) (ae-stable w m) x y;
  left = λ w m x y h i. rest-append (settled_len (Ae w m)) (ae-stable w m) x y;
  bytes = λ w m x. concat-cuts x (Ae w m);
}
