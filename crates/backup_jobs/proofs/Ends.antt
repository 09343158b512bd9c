-- The last containers of a job.
use Rattle.std.proofs.Common.{◌≡◌, ℕ, ◌<◌, ◌≤◌, ◌^◌, List, [], ◌++◌, length, map, refl, sym, ◌∙◌, ap, subst, arith, append-nil}
use Rattle.std.proofs.lemmas.List.{map-append, length-map}
use Rattle.vault_types.specs.declared.Pending.TheVariants as pending
use Rattle.vault_types.specs.Cuts.{cuts}
use Rattle.vault_types.specs.Names.{named_chunk}
use Rattle.vault_types.specs.Tables.{Container}
use Rattle.container_fill.specs.Filling.{IsFilledBy}
use Rattle.vault_types.specs.JobRanges.{IsCuttable}
use Rattle.keeper_catalog.specs.View.{View}
use Rattle.backup_jobs.specs.declared.closing.Rest.{Rest}
use Rattle.backup_jobs.specs.Going.{Began, AreNamed, AreNumbered, IsUnderway, HasPutAll, chunks_of, made, len_of}
use Rattle.backup_jobs.proofs.Jobs.{named_none, named_then}
use Rattle.backup_jobs.proofs.Chunks.{made_numbered, made_few}

-- the filling came to this, and of its containers these are put and those are left
pub record HasLeft (b : Began) (now : View) (put left : List Container) (r : Rest) (lens read : List ℕ) : Type 0 where
  pub underway : IsUnderway b now put
  pub waits : now.pending ≡ pending.Not
  pub named : AreNamed b.keeper now put
  pub lens_are : lens ≡ map len_of put
  pub cuttable : IsCuttable b.config.cutting
  pub few : length (cuts read b.config.cutting) ≤ b.limits.chunks
  pub filled : IsFilledBy left r.rows r.next r.containers r.written b.first put (length (chunks_of b.config read)) (made b read)

module _ (b : Began) (before : View) (put left : List Container) (r : Rest) (lens read : List ℕ) (h : HasLeft b before put left r lens read) where
  pub numbered_all : AreNumbered b.first (put ++ left)
  numbered_all = subst (AreNumbered b.first) (sym h.filled.containers_are) (made_numbered b read)

  pub few_all : length (put ++ left) ≤ b.limits.chunks
  few_all = let same : length (put ++ left) ≡ length (made b read).containers = ap length h.filled.containers_are in omega (arith, same, made_few b read, h.few)

  small : length (chunks_of b.config read) < 2 ^ 32
  small = omega (arith, h.underway.most, h.few, length-map (cuts read b.config.cutting) named_chunk)

  pub has_put_all : (now : View) (lens' : List ℕ) → IsUnderway b now (put ++ left) → now.pending ≡ before.pending → AreNamed before now left → lens' ≡ lens ++ map len_of left → HasPutAll b now r lens' read
  has_put_all now lens' under waits named more = record {
    underway = subst (IsUnderway b now) h.filled.containers_are under;
    waits = waits ∙ h.waits;
    named = subst (AreNamed b.keeper now) h.filled.containers_are (named_then b.keeper before now put left h.named named);
    is = record {
      cuttable = h.cuttable;
      few = h.few;
      rows = h.filled.rows_are;
      next = h.filled.next_is;
      containers = h.filled.count_exact small;
      written = h.filled.written_exact small;
      lens_are = more ∙ ap (λ xs. xs ++ map len_of left) h.lens_are ∙ sym (map-append len_of put left) ∙ ap (λ xs. map len_of xs) h.filled.containers_are;
    };
  }

-- where none is left
pub none_left : (b : Began) (before : View) (put : List Container) (r : Rest) (lens read : List ℕ) → HasLeft b before put [] r lens read → HasPutAll b before r lens read
none_left b before put r lens read h =
    has_put_all b before put [] r lens read h before lens (subst (IsUnderway b before) (sym (append-nil put)) h.underway) refl (named_none before) (sym (append-nil lens))
