-- The end of a pass.
use Rattle.std.proofs.Common.{◌≡◌, ℕ, ◌≤◌, List, ◌++◌, length, map, sym, ◌∙◌, ap, subst, append_assoc}
use Rattle.std.specs.Prelude.{option_to_list, Result, Ok, IfOk}
use Rattle.vault_types.specs.declared.Fp.{Fp}
use Rattle.vault_types.specs.declared.Fault.{Fault}
use Rattle.vault_types.specs.Cuts.{cuts}
use Rattle.vault_types.specs.Names.{fp}
use Rattle.vault_types.specs.Tables.{Container}
use Rattle.vault_types.specs.Fill.{fill}
use Rattle.vault_types.specs.Decide.{decide}
use Rattle.fp_index.specs.Index.{found_in}
use Rattle.container_fill.specs.Filling.{IsFilledBy}
use Rattle.backup_pass.specs.declared.pass.Pass.{Pass}
use Rattle.backup_pass.specs.declared.pass.Passed.{Passed}
use Rattle.backup_pass.specs.Passing.{answers_in}
use Rattle.keeper_catalog.specs.View.{View}
use Rattle.backup_jobs.specs.declared.closing.Rest.{Rest}
use Rattle.backup_jobs.specs.Going.{Began, AreNamed, AreNumbered, IsUnderway, HasEnded, chunks_of, rules_of, len_of}
use Rattle.backup_jobs.proofs.Ends.{HasLeft, numbered_all, few_all, has_put_all}
use Rattle.serial_backup.specs.Streaming.{IsFed, HasPassedAll}

-- what the pass gives at its end
abbrev pub Gave : Began → Pass → List ℕ → List Container → List Container → Passed → Type 0
Gave b pass read containers out p =
    (p.whole ≡ fp read) × (length (cuts read b.config.cutting) ≤ b.limits.chunks)
    × IsFilledBy (option_to_list p.filled.last) p.filled.rows p.filled.next p.filled.containers p.filled.written b.first (containers ++ out) (length (chunks_of b.config read))
    (fill b.first (chunks_of b.config read) (decide (answers_in pass) (rules_of b) (chunks_of b.config read)) b.config.container)

pub passed_all : (b : Began) (now : View) (pass : Pass) (lens read : List ℕ) (h : IsFed b now pass lens read) (out : List Container) (result : Result Passed Fault) (p : Passed) → result ≡ Ok p
    → IfOk result (Gave b pass read h.containers out) → HasPassedAll b now p out lens read
passed_all b now pass lens read h out result p is gave =
    let g : Gave b pass read h.containers out p = subst (λ (r : Result Passed Fault). IfOk r (Gave b pass read h.containers out)) is gave in
    record {
      containers = h.containers;
      underway = h.underway;
      waits = h.waits;
      named = h.named;
      lens_are = h.lens_are;
      cuttable = h.passed.cuttable;
      whole = g.0;
      few = g.1;
      filled = subst (λ (index : List (Fp × List ℕ)). IsFilledBy (option_to_list p.filled.last) p.filled.rows p.filled.next p.filled.containers p.filled.written b.first (h.containers ++ out) (length (chunks_of b.config read))
          (fill b.first (chunks_of b.config read) (decide (found_in index) (rules_of b) (chunks_of b.config read)) b.config.container)) h.index g.2;
    }

module _ (b : Began) (before : View) (p : Passed) (out : List Container) (lens read : List ℕ) (h : HasPassedAll b before p out lens read) (full : List Container) (all : full ≡ out ++ option_to_list p.filled.last) where
  abbrev rest : Rest
  rest = record { rows = p.filled.rows; next = p.filled.next; containers = p.filled.containers; written = p.filled.written }

  -- what is left to put
  has_left : HasLeft b before h.containers full rest lens read
  has_left = record {
    underway = h.underway;
    waits = h.waits;
    named = h.named;
    lens_are = h.lens_are;
    cuttable = h.cuttable;
    few = h.few;
    filled = record {
      containers_are = ap (λ xs. h.containers ++ xs) all ∙ sym (append_assoc h.containers out (option_to_list p.filled.last)) ∙ h.filled.containers_are;
      rows_are = h.filled.rows_are;
      next_is = h.filled.next_is;
      count_is = h.filled.count_is;
      written_is = h.filled.written_is;
      count_exact = h.filled.count_exact;
      written_exact = h.filled.written_exact;
    };
  }

  pub numbered_left : AreNumbered b.first (h.containers ++ full)
  numbered_left = numbered_all b before h.containers full rest lens read has_left

  pub few_left : length (h.containers ++ full) ≤ b.limits.chunks
  few_left = few_all b before h.containers full rest lens read has_left

  pub has_ended : (now : View) (lens' : List ℕ) → IsUnderway b now (h.containers ++ full) → now.pending ≡ before.pending → AreNamed before now full → lens' ≡ lens ++ map len_of full
      → HasEnded b now (record { rest = rest; whole = p.whole }) lens' read
  has_ended now lens' under waits named more = record {
    put = has_put_all b before h.containers full rest lens read has_left now lens' under waits named more;
    whole = h.whole;
  }
