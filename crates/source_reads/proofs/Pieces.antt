-- One read more, and the end.
use Rattle.std.proofs.Common.{◌≡◌, ℕ, ◌+◌, ◌≤◌, ◌*◌, Bool, List, [], ◌∷◌, ◌++◌, length, refl, sym, ap, ◌∙◌, subst, append-nil, Some, None, arith, length-append}
use Rattle.std.specs.List.{concat, AllByRecursion}
use Rattle.std.proofs.lemmas.List.Folds.{concat-append}
use Rattle.vault_types.specs.declared.Flow.{Flow}
use Rattle.vault_types.specs.declared.Flow.TheVariants.{Part}
use Rattle.vault_types.specs.Stages.{but_last}
use Rattle.stage_flows.specs.declared.Last.{Last}
use Rattle.stage_flows.specs.Runs.{item_of, is_stop}
use Rattle.stage_flows.proofs.Running.{run-part, run-last}
use Rattle.source_reads.specs.Reading.{HasRead, IsOwnEnd}

all_snoc : (P : List ℕ → Type 0) (xs : List (List ℕ)) (x : List ℕ) → AllByRecursion P xs → P x → AllByRecursion P (xs ++ x ∷ [])
all_snoc P [] x a p = (p, tt)
all_snoc P (y ∷ ys) x a p = (a.0, all_snoc P ys x a.1 p)

but_last-snoc : (xs : List (List ℕ)) (x : List ℕ) → but_last (xs ++ x ∷ []) ≡ xs
but_last-snoc [] x = refl
but_last-snoc (y ∷ []) x = refl
but_last-snoc (y ∷ z ∷ zs) x = ap (λ l. y ∷ l) (but_last-snoc (z ∷ zs) x)

pub HasRead_part : (limit read : ℕ) (sent : List (Flow (List ℕ))) (saw : Bool) (x : List ℕ) → read ≤ limit * 65536 → HasRead limit read (sent ++ []) None saw → (1 ≤ length x) × (length x ≤ 65536) → HasRead limit (read + length x) (sent ++ Part x ∷ []) None saw
HasRead_part limit read sent saw x few h size = record {
  reads = h.reads ++ x ∷ [];
  gave = ap (λ l. l ++ Part x ∷ []) (sym (append-nil sent) ∙ h.gave) ∙ run-part h.reads x;
  sizes = all_snoc (λ x. (1 ≤ length x) × (length x ≤ 65536)) h.reads x h.sizes size;
  count =
      let e : length (concat (h.reads ++ x ∷ [])) ≡ length (concat h.reads ++ concat (x ∷ [])) = ap length (concat-append h.reads (x ∷ [])) in
      let f : length (concat h.reads ++ concat (x ∷ [])) ≡ length (concat h.reads) + length (concat (x ∷ [])) = length-append (concat h.reads) (concat (x ∷ [])) in
      let g : length (concat (x ∷ [])) ≡ length x = ap length (append-nil x) in
      omega (arith, h.count);
  within = subst (λ l. length (concat l) ≤ limit * 65536) (sym (but_last-snoc h.reads x)) (omega (arith, h.count, few));
  ended = tt;
  looked = h.looked;
}

pub HasRead_last : (limit read : ℕ) (sent : List (Flow (List ℕ))) (saw after : Bool) (l : Last) → HasRead limit read (sent ++ []) None saw → IsOwnEnd limit read (Some l) → after ≡ is_stop (Some l) → HasRead limit read (sent ++ item_of l ∷ []) (Some l) after
HasRead_last limit read sent saw after l h ended looked = record {
  reads = h.reads;
  gave = ap (λ q. q ++ item_of l ∷ []) (sym (append-nil sent) ∙ h.gave) ∙ run-last h.reads l;
  sizes = h.sizes;
  count = h.count;
  within = h.within;
  ended = ended;
  looked = looked;
}
