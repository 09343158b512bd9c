-- What is left of the recipes, behind one line and behind several.
use Rattle.std.proofs.Common.{◌≡◌, ⊎_elim, ℕ, ◌+◌, ◌<◌, length, List, map, Option, Some, None, refl, sym, ◌∙◌, ap, subst, arith}
use Rattle.std.specs.Prelude.{slice_index_or}
use Rattle.vault_types.specs.declared.JobConfig.{JobConfig}
use Rattle.vault_types.specs.Cuts.{cuts}
use Rattle.vault_types.specs.Names.{named_chunk, fp}
use Rattle.vault_types.specs.State.{State, Dataset, KeptVersion, empty_dataset, floor_of, latest_in, latest_of, version_in, version_of, IsValid}
use Rattle.vault_types.specs.Backup.{backup, filling, version_from}
use Rattle.vault_types.specs.Delete.{delete}
use Rattle.vault_types.specs.Shelf.{Blobs}
use Rattle.vault_types.specs.RecipeForms.{IsSecond, KeepsRecipes}
use Rattle.state_laws.proofs.Changing.{version_low, version_high}
use Rattle.state_laws.proofs.Growing as growing
use Rattle.state_laws.proofs.Shrinking as shrinking
use Rattle.store_model.specs.Recipes.{KeepsForms}
use Rattle.script_laws.proofs.Staying.{in_range, set_past, get_past, below_set}

-- a version is of a set that is there
of_set : (S : State) (s v : ℕ) (k : KeptVersion) → version_of S s v ≡ Some k → s < length S.datasets
of_set S s v k is = ⊎_elim
    (λ below. below)
    (λ past. absurd (
    let low = version_low S s v k is in
    let high = version_high S s v k is in
    let one : floor_of S s ≡ 1 = ap (λ (d : Dataset). d.floor) (get_past S.datasets s past) in
    let none : latest_of S s ≡ 0 = ap latest_in (get_past S.datasets s past) in
    omega (arith, low, high, one, none)))
    (in_range s (length S.datasets))

none_some : (o : Option KeptVersion) (k : KeptVersion) → o ≡ None → o ≡ Some k → ⊥
none_some o k none some = let clash : ◌≡◌ {A = Option KeptVersion} None (Some k) = sym none ∙ some in cc

pub same_forms : (S : State) (told : Option Blobs) → KeepsForms S S told told
same_forms S told = record { stay = λ s v j k was is. refl; made = λ s v k none is. absurd (none_some (version_of S s v) k none is) }

-- where the state stays
pub still_forms : (S : State) (old new : Option Blobs) → KeepsRecipes S old new → KeepsForms S S old new
still_forms S old new keeps = record {
  stay = λ s v j k was is. keeps s v j (of_set S s v j was) was;
  made = λ s v k none is. absurd (none_some (version_of S s v) k none is);
}

-- behind a deletion
pub shrunk_forms : (S : State) (s n : ℕ) (old new : Option Blobs) → IsValid S → n < latest_of S s → KeepsRecipes (delete S s n) old new → KeepsForms S (delete S s n) old new
shrunk_forms S s n old new valid low keeps = record {
  stay = λ t v j k was is. keeps t v k (of_set (delete S s n) t v k is) is;
  made = λ t v k none is. absurd (none_some (version_of S t v) k none (shrinking.version_was S s n valid (below_set S s n low) low t v k is));
}

-- behind a backup
pub grown_forms : (S : State) (s : ℕ) (x : List ℕ) (config : JobConfig) (old new : Option Blobs) → IsValid S → KeepsRecipes S old new
    → ((k : KeptVersion) → version_of (backup S s x config) s (latest_of S s + 1) ≡ Some k → IsSecond new s (latest_of S s + 1) k) → KeepsForms S (backup S s x config) old new
grown_forms S s x config old new valid keeps second = record {
  stay = λ t v j k was is. keeps t v j (of_set S t v j was) was;
  made = λ t v k none is. ⊎_elim
      (λ below. ⊎_elim
      (λ fresh. subst (λ (u : ℕ). IsSecond new u v k) (sym fresh.0) (subst (λ (w : ℕ). IsSecond new s w k) (sym fresh.1) (second k
      (ap (λ (u : ℕ). version_of (backup S s x config) u (latest_of S s + 1)) (sym fresh.0) ∙ ap (λ (w : ℕ). version_of (backup S s x config) t w) (sym fresh.1) ∙ is))))
      (λ was. absurd (none_some (version_of S t v) k none was))
      (growing.version_back S s (version_from S (filling S s (map named_chunk (cuts x config.cutting)) config) (fp x) config) (filling S s (map named_chunk (cuts x config.cutting)) config).containers valid below t v k is))
      (λ past. absurd (none_some (version_of S t v) k none (ap (λ (ds : List Dataset). version_in (slice_index_or ds t empty_dataset) v) (sym (set_past S.datasets s _ past)) ∙ is)))
      (in_range s (length S.datasets));
}

-- from one state to a third, where what is kept in the first and the third is kept between, and a version of the second
-- that the third keeps is the same there
pub forms_then : (S T U : State) (a b c : Option Blobs)
    → ((s v : ℕ) (j k : KeptVersion) → version_of S s v ≡ Some j → version_of U s v ≡ Some k → version_of T s v ≡ Some j)
    → ((s v : ℕ) (j k : KeptVersion) → version_of T s v ≡ Some j → version_of U s v ≡ Some k → j ≡ k)
    → KeepsForms S T a b → KeepsForms T U b c → KeepsForms S U a c
forms_then S T U a b c between same first rest = record {
  stay = λ s v j k was is. let mid = between s v j k was is in rest.stay s v j k mid is ∙ first.stay s v j j was mid;
  made = λ s v k none is. at s v k none is (version_of T s v) refl;
}
  where
    at : (s v : ℕ) (k : KeptVersion) → version_of S s v ≡ None → version_of U s v ≡ Some k → (o : Option KeptVersion) → version_of T s v ≡ o → IsSecond c s v k
    at s v k none is None mid = rest.made s v k mid is
    at s v k none is (Some j) mid = subst (λ (i : KeptVersion). IsSecond c s v i) (same s v j k mid is) (rest.stay s v j k mid is ∙ first.made s v j none mid)
