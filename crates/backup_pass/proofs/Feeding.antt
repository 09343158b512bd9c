-- A pass that is fed a piece, and ended.
use Rattle.std.proofs.Common.{◌≡◌, ℕ, ◌+◌, ◌≤◌, List, [], ◌∷◌, ◌++◌, map, length, sym, ap, ◌∙◌, subst, append_assoc, append-nil, arith, length-append, Option, Some, None}
use Rattle.std.specs.Prelude.{filter, option_to_list, Result, Ok, Err, OnOk, IfErr, Vec}
use Rattle.std.proofs.lemmas.List.{map-append, length-map}
use Rattle.std.proofs.lemmas.List.Elements.{filter-append}
use Rattle.vault_types.specs.declared.Fault.{Fault}
use Rattle.vault_types.specs.declared.Fault.TheVariants as fault
use Rattle.vault_types.specs.Cuts.{HasCut}
use Rattle.vault_types.specs.Names.{NamedChunk, named_chunk}
use Rattle.vault_types.specs.Stages.{is_chunk}
use Rattle.vault_types.specs.Tables.{Container}
use Rattle.vault_types.specs.Decide.{Rules}
use Rattle.fingerprint_stage.specs.Sums.{HasSummed}
use Rattle.backup_pass.specs.declared.placer.Placer.{Placer}
use Rattle.backup_pass.specs.declared.pass.Pass.{Pass}
use Rattle.backup_pass.specs.Placing.{HasPlaced}
use Rattle.backup_pass.specs.Passing.{HasPassed, IsPassFault, bytes_of_all}

-- one vector more

named_more : {Z : Type 0} (taken : List NamedChunk) (ys : List (Vec ℕ Z)) (b : Vec ℕ Z) (o : Option (List ℕ)) → option_to_list o ≡ filter is_chunk (b.items ∷ [])
    → (taken ++ map named_chunk (filter is_chunk (bytes_of_all ys))) ++ map named_chunk (option_to_list o) ≡ taken ++ map named_chunk (filter is_chunk (bytes_of_all (ys ++ b ∷ [])))
named_more taken ys b o e =
    append_assoc taken (map named_chunk (filter is_chunk (bytes_of_all ys))) (map named_chunk (option_to_list o))
    ∙ ap (λ cs. taken ++ cs)
    (sym (map-append named_chunk (filter is_chunk (bytes_of_all ys)) (option_to_list o))
    ∙ ap (map named_chunk) (ap (λ cs. filter is_chunk (bytes_of_all ys) ++ cs) e ∙ sym (filter-append is_chunk (bytes_of_all ys) (b.items ∷ [])) ∙ ap (filter is_chunk) (sym (map-append (λ (v : Vec ℕ _). v.items) ys (b ∷ [])))))

pub placed_some : {Z : Type 0} (p : Placer) (r : Rules) (first : ℕ) (taken : List NamedChunk) (ys : List (Vec ℕ Z)) (b : Vec ℕ Z) (chunk : List ℕ) (gone : List Container)
    → chunk ∷ [] ≡ filter is_chunk (b.items ∷ []) → HasPlaced p r first ((taken ++ map named_chunk (filter is_chunk (bytes_of_all ys))) ++ named_chunk chunk ∷ []) gone
    → HasPlaced p r first (taken ++ map named_chunk (filter is_chunk (bytes_of_all (ys ++ b ∷ [])))) gone
placed_some p r first taken ys b chunk gone e h = subst (λ cs. HasPlaced p r first cs gone) (named_more taken ys b (Some chunk) e) h

pub placed_none : {Z : Type 0} (p : Placer) (r : Rules) (first : ℕ) (taken : List NamedChunk) (ys : List (Vec ℕ Z)) (b : Vec ℕ Z) (gone : List Container)
    → [] ≡ filter is_chunk (b.items ∷ []) → HasPlaced p r first (taken ++ map named_chunk (filter is_chunk (bytes_of_all ys))) gone
    → HasPlaced p r first (taken ++ map named_chunk (filter is_chunk (bytes_of_all (ys ++ b ∷ [])))) gone
placed_none p r first taken ys b gone e h =
    subst (λ cs. HasPlaced p r first cs gone) (sym (append-nil (taken ++ map named_chunk (filter is_chunk (bytes_of_all ys)))) ∙ named_more taken ys b None e) h

-- a piece more

all_ok : {T E A B C D : Type 0} (r : Result T E) → OnOk r A → OnOk r B → OnOk r C → (A → B → C → D) → OnOk r D
all_ok (Ok x) a b c f = f a b c
all_ok (Err e) a b c f = tt

IfErr_then : {T E : Type 0} {P Q : E → Type 0} (r : Result T E) → ((e : E) → P e → Q e) → IfErr r P → IfErr r Q
IfErr_then (Ok x) f p = p
IfErr_then (Err e) f p = f e p

more_named : (chunks more : List (List ℕ)) → filter is_chunk more ≡ more → map named_chunk chunks ++ map named_chunk (filter is_chunk more) ≡ map named_chunk (chunks ++ more)
more_named chunks more e = ap (λ cs. map named_chunk chunks ++ map named_chunk cs) e ∙ sym (map-append named_chunk chunks more)

module _ {Z : Type 0} (p : Pass) (r : Rules) (most first : ℕ) (x : List ℕ) (before : List Container) (h : HasPassed p r most first x before)
    (vs : List (Vec ℕ Z)) (more : List (List ℕ)) (given : bytes_of_all vs ≡ more) where
  count_is : p.count + length vs ≡ length (h.chunks ++ more)
  count_is =
      let one : length (bytes_of_all vs) ≡ length vs = length-map vs (λ (v : Vec ℕ Z). v.items) in
      let two : length (bytes_of_all vs) ≡ length more = ap length given in
      let three : length (h.chunks ++ more) ≡ length h.chunks + length more = length-append h.chunks more in
      omega (arith, h.count)

  placed_is : filter is_chunk more ≡ more → (q : Placer) (gone : List Container) → HasPlaced q r first (map named_chunk h.chunks ++ map named_chunk (filter is_chunk (bytes_of_all vs))) gone → HasPlaced q r first (map named_chunk (h.chunks ++ more)) gone
  placed_is chunks q gone placed = subst (λ cs. HasPlaced q r first cs gone) (ap (λ cs. map named_chunk h.chunks ++ map named_chunk (filter is_chunk cs)) given ∙ more_named h.chunks more chunks) placed

  pub fault_is : (total : List (List ℕ)) → h.chunks ++ more ≡ total → {T : Type 0} (result : Result T Fault) → IfErr result (IsPassFault p.limit (p.count + length vs)) → IfErr result (IsPassFault most (length total))
  fault_is total same result causes = IfErr_then result (λ f cause. subst (λ n. IsPassFault n (length total) f) h.most_is (subst (λ n. IsPassFault p.limit n f) (count_is ∙ ap length same) cause)) causes

  pub fed : (q : Pass) (piece : List ℕ) (gone : List Container) {T : Type 0} (result : Result T Fault) → filter is_chunk more ≡ more
      → HasCut q.chunker (h.chunks ++ more) (x ++ piece) → q.chunker.cutting ≡ p.chunker.cutting → HasSummed q.sum (x ++ piece) → q.limit ≡ p.limit
      → OnOk result (HasPlaced q.placer r first (map named_chunk h.chunks ++ map named_chunk (filter is_chunk (bytes_of_all vs))) gone)
      → OnOk result (q.count ≡ p.count + length vs) → (p.count ≤ p.limit → OnOk result (q.count ≤ p.limit))
      → OnOk result (HasPassed q r most first (x ++ piece) gone)
  fed q piece gone result chunks cut cutting summed limit placed count within = all_ok result placed count (within h.within) (λ one two three. record {
    cuttable = h.cuttable;
    chunks = h.chunks ++ more;
    cut = cut;
    cutting = cutting ∙ h.cutting;
    summed = summed;
    placed = placed_is chunks q.placer gone one;
    count = two ∙ count_is;
    within = omega (arith, three, limit);
    most_is = limit ∙ h.most_is;
  })

  pub all_named : filter is_chunk more ≡ more → (total : List (List ℕ)) → h.chunks ++ more ≡ total → map named_chunk h.chunks ++ map named_chunk (filter is_chunk (bytes_of_all vs)) ≡ map named_chunk total
  all_named chunks total same = ap (λ cs. map named_chunk h.chunks ++ map named_chunk (filter is_chunk cs)) given ∙ more_named h.chunks more chunks ∙ ap (map named_chunk) same

  pub few_is : (total : List (List ℕ)) → h.chunks ++ more ≡ total → p.count + length vs ≤ p.limit → length total ≤ most
  few_is total same below = let e : length (h.chunks ++ more) ≡ length total = ap length same in omega (arith, count_is, below, h.most_is, e)
