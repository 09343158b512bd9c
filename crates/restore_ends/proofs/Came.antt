-- What a stage that has replied has come to, from the first one.
use Rattle.std.proofs.Common.{◌≡◌, inl, ℕ, Bool, true, cond, IsTrue, List, [], ◌∷◌, ◌++◌, length, map, Option, Some, None, refl, sym, ap, subst, arith}
use Rattle.std.specs.Prelude.{Contains, nat_lt}
use Rattle.std.proofs.lemmas.Bool.{false≢true}
use Rattle.std.proofs.lemmas.Bool.Decides.{nat_tests}
use Rattle.std.proofs.lemmas.List.Kept.{Contains-dedup_nat}
use Rattle.vault_types.specs.declared.Spot.{Spot}
use Rattle.vault_types.specs.declared.Step.{Step}
use Rattle.vault_types.specs.declared.Step.TheVariants.{Load, Evict, Serve}
use Rattle.vault_types.specs.Plans.{requests, serves}
use Rattle.vault_traits.specs.Told.{SinkTold}
use Rattle.restore_assembler.specs.Copying.{Copying, wanted, next_load, HasCopied}
use Rattle.restore_stage.specs.declared.Loaded.{Loaded}
use Rattle.restore_stage.specs.declared.Reply.{Reply}
use Rattle.restore_stage.specs.Assembling.{Assembling, ids, load_ids, reply_of, HasCome, HasWritten, AreOf, IsSame}

-- a plan that serves a request loads first
first_load : (slots : ℕ) (steps : List Step) (q : ℕ) (reqs : List ℕ) → IsTrue (serves slots [] steps (q ∷ reqs)) → next_load steps ≡ None → ⊥
first_load slots [] q reqs served none = false≢true served
first_load slots (Load c ∷ steps) q reqs served none = let e : ◌≡◌ {A = Option ℕ} (Some c) None = none in cc
first_load slots (Evict c ∷ steps) q reqs served none = false≢true served
first_load slots (Serve ∷ steps) q reqs served none = false≢true served

some_request : (reqs : List ℕ) (id : ℕ) → Contains reqs id → (q : ℕ) × (more : List ℕ) × (reqs ≡ q ∷ more)
some_request [] id there = absurd (omega (arith, there.1))
some_request (q ∷ more) id there = (q, more, refl)

-- where nothing is wanted at first there is no spot
none_wanted : (slots : ℕ) (c : Copying) → c.done ≡ 0 → IsTrue (serves slots [] c.steps (requests (map (λ s. s.id) c.spots))) → wanted c ≡ None → c.spots ≡ []
none_wanted slots c start served none = at c.spots refl
  where
    at : (spots : List Spot) → c.spots ≡ spots → c.spots ≡ []
    at [] is = is
    at (q ∷ spots) is =
        let some = some_request (requests (map (λ s. s.id) (q ∷ spots))) q.id (Contains-dedup_nat (map (λ s. s.id) (q ∷ spots)) q.id (0, omega arith, refl)) in
        let e : IsTrue (serves slots [] c.steps (some.0 ∷ some.1)) = subst (λ (rs : List ℕ). IsTrue (serves slots [] c.steps rs)) some.2 (subst (λ (ss : List Spot). IsTrue (serves slots [] c.steps (requests (map (λ s. s.id) ss)))) is served) in
        let low : nat_lt 0 (length (q ∷ spots)) ≡ true = grind (arith, nat_tests) in
        let w : cond (nat_lt 0 (length (q ∷ spots))) (next_load c.steps) None ≡ None = subst (λ (d : ℕ). cond (nat_lt d (length (q ∷ spots))) (next_load c.steps) None ≡ None) start
        (subst (λ (ss : List Spot). cond (nat_lt c.done (length ss)) (next_load c.steps) None ≡ None) is none) in
        let w2 : cond true (next_load c.steps) None ≡ None = subst (λ (t : Bool). cond t (next_load c.steps) None ≡ None) low w in
        absurd (first_load slots c.steps some.0 some.1 e w2)

module _ (a b : Assembling) (same : IsSame a b) (taken : a.loads.taken ≡ []) (unsent : reply_of a ≡ []) (r : Reply) (more : List Reply) (sent : reply_of b ≡ r ∷ more) where
  pub stage_came : HasCome a.sink a.copying.steps b (r ∷ more)
  stage_came = subst (λ (rs : List Reply). HasCome a.sink a.copying.steps b rs) sent
      (same.come a.sink a.copying.steps (omega arith)
      (subst (λ (rs : List Reply). HasCome a.sink a.copying.steps a rs) (sym unsent)
      (record { behind = (0, refl); loaded = ap (λ (items : List Loaded). ids items ++ load_ids a.copying.steps) taken })))

  pub stage_wrote : (slots : ℕ) → a.copying.done ≡ 0 → IsTrue (serves slots [] a.copying.steps (requests (map (λ s. s.id) a.copying.spots))) → ((payloads : ℕ → List ℕ) (told : SinkTold) → HasCopied payloads told told a.copying)
      → (known : ℕ → List ℕ) → AreOf known b.loads.taken → HasWritten known a.sink b (r ∷ more)
  stage_wrote slots start served copied known all = subst (λ (rs : List Reply). HasWritten known a.sink b rs) sent
      (same.written known a.sink all
      (subst (λ (rs : List Reply). HasWritten known a.sink a rs) (sym unsent)
      (copied known a.sink, λ none. inl (none_wanted slots a.copying start served none))))
