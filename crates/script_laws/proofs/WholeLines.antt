-- Whole lines, from what the keeper's and the places' calls say.
use Rattle.std.proofs.Common.{◌≡◌, ◌⊎◌, inl, inr, ⊎_elim, ◌≤◌, ℕ, true, false, List, [], ◌∷◌, Option, Some, None, refl, sym, ◌∙◌, ap, subst, arith}
use Rattle.std.specs.Prelude.{IfSome, IsSome, unwrap_or, Result, Ok, Err}
use Rattle.std.specs.List.{AllByRecursion}
use Rattle.vault_types.specs.declared.Limits.{Limits}
use Rattle.vault_types.specs.declared.JobConfig.{JobConfig}
use Rattle.vault_types.specs.declared.Name.{Name}
use Rattle.vault_types.specs.declared.Fault.{Fault}
use Rattle.vault_types.specs.declared.Fault.TheVariants as fault
use Rattle.vault_types.specs.declared.Answer.{Answer}
use Rattle.vault_types.specs.declared.Answer.TheVariants.{Refused}
use Rattle.vault_types.specs.declared.Line.TheVariants.{Backup, Restore, Delete}
use Rattle.vault_types.specs.State.{State, is_full, is_kept, floor_of, latest_of, next_of}
use Rattle.vault_types.specs.Bytes.{bytes_of}
use Rattle.vault_traits.specs.Counts.{added, Rose}
use Rattle.vault_traits.specs.Told.{ShelfTold, PlacesTold, SourceTold, SinkTold, Files}
use Rattle.vault_traits.specs.Files.{AreKept, ChangesOnly, IsEmptied, IsReaderOf, IsThere, MayBeEmptied, IsWhatWasTaken}
use Rattle.store_model.specs.Causes.{CausesRise, counts_of_source, counts_of_sink}
use Rattle.vault_types.specs.Events.{Change}
use Rattle.vault_types.specs.Script.{Sources, after}
use Rattle.store_model.specs.Outputs.{Reads}
use Rattle.store_model.specs.Steps.{answer_of, StepsLine, StepsOn, read_numbered, write_numbered}
use Rattle.store_model.specs.Calls.{AroundSink, AroundSource, BacksUpLine, DeletesLine, RestoresLine, backup_answer, restore_answer}
use Rattle.script_laws.proofs.LineLemmas.{unmoved, full_means, not_full_means, not_kept_means, place_means, memory_means, as_backup, as_restore, read_steps, read_kind, write_steps, write_kind, causes_source, causes_read, causes_sink, causes_write, done_no_read, done_no_write, kind_backup, kind_restore, kept_files, kept_twice, same_files, no_output, changes_files, changes_twice, output_of_change, same_output, written_output, numbered_output, no_gets, as_delete, causes_alone, full_is, not_kept_is}

own_set : (s : ℕ) → Rattle.std.specs.Prelude.nat_eq s s ≡ true
own_set s = search Rattle.std.proofs.Common.rules

-- the bytes under a name
abbrev bytes_in : Option Files → List ℕ → List ℕ
bytes_in None name = []
bytes_in (Some f) name = unwrap_or (f name) []

-- the bytes that were read are those under their names
abbrev AreToldIn : Option Files → Reads → Type 0
AreToldIn o reads = IfSome o (λ f. AllByRecursion (λ r. r.1 ≡ unwrap_or (f r.0) []) reads)

told_in : (o : Option Files) (name : List ℕ) → AreToldIn o ((name, bytes_in o name) ∷ [])
told_in None name = tt
told_in (Some f) name = (refl, tt)

none_told : (o : Option Files) → AreToldIn o []
none_told None = tt
none_told (Some f) = tt

-- a reader that was opened: its name is there, and what it has left are the bytes under it
source_there : (o : Option Files) (name text : List ℕ) (r : SourceTold) → text ≡ name → IsReaderOf o text r → IsThere o name
source_there None name text r same reader = tt
source_there (Some f) name text r same reader = subst (λ (n : List ℕ). IsSome (f n)) same reader.left.0

told_reader : (o : Option Files) (name text : List ℕ) (r : SourceTold) (read : List ℕ) → text ≡ name → IsReaderOf o text r → AreToldIn o ((name, unwrap_or r.left read) ∷ [])
told_reader None name text r read same reader = tt
told_reader (Some f) name text r read same reader = (
  ap (λ (o : Option (List ℕ)). unwrap_or o read) reader.left.1 ∙ some (f text) reader.left.0 ∙ ap (λ (n : List ℕ). unwrap_or (f n) []) same,
  tt,
)
  where
    some : (o : Option (List ℕ)) → IsSome o → unwrap_or o read ≡ unwrap_or o []
    some None h = cc
    some (Some x) h = refl

module _ {K : Type 0} (shelf : K → ShelfTold) (keeps : K → State → Option Change → Type 0) (known : K → Name → Type 0) (limits : Limits) (k k' : K) (p m q : PlacesTold) where
  pub full_line : (s : ℕ) (name : List ℕ) (config : JobConfig) (latest next : ℕ) → ((S : State) (other : Option Change) → keeps k S other → true ≡ is_full S s limits)
      → ((S : State) (other : Option Change) → keeps k S other → latest ≡ latest_of S s) → ((S : State) (other : Option Change) → keeps k S other → next ≡ next_of S)
      → StepsLine shelf keeps known limits (record { keeper = k; places = p }) (Backup s name config) (Refused (fault.Full s latest next)) (record { keeper = k; places = p })
  full_line s name config latest next full l n = record {
    kind = own_set s;
    causes = record { store = omega arith; place = omega arith; read = omega arith; write = omega arith };
    others = kept_files (Backup s name config) _ _ (same_files p.files);
    reads = (name, bytes_in p.files name) ∷ [];
    read = record { names = refl; told = told_in p.files name };
    there = λ done. cc;
    means = λ S other sources keep fed. (other, keep, unmoved limits sources S other (Backup s name config) (fault.Full s latest next) (known k) (shelf k) (full_means limits sources S s name config latest next (full S other keep) (l S other keep) (n S other keep)) (inr (inl (fault.Full s latest next, full_is limits S s name config latest next (full S other keep) (l S other keep) (n S other keep), refl))) refl);
    output = λ S other keep. no_output _ _ (same_files p.files);
  }

  -- a source that could not be opened
  pub no_source_line : (s : ℕ) (name : List ℕ) (config : JobConfig) → ((S : State) (other : Option Change) → keeps k S other → false ≡ is_full S s limits)
      → AreKept p.files q.files → q.read_faults ≡ p.read_faults → q.write_faults ≡ p.write_faults → (n : ℕ) → n ≡ q.faults → Rose p.faults q.faults
      → StepsLine shelf keeps known limits (record { keeper = k; places = p }) (Backup s name config) (Refused (fault.PlaceFault n)) (record { keeper = k; places = q })
  no_source_line s name config full files reads writes n is rose = record {
    kind = refl;
    causes = record { store = omega arith; place = (omega (arith, is, rose), omega (arith, is)); read = omega (arith, reads); write = omega (arith, writes) };
    others = kept_files (Backup s name config) _ _ files;
    reads = (name, bytes_in p.files name) ∷ [];
    read = record { names = refl; told = told_in p.files name };
    there = λ done. cc;
    means = λ S other sources keep fed. (other, keep, unmoved limits sources S other (Backup s name config) (fault.PlaceFault n) (known k) (shelf k) (not_full_means limits sources S s name config (fault.PlaceFault n) (full S other keep) refl (λ j e. another j e) refl) (inr (inr (inr refl))) refl);
    output = λ S other keep. no_output _ _ files;
  }
    where
      another : (j : ℕ) → Refused (fault.PlaceFault n) ≡ Refused (fault.TooMany j) → ⊥
      another j e = cc

  pub no_memory_line : (s : ℕ) (name : List ℕ) (config : JobConfig) → ((S : State) (other : Option Change) → keeps k S other → false ≡ is_full S s limits)
      → AreKept p.files q.files → q.read_faults ≡ p.read_faults → q.write_faults ≡ p.write_faults → p.faults ≤ q.faults
      → StepsLine shelf keeps known limits (record { keeper = k; places = p }) (Backup s name config) (Refused fault.Memory) (record { keeper = k; places = q })
  no_memory_line s name config full files reads writes later = record {
    kind = refl;
    causes = record { store = omega arith; place = later; read = omega (arith, reads); write = omega (arith, writes) };
    others = kept_files (Backup s name config) _ _ files;
    reads = (name, bytes_in p.files name) ∷ [];
    read = record { names = refl; told = told_in p.files name };
    there = λ done. cc;
    means = λ S other sources keep fed. (other, keep, unmoved limits sources S other (Backup s name config) fault.Memory (known k) (shelf k) (not_full_means limits sources S s name config fault.Memory (full S other keep) refl (λ j e. another j e) refl) (inr (inr (inl refl))) refl);
    output = λ S other keep. no_output _ _ files;
  }
    where
      another : (j : ℕ) → Refused fault.Memory ≡ Refused (fault.TooMany j) → ⊥
      another j e = cc

  -- a call over a source whose bytes the sources have
  given_from : (sources : Sources) (S : State) (other : Option Change) (s : ℕ) (name : List ℕ) (config : JobConfig) (a : Answer) (read : List ℕ) (r : SourceTold) → sources name ≡ unwrap_or r.left read
      → (next : Option Change) × keeps k' (after (λ _. unwrap_or r.left read) S (Backup s [] config) a) next × StepsOn limits (λ _. unwrap_or r.left read) S other (Backup s [] config) a next (known k) (known k') (shelf k) (shelf k')
      → (next : Option Change) × keeps k' (after (λ _. sources name) S (Backup s [] config) a) next × StepsOn limits (λ _. sources name) S other (Backup s [] config) a next (known k) (known k') (shelf k) (shelf k')
  given_from sources S other s name config a read r same steps =
      subst (λ (x : List ℕ). (next : Option Change) × keeps k' (after (λ _. x) S (Backup s [] config) a) next × StepsOn limits (λ _. x) S other (Backup s [] config) a next (known k) (known k') (shelf k) (shelf k')) (sym same) steps

  fresh_source : (r r' : SourceTold) (a : Answer) → r.faults ≡ 0 → CausesRise (counts_of_source (shelf k) r) (counts_of_source (shelf k') r') (a ∷ [])
      → CausesRise (record { store = (shelf k).faults; place = 0; read = 0; write = 0 }) (counts_of_source (shelf k') r') (a ∷ [])
  fresh_source r r' a fresh c = subst (λ (n : ℕ). CausesRise (record { store = (shelf k).faults; place = 0; read = n; write = 0 }) (counts_of_source (shelf k') r') (a ∷ [])) fresh c

  fresh_sink : (r r' : SinkTold) (a : Answer) → r.faults ≡ 0 → CausesRise (counts_of_sink (shelf k) r) (counts_of_sink (shelf k') r') (a ∷ [])
      → CausesRise (record { store = (shelf k).faults; place = 0; read = 0; write = 0 }) (counts_of_sink (shelf k') r') (a ∷ [])
  fresh_sink r r' a fresh c = subst (λ (n : ℕ). CausesRise (record { store = (shelf k).faults; place = 0; read = 0; write = n }) (counts_of_sink (shelf k') r') (a ∷ [])) fresh c

  pub backup_line_ok : (s : ℕ) (name text : List ℕ) (config : JobConfig) (a : Answer) (r r' : SourceTold) → text ≡ name → AroundSource p m q text r r' → BacksUpLine (keeps k) (keeps k') (known k) (known k') limits s config (shelf k) (shelf k') r r' (Ok a)
      → StepsLine shelf keeps known limits (record { keeper = k; places = p }) (Backup s name config) a (record { keeper = k'; places = q })
  backup_line_ok s name text config a r r' same around call = record {
    kind = kind_backup limits s name config a call.kind;
    causes = causes_source a _ _ p.faults q.faults p.read_faults q.read_faults p.write_faults q.write_faults r'.faults (fresh_source r r' a around.reader.fresh call.causes)
        (omega (arith, around.later, around.same)) (omega (arith, around.writes, around.same_writes)) (around.added_reads ∙ ap (λ (n : ℕ). added n r'.faults) around.reads) (done_no_read a call.done);
    others = kept_files (Backup s name config) _ _ (kept_twice p.files m.files q.files around.opened_files around.closed_files);
    reads = (name, unwrap_or r.left call.read) ∷ [];
    read = record { names = refl; told = told_reader p.files name text r call.read same around.reader };
    there = λ done. (source_there p.files name text r same around.reader, tt);
    means = λ S other sources keep fed.
        let st = given_from sources S other s name config a call.read r fed.0 (call.steps S other keep) in
        (st.0, st.1, as_backup limits sources S other st.0 s name config a (known k) (known k') (shelf k) (shelf k') st.2);
    output = λ S other keep. no_output _ _ (kept_twice p.files m.files q.files around.opened_files around.closed_files);
  }

  pub backup_line_err : (s : ℕ) (name text : List ℕ) (config : JobConfig) (f g : Fault) (r r' : SourceTold) → g ≡ read_numbered q.read_faults f → text ≡ name → AroundSource p m q text r r' → BacksUpLine (keeps k) (keeps k') (known k) (known k') limits s config (shelf k) (shelf k') r r' (Err f)
      → StepsLine shelf keeps known limits (record { keeper = k; places = p }) (Backup s name config) (Refused g) (record { keeper = k'; places = q })
  backup_line_err s name text config f g r r' is same around call = subst (λ (h : Fault). StepsLine shelf keeps known limits (record { keeper = k; places = p }) (Backup s name config) (Refused h) (record { keeper = k'; places = q })) (sym is) (record {
    kind = read_kind limits s name config f q.read_faults call.kind;
    causes = causes_read f _ _ p.faults q.faults p.read_faults q.read_faults p.write_faults q.write_faults r'.faults (fresh_source r r' (Refused f) around.reader.fresh call.causes)
        (omega (arith, around.later, around.same)) (omega (arith, around.writes, around.same_writes)) (around.added_reads ∙ ap (λ (n : ℕ). added n r'.faults) around.reads);
    others = kept_files (Backup s name config) _ _ (kept_twice p.files m.files q.files around.opened_files around.closed_files);
    reads = (name, unwrap_or r.left call.read) ∷ [];
    read = record { names = refl; told = told_reader p.files name text r call.read same around.reader };
    there = λ done. (source_there p.files name text r same around.reader, tt);
    means = λ S other sources keep fed.
        let st = given_from sources S other s name config (Refused f) call.read r fed.0 (call.steps S other keep) in
        (st.0, st.1, read_steps limits sources S other st.0 s name config f q.read_faults (known k) (known k') (shelf k) (shelf k') (as_backup limits sources S other st.0 s name config (Refused f) (known k) (known k') (shelf k) (shelf k') st.2));
    output = λ S other keep. no_output _ _ (kept_twice p.files m.files q.files around.opened_files around.closed_files);
  })

  pub not_kept_line : (s v : ℕ) (name : List ℕ) (cache floor latest : ℕ) → ((S : State) (other : Option Change) → keeps k S other → false ≡ is_kept S s v)
      → ((S : State) (other : Option Change) → keeps k S other → floor ≡ floor_of S s) → ((S : State) (other : Option Change) → keeps k S other → latest ≡ latest_of S s)
      → StepsLine shelf keeps known limits (record { keeper = k; places = p }) (Restore s v name cache) (Refused (fault.NotKept s v floor latest)) (record { keeper = k; places = p })
  not_kept_line s v name cache floor latest kept f l = record {
    kind = both (own_set s) (own_set v);
    causes = record { store = omega arith; place = omega arith; read = omega arith; write = omega arith };
    others = kept_files (Restore s v name cache) _ _ (same_files p.files);
    reads = [];
    read = record { names = refl; told = none_told p.files };
    there = λ done. tt;
    means = λ S other sources keep fed. (other, keep, unmoved limits sources S other (Restore s v name cache) (fault.NotKept s v floor latest) (known k) (shelf k) (not_kept_means limits sources S s v name cache floor latest (kept S other keep) (f S other keep) (l S other keep)) (inr (inl (fault.NotKept s v floor latest, not_kept_is limits S s v name cache floor latest (kept S other keep) (f S other keep) (l S other keep), refl))) refl);
    output = λ S other keep. same_output S s v name cache (floor, latest) p.files;
  }
    where
      both : {a b : Rattle.std.proofs.Common.Bool} → a ≡ true → b ≡ true → Rattle.std.proofs.Common.◌&&◌ a b ≡ true
      both h j = rw (h, j) refl

  pub no_sink_line : (s v : ℕ) (name : List ℕ) (cache : ℕ) → ((S : State) (other : Option Change) → keeps k S other → true ≡ is_kept S s v)
      → ChangesOnly p.files q.files name MayBeEmptied → q.read_faults ≡ p.read_faults → q.write_faults ≡ p.write_faults → (n : ℕ) → n ≡ q.faults → Rose p.faults q.faults
      → StepsLine shelf keeps known limits (record { keeper = k; places = p }) (Restore s v name cache) (Refused (fault.PlaceFault n)) (record { keeper = k; places = q })
  no_sink_line s v name cache kept files reads writes n is rose = record {
    kind = refl;
    causes = record { store = omega arith; place = (omega (arith, is, rose), omega (arith, is)); read = omega (arith, reads); write = omega (arith, writes) };
    others = changes_files s v name name cache p.files q.files MayBeEmptied refl files;
    reads = [];
    read = record { names = refl; told = none_told p.files };
    there = λ done. tt;
    means = λ S other sources keep fed. (other, keep, unmoved limits sources S other (Restore s v name cache) (fault.PlaceFault n) (known k) (shelf k) (place_means limits sources S s v name cache n (kept S other keep)) (inr (inr (inr refl))) refl);
    output = λ S other keep. output_of_change S s v name name cache (Refused (fault.PlaceFault n)) p.files q.files MayBeEmptied refl files (λ f e x y h. h);
  }

  pub no_room_line : (s v : ℕ) (name : List ℕ) (cache : ℕ) → ((S : State) (other : Option Change) → keeps k S other → true ≡ is_kept S s v)
      → ChangesOnly p.files q.files name MayBeEmptied → q.read_faults ≡ p.read_faults → q.write_faults ≡ p.write_faults → p.faults ≤ q.faults
      → StepsLine shelf keeps known limits (record { keeper = k; places = p }) (Restore s v name cache) (Refused fault.Memory) (record { keeper = k; places = q })
  no_room_line s v name cache kept files reads writes later = record {
    kind = refl;
    causes = record { store = omega arith; place = later; read = omega (arith, reads); write = omega (arith, writes) };
    others = changes_files s v name name cache p.files q.files MayBeEmptied refl files;
    reads = [];
    read = record { names = refl; told = none_told p.files };
    there = λ done. tt;
    means = λ S other sources keep fed. (other, keep, unmoved limits sources S other (Restore s v name cache) fault.Memory (known k) (shelf k) (memory_means limits sources S s v name cache (kept S other keep)) (inr (inr (inl refl))) (no_gets S s v cache));
    output = λ S other keep. output_of_change S s v name name cache (Refused fault.Memory) p.files q.files MayBeEmptied refl files
        (λ f e x y h. ⊎_elim (λ same. inl same) (λ empty. inr ([], (bytes_of S s v, refl), empty)) h);
  }

  pub restore_line_ok : (s v : ℕ) (name : List ℕ) (cache : ℕ) (a : Answer) (w w' : SinkTold) → ((S : State) (other : Option Change) → keeps k S other → true ≡ is_kept S s v) → AroundSink p m q name w w' → RestoresLine (keeps k) (keeps k') (known k) (known k') s v cache (shelf k) (shelf k') w w' (Ok a)
      → StepsLine shelf keeps known limits (record { keeper = k; places = p }) (Restore s v name cache) a (record { keeper = k'; places = q })
  restore_line_ok s v name cache a w w' kept around call = record {
    kind = kind_restore limits s v name cache a (call.kind limits);
    causes = causes_sink a _ _ p.faults q.faults p.read_faults q.read_faults p.write_faults q.write_faults w'.faults (fresh_sink w w' a around.writer.fresh call.causes)
        (omega (arith, around.later, around.same)) (omega (arith, around.reads, around.same_reads)) (around.added_writes ∙ ap (λ (n : ℕ). added n w'.faults) around.writes) (done_no_write a call.done);
    others = changes_files s v name name cache p.files q.files (IsWhatWasTaken w'.taken) refl both;
    reads = [];
    read = record { names = refl; told = none_told p.files };
    there = λ done. tt;
    means = λ S other sources keep fed. let st = call.steps S other limits keep in (st.0, st.1, as_restore limits sources S other st.0 s v name cache a (known k) (known k') (shelf k) (shelf k') st.2);
    output = λ S other keep. let st = call.steps S other limits keep in
        output_of_change S s v name name cache a p.files q.files (IsWhatWasTaken w'.taken) refl both
        (λ f e x y h. written_output limits S s v cache a w.taken w'.taken x y _ _ _ _ (kept S other keep) (call.kind limits) call.causes st.2.means.exact (call.written S other keep)
        (subst (λ (t : Option Files). IfSome t (λ u. w.taken ≡ Some [])) e around.writer.taken) h);
  }
    where
      both : ChangesOnly p.files q.files name (IsWhatWasTaken w'.taken)
      both = changes_twice p.files m.files q.files name IsEmptied (IsWhatWasTaken w'.taken) (IsWhatWasTaken w'.taken) (λ x y z h l. l) around.opened_files around.closed_files

  pub restore_line_err : (s v : ℕ) (name : List ℕ) (cache : ℕ) (f g : Fault) (w w' : SinkTold) → g ≡ write_numbered q.write_faults f → ((S : State) (other : Option Change) → keeps k S other → true ≡ is_kept S s v) → AroundSink p m q name w w' → RestoresLine (keeps k) (keeps k') (known k) (known k') s v cache (shelf k) (shelf k') w w' (Err f)
      → StepsLine shelf keeps known limits (record { keeper = k; places = p }) (Restore s v name cache) (Refused g) (record { keeper = k'; places = q })
  restore_line_err s v name cache f g w w' is kept around call = subst (λ (h : Fault). StepsLine shelf keeps known limits (record { keeper = k; places = p }) (Restore s v name cache) (Refused h) (record { keeper = k'; places = q })) (sym is) (record {
    kind = write_kind limits s v name cache f q.write_faults (kind_restore limits s v name cache (Refused f) (call.kind limits));
    causes = causes_write f _ _ p.faults q.faults p.read_faults q.read_faults p.write_faults q.write_faults w'.faults (fresh_sink w w' (Refused f) around.writer.fresh call.causes)
        (omega (arith, around.later, around.same)) (omega (arith, around.reads, around.same_reads)) (around.added_writes ∙ ap (λ (n : ℕ). added n w'.faults) around.writes);
    others = changes_files s v name name cache p.files q.files (IsWhatWasTaken w'.taken) refl both;
    reads = [];
    read = record { names = refl; told = none_told p.files };
    there = λ done. tt;
    means = λ S other sources keep fed. let st = call.steps S other limits keep in
        (st.0, st.1, write_steps limits sources S other st.0 s v name cache f q.write_faults (known k) (known k') (shelf k) (shelf k') (as_restore limits sources S other st.0 s v name cache (Refused f) (known k) (known k') (shelf k) (shelf k') st.2));
    output = λ S other keep. let st = call.steps S other limits keep in
        output_of_change S s v name name cache (Refused (write_numbered q.write_faults f)) p.files q.files (IsWhatWasTaken w'.taken) refl both
        (λ u e x y h. numbered_output (bytes_of S s v) f q.write_faults x y (written_output limits S s v cache (Refused f) w.taken w'.taken x y _ _ _ _ (kept S other keep) (call.kind limits) call.causes st.2.means.exact (call.written S other keep)
        (subst (λ (t : Option Files). IfSome t (λ u. w.taken ≡ Some [])) e around.writer.taken) h));
  })
    where
      both : ChangesOnly p.files q.files name (IsWhatWasTaken w'.taken)
      both = changes_twice p.files m.files q.files name IsEmptied (IsWhatWasTaken w'.taken) (IsWhatWasTaken w'.taken) (λ x y z h l. l) around.opened_files around.closed_files

  -- a deletion, which leaves the places alone
  pub delete_line : (s n : ℕ) (result : Result Answer Fault) (a : Answer) → a ≡ answer_of result → DeletesLine (keeps k) (keeps k') (known k) (known k') s n (shelf k) (shelf k') result
      → StepsLine shelf keeps known limits (record { keeper = k; places = p }) (Delete s n) a (record { keeper = k'; places = p })
  delete_line s n result a is call = subst (λ (b : Answer). StepsLine shelf keeps known limits (record { keeper = k; places = p }) (Delete s n) b (record { keeper = k'; places = p })) (sym is) (record {
    kind = call.kind limits;
    causes = causes_alone _ _ _ _ _ _ call.causes;
    others = kept_files (Delete s n) _ _ (same_files p.files);
    reads = [];
    read = record { names = refl; told = none_told p.files };
    there = λ done. tt;
    means = λ S other sources keep fed. let st = call.steps S other limits keep in (st.0, st.1, as_delete _ _ _ _ _ _ _ _ _ _ _ _ st.2);
    output = λ S other keep. no_output _ _ (same_files p.files);
  })

  -- a backup of a source, and a restore to a sink
  pub backup_line : (s : ℕ) (name : List ℕ) (config : JobConfig) (result : Result Answer Fault) (r r' : SourceTold) → AroundSource p m q name r r' → BacksUpLine (keeps k) (keeps k') (known k) (known k') limits s config (shelf k) (shelf k') r r' result
      → StepsLine shelf keeps known limits (record { keeper = k; places = p }) (Backup s name config) (backup_answer q.read_faults result) (record { keeper = k'; places = q })
  backup_line s name config (Ok a) r r' around call = backup_line_ok s name name config a r r' refl around call
  backup_line s name config (Err f) r r' around call = backup_line_err s name name config f (read_numbered q.read_faults f) r r' refl refl around call

  pub restore_line : (s v : ℕ) (name : List ℕ) (cache : ℕ) (result : Result Answer Fault) (w w' : SinkTold) → ((S : State) (other : Option Change) → keeps k S other → true ≡ is_kept S s v) → AroundSink p m q name w w'
      → RestoresLine (keeps k) (keeps k') (known k) (known k') s v cache (shelf k) (shelf k') w w' result
      → StepsLine shelf keeps known limits (record { keeper = k; places = p }) (Restore s v name cache) (restore_answer q.write_faults result) (record { keeper = k'; places = q })
  restore_line s v name cache (Ok a) w w' kept around call = restore_line_ok s v name cache a w w' kept around call
  restore_line s v name cache (Err f) w w' kept around call = restore_line_err s v name cache f (write_numbered q.write_faults f) w w' refl kept around call
