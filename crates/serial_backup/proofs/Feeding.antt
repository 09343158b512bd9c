-- Pieces on their way through the pass.
use Rattle.std.proofs.Common.{◌≡◌, inl, inr, ⊎_elim, ℕ, ◌*◌, ◌<◌, ◌≤◌, List, [], ◌∷◌, ◌++◌, length, map, Option, Some, None, refl, sym, ◌∙◌, ap, subst, arith, append-nil, append_assoc, length-append}
use Rattle.std.specs.Prelude.{Result, Ok, Err, OnOk, IfOk, IfErr, IfSome}
use Rattle.std.specs.Option.{option_map}
use Rattle.std.proofs.lemmas.List.{map-append}
use Rattle.vault_types.specs.declared.Fault.{Fault}
use Rattle.vault_types.specs.declared.Fault.TheVariants as fault
use Rattle.vault_types.specs.Tables.{Container}
use Rattle.vault_traits.specs.Told.{SourceTold, Gives, IsAtEnd}
use Rattle.vault_traits.specs.Counts.{Rose}
use Rattle.backup_pass.specs.declared.pass.Pass.{Pass}
use Rattle.backup_pass.specs.Passing.{HasPassed, index_in}
use Rattle.keeper_catalog.specs.View.{View}
use Rattle.backup_jobs.specs.Backup.{IsBackupFault}
use Rattle.backup_jobs.specs.declared.closing.StreamEnd.{StreamEnd}
use Rattle.backup_jobs.specs.Going.{Began, AreNamed, IsUnderway, IsPutStop, IsStopped, IsOver, HasEnded, rules_of, len_of}
use Rattle.backup_jobs.proofs.Jobs.{named_then, rose_from}
use Rattle.backup_jobs.proofs.Causes.{put_is_cause}
use Rattle.serial_backup.specs.Streaming.{IsFed, IsHalted, IsTooMany, IsTooManyInAll, IsGoing, HasPassedPiece}

pub passed_none : (b : Began) (now : View) (p : Pass) (lens read : List ℕ) (h : IsFed b now p lens read) (none : List Container) → none ≡ [] → HasPassed p (rules_of b) b.limits.chunks b.first read (h.containers ++ none)
passed_none b now p lens read h none is = subst (HasPassed p (rules_of b) b.limits.chunks b.first read) (sym (ap (λ xs. h.containers ++ xs) is ∙ append-nil h.containers)) h.passed

module _ (b : Began) (before now : View) (old new : Pass) (lens lens' read piece : List ℕ) (full : List Container) (h : IsFed b before old lens read) where
  pub fed_ok : {T : Type 0} (r : Result T Fault) → HasPassed new (rules_of b) b.limits.chunks b.first (read ++ piece) (h.containers ++ full) → index_in new ≡ index_in old
      → OnOk r (IsUnderway b now (h.containers ++ full)) → OnOk r (now.pending ≡ before.pending) → OnOk r (AreNamed before now full) → OnOk r (lens' ≡ lens ++ map len_of full) → OnOk r (IsFed b now new lens' (read ++ piece))
  fed_ok (Ok x) passed same under waits named l = record {
    containers = h.containers ++ full;
    underway = under;
    passed = passed;
    index = same ∙ h.index;
    waits = waits ∙ h.waits;
    named = named_then b.keeper before now h.containers full h.named named;
    lens_are = l ∙ ap (λ xs. xs ++ map len_of full) h.lens_are ∙ sym (map-append len_of h.containers full);
  }
  fed_ok (Err f) passed same under waits named l = tt

-- a put stopped, or the pass did
pub put_halts : (b : Began) (now : View) (Why : Fault → Type 0) {T : Type 0} (r : Result T Fault) → IfErr r (IsPutStop b now) → IfErr r (IsHalted b now Why)
put_halts b now Why (Ok x) h = tt
put_halts b now Why (Err f) h = record { containers = h.containers; underway = h.underway; cause = inl h.cause }

pub pass_halts : (b : Began) (now : View) (containers : List Container) (Why : Fault → Type 0) {T : Type 0} (r : Result T Fault) → IsUnderway b now containers → IfErr r Why → IfErr r (IsHalted b now Why)
pass_halts b now containers Why (Ok x) under h = tt
pass_halts b now containers Why (Err f) under h = record { containers = containers; underway = under; cause = inr h }

-- what stopped the pass is a cause of the backup's
settled_is_cause : (b : Began) (now : View) (to : SourceTold) (read : List ℕ) (f : Fault) → IsTooMany b read f → IsBackupFault b.config b.limits b.keeper.told.faults now.told.faults b.source to read f
settled_is_cause b now to read fault.Memory h = tt
settled_is_cause b now to read (fault.TooMany limit) h = (h.0, inl h.1)
settled_is_cause b now to read (fault.StoreFault n) h = absurd h
settled_is_cause b now to read fault.Usage h = absurd h
settled_is_cause b now to read (fault.NotKept s v floor latest) h = absurd h
settled_is_cause b now to read (fault.ReadFault n) h = absurd h
settled_is_cause b now to read (fault.WriteFault n) h = absurd h
settled_is_cause b now to read (fault.Damaged kind number why) h = absurd h
settled_is_cause b now to read (fault.LastVersion s through latest) h = absurd h
settled_is_cause b now to read (fault.PlaceFault n) h = absurd h
settled_is_cause b now to read (fault.BadLine n) h = absurd h
settled_is_cause b now to read (fault.ScriptTooLong limit) h = absurd h
settled_is_cause b now to read (fault.Full s latest next) h = absurd h

all_is_cause : (b : Began) (now : View) (to : SourceTold) (read : List ℕ) (f : Fault) → IsAtEnd to → IsTooManyInAll b read f → IsBackupFault b.config b.limits b.keeper.told.faults now.told.faults b.source to read f
all_is_cause b now to read fault.Memory end h = tt
all_is_cause b now to read (fault.TooMany limit) end h = (h.0, inr (inl (end, h.1)))
all_is_cause b now to read (fault.StoreFault n) end h = absurd h
all_is_cause b now to read fault.Usage end h = absurd h
all_is_cause b now to read (fault.NotKept s v floor latest) end h = absurd h
all_is_cause b now to read (fault.ReadFault n) end h = absurd h
all_is_cause b now to read (fault.WriteFault n) end h = absurd h
all_is_cause b now to read (fault.Damaged kind number why) end h = absurd h
all_is_cause b now to read (fault.LastVersion s through latest) end h = absurd h
all_is_cause b now to read (fault.PlaceFault n) end h = absurd h
all_is_cause b now to read (fault.BadLine n) end h = absurd h
all_is_cause b now to read (fault.ScriptTooLong limit) end h = absurd h
all_is_cause b now to read (fault.Full s latest next) end h = absurd h

-- a source that gave some bytes and then some more
pub gives_more : (a b c : Option (List ℕ)) (x y : List ℕ) → Gives a b x → Gives b c y → Gives a c (x ++ y)
gives_more a b c x y one two = one ∙ ap (λ o. option_map (λ z. x ++ z) o) two ∙ at c
  where
    at : (c : Option (List ℕ)) → option_map (λ z. x ++ z) (option_map (λ z. y ++ z) c) ≡ option_map (λ z. (x ++ y) ++ z) c
    at None = refl
    at (Some z) = ap (λ l. Some l) (sym (append_assoc x y z))

none_behind : (x y : List ℕ) → x ++ y ≡ [] → y ≡ []
none_behind x [] is = refl
none_behind x (y ∷ ys) is = absurd (let none : length (x ++ y ∷ ys) ≡ 0 = ap length is in omega (arith, none, length-append x (y ∷ ys)))

at_end : (a c : Option (List ℕ)) (x : List ℕ) → Gives a c x → IfSome a (λ rest. rest ≡ []) → IfSome c (λ rest. rest ≡ [])
at_end a None x gives end = tt
at_end a (Some z) x gives end = none_behind x z (subst (λ (o : Option (List ℕ)). IfSome o (λ rest. rest ≡ [])) gives end)

module _ (b : Began) (before now : View) (from to : SourceTold) (old : Pass) (lens read : List ℕ) (h : IsGoing b before from old lens read) where
  -- the source failed
  pub read_stops : to.left ≡ from.left → from.faults ≤ to.faults → Rose from.faults to.faults → (n : ℕ) → n ≡ to.faults → IsStopped b before to (fault.ReadFault n)
  read_stops same later rose n is = record {
    read = read;
    given = h.given ∙ ap (λ o. option_map (λ x. read ++ x) o) (sym same);
    within = h.within;
    source_later = omega (arith, h.source_later);
    containers = h.fed.containers;
    underway = h.fed.underway;
    cause = (rose_from b.source.faults from.faults n h.source_later (subst (λ k. Rose from.faults k) (sym is) rose), omega (arith, is));
  }

  -- the piece was read, and then there was a fault
  pub feed_stops : (piece : List ℕ) → length read ≤ b.limits.chunks * 65536 → length piece ≤ 65536 → {T : Type 0} (r : Result T Fault) → Gives from.left to.left piece → from.faults ≤ to.faults → IfErr r (IsHalted b now (IsTooMany b (read ++ piece))) → IfErr r (IsStopped b now to)
  feed_stops piece few one (Ok x) gives later halted = tt
  feed_stops piece few one (Err f) gives later halted = record {
    read = read ++ piece;
    given = gives_more b.source.left from.left to.left read piece h.given gives;
    within = omega (arith, few, one, length-append read piece);
    source_later = omega (arith, h.source_later);
    containers = halted.containers;
    underway = halted.underway;
    cause = ⊎_elim (put_is_cause b now to (read ++ piece) f) (settled_is_cause b now to (read ++ piece) f) halted.cause;
  }

  pub feed_goes : (piece : List ℕ) → length read ≤ b.limits.chunks * 65536 → length piece ≤ 65536 → (new : Pass) (lens' : List ℕ) (n : ℕ) → n ≡ length piece → (n ≡ 0 → IsAtEnd from) → Gives from.left to.left piece → from.faults ≤ to.faults → IsFed b now new lens' (read ++ piece) → HasPassedPiece b now to new lens' read n
  feed_goes piece few one new lens' n len end gives later fed = record {
    piece = piece;
    len = len;
    going = record { given = gives_more b.source.left from.left to.left read piece h.given gives; within = omega (arith, few, one, length-append read piece); source_later = omega (arith, h.source_later); fed = fed };
    end = λ none. at_end from.left to.left piece gives (end none);
  }

  -- the stream has ended, and then there was a fault
  pub end_stops : IsAtEnd from → {T : Type 0} (r : Result T Fault) → IfErr r (IsHalted b now (IsTooManyInAll b read)) → IfErr r (IsStopped b now from)
  end_stops end (Ok x) halted = tt
  end_stops end (Err f) halted = record {
    read = read;
    given = h.given;
    within = h.within;
    source_later = h.source_later;
    containers = halted.containers;
    underway = halted.underway;
    cause = ⊎_elim (put_is_cause b now from read f) (all_is_cause b now from read f end) halted.cause;
  }

-- more bytes were read than the limit of chunks can have
pub many_stop : (b : Began) (now : View) (to : SourceTold) (p : Pass) (lens read : List ℕ) → IsGoing b now to p lens read → (limit : ℕ) → limit ≡ b.limits.chunks → b.limits.chunks * 65536 < length read → IsStopped b now to (fault.TooMany limit)
many_stop b now to p lens read h limit is many = record {
  read = read;
  given = h.given;
  within = h.within;
  source_later = h.source_later;
  containers = h.fed.containers;
  underway = h.fed.underway;
  cause = (is, inr (inr many));
}

-- nothing has been noted yet
pub going_from : (b : Began) (now : View) (to : SourceTold) (p : Pass) (lens : List ℕ) → lens ≡ [] → IsGoing b now to p [] [] → IsGoing b now to p lens []
going_from b now to p lens none h = subst (λ (l : List ℕ). IsGoing b now to p l []) (sym none) h

-- the pass has ended, or stopped
pub ends_over : (b : Began) (before now : View) (to : SourceTold) (pass : Pass) (lens lens' read : List ℕ) (h : IsGoing b before to pass lens read) → IsAtEnd to → (r : Result StreamEnd Fault)
    → IfOk r (λ e. HasEnded b now e lens' read) → IfErr r (IsHalted b now (IsTooManyInAll b read)) → IsOver b now to lens' r
ends_over b before now to pass lens lens' read h end (Ok e) ok err = (record { read = read; given = h.given; source_later = h.source_later; end = end; ended = ok }, tt)
ends_over b before now to pass lens lens' read h end (Err f) ok err = (tt, end_stops b before now to to pass lens read h end {T = StreamEnd} (Err f) err)
