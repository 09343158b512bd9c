-- What is carried out of a record.
use Rattle.std.proofs.Common.{◌≡◌, ◌⊎◌, inl, inr, ℕ, zero, suc, List, [], ◌∷◌, ◌++◌, Option, Some, None, Bool, true, false, cond, refl, sym, ◌∙◌, ap, subst, ◌+◌, ◌%◌, ◌/◌, ◌<◌, ◌≤◌, length, take, drop, take-append-drop, append_assoc, arith, get_or, below_more, ◌-◌, length-drop}
use Rattle.std.proofs.lemmas.List.{append-nil, take_more, take_all}
use Rattle.std.specs.Prelude.{◌==◌}
use Rattle.std.specs.List.{All}
use Rattle.vault_types.specs.Shelf.{Blobs, with_blob}
use Rattle.vault_traits.specs.Crash.{ShelfStep, Wrote, Settled, History, IsImage}
use Rattle.vault_ports.specs.declared.entries.Entry.{Entry}
use Rattle.vault_ports.specs.declared.entries.Entry.TheVariants.{Put, Floor, Remove, Settle}
use Rattle.vault_ports.specs.Record.{Write, reading, history_from, history_then, settled_blobs, writes_since, carried_out, image_of, entry_step, steps_after, applied, replayed, IsWrite, writes_of, last_write, AreSettled}

-- ---- an image by its bits is an image

carried_push : (m : Blobs) (ws : List Write) (w : Write) (t : ℕ) → (carried_out m (ws ++ w ∷ []) t ≡ carried_out m ws t) ⊎ (carried_out m (ws ++ w ∷ []) t ≡ with_blob (carried_out m ws t) w.0 w.1)
carried_push m [] w t = either (t % 2 == 1)
  where
    either : (b : Bool) → (cond b (with_blob m w.0 w.1) m ≡ m) ⊎ (cond b (with_blob m w.0 w.1) m ≡ with_blob m w.0 w.1)
    either true = inr refl
    either false = inl refl
carried_push m (x ∷ ws) w t = carried_push (cond (t % 2 == 1) (with_blob m x.0 x.1) m) ws w (t / 2)

image_step : (h : History) (w : Write) (t : ℕ) → IsImage h (image_of h t) → IsImage (Wrote w.0 w.1 ∷ h) (image_of (Wrote w.0 w.1 ∷ h) t)
image_step h w t image = elim (carried_push (settled_blobs h) (writes_since h) w t) [
  | inl e ↦ inl (subst (λ (b : Blobs). IsImage h b) (sym e) image)
  | inr e ↦ inr (image_of h t, image, e)
]

image_from : (base : Blobs) (steps : List ShelfStep) (t : ℕ) → IsImage (history_from base steps) (image_of (history_from base steps) t)
image_from base [] t = refl
image_from base (Wrote name bytes ∷ past) t = image_step (history_from base past) (name, bytes) t (image_from base past t)
image_from base (Settled m ∷ past) t = refl

pub is_image : (base : Blobs) (steps : List ShelfStep) (last : Option Write) (t : ℕ) → IsImage (history_then (history_from base steps) last) (image_of (history_then (history_from base steps) last) t)
is_image base steps None t = image_from base steps t
is_image base steps (Some w) t = image_step (history_from base steps) w t (image_from base steps t)

-- ---- entries

-- all that was done is what is read
pub reading_replayed : (base : Blobs) (past : List ShelfStep) (es : List Entry) → reading base (steps_after base past es) ≡ replayed (reading base past) es
reading_replayed base past [] = refl
reading_replayed base past (Put w ∷ es) = reading_replayed base (entry_step (reading base past) (Put w) ∷ past) es
reading_replayed base past (Floor set f ∷ es) = reading_replayed base (entry_step (reading base past) (Floor set f) ∷ past) es
reading_replayed base past (Remove name ∷ es) = reading_replayed base (entry_step (reading base past) (Remove name) ∷ past) es
reading_replayed base past (Settle ∷ es) = reading_replayed base (entry_step (reading base past) Settle ∷ past) es

pub steps_append : (base : Blobs) (past : List ShelfStep) (es fs : List Entry) → steps_after base past (es ++ fs) ≡ steps_after base (steps_after base past es) fs
steps_append base past [] fs = refl
steps_append base past (e ∷ es) fs = steps_append base (entry_step (reading base past) e ∷ past) es fs

replayed_settle : (m : Blobs) (es : List Entry) → replayed m (es ++ Settle ∷ []) ≡ replayed m es
replayed_settle m [] = refl
replayed_settle m (e ∷ es) = replayed_settle (applied m e) es

pub any_write : (e : Entry) → ((e ≡ Settle) → ⊥) → IsWrite e
any_write (Put w) not = tt
any_write (Floor set f) not = tt
any_write (Remove name) not = tt
any_write Settle not = not refl

pub none_settled : AreSettled []
none_settled base = (refl, refl)

ends_settled : (es : List Entry) → AreSettled (es ++ Settle ∷ [])
ends_settled es base = (
  ap (λ (s : List ShelfStep). settled_blobs (history_from base s)) (steps_append base [] es (Settle ∷ [])) ∙ reading_replayed base [] es ∙ sym (replayed_settle base es),
  ap (λ (s : List ShelfStep). writes_since (history_from base s)) (steps_append base [] es (Settle ∷ [])),
)

pub settled_here : (es : List Entry) (i : ℕ) (e : Entry) → i < length es → e ≡ get_or es i e → e ≡ Settle → AreSettled (take (i + 1) es)
settled_here es i e within at is = subst AreSettled (sym (take_more es i e within ∙ ap (λ (x : Entry). take i es ++ x ∷ []) (sym at ∙ is))) (ends_settled (take i es))

-- ---- the writes since a settle

head_write : (e : Entry) (es : List Entry) → All IsWrite (e ∷ es) → IsWrite e
head_write e es all = all 0 e (omega arith)

tail_writes : (e : Entry) (es : List Entry) → All IsWrite (e ∷ es) → All IsWrite es
tail_writes e es all = λ k d within. all (suc k) d (omega arith)

settled_writes : (base : Blobs) (past : List ShelfStep) (es : List Entry) → All IsWrite es → settled_blobs (history_from base (steps_after base past es)) ≡ settled_blobs (history_from base past)
settled_writes base past [] all = refl
settled_writes base past (Put w ∷ es) all = settled_writes base (entry_step (reading base past) (Put w) ∷ past) es (tail_writes (Put w) es all)
settled_writes base past (Floor set f ∷ es) all = settled_writes base (entry_step (reading base past) (Floor set f) ∷ past) es (tail_writes (Floor set f) es all)
settled_writes base past (Remove name ∷ es) all = settled_writes base (entry_step (reading base past) (Remove name) ∷ past) es (tail_writes (Remove name) es all)
settled_writes base past (Settle ∷ es) all = absurd (head_write Settle es all)

since_writes : (base : Blobs) (past : List ShelfStep) (es : List Entry) → All IsWrite es → writes_since (history_from base (steps_after base past es)) ≡ writes_since (history_from base past) ++ writes_of es
since_writes base past [] all = sym (append-nil (writes_since (history_from base past)))
since_writes base past (Put w ∷ es) all = since_writes base (entry_step (reading base past) (Put w) ∷ past) es (tail_writes (Put w) es all) ∙ append_assoc (writes_since (history_from base past)) _ (writes_of es)
since_writes base past (Floor set f ∷ es) all = since_writes base (entry_step (reading base past) (Floor set f) ∷ past) es (tail_writes (Floor set f) es all) ∙ append_assoc (writes_since (history_from base past)) _ (writes_of es)
since_writes base past (Remove name ∷ es) all = since_writes base (entry_step (reading base past) (Remove name) ∷ past) es (tail_writes (Remove name) es all) ∙ append_assoc (writes_since (history_from base past)) _ (writes_of es)
since_writes base past (Settle ∷ es) all = absurd (head_write Settle es all)

settled_then : (h : History) (w : Option Write) → settled_blobs (history_then h w) ≡ settled_blobs h
settled_then h None = refl
settled_then h (Some w) = refl

since_then : (h : History) (w : Option Write) → writes_since (history_then h w) ≡ writes_since h ++ last_write w
since_then h None = sym (append-nil (writes_since h))
since_then h (Some w) = refl

-- the image, by its parts
pub image_exact : (base m1 m2 m3 : Blobs) (es : List Entry) (k taken rest : ℕ) (last : Option Write)
    → m1 ≡ replayed base (take k es) → All IsWrite (drop k es) → AreSettled (take k es)
    → ((more : List Write) → carried_out m1 (writes_of (drop k es) ++ more) taken ≡ carried_out m2 more rest)
    → m3 ≡ carried_out m2 (last_write last) rest
    → m3 ≡ image_of (history_then (history_from base (steps_after base [] es)) last) taken
image_exact base m1 m2 m3 es k taken rest last first writes ends chosen at_last =
    at_last ∙ sym (chosen (last_write last))
    ∙ ap (λ (m : Blobs). carried_out m (writes_of (drop k es) ++ last_write last) taken) (sym is_settled)
    ∙ ap (λ (ws : List Write). carried_out (settled_blobs h) ws taken) (sym are_writes)
  where
    front : List ShelfStep
    front = steps_after base [] (take k es)

    h : History
    h = history_then (history_from base (steps_after base [] es)) last

    same : steps_after base [] es ≡ steps_after base front (drop k es)
    same = ap (steps_after base []) (sym (take-append-drop k es)) ∙ steps_append base [] (take k es) (drop k es)

    is_settled : settled_blobs h ≡ m1
    is_settled = settled_then (history_from base (steps_after base [] es)) last ∙ ap (λ (s : List ShelfStep). settled_blobs (history_from base s)) same
        ∙ settled_writes base front (drop k es) writes ∙ (ends base).0 ∙ sym first

    are_writes : writes_since h ≡ writes_of (drop k es) ++ last_write last
    are_writes = since_then (history_from base (steps_after base [] es)) last
        ∙ ap (λ (ws : List Write). ws ++ last_write last) (ap (λ (s : List ShelfStep). writes_since (history_from base s)) same ∙ since_writes base front (drop k es) writes ∙ ap (λ (ws : List Write). ws ++ writes_of (drop k es)) (ends base).1)

-- one entry more that is no settle
pub writes_more : (es : List Entry) (from to i : ℕ) (e : Entry) → to ≡ from → i < length es → e ≡ get_or es i e → (e ≡ Settle → ⊥) → ((k : ℕ) (d : Entry) → from ≤ k → k < i → IsWrite (get_or es k d))
    → (k : ℕ) (d : Entry) → to ≤ k → k < i + 1 → IsWrite (get_or es k d)
writes_more es from to i e same within at not below k d above under =
    below_more (λ (k : ℕ). to ≤ k → IsWrite (get_or es k d)) i (λ k less above. below k d (omega arith) less)
    (λ above. subst IsWrite (at ∙ any_default es i e d within) (any_write e not)) k under above
  where
    any_default : (es : List Entry) (i : ℕ) (a b : Entry) → i < length es → get_or es i a ≡ get_or es i b
    any_default [] i a b within = absurd (omega arith)
    any_default (x ∷ es) zero a b within = refl
    any_default (x ∷ es) (suc i) a b within = any_default es i a b (omega arith)

pub rest_of : (k : ℕ) (es : List Entry) → take (length es - k) (drop k es) ≡ drop k es
rest_of k es = take_all _ _ (omega (arith, length-drop k es))
