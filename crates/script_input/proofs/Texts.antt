-- What was read of a text.
use Rattle.std.proofs.Common.{◌≡◌, ◌⊎◌, inl, inr, ◌≤◌, ◌<◌, ◌+◌, ◌++◌, ℕ, List, [], length, length-append, append_assoc, Option, Some, None, refl, sym, ap, subst, arith, ◌∙◌}
use Rattle.std.specs.Prelude.{IfSome, IfErr, IsErrAnd, Result, Ok, Err}
use Rattle.std.specs.Option.{option_map}
use Rattle.std.proofs.lemmas.List.{append-nil}
use Rattle.vault_types.specs.declared.Limits.{Limits}
use Rattle.vault_types.specs.declared.Line.{Line}
use Rattle.vault_types.specs.declared.Fault.{Fault}
use Rattle.vault_types.specs.declared.Fault.TheVariants as fault
use Rattle.vault_types.specs.Words.{script_of}
use Rattle.vault_traits.specs.Told.{SourceTold, Gives, IsAtEnd}
use Rattle.store_model.specs.Calls.{GivesAtMost}
use Rattle.store_model.specs.Early.{IsScript, IsScriptFault}
use Rattle.script_input.specs.Reading.{HasGiven, IsTextFault}

gives_nothing : (left : Option (List ℕ)) → Gives left left []
gives_nothing None = refl
gives_nothing (Some x) = refl

gives_then : (left mid rest : Option (List ℕ)) (x y : List ℕ) → Gives left mid x → Gives mid rest y → Gives left rest (x ++ y)
gives_then left mid None x y p q = p ∙ ap (option_map (λ z. x ++ z)) q
gives_then left mid (Some w) x y p q = p ∙ ap (option_map (λ z. x ++ z)) q ∙ ap Some (sym (append_assoc x y w))

pub given_nothing : (from : SourceTold) → HasGiven from from []
given_nothing from = record { given = gives_nothing from.left; later = omega arith }

pub given_then : (from mid to : SourceTold) (x y : List ℕ) → HasGiven from mid x → HasGiven mid to y → HasGiven from to (x ++ y)
given_then from mid to x y h j = record { given = gives_then from.left mid.left to.left x y h.given j.given; later = omega (arith, h.later, j.later) }

-- at most so many bytes were given
pub at_most : (from to : SourceTold) (x : List ℕ) (most : ℕ) → Gives from.left to.left x → length x ≤ most → GivesAtMost most from to
at_most from to x most g few = (x, g, few)

pub at_most_none : (from to : SourceTold) (most : ℕ) → to.left ≡ from.left → GivesAtMost most from to
at_most_none from to most same = ([], subst (λ (o : Option (List ℕ)). Gives from.left o []) (sym same) (gives_nothing from.left), omega arith)

pub at_most_then : (from mid to : SourceTold) (x : List ℕ) (more most : ℕ) → HasGiven from mid x → GivesAtMost more mid to → length x + more ≤ most → GivesAtMost most from to
at_most_then from mid to x more most h (y, g, few) enough = (x ++ y, gives_then from.left mid.left to.left x y h.given g, rw (length-append x y) (omega (arith, few, enough)))

-- more than so many bytes were given
gives_more : (left rest : Option (List ℕ)) (text : List ℕ) (limit : ℕ) → Gives left rest text → limit < length text → IfSome left (λ x. limit < length x)
gives_more None rest text limit g more = tt
gives_more (Some x) None text limit g more = absurd (let clash : ◌≡◌ {A = Option (List ℕ)} (Some x) None = g in cc)
gives_more (Some x) (Some y) text limit g more =
    let same : x ≡ text ++ y = cc in
    let len : length x ≡ length text + length y = ap length same ∙ length-append text y in
    omega (arith, len, more)

pub too_long : (from to : SourceTold) (text : List ℕ) (limit : ℕ) → HasGiven from to text → limit < length text → IsTextFault limit from to (fault.ScriptTooLong limit)
too_long from to text limit h more = (refl, gives_more from.left to.left text limit h.given more)

-- a fault of a later piece
pub later_fault : (limit : ℕ) (from mid to : SourceTold) (text : List ℕ) (f : Fault) → HasGiven from mid text → ((l : ℕ) → IsTextFault l mid to f) → IsTextFault limit from to f
later_fault limit from mid to text fault.Memory h e = tt
later_fault limit from mid to text (fault.ReadFault n) h e = let now = e limit in (omega (arith, h.later, now.0), now.1)
later_fault limit from mid to text (fault.ScriptTooLong n) h e =
    let one : n ≡ limit = (e limit).0 in
    let other : n ≡ limit + 1 = (e (limit + 1)).0 in
    absurd (omega (arith, one, other))
later_fault limit from mid to text fault.Usage h e = absurd (e limit)
later_fault limit from mid to text (fault.NotKept a b c d) h e = absurd (e limit)
later_fault limit from mid to text (fault.WriteFault n) h e = absurd (e limit)
later_fault limit from mid to text (fault.StoreFault n) h e = absurd (e limit)
later_fault limit from mid to text (fault.Damaged a b c) h e = absurd (e limit)
later_fault limit from mid to text (fault.TooMany n) h e = absurd (e limit)
later_fault limit from mid to text (fault.LastVersion a b c) h e = absurd (e limit)
later_fault limit from mid to text (fault.PlaceFault n) h e = absurd (e limit)
later_fault limit from mid to text (fault.BadLine n) h e = absurd (e limit)
later_fault limit from mid to text (fault.Full a b c) h e = absurd (e limit)

-- a fault that is handed on
pub refused_again : {T : Type 0} (P : Fault → Type 0) (r : Result T Fault) (f : Fault) → IsErrAnd r (λ g. g ≡ f) → P f → IfErr r P
refused_again P (Ok x) f same p = tt
refused_again P (Err g) f same p = subst P (sym same) p

-- the text is all that was left
whole : (left rest : Option (List ℕ)) (text : List ℕ) → Gives left rest text → IfSome rest (λ r. r ≡ []) → (P : List ℕ → Type 0) → P text → IfSome left P
whole None rest text g end P p = tt
whole (Some x) None text g end P p = absurd (let clash : ◌≡◌ {A = Option (List ℕ)} (Some x) None = g in cc)
whole (Some x) (Some y) text g end P p =
    let same : x ≡ text ++ y = cc in
    let none : text ++ y ≡ text = ap (λ (z : List ℕ). text ++ z) end ∙ append-nil text in
    subst P (sym (same ∙ none)) p

pub script_is : (limits : Limits) (from to : SourceTold) (text : List ℕ) (lines : List Line) → HasGiven from to text → length text ≤ limits.script → IsAtEnd to → script_of text ≡ Ok lines → IsScript limits from lines
script_is limits from to text lines h few end is = whole from.left to.left text h.given end (λ x. (length x ≤ limits.script) × (script_of x ≡ Ok lines)) (few, is)

pub text_refused : (limits : Limits) (from to : SourceTold) (f : Fault) → IsTextFault limits.script from to f → IsScriptFault limits from to f
text_refused limits from to fault.Memory e = tt
text_refused limits from to (fault.ReadFault n) e = e
text_refused limits from to (fault.ScriptTooLong n) e = e
text_refused limits from to fault.Usage e = absurd e
text_refused limits from to (fault.NotKept a b c d) e = absurd e
text_refused limits from to (fault.WriteFault n) e = absurd e
text_refused limits from to (fault.StoreFault n) e = absurd e
text_refused limits from to (fault.Damaged a b c) e = absurd e
text_refused limits from to (fault.TooMany n) e = absurd e
text_refused limits from to (fault.LastVersion a b c) e = absurd e
text_refused limits from to (fault.PlaceFault n) e = absurd e
text_refused limits from to (fault.BadLine n) e = absurd e
text_refused limits from to (fault.Full a b c) e = absurd e

pub lines_refused : (limits : Limits) (from to : SourceTold) (text : List ℕ) (f : Fault) → HasGiven from to text → length text ≤ limits.script → IsAtEnd to
    → (f ≡ fault.Memory) ⊎ ((n : ℕ) × (f ≡ fault.BadLine n) × (script_of text ≡ Err n)) → IsScriptFault limits from to f
lines_refused limits from to text f h few end (inl e) = subst (IsScriptFault limits from to) (sym e) tt
lines_refused limits from to text f h few end (inr (n, e, bad)) = subst (IsScriptFault limits from to) (sym e) (whole from.left to.left text h.given end (λ x. (length x ≤ limits.script) × (script_of x ≡ Err n)) (few, bad))
