-- Reading a blob from left to right: a field is a value and the bytes behind it.
use Rattle.std.specs.Prelude.{◌≡◌, ℕ, zero, suc, ◌*◌, List, [], ◌∷◌, length, take, drop, Option, Some, None, Result, Ok, Err, Bool, nat_lt, ◌==◌, if◌then◌else◌}
use Rattle.std.specs.Int.{Width, w32, byte_len, from_be_bytes}
use Rattle.vault_types.specs.declared.Fp.{Fp}
use Rattle.blob_parts.specs.declared.unread.Unread.{Unread}
use Rattle.blob_parts.specs.declared.unread.Unread.TheVariants as unread

infixl 10 ◌>>=◌
abbrev pub ◌>>=◌ : {A B : Type 0} → Option A → (A → Option B) → Option B
None >>= f = None
(Some x) >>= f = f x

abbrev pub Field : Type 0 → Type 0
Field X = List ℕ → Option (X × List ℕ)

-- what a function returned, seen by view, is what is read, unless there was no memory
abbrev pub Fails : {Y : Type 0} → Unread → Option Y → Type 0
Fails unread.Memory read = Unit {0}
Fails unread.Spelling read = read ≡ None

abbrev pub ReadsAs : {X Y : Type 0} → (X → Y) → Result X Unread → Option Y → Type 0
ReadsAs view (Ok x) read = read ≡ Some (view x)
ReadsAs view (Err e) read = Fails e read

-- a number
abbrev pub number_at : Width → Field ℕ
number_at w bytes =
    if nat_lt (length bytes) (byte_len w) then None
    else Some (from_be_bytes w (take (byte_len w) bytes), drop (byte_len w) bytes)

-- a sum
abbrev pub fp_at : Field Fp
fp_at bytes = if nat_lt (length bytes) 20 then None else Some (record { 0 = take 20 bytes }, drop 20 bytes)

-- one field and then another, which may depend on the first
abbrev pub both_at : {X Y : Type 0} → Field X → (X → Field Y) → Field (X × Y)
both_at first second bytes = first bytes >>= λ x. second x.0 x.1 >>= λ y. Some ((x.0, y.0), y.1)

-- a field with a value made of it
abbrev pub made_at : {X Y : Type 0} → (X → Y) → Field X → Field Y
made_at make field bytes = field bytes >>= λ x. Some (make x.0, x.1)

-- a field whose value passes the test
abbrev pub tested_at : {X : Type 0} → (X → Bool) → Field X → Field X
tested_at test field bytes = field bytes >>= λ x. if test x.0 then Some x else None

-- the four bytes by which a blob of a kind begins, as a number
abbrev pub tag_at : ℕ → Field ℕ
tag_at tag = tested_at (λ n. n == tag) (number_at w32)

-- n fields
abbrev pub many_at : {X : Type 0} → Field X → ℕ → Field (List X)
many_at field zero bytes = Some ([], bytes)
many_at field (suc n) bytes = field bytes >>= λ x. many_at field n x.1 >>= λ xs. Some (x.0 ∷ xs.0, xs.1)

-- n fields, of so many bytes each at least
abbrev pub wide_at : {X : Type 0} → ℕ → Field X → ℕ → Field (List X)
wide_at width field n bytes = if nat_lt (length bytes) (width * n) then None else many_at field n bytes

-- a count and so many fields
abbrev pub list_at : {X : Type 0} → ℕ → Field X → Field (List X)
list_at width field bytes = number_at w32 bytes >>= λ n. wide_at width field n.0 n.1
