-- What is seen of an assembler, and what it makes of the payloads that it takes.
use Rattle.std.specs.Prelude.{◌≡◌, ◌≢◌, ◌⊎◌, ℕ, ◌+◌, ◌≤◌, Bool, true, false, List, [], ◌∷◌, ◌++◌, All, length, drop, Contains, Option, Some, None, IfSome}
use Rattle.std.specs.List.{AllByRecursion}
use Rattle.vault_types.specs.declared.Spot.{Spot}
use Rattle.vault_types.specs.declared.Step.{Step}
use Rattle.vault_types.specs.declared.Step.TheVariants.{Load, Evict, Serve}
use Rattle.vault_types.specs.Names.{fp}
use Rattle.vault_traits.specs.Told.{SinkTold, Takes}
use Rattle.stage_queue.specs.Ends.{Sender, Receiver}
use Rattle.restore_assembler.specs.declared.payload.Payload.{Payload}
use Rattle.restore_assembler.specs.Payloads.{Covers}
use Rattle.restore_assembler.specs.Copying.{Copying, wanted, HasCopied, IsOutputFault, IsTakenAt, version_bytes}
use Rattle.restore_stage.specs.declared.Loaded.{Loaded}
use Rattle.restore_stage.specs.declared.Loaded.TheVariants as loaded
use Rattle.restore_stage.specs.declared.Reply.{Reply}
use Rattle.restore_stage.specs.declared.Reply.TheVariants as reply

-- the copier, what the sink tells, how many bytes the version has, the two ends, and the reply that
-- waits to be sent
pub record Assembling : Type 0 where
  pub copying : Copying
  pub sink : SinkTold
  pub bytes : ℕ
  pub loads : Receiver Loaded
  pub reply : Sender Reply
  pub ready : List Reply

-- the reply, sent or not: none while it goes on
abbrev pub reply_of : Assembling → List Reply
reply_of s = s.reply.sent ++ s.ready

-- whether it has sent something
abbrev pub has_sent : List Reply → Bool
has_sent [] = false
has_sent (x ∷ xs) = true

-- how many items it has taken and sent
abbrev pub moves_of : Assembling → ℕ
moves_of s = length s.loads.taken + length s.reply.sent

-- the ids of the payloads, in order
abbrev pub ids : List Loaded → List ℕ
ids [] = []
ids (loaded.Payload p ∷ items) = p.id ∷ ids items
ids (loaded.Failed f ∷ items) = ids items

-- the ids that a plan loads, in order
abbrev pub load_ids : List Step → List ℕ
load_ids [] = []
load_ids (Load c ∷ steps) = c ∷ load_ids steps
load_ids (Evict c ∷ steps) = load_ids steps
load_ids (Serve ∷ steps) = load_ids steps

-- a payload that is not the one which is wanted, or does not cover its spots
pub record IsUnwanted (id : ℕ) (spots : List Spot) (item : Loaded) : Type 0 where
  pub payload : Payload
  pub is : item ≡ loaded.Payload payload
  pub why : (payload.id ≢ id) ⊎ (Covers id payload.bytes.items spots → ⊥)

-- each payload is the one that is known under its id
abbrev pub IsOf : (ℕ → List ℕ) → Loaded → Type 0
IsOf known (loaded.Payload p) = p.bytes.items ≡ known p.id
IsOf known (loaded.Failed f) = Unit {0}

abbrev pub AreOf : (ℕ → List ℕ) → List Loaded → Type 0
AreOf known items = AllByRecursion (IsOf known) items

-- of the steps that were at first some are left, and the payloads taken are those of the loads
-- before them, in order
pub record HasDone (steps : List Step) (s : Assembling) : Type 0 where
  pub behind : (k : ℕ) × (s.copying.steps ≡ drop k steps)
  pub loaded : ids s.loads.taken ++ load_ids s.copying.steps ≡ load_ids steps

-- the last item taken was not the one that was wanted behind those before it
pub record IsOff (steps : List Step) (s : Assembling) : Type 0 where
  pub front : List Loaded
  pub item : Loaded
  pub taken : s.loads.taken ≡ front ++ item ∷ []
  pub id : ℕ
  pub more : List ℕ
  pub wants : ids front ++ id ∷ more ≡ load_ids steps
  pub unwanted : IsUnwanted id s.copying.spots item

-- how far it has come, whatever the payloads are, from these steps and from this that the sink told
abbrev pub HasCome : SinkTold → List Step → Assembling → List Reply → Type 0
HasCome start steps s [] = HasDone steps s
HasCome start steps s (reply.Written bytes ∷ more) =
    HasDone steps s × All (λ step. step ≢ Serve) s.copying.steps × (bytes ≡ s.bytes)
HasCome start steps s (reply.Failed f ∷ more) =
    Contains s.loads.taken (loaded.Failed f) ⊎ IsOutputFault s.copying.whole start s.sink f
HasCome start steps s (reply.Unwanted ∷ more) = IsOff steps s

-- a front of the bytes was taken
pub record TakesFront (before now : SinkTold) (bytes : List ℕ) : Type 0 where
  pub front : List ℕ
  pub rest : List ℕ
  pub parts_are : front ++ rest ≡ bytes
  pub taken : Takes before.taken now.taken front

-- the bytes of the version have the sum that they should, if one is given; or there are no spots
abbrev pub HasSum : (ℕ → List ℕ) → Copying → Type 0
HasSum known c =
    (c.spots ≡ []) ⊎ IfSome c.whole (λ whole. fp (version_bytes known c.spots) ≡ whole.want)

-- what the sink has taken, where the payloads are known
abbrev pub HasWritten : (ℕ → List ℕ) → SinkTold → Assembling → List Reply → Type 0
HasWritten known start s [] =
    HasCopied known start s.sink s.copying × (wanted s.copying ≡ None → HasSum known s.copying)
HasWritten known start s (reply.Written bytes ∷ more) =
    Takes start.taken s.sink.taken (version_bytes known s.copying.spots) × HasSum known s.copying
HasWritten known start s (reply.Failed f ∷ more) =
    TakesFront start s.sink (version_bytes known s.copying.spots)
    × (Contains s.loads.taken (loaded.Failed f)
    ⊎ IsTakenAt (version_bytes known s.copying.spots) start s.sink f)
HasWritten known start s (reply.Unwanted ∷ more) =
    TakesFront start s.sink (version_bytes known s.copying.spots)

-- the copier took the payload, and did the steps up to the next load
pub record GoesOnWith (item : Loaded) (c d : Copying) (w v : SinkTold) : Type 0 where
  pub payload : Payload
  pub is : item ≡ loaded.Payload payload
  pub load : load_ids c.steps ≡ payload.id ∷ load_ids d.steps
  pub behind : (k : ℕ) × (d.steps ≡ drop k c.steps)
  pub copied : (known : ℕ → List ℕ) (start : SinkTold) → IsOf known item → HasCopied known start w c
      → HasCopied known start v d
  pub summed : (known : ℕ → List ℕ) (start : SinkTold) → IsOf known item → HasCopied known start w c
      → wanted d ≡ None → IfSome c.whole (λ whole. fp (version_bytes known c.spots) ≡ whole.want)

-- what comes of an item where the payload of this container is wanted: the copier goes on with it,
-- or there is a reply
abbrev pub ComesOf : ℕ → Loaded → Copying → Copying → SinkTold → SinkTold → Option Reply → Type 0
ComesOf id item c d w v None = GoesOnWith item c d w v
ComesOf id item c d w v (Some (reply.Written bytes)) = ⊥
ComesOf id item c d w v (Some (reply.Failed f)) =
    ((item ≡ loaded.Failed f) × (v ≡ w))
    ⊎ (IsOutputFault c.whole w v f
    × ((known : ℕ → List ℕ) (start : SinkTold) → IsOf known item → HasCopied known start w c
    → IsTakenAt (version_bytes known c.spots) start v f))
ComesOf id item c d w v (Some reply.Unwanted) = (v ≡ w) × IsUnwanted id c.spots item

pub record SeesItem (id : ℕ) (item : Loaded) (c d : Copying) (w v : SinkTold)
    (r : Option Reply) : Type 0 where
  pub spots : d.spots ≡ c.spots
  pub whole : d.whole ≡ c.whole
  pub later : w.faults ≤ v.faults
  pub comes : ComesOf id item c d w v r

-- the second has the lines and the version of the first, and has come at least as far
pub record IsSame (a b : Assembling) : Type 0 where
  pub from : b.loads.line ≡ a.loads.line
  pub to : b.reply.line ≡ a.reply.line
  pub bytes : b.bytes ≡ a.bytes
  pub spots : b.copying.spots ≡ a.copying.spots
  pub whole : b.copying.whole ≡ a.copying.whole
  pub later : a.sink.faults ≤ b.sink.faults
  pub more : (items : List Loaded) × (b.loads.taken ≡ a.loads.taken ++ items)
  pub come : (start : SinkTold) (steps : List Step) → start.faults ≤ a.sink.faults
      → HasCome start steps a (reply_of a) → HasCome start steps b (reply_of b)
  pub written : (known : ℕ → List ℕ) (start : SinkTold) → AreOf known b.loads.taken
      → HasWritten known start a (reply_of a) → HasWritten known start b (reply_of b)

-- an item that may be sent: a payload that is long enough for its spots, or a fault
abbrev pub IsRight : List Spot → Loaded → Type 0
IsRight spots (loaded.Payload p) = Covers p.id p.bytes.items spots
IsRight spots (loaded.Failed f) = Unit {0}
