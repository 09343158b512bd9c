-- The printed lines.
use Rattle.std.specs.Prelude.{ℕ, List, [], ◌∷◌, ◌++◌, flat_map, length, codes, decimal, ◌==◌, if◌then◌else◌}
use Rattle.hex.specs.Hex.{encode_lower}
use Rattle.sha1.specs.Sha1.{sha1}
use Rattle.vault_types.specs.declared.Row.{Row}
use Rattle.vault_types.specs.declared.Recipe.{Recipe}
use Rattle.vault_types.specs.declared.Kind.{Kind}
use Rattle.vault_types.specs.declared.Kind.TheVariants as kind
use Rattle.vault_types.specs.declared.Fault.{Fault}
use Rattle.vault_types.specs.declared.Fault.TheVariants as fault
use Rattle.vault_types.specs.declared.Answer.{Answer}
use Rattle.vault_types.specs.declared.Answer.TheVariants.{Stored, Restored, Removed, Shown, Migrated, Scrubbed, Refused}

-- a line of the text, with its line feed
abbrev pub text_line : List ℕ → List ℕ
text_line text = text ++ 10 ∷ []

-- a version's number, behind its set's where that is not 0
abbrev pub version_text : ℕ → ℕ → List ℕ
version_text s v = if s == 0 then decimal v else decimal s ++ codes "/" ++ decimal v

abbrev pub kind_text : Kind → List ℕ
kind_text kind.Table = codes "table"
kind_text kind.Payload = codes "payload"
kind_text kind.Recipe = codes "recipe"
kind_text kind.Floor = codes "floor"

abbrev pub fault_text : Fault → List ℕ
fault_text fault.Usage = codes "error 2: usage"
fault_text (fault.NotKept s v floor latest) = codes "error 3: version not kept"
fault_text (fault.ReadFault n) = codes "error 4: source failed"
fault_text (fault.WriteFault n) = codes "error 5: sink failed"
fault_text (fault.StoreFault n) = codes "error 6: store failed"
fault_text (fault.Damaged kind number why) =
    codes "error 7: store damaged, " ++ kind_text kind ++ codes " " ++ decimal number
fault_text fault.Memory = codes "error 8: out of memory"
fault_text (fault.TooMany limit) = codes "error 9: too many chunks"
fault_text (fault.LastVersion s through latest) = codes "error 10: latest version"
fault_text (fault.PlaceFault n) = codes "error 11: place failed"
fault_text (fault.BadLine n) = codes "error 12: bad script, line " ++ decimal n
fault_text (fault.ScriptTooLong limit) = codes "error 12: script too long"
fault_text (fault.Full s latest next) = codes "error 14: store full"

-- the report line of a fault, with its line feed
abbrev pub fault_line : Fault → List ℕ
fault_line f = text_line (fault_text f)

-- the exit status of a fault
abbrev pub status_of : Fault → ℕ
status_of fault.Usage = 2
status_of (fault.NotKept s v floor latest) = 3
status_of (fault.ReadFault n) = 4
status_of (fault.WriteFault n) = 5
status_of (fault.StoreFault n) = 6
status_of (fault.Damaged kind number why) = 7
status_of fault.Memory = 8
status_of (fault.TooMany limit) = 9
status_of (fault.LastVersion s through latest) = 10
status_of (fault.PlaceFault n) = 11
status_of (fault.BadLine n) = 12
status_of (fault.ScriptTooLong limit) = 12
status_of (fault.Full s latest next) = 14

-- the report line of an answer; what `show` found has none
abbrev pub answer_text : Answer → List ℕ
answer_text (Stored s v chunks bytes containers written sparse) =
    text_line (codes "backup " ++ version_text s v ++ codes ": "
    ++ decimal chunks ++ codes " chunks, " ++ decimal bytes ++ codes " bytes, " ++ decimal containers
    ++ codes " new containers, "
    ++ decimal written ++ codes " bytes written, " ++ decimal sparse ++ codes " sparse")
answer_text (Restored s v bytes loads) =
    text_line
    (codes "restore " ++ version_text s v ++ codes ": " ++ decimal bytes ++ codes " bytes, "
    ++ decimal loads ++ codes " loads")
answer_text (Removed s n floor reclaimed) =
    text_line
    (codes "delete " ++ version_text s n ++ codes ": floor " ++ decimal floor ++ codes ", "
    ++ decimal reclaimed ++ codes " containers reclaimed")
answer_text (Shown s v rows) = []
answer_text (Migrated recipes) = text_line (codes "migrate: " ++ decimal recipes ++ codes " recipes")
answer_text (Scrubbed containers damaged) =
    text_line
    (codes "scrub: " ++ decimal containers ++ codes " containers, " ++ decimal damaged
    ++ codes " damaged")
answer_text (Refused f) = fault_line f

-- what `show` prints of a recipe
abbrev pub row_text : Row → List ℕ
row_text r = text_line (encode_lower r.fp.0 ++ codes " " ++ decimal r.id ++ codes " " ++ decimal r.len)

abbrev pub sparse_text : ℕ → List ℕ
sparse_text c = text_line (codes "sparse " ++ decimal c)

abbrev pub recipe_text : Recipe → List ℕ
recipe_text r =
    text_line
    (codes "version " ++ version_text r.set r.version ++ codes " length " ++ decimal r.length
    ++ codes " next " ++ decimal r.next
    ++ codes " chunks " ++ decimal (length r.rows) ++ codes " sparse " ++ decimal (length r.sparse))
    ++ flat_map row_text r.rows ++ flat_map sparse_text r.sparse

-- what `fill` prints of a version that it restored
abbrev pub output_text : ℕ → List ℕ → List ℕ
output_text v bytes = text_line (codes "output " ++ decimal v ++ codes " " ++ encode_lower (sha1 bytes))

-- what `scrub` prints of a container that is not good
abbrev pub damage_text : ℕ → List ℕ → List ℕ
damage_text id word = text_line (codes "container " ++ decimal id ++ codes " " ++ word)
