-- What contracts see of the two ends of a line.
use Rattle.std.specs.Prelude.{List, refl}
use Rattle.std.specs.Coded.{Coded, code_by, coded×, coded_list}
use Rattle.atomic_table.specs.Seated.{TableId, table_id_coded}

-- the end that sends: which line it is of, and all that was sent by it, oldest first
pub record Sender (T : Type 0) : Type 0 where
  pub line : TableId
  pub sent : List T

-- the end that takes: which line it is of, and all that was taken by it, oldest first
pub record Receiver (T : Type 0) : Type 0 where
  pub line : TableId
  pub taken : List T

abbrev pub sender_code : {T : Type 0} → Coded T → Coded (Sender T)
sender_code {T} c =
    code_by (TableId × List T) (coded× table_id_coded (coded_list c)) (λ e. (e.line, e.sent))
    (λ p. record { line = p.0; sent = p.1 }) (λ _. refl)

abbrev pub receiver_code : {T : Type 0} → Coded T → Coded (Receiver T)
receiver_code {T} c =
    code_by (TableId × List T) (coded× table_id_coded (coded_list c)) (λ e. (e.line, e.taken))
    (λ p. record { line = p.0; taken = p.1 }) (λ _. refl)
