-- What a row of words says as a timetable of a plan: the sheet, or the one refusal. And how a sheet is written.
use Rattle.std.specs.Prelude.{◌≡◌, ℕ, ◌+◌, ◌*◌, ◌/◌, ◌%◌, ◌&&◌, ◌↔◌, List, [], ◌∷◌, ◌++◌, length, Some, None, Ok, Option, Result, nat_le, nat_lt, slice_index_or}
use Rattle.std.specs.List.{range_with_len, flat_map}
use Rattle.words.specs.declared.fault.Layer.TheVariants.{Sheet as sheet_layer}
use Rattle.words.specs.declared.fault.Refusal.{Refusal}
use Rattle.words.specs.declared.kind.Kind.TheVariants.{Exec, Transfer, End}
use Rattle.words.specs.Records as said
use Rattle.words.specs.Records.{Said, machine, regions, task, channel, end, and_then}
use Rattle.board.specs.declared.Seat.{Seat}
use Rattle.board.specs.Entries.{exec, transfer, length_of}
use Rattle.board.specs.Files.{Checked, ◌also◌, holds_in, within, Rules, reads, file_of}
use Rattle.board.specs.Plans.{PlanView, Valid}
use Rattle.board.specs.Sheets.{Sheet, Fits, seat_of, empty, with_exec, with_transfer}

-- ---- a seat in one word: task × 64 + core × 8 + region
abbrev pub task_in : ℕ → ℕ
task_in seat = seat / 64

abbrev pub core_in : ℕ → ℕ
core_in seat = seat / 8 % 8

abbrev pub region_in : ℕ → ℕ
region_in seat = seat % 8

-- ---- reading
-- what was read so far, and the least task and the least value that may still come
pub record Loaded : Type 0 where
  pub sheet : Sheet
  pub next_task : ℕ
  pub next_value : ℕ

abbrev pub loaded_of : Sheet → ℕ → ℕ → Loaded
loaded_of s t v = record { sheet = s; next_task = t; next_value = v }

-- why a record may not stand at this place, where tasks and values have to rise to these at least;
-- what is no record of a timetable is kept out by its kind
abbrev pub why : PlanView → ℕ → ℕ → ℕ → Said → Checked
why p next_task next_value place (machine c t d s) = Ok tt
why p next_task next_value place (regions at ns) = Ok tt
why p next_task next_value place (task limit local) = Ok tt
why p next_task next_value place (channel bytes pair) = Ok tt
why p next_task next_value place (said.exec start seat) =
    within (place + 1) seat 0 4095
    also holds_in sheet_layer (nat_lt (task_in seat) (length p.tasks) && (nat_lt (core_in seat) p.cores && nat_lt (region_in seat) (length p.regions))) 8 (place + 1)
    also holds_in sheet_layer (nat_le next_task (task_in seat)) 9 (place + 1)
    also holds_in sheet_layer (nat_le (start + length_of p (exec (task_in seat))) 536870911) 10 place
why p next_task next_value place (said.transfer start value) =
    within (place + 1) value 0 511
    also holds_in sheet_layer (nat_lt (value / 2) (length p.channels)) 8 (place + 1)
    also holds_in sheet_layer (nat_le next_value value) 9 (place + 1)
    also holds_in sheet_layer (nat_le (start + length_of p (transfer value)) 536870911) 10 place
why p next_task next_value place (end count) = Ok tt

-- with one record more
abbrev pub then : Loaded → Said → Loaded
then l (machine c t d s) = l
then l (regions at ns) = l
then l (task limit local) = l
then l (channel bytes pair) = l
then l (said.exec start seat) =
    loaded_of (with_exec l.sheet (task_in seat) (Some (record { start = start; core = core_in seat; region = region_in seat }))) (task_in seat + 1) l.next_value
then l (said.transfer start value) = loaded_of (with_transfer l.sheet value (Some start)) l.next_task (value + 1)
then l (end count) = l

abbrev pub timetable_rules : PlanView → Rules Loaded
timetable_rules p = record { first = Exec ∷ Transfer ∷ End ∷ []; none = loaded_of (empty p) 0 0; why = λ l. why p l.next_task l.next_value; then = then }

abbrev pub read_sheet : PlanView → List ℕ → Result Sheet Refusal
read_sheet p ws = and_then (reads (timetable_rules p) ws) (λ l. Ok l.sheet)

-- ---- writing
abbrev pub exec_record : ℕ → Option Seat → List Said
exec_record t None = []
exec_record t (Some x) = said.exec x.start (t * 64 + x.core * 8 + x.region) ∷ []

abbrev pub transfer_record : ℕ → Option ℕ → List Said
transfer_record v None = []
transfer_record v (Some a) = said.transfer a v ∷ []

-- the records of a sheet: the placed execs by rising task, then the placed transfers by rising value
abbrev pub sheet_records : Sheet → List Said
sheet_records s =
    flat_map (λ t. exec_record t (seat_of s t)) (range_with_len 0 (length s.execs))
    ++ flat_map (λ v. transfer_record v (slice_index_or s.transfers v None)) (range_with_len 0 (length s.transfers))

abbrev pub written_sheet : Sheet → List ℕ
written_sheet s = file_of (sheet_records s)

-- the law of loading: words are loaded as a sheet of the plan exactly when the sheet fits the plan and the words are its written form
abbrev pub LawOfLoading : Type 0
LawOfLoading = (p : PlanView) → Valid p → (ws : List ℕ) (s : Sheet) → (read_sheet p ws ≡ Ok s) ↔ (Fits p s × (ws ≡ written_sheet s))
