-- The calls that change one entry of a sheet, or all: what each answers, and the sheet then.
use Rattle.std.specs.Prelude.{ℕ, ◌+◌, ◌*◌, Bool, not, ◌&&◌, List, length, is_some, Some, None, Ok, Err, Result, nat_le, nat_lt}
use Rattle.words.specs.declared.fault.Layer.TheVariants.{Sheet as sheet_layer}
use Rattle.words.specs.declared.fault.Refusal.{Refusal}
use Rattle.board.specs.declared.Entry.{Entry as Named}
use Rattle.board.specs.declared.Entry.TheVariants.{Exec, Write, Read}
use Rattle.board.specs.Entries.{Entry, exec, write, read, length_of}
use Rattle.board.specs.Files.{Checked, ◌also◌, holds_in}
use Rattle.board.specs.Plans.{PlanView}
use Rattle.board.specs.Sheets.{Sheet, start, with_exec, with_transfer}
use Rattle.board.specs.Timetables.{read_sheet}

-- the entry that a call names
abbrev pub entry_of : Named → Entry
entry_of (Exec t core region) = exec t
entry_of (Write c) = write c
entry_of (Read c) = read c

-- the plan has the task, core and region, or the channel
abbrev pub known : PlanView → Named → Bool
known p (Exec t core region) = nat_lt t (length p.tasks) && (nat_lt core p.cores && nat_lt region (length p.regions))
known p (Write c) = nat_lt c (length p.channels)
known p (Read c) = nat_lt c (length p.channels)

-- the sheet with the entry placed from this cycle on, and without the entry
abbrev pub put : Sheet → Named → ℕ → Sheet
put s (Exec t core region) a = with_exec s t (Some (record { start = a; core = core; region = region }))
put s (Write c) a = with_transfer s (2 * c) (Some a)
put s (Read c) a = with_transfer s (2 * c + 1) (Some a)

abbrev pub cleared : Sheet → Named → Sheet
cleared s (Exec t core region) = with_exec s t None
cleared s (Write c) = with_transfer s (2 * c) None
cleared s (Read c) = with_transfer s (2 * c + 1) None

-- ---- calls
-- an answer, and the sheet then: a refusal leaves it as it was
abbrev pub unless_refused : {A : Type 0} → Result A Refusal → Sheet → (A → Sheet) → Checked × Sheet
unless_refused (Ok x) s new = (Ok tt, new x)
unless_refused (Err e) s new = (Err e, s)

abbrev pub may_place : PlanView → Sheet → Named → ℕ → Checked
may_place p s n a =
    holds_in sheet_layer (known p n) 8 0
    also holds_in sheet_layer (nat_le (a + length_of p (entry_of n)) 536870911) 10 0
    also holds_in sheet_layer (not (is_some (start s (entry_of n)))) 11 0

abbrev pub placing : PlanView → Sheet → Named → ℕ → Checked × Sheet
placing p s n a = unless_refused (may_place p s n a) s (λ _. put s n a)

-- an exec is emptied wherever it is seated
abbrev pub may_withdraw : PlanView → Sheet → Named → Checked
may_withdraw p s n =
    holds_in sheet_layer (known p n) 8 0
    also holds_in sheet_layer (is_some (start s (entry_of n))) 12 0

abbrev pub withdrawing : PlanView → Sheet → Named → Checked × Sheet
withdrawing p s n = unless_refused (may_withdraw p s n) s (λ _. cleared s n)

-- loading replaces all placements
abbrev pub loading : PlanView → Sheet → List ℕ → Checked × Sheet
loading p s ws = unless_refused (read_sheet p ws) s (λ new. new)
