-- The two-task plan and what is said of it, in one table.
use Rattle.std.specs.Prelude.{◌≡◌, ℕ, List, [], ◌∷◌, Some, Ok, Err}
use Rattle.words.specs.declared.fault.Layer.TheVariants.{Words}
use Rattle.words.specs.Shown.{refusal}
use Rattle.board.specs.Plans.{PlanView, plan_of, cycles, exec_length, transfer_length, need}
use Rattle.board.specs.Reading.{read_plan, written}
use Rattle.board.specs.Sheets.{Sheet, empty, with_exec, with_transfer}
use Rattle.board.specs.Timetables.{read_sheet, written_sheet}
use Rattle.board.specs.Totals.{wanted, clear}

-- two cores, slots of 4 cycles and 12 bytes, regions of 60 and 40 bytes; task 0 gives 24 bytes to task 1
abbrev pub two_task : PlanView
two_task =
    plan_of 2 4 12 100 (60 ∷ 40 ∷ []) (record { limit = 10; local = 20 } ∷ record { limit = 6; local = 30 } ∷ []) (record { from = 0; to = 1; bytes = 24 } ∷ [])

-- its file
abbrev pub two_task_words : List ℕ
two_task_words =
    0x20000002 ∷ 0x4 ∷ 0xC ∷ 0x64
    ∷ 0x40000002 ∷ 0x3C ∷ 0x28
    ∷ 0x6000000A ∷ 0x14
    ∷ 0x60000006 ∷ 0x1E
    ∷ 0x80000018 ∷ 0x1
    ∷ 0xE000000D ∷ []

-- the timetable that is built of it
abbrev pub built : Sheet
built = record {
  execs = Some (record { start = 0; core = 0; region = 0 }) ∷ Some (record { start = 26; core = 0; region = 0 }) ∷ [];
  transfers = Some 10 ∷ Some 18 ∷ [];
}

-- that timetable's file
abbrev pub built_words : List ℕ
built_words =
    0xA0000000 ∷ 0x0 ∷ 0xA000001A ∷ 0x40
    ∷ 0xC000000A ∷ 0x0 ∷ 0xC0000012 ∷ 0x1
    ∷ 0xE0000008 ∷ []

-- sheets that are not safe: only task 0 is placed
abbrev pub begun : Sheet
begun = with_exec (empty two_task) 0 (Some (record { start = 0; core = 0; region = 0 }))

-- the read comes one cycle too soon
abbrev pub hasty : Sheet
hasty = with_transfer built 1 (Some 17)

-- so with task 1 on the other core
abbrev pub apart : Sheet
apart = with_exec hasty 1 (Some (record { start = 26; core = 1; region = 0 }))

-- task 0 is in a region that is too small
abbrev pub cramped : Sheet
cramped = with_exec built 0 (Some (record { start = 0; core = 0; region = 1 }))

-- wanted and clear
abbrev pub totals : Sheet → ℕ × ℕ
totals s = (wanted two_task s, clear two_task s)

-- what is shown of all these
pub record WorkedCases : Type 0 where
  pub file : written two_task ≡ two_task_words
  pub reads : read_plan two_task_words ≡ Ok two_task
  pub empty_file : read_plan [] ≡ Err (refusal 1 Words 0)
  pub one_byte : cycles two_task 1 ≡ 4
  pub full_slot : cycles two_task 12 ≡ 4
  pub one_more : cycles two_task 13 ≡ 8
  pub exec_lengths : (exec_length two_task 0 ≡ 10) × (exec_length two_task 1 ≡ 6)
  pub transfer_lengths : transfer_length two_task 0 ≡ 8
  pub needs : (need two_task 0 ≡ 44) × (need two_task 1 ≡ 54)
  pub timetable : written_sheet built ≡ built_words
  pub loads : read_sheet two_task built_words ≡ Ok built
  pub new_totals : totals (empty two_task) ≡ (32, 0)
  pub begun_totals : totals begun ≡ (42, 20)
  pub built_totals : totals built ≡ (64, 64)
  pub hasty_totals : totals hasty ≡ (65, 61)
  pub apart_totals : totals apart ≡ (65, 63)
  pub cramped_totals : totals cramped ≡ (64, 46)
