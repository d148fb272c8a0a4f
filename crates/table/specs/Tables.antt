-- What a table stands for: a plan and a sheet of it.
use Rattle.std.specs.Prelude.{◌≡◌, ℕ, ◌+◌, ◌*◌, cond, Some, None, Option, Result}
use Rattle.board.specs.declared.Entry.{Entry}
use Rattle.board.specs.declared.Entry.TheVariants.{Exec, Write, Read}
use Rattle.board.specs.Entries.{length_of}
use Rattle.board.specs.Files.{Checked}
use Rattle.board.specs.Placing.{entry_of, known, put, cleared}
use Rattle.board.specs.Plans.{PlanView}
use Rattle.board.specs.Sheets.{Sheet}
use Rattle.placements.specs.declared.fault.Fault.{Fault}
use Rattle.placements.specs.Shown.{reported}
use Rattle.plan.specs.Views.{view}
use Rattle.table.specs.declared.model.Table.{Table}
use Rattle.slots.specs.Views.{sheet_of}

abbrev pub plan_in : Table → PlanView
plan_in t = view t.plan.now

abbrev pub sheet : Table → Sheet
sheet t = sheet_of t.slots

-- a call keeps the plan, gives the answer that is due and leaves the sheet that is due
pub record Leaves (old new : Table) (answer : Result (Unit {0}) Fault) (due : Checked × Sheet) : Type 0 where
  pub plan : new.plan ≡ old.plan
  pub after : (reported answer, sheet new) ≡ due

-- the length of an entry that the plan has
abbrev pub length_if_known : PlanView → Entry → Option ℕ
length_if_known p n = cond (known p n) (Some (length_of p (entry_of n))) None

-- the number of an entry's slot
abbrev pub number_of : Entry → ℕ
number_of (Exec t core region) = t
number_of (Write c) = 2 * c
number_of (Read c) = 2 * c + 1

-- the sheet with the entry placed from a cycle on, or without it
abbrev pub with_entry : Sheet → Entry → Option ℕ → Sheet
with_entry s n (Some a) = put s n a
with_entry s n None = cleared s n
