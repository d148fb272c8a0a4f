-- What was read of a timetable, as a sheet.
use Rattle.board.specs.Sheets.{Sheet}
use Rattle.board.specs.Timetables.{Loaded as LoadedView, loaded_of}
use Rattle.records.specs.Rows.{items}
use Rattle.placements.specs.declared.gathered.Placements.{Placements}
use Rattle.placements.specs.declared.gathered.Loaded.{Loaded}

-- the placements as a sheet
abbrev pub sheet_in : Placements → Sheet
sheet_in g = record { execs = items g.execs; transfers = items g.transfers }

-- and with what may still come
abbrev pub loaded : Loaded → LoadedView
loaded l = loaded_of (sheet_in l.placements) l.next_task l.next_value
