-- How the faults of a sheet are told: number, layer, place. A fault of the records below stays what it was.
use Rattle.std.specs.Prelude.{ℕ, List, codes, Result}
use Rattle.words.specs.declared.fault.Layer.TheVariants.{Sheet}
use Rattle.words.specs.declared.fault.Refusal.{Refusal}
use Rattle.words.specs.Shown.{refusal}
use Rattle.records.specs.Shown as below
use Rattle.board.specs.Files.{reported_by}
use Rattle.placements.specs.declared.fault.Fault.{Fault}
use Rattle.placements.specs.declared.fault.Fault.TheVariants.{Records, Unknown, NotRising, TooLate, AlreadyPlaced, NotPlaced}

abbrev pub shown : Fault → Refusal
shown (Records f) = below.shown f
shown (Unknown place) = refusal 8 Sheet place
shown (NotRising place) = refusal 9 Sheet place
shown (TooLate place) = refusal 10 Sheet place
shown AlreadyPlaced = refusal 11 Sheet 0
shown NotPlaced = refusal 12 Sheet 0

-- an answer with its fault as it is told
abbrev pub reported : {A : Type 0} → Result A Fault → Result A Refusal
reported = reported_by shown

-- what a fault means
abbrev pub fault_text : Fault → List ℕ
fault_text (Records f) = below.fault_text f
fault_text (Unknown place) = codes "the plan lacks this task, channel, side, core or region"
fault_text (NotRising place) = codes "the tasks or the sides do not rise"
fault_text (TooLate place) = codes "the entry would end after the last cycle"
fault_text AlreadyPlaced = codes "the entry is already placed"
fault_text NotPlaced = codes "the entry is not placed"
