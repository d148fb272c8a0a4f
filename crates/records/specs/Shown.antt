-- How the faults of records are told: number, layer, place. A fault of the words below stays what it was.
use Rattle.std.specs.Prelude.{ℕ, List, codes, Result}
use Rattle.words.specs.declared.fault.Layer.TheVariants.{Records}
use Rattle.words.specs.declared.fault.Refusal.{Refusal}
use Rattle.words.specs.Shown.{refusal}
use Rattle.words.specs.Shown as below
use Rattle.words.specs.Texts as below_text
use Rattle.board.specs.Files.{reported_by}
use Rattle.records.specs.declared.fault.Fault.{Fault}
use Rattle.records.specs.declared.fault.Fault.TheVariants.{Words, Range, TooMany, Pair, Overfull, End}

abbrev pub shown : Fault → Refusal
shown (Words f) = below.shown f
shown (Range place) = refusal 3 Records place
shown (TooMany place) = refusal 4 Records place
shown (Pair place) = refusal 5 Records place
shown (Overfull place) = refusal 6 Records place
shown (End place) = refusal 7 Records place

-- an answer with its fault as it is told
abbrev pub reported : {A : Type 0} → Result A Fault → Result A Refusal
reported = reported_by shown

-- what a fault means
abbrev pub fault_text : Fault → List ℕ
fault_text (Words f) = below_text.fault_text f
fault_text (Range place) = codes "a number is outside its range"
fault_text (TooMany place) = codes "a task or a channel is one too many"
fault_text (Pair place) = codes "a channel does not go from a lower task to a higher task of the plan"
fault_text (Overfull place) = codes "the regions add up to more than the scratchpad"
fault_text (End place) = codes "the end does not close the file"
