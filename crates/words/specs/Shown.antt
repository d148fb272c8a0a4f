-- How the faults of this layer are told: number, layer, place.
use Rattle.std.specs.Prelude.{ℕ}
use Rattle.words.specs.declared.fault.Fault.{Fault}
use Rattle.words.specs.declared.fault.Fault.TheVariants.{Ended, Misplaced}
use Rattle.words.specs.declared.fault.Layer.{Layer}
use Rattle.words.specs.declared.fault.Layer.TheVariants.{Words}
use Rattle.words.specs.declared.fault.Refusal.{Refusal}

abbrev pub refusal : ℕ → Layer → ℕ → Refusal
refusal number layer place = record { number = number; layer = layer; place = place }

abbrev pub shown : Fault → Refusal
shown (Ended place) = refusal 1 Words place
shown (Misplaced place) = refusal 2 Words place
