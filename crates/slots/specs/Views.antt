-- What slots say.
use Rattle.std.specs.Prelude.{◌≡◌, ℕ, List, map, Some, None, vec_items, Option}
use Rattle.lane.specs.Claims.{Claimed, no_claim, cut}
use Rattle.board.specs.Sheets.{Sheet}
use Rattle.slots.specs.declared.slot.Slot.{Slot}
use Rattle.slots.specs.declared.slot.Slots.{Slots}

-- where the entries are placed
abbrev pub places : {P : Type 0} → List (Slot P) → List (Option P)
places xs = map (λ x. x.place) xs

-- their lengths
abbrev pub lengths : {P : Type 0} → List (Slot P) → List ℕ
lengths xs = map (λ x. x.length) xs

-- the placements
abbrev pub sheet_of : Slots → Sheet
sheet_of z = record { execs = places (vec_items z.execs); transfers = places (vec_items z.transfers) }

-- the lengths that the slots keep
abbrev pub exec_lengths : Slots → List ℕ
exec_lengths z = lengths (vec_items z.execs)

abbrev pub transfer_lengths : Slots → List ℕ
transfer_lengths z = lengths (vec_items z.transfers)

-- the slots are of the same lengths
pub record KeepsLengths (old new : Slots) : Type 0 where
  pub execs : exec_lengths new ≡ exec_lengths old
  pub transfers : transfer_lengths new ≡ transfer_lengths old

-- what a slot of this length claims, where each place is on a resource and from a cycle on; an empty one has no cycle
abbrev pub cut_place : {P : Type 0} → (P → ℕ) → (P → ℕ) → ℕ → Option P → Claimed
cut_place on from l None = no_claim
cut_place on from l (Some x) = cut (on x) (from x) l

-- what a slot claims
abbrev pub slot_claimed : {P : Type 0} → (P → ℕ) → (P → ℕ) → Slot P → Claimed
slot_claimed on from x = cut_place on from x.length x.place
