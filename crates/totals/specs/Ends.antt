-- When the entries of slots end.
use Rattle.std.specs.Prelude.{ℕ, ◌+◌, List, map, Option}
use Rattle.std.specs.Option.{option_map}
use Rattle.slots.specs.declared.slot.Slot.{Slot}

-- the end of a slot's entry, if it is placed
abbrev pub end_in : {P : Type 0} → (P → ℕ) → Slot P → Option ℕ
end_in from x = option_map (λ a. a + x.length) (option_map from x.place)

-- the end of each entry, if it is placed
abbrev pub ends : {P : Type 0} → (P → ℕ) → List (Slot P) → List (Option ℕ)
ends from xs = map (end_in from) xs
