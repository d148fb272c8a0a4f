-- What one claim does to a row of cycles.
use Rattle.std.specs.Prelude.{◌≡◌, ℕ, ◌+◌, ◌<◌, min, max, ◌⊎◌}
use Rattle.lane.specs.Claims.{Claimed}

-- the claim has one of the n cycles of r from `at` on
abbrev pub Meets : Claimed → ℕ → ℕ → ℕ → Type 0
Meets c r n at = (c.resource ≡ r) × (max at c.first < min (at + n) (c.first + c.length))

-- b is the end of the claim where it meets the n cycles from a on, and a where it does not
abbrev pub Past : Claimed → ℕ → ℕ → ℕ → ℕ → Type 0
Past c r n a b = (Meets c r n a × (b ≡ c.first + c.length)) ⊎ ((Meets c r n a → ⊥) × (b ≡ a))
