-- Whether a region can hold a task.
use Rattle.std.specs.Prelude.{ℕ, ◌<◌, ◌≤◌, Bool, true, false, List, length, slice_index}

-- no size is enough, or that at some place is
abbrev pub TooSmall : ℕ → List ℕ → Bool → Type 0
TooSmall need sizes true = (k : ℕ) → k < length sizes → slice_index sizes k < need
TooSmall need sizes false = (k : ℕ) × (k < length sizes) × (need ≤ slice_index sizes k)
