-- What one pass over a list of claims tells.
use Rattle.std.specs.Prelude.{◌≡◌, ℕ, ◌<◌, ◌≤◌, Bool, true, false, List}
use Rattle.lane.specs.Claims.{Claimed, taken}
use Rattle.lane.specs.declared.window.Stretch.{Stretch}
use Rattle.lane.specs.declared.window.Stretch.TheVariants.{Taken, Free}

-- the cycle that a stretch ends before
abbrev pub stop : Stretch → ℕ
stop (Taken e) = e
stop (Free e) = e

-- whether its cycles are taken
abbrev pub is_taken : Stretch → Bool
is_taken (Taken e) = true
is_taken (Free e) = false

-- the stretch goes past `at`, and tells of each cycle of the resource from there on whether the claims have it
pub record Does (cs : List Claimed) (r at : ℕ) (x : Stretch) : Type 0 where
  pub ahead : at < stop x
  pub steady : (k : ℕ) → at ≤ k → k < stop x → taken cs r k ≡ is_taken x
