-- Runs of a sheet, and their faults.
use Rattle.std.specs.Prelude.{◌≡◌, ℕ, ◌+◌, ◌<◌, ◌≤◌, ◌≢◌, length, None, slice_index}
use mathlib.Core.List.{Memᴰ as Member}
use Rattle.board.specs.declared.Seat.{Seat}
use Rattle.board.specs.Entries.{Entry, exec, write, read, Holds, length_of, owner, awaited}
use Rattle.board.specs.Plans.{PlanView, need}
use Rattle.board.specs.Sheets.{Sheet, start, Starts, Seated}

-- the run times of a run: each from 1 to the entry's length
abbrev pub Run : PlanView → (Entry → ℕ) → Type 0
Run p r = (e : Entry) → Holds p e → (1 ≤ r e) × (r e ≤ length_of p e)

-- the cycle k is one from a on and before b
abbrev pub In : ℕ → ℕ → ℕ → Type 0
In k a b = (a ≤ k) × (k < b)

abbrev pub Transfer : Entry → Type 0
Transfer (exec t) = ⊥
Transfer (write c) = Unit {0}
Transfer (read c) = Unit {0}

-- in the cycle k of a run the task lives: an own entry of it has started by then, and one ends later
pub record Lives (p : PlanView) (s : Sheet) (r : Entry → ℕ) (t k : ℕ) : Type 0 where
  pub opener : Entry
  pub opener_own : Holds p opener × (owner p opener ≡ t)
  pub from : ℕ
  pub opener_starts : Starts s opener from
  pub closer : Entry
  pub closer_own : Holds p closer × (owner p closer ≡ t)
  pub closer_from : ℕ
  pub closer_starts : Starts s closer closer_from
  pub within : In k from (closer_from + r closer)

-- what can go wrong in a run with these run times
pub data Fault (p : PlanView) (s : Sheet) (r : Entry → ℕ) : Type 0 where
  -- an entry is not placed
  unplaced : (e : Entry) → Holds p e → start s e ≡ None → Fault p s r
  -- two tasks run on one core in one cycle
  one_core : (t u : ℕ) (x y : Seat) (k : ℕ) → t < length p.tasks → u < length p.tasks → t ≢ u → Seated s t x → Seated s u y → x.core ≡ y.core → In k x.start (x.start + r (exec t)) → In k y.start (y.start + r (exec u)) → Fault p s r
  -- two transfers use the bus in one cycle
  one_bus : (e f : Entry) (a b k : ℕ) → Transfer e → Transfer f → Holds p e → Holds p f → e ≢ f → Starts s e a → Starts s f b → In k a (a + r e) → In k b (b + r f) → Fault p s r
  -- an entry starts before something that it waits for has ended
  too_early : (e w : Entry) (a b : ℕ) → Holds p e → Member w (awaited p e) → Starts s e a → Starts s w b → a < b + r w → Fault p s r
  -- two tasks live in one region of one core in one cycle
  one_region : (t u : ℕ) (x y : Seat) (k : ℕ) → t < length p.tasks → u < length p.tasks → t ≢ u → Seated s t x → Seated s u y → x.core ≡ y.core → x.region ≡ y.region → Lives p s r t k → Lives p s r u k → Fault p s r
  -- a task's region is smaller than its need
  too_small : (t : ℕ) (x : Seat) → t < length p.tasks → Seated s t x → slice_index p.regions x.region < need p t → Fault p s r

-- no run of the sheet has a fault
abbrev pub Faultless : PlanView → Sheet → Type 0
Faultless p s = (r : Entry → ℕ) → Run p r → Fault p s r → ⊥
