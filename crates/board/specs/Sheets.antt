-- A sheet by its placements: where each entry of a plan starts, if it is placed.
use Rattle.std.specs.Prelude.{◌≡◌, ℕ, ◌+◌, ◌*◌, ◌<◌, ◌≤◌, List, length, replicate, Some, None, Option, slice_index_or, slice_set}
use Rattle.std.specs.Option.{option_map}
use Rattle.board.specs.declared.Seat.{Seat}
use Rattle.board.specs.Entries.{Entry, exec, write, read, length_of}
use Rattle.board.specs.Plans.{PlanView}

-- a seat for each exec, a start for each transfer, by its value: the write of channel c at 2 × c, its read behind it
pub record Sheet : Type 0 where
  pub execs : List (Option Seat)
  pub transfers : List (Option ℕ)

abbrev pub seat_of : Sheet → ℕ → Option Seat
seat_of s t = slice_index_or s.execs t None

-- the start of an entry, if it is placed
abbrev pub start : Sheet → Entry → Option ℕ
start s (exec t) = option_map (λ x. x.start) (seat_of s t)
start s (write c) = slice_index_or s.transfers (2 * c) None
start s (read c) = slice_index_or s.transfers (2 * c + 1) None

-- the end of an entry at its full length
abbrev pub end : PlanView → Sheet → Entry → Option ℕ
end p s e = option_map (λ a. a + length_of p e) (start s e)

-- ---- statements
abbrev pub Starts : Sheet → Entry → ℕ → Type 0
Starts s e a = start s e ≡ Some a

abbrev pub Seated : Sheet → ℕ → Seat → Type 0
Seated s t x = seat_of s t ≡ Some x

-- the sheet is one of the plan: it has a place for each entry, seats are the plan's, and what is placed ends by the last cycle
pub record Fits (p : PlanView) (s : Sheet) : Type 0 where
  pub execs : length s.execs ≡ length p.tasks
  pub transfers : length s.transfers ≡ 2 * length p.channels
  pub seats : (t : ℕ) (x : Seat) → Seated s t x → (x.core < p.cores) × (x.region < length p.regions)
  pub ends : (e : Entry) (a : ℕ) → Starts s e a → a + length_of p e ≤ 536870911

-- ---- making sheets
-- nothing placed
abbrev pub empty : PlanView → Sheet
empty p = record { execs = replicate (length p.tasks) None; transfers = replicate (2 * length p.channels) None }

-- one seat, or one start, set or emptied
abbrev pub with_exec : Sheet → ℕ → Option Seat → Sheet
with_exec s t x = record { execs = slice_set s.execs t x; transfers = s.transfers }

abbrev pub with_transfer : Sheet → ℕ → Option ℕ → Sheet
with_transfer s v a = record { execs = s.execs; transfers = slice_set s.transfers v a }
