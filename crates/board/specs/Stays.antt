-- What a sheet claims: its execs of the cores, its transfers of the bus, its stays of the regions.
use Rattle.std.specs.Prelude.{ℕ, ◌+◌, ◌-◌, ◌*◌, min, max, List, [], ◌∷◌, map, length, Some, None, Option}
use Rattle.std.specs.List.{range_with_len}
use Rattle.lane.specs.Claims.{Claimed, no_claim}
use Rattle.board.specs.declared.Seat.{Seat}
use Rattle.board.specs.Entries.{Entry, exec, length_of, transfer, own}
use Rattle.board.specs.Plans.{PlanView}
use Rattle.board.specs.Sheets.{Sheet, seat_of, start, end}

-- ---- the least and the greatest of what is there
-- the one that is there, or the pick of the two
abbrev pub of_two : (ℕ → ℕ → ℕ) → Option ℕ → Option ℕ → Option ℕ
of_two pick None y = y
of_two pick (Some a) None = Some a
of_two pick (Some a) (Some b) = Some (pick a b)

abbrev pub picked : (ℕ → ℕ → ℕ) → (Entry → Option ℕ) → List Entry → Option ℕ
picked pick f [] = None
picked pick f (e ∷ es) = of_two pick (f e) (picked pick f es)

-- ---- the stay of a task whose exec is placed: from the least start to the greatest end of its own entries that are placed
abbrev pub first_start : PlanView → Sheet → ℕ → Option ℕ
first_start p s t = picked min (start s) (own p t)

abbrev pub last_end : PlanView → Sheet → ℕ → Option ℕ
last_end p s t = picked max (end p s) (own p t)

-- a region of a core, as a resource; a core has at most 8 regions
abbrev pub region_of : Seat → ℕ
region_of x = x.core * 8 + x.region

abbrev pub from_to : ℕ → Option ℕ → Option ℕ → Claimed
from_to r (Some a) (Some b) = record { resource = r; first = a; length = b - a }
from_to r (Some a) None = no_claim
from_to r None b = no_claim

-- ---- claims; what is not placed has no cycle
abbrev pub exec_claim : ℕ → Option Seat → Claimed
exec_claim l None = no_claim
exec_claim l (Some x) = record { resource = x.core; first = x.start; length = l }

abbrev pub bus_claim : ℕ → Option ℕ → Claimed
bus_claim l None = no_claim
bus_claim l (Some a) = record { resource = 0; first = a; length = l }

abbrev pub stay_claim : Option Seat → Option ℕ → Option ℕ → Claimed
stay_claim None a b = no_claim
stay_claim (Some x) a b = from_to (region_of x) a b

-- by task
abbrev pub exec_claims : PlanView → Sheet → List Claimed
exec_claims p s = map (λ t. exec_claim (length_of p (exec t)) (seat_of s t)) (range_with_len 0 (length p.tasks))

-- by value
abbrev pub bus_claims : PlanView → Sheet → List Claimed
bus_claims p s = map (λ v. bus_claim (length_of p (transfer v)) (start s (transfer v))) (range_with_len 0 (2 * length p.channels))

-- by task
abbrev pub stay_claims : PlanView → Sheet → List Claimed
stay_claims p s = map (λ t. stay_claim (seat_of s t) (first_start p s t) (last_end p s t)) (range_with_len 0 (length p.tasks))
