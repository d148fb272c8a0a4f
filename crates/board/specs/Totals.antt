-- Wanted and clear, by counting cycles.
use Rattle.std.specs.Prelude.{ℕ, ◌+◌, ◌*◌, Bool, false, ◌&&◌, List, length, Some, None, sum_by, Option, nat_le}
use Rattle.std.specs.List.{range_with_len, list_all}
use Rattle.lane.specs.Claims.{Claimed, sole, cycles_of}
use Rattle.board.specs.declared.Seat.{Seat}
use Rattle.board.specs.Entries.{Entry, exec, write, read, length_of, entries, awaited}
use Rattle.board.specs.Plans.{PlanView, roomy}
use Rattle.board.specs.Sheets.{Sheet, seat_of, end}
use Rattle.board.specs.Stays.{exec_claims, bus_claims, stay_claims}

-- an end that is there has come when the cycle k begins
abbrev pub ended_by : ℕ → Option ℕ → Bool
ended_by k None = false
ended_by k (Some z) = nat_le z k

-- everything that an entry waits for is placed and has ended when the cycle k begins
abbrev pub ready : PlanView → Sheet → Entry → ℕ → Bool
ready p s e k = list_all (λ w. ended_by k (end p s w)) (awaited p e)

-- the region of a seat is large enough for the task
abbrev pub has_room : PlanView → ℕ → Option Seat → Bool
has_room p t None = false
has_room p t (Some x) = roomy p x.region t

-- ---- clear cycles
-- the cycles of the i-th claim that no other claim on its resource has and that pass a test
abbrev pub clear_in : List Claimed → ℕ → (ℕ → Bool) → ℕ
clear_in cs i test = cycles_of cs i (λ k. sole cs i k && test k)

abbrev pub clear_of : PlanView → Sheet → Entry → ℕ
clear_of p s (exec t) = clear_in (exec_claims p s) t (ready p s (exec t))
clear_of p s (write c) = clear_in (bus_claims p s) (2 * c) (ready p s (write c))
clear_of p s (read c) = clear_in (bus_claims p s) (2 * c + 1) (ready p s (read c))

abbrev pub clear_stay : PlanView → Sheet → ℕ → ℕ
clear_stay p s t = clear_in (stay_claims p s) t (λ k. has_room p t (seat_of s t))

-- ---- the totals
abbrev pub wanted : PlanView → Sheet → ℕ
wanted p s = sum_by (length_of p) (entries p) + sum_by (λ c. c.length) (stay_claims p s)

abbrev pub clear : PlanView → Sheet → ℕ
clear p s = sum_by (clear_of p s) (entries p) + sum_by (clear_stay p s) (range_with_len 0 (length p.tasks))
