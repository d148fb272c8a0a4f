-- The claims of a sheet by their places in the lists of claims.
use Rattle.std.proofs.Common.{◌≡◌, ℕ, ◌+◌, ◌-◌, ◌*◌, ◌/◌, ◌%◌, ◌<◌, ◌≤◌, eqb, ◌≢◌, length, Some, None, Option, sym, refl, ap, ◌∙◌, subst, ap₂, arith}
use Rattle.std.proofs.lemmas.List.FromFn.{length-map-range_with_len, get_or-map-range_with_len}
use Rattle.std.proofs.lemmas.Bool.{cond_both, eqb-true, eqb-false}
use Rattle.lane.specs.Claims.{no_claim, claim_at}
use Rattle.board.specs.declared.Seat.{Seat}
use Rattle.board.specs.Entries.{Entry, exec, write, read, Holds, length_of, transfer}
use Rattle.board.specs.Plans.{PlanView}
use Rattle.board.specs.Runs.{Transfer}
use Rattle.board.specs.Sheets.{Sheet, seat_of, start, Starts, Seated}
use Rattle.board.specs.Stays.{first_start, last_end, region_of, from_to, exec_claim, bus_claim, stay_claim, exec_claims, bus_claims, stay_claims}
use Rattle.board.specs.Totals.{ready, clear_in, clear_of}
use Rattle.board.proofs.Counts.{clear_le}
use Rattle.board.proofs.Entries.{transfer_write, transfer_read}
use Rattle.board.proofs.Stays.{Stay}

-- ---- the place of a transfer among the claims on the bus
abbrev pub place : Entry → ℕ
place (exec t) = 0
place (write c) = 2 * c
place (read c) = 2 * c + 1

pub place_one : (e f : Entry) → Transfer e → Transfer f → e ≢ f → place e ≢ place f
place_one (exec t) f x y d q = elim x [ ]
place_one (write c) (exec t) x y d q = elim y [ ]
place_one (write c) (write b) x y d q = d (ap write (omega arith))
place_one (write c) (read b) x y d q = omega arith
place_one (read c) (exec t) x y d q = elim y [ ]
place_one (read c) (write b) x y d q = omega arith
place_one (read c) (read b) x y d q = d (ap read (omega arith))

at_place : (e : Entry) → Transfer e → transfer (place e) ≡ e
at_place (exec t) x = elim x [ ]
at_place (write c) x = transfer_write c
at_place (read c) x = transfer_read c

-- each place is a transfer's
pub is_transfer : (v : ℕ) → Transfer (transfer v)
is_transfer v = cond_both (eqb (v % 2) 0) (write (v / 2)) (read (v / 2)) Transfer (λ e. tt) (λ e. tt)

pub place_of : (v : ℕ) → place (transfer v) ≡ v
place_of v = cond_both (eqb (v % 2) 0) (write (v / 2)) (read (v / 2)) (λ e. place e ≡ v) (λ q. omega (arith, eqb-true (v % 2) 0 q)) (λ q. omega (arith, eqb-false (v % 2) 0 q))

pub place_below : (p : PlanView) (e : Entry) → Transfer e → Holds p e → place e < 2 * length p.channels
place_below p (exec t) x h = elim x [ ]
place_below p (write c) x h = omega arith
place_below p (read c) x h = omega arith

-- ---- a claim has at most the cycles that it is given
exec_length_le : (l : ℕ) (o : Option Seat) → (exec_claim l o).length ≤ l
exec_length_le l None = omega arith
exec_length_le l (Some x) = omega arith

bus_length_le : (l : ℕ) (o : Option ℕ) → (bus_claim l o).length ≤ l
bus_length_le l None = omega arith
bus_length_le l (Some a) = omega arith

module _ (p : PlanView) (s : Sheet) where
  -- ---- how many claims there are, and which is at a place
  pub exec_claims_length : length (exec_claims p s) ≡ length p.tasks
  exec_claims_length = length-map-range_with_len (λ t. exec_claim (length_of p (exec t)) (seat_of s t)) 0 (length p.tasks)

  pub bus_claims_length : length (bus_claims p s) ≡ 2 * length p.channels
  bus_claims_length = length-map-range_with_len (λ v. bus_claim (length_of p (transfer v)) (start s (transfer v))) 0 (2 * length p.channels)

  pub stay_claims_length : length (stay_claims p s) ≡ length p.tasks
  stay_claims_length = length-map-range_with_len (λ t. stay_claim (seat_of s t) (first_start p s t) (last_end p s t)) 0 (length p.tasks)

  pub exec_claim_at : (t : ℕ) → t < length p.tasks → claim_at (exec_claims p s) t ≡ exec_claim (length_of p (exec t)) (seat_of s t)
  exec_claim_at t h = get_or-map-range_with_len (λ u. exec_claim (length_of p (exec u)) (seat_of s u)) 0 (length p.tasks) t t no_claim h (omega arith)

  pub bus_claim_at : (e : Entry) → Transfer e → Holds p e → claim_at (bus_claims p s) (place e) ≡ bus_claim (length_of p e) (start s e)
  bus_claim_at e x h =
      get_or-map-range_with_len (λ v. bus_claim (length_of p (transfer v)) (start s (transfer v))) 0 (2 * length p.channels) (place e) (place e) no_claim (place_below p e x h) (omega arith)
      ∙ ap (λ f. bus_claim (length_of p f) (start s f)) (at_place e x)

  pub stay_claim_at : (t : ℕ) → t < length p.tasks → claim_at (stay_claims p s) t ≡ stay_claim (seat_of s t) (first_start p s t) (last_end p s t)
  stay_claim_at t h = get_or-map-range_with_len (λ u. stay_claim (seat_of s u) (first_start p s u) (last_end p s u)) 0 (length p.tasks) t t no_claim h (omega arith)

  -- ---- the claims of what is placed
  pub exec_is : (t : ℕ) (x : Seat) → t < length p.tasks → Seated s t x → claim_at (exec_claims p s) t ≡ record { resource = x.core; first = x.start; length = length_of p (exec t) }
  exec_is t x l h = exec_claim_at t l ∙ ap (exec_claim (length_of p (exec t))) h

  pub bus_is : (e : Entry) (a : ℕ) → Transfer e → Holds p e → Starts s e a → claim_at (bus_claims p s) (place e) ≡ record { resource = 0; first = a; length = length_of p e }
  bus_is e a x l h = bus_claim_at e x l ∙ ap (bus_claim (length_of p e)) h

  pub stay_is : (t : ℕ) (x : Seat) (z : Stay p s t) → t < length p.tasks → Seated s t x → claim_at (stay_claims p s) t ≡ record { resource = region_of x; first = z.from; length = z.to - z.from }
  stay_is t x z l h = stay_claim_at t l ∙ ap (λ o. stay_claim o (first_start p s t) (last_end p s t)) h ∙ ap₂ (from_to (region_of x)) z.is_first z.is_last

  -- ---- a claim at its place has at most the cycles of its entry
  pub exec_within : (t : ℕ) → t < length p.tasks → (claim_at (exec_claims p s) t).length ≤ length_of p (exec t)
  exec_within t h = subst (λ c. c.length ≤ length_of p (exec t)) (sym (exec_claim_at t h)) (exec_length_le (length_of p (exec t)) (seat_of s t))

  pub bus_within : (e : Entry) → Transfer e → Holds p e → (claim_at (bus_claims p s) (place e)).length ≤ length_of p e
  bus_within e x h = subst (λ c. c.length ≤ length_of p e) (sym (bus_claim_at e x h)) (bus_length_le (length_of p e) (start s e))

  pub clear_of_bus : (e : Entry) → Transfer e → clear_of p s e ≡ clear_in (bus_claims p s) (place e) (ready p s e)
  clear_of_bus (exec t) x = elim x [ ]
  clear_of_bus (write c) x = refl
  clear_of_bus (read c) x = refl

  pub clear_within : (e : Entry) → Holds p e → clear_of p s e ≤ length_of p e
  clear_within (exec t) h = omega (arith, clear_le (exec_claims p s) t (ready p s (exec t)), exec_within t h)
  clear_within (write c) h = omega (arith, clear_le (bus_claims p s) (2 * c) (ready p s (write c)), bus_within (write c) tt h)
  clear_within (read c) h = omega (arith, clear_le (bus_claims p s) (2 * c + 1) (ready p s (read c)), bus_within (read c) tt h)
