-- The lane counts what is clear.
use Rattle.std.proofs.Common.{◌≡◌, ℕ, ◌*◌, ◌≤◌, Bool, true, false, ◌&&◌, leb, List, length, Some, None, Option, sym, refl, ap, ◌∙◌, arith}
use Rattle.std.proofs.lemmas.List.{get_or_past}
use Rattle.std.proofs.Math.Bool.{and_comm}
use Rattle.std.proofs.lemmas.Bool.{and_right, le-leb}
use Rattle.std.specs.Bool.{then_some}
use Rattle.lane.specs.Claims.{Claimed, no_claim, claim_at, sole, counted, alone_count}
use Rattle.lane.proofs.Counts.{counted_none, counted_same}
use Rattle.board.specs.Entries.{transfer}
use Rattle.board.specs.Plans.{PlanView}
use Rattle.board.specs.Sheets.{Sheet}
use Rattle.board.specs.Stays.{bus_claims}
use Rattle.board.specs.Totals.{ended_by, ready, clear_in, clear_of}
use Rattle.board.proofs.Claims.{is_transfer, place_of, bus_claims_length, clear_of_bus}

-- ---- clear cycles
module _ (cs : List Claimed) (i : ℕ) (test : ℕ → Bool) where
  -- the test is passed from a cycle on
  pub clear_from : (from : ℕ) → ((k : ℕ) → leb from k ≡ test k) → alone_count cs i from ≡ clear_in cs i test
  clear_from from h =
      counted_same (λ k. leb from k && sole cs i k) (λ k. sole cs i k && test k) (claim_at cs i).first (claim_at cs i).length (λ k _ _. and_comm (leb from k) (sole cs i k) ∙ ap (λ b. sole cs i k && b) (h k))

  -- the test is never passed
  pub clear_never : ((k : ℕ) → false ≡ test k) → 0 ≡ clear_in cs i test
  clear_never h =
      sym (counted_none (λ k. sole cs i k && test k) (claim_at cs i).first (claim_at cs i).length (λ k _ _. and_right (sole cs i k) (test k) (sym (h k))))

-- ---- a transfer by its value
pub clear_transfer_is : (p : PlanView) (s : Sheet) (v : ℕ) → clear_of p s (transfer v) ≡ clear_in (bus_claims p s) v (ready p s (transfer v))
clear_transfer_is p s v = clear_of_bus p s (transfer v) (is_transfer v) ∙ ap (λ i. clear_in (bus_claims p s) i (ready p s (transfer v))) (place_of v)

-- the plan lacks it
pub clear_transfer_past : (p : PlanView) (s : Sheet) (v : ℕ) → 2 * length p.channels ≤ v → 0 ≡ clear_of p s (transfer v)
unfolding counted
clear_transfer_past p s v h =
    let none : claim_at (bus_claims p s) v ≡ no_claim = get_or_past (bus_claims p s) v no_claim (omega (arith, bus_claims_length p s)) in
    sym (clear_transfer_is p s v ∙ ap (λ (c : Claimed). counted (λ k. sole (bus_claims p s) v k && ready p s (transfer v) k) c.first c.length) none)

-- at once, or never
pub at_once : (b : Bool) (k : ℕ) → ended_by k (then_some b 0) ≡ b
at_once true k = le-leb 0 k (omega arith)
at_once false k = refl

-- clear from where the test is passed, or never
pub clear_by : (cs : List Claimed) (i n : ℕ) (test : ℕ → Bool) (o : Option ℕ) → ((k : ℕ) → ended_by k o ≡ test k) → (o ≡ None → n ≡ 0) → ((from : ℕ) → o ≡ Some from → n ≡ alone_count cs i from) → n ≡ clear_in cs i test
clear_by cs i n test None h none some = none refl ∙ clear_never cs i test h
clear_by cs i n test (Some from) h none some = some from refl ∙ clear_from cs i test from h
