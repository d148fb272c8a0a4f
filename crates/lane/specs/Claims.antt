-- What claims say of cycles.
use Rattle.std.specs.Prelude.{◌≡◌, ℕ, zero, suc, ◌+◌, ◌-◌, ◌<◌, ◌≤◌, min, Bool, false, cond, not, ◌&&◌, ◌||◌, List, [], ◌∷◌, ◌++◌, take, drop, ◌==◌, nat_le, nat_lt, slice_index_or}

-- A claim as its kind tells it: the cycles first, first + 1, .., first + length − 1 of a resource.
pub record Claimed : Type 0 where
  pub resource : ℕ
  pub first : ℕ
  pub length : ℕ

-- no cycle
abbrev pub no_claim : Claimed
no_claim = record { resource = 0; first = 0; length = 0 }

-- any numbers, cut so that the claim ends by the last cycle
abbrev pub cut : ℕ → ℕ → ℕ → Claimed
cut resource first length =
    record { resource = resource; first = min first 536870911; length = min length (536870911 - min first 536870911) }

abbrev pub claim_at : List Claimed → ℕ → Claimed
claim_at cs i = slice_index_or cs i no_claim

-- ---- cycles
-- the claim is on this resource and has this cycle; its end is not one of its cycles
abbrev pub has : Claimed → ℕ → ℕ → Bool
has c r k = c.resource == r && (nat_le c.first k && nat_lt k (c.first + c.length))

-- one of the claims is on this resource and has this cycle
abbrev pub taken : List Claimed → ℕ → ℕ → Bool
taken [] r k = false
taken (c ∷ cs) r k = has c r k || taken cs r k

abbrev pub untaken : List Claimed → ℕ → ℕ → Bool
untaken cs r k = not (taken cs r k)

-- all claims but the one at a position
abbrev pub others : List Claimed → ℕ → List Claimed
others cs i = take i cs ++ drop (i + 1) cs

-- no other claim on the resource of the one at position i has the cycle k
abbrev pub sole : List Claimed → ℕ → ℕ → Bool
sole cs i k = untaken (others cs i) (claim_at cs i).resource k

-- ---- alone
-- how many of the n cycles from start on pass the test
unfoldable pub counted : (ℕ → Bool) → ℕ → ℕ → ℕ
counted test start zero = 0
counted test start (suc n) = counted test start n + cond (test (start + n)) 1 0

-- how many cycles of the claim at position i pass the test
abbrev pub cycles_of : List Claimed → ℕ → (ℕ → Bool) → ℕ
cycles_of cs i test = counted test (claim_at cs i).first (claim_at cs i).length

-- how many cycles of the claim at position i, not before `from`, no other claim on its resource has
abbrev pub alone_count : List Claimed → ℕ → ℕ → ℕ
alone_count cs i from = cycles_of cs i (λ k. nat_le from k && sole cs i k)

-- ---- gaps
-- no claim has a cycle of the resource among the n from g on
abbrev pub Free : List Claimed → ℕ → ℕ → ℕ → Type 0
Free cs r g n = (k : ℕ) → g ≤ k → k < g + n → taken cs r k ≡ false

-- from `from` on and before g, no n cycles are free
abbrev pub Passed : List Claimed → ℕ → ℕ → ℕ → ℕ → Type 0
Passed cs r from n g = (from ≤ g) × ((h : ℕ) → from ≤ h → h < g → Free cs r h n → ⊥)

-- g is the first cycle, not before `from`, where n cycles are free
pub record FirstFree (cs : List Claimed) (r from n g : ℕ) : Type 0 where
  pub since : from ≤ g
  pub free : Free cs r g n
  pub first : (h : ℕ) → from ≤ h → h < g → Free cs r h n → ⊥
