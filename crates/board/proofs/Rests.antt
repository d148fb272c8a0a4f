-- What is left of a count: the numbers from i on and below n.
use Rattle.std.proofs.Common.{◌≡◌, ℕ, suc, ◌+◌, ◌-◌, ◌<◌, ◌≤◌, [], ◌∷◌, ap, arith}
use Rattle.std.specs.List.{range_with_len}

pub rest_all : (n : ℕ) → range_with_len 0 (n - 0) ≡ range_with_len 0 n
rest_all n = ap (range_with_len 0) (omega arith)

pub rest_more : (n i : ℕ) → i < n → range_with_len i (n - i) ≡ i ∷ range_with_len (i + 1) (n - (i + 1))
rest_more n i h = let e : n - i ≡ suc (n - (i + 1)) = omega arith in ap (range_with_len i) e

pub rest_none : (n i : ℕ) → n ≤ i → range_with_len i (n - i) ≡ []
rest_none n i h = let e : n - i ≡ 0 = omega arith in ap (range_with_len i) e
