-- Division rounded up.
use Rattle.std.proofs.Common.{◌≡◌, ℕ, ◌+◌, ◌-◌, ◌*◌, ◌/◌, ◌%◌, ◌≤◌, min, ap, ◌∙◌, inl, inr, div-lt_iff_lt-mul, add-mul, one-mul, mul-one, arith}
use Rattle.std.proofs.lemmas.Nat.{mul-le}
use Rattle.std.proofs.lemmas.Bool.{cases_lt}
use Rattle.std.proofs.lemmas.Grind.{div_ceil_times}
use Rattle.board.specs.Plans.{RoundsUp, divided_up}

pub rounds_up : RoundsUp
rounds_up n d k l =
    let q = div-lt_iff_lt-mul {k = d} {x = n + (d - 1)} {y = k + 1} l in
    let m : (k + 1) * d ≡ k * d + d = add-mul k 1 d ∙ ap (λ e. k * d + e) (one-mul d) in
    (λ h. let z = q.0 (omega arith) in omega arith, λ h. let z = q.1 (omega arith) in omega arith)

-- so many times d is no less
pub at_least_itself : (n d : ℕ) → 1 ≤ d → n ≤ n * d
at_least_itself n d l = omega (arith, mul-le n 1 n d (omega arith) l, mul-one n)

-- the quotient, and one more where a remainder is left
pub with_remainder : (n d : ℕ) → 1 ≤ d → n / d + min 1 (n % d) ≡ divided_up n d
with_remainder n d l =
    let k = n / d + min 1 (n % d) in
    let u = divided_up n d in
    let t = div_ceil_times n d l in
    let above : u ≤ k = (rounds_up n d k l).1 t.0 in
    let enough : n ≤ u * d = (rounds_up n d u l).0 (omega arith) in
    elim (cases_lt u k) [
      | inl h ↦
          let m : (u + 1) * d ≡ u * d + d = add-mul u 1 d ∙ ap (λ e. u * d + e) (one-mul d) in
          let less = mul-le (u + 1) d k d (omega (arith, h)) (omega arith) in
          omega (arith, m, less, enough, t.1)
      | inr h ↦ omega (arith, above, h)
    ]
