-- What `counted` says of numbers in a row.
use Rattle.std.proofs.Common.{◌≡◌, ℕ, zero, suc, ◌+◌, ◌-◌, ◌<◌, ◌≤◌, max, Bool, true, false, cond, sym, refl, ap, ◌∙◌, ⊎_elim, add-zero, add_assoc, add-suc, arith}
use Rattle.std.proofs.lemmas.Bool.{cases_lt}
use Rattle.lane.specs.Claims.{counted}

module _ (test : ℕ → Bool) where
  pub counted_append : (start m n : ℕ) → counted test start (m + n) ≡ counted test start m + counted test (start + m) n
  unfolding counted
  counted_append start m zero = rw add-zero (rw add-zero)
  counted_append start m (suc n) =
      rw add-suc
      (ap (λ k. k + cond (test (start + (m + n))) 1 0) (counted_append start m n)
      ∙ rw add_assoc (rw add_assoc))

  pub counted_all : (start n : ℕ) → ((c : ℕ) → start ≤ c → c < start + n → test c ≡ true) → counted test start n ≡ n
  unfolding counted
  counted_all start zero all = refl
  counted_all start (suc n) all =
      let one = all (start + n) (omega arith) (omega arith) in
      let rest = counted_all start n (λ c l h. all c l (omega arith)) in
      rw (one, rest) (omega arith)

  pub counted_none : (start n : ℕ) → ((c : ℕ) → start ≤ c → c < start + n → test c ≡ false) → counted test start n ≡ 0
  unfolding counted
  counted_none start zero none = refl
  counted_none start (suc n) none =
      let one = none (start + n) (omega arith) (omega arith) in
      let rest = counted_none start n (λ c l h. none c l (omega arith)) in
      rw (one, rest)

  pub counted_le : (start n : ℕ) → counted test start n ≤ n
  unfolding counted
  counted_le start zero = omega arith
  counted_le start (suc n) =
      elim (test (start + n)) as (λ b. counted test start n + cond b 1 0 ≤ suc n) [ true ↦ omega (arith, counted_le start n) | false ↦ omega (arith, counted_le start n) ]

  -- the numbers from a to e, cut at b
  pub counted_cut : (a b e : ℕ) → a ≤ b → b ≤ e → counted test a (e - a) ≡ counted test a (b - a) + counted test b (e - b)
  counted_cut a b e l h =
      let whole : e - a ≡ (b - a) + (e - b) = omega arith in
      let start : a + (b - a) ≡ b = omega arith in
      ap (counted test a) whole ∙ counted_append a (b - a) (e - b) ∙ ap (λ s. counted test a (b - a) + counted test s (e - b)) start

  -- none before `from` counts
  pub counted_since : (first n from : ℕ) → ((c : ℕ) → c < from → test c ≡ false) → counted test first n ≡ counted test (max first from) (first + n - max first from)
  unfolding counted
  counted_since first n from none =
      ⊎_elim
      (λ lt. let rest : first + n - max first from ≡ 0 = omega arith in
      counted_none first n (λ c l h. none c (omega arith)) ∙ sym (ap (counted test (max first from)) rest))
      (λ le. let whole : n ≡ first + n - first = omega arith in
      let skipped = counted_none first (max first from - first) (λ c l h. none c (omega arith)) in
      ap (counted test first) whole ∙ counted_cut first (max first from) (first + n) (omega arith) le ∙ rw skipped (omega arith))
      (cases_lt (first + n) (max first from))

pub counted_same : (test test' : ℕ → Bool) (start n : ℕ) → ((c : ℕ) → start ≤ c → c < start + n → test c ≡ test' c) → counted test start n ≡ counted test' start n
unfolding counted
counted_same test test' start zero same = refl
counted_same test test' start (suc n) same =
    let one = same (start + n) (omega arith) (omega arith) in
    let rest = counted_same test test' start n (λ c l h. same c l (omega arith)) in
    rw (one, rest)
