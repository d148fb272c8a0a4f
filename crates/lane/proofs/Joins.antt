-- What two lists of claims do together, and the cycles that are left to be counted behind a stretch.
use Rattle.std.proofs.Common.{◌≡◌, ℕ, ◌+◌, ◌-◌, ◌<◌, max, min, cond, not, List, ◌++◌, ap, ◌∙◌, ⊎_elim, arith}
use Rattle.std.proofs.lemmas.Bool.{or_left, or_right, or_from, cases_lt}
use Rattle.lane.specs.declared.window.Stretch.{Stretch}
use Rattle.lane.specs.declared.window.Stretch.TheVariants.{Taken, Free}
use Rattle.lane.specs.Claims.{Claimed, untaken, counted}
use Rattle.lane.specs.Stretches.{stop, is_taken, Does}
use Rattle.lane.proofs.Takes.{taken_append}
use Rattle.lane.proofs.Counts.{counted_all, counted_cut, counted_none}

module _ (ss ts : List Claimed) (r at : ℕ) where
  pub both_taken : (a b : Stretch) (x y : ℕ) → a ≡ Taken x → b ≡ Taken y → Does ss r at a → Does ts r at b → Does (ss ++ ts) r at (Taken (max x y))
  both_taken a b x y ea eb p q =
      let u = rw ea at p in
      let v = rw eb at q in
      record {
        ahead = omega (arith, u.ahead);
        steady = λ k l h. taken_append ss ts r k ∙ ⊎_elim (λ lt. or_left _ _ (u.steady k l lt)) (λ le. or_right _ _ (v.steady k l (omega arith))) (cases_lt k x);
      }

  pub both_free : (a b : Stretch) (x y : ℕ) → a ≡ Free x → b ≡ Free y → Does ss r at a → Does ts r at b → Does (ss ++ ts) r at (Free (min x y))
  both_free a b x y ea eb p q =
      let u = rw ea at p in
      let v = rw eb at q in
      record {
        ahead = omega (arith, u.ahead, v.ahead);
        steady = λ k l h. taken_append ss ts r k ∙ or_from _ _ (u.steady k l (omega arith)) (v.steady k l (omega arith));
      }

  pub first_taken : (a : Stretch) (x : ℕ) → a ≡ Taken x → Does ss r at a → Does (ss ++ ts) r at a
  first_taken a x e p =
      let u = rw e at p in
      rw e (record { ahead = u.ahead; steady = λ k l h. taken_append ss ts r k ∙ or_left _ _ (u.steady k l h) })

  pub second_taken : (b : Stretch) (y : ℕ) → b ≡ Taken y → Does ts r at b → Does (ss ++ ts) r at b
  second_taken b y e q =
      let v = rw e at q in
      rw e (record { ahead = v.ahead; steady = λ k l h. taken_append ss ts r k ∙ or_right _ _ (v.steady k l h) })

-- The cycles up to `end`, cut where a stretch ends.
pub turn : (cs : List Claimed) (r at end n : ℕ) (x : Stretch) → at < end → n ≡ min (stop x) end → Does cs r at x → (at < n) × (counted (untaken cs r) at (end - at) ≡ cond (is_taken x) 0 (n - at) + counted (untaken cs r) n (end - n))
turn cs r at end n (Taken e) l h d = (
  omega (arith, d.ahead),
  counted_cut (untaken cs r) at n end (omega (arith, d.ahead)) (omega arith)
      ∙ ap (λ m. m + counted (untaken cs r) n (end - n)) (counted_none (untaken cs r) at (n - at) (λ k a b. ap not (d.steady k a (omega (arith, d.ahead))))),
)
turn cs r at end n (Free e) l h d = (
  omega (arith, d.ahead),
  counted_cut (untaken cs r) at n end (omega (arith, d.ahead)) (omega arith)
      ∙ ap (λ m. m + counted (untaken cs r) n (end - n)) (counted_all (untaken cs r) at (n - at) (λ k a b. ap not (d.steady k a (omega (arith, d.ahead))))),
)
