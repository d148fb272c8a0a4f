-- What `taken` says of lists of claims, and of slices of claims.
use Rattle.std.proofs.Common.{◌≡◌, ℕ, ◌+◌, ◌<◌, ◌≤◌, max, true, false, ◌||◌, List, [], ◌∷◌, ◌++◌, map, length, get_or, take, drop, sym, refl, ap, ◌∙◌, inl, inr, ⊎_elim, arith, take-append-drop}
use Rattle.std.proofs.Math.Bool.{or_assoc, or-false}
use Rattle.std.proofs.lemmas.List.{map_more, map-append}
use Rattle.std.proofs.lemmas.Bool.{or_left, or_right, or_from, both_ways, cases_lt}
use Rattle.std.proofs.lemmas.Bool.Decides.{nat_tests}
use Rattle.lane.specs.Claims.{Claimed, has, taken, Free, Passed}
use Rattle.lane.specs.Gaps.{Meets, Past}

pub taken_append : (ss ts : List Claimed) (r c : ℕ) → taken (ss ++ ts) r c ≡ (taken ss r c || taken ts r c)
taken_append [] ts r c = refl
taken_append (s ∷ ss) ts r c = ap (λ b. has s r c || b) (taken_append ss ts r c) ∙ sym (or_assoc (has s r c) (taken ss r c) (taken ts r c))

-- The slice of claims, one element further.
module _ {C : Type 0} (claimed : C → Claimed) (xs : List C) (i : ℕ) (x : C) (within : i < length xs) (read : x ≡ get_or xs i x) where
  pub taken_more : (r c : ℕ) → taken (map claimed (take (i + 1) xs)) r c ≡ (taken (map claimed (take i xs)) r c || has (claimed x) r c)
  taken_more r c =
      ap (λ ss. taken ss r c) (map_more claimed xs i x within)
      ∙ taken_append (map claimed (take i xs)) (claimed (get_or xs i x) ∷ []) r c
      ∙ ap (λ b. taken (map claimed (take i xs)) r c || b) (or-false (has (claimed (get_or xs i x)) r c) ∙ ap (λ y. has (claimed y) r c) (sym read))

  pub taken_has : (r c : ℕ) → has (claimed x) r c ≡ true → taken (map claimed xs) r c ≡ true
  taken_has r c h =
      ap (λ ys. taken (map claimed ys) r c) (sym (take-append-drop (i + 1) xs))
      ∙ ap (λ ss. taken ss r c) (map-append claimed (take (i + 1) xs) (drop (i + 1) xs))
      ∙ taken_append (map claimed (take (i + 1) xs)) (map claimed (drop (i + 1) xs)) r c
      ∙ or_left _ _ (taken_more r c ∙ or_right _ _ h)

pub has_in : (s : Claimed) (r c : ℕ) → s.resource ≡ r → s.first ≤ c → c < s.first + s.length → has s r c ≡ true
has_in s r c e l h = grind (arith, nat_tests)

pub has_not : (s : Claimed) (r c : ℕ) → (s.resource ≡ r → s.first ≤ c → c < s.first + s.length → ⊥) → has s r c ≡ false
has_not s r c f = grind (arith, nat_tests)

-- One claimed further in a pass: `at` moves past a claimed that it meets, and stays at any other.
module _ (ss seen seen' : List Claimed) (s : Claimed) (r from n at at' : ℕ)
    (member : (c : ℕ) → has s r c ≡ true → taken ss r c ≡ true) (more : (c : ℕ) → taken seen' r c ≡ (taken seen r c || has s r c))
    (passed : Passed ss r from n at) (free : at ≡ from → Free seen r from n) where
  met : Meets s r n at → (h : ℕ) → at ≤ h → h < s.first + s.length → Free ss r h n → ⊥
  met (same, meet) h l k free' =
      both_ways (taken ss r (max h s.first))
      (free' (max h s.first) (omega arith) (omega arith))
      (member (max h s.first) (has_in s r (max h s.first) same (omega arith) (omega arith)))

  pass_moves : Meets s r n at → at' ≡ s.first + s.length → Passed ss r from n at' × (at' ≡ from → Free seen' r from n)
  pass_moves (same, meet) e = (
    (omega arith, λ h l k free'. ⊎_elim (λ lt. passed.1 h l lt free') (λ le. met (same, meet) h le (omega arith) free') (cases_lt h at)),
    λ e'. absurd (omega arith),
  )

  pass_stays : (Meets s r n at → ⊥) → at' ≡ at → Passed ss r from n at' × (at' ≡ from → Free seen' r from n)
  pass_stays apart e = (
    (omega arith, λ h l k. passed.1 h l (omega arith)),
    λ e' c l k. more c ∙ or_from _ _ (free (omega arith) c l k) (has_not s r c (λ same f t. apart (same, omega arith))),
  )

  pub pass : Past s r n at at' → Passed ss r from n at' × (at' ≡ from → Free seen' r from n)
  pass (inl (meets, e)) = pass_moves meets e
  pass (inr (apart, e)) = pass_stays apart e
