-- Members of lists that are counted, kept or tested, and sums compared part by part.
use Rattle.std.proofs.Common.{◌≡◌, ℕ, zero, suc, ◌+◌, ◌<◌, ◌≤◌, Bool, true, false, cond, List, [], ◌∷◌, map, sum_by, sum, filter, sym, refl, ap, ◌∙◌, inl, inr, arith}
use mathlib.Core.List.Memᴰ.{cases_cons}
use mathlib.Core.List.Memᴰ.{head as here}
use mathlib.Core.List.Memᴰ.{not-nil}
use mathlib.Core.List.Memᴰ.{tail as later}
use mathlib.Core.List.{Memᴰ as Member, map-map}
use Rattle.std.specs.List.{range_with_len, list_all}
use Rattle.std.proofs.lemmas.List.Sums.{sum-map, sum_by-cons}
use Rattle.std.proofs.lemmas.Bool.{and_parts, and_from, both_ways, cases_eq, cond_both}

-- ---- the n numbers from a on
in_counting : (a n i : ℕ) → a ≤ i → i < a + n → Member i (range_with_len a n)
in_counting a zero i l h = absurd (omega arith)
in_counting a (suc n) i l h = elim (cases_eq i a) [ inl e ↦ here e | inr u ↦ later (in_counting (a + 1) n i (omega arith) (omega arith)) ]

of_counting : (a n i : ℕ) → Member i (range_with_len a n) → (a ≤ i) × (i < a + n)
of_counting a zero i m = absurd (not-nil m)
of_counting a (suc n) i m = elim (cases_cons m) [ inl e ↦ (omega arith, omega arith) | inr u ↦ let q = of_counting (a + 1) n i u in (omega arith, omega arith) ]

pub in_below : (n i : ℕ) → i < n → Member i (range_with_len 0 n)
in_below n i h = in_counting 0 n i (omega arith) (omega arith)

pub of_below : (n i : ℕ) → Member i (range_with_len 0 n) → i < n
of_below n i m = omega (arith, of_counting 0 n i m)

-- ---- those that pass a test
module _ {A : Type 0} (f : A → Bool) where
  pub in_kept : (xs : List A) {x : A} → Member x xs → f x ≡ true → Member x (filter f xs)
  in_kept [] m h = m
  in_kept (y ∷ ys) {x} m h =
      cond_both (f y) (y ∷ filter f ys) (filter f ys) (Member x)
      (λ t. elim (cases_cons m) [ inl e ↦ here e | inr k ↦ later (in_kept ys k h) ])
      (λ t. elim (cases_cons m) [ inl e ↦ absurd (both_ways (f y) t (ap f (sym e) ∙ h)) | inr k ↦ in_kept ys k h ])

  pub of_kept : (xs : List A) {x : A} → Member x (filter f xs) → Member x xs × (f x ≡ true)
  of_kept [] m = absurd (not-nil m)
  of_kept (y ∷ ys) {x} m = go (f y) refl m (of_kept ys)
    where
      go : (b : Bool) → f y ≡ b → Member x (cond b (y ∷ filter f ys) (filter f ys)) → (Member x (filter f ys) → Member x ys × (f x ≡ true)) → Member x (y ∷ ys) × (f x ≡ true)
      go true e m ih = elim (cases_cons m) [ inl s ↦ (here s, ap f s ∙ e) | inr r ↦ (later (ih r).0, (ih r).1) ]
      go false e m ih = (later (ih m).0, (ih m).1)

  pub of_all : (xs : List A) {x : A} → list_all f xs ≡ true → Member x xs → f x ≡ true
  of_all [] h m = absurd (not-nil m)
  of_all (y ∷ ys) h m = let q = and_parts (f y) (list_all f ys) h in elim (cases_cons m) [ inl e ↦ ap f e ∙ q.0 | inr k ↦ of_all ys q.1 k ]

  pub in_all : (xs : List A) → ((x : A) → Member x xs → f x ≡ true) → list_all f xs ≡ true
  in_all [] h = refl
  in_all (x ∷ xs) h = and_from (f x) (list_all f xs) (h x (here refl)) (in_all xs (λ y m. h y (later m)))

-- ---- sums
pub sums_map : {A B : Type 0} (f : B → ℕ) (g : A → B) (xs : List A) → sum_by f (map g xs) ≡ sum_by (λ x. f (g x)) xs
sums_map f g xs = sym (sum-map f (map g xs)) ∙ ap sum (map-map f g xs) ∙ sum-map (λ x. f (g x)) xs

module _ {A : Type 0} (f g : A → ℕ) where
  pub sums_same : (xs : List A) → ((x : A) → Member x xs → f x ≡ g x) → sum_by f xs ≡ sum_by g xs
  sums_same [] h = refl
  sums_same (x ∷ xs) h = omega (arith, sum_by-cons f x xs, sum_by-cons g x xs, h x (here refl), sums_same xs (λ y m. h y (later m)))

  pub sums_le : (xs : List A) → ((x : A) → Member x xs → f x ≤ g x) → sum_by f xs ≤ sum_by g xs
  sums_le [] h = omega arith
  sums_le (x ∷ xs) h = omega (arith, sum_by-cons f x xs, sum_by-cons g x xs, h x (here refl), sums_le xs (λ y m. h y (later m)))

-- equal sums of parts that are no greater are equal part by part
pub sums_parts : {A : Type 0} (f g : A → ℕ) (xs : List A) → ((x : A) → Member x xs → g x ≤ f x) → sum_by f xs ≡ sum_by g xs → {x : A} → Member x xs → f x ≡ g x
sums_parts f g [] h e m = absurd (not-nil m)
sums_parts f g (y ∷ ys) h e m =
    let a = h y (here refl) in
    let b = sums_le g f ys (λ z k. h z (later k)) in
    let c = sum_by-cons f y ys in
    let d = sum_by-cons g y ys in
    let same : f y ≡ g y = omega arith in
    elim (cases_cons m) [ inl s ↦ ap f s ∙ same ∙ ap g (sym s) | inr k ↦ sums_parts f g ys (λ z k. h z (later k)) (omega arith) k ]
