-- One field of each element of a list, read and written.
use Rattle.std.proofs.Common.{◌≡◌, ℕ, ◌+◌, ◌-◌, ◌<◌, ◌≤◌, List, ◌++◌, map, length, get_or, drop, set, None, Option, sym, refl, ap, ◌∙◌, inl, inr, arith}
use Rattle.std.specs.List.{refill, length_refill}
use Rattle.std.proofs.lemmas.Bool.{cases_lt}
use Rattle.std.proofs.lemmas.List.{get_or-map, get_or-take, get_or_past, get_or_append_left, get_or-append_right, get_or-drop, length-map, map-set, set-get_or, set_past, ext_get_or}

module _ {X Y : Type 0} (f : X → Y) (xs : List X) (i : ℕ) where
  -- the field of the element that an access gave
  pub field_at : (x : X) (d : Y) → i < length xs → x ≡ get_or xs i x → f x ≡ get_or (map f xs) i d
  field_at x d h is = ap f is ∙ sym (get_or-map f xs i x d h)

  pub field_past : (d : Y) → length xs ≤ i → d ≡ get_or (map f xs) i d
  field_past d h = sym (get_or_past (map f xs) i d (simp length-map h))

  -- an element that is replaced by one with the same field
  pub same_field : (x y : X) → i < length xs → x ≡ get_or xs i x → f y ≡ f x → map f (set xs i y) ≡ map f xs
  same_field x y h is e = map-set f xs i y ∙ ap (set (map f xs) i) (e ∙ field_at x (f x) h is) ∙ set-get_or (map f xs) i (f x)

  pub field_set_past : (y : Y) → length xs ≤ i → map f xs ≡ set (map f xs) i y
  field_set_past y h = sym (set_past (map f xs) i y (simp length-map h))

-- ---- a row of places that is filled from its front
-- xs is ys before i and zs from i on
abbrev pub FilledTo : {P : Type 0} → ℕ → List (Option P) → List (Option P) → List (Option P) → Type 0
FilledTo i xs ys zs = (k : ℕ) → k < length xs → (k < i → get_or xs k None ≡ get_or ys k None) × (i ≤ k → get_or xs k None ≡ get_or zs k None)

module _ {P : Type 0} (ys zs : List (Option P)) where
  pub filled_all : (i : ℕ) (xs : List (Option P)) → i ≡ length ys → length xs ≡ length zs → FilledTo i xs ys zs → xs ≡ refill (length zs) zs ys
  filled_all i xs a l f =
      ext_get_or None xs (refill (length zs) zs ys) (l ∙ length_refill (length zs) zs ys refl)
      (λ k h.
      let m : k < length zs = omega (arith, h, l) in
      let t = get_or-take (length zs) (ys ++ drop (length ys) zs) k None m in
      elim (cases_lt k (length ys)) [
        | inl b ↦ (f k h).0 (omega (arith, a, b)) ∙ sym (t ∙ get_or_append_left ys (drop (length ys) zs) None k b)
        | inr b ↦
            let e : length ys + (k - length ys) ≡ k = omega (arith, b) in
            (f k h).1 (omega (arith, a, b)) ∙ sym (t ∙ get_or-append_right ys (drop (length ys) zs) (length ys) k None refl b ∙ get_or-drop (length ys) zs (k - length ys) None ∙ ap (λ j. get_or zs j None) e)
      ])
