-- Rows of places, each of them taken or free, and what is told of their places in turn.
use Rattle.std.proofs.Common.{◌≡◌, ℕ, zero, suc, ◌+◌, ◌<◌, ◌≤◌, ◌⊎◌, List, [], ◌∷◌, ◌++◌, length, get_or, set, replicate, None, Option, sym, refl, ap, ◌∙◌, inl, inr, arith}
use Rattle.std.specs.List.{range_with_len, flat_map}
use Rattle.std.proofs.lemmas.List.{append_assoc, length-set, length-replicate, get_or-set_same, get_or-set_other, get_or-replicate, get_or_past, ext_get_or}
use Rattle.std.proofs.lemmas.Bool.{cases_lt, cases_eq}

-- ---- what is told of each number in turn
pub joined_none : {X : Type 0} (g : ℕ → List X) (a n : ℕ) → ((k : ℕ) → a ≤ k → g k ≡ []) → flat_map g (range_with_len a n) ≡ []
joined_none g a zero none = refl
joined_none g a (suc n) none =
    rw (none a (omega arith)) (joined_none g (a + 1) n (λ k h. none k (omega arith)))

-- at j, where nothing was told from j on, one more is told
joined_one : {X : Type 0} (g h : ℕ → List X) (x : X) (a n j : ℕ) → a ≤ j → j < a + n → ((k : ℕ) → j ≤ k → g k ≡ []) → ((k : ℕ) → k < j → h k ≡ g k) → h j ≡ x ∷ [] → ((k : ℕ) → j < k → h k ≡ []) → flat_map h (range_with_len a n) ≡ flat_map g (range_with_len a n) ++ x ∷ []
joined_one g h x a zero j l m none same here later = absurd (omega arith)
joined_one g h x a (suc n) j l m none same here later =
    elim (cases_lt a j) [
      | inl b ↦
          let i = joined_one g h x (a + 1) n j (omega arith) (omega arith) none same here later in
          rw (same a b, i) (sym (append_assoc (g a) (flat_map g (range_with_len (a + 1) n)) (x ∷ [])))
      | inr b ↦
          let e : j ≡ a = omega arith in
          let u : h a ≡ x ∷ [] = rw (← e) here in
          rw (u, none a b, joined_none h (a + 1) n (λ k q. later k (omega arith)), joined_none g (a + 1) n (λ k q. none k (omega arith))) refl
    ]

-- ---- a row with one place set
pub set_either : {A : Type 0} (xs : List A) (i k : ℕ) (a d : A) → i < length xs → ((k ≡ i) × (get_or (set xs i a) k d ≡ a)) ⊎ (get_or (set xs i a) k d ≡ get_or xs k d)
set_either xs i k a d l =
    elim (cases_eq k i) [
      | inl e ↦ inl (e, rw e (get_or-set_same xs i a d l))
      | inr e ↦ inr (get_or-set_other xs i k a d e)
    ]

pub set_free : {A : Type 0} (xs : List (Option A)) (i : ℕ) (a : Option A) → ((k : ℕ) → i ≤ k → get_or xs k None ≡ None) → (k : ℕ) → i + 1 ≤ k → get_or (set xs i a) k None ≡ None
set_free xs i a free k l = get_or-set_other xs i k a None (λ e. omega arith) ∙ free k (omega arith)

-- and what is told of its places
pub set_told : {A X : Type 0} (f : ℕ → Option A → List X) (xs : List (Option A)) (i : ℕ) (a : Option A) (x : X) → ((k : ℕ) → f k None ≡ []) → f i a ≡ x ∷ [] → i < length xs → ((k : ℕ) → i ≤ k → get_or xs k None ≡ None) → flat_map (λ k. f k (get_or (set xs i a) k None)) (range_with_len 0 (length (set xs i a))) ≡ flat_map (λ k. f k (get_or xs k None)) (range_with_len 0 (length xs)) ++ x ∷ []
set_told f xs i a x none here l free =
    rw (length-set xs i a)
    (joined_one (λ k. f k (get_or xs k None)) (λ k. f k (get_or (set xs i a) k None)) x 0 (length xs) i (omega arith) (omega arith)
    (λ k h. ap (f k) (free k h) ∙ none k)
    (λ k h. ap (f k) (get_or-set_other xs i k a None (λ e. omega arith)))
    (ap (f i) (get_or-set_same xs i a None l) ∙ here)
    (λ k h. ap (f k) (set_free xs i a free k (omega arith)) ∙ none k))

-- ---- a row with all its places free
pub free_yet : {A : Type 0} (n k : ℕ) → ◌≡◌ {A = Option A} (get_or (replicate n None) k None) None
free_yet n k =
    elim (cases_lt k n) [
      | inl h ↦ get_or-replicate n k None None h
      | inr h ↦ get_or_past (replicate n None) k None (simp length-replicate (omega arith))
    ]

-- ---- a row that is filled from its front
-- xs is as ys below n, and free from there on
pub record Upto {A : Type 0} (xs ys : List (Option A)) (n : ℕ) : Type 0 where
  pub long : length xs ≡ length ys
  pub same : (k : ℕ) → k < n → get_or xs k None ≡ get_or ys k None
  pub free : (k : ℕ) → n ≤ k → get_or xs k None ≡ None

pub upto_none : {A : Type 0} (ys : List (Option A)) (n : ℕ) → length ys ≡ n → Upto (replicate n None) ys 0
upto_none ys n l = record { long = length-replicate n None ∙ sym l; same = λ k h. absurd (omega arith); free = λ k _. free_yet n k }

pub upto_all : {A : Type 0} (xs ys : List (Option A)) (n : ℕ) → Upto xs ys n → length ys ≤ n → xs ≡ ys
upto_all xs ys n u l = ext_get_or None xs ys u.long (λ k h. u.same k (omega (arith, u.long)))

pub upto_skip : {A : Type 0} (xs ys : List (Option A)) (n : ℕ) → Upto xs ys n → get_or ys n None ≡ None → Upto xs ys (n + 1)
upto_skip xs ys n u e = record {
  long = u.long;
  same = λ k h. elim (cases_lt k n) [
    | inl l ↦ u.same k l
    | inr l ↦ let q : k ≡ n = omega arith in u.free k l ∙ rw q (sym e)
  ];
  free = λ k h. u.free k (omega arith);
}

pub upto_set : {A : Type 0} (xs ys : List (Option A)) (n i : ℕ) (a : Option A) → Upto xs ys n → n < length ys → i ≡ n → get_or ys n None ≡ a → Upto (set xs i a) ys (n + 1)
upto_set xs ys n i a u l q e = rw q (record {
  long = length-set xs n a ∙ u.long;
  same = λ k h. elim (cases_eq k n) [
    | inl c ↦ rw c (get_or-set_same xs n a None (omega (arith, u.long)) ∙ sym e)
    | inr c ↦ get_or-set_other xs n k a None c ∙ u.same k (omega arith)
  ];
  free = set_free xs n a u.free;
})
