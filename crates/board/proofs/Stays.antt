-- The stay of a task that is placed: from its first start to its last end.
use Rattle.std.proofs.Common.{◌≡◌, ℕ, ◌+◌, ◌<◌, ◌≤◌, min, max, ◌⊎◌, List, [], ◌∷◌, length, Some, None, Option, sym, refl, ap, ◌∙◌, inl, inr, arith}
use Rattle.std.proofs.lemmas.Option.{none-some}
use mathlib.Core.List.Memᴰ.{cases_cons}
use mathlib.Core.List.Memᴰ.{head as here}
use mathlib.Core.List.Memᴰ.{not-nil}
use mathlib.Core.List.Memᴰ.{tail as later}
use mathlib.Core.List.{Memᴰ as Member}
use Rattle.std.proofs.lemmas.Bool.{cases_lt}
use Rattle.board.specs.declared.Seat.{Seat}
use Rattle.board.specs.Entries.{Entry, exec, Holds, length_of, owner, own}
use Rattle.board.specs.Plans.{PlanView, Valid}
use Rattle.board.specs.Sheets.{Sheet, start, end, Starts, Seated}
use Rattle.board.specs.Sound.{Before}
use Rattle.board.specs.Stays.{of_two, picked, first_start, last_end}
use Rattle.board.proofs.Entries.{in_own, of_own, length_low}
use Rattle.board.proofs.Starts.{some_is, seat_starts, end_is, end_from}

-- what the pick of all is, for a pick of one of two that is in front of both
module _ (pick : ℕ → ℕ → ℕ) (R : ℕ → ℕ → Type 0) (self : (a : ℕ) → R a a) (left : (a b c : ℕ) → R b c → R (pick a b) c) (right : (a b : ℕ) → R (pick a b) a) (f : Entry → Option ℕ) where
  of_two_left : (a : ℕ) (o : Option ℕ) → (m : ℕ) × (of_two pick (Some a) o ≡ Some m) × R m a
  of_two_left a None = (a, refl, self a)
  of_two_left a (Some b) = (pick a b, refl, right a b)

  of_two_right : (o : Option ℕ) (b c : ℕ) → R b c → (m : ℕ) × (of_two pick o (Some b) ≡ Some m) × R m c
  of_two_right None b c h = (b, refl, h)
  of_two_right (Some a) b c h = (pick a b, refl, left a b c h)

  picked_bound : (es : List Entry) {e : Entry} (a : ℕ) → Member e es → f e ≡ Some a → (m : ℕ) × (picked pick f es ≡ Some m) × R m a
  picked_bound [] a m h = absurd (not-nil m)
  picked_bound (g ∷ es) a m h = elim (cases_cons m) [
    | inl q ↦ (let k = ap f (sym q) ∙ h in rw k (of_two_left a (picked pick f es)))
    | inr n ↦ (let r = picked_bound es a n h in rw r.1 (of_two_right (f g) r.0 a r.2))
  ]

picked_from : (pick : ℕ → ℕ → ℕ) → ((a b : ℕ) → (pick a b ≡ a) ⊎ (pick a b ≡ b)) → (f : Entry → Option ℕ) (es : List Entry) (m : ℕ) → picked pick f es ≡ Some m → (e : Entry) × Member e es × (f e ≡ Some m)
picked_from pick one f [] m h = absurd (none-some m h)
picked_from pick one f (e ∷ es) m h = go (f e) (picked pick f es) refl refl h (picked_from pick one f es m)
  where
    go : (x y : Option ℕ) → f e ≡ x → picked pick f es ≡ y → of_two pick x y ≡ Some m → (picked pick f es ≡ Some m → (g : Entry) × Member g es × (f g ≡ Some m)) → (g : Entry) × Member g (e ∷ es) × (f g ≡ Some m)
    go None y a b h ih = let r = ih (b ∙ h) in (r.0, later r.1, r.2)
    go (Some x) None a b h ih = (e, here refl, a ∙ h)
    go (Some x) (Some y) a b h ih = elim (one x y) [ inl q ↦ (e, here refl, a ∙ ap Some (sym q) ∙ h) | inr q ↦ let r = ih (b ∙ ap Some (sym q) ∙ h) in (r.0, later r.1, r.2) ]

pub record Stay (p : PlanView) (s : Sheet) (t : ℕ) : Type 0 where
  pub from : ℕ
  pub to : ℕ
  pub is_first : first_start p s t ≡ Some from
  pub is_last : last_end p s t ≡ Some to
  -- the entry that starts first, and the one that ends last
  pub opener : Entry
  pub opener_own : Holds p opener × (owner p opener ≡ t)
  pub opener_starts : Starts s opener from
  pub closer : Entry
  pub closer_own : Holds p closer × (owner p closer ≡ t)
  pub closer_from : ℕ
  pub closer_starts : Starts s closer closer_from
  pub closer_ends : closer_from + length_of p closer ≡ to
  pub low : (e : Entry) (a : ℕ) → Holds p e → owner p e ≡ t → Starts s e a → from ≤ a
  pub high : (e : Entry) (a : ℕ) → Holds p e → owner p e ≡ t → Starts s e a → a + length_of p e ≤ to

min_one : (a b : ℕ) → (min a b ≡ a) ⊎ (min a b ≡ b)
min_one a b = elim (cases_lt a b) [ inl h ↦ inl (omega arith) | inr h ↦ inr (omega arith) ]

max_one : (a b : ℕ) → (max a b ≡ a) ⊎ (max a b ≡ b)
max_one a b = elim (cases_lt a b) [ inl h ↦ inr (omega arith) | inr h ↦ inl (omega arith) ]

module _ (p : PlanView) (s : Sheet) where
  first_bound : (t : ℕ) {e : Entry} (a : ℕ) → Member e (own p t) → Starts s e a → (m : ℕ) × (first_start p s t ≡ Some m) × (m ≤ a)
  first_bound t = picked_bound min (λ m a. m ≤ a) (λ a. omega arith) (λ a b c h. omega arith) (λ a b. omega arith) (start s) (own p t)

  last_bound : (t : ℕ) {e : Entry} (a : ℕ) → Member e (own p t) → end p s e ≡ Some a → (m : ℕ) × (last_end p s t ≡ Some m) × (a ≤ m)
  last_bound t = picked_bound max (λ m a. a ≤ m) (λ a. omega arith) (λ a b c h. omega arith) (λ a b. omega arith) (end p s) (own p t)

  pub stay : (t : ℕ) (x : Seat) → t < length p.tasks → Seated s t x → Stay p s t
  stay t x l h =
      let b = first_bound t x.start (here refl) (seat_starts s t x h) in
      let e = last_bound t (x.start + length_of p (exec t)) (here refl) (end_is p s (exec t) x.start (seat_starts s t x h)) in
      let o = picked_from min min_one (start s) (own p t) b.0 b.1 in
      let c = picked_from max max_one (end p s) (own p t) e.0 e.1 in
      let z = end_from p s c.0 e.0 c.2 in
      record {
        from = b.0;
        to = e.0;
        is_first = b.1;
        is_last = e.1;
        opener = o.0;
        opener_own = of_own p t o.0 l o.1;
        opener_starts = o.2;
        closer = c.0;
        closer_own = of_own p t c.0 l c.1;
        closer_from = z.0;
        closer_starts = z.1;
        closer_ends = z.2;
        low = λ f a hf w st. let q = first_bound t a (in_own p t f hf w) st in omega (arith, some_is b.0 q.0 (sym b.1 ∙ q.1));
        high = λ f a hf w st. let q = last_bound t (a + length_of p f) (in_own p t f hf w) (end_is p s f a st) in omega (arith, some_is e.0 q.0 (sym e.1 ∙ q.1));
      }

  -- a stay has a cycle
  pub stay_low : Valid p → (t : ℕ) (z : Stay p s t) → z.from < z.to
  stay_low v t z = omega (arith, z.high z.opener z.from z.opener_own.0 z.opener_own.1 z.opener_starts, length_low p v z.opener z.opener_own.0)

  pub before_from : (t u : ℕ) (z : Stay p s t) (y : Stay p s u) → z.to ≤ y.from → Before p s t u
  before_from t u z y h e f a b he hf oe of se sf = omega (arith, z.high e a he oe se, y.low f b hf of sf)

  pub from_before : (t u : ℕ) (z : Stay p s t) (y : Stay p s u) → Before p s t u → z.to ≤ y.from
  from_before t u z y h = omega (arith, h z.closer y.opener z.closer_from y.from z.closer_own.0 y.opener_own.0 z.closer_own.1 y.opener_own.1 z.closer_starts y.opener_starts, z.closer_ends)
