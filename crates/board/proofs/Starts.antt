-- Where the entries of a sheet start and end.
use Rattle.std.proofs.Common.{◌≡◌, ℕ, ◌+◌, Some, None, Option, sym, refl, ap, ◌∙◌}
use Rattle.std.proofs.lemmas.Option.{none-some}
use Rattle.std.specs.Option.{option_map}
use Rattle.board.specs.declared.Seat.{Seat}
use Rattle.board.specs.Entries.{Entry, exec, length_of}
use Rattle.board.specs.Plans.{PlanView}
use Rattle.board.specs.Sheets.{Sheet, seat_of, start, end, Starts, Seated}

pub some_is : {A : Type 0} (a b : A) → Some a ≡ Some b → a ≡ b
some_is a b e = cc

-- what is mapped comes from something
mapped_from : {A B : Type 0} (f : A → B) (o : Option A) (b : B) → option_map f o ≡ Some b → (a : A) × (o ≡ Some a) × (f a ≡ b)
mapped_from f None b h = absurd (none-some b h)
mapped_from f (Some a) b h = (a, refl, some_is (f a) b h)

-- ---- a placed exec and its seat
pub seat_starts : (s : Sheet) (t : ℕ) (x : Seat) → Seated s t x → Starts s (exec t) x.start
seat_starts s t x h = ap (option_map (λ (y : Seat). y.start)) h

pub seated_at : (s : Sheet) (t : ℕ) (x : Seat) (a : ℕ) → Seated s t x → Starts s (exec t) a → a ≡ x.start
seated_at s t x a h w = some_is a x.start (sym w ∙ seat_starts s t x h)

pub seat_from : (s : Sheet) (t a : ℕ) → Starts s (exec t) a → (x : Seat) × Seated s t x × (x.start ≡ a)
seat_from s t a h = mapped_from (λ (y : Seat). y.start) (seat_of s t) a h

-- ---- the end of what is placed
pub end_is : (p : PlanView) (s : Sheet) (e : Entry) (a : ℕ) → Starts s e a → end p s e ≡ Some (a + length_of p e)
end_is p s e a h = ap (option_map (λ b. b + length_of p e)) h

pub end_from : (p : PlanView) (s : Sheet) (e : Entry) (b : ℕ) → end p s e ≡ Some b → (a : ℕ) × Starts s e a × (a + length_of p e ≡ b)
end_from p s e b h = mapped_from (λ a. a + length_of p e) (start s e) b h
