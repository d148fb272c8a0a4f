-- The first start and the last end of a task's own entries, channel by channel.
use Rattle.std.proofs.Common.{◌≡◌, ℕ, ◌+◌, ◌-◌, ◌<◌, ◌≤◌, min, max, Bool, true, false, cond, eqb, List, [], ◌∷◌, ◌++◌, map, length, Some, None, filter, Option, sym, refl, ap, ◌∙◌, ap₂, arith}
use Rattle.std.proofs.Math.Nat.{min_comm, max_comm}
use Rattle.std.specs.List.{range_with_len}
use Rattle.board.specs.Entries.{Entry, exec, write, read, producer, consumer, own, inputs, outputs}
use Rattle.board.specs.Plans.{PlanView}
use Rattle.board.specs.Sheets.{Sheet, start, end}
use Rattle.board.specs.Stays.{of_two, picked, first_start, last_end}
use Rattle.board.proofs.Rests.{rest_all, rest_more, rest_none}

-- the channel goes into the task, or out of it
abbrev into : PlanView → ℕ → ℕ → Bool
into p t c = eqb (consumer p c) t

abbrev out : PlanView → ℕ → ℕ → Bool
out p t c = eqb (producer p c) t

-- the pick of the reads into the task and the writes out of it, from these channels
abbrev among : (ℕ → ℕ → ℕ) → (Entry → Option ℕ) → PlanView → ℕ → List ℕ → Option ℕ
among pick f p t cs = of_two pick (picked pick f (map read (filter (into p t) cs))) (picked pick f (map write (filter (out p t) cs)))

-- from the channels from i on
abbrev left : (ℕ → ℕ → ℕ) → (Entry → Option ℕ) → PlanView → ℕ → ℕ → Option ℕ
left pick f p t i = among pick f p t (range_with_len i (length p.channels - i))

module _ (pick : ℕ → ℕ → ℕ) (pick_assoc : (a b c : ℕ) → pick (pick a b) c ≡ pick a (pick b c)) (pick_swap : (a b : ℕ) → pick a b ≡ pick b a) where
  two_none : (x : Option ℕ) → of_two pick x None ≡ x
  two_none None = refl
  two_none (Some a) = refl

  two_assoc : (x y z : Option ℕ) → of_two pick (of_two pick x y) z ≡ of_two pick x (of_two pick y z)
  two_assoc None y z = refl
  two_assoc (Some a) None z = refl
  two_assoc (Some a) (Some b) None = refl
  two_assoc (Some a) (Some b) (Some c) = ap Some (pick_assoc a b c)

  two_swap : (x y : Option ℕ) → of_two pick x y ≡ of_two pick y x
  two_swap None y = sym (two_none y)
  two_swap (Some a) None = refl
  two_swap (Some a) (Some b) = ap Some (pick_swap a b)

  -- x and y come to the front
  regroup : (o x a y b : Option ℕ) → of_two pick o (of_two pick (of_two pick x a) (of_two pick y b)) ≡ of_two pick (of_two pick (of_two pick o x) y) (of_two pick a b)
  regroup o x a y b =
      ap (of_two pick o) (two_assoc x a (of_two pick y b) ∙ ap (of_two pick x) (sym (two_assoc a y b) ∙ ap (λ z. of_two pick z b) (two_swap a y) ∙ two_assoc y a b))
      ∙ sym (two_assoc o x (of_two pick y (of_two pick a b)))
      ∙ sym (two_assoc (of_two pick o x) y (of_two pick a b))

  module _ (f : Entry → Option ℕ) where
    picked_append : (es fs : List Entry) → picked pick f (es ++ fs) ≡ of_two pick (picked pick f es) (picked pick f fs)
    picked_append [] fs = refl
    picked_append (e ∷ es) fs = ap (of_two pick (f e)) (picked_append es fs) ∙ sym (two_assoc (f e) (picked pick f es) (picked pick f fs))

    picked_kept : (g : ℕ → Entry) (b : Bool) (c : ℕ) (cs : List ℕ) → picked pick f (map g (cond b (c ∷ cs) cs)) ≡ of_two pick (cond b (f (g c)) None) (picked pick f (map g cs))
    picked_kept g true c cs = refl
    picked_kept g false c cs = refl

    module _ (p : PlanView) (t : ℕ) where
      left_first : of_two pick (f (exec t)) (left pick f p t 0) ≡ picked pick f (own p t)
      left_first =
          ap (of_two pick (f (exec t))) (ap (among pick f p t) (rest_all (length p.channels)) ∙ sym (picked_append (map read (inputs p t)) (map write (outputs p t))))

      left_more : (o : Option ℕ) (i : ℕ) → i < length p.channels → of_two pick (of_two pick (of_two pick o (cond (into p t i) (f (read i)) None)) (cond (out p t i) (f (write i)) None)) (left pick f p t (i + 1)) ≡ of_two pick o (left pick f p t i)
      left_more o i h =
          let cs = range_with_len (i + 1) (length p.channels - (i + 1)) in
          sym (
          ap (of_two pick o) (ap (among pick f p t) (rest_more (length p.channels) i h) ∙ ap₂ (of_two pick) (picked_kept read (into p t i) i (filter (into p t) cs)) (picked_kept write (out p t i) i (filter (out p t) cs)))
          ∙ regroup o (cond (into p t i) (f (read i)) None) (picked pick f (map read (filter (into p t) cs))) (cond (out p t i) (f (write i)) None) (picked pick f (map write (filter (out p t) cs)))
          )

      left_none : (o : Option ℕ) (i : ℕ) → length p.channels ≤ i → of_two pick o (left pick f p t i) ≡ o
      left_none o i h = ap (of_two pick o) (ap (among pick f p t) (rest_none (length p.channels) i h)) ∙ two_none o

      -- one channel further: first its read, then its write
      step : (a b c i : ℕ) (m : Option ℕ) → i < length p.channels → Some b ≡ of_two pick (Some a) (cond (into p t i) (f (read i)) None) → Some c ≡ of_two pick (Some b) (cond (out p t i) (f (write i)) None) → of_two pick (Some a) (left pick f p t i) ≡ m → of_two pick (Some c) (left pick f p t (i + 1)) ≡ m
      step a b c i m h eb ec inv =
          ap (λ o. of_two pick o (left pick f p t (i + 1))) (ec ∙ ap (λ o. of_two pick o (cond (out p t i) (f (write i)) None)) eb)
          ∙ left_more (Some a) i h
          ∙ inv

-- ---- both: from `first` to `last`, and what the channels from i on add
pub record Reaching (p : PlanView) (s : Sheet) (t i first last : ℕ) : Type 0 where
  pub starts : of_two min (Some first) (left min (start s) p t i) ≡ first_start p s t
  pub ends : of_two max (Some last) (left max (end p s) p t i) ≡ last_end p s t

-- from `first` to `last`, and with an entry more from `first2` to `last2`, if it is the task's own
pub record Grown (p : PlanView) (s : Sheet) (b : Bool) (e : Entry) (first last first2 last2 : ℕ) : Type 0 where
  pub starts : Some first2 ≡ of_two min (Some first) (cond b (start s e) None)
  pub ends : Some last2 ≡ of_two max (Some last) (cond b (end p s e) None)

min_assoc : (a b c : ℕ) → min (min a b) c ≡ min a (min b c)
min_assoc a b c = omega arith

max_assoc : (a b c : ℕ) → max (max a b) c ≡ max a (max b c)
max_assoc a b c = omega arith

module _ (p : PlanView) (s : Sheet) (t : ℕ) where
  pub reaching_first : (a z : ℕ) → Some a ≡ start s (exec t) → Some z ≡ end p s (exec t) → Reaching p s t 0 a z
  reaching_first a z ea ez = record {
    starts = ap (λ o. of_two min o (left min (start s) p t 0)) ea ∙ left_first min min_assoc min_comm (start s) p t;
    ends = ap (λ o. of_two max o (left max (end p s) p t 0)) ez ∙ left_first max max_assoc max_comm (end p s) p t;
  }

  pub reaching_more : (i j a b c x y z : ℕ) → i < length p.channels → j ≡ i + 1 → Reaching p s t i a x → Grown p s (into p t i) (read i) a x b y → Grown p s (out p t i) (write i) b y c z → Reaching p s t j c z
  reaching_more i j a b c x y z h e r g k = rw e (record {
    starts = step min min_assoc min_comm (start s) p t a b c i (first_start p s t) h g.starts k.starts r.starts;
    ends = step max max_assoc max_comm (end p s) p t x y z i (last_end p s t) h g.ends k.ends r.ends;
  })

  pub reaching_none : (i a z : ℕ) → length p.channels ≤ i → Reaching p s t i a z → (Some a ≡ first_start p s t) × (Some z ≡ last_end p s t)
  reaching_none i a z h r =
      (sym (left_none min min_assoc min_comm (start s) p t (Some a) i h) ∙ r.starts, sym (left_none max max_assoc max_comm (end p s) p t (Some z) i h) ∙ r.ends)
