-- What a task's exec waits for, channel by channel.
use Rattle.std.proofs.Common.{◌≡◌, ℕ, ◌+◌, ◌-◌, ◌<◌, ◌≤◌, max, Bool, true, false, cond, ◌&&◌, eqb, leb, List, [], ◌∷◌, map, length, Some, None, filter, sym, refl, ap, ◌∙◌, arith}
use Rattle.std.proofs.Math.Bool.{and_assoc, and-true}
use Rattle.std.proofs.lemmas.Bool.Decides.{nat_tests}
use Rattle.std.specs.List.{range_with_len, list_all}
use Rattle.std.proofs.lemmas.Bool.{le-leb}
use Rattle.board.specs.Entries.{exec, read, consumer}
use Rattle.board.specs.Plans.{PlanView}
use Rattle.board.specs.Sheets.{Sheet, end}
use Rattle.board.specs.Totals.{ended_by, ready}
use Rattle.board.proofs.Rests.{rest_all, rest_more, rest_none}

-- the reads into a task have ended, or a channel is no other's concern
module _ (p : PlanView) (s : Sheet) (t k : ℕ) where
  abbrev pub awaits : ℕ → Bool
  awaits c = ended_by k (cond (eqb (consumer p c) t) (end p s (read c)) (Some 0))

  -- of all channels, or only of those into the task
  waiting_kept : (cs : List ℕ) → list_all awaits cs ≡ list_all (λ w. ended_by k (end p s w)) (map read (filter (λ c. eqb (consumer p c) t) cs))
  waiting_kept [] = refl
  waiting_kept (c ∷ cs) = go (eqb (consumer p c) t) (waiting_kept cs)
    where
      go : (b : Bool) → list_all awaits cs ≡ list_all (λ w. ended_by k (end p s w)) (map read (filter (λ d. eqb (consumer p d) t) cs)) → (ended_by k (cond b (end p s (read c)) (Some 0)) && list_all awaits cs) ≡ list_all (λ w. ended_by k (end p s w)) (map read (cond b (c ∷ filter (λ d. eqb (consumer p d) t) cs) (filter (λ d. eqb (consumer p d) t) cs)))
      go true h = ap (λ b. ended_by k (end p s (read c)) && b) h
      go false h = ap (λ b. b && list_all awaits cs) (le-leb 0 k (omega arith)) ∙ h

  pub waiting_first : (ended_by k (Some 0) && list_all awaits (range_with_len 0 (length p.channels - 0))) ≡ ready p s (exec t) k
  waiting_first =
      ap (λ b. b && list_all awaits (range_with_len 0 (length p.channels - 0))) (le-leb 0 k (omega arith))
      ∙ ap (list_all awaits) (rest_all (length p.channels))
      ∙ waiting_kept (range_with_len 0 (length p.channels))

  pub waiting_more : (b : Bool) (i : ℕ) → i < length p.channels → (b && list_all awaits (range_with_len i (length p.channels - i))) ≡ ((b && awaits i) && list_all awaits (range_with_len (i + 1) (length p.channels - (i + 1))))
  waiting_more b i h = ap (λ cs. b && list_all awaits cs) (rest_more (length p.channels) i h) ∙ sym (and_assoc b (awaits i) _)

  pub waiting_none : (b : Bool) (i : ℕ) → length p.channels ≤ i → (b && list_all awaits (range_with_len i (length p.channels - i))) ≡ b
  waiting_none b i h = ap (λ cs. b && list_all awaits cs) (rest_none (length p.channels) i h) ∙ and-true b

  -- a channel into the task, whose read ends then, and any other channel
  pub waiting_into : (at m n i j : ℕ) → i < length p.channels → j ≡ i + 1 → n ≡ max m at → eqb (consumer p i) t ≡ true → Some m ≡ end p s (read i) → (ended_by k (Some n) && list_all awaits (range_with_len j (length p.channels - j))) ≡ (ended_by k (Some at) && list_all awaits (range_with_len i (length p.channels - i)))
  waiting_into at m n i j h ej en e q =
      rw (ej, en) (sym (waiting_more (ended_by k (Some at)) i h
      ∙ ap (λ b. b && list_all awaits (range_with_len (i + 1) (length p.channels - (i + 1))))
      (ap (λ o. ended_by k (Some at) && ended_by k o) (ap (λ b. cond b (end p s (read i)) (Some 0)) e ∙ sym q) ∙ both_by at m)))
    where
      both_by : (a b : ℕ) → (leb a k && leb b k) ≡ leb (max b a) k
      both_by a b = grind (arith, nat_tests)

  pub waiting_past : (at i j : ℕ) → i < length p.channels → j ≡ i + 1 → eqb (consumer p i) t ≡ false → (ended_by k (Some at) && list_all awaits (range_with_len j (length p.channels - j))) ≡ (ended_by k (Some at) && list_all awaits (range_with_len i (length p.channels - i)))
  waiting_past at i j h ej e =
      rw ej (sym (waiting_more (ended_by k (Some at)) i h
      ∙ ap (λ b. b && list_all awaits (range_with_len (i + 1) (length p.channels - (i + 1))))
      (ap (λ o. ended_by k (Some at) && ended_by k o) (ap (λ b. cond b (end p s (read i)) (Some 0)) e) ∙ ap (λ b. ended_by k (Some at) && b) (le-leb 0 k (omega arith)) ∙ and-true (ended_by k (Some at)))))

  -- a read into the task that is not placed
  pub waiting_never : (b : Bool) (i : ℕ) → i < length p.channels → eqb (consumer p i) t ≡ true → None ≡ end p s (read i) → (b && list_all awaits (range_with_len i (length p.channels - i))) ≡ false
  waiting_never b i h e q =
      waiting_more b i h
      ∙ ap (λ o. (b && ended_by k o) && list_all awaits (range_with_len (i + 1) (length p.channels - (i + 1)))) (ap (λ d. cond d (end p s (read i)) (Some 0)) e ∙ sym q)
      ∙ never b (list_all awaits (range_with_len (i + 1) (length p.channels - (i + 1))))
    where
      never : (b d : Bool) → ((b && false) && d) ≡ false
      never true d = refl
      never false d = refl
