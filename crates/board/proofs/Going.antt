-- What stands before each record of a file that is read by rules.
use Rattle.std.proofs.Common.{◌≡◌, ℕ, ◌+◌, ◌<◌, true, false, List, length, Ok, Err, Result, refl, ap, ◌∙◌, arith}
use Rattle.words.specs.declared.fault.Fault.{Fault}
use Rattle.words.specs.declared.fault.Refusal.{Refusal}
use Rattle.words.specs.declared.kind.Kind.{Kind}
use Rattle.words.specs.Records.{Said, words_of, and_then, record_at, follows}
use Rattle.words.proofs.Taking.{taken_shorter, taken_less}
use Rattle.board.specs.Files.{Checked, ◌also◌, is_end, closing, told, Rules, walk, next, reads}
use Rattle.board.proofs.Passing.{unclosing}
use Rattle.board.proofs.Walking.{next_ok, walk_more, walk_end, walk_fault}

module _ {S : Type 0} (r : Rules S) where
  -- the words from here on decide, behind what was read
  abbrev pub GoesOn : List ℕ → S → List Kind → ℕ → List ℕ → Type 0
  GoesOn ws s kinds place rest = reads r ws ≡ walk r 0 kinds s place rest

  -- the next record, by what was taken
  abbrev Checking : S → ℕ → List ℕ → Said × List ℕ → Result (Said × List ℕ) Refusal
  Checking s place rest z = and_then (closing place (length rest) z.0 also r.why s place z.0) (λ _. Ok z)

  cut_by : (s : S) (place : ℕ) (rest : List ℕ) (f : Refusal) (y : Result (Said × List ℕ) Fault) → and_then (told y) (λ x. closing place (length rest) x.0) ≡ Err f → and_then (told y) (Checking s place rest) ≡ Err f
  cut_by s place rest f (Ok x) h = rw h refl
  cut_by s place rest f (Err e) h = ap Err (ap (λ y. elim y [ Ok _ ↦ f | Err d ↦ d ]) h)

  -- nothing can be taken, or an end does not close the file
  pub next_cut : (s : S) (kinds : List Kind) (place : ℕ) (rest : List ℕ) (f : Refusal) → and_then (told (record_at kinds place rest)) (λ x. closing place (length rest) x.0) ≡ Err f → next r kinds s place rest ≡ Err f
  next_cut s kinds place rest f h = cut_by s place rest f (record_at kinds place rest) h

  -- a record that is no end is taken, and the rules, asked at its place, decide
  pub next_more : (s : S) (kinds : List Kind) (place q : ℕ) (rest after : List ℕ) (x : Said) (y : Checked) → q ≡ place → is_end x ≡ false → record_at kinds place rest ≡ Ok (x, after) → r.why s q x ≡ y → next r kinds s place rest ≡ and_then y (λ _. Ok (x, after))
  next_more s kinds place q rest after x y a e t w =
      ap (λ y. and_then (told y) (Checking s place rest)) t
      ∙ ap (λ c. and_then (c also r.why s place x) (λ _. Ok (x, after))) (unclosing place (length rest) x e)
      ∙ ap (λ y. and_then y (λ _. Ok (x, after))) (rw (← a) w)

  -- the whole file, before anything was read
  pub going_first : (ws rest : List ℕ) (s : S) (place : ℕ) → s ≡ r.none → place ≡ 0 → rest ≡ ws → GoesOn ws s r.first place rest
  going_first ws rest s place a b e = rw (a, b, e) refl

  -- ---- what comes of the next record
  module _ (ws rest : List ℕ) (s : S) (kinds : List Kind) (place : ℕ) where
    pub going_more : (after : List ℕ) (x : Said) (s' : S) (kinds' : List Kind) (place' : ℕ) → GoesOn ws s kinds place rest → next r kinds s place rest ≡ Ok (x, after) → is_end x ≡ false → s' ≡ r.then s x → kinds' ≡ follows x → place' + length after ≡ place + length rest → GoesOn ws s' kinds' place' after
    going_more after x s' kinds' place' i n e v k q =
        let t = taken_shorter kinds place rest after x (next_ok r kinds s place rest x after n).taken in
        let p : place' ≡ place + length (words_of x) = omega arith in
        rw (v, k, p) (i ∙ walk_more r kinds s place rest x after n e)

    pub going_end : (after : List ℕ) (x : Said) → GoesOn ws s kinds place rest → next r kinds s place rest ≡ Ok (x, after) → is_end x ≡ true → reads r ws ≡ Ok s
    going_end after x i n e = i ∙ walk_end r kinds s place rest x after n e

    pub going_fault : (f : Refusal) → GoesOn ws s kinds place rest → next r kinds s place rest ≡ Err f → reads r ws ≡ Err f
    going_fault f i n = i ∙ walk_fault r kinds s place rest f n

  pub going_less : (rest : List ℕ) (s : S) (kinds : List Kind) (place : ℕ) (after : List ℕ) (x : Said) → next r kinds s place rest ≡ Ok (x, after) → length after < length rest
  going_less rest s kinds place after x n = taken_less kinds place rest after x (next_ok r kinds s place rest x after n).taken
