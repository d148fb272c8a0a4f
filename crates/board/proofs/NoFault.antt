-- A sheet is sound exactly where no run has a fault.
use Rattle.std.proofs.Common.{◌≡◌, ℕ, ◌+◌, ◌-◌, ◌<◌, ◌≤◌, ◌≢◌, ◌⊎◌, length, get_or, Some, None, Option, sym, refl, ◌∙◌, inl, inr, arith}
use Rattle.std.proofs.lemmas.Option.{none-some}
use Rattle.std.proofs.lemmas.Bool.{cases_lt}
use Rattle.board.specs.declared.Seat.{Seat}
use Rattle.board.specs.Entries.{Entry, exec, Holds, length_of}
use Rattle.board.specs.Plans.{PlanView, Valid, need}
use Rattle.board.specs.Runs.{Run, Lives, Fault, unplaced, one_core, one_bus, too_early, one_region, too_small, Faultless}
use Rattle.board.specs.Sheets.{Sheet, start, Starts, Seated}
use Rattle.board.specs.Sound.{Sound, Before, SoundMeansNoFault}
use Rattle.board.proofs.Counts.{apart}
use Rattle.board.proofs.Entries.{awaited_held, length_low}
use Rattle.board.proofs.Starts.{seat_starts, seated_at}
use Rattle.board.proofs.Stays.{Stay, stay, stay_low, before_from}

module _ (p : PlanView) (s : Sheet) (v : Valid p) where
  -- two stays, one before the other, have no cycle in common
  lives_apart : (r : Entry → ℕ) → Run p r → (t u k : ℕ) → Before p s t u → Lives p s r t k → Lives p s r u k → ⊥
  lives_apart r run t u k h x y =
      let q = h x.closer y.opener x.closer_from y.from x.closer_own.0 y.opener_own.0 x.closer_own.1 y.opener_own.1 x.closer_starts y.opener_starts in
      omega (arith, run x.closer x.closer_own.0, x.within, y.within)

  sound_no_fault : Sound p s → Faultless p s
  sound_no_fault g r run (unplaced e h n) = let q = g.placed e h in none-some q.0 (sym n ∙ q.1)
  sound_no_fault g r run (one_core t u x y k lt lu d xt yu c i j) = elim (g.cores t u x y lt lu d xt yu c x.start y.start (seat_starts s t x xt) (seat_starts s u y yu)) [ inl q ↦ omega (arith, run (exec t) lt) | inr q ↦ omega (arith, run (exec u) lu) ]
  sound_no_fault g r run (one_bus e f a b k te tf he hf d se sf i j) = elim (g.bus e f te tf he hf d a b se sf) [ inl q ↦ omega (arith, run e he) | inr q ↦ omega (arith, run f hf) ]
  sound_no_fault g r run (too_early e w a b h m se sw l) = omega (arith, g.waits e w a b h m se sw, run w (awaited_held p v e w h m))
  sound_no_fault g r run (one_region t u x y k lt lu d xt yu c q lives lived) = elim (g.regions t u x y lt lu d xt yu c q) [ inl h ↦ lives_apart r run t u k h lives lived | inr h ↦ lives_apart r run u t k h lived lives ]
  sound_no_fault g r run (too_small t x l xt q) = omega (arith, g.rooms t x l xt)

  full : Run p (length_of p)
  full e h = (length_low p v e h, omega arith)

  module _ (clean : Faultless p s) where
    faultless : Fault p s (length_of p) → ⊥
    faultless = clean (length_of p) full

    lives : (t : ℕ) (z : Stay p s t) (k : ℕ) → z.from ≤ k → k < z.to → Lives p s (length_of p) t k
    lives t z k i j = record {
      opener = z.opener;
      opener_own = z.opener_own;
      from = z.from;
      opener_starts = z.opener_starts;
      closer = z.closer;
      closer_own = z.closer_own;
      closer_from = z.closer_from;
      closer_starts = z.closer_starts;
      within = (i, omega (arith, z.closer_ends));
    }

    is_placed : (e : Entry) → Holds p e → (a : ℕ) × Starts s e a
    is_placed e h = go (start s e) refl
      where
        go : (o : Option ℕ) → start s e ≡ o → (a : ℕ) × Starts s e a
        go None q = absurd (faultless (unplaced e h q))
        go (Some a) q = (a, q)

    regions_apart : (t u : ℕ) (x y : Seat) → t < length p.tasks → u < length p.tasks → t ≢ u → Seated s t x → Seated s u y → x.core ≡ y.core → x.region ≡ y.region → Before p s t u ⊎ Before p s u t
    regions_apart t u x y lt lu d xt yu c q =
        let z = stay p s t x lt xt in
        let w = stay p s u y lu yu in
        let i = stay_low p s v t z in
        let j = stay_low p s v u w in
        elim (apart z.from (z.to - z.from) w.from (w.to - w.from) (omega arith) (omega arith) (λ k m n. faultless (one_region t u x y k lt lu d xt yu c q (lives t z k m.0 (omega arith)) (lives u w k n.0 (omega arith)))))
        [ inl h ↦ inl (before_from p s t u z w (omega arith)) | inr h ↦ inr (before_from p s u t w z (omega arith)) ]

    no_fault_sound : Sound p s
    no_fault_sound = record {
      placed = is_placed;
      cores = λ t u x y lt lu d xt yu c a b sa sb. apart a (length_of p (exec t)) b (length_of p (exec u)) (length_low p v (exec t) lt) (length_low p v (exec u) lu) (λ k i j. faultless (one_core t u x y k lt lu d xt yu c (omega (arith, seated_at s t x a xt sa)) (omega (arith, seated_at s u y b yu sb))));
      bus = λ e f te tf he hf d a b sa sb. apart a (length_of p e) b (length_of p f) (length_low p v e he) (length_low p v f hf) (λ k i j. faultless (one_bus e f a b k te tf he hf d sa sb i j));
      waits = λ e w a b h m sa sb. elim (cases_lt a (b + length_of p w)) [ inl l ↦ absurd (faultless (too_early e w a b h m sa sb l)) | inr l ↦ l ];
      regions = regions_apart;
      rooms = λ t x l xt. elim (cases_lt (get_or p.regions x.region 0) (need p t)) [ inl q ↦ absurd (faultless (too_small t x l xt q)) | inr q ↦ q ];
    }

pub sound_means_no_fault : SoundMeansNoFault
sound_means_no_fault p s v = (sound_no_fault p s v, no_fault_sound p s v)
