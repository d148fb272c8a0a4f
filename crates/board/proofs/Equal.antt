-- Wanted and clear are equal exactly on a sound sheet, so exactly where no run has a fault.
use Rattle.std.proofs.Common.{◌≡◌, ℕ, ◌+◌, ◌-◌, ◌<◌, ◌≤◌, true, ◌≢◌, ◌⊎◌, length, get_or, Some, None, sum_by, Option, sym, refl, ap, ◌∙◌, subst, ap₂, inl, inr, arith}
use mathlib.Core.List.{Memᴰ as Member}
use Rattle.std.specs.List.{range_with_len}
use Rattle.std.proofs.lemmas.Bool.{leb-true, le-leb}
use Rattle.lane.specs.Claims.{Claimed, claim_at}
use Rattle.board.specs.declared.Seat.{Seat}
use Rattle.board.specs.Entries.{Entry, exec, write, read, Holds, length_of, transfer, entries, awaited}
use Rattle.board.specs.Plans.{PlanView, Valid, need}
use Rattle.board.specs.Runs.{Transfer}
use Rattle.board.specs.Sheets.{Sheet, seat_of, start, end, Starts, Seated, Fits}
use Rattle.board.specs.Sound.{Sound, Apart, Before, EqualTotalsMeanSound, EqualTotalsMeanNoFault}
use Rattle.board.specs.Stays.{first_start, last_end, region_of, exec_claim, bus_claim, stay_claim, exec_claims, bus_claims, stay_claims}
use Rattle.board.specs.Totals.{ended_by, ready, has_room, clear_in, clear_of, clear_stay, wanted, clear}
use Rattle.board.proofs.Members.{of_all, in_all, in_below, of_below, sums_le, sums_same, sums_parts, sums_map}
use Rattle.board.proofs.Counts.{Undisturbed, clear_undisturbed, clear_le, tight, first_passes, others_apart, make_clear}
use Rattle.board.proofs.Entries.{transfer_holds, in_entries, of_entries, awaited_held, length_low}
use Rattle.board.proofs.Starts.{seat_from, seat_starts, seated_at, end_is}
use Rattle.board.proofs.Stays.{Stay, stay, stay_low, before_from, from_before}
use Rattle.board.proofs.Claims.{place, place_one, is_transfer, place_of, place_below, exec_claim_at, bus_claim_at, stay_claim_at, exec_claims_length, bus_claims_length, stay_claims_length, exec_is, bus_is, stay_is, exec_within, bus_within, clear_of_bus, clear_within}
use Rattle.board.proofs.NoFault.{sound_means_no_fault}

stays_sum : (p : PlanView) (s : Sheet) → sum_by (λ c. c.length) (stay_claims p s) ≡ sum_by (λ t. (claim_at (stay_claims p s) t).length) (range_with_len 0 (length p.tasks))
stays_sum p s =
    sums_map (λ c. c.length) claim (range_with_len 0 (length p.tasks))
    ∙ sums_same (λ t. (claim t).length) (λ t. (claim_at (stay_claims p s) t).length) (range_with_len 0 (length p.tasks)) (λ t m. sym (ap (λ c. c.length) (stay_claim_at p s t (of_below (length p.tasks) t m))))
  where
    claim : ℕ → Claimed
    claim t = stay_claim (seat_of s t) (first_start p s t) (last_end p s t)

module _ (p : PlanView) (s : Sheet) (v : Valid p) where
  -- ---- where every part of wanted is clear, the sheet is sound
  module _ (equal : (e : Entry) → Holds p e → length_of p e ≡ clear_of p s e) (stays : (t : ℕ) → t < length p.tasks → (claim_at (stay_claims p s) t).length ≡ clear_stay p s t) where
    exec_own : (t : ℕ) → t < length p.tasks → ((claim_at (exec_claims p s) t).length ≡ length_of p (exec t)) × Undisturbed (exec_claims p s) t (ready p s (exec t))
    exec_own t h = tight (exec_claims p s) t (ready p s (exec t)) (length_of p (exec t)) (exec_within p s t h) (equal (exec t) h)

    bus_own : (e : Entry) → Transfer e → Holds p e → ((claim_at (bus_claims p s) (place e)).length ≡ length_of p e) × Undisturbed (bus_claims p s) (place e) (ready p s e)
    bus_own e x h = tight (bus_claims p s) (place e) (ready p s e) (length_of p e) (bus_within p s e x h) (equal e h ∙ clear_of_bus p s e x)

    stay_own : (t : ℕ) → t < length p.tasks → Undisturbed (stay_claims p s) t (λ k. has_room p t (seat_of s t))
    stay_own t h = clear_undisturbed (stay_claims p s) t (λ k. has_room p t (seat_of s t)) (sym (stays t h))

    has_seat : (t : ℕ) → t < length p.tasks → (x : Seat) × Seated s t x
    has_seat t h = go (seat_of s t) refl
      where
        go : (o : Option Seat) → seat_of s t ≡ o → (x : Seat) × Seated s t x
        go None q = absurd (omega (arith, length_low p v (exec t) h, (exec_own t h).0, ap (λ c. c.length) (exec_claim_at p s t h ∙ ap (exec_claim (length_of p (exec t))) q)))
        go (Some x) q = (x, q)

    has_start : (e : Entry) → Transfer e → Holds p e → (a : ℕ) × Starts s e a
    has_start e x h = go (start s e) refl
      where
        go : (o : Option ℕ) → start s e ≡ o → (a : ℕ) × Starts s e a
        go None q = absurd (omega (arith, length_low p v e h, (bus_own e x h).0, ap (λ c. c.length) (bus_claim_at p s e x h ∙ ap (bus_claim (length_of p e)) q)))
        go (Some a) q = (a, q)

    is_placed : (e : Entry) → Holds p e → (a : ℕ) × Starts s e a
    is_placed (exec t) h = let x = has_seat t h in (x.0.start, seat_starts s t x.0 x.1)
    is_placed (write c) h = has_start (write c) tt h
    is_placed (read c) h = has_start (read c) tt h

    bus_ready : (e : Entry) (a : ℕ) → Transfer e → Holds p e → Starts s e a → ready p s e a ≡ true
    bus_ready e a x h q = first_passes (bus_claims p s) (place e) (ready p s e) 0 a (length_of p e) (bus_is p s e a x h q) (length_low p v e h) (bus_own e x h).1

    is_ready : (e : Entry) (a : ℕ) → Holds p e → Starts s e a → ready p s e a ≡ true
    is_ready (exec t) a h q =
        let x = has_seat t h in
        subst (λ k. ready p s (exec t) k ≡ true) (sym (seated_at s t x.0 a x.1 q)) (first_passes (exec_claims p s) t (ready p s (exec t)) x.0.core x.0.start (length_of p (exec t)) (exec_is p s t x.0 h x.1) (length_low p v (exec t) h) (exec_own t h).1)
    is_ready (write c) a h q = bus_ready (write c) a tt h q
    is_ready (read c) a h q = bus_ready (read c) a tt h q

    waited : (e w : Entry) (a b : ℕ) → Holds p e → Member w (awaited p e) → Starts s e a → Starts s w b → b + length_of p w ≤ a
    waited e w a b h m se sw = leb-true (b + length_of p w) a (subst (λ o. ended_by a o ≡ true) (end_is p s w b sw) (of_all (λ f. ended_by a (end p s f)) (awaited p e) (is_ready e a h se) m))

    cores_apart : (t u : ℕ) (x y : Seat) → t < length p.tasks → u < length p.tasks → t ≢ u → Seated s t x → Seated s u y → x.core ≡ y.core → Apart p s (exec t) (exec u)
    cores_apart t u x y lt lu d xt yu c a b sa sb =
        let i = seated_at s t x a xt sa in
        let j = seated_at s u y b yu sb in
        let l : u < length (exec_claims p s) = omega (arith, exec_claims_length p s) in
        elim (others_apart (exec_claims p s) t (ready p s (exec t)) y.core x.start (length_of p (exec t)) (exec_is p s t x lt xt ∙ ap (λ r. record { resource = r; first = x.start; length = length_of p (exec t) }) c) u y.start (length_of p (exec u)) (exec_is p s u y lu yu) l (λ q. d (sym q)) (length_low p v (exec t) lt) (length_low p v (exec u) lu) (exec_own t lt).1) [ inl h ↦ inl (omega arith) | inr h ↦ inr (omega arith) ]

    bus_apart : (e f : Entry) → Transfer e → Transfer f → Holds p e → Holds p f → e ≢ f → Apart p s e f
    bus_apart e f te tf he hf d a b sa sb =
        let l : place f < length (bus_claims p s) = omega (arith, bus_claims_length p s, place_below p f tf hf) in
        others_apart (bus_claims p s) (place e) (ready p s e) 0 a (length_of p e) (bus_is p s e a te he sa) (place f) b (length_of p f) (bus_is p s f b tf hf sb) l (place_one f e tf te (λ q. d (sym q))) (length_low p v e he) (length_low p v f hf) (bus_own e te he).1

    stays_apart : (t u : ℕ) (x y : Seat) → t < length p.tasks → u < length p.tasks → t ≢ u → Seated s t x → Seated s u y → x.core ≡ y.core → x.region ≡ y.region → Before p s t u ⊎ Before p s u t
    stays_apart t u x y lt lu d xt yu c q =
        let z = stay p s t x lt xt in
        let w = stay p s u y lu yu in
        let i = stay_low p s v t z in
        let j = stay_low p s v u w in
        let l : u < length (stay_claims p s) = omega (arith, stay_claims_length p s) in
        let r : region_of x ≡ region_of y = omega arith in
        elim (others_apart (stay_claims p s) t (λ k. has_room p t (seat_of s t)) (region_of y) z.from (z.to - z.from) (stay_is p s t x z lt xt ∙ ap (λ n. record { resource = n; first = z.from; length = z.to - z.from }) r) u w.from (w.to - w.from) (stay_is p s u y w lu yu) l (λ o. d (sym o)) (omega arith) (omega arith) (stay_own t lt)) [ inl h ↦ inl (before_from p s t u z w (omega arith)) | inr h ↦ inr (before_from p s u t w z (omega arith)) ]

    roomy_enough : (t : ℕ) (x : Seat) → t < length p.tasks → Seated s t x → need p t ≤ get_or p.regions x.region 0
    roomy_enough t x l h =
        let z = stay p s t x l h in
        let i = stay_low p s v t z in
        leb-true (need p t) (get_or p.regions x.region 0) (subst (λ o. has_room p t o ≡ true) h (first_passes (stay_claims p s) t (λ k. has_room p t (seat_of s t)) (region_of x) z.from (z.to - z.from) (stay_is p s t x z l h) (omega arith) (stay_own t l)))

    parts_sound : Sound p s
    parts_sound = record { placed = is_placed; cores = cores_apart; bus = bus_apart; waits = waited; regions = stays_apart; rooms = roomy_enough }

  equal_sound : wanted p s ≡ clear p s → Sound p s
  equal_sound e = parts_sound (λ f h. sums_parts (length_of p) (clear_of p s) (entries p) entry_within (omega (arith, entries_le, stays_le, stays_sum p s)) (in_entries p f h)) (λ t l. sums_parts (λ u. (claim_at (stay_claims p s) u).length) (clear_stay p s) (range_with_len 0 (length p.tasks)) stay_within (omega (arith, entries_le, stays_le, stays_sum p s)) (in_below (length p.tasks) t l))
    where
      entry_within : (f : Entry) → Member f (entries p) → clear_of p s f ≤ length_of p f
      entry_within f m = clear_within p s f (of_entries p f m)

      stay_within : (t : ℕ) → Member t (range_with_len 0 (length p.tasks)) → clear_stay p s t ≤ (claim_at (stay_claims p s) t).length
      stay_within t m = clear_le (stay_claims p s) t (λ k. has_room p t (seat_of s t))

      entries_le : sum_by (clear_of p s) (entries p) ≤ sum_by (length_of p) (entries p)
      entries_le = sums_le (clear_of p s) (length_of p) (entries p) entry_within

      stays_le : sum_by (clear_stay p s) (range_with_len 0 (length p.tasks)) ≤ sum_by (λ u. (claim_at (stay_claims p s) u).length) (range_with_len 0 (length p.tasks))
      stays_le = sums_le (clear_stay p s) (λ u. (claim_at (stay_claims p s) u).length) (range_with_len 0 (length p.tasks)) stay_within

  -- ---- on a sound sheet every part of wanted is clear
  module _ (fits : Fits p s) (g : Sound p s) where
    has_its_seat : (t : ℕ) → t < length p.tasks → (x : Seat) × Seated s t x
    has_its_seat t h =
        let (a, st) = g.placed (exec t) h in
        let (x, q, i) = seat_from s t a st in
        (x, q)

    ready_from : (e : Entry) (a k : ℕ) → Holds p e → Starts s e a → a ≤ k → ready p s e k ≡ true
    ready_from e a k h q l = in_all (λ w. ended_by k (end p s w)) (awaited p e) (λ w m. let b = g.placed w (awaited_held p v e w h m) in subst (λ o. ended_by k o ≡ true) (sym (end_is p s w b.0 b.1)) (le-leb _ _ (omega (arith, g.waits e w a b.0 h m q b.1))))

    exec_clear : (t : ℕ) → t < length p.tasks → length_of p (exec t) ≡ clear_of p s (exec t)
    exec_clear t l = make_clear (exec_claims p s) t (ready p s (exec t)) x.core x.start (length_of p (exec t)) (exec_is p s t x l xt) (λ k i. ready_from (exec t) x.start k l (seat_starts s t x xt) i.0) away
      where
        x : Seat
        x = (has_its_seat t l).0

        xt : Seated s t x
        xt = (has_its_seat t l).1

        away : (j : ℕ) → j < length (exec_claims p s) → j ≢ t → (c : Claimed) × (claim_at (exec_claims p s) j ≡ c) × (c.resource ≡ x.core → (x.start + length_of p (exec t) ≤ c.first) ⊎ (c.first + c.length ≤ x.start))
        away j h d =
            let m : j < length p.tasks = omega (arith, exec_claims_length p s) in
            let (y, yj) = has_its_seat j m in
            (record { resource = y.core; first = y.start; length = length_of p (exec j) }, exec_is p s j y m yj, λ q. g.cores t j x y l m (λ o. d (sym o)) xt yj (sym q) x.start y.start (seat_starts s t x xt) (seat_starts s j y yj))

    bus_clear : (e : Entry) → Transfer e → Holds p e → length_of p e ≡ clear_in (bus_claims p s) (place e) (ready p s e)
    bus_clear e x l = make_clear (bus_claims p s) (place e) (ready p s e) 0 a (length_of p e) (bus_is p s e a x l ea) (λ k i. ready_from e a k l ea i.0) away
      where
        a : ℕ
        a = (g.placed e l).0

        ea : Starts s e a
        ea = (g.placed e l).1

        away : (j : ℕ) → j < length (bus_claims p s) → j ≢ place e → (c : Claimed) × (claim_at (bus_claims p s) j ≡ c) × (c.resource ≡ 0 → (a + length_of p e ≤ c.first) ⊎ (c.first + c.length ≤ a))
        away j h d =
            let m = transfer_holds p j (omega (arith, bus_claims_length p s)) in
            let q = place_of j in
            let (b, fb) = g.placed (transfer j) m in
            (record { resource = 0; first = b; length = length_of p (transfer j) }, sym (ap (claim_at (bus_claims p s)) q) ∙ bus_is p s (transfer j) b (is_transfer j) m fb, λ r. g.bus e (transfer j) x (is_transfer j) l m (λ o. d (sym q ∙ ap place (sym o))) a b ea fb)

    -- a resource is one core and one region, since a region's number is below 8
    stays_away : (t u : ℕ) (x y : Seat) (z : Stay p s t) (w : Stay p s u) → t < length p.tasks → u < length p.tasks → t ≢ u → Seated s t x → Seated s u y → region_of y ≡ region_of x → (z.from + (z.to - z.from) ≤ w.from) ⊎ (w.from + (w.to - w.from) ≤ z.from)
    stays_away t u x y z w lt lu d xt yu q =
        let a = fits.seats t x xt in
        let b = fits.seats u y yu in
        let n = v.region_count.1 in
        let i = stay_low p s v t z in
        let j = stay_low p s v u w in
        elim (g.regions t u x y lt lu d xt yu (omega arith) (omega arith)) [ inl h ↦ inl (omega (arith, from_before p s t u z w h)) | inr h ↦ inr (omega (arith, from_before p s u t w z h)) ]

    stay_clear : (t : ℕ) → t < length p.tasks → (claim_at (stay_claims p s) t).length ≡ clear_stay p s t
    stay_clear t l = ap (λ c. c.length) is ∙ make_clear (stay_claims p s) t (λ k. has_room p t (seat_of s t)) (region_of x) z.from (z.to - z.from) is (λ k i. subst (λ o. has_room p t o ≡ true) (sym xt) (le-leb _ _ (g.rooms t x l xt))) away
      where
        x : Seat
        x = (has_its_seat t l).0

        xt : Seated s t x
        xt = (has_its_seat t l).1

        z : Stay p s t
        z = stay p s t x l xt

        is : claim_at (stay_claims p s) t ≡ record { resource = region_of x; first = z.from; length = z.to - z.from }
        is = stay_is p s t x z l xt

        away : (j : ℕ) → j < length (stay_claims p s) → j ≢ t → (c : Claimed) × (claim_at (stay_claims p s) j ≡ c) × (c.resource ≡ region_of x → (z.from + (z.to - z.from) ≤ c.first) ⊎ (c.first + c.length ≤ z.from))
        away j h d =
            let m : j < length p.tasks = omega (arith, stay_claims_length p s) in
            let (y, yj) = has_its_seat j m in
            let w = stay p s j y m yj in
            (record { resource = region_of y; first = w.from; length = w.to - w.from }, stay_is p s j y w m yj, stays_away t j x y z w l m (λ o. d (sym o)) xt yj)

    sound_entry : (e : Entry) → Holds p e → length_of p e ≡ clear_of p s e
    sound_entry (exec t) h = exec_clear t h
    sound_entry (write c) h = bus_clear (write c) tt h
    sound_entry (read c) h = bus_clear (read c) tt h

    sound_equal : wanted p s ≡ clear p s
    sound_equal = ap₂ ◌+◌ (sums_same (length_of p) (clear_of p s) (entries p) (λ e m. sound_entry e (of_entries p e m))) (stays_sum p s ∙ sums_same (λ t. (claim_at (stay_claims p s) t).length) (clear_stay p s) (range_with_len 0 (length p.tasks)) (λ t m. stay_clear t (of_below (length p.tasks) t m)))

pub equal_totals_mean_sound : EqualTotalsMeanSound
equal_totals_mean_sound p s v fits = (equal_sound p s v, sound_equal p s v fits)

pub equal_totals_mean_no_fault : EqualTotalsMeanNoFault
equal_totals_mean_no_fault p s v fits =
    let totals = equal_totals_mean_sound p s v fits in
    let runs = sound_means_no_fault p s v in
    (λ e. runs.0 (totals.0 e), λ c. totals.1 (runs.1 c))
