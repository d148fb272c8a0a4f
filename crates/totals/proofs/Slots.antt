-- What slots say of the entries of a table.
use Rattle.std.proofs.Common.{◌≡◌, ℕ, ◌+◌, ◌-◌, ◌*◌, ◌<◌, ◌≤◌, min, List, map, length, get_or, Some, None, vec_items, sum_by, sum, Option, sym, refl, ap, ◌∙◌, ap₂, inl, inr, arith}
use Rattle.std.specs.List.{range_with_len}
use Rattle.std.specs.Option.{option_map}
use Rattle.std.proofs.lemmas.List.FromFn.{fill_by_all, get_or-map-range_with_len}
use Rattle.std.proofs.lemmas.List.{get_or-map, get_or_past, length-map}
use Rattle.std.proofs.lemmas.List.Sums.{sum-map}
use Rattle.std.proofs.lemmas.Bool.{cases_lt}
use Rattle.std.proofs.lemmas.Iterator.Adapters.{option_map_id}
use Rattle.lane.specs.Claims.{Claimed, no_claim, cut}
use Rattle.board.specs.declared.Seat.{Seat}
use Rattle.board.specs.Entries.{Entry, exec, transfer, length_of, entries}
use Rattle.board.specs.Plans.{no_task}
use Rattle.board.specs.Sheets.{seat_of, start, end}
use Rattle.board.specs.Stays.{exec_claim, bus_claim, exec_claims, bus_claims}
use Rattle.board.proofs.Fitting.{transfer_start}
use Rattle.std.proofs.lemmas.Option.{none-some}
use Rattle.slots.specs.declared.slot.Slot.{Slot}
use Rattle.slots.specs.Views.{places, lengths, cut_place, slot_claimed}
use Rattle.table.specs.declared.model.Table.{Table}
use Rattle.table.specs.Tables.{plan_in, sheet}
use Rattle.table.proofs.Standing.{execs_long, transfers_long, fits}
use Rattle.totals.specs.Ends.{end_in, ends}
use Rattle.totals.proofs.Summing.{sum_entries}
use Rattle.board.proofs.Members.{sums_map}

-- nothing is cut off a claim that ends in time
pub uncut : (r a l : ℕ) → a + l ≤ 536870911 → cut r a l ≡ record { resource = r; first = a; length = l }
uncut r a l h =
    let x : min a 536870911 ≡ a = omega arith in
    let y : min l (536870911 - min a 536870911) ≡ l = omega arith in
    ap₂ (λ f n. record { resource = r; first = f; length = n }) x y

-- ---- slots of one kind
module _ {P : Type 0} (on from : P → ℕ) (xs : List (Slot P)) where
  empty_slot : Slot P
  empty_slot = record { length = 0; place = None }

  -- the end of an entry by the length and the place of its slot
  pub end_at : (i l : ℕ) → (i < length xs → get_or (lengths xs) i 0 ≡ l) → get_or (ends from xs) i None ≡ option_map (λ a. a + l) (option_map from (get_or (places xs) i None))
  end_at i l h =
      elim (cases_lt i (length xs)) [
        | inl b ↦
            get_or-map (λ x. option_map (λ a. a + x.length) (option_map from x.place)) xs i empty_slot None b
            ∙ ap₂ (λ n o. option_map (λ a. a + n) (option_map from o)) (sym (get_or-map (λ x. x.length) xs i empty_slot 0 b) ∙ h b) (sym (get_or-map (λ x. x.place) xs i empty_slot None b))
        | inr b ↦
            get_or_past (ends from xs) i None (simp length-map b)
            ∙ sym (ap (λ o. option_map (λ a. a + l) (option_map from o)) (get_or_past (places xs) i None (simp length-map b)))
      ]

  -- what the slots claim, where this is what is claimed of a length and a place
  module _ (claim : ℕ → Option P → Claimed) (none : (l : ℕ) → no_claim ≡ claim l None) (some : (l : ℕ) (x : P) → record { resource = on x; first = from x; length = l } ≡ claim l (Some x)) where
    uncut_place : (l : ℕ) (o : Option P) → ((z : ℕ) → option_map (λ a. a + l) (option_map from o) ≡ Some z → z ≤ 536870911) → cut_place on from l o ≡ claim l o
    uncut_place l None h = none l
    uncut_place l (Some x) h = uncut (on x) (from x) l (h (from x + l) refl) ∙ some l x

    pub claims_are : (n : ℕ) (long : ℕ → ℕ) (place : ℕ → Option P) → length xs ≡ n → ((i : ℕ) → i < length xs → get_or (lengths xs) i 0 ≡ long i) → ((i : ℕ) → get_or (places xs) i None ≡ place i)
        → ((i z : ℕ) → option_map (λ a. a + long i) (option_map from (place i)) ≡ Some z → z ≤ 536870911) → map (slot_claimed on from) xs ≡ map (λ i. claim (long i) (place i)) (range_with_len 0 n)
    claims_are n long place e ls ps small =
        fill_by_all (λ i. claim (long i) (place i)) (map (slot_claimed on from) xs) n no_claim (length-map xs (slot_claimed on from) ∙ e)
        (λ i h. let b : i < length xs = omega arith in
        get_or-map (slot_claimed on from) xs i empty_slot no_claim b
        ∙ ap₂ (cut_place on from) (sym (get_or-map (λ x. x.length) xs i empty_slot 0 b) ∙ ls i b) (sym (get_or-map (λ x. x.place) xs i empty_slot None b) ∙ ps i)
        ∙ uncut_place (long i) (place i) (small i))

-- ---- the slots of a table
module _ (t : Table) where
  -- there are as many as the plan has entries
  pub tasks_long : length (vec_items t.slots.execs) ≡ length (plan_in t).tasks
  tasks_long = execs_long (plan_in t) t.slots t.exec_lengths

  pub values_long : length (vec_items t.slots.transfers) ≡ 2 * length (plan_in t).channels
  values_long = transfers_long (plan_in t) t.slots t.transfer_lengths

  -- a seated task is one of the plan
  pub seated_below : (i : ℕ) (x : Seat) → seat_of (sheet t) i ≡ Some x → i < length (plan_in t).tasks
  seated_below i x e =
      elim (cases_lt i (length (plan_in t).tasks)) [
        | inl h ↦ h
        | inr h ↦ absurd (none-some x (sym (get_or_past (sheet t).execs i None (omega (arith, (fits t).execs))) ∙ e))
      ]

  -- what is placed ends by the last cycle
  pub end_small : (e : Entry) (z : ℕ) → end (plan_in t) (sheet t) e ≡ Some z → z ≤ 536870911
  end_small e z h = go (start (sheet t) e) refl h
    where
      go : (o : Option ℕ) → start (sheet t) e ≡ o → option_map (λ a. a + length_of (plan_in t) e) o ≡ Some z → z ≤ 536870911
      go None q h = absurd (none-some z h)
      go (Some a) q h = let same : Some (a + length_of (plan_in t) e) ≡ Some z = h in let is : a + length_of (plan_in t) e ≡ z = cc in omega (arith, t.ends_fit e a q)

  pub exec_long : (i : ℕ) → i < length (vec_items t.slots.execs) → get_or (lengths (vec_items t.slots.execs)) i 0 ≡ length_of (plan_in t) (exec i)
  exec_long i h = ap (λ l. get_or l i 0) t.exec_lengths ∙ get_or-map (λ u. u.limit) (plan_in t).tasks i no_task 0 (omega (arith, tasks_long))

  pub transfer_long : (v : ℕ) → v < length (vec_items t.slots.transfers) → get_or (lengths (vec_items t.slots.transfers)) v 0 ≡ length_of (plan_in t) (transfer v)
  transfer_long v h =
      ap (λ l. get_or l v 0) t.transfer_lengths
      ∙ get_or-map-range_with_len (λ u. length_of (plan_in t) (transfer u)) 0 (2 * length (plan_in t).channels) v v 0 (omega (arith, values_long)) (omega arith)

  -- slots that were lent: they are few, and all their lengths
  pub transfers_few : (xs : List (Slot ℕ)) → xs ≡ vec_items t.slots.transfers → length xs ≤ 1000
  transfers_few xs same = omega (arith, values_long, ap length same, t.plan.now.channel_count)

  pub lengths_sum : (xs : List (Slot Seat)) (ys : List (Slot ℕ)) (a b : ℕ) → xs ≡ vec_items t.slots.execs → ys ≡ vec_items t.slots.transfers → a ≡ sum_by (λ x. x.length) xs → b ≡ sum_by (λ y. y.length) ys → a + b ≡ sum_by (length_of (plan_in t)) (entries (plan_in t))
  lengths_sum xs ys a b ex ey ea eb =
      let p = plan_in t in
      let n = length p.tasks in
      let execs = vec_items t.slots.execs in
      let row = fill_by_all (λ i. length_of p (exec i)) (lengths execs) n 0 (length-map execs (λ x. x.length) ∙ tasks_long) (λ i h. exec_long i (omega (arith, tasks_long))) in
      ap₂ ◌+◌
      (ea ∙ sym (sum-map (λ x. x.length) xs) ∙ ap sum (ap lengths ex ∙ row) ∙ sums_map (λ k. k) (λ i. length_of p (exec i)) (range_with_len 0 n))
      (eb ∙ sym (sum-map (λ y. y.length) ys) ∙ ap sum (ap lengths ey ∙ t.transfer_lengths) ∙ sums_map (λ k. k) (λ v. length_of p (transfer v)) (range_with_len 0 (2 * length p.channels)))
      ∙ sym (sum_entries p (length_of p))

  -- the ends of slots that were lent are the entries'
  pub exec_ends : (xs : List (Slot Seat)) → xs ≡ vec_items t.slots.execs → (i : ℕ) → get_or (ends (λ (x : Seat). x.start) xs) i None ≡ end (plan_in t) (sheet t) (exec i)
  exec_ends xs same i =
      ap (λ ys. get_or (ends (λ (x : Seat). x.start) ys) i None) same
      ∙ end_at (λ x. x.core) (λ x. x.start) (vec_items t.slots.execs) i (length_of (plan_in t) (exec i)) (exec_long i)

  pub transfer_ends : (xs : List (Slot ℕ)) → xs ≡ vec_items t.slots.transfers → (v : ℕ) → get_or (ends (λ (a : ℕ). a) xs) v None ≡ end (plan_in t) (sheet t) (transfer v)
  transfer_ends xs same v =
      ap (λ ys. get_or (ends (λ (a : ℕ). a) ys) v None) same
      ∙ end_at (λ a. 0) (λ a. a) (vec_items t.slots.transfers) v (length_of (plan_in t) (transfer v)) (transfer_long v)
      ∙ ap (option_map (λ a. a + length_of (plan_in t) (transfer v))) (option_map_id (get_or (places (vec_items t.slots.transfers)) v None) ∙ sym (transfer_start (sheet t) v))

  -- the slots' claims are the sheet's
  pub exec_claims_are : map (slot_claimed (λ (x : Seat). x.core) (λ x. x.start)) (vec_items t.slots.execs) ≡ exec_claims (plan_in t) (sheet t)
  exec_claims_are =
      claims_are (λ x. x.core) (λ x. x.start) (vec_items t.slots.execs) exec_claim (λ l. refl) (λ l x. refl) (length (plan_in t).tasks) (λ i. length_of (plan_in t) (exec i)) (seat_of (sheet t)) tasks_long exec_long (λ i. refl) (λ i. end_small (exec i))

  pub bus_claims_are : map (slot_claimed (λ (a : ℕ). 0) (λ a. a)) (vec_items t.slots.transfers) ≡ bus_claims (plan_in t) (sheet t)
  bus_claims_are =
      claims_are (λ a. 0) (λ a. a) (vec_items t.slots.transfers) bus_claim (λ l. refl) (λ l a. refl) (2 * length (plan_in t).channels) (λ v. length_of (plan_in t) (transfer v)) (λ v. start (sheet t) (transfer v)) values_long transfer_long (λ v. sym (transfer_start (sheet t) v)) (λ v z h. end_small (transfer v) z (ap (option_map (λ a. a + length_of (plan_in t) (transfer v))) (sym (option_map_id (start (sheet t) (transfer v)))) ∙ h))

  -- ---- the read and the write of a channel, by the slots of its two sides
  pub record Side (e : Entry) (x : Slot ℕ) : Type 0 where
    pub starts : x.place ≡ start (sheet t) e
    pub ends : end_in (λ (a : ℕ). a) x ≡ end (plan_in t) (sheet t) e

  pub side : (v : ℕ) (d : Slot ℕ) → v < 2 * length (plan_in t).channels → Side (transfer v) (get_or (vec_items t.slots.transfers) v d)
  side v d h =
      let xs = vec_items t.slots.transfers in
      let x = get_or xs v d in
      let l : v < length xs = omega (arith, values_long) in
      let place : x.place ≡ start (sheet t) (transfer v) = sym (get_or-map (λ z. z.place) xs v d None l) ∙ sym (transfer_start (sheet t) v) in
      let long : x.length ≡ length_of (plan_in t) (transfer v) = sym (get_or-map (λ z. z.length) xs v d 0 l) ∙ transfer_long v l in
      record {
        starts = place;
        ends = ap₂ (λ n. option_map (λ a. a + n)) long (option_map_id x.place ∙ place);
      }

  pub side_small : (e : Entry) (x : Slot ℕ) → Side e x → (z : ℕ) → end_in (λ (a : ℕ). a) x ≡ Some z → z ≤ 536870911
  side_small e x s z h = end_small e z (sym s.ends ∙ h)
