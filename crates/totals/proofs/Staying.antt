-- The stays of a table's sheet.
use Rattle.std.proofs.Common.{◌≡◌, ℕ, ◌+◌, ◌*◌, ◌<◌, ◌≤◌, List, map, length, sum_by, get_or, Some, None, Option, sym, refl, ap, ◌∙◌, subst, arith}
use Rattle.std.proofs.lemmas.List.Sums.{sum_by-le}
use Rattle.std.proofs.lemmas.List.{get_or-map, length-map, ext_get_or}
use Rattle.lane.specs.declared.claim.Span.{Span}
use Rattle.lane.specs.Claims.{Claimed, no_claim, cut, claim_at}
use Rattle.board.specs.declared.Seat.{Seat}
use Rattle.board.specs.Entries.{exec}
use Rattle.board.specs.Sheets.{seat_of}
use Rattle.board.specs.Stays.{first_start, last_end, stay_claim, stay_claims}
use Rattle.board.proofs.Claims.{stay_claim_at, stay_claims_length}
use Rattle.board.proofs.Starts.{some_is, seat_starts}
use Rattle.board.proofs.Stays.{stay}
use Rattle.table.specs.declared.model.Table.{Table}
use Rattle.table.specs.Tables.{plan_in, sheet}
use Rattle.totals.specs.Spans.{span_of}
use Rattle.board.specs.Totals.{has_room, clear_stay}
use Rattle.board.proofs.Counts.{clear_le}
use Rattle.board.proofs.Members.{sums_map}
use Rattle.std.specs.List.{range_with_len}
use Rattle.std.proofs.lemmas.List.FromFn.{length-range_with_len, get_or-range_with_len}
use Rattle.totals.proofs.Slots.{uncut, seated_below}

-- the sum of all stays' lengths, and how many cycles of them are clear
abbrev pub all_lengths : Table → ℕ
all_lengths t = sum_by (λ c. c.length) (stay_claims (plan_in t) (sheet t))

abbrev pub all_clear : Table → ℕ
all_clear t = sum_by (clear_stay (plan_in t) (sheet t)) (range_with_len 0 (length (plan_in t).tasks))

module _ (t : Table) where
  -- a seated task's stay ends behind its start, and by the last cycle
  pub stay_order : (i : ℕ) (x : Seat) (a b : ℕ) → seat_of (sheet t) i ≡ Some x → Some a ≡ first_start (plan_in t) (sheet t) i → Some b ≡ last_end (plan_in t) (sheet t) i → (a ≤ b) × (b ≤ 536870911)
  stay_order i x a b e ea eb =
      let h = seated_below t i x e in
      let z = stay (plan_in t) (sheet t) i x h e in
      let first = some_is a z.from (ea ∙ z.is_first) in
      let last = some_is b z.to (eb ∙ z.is_last) in
      let low = z.low (exec i) x.start h refl (seat_starts (sheet t) i x e) in
      let high = z.high (exec i) x.start h refl (seat_starts (sheet t) i x e) in
      let by = t.ends_fit z.closer z.closer_from z.closer_starts in
      (omega arith, omega (arith, z.closer_ends))

  stay_small_at : (i : ℕ) (o : Option Seat) → seat_of (sheet t) i ≡ o → i < length (plan_in t).tasks → let c = stay_claim o (first_start (plan_in t) (sheet t) i) (last_end (plan_in t) (sheet t) i) in c.first + c.length ≤ 536870911
  stay_small_at i None e h = omega arith
  stay_small_at i (Some x) e h =
      let z = stay (plan_in t) (sheet t) i x h e in
      let o = stay_order i x z.from z.to e (sym z.is_first) (sym z.is_last) in
      subst (λ (c : Claimed). c.first + c.length ≤ 536870911) (sym (ap (λ u. stay_claim (Some x) u (last_end (plan_in t) (sheet t) i)) z.is_first ∙ ap (stay_claim (Some x) (Some z.from)) z.is_last)) (omega arith)

  pub stay_small : (i : ℕ) → i < length (plan_in t).tasks → (claim_at (stay_claims (plan_in t) (sheet t)) i).first + (claim_at (stay_claims (plan_in t) (sheet t)) i).length ≤ 536870911
  stay_small i h = subst (λ (c : Claimed). c.first + c.length ≤ 536870911) (sym (stay_claim_at (plan_in t) (sheet t) i h)) (stay_small_at i (seat_of (sheet t) i) refl h)

  -- spans that are the stays are told uncut
  pub stays_uncut : (xs : List Span) → map span_of xs ≡ stay_claims (plan_in t) (sheet t) → map (λ z. cut z.resource z.first z.length) xs ≡ stay_claims (plan_in t) (sheet t)
  stays_uncut xs e =
      let long : length xs ≡ length (plan_in t).tasks = sym (length-map xs span_of) ∙ ap length e ∙ stay_claims_length (plan_in t) (sheet t) in
      let nothing : Span = record { resource = 0; first = 0; length = 0 } in
      ext_get_or no_claim (map (λ z. cut z.resource z.first z.length) xs) (map span_of xs) (length-map xs _ ∙ sym (length-map xs span_of))
      (λ i l. let h : i < length xs = omega (arith, length-map xs (λ z. cut z.resource z.first z.length)) in
      let at = get_or-map span_of xs i nothing no_claim h in
      let small = subst (λ cs. (claim_at cs i).first + (claim_at cs i).length ≤ 536870911) (sym e) (stay_small i (omega arith)) in
      get_or-map (λ z. cut z.resource z.first z.length) xs i nothing no_claim h
      ∙ uncut (get_or xs i nothing).resource (get_or xs i nothing).first (get_or xs i nothing).length (subst (λ (c : Claimed). c.first + c.length ≤ 536870911) at small)
      ∙ sym at)
      ∙ e

  -- the stay of the i-th task
  abbrev pub the_stay : ℕ → Claimed
  the_stay i = stay_claim (seat_of (sheet t) i) (first_start (plan_in t) (sheet t) i) (last_end (plan_in t) (sheet t) i)

  -- ---- sums of stays
  abbrev tasks : List ℕ
  tasks = range_with_len 0 (length (plan_in t).tasks)

  few : length tasks ≤ 64
  few = omega (arith, length-range_with_len 0 (length (plan_in t).tasks), t.plan.now.task_count.1)

  below : (k d : ℕ) → k < length tasks → get_or tasks k d < length (plan_in t).tasks
  below k d h = let n = length (plan_in t).tasks in let long = length-range_with_len 0 n in omega (arith, long, get_or-range_with_len 0 n k d (omega (arith, long)))

  pub lengths_small : all_lengths t ≤ 64 * 536870911
  lengths_small =
      omega (arith, few, sums_map (λ c. c.length) the_stay tasks, sum_by-le (λ i. (the_stay i).length) 536870911 tasks (λ k d h. let i = get_or tasks k d in omega (arith, stay_small_at i (seat_of (sheet t) i) refl (below k d h))))

  pub clear_small : all_clear t ≤ 64 * 536870911
  clear_small =
      let p = plan_in t in
      omega (arith, few, sum_by-le (clear_stay p (sheet t)) 536870911 tasks (λ k d h. let i = get_or tasks k d in omega (arith, clear_le (stay_claims p (sheet t)) i (λ k. has_room p i (seat_of (sheet t) i)), stay_small i (below k d h))))
