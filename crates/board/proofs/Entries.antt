-- The entries of a plan: which it holds, whose they are, and their lengths.
use Rattle.std.proofs.Common.{◌≡◌, ℕ, ◌+◌, ◌-◌, ◌*◌, ◌/◌, ◌%◌, ◌<◌, ◌≤◌, eqb, map, length, sym, refl, ap, ◌∙◌, subst, inl, inr, arith}
use mathlib.Core.List.Memᴰ.{append_cases}
use mathlib.Core.List.Memᴰ.{append_left as in_left}
use mathlib.Core.List.Memᴰ.{append_right as in_right}
use mathlib.Core.List.Memᴰ.{cases_cons}
use mathlib.Core.List.Memᴰ.{cast}
use mathlib.Core.List.Memᴰ.{eq_of_singleton as of-singleton}
use mathlib.Core.List.Memᴰ.{head as here}
use mathlib.Core.List.Memᴰ.{map as in_map}
use mathlib.Core.List.Memᴰ.{of_map}
use mathlib.Core.List.Memᴰ.{tail as later}
use mathlib.Core.List.{Memᴰ as Member}
use Rattle.std.specs.List.{range_with_len}
use Rattle.std.proofs.lemmas.Nat.{le-div, mul-le}
use Rattle.std.proofs.lemmas.Bool.{eqb-true, eq-eqb, ne_eqb, cond_both, cond-true, cond-false}
use Rattle.board.specs.Plans.{PlanView, Valid, no_task, no_channel, channel_at, divided_up, cycles}
use Rattle.board.specs.Entries.{Entry, exec, write, read, producer, consumer, Holds, length_of, transfer, entries, inputs, outputs, awaited, owner, own}
use Rattle.board.proofs.Rounding.{rounds_up, at_least_itself}
use Rattle.board.proofs.Members.{in_below, of_below, in_kept, of_kept}

-- ---- the transfers by their values
pub transfer_write : (c : ℕ) → transfer (2 * c) ≡ write c
transfer_write c = cond-true (eqb (2 * c % 2) 0) (write (2 * c / 2)) (read (2 * c / 2)) (eq-eqb (2 * c % 2) 0 (omega arith)) ∙ ap write (omega arith)

pub transfer_read : (c : ℕ) → transfer (2 * c + 1) ≡ read c
transfer_read c = cond-false (eqb ((2 * c + 1) % 2) 0) (write ((2 * c + 1) / 2)) (read ((2 * c + 1) / 2)) (ne_eqb ((2 * c + 1) % 2) 0 (λ e. omega arith)) ∙ ap read (omega arith)

module _ (p : PlanView) where
  pub transfer_holds : (v : ℕ) → v < 2 * length p.channels → Holds p (transfer v)
  transfer_holds v h = cond_both (eqb (v % 2) 0) (write (v / 2)) (read (v / 2)) (Holds p) (λ e. omega arith) (λ e. omega arith)

  -- ---- the channels of a task
  in_inputs : (t c : ℕ) → c < length p.channels → consumer p c ≡ t → Member c (inputs p t)
  in_inputs t c h e = in_kept (λ d. eqb (consumer p d) t) (range_with_len 0 (length p.channels)) (in_below (length p.channels) c h) (eq-eqb (consumer p c) t e)

  in_outputs : (t c : ℕ) → c < length p.channels → producer p c ≡ t → Member c (outputs p t)
  in_outputs t c h e = in_kept (λ d. eqb (producer p d) t) (range_with_len 0 (length p.channels)) (in_below (length p.channels) c h) (eq-eqb (producer p c) t e)

  of_inputs : (t c : ℕ) → Member c (inputs p t) → (c < length p.channels) × (consumer p c ≡ t)
  of_inputs t c m =
      let (k, e) = of_kept (λ d. eqb (consumer p d) t) (range_with_len 0 (length p.channels)) m in
      (of_below (length p.channels) c k, eqb-true (consumer p c) t e)

  of_outputs : (t c : ℕ) → Member c (outputs p t) → (c < length p.channels) × (producer p c ≡ t)
  of_outputs t c m =
      let (k, e) = of_kept (λ d. eqb (producer p d) t) (range_with_len 0 (length p.channels)) m in
      (of_below (length p.channels) c k, eqb-true (producer p c) t e)

  -- ---- every entry
  in_transfers : (v : ℕ) (e : Entry) → transfer v ≡ e → v < 2 * length p.channels → Member e (entries p)
  in_transfers v e q h = in_right (map exec (range_with_len 0 (length p.tasks))) (cast (sym q) (in_map transfer (in_below (2 * length p.channels) v h)))

  pub in_entries : (e : Entry) → Holds p e → Member e (entries p)
  in_entries (exec t) h = in_left (map transfer (range_with_len 0 (2 * length p.channels))) (in_map exec (in_below (length p.tasks) t h))
  in_entries (write c) h = in_transfers (2 * c) (write c) (transfer_write c) (omega arith)
  in_entries (read c) h = in_transfers (2 * c + 1) (read c) (transfer_read c) (omega arith)

  pub of_entries : (e : Entry) → Member e (entries p) → Holds p e
  of_entries e m = elim (append_cases (map exec (range_with_len 0 (length p.tasks))) m) [
    | inl k ↦ (let (t, i, q) = of_map exec (range_with_len 0 (length p.tasks)) k in subst (Holds p) q (of_below (length p.tasks) t i))
    | inr k ↦ (let (v, i, q) = of_map transfer (range_with_len 0 (2 * length p.channels)) k in subst (Holds p) q (transfer_holds v (of_below (2 * length p.channels) v i)))
  ]

  -- ---- a task's own entries are those that it owns
  pub in_own : (t : ℕ) (e : Entry) → Holds p e → owner p e ≡ t → Member e (own p t)
  in_own t (exec u) h o = here (ap exec o)
  in_own t (write c) h o = later (in_right (map read (inputs p t)) (in_map write (in_outputs t c h o)))
  in_own t (read c) h o = later (in_left (map write (outputs p t)) (in_map read (in_inputs t c h o)))

  pub of_own : (t : ℕ) (e : Entry) → t < length p.tasks → Member e (own p t) → Holds p e × (owner p e ≡ t)
  of_own t e h m = elim (cases_cons m) [
    | inl q ↦ subst (λ f. Holds p f × (owner p f ≡ t)) (sym q) (h, refl)
    | inr n ↦ elim (append_cases (map read (inputs p t)) n) [
      | inl k ↦ (let (c, i, q) = of_map read (inputs p t) k in subst (λ f. Holds p f × (owner p f ≡ t)) q (of_inputs t c i))
      | inr k ↦ (let (c, i, q) = of_map write (outputs p t) k in subst (λ f. Holds p f × (owner p f ≡ t)) q (of_outputs t c i))
    ]
  ]

  module _ (v : Valid p) where
    pub awaited_held : (e w : Entry) → Holds p e → Member w (awaited p e) → Holds p w
    awaited_held (exec t) w h m = let (c, i, q) = of_map read (inputs p t) m in subst (Holds p) q (of_inputs t c i).0
    awaited_held (write c) w h m = let l : producer p c < length p.tasks = omega (arith, v.channels c no_channel h) in subst (Holds p) (sym (of-singleton m)) l
    awaited_held (read c) w h m = subst (Holds p) (sym (of-singleton m)) h

    cycles_low : (n : ℕ) → 1 ≤ n → 1 ≤ cycles p n
    cycles_low n h =
        let l = v.slot_load.0 in
        let q = le-div 1 (n + (p.slot_load - 1)) p.slot_load l (omega arith) in
        mul-le 1 1 (divided_up n p.slot_load) p.slot_time q v.slot_time.0

    pub length_low : (e : Entry) → Holds p e → 1 ≤ length_of p e
    length_low (exec t) h = (v.tasks t no_task h).0
    length_low (write c) h = cycles_low (channel_at p c).bytes (v.channels c no_channel h).0
    length_low (read c) h = cycles_low (channel_at p c).bytes (v.channels c no_channel h).0

    cycles_high : (n : ℕ) → n ≤ 4096 → cycles p n ≤ 409600
    cycles_high n h =
        let l = v.slot_load.0 in
        let q : divided_up n p.slot_load ≤ n = (rounds_up n p.slot_load n l).1 (at_least_itself n p.slot_load l) in
        mul-le (divided_up n p.slot_load) p.slot_time 4096 100 (omega arith) v.slot_time.1

    pub length_high : (e : Entry) → Holds p e → length_of p e ≤ 1000000
    length_high (exec t) h = (v.tasks t no_task h).1
    length_high (write c) h = omega (arith, cycles_high (channel_at p c).bytes (v.channels c no_channel h).1)
    length_high (read c) h = omega (arith, cycles_high (channel_at p c).bytes (v.channels c no_channel h).1)
