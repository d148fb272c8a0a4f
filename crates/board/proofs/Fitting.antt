-- Sheets that fit their plan, and what keeps them so: setting or emptying one entry.
use Rattle.std.proofs.Common.{◌≡◌, ℕ, ◌+◌, ◌*◌, ◌/◌, ◌%◌, ◌<◌, ◌≤◌, true, eqb, ◌⊎◌, List, length, get_or, set, Some, None, Option, sym, ap, ◌∙◌, inl, inr, arith}
use Rattle.std.proofs.lemmas.Option.{none-some}
use Rattle.std.proofs.lemmas.List.{length-set, length-replicate, set_past}
use Rattle.std.proofs.lemmas.Bool.{cases_Bool, cases_lt}
use Rattle.std.proofs.lemmas.Bool.Decides.{nat_tests}
use Rattle.board.specs.declared.Entry.{Entry as Named}
use Rattle.board.specs.declared.Entry.TheVariants.{Exec, Write, Read}
use Rattle.board.specs.declared.Seat.{Seat}
use Rattle.board.specs.Entries.{Entry, exec, write, read, transfer, length_of}
use Rattle.board.specs.Placing.{entry_of, known, put, cleared}
use Rattle.board.specs.Plans.{PlanView}
use Rattle.board.specs.Sheets.{Sheet, Fits, Starts, start, empty, with_exec, with_transfer}
use Rattle.board.proofs.Entries.{transfer_write, transfer_read}
use Rattle.board.proofs.Rows.{set_either, free_yet}
use Rattle.board.proofs.Starts.{some_is, seat_from, seat_starts}

-- ---- the transfer of a value
pub transfer_start : (s : Sheet) (v : ℕ) → start s (transfer v) ≡ get_or s.transfers v None
transfer_start s v =
    elim (cases_Bool (eqb (v % 2) 0)) [
      | inl e ↦ let k : 2 * (v / 2) ≡ v = grind (arith, nat_tests) in rw e (ap (λ n. get_or s.transfers n None) k)
      | inr e ↦ let k : 2 * (v / 2) + 1 ≡ v = grind (arith, nat_tests) in rw e (ap (λ n. get_or s.transfers n None) k)
    ]

-- what stands in a row with one place set stood there before, or was set
set_gives : {A : Type 0} (xs : List A) (i k : ℕ) (a d b : A) → get_or (set xs i a) k d ≡ b → ((k ≡ i) × (a ≡ b)) ⊎ (get_or xs k d ≡ b)
set_gives xs i k a d b h =
    elim (cases_lt i (length xs)) [
      | inl l ↦ elim (set_either xs i k a d l) [ inl e ↦ inl (e.0, sym e.1 ∙ h) | inr e ↦ inr (sym e ∙ h) ]
      | inr l ↦ inr (ap (λ ys. get_or ys k d) (sym (set_past xs i a l)) ∙ h)
    ]

module _ (p : PlanView) (s : Sheet) (f : Fits p s) where
  -- ---- an exec is seated where it may be, or emptied
  module _ (t : ℕ) (o : Option Seat) (may : (x : Seat) → o ≡ Some x → (x.core < p.cores) × (x.region < length p.regions) × (x.start + length_of p (exec t) ≤ 536870911)) where
    exec_ends : (e : Entry) (a : ℕ) → Starts (with_exec s t o) e a → a + length_of p e ≤ 536870911
    exec_ends (exec k) a h =
        let (x, xk, q) = seat_from (with_exec s t o) k a h in
        elim (set_gives s.execs t k o None (Some x) xk) [
          | inl e ↦ let m = (may x e.1).2 in rw (e.0, ← q) m
          | inr e ↦ f.ends (exec k) a (seat_starts s k x e ∙ ap Some q)
        ]
    exec_ends (write c) a h = f.ends (write c) a h
    exec_ends (read c) a h = f.ends (read c) a h

    pub exec_fits : Fits p (with_exec s t o)
    exec_fits = record {
      execs = length-set s.execs t o ∙ f.execs;
      transfers = f.transfers;
      seats = λ k x h. elim (set_gives s.execs t k o None (Some x) h) [ inl e ↦ let m = may x e.1 in (m.0, m.1) | inr e ↦ f.seats k x e ];
      ends = exec_ends;
    }

  -- ---- a transfer is started where it may be, or emptied
  module _ (v : ℕ) (o : Option ℕ) (may : (a : ℕ) → o ≡ Some a → a + length_of p (transfer v) ≤ 536870911) where
    transfer_ends : (e : Entry) (a : ℕ) → Starts (with_transfer s v o) e a → a + length_of p e ≤ 536870911
    transfer_ends (exec t) a h = f.ends (exec t) a h
    transfer_ends (write c) a h =
        elim (set_gives s.transfers v (2 * c) o None (Some a) h) [
          | inl e ↦ let k = ap (length_of p) (sym (transfer_write c) ∙ ap transfer e.0) in omega (arith, k, may a e.1)
          | inr e ↦ f.ends (write c) a e
        ]
    transfer_ends (read c) a h =
        elim (set_gives s.transfers v (2 * c + 1) o None (Some a) h) [
          | inl e ↦ let k = ap (length_of p) (sym (transfer_read c) ∙ ap transfer e.0) in omega (arith, k, may a e.1)
          | inr e ↦ f.ends (read c) a e
        ]

    pub transfer_fits : Fits p (with_transfer s v o)
    transfer_fits = record {
      execs = f.execs;
      transfers = length-set s.transfers v o ∙ f.transfers;
      seats = f.seats;
      ends = transfer_ends;
    }

  -- ---- so do placing and withdrawing
  pub put_fits : (n : Named) (a : ℕ) → known p n ≡ true → a + length_of p (entry_of n) ≤ 536870911 → Fits p (put s n a)
  put_fits (Exec t core region) a k l =
      exec_fits t (Some (record { start = a; core = core; region = region })) (λ x e. let q = some_is (record { start = a; core = core; region = region }) x e in rw (← q) (grind (arith, nat_tests), grind (arith, nat_tests), l))
  put_fits (Write c) a k l = transfer_fits (2 * c) (Some a) (λ b e. omega (arith, ap (length_of p) (transfer_write c), some_is a b e))
  put_fits (Read c) a k l = transfer_fits (2 * c + 1) (Some a) (λ b e. omega (arith, ap (length_of p) (transfer_read c), some_is a b e))

  pub cleared_fits : (n : Named) → Fits p (cleared s n)
  cleared_fits (Exec t core region) = exec_fits t None (λ x e. absurd (none-some x e))
  cleared_fits (Write c) = transfer_fits (2 * c) None (λ a e. absurd (none-some a e))
  cleared_fits (Read c) = transfer_fits (2 * c + 1) None (λ a e. absurd (none-some a e))

-- nothing placed
pub empty_fits : (p : PlanView) → Fits p (empty p)
empty_fits p = record {
  execs = length-replicate (length p.tasks) None;
  transfers = length-replicate (2 * length p.channels) None;
  seats = λ t x h. absurd (none-some x (sym (free_yet (length p.tasks) t) ∙ h));
  ends = λ e a h. absurd (unstarted e a h);
}
  where
    unstarted : (e : Entry) (a : ℕ) → Starts (empty p) e a → ⊥
    unstarted (exec t) a h = let (x, xt, q) = seat_from (empty p) t a h in none-some x (sym (free_yet (length p.tasks) t) ∙ xt)
    unstarted (write c) a h = none-some a (sym (free_yet (2 * length p.channels) (2 * c)) ∙ h)
    unstarted (read c) a h = none-some a (sym (free_yet (2 * length p.channels) (2 * c + 1)) ∙ h)
