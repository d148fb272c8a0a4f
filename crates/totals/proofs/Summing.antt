-- Sums over the entries and the stays of a plan.
use Rattle.std.proofs.Common.{◌≡◌, ℕ, ◌+◌, ◌*◌, ◌≤◌, map, length, sum_by, ◌∙◌, ap₂, arith}
use Rattle.std.specs.List.{range_with_len}
use Rattle.std.proofs.lemmas.List.FromFn.{length-map-range_with_len}
use Rattle.std.proofs.lemmas.List.Sums.{sum_by-append, sum_by-le}
use Rattle.std.proofs.lemmas.List.{length-append}
use Rattle.board.specs.Entries.{Entry, exec, transfer, length_of, entries}
use Rattle.board.specs.Plans.{PlanView, Valid}
use Rattle.board.specs.Sheets.{Sheet}
use Rattle.board.specs.Totals.{clear_of}
use Rattle.board.proofs.Claims.{clear_within}
use Rattle.board.proofs.Entries.{length_high, of_entries}
use Rattle.board.proofs.Members.{sums_map, sums_le}

-- over all entries: over the execs, and then over the transfers
pub sum_entries : (p : PlanView) (f : Entry → ℕ) → sum_by f (entries p) ≡ sum_by (λ t. f (exec t)) (range_with_len 0 (length p.tasks)) + sum_by (λ v. f (transfer v)) (range_with_len 0 (2 * length p.channels))
sum_entries p f =
    sum_by-append f (map exec (range_with_len 0 (length p.tasks))) (map transfer (range_with_len 0 (2 * length p.channels)))
    ∙ ap₂ ◌+◌ (sums_map f exec (range_with_len 0 (length p.tasks))) (sums_map f transfer (range_with_len 0 (2 * length p.channels)))

-- ---- bounds
module _ (p : PlanView) (v : Valid p) where
  entries_few : length (entries p) ≤ 576
  entries_few =
      omega (arith, v.task_count.1, v.channel_count, length-append (map exec (range_with_len 0 (length p.tasks))) (map transfer (range_with_len 0 (2 * length p.channels))), length-map-range_with_len exec 0 (length p.tasks), length-map-range_with_len transfer 0 (2 * length p.channels))

  pub lengths_small : sum_by (length_of p) (entries p) ≤ 576 * 536870911
  lengths_small = omega (arith, entries_few, sums_le (length_of p) (λ e. 536870911) (entries p) (λ e m. omega (arith, length_high p v e (of_entries p e m))), sum_by-le (λ (e : Entry). 536870911) 536870911 (entries p) (λ k d h. omega arith))

  pub clear_small : (s : Sheet) → sum_by (clear_of p s) (entries p) ≤ 576 * 536870911
  clear_small s = omega (arith, lengths_small, sums_le (clear_of p s) (length_of p) (entries p) (λ e m. clear_within p s e (of_entries p e m)))
