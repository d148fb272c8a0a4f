use Rattle.std.proofs.Common.{◌+◌, ap, ap₂, ◌∙◌, arith}
use Rattle.board.proofs.Equal.{equal_totals_mean_no_fault}
use Rattle.plan.proofs.Standing.{valid}
use Rattle.table.specs.Tables.{plan_in, sheet}
use Rattle.table.proofs.Standing.{fits}
use Rattle.totals.proofs.Slots.{transfers_few, lengths_sum}
use Rattle.totals.proofs.Staying as stays
use Rattle.totals.proofs.Staying.{all_lengths, all_clear}
use Rattle.totals.proofs.Summing.{lengths_small, clear_small}
use Rattle.totals.proofs.sums.totals.Goals as goal

pub total_length-requires-2 : goal.total_length-requires-2
total_length-requires-2 c = transfers_few c.args.table.now _ c.transfers.ensures

pub overflow_add-wanted : goal.overflow_add-wanted
overflow_add-wanted c =
    let t = c.args.table.now in
    omega (arith, lengths_sum t _ _ _ _ c.execs.ensures c.transfers.ensures c.total_length.ensures c.total_length-2.ensures, lengths_small (plan_in t) (valid t.plan.now))

pub overflow_add-wanted-2 : goal.overflow_add-wanted-2
overflow_add-wanted-2 c =
    let t = c.args.table.now in
    let these = c.total_length-3.ensures ∙ ap (λ r. all_lengths r.now) c.of-stays.ensures in
    omega (arith, lengths_sum t _ _ _ _ c.execs.ensures c.transfers.ensures c.total_length.ensures c.total_length-2.ensures, lengths_small (plan_in t) (valid t.plan.now), these, stays.lengths_small t)

pub overflow_add-clear : goal.overflow_add-clear
overflow_add-clear c =
    let t = c.args.table.now in
    let these = c.clear_cycles-2.ensures ∙ ap (λ r. all_clear r.now) c.of-stays.ensures in
    omega (arith, c.clear_cycles.ensures, clear_small (plan_in t) (valid t.plan.now) (sheet t), these, stays.clear_small t)

pub returns : goal.returns
returns c =
    let t = c.args.table.now in
    let w = ap₂ ◌+◌ (lengths_sum t _ _ _ _ c.execs.ensures c.transfers.ensures c.total_length.ensures c.total_length-2.ensures) (c.total_length-3.ensures ∙ ap (λ r. all_lengths r.now) c.of-stays.ensures) in
    let d = ap₂ ◌+◌ c.clear_cycles.ensures (c.clear_cycles-2.ensures ∙ ap (λ r. all_clear r.now) c.of-stays.ensures) in
    record {
      value = ap₂ (λ a b. (a, b)) w d;
      safe = rw (w, d) (equal_totals_mean_no_fault (plan_in t) (sheet t) (valid t.plan.now) (fits t));
      law = equal_totals_mean_no_fault;
    }
