use Rattle.std.proofs.Common.{sym, ◌∙◌, subst}
use Rattle.board.specs.Sheets.{Fits}
use Rattle.board.proofs.Fitting.{cleared_fits}
use Rattle.table.specs.Tables.{plan_in, sheet}
use Rattle.table.proofs.Standing.{fits}
use Rattle.table.proofs.model.Table.withdraw.Goals as goal

pub invariant_of-self : goal.invariant_of-self
invariant_of-self c =
    let t = c.args.self.now in
    let f = subst (Fits (plan_in t)) (sym c.set.ensures.sheet) (cleared_fits (plan_in t) (sheet t) (fits t) c.args.entry) in
    record {
      exec_lengths = c.set.ensures.lengths.execs ∙ t.exec_lengths;
      transfer_lengths = c.set.ensures.lengths.transfers ∙ t.transfer_lengths;
      seats_fit = f.seats;
      ends_fit = f.ends;
    }
