use Rattle.std.proofs.Common.{Ok, refl, ap, ◌∙◌, subst, sym}
use Rattle.board.specs.Sheets.{Fits}
use Rattle.board.proofs.Loading.{loaded_fits, law_of_loading}
use Rattle.placements.specs.Gathering.{sheet_in}
use Rattle.table.specs.Tables.{plan_in}
use Rattle.table.proofs.Standing.{filled}
use Rattle.table.proofs.model.Table.load.Goals as goal

pub returns-in_err-found-clause-law : goal.returns-in_err-found-clause-law
returns-in_err-found-clause-law c = law_of_loading

pub invariant_of-self : goal.invariant_of-self
invariant_of-self c =
    let t = c.args.self.now in
    let s = sheet_in c.in_ok-found.found in
    let f = loaded_fits (plan_in t) c.args.words.now s c.in_ok-found.ensures in
    let g = subst (Fits (plan_in t)) (sym (filled t c.fill.new.self s f (rw (← c.as_slice.ensures) c.fill.ensures.execs) (rw (← c.as_slice-2.ensures) c.fill.ensures.transfers))) f in
    record {
      exec_lengths = c.fill.ensures.lengths.execs ∙ t.exec_lengths;
      transfer_lengths = c.fill.ensures.lengths.transfers ∙ t.transfer_lengths;
      seats_fit = g.seats;
      ends_fit = g.ends;
    }

pub returns : goal.returns
returns c =
    let t = c.args.self.now in
    let s = sheet_in c.in_ok-found.found in
    let f = loaded_fits (plan_in t) c.args.words.now s c.in_ok-found.ensures in
    record {
      after = record { plan = refl; after = rw c.in_ok-found.ensures (ap (λ z. (Ok tt, z)) (filled t c.fill.new.self s f (rw (← c.as_slice.ensures) c.fill.ensures.execs) (rw (← c.as_slice-2.ensures) c.fill.ensures.transfers))) };
      law = law_of_loading;
    }
