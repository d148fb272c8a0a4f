use Rattle.std.proofs.Common.{◌≡◌, ℕ, ◌+◌, ◌≤◌, true, Ok, sym, ◌∙◌, subst, arith}
use Rattle.std.proofs.lemmas.Bool.Decides.{nat_tests}
use Rattle.board.specs.declared.Entry.{Entry}
use Rattle.board.specs.Entries.{length_of}
use Rattle.board.specs.Placing.{entry_of, known, may_place, put}
use Rattle.board.specs.Sheets.{Fits}
use Rattle.board.proofs.Fitting.{put_fits}
use Rattle.table.specs.declared.model.Table.{Table}
use Rattle.table.specs.Tables.{plan_in, sheet}
use Rattle.table.proofs.Standing.{fits}
use Rattle.table.proofs.model.Table.place.Goals as goal

-- what may be placed still fits when it is
placed_fits : (t : Table) (n : Entry) (a : ℕ) → Ok tt ≡ may_place (plan_in t) (sheet t) n a → Fits (plan_in t) (put (sheet t) n a)
placed_fits t n a h =
    let k : known (plan_in t) n ≡ true = grind (arith, nat_tests) in
    let l : a + length_of (plan_in t) (entry_of n) ≤ 536870911 = grind (arith, nat_tests) in
    put_fits (plan_in t) (sheet t) (fits t) n a k l

pub invariant_of-self : goal.invariant_of-self
invariant_of-self c =
    let t = c.args.self.now in
    let f = subst (Fits (plan_in t)) (sym c.set.ensures.sheet) (placed_fits t c.args.entry c.args.start c.in_ok-may_place.ensures) in
    record {
      exec_lengths = c.set.ensures.lengths.execs ∙ t.exec_lengths;
      transfer_lengths = c.set.ensures.lengths.transfers ∙ t.transfer_lengths;
      seats_fit = f.seats;
      ends_fit = f.ends;
    }
