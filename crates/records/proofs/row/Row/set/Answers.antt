use Rattle.std.proofs.Math.Seq.{take-set-lt}
use Rattle.records.proofs.row.Row.set.Goals as goal

pub returns-then-index-self : goal.returns-then-index-self
returns-then-index-self g c = take-set-lt c.args.self.now.len c.args.self.now.cells c.args.index c.args.thing c.if-index-self.true
