use Rattle.std.proofs.Common.{length}
use Rattle.board.proofs.Going.{GoesOn}
use Rattle.records.proofs.rules.read.Given as goal

abbrev pub invariant-loop-so_far : goal.invariant-loop-so_far
invariant-loop-so_far g l = GoesOn (g.R.FileRules.rules l.rules) l.words (g.R.FileRules.state l.so_far) l.kinds l.reader.place l.reader.rest.now

abbrev pub decreases-loop-so_far : goal.decreases-loop-so_far
decreases-loop-so_far g l = length l.reader.rest.now
