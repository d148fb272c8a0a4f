use Rattle.std.proofs.Common.{◌≡◌, ◌+◌, drop}
use Rattle.board.specs.Reading.{sizes_within}
use Rattle.records.proofs.check.sizes_within.Given as goal

abbrev pub invariant-loop-i : goal.invariant-loop-i
invariant-loop-i l = sizes_within l.place l.sizes ≡ sizes_within (l.place + l.i) (drop l.i l.sizes)
