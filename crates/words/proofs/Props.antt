-- That a record's sizes stand behind its place can be true in one way only.
use Rattle.std.proofs.Common.{ℕ}
use Rattle.std.proofs.Props.{props}
use Rattle.words.specs.Records.{Said, machine, regions, task, channel, exec, transfer, end, Placed}

pub placed_prop : (q : ℕ) (x : Said) → IsProp (Placed q x)
placed_prop q (machine c t d s) = Prim.hlevel props
placed_prop q (regions at ns) = Prim.hlevel props
placed_prop q (task limit local) = Prim.hlevel props
placed_prop q (channel bytes pair) = Prim.hlevel props
placed_prop q (exec start seat) = Prim.hlevel props
placed_prop q (transfer start side) = Prim.hlevel props
placed_prop q (end count) = Prim.hlevel props
