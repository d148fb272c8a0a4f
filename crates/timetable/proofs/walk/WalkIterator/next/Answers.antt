use Rattle.std.proofs.Common.{rules}
use Rattle.words.specs.Seen.{said}
use Rattle.words.proofs.Taking.{taken_less}
use Rattle.timetable.proofs.walk.WalkIterator.next.Goals as goal

-- a record has a word at least
pub returns-clause-goes : goal.returns-clause-goes
returns-clause-goes c =
    let old = c.args.self.now in
    let l = taken_less old.kinds.now old.reader.place old.reader.rest.now c.record.new.self.rest.now (said c.in_ok-record.«record») (search rules) in
    record { on = λ _. (tt, tt, l); keeps = tt; rests = λ _. tt }
