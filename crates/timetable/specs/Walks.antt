-- How a walk goes through a file: each record by the kinds that may stand there.
use Rattle.std.specs.Prelude.{◌≡◌, Some, None, Ok, Err, Option}
use Rattle.words.specs.declared.fault.Fault.{Fault}
use Rattle.words.specs.Records.{record_at, follows}
use Rattle.words.specs.Seen.{said, counted}
use Rattle.timetable.specs.declared.walk.Step.{Step}
use Rattle.timetable.specs.declared.walk.Walk.{Walk}

-- a record is taken from where the walk stands, and the walk then stands behind it in the same file; or none can be taken, and the walk stays
abbrev pub Steps : Walk → Option Step → Walk → Type 0
Steps old (Some s) new =
    (s.place ≡ old.reader.place)
    × (s.end ≡ new.reader.place)
    × (record_at old.kinds.now old.reader.place old.reader.rest.now ≡ Ok (said s.«record», new.reader.rest.now))
    × (counted new.reader ≡ counted old.reader)
    × (new.kinds.now ≡ follows (said s.«record»))
Steps old None new =
    ((f : Fault) × (record_at old.kinds.now old.reader.place old.reader.rest.now ≡ Err f))
    × (new.reader.place ≡ old.reader.place)
    × (new.reader.rest.now ≡ old.reader.rest.now)
    × (new.kinds.now ≡ old.kinds.now)
