-- What answers that borrow from the file say.
use Rattle.std.specs.Prelude.{◌≡◌, ℕ, ◌+◌, List, length, Ok, Err, Result}
use Rattle.std.specs.Borrow.{Bor}
use Rattle.words.specs.declared.fault.Fault.{Fault}
use Rattle.words.specs.declared.kind.Kind.{Kind}
use Rattle.words.specs.declared.kind.Opening.{Opening}
use Rattle.words.specs.declared.reader.Reader.{Reader}
use Rattle.words.specs.declared.record.Record.{Record}
use Rattle.words.specs.declared.record.Record.TheVariants as r
use Rattle.words.specs.Records.{Said, machine, regions, task, channel, exec, transfer, end, opening, following, record_at}

-- what a record says
abbrev pub said : Record → Said
said (r.Machine c t d s) = machine c t d s
said (r.Regions place ns) = regions place ns.now
said (r.Task limit local) = task limit local
said (r.Channel bytes pair) = channel bytes pair
said (r.Exec start seat) = exec start seat
said (r.Transfer start side) = transfer start side
said (r.End count) = end count

-- how many words the reader's file has
abbrev pub counted : Reader → ℕ
counted c = c.place + length c.rest.now

-- an opening word is taken: the reader then stands behind it in the same file
abbrev pub Opens : List Kind → Reader → Result Opening Fault → Reader → Type 0
Opens kinds old (Ok o) new =
    (opening kinds old.place old.rest.now ≡ Ok (o, new.rest.now)) × (new.place ≡ old.place + 1) × (counted new ≡ counted old)
Opens kinds old (Err f) new = opening kinds old.place old.rest.now ≡ Err f

-- n plain words are taken: the reader then stands behind them in the same file
abbrev pub Follows : ℕ → Reader → Result (Bor (List ℕ)) Fault → Reader → Type 0
Follows n old (Ok ws) new =
    (following n old.place old.rest.now ≡ Ok (ws.now, new.rest.now)) × (counted new ≡ counted old)
Follows n old (Err f) new = following n old.place old.rest.now ≡ Err f

-- a record is read: the reader then stands behind it in the same file, or a refusal leaves it where it was
abbrev pub Reads : List Kind → Reader → Result Record Fault → Reader → Type 0
Reads kinds old (Ok x) new =
    (record_at kinds old.place old.rest.now ≡ Ok (said x, new.rest.now)) × (counted new ≡ counted old)
Reads kinds old (Err f) new =
    (record_at kinds old.place old.rest.now ≡ Err f) × (new.place ≡ old.place) × (new.rest.now ≡ old.rest.now)
