-- What is gathered from a file, record by record.
use Rattle.std.specs.Prelude.{◌≡◌, ℕ, false, List, length, Some, None, Ok, Err, Option, Result}
use Rattle.words.specs.declared.fault.Refusal.{Refusal}
use Rattle.words.specs.declared.kind.Kind.{Kind}
use Rattle.words.specs.declared.reader.Reader.{Reader}
use Rattle.records.specs.declared.found.Found.{Found}
use Rattle.words.specs.Records.{Said, end, and_then, record_at}
use Rattle.words.specs.Seen.{said, counted}
use Rattle.records.specs.declared.fault.Fault.{Fault}
use Rattle.records.specs.declared.gathered.Gathered.{Gathered}
use Rattle.board.specs.Files.{Rules, is_end, closing, told}
use Rattle.board.specs.Plans.{PlanView, plan_of}
use Rattle.records.specs.Rows.{items}
use Rattle.records.specs.Shown.{shown}

-- the numbers of a plan so far
abbrev pub gathered : Gathered → PlanView
gathered g =
    plan_of g.cores g.slot_time g.slot_load g.scratchpad (items g.regions) (items g.tasks) (items g.channels)

-- one record more by the rules, or why it may not stand at this place; `tells` says what a fault is by number, layer and place
abbrev pub Adds : {S F : Type 0} → Rules S → (F → Refusal) → S → ℕ → Said → Result (Unit {0}) F → S → Type 0
Adds rules tells s place x (Ok _) new = (rules.why s place x ≡ Ok tt) × (new ≡ rules.then s x)
Adds rules tells s place x (Err f) new = rules.why s place x ≡ Err (tells f)

-- the next record, and the reader then stands behind it in the same file; or none, where it is an end that closes the file
abbrev pub Comes : List Kind → Reader → Result (Option Found) Fault → Reader → Type 0
Comes kinds old (Ok (Some x)) new =
    (x.place ≡ old.place) × (is_end (said x.says) ≡ false)
    × (record_at kinds old.place old.rest.now ≡ Ok (said x.says, new.rest.now)) × (counted new ≡ counted old)
Comes kinds old (Ok None) new =
    (n : ℕ) × (record_at kinds old.place old.rest.now ≡ Ok (end n, new.rest.now)) × (closing old.place (length old.rest.now) (end n) ≡ Ok tt)
Comes kinds old (Err f) new =
    and_then (told (record_at kinds old.place old.rest.now)) (λ x. closing old.place (length old.rest.now) x.0) ≡ Err (shown f)
