-- A record is an opening word and the plain words that go with it.
use Rattle.std.specs.Prelude.{◌≡◌, ℕ, ◌+◌, ◌<◌, cond, List, [], ◌∷◌, length, take, drop, Some, None, Ok, Err, Option, Result, nat_le, slice_index}
use Rattle.std.specs.List.{AllByRecursion}
use Rattle.words.specs.declared.fault.Fault.{Fault}
use Rattle.words.specs.declared.fault.Fault.TheVariants.{Ended, Misplaced}
use Rattle.words.specs.declared.kind.Kind.{Kind}
use Rattle.words.specs.declared.kind.Kind.TheVariants.{Machine, Regions, Task, Channel, Exec, Transfer, End}
use Rattle.words.specs.declared.kind.Opening.{Opening}
use Rattle.words.specs.Kinds.{one_of, word, opening_of}

-- what a record says
pub data Said : Type 0 where
  machine : (cores slot_time slot_load scratchpad : ℕ) → Said
  regions : (place : ℕ) (sizes : List ℕ) → Said
  task : (limit local : ℕ) → Said
  channel : (bytes pair : ℕ) → Said
  exec : (start seat : ℕ) → Said
  transfer : (start side : ℕ) → Said
  end : (count : ℕ) → Said

-- the kind of its opening word
abbrev pub opener : Said → Kind
opener (machine c t d s) = Machine
opener (regions place ns) = Regions
opener (task limit local) = Task
opener (channel bytes pair) = Channel
opener (exec start seat) = Exec
opener (transfer start side) = Transfer
opener (end count) = End

-- the number of its opening word
abbrev pub number_of : Said → ℕ
number_of (machine c t d s) = c
number_of (regions place ns) = length ns
number_of (task limit local) = limit
number_of (channel bytes pair) = bytes
number_of (exec start seat) = start
number_of (transfer start side) = start
number_of (end count) = count

-- the plain words that follow
abbrev pub fields_of : Said → List ℕ
fields_of (machine c t d s) = t ∷ d ∷ s ∷ []
fields_of (regions place ns) = ns
fields_of (task limit local) = local ∷ []
fields_of (channel bytes pair) = pair ∷ []
fields_of (exec start seat) = seat ∷ []
fields_of (transfer start side) = side ∷ []
fields_of (end count) = []

-- the words that say it
abbrev pub words_of : Said → List ℕ
words_of x = word (opener x) (number_of x) ∷ fields_of x

-- a number of a word
abbrev pub Small : ℕ → Type 0
Small n = n < 536870912

-- the sizes stand behind their opening word
abbrev pub Placed : ℕ → Said → Type 0
Placed at (machine c t d s) = Unit {0}
Placed at (regions place ns) = place ≡ at + 1
Placed at (task limit local) = Unit {0}
Placed at (channel bytes pair) = Unit {0}
Placed at (exec start seat) = Unit {0}
Placed at (transfer start side) = Unit {0}
Placed at (end count) = Unit {0}

-- words at this place can say it
abbrev pub Sayable : ℕ → Said → Type 0
Sayable at x = Small (number_of x) × AllByRecursion Small (fields_of x) × Placed at x

-- the kinds that may open the record after it
abbrev pub follows : Said → List Kind
follows (machine c t d s) = Regions ∷ []
follows (regions place ns) = Task ∷ []
follows (task limit local) = Task ∷ Channel ∷ End ∷ []
follows (channel bytes pair) = Channel ∷ End ∷ []
follows (exec start seat) = Exec ∷ Transfer ∷ End ∷ []
follows (transfer start side) = Transfer ∷ End ∷ []
follows (end count) = []

-- ---- taking a record off a row of words
-- a then b, unless a is refused
abbrev pub and_then : {A B E : Type 0} → Result A E → (A → Result B E) → Result B E
and_then (Ok a) next = next a
and_then (Err e) next = Err e

-- the opening word, which must have one of these kinds, and the words after it
abbrev pub opens : List Kind → ℕ → List ℕ → Option Opening → Result (Opening × List ℕ) Fault
opens kinds place ws None = Err (Misplaced place)
opens kinds place ws (Some o) = cond (one_of kinds o.kind) (Ok (o, ws)) (Err (Misplaced place))

-- the first word taken as an opening word
abbrev pub opening : List Kind → ℕ → List ℕ → Result (Opening × List ℕ) Fault
opening kinds place [] = Err (Ended place)
opening kinds place (w ∷ ws) = opens kinds place ws (opening_of w)

-- how many plain words go with an opening word
abbrev pub width_by : Kind → ℕ → ℕ
width_by Machine number = 3
width_by Regions number = number
width_by Task number = 1
width_by Channel number = 1
width_by Exec number = 1
width_by Transfer number = 1
width_by End number = 0

-- the same of the opening word itself
abbrev pub width : Opening → ℕ
width o = width_by o.kind o.number

-- whether every word is plain, and if not the first that is not
abbrev pub plain : ℕ → List ℕ → Result (Unit {0}) Fault
plain place [] = Ok tt
plain place (w ∷ ws) = cond (nat_le 536870912 w) (Err (Misplaced place)) (plain (place + 1) ws)

-- the n plain words at this place, and the words after those
abbrev pub following : ℕ → ℕ → List ℕ → Result (List ℕ × List ℕ) Fault
following n place ws =
    cond (nat_le n (length ws)) (and_then (plain place (take n ws)) (λ _. Ok (take n ws, drop n ws))) (Err (Ended (place + length ws)))

-- what an opening word and the plain words after it, which stand at this place, say
abbrev pub saying_by : Kind → ℕ → ℕ → List ℕ → Said
saying_by Machine number place f = machine number (slice_index f 0) (slice_index f 1) (slice_index f 2)
saying_by Regions number place f = regions place f
saying_by Task number place f = task number (slice_index f 0)
saying_by Channel number place f = channel number (slice_index f 0)
saying_by Exec number place f = exec number (slice_index f 0)
saying_by Transfer number place f = transfer number (slice_index f 0)
saying_by End number place f = end number

-- the same of the opening word itself
abbrev pub saying : Opening → ℕ → List ℕ → Said
saying o place f = saying_by o.kind o.number place f

-- the rest of a record behind its opening word, which stands at this place
abbrev pub filled : Opening → ℕ → List ℕ → Result (Said × List ℕ) Fault
filled o place ws = and_then (following (width o) (place + 1) ws) (λ f. Ok (saying o (place + 1) f.0, f.1))

-- the first record of the words, which stand at this place, and the words after it
abbrev pub record_at : List Kind → ℕ → List ℕ → Result (Said × List ℕ) Fault
record_at kinds place ws = and_then (opening kinds place ws) (λ o. filled o.0 place o.1)
