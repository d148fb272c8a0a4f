-- How a file is read: record by record, each one taken and then checked. The first refusal stands.
use Rattle.std.specs.Prelude.{ℕ, zero, suc, ◌+◌, Bool, true, false, cond, ◌&&◌, List, [], ◌∷◌, ◌++◌, length, Ok, Err, Result, ◌==◌, nat_le}
use Rattle.std.specs.List.{flat_map}
use Rattle.words.specs.declared.fault.Fault.{Fault}
use Rattle.words.specs.declared.fault.Layer.{Layer}
use Rattle.words.specs.declared.fault.Layer.TheVariants.{Words, Records}
use Rattle.words.specs.declared.fault.Refusal.{Refusal}
use Rattle.words.specs.declared.kind.Kind.{Kind}
use Rattle.words.specs.Records.{Said, machine, regions, task, channel, exec, transfer, end, fields_of, words_of, follows, and_then, record_at}
use Rattle.words.specs.Shown.{refusal, shown}

-- ---- checks
abbrev pub Checked : Type 0
Checked = Result (Unit {0}) Refusal

-- one check, and then the next
infixr 4 ◌also◌
abbrev pub ◌also◌ : Checked → Checked → Checked
Ok _ also next = next
Err e also next = Err e

-- refused by this layer and number at this place, unless the test holds
abbrev pub holds_in : Layer → Bool → ℕ → ℕ → Checked
holds_in layer b number place = cond b (Ok tt) (Err (refusal number layer place))

-- the same of the layer of records
abbrev pub holds : Bool → ℕ → ℕ → Checked
holds = holds_in Records

-- the number at this place is from low to high
abbrev pub within : ℕ → ℕ → ℕ → ℕ → Checked
within place n low high = holds (nat_le low n && nat_le n high) 3 place

-- ---- the end
abbrev pub is_end : Said → Bool
is_end (machine c t d s) = false
is_end (regions place ns) = false
is_end (task limit local) = false
is_end (channel bytes pair) = false
is_end (exec start seat) = false
is_end (transfer start side) = false
is_end (end count) = true

-- the end tells how many words stand before it, and none stands after it: `left` counts the words from it on
abbrev pub closing : ℕ → ℕ → Said → Checked
closing place left (machine c t d s) = Ok tt
closing place left (regions q ns) = Ok tt
closing place left (task limit local) = Ok tt
closing place left (channel bytes pair) = Ok tt
closing place left (exec start seat) = Ok tt
closing place left (transfer start side) = Ok tt
closing place left (end count) = holds (count == place && left == 1) 7 place

-- ---- a kind of file: what may open it, and, of what was read so far, why a record may not come next and what is then read
pub record Rules (S : Type 0) : Type 0 where
  pub first : List Kind
  pub none : S
  pub why : S → ℕ → Said → Checked
  pub then : S → Said → S

-- an answer with its fault as it is told, by number, layer and place
abbrev pub reported_by : {A F : Type 0} → (F → Refusal) → Result A F → Result A Refusal
reported_by tells (Ok a) = Ok a
reported_by tells (Err e) = Err (tells e)

-- an answer with a fault of the words
abbrev pub told : {A : Type 0} → Result A Fault → Result A Refusal
told = reported_by shown

-- the next record, taken and checked, and the words after it
abbrev pub next : {S : Type 0} → Rules S → List Kind → S → ℕ → List ℕ → Result (Said × List ℕ) Refusal
next r kinds s place ws =
    and_then (told (record_at kinds place ws)) (λ x.
    and_then (closing place (length ws) x.0 also r.why s place x.0) (λ _. Ok x))

-- word by word; `over` words still belong to the record before
abbrev pub walk : {S : Type 0} → Rules S → ℕ → List Kind → S → ℕ → List ℕ → Result S Refusal
walk r over kinds s place [] = Err (refusal 1 Words place)
walk r (suc over) kinds s place (w ∷ ws) = walk r over kinds s (place + 1) ws
walk r zero kinds s place (w ∷ ws) =
    and_then (next r kinds s place (w ∷ ws)) (λ x.
    elim (is_end x.0) [
      | true ↦ Ok s
      | false ↦ walk r (length (fields_of x.0)) (follows x.0) (r.then s x.0) (place + 1) ws
    ])

-- the whole file
abbrev pub reads : {S : Type 0} → Rules S → List ℕ → Result S Refusal
reads r ws = walk r 0 r.first r.none 0 ws

-- ---- the other way: records one after another, and the end
abbrev pub file_of : List Said → List ℕ
file_of xs = flat_map words_of xs ++ words_of (end (length (flat_map words_of xs)))
