-- A table's sheet fits its plan, and so do slots that are filled from a timetable.
use Rattle.std.proofs.Common.{◌≡◌, ◌*◌, List, ◌++◌, map, length, take, drop, vec_items, sym, ap, ◌∙◌, ap₂}
use Rattle.std.specs.List.{range_with_len, refill}
use Rattle.std.proofs.Math.Seq.{take-append_seam}
use Rattle.std.proofs.lemmas.List.FromFn.{length-map-range_with_len}
use Rattle.std.proofs.lemmas.List.{length-map}
use Rattle.board.specs.Entries.{transfer, length_of}
use Rattle.board.specs.Plans.{PlanView}
use Rattle.board.specs.Sheets.{Sheet, Fits}
use Rattle.table.specs.declared.model.Table.{Table}
use Rattle.slots.specs.declared.slot.Slots.{Slots}
use Rattle.table.specs.Tables.{plan_in, sheet}
use Rattle.slots.specs.Views.{sheet_of, exec_lengths, transfer_lengths}

-- slots of these lengths are as many as the plan's entries
pub execs_long : (p : PlanView) (z : Slots) → exec_lengths z ≡ map (λ t. t.limit) p.tasks → length (vec_items z.execs) ≡ length p.tasks
execs_long p z e = sym (length-map (vec_items z.execs) (λ x. x.length)) ∙ ap length e ∙ length-map p.tasks (λ t. t.limit)

pub transfers_long : (p : PlanView) (z : Slots) → transfer_lengths z ≡ map (λ v. length_of p (transfer v)) (range_with_len 0 (2 * length p.channels)) → length (vec_items z.transfers) ≡ 2 * length p.channels
transfers_long p z e = sym (length-map (vec_items z.transfers) (λ x. x.length)) ∙ ap length e ∙ length-map-range_with_len (λ v. length_of p (transfer v)) 0 (2 * length p.channels)

pub fits : (t : Table) → Fits (plan_in t) (sheet t)
fits t = record {
  execs = length-map (vec_items t.slots.execs) (λ x. x.place) ∙ execs_long (plan_in t) t.slots t.exec_lengths;
  transfers = length-map (vec_items t.slots.transfers) (λ x. x.place) ∙ transfers_long (plan_in t) t.slots t.transfer_lengths;
  seats = t.seats_fit;
  ends = t.ends_fit;
}

-- slots that are filled from a timetable of the plan
refilled : {X : Type 0} (xs ys : List X) → length ys ≡ length xs → refill (length xs) xs ys ≡ ys
refilled xs ys e = ap (λ n. take n (ys ++ drop (length ys) xs)) (sym e) ∙ take-append_seam ys (drop (length ys) xs)

pub filled : (t : Table) (x : Slots) (s : Sheet) → Fits (plan_in t) s → (sheet_of x).execs ≡ refill (length (sheet t).execs) (sheet t).execs s.execs → (sheet_of x).transfers ≡ refill (length (sheet t).transfers) (sheet t).transfers s.transfers → sheet_of x ≡ s
filled t x s f a b =
    let w = fits t in
    ap₂ (λ es ts. record { execs = es; transfers = ts })
    (a ∙ refilled (sheet t).execs s.execs (f.execs ∙ sym w.execs))
    (b ∙ refilled (sheet t).transfers s.transfers (f.transfers ∙ sym w.transfers))
