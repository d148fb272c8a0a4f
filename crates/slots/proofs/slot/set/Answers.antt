use Rattle.std.proofs.Common.{vec_items, refl}
use Rattle.std.proofs.lemmas.List.{map-set}
use Rattle.slots.specs.declared.slot.Slot.{Slot}
use Rattle.slots.proofs.Fields.{same_field, field_set_past}
use Rattle.slots.proofs.slot.set.Goals as goal

pub returns-in-Some : goal.returns-in-Some
returns-in-Some g c =
    let xs = vec_items c.args.slots.now in
    let found = c.in-Some.ensures.item in
    let x = c.in-Some.slot.now in
    let y : Slot g.row.P.Denot = record { length = x.length; place = c.args.place } in
    record {
      places = map-set (λ z. z.place) xs c.args.index y;
      lengths = same_field (λ z. z.length) xs c.args.index x y found.3.0 found.1 refl;
    }

pub returns-in_default : goal.returns-in_default
returns-in_default g c =
    record { places = field_set_past (λ z. z.place) (vec_items c.args.slots.now) c.args.index c.args.place c.in_default.ensures.item.3; lengths = refl }
