-- A loop over the channels of a table's plan, each beside the slots of its write and its read.
use Rattle.std.proofs.Common.{◌≡◌, ℕ, zero, suc, ◌+◌, ◌*◌, ◌/◌, ◌<◌, ◌≤◌, min, max, cond, eqb, List, [], length, get_or, drop, Some, None, vec_items, Option, Bor, Iter, refl, sym, ap, ◌∙◌, subst, arith}
use Rattle.std.specs.Iterator.{Yields}
use Rattle.std.specs.Iterator.Adapters.{zip_first, zip_second}
use Rattle.std.specs.Slice.Iter.{iter_rest}
use Rattle.std.specs.Simd.{first_chunks}
use Rattle.std.proofs.lemmas.Bool.{eq-eqb, ne_eqb}
use Rattle.std.proofs.lemmas.Fn.{fronts}
use Rattle.std.proofs.lemmas.Iterator.{zips}
use Rattle.std.proofs.lemmas.List.{get_or-take, get_or-drop}
use Rattle.std.proofs.lemmas.Slice.Zip.{zip_turn, zip_end}
use Rattle.std.specs.declared.iter.Zip.{Zip}
use Rattle.board.specs.declared.Channel.{Channel}
use Rattle.board.specs.Entries.{Entry, write, read, transfer}
use Rattle.board.specs.Plans.{no_channel}
use Rattle.board.specs.Sheets.{start, end}
use Rattle.board.specs.Stays.{of_two}
use Rattle.board.proofs.Entries.{transfer_write, transfer_read}
use Rattle.slots.specs.declared.slot.Slot.{Slot}
use Rattle.table.specs.declared.model.Table.{Table}
use Rattle.table.specs.Tables.{plan_in, sheet}
use Rattle.totals.specs.Ends.{end_in}
use Rattle.totals.specs.declared.stays.Reach.{Reach}
use Rattle.totals.proofs.Reaches.{Grown}
use Rattle.totals.proofs.Slots.{Side, side, values_long}

-- an element of a pair is one of the list
pair_at : {X : Type 0} (k : ℕ) (xs : List X) (i j v : ℕ) (d : List X) (e : X) → i < k → j < 2 → v ≡ 2 * i + j → get_or xs v e ≡ get_or (get_or (first_chunks 2 k xs) i d) j e
pair_at zero xs i j v d e h g is = absurd (omega arith)
pair_at (suc k) xs zero j v d e h g is = let same : v ≡ j = omega arith in ap (λ n. get_or xs n e) same ∙ sym (get_or-take 2 xs j e g)
pair_at (suc k) xs (suc i) j v d e h g is =
    let same : v ≡ 2 + (2 * i + j) = omega arith in
    ap (λ n. get_or xs n e) same ∙ sym (get_or-drop 2 xs (2 * i + j) e) ∙ pair_at k (drop 2 xs) i j (2 * i + j) d e (omega arith) g (λ _. 2 * i + j)

length_pairs : {X : Type 0} (k : ℕ) (xs : List X) → length (first_chunks 2 k xs) ≡ k
length_pairs zero xs = refl
length_pairs (suc k) xs = ap suc (length_pairs k (drop 2 xs))

abbrev pub empty_slot : Slot ℕ
empty_slot = record { length = 0; place = None }

module _ (t : Table) where
  -- the pairs that the loop goes over
  abbrev pub sides : List (List (Slot ℕ))
  sides = first_chunks 2 (length (vec_items t.slots.transfers) / 2) (vec_items t.slots.transfers)

  -- the channel with this number, and its slots
  pub record Turn (c : ℕ) (channel : Channel) (pair : List (Slot ℕ)) : Type 0 where
    pub below : c < length (plan_in t).channels
    pub is : channel ≡ get_or (plan_in t).channels c no_channel
    pub write_side : Side t (write c) (get_or pair 0 empty_slot)
    pub read_side : Side t (read c) (get_or pair 1 empty_slot)

  pair_side : (c j v : ℕ) (e : Entry) → c < length (plan_in t).channels → j < 2 → v ≡ 2 * c + j → transfer v ≡ e → Side t e (get_or (get_or sides c []) j empty_slot)
  pair_side c j v e h g is same =
      let xs = vec_items t.slots.transfers in
      subst (λ u. Side t u (get_or (get_or sides c []) j empty_slot)) same (subst (Side t (transfer v)) (pair_at (length xs / 2) xs c j v [] empty_slot (omega (arith, values_long t)) g is) (side t v empty_slot (omega arith)))

  module _ (xs : List (Bor Channel × Bor (List (Slot ℕ)))) (s u w : Zip (Iter Channel) (Iter (List (Slot ℕ)))) {r : Option (Bor Channel × Bor (List (Slot ℕ)))} (first : iter_rest (zip_first s) ≡ (plan_in t).channels) (second : iter_rest (zip_second s) ≡ sides) (y : Yields (zips fronts fronts) s xs u) where
    pub turn : (p : Bor Channel × Bor (List (Slot ℕ))) → r ≡ Some p → zips fronts fronts u r w → Turn (length xs) p.0.now p.1.now
    turn p e h =
        let z = zip_turn (plan_in t).channels sides xs s u w r first second y p e h in
        let c = length xs in
        record {
          below = z.0;
          is = z.2 no_channel;
          write_side = subst (λ o. Side t (write c) (get_or o 0 empty_slot)) (sym (z.3 [])) (pair_side c 0 (2 * c) (write c) z.0 (omega arith) (omega arith) (transfer_write c));
          read_side = subst (λ o. Side t (read c) (get_or o 1 empty_slot)) (sym (z.3 [])) (pair_side c 1 (2 * c + 1) (read c) z.0 (omega arith) (λ _. 2 * c + 1) (transfer_read c));
        }

    pub turns : r ≡ None → zips fronts fronts u r w → length (plan_in t).channels ≤ length xs
    turns e h = omega (arith, zip_end (plan_in t).channels sides xs s u w r first second y e h, length_pairs (length (vec_items t.slots.transfers) / 2) (vec_items t.slots.transfers), values_long t)

  -- the entry of a channel is the task's own, or it is another's
  module _ (task n m : ℕ) (e : Entry) (a b : Reach) (same : n ≡ m) where
    pub own_side : (d : Reach) (x : Slot ℕ) → b ≡ d → n ≡ task → Side t e x → Some d.first ≡ of_two min (Some a.first) x.place → Some d.end ≡ of_two max (Some a.end) (end_in (λ (y : ℕ). y) x) → Grown (plan_in t) (sheet t) (eqb m task) e a.first a.end b.first b.end
    own_side d x is own z first last =
        let yes = sym (eq-eqb m task (sym same ∙ own)) in
        record {
          starts = ap (λ r. Some r.first) is ∙ first ∙ ap (of_two min (Some a.first)) (z.starts ∙ ap (λ k. cond k (start (sheet t) e) None) yes);
          ends = ap (λ r. Some r.end) is ∙ last ∙ ap (of_two max (Some a.end)) (z.ends ∙ ap (λ k. cond k (end (plan_in t) (sheet t) e) None) yes);
        }

    pub other_side : b ≡ a → (n ≡ task → ⊥) → Grown (plan_in t) (sheet t) (eqb m task) e a.first a.end b.first b.end
    other_side is other =
        let no = sym (ne_eqb m task (λ h. other (same ∙ h))) in
        record {
          starts = ap (λ r. Some r.first) is ∙ ap (λ k. of_two min (Some a.first) (cond k (start (sheet t) e) None)) no;
          ends = ap (λ r. Some r.end) is ∙ ap (λ k. of_two max (Some a.end) (cond k (end (plan_in t) (sheet t) e) None)) no;
        }
