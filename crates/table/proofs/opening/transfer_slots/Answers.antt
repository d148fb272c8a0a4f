use Rattle.std.proofs.Common.{◌≡◌, ℕ, [], ◌∷◌, ◌++◌, get_or, None, vec_items, sym, ap, ◌∙◌}
use Rattle.std.proofs.lemmas.List.{append_assoc, map-append}
use Rattle.board.specs.Entries.{transfer, length_of}
use Rattle.board.specs.Plans.{no_channel, cycles, transfer_length}
use Rattle.board.proofs.Entries.{transfer_write, transfer_read}
use Rattle.plan.specs.Views.{view}
use Rattle.slots.specs.declared.slot.Slot.{Slot}
use Rattle.slots.specs.Views.{places, lengths}
use Rattle.table.proofs.Grown.{two_more, two_same}
use Rattle.table.proofs.opening.transfer_slots.Goals as goal

pub loop-channel-preserved : goal.loop-channel-preserved
loop-channel-preserved c =
    let p = view c.args.plan.now in
    let i = c.loop-channel.channel-index in
    let old = vec_items c.loop-channel.slots in
    let is : transfer_length p i ≡ c.cycles.result = sym (c.cycles.ensures.value ∙ ap (λ cs. cycles p (get_or cs i no_channel).bytes) c.channels-channel-items.ensures) in
    let x : Slot ℕ = record { length = c.cycles.result; place = None } in
    let more = c.in_ok-push-2.ensures.items ∙ ap (λ l. l ++ x ∷ []) c.in_ok-push.ensures.items ∙ append_assoc old (x ∷ []) (x ∷ []) in
    record {
      lengths = ap lengths more ∙ map-append (λ z. z.length) old (x ∷ (x ∷ [])) ∙ ap (λ l. l ++ x.length ∷ (x.length ∷ [])) c.loop-channel.invariant.lengths
          ∙ two_more (λ v. length_of p (transfer v)) i x.length (ap (length_of p) (transfer_write i) ∙ is) (ap (length_of p) (transfer_read i) ∙ is);
      places = ap places more ∙ map-append (λ z. z.place) old (x ∷ (x ∷ [])) ∙ ap (λ l. l ++ x.place ∷ (x.place ∷ [])) c.loop-channel.invariant.places ∙ two_same i None;
    }
