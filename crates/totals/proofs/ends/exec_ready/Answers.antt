use Rattle.std.proofs.Common.{rules, Some, sym, ap, ◌∙◌}
use Rattle.std.proofs.lemmas.Bool.{eq-eqb, ne_eqb}
use Rattle.std.proofs.lemmas.List.{length_push}
use Rattle.board.specs.Entries.{read}
use Rattle.board.specs.Totals.{ended_by}
use Rattle.table.specs.Tables.{plan_in, sheet}
use Rattle.totals.proofs.Sides.{turn, turns}
use Rattle.totals.proofs.Slots.{side_small}
use Rattle.totals.proofs.Waiting.{waiting_first, waiting_into, waiting_past, waiting_never, waiting_none}
use Rattle.totals.proofs.ends.exec_ready.Goals as goal

pub loop-channel-init : goal.loop-channel-init
loop-channel-init c = record { can = search rules; finite = search rules; waits = waiting_first (plan_in c.args.table.now) (sheet c.args.table.now) c.args.task }

pub slot_end-requires : goal.slot_end-requires
slot_end-requires c = side_small c.args.table.now (read _) _ (turn c.args.table.now _ _ _ c.next.new.self (search rules) (search rules) c.loop-channel.yielded_by _ c.in-Some.is c.next.ensures.steps).read_side

pub returns-in_err-slot_end : goal.returns-in_err-slot_end
returns-in_err-slot_end c k =
    let t = c.args.table.now in
    let z = turn t _ _ _ c.next.new.self (search rules) (search rules) c.loop-channel.yielded_by _ c.in-Some.is c.next.ensures.steps in
    ap (ended_by k) c.from_residual.ensures
    ∙ sym (waiting_never (plan_in t) (sheet t) c.args.task k (ended_by k (Some c.loop-channel.at)) _ z.below (eq-eqb _ _ (ap (λ d. d.to) (sym z.is) ∙ c.if-channel-task.true)) (c.in_err-slot_end.ensures ∙ z.read_side.ends))
    ∙ c.loop-channel.invariant.waits k

pub loop-channel-preserved-then-channel-task : goal.loop-channel-preserved-then-channel-task
loop-channel-preserved-then-channel-task c =
    let t = c.args.table.now in
    let z = turn t _ _ _ c.next.new.self (search rules) (search rules) c.loop-channel.yielded_by _ c.in-Some.is c.next.ensures.steps in
    let into = eq-eqb _ _ (ap (λ d. d.to) (sym z.is) ∙ c.if-channel-task.true) in
    record {
      can = search rules;
      finite = search rules;
      waits = λ k. waiting_into (plan_in t) (sheet t) c.args.task k c.loop-channel.at c.in_ok-slot_end.field-0 _ _ _ z.below (length_push c.loop-channel.yielded _) (search rules) into (c.in_ok-slot_end.ensures ∙ z.read_side.ends) ∙ c.loop-channel.invariant.waits k;
    }

pub loop-channel-preserved : goal.loop-channel-preserved
loop-channel-preserved c =
    let t = c.args.table.now in
    let z = turn t _ _ _ c.next.new.self (search rules) (search rules) c.loop-channel.yielded_by _ c.in-Some.is c.next.ensures.steps in
    let other = ne_eqb _ _ (λ h. c.if-channel-task.false (ap (λ d. d.to) z.is ∙ h)) in
    record {
      can = search rules;
      finite = search rules;
      waits = λ k. waiting_past (plan_in t) (sheet t) c.args.task k c.loop-channel.at _ _ z.below (length_push c.loop-channel.yielded _) other ∙ c.loop-channel.invariant.waits k;
    }

pub returns : goal.returns
returns c k =
    let t = c.args.table.now in
    sym (waiting_none (plan_in t) (sheet t) c.args.task k (ended_by k (Some c.loop-channel.at)) _ (turns t _ _ _ c.next.new.self (search rules) (search rules) c.loop-channel.yielded_by c.in-None.is c.next.ensures.steps))
    ∙ c.loop-channel.invariant.waits k
