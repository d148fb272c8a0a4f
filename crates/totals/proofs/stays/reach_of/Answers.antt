use Rattle.std.proofs.Common.{rules, ap, refl}
use Rattle.std.proofs.lemmas.List.{length_push}
use Rattle.board.specs.Entries.{read, write}
use Rattle.table.specs.Tables.{plan_in, sheet}
use Rattle.totals.proofs.Reaches.{reaching_first, reaching_more, reaching_none}
use Rattle.totals.proofs.Sides.{turn, turns, own_side, other_side}
use Rattle.totals.proofs.Slots.{side_small}
use Rattle.totals.proofs.stays.reach_of.Goals as goal
use Rattle.totals.proofs.stays.reach_of.Goals.{then-channel-task, else-channel-task}

pub loop-channel-init : goal.loop-channel-init
loop-channel-init c =
    record {
      can = search rules;
      finite = search rules;
      reaching = reaching_first (plan_in c.args.table.now) (sheet c.args.table.now) c.args.task c.args.exec.first c.args.exec.end c.requires.begins c.requires.ends;
    }

pub with-reach-requires : goal.with-reach-requires
with-reach-requires c = side_small c.args.table.now (read _) _ (turn c.args.table.now _ _ _ c.next.new.self (search rules) (search rules) c.loop-channel.yielded_by _ c.in-Some.is c.next.ensures.steps).read_side

pub with-reach-requires-then-channel-task-2 : goal.with-reach-requires-then-channel-task-2
with-reach-requires-then-channel-task-2 c = side_small c.args.table.now (write _) _ (turn c.args.table.now _ _ _ c.next.new.self (search rules) (search rules) c.loop-channel.yielded_by _ c.in-Some.is c.next.ensures.steps).write_side

pub loop-channel-preserved-then-channel-task-2 : goal.loop-channel-preserved-then-channel-task-2
loop-channel-preserved-then-channel-task-2 c =
    let t = c.args.table.now in
    let task = c.args.task in
    let a = c.loop-channel.reach in
    let b = c.if-channel-task.reach in
    let d = c.with-reach-then-channel-task-2.result in
    let z = turn t _ _ _ c.next.new.self (search rules) (search rules) c.loop-channel.yielded_by _ c.in-Some.is c.next.ensures.steps in
    let to = ap (λ k. k.to) z.is in
    let from = ap (λ k. k.from) z.is in
    record {
      can = search rules;
      finite = search rules;
      reaching = reaching_more (plan_in t) (sheet t) task _ _ a.first b.first d.first a.end b.end d.end z.below (length_push c.loop-channel.yielded _) c.loop-channel.invariant.reaching
          (elim c.if-channel-task.branch [
            | then-channel-task w ↦ own_side t task _ _ (read _) a b to w.with-reach.result _ w.reach-is w.if-channel-task.true z.read_side w.with-reach.ensures.first w.with-reach.ensures.end
            | else-channel-task w ↦ other_side t task _ _ (read _) a b to w.reach-is w.if-channel-task.false
          ])
          (own_side t task _ _ (write _) b d from d _ refl c.if-channel-task-2.true z.write_side c.with-reach-then-channel-task-2.ensures.first c.with-reach-then-channel-task-2.ensures.end);
    }

pub loop-channel-preserved : goal.loop-channel-preserved
loop-channel-preserved c =
    let t = c.args.table.now in
    let task = c.args.task in
    let a = c.loop-channel.reach in
    let b = c.if-channel-task.reach in
    let z = turn t _ _ _ c.next.new.self (search rules) (search rules) c.loop-channel.yielded_by _ c.in-Some.is c.next.ensures.steps in
    let to = ap (λ k. k.to) z.is in
    let from = ap (λ k. k.from) z.is in
    record {
      can = search rules;
      finite = search rules;
      reaching = reaching_more (plan_in t) (sheet t) task _ _ a.first b.first b.first a.end b.end b.end z.below (length_push c.loop-channel.yielded _) c.loop-channel.invariant.reaching
          (elim c.if-channel-task.branch [
            | then-channel-task w ↦ own_side t task _ _ (read _) a b to w.with-reach.result _ w.reach-is w.if-channel-task.true z.read_side w.with-reach.ensures.first w.with-reach.ensures.end
            | else-channel-task w ↦ other_side t task _ _ (read _) a b to w.reach-is w.if-channel-task.false
          ])
          (other_side t task _ _ (write _) b b from refl c.if-channel-task-2.false);
    }

pub returns : goal.returns
returns c =
    let r = reaching_none (plan_in c.args.table.now) (sheet c.args.table.now) c.args.task _ c.loop-channel.reach.first c.loop-channel.reach.end
    (turns c.args.table.now _ _ _ c.next.new.self (search rules) (search rules) c.loop-channel.yielded_by c.in-None.is c.next.ensures.steps) c.loop-channel.invariant.reaching in
    record { first = r.0; end = r.1 }
