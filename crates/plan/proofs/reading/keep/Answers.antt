use Rattle.std.proofs.Common.{◌∙◌}
use Rattle.plan.proofs.Keeps.{valid_at}
use Rattle.plan.proofs.reading.keep.Goals as goal

pub invariant_of-result : goal.invariant_of-result
invariant_of-result c =
    let g = c.args.numbers.now in
    let v = valid_at g.cores g.slot_time g.slot_load g.scratchpad _ _ _ _ _ _ (c.in_ok-regions.ensures.items ∙ c.as_slice.ensures) (c.in_ok-tasks.ensures.items ∙ c.as_slice-2.ensures) (c.in_ok-channels.ensures.items ∙ c.as_slice-3.ensures) c.requires in
    record {
      cores_fit = v.cores;
      slot_time_fits = v.slot_time;
      slot_load_fits = v.slot_load;
      scratchpad_fits = v.scratchpad;
      region_count = v.region_count;
      regions_fit = v.regions;
      regions_add_up = v.add_up;
      task_count = v.task_count;
      tasks_fit = v.tasks;
      channel_count = v.channel_count;
      channels_fit = v.channels;
    }
