-- Every plan is in its ranges.
use Rattle.board.specs.Plans.{Valid}
use Rattle.plan.specs.declared.model.Plan.{Plan}
use Rattle.plan.specs.Views.{view}

pub valid : (p : Plan) → Valid (view p)
valid p = record {
  cores = p.cores_fit;
  slot_time = p.slot_time_fits;
  slot_load = p.slot_load_fits;
  scratchpad = p.scratchpad_fits;
  region_count = p.region_count;
  regions = p.regions_fit;
  add_up = p.regions_add_up;
  task_count = p.task_count;
  tasks = p.tasks_fit;
  channel_count = p.channel_count;
  channels = p.channels_fit;
}
