-- A plan by its numbers, and what follows from them.
use Rattle.std.specs.Prelude.{ℕ, ◌+◌, ◌-◌, ◌*◌, ◌/◌, ◌≤◌, Bool, cond, ◌||◌, ◌↔◌, List, length, Some, None, sum_by, sum, Option, ◌==◌, nat_le, nat_lt, slice_index, slice_index_or}
use Rattle.board.specs.Ranges.{Between, Throughout, TaskFits, ChannelFits}
use Rattle.board.specs.declared.Task.{Task}
use Rattle.board.specs.declared.Channel.{Channel}

pub record PlanView : Type 0 where
  pub cores : ℕ
  pub slot_time : ℕ
  pub slot_load : ℕ
  pub scratchpad : ℕ
  pub regions : List ℕ
  pub tasks : List Task
  pub channels : List Channel

abbrev pub plan_of : ℕ → ℕ → ℕ → ℕ → List ℕ → List Task → List Channel → PlanView
plan_of c t d s rs ts cs =
    record { cores = c; slot_time = t; slot_load = d; scratchpad = s; regions = rs; tasks = ts; channels = cs }

-- every number is in its range
pub record Valid (p : PlanView) : Type 0 where
  pub cores : Between 1 8 p.cores
  pub slot_time : Between 1 100 p.slot_time
  pub slot_load : Between 1 256 p.slot_load
  pub scratchpad : Between 1 1048576 p.scratchpad
  pub region_count : Between 1 8 (length p.regions)
  pub regions : Throughout (Between 1 1048576) p.regions
  pub add_up : sum p.regions ≤ p.scratchpad
  pub task_count : Between 1 64 (length p.tasks)
  pub tasks : Throughout TaskFits p.tasks
  pub channel_count : length p.channels ≤ 256
  pub channels : Throughout (ChannelFits (length p.tasks)) p.channels

abbrev pub no_task : Task
no_task = record { limit = 0; local = 0 }

abbrev pub no_channel : Channel
no_channel = record { from = 0; to = 0; bytes = 0 }

abbrev pub task_at : PlanView → ℕ → Task
task_at p t = slice_index_or p.tasks t no_task

abbrev pub channel_at : PlanView → ℕ → Channel
channel_at p c = slice_index_or p.channels c no_channel

-- ---- lengths
-- n divided by d, rounded up
abbrev pub divided_up : ℕ → ℕ → ℕ
divided_up n d = (n + (d - 1)) / d

-- which is the least k such that k times d reaches n
abbrev pub RoundsUp : Type 0
RoundsUp = (n d k : ℕ) → 1 ≤ d → (divided_up n d ≤ k) ↔ (n ≤ k * d)

-- the cycles that these bytes take on the bus
abbrev pub cycles : PlanView → ℕ → ℕ
cycles p bytes = divided_up bytes p.slot_load * p.slot_time

-- the length of a task's exec, and of the write or the read of a channel
abbrev pub exec_length : PlanView → ℕ → ℕ
exec_length p t = (task_at p t).limit

abbrev pub transfer_length : PlanView → ℕ → ℕ
transfer_length p c = cycles p (channel_at p c).bytes

-- ---- needs
-- the bytes that a channel puts into a task's region: those of its own channels, in and out
abbrev pub bytes_for : ℕ → Channel → ℕ
bytes_for t c = cond (c.from == t || c.to == t) c.bytes 0

-- what a task needs of its region: its local bytes and those of all its channels
abbrev pub need : PlanView → ℕ → ℕ
need p t = (task_at p t).local + sum_by (bytes_for t) p.channels

-- a region is large enough for a task
abbrev pub roomy : PlanView → ℕ → ℕ → Bool
roomy p region t = nat_le (need p t) (slice_index p.regions region)

-- an answer on a task or a channel, none where the plan lacks it
abbrev pub if_task : PlanView → ℕ → ℕ → Option ℕ
if_task p t n = cond (nat_lt t (length p.tasks)) (Some n) None

abbrev pub if_channel : PlanView → ℕ → ℕ → Option ℕ
if_channel p c n = cond (nat_lt c (length p.channels)) (Some n) None
