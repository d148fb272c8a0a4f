-- What a row of words says as a plan: the plan's numbers, or the one refusal. And how a plan is written.
use Rattle.std.specs.Prelude.{◌≡◌, ℕ, ◌+◌, ◌*◌, ◌/◌, ◌%◌, ◌&&◌, ◌↔◌, List, [], ◌∷◌, ◌++◌, map, length, Ok, sum, Result, nat_le, nat_lt}
use Rattle.words.specs.declared.fault.Refusal.{Refusal}
use Rattle.words.specs.declared.kind.Kind.TheVariants.{Machine}
use Rattle.words.specs.Records.{Said, machine, regions, task, channel, exec, transfer, end}
use Rattle.board.specs.declared.Task.{Task}
use Rattle.board.specs.declared.Channel.{Channel}
use Rattle.board.specs.Files.{Checked, ◌also◌, holds, within, Rules, reads, file_of}
use Rattle.board.specs.Plans.{PlanView, plan_of, Valid}

-- each size from this place on is in its range
abbrev pub sizes_within : ℕ → List ℕ → Checked
sizes_within place [] = Ok tt
sizes_within place (n ∷ ns) = within place n 1 1048576 also sizes_within (place + 1) ns

-- why a record may not stand at this place of a plan file, behind a machine with this scratchpad and so many tasks and channels;
-- what is no record of a plan is kept out by its kind
abbrev pub why : ℕ → ℕ → ℕ → ℕ → Said → Checked
why pad tasks channels place (machine c t d s) =
    within place c 1 8 also within (place + 1) t 1 100 also within (place + 2) d 1 256 also within (place + 3) s 1 1048576
why pad tasks channels place (regions at ns) =
    within place (length ns) 1 8 also sizes_within at ns also holds (nat_le (sum ns) pad) 6 place
why pad tasks channels place (task limit local) =
    within place limit 1 1000000 also within (place + 1) local 0 65535 also holds (nat_lt tasks 64) 4 place
why pad tasks channels place (channel bytes pair) =
    within place bytes 1 4096 also within (place + 1) pair 0 4095 also holds (nat_lt channels 256) 4 place
    also holds (nat_lt (pair / 64) (pair % 64) && nat_lt (pair % 64) tasks) 5 (place + 1)
why pad tasks channels place (exec start seat) = Ok tt
why pad tasks channels place (transfer start side) = Ok tt
why pad tasks channels place (end count) = Ok tt

-- the plan with one record more
abbrev pub then : PlanView → Said → PlanView
then p (machine c t d s) = plan_of c t d s p.regions p.tasks p.channels
then p (regions at ns) = plan_of p.cores p.slot_time p.slot_load p.scratchpad ns p.tasks p.channels
then p (task limit local) =
    plan_of p.cores p.slot_time p.slot_load p.scratchpad p.regions (p.tasks ++ record { limit = limit; local = local } ∷ []) p.channels
then p (channel bytes pair) =
    plan_of p.cores p.slot_time p.slot_load p.scratchpad p.regions p.tasks (p.channels ++ record { from = pair / 64; to = pair % 64; bytes = bytes } ∷ [])
then p (exec start seat) = p
then p (transfer start side) = p
then p (end count) = p

abbrev pub plan_rules : Rules PlanView
plan_rules = record { first = Machine ∷ []; none = plan_of 0 0 0 0 [] [] []; why = λ p. why p.scratchpad (length p.tasks) (length p.channels); then = then }

abbrev pub read_plan : List ℕ → Result PlanView Refusal
read_plan ws = reads plan_rules ws

-- ---- writing
abbrev pub task_record : Task → Said
task_record t = task t.limit t.local

abbrev pub channel_record : Channel → Said
channel_record c = channel c.bytes (c.from * 64 + c.to)

-- the records of a plan; the sizes stand at place 5
abbrev pub records : PlanView → List Said
records p =
    machine p.cores p.slot_time p.slot_load p.scratchpad ∷ regions 5 p.regions
    ∷ (map task_record p.tasks ++ map channel_record p.channels)

abbrev pub written : PlanView → List ℕ
written p = file_of (records p)

-- the law of reading: words are read as a plan exactly when the plan is in all its ranges and the words are its written form
abbrev pub LawOfReading : Type 0
LawOfReading = (ws : List ℕ) (p : PlanView) → (read_plan ws ≡ Ok p) ↔ (Valid p × (ws ≡ written p))
