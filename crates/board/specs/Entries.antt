-- What a plan has to place: entries, their lengths, what each waits for and whose it is.
use Rattle.std.specs.Prelude.{ℕ, ◌*◌, ◌/◌, ◌%◌, ◌<◌, cond, List, [], ◌∷◌, ◌++◌, map, length, filter, ◌==◌, nat_eq}
use Rattle.std.specs.List.{range_with_len}
use Rattle.board.specs.Plans.{PlanView, channel_at, exec_length, transfer_length}

-- the exec of a task, or the write or the read of a channel
pub data Entry : Type 0 where
  exec : (task : ℕ) → Entry
  write : (channel : ℕ) → Entry
  read : (channel : ℕ) → Entry

-- the tasks that a channel joins
abbrev pub producer : PlanView → ℕ → ℕ
producer p c = (channel_at p c).from

abbrev pub consumer : PlanView → ℕ → ℕ
consumer p c = (channel_at p c).to

-- the plan has the entry
abbrev pub Holds : PlanView → Entry → Type 0
Holds p (exec t) = t < length p.tasks
Holds p (write c) = c < length p.channels
Holds p (read c) = c < length p.channels

abbrev pub length_of : PlanView → Entry → ℕ
length_of p (exec t) = exec_length p t
length_of p (write c) = transfer_length p c
length_of p (read c) = transfer_length p c

-- ---- file order
-- the transfer of this value, which is twice its channel, and 1 more for the read
abbrev pub transfer : ℕ → Entry
transfer v = cond (v % 2 == 0) (write (v / 2)) (read (v / 2))

-- every entry of the plan, in file order
abbrev pub entries : PlanView → List Entry
entries p = map exec (range_with_len 0 (length p.tasks)) ++ map transfer (range_with_len 0 (2 * length p.channels))

-- ---- the channels into a task and out of it, by rising number
abbrev pub inputs : PlanView → ℕ → List ℕ
inputs p t = filter (λ c. nat_eq (consumer p c) t) (range_with_len 0 (length p.channels))

abbrev pub outputs : PlanView → ℕ → List ℕ
outputs p t = filter (λ c. nat_eq (producer p c) t) (range_with_len 0 (length p.channels))

-- what an entry waits for
abbrev pub awaited : PlanView → Entry → List Entry
awaited p (exec t) = map read (inputs p t)
awaited p (write c) = exec (producer p c) ∷ []
awaited p (read c) = write c ∷ []

-- the task whose own an entry is
abbrev pub owner : PlanView → Entry → ℕ
owner p (exec t) = t
owner p (write c) = producer p c
owner p (read c) = consumer p c

-- a task's own entries: its exec, the reads into it and the writes out of it
abbrev pub own : PlanView → ℕ → List Entry
own p t = exec t ∷ (map read (inputs p t) ++ map write (outputs p t))
