-- The ranges of a plan's numbers. Names no `Plan`.
use Rattle.std.specs.Prelude.{ℕ, ◌<◌, ◌≤◌, List, length, slice_index_or}
use Rattle.board.specs.declared.Task.{Task}
use Rattle.board.specs.declared.Channel.{Channel}

abbrev pub Between : ℕ → ℕ → ℕ → Type 0
Between low high n = (low ≤ n) × (n ≤ high)

-- P of each element
abbrev pub Throughout : {X : Type 0} → (X → Type 0) → List X → Type 0
Throughout {X} P xs = (k : ℕ) (d : X) → k < length xs → P (slice_index_or xs k d)

abbrev pub TaskFits : Task → Type 0
TaskFits t = (1 ≤ t.limit) × (t.limit ≤ 1000000) × (t.local ≤ 65535)

-- of a channel of a plan with n tasks
abbrev pub ChannelFits : ℕ → Channel → Type 0
ChannelFits n c = (1 ≤ c.bytes) × (c.bytes ≤ 4096) × (c.from < c.to) × (c.to < n)
