-- A plan of the same numbers is in the same ranges.
use Rattle.std.proofs.Common.{◌≡◌, ℕ, List}
use Rattle.board.specs.declared.Task.{Task}
use Rattle.board.specs.declared.Channel.{Channel}
use Rattle.board.specs.Plans.{plan_of, Valid}

pub valid_at : (c t d s : ℕ) (rs rs' : List ℕ) (ts ts' : List Task) (cs cs' : List Channel) → rs ≡ rs' → ts ≡ ts' → cs ≡ cs' → Valid (plan_of c t d s rs' ts' cs') → Valid (plan_of c t d s rs ts cs)
valid_at c t d s rs rs' ts ts' cs cs' a b e v = rw (a, b, e) v
