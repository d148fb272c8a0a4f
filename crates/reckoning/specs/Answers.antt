-- What the two readers answer.
use Rattle.std.specs.Prelude.{◌≡◌, ℕ, List, Ok, Err, vec_items, Result}
use Rattle.words.specs.declared.fault.Refusal.{Refusal}
use Rattle.board.specs.Plans.{PlanView, plan_of}
use Rattle.board.specs.Reading.{read_plan}
use Rattle.reckoning.specs.declared.outcome.Numbers.{Numbers}
use Rattle.reckoning.specs.declared.rule.Rule.{Rule}
use Rattle.reckoning.specs.declared.rule.Rule.TheVariants.{Ended, Misplaced, Range, TooMany, Pair, Overfull, End}

-- the plan of these numbers
abbrev pub plan_said : Numbers → PlanView
plan_said n =
    plan_of n.cores n.slot_time n.slot_load n.scratchpad (vec_items n.regions) (vec_items n.tasks) (vec_items n.channels)

-- the answer is just what the words say
abbrev pub Told : List ℕ → Result Numbers Refusal → Type 0
Told ws (Ok n) = read_plan ws ≡ Ok (plan_said n)
Told ws (Err f) = read_plan ws ≡ Err f

-- the number of a refusal
abbrev pub number_of : Rule → ℕ
number_of Ended = 1
number_of Misplaced = 2
number_of Range = 3
number_of TooMany = 4
number_of Pair = 5
number_of Overfull = 6
number_of End = 7
