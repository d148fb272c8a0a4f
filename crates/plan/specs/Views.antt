-- What a plan says, and what the answer of reading says of the words.
use Rattle.std.specs.Prelude.{◌≡◌, ℕ, List, Some, None, Ok, Err, vec_items, codes, Option, Result}
use Rattle.words.specs.declared.fault.Refusal.{Refusal}
use Rattle.plan.specs.declared.model.Plan.{Plan}
use Rattle.plan.specs.declared.error.ReadError.{ReadError}
use Rattle.plan.specs.declared.error.ReadError.TheVariants.{NoMemory, Refused}
use Rattle.board.specs.Plans.{PlanView, plan_of}
use Rattle.board.specs.Reading.{read_plan}
use Rattle.records.specs.Shown.{shown, fault_text}

abbrev pub view : Plan → PlanView
view p =
    plan_of p.cores p.slot_time p.slot_load p.scratchpad (vec_items p.regions) (vec_items p.tasks) (vec_items p.channels)

-- the words say a plan
abbrev pub SaysPlan : List ℕ → Type 0
SaysPlan ws = (p : PlanView) × (read_plan ws ≡ Ok p)

-- the one answer to these words; want of memory only where they say a plan
abbrev pub Answers : List ℕ → Result Plan ReadError → Type 0
Answers ws (Ok p) = read_plan ws ≡ Ok (view p)
Answers ws (Err (Refused f)) = read_plan ws ≡ Err (shown f)
Answers ws (Err NoMemory) = SaysPlan ws

-- want of memory has no number
abbrev pub refusal_of : ReadError → Option Refusal
refusal_of NoMemory = None
refusal_of (Refused f) = Some (shown f)

-- why reading gives no plan
abbrev pub error_text : ReadError → List ℕ
error_text NoMemory = codes "out of memory"
error_text (Refused f) = fault_text f
