-- A word is kind × 2²⁹ + number.
use Rattle.std.specs.Prelude.{◌≡◌, ℕ, ◌+◌, ◌*◌, ◌/◌, ◌%◌, Bool, false, cond, ◌||◌, List, [], ◌∷◌, Some, None, Option, Result, MatchResult, ◌==◌}
use Rattle.std.specs.Option.{option_map}
use Rattle.words.specs.declared.kind.Kind.{Kind}
use Rattle.words.specs.declared.kind.Kind.TheVariants.{Machine, Regions, Task, Channel, Exec, Transfer, End}
use Rattle.words.specs.declared.kind.NoKind.{NoKind}
use Rattle.words.specs.declared.kind.Opening.{Opening}

-- the kinds that open a record, by their numbers
abbrev pub code : Kind → ℕ
code Machine = 1
code Regions = 2
code Task = 3
code Channel = 4
code Exec = 5
code Transfer = 6
code End = 7

-- the kind with this number, or none
abbrev pub kind_of : ℕ → Option Kind
kind_of k =
    cond (k == 1) (Some Machine)
    (cond (k == 2) (Some Regions)
    (cond (k == 3) (Some Task)
    (cond (k == 4) (Some Channel)
    (cond (k == 5) (Some Exec)
    (cond (k == 6) (Some Transfer)
    (cond (k == 7) (Some End) None))))))

-- the result is the kind with this number, or the number where no kind has it
abbrev pub Decodes : ℕ → Result Kind NoKind → Type 0
Decodes k r = MatchResult r (λ kind. kind_of k ≡ Some kind) (λ e. (kind_of k ≡ None) × (e.0 ≡ k))

-- the word of this kind and number
abbrev pub word : Kind → ℕ → ℕ
word k n = code k * 536870912 + n

-- a word taken apart, if it opens a record
abbrev pub opening_of : ℕ → Option Opening
opening_of w = option_map (λ k. record { kind = k; number = w % 536870912 }) (kind_of (w / 536870912))

-- whether a kind is one of these
abbrev pub one_of : List Kind → Kind → Bool
one_of [] k = false
one_of (x ∷ xs) k = code x == code k || one_of xs k
