-- Which command the words behind the program's name give.
use Rattle.std.specs.Prelude.{◌≡◌, ℕ, ◌<◌, List, [], ◌∷◌, length, Ok, Err, string_bytes, codes, Result, String, ◌≢◌}
use Rattle.std.specs.declared.alloc.Global.{Global}
use Rattle.timetable.specs.declared.command.Command.{Command}
use Rattle.timetable.specs.declared.command.Command.TheVariants.{Help, Plan}
use Rattle.timetable.specs.declared.command.Wrong.{Wrong}
use Rattle.timetable.specs.declared.command.Wrong.TheVariants.{NoCommand, NoFile, Unknown}

-- r is the command of this name on these files, or what is wrong with it
abbrev pub Asked : List ℕ → List (String Global) → Result Command Wrong → Type 0
Asked name files (Ok Help) = name ≡ codes "help"
Asked name files (Ok (Plan fs)) = (name ≡ codes "plan") × (fs.now ≡ files) × (0 < length files)
Asked name files (Err NoCommand) = ⊥
Asked name files (Err NoFile) = (name ≡ codes "plan") × (length files ≡ 0)
Asked name files (Err (Unknown x)) = (x.now ≡ name) × (name ≢ codes "help") × (name ≢ codes "plan")

-- r is the command that the words give, or what is wrong with them
abbrev pub Given : List (String Global) → Result Command Wrong → Type 0
Given [] r = r ≡ Err NoCommand
Given (w ∷ ws) r = Asked (string_bytes w) ws r
