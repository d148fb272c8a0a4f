-- The last line on a file, as other programs read it.
use Rattle.std.specs.Prelude.{ℕ, List, ◌++◌, codes, decimal}
use Rattle.words.specs.declared.fault.Refusal.{Refusal}
use Rattle.words.specs.Texts.{refusal_text}

-- a file is accepted
abbrev pub accepted : List ℕ → ℕ → ℕ → List ℕ
accepted name tasks channels =
    name ++ (codes ": accepted, " ++ (decimal tasks ++ (codes " tasks, " ++ (decimal channels ++ codes " channels"))))

-- a file is refused, with what its fault means
abbrev pub refused : List ℕ → Refusal → List ℕ → List ℕ
refused name r meaning = name ++ (codes ": refused " ++ (refusal_text r ++ (codes ": " ++ meaning)))
