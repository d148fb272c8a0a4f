-- What is in a row.
use Rattle.std.specs.Prelude.{ℕ, List, take}
use Rattle.records.specs.declared.row.Row.{Row}

-- the things, from the first on
abbrev pub items : {T : Type 0} → {ROOM : ℕ} → Row T ROOM → List T
items r = take r.len r.cells
