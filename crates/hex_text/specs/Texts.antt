-- What an error says.
use Rattle.std.specs.Prelude.{ℕ, List, ◌++◌, codes, decimal}
use Rattle.hex_text.specs.declared.HexError.{HexError}
use Rattle.hex_text.specs.declared.HexError.TheVariants.{NoMemory, Token}

-- why a text gives no words
abbrev pub error_text : HexError → List ℕ
error_text NoMemory = codes "out of memory"
error_text (Token line column) =
    codes "line " ++ (decimal line ++ (codes ", column " ++ (decimal column ++ codes ": a word is eight hexadecimal digits")))
