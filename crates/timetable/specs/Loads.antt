-- Which words the bytes of a file give.
use Rattle.std.specs.Prelude.{◌≡◌, ℕ, Bool, true, false, List, ◌++◌, ◌%◌, length, is_ok, Ok, Err, Some, None, decimal, vec_items, codes, Option, Result, Vec, ◌≢◌}
use Rattle.std.specs.declared.alloc.Global.{Global}
use Rattle.hex_text.specs.declared.HexError.{HexError}
use Rattle.hex_text.specs.declared.HexError.TheVariants as hex
use Rattle.hex_text.specs.Scan.{words_in_text}
use Rattle.hex_text.specs.Texts.{error_text}
use Rattle.words.specs.Bytes.{words_in}
use Rattle.timetable.specs.declared.load.LoadError.{LoadError}
use Rattle.timetable.specs.declared.load.LoadError.TheVariants.{NoMemory, Unreadable, Cut, Token}

-- a file is text where its name ends in ".hex"
abbrev pub Text : List ℕ → Bool → Type 0
Text name true = (front : List ℕ) × (name ≡ front ++ codes ".hex")
Text name false = (front : List ℕ) → name ≢ front ++ codes ".hex"

-- why a text gives no words
abbrev pub of_text : HexError → LoadError
of_text hex.NoMemory = NoMemory
of_text (hex.Token line column) = Token line column

-- r is the words of a text, or where a token is that is no word
abbrev pub FromText : List ℕ → Result (Vec ℕ Global) LoadError → Type 0
FromText text (Ok v) = words_in_text text ≡ Ok (vec_items v)
FromText text (Err NoMemory) = is_ok (words_in_text text) ≡ true
FromText text (Err (Unreadable e)) = ⊥
FromText text (Err (Cut n f)) = ⊥
FromText text (Err (Token line column)) = words_in_text text ≡ Err (line, column)

-- r is the words in raw bytes, or the fault of a cut word
abbrev pub FromRaw : List ℕ → Result (Vec ℕ Global) LoadError → Type 0
FromRaw bs (Ok v) = words_in bs ≡ Ok (vec_items v)
FromRaw bs (Err NoMemory) = is_ok (words_in bs) ≡ true
FromRaw bs (Err (Unreadable e)) = ⊥
FromRaw bs (Err (Cut n f)) = (n ≡ length bs) × (words_in bs ≡ Err f)
FromRaw bs (Err (Token line column)) = ⊥

-- why a file gives no words, as it is told; what the system says of it has no text here
abbrev pub load_text : LoadError → Option (List ℕ)
load_text NoMemory = Some (codes "not read: out of memory")
load_text (Unreadable e) = None
load_text (Cut n f) = Some (codes "the last word has " ++ (decimal (n % 4) ++ codes " of 4 bytes"))
load_text (Token line column) = Some (codes "not words: " ++ error_text (hex.Token line column))
