-- A word is four bytes, the most significant first.
use Rattle.std.specs.Prelude.{◌≡◌, ℕ, ◌+◌, ◌*◌, ◌/◌, ◌%◌, cond, List, [], ◌∷◌, length, Ok, Err, vec_items, Result, Vec, ◌==◌}
use Rattle.std.specs.declared.alloc.AllocError.{AllocError}
use Rattle.std.specs.declared.alloc.Global.{Global}
use Rattle.std.specs.List.{flat_map}
use Rattle.words.specs.declared.bytes.BytesError.{BytesError}
use Rattle.words.specs.declared.bytes.BytesError.TheVariants.{NoMemory, Cut}
use Rattle.words.specs.declared.fault.Fault.{Fault}
use Rattle.words.specs.declared.fault.Fault.TheVariants.{Ended}

-- the bytes of a word
abbrev pub bytes_of_word : ℕ → List ℕ
bytes_of_word w = (w / 16777216 % 256) ∷ (w / 65536 % 256) ∷ (w / 256 % 256) ∷ (w % 256) ∷ []

-- the bytes of words, one after the other
abbrev pub bytes_of : List ℕ → List ℕ
bytes_of ws = flat_map bytes_of_word ws

-- the words that the bytes make, four bytes a word; what is left at the end makes none
abbrev pub words_by_four : List ℕ → List ℕ
words_by_four [] = []
words_by_four (a ∷ []) = []
words_by_four (a ∷ b ∷ []) = []
words_by_four (a ∷ b ∷ c ∷ []) = []
words_by_four (a ∷ b ∷ c ∷ d ∷ bs) = (a * 16777216 + b * 65536 + c * 256 + d) ∷ words_by_four bs

-- the words in a file of these bytes, which must be whole words
abbrev pub words_in : List ℕ → Result (List ℕ) Fault
words_in bs = cond (length bs % 4 == 0) (Ok (words_by_four bs)) (Err (Ended (length bs / 4)))

-- bytes are read: as the words in them, which have these bytes; memory is asked for only where they are whole words
abbrev pub Read : List ℕ → Result (Vec ℕ Global) BytesError → Type 0
Read bs (Ok v) = (words_in bs ≡ Ok (vec_items v)) × (bytes_of (vec_items v) ≡ bs)
Read bs (Err NoMemory) = length bs % 4 ≡ 0
Read bs (Err (Cut f)) = words_in bs ≡ Err f

-- words are written: as their bytes, in which these words are read again
abbrev pub Written : List ℕ → Result (Vec ℕ Global) AllocError → Type 0
Written ws (Ok v) = (vec_items v ≡ bytes_of ws) × (words_in (vec_items v) ≡ Ok ws)
Written ws (Err e) = Unit {0}
