-- Words as text: eight hexadecimal digits a word, blanks and line feeds between words, comments from '#' to the line feed.
use Rattle.std.specs.Prelude.{◌≡◌, ℕ, ◌+◌, ◌-◌, ◌*◌, ◌/◌, ◌%◌, ◌^◌, ◌<◌, Bool, true, cond, ◌&&◌, ◌||◌, List, [], ◌∷◌, ◌++◌, take, is_ok, Some, None, Ok, Err, vec_items, Option, Result, Vec, ◌==◌, nat_le, nat_lt}
use Rattle.std.specs.Option.{option_to_list}
use Rattle.std.specs.declared.alloc.Global.{Global}
use Rattle.std.specs.List.{flat_map, AllByRecursion}
use Rattle.hex_text.specs.declared.HexError.{HexError}
use Rattle.hex_text.specs.declared.HexError.TheVariants.{NoMemory, Token}
use Rattle.hex_text.specs.declared.State.{State}
use Rattle.hex_text.specs.declared.State.TheVariants.{Between, Comment, Digits, Bad}

-- the value of a hexadecimal digit, '0' to '9', 'A' to 'F' or 'a' to 'f'
abbrev pub digit : ℕ → Option ℕ
digit b =
    cond (nat_le 48 b && nat_le b 57) (Some (b - 48))
    (cond (nat_le 65 b && nat_le b 70) (Some (b - 55))
    (cond (nat_le 97 b && nat_le b 102) (Some (b - 87)) None))

-- a space, a tab, a carriage return or a line feed
abbrev pub blank : ℕ → Bool
blank b = b == 32 || (b == 9 || (b == 13 || b == 10))

-- a token of count digits, with one more digit or with a byte that is none
abbrev pub grown_by : ℕ → ℕ → ℕ → Option ℕ → State
grown_by start count value None = Bad start
grown_by start count value (Some d) = cond (nat_lt count 8) (Digits (start, count + 1, value * 16 + d)) (Bad start)

-- a token of count digits with one more byte
abbrev pub grown : ℕ → ℕ → ℕ → ℕ → State
grown start count value b = grown_by start count value (digit b)

-- what the byte at place i begins where no token is open
abbrev pub opened : ℕ → ℕ → State
opened i b = cond (blank b) Between (cond (b == 35) Comment (grown i 0 0 b))

-- the state after the byte at place i
abbrev pub step : ℕ → State → ℕ → State
step i Between b = opened i b
step i Comment b = cond (b == 10) Between Comment
step i (Digits (start, count, value)) b =
    cond (blank b || b == 35) (cond (count == 8) (opened i b) (Bad start)) (grown start count value b)
step i (Bad start) b = Bad start

-- the state after the bytes from place i on
abbrev pub run : ℕ → State → List ℕ → State
run i s [] = s
run i s (b ∷ bs) = run (i + 1) (step i s b) bs

-- the word that is whole in this state
abbrev pub word : State → Option ℕ
word Between = None
word Comment = None
word (Digits (start, count, value)) = cond (count == 8) (Some value) None
word (Bad start) = None

-- the words that become whole in the bytes from place i on
abbrev pub shed : ℕ → State → List ℕ → List ℕ
shed i s [] = []
shed i s (b ∷ bs) = option_to_list (word (step i s b)) ++ shed (i + 1) (step i s b) bs

-- where the token begins that is no word, if the text ends in this state
abbrev pub bad : State → Option ℕ
bad Between = None
bad Comment = None
bad (Digits (start, count, value)) = cond (count == 8) None (Some start)
bad (Bad start) = Some start

-- the line and the column behind these bytes, which begin at this line and column
abbrev pub spot : ℕ → ℕ → List ℕ → ℕ × ℕ
spot line column [] = (line, column)
spot line column (b ∷ bs) = cond (b == 10) (spot (line + 1) 1 bs) (spot line (column + 1) bs)

-- what is told of a text, once it is known where a token stands that is no word
abbrev pub told : List ℕ → Option ℕ → Result (List ℕ) (ℕ × ℕ)
told text None = Ok (shed 0 Between text)
told text (Some start) = Err (spot 1 1 (take start text))

-- the words of a text, or where its first token stands that is no word
abbrev pub words_in_text : List ℕ → Result (List ℕ) (ℕ × ℕ)
words_in_text text = told text (bad (run 0 Between text))

-- a text is read: as the words of it; memory is asked for only where each token is a word
abbrev pub Heard : List ℕ → Result (Vec ℕ Global) HexError → Type 0
Heard text (Ok v) = words_in_text text ≡ Ok (vec_items v)
Heard text (Err NoMemory) = is_ok (words_in_text text) ≡ true
Heard text (Err (Token line column)) = words_in_text text ≡ Err (line, column)

-- ---- words written as text
-- the upper-case digit of a number below 16
abbrev pub digit_of : ℕ → ℕ
digit_of d = cond (nat_lt d 10) (48 + d) (55 + d)

-- a word as eight digits and a line feed
abbrev pub line_of : ℕ → List ℕ
line_of w =
    digit_of (w / 268435456 % 16) ∷ digit_of (w / 16777216 % 16) ∷ digit_of (w / 1048576 % 16) ∷ digit_of (w / 65536 % 16)
    ∷ digit_of (w / 4096 % 16) ∷ digit_of (w / 256 % 16) ∷ digit_of (w / 16 % 16) ∷ digit_of (w % 16) ∷ 10 ∷ []

-- words as lines of text
abbrev pub hex_of : List ℕ → List ℕ
hex_of ws = flat_map line_of ws

-- words written as text are read back
abbrev pub ReadBack : Type 0
ReadBack = (ws : List ℕ) → AllByRecursion (λ w. w < 2 ^ 32) ws → words_in_text (hex_of ws) ≡ Ok ws
