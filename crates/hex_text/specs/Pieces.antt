-- A text in pieces: gaps, and words with the gap behind them. A gap is a blank or a comment.
use Rattle.std.specs.Prelude.{◌≡◌, ℕ, ◌+◌, ◌*◌, Bool, true, false, cond, ◌||◌, List, [], ◌∷◌, ◌++◌, length, is_some, Some, None, Ok, Err, Option, ◌==◌}
use Rattle.std.specs.Option.{option_to_list}
use Rattle.std.specs.List.{flat_map, AllByRecursion}
use Rattle.hex_text.specs.Scan.{digit, blank, spot, words_in_text}

-- what f says of a number, if there is one
abbrev pub on_some : Option ℕ → (ℕ → Option ℕ) → Option ℕ
on_some None f = None
on_some (Some d) f = f d

-- the value of digits that stand behind those of the value v
abbrev pub value : ℕ → List ℕ → Option ℕ
value v [] = Some v
value v (b ∷ bs) = on_some (digit b) (λ d. value (v * 16 + d) bs)

-- the word that a token is, if it is eight digits
abbrev pub token : List ℕ → Option ℕ
token bs = cond (length bs == 8) (value 0 bs) None

-- a blank, or a comment by what stands between '#' and the line feed
pub data Gap : Type 0 where
  space : ℕ → Gap
  note : List ℕ → Gap

-- a gap, or a word with the gap behind it
pub data Piece : Type 0 where
  gap : Gap → Piece
  word : List ℕ → Gap → Piece

-- the bytes of a gap
abbrev pub gap_text : Gap → List ℕ
gap_text (space b) = b ∷ []
gap_text (note bs) = 35 ∷ bs ++ 10 ∷ []

-- the bytes of a piece
abbrev pub piece_text : Piece → List ℕ
piece_text (gap g) = gap_text g
piece_text (word bs g) = bs ++ gap_text g

-- the words of a piece
abbrev pub piece_words : Piece → List ℕ
piece_words (gap g) = []
piece_words (word bs g) = option_to_list (token bs)

-- a gap's byte is a blank, its comment has no line feed
abbrev pub GoodGap : Gap → Type 0
GoodGap (space b) = blank b ≡ true
GoodGap (note bs) = AllByRecursion (λ b. (b == 10) ≡ false) bs

-- a piece's word is eight digits, and its gap is good
abbrev pub Good : Piece → Type 0
Good (gap g) = GoodGap g
Good (word bs g) = (is_some (token bs) ≡ true) × GoodGap g

-- the end of a text: a word that no gap follows, or none
abbrev pub Last : List ℕ → Type 0
Last [] = Unit {0}
Last (b ∷ bs) = is_some (token (b ∷ bs)) ≡ true

-- and behind that a comment with no line feed, or none
abbrev pub Remark : List ℕ → Type 0
Remark [] = Unit {0}
Remark (b ∷ bs) = (b ≡ 35) × AllByRecursion (λ x. (x == 10) ≡ false) bs

-- a byte that ends a token
abbrev pub ends : ℕ → Bool
ends b = blank b || b == 35

-- nothing, or a byte that ends the token before it
abbrev pub Closed : List ℕ → Type 0
Closed [] = Unit {0}
Closed (b ∷ bs) = ends b ≡ true

-- a text of good pieces says the words in them
abbrev pub PiecesRead : Type 0
PiecesRead =
    (ps : List Piece) (last remark : List ℕ) → AllByRecursion Good ps → Last last → Remark remark
    → words_in_text (flat_map piece_text ps ++ (last ++ remark)) ≡ Ok (flat_map piece_words ps ++ option_to_list (token last))

-- the first token that is no word is refused, by the line and the column behind the good pieces before it
abbrev pub TokenRefused : Type 0
TokenRefused =
    (ps : List Piece) (b : ℕ) (bs rest : List ℕ) → AllByRecursion Good ps → AllByRecursion (λ x. ends x ≡ false) (b ∷ bs) → token (b ∷ bs) ≡ None → Closed rest
    → words_in_text (flat_map piece_text ps ++ ((b ∷ bs) ++ rest)) ≡ Err (spot 1 1 (flat_map piece_text ps))
