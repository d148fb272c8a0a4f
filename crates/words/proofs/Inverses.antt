-- Words as bytes, and back again. Assumes nothing.
use Rattle.std.proofs.Common.{◌≡◌, ℕ, zero, suc, ◌+◌, ◌*◌, ◌/◌, ◌%◌, ◌^◌, ◌<◌, List, [], ◌∷◌, ◌++◌, length, get_or, map, Ok, sym, refl, ap, ◌∙◌, arith}
use Rattle.std.proofs.lemmas.Nat.{div-add-mod'}
use Rattle.std.proofs.lemmas.List.{flat_map_more}
use Rattle.std.proofs.lemmas.Bool.Decides.{nat_tests}
use Rattle.std.specs.Simd.{first_chunks}
use Rattle.std.specs.List.{AllByRecursion}
use Rattle.words.specs.Bytes.{bytes_of_word, bytes_of, words_by_four, words_in}

-- the word of a word's bytes
pub word_again : (w : ℕ) → w < 2 ^ 32 → (w / 16777216 % 256) * 16777216 + (w / 65536 % 256) * 65536 + (w / 256 % 256) * 256 + w % 256 ≡ w
word_again w h =
    let x : ℕ = w / 256 in
    let y : ℕ = x / 256 in
    let p : w / 65536 ≡ y = omega arith in
    let q : w / 16777216 ≡ y / 256 = omega arith in
    let small : y / 256 < 256 = omega arith in
    let top : y / 256 % 256 ≡ y / 256 = omega arith in
    rw (p, q, top) (omega (arith, div-add-mod' w 256, div-add-mod' x 256, div-add-mod' y 256))

-- the words of the bytes of words
pub words_again : (ws : List ℕ) → AllByRecursion (λ w. w < 2 ^ 32) ws → words_by_four (bytes_of ws) ≡ ws
words_again [] h = refl
words_again (w ∷ ws) h = let e = word_again w h.0 in let r = words_again ws h.1 in cc

-- the bytes of a word of bytes
pub bytes_again : (a b c d : ℕ) → a < 256 → b < 256 → c < 256 → d < 256 → bytes_of_word (a * 16777216 + b * 65536 + c * 256 + d) ≡ a ∷ b ∷ c ∷ d ∷ []
bytes_again a b c d ha hb hc hd =
    let w : ℕ = a * 16777216 + b * 65536 + c * 256 + d in
    let p : w / 16777216 % 256 ≡ a = omega arith in
    let q : w / 65536 % 256 ≡ b = omega arith in
    let r : w / 256 % 256 ≡ c = omega arith in
    let s : w % 256 ≡ d = omega arith in
    cc

-- the bytes of one more word
pub bytes_more : (ws : List ℕ) (w : ℕ) → bytes_of (ws ++ w ∷ []) ≡ bytes_of ws ++ bytes_of_word w
bytes_more ws w = sym (flat_map_more bytes_of_word [] ws w)

pub length_bytes : (ws : List ℕ) → length (bytes_of ws) ≡ 4 * length ws
length_bytes [] = refl
length_bytes (w ∷ ws) = let e = length_bytes ws in omega arith

-- the word of four bytes
abbrev pub four : List ℕ → ℕ
four b = get_or b 0 0 * 16777216 + get_or b 1 0 * 65536 + get_or b 2 0 * 256 + get_or b 3 0

-- the words of bytes, by their groups of four
pub by_fours : (k : ℕ) (bs : List ℕ) → length bs ≡ 4 * k → map four (first_chunks 4 k bs) ≡ words_by_four bs
by_fours zero [] l = refl
by_fours zero (a ∷ bs) l = absurd (omega arith)
by_fours (suc k) [] l = absurd (omega arith)
by_fours (suc k) (a ∷ []) l = absurd (omega arith)
by_fours (suc k) (a ∷ b ∷ []) l = absurd (omega arith)
by_fours (suc k) (a ∷ b ∷ c ∷ []) l = absurd (omega arith)
by_fours (suc k) (a ∷ b ∷ c ∷ d ∷ bs) l = let r = by_fours k bs (omega arith) in cc

-- the bytes of the words of whole words
pub whole_again : (k : ℕ) (bs : List ℕ) → length bs ≡ 4 * k → AllByRecursion (λ b. b < 256) bs → bytes_of (words_by_four bs) ≡ bs
whole_again zero [] l h = refl
whole_again zero (a ∷ bs) l h = absurd (omega arith)
whole_again (suc k) [] l h = absurd (omega arith)
whole_again (suc k) (a ∷ []) l h = absurd (omega arith)
whole_again (suc k) (a ∷ b ∷ []) l h = absurd (omega arith)
whole_again (suc k) (a ∷ b ∷ c ∷ []) l h = absurd (omega arith)
whole_again (suc k) (a ∷ b ∷ c ∷ d ∷ bs) l h =
    let e = bytes_again a b c d h.0 h.1.0 h.1.1.0 h.1.1.1.0 in
    let r = whole_again k bs (omega arith) h.1.1.1.1 in
    ap (λ x. x ++ bytes_of (words_by_four bs)) e ∙ ap (λ x. a ∷ b ∷ c ∷ d ∷ x) r

pub read_words : (bs ws : List ℕ) → length bs % 4 < 1 → AllByRecursion (λ b. b < 256) bs → ws ≡ map four (first_chunks 4 (length bs / 4) bs) → (words_in bs ≡ Ok ws) × (bytes_of ws ≡ bs)
read_words bs ws m h e =
    let l : length bs ≡ 4 * (length bs / 4) = omega arith in
    let w = e ∙ by_fours (length bs / 4) bs l in
    let b = whole_again (length bs / 4) bs l h in
    (grind (arith, nat_tests, w), cc)

-- the bytes of words are whole words
pub whole : (ws : List ℕ) → words_in (bytes_of ws) ≡ Ok (words_by_four (bytes_of ws))
whole ws = let e = length_bytes ws in grind (arith, nat_tests)
