-- The states of a reader of text. Assumes nothing.
use Rattle.std.proofs.Common.{◌≡◌, ℕ, suc, ◌+◌, ◌^◌, ◌<◌, ◌≤◌, ◌&&◌, ◌||◌, Bool, true, false, not, reverse, cond, eqb, ltb, leb, List, [], ◌∷◌, ◌++◌, length, get_or, take, drop, IfSome, Some, None, Option, sym, refl, ap, ◌∙◌, subst, arith}
use native.Mathlib.Nat.{pow-le-pow_right}
use Rattle.std.proofs.lemmas.List.{append_assoc, at_drop_more, length-take-le}
use Rattle.std.proofs.lemmas.Bool.{cond_both}
use Rattle.std.proofs.lemmas.Bool.Decides.{nat_tests}
use Rattle.std.specs.Option.{option_to_list}
use Rattle.std.proofs.lemmas.List.{reverse-append, length-reverse}
use Rattle.std.proofs.lemmas.List.Folds.{prefix_len-append}
use Rattle.std.proofs.lemmas.List.Sums.{prefix_len-le-length, sum_by-append}
use Rattle.std.specs.List.{prefix_len, count_by, fold, enumerate_from}
use Rattle.hex_text.specs.declared.State.{State}
use Rattle.hex_text.specs.declared.State.TheVariants.{Between, Comment, Digits, Bad}
use Rattle.hex_text.specs.Scan.{digit, blank, grown_by, opened, step, run, word, shed, bad, spot}

pub digit_below : (b : ℕ) → IfSome (digit b) (λ d. d < 16)
digit_below b =
    let P : Option ℕ → Type 0 = λ o. IfSome o (λ d. d < 16) in
    cond_both (leb 48 b && leb b 57) _ _ P (λ e. grind (arith, nat_tests)) (λ _.
    cond_both (leb 65 b && leb b 70) _ _ P (λ e. grind (arith, nat_tests)) (λ _.
    cond_both (leb 97 b && leb b 102) _ _ P (λ e. grind (arith, nat_tests)) (λ _. tt)))

pub digit_at : (b d : ℕ) → Some d ≡ digit b → d < 16
digit_at b d e = let P : Option ℕ → Type 0 = λ o. IfSome o (λ d. d < 16) in subst P (sym e) (digit_below b)

-- one more digit fits
pub room : (count value : ℕ) → count < 8 → value < 16 ^ count → value < 268435456
room count value c h =
    let few : count ≤ 7 = omega arith in
    let p : 16 ^ count ≤ 16 ^ 7 = pow-le-pow_right (omega arith) few in
    omega arith

-- what a state may be after i bytes: a token begins before them
abbrev pub Sound : ℕ → State → Type 0
Sound i Between = Unit {0}
Sound i Comment = Unit {0}
Sound i (Digits (start, count, value)) = start < i
Sound i (Bad start) = start < i

grown_by_sound : (j start count value : ℕ) (o : Option ℕ) → start < j → Sound j (grown_by start count value o)
grown_by_sound j start count value None l = l
grown_by_sound j start count value (Some d) l = cond_both (ltb count 8) _ _ (Sound j) (λ _. l) (λ _. l)

opened_sound : (i b : ℕ) → Sound (i + 1) (opened i b)
opened_sound i b =
    cond_both (blank b) _ _ (Sound (i + 1)) (λ _. tt) (λ _.
    cond_both (eqb b 35) _ _ (Sound (i + 1)) (λ _. tt) (λ _. grown_by_sound (i + 1) i 0 0 (digit b) (omega arith)))

step_sound : (i : ℕ) (s : State) (b : ℕ) → Sound i s → Sound (i + 1) (step i s b)
step_sound i Between b h = opened_sound i b
step_sound i Comment b h = cond_both (eqb b 10) _ _ (Sound (i + 1)) (λ _. tt) (λ _. tt)
step_sound i (Digits (start, count, value)) b h =
    let l : start < i + 1 = omega arith in
    cond_both (blank b || eqb b 35) _ _ (Sound (i + 1))
    (λ _. cond_both (eqb count 8) _ _ (Sound (i + 1)) (λ _. opened_sound i b) (λ _. l))
    (λ _. grown_by_sound (i + 1) start count value (digit b) l)
step_sound i (Bad start) b h = omega arith

run_sound : (i : ℕ) (s : State) (bs : List ℕ) → Sound i s → Sound (i + length bs) (run i s bs)
run_sound i s [] h = subst (λ (n : ℕ). Sound n s) (omega arith) h
run_sound i s (b ∷ bs) h =
    let r = run_sound (i + 1) (step i s b) bs (step_sound i s b h) in
    let e : i + 1 + length bs ≡ i + length (b ∷ bs) = omega arith in
    subst (λ (n : ℕ). Sound n (run (i + 1) (step i s b) bs)) e r

bad_sound : (n : ℕ) (s : State) (start : ℕ) → Sound n s → Some start ≡ bad s → start < n
bad_sound n Between start h e = let no : ◌≡◌ {A = ℕ} 0 1 = cc in omega arith
bad_sound n Comment start h e = let no : ◌≡◌ {A = ℕ} 0 1 = cc in omega arith
bad_sound n (Digits (first, count, value)) start h e = grind (arith, nat_tests)
bad_sound n (Bad first) start h e = grind arith

-- a token that is no word begins in the text
bad_inside : (text : List ℕ) (start : ℕ) → Some start ≡ bad (run 0 Between text) → start < length text
bad_inside text start e = let h = bad_sound (0 + length text) (run 0 Between text) start (run_sound 0 Between text tt) e in omega arith

pub front_length : (text : List ℕ) (start : ℕ) → Some start ≡ bad (run 0 Between text) → length (take start text) ≡ start
front_length text start e = let l = bad_inside text start e in length-take-le start text (omega arith)

-- ---- the loops over the text
pub run_fold : (i : ℕ) (s : State) (bs : List ℕ) → fold (λ s p. step p.0 s p.1) s (enumerate_from i bs) ≡ run i s bs
run_fold i s [] = refl
run_fold i s (b ∷ bs) = run_fold (i + 1) (step i s b) bs

pub shed_turn : (text ws vs : List ℕ) (i : ℕ) (s t : State) → i < length text → t ≡ step i s (get_or text i 0) → vs ≡ ws ++ option_to_list (word t)
    → shed 0 Between text ≡ ws ++ shed i s (drop i text) → shed 0 Between text ≡ vs ++ shed (i + 1) t (drop (i + 1) text)
shed_turn text ws vs i s t l e p h =
    let b : ℕ = get_or text i 0 in
    let n : shed i s (drop i text) ≡ option_to_list (word (step i s b)) ++ shed (i + 1) (step i s b) (drop (i + 1) text) = at_drop_more (shed i s) text i 0 l in
    let q : shed 0 Between text ≡ ws ++ (option_to_list (word t) ++ shed (i + 1) t (drop (i + 1) text)) = rw e (h ∙ ap (λ r. ws ++ r) n) in
    rw (p, append_assoc) q

-- ---- the line and the column behind some bytes
-- how many bytes stand behind the last line feed
abbrev pub behind : List ℕ → ℕ
behind bs = prefix_len (λ b. not (eqb b 10)) (reverse bs)

behind_more : (b : ℕ) (bs : List ℕ) → behind (b ∷ bs) ≡ cond (eqb (behind bs) (length bs)) (length bs + cond (eqb b 10) 0 1) (behind bs)
behind_more b bs =
    let p : ℕ → Bool = λ b. not (eqb b 10) in
    let r = reverse-append (b ∷ []) bs in
    let a = prefix_len-append p (reverse bs) (b ∷ []) in
    let l = length-reverse bs in
    grind (arith, nat_tests, r, a, l)

next : (line column n m k j len : ℕ) (feed : Bool) (x y : ℕ × ℕ) → k ≤ len → m ≡ 0 + cond feed 1 0 + n → j ≡ cond (eqb k len) (len + cond feed 0 1) k → x ≡ (line + 1 + n, cond (eqb k len) (1 + k) (1 + k)) → y ≡ (line + n, cond (eqb k len) (column + 1 + k) (1 + k))
    → cond feed x y ≡ (line + m, cond (eqb j (suc len)) (column + j) (1 + j))
next line column n m k j len true x y l c e p q = grind (arith, nat_tests, l, c, e, p)
next line column n m k j len false x y l c e p q = grind (arith, nat_tests, l, c, e, q)

spot_is : (line column : ℕ) (bs : List ℕ) → spot line column bs ≡ (line + count_by (λ b. eqb b 10) bs, cond (eqb (behind bs) (length bs)) (column + behind bs) (1 + behind bs))
spot_is line column [] = grind arith
spot_is line column (b ∷ bs) =
    let n = spot_is (line + 1) 1 bs in
    let s = spot_is line (column + 1) bs in
    let h = prefix_len-le-length (λ b. not (eqb b 10)) (reverse bs) in
    let l : behind bs ≤ length bs = let r = length-reverse bs in omega arith in
    let c = sum_by-append (λ b. cond (eqb b 10) 1 0) (b ∷ []) bs in
    next line column (count_by (λ b. eqb b 10) bs) (count_by (λ b. eqb b 10) (b ∷ bs)) (behind bs) (behind (b ∷ bs)) (length bs) (eqb b 10) (spot (line + 1) 1 bs) (spot line (column + 1) bs) l c (behind_more b bs) n s

pub spot_at : (front : List ℕ) (line column : ℕ) → line ≡ count_by (λ b. eqb b 10) front → column ≡ behind front → ◌≡◌ {A = ℕ × ℕ} (1 + line, 1 + column) (spot 1 1 front)
spot_at front line column l e = let s = spot_is 1 1 front in grind (arith, nat_tests, s, l, e)
