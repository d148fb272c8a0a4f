-- Words written as text are read back. Assumes nothing.
use Rattle.std.proofs.Common.{◌≡◌, ℕ, ◌+◌, ◌*◌, ◌/◌, ◌%◌, ◌^◌, ◌<◌, false, eqb, ltb, List, [], ◌∷◌, ◌++◌, Some, Ok, refl, ap, ◌∙◌, arith}
use Rattle.std.proofs.lemmas.Nat.{div-add-mod'}
use Rattle.std.proofs.lemmas.Bool.{cond_both}
use Rattle.std.proofs.lemmas.Bool.Decides.{nat_tests}
use Rattle.std.specs.Option.{option_to_list}
use Rattle.std.specs.List.{AllByRecursion}
use Rattle.hex_text.specs.declared.State.TheVariants.{Between, Digits}
use Rattle.hex_text.specs.Scan.{digit, blank, step, run, word, shed, bad, told, digit_of, hex_of, ReadBack}

-- ---- a digit is read as what it stands for
digit_again : (d : ℕ) → d < 16 → digit (digit_of d) ≡ Some d
digit_again d h = cond_both (ltb d 10) (48 + d) (55 + d) (λ b. digit b ≡ Some d) (λ e. grind (arith, nat_tests)) (λ e. grind (arith, nat_tests))

no_blank : (d : ℕ) → d < 16 → blank (digit_of d) ≡ false
no_blank d h = cond_both (ltb d 10) (48 + d) (55 + d) (λ b. blank b ≡ false) (λ e. grind (arith, nat_tests)) (λ e. grind (arith, nat_tests))

no_hash : (d : ℕ) → d < 16 → eqb (digit_of d) 35 ≡ false
no_hash d h = cond_both (ltb d 10) (48 + d) (55 + d) (λ b. eqb b 35 ≡ false) (λ e. grind (arith, nat_tests)) (λ e. grind (arith, nat_tests))

step_first : (i d : ℕ) → d < 16 → step i Between (digit_of d) ≡ Digits (i, 1, 0 * 16 + d)
step_first i d h = let p = digit_again d h in let q = no_blank d h in let r = no_hash d h in grind arith

step_next : (i start count v d : ℕ) → count < 8 → d < 16 → step i (Digits (start, count, v)) (digit_of d) ≡ Digits (start, count + 1, v * 16 + d)
step_next i start count v d l h = let p = digit_again d h in let q = no_blank d h in let r = no_hash d h in grind (arith, nat_tests)

run_next : (i start count v d : ℕ) (bs : List ℕ) → count < 8 → d < 16 → run i (Digits (start, count, v)) (digit_of d ∷ bs) ≡ run (i + 1) (Digits (start, count + 1, v * 16 + d)) bs
run_next i start count v d bs l h = ap (λ s. run (i + 1) s bs) (step_next i start count v d l h)

shed_next : (i start count v d : ℕ) (bs : List ℕ) → count < 8 → d < 16 → shed i (Digits (start, count, v)) (digit_of d ∷ bs) ≡ option_to_list (word (Digits (start, count + 1, v * 16 + d))) ++ shed (i + 1) (Digits (start, count + 1, v * 16 + d)) bs
shed_next i start count v d bs l h = ap (λ s. option_to_list (word s) ++ shed (i + 1) s bs) (step_next i start count v d l h)

-- ---- a line is read as its word
pull : (n v : ℕ) → v ≡ n / 16 → v * 16 + n % 16 ≡ n
pull n v e = omega (arith, div-add-mod' n 16)

value_again : (w : ℕ) → w < 2 ^ 32 → (((((((0 * 16 + w / 268435456 % 16) * 16 + w / 16777216 % 16) * 16 + w / 1048576 % 16) * 16 + w / 65536 % 16) * 16 + w / 4096 % 16) * 16 + w / 256 % 16) * 16 + w / 16 % 16) * 16 + w % 16 ≡ w
value_again w h =
    let e1 : 0 * 16 + w / 268435456 % 16 ≡ w / 268435456 = omega arith in
    let q2 : w / 268435456 ≡ w / 16777216 / 16 = omega arith in
    let e2 : (0 * 16 + w / 268435456 % 16) * 16 + w / 16777216 % 16 ≡ w / 16777216 = pull (w / 16777216) (0 * 16 + w / 268435456 % 16) (e1 ∙ q2) in
    let q3 : w / 16777216 ≡ w / 1048576 / 16 = omega arith in
    let e3 : ((0 * 16 + w / 268435456 % 16) * 16 + w / 16777216 % 16) * 16 + w / 1048576 % 16 ≡ w / 1048576 = pull (w / 1048576) ((0 * 16 + w / 268435456 % 16) * 16 + w / 16777216 % 16) (e2 ∙ q3) in
    let q4 : w / 1048576 ≡ w / 65536 / 16 = omega arith in
    let e4 : (((0 * 16 + w / 268435456 % 16) * 16 + w / 16777216 % 16) * 16 + w / 1048576 % 16) * 16 + w / 65536 % 16 ≡ w / 65536 = pull (w / 65536) (((0 * 16 + w / 268435456 % 16) * 16 + w / 16777216 % 16) * 16 + w / 1048576 % 16) (e3 ∙ q4) in
    let q5 : w / 65536 ≡ w / 4096 / 16 = omega arith in
    let e5 : ((((0 * 16 + w / 268435456 % 16) * 16 + w / 16777216 % 16) * 16 + w / 1048576 % 16) * 16 + w / 65536 % 16) * 16 + w / 4096 % 16 ≡ w / 4096 = pull (w / 4096) ((((0 * 16 + w / 268435456 % 16) * 16 + w / 16777216 % 16) * 16 + w / 1048576 % 16) * 16 + w / 65536 % 16) (e4 ∙ q5) in
    let q6 : w / 4096 ≡ w / 256 / 16 = omega arith in
    let e6 : (((((0 * 16 + w / 268435456 % 16) * 16 + w / 16777216 % 16) * 16 + w / 1048576 % 16) * 16 + w / 65536 % 16) * 16 + w / 4096 % 16) * 16 + w / 256 % 16 ≡ w / 256 = pull (w / 256) (((((0 * 16 + w / 268435456 % 16) * 16 + w / 16777216 % 16) * 16 + w / 1048576 % 16) * 16 + w / 65536 % 16) * 16 + w / 4096 % 16) (e5 ∙ q6) in
    let q7 : w / 256 ≡ w / 16 / 16 = omega arith in
    let e7 : ((((((0 * 16 + w / 268435456 % 16) * 16 + w / 16777216 % 16) * 16 + w / 1048576 % 16) * 16 + w / 65536 % 16) * 16 + w / 4096 % 16) * 16 + w / 256 % 16) * 16 + w / 16 % 16 ≡ w / 16 = pull (w / 16) ((((((0 * 16 + w / 268435456 % 16) * 16 + w / 16777216 % 16) * 16 + w / 1048576 % 16) * 16 + w / 65536 % 16) * 16 + w / 4096 % 16) * 16 + w / 256 % 16) (e6 ∙ q7) in
    let q8 : w / 16 ≡ w / 16 = omega arith in
    let e8 : (((((((0 * 16 + w / 268435456 % 16) * 16 + w / 16777216 % 16) * 16 + w / 1048576 % 16) * 16 + w / 65536 % 16) * 16 + w / 4096 % 16) * 16 + w / 256 % 16) * 16 + w / 16 % 16) * 16 + w % 16 ≡ w = pull (w) (((((((0 * 16 + w / 268435456 % 16) * 16 + w / 16777216 % 16) * 16 + w / 1048576 % 16) * 16 + w / 65536 % 16) * 16 + w / 4096 % 16) * 16 + w / 256 % 16) * 16 + w / 16 % 16) (e7 ∙ q8) in
    e8

run_line : (i d0 d1 d2 d3 d4 d5 d6 d7 : ℕ) (bs : List ℕ) → d0 < 16 → d1 < 16 → d2 < 16 → d3 < 16 → d4 < 16 → d5 < 16 → d6 < 16 → d7 < 16 → run i Between (digit_of d0 ∷ digit_of d1 ∷ digit_of d2 ∷ digit_of d3 ∷ digit_of d4 ∷ digit_of d5 ∷ digit_of d6 ∷ digit_of d7 ∷ 10 ∷ bs) ≡ run (i + 1 + 1 + 1 + 1 + 1 + 1 + 1 + 1 + 1) Between bs
run_line i d0 d1 d2 d3 d4 d5 d6 d7 bs h0 h1 h2 h3 h4 h5 h6 h7 =
    ap (λ s. run (i + 1) s (digit_of d1 ∷ digit_of d2 ∷ digit_of d3 ∷ digit_of d4 ∷ digit_of d5 ∷ digit_of d6 ∷ digit_of d7 ∷ 10 ∷ bs)) (step_first i d0 h0)
    ∙ run_next (i + 1) i 1 (0 * 16 + d0) d1 (digit_of d2 ∷ digit_of d3 ∷ digit_of d4 ∷ digit_of d5 ∷ digit_of d6 ∷ digit_of d7 ∷ 10 ∷ bs) (omega arith) h1
    ∙ run_next (i + 1 + 1) i 2 ((0 * 16 + d0) * 16 + d1) d2 (digit_of d3 ∷ digit_of d4 ∷ digit_of d5 ∷ digit_of d6 ∷ digit_of d7 ∷ 10 ∷ bs) (omega arith) h2
    ∙ run_next (i + 1 + 1 + 1) i 3 (((0 * 16 + d0) * 16 + d1) * 16 + d2) d3 (digit_of d4 ∷ digit_of d5 ∷ digit_of d6 ∷ digit_of d7 ∷ 10 ∷ bs) (omega arith) h3
    ∙ run_next (i + 1 + 1 + 1 + 1) i 4 ((((0 * 16 + d0) * 16 + d1) * 16 + d2) * 16 + d3) d4 (digit_of d5 ∷ digit_of d6 ∷ digit_of d7 ∷ 10 ∷ bs) (omega arith) h4
    ∙ run_next (i + 1 + 1 + 1 + 1 + 1) i 5 (((((0 * 16 + d0) * 16 + d1) * 16 + d2) * 16 + d3) * 16 + d4) d5 (digit_of d6 ∷ digit_of d7 ∷ 10 ∷ bs) (omega arith) h5
    ∙ run_next (i + 1 + 1 + 1 + 1 + 1 + 1) i 6 ((((((0 * 16 + d0) * 16 + d1) * 16 + d2) * 16 + d3) * 16 + d4) * 16 + d5) d6 (digit_of d7 ∷ 10 ∷ bs) (omega arith) h6
    ∙ run_next (i + 1 + 1 + 1 + 1 + 1 + 1 + 1) i 7 (((((((0 * 16 + d0) * 16 + d1) * 16 + d2) * 16 + d3) * 16 + d4) * 16 + d5) * 16 + d6) d7 (10 ∷ bs) (omega arith) h7

shed_line : (i d0 d1 d2 d3 d4 d5 d6 d7 : ℕ) (bs : List ℕ) → d0 < 16 → d1 < 16 → d2 < 16 → d3 < 16 → d4 < 16 → d5 < 16 → d6 < 16 → d7 < 16 → shed i Between (digit_of d0 ∷ digit_of d1 ∷ digit_of d2 ∷ digit_of d3 ∷ digit_of d4 ∷ digit_of d5 ∷ digit_of d6 ∷ digit_of d7 ∷ 10 ∷ bs) ≡ ((((((((0 * 16 + d0) * 16 + d1) * 16 + d2) * 16 + d3) * 16 + d4) * 16 + d5) * 16 + d6) * 16 + d7) ∷ shed (i + 1 + 1 + 1 + 1 + 1 + 1 + 1 + 1 + 1) Between bs
shed_line i d0 d1 d2 d3 d4 d5 d6 d7 bs h0 h1 h2 h3 h4 h5 h6 h7 =
    ap (λ s. option_to_list (word s) ++ shed (i + 1) s (digit_of d1 ∷ digit_of d2 ∷ digit_of d3 ∷ digit_of d4 ∷ digit_of d5 ∷ digit_of d6 ∷ digit_of d7 ∷ 10 ∷ bs)) (step_first i d0 h0)
    ∙ shed_next (i + 1) i 1 (0 * 16 + d0) d1 (digit_of d2 ∷ digit_of d3 ∷ digit_of d4 ∷ digit_of d5 ∷ digit_of d6 ∷ digit_of d7 ∷ 10 ∷ bs) (omega arith) h1
    ∙ shed_next (i + 1 + 1) i 2 ((0 * 16 + d0) * 16 + d1) d2 (digit_of d3 ∷ digit_of d4 ∷ digit_of d5 ∷ digit_of d6 ∷ digit_of d7 ∷ 10 ∷ bs) (omega arith) h2
    ∙ shed_next (i + 1 + 1 + 1) i 3 (((0 * 16 + d0) * 16 + d1) * 16 + d2) d3 (digit_of d4 ∷ digit_of d5 ∷ digit_of d6 ∷ digit_of d7 ∷ 10 ∷ bs) (omega arith) h3
    ∙ shed_next (i + 1 + 1 + 1 + 1) i 4 ((((0 * 16 + d0) * 16 + d1) * 16 + d2) * 16 + d3) d4 (digit_of d5 ∷ digit_of d6 ∷ digit_of d7 ∷ 10 ∷ bs) (omega arith) h4
    ∙ shed_next (i + 1 + 1 + 1 + 1 + 1) i 5 (((((0 * 16 + d0) * 16 + d1) * 16 + d2) * 16 + d3) * 16 + d4) d5 (digit_of d6 ∷ digit_of d7 ∷ 10 ∷ bs) (omega arith) h5
    ∙ shed_next (i + 1 + 1 + 1 + 1 + 1 + 1) i 6 ((((((0 * 16 + d0) * 16 + d1) * 16 + d2) * 16 + d3) * 16 + d4) * 16 + d5) d6 (digit_of d7 ∷ 10 ∷ bs) (omega arith) h6
    ∙ shed_next (i + 1 + 1 + 1 + 1 + 1 + 1 + 1) i 7 (((((((0 * 16 + d0) * 16 + d1) * 16 + d2) * 16 + d3) * 16 + d4) * 16 + d5) * 16 + d6) d7 (10 ∷ bs) (omega arith) h7

-- ---- and so are all lines
run_back : (ws : List ℕ) (i : ℕ) → run i Between (hex_of ws) ≡ Between
run_back [] i = refl
run_back (w ∷ ws) i = run_line i (w / 268435456 % 16) (w / 16777216 % 16) (w / 1048576 % 16) (w / 65536 % 16) (w / 4096 % 16) (w / 256 % 16) (w / 16 % 16) (w % 16) (hex_of ws) (omega arith) (omega arith) (omega arith) (omega arith) (omega arith) (omega arith) (omega arith) (omega arith) ∙ run_back ws (i + 1 + 1 + 1 + 1 + 1 + 1 + 1 + 1 + 1)

shed_back : (ws : List ℕ) (i : ℕ) → AllByRecursion (λ w. w < 2 ^ 32) ws → shed i Between (hex_of ws) ≡ ws
shed_back [] i h = refl
shed_back (w ∷ ws) i h =
    let e = shed_line i (w / 268435456 % 16) (w / 16777216 % 16) (w / 1048576 % 16) (w / 65536 % 16) (w / 4096 % 16) (w / 256 % 16) (w / 16 % 16) (w % 16) (hex_of ws) (omega arith) (omega arith) (omega arith) (omega arith) (omega arith) (omega arith) (omega arith) (omega arith) in
    let v = value_again w h.0 in
    let r = shed_back ws (i + 1 + 1 + 1 + 1 + 1 + 1 + 1 + 1 + 1) h.1 in
    e ∙ ap (λ x. x ∷ shed (i + 1 + 1 + 1 + 1 + 1 + 1 + 1 + 1 + 1) Between (hex_of ws)) v ∙ ap (λ xs. w ∷ xs) r

pub read_back : ReadBack
read_back ws h = ap (λ s. told (hex_of ws) (bad s)) (run_back ws 0) ∙ ap Ok (shed_back ws 0 h)
