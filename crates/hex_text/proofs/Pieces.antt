-- A text in pieces is read piece by piece. Assumes nothing.
use Rattle.std.proofs.Common.{◌≡◌, ℕ, ◌+◌, ◌*◌, ◌<◌, ◌≤◌, true, false, eqb, List, [], ◌∷◌, ◌++◌, length, is_some, Some, None, Ok, Err, Option, sym, refl, ap, ◌∙◌, inl, inr, add-zero, arith}
use Rattle.std.proofs.lemmas.List.{append_assoc, take_at}
use Rattle.std.proofs.lemmas.Bool.{cases_lt, cond-true, cond-false, eq-eqb, ne_eqb, or_left}
use Rattle.std.proofs.lemmas.Bool.Decides.{nat_tests}
use Rattle.std.specs.Option.{option_to_list}
use Rattle.std.specs.List.{flat_map, AllByRecursion}
use Rattle.hex_text.specs.declared.State.{State}
use Rattle.hex_text.specs.declared.State.TheVariants.{Between, Comment, Digits, Bad}
use Rattle.hex_text.specs.Scan.{digit, blank, grown, opened, step, run, shed, bad, told, spot}
use Rattle.hex_text.specs.Scan as hex
use Rattle.hex_text.specs.Pieces.{on_some, value, token, Gap, space, note, Piece, gap, word, gap_text, piece_text, piece_words, GoodGap, Good, Last, Remark, ends, Closed, PiecesRead, TokenRefused}

-- ---- a text in two parts
run_append : (xs ys : List ℕ) (i : ℕ) (s : State) → run i s (xs ++ ys) ≡ run (i + length xs) (run i s xs) ys
run_append [] ys i s = ap (λ n. run n s ys) (sym (add-zero i))
run_append (x ∷ xs) ys i s =
    let e : i + 1 + length xs ≡ i + length (x ∷ xs) = omega arith in
    run_append xs ys (i + 1) (step i s x) ∙ ap (λ n. run n (run (i + 1) (step i s x) xs) ys) e

shed_append : (xs ys : List ℕ) (i : ℕ) (s : State) → shed i s (xs ++ ys) ≡ shed i s xs ++ shed (i + length xs) (run i s xs) ys
shed_append [] ys i s = ap (λ n. shed n s ys) (sym (add-zero i))
shed_append (x ∷ xs) ys i s =
    let e : i + 1 + length xs ≡ i + length (x ∷ xs) = omega arith in
    let out : List ℕ = option_to_list (hex.word (step i s x)) in
    let r = shed_append xs ys (i + 1) (step i s x) in
    ap (λ r. out ++ r) (r ∙ ap (λ n. shed (i + 1) (step i s x) xs ++ shed n (run (i + 1) (step i s x) xs) ys) e)
    ∙ sym (append_assoc out (shed (i + 1) (step i s x) xs) (shed (i + length (x ∷ xs)) (run (i + 1) (step i s x) xs) ys))

-- ---- a comment
run_note : (bs : List ℕ) (i : ℕ) → AllByRecursion (λ b. eqb b 10 ≡ false) bs → (run i Comment (bs ++ 10 ∷ []) ≡ Between) × (shed i Comment (bs ++ 10 ∷ []) ≡ [])
run_note [] i h = (refl, refl)
run_note (b ∷ bs) i h =
    let e = cond-false (eqb b 10) Between Comment h.0 in
    let r = run_note bs (i + 1) h.1 in (
      ap (λ s. run (i + 1) s (bs ++ 10 ∷ [])) e ∙ r.0,
      ap (λ s. option_to_list (hex.word s) ++ shed (i + 1) s (bs ++ 10 ∷ [])) e ∙ r.1,
    )

-- ---- a token
digit_inside : (b d : ℕ) → digit b ≡ Some d → ends b ≡ false
digit_inside b d h = grind (arith, nat_tests)

first_step : (i b : ℕ) → ends b ≡ false → step i Between b ≡ step i (Digits (i, 0, 0)) b
first_step i b h = grind (arith, nat_tests)

step_digit : (i start count v b d : ℕ) → digit b ≡ Some d → count < 8 → step i (Digits (start, count, v)) b ≡ Digits (start, count + 1, v * 16 + d)
step_digit i start count v b d h l = let e = digit_inside b d h in grind (arith, nat_tests)

step_none : (i start count v b : ℕ) → digit b ≡ None → ends b ≡ false → step i (Digits (start, count, v)) b ≡ Bad start
step_none i start count v b h e = grind (arith, nat_tests)

step_full : (i start count v b d : ℕ) → digit b ≡ Some d → 8 ≤ count → step i (Digits (start, count, v)) b ≡ Bad start
step_full i start count v b d h l = let e = digit_inside b d h in grind (arith, nat_tests)

-- what follows a word is read as if none were before it
step_ends : (i start v b : ℕ) → ends b ≡ true → step i (Digits (start, 8, v)) b ≡ opened i b
step_ends i start v b h = cond-true (ends b) (opened i b) (grown start 8 v b) h

-- eight digits, after some of them
run_token : (bs : List ℕ) (i start count v w : ℕ) → value v bs ≡ Some w → count + length bs ≡ 8 → run i (Digits (start, count, v)) bs ≡ Digits (start, 8, w)
run_token [] i start count v w h l = let e : count ≡ 8 = omega arith in cc
run_token (b ∷ bs) i start count v w h l =
    let f : ℕ → Option ℕ = λ d. value (v * 16 + d) bs in
    elim (digit b) as (λ o. digit b ≡ o → run i (Digits (start, count, v)) (b ∷ bs) ≡ Digits (start, 8, w)) [
      | None ↦ λ e. let no : ◌≡◌ {A = ℕ} 0 1 = let n = sym (ap (λ o. on_some o f) e) ∙ h in cc in absurd (let z : ⊥ = omega arith in z)
      | Some d ↦ λ e.
          let s = step_digit i start count v b d e (omega arith) in
          let n : f d ≡ Some w = sym (ap (λ o. on_some o f) e) ∙ h in
          ap (λ s. run (i + 1) s bs) s ∙ run_token bs (i + 1) start (count + 1) (v * 16 + d) w n (omega arith)
    ] refl

shed_token : (bs : List ℕ) (i start count v w : ℕ) → value v bs ≡ Some w → count + length bs ≡ 8 → option_to_list (hex.word (Digits (start, count, v))) ++ shed i (Digits (start, count, v)) bs ≡ w ∷ []
shed_token [] i start count v w h l = let e : count ≡ 8 = omega arith in rw e (let q : v ≡ w = cc in ap (λ x. x ∷ []) q)
shed_token (b ∷ bs) i start count v w h l =
    let f : ℕ → Option ℕ = λ d. value (v * 16 + d) bs in
    let out : hex.word (Digits (start, count, v)) ≡ None = grind (arith, nat_tests) in
    ap (λ o. option_to_list o ++ shed i (Digits (start, count, v)) (b ∷ bs)) out ∙
    elim (digit b) as (λ o. digit b ≡ o → shed i (Digits (start, count, v)) (b ∷ bs) ≡ w ∷ []) [
      | None ↦ λ e. let no : ◌≡◌ {A = ℕ} 0 1 = let n = sym (ap (λ o. on_some o f) e) ∙ h in cc in absurd (let z : ⊥ = omega arith in z)
      | Some d ↦ λ e.
          let s = step_digit i start count v b d e (omega arith) in
          let n : f d ≡ Some w = sym (ap (λ o. on_some o f) e) ∙ h in
          ap (λ s. option_to_list (hex.word s) ++ shed (i + 1) s bs) s ∙ shed_token bs (i + 1) start (count + 1) (v * 16 + d) w n (omega arith)
    ] refl

some_of : (o : Option ℕ) → is_some o ≡ true → (w : ℕ) × (o ≡ Some w)
some_of None h = let no : ◌≡◌ {A = ℕ} 0 1 = cc in absurd (let z : ⊥ = omega arith in z)
some_of (Some w) h = (w, refl)

token_parts : (bs : List ℕ) (w : ℕ) → token bs ≡ Some w → (length bs ≡ 8) × (value 0 bs ≡ Some w)
token_parts bs w h = (grind (arith, nat_tests), grind (arith, nat_tests))

value_first : (b : ℕ) (bs : List ℕ) (v w : ℕ) → value v (b ∷ bs) ≡ Some w → ends b ≡ false
value_first b bs v w h =
    let f : ℕ → Option ℕ = λ d. value (v * 16 + d) bs in
    elim (digit b) as (λ o. digit b ≡ o → ends b ≡ false) [
      | None ↦ λ e. let no : ◌≡◌ {A = ℕ} 0 1 = let n = sym (ap (λ o. on_some o f) e) ∙ h in cc in absurd (let z : ⊥ = omega arith in z)
      | Some d ↦ λ e. digit_inside b d e
    ] refl

run_word : (bs : List ℕ) (i w : ℕ) → token bs ≡ Some w → (run i Between bs ≡ Digits (i, 8, w)) × (shed i Between bs ≡ w ∷ [])
run_word [] i w h = let no : ◌≡◌ {A = ℕ} 0 1 = cc in absurd (let z : ⊥ = omega arith in z)
run_word (b ∷ bs) i w h =
    let t = token_parts (b ∷ bs) w h in
    let s = first_step i b (value_first b bs 0 w t.1) in (
      ap (λ s. run (i + 1) s bs) s ∙ run_token (b ∷ bs) i i 0 0 w t.1 (omega arith),
      ap (λ s. option_to_list (hex.word s) ++ shed (i + 1) s bs) s ∙ shed_token (b ∷ bs) i i 0 0 w t.1 (omega arith),
    )

-- ---- a gap, alone and behind a word
run_gap : (g : Gap) (i : ℕ) → GoodGap g → (run i Between (gap_text g) ≡ Between) × (shed i Between (gap_text g) ≡ [])
run_gap (space b) i h =
    let e : opened i b ≡ Between = cond-true (blank b) Between _ h in
    (e, ap (λ s. option_to_list (hex.word s) ++ []) e)
run_gap (note bs) i h = run_note bs (i + 1) h

run_behind : (g : Gap) (i start w : ℕ) → GoodGap g → (run i (Digits (start, 8, w)) (gap_text g) ≡ Between) × (shed i (Digits (start, 8, w)) (gap_text g) ≡ [])
run_behind (space b) i start w h =
    let s = step_ends i start w b (or_left (blank b) (eqb b 35) h) in
    let r = run_gap (space b) i h in
    (s ∙ r.0, ap (λ s. option_to_list (hex.word s) ++ []) s ∙ r.1)
run_behind (note bs) i start w h = run_note bs (i + 1) h

-- ---- a piece, and all pieces
run_piece : (p : Piece) (i : ℕ) → Good p → (run i Between (piece_text p) ≡ Between) × (shed i Between (piece_text p) ≡ piece_words p)
run_piece (gap g) i h = run_gap g i h
run_piece (word bs g) i h =
    let t = some_of (token bs) h.0 in
    let w = t.0 in
    let r = run_word bs i w t.1 in
    let j = i + length bs in
    let c = run_behind g j i w h.1 in (
      run_append bs (gap_text g) i Between ∙ ap (λ s. run j s (gap_text g)) r.0 ∙ c.0,
      shed_append bs (gap_text g) i Between ∙ ap (λ s. shed i Between bs ++ shed j s (gap_text g)) r.0
          ∙ ap (λ xs. xs ++ shed j (Digits (i, 8, w)) (gap_text g)) r.1 ∙ ap (λ xs. w ∷ xs) c.1 ∙ sym (ap option_to_list t.1),
    )

run_pieces : (ps : List Piece) (i : ℕ) → AllByRecursion Good ps → (run i Between (flat_map piece_text ps) ≡ Between) × (shed i Between (flat_map piece_text ps) ≡ flat_map piece_words ps)
run_pieces [] i h = (refl, refl)
run_pieces (p ∷ ps) i h =
    let one = run_piece p i h.0 in
    let j = i + length (piece_text p) in
    let more = run_pieces ps j h.1 in
    let rest = flat_map piece_text ps in (
      run_append (piece_text p) rest i Between ∙ ap (λ s. run j s rest) one.0 ∙ more.0,
      shed_append (piece_text p) rest i Between ∙ ap (λ s. shed i Between (piece_text p) ++ shed j s rest) one.0
          ∙ ap (λ xs. xs ++ shed j Between rest) one.1 ∙ ap (λ xs. piece_words p ++ xs) more.1,
    )

-- ---- the end of a text
run_remark : (bs : List ℕ) (i : ℕ) → AllByRecursion (λ b. eqb b 10 ≡ false) bs → (run i Comment bs ≡ Comment) × (shed i Comment bs ≡ [])
run_remark [] i h = (refl, refl)
run_remark (b ∷ bs) i h =
    let e = cond-false (eqb b 10) Between Comment h.0 in
    let r = run_remark bs (i + 1) h.1 in
    (ap (λ s. run (i + 1) s bs) e ∙ r.0, ap (λ s. option_to_list (hex.word s) ++ shed (i + 1) s bs) e ∙ r.1)

-- behind a word or nothing
rest_between : (rest : List ℕ) (i : ℕ) → Remark rest → (bad (run i Between rest) ≡ None) × (shed i Between rest ≡ [])
rest_between [] i h = (refl, refl)
rest_between (b ∷ bs) i h =
    let r = run_remark bs (i + 1) h.1 in
    rw h.0 (ap bad r.0, r.1)

rest_word : (rest : List ℕ) (i start w : ℕ) → Remark rest → (bad (run i (Digits (start, 8, w)) rest) ≡ None) × (shed i (Digits (start, 8, w)) rest ≡ [])
rest_word [] i start w h = (refl, refl)
rest_word (b ∷ bs) i start w h =
    let r = run_remark bs (i + 1) h.1 in
    rw h.0 (ap bad r.0, r.1)

run_last : (last rest : List ℕ) (i : ℕ) → Last last → Remark rest → (bad (run i Between (last ++ rest)) ≡ None) × (shed i Between (last ++ rest) ≡ option_to_list (token last))
run_last [] rest i l h = rest_between rest i h
run_last (b ∷ bs) rest i l h =
    let last : List ℕ = b ∷ bs in
    let t = some_of (token last) l in
    let w = t.0 in
    let r = run_word last i w t.1 in
    let j = i + length last in
    let c = rest_word rest j i w h in (
      ap bad (run_append last rest i Between ∙ ap (λ s. run j s rest) r.0) ∙ c.0,
      shed_append last rest i Between ∙ ap (λ s. shed i Between last ++ shed j s rest) r.0
          ∙ ap (λ xs. xs ++ shed j (Digits (i, 8, w)) rest) r.1 ∙ ap (λ xs. w ∷ xs) c.1 ∙ sym (ap option_to_list t.1),
    )

pub pieces_read : PiecesRead
pieces_read ps last remark h l m =
    let text = flat_map piece_text ps in
    let tail : List ℕ = last ++ remark in
    let n : ℕ = 0 + length text in
    let r = run_pieces ps 0 h in
    let e = run_last last remark n l m in
    let fine = ap bad (run_append text tail 0 Between ∙ ap (λ s. run n s tail) r.0) ∙ e.0 in
    let words = shed_append text tail 0 Between ∙ ap (λ s. shed 0 Between text ++ shed n s tail) r.0
    ∙ ap (λ xs. xs ++ shed n Between tail) r.1 ∙ ap (λ xs. flat_map piece_words ps ++ xs) e.1 in
    ap (told (text ++ tail)) fine ∙ ap Ok words

-- ---- a token that is no word
run_bad : (bs : List ℕ) (i start : ℕ) → run i (Bad start) bs ≡ Bad start
run_bad [] i start = refl
run_bad (b ∷ bs) i start = run_bad bs (i + 1) start

stuck : (bs : List ℕ) (i start count v : ℕ) → AllByRecursion (λ x. ends x ≡ false) bs → count ≤ 8 → ((w : ℕ) → value v bs ≡ Some w → count + length bs ≡ 8 → ⊥) → bad (run i (Digits (start, count, v)) bs) ≡ Some start
stuck [] i start count v h l n = cond-false (eqb count 8) None (Some start) (ne_eqb count 8 (λ e. n v refl (omega arith)))
stuck (b ∷ bs) i start count v h l n =
    let f : ℕ → Option ℕ = λ d. value (v * 16 + d) bs in
    elim (digit b) as (λ o. digit b ≡ o → bad (run i (Digits (start, count, v)) (b ∷ bs)) ≡ Some start) [
      | None ↦ λ e. ap (λ s. bad (run (i + 1) s bs)) (step_none i start count v b e h.0) ∙ ap bad (run_bad bs (i + 1) start)
      | Some d ↦ λ e.
          elim (cases_lt count 8) [
            | inl lt ↦ ap (λ s. bad (run (i + 1) s bs)) (step_digit i start count v b d e lt)
                ∙ stuck bs (i + 1) start (count + 1) (v * 16 + d) h.1 (omega arith) (λ w hv hl. n w (ap (λ o. on_some o f) e ∙ hv) (omega arith))
            | inr ge ↦ ap (λ s. bad (run (i + 1) s bs)) (step_full i start count v b d e ge) ∙ ap bad (run_bad bs (i + 1) start)
          ]
    ] refl

closed : (rest : List ℕ) (j start : ℕ) (s : State) → bad s ≡ Some start → Closed rest → bad (run j s rest) ≡ Some start
closed [] j start s h c = h
closed (b ∷ bs) j start Between h c = let no : ◌≡◌ {A = ℕ} 0 1 = cc in absurd (let z : ⊥ = omega arith in z)
closed (b ∷ bs) j start Comment h c = let no : ◌≡◌ {A = ℕ} 0 1 = cc in absurd (let z : ⊥ = omega arith in z)
closed (b ∷ bs) j start (Digits (first, count, v)) h c =
    let e : step j (Digits (first, count, v)) b ≡ Bad start = grind (arith, nat_tests) in
    ap (λ s. bad (run (j + 1) s bs)) e ∙ ap bad (run_bad bs (j + 1) start)
closed (b ∷ bs) j start (Bad first) h c = ap bad (run_bad bs (j + 1) first) ∙ h

no_token : (bs : List ℕ) → token bs ≡ None → (w : ℕ) → value 0 bs ≡ Some w → 0 + length bs ≡ 8 → ⊥
no_token bs h w hv hl =
    let t = cond-true (eqb (length bs) 8) (value 0 bs) None (eq-eqb (length bs) 8 (omega arith)) in
    let no : ◌≡◌ {A = ℕ} 0 1 = cc in
    omega arith

pub token_refused : TokenRefused
token_refused ps b bs rest good inside none c =
    let text = flat_map piece_text ps in
    let n : ℕ = 0 + length text in
    let tail : List ℕ = (b ∷ bs) ++ rest in
    let before = run_append text tail 0 Between ∙ ap (λ s. run n s tail) (run_pieces ps 0 good).0 in
    let behind = run_append (b ∷ bs) rest n Between in
    let first = ap (λ s. run (n + 1) s bs) (first_step n b inside.0) in
    let s = ap bad first ∙ stuck (b ∷ bs) n n 0 0 inside (omega arith) (no_token (b ∷ bs) none) in
    let found = ap bad (before ∙ behind) ∙ closed rest (n + length (b ∷ bs)) n (run n Between (b ∷ bs)) s c in
    ap (told (text ++ tail)) found ∙ ap (λ front. Err (spot 1 1 front)) (take_at text tail n (omega arith))
