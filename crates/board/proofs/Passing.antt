-- A file is read exactly when it is a list of records that the rules let through, closed by its end.
use Rattle.std.proofs.Common.{◌≡◌, ℕ, zero, suc, ◌+◌, ◌≤◌, Bool, true, false, List, [], ◌∷◌, ◌++◌, length, Ok, Err, Result, sym, refl, ap, ◌∙◌, add-zero, arith}
use Rattle.std.specs.List.{flat_map}
use Rattle.std.proofs.lemmas.List.{append_assoc, append-nil, length-append}
use Rattle.std.proofs.lemmas.Bool.Decides.{nat_tests}
use Rattle.words.specs.declared.fault.Refusal.{Refusal}
use Rattle.words.specs.declared.kind.Kind.{Kind}
use Rattle.words.specs.declared.kind.Kind.TheVariants.{End}
use Rattle.words.specs.Kinds.{one_of}
use Rattle.words.specs.Records.{Said, machine, regions, task, channel, exec, transfer, end, opener, words_of, Small, Sayable, follows}
use Rattle.words.proofs.Taking.{taken_ok, taken_less, written_taken}
use Rattle.board.specs.Files.{is_end, closing, Rules, next, walk}
use Rattle.board.proofs.Walking.{Passed, next_ok, next_passed, walk_more, walk_end, walk_fault}

-- the rules let a record through at this place
pub record Lets {S : Type 0} (r : Rules S) (kinds : List Kind) (s : S) (place : ℕ) (x : Said) : Type 0 where
  pub allowed : one_of kinds (opener x) ≡ true
  pub sayable : Sayable place x
  pub checked : r.why s place x ≡ Ok tt
  pub more : is_end x ≡ false

-- and a list of records, from s to z
abbrev pub Passes : {S : Type 0} → Rules S → List Kind → S → ℕ → List Said → S → Type 0
Passes r kinds s place [] z = (one_of kinds End ≡ true) × (s ≡ z)
Passes r kinds s place (x ∷ xs) z = Lets r kinds s place x × Passes r (follows x) (r.then s x) (place + length (words_of x)) xs z

-- the words of the records from this place on, and the end
abbrev pub closed_at : ℕ → List Said → List ℕ
closed_at place xs = flat_map words_of xs ++ words_of (end (place + length (flat_map words_of xs)))

closed_more : (place : ℕ) (x : Said) (xs : List Said) → words_of x ++ closed_at (place + length (words_of x)) xs ≡ closed_at place (x ∷ xs)
closed_more place x xs =
    let e : place + length (words_of x) + length (flat_map words_of xs) ≡ place + length (words_of x ++ flat_map words_of xs) = omega (arith, length-append (words_of x) (flat_map words_of xs)) in
    ap (λ n. words_of x ++ (flat_map words_of xs ++ words_of (end n))) e ∙ sym (append_assoc (words_of x) (flat_map words_of xs) _)

-- ---- what was read
pub record Came {S : Type 0} (r : Rules S) (kinds : List Kind) (s : S) (place : ℕ) (ws : List ℕ) (z : S) : Type 0 where
  pub records : List Said
  pub passes : Passes r kinds s place records z
  pub written : ws ≡ closed_at place records

came_end : {S : Type 0} (r : Rules S) (kinds : List Kind) (s z : S) (place : ℕ) (ws rest : List ℕ) (x : Said) → is_end x ≡ true → Passed r kinds s place ws x rest → s ≡ z → Came r kinds s place ws z
came_end r kinds s z place ws rest (machine c t d pad) e p h = absurd (let q : ◌≡◌ {A = ℕ} 0 1 = grind arith in omega arith)
came_end r kinds s z place ws rest (regions at ns) e p h = absurd (let q : ◌≡◌ {A = ℕ} 0 1 = grind arith in omega arith)
came_end r kinds s z place ws rest (task limit local) e p h = absurd (let q : ◌≡◌ {A = ℕ} 0 1 = grind arith in omega arith)
came_end r kinds s z place ws rest (channel bytes pair) e p h = absurd (let q : ◌≡◌ {A = ℕ} 0 1 = grind arith in omega arith)
came_end r kinds s z place ws rest (exec start seat) e p h = absurd (let q : ◌≡◌ {A = ℕ} 0 1 = grind arith in omega arith)
came_end r kinds s z place ws rest (transfer start side) e p h = absurd (let q : ◌≡◌ {A = ℕ} 0 1 = grind arith in omega arith)
came_end r kinds s z place ws [] (end n) e p h =
    let t = taken_ok kinds place ws [] (end n) p.taken in
    let c = p.closed in
    let k : n ≡ place + 0 = grind (arith, nat_tests, c) in
    record { records = []; passes = (t.allowed, h); written = rw (← k) (t.written ∙ append-nil (words_of (end n))) }
came_end r kinds s z place ws (w ∷ rest) (end n) e p h =
    let t = taken_ok kinds place ws (w ∷ rest) (end n) p.taken in
    let c = p.closed in
    let l : length ws ≡ 1 = grind (arith, nat_tests, c) in
    let m = ap length t.written in
    absurd (omega arith)

abbrev Reading : {S : Type 0} → Rules S → List Kind → S → ℕ → List ℕ → S → Type 0
Reading r kinds s place ws z = walk r 0 kinds s place ws ≡ Ok z

came_by : {S : Type 0} (r : Rules S) (n : ℕ) → ((kinds : List Kind) (s : S) (place : ℕ) (ws : List ℕ) (z : S) → length ws ≤ n → Reading r kinds s place ws z → Came r kinds s place ws z) → (kinds : List Kind) (s : S) (place : ℕ) (ws rest : List ℕ) (z : S) (x : Said) (b : Bool) → is_end x ≡ b → length ws ≤ suc n → next r kinds s place ws ≡ Ok (x, rest) → Reading r kinds s place ws z → Came r kinds s place ws z
came_by r n go kinds s place ws rest z x true e l a h =
    let w = walk_end r kinds s place ws x rest a e in
    let same : s ≡ z = cc in
    came_end r kinds s z place ws rest x e (next_ok r kinds s place ws x rest a) same
came_by r n go kinds s place ws rest z x false e l a h =
    let p = next_ok r kinds s place ws x rest a in
    let t = taken_ok kinds place ws rest x p.taken in
    let w = walk_more r kinds s place ws x rest a e in
    let m = taken_less kinds place ws rest x p.taken in
    let i = go (follows x) (r.then s x) (place + length (words_of x)) rest z (omega arith) (sym w ∙ h) in
    record {
      records = x ∷ i.records;
      passes = (record { allowed = t.allowed; sayable = t.sayable; checked = p.checked; more = e }, i.passes);
      written = t.written ∙ ap (λ y. words_of x ++ y) i.written ∙ closed_more place x i.records;
    }

came_next : {S : Type 0} (r : Rules S) (n : ℕ) → ((kinds : List Kind) (s : S) (place : ℕ) (ws : List ℕ) (z : S) → length ws ≤ n → Reading r kinds s place ws z → Came r kinds s place ws z) → (kinds : List Kind) (s : S) (place : ℕ) (ws : List ℕ) (z : S) (y : Result (Said × List ℕ) Refusal) → length ws ≤ suc n → next r kinds s place ws ≡ y → Reading r kinds s place ws z → Came r kinds s place ws z
came_next r n go kinds s place ws z (Err e) l a h =
    let f = walk_fault r kinds s place ws e a in
    absurd (let q : ◌≡◌ {A = ℕ} 0 1 = cc in omega arith)
came_next r n go kinds s place ws z (Ok (x, rest)) l a h = came_by r n go kinds s place ws rest z x (is_end x) refl l a h

came_within : {S : Type 0} (r : Rules S) (n : ℕ) (kinds : List Kind) (s : S) (place : ℕ) (ws : List ℕ) (z : S) → length ws ≤ n → Reading r kinds s place ws z → Came r kinds s place ws z
came_within r zero kinds s place [] z l h = absurd (let q : ◌≡◌ {A = ℕ} 0 1 = cc in omega arith)
came_within r zero kinds s place (w ∷ ws) z l h = absurd (omega arith)
came_within r (suc n) kinds s place ws z l h = came_next r n (came_within r n) kinds s place ws z (next r kinds s place ws) l refl h

pub walk_came : {S : Type 0} (r : Rules S) (kinds : List Kind) (s : S) (place : ℕ) (ws : List ℕ) (z : S) → walk r 0 kinds s place ws ≡ Ok z → Came r kinds s place ws z
walk_came r kinds s place ws z h = came_within r (length ws) kinds s place ws z (omega arith) h

-- ---- what can be read
-- the rules ask nothing more of an end
abbrev pub EndsFreely : {S : Type 0} → Rules S → Type 0
EndsFreely {S} r = (s : S) (place n : ℕ) → r.why s place (end n) ≡ Ok tt

-- only an end has to close the file
pub unclosing : (place left : ℕ) (x : Said) → is_end x ≡ false → closing place left x ≡ Ok tt
unclosing place left (machine c t d s) e = refl
unclosing place left (regions at ns) e = refl
unclosing place left (task limit local) e = refl
unclosing place left (channel bytes pair) e = refl
unclosing place left (exec start seat) e = refl
unclosing place left (transfer start side) e = refl
unclosing place left (end n) e = cc

closes : (place : ℕ) → closing place 1 (end place) ≡ Ok tt
closes place = grind (arith, nat_tests)

pub passes_walk : {S : Type 0} (r : Rules S) → EndsFreely r → (kinds : List Kind) (s : S) (place : ℕ) (xs : List Said) (z : S) → Small (place + length (flat_map words_of xs)) → Passes r kinds s place xs z → walk r 0 kinds s place (closed_at place xs) ≡ Ok z
passes_walk r f kinds s place [] z l h =
    let k = add-zero place in
    let small : Small place = omega arith in
    let p : Passed r kinds s place (words_of (end place)) (end place) [] = record {
      taken = written_taken kinds place (end place) [] h.0 (small, tt, tt);
      closed = closes place;
      checked = f s place place;
    } in
    let w = walk_end r kinds s place (words_of (end place)) (end place) [] (next_passed r kinds s place (words_of (end place)) (end place) [] p) refl in
    rw k (w ∙ ap Ok h.1)
passes_walk r f kinds s place (x ∷ xs) z l h =
    let rest = closed_at (place + length (words_of x)) xs in
    let p : Passed r kinds s place (words_of x ++ rest) x rest = record {
      taken = written_taken kinds place x rest h.0.allowed h.0.sayable;
      closed = unclosing place (length (words_of x ++ rest)) x h.0.more;
      checked = h.0.checked;
    } in
    let n = next_passed r kinds s place (words_of x ++ rest) x rest p in
    let w = walk_more r kinds s place (words_of x ++ rest) x rest n h.0.more in
    let i = passes_walk r f (follows x) (r.then s x) (place + length (words_of x)) xs z (omega (arith, length-append (words_of x) (flat_map words_of xs))) h.1 in
    ap (walk r 0 kinds s place) (sym (closed_more place x xs)) ∙ w ∙ i
