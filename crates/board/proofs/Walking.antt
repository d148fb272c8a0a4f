-- How reading goes on from record to record.
use Rattle.std.proofs.Common.{◌≡◌, ℕ, suc, ◌+◌, Bool, true, false, List, [], ◌∷◌, ◌++◌, length, Ok, Err, Result, refl, ap, ◌∙◌, arith}
use Rattle.words.specs.declared.fault.Fault.{Fault}
use Rattle.words.specs.declared.fault.Refusal.{Refusal}
use Rattle.words.specs.declared.kind.Kind.{Kind}
use Rattle.words.specs.Records.{Said, fields_of, words_of, and_then, record_at, follows}
use Rattle.words.proofs.Taking.{taken_ok}
use Rattle.board.specs.Files.{Checked, ◌also◌, is_end, closing, Rules, told, next, walk}

-- a record that is next was taken and checked
pub record Passed {S : Type 0} (r : Rules S) (kinds : List Kind) (s : S) (place : ℕ) (ws : List ℕ) (x : Said) (rest : List ℕ) : Type 0 where
  pub taken : record_at kinds place ws ≡ Ok (x, rest)
  pub closed : closing place (length ws) x ≡ Ok tt
  pub checked : r.why s place x ≡ Ok tt

pub also_ok : (a b : Checked) → (a also b) ≡ Ok tt → (a ≡ Ok tt) × (b ≡ Ok tt)
also_ok (Ok tt) b h = (refl, h)
also_ok (Err e) b h = absurd (let z : ◌≡◌ {A = ℕ} 0 1 = grind arith in omega arith)

next_checked : {S : Type 0} (r : Rules S) (kinds : List Kind) (s : S) (place : ℕ) (ws : List ℕ) (x y : Said) (rest rest' : List ℕ) (c : Checked) → record_at kinds place ws ≡ Ok (y, rest') → (closing place (length ws) y also r.why s place y) ≡ c → ◌≡◌ {A = Result (Said × List ℕ) Refusal} (and_then c (λ _. Ok (y, rest'))) (Ok (x, rest)) → Passed r kinds s place ws x rest
next_checked r kinds s place ws x y rest rest' (Err e) a b h = absurd (let z : ◌≡◌ {A = ℕ} 0 1 = grind arith in omega arith)
next_checked r kinds s place ws x y rest rest' (Ok tt) a b h =
    let e : y ≡ x = grind arith in
    let f : rest' ≡ rest = grind arith in
    let k = also_ok (closing place (length ws) y) (r.why s place y) b in
    record { taken = rw (← e, ← f) a; closed = rw (← e) k.0; checked = rw (← e) k.1 }

next_taken : {S : Type 0} (r : Rules S) (kinds : List Kind) (s : S) (place : ℕ) (ws : List ℕ) (x : Said) (rest : List ℕ) (y : Result (Said × List ℕ) Fault) → record_at kinds place ws ≡ y → and_then (told y) (λ z. and_then (closing place (length ws) z.0 also r.why s place z.0) (λ _. Ok z)) ≡ Ok (x, rest) → Passed r kinds s place ws x rest
next_taken r kinds s place ws x rest (Err e) a h = absurd (let z : ◌≡◌ {A = ℕ} 0 1 = grind arith in omega arith)
next_taken r kinds s place ws x rest (Ok (y, rest')) a h = next_checked r kinds s place ws x y rest rest' _ a refl h

pub next_ok : {S : Type 0} (r : Rules S) (kinds : List Kind) (s : S) (place : ℕ) (ws : List ℕ) (x : Said) (rest : List ℕ) → next r kinds s place ws ≡ Ok (x, rest) → Passed r kinds s place ws x rest
next_ok r kinds s place ws x rest h = next_taken r kinds s place ws x rest (record_at kinds place ws) refl h

pub next_passed : {S : Type 0} (r : Rules S) (kinds : List Kind) (s : S) (place : ℕ) (ws : List ℕ) (x : Said) (rest : List ℕ) → Passed r kinds s place ws x rest → next r kinds s place ws ≡ Ok (x, rest)
next_passed r kinds s place ws x rest p = rw p.taken (rw p.closed (rw p.checked refl))

-- words that are passed over
pass : {S : Type 0} (r : Rules S) (kinds : List Kind) (s : S) (place : ℕ) (f rest : List ℕ) → walk r (length f) kinds s place (f ++ rest) ≡ walk r 0 kinds s (place + length f) rest
pass r kinds s place [] rest = let e : place ≡ place + 0 = omega arith in ap (λ q. walk r 0 kinds s q rest) e
pass r kinds s place (w ∷ f) rest =
    let e : place + 1 + length f ≡ place + suc (length f) = omega arith in
    pass r kinds s (place + 1) f rest ∙ ap (λ q. walk r 0 kinds s q rest) e

-- one step of the walk, by what is next
abbrev unless_end : {S : Type 0} → Rules S → S → ℕ → List ℕ → Said → Bool → Result S Refusal
unless_end r s place ws x true = Ok s
unless_end r s place ws x false = walk r (length (fields_of x)) (follows x) (r.then s x) (place + 1) ws

abbrev stepped : {S : Type 0} → Rules S → S → ℕ → List ℕ → Result (Said × List ℕ) Refusal → Result S Refusal
stepped r s place ws y =
    and_then y (λ x. elim (is_end x.0) [
      | true ↦ Ok s
      | false ↦ walk r (length (fields_of x.0)) (follows x.0) (r.then s x.0) (place + 1) ws
    ])

-- one record more
pub walk_more : {S : Type 0} (r : Rules S) (kinds : List Kind) (s : S) (place : ℕ) (ws : List ℕ) (x : Said) (rest : List ℕ) → next r kinds s place ws ≡ Ok (x, rest) → is_end x ≡ false → walk r 0 kinds s place ws ≡ walk r 0 (follows x) (r.then s x) (place + length (words_of x)) rest
walk_more r kinds s place [] x rest h e = absurd (let z : ◌≡◌ {A = ℕ} 0 1 = grind arith in omega arith)
walk_more {S} r kinds s place (w ∷ ws) x rest h e =
    let t = taken_ok kinds place (w ∷ ws) rest x (next_ok r kinds s place (w ∷ ws) x rest h).taken in
    let u : ws ≡ fields_of x ++ rest = grind arith in
    let v : place + 1 + length (fields_of x) ≡ place + length (words_of x) = omega arith in
    let f = pass r (follows x) (r.then s x) (place + 1) (fields_of x) rest ∙ ap (λ q. walk r 0 (follows x) (r.then s x) q rest) v in
    ap (stepped r s place ws) h ∙ ap (λ b. unless_end r s place ws x b) e ∙ rw u f

-- the end
pub walk_end : {S : Type 0} (r : Rules S) (kinds : List Kind) (s : S) (place : ℕ) (ws : List ℕ) (x : Said) (rest : List ℕ) → next r kinds s place ws ≡ Ok (x, rest) → is_end x ≡ true → walk r 0 kinds s place ws ≡ Ok s
walk_end r kinds s place [] x rest h e = absurd (let z : ◌≡◌ {A = ℕ} 0 1 = grind arith in omega arith)
walk_end r kinds s place (w ∷ ws) x rest h e = ap (stepped r s place ws) h ∙ ap (λ b. unless_end r s place ws x b) e

-- a refusal
pub walk_fault : {S : Type 0} (r : Rules S) (kinds : List Kind) (s : S) (place : ℕ) (ws : List ℕ) (f : Refusal) → next r kinds s place ws ≡ Err f → walk r 0 kinds s place ws ≡ Err f
walk_fault r kinds s place [] f h = grind arith
walk_fault r kinds s place (w ∷ ws) f h = ap (stepped r s place ws) h
