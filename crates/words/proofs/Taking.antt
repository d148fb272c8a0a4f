-- What is taken off a row of words is what was written, and what is written can be taken.
use Rattle.std.proofs.Common.{◌≡◌, ℕ, zero, suc, ◌+◌, ◌/◌, ◌%◌, ◌<◌, ◌≤◌, true, leb, List, [], ◌∷◌, ◌++◌, length, get_or, take, drop, Some, None, Ok, Err, Option, Result, sym, refl, ap, ◌∙◌, arith}
use Rattle.std.specs.Option.{option_map}
use denote.Enum.Bare.{sameb}
use denote.Enum.Declared.{tag_of}
use Rattle.std.specs.List.{AllByRecursion, list_any, position, position_from}
use Rattle.std.proofs.lemmas.Nat.{div-add-mod', mod_below, div-mul-add, mod-mul-add}
use Rattle.std.proofs.lemmas.List.{length-append, length-take-le, take-append-drop, take_at, drop_at}
use Rattle.std.proofs.lemmas.Iterator.Adapters.{position_from-zero}
use Rattle.std.proofs.lemmas.Bool.Decides.{nat_tests}
use Rattle.words.specs.declared.fault.Fault.{Fault}
use Rattle.words.specs.declared.fault.Fault.TheVariants.{Misplaced}
use Rattle.words.specs.declared.kind.Kind.{Kind}
use Rattle.words.specs.declared.kind.Kind.TheVariants.{Machine, Regions, Task, Channel, Exec, Transfer, End}
use Rattle.words.specs.declared.kind.Opening.{Opening}
use Rattle.words.specs.contracts.kind.Kind.{the_type}
use Rattle.words.specs.Kinds.{code, kind_of, word, opening_of, one_of}
use Rattle.words.specs.Records.{Said, machine, regions, task, channel, exec, transfer, end, opener, words_of, Small, Sayable, and_then, opens, width, width_by, plain, following, saying, saying_by, filled, record_at}

-- ---- the plain words of a record
pub plain_ok : (place : ℕ) (ws : List ℕ) → plain place ws ≡ Ok tt → AllByRecursion Small ws
plain_ok place [] h = tt
plain_ok place (w ∷ ws) h = (grind (arith, nat_tests), plain_ok (place + 1) ws (grind (arith, nat_tests)))

pub plain_small : (place : ℕ) (ws : List ℕ) → AllByRecursion Small ws → plain place ws ≡ Ok tt
plain_small place [] h = refl
plain_small place (w ∷ ws) h = let r = plain_small (place + 1) ws h.1 in let l = h.0 in grind (arith, nat_tests, r, l)

pub record Follows (n : ℕ) (ws f rest : List ℕ) : Type 0 where
  pub long : length f ≡ n
  pub parts : ws ≡ f ++ rest
  pub small : AllByRecursion Small f

pub following_ok : (n place : ℕ) (ws f rest : List ℕ) → following n place ws ≡ Ok (f, rest) → Follows n ws f rest
following_ok n place ws f rest h =
    let p : plain place (take n ws) ≡ Ok tt = grind (arith, nat_tests) in
    let a : f ≡ take n ws = grind (arith, nat_tests) in
    let b : rest ≡ drop n ws = grind (arith, nat_tests) in
    let l : n ≤ length ws = grind (arith, nat_tests) in
    record {
      long = rw a (length-take-le n ws l);
      parts = rw (a, b) (sym (take-append-drop n ws));
      small = rw a (plain_ok place (take n ws) p);
    }

pub following_written : (n place : ℕ) (f rest : List ℕ) → length f ≡ n → AllByRecursion Small f → following n place (f ++ rest) ≡ Ok (f, rest)
following_written n place f rest l h =
    let t = take_at f rest n l in
    let d = drop_at f rest n l in
    let e = length-append f rest in
    let p = plain_small place f h in
    let le : leb n (length (f ++ rest)) ≡ true = grind (arith, nat_tests, e, l) in
    rw (le, t, d, p) refl

-- what is told of plain words from a place on, where the first that is not plain is known
abbrev pub plain_to : ℕ → Option ℕ → Result (Unit {0}) Fault
plain_to at None = Ok tt
plain_to at (Some i) = Err (Misplaced (at + i))

-- whether every word is plain, by the first that is not
pub plain_by : (i at : ℕ) (ws : List ℕ) → plain (at + i) ws ≡ plain_to at (position_from (λ w. leb 536870912 w) i ws)
plain_by i at [] = refl
plain_by i at (w ∷ ws) =
    let r = plain_by (i + 1) at ws in
    let e : at + i + 1 ≡ at + (i + 1) = omega arith in
    grind (arith, nat_tests, r, e)

pub plain_position : (at : ℕ) (ws : List ℕ) (o : Option ℕ) → o ≡ position (λ w. leb 536870912 w) ws → plain at ws ≡ plain_to at o
plain_position at ws o h = let e = plain_by 0 at ws in let z = position_from-zero (λ w. leb 536870912 w) ws in let n : at + 0 ≡ at = omega arith in cc

-- words that are there are taken, as far as they are plain
pub following_to : (n at : ℕ) (ws f rest : List ℕ) (o : Option ℕ) → n ≤ length ws → f ≡ take n ws → rest ≡ drop n ws → o ≡ position (λ w. leb 536870912 w) f → following n at ws ≡ and_then (plain_to at o) (λ _. Ok (f, rest))
following_to n at ws f rest o l a b h =
    let p = plain_position at f o h in
    let le : leb n (length ws) ≡ true = grind (arith, nat_tests) in
    rw (le, ← a, ← b, p) refl

-- ---- its opening word
-- the kinds of a list hold a kind, by the library's test or by their numbers
pub code_tag : (x : Kind) → code x ≡ tag_of the_type x + 1
code_tag Machine = refl
code_tag Regions = refl
code_tag Task = refl
code_tag Channel = refl
code_tag Exec = refl
code_tag Transfer = refl
code_tag End = refl

pub holds_one_of : (k : Kind) (kinds : List Kind) → list_any (λ x. sameb the_type x k) kinds ≡ one_of kinds k
holds_one_of k [] = refl
holds_one_of k (x ∷ kinds) =
    let a = code_tag x in
    let b = code_tag k in
    let r = holds_one_of k kinds in
    grind (arith, nat_tests, a, b, r)

pub kind_code : (k : ℕ) (x : Kind) → kind_of k ≡ Some x → code x ≡ k
kind_code k x h = grind (arith, nat_tests)

pub code_kind : (x : Kind) → kind_of (code x) ≡ Some x
code_kind Machine = refl
code_kind Regions = refl
code_kind Task = refl
code_kind Channel = refl
code_kind Exec = refl
code_kind Transfer = refl
code_kind End = refl

opening_by : (w : ℕ) (o : Opening) (y : Option Kind) → kind_of (w / 536870912) ≡ y → option_map (λ k. record { kind = k; number = w % 536870912 }) y ≡ Some o → (word o.kind o.number ≡ w) × Small o.number
opening_by w o None e h = (grind arith, grind arith)
opening_by w o (Some k) e h =
    let x : o.kind ≡ k = grind arith in
    let n : o.number ≡ w % 536870912 = grind arith in
    let c = kind_code (w / 536870912) k e in
    let d = div-add-mod' w 536870912 in
    (rw (x, n, c) d, rw n (mod_below w 536870912 (omega arith)))

pub opening_ok : (w : ℕ) (o : Opening) → opening_of w ≡ Some o → (word o.kind o.number ≡ w) × Small o.number
opening_ok w o h = opening_by w o (kind_of (w / 536870912)) refl h

pub opening_written : (k : Kind) (n : ℕ) → Small n → opening_of (word k n) ≡ Some (record { kind = k; number = n })
opening_written k n l = rw (div-mul-add (code k) 536870912 n l, mod-mul-add (code k) 536870912 n l, code_kind k) refl

-- ---- the whole record
one_field : (f : List ℕ) → length f ≡ 1 → get_or f 0 0 ∷ [] ≡ f
one_field [] h = absurd (omega arith)
one_field (a ∷ []) h = refl
one_field (a ∷ b ∷ f) h = absurd (omega arith)

three_fields : (f : List ℕ) → length f ≡ 3 → get_or f 0 0 ∷ get_or f 1 0 ∷ get_or f 2 0 ∷ [] ≡ f
three_fields [] h = absurd (omega arith)
three_fields (a ∷ []) h = absurd (omega arith)
three_fields (a ∷ b ∷ []) h = absurd (omega arith)
three_fields (a ∷ b ∷ c ∷ []) h = refl
three_fields (a ∷ b ∷ c ∷ d ∷ f) h = absurd (omega arith)

-- what an opening word and its plain words say is written so again
pub saying_words : (k : Kind) (n place : ℕ) (f : List ℕ) → length f ≡ width_by k n → words_of (saying_by k n place f) ≡ word k n ∷ f
saying_words Machine n place f h = ap (λ g. word Machine n ∷ g) (three_fields f h)
saying_words Regions n place f h = rw h refl
saying_words Task n place f h = ap (λ g. word Task n ∷ g) (one_field f h)
saying_words Channel n place f h = ap (λ g. word Channel n ∷ g) (one_field f h)
saying_words Exec n place f h = ap (λ g. word Exec n ∷ g) (one_field f h)
saying_words Transfer n place f h = ap (λ g. word Transfer n ∷ g) (one_field f h)
saying_words End n place [] h = refl
saying_words End n place (a ∷ f) h = absurd (omega arith)

pub saying_opener : (k : Kind) (n place : ℕ) (f : List ℕ) → opener (saying_by k n place f) ≡ k
saying_opener Machine n place f = refl
saying_opener Regions n place f = refl
saying_opener Task n place f = refl
saying_opener Channel n place f = refl
saying_opener Exec n place f = refl
saying_opener Transfer n place f = refl
saying_opener End n place f = refl

field_small : (f : List ℕ) (k : ℕ) → AllByRecursion Small f → Small (get_or f k 0)
field_small [] k h = omega arith
field_small (x ∷ f) zero h = h.0
field_small (x ∷ f) (suc k) h = field_small f k h.1

pub saying_sayable : (k : Kind) (n place : ℕ) (f : List ℕ) → length f ≡ width_by k n → Small n → AllByRecursion Small f → Sayable place (saying_by k n (place + 1) f)
saying_sayable Machine n place f h l s = (l, (field_small f 0 s, (field_small f 1 s, (field_small f 2 s, tt))), tt)
saying_sayable Regions n place f h l s = (rw h l, s, refl)
saying_sayable Task n place f h l s = (l, (field_small f 0 s, tt), tt)
saying_sayable Channel n place f h l s = (l, (field_small f 0 s, tt), tt)
saying_sayable Exec n place f h l s = (l, (field_small f 0 s, tt), tt)
saying_sayable Transfer n place f h l s = (l, (field_small f 0 s, tt), tt)
saying_sayable End n place f h l s = (l, tt, tt)

-- a record that was taken
pub record Taken (kinds : List Kind) (place : ℕ) (ws : List ℕ) (x : Said) (rest : List ℕ) : Type 0 where
  pub allowed : one_of kinds (opener x) ≡ true
  pub sayable : Sayable place x
  pub written : ws ≡ words_of x ++ rest

abbrev Taking : Type 0
Taking = Result (Said × List ℕ) Fault

taken_fields : (kinds : List Kind) (place w : ℕ) (ws rest : List ℕ) (o : Opening) (x : Said) (y : Result (List ℕ × List ℕ) Fault) → opening_of w ≡ Some o → one_of kinds o.kind ≡ true → following (width o) (place + 1) ws ≡ y → ◌≡◌ {A = Taking} (and_then y (λ f. Ok (saying o (place + 1) f.0, f.1))) (Ok (x, rest)) → Taken kinds place (w ∷ ws) x rest
taken_fields kinds place w ws rest o x (Err e) q a b h = absurd (let z : ◌≡◌ {A = ℕ} 0 1 = grind arith in omega arith)
taken_fields kinds place w ws rest o x (Ok (f, r)) q a b h =
    let g = following_ok (width o) (place + 1) ws f r b in
    let n = opening_ok w o q in
    let e : x ≡ saying o (place + 1) f = grind arith in
    let t : rest ≡ r = grind arith in
    let u = saying_words o.kind o.number (place + 1) f g.long in
    record {
      allowed = rw (e, saying_opener o.kind o.number (place + 1) f) a;
      sayable = rw e (saying_sayable o.kind o.number place f g.long n.1 g.small);
      written = rw (e, t) (rw g.parts (ap (λ v. v ∷ (f ++ r)) (sym n.0)) ∙ ap (λ l. l ++ r) (sym u));
    }

taken_opening : (kinds : List Kind) (place w : ℕ) (ws rest : List ℕ) (x : Said) (y : Option Opening) → opening_of w ≡ y → ◌≡◌ {A = Taking} (and_then (opens kinds place ws y) (λ o. filled o.0 place o.1)) (Ok (x, rest)) → Taken kinds place (w ∷ ws) x rest
taken_opening kinds place w ws rest x None q h = absurd (let z : ◌≡◌ {A = ℕ} 0 1 = grind arith in omega arith)
taken_opening kinds place w ws rest x (Some o) q h =
    let a : one_of kinds o.kind ≡ true = grind arith in
    taken_fields kinds place w ws rest o x (following (width o) (place + 1) ws) q a refl (rw a at h)

pub taken_ok : (kinds : List Kind) (place : ℕ) (ws rest : List ℕ) (x : Said) → record_at kinds place ws ≡ Ok (x, rest) → Taken kinds place ws x rest
taken_ok kinds place [] rest x h = absurd (let z : ◌≡◌ {A = ℕ} 0 1 = grind arith in omega arith)
taken_ok kinds place (w ∷ ws) rest x h = taken_opening kinds place w ws rest x (opening_of w) refl h

-- how many words are left
pub taken_shorter : (kinds : List Kind) (place : ℕ) (ws rest : List ℕ) (x : Said) → record_at kinds place ws ≡ Ok (x, rest) → length (words_of x) + length rest ≡ length ws
taken_shorter kinds place ws rest x h = let t = taken_ok kinds place ws rest x h in sym (ap length t.written ∙ length-append (words_of x) rest)

-- a record has a word at least
pub taken_less : (kinds : List Kind) (place : ℕ) (ws rest : List ℕ) (x : Said) → record_at kinds place ws ≡ Ok (x, rest) → length rest < length ws
taken_less kinds place ws rest x h = let a = taken_shorter kinds place ws rest x h in omega arith

-- ---- the other way
written_by : (kinds : List Kind) (place : ℕ) (k : Kind) (n : ℕ) (f rest : List ℕ) → one_of kinds k ≡ true → Small n → length f ≡ width_by k n → AllByRecursion Small f → record_at kinds place ((word k n ∷ f) ++ rest) ≡ Ok (saying_by k n (place + 1) f, rest)
written_by kinds place k n f rest a l h s =
    rw (opening_written k n l) (rw a (rw (following_written (width_by k n) (place + 1) f rest h s) refl))

-- a record that can be said is taken as it is written
pub written_taken : (kinds : List Kind) (place : ℕ) (x : Said) (rest : List ℕ) → one_of kinds (opener x) ≡ true → Sayable place x → record_at kinds place (words_of x ++ rest) ≡ Ok (x, rest)
written_taken kinds place (machine c t d s) rest a h = written_by kinds place Machine c (t ∷ d ∷ s ∷ []) rest a h.0 refl h.1
written_taken kinds place (regions q ns) rest a h = rw h.2 (written_by kinds place Regions (length ns) ns rest a h.0 refl h.1)
written_taken kinds place (task limit local) rest a h = written_by kinds place Task limit (local ∷ []) rest a h.0 refl h.1
written_taken kinds place (channel bytes pair) rest a h = written_by kinds place Channel bytes (pair ∷ []) rest a h.0 refl h.1
written_taken kinds place (exec start seat) rest a h = written_by kinds place Exec start (seat ∷ []) rest a h.0 refl h.1
written_taken kinds place (transfer start side) rest a h = written_by kinds place Transfer start (side ∷ []) rest a h.0 refl h.1
written_taken kinds place (end count) rest a h = written_by kinds place End count [] rest a h.0 refl h.1
