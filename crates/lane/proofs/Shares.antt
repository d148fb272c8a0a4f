-- The cycles that one claim has alone, counted stretch by stretch.
use Rattle.std.proofs.Common.{◌≡◌, ℕ, ◌+◌, ◌-◌, ◌<◌, ◌≤◌, max, Bool, ◌&&◌, leb, List, ◌++◌, map, length, get_or, take, drop, sym, ap, ◌∙◌, arith, length-drop, take_all}
use Rattle.std.proofs.lemmas.List.{get_or-map, get_or_past, take-map, drop-map}
use Rattle.std.proofs.lemmas.Bool.{le-leb, lt-leb, and_left}
use Rattle.lane.specs.Claims.{Claimed, no_claim, untaken, others, counted, alone_count}
use Rattle.lane.proofs.Counts.{counted_since, counted_same}

pub alone_past : (ss : List Claimed) (p from : ℕ) → length ss ≤ p → alone_count ss p from ≡ 0
unfolding counted
alone_past ss p from h = ap (λ (s : Claimed). counted (λ c. leb from c && untaken (others ss p) s.resource c) s.first s.length) (get_or_past ss p no_claim h)

-- The cycles of the claimed s at p, counted from the first that is not before `from`.
pub alone_within : (ss : List Claimed) (p from : ℕ) (s : Claimed) → get_or ss p no_claim ≡ s
    → counted (untaken (others ss p) s.resource) (max s.first from) (s.first + s.length - max s.first from) ≡ alone_count ss p from
alone_within ss p from s e =
    let test : ℕ → Bool = λ c. leb from c && untaken (others ss p) s.resource c in
    let start = max s.first from in
    counted_same (untaken (others ss p) s.resource) test start (s.first + s.length - start) (λ c l h. ap (λ b. b && untaken (others ss p) s.resource c) (sym (le-leb from c (omega arith))))
    ∙ sym (counted_since test s.first s.length from (λ c h. and_left _ _ (lt-leb from c h)))
    ∙ ap (λ (s : Claimed). counted (λ c. leb from c && untaken (others ss p) s.resource c) s.first s.length) (sym e)

-- .. from the claims before it and after it
pub alone_between : {C : Type 0} (claimed : C → Claimed) (xs : List C) (p from : ℕ) (x : C) → p < length xs → x ≡ get_or xs p x
    → (r start end : ℕ) → r ≡ (claimed x).resource → start ≡ max (claimed x).first from → end ≡ (claimed x).first + (claimed x).length
    → counted (untaken (map claimed (take p xs) ++ map claimed (take (length xs - (p + 1)) (drop (p + 1) xs))) r) start (end - start) ≡ alone_count (map claimed xs) p from
alone_between claimed xs p from x within read r start end re se ee =
    let here = get_or-map claimed xs p x no_claim within ∙ ap claimed (sym read) in
    let all = take_all (length xs - (p + 1)) (drop (p + 1) xs) (simp length-drop (omega arith)) in
    rw (re, se, ee, all, ← take-map, ← drop-map) (alone_within (map claimed xs) p from (claimed x) here)
