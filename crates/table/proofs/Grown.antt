-- Two numbers more of a row, which is one channel more.
use Rattle.std.proofs.Common.{◌≡◌, ℕ, ◌+◌, ◌*◌, [], ◌∷◌, ◌++◌, map, replicate, sym, ap, ◌∙◌, ap₂, arith}
use Rattle.std.specs.List.{range_with_len}
use Rattle.std.proofs.lemmas.List.FromFn.{map-range_with_len_more}
use Rattle.std.proofs.lemmas.List.{append_assoc, replicate_more}

pub two_more : {X : Type 0} (f : ℕ → X) (i : ℕ) (x : X) → f (2 * i) ≡ x → f (2 * i + 1) ≡ x → map f (range_with_len 0 (2 * i)) ++ x ∷ (x ∷ []) ≡ map f (range_with_len 0 (2 * (i + 1)))
two_more f i x a b =
    let n : 2 * i + 1 + 1 ≡ 2 * (i + 1) = omega arith in
    ap₂ (λ y z. map f (range_with_len 0 (2 * i)) ++ y ∷ (z ∷ [])) (sym a) (sym b)
    ∙ sym (append_assoc (map f (range_with_len 0 (2 * i))) (f (2 * i) ∷ []) (f (2 * i + 1) ∷ []))
    ∙ ap (λ xs. xs ++ f (2 * i + 1) ∷ []) (sym (map-range_with_len_more f 0 (2 * i) (2 * i) (omega arith)))
    ∙ sym (map-range_with_len_more f 0 (2 * i + 1) (2 * i + 1) (omega arith))
    ∙ ap (λ k. map f (range_with_len 0 k)) n

pub two_same : {X : Type 0} (i : ℕ) (x : X) → replicate (2 * i) x ++ x ∷ (x ∷ []) ≡ replicate (2 * (i + 1)) x
two_same i x =
    let n : 2 * i + 1 + 1 ≡ 2 * (i + 1) = omega arith in
    sym (append_assoc (replicate (2 * i) x) (x ∷ []) (x ∷ []))
    ∙ ap (λ xs. xs ++ x ∷ []) (replicate_more (2 * i) x)
    ∙ replicate_more (2 * i + 1) x
    ∙ ap (λ k. replicate k x) n
