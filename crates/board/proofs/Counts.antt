-- Claims of which every cycle is clear.
use Rattle.std.proofs.Common.{◌≡◌, ℕ, zero, suc, ◌+◌, ◌-◌, ◌<◌, ◌≤◌, max, Bool, true, false, cond, ◌&&◌, ◌||◌, eqb, ltb, leb, ◌≢◌, ◌⊎◌, List, length, take, drop, Decides, sym, refl, ap, ◌∙◌, subst, inl, inr, arith, length-drop, length-take}
use Rattle.std.specs.List.{HoldsAt}
use Rattle.std.proofs.lemmas.List.{get_or-take, get_or-drop, get_or_default}
use Rattle.std.proofs.lemmas.Bool.{and_parts, and_from, cases_eq, cases_lt, eqb-true, leb-true, ltb-true}
use Rattle.std.proofs.lemmas.Bool.Decides.{Decides-at, Decides-like, Decides-not, Decides-or, Decides-by_or}
use Rattle.lane.specs.Claims.{Claimed, no_claim, claim_at, has, taken, others, sole, counted}
use Rattle.lane.proofs.Counts.{counted_all, counted_le}
use Rattle.lane.proofs.Takes.{taken_append, has_in}
use Rattle.board.specs.Runs.{In}
use Rattle.board.specs.Totals.{clear_in}

-- ---- where all n numbers from start on are counted, each passes
all_counted : (test : ℕ → Bool) (start n : ℕ) → counted test start n ≡ n → (k : ℕ) → In k start (start + n) → test k ≡ true
unfolding counted
all_counted test start zero e k h = absurd (omega arith)
all_counted test start (suc n) e k h = go (test (start + n)) refl e (all_counted test start n)
  where
    go : (b : Bool) → test (start + n) ≡ b → counted test start n + cond b 1 0 ≡ suc n → (counted test start n ≡ n → (k : ℕ) → In k start (start + n) → test k ≡ true) → test k ≡ true
    go true t e ih = elim (cases_eq k (start + n)) [ inl s ↦ ap test s ∙ t | inr s ↦ ih (omega arith) k (omega arith, omega arith) ]
    go false t e ih = absurd (omega (arith, counted_le test start n))

-- ---- the cycles of a claim
abbrev Of : Claimed → ℕ → Type 0
Of c k = In k c.first (c.first + c.length)

-- the claim is on this resource and has this cycle
abbrev Has : ℕ → ℕ → Claimed → Type 0
Has r k c = (c.resource ≡ r) × Of c k

has_means : (r k : ℕ) (c : Claimed) → Decides (has c r k) (Has r k c)
has_means r k c = (
  λ e. let (a, b) = and_parts (eqb c.resource r) (leb c.first k && ltb k (c.first + c.length)) e in
      let (l, h) = and_parts (leb c.first k) (ltb k (c.first + c.length)) b in
      (eqb-true c.resource r a, (leb-true c.first k l, ltb-true k (c.first + c.length) h)),
  λ h. has_in c r k h.0 h.1.0 h.1.1,
)

taken_means : (r k : ℕ) (cs : List Claimed) → Decides (taken cs r k) ((j : ℕ) × (j < length cs) × HoldsAt (Has r k) cs j)
taken_means r k cs = Decides-by_or (λ c. has c r k) (Has r k) (λ ds. taken ds r k) (has_means r k) refl (λ _ _. refl) cs

-- a claim at another place than i has the cycle
abbrev Elsewhere : List Claimed → ℕ → ℕ → ℕ → Type 0
Elsewhere cs i r k = (j : ℕ) × (j < length cs) × (j ≢ i) × Has r k (claim_at cs j)

others_mean : (cs : List Claimed) (i r k : ℕ) → Decides (taken (others cs i) r k) (Elsewhere cs i r k)
others_mean cs i r k = Decides-at _ _ (taken_append (take i cs) (drop (i + 1) cs) r k) (Decides-like (taken (take i cs) r k || taken (drop (i + 1) cs) r k) found from (Decides-or (taken (take i cs) r k) (taken (drop (i + 1) cs) r k) (taken_means r k (take i cs)) (taken_means r k (drop (i + 1) cs))))
  where
    found : ((j : ℕ) × (j < length (take i cs)) × HoldsAt (Has r k) (take i cs) j) ⊎ ((j : ℕ) × (j < length (drop (i + 1) cs)) × HoldsAt (Has r k) (drop (i + 1) cs) j) → Elsewhere cs i r k
    found (inl (j, l, h)) =
        let n = length-take i cs in
        (j, omega arith, λ e. omega arith, subst (Has r k) (get_or-take i cs j no_claim (omega arith)) (h no_claim))
    found (inr (j, l, h)) =
        let n = length-drop (i + 1) cs in
        (i + 1 + j, omega arith, λ e. omega arith, subst (Has r k) (get_or-drop (i + 1) cs j no_claim) (h no_claim))

    from : Elsewhere cs i r k → ((j : ℕ) × (j < length (take i cs)) × HoldsAt (Has r k) (take i cs) j) ⊎ ((j : ℕ) × (j < length (drop (i + 1) cs)) × HoldsAt (Has r k) (drop (i + 1) cs) j)
    from (j, l, d, h) = elim (cases_lt j i) [
      | inl b ↦ inl (j, omega (arith, length-take i cs), λ z. subst (Has r k) (get_or_default cs j no_claim z l ∙ sym (get_or-take i cs j z b)) h)
      | inr b ↦ (let e : i + 1 + (j - (i + 1)) ≡ j = omega arith in
          inr (j - (i + 1), omega (arith, length-drop (i + 1) cs), λ z. subst (Has r k) (get_or_default cs j no_claim z l ∙ sym (get_or-drop (i + 1) cs (j - (i + 1)) z ∙ rw e refl)) h))
    ]

-- ---- every cycle of the i-th claim is its own, and passes the test
abbrev pub Undisturbed : List Claimed → ℕ → (ℕ → Bool) → Type 0
Undisturbed cs i test = (k : ℕ) → Of (claim_at cs i) k → (test k ≡ true) × (Elsewhere cs i (claim_at cs i).resource k → ⊥)

module _ (cs : List Claimed) (i : ℕ) (test : ℕ → Bool) where
  pub clear_undisturbed : clear_in cs i test ≡ (claim_at cs i).length → Undisturbed cs i test
  clear_undisturbed e k h =
      let (alone, passes) = and_parts (sole cs i k) (test k) (all_counted (λ n. sole cs i n && test n) (claim_at cs i).first (claim_at cs i).length e k h) in
      (passes, (Decides-not _ (others_mean cs i (claim_at cs i).resource k)).0 alone)

  undisturbed_clear : Undisturbed cs i test → clear_in cs i test ≡ (claim_at cs i).length
  undisturbed_clear u =
      counted_all (λ n. sole cs i n && test n) (claim_at cs i).first (claim_at cs i).length (λ k l h. let q = u k (l, h) in and_from (sole cs i k) (test k) ((Decides-not _ (others_mean cs i (claim_at cs i).resource k)).1 q.1) q.0)

  pub clear_le : clear_in cs i test ≤ (claim_at cs i).length
  clear_le = counted_le (λ k. sole cs i k && test k) (claim_at cs i).first (claim_at cs i).length

  -- where all n cycles that are wanted of a claim are clear, the claim has n cycles, undisturbed
  pub tight : (n : ℕ) → (claim_at cs i).length ≤ n → n ≡ clear_in cs i test → ((claim_at cs i).length ≡ n) × Undisturbed cs i test
  tight n h e =
      let l = clear_le in
      let q : (claim_at cs i).length ≡ n = omega arith in
      (q, clear_undisturbed (sym e ∙ sym q))

-- no cycle of one claim is one of another: the claims are apart, where each has a cycle
pub apart : (a m b n : ℕ) → 1 ≤ m → 1 ≤ n → ((k : ℕ) → In k a (a + m) → In k b (b + n) → ⊥) → (a + m ≤ b) ⊎ (b + n ≤ a)
apart a m b n x y h = elim (cases_lt b (a + m)) [ inr l ↦ inl l | inl l ↦ elim (cases_lt a (b + n)) [ inr g ↦ inr g | inl g ↦ absurd (h (max a b) (omega arith, omega arith) (omega arith, omega arith)) ] ]

module _ (cs : List Claimed) (i : ℕ) (test : ℕ → Bool) (r a m : ℕ) (is : claim_at cs i ≡ record { resource = r; first = a; length = m }) where
  pub first_passes : 1 ≤ m → Undisturbed cs i test → test a ≡ true
  first_passes l u = (u a (subst (λ c. Of c a) (sym is) (omega arith, omega arith))).0

  pub others_apart : (j b n : ℕ) → claim_at cs j ≡ record { resource = r; first = b; length = n } → j < length cs → j ≢ i → 1 ≤ m → 1 ≤ n → Undisturbed cs i test → (a + m ≤ b) ⊎ (b + n ≤ a)
  others_apart j b n js l d x y u = apart a m b n x y (λ k g h. (u k (subst (λ c. Of c k) (sym is) g)).1 (j, l, d, (ap (λ c. c.resource) js ∙ sym (ap (λ c. c.resource) is), subst (λ c. Of c k) (sym js) h)))

  pub make_clear : ((k : ℕ) → In k a (a + m) → test k ≡ true) → ((j : ℕ) → j < length cs → j ≢ i → (c : Claimed) × (claim_at cs j ≡ c) × (c.resource ≡ r → (a + m ≤ c.first) ⊎ (c.first + c.length ≤ a))) → m ≡ clear_in cs i test
  make_clear passes away = sym (ap (λ c. c.length) is) ∙ sym (undisturbed_clear cs i test (λ k h. (passes k (subst (λ c. Of c k) is h), alone k (subst (λ c. Of c k) is h))))
    where
      alone : (k : ℕ) → In k a (a + m) → Elsewhere cs i (claim_at cs i).resource k → ⊥
      alone k h (j, l, d, (q, o)) =
          let (c, js, far) = away j l d in
          let g = subst (λ b. Of b k) js o in
          elim (far (sym (ap (λ b. b.resource) js) ∙ q ∙ ap (λ b. b.resource) is)) [ inl l ↦ omega arith | inr l ↦ omega arith ]
