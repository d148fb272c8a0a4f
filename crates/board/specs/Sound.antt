-- What makes a sheet safe to run, and how the totals tell it.
use Rattle.std.specs.Prelude.{◌≡◌, ℕ, ◌+◌, ◌<◌, ◌≤◌, ◌≢◌, ◌⊎◌, ◌↔◌, length, slice_index}
use mathlib.Core.List.{Memᴰ as Member}
use Rattle.board.specs.declared.Seat.{Seat}
use Rattle.board.specs.Entries.{Entry, exec, Holds, length_of, owner, awaited}
use Rattle.board.specs.Plans.{PlanView, Valid, need}
use Rattle.board.specs.Runs.{Transfer, Faultless}
use Rattle.board.specs.Sheets.{Sheet, Starts, Seated, Fits}
use Rattle.board.specs.Totals.{wanted, clear}

-- one of the two has ended when the other starts
abbrev pub Apart : PlanView → Sheet → Entry → Entry → Type 0
Apart p s e f = (a b : ℕ) → Starts s e a → Starts s f b → (a + length_of p e ≤ b) ⊎ (b + length_of p f ≤ a)

-- every own entry of t has ended when the first of u starts
abbrev pub Before : PlanView → Sheet → ℕ → ℕ → Type 0
Before p s t u = (e f : Entry) (a b : ℕ) → Holds p e → Holds p f → owner p e ≡ t → owner p f ≡ u → Starts s e a → Starts s f b → a + length_of p e ≤ b

pub record Sound (p : PlanView) (s : Sheet) : Type 0 where
  -- every entry is placed
  pub placed : (e : Entry) → Holds p e → (a : ℕ) × Starts s e a
  -- no two execs of one core overlap
  pub cores : (t u : ℕ) (x y : Seat) → t < length p.tasks → u < length p.tasks → t ≢ u → Seated s t x → Seated s u y → x.core ≡ y.core → Apart p s (exec t) (exec u)
  -- no two transfers overlap
  pub bus : (e f : Entry) → Transfer e → Transfer f → Holds p e → Holds p f → e ≢ f → Apart p s e f
  -- whatever an entry waits for has ended when it starts
  pub waits : (e w : Entry) (a b : ℕ) → Holds p e → Member w (awaited p e) → Starts s e a → Starts s w b → b + length_of p w ≤ a
  -- no two stays of one region overlap
  pub regions : (t u : ℕ) (x y : Seat) → t < length p.tasks → u < length p.tasks → t ≢ u → Seated s t x → Seated s u y → x.core ≡ y.core → x.region ≡ y.region → Before p s t u ⊎ Before p s u t
  -- every task has room
  pub rooms : (t : ℕ) (x : Seat) → t < length p.tasks → Seated s t x → need p t ≤ slice_index p.regions x.region

-- wanted and clear are equal exactly on the sheets that are sound
abbrev pub EqualTotalsMeanSound : Type 0
EqualTotalsMeanSound = (p : PlanView) (s : Sheet) → Valid p → Fits p s → (wanted p s ≡ clear p s) ↔ Sound p s

-- a sheet is sound exactly when no run of it has a fault
abbrev pub SoundMeansNoFault : Type 0
SoundMeansNoFault = (p : PlanView) (s : Sheet) → Valid p → Sound p s ↔ Faultless p s

-- equal totals mean no fault: wanted and clear are equal exactly when no run, at any run times from 1 to the lengths, has a fault
abbrev pub EqualTotalsMeanNoFault : Type 0
EqualTotalsMeanNoFault = (p : PlanView) (s : Sheet) → Valid p → Fits p s → (wanted p s ≡ clear p s) ↔ Faultless p s
