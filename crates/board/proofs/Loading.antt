-- The law of loading: words are loaded as a sheet of a plan exactly when the sheet fits the plan and they are its written form.
use Rattle.std.proofs.Common.{◌≡◌, ℕ, zero, suc, ◌+◌, ◌*◌, ◌/◌, ◌<◌, ◌≤◌, true, false, List, [], ◌∷◌, ◌++◌, length, get_or, Some, None, Ok, Err, Option, Result, sym, refl, ap, ◌∙◌, arith}
use Rattle.std.specs.List.{range_with_len, flat_map}
use Rattle.std.proofs.lemmas.Grind.{flat_map-append}
use Rattle.std.proofs.lemmas.List.{append_assoc, append-nil, length-append}
use Rattle.std.proofs.lemmas.Bool.Decides.{nat_tests}
use Rattle.words.specs.declared.fault.Refusal.{Refusal}
use Rattle.words.specs.declared.kind.Kind.{Kind}
use Rattle.words.specs.declared.kind.Kind.TheVariants.{Machine, Regions, Task, Channel, Exec, Transfer, End}
use Rattle.words.specs.Kinds.{one_of}
use Rattle.words.specs.Records as said
use Rattle.words.specs.Records.{Said, machine, regions, task, channel, end, words_of, Small, follows, and_then}
use Rattle.board.specs.declared.Seat.{Seat}
use Rattle.board.specs.Entries.{exec, transfer, length_of}
use Rattle.board.specs.Files.{reads, file_of}
use Rattle.board.specs.Plans.{PlanView, Valid}
use Rattle.board.specs.Sheets.{Sheet, Fits, start, seat_of, empty, with_exec, with_transfer}
use Rattle.board.specs.Timetables.{task_in, core_in, region_in, Loaded, loaded_of, then, timetable_rules, read_sheet, exec_record, transfer_record, sheet_records, written_sheet, LawOfLoading}
use Rattle.board.proofs.Fitting.{transfer_start, exec_fits, transfer_fits, empty_fits}
use Rattle.board.proofs.Law.{differ, closed_file}
use Rattle.board.proofs.Passing.{Passes, walk_came, passes_walk}
use Rattle.board.proofs.Starts.{some_is}
use Rattle.board.proofs.Rows.{joined_none, set_free, set_told, free_yet, Upto, upto_none, upto_all, upto_skip, upto_set}

-- ---- what was loaded fits, and its records are those that came
abbrev exec_records : List (Option Seat) → List Said
exec_records xs = flat_map (λ t. exec_record t (get_or xs t None)) (range_with_len 0 (length xs))

abbrev transfer_records : List (Option ℕ) → List Said
transfer_records xs = flat_map (λ v. transfer_record v (get_or xs v None)) (range_with_len 0 (length xs))

-- so far; what may come next tells whether a transfer was placed
record Sofar (p : PlanView) (kinds : List Kind) (l : Loaded) : Type 0 where
  fits : Fits p l.sheet
  unseated : (t : ℕ) → l.next_task ≤ t → seat_of l.sheet t ≡ None
  unplaced : (v : ℕ) → l.next_value ≤ v → get_or l.sheet.transfers v None ≡ None
  bare : one_of kinds Exec ≡ true → transfer_records l.sheet.transfers ≡ []
  no_machine : one_of kinds Machine ≡ false
  no_regions : one_of kinds Regions ≡ false
  no_task : one_of kinds Task ≡ false
  no_channel : one_of kinds Channel ≡ false

-- one exec more
abbrev seat_in : ℕ → ℕ → Seat
seat_in start seat = record { start = start; core = core_in seat; region = region_in seat }

exec_written : (s : Sheet) (start seat : ℕ) (xs : List Said) → task_in seat < length s.execs → ((t : ℕ) → task_in seat ≤ t → seat_of s t ≡ None) → transfer_records s.transfers ≡ [] → sheet_records (with_exec s (task_in seat) (Some (seat_in start seat))) ++ xs ≡ sheet_records s ++ (said.exec start seat ∷ xs)
exec_written s start seat xs l free bare =
    let k : task_in seat * 64 + core_in seat * 8 + region_in seat ≡ seat = omega arith in
    let e = set_told exec_record s.execs (task_in seat) (Some (seat_in start seat)) (said.exec start seat) (λ _. refl) (ap (λ n. said.exec start n ∷ []) k) l free in
    rw (bare, e) (simp (append-nil, append_assoc))

-- one transfer more
transfer_written : (s : Sheet) (start v : ℕ) (xs : List Said) → v < length s.transfers → ((k : ℕ) → v ≤ k → get_or s.transfers k None ≡ None) → sheet_records (with_transfer s v (Some start)) ++ xs ≡ sheet_records s ++ (said.transfer start v ∷ xs)
transfer_written s start v xs l free =
    let e = set_told transfer_record s.transfers v (Some start) (said.transfer start v) (λ _. refl) refl l free in
    rw e (simp append_assoc)

-- all that came
load_on : (p : PlanView) (xs : List Said) (kinds : List Kind) (l z : Loaded) (place : ℕ) → Sofar p kinds l → Passes (timetable_rules p) kinds l place xs z → Fits p z.sheet × (sheet_records l.sheet ++ xs ≡ sheet_records z.sheet)
load_on p [] kinds l z place s h = rw (← h.1) (s.fits, append-nil (sheet_records l.sheet))
load_on p (machine _ _ _ _ ∷ xs) kinds l z place s h = differ h.0.allowed s.no_machine
load_on p (regions _ _ ∷ xs) kinds l z place s h = differ h.0.allowed s.no_regions
load_on p (task _ _ ∷ xs) kinds l z place s h = differ h.0.allowed s.no_task
load_on p (channel _ _ ∷ xs) kinds l z place s h = differ h.0.allowed s.no_channel
load_on p (said.exec start seat ∷ xs) kinds l z place s h =
    let c = h.0.checked in
    let t : task_in seat < length p.tasks = grind (arith, nat_tests, c) in
    let core : core_in seat < p.cores = grind (arith, nat_tests, c) in
    let region : region_in seat < length p.regions = grind (arith, nat_tests, c) in
    let rises : l.next_task ≤ task_in seat = grind (arith, nat_tests, c) in
    let by_last : start + length_of p (exec (task_in seat)) ≤ 536870911 = grind (arith, nat_tests, c) in
    let free : (k : ℕ) → task_in seat ≤ k → seat_of l.sheet k ≡ None = λ k m. s.unseated k (omega arith) in
    let bare = s.bare h.0.allowed in
    let q : Sofar p (follows (said.exec start seat)) (then l (said.exec start seat)) = record {
      fits = exec_fits p l.sheet s.fits (task_in seat) (Some (seat_in start seat)) (λ x e. let q = some_is (seat_in start seat) x e in rw (← q) (core, region, by_last));
      unseated = set_free l.sheet.execs (task_in seat) (Some (seat_in start seat)) free;
      unplaced = s.unplaced;
      bare = λ _. bare;
      no_machine = refl;
      no_regions = refl;
      no_task = refl;
      no_channel = refl;
    } in
    let w = load_on p xs (follows (said.exec start seat)) (then l (said.exec start seat)) z _ q h.1 in
    (w.0, sym (exec_written l.sheet start seat xs (omega (arith, s.fits.execs)) free bare) ∙ w.1)
load_on p (said.transfer start v ∷ xs) kinds l z place s h =
    let c = h.0.checked in
    let has : v / 2 < length p.channels = grind (arith, nat_tests, c) in
    let rises : l.next_value ≤ v = grind (arith, nat_tests, c) in
    let by_last : start + length_of p (transfer v) ≤ 536870911 = grind (arith, nat_tests, c) in
    let free : (k : ℕ) → v ≤ k → get_or l.sheet.transfers k None ≡ None = λ k m. s.unplaced k (omega arith) in
    let q : Sofar p (follows (said.transfer start v)) (then l (said.transfer start v)) = record {
      fits = transfer_fits p l.sheet s.fits v (Some start) (λ a e. rw (← some_is start a e) by_last);
      unseated = s.unseated;
      unplaced = set_free l.sheet.transfers v (Some start) free;
      bare = λ e. differ e refl;
      no_machine = refl;
      no_regions = refl;
      no_task = refl;
      no_channel = refl;
    } in
    let w = load_on p xs (follows (said.transfer start v)) (then l (said.transfer start v)) z _ q h.1 in
    (w.0, sym (transfer_written l.sheet start v xs (omega (arith, s.fits.transfers)) free) ∙ w.1)
load_on p (end _ ∷ xs) kinds l z place s h = differ refl h.0.more

-- nothing placed
empty_execs : (p : PlanView) → exec_records (empty p).execs ≡ []
empty_execs p =
    joined_none (λ t. exec_record t (seat_of (empty p) t)) 0 (length (empty p).execs) (λ t _. ap (exec_record t) (free_yet (length p.tasks) t))

empty_transfers : (p : PlanView) → transfer_records (empty p).transfers ≡ []
empty_transfers p =
    joined_none (λ v. transfer_record v (get_or (empty p).transfers v None)) 0 (length (empty p).transfers) (λ v _. ap (transfer_record v) (free_yet (2 * length p.channels) v))

load_whole : (p : PlanView) (xs : List Said) (z : Loaded) → Passes (timetable_rules p) (Exec ∷ Transfer ∷ End ∷ []) (loaded_of (empty p) 0 0) 0 xs z → Fits p z.sheet × (xs ≡ sheet_records z.sheet)
load_whole p xs z h =
    let s : Sofar p (Exec ∷ Transfer ∷ End ∷ []) (loaded_of (empty p) 0 0) = record {
      fits = empty_fits p;
      unseated = λ t _. free_yet (length p.tasks) t;
      unplaced = λ v _. free_yet (2 * length p.channels) v;
      bare = λ _. empty_transfers p;
      no_machine = refl;
      no_regions = refl;
      no_task = refl;
      no_channel = refl;
    } in
    let w = load_on p xs (Exec ∷ Transfer ∷ End ∷ []) (loaded_of (empty p) 0 0) z 0 s h in
    let none : sheet_records (empty p) ≡ [] = rw (empty_execs p, empty_transfers p) refl in
    (w.0, ap (λ ys. ys ++ xs) (sym none) ∙ w.1)

load_by : (p : PlanView) (ws : List ℕ) (s : Sheet) (y : Result Loaded Refusal) → reads (timetable_rules p) ws ≡ y → and_then y (λ l. Ok l.sheet) ≡ Ok s → Fits p s × (ws ≡ written_sheet s)
load_by p ws s (Err e) a h = absurd (let q : ◌≡◌ {A = ℕ} 0 1 = cc in omega arith)
load_by p ws s (Ok z) a h =
    let c = walk_came (timetable_rules p) (Exec ∷ Transfer ∷ End ∷ []) (loaded_of (empty p) 0 0) 0 ws z a in
    let w = load_whole p c.records z c.passes in
    let e : z.sheet ≡ s = cc in
    rw (← e) (w.0, c.written ∙ closed_file c.records ∙ ap file_of w.1)

pub loaded_fits : (p : PlanView) (ws : List ℕ) (s : Sheet) → read_sheet p ws ≡ Ok s → Fits p s
loaded_fits p ws s h = (load_by p ws s (reads (timetable_rules p) ws) refl h).0

pub loaded_is_written : (p : PlanView) (ws : List ℕ) (s : Sheet) → read_sheet p ws ≡ Ok s → ws ≡ written_sheet s
loaded_is_written p ws s h = (load_by p ws s (reads (timetable_rules p) ws) refl h).1

-- ---- a sheet that fits can be loaded from its written form
-- the records lead from l to a state with the sheet s
record Leads (p : PlanView) (s : Sheet) (kinds : List Kind) (l : Loaded) (place : ℕ) (xs : List Said) : Type 0 where
  last : Loaded
  same : last.sheet ≡ s
  passes : Passes (timetable_rules p) kinds l place xs last

same_sheet : (a b : Sheet) → a.execs ≡ b.execs → a.transfers ≡ b.transfers → a ≡ b
same_sheet a b e f =
    let execs_as : List (Option Seat) → Sheet = λ xs. record { execs = xs; transfers = a.transfers } in
    let transfers_as : List (Option ℕ) → Sheet = λ xs. record { execs = b.execs; transfers = xs } in
    ap execs_as e ∙ ap transfers_as f

lead_transfers : (p : PlanView) (s : Sheet) → Valid p → Fits p s → (n v : ℕ) (kinds : List Kind) (l : Loaded) (place : ℕ) → v + n ≡ length s.transfers → one_of kinds Transfer ≡ true → one_of kinds End ≡ true → l.sheet.execs ≡ s.execs → Upto l.sheet.transfers s.transfers v → l.next_value ≤ v → Leads p s kinds l place (flat_map (λ k. transfer_record k (get_or s.transfers k None)) (range_with_len v n))
lead_transfers p s w f zero v kinds l place m a b e u r =
    record { last = l; same = same_sheet l.sheet s e (upto_all l.sheet.transfers s.transfers v u (omega arith)); passes = (b, refl) }
lead_transfers p s w f (suc n) v kinds l place m a b e u r =
    let rest = flat_map (λ k. transfer_record k (get_or s.transfers k None)) (range_with_len (v + 1) n) in
    elim (get_or s.transfers v None) as (λ o. get_or s.transfers v None ≡ o → Leads p s kinds l place (transfer_record v o ++ rest)) [
      | None ↦ λ h. lead_transfers p s w f n (v + 1) kinds l place (omega arith) a b e (upto_skip l.sheet.transfers s.transfers v u h) (omega arith)
      | Some start ↦ λ h.
          let by_last = f.ends (transfer v) start (transfer_start s v ∙ h) in
          let has : v / 2 < length p.channels = omega (arith, f.transfers) in
          let small : v ≤ 511 = omega (arith, f.transfers, w.channel_count) in
          let i = lead_transfers p s w f n (v + 1) (Transfer ∷ End ∷ []) (then l (said.transfer start v)) (place + 2) (omega arith) refl refl e (upto_set l.sheet.transfers s.transfers v v (Some start) u (omega arith) refl h) (omega arith) in
          record {
            last = i.last;
            same = i.same;
            passes = (
              record {
                allowed = a;
                sayable = (omega arith, (omega arith, tt), tt);
                checked = grind (arith, nat_tests, by_last, has, small, r);
                more = refl;
              },
              i.passes,
            );
          }
    ] refl

-- a seat comes out of its word
seat_out : (t core region : ℕ) → core < 8 → region < 8 → (task_in (t * 64 + core * 8 + region) ≡ t) × (core_in (t * 64 + core * 8 + region) ≡ core) × (region_in (t * 64 + core * 8 + region) ≡ region)
seat_out t core region c r = (omega arith, omega arith, omega arith)

lead_execs : (p : PlanView) (s : Sheet) → Valid p → Fits p s → (n t : ℕ) (l : Loaded) (place : ℕ) → t + n ≡ length s.execs → Upto l.sheet.execs s.execs t → Upto l.sheet.transfers s.transfers 0 → l.next_task ≤ t → l.next_value ≤ 0 → Leads p s (Exec ∷ Transfer ∷ End ∷ []) l place (flat_map (λ k. exec_record k (seat_of s k)) (range_with_len t n) ++ transfer_records s.transfers)
lead_execs p s w f zero t l place m u x r q =
    lead_transfers p s w f (length s.transfers) 0 (Exec ∷ Transfer ∷ End ∷ []) l place (omega arith) refl refl (upto_all l.sheet.execs s.execs t u (omega arith)) x q
lead_execs p s w f (suc n) t l place m u x r q =
    let rest = flat_map (λ k. exec_record k (seat_of s k)) (range_with_len (t + 1) n) in
    elim (seat_of s t) as (λ o. seat_of s t ≡ o → Leads p s (Exec ∷ Transfer ∷ End ∷ []) l place ((exec_record t o ++ rest) ++ transfer_records s.transfers)) [
      | None ↦ λ h. lead_execs p s w f n (t + 1) l place (omega arith) (upto_skip l.sheet.execs s.execs t u h) x (omega arith) q
      | Some at ↦ λ h.
          let seat = t * 64 + at.core * 8 + at.region in
          let fits = f.seats t at h in
          let core : at.core < 8 = omega (arith, w.cores.1) in
          let region : at.region < 8 = omega (arith, w.region_count.1) in
          let has : t < length p.tasks = omega (arith, f.execs) in
          let small : seat ≤ 4095 = omega (arith, w.task_count.1) in
          let by_last = f.ends (exec t) at.start (rw h refl) in
          let out = seat_out t at.core at.region core region in
          let same : Some (seat_in at.start seat) ≡ Some at = rw (out.1, out.2) refl in
          let i = lead_execs p s w f n (t + 1) (then l (said.exec at.start seat)) (place + 2) (omega arith) (upto_set l.sheet.execs s.execs t (task_in seat) (Some (seat_in at.start seat)) u (omega arith) out.0 (h ∙ sym same)) x (omega (arith, out.0)) q in
          record {
            last = i.last;
            same = i.same;
            passes = (
              record {
                allowed = refl;
                sayable = (omega arith, (omega arith, tt), tt);
                checked = rw (out.0, out.1, out.2) (grind (arith, nat_tests, fits, has, small, by_last, r));
                more = refl;
              },
              i.passes,
            );
          }
    ] refl

-- how long its file is
words_append : (xs ys : List Said) → length (flat_map words_of (xs ++ ys)) ≡ length (flat_map words_of xs) + length (flat_map words_of ys)
words_append xs ys = ap length (flat_map-append words_of xs ys) ∙ length-append (flat_map words_of xs) (flat_map words_of ys)

words_within : (g : ℕ → List Said) (a n : ℕ) → ((k : ℕ) → length (flat_map words_of (g k)) ≤ 2) → length (flat_map words_of (flat_map g (range_with_len a n))) ≤ 2 * n
words_within g a zero two = omega arith
words_within g a (suc n) two =
    omega (arith, words_append (g a) (flat_map g (range_with_len (a + 1) n)), two a, words_within g (a + 1) n two)

exec_words : (t : ℕ) (o : Option Seat) → length (flat_map words_of (exec_record t o)) ≤ 2
exec_words t None = omega arith
exec_words t (Some x) = omega arith

transfer_words : (v : ℕ) (o : Option ℕ) → length (flat_map words_of (transfer_record v o)) ≤ 2
transfer_words v None = omega arith
transfer_words v (Some a) = omega arith

short : (p : PlanView) (s : Sheet) → Valid p → Fits p s → Small (0 + length (flat_map words_of (sheet_records s)))
short p s w f =
    let a = words_within (λ t. exec_record t (seat_of s t)) 0 (length s.execs) (λ t. exec_words t (seat_of s t)) in
    let b = words_within (λ v. transfer_record v (get_or s.transfers v None)) 0 (length s.transfers) (λ v. transfer_words v (get_or s.transfers v None)) in
    omega (arith, words_append (exec_records s.execs) (transfer_records s.transfers), f.execs, f.transfers, w.task_count.1, w.channel_count)

pub written_is_loaded : (p : PlanView) (s : Sheet) → Valid p → Fits p s → read_sheet p (written_sheet s) ≡ Ok s
written_is_loaded p s w f =
    let i = lead_execs p s w f (length s.execs) 0 (loaded_of (empty p) 0 0) 0 (omega arith) (upto_none s.execs (length p.tasks) f.execs) (upto_none s.transfers (2 * length p.channels) f.transfers) (omega arith) (omega arith) in
    let r = passes_walk (timetable_rules p) (λ l place n. refl) (Exec ∷ Transfer ∷ End ∷ []) (loaded_of (empty p) 0 0) 0 (sheet_records s) i.last (short p s w f) i.passes in
    ap (read_sheet p) (sym (closed_file (sheet_records s))) ∙ ap (λ y. and_then y (λ l. Ok l.sheet)) r ∙ ap Ok i.same

pub law_of_loading : LawOfLoading
law_of_loading p w ws s =
    (λ h. (loaded_fits p ws s h, loaded_is_written p ws s h), λ h. ap (read_sheet p) h.1 ∙ written_is_loaded p s w h.0)
