-- The law of reading a plan.
use Rattle.std.proofs.Common.{◌≡◌, ℕ, ◌+◌, ◌*◌, ◌/◌, ◌%◌, ◌<◌, ◌≤◌, Bool, true, false, List, [], ◌∷◌, ◌++◌, map, length, Ok, sum, sym, refl, ap, ◌∙◌, arith}
use Rattle.std.specs.List.{flat_map, AllByRecursion}
use Rattle.std.proofs.lemmas.Nat.{div-add-mod', div-mul-add, mod-mul-add}
use Rattle.std.proofs.ByRecursion.{All-get_or, All-from_get_or, All-push, All-weaker}
use Rattle.std.proofs.lemmas.List.{append_assoc, append-nil, length-append, length_push, map-append}
use Rattle.std.proofs.lemmas.Bool.Decides.{nat_tests}
use Rattle.words.specs.declared.kind.Kind.{Kind}
use Rattle.words.specs.declared.kind.Kind.TheVariants.{Machine, Regions, Task, Channel, Exec, Transfer, End}
use Rattle.words.specs.Kinds.{one_of}
use Rattle.words.specs.Records.{Said, machine, regions, task, channel, exec, transfer, end, words_of, Small, follows}
use Rattle.board.specs.declared.Task.{Task as TaskT}
use Rattle.board.specs.declared.Channel.{Channel as ChannelT}
use Rattle.board.specs.Files.{file_of}
use Rattle.board.specs.Plans.{PlanView, plan_of, Valid, no_task, no_channel}
use Rattle.board.specs.Ranges.{Between, TaskFits, ChannelFits}
use Rattle.board.specs.Reading.{sizes_within, why, then, plan_rules, read_plan, task_record, channel_record, records, written, LawOfReading}
use Rattle.board.proofs.Passing.{Passes, walk_came, passes_walk, closed_at}

-- ---- the sizes
sizes_ok : (place : ℕ) (ns : List ℕ) → sizes_within place ns ≡ Ok tt → AllByRecursion (Between 1 1048576) ns
sizes_ok place [] h = tt
sizes_ok place (n ∷ ns) h = (grind (arith, nat_tests), sizes_ok (place + 1) ns (grind (arith, nat_tests)))

sizes_pass : (place : ℕ) (ns : List ℕ) → AllByRecursion (Between 1 1048576) ns → sizes_within place ns ≡ Ok tt
sizes_pass place [] h = refl
sizes_pass place (n ∷ ns) h = let r = sizes_pass (place + 1) ns h.1 in let l = h.0 in grind (arith, nat_tests, r, l)

-- ---- what was read is a plan, and its records are those that came
-- so far, behind the first two records
record Begun (p : PlanView) : Type 0 where
  cores : Between 1 8 p.cores
  slot_time : Between 1 100 p.slot_time
  slot_load : Between 1 256 p.slot_load
  scratchpad : Between 1 1048576 p.scratchpad
  region_count : Between 1 8 (length p.regions)
  regions : AllByRecursion (Between 1 1048576) p.regions
  add_up : sum p.regions ≤ p.scratchpad
  task_count : length p.tasks ≤ 64
  tasks : AllByRecursion TaskFits p.tasks
  channel_count : length p.channels ≤ 256
  channels : AllByRecursion (ChannelFits (length p.tasks)) p.channels

-- what may come next tells what there is
record Stage (kinds : List Kind) (p : PlanView) : Type 0 where
  some : one_of kinds End ≡ true → 1 ≤ length p.tasks
  unlinked : one_of kinds Task ≡ true → p.channels ≡ []
  no_machine : one_of kinds Machine ≡ false
  no_regions : one_of kinds Regions ≡ false
  no_exec : one_of kinds Exec ≡ false
  no_transfer : one_of kinds Transfer ≡ false

record Whole (p : PlanView) (xs : List Said) (z : PlanView) : Type 0 where
  valid : Valid z
  written : records p ++ xs ≡ records z

begun_valid : (p : PlanView) → Begun p → 1 ≤ length p.tasks → Valid p
begun_valid p b l = record {
  cores = b.cores;
  slot_time = b.slot_time;
  slot_load = b.slot_load;
  scratchpad = b.scratchpad;
  region_count = b.region_count;
  regions = λ k d h. All-get_or (Between 1 1048576) p.regions k d h b.regions;
  add_up = b.add_up;
  task_count = (l, b.task_count);
  tasks = λ k d h. All-get_or TaskFits p.tasks k d h b.tasks;
  channel_count = b.channel_count;
  channels = λ k d h. All-get_or (ChannelFits (length p.tasks)) p.channels k d h b.channels;
}

-- one task more
push_task : (ts : List TaskT) (cs : List ChannelT) (t : TaskT) (xs : List Said) → cs ≡ [] → (map task_record (ts ++ t ∷ []) ++ map channel_record cs) ++ xs ≡ (map task_record ts ++ map channel_record cs) ++ (task_record t ∷ xs)
push_task ts cs t xs e = rw e (simp (map-append, append-nil, append_assoc))

record_task : (p : PlanView) (limit local : ℕ) (xs : List Said) → p.channels ≡ [] → records (then p (task limit local)) ++ xs ≡ records p ++ (task limit local ∷ xs)
record_task p limit local xs e =
    ap (λ l. machine p.cores p.slot_time p.slot_load p.scratchpad ∷ regions 5 p.regions ∷ l) (push_task p.tasks p.channels (record { limit = limit; local = local }) xs e)

begun_task : (p : PlanView) (place limit local : ℕ) → Begun p → p.channels ≡ [] → why p.scratchpad (length p.tasks) (length p.channels) place (task limit local) ≡ Ok tt → Begun (then p (task limit local))
begun_task p place limit local b e h =
    let t : TaskT = record { limit = limit; local = local } in
    let n = length_push p.tasks t in
    let l : length p.tasks < 64 = grind (arith, nat_tests) in
    record {
      cores = b.cores;
      slot_time = b.slot_time;
      slot_load = b.slot_load;
      scratchpad = b.scratchpad;
      region_count = b.region_count;
      regions = b.regions;
      add_up = b.add_up;
      task_count = omega arith;
      tasks = All-push TaskFits p.tasks t b.tasks (grind (arith, nat_tests), grind (arith, nat_tests), grind (arith, nat_tests));
      channel_count = b.channel_count;
      channels = rw e tt;
    }

-- one channel more
push_channel : (before : List Said) (cs : List ChannelT) (c : ChannelT) (x : Said) (xs : List Said) → channel_record c ≡ x → (before ++ map channel_record (cs ++ c ∷ [])) ++ xs ≡ (before ++ map channel_record cs) ++ (x ∷ xs)
push_channel before cs c x xs e = rw (← e) (simp (map-append, append_assoc))

record_channel : (p : PlanView) (bytes pair : ℕ) (xs : List Said) → records (then p (channel bytes pair)) ++ xs ≡ records p ++ (channel bytes pair ∷ xs)
record_channel p bytes pair xs =
    ap (λ l. machine p.cores p.slot_time p.slot_load p.scratchpad ∷ regions 5 p.regions ∷ l) (push_channel (map task_record p.tasks) p.channels (record { from = pair / 64; to = pair % 64; bytes = bytes }) (channel bytes pair) xs (ap (channel bytes) (div-add-mod' pair 64)))

begun_channel : (p : PlanView) (place bytes pair : ℕ) → Begun p → why p.scratchpad (length p.tasks) (length p.channels) place (channel bytes pair) ≡ Ok tt → Begun (then p (channel bytes pair))
begun_channel p place bytes pair b h =
    let c : ChannelT = record { from = pair / 64; to = pair % 64; bytes = bytes } in
    let n = length_push p.channels c in
    let l : length p.channels < 256 = grind (arith, nat_tests) in
    record {
      cores = b.cores;
      slot_time = b.slot_time;
      slot_load = b.slot_load;
      scratchpad = b.scratchpad;
      region_count = b.region_count;
      regions = b.regions;
      add_up = b.add_up;
      task_count = b.task_count;
      tasks = b.tasks;
      channel_count = omega arith;
      channels = All-push (ChannelFits (length p.tasks)) p.channels c b.channels (grind (arith, nat_tests), grind (arith, nat_tests), grind (arith, nat_tests), grind (arith, nat_tests));
    }

pub differ : {A : Type 0} {b : Bool} → b ≡ true → b ≡ false → A
differ h k = absurd (let q : ◌≡◌ {A = ℕ} 0 1 = grind arith in omega arith)

read_on : (xs : List Said) (kinds : List Kind) (p z : PlanView) (place : ℕ) → Begun p → Stage kinds p → Passes plan_rules kinds p place xs z → Whole p xs z
read_on [] kinds p z place b s h =
    rw (← h.1) (record { valid = begun_valid p b (s.some h.0); written = append-nil (records p) })
read_on (machine c t d pad ∷ xs) kinds p z place b s h = differ h.0.allowed s.no_machine
read_on (regions at ns ∷ xs) kinds p z place b s h = differ h.0.allowed s.no_regions
read_on (task limit local ∷ xs) kinds p z place b s h =
    let e = s.unlinked h.0.allowed in
    let q = then p (task limit local) in
    let l = length_push p.tasks (record { limit = limit; local = local }) in
    let t : Stage (follows (task limit local)) q = record { some = λ _. omega arith; unlinked = λ _. e; no_machine = refl; no_regions = refl; no_exec = refl; no_transfer = refl } in
    let w = read_on xs (follows (task limit local)) q z _ (begun_task p place limit local b e h.0.checked) t h.1 in
    record { valid = w.valid; written = sym (record_task p limit local xs e) ∙ w.written }
read_on (channel bytes pair ∷ xs) kinds p z place b s h =
    let q = then p (channel bytes pair) in
    let c = h.0.checked in
    let t : Stage (follows (channel bytes pair)) q = record { some = λ _. grind (arith, nat_tests, c); unlinked = λ n. differ n refl; no_machine = refl; no_regions = refl; no_exec = refl; no_transfer = refl } in
    let w = read_on xs (follows (channel bytes pair)) q z _ (begun_channel p place bytes pair b c) t h.1 in
    record { valid = w.valid; written = sym (record_channel p bytes pair xs) ∙ w.written }
read_on (exec start seat ∷ xs) kinds p z place b s h = differ h.0.allowed s.no_exec
read_on (transfer start side ∷ xs) kinds p z place b s h = differ h.0.allowed s.no_transfer
read_on (end n ∷ xs) kinds p z place b s h = differ refl h.0.more

-- the first two records
read_regions : (xs : List Said) (z : PlanView) (c t d pad : ℕ) → Between 1 8 c → Between 1 100 t → Between 1 256 d → Between 1 1048576 pad → Passes plan_rules (Regions ∷ []) (plan_of c t d pad [] [] []) 4 xs z → (Valid z × (machine c t d pad ∷ xs ≡ records z))
read_regions [] z c t d pad a b e f h = differ h.0 refl
read_regions (machine _ _ _ _ ∷ xs) z c t d pad a b e f h = differ h.0.allowed refl
read_regions (regions at ns ∷ xs) z c t d pad a b e f h =
    let k = h.0.checked in
    let p = plan_of c t d pad ns [] [] in
    let g : Begun p = record {
      cores = a;
      slot_time = b;
      slot_load = e;
      scratchpad = f;
      region_count = (grind (arith, nat_tests, k), grind (arith, nat_tests, k));
      regions = sizes_ok at ns (grind (arith, nat_tests, k));
      add_up = grind (arith, nat_tests, k);
      task_count = omega arith;
      tasks = tt;
      channel_count = omega arith;
      channels = tt;
    } in
    let s : Stage (Task ∷ []) p = record { some = λ n. differ n refl; unlinked = λ _. refl; no_machine = refl; no_regions = refl; no_exec = refl; no_transfer = refl } in
    let w = read_on xs (Task ∷ []) p z _ g s h.1 in
    (w.valid, rw h.0.sayable.2 w.written)
read_regions (task _ _ ∷ xs) z c t d pad a b e f h = differ h.0.allowed refl
read_regions (channel _ _ ∷ xs) z c t d pad a b e f h = differ h.0.allowed refl
read_regions (exec _ _ ∷ xs) z c t d pad a b e f h = differ h.0.allowed refl
read_regions (transfer _ _ ∷ xs) z c t d pad a b e f h = differ h.0.allowed refl
read_regions (end _ ∷ xs) z c t d pad a b e f h = differ h.0.allowed refl

read_whole : (xs : List Said) (z : PlanView) → Passes plan_rules (Machine ∷ []) (plan_of 0 0 0 0 [] [] []) 0 xs z → Valid z × (xs ≡ records z)
read_whole [] z h = differ h.0 refl
read_whole (machine c t d pad ∷ xs) z h =
    let k = h.0.checked in
    read_regions xs z c t d pad (grind (arith, nat_tests, k), grind (arith, nat_tests, k)) (grind (arith, nat_tests, k), grind (arith, nat_tests, k)) (grind (arith, nat_tests, k), grind (arith, nat_tests, k)) (grind (arith, nat_tests, k), grind (arith, nat_tests, k)) h.1
read_whole (regions _ _ ∷ xs) z h = differ h.0.allowed refl
read_whole (task _ _ ∷ xs) z h = differ h.0.allowed refl
read_whole (channel _ _ ∷ xs) z h = differ h.0.allowed refl
read_whole (exec _ _ ∷ xs) z h = differ h.0.allowed refl
read_whole (transfer _ _ ∷ xs) z h = differ h.0.allowed refl
read_whole (end _ ∷ xs) z h = differ h.0.allowed refl

pub closed_file : (xs : List Said) → closed_at 0 xs ≡ file_of xs
closed_file xs = let e : 0 + length (flat_map words_of xs) ≡ length (flat_map words_of xs) = omega arith in ap (λ n. flat_map words_of xs ++ words_of (end n)) e

pub read_is_written : (ws : List ℕ) (p : PlanView) → read_plan ws ≡ Ok p → Valid p × (ws ≡ written p)
read_is_written ws p h =
    let c = walk_came plan_rules (Machine ∷ []) (plan_of 0 0 0 0 [] [] []) 0 ws p h in
    let w = read_whole c.records p c.passes in
    (w.0, c.written ∙ closed_file c.records ∙ ap file_of w.1)

-- ---- a plan can be read from its written form
-- its channels, behind those that were read
pass_channels : (p : PlanView) (cs before : List ChannelT) (kinds : List Kind) (place : ℕ) → one_of kinds Channel ≡ true → one_of kinds End ≡ true → length before + length cs ≤ 256 → length p.tasks ≤ 64 → AllByRecursion (ChannelFits (length p.tasks)) cs → before ++ cs ≡ p.channels → Passes plan_rules kinds (plan_of p.cores p.slot_time p.slot_load p.scratchpad p.regions p.tasks before) place (map channel_record cs) p
pass_channels p [] before kinds place a e l m h q =
    (e, ap (plan_of p.cores p.slot_time p.slot_load p.scratchpad p.regions p.tasks) (sym (append-nil before) ∙ q))
pass_channels p (c ∷ cs) before kinds place a e l m h q =
    let f = h.0 in
    let to : c.to < 64 = omega arith in
    let x = div-mul-add c.from 64 c.to to in
    let y = mod-mul-add c.from 64 c.to to in
    let b : ChannelT = record { from = (c.from * 64 + c.to) / 64; to = (c.from * 64 + c.to) % 64; bytes = c.bytes } in
    let same : b ≡ c = rw (x, y) refl in
    let r : (before ++ b ∷ []) ++ cs ≡ p.channels = rw same (append_assoc before (c ∷ []) cs ∙ q) in
    let n = length_push before b in (
      record {
        allowed = a;
        sayable = (omega arith, (omega arith, tt), tt);
        checked = grind (arith, nat_tests, f, x, y);
        more = refl;
      },
      pass_channels p cs (before ++ b ∷ []) (Channel ∷ End ∷ []) _ refl refl (omega arith) m h.1 r,
    )

-- its tasks, behind those that were read, and then its channels
pass_tasks : (p : PlanView) (ts before : List TaskT) (place : ℕ) → Valid p → AllByRecursion (ChannelFits (length p.tasks)) p.channels → length before + length ts ≤ 64 → AllByRecursion TaskFits ts → before ++ ts ≡ p.tasks → Passes plan_rules (Task ∷ Channel ∷ End ∷ []) (plan_of p.cores p.slot_time p.slot_load p.scratchpad p.regions before []) place (map task_record ts ++ map channel_record p.channels) p
pass_tasks p [] before place v cs l h q =
    rw (sym (append-nil before) ∙ q) (pass_channels p p.channels [] (Task ∷ Channel ∷ End ∷ []) place refl refl (omega (arith, v.channel_count)) v.task_count.1 cs refl)
pass_tasks p (t ∷ ts) before place v cs l h q =
    let f = h.0 in
    let n = length_push before t in (
      record {
        allowed = refl;
        sayable = (omega arith, (omega arith, tt), tt);
        checked = grind (arith, nat_tests, f);
        more = refl;
      },
      pass_tasks p ts (before ++ t ∷ []) _ v cs (omega arith) h.1 (append_assoc before (t ∷ []) ts ∙ q),
    )

-- the first task, which a plan has
pass_first : (p : PlanView) (ts : List TaskT) (place : ℕ) → Valid p → AllByRecursion (ChannelFits (length p.tasks)) p.channels → AllByRecursion TaskFits ts → ts ≡ p.tasks → Passes plan_rules (Task ∷ []) (plan_of p.cores p.slot_time p.slot_load p.scratchpad p.regions [] []) place (map task_record ts ++ map channel_record p.channels) p
pass_first p [] place v cs h q = absurd (omega (arith, ap length q, v.task_count.0))
pass_first p (t ∷ ts) place v cs h q =
    let f = h.0 in (
      record {
        allowed = refl;
        sayable = (omega arith, (omega arith, tt), tt);
        checked = grind (arith, nat_tests, f);
        more = refl;
      },
      pass_tasks p ts (t ∷ []) _ v cs (omega (arith, ap length q, v.task_count.1)) h.1 q,
    )

pass_whole : (p : PlanView) → Valid p → Passes plan_rules (Machine ∷ []) (plan_of 0 0 0 0 [] [] []) 0 (records p) p
pass_whole p v =
    let ns = All-from_get_or (Between 1 1048576) p.regions 0 (λ k. v.regions k 0) in
    let ts = All-from_get_or TaskFits p.tasks no_task (λ k. v.tasks k no_task) in
    let cs = All-from_get_or (ChannelFits (length p.tasks)) p.channels no_channel (λ k. v.channels k no_channel) in
    let small = All-weaker (Between 1 1048576) Small (λ n h. omega (arith, h.1)) p.regions ns in
    let sizes = sizes_pass 5 p.regions ns in
    let a = v.cores in
    let b = v.slot_time in
    let c = v.slot_load in
    let d = v.scratchpad in
    let e = v.region_count in
    let f = v.add_up in (
      record {
        allowed = refl;
        sayable = (omega arith, (omega arith, (omega arith, (omega arith, tt))), tt);
        checked = grind (arith, nat_tests, a, b, c, d);
        more = refl;
      },
      (
        record {
          allowed = refl;
          sayable = (omega arith, small, refl);
          checked = grind (arith, nat_tests, e, f, sizes);
          more = refl;
        },
        pass_first p p.tasks _ v cs ts refl,
      ),
    )

-- how long its file is
tail_length : (ts : List TaskT) (cs : List ChannelT) → length (flat_map words_of (map task_record ts ++ map channel_record cs)) ≡ 2 * length ts + 2 * length cs
tail_length [] [] = refl
tail_length [] (c ∷ cs) = let i = tail_length [] cs in omega arith
tail_length (t ∷ ts) cs = let i = tail_length ts cs in omega arith

short : (p : PlanView) → Valid p → Small (0 + length (flat_map words_of (records p)))
short p v =
    let tail = flat_map words_of (map task_record p.tasks ++ map channel_record p.channels) in
    omega (arith, length-append p.regions tail, tail_length p.tasks p.channels, v.region_count.1, v.task_count.1, v.channel_count)

pub written_is_read : (p : PlanView) → Valid p → read_plan (written p) ≡ Ok p
written_is_read p v =
    ap read_plan (sym (closed_file (records p))) ∙ passes_walk plan_rules (λ s place n. refl) (Machine ∷ []) (plan_of 0 0 0 0 [] [] []) 0 (records p) p (short p v) (pass_whole p v)

pub law_of_reading : LawOfReading
law_of_reading ws p = (read_is_written ws p, λ h. ap read_plan h.1 ∙ written_is_read p h.0)
