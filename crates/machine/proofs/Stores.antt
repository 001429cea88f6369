-- A state in range stays so when one of its parts changes to a value in range: place by place.
--     fresh_process_lem, new_stage, new_node, new_name, new_returns    a process whose numbers are in range
--     store_process, store_counter, store_word, set_gate     one number or record stored
--     join_queue, advance_queue                              one more at the queue's end; its head gone
-- Assumes nothing.
use mathlib.Core.List.{List}
use Prim.Native.Nat.{ℕ, suc, ◌+◌, ◌*◌, ◌-◌, ◌≤◌, ◌<◌}
use native.Mathlib.Decide.{dec_lt}
use lib.Dec.{eqb}
use lib.IntN.{ℤ}
use lib.ListN.{length, get_or, set, get_or-eq_default}
use lib.Seq.{get_or-set_same}
use Rattle.machine.proofs.Rules.{◌≡◌, refl, true, cond, arith, eqb-true}
use Rattle.machine.specs.Gate.{joined, moved_up, head_gone}
use Rattle.machine.specs.Range.{gate_in_range, OpenName, ProcessRanges}
use Rattle.machine.specs.Setup.{open_names}
use Rattle.machine.specs.Stage.{exhausted}
use Rattle.machine.specs.State.{none, no_process, fresh_process, with_stage, with_node, with_name, with_returns, process_at}
use Rattle.machine.specs.State.{with_process, with_counters, with_counter, with_word, with_gate, with_queue, rebuilt, fresh_counter}
use Rattle.machine.specs.declared.Process.{Process}
use Rattle.machine.specs.declared.Setup.{Setup}
use Rattle.machine.specs.declared.State.{State}
use Rattle.machine.proofs.Facts.Tests.{by_cond}
use Rattle.machine.proofs.Facts.Lists.{get_or-set_by, get_or_moved}
use Rattle.machine.proofs.Ranges.{Limits, QueueRanges, WordRanges, Ranges}
use Rattle.machine.proofs.Facts.Leaves.{leaves_low}

pub fresh_process_lem : {c : Setup} → Limits c → ProcessRanges c fresh_process
fresh_process_lem {c} k =
    record {
      stage = omega arith;
      node1 = omega arith;
      node = omega (arith, leaves_low c.leaves k.leaves);
      segment = k.g1;
      name = λ d. absurd (d refl);
      shown = omega arith;
    }

pub new_stage : {c : Setup} {h : Process} (n : ℕ) → n ≤ exhausted → ProcessRanges c h → ProcessRanges c (with_stage n h)
new_stage n e k =
    record { stage = e; node1 = k.node1; node = k.node; segment = k.segment; name = k.name; shown = k.shown }

pub new_node : {c : Setup} {h : Process} (v : ℕ) → 1 ≤ v → v < 2 * c.leaves → ProcessRanges c h → ProcessRanges c (with_node v h)
new_node v low high k =
    record { stage = k.stage; node1 = low; node = high; segment = k.segment; name = k.name; shown = k.shown }

pub new_name : {c : Setup} {h : Process} (m : ℕ) → ((m ≡ none → ⊥) → OpenName c m) → ProcessRanges c h
    → ProcessRanges c (with_name m h)
new_name m e k =
    record { stage = k.stage; node1 = k.node1; node = k.node; segment = k.segment; name = e; shown = k.shown }

pub new_returns : {c : Setup} {h : Process} (n : ℕ) → h.steps + n ≤ 255 → ProcessRanges c h → ProcessRanges c (with_returns n h)
new_returns n e k =
    record { stage = k.stage; node1 = k.node1; node = k.node; segment = k.segment; name = k.name; shown = e }

module _ (s : State) (k : Ranges s) where
  abbrev c : Setup
  c = s.setup

  -- a state with other parts, each in range
  rebuilt_ranges : {a : ℤ} {n : ℕ} {q cs ws : List ℕ} {ps : List Process}
      → gate_in_range (open_names c) a ≡ true
      → QueueRanges c.processes n q
      → ((v : ℕ) → 0 < v → v < c.leaves → get_or cs v 0 ≤ fresh_counter c v)
      → ((r : ℕ) → r < c.leaves * c.segments → WordRanges c r (get_or ws r 0))
      → ((p : ℕ) → p < c.processes → ProcessRanges c (get_or ps p no_process))
      → Ranges (rebuilt a n q cs ws ps s)
  rebuilt_ranges ka kq kc kw kp =
      record { limits = k.limits; closed = k.closed; gate = ka; queue = kq; counters = kc; words = kw; process = kp }

  pub store_process : (p : ℕ) (h : Process) → ProcessRanges c h → Ranges (with_process p h s)
  store_process p h kh =
      rebuilt_ranges k.gate k.queue k.counters k.words
      (λ q l. get_or-set_by (ProcessRanges c) s.process p h q no_process (λ _. kh) (k.process q l))

  -- the process stored stands at its place
  pub own_record : (p : ℕ) (h : Process) → p < c.processes → length s.process ≡ 64 → process_at (with_process p h s) p ≡ h
  own_record p h kp e = get_or-set_same s.process p h no_process (omega (arith, k.limits.n64))

  pub set_counters : (cs : List ℕ) → ((v : ℕ) → 0 < v → v < c.leaves → get_or cs v 0 ≤ fresh_counter c v) → Ranges (with_counters cs s)
  set_counters cs kc = rebuilt_ranges k.gate k.queue kc k.words k.process

  pub store_counter : (v n : ℕ) → n ≤ fresh_counter c v → Ranges (with_counter v n s)
  store_counter v n kn =
      set_counters (set s.counters v n)
      (λ u low l. get_or-set_by (λ (x : ℕ). x ≤ fresh_counter c u) s.counters v n u 0 (λ e. rw e kn) (k.counters u low l))

  pub store_word : (r w : ℕ) → WordRanges c r w → Ranges (with_word r w s)
  store_word r w kw =
      rebuilt_ranges k.gate k.queue k.counters
      (λ q l. get_or-set_by (WordRanges c q) s.words r w q 0 (λ e. rw e kw) (k.words q l))
      k.process

  pub set_gate : (a : ℤ) → gate_in_range (open_names c) a ≡ true → Ranges (with_gate a s)
  set_gate a ka = rebuilt_ranges ka k.queue k.counters k.words k.process

  set_queue : (n : ℕ) (q : List ℕ) → QueueRanges c.processes n q → Ranges (with_queue n q s)
  set_queue n q kq = rebuilt_ranges k.gate kq k.counters k.words k.process

  -- every place of the queue holds a number below N, past its end too
  place_below : (i : ℕ) → i < 64 → Dec (i < s.queued) → get_or s.queue i 0 < s.setup.processes
  place_below i l (yes e) = k.queue.entries i e
  place_below i l (no d) = omega (arith, k.queue.zeros i (omega arith) l, k.limits.n1)

  pub join_queue : (p : ℕ) → p < s.setup.processes → s.queued < 64 → Ranges (joined p s)
  join_queue p kp room =
      set_queue (s.queued + 1) (set s.queue s.queued p)
      (record {
        size = omega arith;
        entries = λ i l.
            get_or-set_by (λ (x : ℕ). x < s.setup.processes) s.queue s.queued p i 0
            (λ _. kp)
            (place_below i (omega arith) (dec_lt i s.queued));
        zeros = λ i l m.
            get_or-set_by (λ (x : ℕ). x ≡ 0) s.queue s.queued p i 0 (λ e. absurd (omega arith)) (k.queue.zeros i (omega arith) m);
      })

  -- the array has 64 places
  module _ (sized : length s.queue ≡ 64) where
    freed : (i : ℕ) → s.queued ≤ suc i → i < 64 → Dec (i < 63) → get_or s.queue (suc i) 0 ≡ 0
    freed i l m (yes e) = k.queue.zeros (suc i) l (omega arith)
    freed i l m (no d) = get_or-eq_default s.queue 0 {n = suc i} (omega arith)

    pub advance_queue : Ranges (head_gone s)
    unfolding head_gone moved_up
    advance_queue =
        set_queue (s.queued - 1) (cond (eqb s.queued 0) s.queue (moved_up s.queue))
        (by_cond (QueueRanges s.setup.processes (s.queued - 1)) (eqb s.queued 0)
        (λ e.
        let none-queued : s.queued ≡ 0 = eqb-true _ 0 e in
        record { size = omega arith; entries = λ i l. absurd (omega arith); zeros = λ i _. k.queue.zeros i (omega arith) })
        (λ e.
        record {
          size = omega (arith, k.queue.size);
          entries = λ i l. rw (get_or_moved s.queue i 0) (k.queue.entries (suc i) (omega arith));
          zeros = λ i l m. rw (get_or_moved s.queue i 0) (freed i (omega arith) m (dec_lt i 63));
        }))
