-- Document 01, section State: the parts of a state, how one of them changes, the fresh state and the blank one; and of document 02, c,
-- the state of a setup that fills a part of its counters.
-- No other definition of the machine builds a state or a process field by field.
use Rattle.std.specs.Prelude.{◌≡◌, cond, ◌&&◌, List, ℕ, ◌+◌, ◌*◌, ◌-◌, ◌/◌, ◌^◌, leb, ltb, ℤ, pos, length, get_or, set, replicate}
use Rattle.machine.specs.Below.{tabulate}
use Rattle.machine.specs.Check.{checked}
use Rattle.machine.specs.Answer.{accepted}
use Rattle.machine.specs.Closed.{open_in}
use Rattle.machine.specs.Setup.{plain, open_names, setup_checks, log2}
use Rattle.machine.specs.Stage.{remainder}
use Rattle.machine.specs.declared.Process.{Process}
use Rattle.machine.specs.declared.Setup.{Setup}
use Rattle.machine.specs.declared.State.{State}
use Rattle.machine.specs.declared.Done.{Done}

abbrev pub done : ℕ → State → Done
done a s = record { answer = a; state = s }

-- Name (pad) 255 for none.
abbrev pub none : ℕ
none = 255

-- what an unused place for a process holds: every number 0
abbrev pub no_process : Process
no_process = record { stage = 0; node = 0; segment = 0; name = 0; steps = 0; returns = 0 }

-- For each process, fresh: 0, 1, 0, 255, 0; and return operations, 0 when fresh (document 02, b).
abbrev pub fresh_process : Process
fresh_process = record { stage = remainder; node = 1; segment = 0; name = none; steps = 0; returns = 0 }

-- a process with other numbers, its return operations kept; every setter of one of them is made of this
abbrev pub renumbered : ℕ → ℕ → ℕ → ℕ → ℕ → Process → Process
renumbered stage node segment name steps h =
    record { stage = stage; node = node; segment = segment; name = name; steps = steps; returns = h.returns }

abbrev pub with_stage : ℕ → Process → Process
with_stage n h = renumbered n h.node h.segment h.name h.steps h

abbrev pub with_node : ℕ → Process → Process
with_node n h = renumbered h.stage n h.segment h.name h.steps h

abbrev pub with_segment : ℕ → Process → Process
with_segment n h = renumbered h.stage h.node n h.name h.steps h

abbrev pub with_name : ℕ → Process → Process
with_name n h = renumbered h.stage h.node h.segment n h.steps h

abbrev pub with_steps : ℕ → Process → Process
with_steps n h = renumbered h.stage h.node h.segment h.name n h

-- with another number of return operations
abbrev pub with_returns : ℕ → Process → Process
with_returns n h =
    record { stage = h.stage; node = h.node; segment = h.segment; name = h.name; steps = h.steps; returns = n }

-- What the journal, the roll and the program show: the sum of claim turns and return operations (document 02, b).
abbrev pub figure : Process → ℕ
figure h = h.steps + h.returns

-- what stands at a place
abbrev pub process_at : State → ℕ → Process
process_at s p = get_or s.process p no_process

abbrev pub counter_at : State → ℕ → ℕ
counter_at s v = get_or s.counters v 0

abbrev pub word_at : State → ℕ → ℕ
word_at s r = get_or s.words r 0

-- a state with another gate word, queue and arrays; every setter of one part is made of this
abbrev pub rebuilt : ℤ → ℕ → List ℕ → List ℕ → List ℕ → List Process → State → State
rebuilt gate queued queue counters words process s =
    record {
      setup = s.setup;
      gate = gate;
      queued = queued;
      queue = queue;
      counters = counters;
      words = words;
      process = process;
    }

abbrev pub with_gate : ℤ → State → State
with_gate a s = rebuilt a s.queued s.queue s.counters s.words s.process s

abbrev pub with_queue : ℕ → List ℕ → State → State
with_queue n q s = rebuilt s.gate n q s.counters s.words s.process s

abbrev pub with_counters : List ℕ → State → State
with_counters counters s = rebuilt s.gate s.queued s.queue counters s.words s.process s

abbrev pub with_counter : ℕ → ℕ → State → State
with_counter v n s = with_counters (set s.counters v n) s

abbrev pub with_word : ℕ → ℕ → State → State
with_word r w s = rebuilt s.gate s.queued s.queue s.counters (set s.words r w) s.process s

abbrev pub with_process : ℕ → Process → State → State
with_process p h s = rebuilt s.gate s.queued s.queue s.counters s.words (set s.process p h) s

-- the record of process p changed by f
abbrev pub update : ℕ → (Process → Process) → State → State
update p f s = with_process p (f (process_at s p)) s

-- Node 1 has depth 0; node v has children 2v (left) and 2v + 1 (right).
abbrev pub depth : ℕ → ℕ
depth v = log2 v

-- how many of l leaves lie under node u, and the first of them
unfoldable pub width : ℕ → ℕ → ℕ
width l u = l / 2 ^ depth u

unfoldable pub first_leaf : ℕ → ℕ → ℕ
first_leaf l u = (u - 2 ^ depth u) * width l u

-- the first name under node u, and how many lie there: g·b for each leaf
unfoldable pub node_first : Setup → ℕ → ℕ
node_first c u = first_leaf c.leaves u * (c.segments * c.bits)

unfoldable pub node_count : Setup → ℕ → ℕ
node_count c u = width c.leaves u * (c.segments * c.bits)

-- "Each counter starts at the number of open pads under its left child" (document 02, e): its fresh value.
abbrev pub fresh_counter : Setup → ℕ → ℕ
fresh_counter c v = open_in c (node_first c (2 * v)) (node_count c (2 * v))

-- Nodes below L carry a counter (nodes are 1 to 2L - 1); places that L leaves unused are fresh 0.
unfoldable pub fresh_counter_at : Setup → ℕ → ℕ
fresh_counter_at c v = cond (ltb 0 v && ltb v c.leaves) (fresh_counter c v) 0

-- places that N leaves unused are fresh 0
unfoldable pub fresh_process_at : Setup → ℕ → Process
fresh_process_at c p = cond (ltb p c.processes) fresh_process no_process

-- Gate word A starts "at all open pads" (document 02, e); the queue fresh empty; segment words (row words) fresh 0.
unfoldable pub fresh : Setup → State
fresh c =
    record {
      setup = c;
      gate = pos (open_names c);
      queued = 0;
      queue = replicate 64 0;
      counters = tabulate 16 (fresh_counter_at c);
      words = replicate 64 0;
      process = tabulate 64 (fresh_process_at c);
    }

-- The blank state, every number 0.
unfoldable pub blank : State
blank =
    record {
      setup = plain 0 0 0 0;
      gate = pos 0;
      queued = 0;
      queue = replicate 64 0;
      counters = replicate 16 0;
      words = replicate 64 0;
      process = replicate 64 no_process;
    }

-- A refused setup gives the number and the blank state.
abbrev pub setup_giving : Setup → State → Done
setup_giving c s = checked (setup_checks c) (λ a. done a blank) (done accepted s)

unfoldable pub setup : Setup → Done
setup c = setup_giving c (fresh c)

-- Counters are filled from node L - 1 up to node 1, and the setup's second form stops once so many are filled: node v is filled when
-- L - v is at most the count. The others are 0 (document 02, c).
unfoldable pub partial_counter_at : Setup → ℕ → ℕ → ℕ
partial_counter_at c count v = cond (leb (c.leaves - v) count) (fresh_counter_at c v) 0

-- All else is fresh. From a smaller count's state no list statement starts: each starts from `fresh c`, an accepted setup's own state,
-- and from a count of L - 1 on this is that state.
unfoldable pub partial : Setup → ℕ → State
partial c count = with_counters (tabulate 16 (partial_counter_at c count)) (fresh c)

-- The second form takes any count, and refuses as the setup does.
unfoldable pub partial_setup : Setup → ℕ → Done
partial_setup c count = setup_giving c (partial c count)

-- The arrays have the lengths that the record declares: a queue of 64, counters for 16 nodes, 64 segment words, 64 processes.
pub record Sized (s : State) : Type 0 where
  pub queue : length s.queue ≡ 64
  pub counters : length s.counters ≡ 16
  pub words : length s.words ≡ 64
  pub process : length s.process ≡ 64
