-- Document 01, section State: the places that one event touches, and what it means that places left unused are never read.
use Rattle.std.specs.Prelude.{◌≡◌, List, ℕ, ◌*◌, ◌<◌, ℤ, length, get_or}
use Rattle.machine.specs.State.{no_process, with_gate, with_queue, with_counter, with_word, with_process, rebuilt}
use Rattle.machine.specs.declared.Done.{Done}
use Rattle.machine.specs.declared.Process.{Process}
use Rattle.machine.specs.declared.Setup.{Setup}
use Rattle.machine.specs.declared.State.{State}

-- An event of process p takes s to a state in which nothing changed, or its own record alone, or that and one shared place that
-- the setup uses: the gate word with its queue, the counter of one node, or one segment word.
pub data Touches (s : State) (p : ℕ) : State → Type 0 where
  nothing : Touches s p s
  own : (h : Process) → Touches s p (with_process p h s)
  gate : (h : Process) (a : ℤ) (n : ℕ) (q : List ℕ) → (length s.queue ≡ 64 → length q ≡ 64)
      → Touches s p (with_process p h (with_queue n q (with_gate a s)))
  counter : (h : Process) (v c : ℕ) → 0 < v → v < s.setup.leaves → Touches s p (with_process p h (with_counter v c s))
  word : (h : Process) (r w : ℕ) → r < s.setup.leaves * s.setup.segments → Touches s p (with_process p h (with_word r w s))

-- two lists of one length that agree at the places in use
pub record Agrees {A : Type 0} (d : A) (used : ℕ → Type 0) (l l' : List A) : Type 0 where
  pub at : (i : ℕ) → used i → get_or l' i d ≡ get_or l i d
  pub size : length l' ≡ length l

-- the arrays in which a setup may leave places unused; those of a state, and a state with others
pub record Arrays : Type 0 where
  pub counters : List ℕ
  pub words : List ℕ
  pub process : List Process

abbrev pub arrays_of : State → Arrays
arrays_of s = record { counters = s.counters; words = s.words; process = s.process }

abbrev pub with_arrays : Arrays → State → State
with_arrays a s = rebuilt s.gate s.queued s.queue a.counters a.words a.process s

-- arrays that agree at every place that a setup uses
pub record Fits (c : Setup) (a a' : Arrays) : Type 0 where
  pub counters : Agrees 0 (λ v. (0 < v) × (v < c.leaves)) a.counters a'.counters
  pub words : Agrees 0 (λ r. r < c.leaves * c.segments) a.words a'.words
  pub process : Agrees no_process (λ p. p < c.processes) a.process a'.process

-- States that differ only in places that N, L and g leave unused: t has other arrays than s, which agree there with those of s.
pub data Alike (s : State) : State → Type 0 where
  alike : (a : Arrays) → Fits s.setup (arrays_of s) a → Alike s (with_arrays a s)

-- one answer, and states that are alike
pub record Same (d e : Done) : Type 0 where
  pub answer : e.answer ≡ d.answer
  pub states : Alike d.state e.state
