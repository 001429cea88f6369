-- Document 01, section State, and document 02, e): the range of each number. Only places that N, L and g use are looked at, and the
-- whole queue.
use Rattle.std.specs.Prelude.{◌≡◌, Bool, true, cond, ◌&&◌, ◌||◌, List, [], ◌∷◌, get_or}
use Rattle.std.specs.Prelude.{ℕ, ◌+◌, ◌*◌, ◌^◌, ◌≤◌, ◌<◌, leb, ltb, eqb, ℤ, pos, negsuc}
use Rattle.machine.specs.Below.{all_below}
use Rattle.machine.specs.Answer.{accepted}
use Rattle.machine.specs.Check.{all_of}
use Rattle.machine.specs.Closed.{is_open}
use Rattle.machine.specs.Operations.{bit}
use Rattle.machine.specs.Setup.{names, open_names, setup_answer}
use Rattle.machine.specs.Stage.{exhausted}
use Rattle.machine.specs.State.{none, figure, process_at, counter_at, fresh_counter}
use Rattle.machine.specs.declared.Process.{Process}
use Rattle.machine.specs.declared.Setup.{Setup}
use Rattle.machine.specs.declared.State.{State}

-- Gate word A, signed, -64 to k, the number of open names. (`negsuc n` is -(n + 1).)
unfoldable pub gate_in_range : ℕ → ℤ → Bool
gate_in_range k (pos n) = leb n k
gate_in_range k (negsuc n) = ltb n 64

-- The queue's numbers are each below N; places past its end are 0. (Place i of the queue q, of which m places are taken.)
abbrev pub place_test : ℕ → ℕ → List ℕ → ℕ → Bool
place_test n m q i = cond (ltb i m) (ltb (get_or q i 0) n) (eqb (get_or q i 0) 0)

-- A counter, from 0 to its fresh value; node 0 is none.
abbrev pub counter_test : Setup → ℕ → ℕ → Bool
counter_test c v n = eqb v 0 || leb n (fresh_counter c v)

-- Segment words (row words), each below 2^b.
abbrev pub word_test : Setup → List ℕ → ℕ → Bool
word_test c words r = ltb (get_or words r 0) (2 ^ c.bits)

-- "A closed bit set .. makes a state broken" (document 02, e). Bit i of segment word r stands for name r·b + i.
abbrev pub closed_test : Setup → List ℕ → ℕ → Bool
closed_test c words r = all_below c.bits (λ i. is_open c (r * c.bits + i) || eqb (bit (get_or words r 0) i) 0)

-- A name (pad), 0 to k - 1, or 255 for none; "a closed pad in a record" makes a state broken (document 02, e).
abbrev pub name_test : Setup → ℕ → Bool
name_test c m = (ltb m (names c) && is_open c m) || eqb m none

-- Stage 0 to 6; node 1 to 2L - 1; segment (row) 0 to g - 1; name. A sum of claim turns and return operations above 255 is outside its
-- range (document 02, b).
abbrev pub process_tests : Setup → Process → List Bool
process_tests c h =
    leb h.stage exhausted
    ∷ leb 1 h.node
    ∷ ltb h.node (2 * c.leaves)
    ∷ ltb h.segment c.segments
    ∷ name_test c h.name
    ∷ leb (figure h) 255
    ∷ []

abbrev pub process_test : Setup → Process → Bool
process_test c h = all_of (process_tests c h)

-- Every number in its range: the setup's, with an open name; the gate word and its queue of 0 to 64; nodes below L; segment words 0 to
-- L·g - 1; processes below N.
abbrev pub entry_tests : Setup → ℤ → ℕ → List ℕ → List Bool
entry_tests c gate queued queue =
    eqb (setup_answer c) accepted
    ∷ gate_in_range (open_names c) gate
    ∷ leb queued 64
    ∷ all_below 64 (place_test c.processes queued queue)
    ∷ []

abbrev pub range_tests : State → List Bool
range_tests s =
    all_of (entry_tests s.setup s.gate s.queued s.queue)
    ∷ all_below s.setup.leaves (λ v. counter_test s.setup v (counter_at s v))
    ∷ all_below (s.setup.leaves * s.setup.segments) (word_test s.setup s.words)
    ∷ all_below (s.setup.leaves * s.setup.segments) (closed_test s.setup s.words)
    ∷ all_below s.setup.processes (λ p. process_test s.setup (process_at s p))
    ∷ []

unfoldable pub in_range : State → Bool
in_range s = all_of (range_tests s)

-- a name below k that is open
pub record OpenName (c : Setup) (m : ℕ) : Type 0 where
  pub below : m < names c
  pub not_closed : is_open c m ≡ true

-- A process's numbers in the ranges of a setup: `process_tests` as facts with a name.
pub record ProcessRanges (c : Setup) (h : Process) : Type 0 where
  pub stage : h.stage ≤ exhausted
  pub node1 : 1 ≤ h.node
  pub node : h.node < 2 * c.leaves
  pub segment : h.segment < c.segments
  pub name : (h.name ≡ none → ⊥) → OpenName c h.name
  pub shown : figure h ≤ 255
