-- Document 02, c), said of the calls: what the second form of the setup gave, beside what the setup gave.
use Rattle.std.specs.Prelude.{◌≡◌, ◌≢◌, true, ℕ, ◌+◌, ◌-◌, ◌%◌, ◌≤◌, ◌<◌, length}
use Rattle.machine.specs.Lists.{after, journal_length}
use Rattle.machine.specs.Range.{in_range}
use Rattle.machine.specs.Setup.{plain}
use Rattle.machine.specs.State.{done, counter_at, with_counters, with_counter, blank}
use Rattle.machine.specs.declared.Done.{Done}
use Rattle.machine.specs.declared.Setup.{Setup}
use Rattle.whole_list.specs.Calls.{SetUp, PartlySetUp, ListCall, listed}

-- `setup(n, l, g, b)` gave d₀, and `partial_setup(n, l, g, b, count)` gave d; c is the setup of the four numbers, which closes none.
pub record Ordered (c : Setup) (count : ℕ) (d₀ d : Done) : Type 0 where
  -- A second form takes a count too, any number, refuses as the setup does,
  pub refused : d₀.answer ≢ 0 → d ≡ done d₀.answer blank
  pub accepted : d₀.answer ≡ 0 → d.answer ≡ 0
  -- and stops once that many counters are filled (node v is filled when L - v is at most the count):
  pub filled : d₀.answer ≡ 0 → (v : ℕ) → v < c.leaves → c.leaves - v ≤ count → counter_at d.state v ≡ counter_at d₀.state v
  -- the others are 0, which no counter is that the setup gives,
  pub others : d₀.answer ≡ 0 → (v : ℕ) → v < c.leaves → count < c.leaves - v → counter_at d.state v ≡ 0
  pub setup_above_0 : d₀.answer ≡ 0 → (v : ℕ) → 0 < v → v < c.leaves → 0 < counter_at d₀.state v
  -- all else is fresh.
  pub rest : d₀.answer ≡ 0 → with_counters d₀.state.counters d.state ≡ d₀.state
  -- From L - 1 on, its result is the setup's number for number.
  pub whole : c.leaves ≤ count + 1 → d ≡ d₀
  -- Counters from node L - 1 up to node 1: a count more fills the counter of node L - 1 - count, and changes no other number.
  pub next : d₀.answer ≡ 0 → count + 1 < c.leaves → (d₁ : Done)
      → PartlySetUp c.processes c.leaves c.segments c.bits (count + 1) d₁
      → d₁.state ≡ with_counter (c.leaves - 1 - count) (counter_at d₀.state (c.leaves - 1 - count)) d.state
  -- From a smaller count's state no list statement starts: it is not the setup's,
  pub smaller : d₀.answer ≡ 0 → count + 1 < c.leaves → d.state ≢ d₀.state
  -- but it is in range, so that every call answers it by the machine: a list that is even, with room for its journal, is carried out.
  pub within_ranges : d₀.answer ≡ 0 → in_range d.state ≡ true
  pub carried_out : d₀.answer ≡ 0 → (r : Done) (l : ListCall d.state r)
      → length l.bytes.now % 2 ≡ 0 → journal_length l.bytes.now ≤ length l.journal.now
      → r ≡ done 0 (after d.state (listed l))

abbrev pub EveryPartialSetup : Type 0
EveryPartialSetup =
    (n l g b count : ℕ) (d₀ d : Done) → SetUp n l g b d₀ → PartlySetUp n l g b count d → Ordered (plain n l g b) count d₀ d
