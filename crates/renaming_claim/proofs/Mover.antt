-- What is known of one process of a valid state that keeps the invariant, and of the counts and the shapes once it is another record.
--     Sound, Mover    such a state, and a process of it
--     by_stage        its shape at the stage it is in
--     unqueued        outside waiting it is not in the queue
--     counts          a store changes a count by two indicators
--     shapes_set, shapes_nameless    every shape, once the changed process has one, or has no name
-- It passes on the words that a statement about a mover is made of. Assumes nothing.
use mathlib.Core.List.{List}
use Prim.Native.Nat.{ℕ, ◌+◌, ◌≤◌, ◌<◌}
use lib.Dec.{eqb}
use lib.ListN.{length, set}
use lib.Seq.{get_or-set_same, get_or-set_other}
use Rattle.machine.proofs.Rules.{◌≡◌, sym, subst, Bool, ◌≢◌, arith, ne_eqb}
use Rattle.machine.specs.Below.{indicator as ind}
use Rattle.machine.specs.Range.{ProcessRanges}
pub use Rattle.machine.specs.declared.Setup.{Setup}
use Rattle.machine.specs.Stage.{waiting}
use Rattle.machine.specs.State.{none, no_process}
pub use Rattle.machine.specs.State.{process_at}
pub use Rattle.machine.specs.declared.Process.{Process}
pub use Rattle.machine.specs.declared.State.{State}
use Rattle.machine.proofs.Facts.Leaves.{leaves_high}
use Rattle.machine.proofs.Facts.Lists.{get_or-set_by}
use Rattle.machine.proofs.Places.{segments_64}
use Rattle.machine.proofs.Ranges.{Limits}
use Rattle.machine.proofs.Valid.{Valid}
use Rattle.renaming_claim.proofs.Facts.Sums.{ind_le, sum_change}
use Rattle.renaming_claim.proofs.Invariant.{at, tally, occurs, words, CostAt, ByStage, Shape, Invariant}

-- a valid state that keeps the invariant
pub record Sound (M : ℕ) (s : State) : Type 0 where
  pub valid : Valid s
  pub inv : Invariant M s

-- its process p
pub record Mover (M : ℕ) (s : State) (p : ℕ) : Type 0 where
  pub sound : Sound M s
  pub known : p < s.setup.processes

-- before the first step
pub no_cost : (c : Setup) (M : ℕ) → CostAt c M 0
no_cost c M = record { most = omega arith; tried = λ i k. absurd (omega arith) }

pub nameless_shape : (c : Setup) (M : ℕ) (x : Process) → x.name ≡ none → CostAt c M x.steps → ByStage c x.stage x → Shape c M x
nameless_shape c M x e cost by = record { stands = λ d. absurd (d e); low = λ d. absurd (d e); cost = cost; by = by }

module _ {M : ℕ} {s : State} {p : ℕ} (m : Mover M s p) where
  abbrev c : Setup
  c = s.setup

  abbrev h : Process
  h = process_at s p

  abbrev pub inv : Invariant M s
  inv = m.sound.inv

  pub shape : Shape c M h
  shape = inv.shapes p m.known

  pub by_stage : (n : ℕ) → h.stage ≡ n → ByStage c n h
  by_stage n e = subst (λ (x : ℕ). ByStage c x h) e shape.by

  pub in_range_lem : {q : ℕ} → q < c.processes → ProcessRanges c (process_at s q)
  in_range_lem {q} l = m.sound.valid.ranges.process q l

  pub own_range : ProcessRanges c h
  own_range = in_range_lem m.known

  pub limits : Limits c
  limits = m.sound.valid.ranges.limits

  pub leaves_16 : c.leaves ≤ 16
  leaves_16 = leaves_high c.leaves limits.leaves

  -- the arrays are long enough for every place in use
  processes_fit : c.processes ≤ length s.process
  processes_fit = omega (arith, limits.n64, m.sound.valid.sized.process)

  pub counters_fit : c.leaves ≤ length s.counters
  counters_fit = omega (arith, leaves_16, m.sound.valid.sized.counters)

  pub words_fit : words c ≤ length s.words
  words_fit = omega (arith, m.sound.valid.sized.words, segments_64 c limits.b1 limits.k64)

  pub unqueued : h.stage ≢ waiting → occurs s.queue s.queued p ≡ 0
  unqueued d =
      let none : ind (eqb h.stage waiting) ≡ 0 = rw (ne_eqb h.stage waiting d) in
      omega (arith, inv.gate.queue p)

  -- it becomes x
  module _ (x : Process) where
    abbrev pub stored : List Process
    stored = set s.process p x

    pub own_stored : at stored p ≡ x
    own_stored = get_or-set_same s.process p x no_process (omega (arith, processes_fit, m.known))

    pub other_stored : (q : ℕ) → q ≢ p → at stored q ≡ process_at s q
    other_stored q d = get_or-set_other s.process p q x no_process d

    module _ (test : Process → Bool) where
      pub counts : tally c test stored + ind (test h) ≡ tally c test s.process + ind (test x)
      unfolding tally
      counts =
          rw own_stored at (sum_change c.processes p (λ q. ind (test (process_at s q))) (λ q. ind (test (at stored q))) m.known
          (λ q k d. rw (other_stored q d)))

      pub counts_grow : tally c test stored ≤ tally c test s.process + 1
      counts_grow = omega (arith, counts, ind_le (test x))

    pub shapes_set : Shape c M x → (q : ℕ) → q < c.processes → Shape c M (at stored q)
    shapes_set k q l = get_or-set_by (Shape c M) s.process p x q no_process (λ _. k) (inv.shapes q l)

    pub shapes_nameless : (n : ℕ) → x.stage ≡ n → x.name ≡ none → CostAt c M x.steps → ByStage c n x
        → (q : ℕ) → q < c.processes → Shape c M (at stored q)
    shapes_nameless n e nameless cost by = shapes_set (nameless_shape c M x nameless cost (subst (λ (i : ℕ). ByStage c i x) (sym e) by))
