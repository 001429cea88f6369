-- Processes that claim one after the other, where none is closed. While process n claims, those before it work, each with its own number
-- for a name, and those after it are in their remainder section. So at most n + 1 are admitted, the gate is open to n, and the name that
-- it wins is n.
--     Others         where the other processes are
--     one, event_others    process n, and an event of it
--     none_closed    no name is closed in its state
--     gate_open      the gate is open to process n
--     own_name, own_steps    what process n holds, and what it cost
-- Assumes nothing.
use Prim.Native.Nat.{ℕ, zero, suc, ◌+◌, ◌*◌, ◌-◌, ◌/◌, ◌≤◌, ◌<◌}
use native.Mathlib.Decide.{ℕ_discrete, dec_lt}
use native.Mathlib.Nat.{div-lt_iff_lt-mul}
use lib.Arith.{digits_div}
use lib.IntN.{ℤ, pos, negsuc}
use Rattle.machine.proofs.Rules.{◌≡◌, ◌∙◌, sym, ap, subst, true, false, Bool, ◌≢◌, arith, lt-ltb, lt-leb}
use Rattle.machine.specs.Admitted.{is_admitted, admitted}
use Rattle.machine.specs.Below.{sum_below, indicator as ind}
use Rattle.machine.specs.Event.{event}
use Rattle.machine.specs.Gate.{above0}
use Rattle.machine.specs.Lists.{event_of}
use Rattle.machine.specs.Setup.{names, height}
use Rattle.machine.specs.Stage.{remainder, waiting, working}
use Rattle.machine.proofs.Laws.OnePlace.{others_unchanged, setup_unchanged}
use Rattle.machine.proofs.Laws.Plain.{open_all, rank_all}
use Rattle.renaming_claim.proofs.Bits.{bit_of}
use Rattle.renaming_claim.proofs.Facts.Sums.{ind_le, sum_le, sum_const, sum-zero, sum_split}
use Rattle.renaming_claim.proofs.Implies.{name_low, names_unlike}
use Rattle.renaming_claim.proofs.Invariant.{tally, beyond, GateWord, Stands}
use Rattle.renaming_claim.proofs.Mover.{Setup, Process, State, process_at, Sound, Mover, inv, shape, by_stage, own_range, limits}
use Rattle.renaming_claim.proofs.Preserved.{event_sound}

-- of n numbers at most m pass a test that none from m on passes
few : (n m : ℕ) (f : ℕ → Bool) → m ≤ n → ((y : ℕ) → m ≤ y → y < n → f y ≡ false) → sum_below n (λ y. ind (f y)) ≤ m
few n m f l none =
    let whole : m + (n - m) ≡ n = omega arith in
    let low = sum_le m (λ y. ind (f y)) (λ y. 1) (λ y _. ind_le (f y)) in
    let high = sum-zero (n - m) (λ i. ind (f (m + i))) (λ i k. rw (none (m + i) (omega arith) (omega arith))) in
    omega (arith, rw whole at (sum_split m (n - m) (λ y. ind (f y))), sum_const m 1)

few_admitted : (s : State) (m : ℕ) → m ≤ s.setup.processes
    → ((y : ℕ) → m ≤ y → y < s.setup.processes → (process_at s y).stage ≡ remainder) → admitted s ≤ m
unfolding admitted
few_admitted s m l home = few s.setup.processes m (is_admitted s) l (λ y k j. unfold is_admitted in rw (home y k j))

-- process y works, with its own number for a name
pub record HoldsAt (y stage name : ℕ) : Type 0 where
  pub at_work : stage ≡ working
  pub own : name ≡ y

module _ (c : Setup) (n : ℕ) where
  -- no name is closed, the invariant holds with every M above n; and where those before n and those behind it are
  pub record Others (s : State) : Type 0 where
    pub none : c.closed ≡ 0
    pub sound : (M : ℕ) → n < M → Sound M s
    pub setup : s.setup ≡ c
    pub before : (y : ℕ) → y < n → HoldsAt y (process_at s y).stage (process_at s y).name
    pub behind : (y : ℕ) → n < y → y < c.processes → (process_at s y).stage ≡ remainder

  module _ (ln : n < c.processes) where
    processes_are : {s : State} → Others s → s.setup.processes ≡ c.processes
    processes_are o = ap (λ (d : Setup). d.processes) o.setup

    pub one : {s : State} → Others s → Mover (suc n) s n
    one o = record { sound = o.sound (suc n) (omega arith); known = omega (arith, processes_are o) }

    pub event_others : {s : State} → Others s → (kind : ℕ) → Others (event s kind n).state
    event_others {s} o kind =
        record {
          none = o.none;
          sound = λ M l. event_sound (o.sound M l) (event_of kind n) (omega (arith, few_in));
          setup = same ∙ o.setup;
          before = λ y l. subst (λ (x : Process). HoldsAt y x.stage x.name) (sym (other y (λ e. omega arith))) (o.before y l);
          behind = home;
        }
      where
        same : (event s kind n).state.setup ≡ s.setup
        same = setup_unchanged s kind n

        other : (y : ℕ) → y ≢ n → process_at (event s kind n).state y ≡ process_at s y
        other = others_unchanged s kind n

        home : (y : ℕ) → n < y → y < c.processes → (process_at (event s kind n).state y).stage ≡ remainder
        home y k l = ap (λ (x : Process). x.stage) (other y (λ e. omega arith)) ∙ o.behind y k l

        few_in : admitted (event s kind n).state ≤ suc n
        few_in =
            let all : (event s kind n).state.setup.processes ≡ c.processes = ap (λ (d : Setup). d.processes) (same ∙ o.setup) in
            few_admitted (event s kind n).state (suc n) (omega arith) (λ y k l. home y k (omega arith))

    module _ {s : State} (o : Others s) where
      abbrev m : Mover (suc n) s n
      m = one o

      abbrev h : Process
      h = process_at s n

      pub none_closed : s.setup.closed ≡ 0
      none_closed = ap (λ (d : Setup). d.closed) o.setup ∙ o.none

      few_beyond : h.stage < waiting → tally s.setup beyond s.process ≤ n
      unfolding tally beyond
      few_beyond low =
          few s.setup.processes n (λ y. beyond (process_at s y)) (omega (arith, m.known)) (λ y k l. go y k l (ℕ_discrete y n))
        where
          go : (y : ℕ) → n ≤ y → y < s.setup.processes → Dec (y ≡ n) → beyond (process_at s y) ≡ false
          go y k l (yes e) = rw e (lt-leb waiting h.stage low)
          go y k l (no d) = rw (o.behind y (omega arith) (omega (arith, processes_are o)))

      pub gate_open : h.stage < waiting → n < names s.setup → above0 s.gate ≡ true
      unfolding above0
      gate_open low more = go s.gate (inv m).gate.word
        where
          go : (a : ℤ) → GateWord s.setup a (tally s.setup beyond s.process) s.queued → above0 a ≡ true
          go (pos zero) k = absurd (omega (arith, few_beyond low, more, k.0, open_all s.setup none_closed 0 (names s.setup)))
          go (pos (suc a)) k = lt-ltb 0 (suc a) (omega arith)
          go (negsuc a) k = absurd (omega (arith, few_beyond low, more, k.0, open_all s.setup none_closed 0 (names s.setup)))

      module _ (e : h.stage ≡ working) where
        -- the names below n are taken, and its own is below n + 1
        pub own_name : h.name ≡ n
        own_name = go (dec_lt h.name n)
          where
            go : Dec (h.name < n) → h.name ≡ n
            go (yes k) =
                absurd (names_unlike m e h.name (omega (arith, m.known)) (λ q. omega arith) (sym (o.before h.name k).own))
            go (no k) = omega (arith, name_low m e, rank_all s.setup none_closed h.name)

        -- name n lies in segment n div b of leaf 0
        own_segment : n < s.setup.segments * s.setup.bits → h.segment ≡ n / s.setup.bits
        own_segment inside =
            let b : ℕ = s.setup.bits in
            let stands : Stands s.setup h = (shape m).stands (by_stage m working e).named in
            let word : (h.node - s.setup.leaves) * s.setup.segments + h.segment ≡ n / b
            = sym (digits_div _ stands.within) ∙ ap (λ (x : ℕ). x / b) (sym stands.is ∙ own_name) in
            let first : n / b < s.setup.segments = (div-lt_iff_lt-mul {k = b} {x = n} {y = s.setup.segments} (limits m).b1).1 inside in
            bit_of s.setup.segments _ h.segment 0 (n / b) (own_range m).segment first (word ∙ omega arith)

        pub own_steps : n < c.segments * c.bits → h.steps ≡ height c.leaves + n / c.bits + 1
        own_steps inside =
            (by_stage m working e).steps
            ∙ ap (λ (x : ℕ). height s.setup.leaves + x + 1)
            (own_segment (subst (λ (d : Setup). n < d.segments * d.bits) (sym o.setup) inside))
            ∙ ap (λ (d : Setup). height d.leaves + n / d.bits + 1) o.setup
