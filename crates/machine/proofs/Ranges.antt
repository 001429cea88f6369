-- A state is in range exactly when each of its numbers is, as facts with a name: the tests read one by one, both ways.
--     numbers_of, limits_of, closed_of, answer_of     the setup's numbers, against refusals 1 to 5, 19 and 20
--     ranges_of, in_range_lem      a state's numbers, against `in_range`
-- Assumes nothing.
use mathlib.Core.List.{List}
use Prim.Native.Nat.{ℕ, ◌+◌, ◌*◌, ◌^◌, ◌≤◌, ◌<◌}
use native.Mathlib.Decide.{ℕ_discrete}
use lib.Dec.{eqb, ltb, leb}
use lib.ListN.{get_or}
use Rattle.machine.proofs.Rules.{◌≡◌, refl, true, false, or-true, ◌||◌, ◌&&◌, Bool, arith, lt-ltb, eq-eqb, le-leb}
use Rattle.machine.proofs.Rules.{le-ltb, eqb-true, ltb-false, ltb-true, ne_eqb, leb-true, eqb-false}
use Rattle.machine.specs.Below.{all_below}
use Rattle.machine.specs.Check.{all_of}
use Rattle.machine.specs.Closed.{is_open}
use Rattle.machine.specs.Operations.{bit}
use Rattle.machine.specs.Setup.{names, open_names, within, is_leaves, number_checks, setup_checks, number_answer, setup_answer}
use Rattle.machine.specs.Stage.{exhausted}
use Rattle.machine.specs.State.{none, figure, process_at, counter_at, word_at, fresh_counter}
use Rattle.machine.specs.Range.{gate_in_range, place_test, counter_test, word_test, closed_test, name_test, process_tests}
use Rattle.machine.specs.Range.{process_test, entry_tests, range_tests, in_range, OpenName, ProcessRanges}
use Rattle.machine.specs.declared.Process.{Process}
use Rattle.machine.specs.declared.Setup.{Setup}
use Rattle.machine.specs.declared.State.{State}
use Rattle.machine.proofs.Facts.Tests.{by_cond, both, and_left, and_right, all_of_lem}
use Rattle.machine.proofs.Facts.Below.{all_in, all_at}
use Rattle.machine.proofs.Facts.Checks.{all_passed, passed_with}

-- the four numbers of a setup, within their limits
pub record Limits (c : Setup) : Type 0 where
  pub n1 : 1 ≤ c.processes
  pub n64 : c.processes ≤ 64
  pub leaves : is_leaves c.leaves ≡ true
  pub g1 : 1 ≤ c.segments
  pub g8 : c.segments ≤ 8
  pub b1 : 1 ≤ c.bits
  pub b8 : c.bits ≤ 8
  pub k64 : names c ≤ 64

-- its closed names: below k, with one left open
pub record ClosedLimits (c : Setup) : Type 0 where
  pub inside : c.closed < 2 ^ names c
  pub some_open : 0 < open_names c

within_of : (low high n : ℕ) → within low high n ≡ true → (low ≤ n) × (n ≤ high)
within_of low high n e =
    (leb-true low n (and_left (leb low n) (leb n high) e), leb-true n high (and_right (leb low n) (leb n high) e))

within_in : (low high n : ℕ) → low ≤ n → n ≤ high → within low high n ≡ true
within_in low high n e f = both (le-leb low n e) (le-leb n high f)

pub numbers_of : (c : Setup) → number_answer c ≡ 0 → Limits c
unfolding number_answer
numbers_of c e =
    let p = all_passed (number_checks c) refl e in
    let n = within_of 1 64 c.processes p.0 in
    let g = within_of 1 8 c.segments p.1.1.0 in
    let b = within_of 1 8 c.bits p.1.1.1.0 in
    record {
      n1 = n.0;
      n64 = n.1;
      leaves = p.1.0;
      g1 = g.0;
      g8 = g.1;
      b1 = b.0;
      b8 = b.1;
      k64 = leb-true (names c) 64 p.1.1.1.1.0;
    }

pub limits_of : (c : Setup) → setup_answer c ≡ 0 → Limits c
unfolding setup_answer number_answer
limits_of c e =
    let p = all_passed (setup_checks c) refl e in
    numbers_of c
    (passed_with (number_checks c) (λ a. a) 0 (p.0, (p.1.0, (p.1.1.0, (p.1.1.1.0, (p.1.1.1.1.0, tt))))))

pub closed_of : (c : Setup) → setup_answer c ≡ 0 → ClosedLimits c
unfolding setup_answer
closed_of c e =
    let p = (all_passed (setup_checks c) refl e).1.1.1.1.1 in
    record { inside = ltb-true c.closed (2 ^ names c) p.0; some_open = ltb-true 0 (open_names c) p.1.0 }

pub answer_of : (c : Setup) → Limits c → ClosedLimits c → setup_answer c ≡ 0
unfolding setup_answer
answer_of c k z =
    passed_with (setup_checks c) (λ a. a) 0 (
      within_in 1 64 c.processes k.n1 k.n64,
      (
        k.leaves,
        (
          within_in 1 8 c.segments k.g1 k.g8,
          (
            within_in 1 8 c.bits k.b1 k.b8,
            (
              le-leb (names c) 64 k.k64,
              (lt-ltb c.closed (2 ^ names c) z.inside, (lt-ltb 0 (open_names c) z.some_open, tt)),
            ),
          ),
        ),
      ),
    )

-- the queue: at most 64 numbers, each below n, and 0 past its end
pub record QueueRanges (n queued : ℕ) (q : List ℕ) : Type 0 where
  pub size : queued ≤ 64
  pub entries : (i : ℕ) → i < queued → get_or q i 0 < n
  pub zeros : (i : ℕ) → queued ≤ i → i < 64 → get_or q i 0 ≡ 0

-- segment word r of a setup: of b bits, none of them closed and set
pub record WordRanges (c : Setup) (r w : ℕ) : Type 0 where
  pub size : w < 2 ^ c.bits
  pub shut : (i : ℕ) → i < c.bits → is_open c (r * c.bits + i) ≡ false → bit w i ≡ 0

pub record Ranges (s : State) : Type 0 where
  pub limits : Limits s.setup
  pub closed : ClosedLimits s.setup
  pub gate : gate_in_range (open_names s.setup) s.gate ≡ true
  pub queue : QueueRanges s.setup.processes s.queued s.queue
  pub counters : (v : ℕ) → 0 < v → v < s.setup.leaves → counter_at s v ≤ fresh_counter s.setup v
  pub words : (r : ℕ) → r < s.setup.leaves * s.setup.segments → WordRanges s.setup r (word_at s r)
  pub process : (p : ℕ) → p < s.setup.processes → ProcessRanges s.setup (process_at s p)

module _ (c : Setup) (m : ℕ) where
  name_of : (t : Bool) → (ltb m (names c) && is_open c m) ≡ t → (t || eqb m none) ≡ true → (m ≡ none → ⊥) → OpenName c m
  name_of true e h d =
      record {
        below = ltb-true m (names c) (and_left (ltb m (names c)) (is_open c m) e);
        not_closed = and_right (ltb m (names c)) (is_open c m) e;
      }
  name_of false e h d = absurd (d (eqb-true m none h))

  name_in : (t : Bool) → eqb m none ≡ t → ((m ≡ none → ⊥) → OpenName c m) → name_test c m ≡ true
  name_in true e h = rw e (or-true (ltb m (names c) && is_open c m))
  name_in false e h = let k = h (eqb-false m none e) in rw (lt-ltb m (names c) k.below, k.not_closed)

-- the closed bits of a word, one by one
module _ (c : Setup) (words : List ℕ) (r : ℕ) where
  shut_of : closed_test c words r ≡ true → (i : ℕ) → i < c.bits → is_open c (r * c.bits + i) ≡ false → bit (get_or words r 0) i ≡ 0
  shut_of t i l e = eqb-true _ 0 (rw e at (all_at c.bits (λ j. is_open c (r * c.bits + j) || eqb (bit (get_or words r 0) j) 0) t i l))

  shut_in : ((i : ℕ) → i < c.bits → is_open c (r * c.bits + i) ≡ false → bit (get_or words r 0) i ≡ 0) → closed_test c words r ≡ true
  shut_in h = all_in c.bits _ (λ i l. go i (is_open c (r * c.bits + i)) (h i l))
    where
      go : (i : ℕ) (t : Bool) → (t ≡ false → bit (get_or words r 0) i ≡ 0) → (t || eqb (bit (get_or words r 0) i) 0) ≡ true
      go i true z = refl
      go i false z = eq-eqb _ 0 (z refl)

module _ (c : Setup) (h : Process) where
  process_of_lem : process_test c h ≡ true → ProcessRanges c h
  process_of_lem e =
      let t = all_of_lem (process_tests c h) e in
      record {
        stage = leb-true h.stage exhausted (t 0);
        node1 = leb-true 1 h.node (t 1);
        node = ltb-true h.node (2 * c.leaves) (t 2);
        segment = ltb-true h.segment c.segments (t 3);
        name = name_of c h.name (ltb h.name (names c) && is_open c h.name) refl (t 4);
        shown = leb-true (figure h) 255 (t 5);
      }

  process_in : ProcessRanges c h → process_test c h ≡ true
  process_in k =
      both (le-leb h.stage exhausted k.stage)
      (both (le-leb 1 h.node k.node1)
      (both (lt-ltb h.node (2 * c.leaves) k.node)
      (both (lt-ltb h.segment c.segments k.segment)
      (both (name_in c h.name (eqb h.name none) refl k.name)
      (both (le-leb (figure h) 255 k.shown) refl)))))

module _ (n m : ℕ) (q : List ℕ) where
  queue_of : leb m 64 ≡ true → all_below 64 (place_test n m q) ≡ true → QueueRanges n m q
  queue_of e t =
      let size : m ≤ 64 = leb-true m 64 e in
      record {
        size = size;
        entries = λ i k. ltb-true _ _ (rw (lt-ltb i m k) at (all_at 64 (place_test n m q) t i (omega arith)));
        zeros = λ i k l. eqb-true _ _ (rw (le-ltb i m k) at (all_at 64 (place_test n m q) t i l));
      }

  place_in : QueueRanges n m q → (i : ℕ) → i < 64 → place_test n m q i ≡ true
  place_in k i l =
      by_cond (λ (t : Bool). t ≡ true) (ltb i m)
      (λ e. lt-ltb _ _ (k.entries i (ltb-true i m e)))
      (λ e. eq-eqb _ _ (k.zeros i (ltb-false i m e) l))

module _ (c : Setup) (v n : ℕ) where
  counter_of : 0 < v → counter_test c v n ≡ true → n ≤ fresh_counter c v
  counter_of k e = leb-true _ _ (rw (ne_eqb v 0 (λ q. omega arith)) at e)

  counter_in : (0 < v → n ≤ fresh_counter c v) → Dec (v ≡ 0) → counter_test c v n ≡ true
  counter_in k (yes e) = rw (eq-eqb v 0 e)
  counter_in k (no d) = rw (ne_eqb v 0 d) (le-leb _ _ (k (omega arith)))

module _ (s : State) where
  abbrev c : Setup
  c = s.setup

  pub ranges_of : in_range s ≡ true → Ranges s
  unfolding in_range
  ranges_of e =
      let all = all_of_lem (range_tests s) e in
      let t = all_of_lem (entry_tests c s.gate s.queued s.queue) (all 0) in
      record {
        limits = limits_of c (eqb-true _ 0 (t 0));
        closed = closed_of c (eqb-true _ 0 (t 0));
        gate = t 1;
        queue = queue_of c.processes s.queued s.queue (t 2) (t 3);
        counters = λ v k l. counter_of c v (counter_at s v) k (all_at c.leaves (λ u. counter_test c u (counter_at s u)) (all 1) v l);
        words = λ r l.
            record {
              size = ltb-true _ _ (all_at (c.leaves * c.segments) (word_test c s.words) (all 2) r l);
              shut = shut_of c s.words r (all_at (c.leaves * c.segments) (closed_test c s.words) (all 3) r l);
            };
        process = λ p l.
            process_of_lem c (process_at s p) (all_at c.processes (λ q. process_test c (process_at s q)) (all 4) p l);
      }

  entry_in : Ranges s → all_of (entry_tests c s.gate s.queued s.queue) ≡ true
  entry_in k =
      both (eq-eqb _ 0 (answer_of c k.limits k.closed))
      (both k.gate
      (both (le-leb s.queued 64 k.queue.size)
      (both (all_in 64 _ (place_in c.processes s.queued s.queue k.queue)) refl)))

  pub in_range_lem : Ranges s → in_range s ≡ true
  unfolding in_range
  in_range_lem k =
      both (entry_in k)
      (both (all_in c.leaves _ (λ v l. counter_in c v (counter_at s v) (λ z. k.counters v z l) (ℕ_discrete v 0)))
      (both (all_in (c.leaves * c.segments) _ (λ r l. lt-ltb _ _ (k.words r l).size))
      (both (all_in (c.leaves * c.segments) _ (λ r l. shut_in c s.words r (k.words r l).shut))
      (both (all_in c.processes _ (λ p l. process_in c (process_at s p) (k.process p l))) refl))))
