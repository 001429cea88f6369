-- Stage 3: a getname step stays in range exactly when its figure has room for one step more. Node, segment, name, counter and word stay
-- in range whatever the step does. Assumes nothing.
use Prim.Native.Nat.{ℕ, ◌+◌, ◌*◌, ◌≤◌, ◌<◌}
use lib.Arith.{digits_lt}
use lib.Dec.{ltb}
use lib.ListN.{length}
use Rattle.machine.proofs.Rules.{◌≡◌, ◌∙◌, sym, true, arith, lt-ltb, ltb-false, ltb-true}
use Rattle.machine.specs.Closed.{is_open, closed_word}
use Rattle.machine.specs.Getname.{moved, claimed, side, outcome, segment_of, descend, probe, getname_step}
use Rattle.machine.specs.Operations.{set_first_zero, bounded_decrement}
use Rattle.machine.specs.Range.{in_range, ProcessRanges}
use Rattle.machine.specs.Room.{getname_room}
use Rattle.machine.specs.State.{figure, process_at, counter_at, word_at, fresh_counter, with_counter, with_word, update}
use Rattle.machine.specs.declared.ClaimStep.{ClaimStep}
use Rattle.machine.specs.declared.ClaimStep.TheVariants.{NextSegment, Exhausted}
use Rattle.machine.specs.declared.State.{State}
use Rattle.machine.proofs.Closed.{closed_word_lem, shut_bit, bit_open}
use Rattle.machine.proofs.Facts.Tests.{by_cond, same_test}
use Rattle.machine.proofs.Facts.Words.{first_zero_open, set_first_zero_lt, set_first_zero_closed, decremented_le}
use Rattle.machine.proofs.Own.{claimed_returns}
use Rattle.machine.proofs.Places.{leaf_segment}
use Rattle.machine.proofs.Ranges.{WordRanges, Ranges, ranges_of, in_range_lem}
use Rattle.machine.proofs.Stores.{new_stage, new_node, own_record, store_process, store_counter, store_word}

-- a step whose other numbers are in range has room exactly when its figure has
claim_room : (t : State) (p : ℕ) → Ranges t → p < t.setup.processes → length t.process ≡ 64 → (c : ClaimStep)
    → ProcessRanges t.setup (moved c (process_at t p))
    → in_range (update p (claimed c) t) ≡ getname_room t p
claim_room t p k kp e c m =
    same_test _ (getname_room t p)
    (λ i.
    let own = rw (own_record t k p (claimed c (process_at t p)) kp e) at ((ranges_of (update p (claimed c) t) i).process p kp) in
    lt-ltb (figure (process_at t p)) 255 (omega (arith, own.shown, claimed_returns c (process_at t p))))
    (λ i.
    in_range_lem _
    (store_process t k p _
    (record {
      stage = m.stage;
      node1 = m.node1;
      node = m.node;
      segment = m.segment;
      name = m.name;
      shown = omega (arith, ltb-true (figure (process_at t p)) 255 i, claimed_returns c (process_at t p));
    })))

module _ (s : State) (p : ℕ) (k : Ranges s) (kp : p < s.setup.processes) (sized : length s.process ≡ 64) where
  h : ProcessRanges s.setup (process_at s p)
  h = k.process p kp

  -- the process as a getname step leaves it, but for its steps
  abbrev InRange : ClaimStep → Type 0
  InRange c = ProcessRanges s.setup (moved c (process_at s p))

  side_ranges : (old : ℕ) → (process_at s p).node < s.setup.leaves → InRange (side (process_at s p).node old)
  unfolding side
  side_ranges old l =
      by_cond InRange (ltb 0 old)
      (λ _. new_node _ (omega (arith, h.node1)) (omega arith) h)
      (λ _. new_node _ (omega arith) (omega arith) h)

  outcome_ranges : (r m : ℕ) → r < s.setup.leaves * s.setup.segments
      → (m < s.setup.bits → is_open s.setup (r * s.setup.bits + m) ≡ true)
      → InRange (outcome s.setup r (process_at s p).segment m)
  unfolding outcome
  outcome_ranges r m l o =
      by_cond InRange (ltb m s.setup.bits)
      (λ e.
      record {
        stage = omega arith;
        node1 = h.node1;
        node = h.node;
        segment = h.segment;
        name = λ _.
            let low : m < s.setup.bits = ltb-true m s.setup.bits e in record { below = digits_lt l low; not_closed = o low };
        shown = h.shown;
      })
      (λ _.
      by_cond InRange (ltb ((process_at s p).segment + 1) s.setup.segments)
      {x = NextSegment ((process_at s p).segment + 1)} {y = Exhausted}
      (λ e. record { stage = h.stage; node1 = h.node1; node = h.node; segment = ltb-true _ _ e; name = h.name; shown = h.shown })
      (λ _. new_stage 6 (omega arith) h))

  descend_room : (process_at s p).node < s.setup.leaves → in_range (descend s p) ≡ getname_room s p
  unfolding descend
  descend_room l =
      let v : ℕ = (process_at s p).node in
      let c = bounded_decrement (counter_at s v) in
      let low : c.word ≤ fresh_counter s.setup v = omega (arith, decremented_le (counter_at s v), k.counters v h.node1 l) in
      claim_room (with_counter v c.word s) p (store_counter s k v c.word low) kp sized (side v c.answer) (side_ranges c.answer l)

  probe_room : s.setup.leaves ≤ (process_at s p).node → in_range (probe s p) ≡ getname_room s p
  unfolding probe
  probe_room e =
      let r : ℕ = segment_of s.setup (process_at s p) in
      let l : r < s.setup.leaves * s.setup.segments = leaf_segment h e in
      let b : ℕ = s.setup.bits in
      let x : ℕ = closed_word s.setup r in
      let w = set_first_zero b x (word_at s r) in
      let new : WordRanges s.setup r w.word
      = record {
        size = set_first_zero_lt b x (word_at s r) (k.words r l).size;
        shut = λ i m o.
            set_first_zero_closed b x (word_at s r) i (closed_word_lem s.setup r i m ∙ shut_bit s.setup (r * b + i) o)
            ((k.words r l).shut i m o);
      } in
      claim_room (with_word r w.word s) p (store_word s k r w.word new) kp sized
      (outcome s.setup r (process_at s p).segment w.answer)
      (outcome_ranges r w.answer l
      (λ m. bit_open s.setup _ (sym (closed_word_lem s.setup r _ m) ∙ (unfold set_first_zero in first_zero_open b x (word_at s r) m))))

  pub getname_room_lem : in_range (getname_step s p) ≡ getname_room s p
  unfolding getname_step
  getname_room_lem =
      by_cond (λ (t : State). in_range t ≡ getname_room s p) (ltb (process_at s p).node s.setup.leaves)
      (λ e. descend_room (ltb-true _ _ e))
      (λ e. probe_room (ltb-false _ _ e))
