-- The setup's second form beside the setup, said of the calls: each call's contract gives the machine's setup, and the machine's laws say
-- the rest. Assumes nothing.
use Prim.Native.Nat.{ℕ, ◌+◌, ◌-◌, ◌≤◌, ◌<◌}
use Rattle.machine.proofs.Rules.{◌≡◌, ◌∙◌, sym, ap, refl, true, arith}
use Rattle.machine.specs.Range.{in_range}
use Rattle.machine.specs.Setup.{plain, setup_answer}
use Rattle.machine.specs.State.{counter_at, with_counter, fresh_counter, fresh, partial, partial_setup}
use Rattle.machine.specs.declared.Done.{Done}
use Rattle.machine.specs.declared.Setup.{Setup}
use Rattle.machine.specs.declared.State.{State}
use Rattle.machine.proofs.Laws.Fresh.{counter_fresh}
use Rattle.machine.proofs.Laws.Partial.{partial_is_setup, one_more_counter, filled_counter, zero_counter, partial_in_range}
use Rattle.machine.proofs.Laws.Plain.{counter_low}
use Rattle.machine.proofs.Laws.Setup.{setup-answers, partial-answers, partial-refused, partial-accepted}
use Rattle.machine.proofs.Ranges.{limits_of}
use Rattle.whole_list.specs.Calls.{PartlySetUp, by_setup}
use Rattle.whole_list.specs.Order.{EveryPartialSetup}
use Rattle.whole_list.proofs.Accepted.{passed, is_fresh, list_is, run_carried_out}

pub partial_setups : EveryPartialSetup
partial_setups n l g b count d₀ d set part =
    record {
      refused = λ r. rw answers (made ∙ partial-refused c count (λ z. r (answers ∙ z)));
      accepted = λ a. ap (λ (x : Done). x.answer) made ∙ partial-answers c count ∙ pass a;
      filled = λ a v k l. rw (here a, whole_is a) (filled_counter c count (pass a) v k (omega arith));
      others = λ a v k l. rw (here a) (zero_counter c count (pass a) v k (omega arith));
      setup_above_0 = λ a v low k. omega (arith, setup_counter a v low k, above_0 a v low k);
      rest = λ a. rw (here a, whole_is a) (unfold partial fresh in refl);
      whole = λ k. made ∙ partial_is_setup c count (λ _. k) ∙ sym (set.gave ∙ set.learnt);
      next = λ a k d₁ more.
          let v : ℕ = c.leaves - 1 - count in
          part_is (count + 1) d₁ more a
          ∙ one_more_counter c count (pass a) k
          ∙ ap (λ (n : ℕ). with_counter v n (partial c count)) (sym (setup_counter a v (omega arith) (omega arith)))
          ∙ ap (with_counter v (counter_at d₀.state v)) (sym (here a));
      smaller = λ a k e.
          omega (
            arith,
            ap (λ (s : State). counter_at s 1) (sym (here a) ∙ e),
            zero_counter c count (pass a) 1 (omega arith) (omega arith),
            setup_counter a 1 (omega arith) (omega arith),
            above_0 a 1 (omega arith) (omega arith),
          );
      within_ranges = ranged;
      carried_out = λ a r l even room. list_is l ∙ run_carried_out d.state l.bytes.now l.journal.now even room (ranged a);
    }
  where
    c : Setup
    c = plain n l g b

    made : d ≡ partial_setup c count
    made = part.gave ∙ part.learnt

    answers : d₀.answer ≡ setup_answer c
    answers = ap (λ (x : Done). x.answer) (set.gave ∙ set.learnt) ∙ setup-answers c

    pass : d₀.answer ≡ 0 → setup_answer c ≡ 0
    pass = passed c d₀ (by_setup n l g b d₀ set)

    whole_is : d₀.answer ≡ 0 → d₀.state ≡ fresh c
    whole_is = is_fresh c d₀ (by_setup n l g b d₀ set)

    setup_counter : d₀.answer ≡ 0 → (v : ℕ) → 0 < v → v < c.leaves → counter_at d₀.state v ≡ fresh_counter c v
    setup_counter a v low k = ap (λ (s : State). counter_at s v) (whole_is a) ∙ counter_fresh c (pass a) v low k

    -- no counter of a setup that closes none is 0
    above_0 : d₀.answer ≡ 0 → (v : ℕ) → 0 < v → v < c.leaves → 1 ≤ fresh_counter c v
    above_0 a v low k = let m = limits_of c (pass a) in counter_low c refl m.leaves v low k m.g1 m.b1

    part_is : (m : ℕ) (e : Done) → PartlySetUp n l g b m e → d₀.answer ≡ 0 → e.state ≡ partial c m
    part_is m e is a = ap (λ (x : Done). x.state) (is.gave ∙ is.learnt ∙ partial-accepted c m (pass a))

    here : d₀.answer ≡ 0 → d.state ≡ partial c count
    here = part_is count d part

    ranged : d₀.answer ≡ 0 → in_range d.state ≡ true
    ranged a = rw (here a) (partial_in_range c count (pass a))
