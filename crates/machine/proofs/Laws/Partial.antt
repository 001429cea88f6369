-- The setup that fills a part of its counters: node by node, the counter is the fresh one where the count reaches, and 0 elsewhere. So a
-- count more stores one counter, from a count of L - 1 on none is missing, and no counter is above its fresh value. Assumes nothing.
use mathlib.Core.List.{List}
use Prim.Native.Nat.{ℕ, ◌+◌, ◌-◌, ◌≤◌, ◌<◌}
use native.Mathlib.Decide.{dec_le, ℕ_discrete}
use lib.Dec.{ltb}
use lib.ListN.{set, replicate, length-replicate}
use Rattle.machine.proofs.Rules.{◌≡◌, ◌∙◌, sym, ap, refl, true, arith, le-ltb, lt-leb, le-leb, and-false}
use Rattle.machine.specs.Below.{tabulate}
use Rattle.machine.specs.Range.{in_range}
use Rattle.machine.specs.Setup.{setup_answer}
use Rattle.machine.specs.State.{done, counter_at, with_counters, with_counter, fresh_counter, fresh_counter_at, partial_counter_at}
use Rattle.machine.specs.State.{fresh, partial, setup, partial_setup, Sized}
use Rattle.machine.specs.declared.Setup.{Setup}
use Rattle.machine.proofs.Facts.Below.{length-tabulate, get_or_tabulate, get_or_constant}
use Rattle.machine.proofs.Facts.Leaves.{leaves_high}
use Rattle.machine.proofs.Facts.Tabulated.{by_place, tabulate_same, tabulate-set}
use Rattle.machine.proofs.Laws.Fresh.{fresh_at, fresh_in_range}
use Rattle.machine.proofs.Laws.Setup.{setup-accepted, setup-refused, partial-accepted, partial-refused}
use Rattle.machine.proofs.Ranges.{limits_of, ranges_of, in_range_lem}
use Rattle.machine.proofs.Sized.{fresh_sized}
use Rattle.machine.proofs.Stores.{set_counters}

module _ (c : Setup) (v : ℕ) where
  none_at : v ≤ 0 → fresh_counter_at c v ≡ 0
  unfolding fresh_counter_at
  none_at k = rw (le-ltb 0 v k)

  none_beyond : c.leaves ≤ v → fresh_counter_at c v ≡ 0
  unfolding fresh_counter_at
  none_beyond k = rw (le-ltb v c.leaves k, and-false (ltb 0 v))

  -- the count reaches node v, or does not
  filled_at : (count : ℕ) → c.leaves ≤ v + count → partial_counter_at c count v ≡ fresh_counter_at c v
  unfolding partial_counter_at
  filled_at count k = rw (le-leb (c.leaves - v) count (omega arith))

  zero_at : (count : ℕ) → v + count < c.leaves → partial_counter_at c count v ≡ 0
  unfolding partial_counter_at
  zero_at count k = rw (lt-leb (c.leaves - v) count (omega arith))

module _ (c : Setup) where
  abbrev pub counters : ℕ → List ℕ
  counters count = tabulate 16 (partial_counter_at c count)

  pub counters_none : replicate 16 0 ≡ counters 0
  counters_none =
      by_place 16 (partial_counter_at c 0) 0 (replicate 16 0) (length-replicate {A = ℕ} 16 0)
      (λ v _. get_or_constant {A = ℕ} 16 v 0 ∙ sym (go v (dec_le c.leaves (v + 0))))
    where
      go : (v : ℕ) → Dec (c.leaves ≤ v + 0) → partial_counter_at c 0 v ≡ 0
      go v (yes l) = filled_at c v 0 l ∙ none_beyond c v (omega arith)
      go v (no d) = zero_at c v 0 (omega (arith, d))

  pub counters_whole : (count : ℕ) → c.leaves ≤ count + 1 → counters count ≡ tabulate 16 (fresh_counter_at c)
  counters_whole count k =
      tabulate_same 16 (partial_counter_at c count) (fresh_counter_at c) 0 (λ v _. go v (dec_le c.leaves (v + count)))
    where
      go : (v : ℕ) → Dec (c.leaves ≤ v + count) → partial_counter_at c count v ≡ fresh_counter_at c v
      go v (yes l) = filled_at c v count l
      go v (no d) = zero_at c v count (omega (arith, d)) ∙ sym (none_at c v (omega (arith, d)))

  pub counters_next : (count v x : ℕ) → v + count + 1 ≡ c.leaves → 0 < v → v < 16 → x ≡ fresh_counter c v
      → set (counters count) v x ≡ counters (count + 1)
  counters_next count v x at low k e =
      tabulate-set 16 (partial_counter_at c count) (partial_counter_at c (count + 1)) v x k
      (e ∙ sym (filled_at c v (count + 1) (omega arith) ∙ fresh_at c v low (omega arith)))
      (λ j d. other j d (dec_le c.leaves (j + count)))
    where
      other : (j : ℕ) → (j ≡ v → ⊥) → Dec (c.leaves ≤ j + count) → partial_counter_at c count j ≡ partial_counter_at c (count + 1) j
      other j d (yes l) = filled_at c j count l ∙ sym (filled_at c j (count + 1) (omega arith))
      other j d (no l) = zero_at c j count (omega (arith, l)) ∙ sym (zero_at c j (count + 1) (omega (arith, l, d)))

module _ (c : Setup) (count : ℕ) where
  whole_state : c.leaves ≤ count + 1 → partial c count ≡ fresh c
  unfolding partial fresh
  whole_state k = ap (λ (cs : List ℕ). with_counters cs (fresh c)) (counters_whole c count k)

  -- only an accepted setup has counters to fill
  pub partial_is_setup : (setup_answer c ≡ 0 → c.leaves ≤ count + 1) → partial_setup c count ≡ setup c
  partial_is_setup k = go (ℕ_discrete (setup_answer c) 0)
    where
      go : Dec (setup_answer c ≡ 0) → partial_setup c count ≡ setup c
      go (yes e) = partial-accepted c count e ∙ ap (done 0) (whole_state (k e)) ∙ sym (setup-accepted c e)
      go (no d) = partial-refused c count d ∙ sym (setup-refused c d)

  pub partial_sized : Sized (partial c count)
  unfolding partial
  partial_sized =
      let s = fresh_sized c in
      record { queue = s.queue; counters = length-tabulate 16 (partial_counter_at c count); words = s.words; process = s.process }

  module _ (accepted : setup_answer c ≡ 0) where
    leaves_16 : c.leaves ≤ 16
    leaves_16 = leaves_high c.leaves (limits_of c accepted).leaves

    pub one_more_counter : count + 1 < c.leaves
        → partial c (count + 1) ≡ with_counter (c.leaves - 1 - count) (fresh_counter c (c.leaves - 1 - count)) (partial c count)
    unfolding partial
    one_more_counter k =
        let v : ℕ = c.leaves - 1 - count in
        ap (λ (cs : List ℕ). with_counters cs (fresh c))
        (sym (counters_next c count v (fresh_counter c v) (omega arith) (omega arith) (omega (arith, leaves_16)) refl))

    module _ (v : ℕ) (k : v < c.leaves) where
      counter_at_lem : counter_at (partial c count) v ≡ partial_counter_at c count v
      unfolding partial
      counter_at_lem = get_or_tabulate 16 (partial_counter_at c count) v 0 (omega (arith, leaves_16))

      pub filled_counter : c.leaves ≤ v + count → counter_at (partial c count) v ≡ counter_at (fresh c) v
      unfolding fresh
      filled_counter l =
          counter_at_lem ∙ filled_at c v count l ∙ sym (get_or_tabulate 16 (fresh_counter_at c) v 0 (omega (arith, leaves_16)))

      pub zero_counter : v + count < c.leaves → counter_at (partial c count) v ≡ 0
      zero_counter l = counter_at_lem ∙ zero_at c v count l

    pub partial_in_range : in_range (partial c count) ≡ true
    unfolding partial fresh
    partial_in_range =
        in_range_lem (partial c count)
        (set_counters (fresh c) (ranges_of (fresh c) (fresh_in_range c accepted)) (counters c count)
        (λ v low k. rw (counter_at_lem v k) (bound v low k (dec_le c.leaves (v + count)))))
      where
        bound : (v : ℕ) → 0 < v → v < c.leaves → Dec (c.leaves ≤ v + count) → partial_counter_at c count v ≤ fresh_counter c v
        bound v low k (yes l) = omega (arith, filled_at c v count l, fresh_at c v low k)
        bound v low k (no d) = omega (arith, zero_at c v count (omega (arith, d)))
