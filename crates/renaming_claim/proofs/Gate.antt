-- The gate word counts the open names less the processes past stage 1, and the queue holds those it has no name for, each once. So
-- at most as many are admitted as names are open. Kept by whoever enters, joins the queue, leaves, or stays on one side.
--     queue_is        a process is in the queue exactly when it occurs there
--     admitted_open   at most as many are admitted as names are open: past stage 1 are the admitted and the queued
--     gate_before, gate_past, gate_resume    the process stays before the gate, past it, or goes on once out of the queue
--     gate_enter, gate_join, gate_leave      it enters, joins the queue, leaves
-- Assumes nothing.
use mathlib.Core.List.{List}
use Prim.Native.Nat.{ℕ, zero, suc, ◌+◌, ◌-◌, ◌≤◌, ◌<◌}
use native.Mathlib.Decide.{ℕ_discrete, dec_lt}
use native.Mathlib.Nat.{add-zero}
use native.Mathlib.Numerals.{add-one}
use lib.Dec.{eqb, ltb, leb}
use lib.IntN.{ℤ, pos, negsuc, suc_ℤ, pred_ℤ}
use lib.ListN.{length, get_or, set}
use lib.Seq.{get_or-set_same, get_or-set_other}
use Rattle.machine.proofs.Rules.{sym, ◌≡◌, ◌∙◌, ap, refl, cond, false, Bool, not, ◌||◌, true, ◌&&◌}
use Rattle.machine.proofs.Rules.{false≢true, ◌≢◌, arith, lt-ltb, ne_eqb, le-leb, lt-leb, le-ltb}
use Rattle.machine.specs.Admitted.{is_admitted, admitted}
use Rattle.machine.specs.Below.{all_below, any_below, sum_below, indicator as ind}
use Rattle.machine.specs.Gate.{above0, among, in_queue, moved_up, head_gone}
use Rattle.machine.specs.Setup.{open_names}
use Rattle.machine.specs.Stage.{waiting, getname}
use Rattle.machine.proofs.Facts.Lists.{get_or_moved}
use Rattle.renaming_claim.proofs.Facts.Sums.{ind_le, sum_eq, sum-add, sum_const, sum_first, sum_swap, sum-found}
use Rattle.renaming_claim.proofs.Invariant.{at, tally, beyond, occurs, GateWord, Gate}
use Rattle.renaming_claim.proofs.Mover.{Setup, Process, State, process_at, Mover, inv}
use Rattle.renaming_claim.proofs.Mover.{unqueued, stored, own_stored, other_stored, counts}

any_is : (n : ℕ) (f : ℕ → Bool) → any_below n f ≡ ltb 0 (sum_below n (λ i. ind (f i)))
unfolding all_below sum_below
any_is zero f = refl
any_is (suc n) f = go (f n) (all_below n (λ i. not (f i))) (any_is n f)
  where
    go : (t a : Bool) → not a ≡ ltb 0 (sum_below n (λ i. ind (f i))) → not (not t && a) ≡ ltb 0 (sum_below n (λ i. ind (f i)) + ind t)
    go true a e = sym (lt-ltb 0 (sum_below n (λ i. ind (f i)) + 1) (omega arith))
    go false a e = rw add-zero e

pub queue_is : (s : State) (p : ℕ) → in_queue s p ≡ ltb 0 (occurs s.queue s.queued p)
unfolding among occurs
queue_is s p = any_is s.queued (λ i. eqb (get_or s.queue i 0) p)

occurs_join : (q : List ℕ) (n p x : ℕ) → n < length q → occurs (set q n p) (n + 1) x ≡ occurs q n x + ind (eqb p x)
unfolding occurs sum_below
occurs_join q n p x l =
    rw (add-one, get_or-set_same q n p 0 l)
    (ap (λ (y : ℕ). y + ind (eqb p x))
    (sum_eq n _ _ (λ i k. ap (λ (y : ℕ). ind (eqb y x)) (get_or-set_other q n i p 0 (λ e. omega arith)))))

-- nobody stands in the queue more often once its head is gone
occurs_gone : (s : State) (x : ℕ) → occurs (head_gone s).queue (s.queued - 1) x ≤ occurs s.queue s.queued x
unfolding head_gone
occurs_gone s x = go s.queued
  where
    q : List ℕ
    q = s.queue

    go : (n : ℕ) → occurs (cond (eqb n 0) q (moved_up q)) (n - 1) x ≤ occurs q n x
    go zero = omega arith
    go (suc n) =
        let less : suc n - 1 ≡ n = omega arith in
        rw (ne_eqb (suc n) 0 (λ e. omega arith), less)
        (unfold occurs moved_up in
        (omega (
          arith,
          sum_first n (λ i. ind (eqb (get_or q i 0) x)),
          sum_eq n (λ i. ind (eqb (get_or (moved_up q) i 0) x)) (λ i. ind (eqb (get_or q (suc i) 0) x))
              (λ i k. ap (λ (y : ℕ). ind (eqb y x)) (get_or_moved q i 0)),
        )))

-- each process past stage 1 is admitted or queued, and not both
one_beyond : (st o : ℕ) → o ≤ ind (eqb st waiting)
    → ind (leb waiting st) ≡ ind (leb getname st || (eqb st waiting && not (ltb 0 o))) + o
one_beyond st o few = go (ℕ_discrete st waiting) (dec_lt 0 o) (dec_lt st waiting)
  where
    go : Dec (st ≡ waiting) → Dec (0 < o) → Dec (st < waiting)
        → ind (leb waiting st) ≡ ind (leb getname st || (eqb st waiting && not (ltb 0 o))) + o
    go (yes e) (yes k) z = rw (e, lt-ltb 0 o k) (omega (arith, rw e at few))
    go (yes e) (no k) z = rw (e, le-ltb 0 o (omega arith)) (omega arith)
    go (no d) k (yes l) =
        rw (lt-leb waiting st l, lt-leb getname st (omega arith), ne_eqb st waiting d) (omega (arith, rw (ne_eqb st waiting d) at few))
    go (no d) k (no l) =
        rw (le-leb waiting st (omega arith), le-leb getname st (omega arith)) (omega (arith, rw (ne_eqb st waiting d) at few))

-- the queue's numbers, counted by process
occurs_all : (n m : ℕ) (q : List ℕ) → ((i : ℕ) → i < m → get_or q i 0 < n) → sum_below n (occurs q m) ≡ m
unfolding occurs
occurs_all n m q k =
    sum_swap n m (λ p i. ind (eqb (get_or q i 0) p))
    ∙ sum_eq m _ (λ i. 1) (λ i l. sum-found n (get_or q i 0) (k i l))
    ∙ sum_const m 1
    ∙ omega arith

module _ (s : State) (gt : Gate s.setup s.process s.gate s.queued s.queue)
    (entries : (i : ℕ) → i < s.queued → get_or s.queue i 0 < s.setup.processes) where
  beyond_is : tally s.setup beyond s.process ≡ admitted s + s.queued
  unfolding tally beyond admitted is_admitted
  beyond_is =
      let one-queued : ℕ → ℕ = occurs s.queue s.queued in
      let one_admitted : ℕ → ℕ = λ p. ind (is_admitted s p) in
      sum_eq _ _ (λ p. one_admitted p + one-queued p)
      (λ p l. rw (queue_is s p) (one_beyond (process_at s p).stage (one-queued p) (gt.queue p)))
      ∙ sum-add _ one_admitted one-queued
      ∙ ap (λ (x : ℕ). sum_below s.setup.processes one_admitted + x) (occurs_all _ s.queued s.queue entries)

  pub admitted_open : admitted s ≤ open_names s.setup
  admitted_open = go s.gate gt.word
    where
      go : (a : ℤ) → GateWord s.setup a (tally s.setup beyond s.process) s.queued → admitted s ≤ open_names s.setup
      go (pos a) k = omega (arith, beyond_is)
      go (negsuc a) k = omega (arith, beyond_is)

beyond_yes : (h : Process) → waiting ≤ h.stage → ind (beyond h) ≡ 1
unfolding beyond
beyond_yes h k = rw (le-leb waiting h.stage k)

beyond_no : (h : Process) → h.stage < waiting → ind (beyond h) ≡ 0
unfolding beyond
beyond_no h k = rw (lt-leb waiting h.stage k)

-- process p becomes x
module _ {M : ℕ} {s : State} {p : ℕ} (m : Mover M s p) (x : Process) where
  abbrev c : Setup
  c = s.setup

  abbrev h : Process
  h = process_at s p

  abbrev q : List ℕ
  q = s.queue

  abbrev n : ℕ
  n = s.queued

  abbrev before : ℕ
  before = tally c beyond s.process

  abbrev after : ℕ
  after = tally c beyond (stored m x)

  -- the queue afterwards, where nobody but p stands in it more often
  queue_after : (l : ℕ) (z : List ℕ) → ((r : ℕ) → r ≢ p → occurs z l r ≤ occurs q n r) → occurs z l p ≤ ind (eqb x.stage waiting)
      → (r : ℕ) → occurs z l r ≤ ind (eqb (at (stored m x) r).stage waiting)
  queue_after l z others own r = go (ℕ_discrete r p)
    where
      go : Dec (r ≡ p) → occurs z l r ≤ ind (eqb (at (stored m x) r).stage waiting)
      go (yes e) = rw (e, own_stored m x) own
      go (no d) = rw (other_stored m x r d) (omega (arith, others r d, (inv m).gate.queue r))

  keep : ind (beyond x) ≡ ind (beyond h) → occurs q n p ≡ 0 → Gate c (stored m x) s.gate n q
  keep e out =
      let same : after ≡ before = omega (arith, counts m x beyond) in
      record { word = rw same (inv m).gate.word; queue = queue_after n q (λ r d. omega arith) (omega arith) }

  pub gate_before : h.stage < waiting → x.stage < waiting → Gate c (stored m x) s.gate n q
  gate_before a z = keep (beyond_no x z ∙ sym (beyond_no h a)) (unqueued m (λ e. omega arith))

  pub gate_resume : waiting ≤ h.stage → waiting ≤ x.stage → occurs q n p ≡ 0 → Gate c (stored m x) s.gate n q
  gate_resume a z out = keep (beyond_yes x z ∙ sym (beyond_yes h a)) out

  pub gate_past : getname ≤ h.stage → waiting ≤ x.stage → Gate c (stored m x) s.gate n q
  gate_past a z = gate_resume (omega arith) z (unqueued m (λ e. omega arith))

  module _ (low : h.stage < waiting) (high : waiting ≤ x.stage) where
    risen : after ≡ before + 1
    risen = omega (arith, counts m x beyond, beyond_no h low, beyond_yes x high)

    out : occurs q n p ≡ 0
    out = unqueued m (λ e. omega arith)

    pub gate_enter : above0 s.gate ≡ true → Gate c (stored m x) (pred_ℤ s.gate) n q
    gate_enter free =
        record { word = go s.gate free (inv m).gate.word; queue = queue_after n q (λ r d. omega arith) (omega (arith, out)) }
      where
        go : (a : ℤ) → above0 a ≡ true → GateWord c a before n → GateWord c (pred_ℤ a) after n
        go (pos zero) e k = absurd (false≢true (unfold above0 in e))
        go (pos (suc y)) e k = (omega (arith, risen), k.1)
        go (negsuc y) e k = absurd (false≢true (unfold above0 in e))

    pub gate_join : above0 s.gate ≡ false → x.stage ≡ waiting → n < length q
        → Gate c (stored m x) (pred_ℤ s.gate) (n + 1) (set q n p)
    gate_join shut two room =
        record {
          word = go s.gate shut (inv m).gate.word;
          queue =
              queue_after (n + 1) (set q n p)
              (λ r d. rw (occurs_join q n p r room, ne_eqb p r (λ t. d (sym t))) (omega arith))
              (rw (two, occurs_join q n p p room, out) (omega (arith, ind_le (eqb p p))));
        }
      where
        go : (a : ℤ) → above0 a ≡ false → GateWord c a before n → GateWord c (pred_ℤ a) after (n + 1)
        go (pos zero) e k = (omega (arith, risen), omega (arith, k.1))
        go (pos (suc y)) e k = absurd (false≢true (sym e ∙ (unfold above0 in lt-ltb 0 (suc y) (omega arith))))
        go (negsuc y) e k = (omega (arith, risen), omega (arith, k.1))

  pub gate_leave : getname ≤ h.stage → x.stage < waiting → Gate c (stored m x) (suc_ℤ s.gate) (n - 1) (head_gone s).queue
  gate_leave high low =
      let out : occurs q n p ≡ 0 = unqueued m (λ e. omega arith) in
      record {
        word = go s.gate (inv m).gate.word;
        queue = queue_after (n - 1) (head_gone s).queue (λ r d. occurs_gone s r) (omega (arith, occurs_gone s p));
      }
    where
      fallen : after + 1 ≡ before
      fallen = omega (arith, counts m x beyond, beyond_yes h (omega arith), beyond_no x low)

      go : (a : ℤ) → GateWord c a before n → GateWord c (suc_ℤ a) after (n - 1)
      go (pos y) k = (omega (arith, fallen), omega (arith, k.1))
      go (negsuc zero) k = (omega (arith, fallen), omega (arith, k.1))
      go (negsuc (suc y)) k = (omega (arith, fallen), omega (arith, k.1))
