-- The run of the list: process n requests, passes the gate, and after h + n div b + 1 steps in getname it works with name n; no sooner,
-- since its steps would then be fewer than name n costs, and no later, since its steps would be more than a claim can cost where n + 1
-- are admitted. No event of it is refused. By induction on the steps, and on the processes.
--     Ready, Claimed    process n may set out; it has claimed
--     claim-run         the claim of process n
--     claims_run        those of the first n
-- Assumes nothing.
use mathlib.Core.List.{List, [], ◌∷◌, ◌++◌}
use Prim.Native.Nat.{ℕ, zero, suc, ◌+◌, ◌*◌, ◌-◌, ◌/◌, ◌≤◌, ◌<◌, min}
use native.Mathlib.Decide.{ℕ_discrete}
use native.Mathlib.Nat.{mul-le-mul_right}
use lib.ListN.{length, replicate, length-append, replicate-append-replicate}
use Rattle.machine.proofs.Rules.{◌≡◌, ◌∙◌, sym, ap, refl, true, ◌⊎◌, ⊎_elim, arith, eq-eqb}
use Rattle.machine.specs.Event.{event}
use Rattle.machine.specs.Gate.{above0}
use Rattle.machine.specs.Kind.{request, step}
use Rattle.machine.specs.Lists.{Event, event_of, event_done, after, answers}
use Rattle.machine.specs.Setup.{names, setup_answer, height}
use Rattle.machine.specs.Stage.{remainder, entry, getname, working}
use Rattle.machine.specs.State.{fresh_process, with_stage, fresh}
use Rattle.machine.specs.declared.Done.{Done}
use Rattle.machine.proofs.Facts.Leaves.{leaves_low}
use Rattle.machine.proofs.Laws.Fresh.{process_fresh}
use Rattle.machine.proofs.Laws.Parts.{after_parts, answers_parts}
use Rattle.renaming_claim.specs.Claim.{after_list}
use Rattle.renaming_claim.specs.History.{step_of}
use Rattle.renaming_claim.proofs.Cost.{one_more}
use Rattle.renaming_claim.proofs.Implies.{not-exhausted}
use Rattle.renaming_claim.proofs.Mover.{Setup, Process, State, process_at, Mover, limits}
use Rattle.renaming_claim.proofs.Start.{start_sound}
use Rattle.renaming_claim.proofs.Steps.{claim-accepted, claim_steps_lem, claim_next}
use Rattle.dearest_claim.specs.Dearest.{steps_of, claim, claims}
use Rattle.dearest_claim.proofs.Cost.{cost_most}
use Rattle.dearest_claim.proofs.Entered.{request-accepted, requested, enter-accepted, entered}
use Rattle.dearest_claim.proofs.Others.{HoldsAt, Others, one, event_others, gate_open, own_name, own_steps, none_closed}

-- no event of a list is refused
abbrev pub Accepted : State → List Event → Type 0
Accepted s es = answers s es ≡ replicate (length es) 0

accepted_first : (s : State) (e : Event) (es : List Event) → (event_done s e).answer ≡ 0 → Accepted (event_done s e).state es
    → Accepted s (e ∷ es)
unfolding answers
accepted_first s e es now later = rw (now, later)

pub accepted_both : (s : State) (es fs : List Event) → Accepted s es → Accepted (after s es) fs → Accepted s (es ++ fs)
accepted_both s es fs first later =
    answers_parts s es fs
    ∙ rw (first, later) (replicate-append-replicate (length es) (length fs) 0)
    ∙ ap (λ (n : ℕ). replicate n 0) (sym (length-append es fs))

module _ (c : Setup) (n : ℕ) where
  pub record Ready (s : State) : Type 0 where
    pub others : Others c n s
    pub home : (process_at s n).stage ≡ remainder

  pub record Claimed (s : State) : Type 0 where
    pub others : Others c n s
    pub holds : (process_at s n).stage ≡ working
    pub own : (process_at s n).name ≡ n
    pub steps : (process_at s n).steps ≡ height c.leaves + n / c.bits + 1

-- the next process may set out
next : (c : Setup) (n : ℕ) {s : State} → Claimed c n s → suc n < c.processes → Ready c (suc n) s
next c n {s} k l =
    record {
      others =
          record {
            none = k.others.none;
            sound = λ M j. k.others.sound M (omega arith);
            setup = k.others.setup;
            before = λ y j. go y j (ℕ_discrete y n);
            behind = λ y j. k.others.behind y (omega arith);
          };
      home = k.others.behind (suc n) (omega arith) l;
    }
  where
    go : (y : ℕ) → y < suc n → Dec (y ≡ n) → HoldsAt y (process_at s y).stage (process_at s y).name
    go y j (yes e) = rw e (record { at_work = k.holds; own = k.own })
    go y j (no d) = k.others.before y (omega arith)

module _ (c : Setup) (n : ℕ) (ln : n < c.processes) (inside : n < c.segments * c.bits) where
  -- its steps in getname
  abbrev all : ℕ
  all = height c.leaves + n / c.bits + 1

  -- it is in getname and has taken j steps there
  record Claiming (j : ℕ) (s : State) : Type 0 where
    others : Others c n s
    stage : (process_at s n).stage ≡ getname
    steps : (process_at s n).steps ≡ j

  abbrev turn : Event
  turn = event_of step n

  is_turn : step_of n turn ≡ true
  is_turn = rw (eq-eqb n n refl)

  -- with n + 1 admitted
  fewer : {j : ℕ} {s : State} → Claiming j s → j < all
  fewer {j} {s} k =
      let m : Mover (suc n) s n = one c n ln k.others in
      let b1 = (limits m).b1 in
      let less : suc n - 1 ≡ n = omega arith in
      let here : (process_at s n).steps + 1 ≤ height s.setup.leaves + min s.setup.segments (1 + n / s.setup.bits)
      = rw less at (cost_most s.setup (suc n) (none_closed c n ln k.others) b1 (one_more m k.stage)) in
      omega (arith, k.steps, rw k.others.setup at here)

  -- a step that is not the last, and the last
  module _ {j : ℕ} {s : State} (k : Claiming j s) where
    m : Mover (suc n) s n
    m = one c n ln k.others

    others_after : Others c n (event s step n).state
    others_after = event_others c n ln k.others step

    steps_after : (process_at (event s step n).state n).steps ≡ suc j
    steps_after = claim_steps_lem m k.stage turn is_turn ∙ ap suc k.steps

    outcome : ((process_at (event s step n).state n).stage ≡ working) ⊎ ((process_at (event s step n).state n).stage ≡ getname)
    outcome = claim_next m k.stage turn is_turn (not-exhausted (one c n ln others_after))

    still : (process_at (event s step n).state n).stage ≡ getname → Claiming (suc j) (event s step n).state
    still e = record { others = others_after; stage = e; steps = steps_after }

    goes_on : suc j < all → Claiming (suc j) (event s step n).state
    goes_on l = ⊎_elim (λ e. absurd (omega (arith, own_steps c n ln others_after e inside, steps_after))) still outcome

    wins : suc j ≡ all → Claimed c n (event s step n).state
    wins l = ⊎_elim won (λ e. absurd (omega (arith, fewer (still e)))) outcome
      where
        won : (process_at (event s step n).state n).stage ≡ working → Claimed c n (event s step n).state
        won e =
            record {
              others = others_after;
              holds = e;
              own = own_name c n ln others_after e;
              steps = own_steps c n ln others_after e inside;
            }

    answered : (event s step n).answer ≡ 0
    answered = ap (λ (d : Done). d.answer) (claim-accepted m k.stage)

  steps_run : (k j : ℕ) (s : State) → j + suc k ≡ all → Claiming j s
      → Claimed c n (after s (replicate (suc k) turn)) × Accepted s (replicate (suc k) turn)
  unfolding after answers
  steps_run zero j s e k = (wins k (omega arith), accepted_first s turn [] (answered k) refl)
  steps_run (suc i) j s e k =
      let r = steps_run i (suc j) (event s step n).state (omega arith) (goes_on k (omega arith)) in
      (r.0, accepted_first s turn (replicate (suc i) turn) (answered k) r.1)

  pub claim-run : {s : State} → Ready c n s → Claimed c n (after s (claim c n)) × Accepted s (claim c n)
  unfolding after
  claim-run {s} r =
      let m : Mover (suc n) s n = one c n ln r.others in
      let s1 : State = (event s request n).state in
      let o1 : Others c n s1 = event_others c n ln r.others request in
      let m1 : Mover (suc n) s1 n = one c n ln o1 in
      let asked : process_at s1 n ≡ with_stage entry fresh_process = requested m r.home in
      let asking : (process_at s1 n).stage ≡ entry = ap (λ (x : Process). x.stage) asked in
      let free : above0 s1.gate ≡ true = gate_open c n ln o1 (omega (arith, asking)) (more o1) in
      let s2 : State = (event s1 step n).state in
      let inn : process_at s2 n ≡ with_stage getname (process_at s1 n) = entered m1 asking free in
      let k : Claiming 0 s2
      = record {
        others = event_others c n ln o1 step;
        stage = ap (λ (x : Process). x.stage) inn;
        steps = ap (λ (x : Process). x.steps) inn ∙ ap (λ (x : Process). x.steps) asked;
      } in
      let left : ℕ = height c.leaves + n / c.bits in
      let count : steps_of c n ≡ suc (suc left) = omega arith in
      let rest = steps_run left 0 s2 (omega arith) k in
      let first : (event s request n).answer ≡ 0 = ap (λ (d : Done). d.answer) (request-accepted m r.home) in
      let second : (event s1 step n).answer ≡ 0 = ap (λ (d : Done). d.answer) (enter-accepted m1 asking free) in
      rw count (
        rest.0,
        accepted_first s (event_of request n) (replicate (suc (suc left)) turn) first
            (accepted_first s1 turn (replicate (suc left) turn) second rest.1),
      )
    where
      -- there are more than n names
      more : {t : State} → Others c n t → n < names t.setup
      more {t} o =
          let l1 : 1 ≤ c.leaves = leaves_low c.leaves (rw o.setup at (limits (one c n ln o)).leaves) in
          rw o.setup (omega (arith, mul-le-mul_right (c.segments * c.bits) l1))

module _ (c : Setup) (none : c.closed ≡ 0) (accepted : setup_answer c ≡ 0) where
  pub claims_run : (n : ℕ) → n < c.processes → n < c.segments * c.bits
      → Ready c n (after_list c (claims c n)) × Accepted (fresh c) (claims c n)
  unfolding claims
  claims_run zero ln inside = unfold after answers fresh in (
    record {
      others =
          record {
            none = none;
            sound = λ M _. start_sound c accepted M;
            setup = refl;
            before = λ y l. absurd (omega arith);
            behind = λ y _ l. ap (λ (x : Process). x.stage) (process_fresh c accepted y l);
          };
      home = ap (λ (x : Process). x.stage) (process_fresh c accepted 0 ln);
    },
    refl,
  )
  claims_run (suc n) ln inside =
      let before = claims_run n (omega arith) (omega arith) in
      let one = claim-run c n (omega arith) (omega arith) before.0 in (
        rw (after_parts (fresh c) (claims c n) (claim c n)) (next c n one.0 ln),
        accepted_both (fresh c) (claims c n) (claim c n) before.1 one.1,
      )
