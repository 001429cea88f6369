-- The processes of a setup, filled upwards: those below p are fresh. By cases on how a place lies to p. Assumes nothing.
use Prim.Native.Nat.{ℕ, ◌+◌, ◌<◌}
use native.Mathlib.Decide.{dec_lt}
use lib.Dec.{ltb}
use lib.ListN.{set, replicate}
use Rattle.machine.proofs.Rules.{◌≡◌, ◌∙◌, sym, refl, arith, cond, lt-ltb, le-ltb}
use Rattle.machine.specs.Below.{tabulate}
use Rattle.machine.specs.State.{no_process, fresh_process}
use Rattle.machine.specs.declared.Process.{Process}
use Rattle.machine.proofs.Facts.Tabulated.{tabulate-set}

-- the first p processes fresh
abbrev pub first_fresh : ℕ → ℕ → Process
first_fresh p j = cond (ltb j p) fresh_process no_process

pub fresh_none : replicate 64 no_process ≡ tabulate 64 (first_fresh 0)
unfolding tabulate
fresh_none = refl

pub fresh_more : (p : ℕ) (h : Process) → p < 64 → h ≡ fresh_process
    → set (tabulate 64 (first_fresh p)) p h ≡ tabulate 64 (first_fresh (p + 1))
fresh_more p h k e =
    tabulate-set 64 (first_fresh p) (first_fresh (p + 1)) p h k (e ∙ sym (rw (lt-ltb p (p + 1) (omega arith)) refl))
    (λ j d. other j d (dec_lt j p))
  where
    other : (j : ℕ) → (j ≡ p → ⊥) → Dec (j < p) → first_fresh p j ≡ first_fresh (p + 1) j
    other j d (yes l) = rw (lt-ltb j p l, lt-ltb j (p + 1) (omega arith)) refl
    other j d (no l) = rw (le-ltb j p (omega (arith, l)), le-ltb j (p + 1) (omega (arith, l, d))) refl
