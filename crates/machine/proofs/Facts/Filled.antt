-- What a call that fills a lent buffer promises, by its checks: refused, its number and all of what was there; accepted, the bytes and
-- then what was there.
--     fills_refused, fills_accepted     the two cases
--     fills_answer                      what the call answers is what its checks answer
-- Assumes nothing.
use mathlib.Core.List.{List, ◌++◌}
use Prim.Native.Nat.{ℕ}
use lib.ListN.{length, drop}
use Rattle.machine.proofs.Rules.{◌≡◌, ◌∙◌, sym, ap, true}
use Rattle.machine.specs.Check.{Check, checked}
use Rattle.machine.specs.Filled.{written_of, filled, buffer_after}
use Rattle.machine.specs.declared.Written.{Written}
use Rattle.machine.proofs.Facts.Checks.{read_of, numbered, refused_with, accepted_with}

-- what the call gives, and the buffer after it
abbrev pub Fills : List Check → List ℕ → List ℕ → Written → List ℕ → Type 0
Fills checks bytes lent r o = (r ≡ filled checks bytes) × (o ≡ buffer_after checks bytes lent)

module _ (checks : List Check) (bytes lent : List ℕ) where
  pub fills_answer : (filled checks bytes).answer ≡ checked checks (λ a. a) 0
  fills_answer = read_of (λ (w : Written). w.answer) checks (λ a. written_of a 0) (written_of 0 (length bytes))

  pub fills_refused : {a : ℕ} → a ≡ checked checks (λ a. a) 0 → (a ≡ 0 → ⊥) → Fills checks bytes lent (written_of a 0) lent
  fills_refused e refused =
      let lost : checked checks (λ a. a) 0 ≡ 0 → ⊥ = λ z. refused (e ∙ z) in (
        ap (λ (n : ℕ). written_of n 0) e ∙ sym (refused_with checks (λ a. written_of a 0) (written_of 0 (length bytes)) lost),
        sym (refused_with checks (λ a. lent) (bytes ++ drop (length bytes) lent) lost),
      )

  pub fills_accepted : numbered checks ≡ true → checked checks (λ a. a) 0 ≡ 0 → {n : ℕ} {o : List ℕ} → n ≡ length bytes
      → o ≡ bytes ++ drop (length bytes) lent → Fills checks bytes lent (written_of 0 n) o
  fills_accepted ns accepted size put = (
    ap (written_of 0) size ∙ sym (accepted_with checks (λ a. written_of a 0) (written_of 0 (length bytes)) ns accepted),
    put ∙ sym (accepted_with checks (λ a. lent) (bytes ++ drop (length bytes) lent) ns accepted),
  )
