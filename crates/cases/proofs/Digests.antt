-- The figure of bytes is a fold over them, and that of a state a fold over its processes behind its parts: by induction. Assumes nothing.
use mathlib.Core.Path.{◌≡◌, refl, ◌∙◌}
use mathlib.Core.List.{List, [], ◌∷◌, ◌++◌}
use Prim.Native.Nat.{ℕ}
use Rattle.std.specs.Int.{w64, to_le_bytes}
use Rattle.std.specs.List.{fold}
use Rattle.std.proofs.Math.Nat.{div-div-eq-div-mul}
use Rattle.std.proofs.Common.{of_z, w8}
use Rattle.machine.specs.declared.Process.{Process}
use Rattle.machine.specs.declared.State.{State}
use Rattle.machine.specs.Bytes.{process_bytes}
use Rattle.cases.specs.Image.{mixed, digest_from, processes_bytes, number_bytes, head_bytes, image_of, digest_of}

pub digest-fold : (d : ℕ) (xs : List ℕ) → digest_from d xs ≡ fold mixed d xs
unfolding digest_from
digest-fold d [] = refl
digest-fold d (x ∷ xs) = digest-fold (mixed d x) xs

digest-append : (d : ℕ) (xs ys : List ℕ) → digest_from d (xs ++ ys) ≡ digest_from (digest_from d xs) ys
unfolding digest_from
digest-append d [] ys = refl
digest-append d (x ∷ xs) ys = digest-append (mixed d x) xs ys

digest-processes : (d : ℕ) (hs : List Process)
    → digest_from d (processes_bytes hs) ≡ fold (λ d h. digest_from d (process_bytes h)) d hs
unfolding digest_from processes_bytes
digest-processes d [] = refl
digest-processes d (h ∷ hs) =
    digest-append d (process_bytes h) (processes_bytes hs) ∙ digest-processes (digest_from d (process_bytes h)) hs

digest-parts : (d : ℕ) (xs₁ xs₂ xs₃ xs₄ xs₅ xs₆ : List ℕ) (hs : List Process)
    → digest_from d (xs₁ ++ (xs₂ ++ (xs₃ ++ (xs₄ ++ (xs₅ ++ (xs₆ ++ processes_bytes hs))))))
    ≡ fold (λ d h. digest_from d (process_bytes h))
    (digest_from (digest_from (digest_from (digest_from (digest_from (digest_from d xs₁) xs₂) xs₃) xs₄) xs₅) xs₆) hs
digest-parts d xs₁ xs₂ xs₃ xs₄ xs₅ xs₆ hs = simp (digest-append, digest-processes)

number_bytes-le : (n : ℕ) → number_bytes 8 n ≡ to_le_bytes w64 n
unfolding number_bytes
number_bytes-le n = simp div-div-eq-div-mul

-- what is mixed before the processes: the setup's four numbers, the closed names, the gate word with what is queued, and the three arrays
abbrev pub before_processes : State → ℕ
before_processes s =
    let numbers = digest_from 0 (s.setup.processes ∷ s.setup.leaves ∷ s.setup.segments ∷ s.setup.bits ∷ []) in
    let closed = digest_from numbers (to_le_bytes w64 s.setup.closed) in
    let gate = digest_from closed (of_z w8 s.gate ∷ s.queued ∷ []) in
    digest_from (digest_from (digest_from gate s.queue) s.counters) s.words

pub digest_of-fold : (s : State) → digest_of s ≡ fold (λ d h. digest_from d (process_bytes h)) (before_processes s) s.process
unfolding head_bytes image_of
digest_of-fold s =
    rw (number_bytes-le s.setup.closed)
    (digest-parts 0 (s.setup.processes ∷ s.setup.leaves ∷ s.setup.segments ∷ s.setup.bits ∷ []) (to_le_bytes w64 s.setup.closed)
    (of_z w8 s.gate ∷ s.queued ∷ []) s.queue s.counters s.words s.process)
