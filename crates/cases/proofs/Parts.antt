-- What is taken of an image part after part stands where the parts before it end, and so do chunks of one size: by place, and by
-- induction over the chunks. Assumes nothing.
use mathlib.Core.List.{List, []}
use Prim.Native.Nat.{ℕ, zero, suc, ◌+◌, ◌*◌, ◌≤◌, ◌<◌}
use native.Mathlib.Nat.{add-zero}
use lib.ListN.{length, get_or, take, drop}
use Rattle.machine.proofs.Rules.{◌≡◌, ◌∙◌, refl, arith}
use Rattle.std.specs.Simd.{first_chunks}
use Rattle.std.proofs.lemmas.List.{places, same_lists}
use Rattle.machine.specs.Below.{tabulate}
use Rattle.machine.proofs.Facts.Tabulated.{by_place}
use Rattle.machine.specs.Bytes.{numbers_bytes, process_bytes}
use Rattle.machine.specs.Setup.{numbered, closing_of}
use Rattle.machine.specs.declared.Process.{Process}
use Rattle.machine.specs.declared.numbers.Numbers.{Numbers}
use Rattle.cases.specs.Image.{byte_at, bytes_from, process_of}

pub part : (image : List ℕ) (at n : ℕ) → at + n ≤ length image → take n (drop at image) ≡ bytes_from image at n
part image at n fits = by_place n _ 0 (take n (drop at image)) (grind (arith, places)) (λ j k. grind (arith, places))

pub rest-rest : (xs : List ℕ) (at n : ℕ) → drop n (drop at xs) ≡ drop (at + n) xs
rest-rest xs at n = same_lists _ _ (grind (arith, places)) (λ j d k. grind (arith, places))

pub chunk : (n k p : ℕ) (xs : List ℕ) (d : List ℕ) → p < k → get_or (first_chunks n k xs) p d ≡ take n (drop (n * p) xs)
chunk n zero p xs d l = absurd (omega (arith, l))
chunk n (suc k) zero xs d l =
    let e : n * 0 ≡ 0 = omega arith in
    rw e
chunk n (suc k) (suc p) xs d l =
    let e : n + n * p ≡ n * suc p = omega arith in
    chunk n k p (drop n xs) d (omega (arith, l)) ∙ rw (rest-rest xs n (n * p), e)

pub process-part : (image : List ℕ) (p : ℕ) (h : Process) → process_bytes h ≡ bytes_from image (158 + 6 * p) 6 → h ≡ process_of image p
unfolding tabulate
process-part image p h e =
    let stage : h.stage ≡ byte_at image (158 + 6 * p) = cc (e, add-zero (158 + 6 * p)) in
    let node : h.node ≡ byte_at image (158 + 6 * p + 1) = cc e in
    let segment : h.segment ≡ byte_at image (158 + 6 * p + 2) = cc e in
    let name : h.name ≡ byte_at image (158 + 6 * p + 3) = cc e in
    let steps : h.steps ≡ byte_at image (158 + 6 * p + 4) = cc e in
    let returns : h.returns ≡ byte_at image (158 + 6 * p + 5) = cc e in
    rw (← stage, ← node, ← segment, ← name, ← steps, ← returns) refl

pub numbers-part : (image : List ℕ) (n : Numbers) (closed : ℕ) → numbers_bytes n ≡ bytes_from image 0 4
    → closing_of closed n ≡ numbered (byte_at image 0) (byte_at image 1) (byte_at image 2) (byte_at image 3) closed
unfolding tabulate
numbers-part image n closed e =
    let processes : n.processes ≡ byte_at image 0 = cc e in
    let leaves : n.leaves ≡ byte_at image 1 = cc e in
    let segments : n.segments ≡ byte_at image 2 = cc e in
    let bits : n.bits ≡ byte_at image 3 = cc e in
    rw (processes, leaves, segments, bits) refl

pub chunk-part : (image : List ℕ) (i : ℕ) → length image ≡ 542 → i < 64
    → get_or (first_chunks 6 64 (drop 158 image)) i [] ≡ bytes_from image (158 + 6 * i) 6
chunk-part image i size l =
    let six : take 6 (drop (158 + 6 * i) image) ≡ bytes_from image (158 + 6 * i) 6 = part image (158 + 6 * i) 6 (omega (arith, size, l)) in
    chunk 6 64 i (drop 158 image) [] l ∙ rw (rest-rest image 158 (6 * i)) six
