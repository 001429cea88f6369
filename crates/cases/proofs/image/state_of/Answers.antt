-- Each part of the state is taken where the image has it.
use Rattle.std.proofs.Common.{◌≡◌, ◌∙◌, ◌+◌, ◌*◌, w8, to_z, of_z, arith, rules, ◌/◌, [], get_or, drop, refl, sym, length, length-drop}
use Rattle.std.specs.Simd.{first_chunks}
use Rattle.machine.specs.Below.{tabulate}
use Rattle.machine.specs.Setup.{numbered}
use Rattle.machine.specs.Bytes.{process_bytes}
use Rattle.cases.specs.Image.{byte_at, bytes_from, number_from, process_of, state_of}
use Rattle.machine.proofs.Facts.FromFn.{from_fn-tabulate}
use Rattle.cases.proofs.Parts.{part, rest-rest, numbers-part, process-part, chunk-part}
use Rattle.cases.proofs.image.state_of.Goals as goal

pub returns : goal.returns
unfolding tabulate number_from state_of
returns c =
    let image = c.args.image.now in
    let size : length image ≡ 542 = search rules in
    let rest4 : c.take.new.self.bytes.now ≡ drop 4 image = c.take.ensures.rest in
    let rest12 : c.take-2.new.self.bytes.now ≡ drop 12 image = c.take-2.ensures.rest ∙ rw rest4 (rest-rest image 4 8) in
    let rest14 : c.take-3.new.self.bytes.now ≡ drop 14 image = c.take-3.ensures.rest ∙ rw rest12 (rest-rest image 12 2) in
    let rest78 : c.take-queue.new.self.bytes.now ≡ drop 78 image = c.take-queue.ensures.rest ∙ rw rest14 (rest-rest image 14 64) in
    let rest94 : c.take-counters.new.self.bytes.now ≡ drop 94 image = c.take-counters.ensures.rest ∙ rw rest78 (rest-rest image 78 16) in
    let rest158 : c.take-words.new.self.bytes.now ≡ drop 158 image = c.take-words.ensures.rest ∙ rw rest94 (rest-rest image 94 64) in
    let numbers : c.take.result ≡ bytes_from image 0 4 = c.take.ensures.taken ∙ part image 0 4 (omega (arith, size)) in
    let eight : c.take-2.result ≡ bytes_from image 4 8 = c.take-2.ensures.taken ∙ rw rest4 (part image 4 8 (omega (arith, size))) in
    let read = rw eight at c.from_le_bytes-closed.ensures in
    let closed : c.from_le_bytes-closed.result ≡ number_from image 4 8 = omega (arith, read) in
    let two : c.take-3.result ≡ bytes_from image 12 2 = c.take-3.ensures.taken ∙ rw rest12 (part image 12 2 (omega (arith, size))) in
    let queue : c.take-queue.result ≡ bytes_from image 14 64
    = c.take-queue.ensures.taken ∙ rw rest14 (part image 14 64 (omega (arith, size))) in
    let counters : c.take-counters.result ≡ bytes_from image 78 16
    = c.take-counters.ensures.taken ∙ rw rest78 (part image 78 16 (omega (arith, size))) in
    let words : c.take-words.result ≡ bytes_from image 94 64
    = c.take-words.ensures.taken ∙ rw rest94 (part image 94 64 (omega (arith, size))) in
    let few : length (drop 158 image) / 6 ≡ 64 = rw (length-drop 158 image, size) refl in
    let rows : c.as_chunks.result.0.now ≡ first_chunks 6 64 (drop 158 image) = c.as_chunks.ensures.front ∙ rw (rest158, few) refl in
    let process : c.from_fn.result ≡ tabulate 64 (process_of image)
    = from_fn-tabulate _ (process_of image) _ 64 (λ i l x q k.
    let row : process_bytes x ≡ get_or c.as_chunks.result.0.now i [] = search rules in
    let six : process_bytes x ≡ bytes_from image (158 + 6 * i) 6 = row ∙ rw rows (chunk-part image i size l) in
    (process-part image i x six, search rules)) _ (process_of image 0) c.from_fn.ensures.items in
    let setup : c.closing.result ≡ numbered (byte_at image 0) (byte_at image 1) (byte_at image 2) (byte_at image 3) (number_from image 4 8)
    = c.closing.ensures ∙ rw (← closed) (numbers-part image c.from-numbers.result _ (sym c.from-numbers.ensures ∙ numbers)) in
    let signed : c.cast_signed.result ≡ to_z w8 (byte_at image 12) = rw two at c.cast_signed.ensures in
    let gate : to_z w8 (of_z w8 c.cast_signed.result) ≡ to_z w8 (byte_at image 12) = search (rules, signed) in
    let queued : get_or c.take-3.result 1 0 ≡ byte_at image 13 = rw two refl in
    rw (setup, gate, queued, queue, counters, words, process) refl
