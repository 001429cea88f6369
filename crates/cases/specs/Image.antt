-- A state as 542 bytes, one for each number, in the order of its fields: the setup's four numbers, the closed names in eight bytes from
-- byte 4 on, low byte first, the gate word in two's complement, how many are queued, the queue from byte 14 on, the counters from 78, the
-- words from 94, and the processes from 158, six bytes each. And the figure that shows a state on a line.
use Rattle.std.specs.Prelude.{List, [], ◌∷◌, ◌++◌, ℕ, zero, suc, ◌+◌, ◌*◌, ◌/◌, ◌%◌, get_or}
use Rattle.std.specs.Int.{w8}
use Rattle.std.proofs.Common.{to_z, of_z}
use Rattle.machine.specs.Below.{tabulate}
use Rattle.machine.specs.Bytes.{process_bytes}
use Rattle.machine.specs.Setup.{numbered}
use Rattle.machine.specs.declared.Process.{Process}
use Rattle.machine.specs.declared.State.{State}

abbrev pub byte_at : List ℕ → ℕ → ℕ
byte_at image i = get_or image i 0

abbrev pub process_of : List ℕ → ℕ → Process
process_of image p =
    record {
      stage = byte_at image (158 + 6 * p);
      node = byte_at image (158 + 6 * p + 1);
      segment = byte_at image (158 + 6 * p + 2);
      name = byte_at image (158 + 6 * p + 3);
      steps = byte_at image (158 + 6 * p + 4);
      returns = byte_at image (158 + 6 * p + 5);
    }

-- so many bytes from a place on
abbrev pub bytes_from : List ℕ → ℕ → ℕ → List ℕ
bytes_from image at n = tabulate n (λ i. byte_at image (at + i))

-- so many as one number, low byte first
unfoldable pub number_from : List ℕ → ℕ → ℕ → ℕ
number_from image at zero = 0
number_from image at (suc n) = byte_at image at + 256 * number_from image (at + 1) n

unfoldable pub state_of : List ℕ → State
state_of image =
    record {
      setup = numbered (byte_at image 0) (byte_at image 1) (byte_at image 2) (byte_at image 3) (number_from image 4 8);
      gate = to_z w8 (byte_at image 12);
      queued = byte_at image 13;
      queue = bytes_from image 14 64;
      counters = bytes_from image 78 16;
      words = bytes_from image 94 64;
      process = tabulate 64 (process_of image);
    }

-- one process after another
unfoldable pub processes_bytes : List Process → List ℕ
processes_bytes [] = []
processes_bytes (h ∷ hs) = process_bytes h ++ processes_bytes hs

-- a number as so many bytes, low byte first
unfoldable pub number_bytes : ℕ → ℕ → List ℕ
number_bytes zero n = []
number_bytes (suc k) n = n % 256 ∷ number_bytes k (n / 256)

-- what stands before the arrays
unfoldable pub head_bytes : State → List ℕ
head_bytes s =
    (s.setup.processes ∷ s.setup.leaves ∷ s.setup.segments ∷ s.setup.bits ∷ [])
    ++ (number_bytes 8 s.setup.closed ++ (of_z w8 s.gate ∷ s.queued ∷ []))

unfoldable pub image_of : State → List ℕ
image_of s = head_bytes s ++ (s.queue ++ (s.counters ++ (s.words ++ processes_bytes s.process)))

-- each byte is added to 31 times the figure before it, modulo 65521
abbrev pub mixed : ℕ → ℕ → ℕ
mixed d x = (31 * d + x) % 65521

unfoldable pub digest_from : ℕ → List ℕ → ℕ
digest_from d [] = d
digest_from d (x ∷ xs) = digest_from (mixed d x) xs

abbrev pub digest_of : State → ℕ
digest_of s = digest_from 0 (image_of s)
