-- Calls of the writer and the reader. A call is known by what its own contract lets a caller learn (the generated Reads), and by nothing
-- else.
use Rattle.std.specs.Prelude.{◌≡◌, List, ℕ, take, Result}
use contract.Lifetimes.{Lfts}
use Rattle.std.specs.Borrow.{Bor, MutBor}
use Rattle.machine.specs.Outcome.{as_done, as_written}
use Rattle.machine.specs.Setup.{four}
use Rattle.machine.specs.State.{blank}
use Rattle.machine.specs.declared.Done.{Done}
use Rattle.machine.specs.declared.State.{State}
use Rattle.machine.specs.declared.Written.{Written}
use Rattle.machine.specs.declared.refusal.Refusal.{Refusal}
use Rattle.day_file.proofs.reader.read_setup.Reads as read-setup-reads
use Rattle.day_file.proofs.reader.read_events.Reads as read-events-reads
use Rattle.day_writer.proofs.write_file.Reads as write-file-reads

-- `write_file(numbers, events, out)`: the references that it was lent, what it gave, and the references after it. What it gave is its
-- result, with the size 0 for a refused one.
pub record WriteCall (n l g b : ℕ) : Type 0 where
  pub lifetimes : Lfts 2
  pub events : Bor (List ℕ)
  pub events' : Bor (List ℕ)
  pub out : MutBor (List ℕ)
  pub out' : MutBor (List ℕ)
  pub result : Result ℕ Refusal
  pub gave : Written
  pub given : gave ≡ as_written result
  pub wrote : write-file-reads.Learnt lifetimes (four n l g b, (events, (out, tt))) result (four n l g b, (events', (out', tt)))

-- as many bytes of the buffer as the call says
abbrev pub file_in : {n l g b : ℕ} → WriteCall n l g b → List ℕ
file_in w = take w.gave.size w.out'.now

-- `read_setup(file)` and `read_events(file)`: the file, what they gave, and the references after them. What the first gave is its result,
-- with the blank state for a refused one.
pub record ReadCalls : Type 0 where
  pub lifetimes : Lfts 1
  pub lifetimes' : Lfts 1
  pub file : Bor (List ℕ)
  pub file' : Bor (List ℕ)
  pub file'' : Bor (List ℕ)
  pub result : Result State Refusal
  pub gave : Done
  pub given : gave ≡ as_done blank result
  pub part : Bor (List ℕ)
  pub read : read-setup-reads.Learnt lifetimes (file, tt) result (file', tt)
  pub handed : read-events-reads.Learnt lifetimes' (file, tt) part (file'', tt)
