-- Document 02, a), said of the calls: what one call of the writer does, and the two directions, each a chain of calls.
use Rattle.std.specs.Prelude.{◌≡◌, ◌≢◌, ◌++◌, ℕ, ◌≤◌, length, drop}
use Rattle.machine.specs.Setup.{plain}
use Rattle.machine.specs.State.{done, fresh}
use Rattle.day_file.specs.Writer.{file_bytes, write_answer}
use Rattle.round_trip.specs.Calls.{WriteCall, file_in, ReadCalls}

-- One call of the writer.
pub record Writes {n l g b : ℕ} (w : WriteCall n l g b) : Type 0 where
  -- Given a setup and an event list, it writes the file of document 01 into a lent buffer and says its length;
  pub file : w.gave.answer ≡ 0 → file_in w ≡ file_bytes (plain n l g b) w.events.now
  -- bytes past it are untouched.
  pub past : drop w.gave.size w.out'.now ≡ drop w.gave.size w.out.now
  -- 1 to 5, an odd list keeps 14, 16 when the file would pass 32,768 bytes, 17 when the buffer is shorter than the file:
  pub answer : w.gave.answer ≡ write_answer (plain n l g b) (length w.events.now) (length w.out.now)
  -- a call that is refused gives the length 0 and writes nothing.
  pub none : w.gave.answer ≢ 0 → w.gave.size ≡ 0
  pub kept : w.gave.answer ≢ 0 → w.out'.now ≡ w.out.now

abbrev pub EveryWrite : Type 0
EveryWrite = (n l g b : ℕ) (w : WriteCall n l g b) → Writes w

-- What was written, read: the reader is lent the bytes that the writer says.
pub record ReadBack {n l g b : ℕ} (w : WriteCall n l g b) (r : ReadCalls) : Type 0 where
  -- The reader accepts it and returns the same setup: its fresh state, and in it the four numbers;
  pub state : r.gave ≡ done 0 (fresh (plain n l g b))
  pub numbers : r.gave.state.setup ≡ plain n l g b
  -- and the same events.
  pub events : r.part.now ≡ w.events.now

abbrev pub EveryReadBack : Type 0
EveryReadBack =
    (n l g b : ℕ) (w : WriteCall n l g b) → w.gave.answer ≡ 0 → (r : ReadCalls) → r.file.now ≡ file_in w → ReadBack w r

-- A file that the reader accepts, written out: the writer is given the four numbers of the state that the reader gave, and the part
-- that it handed back.
abbrev pub WriteOf : ReadCalls → Type 0
WriteOf r = let c = r.gave.state.setup in WriteCall c.processes c.leaves c.segments c.bits

pub record WrittenBack (r : ReadCalls) (w : WriteOf r) : Type 0 where
  -- The writer accepts it, and says the file's length;
  pub answer : w.gave.answer ≡ 0
  pub size : w.gave.size ≡ length r.file.now
  -- what it wrote is that file's bytes, and bytes past them are untouched.
  pub bytes : w.out'.now ≡ r.file.now ++ drop (length r.file.now) w.out.now

abbrev pub EveryWrittenBack : Type 0
EveryWrittenBack =
    (r : ReadCalls) → r.gave.answer ≡ 0 → (w : WriteOf r) → w.events.now ≡ r.part.now
    → length r.file.now ≤ length w.out.now → WrittenBack r w
