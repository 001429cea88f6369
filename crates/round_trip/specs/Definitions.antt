-- Document 02, a), said of the definitions: reading what was written returns the same setup and the same events, and writing out any
-- file that the reader accepts returns that file's bytes.
use Rattle.std.specs.Prelude.{◌≡◌, List, ◌++◌, ℕ, ◌≤◌, length, take, drop}
use Rattle.machine.specs.Filled.{written_of}
use Rattle.machine.specs.Setup.{plain}
use Rattle.machine.specs.State.{done, fresh}
use Rattle.machine.specs.declared.Setup.{Setup}
use Rattle.day_file.specs.Layout.{Bytes, file_answer, read_setup, read_events}
use Rattle.day_file.specs.Writer.{write_file, write_buffer}

-- what was written: as many bytes of the buffer as the writer says
abbrev pub file_written : Setup → List ℕ → List ℕ → List ℕ
file_written c events lent = take (write_file c events lent).size (write_buffer c events lent)

-- the setup of the four numbers in a file's state
abbrev pub four_numbers : Setup → Setup
four_numbers c = plain c.processes c.leaves c.segments c.bits

pub record RoundTrips : Type 0 where
  -- Reading what it wrote returns the same setup: its fresh state, and in it the four numbers;
  pub same_state : (n l g b : ℕ) (events lent : List ℕ) → (write_file (plain n l g b) events lent).answer ≡ 0
      → read_setup (file_written (plain n l g b) events lent) ≡ done 0 (fresh (plain n l g b))
  pub same_numbers : (n l g b : ℕ) (events lent : List ℕ) → (write_file (plain n l g b) events lent).answer ≡ 0
      → (read_setup (file_written (plain n l g b) events lent)).state.setup ≡ plain n l g b
  -- and the same events.
  pub same_events : (n l g b : ℕ) (events lent : List ℕ) → (write_file (plain n l g b) events lent).answer ≡ 0
      → read_events (file_written (plain n l g b) events lent) ≡ events
  -- Writing out any file that the reader accepts, in a buffer that is not shorter, is accepted, with the file's length,
  pub same_length : (f lent : List ℕ) → Bytes f → file_answer f ≡ 0 → length f ≤ length lent
      → write_file (four_numbers (read_setup f).state.setup) (read_events f) lent ≡ written_of 0 (length f)
  -- and returns that file's bytes; bytes past them are untouched.
  pub same_bytes : (f lent : List ℕ) → Bytes f → file_answer f ≡ 0 → length f ≤ length lent
      → write_buffer (four_numbers (read_setup f).state.setup) (read_events f) lent ≡ f ++ drop (length f) lent
