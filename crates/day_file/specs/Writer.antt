-- Document 02, a): given a setup and an event list, the box writes the file of document 01 into a lent buffer and says its length;
-- bytes past it are untouched.
use Rattle.std.specs.Prelude.{List, [], ◌∷◌, ◌++◌, ℕ, ◌+◌, ◌/◌, ◌%◌, leb, eqb, length}
use Rattle.machine.specs.Answer as answer
use Rattle.machine.specs.Check.{Check, check, checked}
use Rattle.machine.specs.Filled.{filled, buffer_after}
use Rattle.machine.specs.Setup.{setup_checks}
use Rattle.machine.specs.declared.Setup.{Setup}
use Rattle.machine.specs.declared.Written.{Written}
use Rattle.day_file.specs.Layout.{mark, Entry, head_size, setup_entry, events_entry, longest}

-- four bytes, low byte first
abbrev pub word_bytes : ℕ → List ℕ
word_bytes n = n % 256 ∷ n / 256 % 256 ∷ n / 65536 % 256 ∷ n / 16777216 % 256 ∷ []

-- kind (1 byte), offset and length (4 bytes each)
abbrev pub entry_bytes : Entry → List ℕ
entry_bytes e = e.kind ∷ (word_bytes e.offset ++ word_bytes e.size)

-- Body 1 is N, L, g, b, one byte each.
abbrev pub setup_bytes : Setup → List ℕ
setup_bytes c = c.processes ∷ c.leaves ∷ c.segments ∷ c.bits ∷ []

-- Contents first: the letters TURN and 2, and the two entries. Then body 1.
unfoldable pub head_bytes : Setup → ℕ → List ℕ
head_bytes c size = mark ++ entry_bytes setup_entry ++ entry_bytes (events_entry size) ++ setup_bytes c

-- Body 2 is the events.
abbrev pub file_bytes : Setup → List ℕ → List ℕ
file_bytes c events = head_bytes c (length events) ++ events

-- An odd list keeps 14. 16 when the file would pass 32,768 bytes, and 17 when the buffer is shorter than the file, last. By the bytes
-- of the list and of the buffer.
abbrev pub list_checks : ℕ → ℕ → List Check
list_checks size room =
    check answer.odd (eqb (size % 2) 0)
    ∷ check answer.too_long (leb (head_size + size) longest)
    ∷ check answer.no_room (leb (head_size + size) room)
    ∷ []

-- 1 to 5 come first. (The file is written "from the four numbers alone", which close none; then 19 and 20 never come.)
abbrev pub write_checks : Setup → ℕ → ℕ → List Check
write_checks c size room = setup_checks c ++ list_checks size room

-- 0, or the number of the refusal
unfoldable pub write_answer : Setup → ℕ → ℕ → ℕ
write_answer c size room = checked (write_checks c size room) (λ a. a) answer.accepted

-- what the call gives: its answer, and the file's length
unfoldable pub write_file : Setup → List ℕ → List ℕ → Written
write_file c events lent = filled (write_checks c (length events) (length lent)) (file_bytes c events)

-- the lent buffer afterwards
unfoldable pub write_buffer : Setup → List ℕ → List ℕ → List ℕ
write_buffer c events lent = buffer_after (write_checks c (length events) (length lent)) (file_bytes c events) lent
