-- Document 01, section Day file: its layout byte by byte, and what the reader gives.
use Rattle.std.specs.Prelude.{Bool, cond, ◌&&◌, List, [], ◌∷◌, ◌++◌, ℕ, ◌+◌, ◌-◌, ◌*◌, ◌%◌, ◌<◌, eqb, get_or, length, drop}
use Rattle.machine.specs.Check.{Check, check, checked}
use Rattle.machine.specs.Answer as answer
use Rattle.machine.specs.Setup.{plain, within, setup_answer}
use Rattle.machine.specs.State.{done, blank, setup}
use Rattle.machine.specs.declared.Done.{Done}
use Rattle.machine.specs.declared.Setup.{Setup}

abbrev pub byte : List ℕ → ℕ → ℕ
byte f i = get_or f i 0

-- numbers that are bytes, as those of a lent file are
abbrev pub Bytes : List ℕ → Type 0
Bytes f = (i : ℕ) → byte f i < 256

-- Bytes 0 to 3 are the ASCII letters TURN; byte 4 is 2.
abbrev pub turn : List ℕ
turn = 84 ∷ 85 ∷ 82 ∷ 78 ∷ []

abbrev pub mark : List ℕ
mark = turn ++ (2 ∷ [])

unfoldable pub is_marked : List ℕ → Bool
is_marked f =
    eqb (byte f 0) (byte mark 0)
    && (eqb (byte f 1) (byte mark 1)
    && (eqb (byte f 2) (byte mark 2) && (eqb (byte f 3) (byte mark 3) && eqb (byte f 4) (byte mark 4))))

-- four bytes, low byte first
unfoldable pub word : List ℕ → ℕ → ℕ
word f i = byte f i + 256 * byte f (i + 1) + 65536 * byte f (i + 2) + 16777216 * byte f (i + 3)

-- Two entries of nine bytes follow: kind (1 byte), offset and length (4 bytes each, low byte first).
pub record Entry : Type 0 where
  pub kind : ℕ
  pub offset : ℕ
  pub size : ℕ

abbrev pub entry : ℕ → ℕ → ℕ → Entry
entry kind offset size = record { kind = kind; offset = offset; size = size }

unfoldable pub is_entry : List ℕ → ℕ → Entry → Bool
is_entry f i e = eqb (byte f i) e.kind && (eqb (word f (i + 1)) e.offset && eqb (word f (i + 5)) e.size)

-- what stands before the events: the contents, and body 1
abbrev pub head_size : ℕ
head_size = 27

-- Entry one: kind 1, offset 23, length 4.
abbrev pub setup_entry : Entry
setup_entry = entry 1 23 4

-- Entry two: kind 2, offset 27, an even length that ends exactly at the file's end.
abbrev pub events_entry : ℕ → Entry
events_entry size = entry 2 head_size size

-- so the bytes of body 2
abbrev pub body_size : List ℕ → ℕ
body_size f = length f - head_size

-- A file is 27 to 32,768 bytes.
abbrev pub longest : ℕ
longest = 32768

-- 10 for the length or bytes 0 to 4, then 11 for an entry.
abbrev pub layout_checks : List ℕ → List Check
layout_checks f =
    check answer.no_day_file (within head_size longest (length f))
    ∷ check answer.no_day_file (is_marked f)
    ∷ check answer.contents (is_entry f 5 setup_entry)
    ∷ check answer.contents (is_entry f 14 (events_entry (body_size f)) && eqb (body_size f % 2) 0)
    ∷ []

-- 0 where a file has the layout, or the number of the refusal
unfoldable pub layout_answer : List ℕ → ℕ
layout_answer f = checked (layout_checks f) (λ a. a) answer.accepted

-- Body 1 is N, L, g, b, one byte each, from byte 23 on. "Day files close none" (document 02, e).
abbrev pub body_setup : List ℕ → Setup
body_setup f = plain (byte f 23) (byte f 24) (byte f 25) (byte f 26)

-- A day file: 10, 11, 1 to 5.
unfoldable pub file_answer : List ℕ → ℕ
file_answer f = checked (layout_checks f) (λ a. a) (setup_answer (body_setup f))

-- The fresh state of body 1. A refused file gives the number and the blank state.
unfoldable pub read_setup : List ℕ → Done
read_setup f = checked (layout_checks f) (λ a. done a blank) (setup (body_setup f))

-- Body 2 is the events, from byte 27 on. A refused file hands back an empty part.
unfoldable pub read_events : List ℕ → List ℕ
read_events f = cond (eqb (file_answer f) answer.accepted) (drop head_size f) []

-- The part begins so many bytes into the lent file: it is the caller's own slice and no copy.
unfoldable pub events_start : List ℕ → ℕ
events_start f = cond (eqb (file_answer f) answer.accepted) head_size 0

-- a place in memory, a block and an offset in it, n bytes on
abbrev pub further : ℕ → ℕ × ℕ → ℕ × ℕ
further n a = (a.0, n + a.1)
