-- What the layout's definitions read, on files written out, and what the writer's write and answer; `read` and `wrote` in
-- proofs/Controls.antt compute each.
use Rattle.std.specs.Prelude.{◌≡◌, List, [], ◌∷◌, ◌++◌, ℕ, length}
use Rattle.machine.specs.Filled.{written_of}
use Rattle.machine.specs.Runs.{request, step, release}
use Rattle.machine.specs.Setup.{plain}
use Rattle.machine.specs.State.{done, fresh, blank}
use Rattle.day_file.specs.Layout.{file_answer, read_setup, read_events}
use Rattle.day_file.specs.Writer.{head_bytes, file_bytes, write_answer, write_file, write_buffer}

-- the contents, with the size of body 2 in two bytes, and body 1
abbrev pub contents_of : ℕ → ℕ → ℕ → ℕ → ℕ → ℕ → List ℕ
contents_of low high n l g b =
    84 ∷ 85 ∷ 82 ∷ 78 ∷ 2
    ∷ 1 ∷ 23 ∷ 0 ∷ 0 ∷ 0 ∷ 4 ∷ 0 ∷ 0 ∷ 0
    ∷ 2 ∷ 27 ∷ 0 ∷ 0 ∷ 0 ∷ low ∷ high ∷ 0 ∷ 0
    ∷ n ∷ l ∷ g ∷ b ∷ []

-- with a size below 256
abbrev pub contents : ℕ → ℕ → ℕ → ℕ → ℕ → List ℕ
contents size n l g b = contents_of size 0 n l g b

-- the events of P11
abbrev pub p11_body : List ℕ
p11_body = request 0 ++ step 0 ++ step 0 ++ request 1 ++ step 1 ++ step 1 ++ release 0 ++ step 0 ++ step 0 ++ step 1 ++ step 1

-- a file of 49 bytes
abbrev pub p11_file : List ℕ
p11_file = contents 22 2 1 1 1 ++ p11_body

pub record Read : Type 0 where
  pub p11 : (length p11_file ≡ 49) × (read_setup p11_file ≡ done 0 (fresh (plain 2 1 1 1))) × (read_events p11_file ≡ p11_body)
  -- a file of 27 bytes has no events
  pub shortest : (read_setup (contents 0 64 16 2 2) ≡ done 0 (fresh (plain 64 16 2 2))) × (read_events (contents 0 64 16 2 2) ≡ [])
  -- a refused file: its number and the blank state, and an empty part
  pub cut : (read_setup (84 ∷ 85 ∷ 82 ∷ 78 ∷ 2 ∷ []) ≡ done 10 blank) × (read_events (84 ∷ 85 ∷ 82 ∷ 78 ∷ 2 ∷ []) ≡ [])
  pub odd : read_setup (contents 1 2 1 1 1 ++ 0 ∷ []) ≡ done 11 blank
  pub longer :
      (read_setup (contents 2 2 1 1 1 ++ request 0 ++ request 1) ≡ done 11 blank)
      × (read_events (contents 2 2 1 1 1 ++ request 0 ++ request 1) ≡ [])
  pub ends_later : file_answer (contents 4 2 1 1 1 ++ request 0) ≡ 11
  -- 10, 11, then 1 to 5: entries are looked at before the setup
  pub setup_last : file_answer (contents 1 65 3 9 9) ≡ 11
  pub setups :
      (file_answer (contents 0 65 16 2 2) ≡ 1)
      × (file_answer (contents 0 64 3 2 2) ≡ 2)
      × (file_answer (contents 0 64 16 9 2) ≡ 3)
      × (file_answer (contents 0 64 16 2 9) ≡ 4)
      × (file_answer (contents 0 64 16 2 3) ≡ 5)
  pub refused_setup :
      (read_setup (contents 2 64 16 2 3 ++ request 0) ≡ done 5 blank)
      × (read_events (contents 2 64 16 2 3 ++ request 0) ≡ [])

pub record Wrote : Type 0 where
  -- P11's file, in a buffer of 51 bytes
  pub p11 :
      (file_bytes (plain 2 1 1 1) p11_body ≡ p11_file)
      × (write_file (plain 2 1 1 1) p11_body (p11_file ++ 7 ∷ 8 ∷ []) ≡ written_of 0 49)
      × (write_buffer (plain 2 1 1 1) p11_body (contents 0 0 0 0 0 ++ p11_body ++ 7 ∷ 8 ∷ []) ≡ p11_file ++ 7 ∷ 8 ∷ [])
  -- a length whose bytes differ: 4,660 is 52 + 256·18
  pub low_byte_first : head_bytes (plain 64 16 2 2) 4660 ≡ contents_of 52 18 64 16 2 2
  -- the setup, the bytes of the list and of the buffer: no events, and the most
  pub ends : (write_answer (plain 2 1 1 1) 0 27 ≡ 0) × (write_answer (plain 2 1 1 1) 32740 32767 ≡ 0)
  -- the file would pass 32,768 bytes, whatever the buffer; and a list of a megabyte
  pub is_too_long :
      (write_answer (plain 2 1 1 1) 32742 32769 ≡ 16)
      × (write_answer (plain 2 1 1 1) 32742 0 ≡ 16)
      × (write_answer (plain 2 1 1 1) 1048576 1048603 ≡ 16)
  -- the buffer is a byte short, and of length 0
  pub lacks_room :
      (write_answer (plain 2 1 1 1) 22 48 ≡ 17)
      × (write_answer (plain 2 1 1 1) 32740 32766 ≡ 17)
      × (write_answer (plain 2 1 1 1) 0 0 ≡ 17)
  -- 14 before 16 and 17; 1 to 5 before 14
  pub odd : (write_answer (plain 2 1 1 1) 32741 0 ≡ 14) × (write_answer (plain 2 1 1 1) 1048577 0 ≡ 14)
  pub setups_first :
      (write_answer (plain 65 3 9 9) 1048577 0 ≡ 1)
      × (write_answer (plain 64 3 9 9) 1048577 0 ≡ 2)
      × (write_answer (plain 64 16 9 9) 1048577 0 ≡ 3)
      × (write_answer (plain 64 16 2 9) 1048577 0 ≡ 4)
      × (write_answer (plain 64 16 2 3) 1048577 0 ≡ 5)
  -- refused: the length is 0, and the buffer as it was
  pub refused :
      (write_file (plain 2 1 1 1) p11_body (7 ∷ 8 ∷ []) ≡ written_of 17 0)
      × (write_buffer (plain 2 1 1 1) p11_body (7 ∷ 8 ∷ []) ≡ 7 ∷ 8 ∷ [])
