-- The events of a day file as a place and a size in it: C cannot be given a slice.
use Rattle.std.specs.Prelude.{cond, List, ℕ, eqb, take, drop}
use Rattle.machine.specs.Answer as answer
use Rattle.day_file.specs.Layout.{body_size, file_answer}
use Rattle.zevgorim.specs.declared.Part.{Part}

-- the bytes of a file that a part names: `size` of them, from byte `offset` on
abbrev pub bytes_of : Part → List ℕ → List ℕ
bytes_of part f = take part.size (drop part.offset f)

-- body 2 begins at byte 27; a refused file has an empty part
unfoldable pub events_part : List ℕ → Part
events_part f =
    cond (eqb (file_answer f) answer.accepted) (record { offset = 27; size = body_size f }) (record { offset = 0; size = 0 })
