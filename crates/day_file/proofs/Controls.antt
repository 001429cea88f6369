-- What the definitions of the reader and the writer give, on files written out, is what the tables say: each is computed. Assumes nothing.
use mathlib.Core.Path.{refl}
use Rattle.machine.proofs.Runs.{machine}
use Rattle.day_file.specs.Controls.{Read, Wrote}
use Rattle.day_file.specs.Layout.{is_marked, word, is_entry, file_answer, read_setup, read_events}
use Rattle.day_file.specs.Writer.{head_bytes, write_answer, write_file, write_buffer}

pub read : Read
unfolding machine is_marked word is_entry file_answer read_setup read_events
read =
    record {
      p11 = (refl, refl, refl);
      shortest = (refl, refl);
      cut = (refl, refl);
      odd = refl;
      longer = (refl, refl);
      ends_later = refl;
      setup_last = refl;
      setups = (refl, refl, refl, refl, refl);
      refused_setup = (refl, refl);
    }

pub wrote : Wrote
unfolding machine head_bytes write_answer write_file write_buffer
wrote =
    record {
      p11 = (refl, refl, refl);
      low_byte_first = refl;
      ends = (refl, refl);
      is_too_long = (refl, refl, refl);
      lacks_room = (refl, refl, refl);
      odd = (refl, refl);
      setups_first = (refl, refl, refl, refl, refl);
      refused = (refl, refl);
    }
