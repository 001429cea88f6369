-- What the program prints is what the table says: each is computed. Assumes nothing.
use mathlib.Core.Path.{refl}
use Rattle.machine.proofs.Runs.{machine}
use Rattle.day_file.specs.Layout.{is_marked, word, is_entry, file_answer, read_setup, read_events}
use Rattle.text.specs.Controls.{Printed}
use Rattle.text.specs.Lines.{decimal, figure, line, lines, refused}
use Rattle.text.specs.File.{file_text}

pub printed : Printed
unfolding machine is_marked word is_entry file_answer read_setup read_events decimal figure line lines refused file_text
printed = record { p11 = refl; none = refl; figures = (refl, refl) }
