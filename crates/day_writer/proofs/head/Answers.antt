-- The letters and 2, the two entries and the four numbers, each at its place, are the head.
use Rattle.std.proofs.Common.{◌≡◌, ◌∙◌}
use Rattle.machine.specs.Setup.{plain_of}
use Rattle.day_file.specs.Layout.{turn, setup_entry, events_entry}
use Rattle.day_file.specs.Writer.{entry_bytes, setup_bytes, head_bytes}
use Rattle.day_writer.proofs.head.Goals as goal

pub returns : goal.returns
unfolding head_bytes
returns c =
    let letters : c.copy_from_slice.new.self ≡ turn = c.copy_from_slice.ensures.after in
    let first : c.copy_from_slice-2.new.self ≡ entry_bytes setup_entry = c.copy_from_slice-2.ensures.after ∙ c.entry.ensures in
    let second : c.copy_from_slice-3.new.self ≡ entry_bytes (events_entry c.args.size)
    = c.copy_from_slice-3.ensures.after ∙ c.entry-2.ensures in
    let numbers : c.copy_from_slice-4.new.self ≡ setup_bytes (plain_of c.args.numbers)
    = c.copy_from_slice-4.ensures.after ∙ c.from.ensures in
    rw (letters, first, second, numbers)
