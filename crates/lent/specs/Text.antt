-- Text that is put into a lent buffer from its start.
use Rattle.std.specs.Prelude.{◌≡◌, ℕ, List, ◌++◌, ◌+◌, ◌≤◌, length, take, drop}
use Rattle.lent.specs.declared.Text.{Text}

-- the old text, more behind it, and then what was there, in the same buffer
pub record Appends (old new : Text) (more : List ℕ) : Type 0 where
  pub same_buffer : new.buffer.ghost_name ≡ old.buffer.ghost_name
  pub size : new.size ≡ old.size + length more
  pub room : new.size ≤ length old.buffer.now
  pub bytes : new.buffer.now ≡ take old.size old.buffer.now ++ (more ++ drop new.size old.buffer.now)
