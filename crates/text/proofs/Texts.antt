-- The line of a refusal is its word and its number, and a text that is put at a buffer's start is given in it. Assumes nothing.
--     refused-put                   the line of a refusal
--     given-put, lent_after-put     a text at the start
use mathlib.Core.List.{List}
use Prim.Native.Nat.{ℕ}
use Rattle.std.specs.Prelude.{Ok}
use Rattle.lent.proofs.Texts.{appends_append, size-start, fits-start, bytes-start}
use Rattle.lent.specs.Text.{Appends}
use Rattle.lent.specs.declared.Text.{Text}
use Rattle.machine.specs.Outcome.{as_written}
use Rattle.machine.proofs.Rules.{◌≡◌, ◌∙◌, sym}
use Rattle.text.specs.Lent.{given, lent_after}
use Rattle.text.specs.Lines.{newline, figure, refused_word, refused}
use Rattle.text.proofs.Lent.{given-filled, lent_after-filled}

-- the word of a refusal and its number
pub refused-put : {a b c : Text} (n : ℕ) → Appends a b refused_word → Appends b c (figure n newline) → Appends a c (refused n)
unfolding refused
refused-put n p q = appends_append p q

module _ {a b : Text} {text lent : List ℕ} (start : a.size ≡ 0) (whole : a.buffer.now ≡ lent) (p : Appends a b text) where
  pub given-put : as_written (Ok b.size) ≡ given text lent
  given-put = rw (size-start start whole p) (sym (given-filled text lent (fits-start start whole p)))

  pub lent_after-put : b.buffer.now ≡ lent_after text lent
  lent_after-put = bytes-start start whole p ∙ sym (lent_after-filled text lent (fits-start start whole p))
