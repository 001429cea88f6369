-- Document 01, section Atomic operations (003, section 7.1). Bit i of a word w is w / 2^i mod 2.
use Rattle.std.specs.Prelude.{cond, ◌&&◌, ℕ, zero, suc, ◌+◌, ◌-◌, ◌/◌, ◌%◌, ◌^◌, ltb, eqb}

-- What an atomic operation answers, and the word that it leaves.
pub record Applied : Type 0 where
  pub answer : ℕ
  pub word : ℕ

abbrev pub bit : ℕ → ℕ → ℕ
bit w i = w / 2 ^ i % 2

-- the lowest index below b of a bit that is clear in w and not closed in x, or b where there is none
unfoldable pub first_zero : ℕ → ℕ → ℕ → ℕ
first_zero zero x w = 0
first_zero (suc b) x w = cond (eqb (w % 2) 0 && eqb (x % 2) 0) 0 (suc (first_zero b (x / 2) (w / 2)))

-- set_first_zero (first clear): in a word w of b bits, the lowest clear bit is set and its index is the answer.
-- If none is clear, the word stays and the answer is b. "A closed pad's bit", 1 in x, "counts as neither clear nor held: first clear
-- answers the lowest clear open bit, or b if the row has none" (document 02, e).
unfoldable pub set_first_zero : ℕ → ℕ → ℕ → Applied
set_first_zero b x w =
    record { answer = first_zero b x w; word = cond (ltb (first_zero b x w) b) (w + 2 ^ first_zero b x w) w }

-- clr_bit (clear bit i): bit i becomes 0.
unfoldable pub clr_bit : ℕ → ℕ → ℕ
clr_bit w i = cond (eqb (bit w i) 1) (w - 2 ^ i) w

-- bounded_decrement: answers the old value and subtracts 1 unless it was 0.
unfoldable pub bounded_decrement : ℕ → Applied
bounded_decrement c = record { answer = c; word = cond (eqb c 0) 0 (c - 1) }
