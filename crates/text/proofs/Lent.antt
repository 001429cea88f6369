-- A text in a lent buffer, by whether the buffer has room for it.
--     given-filled, lent_after-filled     it has
--     given-short, lent_after-short       it has not
--     within                              either way, what is given is there to be taken from the buffer
-- Assumes nothing.
use mathlib.Core.List.{List, ◌++◌}
use Prim.Native.Nat.{ℕ, ◌≤◌, ◌<◌}
use native.Mathlib.Decide.{dec_le}
use lib.Seq.{length-take-le}
use lib.ListN.{length, take, drop, length-append}
use Rattle.std.specs.Prelude.{Result, Ok, Err, IfOk}
use Rattle.machine.specs.Outcome.{as_written}
use Rattle.machine.specs.declared.Written.{Written}
use Rattle.machine.specs.declared.refusal.Refusal.{Refusal}
use Rattle.machine.specs.declared.refusal.Refusal.TheVariants.{Short}
use Rattle.machine.proofs.Rules.{◌≡◌, sym, ap, arith, le-leb, lt-leb}
use Rattle.text.specs.Lent.{given, lent_after}

module _ (text lent : List ℕ) where
  module _ (k : length text ≤ length lent) where
    pub given-filled : given text lent ≡ as_written (Ok (length text))
    unfolding given
    given-filled = rw (le-leb (length text) (length lent) k)

    pub lent_after-filled : lent_after text lent ≡ text ++ drop (length text) lent
    unfolding lent_after
    lent_after-filled = rw (le-leb (length text) (length lent) k)

  module _ (k : length lent < length text) where
    pub given-short : given text lent ≡ as_written (Err Short)
    unfolding given
    given-short = rw (lt-leb (length text) (length lent) k)

    pub lent_after-short : lent_after text lent ≡ lent
    unfolding lent_after
    lent_after-short = rw (lt-leb (length text) (length lent) k)

  given-size : (given text lent).size ≤ length (lent_after text lent)
  given-size = go (dec_le (length text) (length lent))
    where
      go : Dec (length text ≤ length lent) → (given text lent).size ≤ length (lent_after text lent)
      go (yes k) = rw (given-filled k, lent_after-filled k) (omega (arith, length-append text (drop (length text) lent)))
      go (no k) = rw (given-short (omega (arith, k)), lent_after-short (omega (arith, k))) (omega arith)

  pub within : {o : List ℕ} (r : Result ℕ Refusal) → as_written r ≡ given text lent → o ≡ lent_after text lent
      → IfOk r (λ n. (n ≤ length o) × (n ≡ length (take n o)))
  within {o} (Ok n) r after =
      let size = ap (λ (w : Written). w.size) r in
      let bound : n ≤ length o = rw (size, after) given-size in
      (bound, sym (length-take-le n o bound))
  within (Err why) r after = tt
