-- A bit of a segment word is the tally of its name's holders, so no two processes have one name. A store of one record with one bit
-- keeps it: one tally changes with one bit.
--     word_of, bit_of    a name tells its segment word and its bit
--     bits_same          the record's name stays
--     bits_win, bits_clear    a name is won with its bit set, or given back with its bit cleared
--     bits_unlike        two processes with names have unlike ones
--     filled             as many processes have names among the first bits of a word as those bits are set
-- Assumes nothing.
use Prim.Native.Nat.{ℕ, ◌+◌, ◌*◌, ◌/◌, ◌%◌, ◌^◌, ◌≤◌, ◌<◌}
use native.Mathlib.Decide.{ℕ_discrete}
use lib.Arith.{digits_lt, digits_div, digits_mod}
use lib.Dec.{eqb}
use lib.ListN.{get_or, set}
use lib.Seq.{get_or-set_same, get_or-set_other}
use Rattle.machine.proofs.Rules.{◌≡◌, ◌∙◌, sym, ap, ◌≢◌, arith, eq-eqb, ne_eqb}
use Rattle.machine.specs.Below.{sum_below, indicator as ind}
use Rattle.machine.specs.Closed.{is_open, open_in}
use Rattle.machine.specs.Operations.{bit, clr_bit}
use Rattle.machine.specs.State.{none, word_at}
use Rattle.machine.proofs.Facts.Words.{set-bit_same, set-bit_other, clr_bit_same, clr_bit_other}
use Rattle.renaming_claim.proofs.Facts.Sums.{sum_eq, sum_swap, sum_two, hits}
use Rattle.renaming_claim.proofs.Invariant.{tally, has_name, words, Bits}
use Rattle.renaming_claim.proofs.Mover.{Setup, Process, State, process_at, Mover, inv, limits, words_fit, stored, counts}

pub word_of : (b r m q i : ℕ) → m < b → i < b → r * b + m ≡ q * b + i → r ≡ q
word_of b r m q i k l e = sym (digits_div r k) ∙ ap (λ (x : ℕ). x / b) e ∙ digits_div q l

pub bit_of : (b r m q i : ℕ) → m < b → i < b → r * b + m ≡ q * b + i → m ≡ i
bit_of b r m q i k l e = sym (digits_mod r k) ∙ ap (λ (x : ℕ). x % b) e ∙ digits_mod q l

has_it : (n : ℕ) (h : Process) → h.name ≡ n → ind (has_name n h) ≡ 1
unfolding has_name
has_it n h e = rw (eq-eqb h.name n e)

has_not : (n : ℕ) (h : Process) → h.name ≢ n → ind (has_name n h) ≡ 0
unfolding has_name
has_not n h d = rw (ne_eqb h.name n d)

module _ {M : ℕ} {s : State} {p : ℕ} (m : Mover M s p) where
  abbrev c : Setup
  c = s.setup

  abbrev h : Process
  h = process_at s p

  -- a bit that is used: bit i of word r
  module _ {r i : ℕ} (lr : r < words c) (li : i < c.bits) where
    abbrev name : ℕ
    name = r * c.bits + i

    some_name : name ≢ none
    some_name e = omega (arith, (limits m).k64, digits_lt lr li)

    -- two holders of one name would be a bit of 2
    pub bits_unlike : (q : ℕ) → q < c.processes → p ≢ q → h.name ≡ name → (process_at s q).name ≡ name → ⊥
    unfolding tally
    bits_unlike q l d e f =
        let two : bit (word_at s r) i < 2 = omega arith in
        let both = sum_two c.processes p q (λ j. ind (has_name name (process_at s j))) m.known l d
        (omega (arith, has_it name h e)) (omega (arith, has_it name (process_at s q) f)) in
        omega (arith, (inv m).bits.told r i lr li)

    -- one bit of one word changes as the tally of its name does
    module _ (x : Process) where
      abbrev w : ℕ
      w = word_at s r

      changed : (y : ℕ)
          → ((j : ℕ) → j ≢ i → bit y j ≡ bit w j)
          → bit y i + ind (has_name name h) ≡ bit w i + ind (has_name name x)
          → ((n : ℕ) → n ≢ none → n ≢ name → ind (has_name n x) ≡ ind (has_name n h))
          → Bits c (stored m x) (set s.words r y)
      changed y others own away = record { told = λ q j lq lj. go q j lq lj (ℕ_discrete q r) (ℕ_discrete j i) }
        where
          -- the tally of any other name is the bit that it was
          same : (q j : ℕ) → q < words c → j < c.bits → q * c.bits + j ≢ name
              → tally c (has_name (q * c.bits + j)) (stored m x) ≡ bit (word_at s q) j
          same q j lq lj d =
              let n : ℕ = q * c.bits + j in
              let some : n ≢ none = λ e. omega (arith, (limits m).k64, digits_lt lq lj) in
              omega (arith, counts m x (has_name n), (inv m).bits.told q j lq lj, away n some d)

          go : (q j : ℕ) → q < words c → j < c.bits → Dec (q ≡ r) → Dec (j ≡ i)
              → tally c (has_name (q * c.bits + j)) (stored m x) ≡ bit (get_or (set s.words r y) q 0) j
          go q j lq lj (yes e) (yes f) =
              rw (e, f, get_or-set_same s.words r y 0 (omega (arith, words_fit m)))
              (omega (arith, counts m x (has_name name), (inv m).bits.told r i lr li))
          go q j lq lj (yes e) (no f) =
              rw (e, get_or-set_same s.words r y 0 (omega (arith, words_fit m)), others j f)
              (same r j lr lj (λ t. f (bit_of c.bits r j r i lj li t)))
          go q j lq lj (no e) f =
              rw (get_or-set_other s.words r q y 0 e) (same q j lq lj (λ t. e (word_of c.bits q j r i lj li t)))

      pub bits_win : h.name ≡ none → x.name ≡ name → bit w i ≡ 0 → Bits c (stored m x) (set s.words r (w + 2 ^ i))
      bits_win e f clear =
          changed (w + 2 ^ i) (λ j d. set-bit_other w i j clear d)
          (omega (arith, set-bit_same w i clear, has_it name x f, has_not name h (λ t. some_name (sym t ∙ e))))
          (λ n away d. has_not n x (λ t. d (sym t ∙ f)) ∙ sym (has_not n h (λ t. away (sym t ∙ e))))

      pub bits_clear : h.name ≡ name → x.name ≡ none → Bits c (stored m x) (set s.words r (clr_bit w i))
      bits_clear e f =
          let two : bit w i < 2 = omega arith in
          let gone = has_not name x (λ t. some_name (sym t ∙ f)) in
          changed (clr_bit w i) (λ j d. clr_bit_other w i j d)
          (omega (arith, clr_bit_same w i, has_it name h e, gone, (inv m).bits.told r i lr li, counts m x (has_name name)))
          (λ n away d. has_not n x (λ t. away (sym t ∙ f)) ∙ sym (has_not n h (λ t. d (sym t ∙ e))))

  pub bits_same : (x : Process) → x.name ≡ h.name → Bits c (stored m x) s.words
  unfolding has_name
  bits_same x e =
      record {
        told = λ r i lr li.
            let name : ℕ = r * c.bits + i in
            let same : ind (has_name name x) ≡ ind (has_name name h) = rw e in
            omega (arith, counts m x (has_name name), (inv m).bits.told r i lr li);
      }

  -- the first n bits of word r are set wherever their names are open
  abbrev pub Filled : ℕ → ℕ → Type 0
  Filled r n = (i : ℕ) → i < n → bit (word_at s r) i ≡ ind (is_open c (r * c.bits + i))

  -- so many processes have those names
  pub filled : (r n : ℕ) → r < words c → n ≤ c.bits → Filled r n
      → sum_below c.processes (λ q. hits (r * c.bits) n (process_at s q).name) ≡ open_in c (r * c.bits) n
  unfolding open_in tally has_name hits
  filled r n lr ln f =
      sum_swap c.processes n (λ q i. ind (eqb (process_at s q).name (r * c.bits + i)))
      ∙ sum_eq n _ _ (λ i l. (inv m).bits.told r i lr (omega arith) ∙ f i l)
