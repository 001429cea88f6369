-- Four numbers side by side, as the bytes of one, are tested together: where each is below 128, none carries into the next when what its
-- limit lacks to 127 is added to it. By arithmetic of the bytes. Assumes nothing.
--     top_bits         the highest bits of the bytes
--     limits_tested    each number against its limit
--     first_fails, second_decides    the greatest stage, node, segment and name of a setup
use Rattle.std.proofs.Common.{ℕ, zero, suc, ◌+◌, ◌-◌, ◌*◌, ◌/◌, ◌%◌, ◌^◌, ◌<◌, ◌≤◌, eqb, leb, ltb}
use Rattle.std.proofs.Math.Nat.{div-div-eq-div-mul}
use lib.Bits.{bit_and}
use Rattle.machine.proofs.Rules.{◌≡◌, ◌∙◌, sym, ap, refl, Bool, true, false, ◌&&◌}
use Rattle.machine.proofs.Rules.{arith, eqb-true, leb-true, ltb-true, eq-eqb, le-leb, lt-ltb}
use Rattle.machine.specs.Below.{all_below}
use Rattle.machine.specs.Setup.{setup_answer}
use Rattle.machine.specs.Stage.{exhausted}
use Rattle.machine.specs.declared.Setup.{Setup}
use Rattle.machine.proofs.Facts.Below.{all_in, all_at}
use Rattle.machine.proofs.Facts.Tests.{both, and_left, and_right, same_test}
use Rattle.machine.proofs.Ranges.{limits_of}
use Rattle.fresh.proofs.Sizes.{leaves_16}
use Rattle.ranges.specs.Tests.{byte_test, name_limit, ranks_fit, headroom}
use Rattle.ranges.proofs.Names.{limit_64}
use Rattle.ranges.proofs.Shut.{and_none}

-- the highest bit of the byte that p is one of
top_bit : (x p : ℕ) → eqb (x / (p * 128) % 2) 0 ≡ ltb (x / p % 256) 128
top_bit x p = ap (λ (q : ℕ). eqb (q % 2) 0) (sym (div-div-eq-div-mul x p 128)) ∙ alone (x / p)
  where
    alone : (q : ℕ) → eqb (q / 128 % 2) 0 ≡ ltb (q % 256) 128
    alone q =
        same_test (eqb (q / 128 % 2) 0) (ltb (q % 256) 128)
        (λ e. lt-ltb (q % 256) 128 (omega (arith, eqb-true (q / 128 % 2) 0 e)))
        (λ e. eq-eqb (q / 128 % 2) 0 (omega (arith, ltb-true (q % 256) 128 e)))

-- 0x80808080 is the highest bit of each of four bytes
pub top_bits : (x : ℕ) → eqb (bit_and x 2155905152) 0 ≡ all_below 4 (byte_test x)
unfolding all_below
top_bits x =
    and_none 32 x 2155905152 (omega arith)
    ∙ rw (top_bit x 16777216, top_bit x 65536, top_bit x 256, top_bit x 1) refl

-- four bytes
abbrev pub four : ℕ → ℕ → ℕ → ℕ → ℕ
four a b c d = a + b * 256 + c * 65536 + d * 16777216

-- four bytes below 128
pub record Small (a b c d : ℕ) : Type 0 where
  pub first : a < 128
  pub second : b < 128
  pub third : c < 128
  pub fourth : d < 128

module _ {a b c d : ℕ} (a8 : a < 256) (b8 : b < 256) (c8 : c < 256) (d8 : d < 256) where
  small_of : all_below 4 (byte_test (four a b c d)) ≡ true → Small a b c d
  small_of e =
      let at = all_at 4 (byte_test (four a b c d)) e in
      let byte = (λ (i : ℕ) (l : i < 4). ltb-true (four a b c d / 256 ^ i % 256) 128 (at i l)) in
      record {
        first = omega (arith, a8, byte 0 (omega arith));
        second = omega (arith, a8, b8, byte 1 (omega arith));
        third = omega (arith, a8, b8, c8, byte 2 (omega arith));
        fourth = omega (arith, a8, b8, c8, d8, byte 3 (omega arith));
      }

  of_small : Small a b c d → all_below 4 (byte_test (four a b c d)) ≡ true
  of_small s = all_in 4 (byte_test (four a b c d)) (λ i l. lt-ltb (four a b c d / 256 ^ i % 256) 128 (byte i l))
    where
      byte : (i : ℕ) → i < 4 → four a b c d / 256 ^ i % 256 < 128
      byte zero l = omega (arith, a8, s.first)
      byte (suc zero) l = omega (arith, a8, b8, s.second)
      byte (suc (suc zero)) l = omega (arith, a8, b8, c8, s.third)
      byte (suc (suc (suc zero))) l = omega (arith, a8, b8, c8, d8, s.fourth)
      byte (suc (suc (suc (suc i)))) l = absurd (omega (arith, l))

-- four bytes, and what is added to each
module _ {a b c d r s t u : ℕ} (a8 : a < 256) (b8 : b < 256) (c8 : c < 256) (d8 : d < 256) (ru : Small r s t u) where
  abbrev raised : ℕ
  raised = (four a b c d + four r s t u) % 2 ^ 32

  -- the tests of the sums, one by one
  sums_of : (ltb (a + r) 128 && (ltb (b + s) 128 && (ltb (c + t) 128 && ltb (d + u) 128))) ≡ true → Small (a + r) (b + s) (c + t) (d + u)
  sums_of e =
      let three : (ltb (b + s) 128 && (ltb (c + t) 128 && ltb (d + u) 128)) ≡ true = and_right (ltb (a + r) 128) _ e in
      let two : (ltb (c + t) 128 && ltb (d + u) 128) ≡ true = and_right (ltb (b + s) 128) _ three in
      record {
        first = ltb-true (a + r) 128 (and_left _ _ e);
        second = ltb-true (b + s) 128 (and_left _ _ three);
        third = ltb-true (c + t) 128 (and_left _ _ two);
        fourth = ltb-true (d + u) 128 (and_right _ _ two);
      }

  pub limits_tested : (all_below 4 (byte_test (four a b c d)) && all_below 4 (byte_test raised))
      ≡ (ltb (a + r) 128 && (ltb (b + s) 128 && (ltb (c + t) 128 && ltb (d + u) 128)))
  limits_tested =
      same_test _ _
      (λ e.
      let low = small_of a8 b8 c8 d8 (and_left _ _ e) in
      let is = side_by_side low in
      let high = small_of (omega (arith, low.first, ru.first)) (omega (arith, low.second, ru.second)) (omega (arith, low.third, ru.third))
      (omega (arith, low.fourth, ru.fourth)) (sym (ap (λ (x : ℕ). all_below 4 (byte_test x)) is) ∙ and_right _ _ e) in
      both (lt-ltb (a + r) 128 high.first)
      (both (lt-ltb (b + s) 128 high.second) (both (lt-ltb (c + t) 128 high.third) (lt-ltb (d + u) 128 high.fourth))))
      (λ e.
      let sums = sums_of e in
      let low : Small a b c d = record {
        first = omega (arith, sums.first);
        second = omega (arith, sums.second);
        third = omega (arith, sums.third);
        fourth = omega (arith, sums.fourth);
      } in
      both (of_small a8 b8 c8 d8 low)
      (rw (side_by_side low)
      (of_small (omega (arith, sums.first)) (omega (arith, sums.second)) (omega (arith, sums.third)) (omega (arith, sums.fourth)) sums)))
    where
      side_by_side : Small a b c d → raised ≡ four (a + r) (b + s) (c + t) (d + u)
      side_by_side low =
          omega (arith, low.first, low.second, low.third, low.fourth, ru.first, ru.second, ru.third, ru.fourth)

-- a number and what its limit lacks to 127
within : (a m : ℕ) → m ≤ 127 → ltb (a + (127 - m)) 128 ≡ leb a m
within a m l =
    same_test (ltb (a + (127 - m)) 128) (leb a m) (λ e. le-leb a m (omega (arith, l, ltb-true (a + (127 - m)) 128 e)))
    (λ e. lt-ltb (a + (127 - m)) 128 (omega (arith, l, leb-true a m e)))

-- at most the number before a limit is below it
before : (a m : ℕ) → 1 ≤ m → leb a (m - 1) ≡ ltb a m
before a m l =
    same_test (leb a (m - 1)) (ltb a m) (λ e. lt-ltb a m (omega (arith, l, leb-true a (m - 1) e)))
    (λ e. le-leb a (m - 1) (omega (arith, l, ltb-true a m e)))

module _ (c : Setup) (accepted : setup_answer c ≡ 0) (stage node segment name : ℕ)
    (bytes : (stage ≤ 255) × (node ≤ 255) × (segment ≤ 255) × (name ≤ 255)) where
  abbrev ranks : ℕ
  ranks = four stage node segment name

  tested : (all_below 4 (byte_test ranks) && all_below 4 (byte_test ((ranks + headroom c) % 2 ^ 32)))
      ≡ ranks_fit c stage node segment name
  unfolding headroom
  tested =
      let k = limits_of c accepted in
      let leaves = leaves_16 k in
      let limit = limit_64 c accepted in
      limits_tested {r = 127 - exhausted} {s = 127 - (2 * c.leaves - 2)} {t = 127 - (c.segments - 1)} {u = 127 - name_limit c}
      (omega (arith, bytes)) (omega (arith, bytes)) (omega (arith, bytes)) (omega (arith, bytes))
      (record {
        first = omega arith;
        second = omega (arith, leaves);
        third = omega arith;
        fourth = omega (arith, limit);
      })
      ∙ rw (
        within stage exhausted (omega arith),
        within node (2 * c.leaves - 2) (omega (arith, leaves)),
        within segment (c.segments - 1) (omega (arith, k.g8)),
        before segment c.segments k.g1,
        within name (name_limit c) (omega (arith, limit)),
      ) refl

  module _ {x r : ℕ} (is : x ≡ ranks) (lacks : r ≡ headroom c) where
    both_tested : (all_below 4 (byte_test x) && all_below 4 (byte_test ((x + r) % 2 ^ 32))) ≡ ranks_fit c stage node segment name
    both_tested = rw (is, lacks) tested

    pub first_fails : all_below 4 (byte_test x) ≡ false → false ≡ ranks_fit c stage node segment name
    first_fails e = sym (ap (λ (t : Bool). t && all_below 4 (byte_test ((x + r) % 2 ^ 32))) e) ∙ both_tested

    pub second_decides : all_below 4 (byte_test x) ≡ true
        → all_below 4 (byte_test ((x + r) % 2 ^ 32)) ≡ ranks_fit c stage node segment name
    second_decides e = sym (ap (λ (t : Bool). t && all_below 4 (byte_test ((x + r) % 2 ^ 32))) e) ∙ both_tested
