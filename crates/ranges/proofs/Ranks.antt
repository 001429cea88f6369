-- A look at all processes decides their tests: the greater of two numbers passes where both do, so that one process more is its own tests
-- beside those of the others; and the tests of a process are those of its numbers, a node less 1 and a name more 1. By cases.
--     found_none, one_more, found_one    what was found of no process, with one more, and of one
--     all_shown, shut_out, numbers_decide    the names of all, and past them the numbers
use Rattle.std.proofs.Common.{ℕ, ◌+◌, ◌-◌, ◌*◌, ◌%◌, ◌^◌, ◌<◌, ◌≤◌, max, ltb, leb, List, get_or}
use native.Mathlib.Decide.{dec_lt}
use native.Mathlib.Nat.{zero-div}
use Rattle.machine.proofs.Rules.{◌≡◌, ◌∙◌, sym, ap, refl, Bool, true, false, ◌&&◌, and-true, and-false, false≢true}
use Rattle.machine.proofs.Rules.{arith, leb-true, ltb-true, le-leb, lt-ltb, le-ltb, eq-eqb, ne_eqb}
use Rattle.machine.specs.Below.{all_below}
use Rattle.machine.specs.Operations.{bit}
use Rattle.machine.specs.Range.{name_test, process_tests, process_test}
use Rattle.machine.specs.Setup.{names, setup_answer}
use Rattle.machine.specs.Stage.{exhausted}
use Rattle.machine.specs.State.{no_process, figure}
use Rattle.machine.specs.declared.Process.{Process}
use Rattle.machine.specs.declared.Setup.{Setup}
use Rattle.machine.proofs.Facts.Below.{all_in, all_at, all_same}
use Rattle.machine.proofs.Facts.Tests.{all_of_lem, and_comm, both, and_left, and_right, same_test}
use Rattle.machine.proofs.Ranges.{limits_of}
use Rattle.ranges.specs.Tests.{name_limit, shut_test, ranks_fit, ranked}
use Rattle.ranges.proofs.Names.{name_ranked}

-- the greater of two numbers passes where both do
most_le : (a b m : ℕ) → leb (max a b) m ≡ (leb b m && leb a m)
most_le a b m =
    same_test (leb (max a b) m) (leb b m && leb a m)
    (λ e.
    let low : max a b ≤ m = leb-true (max a b) m e in
    both (le-leb b m (omega arith)) (le-leb a m (omega arith)))
    (λ e.
    let first : a ≤ m = leb-true a m (and_right (leb b m) (leb a m) e) in
    let second : b ≤ m = leb-true b m (and_left (leb b m) (leb a m) e) in
    le-leb (max a b) m (omega arith))

most_lt : (a b m : ℕ) → ltb (max a b) m ≡ (ltb b m && ltb a m)
most_lt a b m =
    same_test (ltb (max a b) m) (ltb b m && ltb a m)
    (λ e.
    let low : max a b < m = ltb-true (max a b) m e in
    both (lt-ltb b m (omega arith)) (lt-ltb a m (omega arith)))
    (λ e.
    let first : a < m = ltb-true a m (and_right (ltb b m) (ltb a m) e) in
    let second : b < m = ltb-true b m (and_left (ltb b m) (ltb a m) e) in
    lt-ltb (max a b) m (omega arith))

-- two tests of a process and of those before it, taken together
joined : {x y : Bool} (a s b t : Bool) → x ≡ (a && s) → y ≡ (b && t) → (x && y) ≡ ((a && b) && (s && t))
joined {x} {y} a s b t e f = rw (e, f) (swapped a s b t)
  where
    swapped : (a s b t : Bool) → ((a && s) && (b && t)) ≡ ((a && b) && (s && t))
    swapped false s b t = refl
    swapped true s false t = and-false s
    swapped true s true t = refl

module _ (c : Setup) where
  -- but for the stage; for stage and node
  abbrev placed : ℕ → ℕ → Bool
  placed segment name = ltb segment c.segments && leb name (name_limit c)

  abbrev rooted : ℕ → ℕ → ℕ → Bool
  rooted node segment name = leb node (2 * c.leaves - 2) && placed segment name

  -- the greatest stage, node (less 1), segment and name (more 1), each at most what it may be, and each sum a byte
  abbrev pub found : ℕ → ℕ → ℕ → ℕ → Bool → Bool
  found stage node segment name fits = ranks_fit c stage node segment name && fits

  pub found_none : 1 ≤ c.segments → found 0 0 0 0 true ≡ true
  found_none g1 =
      both
      (both (le-leb 0 exhausted (omega arith))
      (both (le-leb 0 (2 * c.leaves - 2) (omega arith)) (both (lt-ltb 0 c.segments g1) (le-leb 0 (name_limit c) (omega arith)))))
      refl

  pub one_more : (stage node segment name : ℕ) (fits : Bool) (u v w m : ℕ) (x : Bool)
      → found (max stage u) (max node v) (max segment w) (max name m) (fits && x)
      ≡ (found u v w m x && found stage node segment name fits)
  one_more stage node segment name fits u v w m x =
      joined (ranks_fit c u v w m) (ranks_fit c stage node segment name) x fits
      (joined (leb u exhausted) (leb stage exhausted) (rooted v w m) (rooted node segment name) (most_le stage u exhausted)
      (joined (leb v (2 * c.leaves - 2)) (leb node (2 * c.leaves - 2)) (placed w m) (placed segment name)
      (most_le node v (2 * c.leaves - 2))
      (joined (ltb w c.segments) (ltb segment c.segments) (leb m (name_limit c)) (leb name (name_limit c))
      (most_lt segment w c.segments) (most_le name m (name_limit c)))))
      (and_comm fits x)

  -- of one process
  pub found_one : (h : Process) (v m : ℕ) (x : Bool) → leb v (2 * c.leaves - 2) ≡ (leb 1 h.node && ltb h.node (2 * c.leaves))
      → m ≡ (h.name + 1) % 256 → x ≡ leb (figure h) 255 → found h.stage v h.segment m x ≡ ranked c h
  found_one h v m x node name fits = rw (node, name, fits)

regrouped : (a b c d e s f : Bool)
    → (a && (b && (c && (d && ((e && s) && (f && true)))))) ≡ (((a && ((b && c) && (d && e))) && f) && s)
regrouped false b c d e s f = refl
regrouped true false c d e s f = refl
regrouped true true false d e s f = refl
regrouped true true true false e s f = refl
regrouped true true true true false s f = refl
regrouped true true true true true false f = sym (and-false f)
regrouped true true true true true true f = refl

module _ (c : Setup) (accepted : setup_answer c ≡ 0) (h : Process) where
  -- a name in its range is a byte
  name_255 : name_test c h.name ≡ true → h.name ≤ 255
  name_255 e = go (dec_lt 255 h.name)
    where
      go : Dec (255 < h.name) → h.name ≤ 255
      go (yes l) =
          absurd
          (false≢true
          (simp (
            le-ltb h.name (names c) (omega (arith, l, (limits_of c accepted).k64)),
            ne_eqb h.name 255 (λ q. absurd (omega (arith, l, q))),
          ) at e))
      go (no l) = omega (arith, l)

  pub process_open : process_test c h ≡ true → shut_test c.closed h.name ≡ true
  process_open e =
      let name : name_test c h.name ≡ true = all_of_lem (process_tests c h) e 4 in
      let ranked = sym (name_ranked c accepted h.name (name_255 name)) ∙ name in
      and_right (leb ((h.name + 1) % 256) (name_limit c)) (shut_test c.closed h.name) ranked

  -- a process whose name is a byte is tested by its numbers and by its name
  pub process_parts : h.name ≤ 255 → process_test c h ≡ (ranked c h && shut_test c.closed h.name)
  process_parts m255 =
      rw (name_ranked c accepted h.name m255)
      (regrouped (leb h.stage exhausted) (leb 1 h.node) (ltb h.node (2 * c.leaves)) (ltb h.segment c.segments)
      (leb ((h.name + 1) % 256) (name_limit c)) (shut_test c.closed h.name) (leb (figure h) 255))

-- with none closed no name is
pub names_open : (closed m : ℕ) → closed ≡ 0 → shut_test closed m ≡ true
names_open closed m e =
    eq-eqb (bit (closed % 2 ^ 63) (m % 64)) 0
    (ap (λ (x : ℕ). bit (x % 2 ^ 63) (m % 64)) e ∙ ap (λ (x : ℕ). x % 2) (zero-div (2 ^ (m % 64))))

-- the first n processes of a list
module _ (c : Setup) (accepted : setup_answer c ≡ 0) (ps : List Process) (n : ℕ) where
  abbrev tested : ℕ → Bool
  tested p = process_test c (get_or ps p no_process)

  abbrev shown : ℕ → Bool
  shown p = shut_test c.closed (get_or ps p no_process).name

  pub all_shown : c.closed ≡ 0 → all_below n shown ≡ true
  all_shown e = all_in n shown (λ p _. names_open c.closed (get_or ps p no_process).name e)

  -- a closed name puts a process out of range
  pub shut_out : all_below n shown ≡ false → false ≡ all_below n tested
  shut_out e = go (all_below n tested) refl
    where
      go : (t : Bool) → all_below n tested ≡ t → false ≡ t
      go false f = refl
      go true f =
          absurd
          (false≢true (sym e ∙ all_in n shown (λ p l. process_open c accepted (get_or ps p no_process) (all_at n tested f p l))))

  -- where no name is closed the numbers decide
  pub numbers_decide : all_below n shown ≡ true → ((p : ℕ) → p < n → (get_or ps p no_process).name ≤ 255)
      → all_below n (λ p. ranked c (get_or ps p no_process)) ≡ all_below n tested
  numbers_decide e bytes =
      all_same n (λ p. ranked c (get_or ps p no_process)) tested
      (λ p l.
      let h = get_or ps p no_process in
      sym
      (process_parts c accepted h (bytes p l)
      ∙ ap (λ (t : Bool). ranked c h && t) (all_at n shown e p l)
      ∙ and-true (ranked c h)))
