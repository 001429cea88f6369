-- A call given 255 for a number above 255 gives what it would give that number: as a number of a setup, as a kind and as a process both
-- are refused, at the same check. By the test that fails. Assumes nothing.
use mathlib.Core.List.{List, ◌++◌}
use Prim.Native.Nat.{ℕ, ◌≤◌, ◌<◌}
use lib.Dec.{ltb}
use lib.ListN.{length, drop}
use Rattle.machine.proofs.Rules.{◌≡◌, ◌∙◌, refl, true, false, Bool, arith, le-leb, le-ltb, ltb-true, ne_eqb, lt-leb}
use Rattle.machine.specs.Check.{checked}
use Rattle.machine.specs.Event.{event}
use Rattle.machine.specs.Filled.{written_of}
use Rattle.machine.specs.Range.{in_range}
use Rattle.machine.specs.Setup.{numbered, plain, within, is_leaves, setup_checks}
use Rattle.machine.specs.State.{done, fresh, blank, setup, partial, partial_setup}
use Rattle.machine.specs.declared.Setup.{Setup}
use Rattle.machine.specs.declared.State.{State}
use Rattle.machine.proofs.Ranges.{ranges_of}
use Rattle.day_file.specs.Writer.{file_bytes, list_checks, write_file, write_buffer}
use Rattle.dearest_claim.specs.Dearest.{dearest_figure, dearest_bytes, buffer_checks, dearest_of, dearest_list, dearest_buffer}
use Rattle.zevgorim.specs.Narrow.{narrow}

-- what gives the same at 255 as at every larger number gives the same at a number and at its byte
narrowed_same : {A : Type 0} (f : ℕ → A) → ((x : ℕ) → 255 < x → f 255 ≡ f x) → (x : ℕ) → f (narrow x) ≡ f x
unfolding narrow
narrowed_same f large x = go (ltb 255 x) refl
  where
    go : (t : Bool) → ltb 255 x ≡ t → f (narrow x) ≡ f x
    go true e = rw e (large x (ltb-true 255 x e))
    go false e = rw e refl

large_outside : (high x : ℕ) → high ≤ 255 → 255 < x → within 1 high x ≡ false
large_outside high x h k = rw (le-leb 1 x (omega arith), lt-leb x high (omega arith))

large_no_leaves : (x : ℕ) → 255 < x → is_leaves x ≡ false
unfolding is_leaves
large_no_leaves x k =
    rw (ne_eqb x 1 (omega arith), ne_eqb x 2 (omega arith), ne_eqb x 4 (omega arith), ne_eqb x 8 (omega arith), ne_eqb x 16 (omega arith))

-- each number of a setup is refused by its own check, whatever the others and the closed names are and whatever comes after these checks
module _ {A : Type 0} (refuse : ℕ → A) (accept : Setup → A) (w : ℕ) where
  abbrev by_checks : Setup → A
  by_checks c = checked (setup_checks c) refuse (accept c)

  checks_narrowed : (n l g b : ℕ) → by_checks (numbered (narrow n) (narrow l) (narrow g) (narrow b) w) ≡ by_checks (numbered n l g b w)
  unfolding is_leaves
  checks_narrowed n l g b =
      narrowed_same (λ x. by_checks (numbered x (narrow l) (narrow g) (narrow b) w)) (λ x k. rw (large_outside 64 x (omega arith) k)) n
      ∙ narrowed_same (λ x. by_checks (numbered n x (narrow g) (narrow b) w)) (λ x k. rw (large_no_leaves x k)) l
      ∙ narrowed_same (λ x. by_checks (numbered n l x (narrow b) w)) (λ x k. rw (large_outside 8 x (omega arith) k)) g
      ∙ narrowed_same (λ x. by_checks (numbered n l g x w)) (λ x k. rw (large_outside 8 x (omega arith) k)) b

-- with closed names, or with none
pub setup_narrowed : (w n l g b : ℕ) → setup (numbered (narrow n) (narrow l) (narrow g) (narrow b) w) ≡ setup (numbered n l g b w)
unfolding setup
setup_narrowed = checks_narrowed (λ a. done a blank) (λ c. done 0 (fresh c))

pub partial_narrowed : (n l g b count : ℕ)
    → partial_setup (plain (narrow n) (narrow l) (narrow g) (narrow b)) count ≡ partial_setup (plain n l g b) count
unfolding partial_setup
partial_narrowed n l g b count = checks_narrowed (λ a. done a blank) (λ c. done 0 (partial c count)) 0 n l g b

module _ (n l g b : ℕ) (events lent : List ℕ) where
  abbrev later : {A : Type 0} → (ℕ → A) → A → A
  later = checked (list_checks (length events) (length lent))

  pub write_narrowed : write_file (plain (narrow n) (narrow l) (narrow g) (narrow b)) events lent ≡ write_file (plain n l g b) events lent
  unfolding write_file
  write_narrowed =
      checks_narrowed (λ a. written_of a 0) (λ c. later (λ a. written_of a 0) (written_of 0 (length (file_bytes c events)))) 0 n l g b

  pub buffer_narrowed :
      write_buffer (plain (narrow n) (narrow l) (narrow g) (narrow b)) events lent ≡ write_buffer (plain n l g b) events lent
  unfolding write_buffer
  buffer_narrowed =
      checks_narrowed (λ a. lent) (λ c. later (λ a. lent) (file_bytes c events ++ drop (length (file_bytes c events)) lent)) 0 n l g b

-- the check of the buffer is the same for every setup
module _ (n l g b : ℕ) (lent : List ℕ) where
  abbrev small : {A : Type 0} → (ℕ → A) → A → A
  small = checked (buffer_checks (length lent))

  pub dearest_narrowed : dearest_list (plain (narrow n) (narrow l) (narrow g) (narrow b)) lent ≡ dearest_list (plain n l g b) lent
  unfolding dearest_list
  dearest_narrowed =
      checks_narrowed (λ a. dearest_of a 0 0)
      (λ c. small (λ a. dearest_of a 0 0) (dearest_of 0 (dearest_figure c) (length (dearest_bytes c)))) 0 n l g b

  pub dearest_buffer_narrowed :
      dearest_buffer (plain (narrow n) (narrow l) (narrow g) (narrow b)) lent ≡ dearest_buffer (plain n l g b) lent
  unfolding dearest_buffer
  dearest_buffer_narrowed =
      checks_narrowed (λ a. lent) (λ c. small (λ a. lent) (dearest_bytes c ++ drop (length (dearest_bytes c)) lent)) 0 n l g b

large_kind : (s : State) (p x : ℕ) → 255 < x → event s 255 p ≡ event s x p
unfolding event
large_kind s p x k = rw (lt-leb x 2 (omega arith))

-- in range, a state has at most 64 processes; out of range, it is refused before its process is looked at
large_process : (s : State) (kind x : ℕ) → 255 < x → event s kind 255 ≡ event s kind x
unfolding event
large_process s kind x k = go (in_range s) refl
  where
    go : (t : Bool) → in_range s ≡ t → event s kind 255 ≡ event s kind x
    go true e =
        let n = (ranges_of s e).limits.n64 in
        rw (e, le-ltb 255 s.setup.processes (omega (arith, n)), le-ltb x s.setup.processes (omega (arith, n)))
    go false e = rw e

pub process_narrowed : (s : State) (kind p : ℕ) → event s kind (narrow p) ≡ event s kind p
process_narrowed s kind = narrowed_same (event s kind) (large_process s kind)

pub event_narrowed : (s : State) (kind p : ℕ) → event s (narrow kind) (narrow p) ≡ event s kind p
event_narrowed s kind p = narrowed_same (λ x. event s x (narrow p)) (large_kind s (narrow p)) kind ∙ process_narrowed s kind p

-- what a search is handed of the calls that fill a buffer: what they give, and what they leave
pub ruleset file_narrowed = (write_narrowed, buffer_narrowed)

pub ruleset dearest_list_narrowed = (dearest_narrowed, dearest_buffer_narrowed)
