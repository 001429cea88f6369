-- The list, put part by part: of a claim that has one step more, and of the claims of one process more. Assumes nothing.
use mathlib.Core.List.{List, [], ◌∷◌, ◌++◌}
use Prim.Native.Nat.{ℕ, suc, ◌+◌, ◌*◌, ◌/◌, ◌≤◌, ◌<◌}
use native.Mathlib.Numerals.{add-one}
use lib.ListN.{length, replicate, length-append, length-replicate, replicate-append-replicate}
use Rattle.machine.proofs.Rules.{◌≡◌, ◌∙◌, sym, ap, arith}
use Rattle.machine.specs.Kind.{step}
use Rattle.machine.specs.Lists.{Event, event_of, list_bytes}
use Rattle.machine.specs.Setup.{height, setup_answer}
use Rattle.machine.specs.declared.Setup.{Setup}
use Rattle.machine.proofs.Laws.Parts.{bytes_length, bytes_parts}
use Rattle.machine.proofs.Ranges.{limits_of}
use Rattle.dearest_claim.specs.Dearest.{steps_of, claim, claims, dear}
use Rattle.dearest_claim.proofs.Sizes.{dear_known, dear_inside, steps_few, claims_length}

-- the bytes of so many steps
abbrev pub step_bytes : ℕ → ℕ → List ℕ
step_bytes p n = list_bytes (replicate n (event_of step p))

pub step_size : (p n : ℕ) → length (step_bytes p n) ≡ 2 * n
step_size p n = omega (arith, bytes_length (replicate n (event_of step p)), length-replicate n (event_of step p))

pub step_more : (p n : ℕ) → step_bytes p n ++ list_bytes (event_of step p ∷ []) ≡ step_bytes p (n + 1)
step_more p n =
    let e : Event = event_of step p in
    sym (bytes_parts (replicate n e) (e ∷ [])) ∙ ap list_bytes (replicate-append-replicate n 1 e)

module _ (c : Setup) (p : ℕ) where
  -- where the claims of one process more end
  pub claims_size : length (list_bytes (claims c (p + 1))) ≡ length (list_bytes (claims c p)) + 2 * (steps_of c p + 1)
  unfolding claims
  claims_size =
      rw (add-one p)
      (omega (
        arith,
        ap (λ (l : List ℕ). length l) (bytes_parts (claims c p) (claim c p)),
        length-append (list_bytes (claims c p)) (list_bytes (claim c p)),
        bytes_length (claim c p),
        length-replicate (steps_of c p) (event_of step p),
      ))

  pub claims_more : list_bytes (claims c p) ++ list_bytes (claim c p) ≡ list_bytes (claims c (p + 1))
  unfolding claims
  claims_more = rw (add-one p) (sym (bytes_parts (claims c p) (claim c p)))

-- the claims up to the dear process's take at most 1,792 bytes
pub claims_fit : (c : Setup) → setup_answer c ≡ 0 → (n : ℕ) → n ≤ suc (dear c) → length (list_bytes (claims c n)) ≤ 1792
claims_fit c accepted n l =
    omega (
      arith,
      bytes_length (claims c n),
      claims_length c accepted n (omega (arith, dear_inside c accepted)),
      dear_known c accepted,
      (limits_of c accepted).n64,
    )

-- the claim of process p, behind those before it: how many steps it takes, and that the whole has room
pub record ClaimPut (c : Setup) (p steps : ℕ) : Type 0 where
  pub are : steps ≡ steps_of c p
  pub few : steps ≤ 13
  pub room : length (list_bytes (claims c p)) + 2 * suc steps ≤ 1792

pub claim_put :
    (c c' : Setup) (h p count : ℕ) → c' ≡ c → setup_answer c' ≡ 0 → h ≡ height c.leaves → p < count → count ≤ suc (dear c)
    → ClaimPut c p (h + 2 + p / c'.bits)
claim_put c c' h p count same accepted' e l n =
    let accepted : setup_answer c ≡ 0 = ap setup_answer (sym same) ∙ accepted' in
    let are : h + 2 + p / c'.bits ≡ steps_of c p
    = ap (λ (h : ℕ). h + 2 + p / c'.bits) e ∙ ap (λ (s : Setup). height c.leaves + 2 + p / s.bits) same in
    record {
      are = are;
      few = omega (arith, are, steps_few c accepted p (omega (arith, l, n, dear_inside c accepted)));
      room = omega (arith, are, claims_size c p, claims_fit c accepted (p + 1) (omega (arith, l, n)));
    }
