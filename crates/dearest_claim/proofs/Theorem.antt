-- The dearest claim of every accepted setup that closes none: no list makes a claim cost more than the figure, by the invariant with M
-- the number of processes; and the list's run ends with the dear process, which holds a name for just that. Assumes nothing.
use mathlib.Core.List.{List}
use Prim.Native.Nat.{ℕ, suc, ◌-◌, ◌≤◌, ◌<◌}
use native.Mathlib.Nat.{mul-div_cancel}
use Rattle.machine.proofs.Rules.{◌≡◌, ◌∙◌, ap, refl, arith}
use Rattle.machine.specs.Lists.{Event, after}
use Rattle.machine.specs.Setup.{plain, setup_answer}
use Rattle.machine.specs.State.{fresh}
use Rattle.machine.proofs.Laws.Parts.{after_parts}
use Rattle.machine.proofs.Ranges.{limits_of}
use Rattle.renaming_claim.specs.Claim.{after_list}
use Rattle.renaming_claim.proofs.Mover.{Setup, State, process_at, Mover, shape, limits}
use Rattle.renaming_claim.proofs.Preserved.{list_steady, list_setup}
use Rattle.renaming_claim.proofs.Start.{start_sound}
use Rattle.dearest_claim.specs.Dearest.{tried, dearest_figure, claim, claims, dear, dearest_events}
use Rattle.dearest_claim.specs.Theorem.{Dearest, EverySetup}
use Rattle.dearest_claim.proofs.Cost.{cost_most}
use Rattle.dearest_claim.proofs.Run.{Accepted, Ready, Claimed, claim-run, claims_run, accepted_both}
use Rattle.dearest_claim.proofs.Sizes.{dear_known, dear_inside, claims_length}

module _ (c : Setup) (none : c.closed ≡ 0) (accepted : setup_answer c ≡ 0) where
  most : (es : List Event) (p : ℕ) → p < c.processes → (process_at (after_list c es) p).steps ≤ dearest_figure c
  unfolding fresh
  most es p l =
      let t : State = after_list c es in
      let same : t.setup ≡ c = list_setup (fresh c) es in
      let m : Mover t.setup.processes t p
      = record {
        sound = list_steady (fresh c) (start_sound c accepted c.processes) es;
        known = omega (arith, ap (λ (d : Setup). d.processes) same);
      } in
      let open-here : t.setup.closed ≡ 0 = ap (λ (d : Setup). d.closed) same ∙ none in
      omega (arith, rw same at (cost_most t.setup t.setup.processes open-here (limits m).b1 (shape m).cost))

  -- the claims before the dear process's, and its own
  before : Ready c (dear c) (after_list c (claims c (dear c))) × Accepted (fresh c) (claims c (dear c))
  before = claims_run c none accepted (dear c) (dear_known c accepted) (dear_inside c accepted)

  own : Claimed c (dear c) (after (after_list c (claims c (dear c))) (claim c (dear c)))
      × Accepted (after_list c (claims c (dear c))) (claim c (dear c))
  own = claim-run c (dear c) (dear_known c accepted) (dear_inside c accepted) before.0

  ended : Claimed c (dear c) (after_list c (dearest_events c))
  unfolding claims
  ended = rw (after_parts (fresh c) (claims c (dear c)) (claim c (dear c))) own.0

  dearest : Dearest c
  dearest =
      record {
        most = most;
        known = dear_known c accepted;
        holds = ended.holds;
        costs = ended.steps ∙ omega (arith, mul-div_cancel (tried c - 1) (limits_of c accepted).b1, (limits_of c accepted).g1);
        accepted_all = unfold claims in (accepted_both (fresh c) (claims c (dear c)) (claim c (dear c)) before.1 own.1);
        short =
            omega (
              arith,
              claims_length c accepted (suc (dear c)) (dear_inside c accepted),
              dear_known c accepted,
              (limits_of c accepted).n64,
            );
      }

pub theorem : EverySetup
theorem n l g b = dearest (plain n l g b) refl
