-- The dearest claim, said of the calls: each call's contract gives the machine's setup, run and list, and the machine's theorem says the
-- rest. Assumes nothing.
use mathlib.Core.List.{List, ◌++◌}
use Prim.Native.Nat.{ℕ, ◌*◌, ◌≤◌, ◌<◌}
use native.Mathlib.Decide.{ℕ_discrete}
use lib.ListN.{length, take, drop}
use lib.Seq.{take_at, drop_at}
use contract.Lifetimes.{Lfts}
use denote.MutBor.{MutBor}
use Rattle.machine.proofs.Rules.{◌≡◌, ◌≢◌, ◌∙◌, sym, ap, refl, arith, lt-leb, le-leb}
use Rattle.machine.specs.Answer.{small_buffer}
use Rattle.machine.specs.Lists.{Event, list_bytes, after}
use Rattle.machine.specs.Setup.{plain, setup_answer}
use Rattle.machine.specs.State.{done, fresh, process_at, setup}
use Rattle.machine.specs.declared.DearestList.{DearestList}
use Rattle.machine.specs.declared.Done.{Done}
use Rattle.machine.specs.declared.Setup.{Setup}
use Rattle.machine.specs.declared.State.{State}
use Rattle.machine.proofs.Laws.Fresh.{fresh_in_range}
use Rattle.machine.proofs.Laws.Parts.{bytes_events, bytes_length}
use Rattle.machine.proofs.Laws.Setup.{setup-answers, setup-accepted}
use Rattle.renaming_claim.specs.Claim.{after_list}
use Rattle.dearest_claim.specs.Dearest.{dearest_figure, dear, dearest_events, dearest_bytes, dearest_answer, dearest_of, dearest_list}
use Rattle.dearest_claim.specs.Theorem as spec
use Rattle.dearest_claim.proofs.Call.{answer_setup, answer_buffer, passed_setup, list_answer, refused_list, accepted_list}
use Rattle.dearest_claim.proofs.Theorem as machine
use Rattle.whole_list.specs.Calls.{SetUp, ListCall, Calls}
use Rattle.whole_list.specs.Dearest.{Wrote, Holder, Produced, EveryDearestList}
use Rattle.whole_list.proofs.Accepted.{list_is, run_carried_out}
use Rattle.whole_list.proofs.Chain.{end_is}

module _ (κs : Lfts 1) (n leaves g b : ℕ) (d : Done) (out out' : MutBor (List ℕ)) (l : DearestList) (set : SetUp n leaves g b d)
    (wrote : Wrote κs n leaves g b out l out') where
  abbrev c : Setup
  c = plain n leaves g b

  abbrev lent : List ℕ
  lent = out.now

  abbrev room : ℕ
  room = length lent

  listed : l ≡ dearest_list c lent
  listed = wrote.gave ∙ wrote.learnt.0

  set_is : d ≡ setup c
  set_is = set.gave ∙ set.learnt

  setup_is : d.answer ≡ setup_answer c
  setup_is = ap (λ (x : Done). x.answer) set_is ∙ setup-answers c

  answer_is : l.answer ≡ dearest_answer c room
  answer_is = ap (λ (x : DearestList). x.answer) listed ∙ list_answer c lent

  -- the setup is refused, or the buffer is small
  by_setup : d.answer ≢ 0 → dearest_answer c room ≡ d.answer
  by_setup r = answer_setup c room (λ z. r (setup_is ∙ z)) ∙ sym setup_is

  by_buffer : d.answer ≡ 0 → room < 4096 → dearest_answer c room ≡ small_buffer
  by_buffer a k = answer_buffer c room (sym setup_is ∙ a) ∙ rw (lt-leb 4096 room k)

  refused : {n : ℕ} → dearest_answer c room ≡ n → n ≢ 0 → (l ≡ dearest_of n 0 0) × (out'.now ≡ out.now)
  refused e z =
      let gave = refused_list c lent (λ i. z (sym e ∙ i)) in
      (listed ∙ sym gave.0 ∙ ap (λ (n : ℕ). dearest_of n 0 0) e, wrote.learnt.1 ∙ sym gave.1)

  -- the call is accepted
  module _ (a : l.answer ≡ 0) where
    passes : setup_answer c ≡ 0
    passes = passed_setup c room (sym answer_is ∙ a)

    start : d.state ≡ fresh c
    start = ap (λ (x : Done). x.state) (set_is ∙ setup-accepted c passes)

    made : l ≡ dearest_of 0 (dearest_figure c) (length (dearest_bytes c))
    made = listed ∙ sym (accepted_list c lent (sym answer_is ∙ a)).0

    figure_is : l.figure ≡ dearest_figure c
    figure_is = ap (λ (x : DearestList). x.figure) made

    size_is : l.size ≡ length (dearest_bytes c)
    size_is = ap (λ (x : DearestList). x.size) made

    stored : out'.now ≡ dearest_bytes c ++ drop (length (dearest_bytes c)) lent
    stored = wrote.learnt.1 ∙ sym (accepted_list c lent (sym answer_is ∙ a)).1

    claimed : spec.Dearest c
    claimed = machine.theorem n leaves g b passes

    most : (es : List Event) (ds : List Done) (t : State) → Calls d.state es ds t → (p : ℕ) → p < c.processes
        → (process_at t p).steps ≤ l.figure
    most es ds t calls p k =
        omega (
          arith,
          ap (λ (x : State). (process_at x p).steps) (end_is calls ∙ ap (λ (x : State). after x es) start),
          claimed.most es p k,
          figure_is,
        )

    -- the bytes that it wrote are the list's
    bytes_are : take l.size out'.now ≡ dearest_bytes c
    bytes_are = rw (size_is, stored) (take_at (dearest_bytes c) (drop (length (dearest_bytes c)) lent) (length (dearest_bytes c)) refl)

    shows : (r : Done) (run : ListCall d.state r) → run.bytes.now ≡ take l.size out'.now
        → 2 * l.size ≤ length run.journal.now
        → (r.answer ≡ 0) × Holder c r.state l.figure
    shows r run bytes journal =
        let es : List Event = dearest_events c in
        let list : run.bytes.now ≡ list_bytes es = bytes ∙ bytes_are in
        let size : length run.bytes.now ≡ 2 * length es = ap (λ (x : List ℕ). length x) list ∙ bytes_length es in
        let is : r ≡ done 0 (after_list c es)
        = list_is run
        ∙ run_carried_out d.state run.bytes.now run.journal.now (omega (arith, size))
        (omega (arith, size, journal, size_is, bytes_length es)) (rw start (fresh_in_range c passes))
        ∙ rw (start, list, bytes_events es) in (
          ap (λ (x : Done). x.answer) is,
          record {
            process = dear c;
            known = claimed.known;
            holds = ap (λ (x : Done). (process_at x.state (dear c)).stage) is ∙ claimed.holds;
            costs = ap (λ (x : Done). (process_at x.state (dear c)).steps) is ∙ claimed.costs ∙ sym figure_is;
          },
        )

  short : Dec (l.answer ≡ 0) → l.size ≤ 4096
  short (yes a) = omega (arith, size_is a, bytes_length (dearest_events c), (claimed a).short)
  short (no r) = omega (arith, ap (λ (x : DearestList). x.size) (refused refl (λ z. r (answer_is ∙ z))).0)

  rest : Dec (l.answer ≡ 0) → drop l.size out'.now ≡ drop l.size out.now
  rest (yes a) =
      rw (size_is a, stored a) (drop_at (dearest_bytes c) (drop (length (dearest_bytes c)) lent) (length (dearest_bytes c)) refl)
  rest (no r) = ap (drop l.size) (refused refl (λ z. r (answer_is ∙ z))).1

  holds : Produced c d out.now l out'.now
  holds =
      record {
        accepted = λ a k. answer_is ∙ answer_buffer c room (sym setup_is ∙ a) ∙ rw (le-leb 4096 room (omega (arith, k)));
        figure = figure_is;
        most = most;
        shows = shows;
        refused_setup = λ r. (refused (by_setup r) r).0;
        refused_buffer = λ a k. (refused (by_buffer a k) (λ z. omega arith)).0;
        unwritten = λ r. (refused refl (λ z. r (answer_is ∙ z))).1;
        short = short (ℕ_discrete l.answer 0);
        rest = rest (ℕ_discrete l.answer 0);
      }

pub dearest-lists : EveryDearestList
dearest-lists = holds
