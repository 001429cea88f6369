-- Runs beyond the table that pin what it leaves open: the order of the refusals, closed names, each range, the queue's order, and a full
-- round on either side of a node. `controls` in proofs/Controls.antt computes each.
use Rattle.std.specs.Prelude.{◌≡◌, true, false, List, [], ◌∷◌, ◌++◌, map, ℕ, pos, negsuc, take, replicate}
use Rattle.machine.specs.Admitted.{admitted}
use Rattle.machine.specs.Below.{tabulate}
use Rattle.machine.specs.Event.{event}
use Rattle.machine.specs.Lists.{Event, events_of, after, journal, run, run_journal}
use Rattle.machine.specs.Operations.{set_first_zero}
use Rattle.machine.specs.Range.{in_range}
use Rattle.machine.specs.Reports.{gate_report, status_answer, status_records}
use Rattle.machine.specs.Closed.{rank}
use Rattle.machine.specs.Setup.{numbered, given, plain}
use Rattle.machine.specs.Runs.{request, step, release, line}
use Rattle.machine.specs.State.{done, none, fresh_process, with_stage, with_node, with_segment, with_name, with_steps, with_returns}
use Rattle.machine.specs.State.{process_at, counter_at, with_gate, with_queue, with_counter, with_word, with_process, update}
use Rattle.machine.specs.State.{fresh, blank, setup, partial, partial_setup}
use Rattle.machine.specs.declared.Done.{Done}
use Rattle.machine.specs.declared.Process.{Process}
use Rattle.machine.specs.declared.Setup.{Setup}
use Rattle.machine.specs.declared.State.{State}
use Rattle.machine.specs.declared.Status.{Status}

-- two processes, two leaves of one segment of one bit; and one name for three
abbrev pub pair : State
pair = fresh (plain 2 2 1 1)

abbrev pub single : State
single = fresh (plain 3 1 1 1)

-- setups that are refused with 1 to 5: each is bad in every later way too
abbrev pub bad_setups : List Setup
bad_setups = plain 65 3 9 9 ∷ plain 64 3 9 9 ∷ plain 64 16 9 9 ∷ plain 64 16 8 9 ∷ plain 64 16 8 8 ∷ []

abbrev pub refused_setups : List Done
refused_setups = done 1 blank ∷ done 2 blank ∷ done 3 blank ∷ done 4 blank ∷ done 5 blank ∷ []

-- four leaves of two segments of two bits, with four of sixteen names closed, one of them named twice: one of leaf 0, three of leaf 1
abbrev pub torn : Setup
torn = given 4 4 2 2 (7 ∷ 0 ∷ 5 ∷ 6 ∷ 5 ∷ [])

-- lists of closed names for a setup of two names
abbrev pub closings : List (List ℕ)
closings =
    []
    ∷ (1 ∷ [])
    ∷ (0 ∷ 0 ∷ 0 ∷ [])
    ∷ (2 ∷ [])
    ∷ (0 ∷ 255 ∷ 1 ∷ [])
    ∷ (1 ∷ 0 ∷ [])
    ∷ (1 ∷ 0 ∷ 1 ∷ 0 ∷ [])
    ∷ []

-- process 0 wins by the left leaf and process 1 by the right; 1 gives its name back, then 0
abbrev pub round : List Event
round =
    events_of
    (request 0 ++ step 0 ++ step 0 ++ step 0
    ++ request 1 ++ step 1 ++ step 1 ++ step 1
    ++ release 1 ++ step 1 ++ step 1 ++ step 1
    ++ release 0 ++ step 0 ++ step 0 ++ step 0)

-- process 0 wins; 1 and then 2 join the queue; 0 returns
abbrev pub queueing : List Event
queueing =
    events_of
    (request 0 ++ step 0 ++ step 0 ++ request 1 ++ step 1 ++ request 2 ++ step 2 ++ release 0 ++ step 0 ++ step 0 ++ step 2 ++ step 1)

-- process 0 at the last of two full segments
abbrev pub full : State
full = with_word 0 1 (with_word 1 1 (update 0 (λ h. with_stage 3 (with_segment 1 h)) (fresh (plain 2 1 2 1))))

-- a process with so many getname steps and return operations
abbrev pub spent : ℕ → ℕ → Process → Process
spent steps returns h = with_returns returns (with_steps steps h)

-- states with a number outside its range, at each end that a range has
abbrev pub broken : List State
broken =
    fresh (plain 0 2 1 1)
    ∷ fresh (plain 65 2 1 1)
    ∷ fresh (plain 2 3 1 1)
    ∷ fresh (plain 2 2 0 1)
    ∷ fresh (plain 2 2 9 1)
    ∷ fresh (plain 2 2 1 0)
    ∷ fresh (plain 2 2 1 9)
    ∷ fresh (plain 2 16 8 1)
    ∷ with_gate (pos 3) pair
    ∷ with_gate (negsuc 64) pair
    ∷ with_queue 65 (replicate 64 0) pair
    ∷ with_queue 1 (2 ∷ replicate 63 0) pair
    ∷ with_queue 0 (1 ∷ replicate 63 0) pair
    ∷ with_queue 0 (replicate 63 0 ++ 1 ∷ []) pair
    ∷ with_counter 1 2 pair
    ∷ with_word 1 2 pair
    ∷ update 1 (with_stage 7) pair
    ∷ update 1 (with_node 0) pair
    ∷ update 1 (with_node 4) pair
    ∷ update 1 (with_segment 1) pair
    ∷ update 1 (with_name 2) pair
    ∷ update 1 (with_name 254) pair
    ∷ update 1 (spent 256 0) pair
    ∷ update 1 (spent 255 1) pair
    ∷ update 1 (spent 1 255) pair
    ∷ update 1 (spent 128 128) pair
    ∷ update 1 (spent 255 255) pair
    ∷ fresh (numbered 2 2 1 1 4)
    ∷ fresh (numbered 2 2 1 1 3)
    ∷ with_word 0 1 (fresh torn)
    ∷ update 1 (with_name 5) (fresh torn)
    ∷ with_counter 1 5 (fresh torn)
    ∷ with_gate (pos 13) (fresh torn)
    ∷ blank
    ∷ []

-- 9 in every place of a process, and of a status record
abbrev pub nines : Process
nines = with_stage 9 (with_node 9 (with_segment 9 (with_name 9 (spent 9 9 fresh_process))))

abbrev pub noted : Status
noted = record { stage = 9; name = 9; figure = 9 }

-- each number at an end of its range, and any number where nothing is used
abbrev pub whole : List State
whole =
    fresh (plain 1 1 1 1)
    ∷ fresh (plain 1 16 2 2)
    ∷ fresh (plain 64 16 2 2)
    ∷ fresh (plain 64 1 8 8)
    ∷ with_gate (negsuc 63) pair
    ∷ with_queue 64 (replicate 64 1) pair
    ∷ with_counter 1 0 pair
    ∷ with_word 1 1 pair
    ∷ update 1 (λ h. with_stage 6 (with_node 3 (with_name 1 (spent 255 0 h)))) pair
    ∷ update 1 (spent 0 255) pair
    ∷ update 1 (spent 127 128) pair
    ∷ fresh torn
    ∷ with_word 0 2 (update 1 (with_name 1) (fresh torn))
    ∷ with_counter 0 255 (with_counter 2 255 (with_word 2 255 (with_process 2 nines pair)))
    ∷ []

-- states in range whose next turn of process 0 would leave one: the gate word at -64, the queue full; the figure at 255 for a claim at a
-- node and at a leaf, a bit clear and a counter given back; the counter at its fresh value, the gate word at the open names, with none
-- closed and with some
abbrev pub edges : List State
edges =
    with_gate (negsuc 63) (update 0 (with_stage 1) pair)
    ∷ with_gate (pos 0) (with_queue 64 (replicate 64 1) (update 0 (with_stage 1) pair))
    ∷ update 0 (λ h. with_stage 3 (spent 255 0 h)) pair
    ∷ update 0 (λ h. with_stage 3 (with_node 2 (spent 200 55 h))) pair
    ∷ update 0 (λ h. with_stage 5 (with_node 2 (with_name 0 (spent 0 255 h)))) pair
    ∷ with_counter 1 0 (update 0 (λ h. with_stage 5 (with_node 2 (spent 55 200 h))) pair)
    ∷ update 0 (λ h. with_stage 5 (with_node 2 h)) pair
    ∷ update 0 (with_stage 5) pair
    ∷ update 0 (λ h. with_stage 5 (with_node 4 h)) (fresh torn)
    ∷ update 0 (with_stage 5) (fresh torn)
    ∷ []

-- states in range with the figure at 255, where the next turn of process 0 counts nothing: a level left by the right, and the gate
abbrev pub uncounted : List State
uncounted =
    update 0 (λ h. with_stage 5 (with_node 3 (spent 0 255 h))) pair
    ∷ with_gate (pos 1) (update 0 (λ h. with_stage 5 (spent 255 0 h)) pair)
    ∷ []

-- the numbers of a process
abbrev pub numbers : Process → List ℕ
numbers h = h.stage ∷ h.node ∷ h.segment ∷ h.name ∷ h.steps ∷ h.returns ∷ []

pub record Controls : Type 0 where
  -- setup checks 1 to 5 in that order; so does its second form
  pub setups : map setup bad_setups ≡ refused_setups
  pub partial_setups : map (λ c. partial_setup c 9) bad_setups ≡ refused_setups
  -- of several clear bits the lowest is set
  pub lowest : set_first_zero 3 0 0 ≡ record { answer = 0; word = 1 }
  -- past a closed bit, and where the bits that are clear are closed
  pub past_closed : set_first_zero 3 1 4 ≡ record { answer = 1; word = 6 }
  pub all_closed : set_first_zero 3 3 4 ≡ record { answer = 3; word = 4 }
  -- a setup with closed names: 19 after 5, then 20, whatever the order and however often one is named
  pub closed_setups : map (λ ps. (setup (given 1 1 2 1 ps)).answer) closings ≡ 0 ∷ 0 ∷ 0 ∷ 19 ∷ 19 ∷ 20 ∷ 20 ∷ []
  pub numbers_first : setup (given 1 16 8 8 (255 ∷ [])) ≡ done 5 blank
  pub no_open_name : setup (given 1 1 2 1 (1 ∷ 0 ∷ [])) ≡ done 20 blank
  -- its number, counters by node, gate word, and the open names below some
  pub closed_number : torn.closed ≡ 225
  pub closed_counters : take 5 (fresh torn).counters ≡ 0 ∷ 4 ∷ 3 ∷ 4 ∷ 0 ∷ []
  pub closed_gate : (fresh torn).gate ≡ pos 12
  pub closed_ranks : map (rank torn) (0 ∷ 1 ∷ 4 ∷ 8 ∷ 16 ∷ []) ≡ 0 ∷ 0 ∷ 3 ∷ 4 ∷ 12 ∷ []
  -- counters k / 2^(d+1), by node
  pub counters : (fresh (plain 64 16 2 2)).counters ≡ 0 ∷ 32 ∷ 16 ∷ 16 ∷ 8 ∷ 8 ∷ 8 ∷ 8 ∷ 4 ∷ 4 ∷ 4 ∷ 4 ∷ 4 ∷ 4 ∷ 4 ∷ 4 ∷ []
  -- fresh: 0, 1, 0, 255, 0, 0; and 0 where the setup leaves a place unused
  pub fresh_processes : map numbers (take 3 pair.process)
      ≡ (0 ∷ 1 ∷ 0 ∷ 255 ∷ 0 ∷ 0 ∷ []) ∷ (0 ∷ 1 ∷ 0 ∷ 255 ∷ 0 ∷ 0 ∷ []) ∷ replicate 6 0 ∷ []
  pub fresh_unused : (pair.counters ≡ 0 ∷ 1 ∷ replicate 14 0) × (pair.words ≡ replicate 64 0) × (pair.queue ≡ replicate 64 0)
  -- filled from node L - 1 up to node 1, for counts from 0 on
  pub partial_counters : tabulate 5 (λ n. take 5 (partial (plain 4 4 1 1) n).counters)
      ≡ (0 ∷ 0 ∷ 0 ∷ 0 ∷ 0 ∷ []) ∷ (0 ∷ 0 ∷ 0 ∷ 1 ∷ 0 ∷ []) ∷ (0 ∷ 0 ∷ 1 ∷ 1 ∷ 0 ∷ [])
      ∷ (0 ∷ 2 ∷ 1 ∷ 1 ∷ 0 ∷ []) ∷ (0 ∷ 2 ∷ 1 ∷ 1 ∷ 0 ∷ []) ∷ []
  -- from a smaller count's state demand 3 does not hold: the first process admitted holds name 1, and the second is exhausted
  pub partial_start : journal (partial (plain 2 2 1 1) 0) (take 8 round)
      ≡ line 0 1 none 0 ++ line 0 3 none 0 ++ line 0 3 none 1 ++ line 0 4 1 2
      ++ line 0 1 none 0 ++ line 0 3 none 0 ++ line 0 3 none 1 ++ line 0 6 none 2
  -- each range, its ends, and unused places
  pub out_of_range : map in_range broken ≡ replicate 34 false
  pub at_the_ends : map in_range whole ≡ replicate 14 true
  -- an event: 15 for the state, 12, 6, then 7, 8 or 9
  pub state_first : event blank 3 9 ≡ done 15 blank
  pub refusals : journal pair (events_of ((3 ∷ 2 ∷ []) ++ step 2 ++ step 0 ++ release 0 ++ request 0 ++ request 0))
      ≡ line 12 255 255 255 ++ line 6 255 255 255 ++ line 8 0 none 0 ++ line 9 0 none 0 ++ line 0 1 none 0 ++ line 7 1 none 0
  -- then 15 for the turn: the state stays
  pub turns : map (λ (s : State). event s 1 0) edges ≡ map (done 15) edges
  -- a turn that counts nothing is accepted with a figure of 255
  pub uncounted_turns : map (λ (s : State). (event s 1 0).answer) uncounted ≡ 0 ∷ 0 ∷ []
  -- the right leaf's process gives no counter back, the left one's does; after the round only steps and return operations tell of it
  pub right_back : counter_at (after pair (take 12 round)) 1 ≡ 0
  pub round_trip : after pair round ≡ update 0 (spent 2 2) (update 1 (spent 2 1) pair)
  -- a second request counts both from 0 again
  pub again : process_at (after pair (round ++ events_of (request 0))) 0 ≡ with_stage 1 fresh_process
  -- the queue is served from its head: 2 stays in it and 1 goes on
  pub queue : journal single queueing
      ≡ line 0 1 none 0 ++ line 0 3 none 0 ++ line 0 4 0 1
      ++ line 0 1 none 0 ++ line 0 2 none 0
      ++ line 0 1 none 0 ++ line 0 2 none 0
      ++ line 0 5 0 1 ++ line 0 5 none 2 ++ line 0 0 none 2
      ++ line 0 2 none 0 ++ line 0 3 none 0
  -- admitted at the start and after each of those events: 1 still waits, out of the queue, when 0 has left
  pub admitted_counts : tabulate 13 (λ n. admitted (after single (take n queueing))) ≡ 0 ∷ 0 ∷ replicate 11 1
  -- at the last segment with no bit clear: stage 6, the segment unchanged; and from there no change
  pub none_left : event full 1 0 ≡ done 0 (update 0 (λ h. with_stage 6 (with_steps 1 h)) full)
  pub stays_exhausted : event (event full 1 0).state 1 0 ≡ done 0 (event full 1 0).state
  -- a list: 14, 13, 15; a refused list writes nothing, and bytes beyond the entries are untouched
  pub odd : run blank (0 ∷ []) [] ≡ done 14 blank
  pub short : run blank (request 0) (9 ∷ 9 ∷ 9 ∷ []) ≡ done 13 blank
  pub bad_state : run blank (request 0) (9 ∷ 9 ∷ 9 ∷ 9 ∷ []) ≡ done 15 blank
  pub nothing_written : run_journal blank (request 0) (9 ∷ 9 ∷ 9 ∷ 9 ∷ []) ≡ 9 ∷ 9 ∷ 9 ∷ 9 ∷ []
  pub beyond : run_journal pair (request 0) (9 ∷ 9 ∷ 9 ∷ 9 ∷ 9 ∷ []) ≡ line 0 1 none 0 ++ 9 ∷ []
  -- the gate report above, at and below 0, and refused
  pub report : map gate_report (pair ∷ with_gate (pos 0) pair ∷ with_gate (negsuc 4) pair ∷ blank ∷ [])
      ≡ record { answer = 0; free = 2; queued = 0 }
      ∷ record { answer = 0; free = 0; queued = 0 }
      ∷ record { answer = 0; free = 0; queued = 5 }
      ∷ record { answer = 15; free = 0; queued = 0 }
      ∷ []
  -- the status records: 15, 13; records from N on are untouched, and a refused list writes nothing
  pub status : status_records (after pair (take 4 round)) (replicate 3 noted)
      ≡ record { stage = 4; name = 0; figure = 2 } ∷ record { stage = 0; name = none; figure = 0 } ∷ noted ∷ []
  -- they show the sum of steps and return operations
  pub status_sum : status_records (after pair round) (noted ∷ noted ∷ [])
      ≡ record { stage = 0; name = none; figure = 4 } ∷ record { stage = 0; name = none; figure = 3 } ∷ []
  pub status_state : status_answer blank [] ≡ 15
  pub status_short : (status_answer pair (noted ∷ []) ≡ 13) × (status_records pair (noted ∷ []) ≡ noted ∷ [])
