-- Document 01's table of worked orders, P1 to P11; `worked` in proofs/Worked.antt computes each. In P11 lines eight and nine end in 2
-- (document 02, b). Nothing is closed (document 02, e).
use Rattle.std.specs.Prelude.{◌≡◌, List, ◌++◌, ℕ, take}
use Rattle.machine.specs.Lists.{Event, events_of, after, journal}
use Rattle.machine.specs.Operations.{Applied, set_first_zero, bounded_decrement}
use Rattle.machine.specs.Runs.{request, step, release, line}
use Rattle.machine.specs.Setup.{plain, names}
use Rattle.machine.specs.State.{done, none, process_at, fresh, blank, setup}

-- an operation's answer, and the word that it leaves
abbrev pub applied : ℕ → ℕ → Applied
applied a w = record { answer = a; word = w }

abbrev pub p9_events : List Event
p9_events = events_of (request 0 ++ step 0 ++ step 0 ++ step 0 ++ request 1 ++ step 1 ++ step 1 ++ step 1)

abbrev pub p10_events : List Event
p10_events = events_of (request 0 ++ step 0 ++ step 0 ++ request 1 ++ step 1 ++ step 1 ++ step 1)

abbrev pub p11_events : List Event
p11_events =
    events_of (request 0 ++ step 0 ++ step 0 ++ request 1 ++ step 1 ++ step 1 ++ release 0 ++ step 0 ++ step 0 ++ step 1 ++ step 1)

pub record Worked : Type 0 where
  -- first clear, b = 3: word 5 answers 1 and becomes 7; word 7 answers 3 and stays
  pub p1 : set_first_zero 3 0 5 ≡ applied 1 7
  pub p2 : set_first_zero 3 0 7 ≡ applied 3 7
  -- bounded decrement of 0 answers 0, leaves 0; of 2 answers 2, leaves 1
  pub p3 : bounded_decrement 0 ≡ applied 0 0
  pub p4 : bounded_decrement 2 ≡ applied 2 1
  -- setup 64, 16, 2, 2 is accepted, k = 64; 64, 16, 2, 3 gets 5; 65, 16, 2, 2 gets 1; 64, 3, 2, 2 gets 2
  pub p5 : (setup (plain 64 16 2 2) ≡ done 0 (fresh (plain 64 16 2 2))) × (names (plain 64 16 2 2) ≡ 64)
  pub p6 : setup (plain 64 16 2 3) ≡ done 5 blank
  pub p7 : setup (plain 65 16 2 2) ≡ done 1 blank
  pub p8 : setup (plain 64 3 2 2) ≡ done 2 blank
  -- N = L = 2, g = b = 1: process 0 wins name 0 with steps 2; process 1, while 0 holds, goes right (to node 3) and wins name 1 with steps 2
  pub p9 : journal (fresh (plain 2 2 1 1)) p9_events
      ≡ line 0 1 none 0 ++ line 0 3 none 0 ++ line 0 3 none 1 ++ line 0 4 0 2
      ++ line 0 1 none 0 ++ line 0 3 none 0 ++ line 0 3 none 1 ++ line 0 4 1 2
  pub p9_right : (process_at (after (fresh (plain 2 2 1 1)) (take 7 p9_events)) 1).node ≡ 3
  -- N = 2, L = 1, g = 2, b = 1: process 0 wins name 0 with steps 1; process 1, while 0 holds, finds segment 0 full and wins name 1
  -- with steps 2
  pub p10 : journal (fresh (plain 2 1 2 1)) p10_events
      ≡ line 0 1 none 0 ++ line 0 3 none 0 ++ line 0 4 0 1
      ++ line 0 1 none 0 ++ line 0 3 none 0 ++ line 0 3 none 1 ++ line 0 4 1 2
  pub p10_full : (process_at (after (fresh (plain 2 1 2 1)) (take 6 p10_events)) 1).segment ≡ 1
  -- setup 2, 1, 1, 1: the program's list
  pub p11 : journal (fresh (plain 2 1 1 1)) p11_events
      ≡ line 0 1 none 0
      ++ line 0 3 none 0
      ++ line 0 4 0 1
      ++ line 0 1 none 0
      ++ line 0 2 none 0
      ++ line 0 2 none 0
      ++ line 0 5 0 1
      ++ line 0 5 none 2
      ++ line 0 0 none 2
      ++ line 0 3 none 0
      ++ line 0 4 0 1
