-- Runs that reach what the claim allows: a queue that is served, a name one below the admitted, a claim of h + g steps, full rounds
-- of h + 2 and of 2h + g + 1, and every open name held with others closed. So no field of the claim holds for want of a case. `reached`
-- in proofs/Controls/Reached.antt computes each.
use Rattle.std.specs.Prelude.{◌≡◌, true, false, List, [], ◌∷◌, ◌++◌, map, ℕ, ◌+◌, ◌*◌, pos, negsuc, take, drop}
use Rattle.machine.specs.Admitted.{admitted}
use Rattle.machine.specs.Closed.{rank}
use Rattle.machine.specs.Lists.{Event, events_of, journal}
use Rattle.machine.specs.Reports.{status_of}
use Rattle.machine.specs.Runs.{request, step, release, line}
use Rattle.machine.specs.Stage.{remainder, entry, waiting, getname, working, putname}
use Rattle.machine.specs.Setup.{given, plain, open_names, height}
use Rattle.machine.specs.State.{none, process_at, counter_at, fresh}
use Rattle.machine.specs.declared.Setup.{Setup}
use Rattle.renaming_claim.specs.Claim.{after_list}
use Rattle.renaming_claim.specs.History.{return_operations, asked}

-- one name for two processes: 0 wins it, 1 queues, 0 returns it, 1 goes on and wins it
abbrev pub served : List Event
served = events_of (request 0 ++ step 0 ++ step 0 ++ request 1 ++ step 1 ++ release 0 ++ step 0 ++ step 0 ++ step 1 ++ step 1)

-- two leaves of two segments of one bit: 0 and 1 both go left, and 1 finds the first segment full
abbrev pub costly : List Event
costly = events_of (request 0 ++ step 0 ++ step 0 ++ step 0 ++ request 1 ++ step 1 ++ step 1 ++ step 1 ++ step 1)

-- the same setup for three: 0 and 1 have gone left, so 2 goes right and finds the first segment free; then 1 and 2 return
abbrev pub rounds : List Event
rounds =
    costly
    ++ events_of
    (request 2 ++ step 2 ++ step 2 ++ step 2 ++ release 1 ++ step 1 ++ step 1 ++ step 1 ++ release 2 ++ step 2 ++ step 2 ++ step 2)

-- the state drawn in docs/PROOF.md: five processes, two leaves of two segments of one bit
abbrev pub drawn : List Event
drawn =
    events_of
    (request 0 ++ step 0 ++ step 0 ++ step 0
    ++ request 1 ++ step 1 ++ step 1 ++ step 1
    ++ request 2 ++ step 2 ++ step 2
    ++ request 3 ++ step 3
    ++ request 4 ++ step 4)

-- three processes, four leaves of two segments of two bits: leaf 0 is closed, segment 0 of leaf 1, and the right half of the tree
abbrev pub torn : Setup
torn = given 3 4 2 2 (0 ∷ 1 ∷ 2 ∷ 3 ∷ 4 ∷ 5 ∷ 8 ∷ 9 ∷ 10 ∷ 11 ∷ 12 ∷ 13 ∷ 14 ∷ 15 ∷ [])

-- 0 and 1 pass both closed parts and win the open names; 2 queues
abbrev pub claim : ℕ → List ℕ
claim p = request p ++ step p ++ step p ++ step p ++ step p ++ step p

abbrev pub all_held : List Event
all_held = events_of (claim 0 ++ claim 1 ++ request 2 ++ step 2)

-- two processes, one segment of four bits, names 0 and 2 closed
abbrev pub gapped : Setup
gapped = given 2 1 1 4 (2 ∷ 0 ∷ [])

abbrev pub lowest : List Event
lowest = events_of (request 0 ++ step 0 ++ step 0 ++ request 1 ++ step 1 ++ step 1)

pub record Reached : Type 0 where
  -- 1 waits in the queue while 0 holds the only name; when 0 is back in its remainder section, 1 goes on and takes the name over
  pub taken_over : journal (fresh (plain 2 1 1 1)) served
      ≡ line 0 entry none 0
      ++ line 0 getname none 0
      ++ line 0 working 0 1
      ++ line 0 entry none 0
      ++ line 0 waiting none 0
      ++ line 0 putname 0 1
      ++ line 0 putname none 2
      ++ line 0 remainder none 2
      ++ line 0 getname none 0
      ++ line 0 working 0 1
  pub one_admitted : admitted (after_list (plain 2 1 1 1) (take 5 served)) ≡ 1
  -- two are admitted, the names are 0 and 1; the cheapest claim takes h + 1 steps, the dearest h + g
  pub dearest : journal (fresh (plain 2 2 2 1)) costly
      ≡ line 0 entry none 0
      ++ line 0 getname none 0
      ++ line 0 getname none 1
      ++ line 0 working 0 2
      ++ line 0 entry none 0
      ++ line 0 getname none 0
      ++ line 0 getname none 1
      ++ line 0 getname none 2
      ++ line 0 working 1 3
  pub dearest_steps : (height 2 + 1 ≡ 2) × (height 2 + 2 ≡ 3)
  pub two_admitted : admitted (after_list (plain 2 2 2 1) costly) ≡ 2
  -- with leaf, segment and half closed: the counters are the open names on their left, and the gate is open for two
  pub torn_start : (take 4 (fresh torn).counters ≡ 0 ∷ 2 ∷ 0 ∷ 0 ∷ []) × ((fresh torn).gate ≡ pos 2)
  -- left past the right half, right past leaf 0, on past segment 0: both open names are held, and the third waits
  pub torn_journal : journal (fresh torn) all_held
      ≡ line 0 entry none 0
      ++ line 0 getname none 0
      ++ line 0 getname none 1
      ++ line 0 getname none 2
      ++ line 0 getname none 3
      ++ line 0 working 6 4
      ++ line 0 entry none 0
      ++ line 0 getname none 0
      ++ line 0 getname none 1
      ++ line 0 getname none 2
      ++ line 0 getname none 3
      ++ line 0 working 7 4
      ++ line 0 entry none 0
      ++ line 0 waiting none 0
  pub torn_admitted : admitted (after_list torn all_held) ≡ open_names torn
  -- with two admitted the two lowest open names are held: 1 and 3, with none and one open below them, though 3 is not below 2
  pub lowest_held : map (λ p. (process_at (after_list gapped lowest) p).name) (0 ∷ 1 ∷ []) ≡ 1 ∷ 3 ∷ []
  pub lowest_ranks : map (rank gapped) (1 ∷ 3 ∷ []) ≡ 0 ∷ 1 ∷ []
  pub lowest_admitted : admitted (after_list gapped lowest) ≡ 2
  -- the dearest round, by the left, shows 2h + g + 1; the cheapest, by the right, shows h + 2; process 0 is still working
  pub round_journal : drop 44 (journal (fresh (plain 3 2 2 1)) rounds)
      ≡ line 0 getname none 1
      ++ line 0 working 2 2
      ++ line 0 putname 1 3
      ++ line 0 putname none 4
      ++ line 0 putname none 5
      ++ line 0 remainder none 5
      ++ line 0 putname 2 2
      ++ line 0 putname none 3
      ++ line 0 putname none 3
      ++ line 0 remainder none 3
  pub round_figures : (2 * height 2 + 2 + 1 ≡ 5) × (height 2 + 2 ≡ 3)
  pub round_parts : map (λ p. return_operations p (fresh (plain 3 2 2 1)) rounds 0) (0 ∷ 1 ∷ 2 ∷ []) ≡ 0 ∷ 2 ∷ 1 ∷ []
  -- after four events process 0 has asked, and 1, still idle, has not
  pub round_asked : map (λ p. asked p (fresh (plain 3 2 2 1)) (take 4 rounds)) (0 ∷ 1 ∷ []) ≡ true ∷ false ∷ []
  -- the drawing: 0 holds name 0; 1 and 2 are in getname, at segment 1 of the left leaf and at the right leaf; 3 has just come in; 4 waits
  pub drawn_journal : map (λ p. status_of (process_at (after_list (plain 5 2 2 1) drawn) p)) (0 ∷ 1 ∷ 2 ∷ 3 ∷ 4 ∷ [])
      ≡ record { stage = working; name = 0; figure = 2 }
      ∷ record { stage = getname; name = none; figure = 2 }
      ∷ record { stage = getname; name = none; figure = 1 }
      ∷ record { stage = getname; name = none; figure = 0 }
      ∷ record { stage = waiting; name = none; figure = 0 }
      ∷ []
  pub drawn_gate : ((after_list (plain 5 2 2 1) drawn).gate ≡ negsuc 0) × (admitted (after_list (plain 5 2 2 1) drawn) ≡ 4)
  pub drawn_nodes : map (λ p. (process_at (after_list (plain 5 2 2 1) drawn) p).node) (0 ∷ 1 ∷ 2 ∷ 3 ∷ 4 ∷ []) ≡ 2 ∷ 2 ∷ 3 ∷ 1 ∷ 1 ∷ []
  pub drawn_segments :
      map (λ p. (process_at (after_list (plain 5 2 2 1) drawn) p).segment) (0 ∷ 1 ∷ 2 ∷ 3 ∷ 4 ∷ [])
      ≡ 0 ∷ 1 ∷ 0 ∷ 0 ∷ 0 ∷ []
  pub drawn_queue : ((after_list (plain 5 2 2 1) drawn).queued ≡ 1) × (take 1 (after_list (plain 5 2 2 1) drawn).queue ≡ 4 ∷ [])
  pub drawn_places : (counter_at (after_list (plain 5 2 2 1) drawn) 1 ≡ 0)
      × (take 4 (after_list (plain 5 2 2 1) drawn).words ≡ 1 ∷ 0 ∷ 0 ∷ 0 ∷ [])
