-- Demand 3: what holds after every list of events from an accepted setup c of N processes (handsets), L leaves, g segments
-- (rows), b bits and any closed names (pads). A list has any length and its events are any two numbers, refused ones included. The
-- machine is fed the setup's numbers and the events alone; its stages say who is admitted (let in), in getname (claiming), working
-- (holding) or exhausted (astray). "Where demand 3 says spent it now means the claim figure" (document 02, b): the record's steps.
-- Document 02, e) says open pads where demand 3 said pads, and "among the m lowest open ones" where it said below m; "all else in demand 3
-- remains".
use Rattle.std.specs.Prelude.{◌≡◌, ◌≢◌, true, List, ℕ, ◌+◌, ◌*◌, ◌≤◌, ◌<◌, length, take}
use Rattle.machine.specs.Admitted.{admitted}
use Rattle.machine.specs.Closed.{is_open, rank}
use Rattle.machine.specs.Lists.{Event, after}
use Rattle.machine.specs.Setup.{setup_answer, plain, names, open_names, height}
use Rattle.machine.specs.Stage.{remainder, getname, working, exhausted}
use Rattle.machine.specs.State.{figure, process_at, fresh}
use Rattle.machine.specs.declared.Process.{Process}
use Rattle.machine.specs.declared.Setup.{Setup}
use Rattle.machine.specs.declared.State.{State}
use Rattle.renaming_claim.specs.History.{claim_steps, return_operations, asked, steps_given, HoldsWithin}

-- the machine's state after a list
abbrev pub after_list : Setup → List Event → State
after_list c es = after (fresh c) es

-- said of what gives the state after a list and after each of its prefixes: the machine, or the calls (crate whole_list)
module _ (c : Setup) (state_after : List Event → State) where
  abbrev pub process_after : List Event → ℕ → Process
  process_after es p = process_at (state_after es) p

  pub record Claim (es : List Event) : Type 0 where
    -- Handsets let in never outnumber open pads (document 02, e).
    pub admitted_open : admitted (state_after es) ≤ open_names c
    -- No closed pad is held (document 02, e).
    pub held_open : (p : ℕ) → p < c.processes → (process_after es p).stage ≡ working → is_open c (process_after es p).name ≡ true
    -- Holders' pads are below k
    pub held_below : (p : ℕ) → p < c.processes → (process_after es p).stage ≡ working → (process_after es p).name < names c
    -- and all unlike.
    pub held_unlike : (p q : ℕ) → p < c.processes → q < c.processes → p ≢ q → (process_after es p).stage ≡ working
        → (process_after es q).stage ≡ working
        → (process_after es p).name ≢ (process_after es q).name
    -- No handset is astray.
    pub none_exhausted : (p : ℕ) → p < c.processes → (process_after es p).stage ≢ exhausted
    -- If at no moment in the list (its start, and directly after each event) were more than m let in, every held pad is among the m lowest
    -- open ones (document 02, e): fewer than m open ones lie below it.
    pub held_low : (m : ℕ) → ((i : ℕ) → i ≤ length es → admitted (state_after (take i es)) ≤ m)
        → (p : ℕ) → p < c.processes → (process_after es p).stage ≡ working → rank c (process_after es p).name < m
    -- Each handset's spent is the number of its claim turns since its last accepted ask; before its first there are none.
    pub steps_counted : (p : ℕ) → p < c.processes → (process_after es p).steps ≡ claim_steps p (fresh c) es 0
    -- Its return operations since then are counted beside them (document 02, b); before its first accepted ask there are none.
    pub returns_counted : (p : ℕ) → p < c.processes → (process_after es p).returns ≡ return_operations p (fresh c) es 0
    -- A holder's spent is at least h + 1 and at most h + g.
    pub steps_least : (p : ℕ) → p < c.processes → (process_after es p).stage ≡ working → height c.leaves + 1 ≤ (process_after es p).steps
    pub steps_most : (p : ℕ) → p < c.processes → (process_after es p).stage ≡ working
        → (process_after es p).steps ≤ height c.leaves + c.segments
    -- An idle handset with an accepted ask behind it has made a full round: it claimed as a holder does, and cleared its bit.
    pub round_claimed : (p : ℕ) → p < c.processes → (process_after es p).stage ≡ remainder → asked p (fresh c) es ≡ true
        → height c.leaves + 1 ≤ (process_after es p).steps
    pub round_cleared : (p : ℕ) → p < c.processes → (process_after es p).stage ≡ remainder → asked p (fresh c) es ≡ true
        → 1 ≤ (process_after es p).returns
    -- It shows from h + 2 to 2h + g + 1 (document 02, b).
    pub shows_least : (p : ℕ) → p < c.processes → (process_after es p).stage ≡ remainder → asked p (fresh c) es ≡ true
        → height c.leaves + 2 ≤ figure (process_after es p)
    pub shows_most : (p : ℕ) → p < c.processes → (process_after es p).stage ≡ remainder → asked p (fresh c) es ≡ true
        → figure (process_after es p) ≤ 2 * height c.leaves + c.segments + 1
    -- Whatever events follow, once a handset that is claiming after the list has been given h + g more turns, it held a pad
    -- directly after one of them.
    pub wins : (p : ℕ) → p < c.processes → (process_after es p).stage ≡ getname → (fs : List Event)
        → height c.leaves + c.segments ≤ steps_given p fs
        → HoldsWithin (height c.leaves + c.segments) (after (state_after es)) p fs

  -- Where a setup closes none, the claim is demand 3's own: the two sentences that document 02, e) changes, as they were.
  pub record NoneClosed (es : List Event) : Type 0 where
    -- At most k handsets are let in.
    pub admitted_k : admitted (state_after es) ≤ names c
    -- If at no moment in the list (its start, and directly after each event) were more than m let in, every held pad is below m.
    pub held_low_m : (m : ℕ) → ((i : ℕ) → i ≤ length es → admitted (state_after (take i es)) ≤ m)
        → (p : ℕ) → p < c.processes → (process_after es p).stage ≡ working → (process_after es p).name < m

-- Demand 3 of the machine: the claim holds after every list, from every accepted setup, with closed names or without.
abbrev pub EveryList : Type 0
EveryList = (c : Setup) → setup_answer c ≡ 0 → (es : List Event) → Claim c (after_list c) es

-- And so from every accepted setup of four numbers, in demand 3's own words.
abbrev pub EveryPlainList : Type 0
EveryPlainList =
    (n l g b : ℕ) → setup_answer (plain n l g b) ≡ 0 → (es : List Event) → NoneClosed (plain n l g b) (after_list (plain n l g b)) es
