-- What holds of the machine: of every setup, state, event and list. One law for each field, and `laws` in proofs/Laws.antt proves them.
use Rattle.std.specs.Prelude.{◌≡◌, ◌≢◌, true, false, not, List, [], ◌++◌, length, get_or}
use Rattle.std.specs.Prelude.{ℕ, suc, ◌+◌, ◌-◌, ◌*◌, ◌/◌, ◌%◌, ◌^◌, ◌≤◌, ◌<◌, ltb}
use Rattle.machine.specs.Closed.{closed_by, lists, lists_below, is_open, rank, closed_word}
use Rattle.machine.specs.Event.{event}
use Rattle.machine.specs.Gate.{head_gone, enter, await}
use Rattle.machine.specs.Getname.{getname_step}
use Rattle.machine.specs.Lists.{Event, events_of, list_bytes, after, answers, journal, run_journal}
use Rattle.machine.specs.Operations.{bit, first_zero, clr_bit}
use Rattle.machine.specs.Putname.{putname_step}
use Rattle.machine.specs.Range.{in_range}
use Rattle.machine.specs.Room.{enter_room, getname_room, putname_room}
use Rattle.machine.specs.Setup.{given, plain, names, open_names, is_leaves, number_answer, setup_answer, height}
use Rattle.machine.specs.State.{done, depth, process_at, counter_at, word_at, with_counter, fresh_counter}
use Rattle.machine.specs.State.{fresh, blank, setup, partial, partial_setup, Sized}
use Rattle.machine.specs.Touches.{Touches, Alike, Same}
use Rattle.machine.specs.declared.Setup.{Setup}
use Rattle.machine.specs.declared.State.{State}

pub record Laws : Type 0 where
  -- 2^h = L
  pub height_power : (l : ℕ) → is_leaves l ≡ true → 2 ^ height l ≡ l
  -- node 1 has depth 0; children 2v and 2v + 1 lie one level below node v
  pub root_depth : depth 1 ≡ 0
  pub left_depth : (v : ℕ) → 0 < v → v < 16 → depth (2 * v) ≡ depth v + 1
  pub right_depth : (v : ℕ) → 0 < v → v < 16 → depth (2 * v + 1) ≡ depth v + 1
  -- set_first_zero answers the index of a clear bit that is not closed, and every such bit below it is set
  pub answer_clear : (b x w : ℕ) → first_zero b x w < b → bit w (first_zero b x w) ≡ 0
  pub answer_open : (b x w : ℕ) → first_zero b x w < b → bit x (first_zero b x w) ≡ 0
  pub answer_lowest : (b x w i : ℕ) → i < first_zero b x w → bit x i ≡ 0 → bit w i ≡ 1
  -- it sets that bit and changes no other
  pub set_same : (w i : ℕ) → bit w i ≡ 0 → bit (w + 2 ^ i) i ≡ 1
  pub set_other : (w i j : ℕ) → bit w i ≡ 0 → j ≢ i → bit (w + 2 ^ i) j ≡ bit w j
  -- clr_bit clears its bit and changes no other
  pub clr_same : (w i : ℕ) → bit (clr_bit w i) i ≡ 0
  pub clr_other : (w i j : ℕ) → j ≢ i → bit (clr_bit w i) j ≡ bit w j
  -- a name is closed exactly when the setup's list has it; 19 comes exactly when the list has one that is not below k; the closed bits
  -- of a segment word are those of its names
  pub closed_listed : (n l g b : ℕ) (ps : List ℕ) (p : ℕ) → is_open (given n l g b ps) p ≡ not (lists ps p)
  pub closed_inside : (k : ℕ) (ps : List ℕ) → ltb (closed_by 0 ps) (2 ^ k) ≡ lists_below k ps
  pub closed_bits : (c : Setup) (r i : ℕ) → i < c.bits → bit (closed_word c r) i ≡ bit c.closed (r * c.bits + i)
  -- a setup with an empty list is that of the four numbers, where 19 and 20 never come; with none closed the gate word starts at k, a
  -- counter at k / 2^(d+1), and the open names below a name are all below it
  pub none_listed : (n l g b : ℕ) → given n l g b [] ≡ plain n l g b
  pub plain_answer : (n l g b : ℕ) → setup_answer (plain n l g b) ≡ number_answer (plain n l g b)
  pub plain_gate : (n l g b : ℕ) → open_names (plain n l g b) ≡ names (plain n l g b)
  pub plain_counter : (n l g b v : ℕ) → is_leaves l ≡ true → 0 < v → v < l
      → fresh_counter (plain n l g b) v ≡ names (plain n l g b) / 2 ^ (depth v + 1)
  pub plain_rank : (n l g b p : ℕ) → rank (plain n l g b) p ≡ p
  -- a setup answers 0 or its refusal's number; it gives the fresh state or, refused, the blank one
  pub answer_of_setup : (c : Setup) → (setup c).answer ≡ setup_answer c
  pub accepted_setup : (c : Setup) → setup_answer c ≡ 0 → setup c ≡ done 0 (fresh c)
  pub refused_setup : (c : Setup) → setup_answer c ≢ 0 → setup c ≡ done (setup_answer c) blank
  -- the fresh state of every accepted setup is in range, its arrays of their lengths; the blank state is not in range
  pub fresh_state : (c : Setup) → setup_answer c ≡ 0 → in_range (fresh c) ≡ true
  pub fresh_lengths : (c : Setup) → Sized (fresh c)
  pub blank_state : in_range blank ≡ false
  -- the second form of the setup answers as the setup does, whatever the count
  pub partial_answer : (c : Setup) (count : ℕ) → (partial_setup c count).answer ≡ setup_answer c
  pub accepted_partial : (c : Setup) (count : ℕ) → setup_answer c ≡ 0 → partial_setup c count ≡ done 0 (partial c count)
  pub refused_partial : (c : Setup) (count : ℕ) → setup_answer c ≢ 0 → partial_setup c count ≡ done (setup_answer c) blank
  -- from a count of L - 1 on it is the setup, number for number
  pub partial_whole : (c : Setup) (count : ℕ) → c.leaves ≤ count + 1 → partial_setup c count ≡ setup c
  -- from node L - 1 up to node 1: a count more fills the counter of node L - 1 - count, and changes no other number
  pub partial_next : (c : Setup) (count : ℕ) → setup_answer c ≡ 0 → count + 1 < c.leaves
      → partial c (count + 1)
      ≡ with_counter (c.leaves - 1 - count) (fresh_counter c (c.leaves - 1 - count)) (partial c count)
  -- whatever the count, its state is in range, so that every call answers it by the machine, and its arrays have their lengths
  pub partial_state : (c : Setup) (count : ℕ) → setup_answer c ≡ 0 → in_range (partial c count) ≡ true
  pub partial_lengths : (c : Setup) (count : ℕ) → Sized (partial c count)
  -- an accepted event keeps a state in range; a refused one keeps the state itself; no event changes a length
  pub accepted : (s : State) (kind p : ℕ) → (event s kind p).answer ≡ 0 → in_range (event s kind p).state ≡ true
  pub refused : (s : State) (kind p : ℕ) → (event s kind p).answer ≢ 0 → (event s kind p).state ≡ s
  pub lengths : (s : State) (kind p : ℕ) → Sized s → Sized (event s kind p).state
  -- 15 for the state, 12, 6, in that order
  pub state_15 : (s : State) (kind p : ℕ) → in_range s ≡ false → event s kind p ≡ done 15 s
  pub kind_12 : (s : State) (kind p : ℕ) → in_range s ≡ true → 2 < kind → event s kind p ≡ done 12 s
  pub stranger_6 : (s : State) (kind p : ℕ) → in_range s ≡ true → kind ≤ 2 → s.setup.processes ≤ p → event s kind p ≡ done 6 s
  -- an event touches its own process's record and at most one shared place
  pub one_place : (s : State) (kind p : ℕ) → Touches s p (event s kind p).state
  -- so it changes no other process's record, no number of the setup, and no place that N, L and g leave unused
  pub others : (s : State) (kind p q : ℕ) → q ≢ p → process_at (event s kind p).state q ≡ process_at s q
  pub setup_kept : (s : State) (kind p : ℕ) → (event s kind p).state.setup ≡ s.setup
  pub unused_processes : (s : State) (kind p q : ℕ) → s.setup.processes ≤ q → process_at (event s kind p).state q ≡ process_at s q
  pub unused_counters : (s : State) (kind p v : ℕ) → (0 < v → v < s.setup.leaves → ⊥)
      → counter_at (event s kind p).state v ≡ counter_at s v
  pub unused_words : (s : State) (kind p r : ℕ) → s.setup.leaves * s.setup.segments ≤ r → word_at (event s kind p).state r ≡ word_at s r
  -- nor is such a place read: two states that differ there alone get one answer, and differ there alone afterwards
  pub unread : {s t : State} → Alike s t → (kind p : ℕ) → Same (event s kind p) (event t kind p)
  -- an accepted request counts steps and return operations from 0 again; the queue's head leaves and the rest move up
  pub request_resets : (s : State) (p : ℕ) → Sized s → (event s 0 p).answer ≡ 0 → (process_at (event s 0 p).state p).steps ≡ 0
  pub request_resets_returns : (s : State) (p : ℕ) → Sized s → (event s 0 p).answer ≡ 0 → (process_at (event s 0 p).state p).returns ≡ 0
  pub head_first : (s : State) (i : ℕ) → 0 < s.queued → get_or (head_gone s).queue i 0 ≡ get_or s.queue (suc i) 0
  -- a turn would leave a range where the gate word, the queue, the figure or a counter has no room, and nowhere else
  pub enter_15 : (s : State) (p : ℕ) → in_range s ≡ true → p < s.setup.processes → in_range (enter s p) ≡ enter_room s
  pub await_15 : (s : State) (p : ℕ) → in_range s ≡ true → p < s.setup.processes → in_range (await s p) ≡ true
  pub getname_15 : (s : State) (p : ℕ) → Sized s → in_range s ≡ true → p < s.setup.processes
      → in_range (getname_step s p) ≡ getname_room s p
  pub putname_15 : (s : State) (p : ℕ) → Sized s → in_range s ≡ true → p < s.setup.processes
      → in_range (putname_step s p) ≡ putname_room s p
  -- running a list is running its parts in turn, and an even list of bytes is the events of its parts
  pub parts : (s : State) (es fs : List Event) → after s (es ++ fs) ≡ after (after s es) fs
  pub parts_answers : (s : State) (es fs : List Event) → answers s (es ++ fs) ≡ answers s es ++ answers (after s es) fs
  pub parts_journal : (s : State) (es fs : List Event) → journal s (es ++ fs) ≡ journal s es ++ journal (after s es) fs
  pub parts_bytes : (bytes more : List ℕ) → length bytes % 2 ≡ 0 → events_of (bytes ++ more) ≡ events_of bytes ++ events_of more
  -- the bytes of a list of events, two for each, are read back as its events
  pub read_back : (es : List Event) → events_of (list_bytes es) ≡ es
  pub two_bytes : (es : List Event) → length (list_bytes es) ≡ 2 * length es
  -- the journal's length is four times the events, and a lent journal keeps its length
  pub four_bytes : (s : State) (es : List Event) → length (journal s es) ≡ 4 * length es
  pub lent_kept : (s : State) (bytes lent : List ℕ) → length (run_journal s bytes lent) ≡ length lent
