-- Small setups, computed.
use Rattle.std.specs.Prelude.{◌≡◌, ◌++◌, length}
use Rattle.machine.specs.Lists.{journal}
use Rattle.machine.specs.Runs.{request, step, line}
use Rattle.machine.specs.Setup.{plain}
use Rattle.machine.specs.Stage.{entry, getname, working}
use Rattle.machine.specs.State.{none, fresh}
use Rattle.dearest_claim.specs.Dearest.{dearest_figure, dearest_events, dearest_bytes}

pub record Computed : Type 0 where
  -- h + g, the segments being fewer; h + 1 + (N - 1) div b, the processes being few; with a process alone; with N a multiple of b
  pub by_segments : dearest_figure (plain 2 2 2 1) ≡ 3
  pub by_processes : dearest_figure (plain 3 4 4 2) ≡ 4
  pub alone : dearest_figure (plain 1 16 2 2) ≡ 5
  pub just_full : dearest_figure (plain 4 1 8 2) ≡ 2
  -- the longest list: 57 processes claim, the last in segment 7
  pub longest : length (dearest_bytes (plain 64 1 8 8)) ≡ 692
  -- Two levels, two segments of one bit: process 1 finds segment 0 full, and its claim costs 4.
  pub bytes : dearest_bytes (plain 2 4 2 1)
      ≡ request 0 ++ step 0 ++ step 0 ++ step 0 ++ step 0
      ++ request 1 ++ step 1 ++ step 1 ++ step 1 ++ step 1 ++ step 1
  pub run : journal (fresh (plain 2 4 2 1)) (dearest_events (plain 2 4 2 1))
      ≡ line 0 entry none 0
      ++ line 0 getname none 0 ++ line 0 getname none 1 ++ line 0 getname none 2
      ++ line 0 working 0 3
      ++ line 0 entry none 0
      ++ line 0 getname none 0 ++ line 0 getname none 1 ++ line 0 getname none 2 ++ line 0 getname none 3
      ++ line 0 working 1 4
