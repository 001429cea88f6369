-- Which call a number of the input is.
use Rattle.std.specs.Prelude.{◌≡◌, ◌<◌, ⊤, ℕ, Result, MatchResult}
use Rattle.std.specs.declared.io.Error.{Error}
use Rattle.call_cases.specs.declared.calls.Call.{Call}
use Rattle.call_cases.specs.declared.calls.Call.TheVariants.{Event, List, Report, Setup, Closed}

abbrev pub number : Call → ℕ
number Event = 0
number List = 1
number Report = 2
number Setup = 3
number Closed = 4

-- the result is the call of this number, or refuses a number that is above every call's
abbrev pub Decodes : ℕ → Result Call Error → Type 0
Decodes n r = MatchResult r (λ c. number c ≡ n) (λ _. 4 < n)
