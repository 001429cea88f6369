-- The kinds of event, 0 to 2; above each, document 01's word.
use Rattle.std.specs.Prelude.{◌≡◌, ◌<◌, ℕ, Result, MatchResult}
use Rattle.machine.specs.declared.kind.Kind.{Kind}
use Rattle.machine.specs.declared.kind.Kind.TheVariants.{Request, Step, Release}
use Rattle.machine.specs.declared.refusal.Refusal.{Refusal}
use Rattle.machine.specs.declared.refusal.Refusal.TheVariants.{Kind as UnknownKind}

-- ask
abbrev pub request : ℕ
request = 0

-- turn
abbrev pub step : ℕ
step = 1

-- finish
abbrev pub release : ℕ
release = 2

-- the number that stands for a kind
abbrev pub code : Kind → ℕ
code Request = request
code Step = step
code Release = release

-- the result is the kind of this number, or refuses a number that is above every kind's
abbrev pub Decodes : ℕ → Result Kind Refusal → Type 0
Decodes n r = MatchResult r (λ k. code k ≡ n) (λ e. (e ≡ UnknownKind) × (release < n))
