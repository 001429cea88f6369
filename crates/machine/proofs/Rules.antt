-- What proofs are written with, passed on: equations, truth values and cases, arithmetic; the laws of tests; and what a search is
-- handed, `rules`, and `tests` where a contract goes by tests. Assumes nothing.
pub use mathlib.Core.Path.{◌≡◌, refl, ◌∙◌, ap, sym, subst}
pub use mathlib.Core.Bool.{◌||◌, true, false, true≢false, false≢true, Bool, not, cond, ◌&&◌, and-false, or-true, and-eq-true_iff, and-true}
pub use mathlib.Core.Logic.{◌⊎◌, ⊎_elim, ◌≢◌, inl, inr}
pub use native.Mathlib.Omega.{arith}
pub use borrow.Author.Rules.{rules}
pub use borrow.Author.Tests.{leb-true, ltb-true, eqb-true, leb-false, ltb-false, eqb-false, not-true, not-false}
pub use borrow.Author.Tests.{le-leb, lt-leb, lt-ltb, le-ltb, eq-eqb, ne_eqb}

pub ruleset tests = (rules, lt-leb, le-leb, lt-ltb, le-ltb, eq-eqb, ne_eqb)
