-- A fold that takes each line's length from the room that is left, and stops at the first line that does not fit, tells whether all lines
-- fit: by induction on the calls. Assumes nothing.
use mathlib.Core.List.{List, [], ◌∷◌}
use Prim.Native.Nat.{ℕ, ◌+◌, ◌≤◌, ◌<◌}
use lib.ListN.{length, length-append}
use denote.Param.Members.{Mut, Called}
use denote.Ref.{Bor}
use Rattle.std.specs.Prelude.{Result, Ok, Err, Option, Some, None, MatchResult, MatchOption}
use Rattle.std.proofs.Common.{Iter}
use Rattle.std.specs.Iterator.{Yields, YieldsThen}
use Rattle.std.specs.List.{FoldsTo, flat_map}
use Rattle.machine.specs.declared.refusal.Refusal.{Refusal}
use Rattle.machine.specs.declared.refusal.Refusal.TheVariants.{Short}
use Rattle.machine.proofs.Rules.{◌≡◌, ◌∙◌, sym, ap, refl, subst, arith}
use Rattle.text.specs.Lines.{entry_line}

abbrev size : List ℕ → ℕ
size e = length (entry_line e)

abbrev total : List (List ℕ) → ℕ
total es = length (flat_map entry_line es)

-- what is left of a room after so many bytes, or that they do not fit
abbrev pub Left : ℕ → ℕ → Result ℕ Refusal → Type 0
Left room n v = MatchResult v (λ left. left + n ≡ room) (λ why. (why ≡ Short) × (room < n))

-- a call of `next` on a slice's iterator
abbrev Next : Iter (List ℕ) → Option (Bor (List ℕ)) → Iter (List ℕ) → Type 0
Next s r t = MatchOption r ((length s.rest.now ≡ 0) × (t ≡ s)) (λ x. s.rest.now ≡ x.now ∷ t.rest.now)

module _ {F E : Type 0} (g : Mut F (ℕ × (Bor (List ℕ) × Unit {0})) (Result ℕ Refusal)) (f : F)
    (r : Result ℕ Refusal) (breaks : Result ℕ Refusal → E → Type 0) (gives : E → Type 0)
    (stops : (v : Result ℕ Refusal) (e : E) → breaks v e → gives e → (why : Refusal) × (v ≡ Err why) × (r ≡ Err why))
    (takes : (left : ℕ) (x : Bor (List ℕ)) (v : Result ℕ Refusal) (q : F) → Called g f (left, (x, tt)) v q
    → (q ≡ f) × Left left (size x.now) v) where
  abbrev Turn : F × ℕ → Bor (List ℕ) → F × ℕ → Type 0
  Turn p x q = (v : Result ℕ Refusal) × Called g p.0 (p.1, (x, tt)) v q.0 × (v ≡ Ok q.1)

  abbrev pub Fits : Iter (List ℕ) → ℕ → Type 0
  Fits s room = MatchResult r (λ _. total s.rest.now ≤ room) (λ why. (why ≡ Short) × (room < total s.rest.now))

  taken : (xs : List (Bor (List ℕ))) (s t : Iter (List ℕ)) (p q : F × ℕ) → p.0 ≡ f → Yields Next s xs t
      → FoldsTo {P = F × ℕ} Turn p xs q → (q.0 ≡ f) × (q.1 + total s.rest.now ≡ p.1 + total t.rest.now)
  taken [] s t p q e y c = (ap (λ w. w.0) (sym c) ∙ e, omega (arith, ap (λ w. w.1) c, ap (λ s. total s.rest.now) y))
  taken (x ∷ xs) s t p q e y c =
      let m = takes p.1 x c.1.0 c.0.0 (subst (λ w. Called g w (p.1, (x, tt)) c.1.0 c.0.0) e c.1.1) in
      let left : c.0.1 + size x.now ≡ p.1 = subst (Left p.1 (size x.now)) c.1.2 m.1 in
      let more = taken xs y.0 t c.0 q m.0 y.2 c.2 in
      let first : total s.rest.now ≡ size x.now + total y.0.rest.now
      = ap total y.1 ∙ length-append (entry_line x.now) (flat_map entry_line y.0.rest.now) in
      (more.0, omega (arith, left, more.1, first))

  nothing : (es : List (List ℕ)) → length es ≡ 0 → total es ≡ 0
  nothing [] e = refl
  nothing (x ∷ es) e = absurd (omega (arith, e))

  -- what a run that ended leaves, and one that broke off
  ended : (s t u : Iter (List ℕ)) (room a : ℕ) → a + total s.rest.now ≡ room + total t.rest.now
      → (length t.rest.now ≡ 0) × (u ≡ t) → r ≡ Ok a → Fits s room
  ended s t u room a e none is = rw is (omega (arith, e, nothing t.rest.now none.0))

  broke : (s t u : Iter (List ℕ)) (room a : ℕ) (x : Bor (List ℕ)) (v : Result ℕ Refusal) → a + total s.rest.now ≡ room + total t.rest.now
      → t.rest.now ≡ x.now ∷ u.rest.now → Left a (size x.now) v → (why : Refusal) × (v ≡ Err why) × (r ≡ Err why) → Fits s room
  broke s t u room a x v all next left (why, is, same) =
      let short : (why ≡ Short) × (a < size x.now) = subst (Left a (size x.now)) is left in
      let first : total t.rest.now ≡ size x.now + total u.rest.now
      = ap total next ∙ length-append (entry_line x.now) (flat_map entry_line u.rest.now) in
      rw same (short.0, omega (arith, all, first, short.1))

  pub all_fit : (s u : Iter (List ℕ)) (room : ℕ) (xs : List (Bor (List ℕ))) (o : Option (Bor (List ℕ))) (q : F) (a : ℕ)
      → FoldsTo {P = F × ℕ} Turn (f, room) xs (q, a)
      → MatchOption o (r ≡ Ok a) (λ x. (v : Result ℕ Refusal) × (h : F) × (e : E) × Called g q (a, (x, tt)) v h × breaks v e × gives e)
      → YieldsThen Next s xs o u
      → Fits s room
  all_fit s u room xs None q a c is (t, y, end) = ended s t u room a (taken xs s t (f, room) (q, a) refl y c).1 end is
  all_fit s u room xs (Some x) q a c (v, h, e, called, b, same) (t, y, next) =
      let all = taken xs s t (f, room) (q, a) refl y c in
      let left = takes a x v h (subst (λ w. Called g w (a, (x, tt)) v h) all.0 called) in
      broke s t u room a x v all.1 next left.1 (stops v e b same)
