-- The queue, place by place: a fold over the places taken says who is among them, and moving up by one, with 0 in the place freed, takes
-- the head away.
use mathlib.Core.List.{List, [], ◌∷◌, ◌++◌}
use native.Mathlib.Numerals.{add-one}
use Prim.Native.Nat.{ℕ, zero, suc, ◌≤◌}
use lib.Dec.{eqb}
use lib.ListN.{length, take, drop, get_or, set, length-drop}
use lib.Seq.{drop-cons, set_at, take_all, drop-length}
use Rattle.std.proofs.lemmas.List.{set_past}
use Rattle.std.proofs.lemmas.List.Sums.{fold_more}
use Rattle.std.specs.List.{copy_within, fold}
use Rattle.machine.proofs.Rules.{◌≡◌, ◌∙◌, ap, refl, Bool, true, false, not, cond, ◌||◌, ◌&&◌, arith}
use Rattle.machine.specs.Below.{all_below}
use Rattle.machine.specs.Gate.{among, in_queue, moved_up, await}
use Rattle.machine.specs.Stage.{getname}
use Rattle.machine.specs.State.{with_stage, update}
use Rattle.machine.specs.declared.Process.{Process}
use Rattle.machine.specs.declared.State.{State}

-- one place more
one_more : (s t : Bool) → (not s || t) ≡ not (not t && s)
one_more true true = refl
one_more true false = refl
one_more false true = refl
one_more false false = refl

abbrev finds : ℕ → Bool → ℕ → Bool
finds p found x = found || eqb x p

pub fold-take : (n p : ℕ) (q : List ℕ) → n ≤ length q → fold (λ found x. found || eqb x p) false (take n q) ≡ among q n p
unfolding among all_below
fold-take zero p q l = refl
fold-take (suc n) p q l =
    rw (← add-one)
    (fold_more (finds p) false q n 0 l
    ∙ ap (λ (found : Bool). finds p found (get_or q n 0)) (fold-take n p q (omega arith))
    ∙ one_more (all_below n (λ i. not (eqb (get_or q i 0) p))) (eqb (get_or q n 0) p))

pub moved : (q : List ℕ) → length q ≡ 64 → set (copy_within q 1 (length q) 0) 63 0 ≡ moved_up q
unfolding moved_up
moved q h =
    let n : length (drop 1 q) ≡ 63 = simp length-drop (omega arith) in
    let whole : take 63 (drop 1 q) ≡ drop 1 q = take_all 63 (drop 1 q) (omega arith) in
    let last : drop 64 q ≡ [] = rw h at (drop-length q) in
    rw (h, whole)
    (ap (λ (r : List ℕ). set (drop 1 q ++ r) 63 0) (drop-cons q 63 0 (omega arith) ∙ ap (λ (r : List ℕ). get_or q 63 0 ∷ r) last)
    ∙ set_at (drop 1 q) (get_or q 63 0) [] 0 63 n)

-- a place past the end has no record to change
pub none_past_the_end : (xs : List Process) (p : ℕ) (h : Process) → length xs ≤ p → xs ≡ set xs p h
none_past_the_end xs p h past = rw (set_past xs p h past) refl

-- the definition opened, since an attribute of the code cannot write its name, which is a word of Rust
pub await_is : (s : State) (p : ℕ) → await s p ≡ cond (in_queue s p) s (update p (with_stage getname) s)
unfolding await
await_is s p = refl
