-- Every number of a default state is 0, those of an array place by place.
use Rattle.std.proofs.Common.{◌≡◌, ◌∙◌, ℕ, List, refl, sym, subst, ◌<◌}
use lib.ListN.{replicate, length-replicate}
use lib.Seq.{ext_get_or}
use Rattle.std.specs.Array.{AllOfLen}
use Rattle.machine.proofs.Facts.Below.{get_or_constant}
use Rattle.machine.specs.State.{blank, no_process}
use Rattle.fresh.proofs.state.blank_state.Goals as goal

one_value : {A : Type 0} (P : A → Type 0) (d : A) (n : ℕ) (xs : List A) → ((x : A) → P x → x ≡ d) → AllOfLen P xs n → xs ≡ replicate n d
one_value P d n xs is all =
    ext_get_or d xs (replicate n d) (all.long ∙ sym (length-replicate n d))
    (λ i l. is _ (all.at i d (subst (λ (m : ℕ). i < m) all.long l)) ∙ sym (get_or_constant n i d))

pub returns : goal.returns
unfolding blank
returns c =
    let d = c.default.ensures in
    let queue = one_value _ 0 64 _ (λ x e. e) d.1.1.1.0 in
    let counters = one_value _ 0 16 _ (λ x e. e) d.1.1.1.1.0 in
    let words = one_value _ 0 64 _ (λ x e. e) d.1.1.1.1.1.0 in
    let process = one_value _ no_process 64 _ (λ x e. rw (e.0, e.1.0, e.1.1.0, e.1.1.1.0, e.1.1.1.1.0, e.1.1.1.1.1) refl) d.1.1.1.1.1.1 in
    rw (d.0.0, d.0.1.0, d.0.1.1.0, d.0.1.1.1.0, d.0.1.1.1.1, d.1.0, d.1.1.0, queue, counters, words, process) refl
