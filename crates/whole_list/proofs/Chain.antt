-- A chain of calls is the machine's run: each call's contract gives the machine's event or its list, and the rest follows by induction
-- on the chain. Chains join. Assumes nothing.
use mathlib.Core.List.{List, ◌∷◌, ◌++◌, append_assoc}
use Rattle.machine.proofs.Rules.{◌≡◌, ◌∙◌, sym, ap, subst, refl, ◌≢◌}
use Rattle.machine.specs.Event.{event}
use Rattle.machine.specs.Kind.{request, step, release}
use Rattle.machine.specs.Lists.{Event, event_done, after}
use Rattle.machine.specs.declared.Done.{Done}
use Rattle.machine.specs.declared.State.{State}
use Rattle.machine.proofs.Laws.Parts.{after_parts}
use Rattle.whole_list.specs.Calls.{Called, by_event, by_request, by_step, by_release}
use Rattle.whole_list.specs.Calls.{ListCall, listed, results_of, Calls, none, call, list, refused_list}
use Rattle.whole_list.proofs.Accepted.{list_is, run_state, run_kept}
use Rattle.whole_list.proofs.Results.{results_parts}

called_is : {s : State} {e : Event} {d : Done} → Called s e d → d ≡ event_done s e
called_is (by_event kind p d c) = c.gave ∙ c.learnt ∙ ap (λ (x : State). event x kind p) c.lent
called_is (by_request p d c) = c.gave ∙ c.learnt ∙ ap (λ (x : State). event x request p) c.lent
called_is (by_step p d c) = c.gave ∙ c.learnt ∙ ap (λ (x : State). event x step p) c.lent
called_is (by_release p d c) = c.gave ∙ c.learnt ∙ ap (λ (x : State). event x release p) c.lent

module _ {s : State} {d : Done} (c : ListCall s d) where
  pub list_state : d.answer ≡ 0 → d.state ≡ after s (listed c)
  list_state accepted =
      let is = list_is c in
      ap (λ (x : Done). x.state) is
      ∙ run_state s c.bytes.now c.journal.now (sym (ap (λ (x : Done). x.answer) is) ∙ accepted)

  pub list_kept : d.answer ≢ 0 → d.state ≡ s
  list_kept refused =
      let is = list_is c in
      ap (λ (x : Done). x.state) is
      ∙ run_kept s c.bytes.now c.journal.now (λ e. refused (ap (λ (x : Done). x.answer) is ∙ e))

-- the results of a chain are those of its events, and it ends in the machine's state
pub results_are : {s t : State} {es : List Event} {ds : List Done} → Calls s es ds t → ds ≡ results_of s es
unfolding results_of
results_are (none s) = refl
results_are (call s t e d es ds c rest) =
    ap (λ (l : List Done). d ∷ l) (results_are rest) ∙ ap (λ (x : Done). x ∷ results_of x.state es) (called_is c)
results_are (list s t d es ds c accepted rest) =
    ap (λ (l : List Done). results_of s (listed c) ++ l)
    (results_are rest ∙ ap (λ (x : State). results_of x es) (list_state c accepted))
    ∙ sym (results_parts s (listed c) es)
results_are (refused_list s t d es ds c refused rest) = results_are rest ∙ ap (λ (x : State). results_of x es) (list_kept c refused)

pub end_is : {s t : State} {es : List Event} {ds : List Done} → Calls s es ds t → t ≡ after s es
unfolding after
end_is (none s) = refl
end_is (call s t e d es ds c rest) = end_is rest ∙ ap (λ (x : Done). after x.state es) (called_is c)
end_is (list s t d es ds c accepted rest) =
    end_is rest ∙ ap (λ (x : State). after x es) (list_state c accepted) ∙ sym (after_parts s (listed c) es)
end_is (refused_list s t d es ds c refused rest) = end_is rest ∙ ap (λ (x : State). after x es) (list_kept c refused)

pub join : {s t u : State} {es fs : List Event} {ds gs : List Done}
    → Calls s es ds t → Calls t fs gs u → Calls s (es ++ fs) (ds ++ gs) u
join (none s) more = more
join (call s t e d es ds c rest) more = call s _ e d _ _ c (join rest more)
join {u = u} {fs = fs} {gs = gs} (list s t d es ds c accepted rest) more =
    subst (λ (xs : List Event). Calls s xs ((results_of s (listed c) ++ ds) ++ gs) u) (sym (append_assoc (listed c) es fs))
    (subst (λ (xs : List Done). Calls s (listed c ++ (es ++ fs)) xs u) (sym (append_assoc (results_of s (listed c)) ds gs))
    (list s u d (es ++ fs) (ds ++ gs) c accepted (join rest more)))
join (refused_list s t d es ds c refused rest) more = refused_list s _ d _ _ c refused (join rest more)
