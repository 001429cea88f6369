-- Refused by its checks, nothing is written; otherwise the figure, and the claims up to the dear process's. Assumes nothing.
use mathlib.Core.List.{List}
use Prim.Native.Nat.{ℕ, suc, ◌+◌, ◌*◌, ◌-◌, ◌≤◌}
use native.Mathlib.Numerals.{add-one}
use lib.ListN.{length}
use Rattle.std.proofs.lemmas.Result.{err_from_is_err_and}
use Rattle.lent.proofs.Texts.{size-start, bytes-start}
use Rattle.lent.specs.Text.{Appends}
use Rattle.lent.specs.declared.Text.{Text}
use Rattle.machine.proofs.Facts.Refusals.{number_above}
use Rattle.machine.proofs.Ranges.{Limits, limits_of}
use Rattle.machine.proofs.Rules.{◌≡◌, ◌∙◌, sym, ap, subst, arith, rules}
use Rattle.machine.specs.Lists.{list_bytes}
use Rattle.machine.specs.Setup.{plain_of, setup_answer, height}
use Rattle.machine.specs.declared.Setup.{Setup}
use Rattle.dearest_claim.proofs.Call.{passed_setup, passed_buffer, refused_list, accepted_list}
use Rattle.dearest_claim.proofs.Sizes.{dear_known, figure-byte}
use Rattle.dearest_claim.specs.Dearest.{tried, claims, dear, dearest_bytes, dearest_answer, dearest_of, dearest_list, dearest_buffer}
use Rattle.dearest.proofs.dearest_list.Goals as goal

-- past the checks, of the setup that they gave: it is accepted, and so many processes claim
record Checked (s : Setup) (room tried' count : ℕ) : Type 0 where
  pub accepted : setup_answer s ≡ 0
  pub long : 4096 ≤ room
  pub limits : Limits s
  pub counted : count ≡ suc (dear s)
  pub small : count ≤ 64

checked_known : (s : Setup) (room t : ℕ) → dearest_answer s room ≡ 0 → t ≡ tried s → Checked s room t ((t - 1) * s.bits + 1)
checked_known s room t e is =
    let ok = passed_setup s room e in
    let counted = ap (λ (t : ℕ). (t - 1) * s.bits + 1) is ∙ add-one (dear s) in
    record {
      accepted = ok;
      long = passed_buffer s room e;
      limits = limits_of s ok;
      counted = counted;
      small = omega (arith, counted, dear_known s ok, (limits_of s ok).n64);
    }

pub overflow_sub-segments : goal.overflow_sub-segments
overflow_sub-segments c =
    let tries = c.tried_of-segments.ensures ∙ ap tried c.in_ok-setup.ensures.setup in
    let known = checked_known (plain_of c.args.numbers) _ _ (sym c.in_ok-setup.ensures.answer) tries in
    omega (arith, c.tried_of-segments.ensures, ap tried c.in_ok-setup.ensures.setup, known.limits.g1)

pub put_claims-requires : goal.put_claims-requires
put_claims-requires c =
    let tries = c.tried_of-segments.ensures ∙ ap tried c.in_ok-setup.ensures.setup in
    let known = checked_known (plain_of c.args.numbers) _ _ (sym c.in_ok-setup.ensures.answer) tries in
    let whole = ap (λ (lent : List ℕ). length lent) c.new-text.ensures.bytes in
    (omega (arith, known.counted, ap dear c.in_ok-setup.ensures.setup), omega (arith, known.long, c.new-text.ensures.empty, whole))

pub returns-in_err-setup-clause-list : goal.returns-in_err-setup-clause-list
returns-in_err-setup-clause-list c =
    let p = err_from_is_err_and c.from_residual.result c.from_residual.ensures.1 in
    let is = c.in_err-setup.ensures.answer in
    rw (p.1, p.2)
    (ap (λ (n : ℕ). dearest_of n 0 0) is
    ∙ (refused_list (plain_of c.args.numbers) c.args.out.now (λ z. number_above c.in_err-setup.field-0.0 (is ∙ z))).0)

pub returns-in_err-setup-clause-buffer : goal.returns-in_err-setup-clause-buffer
returns-in_err-setup-clause-buffer c =
    (refused_list (plain_of c.args.numbers) c.args.out.now
    (λ z. number_above c.in_err-setup.field-0.0 (c.in_err-setup.ensures.answer ∙ z))).1

pub overflow_add-result : goal.overflow_add-result
overflow_add-result c =
    let tries = c.tried_of-segments.ensures ∙ ap tried c.in_ok-setup.ensures.setup in
    let known = checked_known (plain_of c.args.numbers) _ _ (sym c.in_ok-setup.ensures.answer) tries in
    search (
      rules,
      c.height_of.ensures,
      ap (λ (s : Setup). height s.leaves) c.in_ok-setup.ensures.setup,
      c.tried_of-segments.ensures,
      ap tried c.in_ok-setup.ensures.setup,
      figure-byte _ known.accepted,
    )

-- what the parts give, of the setup of the four numbers
module _ (s s' : Setup) (same : s' ≡ s) (out : List ℕ) (h t : ℕ) (is : h ≡ height s'.leaves) (tries : t ≡ tried s') {a b : Text}
    (start : a.size ≡ 0) (whole : a.buffer.now ≡ out) (put : Appends a b (list_bytes (claims s' ((t - 1) * s.bits + 1))))
    (accepted : dearest_answer s (length out) ≡ 0) where
  known : Checked s (length out) t ((t - 1) * s.bits + 1)
  known = checked_known s (length out) t accepted (tries ∙ ap tried same)

  written : list_bytes (claims s' ((t - 1) * s.bits + 1)) ≡ dearest_bytes s
  written = ap (λ (c : Setup). list_bytes (claims c ((t - 1) * s.bits + 1))) same ∙ ap (λ (n : ℕ). list_bytes (claims s n)) known.counted

  all : Appends a b (dearest_bytes s)
  all = subst (Appends a b) written put

  list : dearest_of 0 (h + t) b.size ≡ dearest_list s out
  list =
      ap (λ (h : ℕ). dearest_of 0 (h + t) b.size) (is ∙ ap (λ (s : Setup). height s.leaves) same)
      ∙ ap (λ (t : ℕ). dearest_of 0 (height s.leaves + t) b.size) (tries ∙ ap tried same)
      ∙ ap (dearest_of 0 (height s.leaves + tried s)) (size-start start whole all)
      ∙ (accepted_list s out accepted).0

  buffer : b.buffer.now ≡ dearest_buffer s out
  buffer = bytes-start start whole all ∙ (accepted_list s out accepted).1

pub returns-clause-list : goal.returns-clause-list
returns-clause-list c =
    list _ _ c.in_ok-setup.ensures.setup _ _ _ c.height_of.ensures c.tried_of-segments.ensures
    c.new-text.ensures.empty c.new-text.ensures.bytes c.put_claims.ensures (sym c.in_ok-setup.ensures.answer)

pub returns-clause-buffer : goal.returns-clause-buffer
returns-clause-buffer c =
    let wrote =
    buffer _ _ c.in_ok-setup.ensures.setup _ _ _ c.height_of.ensures c.tried_of-segments.ensures
    c.new-text.ensures.empty c.new-text.ensures.bytes c.put_claims.ensures (sym c.in_ok-setup.ensures.answer) in
    search (rules, wrote)
