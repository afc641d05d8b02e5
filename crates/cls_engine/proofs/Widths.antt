-- Rows that aren't wide stay so when they are renumbered.
use Rattle.std.proofs.Common.{ℕ, inl, inr, ◌≡◌, refl, sym, ◌∙◌, ap, List, [], ◌∷◌, Contains, Option, None, Some, nat_eq}
use Rattle.std.specs.Prelude.{slice_get}
use Rattle.std.specs.List.{filter_map, cons_option}
use Rattle.cls_base.proofs.Lists.{Contains-nil, Contains-here, Contains-later, Contains-cases, Contains-at}
use Rattle.cls_core.specs.declared.answer.Answer.{Answer}
use Rattle.cls_core.specs.declared.answer.Answer.TheVariants.{Rules, Wide}
use Rattle.cls_core.specs.Machine.{numbered}
use Rattle.cls_core.specs.Renumbering.{order, placed, renumbered}
use Rattle.cls_core.specs.Rows.{Row}
use Rattle.cls_expand.proofs.Making.{in_mapped}
use Rattle.cls_grammar.specs.Grammars.{first_wide, wide_or}
use Rattle.cls_grammar.proofs.Places.{wide-has}

answer_wide : (keys : List ℕ) (a : Answer ℕ) → numbered nat_eq keys a ≡ Wide → a ≡ Wide
answer_wide keys (Rules rs) e = cc
answer_wide keys Wide e = refl

module _ {G : Type 0} where
  all_ruled : (rows : List (Row G)) → ((r : Row G) → Contains rows r → r.answer ≡ Wide → ⊥) → first_wide rows ≡ None
  all_ruled [] f = refl
  all_ruled (r ∷ rows) f = step r.answer refl (all_ruled rows (λ q m. f q (Contains-later q r rows m)))
    where
      step : (a : Answer ℕ) → r.answer ≡ a → first_wide rows ≡ None → wide_or r.goal r.answer (first_wide rows) ≡ None
      step (Rules rs) is e = ap (λ b. wide_or r.goal b (first_wide rows)) is ∙ e
      step Wide is e = absurd (f r (Contains-here r rows) is)

  from_numbers : (rows : List (Row G)) (keys : List ℕ) (r : Row G) → Contains (filter_map (slice_get rows) keys) r → Contains rows r
  from_numbers rows [] r m = absurd (Contains-nil r m)
  from_numbers rows (k ∷ keys) r m = by (from_numbers rows keys r) (slice_get rows k) refl m
    where
      by : (Contains (filter_map (slice_get rows) keys) r → Contains rows r) → (o : Option (Row G)) → slice_get rows k ≡ o → Contains (cons_option o (filter_map (slice_get rows) keys)) r → Contains rows r
      by rest None e i = rest i
      by rest (Some q) e i = elim (Contains-cases q (filter_map (slice_get rows) keys) r i) [
        | inl s ↦ Contains-at rows k r (e ∙ ap Some (sym s))
        | inr j ↦ rest j
      ]

  pub renumbered_ruled : (rows : List (Row G)) → first_wide rows ≡ None → first_wide (renumbered rows) ≡ None
  renumbered_ruled rows n = all_ruled (renumbered rows) (λ r m w.
      let q = in_mapped (placed (order rows)) (filter_map (slice_get rows) (order rows)) r m in
      wide-has rows q.0 (from_numbers rows (order rows) q.0 q.1) (answer_wide (order rows) q.0.answer (ap (λ (x : Row G). x.answer) q.2 ∙ w)) n)
