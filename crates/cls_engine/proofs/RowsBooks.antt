-- Rows that make a grammar, as a rule book, and the first row that is wide.
use Rattle.std.proofs.Common.{◌≡◌, ℕ, zero, suc, ◌<◌, ◌≤◌, inl, inr, List, [], ◌∷◌, Option, None, Some, length, drop, slice_get, refl, sym, ap, subst, ◌∙◌, arith}
use Rattle.std.specs.Prelude.{Contains, option_map}
use Rattle.std.proofs.lemmas.List.Elements.{Contains-append_left, Contains-append_right}
use Rattle.cls_base.specs.Arguments.{arguments_of_rule, arguments_in}
use Rattle.cls_base.specs.Books.{HaveNodesBelow}
use Rattle.cls_base.specs.Languages.{rules_at}
use Rattle.cls_base.specs.declared.rule.Rule.{Rule}
use Rattle.cls_base.proofs.Lists.{Contains-nil, Contains-cases, Contains-at}
use Rattle.cls_core.specs.declared.answer.Answer.{Answer}
use Rattle.cls_core.specs.declared.answer.Answer.TheVariants.{Rules, Wide}
use Rattle.cls_core.specs.Arguments.{arguments_of, rules_of}
use Rattle.cls_core.specs.Rows.{Row}
use Rattle.cls_core.proofs.Columns.{get-some, some-inside}
use Rattle.cls_grammar.specs.Grammars.{MakeGrammar, book_of, first_wide, wide_or}
use Rattle.cls_grammar.proofs.Places.{wide-has}
use Rattle.cls_grammar.proofs.RowColumns.{book-count, rows-book}
use Rattle.cls_engine.proofs.RuleBooks.{rules_below}

argument-in : (rs : List (Rule ℕ)) (r : Rule ℕ) (n : ℕ) → Contains rs r → Contains (arguments_of_rule r) n → Contains (arguments_in rs) n
argument-in [] r n h k = absurd (Contains-nil r h)
argument-in (q ∷ rs) r n h k = elim (Contains-cases q rs r h) [
  | inl e ↦ Contains-append_left (arguments_of_rule q) (arguments_in rs) n (subst (λ (x : Rule ℕ). Contains (arguments_of_rule x) n) e k)
  | inr m ↦ Contains-append_right (arguments_of_rule q) (arguments_in rs) n (argument-in rs r n m k)
]

module _ {G : Type 0} where
  abbrev answer_at : List (Row G) → ℕ → Option (Answer ℕ)
  answer_at rows i = option_map (λ (r : Row G). r.answer) (slice_get rows i)

  -- the row that has this answer
  pub row-with : (rows : List (Row G)) (i : ℕ) (a : Answer ℕ) → answer_at rows i ≡ Some a
      → (r : Row G) × (slice_get rows i ≡ Some r) × (r.answer ≡ a)
  row-with rows i a = by (slice_get rows i) refl
    where
      by : (o : Option (Row G)) → slice_get rows i ≡ o → option_map (λ (r : Row G). r.answer) o ≡ Some a
          → (r : Row G) × (slice_get rows i ≡ Some r) × (r.answer ≡ a)
      by None is e = absurd (let f : ◌≡◌ {A = Option (Answer ℕ)} None (Some a) = e in cc)
      by (Some r) is e = (r, is, some-inside r.answer a e)

  pub some-row : (rows : List (Row G)) → MakeGrammar rows → 1 ≤ length rows
  some-row [] made = absurd (let f : ◌≡◌ {A = Option G} None (Some made.0) = made.1.first in cc)
  some-row (r ∷ rows) made = omega arith

  pub none-wide : (rows : List (Row G)) → first_wide rows ≡ None → (i : ℕ) (a : Answer ℕ) → answer_at rows i ≡ Some a → a ≡ Wide → ⊥
  none-wide rows ruled i a e w = let r = row-with rows i a e in wide-has rows r.0 (Contains-at rows i r.0 r.1) (r.2 ∙ w) ruled

  pub rules-here : (rows : List (Row G)) (i : ℕ) (rs : List (Rule ℕ)) → answer_at rows i ≡ Some (Rules rs) → rs ≡ rules_at (book_of rows) i
  rules-here rows i rs e =
      let r = row-with rows i (Rules rs) e in
      rows-book rows i rs (ap (option_map (λ (x : Row G). rules_of x.answer)) r.1 ∙ ap (λ (a : Answer ℕ). Some (rules_of a)) r.2)

  pub within-here : (rows : List (Row G)) → MakeGrammar rows → (i : ℕ) (rs : List (Rule ℕ)) → answer_at rows i ≡ Some (Rules rs)
      → HaveNodesBelow (length (book_of rows)) (rules_at (book_of rows) i)
  within-here rows made i rs e =
      let r = row-with rows i (Rules rs) e in
      subst (λ (l : List (Rule ℕ)). HaveNodesBelow (length (book_of rows)) l) (rules-here rows i rs e)
      (rules_below (length (book_of rows)) rs (λ q m n k.
      let less = made.1.within i r.0 r.1 n (subst (λ (a : Answer ℕ). Contains (arguments_of a) n) (sym r.2) (argument-in rs q n m k)) in
      omega (arith, less, book-count rows)))

  -- where a row isn't wide, the first wide one comes later
  pub first-later : (rows : List (Row G)) (k : ℕ) (r : Row G) (rs : List (Rule ℕ)) → slice_get rows k ≡ Some r → r.answer ≡ Rules rs
      → first_wide (drop (suc k) rows) ≡ first_wide (drop k rows)
  first-later [] k r rs e f = absurd (let g : ◌≡◌ {A = Option (Row G)} None (Some r) = e in cc)
  first-later (x ∷ rows) zero r rs e f =
      let s : x ≡ r = some-inside x r e in
      sym (ap (λ (a : Answer ℕ). wide_or x.goal a (first_wide rows)) (ap (λ (q : Row G). q.answer) s ∙ f))
  first-later (x ∷ rows) (suc k) r rs e f = first-later rows k r rs e f

  pub first-here : (rows : List (Row G)) (k : ℕ) (r : Row G) → slice_get rows k ≡ Some r → r.answer ≡ Wide → first_wide (drop k rows) ≡ Some r.goal
  first-here [] k r e w = absurd (let g : ◌≡◌ {A = Option (Row G)} None (Some r) = e in cc)
  first-here (x ∷ rows) zero r e w =
      let s : x ≡ r = some-inside x r e in
      ap (λ (a : Answer ℕ). wide_or x.goal a (first_wide rows)) (ap (λ (q : Row G). q.answer) s ∙ w) ∙ ap (λ (q : Row G). Some q.goal) s
  first-here (x ∷ rows) (suc k) r e w = first-here rows k r e w

  -- if the first wide one is the goal of a row, there is one
  pub some-wide : (rows : List (Row G)) (k : ℕ) → k < length rows → first_wide rows ≡ option_map (λ (r : Row G). r.goal) (slice_get rows k) → first_wide rows ≡ None → ⊥
  some-wide rows k l e none =
      let r = get-some rows k l in
      let f : ◌≡◌ {A = Option G} None (Some r.0.goal) = sym none ∙ (e ∙ ap (option_map (λ (x : Row G). x.goal)) r.1) in
      cc

  -- the first wide row
  pub record IsWideAt (rows : List (Row G)) (g : G) : Type 0 where
    pub place : ℕ
    pub row : Row G
    pub there : slice_get rows place ≡ Some row
    pub wide : row.answer ≡ Wide
    pub goal : row.goal ≡ g

  pub wide-at : (rows : List (Row G)) (g : G) → first_wide rows ≡ Some g → IsWideAt rows g
  wide-at [] g e = absurd (let f : ◌≡◌ {A = Option G} None (Some g) = e in cc)
  wide-at (x ∷ rows) g e = by (wide-at rows g) x.answer refl e
    where
      by : (first_wide rows ≡ Some g → IsWideAt rows g) → (a : Answer ℕ) → x.answer ≡ a → wide_or x.goal a (first_wide rows) ≡ Some g → IsWideAt (x ∷ rows) g
      by rest (Rules rs) is f =
          let u = rest f in
          record { place = suc u.place; row = u.row; there = u.there; wide = u.wide; goal = u.goal }
      by rest Wide is f = record { place = 0; row = x; there = refl; wide = is; goal = some-inside x.goal g f }
