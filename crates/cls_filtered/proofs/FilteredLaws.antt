-- A filtered book generates what the book generates and the automaton accepts, and there is one.
use Rattle.std.proofs.Common.{◌≡◌, ℕ, ◌<◌, ◌/◌, ◌%◌, ◌↔◌, Bool, true, false, IsTrue, List, length, get_or, refl, sym, ap, subst, ◌∙◌, arith}
use Rattle.std.proofs.lemmas.List.{same_lists, get_or_default}
use Rattle.std.proofs.lemmas.Bool.{false≢true}
use Rattle.cls_base.specs.declared.rule.Rule.{Rule}
use Rattle.cls_base.specs.Languages.{IsGenerated}
use Rattle.cls_filter.specs.Automata.{Automaton}
use Rattle.cls_filtered.specs.Filtered.{HasState, AreStatesOf, filtered_book, pair_of}
use Rattle.cls_filtered.specs.Stepwise.{stepwise}
use Rattle.cls_filtered.specs.Laws.{FilteredBooksGenerate, FilteredBooksAreOne}
use Rattle.cls_filtered.proofs.Steps.{stepwise-steps, stepwise-language}
use Rattle.cls_filtered.proofs.Filtering.{filtered-language}

pub filtered_books_generate : FilteredBooksGenerate
filtered_books_generate book a filtered whole small is e =
    let steps = stepwise-language book whole 0 e (omega (arith, whole.some)) in
    let both = filtered-language (stepwise book) a is.flags (stepwise-steps book whole) small is.states e in (
      (λ g. let u = both.0 (subst (λ (b : List (List (Rule ℕ))). IsGenerated b 0 e) is.book_is g) in (steps.1 u.0, u.1)),
      (λ h. subst (λ (b : List (List (Rule ℕ))). IsGenerated b 0 e) (sym is.book_is) (both.1 (steps.0 h.0, h.1))),
    )

-- tests of the same fact have the same outcome
same-test : (b c : Bool) (P : Type 0) → (IsTrue b ↔ P) → (IsTrue c ↔ P) → b ≡ c
same-test true true P h k = refl
same-test true false P h k = absurd (false≢true (k.1 (h.0 refl)))
same-test false true P h k = absurd (false≢true (h.1 (k.0 refl)))
same-test false false P h k = refl

-- there is one list of flags
flags-one : (book : List (List (Rule ℕ))) (a : Automaton) (flags others : List Bool) → AreStatesOf book a flags → AreStatesOf book a others → flags ≡ others
flags-one book a flags others h k =
    same_lists flags others (h.count ∙ sym k.count) (λ n d l.
    let i = n / 16 in
    let q = n % 16 in
    let within : i < length book = omega (arith, l, h.count) in
    let small : q < 16 = omega arith in
    let place : pair_of i q ≡ n = omega arith in
    let same = same-test (get_or flags (pair_of i q) false) (get_or others (pair_of i q) false) (HasState book a i q) (h.each i q within small) (k.each i q within small) in
    get_or_default flags n d false l
    ∙ (subst (λ (m : ℕ). get_or flags m false ≡ get_or others m false) place same
    ∙ get_or_default others n false d (omega (arith, l, h.count, k.count))))

pub filtered_books_are_one : FilteredBooksAreOne
filtered_books_are_one book a filtered others h k =
    h.book_is ∙ (ap (λ (flags : List Bool). filtered_book a flags (stepwise book)) (flags-one (stepwise book) a h.flags k.flags h.states k.states) ∙ sym k.book_is)
