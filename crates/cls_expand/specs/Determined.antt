-- internal: a goal has one answer. Proofs, kept here since the laws of an `impl` are cited from specs/.
use Rattle.std.proofs.Common.{ℕ, ◌≡◌, refl, sym, ◌∙◌, subst, ap, List, [], ◌∷◌, Option, Some}
use Rattle.std.specs.Prelude.{map}
use Rattle.std.specs.List.{AllZip}
use Rattle.cls_base.specs.declared.rule.Rule.{Rule}
use Rattle.cls_base.specs.declared.rule.Rule.TheVariants.{Head}
use Rattle.cls_core.specs.declared.answer.Answer.TheVariants.{Rules, Wide}
use Rattle.cls_core.specs.Arguments.{HasUniqueAnswers}
use Rattle.cls_taxon.specs.DecisionLaws.{is_below-reflexive, is_below-transitive, is_below-antisymmetric}
use Rattle.cls_path.specs.Paths.{Paths, none, more, listed}
use Rattle.cls_path.proofs.Transitivity.{covers_trans}
use Rattle.cls_path.proofs.Uniqueness.{canonical_unique}
use Rattle.cls_cover.specs.Lists as cover
use Rattle.cls_cover.specs.Members.{Rises}
use Rattle.cls_cover.proofs.Lists.{contains_member, member_contains, rises_unique, precedes_not}
use Rattle.cls_library.specs.Arrows.{MultiArrow}
use Rattle.cls_library.specs.Libraries.{Library, below_in, variances_in}
use Rattle.cls_library.specs.Reaching.{IsReduced, columns}
use Rattle.cls_library.specs.Rules.{Choice, ComesBefore, code_of_choice, AreChoices, AreMade, IsRuleFor, IsRules, IsRulesBy, IsChoice, IsChoiceBy, FirstOnes}
use Rattle.cls_library.proofs.ByCases.{all_zip, zip_unique}
use Rattle.cls_expand.specs.Answers.{rule_of, IsAnswer}
use Rattle.cls_library.proofs.FirstOnes.{first_ones_unique}
use Rattle.cls_expand.specs.Listing.{code_same}

all_unique : {A B : Type 0} {R : A → B → Type 0} (xs : List A) (ys zs : List B) → ((x : A) (y z : B) → R x y → R x z → y ≡ z) → AllZip R xs ys → AllZip R xs zs → ys ≡ zs
all_unique xs ys zs f a b = zip_unique f (all_zip xs ys a) (all_zip xs zs b)

one_some : {A : Type 0} (o : Option A) (a b : A) → o ≡ Some a → o ≡ Some b → a ≡ b
one_some o a b e f = cc

module _ (l : Library) where
  reduced_same : (m n k : Paths) → IsReduced l m n → IsReduced l m k → n ≡ k
  reduced_same m n k h g =
      canonical_unique (below_in l.taxonomy) (variances_in l.taxonomy) (λ c. is_below-reflexive l.taxonomy c) (λ c d e p q. is_below-transitive l.taxonomy c d e p q) (λ c d p q. is_below-antisymmetric l.taxonomy c d p q) n k h.normal.canonical g.normal.canonical
      (covers_trans (below_in l.taxonomy) (variances_in l.taxonomy) (λ c. is_below-reflexive l.taxonomy c) (λ c d e p q. is_below-transitive l.taxonomy c d e p q) n m k h.lower g.upper)
      (covers_trans (below_in l.taxonomy) (variances_in l.taxonomy) (λ c. is_below-reflexive l.taxonomy c) (λ c d e p q. is_below-transitive l.taxonomy c d e p q) k m n g.lower h.upper)

  -- a choice makes one rule
  pub made_same : (c : Choice) (q r : Rule Paths) (h : IsRuleFor l c q) (k : IsRuleFor l c r) → h.arguments ≡ k.arguments
  made_same c q r h k =
      let e : h.picked ≡ k.picked = all_unique c.cover h.picked k.picked (λ i a b f g. one_some _ a b f g) h.picks k.picks in
      all_unique (columns c.places h.picked) h.arguments k.arguments reduced_same h.reduced (subst (λ (ps : List MultiArrow). AllZip (IsReduced l) (columns c.places ps) k.arguments) (sym e) k.reduced)

  rule_same_for : (c : Choice) (q r : Rule Paths) → IsRuleFor l c q → IsRuleFor l c r → q ≡ r
  rule_same_for c q r h k = h.rule ∙ (ap (Head c.component) (made_same c q r h k) ∙ sym k.rule)

  rising : (cs : List Choice) → cover.Rises ComesBefore cs → Rises ComesBefore cs
  rising [] r = tt
  rising (c ∷ cs) r = ((λ d m. r.0 d (member_contains m)), rising cs r.1)

  choices_same : (Chosen : Choice → Type 0) (cs ds : List Choice) → AreChoices l Chosen cs → AreChoices l Chosen ds → cs ≡ ds
  choices_same Chosen cs ds h k =
      rises_unique ComesBefore (λ c d. precedes_not (code_of_choice c) (code_of_choice d)) cs ds (rising cs h.in_order) (rising ds k.in_order)
      (λ c i. contains_member ds c ((k.exactly c).1 ((h.exactly c).0 (member_contains i))))
      (λ c i. contains_member cs c ((h.exactly c).1 ((k.exactly c).0 (member_contains i))))

  made_rules_same : (Chosen : Choice → Type 0) (rs qs : List (Rule Paths)) → AreMade l Chosen rs → AreMade l Chosen qs → rs ≡ qs
  made_rules_same Chosen rs qs h k =
      let e : h.choices ≡ k.choices = choices_same Chosen h.choices k.choices h.chosen k.chosen in
      let f : h.candidates ≡ k.candidates = all_unique k.choices h.candidates k.candidates rule_same_for (subst (λ (cs : List Choice). AllZip (IsRuleFor l) cs h.candidates) e h.made) k.made in
      first_ones_unique (subst (λ (cs : List (Rule Paths)). FirstOnes [] cs rs) f h.first_ones) k.first_ones

  rules_same : (goal : Paths) (rs qs : List (Rule Paths)) → IsRules l goal rs → IsRules l goal qs → rs ≡ qs
  rules_same none rs qs h k = h ∙ sym k
  rules_same (more q n) rs qs h k = made_rules_same (IsChoice l (more q n)) rs qs h k

  rules_by_same : (x : ℕ) (goal : Paths) (rs qs : List (Rule Paths)) → IsRulesBy l x goal rs → IsRulesBy l x goal qs → rs ≡ qs
  rules_by_same x none rs qs h k = h ∙ sym k
  rules_by_same x (more q n) rs qs h k = made_rules_same (IsChoiceBy l x (more q n)) rs qs h k

pub one_answer : (l : Library) → HasUniqueAnswers (IsAnswer l)
one_answer l goal (Rules rs) (Rules qs) h k = ap Rules (code_same rs qs (rules_same l (listed goal) (map rule_of rs) (map rule_of qs) h.1 k.1))
one_answer l goal (Rules rs) Wide h k = absurd (h.0 k)
one_answer l goal Wide (Rules qs) h k = absurd (k.0 h)
one_answer l goal Wide Wide h k = refl
