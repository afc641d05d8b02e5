use Rattle.std.proofs.Common.{◌≡◌, ℕ, ◌≤◌, ◌⊎◌, List, IsTrue, length, subst, inl, inr, arith}
use Rattle.cls_base.specs.Taxonomies.{stay}
use Rattle.cls_taxon.specs.declared.spans.Span.{Span}
use Rattle.cls_taxon.specs.Closures.{spans_at}
use Rattle.cls_taxon.specs.Decisions.{is_below}
use Rattle.cls_taxon.specs.DecisionLaws.{same_or_Chain}
use Rattle.cls_taxon.specs.Kept.{IsClosure}
use Rattle.cls_taxon.specs.Orders.{Declared}
use Rattle.cls_taxon.specs.Places.{place_of}
use Rattle.cls_taxon.specs.Spans.{HaveOne}
use Rattle.cls_taxon.proofs.Chains.{Chain-held}
use Rattle.cls_taxon.proofs.PlaceLaws.{place-within, place-unique}
use Rattle.cls_taxon.proofs.taxonomy.TaxonomyTaxa.stands_alone.Goals as goal

abbrev IsLeast : List ℕ → List (List Span) → ℕ → Type 0
IsLeast names below b = (length below ≤ place_of names b) ⊎ HaveOne (spans_at below (place_of names b))

-- No other name is below one without a place, or with one place in its spans: that is its own, and that of each name below it.
alone : (d : Declared) (names : List ℕ) (below : List (List Span)) (a b : ℕ) → IsClosure d.pairs names below → IsLeast names below b → IsTrue (is_below d a b) → a ≡ b
alone d names below a b closure least h = elim (same_or_Chain d a b h) [
  | inl e ↦ e
  | inr chain ↦ elim (Chain-held d.pairs names closure.held a b chain) [
    | inl e ↦ e
    | inr both ↦ elim least [
      | inl beyond ↦ (let l = place-within names b both.1 in absurd (omega (arith, l, beyond, closure.count)))
      | inr one ↦ place-unique names a b both.0 both.1
          (one (place_of names a) (place_of names b) ((closure.exact a b both.0 both.1).1 chain) ((closure.exact b b both.1 both.1).1 stay))
    ]
  ]
]

pub returns : goal.returns
returns c =
    let names = c.self.inside.places in
    let below = c.self.inside.below.items in
    let closure : IsClosure c.args.self.now.pairs names below = subst (λ (d : Declared). IsClosure d.pairs names below) c.self.view_is c.self.invariant.closure in
    record {
      alone = λ t a. alone c.args.self.now names below a c.args.name.0 closure (subst (λ (x : List (List Span)). IsLeast names x c.args.name.0) c.deref.ensures.value (c.is_least.ensures t));
    }
