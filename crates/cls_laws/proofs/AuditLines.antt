-- A line that asks for an audit begins with the word `audit`.
use Rattle.std.proofs.Common.{◌≡◌, Bool, true, false, List, refl, sym, ◌∙◌, ap, codes}
use Rattle.std.proofs.lemmas.Bool.{true≢false}
use Rattle.cls_base.specs.Types.{ClosedType}
use Rattle.cls_lexer.specs.Words.{Word}
use Rattle.cls_query.specs.declared.query.Query.TheVariants.{Sub, Paths, Typed, About, Page, Filtered, Batch}
use Rattle.cls_query.specs.declared.word.GoalWord.TheVariants.{Audit}
use Rattle.cls_query.specs.Queries.{Tables, Query, QueryText, query_words, audit, with_query, query_of}
use Rattle.cls_query.specs.Readable.{begins_with}
use Rattle.cls_laws.specs.Uniqueness.{AuditsAreNamed}

abbrev is_audit : Query → Bool
is_audit (About Audit t) = true
is_audit _ = false

module _ (tables : Tables) (goal : ClosedType) where
  abbrev Asked : QueryText → Type 0
  Asked said = audit goal ≡ query_of (with_query tables said) said

  asked_audit : (said : QueryText) → Asked said → true ≡ is_audit (query_of (with_query tables said) said)
  asked_audit said e = ap is_audit e

  begins_so : (said : QueryText) → Asked said → begins_with (codes "audit") (query_words said) ≡ true
  begins_so (Sub s t) e = absurd (true≢false (asked_audit (Sub s t) e))
  begins_so (Paths x) e = absurd (true≢false (asked_audit (Paths x) e))
  begins_so (Typed u t) e = absurd (true≢false (asked_audit (Typed u t) e))
  begins_so (About Audit t) e = refl
  begins_so (About word t) e = absurd (true≢false (asked_audit (About word t) e))
  begins_so (Page word l) e = absurd (true≢false (asked_audit (Page word l) e))
  begins_so (Filtered x l) e = absurd (true≢false (asked_audit (Filtered x l) e))
  begins_so (Batch ts) e = absurd (true≢false (asked_audit (Batch ts) e))

pub audits_named : AuditsAreNamed
audits_named line other tables after goal read =
    true≢false (sym (begins_so tables goal read.said read.asked) ∙ (ap (λ (ws : List Word). begins_with (codes "audit") ws) read.spelled.spelled ∙ other))
