-- internal: what the code's queries say, as they are spelled
use Rattle.std.specs.Prelude.{ℕ, ◌+◌, ◌-◌, ◌≤◌, List, length, Option, Some, None, position}
use Rattle.std.specs.Borrow.{Bor}
use Rattle.std.specs.Option.{option_map}
use Rattle.cls_base.specs.Limits.{max_term_size, max_page_terms}
use Rattle.cls_base.specs.Terms.{Applicative}
use Rattle.cls_lexer.specs.declared.numeral.Numeral.{Numeral}
use Rattle.cls_lexer.specs.Numerals.{number_value}
use Rattle.cls_syntax.specs.declared.spelled_term.SpelledTerm.{SpelledTerm}
use Rattle.cls_syntax.specs.declared.spelled_type.SpelledType.{SpelledType}
use Rattle.cls_syntax.specs.SpelledTerms.{term_text}
use Rattle.cls_syntax.specs.declared.spelled_types.SpelledTypes.{SpelledTypes}
use Rattle.cls_syntax.specs.SpelledTypes.{type_text, types_text}
use Rattle.cls_syntax.specs.TermTexts.{term_words}
use Rattle.cls_term.specs.TokenFaults as faults
use Rattle.cls_query.specs.declared.query.Listing as listings
use Rattle.cls_query.specs.declared.query.Query as queries
use Rattle.cls_query.specs.declared.query.Query.TheVariants.{Typed, Page, Filtered}
use Rattle.cls_query.specs.Queries.{ListingText, QueryText, map_query, term_in}

abbrev pub SpelledListing : Type 0
SpelledListing = listings.Listing SpelledType Numeral SpelledTerm

abbrev pub SpelledQuery : Type 0
SpelledQuery = queries.Query SpelledType (Bor (List ℕ)) SpelledTerm SpelledType SpelledListing SpelledTypes

abbrev pub listing_text : SpelledListing → ListingText
listing_text l = record {
  goal = type_text l.goal;
  max = l.max.text.now;
  take = l.take.text.now;
  after = option_map term_text l.after;
}

abbrev pub query_text : SpelledQuery → QueryText
query_text q =
    map_query type_text (λ (x : Bor (List ℕ)). x.now) (λ (x : Bor (List ℕ)). x.now) term_text type_text listing_text
    types_text q

-- The number is within the range of a form that allows it up to the greatest one.
abbrev pub IsWithin : (greatest : ℕ) → (digits : List ℕ) → Type 0
IsWithin greatest digits = (1 ≤ number_value digits) × (number_value digits ≤ greatest)

abbrev pub AreInRange : (max take : List ℕ) → Type 0
AreInRange max take = IsWithin max_term_size max × IsWithin max_page_terms take

-- The term of the query, if it has one, and what it is by the table of components.
abbrev pub term_spelled : SpelledQuery → Option SpelledTerm
term_spelled (Typed e t) = Some e
term_spelled (Page word l) = l.after
term_spelled (Filtered f l) = l.after
term_spelled _ = None

abbrev pub spelled_in : List (List ℕ) → SpelledTerm → Applicative
spelled_in components e = term_in components (term_text e)

-- The place of the first name of the cursor that is no component, where so many tokens stand up to its end.
abbrev pub place_behind : List (List ℕ) → (count : ℕ) → Option SpelledTerm → Option ℕ
place_behind components count None = None
place_behind components count (Some e) =
    option_map (λ place. (count - length (term_words (term_text e))) + place)
    (position (faults.is_unknown components) (term_words (term_text e)))
