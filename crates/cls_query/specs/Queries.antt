-- What a line says, in texts, and what it asks, with types, terms and numbers. Both are queries of one kind.
use Rattle.std.specs.Prelude.{ℕ, List, [], ◌∷◌}
use Rattle.std.specs.Option.{option_map}
use Rattle.cls_base.specs.Types.{ClosedType}
use Rattle.cls_base.specs.Terms.{Applicative}
use Rattle.cls_lexer.specs.Names.{number_of, with_texts}
use Rattle.cls_lexer.specs.Numerals.{number_value}
use Rattle.cls_lexer.specs.Words.{Word, name}
use Rattle.cls_syntax.specs.ClosedTypes.{closed}
use Rattle.cls_syntax.specs.Forms.{Values, Part, fixed, line_parts, line_words, LineStands, constructors_named, variables_named}
use Rattle.cls_syntax.specs.TermTexts.{TermText}
use Rattle.cls_syntax.specs.TypeSchemas.{type_schema}
use Rattle.cls_syntax.specs.TypeTexts.{TypeText, TypeList, last, more}
use Rattle.cls_term.specs.TermReadings.{term_of}
use Rattle.cls_query.specs.declared.query.Listing as listings
use Rattle.cls_query.specs.declared.query.Query as queries
use Rattle.cls_query.specs.declared.query.Query.TheVariants.{Sub, Paths, Typed, About, Page, Filtered, Batch}
use Rattle.cls_query.specs.declared.word.GoalWord.TheVariants.{Inhabit, Grammar, Audit, Certify, Verify, Finite}
use Rattle.cls_query.specs.declared.word.ListingWord.TheVariants as listing
use Rattle.cls_query.specs.declared.word.QueryWord.{QueryWord}
use Rattle.cls_query.specs.declared.word.QueryWord.TheVariants as word
use Rattle.cls_query.specs.QueryForms.{word_text, listing_form, form_of}

-- A page that is asked for: terms of the type and of at most the size `max`, the first `take` of them after the cursor,
-- if there is one.
abbrev pub Listing : Type 0
Listing = listings.Listing ClosedType ℕ Applicative

-- A query with its types, terms and numbers. A component is its number, and so is a filter.
abbrev pub Query : Type 0
Query = queries.Query ClosedType ℕ Applicative ClosedType Listing (List ClosedType)

-- A listing and a query in the texts that stand in a line.
abbrev pub ListingText : Type 0
ListingText = listings.Listing TypeText (List ℕ) TermText

abbrev pub QueryText : Type 0
QueryText = queries.Query TypeText (List ℕ) TermText TypeText ListingText TypeList

-- The query with other parts, each in place of its own: a component by n, and a filter by f.
abbrev pub map_query :
    {C N E T L S C' N' E' T' L' S' : Type 0} → (C → C') → (n f : N → N') → (E → E') → (T → T') → (L → L') → (S → S')
    → queries.Query C N E T L S → queries.Query C' N' E' T' L' S'
map_query c n f e t l s (Sub lower upper) = Sub (c lower) (c upper)
map_query c n f e t l s (Paths component) = Paths (n component)
map_query c n f e t l s (Typed term type) = Typed (e term) (t type)
map_query c n f e t l s (About asks goal) = About asks (t goal)
map_query c n f e t l s (Page asks page) = Page asks (l page)
map_query c n f e t l s (Filtered filter page) = Filtered (f filter) (l page)
map_query c n f e t l s (Batch types) = Batch (s types)

-- A LINE
-- The word that it begins with, and what the form of the word says.
abbrev pub word_of : {C N E T L S : Type 0} → queries.Query C N E T L S → QueryWord
word_of (Sub lower upper) = word.Sub
word_of (Paths component) = word.Paths
word_of (Typed term type) = word.Typed
word_of (About asks goal) = word.About asks
word_of (Page asks page) = word.Page asks
word_of (Filtered filter page) = word.Filtered
word_of (Batch types) = word.Batch

abbrev pub listing_values : ListingText → Values listing_form
listing_values page = (page.goal, (page.max, (page.take, option_map (λ e. (e, tt)) page.after)))

abbrev pub values_of : (q : QueryText) → Values (form_of (word_of q))
values_of (Sub lower upper) = (lower, (upper, tt))
values_of (Paths component) = (component, tt)
values_of (Typed term type) = (term, (type, tt))
values_of (About asks goal) = (goal, tt)
values_of (Page asks page) = listing_values page
values_of (Filtered filter page) = (filter, listing_values page)
values_of (Batch types) = types

-- Its words, and its parts: the words, each with what it is for.
abbrev pub query_words : QueryText → List Word
query_words q = name (word_text (word_of q)) ∷ line_words (form_of (word_of q)) (values_of q)

abbrev pub query_parts : QueryText → List Part
query_parts q = fixed (name (word_text (word_of q))) ∷ line_parts (form_of (word_of q)) (values_of q)

-- Each name of it may stand where it does.
abbrev pub QueryStands : QueryText → Type 0
QueryStands q = LineStands (form_of (word_of q)) (values_of q)

-- THE TABLES OF NAMES
-- The names that have numbers.
pub record Tables : Type 0 where
  pub constructors : List (List ℕ)
  pub variables : List (List ℕ)
  pub components : List (List ℕ)
  pub filters : List (List ℕ)

abbrev pub tables_of : (constructors variables components filters : List (List ℕ)) → Tables
tables_of constructors variables components filters =
    record { constructors = constructors; variables = variables; components = components; filters = filters }

-- The table after the constructors that the parts name came, in the order of the parts, and that after the variables.
abbrev pub with_names : List (List ℕ) → List Part → List (List ℕ)
with_names constructors parts = with_texts constructors (constructors_named parts)

abbrev pub with_variables : List (List ℕ) → List Part → List (List ℕ)
with_variables variables parts = with_texts variables (variables_named parts)

-- The tables that hold the names of the query. A query gives no number to a component or a filter.
abbrev pub with_query : Tables → QueryText → Tables
with_query tables said =
    tables_of (with_names tables.constructors (query_parts said)) (with_variables tables.variables (query_parts said))
    tables.components tables.filters

-- WHAT THE LINE ASKS
-- The type, the types and the term that the texts spell, with the numbers of their names in the table.
abbrev pub type_in : List (List ℕ) → TypeText → ClosedType
type_in constructors t = closed (type_schema (number_of constructors) (λ x. 0) t)

abbrev pub types_in : List (List ℕ) → TypeList → List ClosedType
types_in constructors (last t) = type_in constructors t ∷ []
types_in constructors (more t ts) = type_in constructors t ∷ types_in constructors ts

abbrev pub term_in : List (List ℕ) → TermText → Applicative
term_in components e = term_of (number_of components) e

module _ (tables : Tables) where
  abbrev pub listing_of : ListingText → Listing
  listing_of l = record {
    goal = type_in tables.constructors l.goal;
    max = number_value l.max;
    take = number_value l.take;
    after = option_map (term_in tables.components) l.after;
  }

  abbrev pub query_of : QueryText → Query
  query_of said =
      map_query (type_in tables.constructors) (number_of tables.components) (number_of tables.filters)
      (term_in tables.components) (type_in tables.constructors) listing_of (types_in tables.constructors) said

-- THE QUERIES BY THEIR WORDS
abbrev pub sub : (lower upper : ClosedType) → Query
sub lower upper = Sub lower upper

abbrev pub paths : (component : ℕ) → Query
paths component = Paths component

abbrev pub typed : (term : Applicative) → (type : ClosedType) → Query
typed term type = Typed term type

abbrev pub inhabit : (goal : ClosedType) → Query
inhabit goal = About Inhabit goal

abbrev pub grammar : (goal : ClosedType) → Query
grammar goal = About Grammar goal

abbrev pub audit : (goal : ClosedType) → Query
audit goal = About Audit goal

abbrev pub certify : (goal : ClosedType) → Query
certify goal = About Certify goal

abbrev pub verify : (goal : ClosedType) → Query
verify goal = About Verify goal

abbrev pub finite : (goal : ClosedType) → Query
finite goal = About Finite goal

abbrev pub list : Listing → Query
list page = Page listing.List page

abbrev pub texts : Listing → Query
texts page = Page listing.Texts page

abbrev pub filtered : (filter : ℕ) → Listing → Query
filtered filter page = Filtered filter page

abbrev pub batch : List ClosedType → Query
batch types = Batch types
