-- What the reader of queries answers.
use Rattle.std.specs.Prelude.{ℕ, ◌≡◌, List, ◌++◌, Option, Some, None, Vec, codes, map}
use Rattle.std.specs.Global.{Global}
use Rattle.std.specs.Fmt.{decimal}
use Rattle.cls_base.specs.declared.ty.Name.{Name}
use Rattle.cls_base.specs.declared.ty.Ty.{Ty}
use Rattle.cls_base.specs.Firsts.{First, IsSilent}
use Rattle.cls_base.specs.Terms.{Applicative}
use Rattle.cls_base.specs.Ty.{type_of}
use Rattle.cls_lexer.specs.Words.{words_of}
use Rattle.cls_syntax.specs.Faults.{Says}
use Rattle.cls_syntax.specs.declared.measured.MeasuredTy.{MeasuredTy}
use Rattle.cls_syntax.specs.MeasuredTypes.{measured_type}
use Rattle.cls_query.specs.declared.fault.LineFault.{LineFault}
use Rattle.cls_query.specs.declared.fault.LineFault.TheVariants as faults
use Rattle.cls_query.specs.declared.query.Query as queries
use Rattle.cls_query.specs.declared.query.Listing as listings
use Rattle.cls_query.specs.Queries.{Listing, Query, QueryText, Tables, map_query, query_words, QueryStands, with_query, query_of}
use Rattle.cls_query.specs.QueryErrors.{line_errors}

-- The words of the fault. Out of memory has none.
abbrev pub fault_words : LineFault → Option (List ℕ)
fault_words faults.TooLong = Some (codes "long")
fault_words faults.NotUtf8 = Some (codes "utf8")
fault_words faults.TooDeep = Some (codes "deep")
fault_words (faults.Unexpected byte) = Some (codes "syntax " ++ decimal byte)
fault_words (faults.ReservedName byte) = Some (codes "reserved " ++ decimal byte)
fault_words faults.TooManyNodes = Some (codes "nodes")
fault_words (faults.Variable byte) = Some (codes "variable " ++ decimal byte)
fault_words faults.OutOfRange = Some (codes "number")
fault_words (faults.UnknownName text) = Some (codes "unknown " ++ text.now)
fault_words (faults.Duplicate text) = Some (codes "duplicate " ++ text.now)
fault_words (faults.UnknownInTerm byte) = Some (codes "token " ++ decimal byte)
fault_words faults.OutOfMemory = None

-- The listing and the query that the code's values are, wherever the parts of types lie.
abbrev pub BuiltListing : Type 0
BuiltListing = listings.Listing Ty ℕ Applicative

abbrev pub BuiltQuery : Type 0
BuiltQuery = queries.Query MeasuredTy Name Applicative Ty BuiltListing (Vec Ty Global)

abbrev pub listing_of : BuiltListing → Listing
listing_of l = record { goal = type_of l.goal; max = l.max; take = l.take; after = l.after }

abbrev pub asked_of : BuiltQuery → Query
asked_of q =
    map_query measured_type (λ (x : Name). x.0) (λ (x : Name). x.0) (λ (e : Applicative). e) type_of listing_of
    (λ (types : Vec Ty Global). map type_of types.items) q

-- No error is said of the line, it asks this query, and these are the tables with its names.
pub record ReadsQuery (tables : Tables) (line : List ℕ) (query : Query) (after : Tables) : Type 0 where
  pub faultless : IsSilent (First (line_errors tables line))
  pub said : QueryText
  pub spelled : Says query_words QueryStands said (words_of line)
  pub asked : query ≡ query_of (with_query tables said) said
  pub numbered : after ≡ with_query tables said
