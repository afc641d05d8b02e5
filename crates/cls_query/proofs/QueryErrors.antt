-- No two errors are said of a line, and one is said of each line that isn't read as a query.
use Rattle.std.proofs.Common.{◌≡◌, ℕ, ◌-◌, ◌<◌, Bool, true, false, List, [], ◌∷◌, ◌++◌, length, refl, ap, sym, ◌∙◌, inl, inr, arith}
use Rattle.std.specs.Prelude.{Option, Some, None, ◌⊎◌, Result, Ok, Err, is_ok, IsUtf8, ◌&&◌, position, find, codes}
use Rattle.std.specs.Fmt.{decimal}
use Rattle.std.specs.List.{list_any}
use Rattle.std.specs.Str.{is_utf8}
use Rattle.std.proofs.lemmas.Bool.{cases_lt, true≢false}
use Rattle.std.proofs.lemmas.Str.{IsUtf8-from_is_utf8, is_utf8-from_IsUtf8}
use Rattle.cls_base.specs.Firsts.{Cause, First, IsSilent, IsDetermined, IsDecided}
use Rattle.cls_base.specs.Limits.{max_line_bytes, max_type_depth}
use Rattle.cls_base.proofs.Firsts.{first-determined, first-decided}
use Rattle.cls_lexer.specs.Tokens.{byte_at, tokens_of}
use Rattle.cls_lexer.specs.Words.{words_of}
use Rattle.cls_syntax.specs.declared.role.Role.{Role}
use Rattle.cls_syntax.specs.declared.role.Role.TheVariants.{Component, Filter}
use Rattle.cls_syntax.specs.Depths.{most_open}
use Rattle.cls_syntax.specs.Faults.{stop, Says}
use Rattle.cls_syntax.specs.Forms.{Part, fixed, naming, numeral}
use Rattle.cls_syntax.specs.Sorts.{begins_reserved}
use Rattle.cls_syntax.specs.SyntaxFaults.{IsTooDeep}
use Rattle.cls_syntax.specs.TypeSchemas.{is_dollar}
use Rattle.cls_syntax.proofs.TypeFaults.{stops_at}
use Rattle.cls_syntax.proofs.OnePlace.{one_byte}
use Rattle.cls_query.specs.QueryReading.{query_read}
use Rattle.cls_query.specs.Queries.{Tables, Query, QueryText, query_words, query_parts, QueryStands, with_query, query_of}
use Rattle.cls_query.specs.QueryErrors.{query_types, is_large, is_excessive, is_unknown, is_unknown_in_term, place_words, IsQuery, too_long, not_utf8, too_deep, leaves_table, too_many_nodes, has_variable, out_of_range, unknown_name, unknown_in_term, line_errors}
use Rattle.cls_query.specs.ReadQueries.{ReadsQuery}
use Rattle.cls_query.specs.Laws.{ErrorsAreDetermined, LinesAreReadOnce, LinesAreDecided}
use Rattle.cls_query.proofs.FirstErrors.{fourth_silent}
use Rattle.cls_query.proofs.Searches.{find_passes, nothing_found, some_or}
use Rattle.cls_query.proofs.QueryLines.{holds_of, stays_silent, stop_leaves, read_says, said_reads, said_one}

pub said_alone : {T : Type 0} (A : Type 0) (c : T) → IsDetermined (λ t. A × (t ≡ c))
said_alone A c t u p q = p.1 ∙ sym q.1

abbrev text_in : Option Part → List ℕ
text_in None = []
text_in (Some (fixed w)) = []
text_in (Some (naming r x)) = x
text_in (Some (numeral l g d)) = d

module _ (tables : Tables) (line : List ℕ) where
  abbrev of_query : (QueryText → Type 0) → Type 0
  of_query P = IsQuery line P

  place_one : IsDetermined (leaves_table line)
  place_one t u p q =
      let one = one_byte query_words QueryStands line p.0 q.0 p.1 q.1 p.2 q.2 in
      p.3 ∙ ((λ i. place_words (one.flags i) (one.bytes i)) ∙ sym q.3)

  variable_one : IsDetermined (has_variable line)
  variable_one t u p q = p.2 ∙ (ap (λ n. codes "variable " ++ decimal (byte_at line n)) (ap (some_or 0) (sym p.1 ∙ q.1)) ∙ sym q.2)

  unknown_one : IsDetermined (unknown_name line tables.components tables.filters)
  unknown_one t u p q =
      let r = holds_of line p.0 p.1 (λ v. (role : Role) × (x : List ℕ) × (find (is_unknown tables.components tables.filters) (query_parts v) ≡ Some (naming role x)) × (u ≡ codes "unknown " ++ x)) q in
      p.2.3 ∙ (ap (λ (x : List ℕ). codes "unknown " ++ x) (ap text_in (sym p.2.2 ∙ r.2)) ∙ sym r.3)

  term_one : IsDetermined (unknown_in_term line tables.components)
  term_one t u p q =
      let r = holds_of line p.0 p.1 (λ v. (place : ℕ) × (position (is_unknown_in_term tables.components) (query_parts v) ≡ Some place) × (u ≡ codes "token " ++ decimal (byte_at line place))) q in
      p.2.2 ∙ (ap (λ n. codes "token " ++ decimal (byte_at line n)) (ap (some_or 0) (sym p.2.1 ∙ r.1)) ∙ sym r.2)

  error_one : IsDetermined (First (line_errors tables line))
  error_one = first-determined (line_errors tables line) (
    said_alone (max_line_bytes < length line) (codes "long"),
    (
      said_alone (IsUtf8 line → ⊥) (codes "utf8"),
      (
        said_alone (IsTooDeep line) (codes "deep"),
        (
          place_one,
          (
            said_alone (of_query (λ said. list_any is_large (query_types said) ≡ true)) (codes "nodes"),
            (
              variable_one,
              (
                said_alone (of_query (λ said. is_excessive said ≡ true)) (codes "number"),
                (
                  unknown_one,
                  (
                    term_one,
                    tt,
                  ),
                ),
              ),
            ),
          ),
        ),
      ),
    ),
  )

pub errors_determined : ErrorsAreDetermined
errors_determined tables line = error_one tables line

pub lines_read_once : LinesAreReadOnce
lines_read_once words said other p q = said_one words said other p q

-- A fact that is decided.
abbrev pub Decided : Type 0 → Type 0
Decided A = A ⊎ (A → ⊥)

pub alone_decided : {T : Type 0} (A : Type 0) (c : T) → Decided A → IsDecided (λ t. A × (t ≡ c))
alone_decided A c (inl a) = inl (c, (a, refl))
alone_decided A c (inr n) = inr (λ t p. n p.0)

pub less_decided : (m n : ℕ) → Decided (m < n)
less_decided m n = elim (cases_lt m n) [ inl l ↦ inl l | inr h ↦ inr (λ l. omega (arith, l, h)) ]

pub true_decided : (b : Bool) → Decided (b ≡ true)
true_decided true = inl refl
true_decided false = inr (λ e. true≢false (sym e))

pub not_utf8_decided : (line : List ℕ) → Decided (IsUtf8 line → ⊥)
not_utf8_decided line = elim (true_decided (is_utf8 line)) [
  | inl e ↦ inr (λ n. n (IsUtf8-from_is_utf8 line e))
  | inr n ↦ inl (λ u. n (is_utf8-from_IsUtf8 line u))
]

-- Whether the line is a query.
abbrev IsSomeQuery : List ℕ → Type 0
IsSomeQuery line = (said : QueryText) × Says query_words QueryStands said (words_of line)

pub no_ok : {A E : Type 0} (a : A) (e : E) → ◌≡◌ {A = Result A E} (Ok a) (Err e) → ⊥
no_ok a e p = true≢false (ap is_ok p)

-- the line is a query, or something is said of where it leaves the table
query_or_place : (line : List ℕ) → IsSomeQuery line ⊎ (((t : List ℕ) × leaves_table line t) × (IsSomeQuery line → ⊥))
query_or_place line =
    (elim (query_read (words_of line)) as (λ r. query_read (words_of line) ≡ r → IsSomeQuery line ⊎ (((t : List ℕ) × leaves_table line t) × (IsSomeQuery line → ⊥))) [
      | Ok said ↦ λ e. inl (said, read_says (words_of line) said e)
      | Err (stop rest wants) ↦ λ e.
          let byte = byte_at line (length (tokens_of line) - length rest) in
          let reserved = wants && begins_reserved rest in
          inr (
            (place_words reserved byte, (byte, reserved, stops_at query_words QueryStands line rest wants (stop_leaves (words_of line) rest wants e), refl)),
            λ q. no_ok q.0 (stop rest wants) (sym (said_reads (words_of line) q.0 q.1) ∙ e),
          )
    ]) refl

module _ (tables : Tables) (line : List ℕ) where
  place_decided : IsSomeQuery line ⊎ (((t : List ℕ) × leaves_table line t) × (IsSomeQuery line → ⊥)) → IsDecided (leaves_table line)
  place_decided (inl q) = inr (stays_silent line q.0 q.1)
  place_decided (inr p) = inl p.0

  -- what is decided of a query is decided of a line
  of_query_decided : {T : Type 0} (P : QueryText → Cause T) → ((said : QueryText) → IsDecided (P said)) → IsDecided (λ t. IsQuery line (λ said. P said t))
  of_query_decided {T} P d = elim (query_or_place line) [
    | inl q ↦ elim (d q.0) [
      | inl h ↦ inl (h.0, (q.0, q.1, h.1))
      | inr n ↦ inr (λ t h. n t (holds_of line q.0 q.1 (λ v. P v t) h))
    ]
    | inr p ↦ inr (λ t h. p.1 (h.0, h.1))
  ]

  fact_decided : (P : QueryText → Bool) → Decided (IsQuery line (λ said. P said ≡ true))
  fact_decided P = elim (query_or_place line) [
    | inl q ↦ elim (true_decided (P q.0)) [
      | inl h ↦ inl (q.0, q.1, h)
      | inr n ↦ inr (λ h. n (holds_of line q.0 q.1 (λ v. P v ≡ true) h))
    ]
    | inr p ↦ inr (λ h. p.1 (h.0, h.1))
  ]

  variable_decided : IsDecided (has_variable line)
  variable_decided = (elim (position is_dollar (words_of line)) as (λ o. position is_dollar (words_of line) ≡ o → IsDecided (has_variable line)) [
    | None ↦ λ e. inr (λ t h. nothing_found h.0 (sym e ∙ h.1))
    | Some place ↦ λ e. inl (codes "variable " ++ decimal (byte_at line place), (place, e, refl))
  ]) refl

  abbrev says_unknown : QueryText → Cause (List ℕ)
  says_unknown v t = (role : Role) × (x : List ℕ) × (find (is_unknown tables.components tables.filters) (query_parts v) ≡ Some (naming role x)) × (t ≡ codes "unknown " ++ x)

  named : (p : Part) → is_unknown tables.components tables.filters p ≡ true → (role : Role) × (x : List ℕ) × (p ≡ naming role x)
  named (fixed w) h = absurd (true≢false (sym h))
  named (naming Component x) h = (Component, x, refl)
  named (naming Filter x) h = (Filter, x, refl)
  named (naming _ x) h = absurd (true≢false (sym h))
  named (numeral l g d) h = absurd (true≢false (sym h))

  unknown_of : (v : QueryText) → IsDecided (says_unknown v)
  unknown_of v = (elim (find (is_unknown tables.components tables.filters) (query_parts v)) as (λ o. find (is_unknown tables.components tables.filters) (query_parts v) ≡ o → IsDecided (says_unknown v)) [
    | None ↦ λ e. inr (λ t h. nothing_found (naming h.0 h.1) (sym e ∙ h.2))
    | Some p ↦ λ e.
        let is = named p (find_passes (is_unknown tables.components tables.filters) (query_parts v) p e) in
        inl (codes "unknown " ++ is.1, (is.0, is.1, e ∙ ap (λ (q : Part). Some q) is.2, refl))
  ]) refl

  abbrev says_in_term : QueryText → Cause (List ℕ)
  says_in_term v t = (place : ℕ) × (position (is_unknown_in_term tables.components) (query_parts v) ≡ Some place) × (t ≡ codes "token " ++ decimal (byte_at line place))

  in_term_of : (v : QueryText) → IsDecided (says_in_term v)
  in_term_of v = (elim (position (is_unknown_in_term tables.components) (query_parts v)) as (λ o. position (is_unknown_in_term tables.components) (query_parts v) ≡ o → IsDecided (says_in_term v)) [
    | None ↦ λ e. inr (λ t h. nothing_found h.0 (sym e ∙ h.1))
    | Some place ↦ λ e. inl (codes "token " ++ decimal (byte_at line place), (place, e, refl))
  ]) refl

  error_decided : IsDecided (First (line_errors tables line))
  error_decided = first-decided (line_errors tables line) (
    alone_decided (max_line_bytes < length line) (codes "long") (less_decided max_line_bytes (length line)),
    (
      alone_decided (IsUtf8 line → ⊥) (codes "utf8") (not_utf8_decided line),
      (
        alone_decided (IsTooDeep line) (codes "deep") (less_decided max_type_depth (most_open 0 0 (words_of line))),
        (
          place_decided (query_or_place line),
          (
            alone_decided (IsQuery line (λ said. list_any is_large (query_types said) ≡ true)) (codes "nodes") (fact_decided (λ said. list_any is_large (query_types said))),
            (
              variable_decided,
              (
                alone_decided (IsQuery line (λ said. is_excessive said ≡ true)) (codes "number") (fact_decided (λ said. is_excessive said)),
                (
                  of_query_decided says_unknown unknown_of,
                  (
                    of_query_decided says_in_term in_term_of,
                    tt,
                  ),
                ),
              ),
            ),
          ),
        ),
      ),
    ),
  )

  -- nothing is said of where the line leaves the table
  place_silent : IsSilent (First (line_errors tables line)) → IsSilent (leaves_table line)
  place_silent n = fourth_silent (too_long line) (not_utf8 line) (too_deep line) (leaves_table line)
      (too_many_nodes line ∷ has_variable line ∷ out_of_range line ∷ unknown_name line tables.components tables.filters ∷ unknown_in_term line tables.components ∷ []) n

  -- a line of which nothing is said is a query
  silent_query : IsSilent (First (line_errors tables line)) → IsSomeQuery line
  silent_query n = elim (query_or_place line) [
    | inl q ↦ q
    | inr p ↦ absurd (place_silent n p.0.0 p.0.1)
  ]

  abbrev Reads : Query → Tables → Type 0
  Reads query after = ReadsQuery tables line query after

  read_or_error : IsDecided (First (line_errors tables line)) → ((words : List ℕ) × First (line_errors tables line) words) ⊎ ((query : Query) × (after : Tables) × Reads query after)
  read_or_error (inl h) = inl h
  read_or_error (inr n) =
      let q = silent_query n in
      inr (query_of (with_query tables q.0) q.0, with_query tables q.0, record { faultless = n; said = q.0; spelled = q.1; asked = refl; numbered = refl })

pub lines_decided : LinesAreDecided
lines_decided tables line = read_or_error tables line (error_decided tables line)
