-- No two errors are said of the line of a change, and one is said of each line that isn't read as a change.
use Rattle.std.proofs.Common.{◌≡◌, ℕ, ◌-◌, ◌<◌, List, ◌++◌, length, refl, sym, ap, ◌∙◌, subst, inl, inr, [], ◌∷◌}
use Rattle.std.specs.Prelude.{◌⊎◌, Ok, Err, IsUtf8, ◌&&◌, Bool, true, false, codes}
use Rattle.std.proofs.lemmas.Bool.{true≢false}
use Rattle.cls_base.specs.Firsts.{First, IsSilent, IsDetermined, IsDecided}
use Rattle.cls_base.specs.Limits.{max_line_bytes, max_type_depth, max_type_nodes}
use Rattle.cls_base.proofs.Firsts.{first-determined, first-decided}
use Rattle.cls_lexer.specs.Tokens.{byte_at, tokens_of}
use Rattle.cls_lexer.specs.Words.{words_of}
use Rattle.cls_syntax.specs.Depths.{most_open}
use Rattle.cls_syntax.specs.Faults.{stop}
use Rattle.cls_syntax.specs.LineGrammars.{LineOf, row_words, RowStands, grammar_read}
use Rattle.cls_syntax.specs.Sorts.{begins_reserved}
use Rattle.cls_syntax.specs.SyntaxFaults.{IsTooDeep}
use Rattle.cls_syntax.specs.TypeTexts.{type_nodes}
use Rattle.cls_syntax.proofs.OnePlace.{one_byte}
use Rattle.cls_query.specs.declared.change.Change.TheVariants.{Add, Remove}
use Rattle.cls_query.specs.Changes.{ChangeText, change_rows, WordsSay, with_change, change_of}
use Rattle.cls_query.specs.ChangeErrors.{HasLargeType, IsChange, leaves_changes, large_type, unknown_component, duplicate_component, change_errors}
use Rattle.cls_query.specs.ChangeLaws.{ChangeErrorsAreDetermined, ChangesAreReadOnce, ChangesAreDecided}
use Rattle.cls_query.specs.QueryErrors.{is_absent, place_words, too_long, not_utf8, too_deep}
use Rattle.cls_query.proofs.ChangeErrors.{added_name, removed_name}
use Rattle.cls_query.proofs.ChangeLines.{read_says, said_reads, said_one, stays, stopped}
use Rattle.cls_query.proofs.FirstErrors.{fourth_silent}
use Rattle.cls_query.proofs.QueryErrors.{Decided, alone_decided, less_decided, true_decided, not_utf8_decided, no_ok, said_alone}

module _ (components : List (List ℕ)) (line : List ℕ) where
  place_one : IsDetermined (leaves_changes line)
  place_one t u p q =
      let one = one_byte (row_words change_rows) (RowStands change_rows) line p.0 q.0 p.1 q.1 p.2 q.2 in
      p.3 ∙ ((λ i. place_words (one.flags i) (one.bytes i)) ∙ sym q.3)

  unknown_one : IsDetermined (unknown_component line components)
  unknown_one t u p q =
      let e : p.0 ≡ q.0 = ap removed_name (said_one (words_of line) (Remove p.0) (Remove q.0) p.1 q.1) in
      p.3 ∙ (ap (λ (x : List ℕ). codes "unknown " ++ x) e ∙ sym q.3)

  duplicate_one : IsDetermined (duplicate_component line components)
  duplicate_one t u p q =
      let e : p.0 ≡ q.0 = ap added_name (said_one (words_of line) (Add p.0 p.1) (Add q.0 q.1) p.2 q.2) in
      p.4 ∙ (ap (λ (x : List ℕ). codes "duplicate " ++ x) e ∙ sym q.4)

  pub error_one : IsDetermined (First (change_errors components line))
  error_one = first-determined (change_errors components line) (
    said_alone (max_line_bytes < length line) (codes "long"),
    (
      said_alone (IsUtf8 line → ⊥) (codes "utf8"),
      (
        said_alone (IsTooDeep line) (codes "deep"),
        (place_one, (said_alone (IsChange line HasLargeType) (codes "nodes"), (unknown_one, (duplicate_one, tt)))),
      ),
    ),
  )

pub errors_determined : ChangeErrorsAreDetermined
errors_determined components line = error_one components line

pub read_once : ChangesAreReadOnce
read_once words said other p q = said_one words said other p q

abbrev is_addition : ChangeText → Bool
is_addition (Add x t) = true
is_addition (Remove x) = false

-- Whether the line is a change.
abbrev IsSomeChange : List ℕ → Type 0
IsSomeChange line = (said : ChangeText) × WordsSay said (words_of line)

-- the line is a change, or something is said of where it leaves the table
change_or_place : (line : List ℕ) → IsSomeChange line ⊎ (((t : List ℕ) × leaves_changes line t) × (IsSomeChange line → ⊥))
change_or_place line =
    (elim (grammar_read change_rows (words_of line)) as (λ r. grammar_read change_rows (words_of line) ≡ r → IsSomeChange line ⊎ (((t : List ℕ) × leaves_changes line t) × (IsSomeChange line → ⊥))) [
      | Ok v ↦ λ e. inl (of_row line v e)
      | Err (stop rest wants) ↦ λ e.
          inr (
            (place_words (wants && begins_reserved rest) (byte_at line (length (tokens_of line) - length rest)), stopped line rest wants e),
            λ q. no_ok _ (stop rest wants) (sym (said_reads (words_of line) q.0 q.1) ∙ e),
          )
    ]) refl
  where
    of_row : (line : List ℕ) (v : LineOf change_rows) → grammar_read change_rows (words_of line) ≡ Ok v → IsSomeChange line
    of_row line (inl v) e = (Add v.0 v.1.0, read_says (words_of line) (Add v.0 v.1.0) e)
    of_row line (inr (inl v)) e = (Remove v.0, read_says (words_of line) (Remove v.0) e)
    of_row line (inr (inr v)) e = absurd v

module _ (components : List (List ℕ)) (line : List ℕ) where
  place_decided : IsSomeChange line ⊎ (((t : List ℕ) × leaves_changes line t) × (IsSomeChange line → ⊥)) → IsDecided (leaves_changes line)
  place_decided (inl q) = inr (stays line q.0 q.1)
  place_decided (inr p) = inl p.0

  -- what is decided of a change is decided of a line
  fact_decided : (P : ChangeText → Type 0) → ((said : ChangeText) → Decided (P said)) → Decided (IsChange line P)
  fact_decided P d = elim (change_or_place line) [
    | inl q ↦ elim (d q.0) [
      | inl h ↦ inl (q.0, q.1, h)
      | inr n ↦ inr (λ h. n (subst P (said_one (words_of line) h.0 q.0 h.1 q.1) h.2))
    ]
    | inr p ↦ inr (λ h. p.1 (h.0, h.1))
  ]

  large_decided : (said : ChangeText) → Decided (HasLargeType said)
  large_decided (Add x t) = less_decided max_type_nodes (type_nodes t)
  large_decided (Remove x) = inr (λ h. h)

  unknown_of : IsSomeChange line ⊎ (((t : List ℕ) × leaves_changes line t) × (IsSomeChange line → ⊥)) → IsDecided (unknown_component line components)
  unknown_of (inl (Add x t, s)) = inr (λ w h. let e = ap (λ (c : ChangeText). is_addition c) (said_one (words_of line) (Add x t) (Remove h.0) s h.1) in true≢false e)
  unknown_of (inl (Remove x, s)) = elim (true_decided (is_absent components x)) [
    | inl e ↦ inl (codes "unknown " ++ x, (x, s, e, refl))
    | inr n ↦ inr (λ w h. n (ap (λ (c : ChangeText). is_absent components (removed_name c)) (said_one (words_of line) (Remove x) (Remove h.0) s h.1) ∙ h.2))
  ]
  unknown_of (inr p) = inr (λ w h. p.1 (Remove h.0, h.1))

  duplicate_of : IsSomeChange line ⊎ (((t : List ℕ) × leaves_changes line t) × (IsSomeChange line → ⊥)) → IsDecided (duplicate_component line components)
  duplicate_of (inl (Remove x, s)) = inr (λ w h. let e = ap (λ (c : ChangeText). is_addition c) (said_one (words_of line) (Add h.0 h.1) (Remove x) h.2 s) in true≢false e)
  duplicate_of (inl (Add x t, s)) =
      (elim (is_absent components x) as (λ b. is_absent components x ≡ b → IsDecided (duplicate_component line components)) [
        | false ↦ λ e. inl (codes "duplicate " ++ x, (x, t, s, e, refl))
        | true ↦ λ e. inr (λ w h. true≢false (sym e ∙ (ap (λ (c : ChangeText). is_absent components (added_name c)) (said_one (words_of line) (Add x t) (Add h.0 h.1) s h.2) ∙ h.3)))
      ]) refl
  duplicate_of (inr p) = inr (λ w h. p.1 (Add h.0 h.1, h.2))

  error_decided : IsDecided (First (change_errors components line))
  error_decided = first-decided (change_errors components line) (
    alone_decided (max_line_bytes < length line) (codes "long") (less_decided max_line_bytes (length line)),
    (
      alone_decided (IsUtf8 line → ⊥) (codes "utf8") (not_utf8_decided line),
      (
        alone_decided (IsTooDeep line) (codes "deep") (less_decided max_type_depth (most_open 0 0 (words_of line))),
        (
          place_decided (change_or_place line),
          (
            alone_decided (IsChange line HasLargeType) (codes "nodes") (fact_decided HasLargeType large_decided),
            (unknown_of (change_or_place line), (duplicate_of (change_or_place line), tt)),
          ),
        ),
      ),
    ),
  )

  -- a line of which nothing is said is a change
  silent_change : IsSilent (First (change_errors components line)) → IsSomeChange line
  silent_change n = elim (change_or_place line) [
    | inl q ↦ q
    | inr p ↦ absurd (fourth_silent (too_long line) (not_utf8 line) (too_deep line) (leaves_changes line)
        (large_type line ∷ unknown_component line components ∷ duplicate_component line components ∷ []) n p.0.0 p.0.1)
  ]

pub decided : ChangesAreDecided
decided tables line = elim (error_decided tables.components line) [
  | inl h ↦ inl h
  | inr n ↦
      let q = silent_change tables.components line n in
      inr (change_of (with_change tables q.0) q.0, with_change tables q.0, record { faultless = n; said = q.0; spelled = q.1; changed = refl; numbered = refl })
]
