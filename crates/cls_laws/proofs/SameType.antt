-- The same text behind `certify` and behind `verify` is read as the same type, and a line that asks for a verification opens a
-- certificate.
use Rattle.std.proofs.Common.{ℕ, ◌≡◌, ◌⊎◌, ◌+◌, ◌≤◌, ◌<◌, Bool, true, false, List, [], ◌∷◌, ◌++◌, length, length-append, drop, refl, sym, ◌∙◌, ap, subst, inl, inr, arith, codes}
use Rattle.std.specs.Prelude.{IsUtf8, Some, position, find, decimal, if◌then◌else◌}
use Rattle.std.specs.List.{list_any}
use Rattle.std.specs.Str.{bytes_eq, is_utf8}
use Rattle.std.proofs.lemmas.Bool.{true≢false}
use Rattle.std.proofs.lemmas.Str.{IsUtf8-append, IsUtf8-drop, IsCharBoundary-after_ascii, IsUtf8-from_is_utf8, is_utf8-from_IsUtf8}
use Rattle.cls_base.specs.Firsts.{Cause, First, IsSilent, EachCause}
use Rattle.cls_base.specs.Limits.{max_line_bytes, max_type_depth}
use Rattle.cls_base.specs.Types.{ClosedType}
use Rattle.cls_lexer.specs.Names.{with_text, with_texts}
use Rattle.cls_lexer.specs.Skipped.{IsText}
use Rattle.cls_lexer.specs.Tokens.{byte_at, token_at}
use Rattle.cls_lexer.specs.Words.{Word, name, words_of}
use Rattle.cls_syntax.specs.declared.role.Role.{Role}
use Rattle.cls_syntax.specs.Depths.{most_open}
use Rattle.cls_syntax.specs.Faults.{Says}
use Rattle.cls_syntax.specs.Forms.{naming, constructors_named, line_words}
use Rattle.cls_syntax.specs.TypeSchemas.{is_dollar}
use Rattle.cls_syntax.specs.TypeTexts.{TypeText}
use Rattle.cls_syntax.proofs.ReadTypes.{AllHeld, held_by}
use Rattle.cls_syntax.proofs.TypeBytes.{words_from, words_are}
use Rattle.cls_proof.proofs.PlainBytes.{plain_append, plain_name, plain_utf8}
use Rattle.cls_proof.proofs.WordCuts.{words_cut}
use Rattle.cls_query.specs.QueryErrors.{query_types, is_large, is_excessive, is_unknown, is_unknown_in_term, IsQuery, too_long, too_deep, too_many_nodes, has_variable, out_of_range, unknown_name, unknown_in_term, line_errors}
use Rattle.cls_query.specs.declared.query.Query.TheVariants.{Sub, Paths, Typed, About, Page, Filtered, Batch}
use Rattle.cls_query.specs.declared.word.GoalWord.TheVariants.{Certify, Verify}
use Rattle.cls_query.specs.QueryForms.{goal_form}
use Rattle.cls_query.specs.Queries.{Tables, Query, QueryText, certify, verify, query_words, query_parts, QueryStands, with_query, query_of, type_in}
use Rattle.cls_query.specs.ReadQueries.{ReadsQuery}
use Rattle.cls_query.proofs.FirstErrors.{each_silent}
use Rattle.cls_query.proofs.QueryLines.{holds_of, stays_silent}
use Rattle.cls_query.proofs.Readable.{query_verify}
use Rattle.cls_query.proofs.Variables.{reads_by}
use Rattle.cls_replies.specs.Answering.{Asks}
use Rattle.cls_replies.specs.LineKinds.{Opens}
use Rattle.cls_replies.specs.Responder.{Responder, tables_in}

-- CAUSES
-- where each is silent, none applies
none_applies : {T : Type 0} (causes : List (Cause T)) → EachCause IsSilent causes → IsSilent (First causes)
none_applies [] e t h = h
none_applies (says ∷ causes) e t (inl a) = e.0 t a
none_applies (says ∷ causes) e t (inr (n, h)) = none_applies causes e.1 t h

-- A LINE THAT IS READ IS A TEXT
utf8_or_not : (line : List ℕ) (b : Bool) → is_utf8 line ≡ b → ((IsUtf8 line → ⊥) → ⊥) → IsUtf8 line
utf8_or_not line true e h = IsUtf8-from_is_utf8 line e
utf8_or_not line false e h = absurd (h (λ u. true≢false (sym (is_utf8-from_IsUtf8 line u) ∙ e)))

at_most : (n : ℕ) → (max_line_bytes < n → ⊥) → n ≤ max_line_bytes
at_most n f = omega arith

read_text : (tables : Tables) (line : List ℕ) → IsSilent (First (line_errors tables line)) → IsText line
read_text tables line silent =
    let each = each_silent (line_errors tables line) silent in (
      at_most (length line) (λ l. each.0 (codes "long") (l, refl)),
      utf8_or_not line (is_utf8 line) refl (λ n. each.1.0 (codes "utf8") (n, refl)),
    )

pub asks_opens : (s : Responder) (line : List ℕ) (goal : ClosedType) (m : Responder) → Asks s line (verify goal) m → Opens line
asks_opens s line goal m h = record { text = read_text (tables_in s) line h.0.faultless; begins = (query_verify h.0).0 tt }

-- NAMES THAT ARE KNOWN
held_stays : (names : List (List ℕ)) (x : List ℕ) → list_any (bytes_eq x) names ≡ true → with_text names x ≡ names
held_stays names x h = ap (λ (b : Bool). if b then names else names ++ x ∷ []) h

known_stay : (names xs : List (List ℕ)) → AllHeld names xs → with_texts names xs ≡ names
known_stay names [] h = refl
known_stay names (x ∷ xs) h = ap (λ (ts : List (List ℕ)). with_texts ts xs) (held_stays names x h.0) ∙ known_stay names xs h.1

-- THE WORDS OF THE TWO LINES
at_certify : words_from 0 (codes "certify") ≡ name (codes "certify") ∷ []
unfolding words_from token_at
at_certify = refl

at_verify : words_from 0 (codes "verify") ≡ name (codes "verify") ∷ []
unfolding words_from token_at
at_verify = refl

module _ (type : List ℕ) where
  abbrev certifying : List ℕ
  certifying = codes "certify " ++ type

  abbrev verifying : List ℕ
  verifying = codes "verify " ++ type

  certify_words : words_of certifying ≡ name (codes "certify") ∷ words_from 0 type
  certify_words = words_are certifying ∙ (words_cut (codes "certify") type 0 (omega arith) ∙ ap (λ (ws : List Word). ws ++ words_from 0 type) at_certify)

  verify_words : words_of verifying ≡ name (codes "verify") ∷ words_from 0 type
  verify_words = words_are verifying ∙ (words_cut (codes "verify") type 0 (omega arith) ∙ ap (λ (ws : List Word). ws ++ words_from 0 type) at_verify)

  -- the word `certify` has a letter more
  certify_length : length certifying ≡ 8 + length type
  certify_length =
      let front : length (codes "certify ") ≡ 8 = refl in
      length-append (codes "certify ") type ∙ ap (λ (n : ℕ). n + length type) front

  verify_length : length verifying ≡ 7 + length type
  verify_length =
      let front : length (codes "verify ") ≡ 7 = refl in
      length-append (codes "verify ") type ∙ ap (λ (n : ℕ). n + length type) front

  shorter : length certifying ≤ max_line_bytes → length verifying ≤ max_line_bytes
  shorter h = omega (arith, h, certify_length, verify_length)

  verify_utf8 : IsUtf8 certifying → IsUtf8 verifying
  verify_utf8 u =
      let low : 32 < 128 = omega arith in
      let long : 7 < length certifying = omega (arith, certify_length) in
      let at : IsUtf8 (drop 8 certifying) = IsUtf8-drop certifying 8 u (IsCharBoundary-after_ascii certifying 7 u long low) in
      let first : IsUtf8 (codes "verify ") = plain_utf8 (codes "verify ") (plain_append (codes "verify") (32 ∷ []) (plain_name (codes "verify") (refl, refl, omega arith, refl)) ((omega arith, omega arith), tt)) in
      IsUtf8-append (codes "verify ") type first at

-- WHAT THE LINES SAY
-- the queries for the certificate of a type, and for whether one proves it
abbrev as_certify : TypeText → QueryText
as_certify t = About Certify t

abbrev pub as_verify : TypeText → QueryText
as_verify t = About Verify t

abbrev is_certify : Query → Bool
is_certify (About Certify t) = true
is_certify _ = false

abbrev is_verify : Query → Bool
is_verify (About Verify t) = true
is_verify _ = false

module _ (tables : Tables) where
  -- which of the two a query is, if it is one of them
  abbrev pub OneOfTwo : QueryText → Type 0
  OneOfTwo said =
      ((v : TypeText) × (said ≡ as_certify v)) ⊎ (((v : TypeText) × (said ≡ as_verify v))
      ⊎ ((is_certify (query_of tables said) ≡ false) × (is_verify (query_of tables said) ≡ false)))

  pub one_of_two : (said : QueryText) → OneOfTwo said
  one_of_two (Sub s t) = inr (inr (refl, refl))
  one_of_two (Paths x) = inr (inr (refl, refl))
  one_of_two (Typed e t) = inr (inr (refl, refl))
  one_of_two (About Certify t) = inl (t, refl)
  one_of_two (About Verify t) = inr (inl (t, refl))
  one_of_two (About word t) = inr (inr (refl, refl))
  one_of_two (Page word l) = inr (inr (refl, refl))
  one_of_two (Filtered x l) = inr (inr (refl, refl))
  one_of_two (Batch ts) = inr (inr (refl, refl))

  certify_said : (goal : ClosedType) (said : QueryText) → certify goal ≡ query_of tables said → OneOfTwo said → (v : TypeText) × (said ≡ as_certify v)
  certify_said goal said e (inl p) = p
  certify_said goal said e (inr (inl (v, same))) = absurd (true≢false (ap is_certify e ∙ ap (λ (d : QueryText). is_certify (query_of tables d)) same))
  certify_said goal said e (inr (inr n)) = absurd (true≢false (ap is_certify e ∙ n.0))

  pub verify_said : (goal : ClosedType) (said : QueryText) → verify goal ≡ query_of tables said → OneOfTwo said → (v : TypeText) × (said ≡ as_verify v)
  verify_said goal said e (inl (v, same)) = absurd (true≢false (ap is_verify e ∙ ap (λ (d : QueryText). is_verify (query_of tables d)) same))
  verify_said goal said e (inr (inl p)) = p
  verify_said goal said e (inr (inr n)) = absurd (true≢false (ap is_verify e ∙ n.1))

certify_goal : (a b : ClosedType) → certify a ≡ certify b → a ≡ b
certify_goal a b e = cc

tail_is : (x : Word) (xs ys : List Word) → x ∷ xs ≡ x ∷ ys → xs ≡ ys
tail_is x xs ys e = cc

-- A line that says `certify` and a line that says `verify`, with the same behind it: what is wrong with the second one is
-- wrong with the first one.
module _ (type : List ℕ) (v : TypeText) where
  abbrev FirstSays : Type 0
  FirstSays = Says query_words QueryStands (as_certify v) (words_of (certifying type))

  abbrev SecondSays : Type 0
  SecondSays = Says query_words QueryStands (as_verify v) (words_of (verifying type))

  second_says : FirstSays → SecondSays
  second_says h =
      let same : line_words goal_form (v, tt) ≡ words_from 0 type = tail_is (name (codes "certify")) (line_words goal_form (v, tt)) (words_from 0 type) (h.spelled ∙ certify_words type) in
      record { spelled = ap (λ (ws : List Word). name (codes "verify") ∷ ws) same ∙ sym (verify_words type); stands = h.stands }

  -- what is said of words, whatever name they begin with
  of_words : (P : List Word → Type 0) → (P (name (codes "verify") ∷ words_from 0 type) → P (name (codes "certify") ∷ words_from 0 type)) → P (words_of (verifying type)) → P (words_of (certifying type))
  of_words P f h = subst P (sym (certify_words type)) (f (subst P (verify_words type) h))

  module _ (old new : Tables) (same : new.components ≡ old.components) (alike : new.filters ≡ old.filters) (says : FirstSays) (silent : IsSilent (First (line_errors old (certifying type)))) where
    each : EachCause IsSilent (line_errors old (certifying type))
    each = each_silent (line_errors old (certifying type)) silent

    text : IsText (certifying type)
    text = read_text old (certifying type) silent

    -- what is said of the second line as a query
    of_second : (P : QueryText → Type 0) → IsQuery (verifying type) P → P (as_verify v)
    of_second P q = holds_of (verifying type) (as_verify v) (second_says says) P q

    long : IsSilent (too_long (verifying type))
    long t h = let short = shorter type text.0 in let l = h.0 in omega (arith, short, l)

    deep : IsSilent (too_deep (verifying type))
    deep t h = each.1.1.0 (codes "deep") (of_words (λ (ws : List Word). max_type_depth < most_open 0 0 ws) (λ k. k) h.0, refl)

    large : IsSilent (too_many_nodes (verifying type))
    large t h = each.1.1.1.1.0 (codes "nodes") ((as_certify v, says, of_second (λ said. list_any is_large (query_types said) ≡ true) h.0), refl)

    dollar : IsSilent (has_variable (verifying type))
    dollar t h = each.1.1.1.1.1.0 (codes "variable " ++ decimal (byte_at (certifying type) h.0)) (h.0, of_words (λ (ws : List Word). position is_dollar ws ≡ Some h.0) (λ k. k) h.1, refl)

    outside : IsSilent (out_of_range (verifying type))
    outside t h = each.1.1.1.1.1.1.0 (codes "number") ((as_certify v, says, of_second (λ said. is_excessive said ≡ true) h.0), refl)

    unknown : IsSilent (unknown_name (verifying type) old.components old.filters)
    unknown t h =
        let w = of_second (λ said. (role : Role) × (x : List ℕ) × (find (is_unknown old.components old.filters) (query_parts said) ≡ Some (naming role x)) × (t ≡ codes "unknown " ++ x)) h in
        each.1.1.1.1.1.1.1.0 t (as_certify v, says, w)

    stray : IsSilent (unknown_in_term (verifying type) old.components)
    stray t h =
        let w = of_second (λ said. (place : ℕ) × (position (is_unknown_in_term old.components) (query_parts said) ≡ Some place) × (t ≡ codes "token " ++ decimal (byte_at (verifying type) place))) h in
        each.1.1.1.1.1.1.1.1.0 (codes "token " ++ decimal (byte_at (certifying type) w.0)) (as_certify v, says, (w.0, w.1, refl))

    -- by the new tables too, of which components and filters have the same names
    unknown_there : IsSilent (unknown_name (verifying type) new.components old.filters)
    unknown_there = subst (λ (cs : List (List ℕ)). IsSilent (unknown_name (verifying type) cs old.filters)) (sym same) unknown

    unknown_new : IsSilent (unknown_name (verifying type) new.components new.filters)
    unknown_new = subst (λ (fs : List (List ℕ)). IsSilent (unknown_name (verifying type) new.components fs)) (sym alike) unknown_there

    stray_new : IsSilent (unknown_in_term (verifying type) new.components)
    stray_new = subst (λ (cs : List (List ℕ)). IsSilent (unknown_in_term (verifying type) cs)) (sym same) stray

    faultless : IsSilent (First (line_errors new (verifying type)))
    faultless = none_applies (line_errors new (verifying type))
        (long, ((λ t h. h.0 (verify_utf8 type text.1)), (deep, (stays_silent (verifying type) (as_verify v) (second_says says), (large, (dollar, (outside, (unknown_new, (stray_new, tt)))))))))

-- THE TWO LINES, one after the other
module _ (s m : Responder) (type : List ℕ) (goal : ClosedType) (asks : Asks s (certifying type) (certify goal) m) where
  said : (v : TypeText) × (asks.0.said ≡ as_certify v)
  said = certify_said (with_query (tables_in s) asks.0.said) goal asks.0.said asks.0.asked (one_of_two (with_query (tables_in s) asks.0.said) asks.0.said)

  abbrev line_of : QueryText
  line_of = as_certify said.0

  abbrev named : List (List ℕ)
  named = constructors_named (query_parts line_of)

  says : FirstSays type said.0
  says = subst (λ (d : QueryText). Says query_words QueryStands d (words_of (certifying type))) said.1 asks.0.spelled

  numbered : m.names ≡ with_texts s.names named
  numbered = ap (λ (x : Tables). x.constructors) asks.0.numbered ∙ ap (λ (d : QueryText). (with_query (tables_in s) d).constructors) said.1

  asked : certify goal ≡ certify (type_in (with_texts s.names named) said.0)
  asked = asks.0.asked ∙ ap (λ (d : QueryText). query_of (with_query (tables_in s) d) d) said.1

  goal_is : goal ≡ type_in m.names said.0
  goal_is = certify_goal goal (type_in (with_texts s.names named) said.0) asked ∙ ap (λ (ts : List (List ℕ)). type_in ts said.0) (sym numbered)

  stay : with_texts m.names named ≡ m.names
  stay = known_stay m.names named (held_by s.names named m.names numbered)

  components_stay : m.components ≡ s.components
  components_stay = ap (λ (x : Responder). x.components) asks.1

  filters_stay : m.filter_names ≡ s.filter_names
  filters_stay = ap (λ (x : Responder). x.filter_names) asks.1

  silent_then : IsSilent (First (line_errors (tables_in m) (verifying type)))
  silent_then = faultless type said.0 (tables_in s) (tables_in m) components_stay filters_stay says asks.0.faultless

  reads : ReadsQuery (tables_in m) (verifying type) (verify goal) (tables_in m)
  reads = reads_by m.names m.variables m.components m.filter_names m.names (verifying type) (verify goal) (as_verify said.0) silent_then (second_says type said.0 says)
      (ap (λ (t : ClosedType). verify t) (goal_is ∙ ap (λ (ts : List (List ℕ)). type_in ts said.0) (sym stay))) (sym stay)

  pub same_type : Asks m (verifying type) (verify goal) m
  same_type = (reads, refl)
