-- The line of a batch: what its types decide, and how many they are.
use Rattle.std.proofs.Common.{◌≡◌, ◌↔◌, ℕ, suc, ◌+◌, ◌<◌, ◌≤◌, inl, inr, Bool, true, false, not, List, [], ◌∷◌, ◌++◌, length, refl, ap, sym, ◌∙◌, zero-add, arith}
use Rattle.std.specs.Prelude.{IsTrue, None, ◌||◌, if◌then◌else◌, nat_lt, codes, find, position}
use Rattle.std.specs.List.{list_any, AllByRecursion}
use Rattle.std.specs.Str.{bytes_eq}
use Rattle.std.proofs.lemmas.Bool.{true≢false, lt-ltb, le-ltb, ltb-false, cases_lt}
use Rattle.cls_base.specs.Limits.{max_type_nodes}
use Rattle.cls_base.specs.Types.{ClosedType}
use Rattle.cls_lexer.specs.Names.{number_of, with_texts}
use Rattle.cls_lexer.specs.Words as word
use Rattle.cls_lexer.specs.Words.{Word, name, sign, word_from, words, reserved_name}
use Rattle.cls_lexer.specs.declared.token.Token.{Token}
use Rattle.cls_lexer.specs.declared.token.TokenKind.{TokenKind}
use Rattle.cls_lexer.specs.declared.token.TokenKind.TheVariants.{Name, Number, To, And, Times, Open, Close, Comma, Dollar, Colon, Equals, Bar, AtMost, Bad}
use Rattle.cls_syntax.specs.declared.role.Role.TheVariants.{Constructor, Variable}
use Rattle.cls_syntax.specs.declared.spelled_types.SpelledTypes.{SpelledTypes}
use Rattle.cls_syntax.specs.ClosedTypes.{AreSpelled, HasNoDollar}
use Rattle.cls_syntax.specs.Forms.{Part, naming, fixed, types, types_parts, type_parts, constructors_named}
use Rattle.cls_syntax.specs.SpelledTypes.{types_text}
use Rattle.cls_syntax.specs.TypeLists.{is_the_sign, types_nodes, types_words}
use Rattle.cls_syntax.specs.TypeSchemas.{is_dollar}
use Rattle.cls_syntax.specs.TypeTexts as grammar
use Rattle.cls_syntax.specs.TypeTexts.{TypeText, MeetText, ProductText, AtomText, only_meet, arrow, only_product, meet, only_atom, product, named, applied, variable, inside, type_words, meet_words, product_words, atom_words, type_nodes, TypeList, last, more}
use Rattle.cls_syntax.proofs.LineParts.{line_same}
use Rattle.cls_query.specs.declared.query.Query.TheVariants.{Batch}
use Rattle.cls_query.specs.FormAnswers.{SpelledQuery, query_text}
use Rattle.cls_query.specs.Queries.{Query, tables_of, query_of, query_parts, query_words, types_in, with_names}
use Rattle.cls_query.specs.QueryErrors.{count_types, is_excessive, is_large, is_unknown, is_unknown_in_term, list_of, query_types}
use Rattle.cls_query.specs.QueryForms.{max_batch_types}
use Rattle.cls_query.specs.TypeCounts.{bars_from, counted}
use Rattle.cls_query.proofs.Numbering.{spelled_is}
use Rattle.cls_query.proofs.PartSearches.{joined_none, type_none}
use Rattle.cls_query.proofs.Searches.{both_none, find_none, place_none}

-- BARS
abbrev weight : Word → ℕ
weight w = if is_the_sign Bar w then 1 else 0

abbrev bars_in : List Word → ℕ
bars_in [] = 0
bars_in (w ∷ ws) = weight w + bars_in ws

none_more : (n : ℕ) → n ≡ n + 0
none_more n = omega arith

name_weight : (n : ℕ) (b : Bool) (x : List ℕ) → n ≡ n + weight (if b then word.omega else name x)
name_weight n true x = none_more n
name_weight n false x = none_more n

kind_weight : (n : ℕ) (kind : TokenKind) (x : List ℕ) → counted n kind ≡ n + weight (word_from kind x)
kind_weight n Bar x = refl
kind_weight n Name x = name_weight n (bytes_eq x reserved_name) x
kind_weight n Number x = none_more n
kind_weight n To x = none_more n
kind_weight n And x = none_more n
kind_weight n Times x = none_more n
kind_weight n Open x = none_more n
kind_weight n Close x = none_more n
kind_weight n Comma x = none_more n
kind_weight n Dollar x = none_more n
kind_weight n Colon x = none_more n
kind_weight n Equals x = none_more n
kind_weight n AtMost x = none_more n
kind_weight n Bad x = none_more n

bars_at : (n : ℕ) (tokens : List Token) → bars_from n tokens ≡ n + bars_in (words tokens)
bars_at n [] = omega arith
bars_at n (t ∷ ts) =
    let rest = bars_at (counted n t.kind) ts in
    let first = kind_weight n t.kind t.text.now in
    omega (arith, rest, first)

bars_joined : (us vs : List Word) → bars_in (us ++ vs) ≡ bars_in us + bars_in vs
bars_joined [] vs = sym (zero-add (bars_in vs))
bars_joined (u ∷ us) vs = let rest = bars_joined us vs in omega (arith, rest)

barless : (us : List Word) (w : Word) (vs : List Word) → bars_in us ≡ 0 → weight w ≡ 0 → bars_in vs ≡ 0 → bars_in (us ++ w ∷ vs) ≡ 0
barless us w vs a b d = let all = bars_joined us (w ∷ vs) in omega (arith, all, a, b, d)

zeroed : (n : ℕ) → n ≡ 0 → 0 + n ≡ 0
zeroed n e = zero-add n ∙ e

-- no type has a bar in it
mutual
  type_barless : (t : TypeText) → bars_in (type_words t) ≡ 0
  type_barless (only_meet m) = meet_barless m
  type_barless (arrow m t) = barless (meet_words m) (sign To) (type_words t) (meet_barless m) refl (type_barless t)

  meet_barless : (m : MeetText) → bars_in (meet_words m) ≡ 0
  meet_barless (only_product p) = product_barless p
  meet_barless (meet m p) = barless (meet_words m) (sign And) (product_words p) (meet_barless m) refl (product_barless p)

  product_barless : (p : ProductText) → bars_in (product_words p) ≡ 0
  product_barless (only_atom a) = atom_barless a
  product_barless (product p a) = barless (product_words p) (sign Times) (atom_words a) (product_barless p) refl (atom_barless a)

  atom_barless : (a : AtomText) → bars_in (atom_words a) ≡ 0
  atom_barless grammar.omega = refl
  atom_barless (named x) = refl
  atom_barless (applied x t) = zeroed _ (zeroed _ (barless (type_words t) (sign Close) [] (type_barless t) refl refl))
  atom_barless (variable x) = refl
  atom_barless (inside t) = zeroed _ (barless (type_words t) (sign Close) [] (type_barless t) refl refl)

-- one type more than bars
list_bars : (ts : TypeList) → bars_in (types_words Bar ts) + 1 ≡ count_types ts
list_bars (last t) = let none = type_barless t in omega (arith, none)
list_bars (more t ts) =
    let none = type_barless t in
    let rest = list_bars ts in
    let all = bars_joined (type_words t) (sign Bar ∷ types_words Bar ts) in
    omega (arith, none, rest, all)

line_bars : (ts : TypeList) (tokens : List Token) → words tokens ≡ query_words (Batch ts) → bars_from 0 tokens + 1 ≡ count_types ts
line_bars ts tokens is =
    let bars : bars_in (words tokens) ≡ bars_in (types_words Bar ts) = ap bars_in is ∙ (zero-add _ ∙ ap bars_in (sym (line_same types ts))) in
    omega (arith, bars_at 0 tokens, bars, list_bars ts)

crowded : (ts : TypeList) (n : ℕ) → n + 1 ≡ count_types ts → (b : Bool) → IsTrue b ↔ (max_batch_types ≤ n) → b ≡ nat_lt max_batch_types (count_types ts)
crowded ts n is true h = let many = h.0 refl in sym (lt-ltb max_batch_types (count_types ts) (omega (arith, is, many)))
crowded ts n is false h = elim (cases_lt max_batch_types (count_types ts)) [
  | inl l ↦ absurd (true≢false (sym (h.1 (omega (arith, is, l)))))
  | inr g ↦ sym (le-ltb max_batch_types (count_types ts) g)
]

pub batch_excessive : {q : SpelledQuery} {ts : SpelledTypes} → q ≡ Batch ts → (tokens : List Token) → words tokens ≡ query_words (query_text q)
    → (b : Bool) → IsTrue b ↔ (max_batch_types ≤ bars_from 0 tokens) → b ≡ is_excessive (query_text q)
batch_excessive {q = q} {ts = ts} e tokens is b h =
    let line : words tokens ≡ query_words (query_text (Batch ts)) = is ∙ ap (λ (p : SpelledQuery). query_words (query_text p)) e in
    crowded (types_text ts) (bars_from 0 tokens) (line_bars (types_text ts) tokens line) b h ∙ sym (ap (λ (p : SpelledQuery). is_excessive (query_text p)) e)

-- NODES
small_all : (ts : TypeList) → types_nodes ts ≤ max_type_nodes → list_any is_large (list_of ts) ≡ false
small_all (last t) l = λ i. le-ltb max_type_nodes (type_nodes t) l i || false
small_all (more t ts) l =
    let first : type_nodes t ≤ max_type_nodes = grind arith in
    let rest : types_nodes ts ≤ max_type_nodes = grind arith in
    λ i. le-ltb max_type_nodes (type_nodes t) first i || small_all ts rest i

or_true : (b : Bool) → (b || true) ≡ true
or_true true = refl
or_true false = refl

large_one : (ts : TypeList) → max_type_nodes < types_nodes ts → list_any is_large (list_of ts) ≡ true
large_one (last t) l = λ i. lt-ltb max_type_nodes (type_nodes t) l i || false
large_one (more t ts) l = elim (cases_lt max_type_nodes (type_nodes t)) [
  | inl k ↦ (λ i. lt-ltb max_type_nodes (type_nodes t) k i || list_any is_large (list_of ts))
  | inr g ↦
      (let rest : max_type_nodes < types_nodes ts = grind arith in
      ap (λ b. is_large t || b) (large_one ts rest) ∙ or_true (is_large t))
]

pub large_among : (ts : TypeList) (b : Bool) → IsTrue b ↔ (types_nodes ts ≤ max_type_nodes) → not b ≡ list_any is_large (list_of ts)
large_among ts true h = sym (small_all ts (h.0 refl))
large_among ts false h = elim (cases_lt max_type_nodes (types_nodes ts)) [
  | inl l ↦ sym (large_one ts l)
  | inr g ↦ absurd (true≢false (sym (h.1 g)))
]

pub batch_large : {q : SpelledQuery} {ts : SpelledTypes} → q ≡ Batch ts → list_any is_large (query_types (query_text q)) ≡ list_any is_large (list_of (types_text ts))
batch_large {q = q} {ts = ts} e = ap (λ (p : SpelledQuery). list_any is_large (query_types (query_text p))) e

-- NAMES
-- a test that no fixed word and no name in a type passes
module _ (f : Part → Bool) (no_word : (w : Word) → f (fixed w) ≡ false)
    (no_constructor : (x : List ℕ) → f (naming Constructor x) ≡ false) (no_variable : (x : List ℕ) → f (naming Variable x) ≡ false) where
  types_none : (ts : TypeList) → list_any f (types_parts ts) ≡ false
  types_none (last t) = type_none f no_word no_constructor no_variable t
  types_none (more t ts) = joined_none f no_word (type_parts t) (sign Bar) (types_parts ts) (type_none f no_word no_constructor no_variable t) (types_none ts)

  line_none : (ts : TypeList) → list_any f (query_parts (Batch ts)) ≡ false
  line_none ts = λ i. no_word (name (codes "batch")) i || types_none ts i

pub batch_named_known : (components filters : List (List ℕ)) {q : SpelledQuery} {ts : SpelledTypes} → q ≡ Batch ts
    → find (is_unknown components filters) (query_parts (query_text q)) ≡ None
batch_named_known components filters {q = q} {ts = ts} e =
    ap (λ (p : SpelledQuery). find (is_unknown components filters) (query_parts (query_text p))) e
    ∙ find_none (is_unknown components filters) (query_parts (Batch (types_text ts))) (line_none (is_unknown components filters) (λ w. refl) (λ x. refl) (λ x. refl) (types_text ts))

pub batch_placed : (components : List (List ℕ)) {q : SpelledQuery} {ts : SpelledTypes} → q ≡ Batch ts
    → None ≡ position (is_unknown_in_term components) (query_parts (query_text q))
batch_placed components {q = q} {ts = ts} e =
    sym (ap (λ (p : SpelledQuery). position (is_unknown_in_term components) (query_parts (query_text p))) e
    ∙ place_none (is_unknown_in_term components) (query_parts (Batch (types_text ts))) (line_none (is_unknown_in_term components) (λ w. refl) (λ x. refl) (λ x. refl) (types_text ts)))

pub batch_named : (table : List (List ℕ)) {q : SpelledQuery} {ts : SpelledTypes} → q ≡ Batch ts
    → with_texts table (constructors_named (types_parts (types_text ts))) ≡ with_names table (query_parts (query_text q))
batch_named table {q = q} {ts = ts} e = sym (ap (λ (p : SpelledQuery). with_names table (query_parts (query_text p))) e)

-- WHAT IS ASKED
pub batch_means : (constructors components filters : List (List ℕ)) {q : SpelledQuery} {ts : SpelledTypes} → q ≡ Batch ts → (asked : List ClosedType)
    → asked ≡ types_in constructors (types_text ts) → Path Query (Batch asked) (query_of (tables_of constructors [] components filters) (query_text q))
batch_means constructors components filters {q = q} {ts = ts} e asked is =
    let asks : List ClosedType → Query = λ l. Batch l in
    ap asks is ∙ sym (ap (λ (p : SpelledQuery). query_of (tables_of constructors [] components filters) (query_text p)) e)

pub spelled_all : (table : List (List ℕ)) (ts : TypeList) (asked : List ClosedType) → AreSpelled (number_of table) ts asked → asked ≡ types_in table ts
spelled_all table (last t) asked s = s.2 ∙ ap (λ (c : ClosedType). c ∷ []) (spelled_is table t s.0 s.1)
spelled_all table (more t ts) asked s = s.4 ∙ (λ i. spelled_is table t s.0 s.2 i ∷ spelled_all table ts s.1 s.3 i)

pub batch_closed : (ts : TypeList) → AllByRecursion (λ t. HasNoDollar (type_words t)) (list_of ts) → HasNoDollar (types_words Bar ts)
batch_closed (last t) a = a.0
batch_closed (more t ts) a = both_none is_dollar (type_words t) (sign Bar ∷ types_words Bar ts) a.0 (batch_closed ts a.1)

-- there is a type, and as many are asked as stand in the line
some_types : (table : List (List ℕ)) (ts : TypeList) → (1 ≤ length (types_in table ts)) × (length (types_in table ts) ≡ count_types ts)
some_types table (last t) = (omega arith, refl)
some_types table (more t ts) = let rest = (some_types table ts).1 in (omega arith, ap suc rest)

pub batch_readable : (table : List (List ℕ)) (ts : TypeList) → nat_lt max_batch_types (count_types ts) ≡ false
    → (1 ≤ length (types_in table ts)) × (length (types_in table ts) ≤ max_batch_types)
batch_readable table ts few =
    let some = some_types table ts in
    let most = ltb-false max_batch_types (count_types ts) few in
    (some.0, omega (arith, some.1, most))
