-- The lines of a certificate that is printed: each says its statement.
use Rattle.std.proofs.Common.{◌≡◌, ℕ, ◌+◌, ◌<◌, ◌≤◌, ◌^◌, true, false, List, [], ◌∷◌, ◌++◌, Some, refl, ap, sym, ◌∙◌, subst, length, map, slice_get, arith, append_assoc, append-nil}
use Rattle.std.specs.Prelude.{codes, decimal, max}
use Rattle.std.specs.List.{list_all, flat_map, AllByRecursion, IsDistinct}
use Rattle.std.specs.Char.{digit_value}
use Rattle.std.specs.Str.{bytes_eq}
use Rattle.std.specs.Str.Parse.{AllDigits}
use Rattle.std.proofs.lemmas.Fmt.{decimal_is_IsNumeral}
use Rattle.std.proofs.lemmas.List.{map-append}
use Rattle.std.proofs.lemmas.List.Folds.{list_any-append}
use Rattle.std.proofs.lemmas.Option.{slice_get-get_or}
use Rattle.cls_base.specs.Limits.{max_line_bytes, max_type_depth}
use Rattle.cls_base.specs.Types.{ClosedType}
use Rattle.cls_lexer.specs.declared.token.TokenKind.TheVariants as kind
use Rattle.cls_lexer.specs.Characters.{is_digit}
use Rattle.cls_lexer.specs.Names.{number_of, with_texts}
use Rattle.cls_lexer.specs.Numerals.{is_numeral, number_value}
use Rattle.cls_lexer.specs.Skipped.{says_nothing}
use Rattle.cls_lexer.specs.Tokens.{token_at}
use Rattle.cls_lexer.specs.Words as word
use Rattle.cls_lexer.specs.Words.{Word, name, number, sign, words_of}
use Rattle.cls_syntax.specs.declared.role.Role.TheVariants.{Component}
use Rattle.cls_syntax.specs.ClosedTypes.{HasNoDollar}
use Rattle.cls_syntax.specs.Depths.{open_after, most_open}
use Rattle.cls_syntax.specs.Forms.{Part, fixed, naming, numeral, part_word, type_parts, meet_parts, product_parts, atom_parts, MayAllStand}
use Rattle.cls_syntax.specs.LineGrammars.{row_words, RowStands}
use Rattle.cls_syntax.specs.RoundTrips.{IsProperName, IsReadBack}
use Rattle.cls_syntax.specs.Sorts.{sort_of}
use Rattle.cls_syntax.specs.SyntaxFaults.{IsFlat}
use Rattle.cls_syntax.specs.TypePrinting.{name_in, printed}
use Rattle.cls_syntax.specs.TypeSchemas.{is_dollar, constructors_in}
use Rattle.cls_syntax.specs.TypeTexts.{TypeText, MeetText, ProductText, AtomText, only_meet, arrow, only_product, meet, only_atom, product, named, applied, variable, inside, type_words, meet_words, product_words, atom_words}
use Rattle.cls_syntax.specs.TypeTexts as grammar
use Rattle.cls_syntax.proofs.LineParts.{type_same, stand_both}
use Rattle.cls_syntax.proofs.PrintedTexts.{texts, printed_is, names_proper, Opens, one_word, join_opens, enclose_opens, con_enclosed}
use Rattle.cls_syntax.proofs.ReadBack.{read_back}
use Rattle.cls_syntax.proofs.TypeBytes.{words_from, words_are, no_words, at_name}
use Rattle.cls_proof.specs.Forms.{certificate_rows, greatest_number, Written, line_of, constructors_of}
use Rattle.cls_proof.specs.Forms as written
use Rattle.cls_proof.specs.Reading.{IsGoal, AreNumbers, Means, SaysStatement}
use Rattle.cls_proof.specs.Statements.{Statement, inhabited, row, empty, member, block, layer, set, qed}
use Rattle.cls_proof.specs.Texts.{numbers_text}
use Rattle.cls_proof.specs.RoundTrips.{AreSayable, IsTypeSayable, IsPlaceSayable, IsSayable}
use Rattle.cls_proof.proofs.PlainBytes.{ArePlain, plain_append, plain_name, plain_digits, plain_colon, plain_type, plain_behind, plain_utf8}
use Rattle.cls_proof.proofs.WordCuts.{behind, words_parts, at_number}

-- the digits of a number
digit_one : (c : ℕ) → digit_value c < 10 → is_digit c ≡ true
digit_one c h = grind arith

all_digits : (ds : List ℕ) → AllDigits 10 ds → list_all is_digit ds ≡ true
all_digits [] h = refl
all_digits (d ∷ ds) h = let a = digit_one d h.0 in let b = all_digits ds h.1 in rw (a, b) refl

a_numeral : (ds : List ℕ) → 0 < length ds → list_all is_digit ds ≡ true → is_numeral ds ≡ true
a_numeral [] l h = absurd (omega (arith, l))
a_numeral (d ∷ ds) l h = h

module _ (n : ℕ) (within : n ≤ greatest_number) where
  wide : n < 2 ^ 64
  wide = omega (arith, within)

  pub digits_are : list_all is_digit (decimal n) ≡ true
  digits_are = all_digits (decimal n) (decimal_is_IsNumeral n wide).0.1

  pub digits_number : words_from 0 (decimal n) ≡ number (decimal n) ∷ []
  digits_number = at_number (decimal n) (a_numeral (decimal n) (decimal_is_IsNumeral n wide).0.0 digits_are)

  pub digits_mean : number_value (decimal n) ≡ n
  digits_mean = (decimal_is_IsNumeral n wide).1

-- numbers, each with a space before it
pub numbers_behind : (ns : List ℕ) → numbers_text ns ≡ behind (map decimal ns)
numbers_behind [] = refl
numbers_behind (n ∷ ns) = ap (λ (bs : List ℕ). 32 ∷ (decimal n ++ bs)) (numbers_behind ns)

pub numbers_read : (ns : List ℕ) → AreSayable ns → flat_map (words_from 0) (map decimal ns) ≡ map part_word (map (numeral 0 greatest_number) (map decimal ns))
numbers_read [] h = refl
numbers_read (n ∷ ns) h = ap (λ (ws : List Word). ws ++ flat_map (words_from 0) (map decimal ns)) (digits_number n h.0) ∙ ap (λ (ws : List Word). number (decimal n) ∷ ws) (numbers_read ns h.1)

plain_numbers : (ns : List ℕ) → AreSayable ns → AllByRecursion ArePlain (map decimal ns)
plain_numbers [] h = tt
plain_numbers (n ∷ ns) h = (plain_digits (decimal n) (digits_are n h.0), plain_numbers ns h.1)

-- a name alone
name_alone : (x : List ℕ) → IsProperName x → words_from 0 x ≡ name x ∷ []
name_alone x h = ap (words_from 0) (sym (append-nil x)) ∙ (at_name x [] h tt ∙ ap (λ (ws : List Word). name x ∷ ws) no_words)

-- the fixed words
at_inhabited : words_from 0 (codes "inhabited") ≡ name (codes "inhabited") ∷ []
unfolding words_from token_at
at_inhabited = refl

at_row : words_from 0 (codes "row") ≡ name (codes "row") ∷ []
unfolding words_from token_at
at_row = refl

at_by : words_from 0 (codes "by") ≡ name (codes "by") ∷ []
unfolding words_from token_at
at_by = refl

at_colon : words_from 0 (codes ":") ≡ sign kind.Colon ∷ []
unfolding words_from token_at
at_colon = refl

at_empty : words_from 0 (codes "empty") ≡ name (codes "empty") ∷ []
unfolding words_from token_at
at_empty = refl

at_member : words_from 0 (codes "member") ≡ name (codes "member") ∷ []
unfolding words_from token_at
at_member = refl

at_block : words_from 0 (codes "block") ≡ name (codes "block") ∷ []
unfolding words_from token_at
at_block = refl

at_layer : words_from 0 (codes "layer") ≡ name (codes "layer") ∷ []
unfolding words_from token_at
at_layer = refl

at_set : words_from 0 (codes "set") ≡ name (codes "set") ∷ []
unfolding words_from token_at
at_set = refl

at_qed : words_from 0 (codes "qed") ≡ name (codes "qed") ∷ []
unfolding words_from token_at
at_qed = refl

abbrev nameless : ℕ → List ℕ
nameless n = []

dollar_opens : (x : List ℕ) → Opens nameless (sign kind.Dollar ∷ name x ∷ []) 0
dollar_opens x now most rest = one_word nameless (name x) (λ n. refl) now (max now most) rest ∙ ap (λ (m : ℕ). most_open now m rest) (omega arith)

-- the words of a type have a depth of their own, wherever they stand
mutual
  type_opens : (t : TypeText) → (d : ℕ) × Opens nameless (type_words t) d
  type_opens (only_meet m) = meet_opens m
  type_opens (arrow m t) =
      let a = meet_opens m in
      let b = type_opens t in
      (max a.0 b.0, join_opens nameless (meet_words m) (type_words t) (sign kind.To) a.0 b.0 (λ n. refl) a.1 b.1)

  meet_opens : (m : MeetText) → (d : ℕ) × Opens nameless (meet_words m) d
  meet_opens (only_product p) = product_opens p
  meet_opens (meet m p) =
      let a = meet_opens m in
      let b = product_opens p in
      (max a.0 b.0, join_opens nameless (meet_words m) (product_words p) (sign kind.And) a.0 b.0 (λ n. refl) a.1 b.1)

  product_opens : (p : ProductText) → (d : ℕ) × Opens nameless (product_words p) d
  product_opens (only_atom a) = atom_opens a
  product_opens (product p a) =
      let u = product_opens p in
      let v = atom_opens a in
      (max u.0 v.0, join_opens nameless (product_words p) (atom_words a) (sign kind.Times) u.0 v.0 (λ n. refl) u.1 v.1)

  atom_opens : (a : AtomText) → (d : ℕ) × Opens nameless (atom_words a) d
  atom_opens grammar.omega = (0, one_word nameless word.omega (λ n. refl))
  atom_opens (named x) = (0, one_word nameless (name x) (λ n. refl))
  atom_opens (applied x t) = let b = type_opens t in (1 + b.0, con_enclosed nameless x t b.0 b.1)
  atom_opens (variable x) = (0, dollar_opens x)
  atom_opens (inside t) = let b = type_opens t in (1 + b.0, enclose_opens nameless (type_words t) b.0 b.1)

-- words over which at most d more are open at once, where none is open
abbrev Level : List Word → ℕ → Type 0
Level ws d = (most : ℕ) (rest : List Word) → most_open 0 most (ws ++ rest) ≡ most_open 0 (max d most) rest

level_type : (t : TypeText) → Level (type_words t) (most_open 0 0 (type_words t))
level_type t most rest =
    let o = type_opens t in
    let alone : most_open 0 0 (type_words t) ≡ max (0 + o.0) 0 = ap (most_open 0 0) (sym (append-nil (type_words t))) ∙ o.1 0 0 [] in
    o.1 0 most rest ∙ ap (λ (m : ℕ). most_open 0 m rest) (omega arith)

level_both : (xs ys : List Word) (d e : ℕ) → Level xs d → Level ys e → Level (xs ++ ys) (max d e)
level_both xs ys d e a b most rest =
    ap (most_open 0 most) (append_assoc xs ys rest)
    ∙ (a most (ys ++ rest) ∙ (b (max d most) rest ∙ ap (λ (m : ℕ). most_open 0 m rest) (omega arith)))

level_none : Level [] 0
level_none most rest = ap (λ (m : ℕ). most_open 0 m rest) (omega arith)

level_word : (w : Word) (ws : List Word) (d : ℕ) → open_after 0 (sort_of w) ≡ 0 → Level ws d → Level (w ∷ ws) d
level_word w ws d e l most rest = (λ i. most_open (e i) (max (e i) most) (ws ++ rest)) ∙ (l (max 0 most) rest ∙ ap (λ (m : ℕ). most_open 0 m rest) (omega arith))

level_numbers : (ns : List (List ℕ)) → Level (map part_word (map (numeral 0 greatest_number) ns)) 0
level_numbers [] = level_none
level_numbers (n ∷ ns) = level_word (number n) (map part_word (map (numeral 0 greatest_number) ns)) 0 refl (level_numbers ns)

pub level_flat : (ws : List Word) (d : ℕ) → Level ws d → d ≤ max_type_depth → most_open 0 0 ws ≤ max_type_depth
level_flat ws d l h =
    let e : most_open 0 0 ws ≡ max d 0 = ap (most_open 0 0) (sym (append-nil ws)) ∙ l 0 [] in
    omega (arith, e, h)

-- no `$` stands in them
no_dollars_both : (xs ys : List Word) → HasNoDollar xs → HasNoDollar ys → HasNoDollar (xs ++ ys)
no_dollars_both xs ys h k = list_any-append is_dollar xs ys ∙ rw (h, k) refl

no_dollar_numbers : (ns : List (List ℕ)) → HasNoDollar (map part_word (map (numeral 0 greatest_number) ns))
no_dollar_numbers [] = refl
no_dollar_numbers (n ∷ ns) = no_dollar_numbers ns

mutual
  type_stands : (t : TypeText) → MayAllStand (type_parts t)
  type_stands (only_meet m) = meet_stands m
  type_stands (arrow m t) = stand_both (meet_parts m) (fixed (sign kind.To) ∷ type_parts t) (meet_stands m) (type_stands t)

  meet_stands : (m : MeetText) → MayAllStand (meet_parts m)
  meet_stands (only_product p) = product_stands p
  meet_stands (meet m p) = stand_both (meet_parts m) (fixed (sign kind.And) ∷ product_parts p) (meet_stands m) (product_stands p)

  product_stands : (p : ProductText) → MayAllStand (product_parts p)
  product_stands (only_atom a) = atom_stands a
  product_stands (product p a) = stand_both (product_parts p) (fixed (sign kind.Times) ∷ atom_parts a) (product_stands p) (atom_stands a)

  atom_stands : (a : AtomText) → MayAllStand (atom_parts a)
  atom_stands grammar.omega = tt
  atom_stands (named x) = (refl, tt)
  atom_stands (applied x t) = (refl, stand_both (type_parts t) (fixed (sign kind.Close) ∷ []) (type_stands t) tt)
  atom_stands (variable x) = (refl, tt)
  atom_stands (inside t) = stand_both (type_parts t) (fixed (sign kind.Close) ∷ []) (type_stands t) tt

numbers_stand : (ns : List (List ℕ)) → MayAllStand (map (numeral 0 greatest_number) ns)
numbers_stand [] = tt
numbers_stand (n ∷ ns) = numbers_stand ns

module _ (names components : List (List ℕ)) (distinct : IsDistinct bytes_eq names) where
  abbrev name_of : ℕ → List ℕ
  name_of c = name_in components c

  abbrev type_text : ClosedType → List ℕ
  type_text t = printed (name_in names) 0 t

  abbrev Sayable : Statement → Type 0
  Sayable s = IsSayable names components s

  abbrev TypeSayable : ClosedType → Type 0
  TypeSayable t = IsTypeSayable names components t

  pub back : (t : ClosedType) → TypeSayable t → IsReadBack names t
  back t h = read_back names t distinct h.below h.proper h.few h.shallow

  abbrev spelled : (t : ClosedType) → TypeSayable t → TypeText
  spelled t h = (back t h).text

  -- the parts of a line: its first word, and what follows
  abbrev pub first_part : Statement → List ℕ
  first_part inhabited = codes "inhabited"
  first_part (row r) = codes "row"
  first_part empty = codes "empty"
  first_part (member t) = codes "member"
  first_part (block c n) = codes "block"
  first_part layer = codes "layer"
  first_part (set s) = codes "set"
  first_part qed = codes "qed"

  abbrev pub other_parts : Statement → List (List ℕ)
  other_parts (row r) = type_text r.goal ∷ codes "by" ∷ name_of r.component ∷ decimal r.n ∷ codes ":" ∷ map decimal r.cover
  other_parts (member t) = type_text t ∷ []
  other_parts (block c n) = name_of c ∷ decimal n ∷ []
  other_parts (set s) = map decimal s
  other_parts _ = []

  abbrev pub statement_line : Statement → List ℕ
  statement_line s = first_part s ++ behind (other_parts s)

  abbrev pub written_as : (s : Statement) → Sayable s → Written
  written_as inhabited h = written.inhabited
  written_as (row r) h = written.row (spelled r.goal h.0) (name_of r.component) (decimal r.n) (map decimal r.cover)
  written_as empty h = written.empty
  written_as (member t) h = written.member (spelled t h)
  written_as (block c n) h = written.block (name_of c) (decimal n)
  written_as layer h = written.layer
  written_as (set s) h = written.set (map decimal s)
  written_as qed h = written.qed

  type_read : (t : ClosedType) (h : TypeSayable t) → words_from 0 (type_text t) ≡ map part_word (type_parts (spelled t h))
  type_read t h = sym (words_are (type_text t)) ∙ (sym (back t h).whole.spells ∙ sym (type_same (spelled t h)))

  plain_goal : (t : ClosedType) → TypeSayable t → ArePlain (type_text t)
  plain_goal t h = subst (λ (bs : List ℕ). ArePlain bs) (sym (printed_is (name_in names) t)) (plain_type (texts (name_in names) t).type (names_proper (name_in names) t h.proper))

  plain_first : (s : Statement) → ArePlain (first_part s)
  plain_first inhabited = plain_name (codes "inhabited") (refl, refl, omega arith, refl)
  plain_first (row r) = plain_name (codes "row") (refl, refl, omega arith, refl)
  plain_first empty = plain_name (codes "empty") (refl, refl, omega arith, refl)
  plain_first (member t) = plain_name (codes "member") (refl, refl, omega arith, refl)
  plain_first (block c n) = plain_name (codes "block") (refl, refl, omega arith, refl)
  plain_first layer = plain_name (codes "layer") (refl, refl, omega arith, refl)
  plain_first (set s) = plain_name (codes "set") (refl, refl, omega arith, refl)
  plain_first qed = plain_name (codes "qed") (refl, refl, omega arith, refl)

  plain_others : (s : Statement) → Sayable s → AllByRecursion ArePlain (other_parts s)
  plain_others inhabited h = tt
  plain_others (row r) h =
      (plain_goal r.goal h.0, (plain_name (codes "by") (refl, refl, omega arith, refl), (plain_name (name_of r.component) h.1.proper, (plain_digits (decimal r.n) (digits_are r.n h.1.within), (plain_colon, plain_numbers r.cover h.2)))))
  plain_others empty h = tt
  plain_others (member t) h = (plain_goal t h, tt)
  plain_others (block c n) h = (plain_name (name_of c) h.proper, (plain_digits (decimal n) (digits_are n h.within), tt))
  plain_others layer h = tt
  plain_others (set s) h = plain_numbers s h
  plain_others qed h = tt

  pub plain_line : (s : Statement) → Sayable s → ArePlain (statement_line s)
  plain_line s h = plain_append (first_part s) (behind (other_parts s)) (plain_first s) (plain_behind (other_parts s) (plain_others s h))

  -- the words of its parts
  part_words : (s : Statement) (h : Sayable s) → words_from 0 (first_part s) ++ flat_map (words_from 0) (other_parts s) ≡ row_words certificate_rows (line_of (written_as s h))
  part_words inhabited h = ap (λ (ws : List Word). ws ++ []) at_inhabited
  part_words (row r) h =
      let t = type_read r.goal h.0 in
      let x = name_alone (name_of r.component) h.1.proper in
      let d = digits_number r.n h.1.within in
      let ns = numbers_read r.cover h.2 in
      (λ i. at_row i ++ (t i ++ (at_by i ++ (x i ++ (d i ++ (at_colon i ++ ns i))))))
      ∙ ap (λ (ws : List Word). name (codes "row") ∷ ws) (sym (map-append part_word (type_parts (spelled r.goal h.0)) (fixed (name (codes "by")) ∷ naming Component (name_of r.component) ∷ numeral 0 greatest_number (decimal r.n) ∷ fixed (sign kind.Colon) ∷ map (numeral 0 greatest_number) (map decimal r.cover))))
  part_words empty h = ap (λ (ws : List Word). ws ++ []) at_empty
  part_words (member t) h =
      (λ i. at_member i ++ (type_read t h i ++ []))
      ∙ ap (λ (ws : List Word). name (codes "member") ∷ ws) (sym (map-append part_word (type_parts (spelled t h)) []))
  part_words (block c n) h = λ i. at_block i ++ (name_alone (name_of c) h.proper i ++ (digits_number n h.within i ++ []))
  part_words layer h = ap (λ (ws : List Word). ws ++ []) at_layer
  part_words (set s) h = λ i. at_set i ++ numbers_read s h i
  part_words qed h = ap (λ (ws : List Word). ws ++ []) at_qed

  pub line_words_are : (s : Statement) (h : Sayable s) → words_of (statement_line s) ≡ row_words certificate_rows (line_of (written_as s h))
  line_words_are s h = words_are (statement_line s) ∙ (words_parts (first_part s) (other_parts s) ∙ part_words s h)

  pub line_stands : (s : Statement) (h : Sayable s) → RowStands certificate_rows (line_of (written_as s h))
  line_stands inhabited h = tt
  line_stands (row r) h =
      stand_both (type_parts (spelled r.goal h.0)) (fixed (name (codes "by")) ∷ naming Component (name_of r.component) ∷ numeral 0 greatest_number (decimal r.n) ∷ fixed (sign kind.Colon) ∷ map (numeral 0 greatest_number) (map decimal r.cover)) (type_stands (spelled r.goal h.0)) (refl, numbers_stand (map decimal r.cover))
  line_stands empty h = tt
  line_stands (member t) h = stand_both (type_parts (spelled t h)) [] (type_stands (spelled t h)) tt
  line_stands (block c n) h = (refl, tt)
  line_stands layer h = tt
  line_stands (set s) h = numbers_stand (map decimal s)
  line_stands qed h = tt

  -- the type's words among them
  type_level : (t : ClosedType) (h : TypeSayable t) → (ys : List Part) → Level (map part_word ys) 0 → Level (map part_word (type_parts (spelled t h) ++ ys)) (most_open 0 0 (type_words (spelled t h)))
  type_level t h ys l =
      let d = most_open 0 0 (type_words (spelled t h)) in
      let e : map part_word (type_parts (spelled t h) ++ ys) ≡ type_words (spelled t h) ++ map part_word ys = map-append part_word (type_parts (spelled t h)) ys ∙ ap (λ (ws : List Word). ws ++ map part_word ys) (type_same (spelled t h)) in
      let m : max d 0 ≡ d = omega arith in
      subst (λ (ws : List Word). Level ws d) (sym e) (subst (λ (n : ℕ). Level (type_words (spelled t h) ++ map part_word ys) n) m (level_both (type_words (spelled t h)) (map part_word ys) d 0 (level_type (spelled t h)) l))

  shallow : (t : ClosedType) (h : TypeSayable t) → most_open 0 0 (type_words (spelled t h)) ≤ max_type_depth
  shallow t h = let e = ap (most_open 0 0) (back t h).whole.spells in let f = (back t h).whole.flat in omega (arith, e, f)

  few_open : (s : Statement) (h : Sayable s) → most_open 0 0 (row_words certificate_rows (line_of (written_as s h))) ≤ max_type_depth
  few_open inhabited h = omega arith
  few_open (row r) h =
      let ys : List Part = fixed (name (codes "by")) ∷ naming Component (name_of r.component) ∷ numeral 0 greatest_number (decimal r.n) ∷ fixed (sign kind.Colon) ∷ map (numeral 0 greatest_number) (map decimal r.cover) in
      let ns : List Word = map part_word (map (numeral 0 greatest_number) (map decimal r.cover)) in
      let rest = level_word (name (codes "by")) (name (name_of r.component) ∷ number (decimal r.n) ∷ sign kind.Colon ∷ ns) 0 refl (level_word (name (name_of r.component)) (number (decimal r.n) ∷ sign kind.Colon ∷ ns) 0 refl (level_word (number (decimal r.n)) (sign kind.Colon ∷ ns) 0 refl (level_word (sign kind.Colon) ns 0 refl (level_numbers (map decimal r.cover))))) in
      level_flat (name (codes "row") ∷ map part_word (type_parts (spelled r.goal h.0) ++ ys)) (most_open 0 0 (type_words (spelled r.goal h.0))) (level_word (name (codes "row")) (map part_word (type_parts (spelled r.goal h.0) ++ ys)) (most_open 0 0 (type_words (spelled r.goal h.0))) refl (type_level r.goal h.0 ys rest)) (shallow r.goal h.0)
  few_open empty h = omega arith
  few_open (member t) h =
      level_flat (name (codes "member") ∷ map part_word (type_parts (spelled t h) ++ [])) (most_open 0 0 (type_words (spelled t h))) (level_word (name (codes "member")) (map part_word (type_parts (spelled t h) ++ [])) (most_open 0 0 (type_words (spelled t h))) refl (type_level t h [] level_none)) (shallow t h)
  few_open (block c n) h = omega arith
  few_open layer h = omega arith
  few_open (set s) h = level_flat (name (codes "set") ∷ map part_word (map (numeral 0 greatest_number) (map decimal s))) 0 (level_word (name (codes "set")) (map part_word (map (numeral 0 greatest_number) (map decimal s))) 0 refl (level_numbers (map decimal s))) (omega arith)
  few_open qed h = omega arith

  pub line_flat : (s : Statement) (h : Sayable s) → IsFlat (statement_line s)
  line_flat s h = let e = ap (most_open 0 0) (line_words_are s h) in let f = few_open s h in omega (arith, e, f)

  type_closed : (t : ClosedType) (h : TypeSayable t) (ys : List Part) → HasNoDollar (map part_word ys) → HasNoDollar (map part_word (type_parts (spelled t h) ++ ys))
  type_closed t h ys k =
      let e : map part_word (type_parts (spelled t h) ++ ys) ≡ type_words (spelled t h) ++ map part_word ys = map-append part_word (type_parts (spelled t h)) ys ∙ ap (λ (ws : List Word). ws ++ map part_word ys) (type_same (spelled t h)) in
      let closed = subst (λ (ws : List Word). HasNoDollar ws) (sym (back t h).whole.spells) (back t h).closed in
      subst (λ (ws : List Word). HasNoDollar ws) (sym e) (no_dollars_both (type_words (spelled t h)) (map part_word ys) closed k)

  no_dollar : (s : Statement) (h : Sayable s) → HasNoDollar (row_words certificate_rows (line_of (written_as s h)))
  no_dollar inhabited h = refl
  no_dollar (row r) h = type_closed r.goal h.0 (fixed (name (codes "by")) ∷ naming Component (name_of r.component) ∷ numeral 0 greatest_number (decimal r.n) ∷ fixed (sign kind.Colon) ∷ map (numeral 0 greatest_number) (map decimal r.cover)) (no_dollar_numbers (map decimal r.cover))
  no_dollar empty h = refl
  no_dollar (member t) h = type_closed t h [] refl
  no_dollar (block c n) h = refl
  no_dollar layer h = refl
  no_dollar (set s) h = no_dollar_numbers (map decimal s)
  no_dollar qed h = refl

  pub line_closed : (s : Statement) (h : Sayable s) → HasNoDollar (words_of (statement_line s))
  line_closed s h = subst (λ (ws : List Word). HasNoDollar ws) (sym (line_words_are s h)) (no_dollar s h)

  -- it is no comment
  pub unskipped : (s : Statement) → says_nothing (statement_line s) ≡ false
  unskipped inhabited = refl
  unskipped (row r) = refl
  unskipped empty = refl
  unskipped (member t) = refl
  unskipped (block c n) = refl
  unskipped layer = refl
  unskipped (set s) = refl
  unskipped qed = refl

  -- what it means
  numbers_mean : (ns : List ℕ) → AreSayable ns → AreNumbers (map decimal ns) ns
  numbers_mean [] h = refl
  numbers_mean (n ∷ ns) h = (n, ns, (digits_mean n h.0, h.0), numbers_mean ns h.1, refl)

  goal_means : (t : ClosedType) (h : TypeSayable t) → IsGoal (number_of names) (spelled t h) t
  goal_means t h = record { spells = (back t h).spells; few = (back t h).whole.few; narrow = h.narrow }

  component_means : (c n : ℕ) → IsPlaceSayable names components c n → slice_get components c ≡ Some (name_of c)
  component_means c n h = slice_get-get_or components c [] h.below

  pub line_means : (s : Statement) (h : Sayable s) → Means (number_of names) components (written_as s h) s
  line_means inhabited h = refl
  line_means (row r) h = (r, refl, record { goal_is = goal_means r.goal h.0; component_is = component_means r.component r.n h.1; n_is = (digits_mean r.n h.1.within, h.1.within); cover_is = numbers_mean r.cover h.2 })
  line_means empty h = refl
  line_means (member t) h = (t, refl, goal_means t h)
  line_means (block c n) h = (c, n, refl, component_means c n h, (digits_mean n h.within, h.within))
  line_means layer h = refl
  line_means (set s) h = (s, refl, numbers_mean s h)
  line_means qed h = refl

  type_known : (t : ClosedType) (h : TypeSayable t) → with_texts names (constructors_in false (type_words (spelled t h))) ≡ names
  type_known t h = ap (λ (ws : List Word). with_texts names (constructors_in false ws)) (back t h).whole.spells ∙ (back t h).known

  pub line_known : (s : Statement) (h : Sayable s) → with_texts names (constructors_of (written_as s h)) ≡ names
  line_known inhabited h = refl
  line_known (row r) h = type_known r.goal h.0
  line_known empty h = refl
  line_known (member t) h = type_known t h
  line_known (block c n) h = refl
  line_known layer h = refl
  line_known (set s) h = refl
  line_known qed h = refl

  pub line_said : (s : Statement) (h : Sayable s) → length (statement_line s) ≤ max_line_bytes → SaysStatement (number_of names) components (statement_line s) (constructors_of (written_as s h)) s
  line_said s h short = record {
    text = (short, plain_utf8 (statement_line s) (plain_line s h));
    unskipped = (λ k. let e = unskipped s in let f = k.1 in absurd (cc));
    flat = line_flat s h;
    closed = line_closed s h;
    written = written_as s h;
    says = record { spelled = sym (line_words_are s h); stands = line_stands s h };
    means = line_means s h;
    named = refl;
  }
