-- A type that is read is within the limits of what can be printed and read again.
use Rattle.std.proofs.Common.{◌≡◌, ℕ, suc, ◌+◌, ◌<◌, ◌≤◌, Bool, true, false, cond, not, List, [], ◌∷◌, ◌++◌, refl, ap, sym, ◌∙◌, subst, length, get_or, map, arith, append-nil}
use Rattle.std.specs.Prelude.{if◌then◌else◌, max, nat_lt, ◌||◌}
use Rattle.std.specs.List.{list_any, AllByRecursion}
use Rattle.std.specs.Str.{bytes_eq}
use Rattle.std.proofs.lemmas.Slice.Eq.{bytes_eq-Decides}
use Rattle.std.proofs.lemmas.Bool.{or_parts}
use Rattle.cls_base.specs.Types as types
use Rattle.cls_base.specs.Types.{ClosedType, nodes, open_at}
use Rattle.cls_base.specs.Schemas as schemas
use Rattle.cls_base.specs.Schemas.{OpenType}
use Rattle.cls_lexer.specs.declared.token.TokenKind.{TokenKind}
use Rattle.cls_lexer.specs.declared.token.TokenKind.TheVariants as kinds
use Rattle.cls_lexer.specs.Spelling as spelling
use Rattle.cls_lexer.specs.Spelling.{IsLongestAt}
use Rattle.cls_lexer.specs.Tokens.{Located, tokens_of}
use Rattle.cls_lexer.specs.Words as word
use Rattle.cls_lexer.specs.Words.{Word, name, number, sign, word_from, said, words_of, reserved_name}
use Rattle.cls_lexer.specs.Names.{number_of, with_text, with_texts}
use Rattle.cls_syntax.specs.Depths.{most_open}
use Rattle.cls_syntax.specs.TypeTexts.{TypeText, MeetText, ProductText, AtomText, only_meet, arrow, only_product, meet, only_atom, product, named, applied, variable, inside, type_words, meet_words, product_words, atom_words, type_nodes, meet_nodes, product_nodes, atom_nodes}
use Rattle.cls_syntax.specs.TypeTexts as grammar
use Rattle.cls_syntax.specs.TypeSchemas.{is_dollar, constructors_in, type_schema, meet_schema, product_schema, atom_schema}
use Rattle.cls_syntax.specs.ClosedTypes.{opened, HasNoDollar, Spells}
use Rattle.cls_syntax.specs.TypePrinting.{name_in, HasNamesBelow}
use Rattle.cls_syntax.specs.RoundTrips.{IsProperName, HasProperNames, ReadTypesAreReadAgain}
use Rattle.cls_lexer.proofs.TokenPlaces.{tokens_longest}
use Rattle.cls_syntax.proofs.GrowingTables.{comes_in, stays_all}
use Rattle.cls_syntax.proofs.PrintedTexts.{Opens, one_word, join_opens, enclose_opens, con_enclosed}
use Rattle.cls_syntax.proofs.ReadBack.{read_back}

-- the nodes of a type that may have variables
abbrev pub open_nodes : OpenType → ℕ
open_nodes schemas.omega = 1
open_nodes (schemas.constructor c s) = 1 + open_nodes s
open_nodes (schemas.product s t) = 1 + open_nodes s + open_nodes t
open_nodes (schemas.arrow s t) = 1 + open_nodes s + open_nodes t
open_nodes (schemas.meet s t) = 1 + open_nodes s + open_nodes t
open_nodes (schemas.variable v) = 1

pub closed_nodes : (t : ClosedType) → open_nodes (opened t) ≡ nodes t
closed_nodes types.omega = refl
closed_nodes (types.constructor c s) = λ i. 1 + closed_nodes s i
closed_nodes (types.product s t) = λ i. 1 + closed_nodes s i + closed_nodes t i
closed_nodes (types.arrow s t) = λ i. 1 + closed_nodes s i + closed_nodes t i
closed_nodes (types.meet s t) = λ i. 1 + closed_nodes s i + closed_nodes t i

module _ (c v : List ℕ → ℕ) where
  mutual
    pub type_count : (t : TypeText) → open_nodes (type_schema c v t) ≡ type_nodes t
    type_count (only_meet m) = meet_count m
    type_count (arrow m t) = λ i. 1 + meet_count m i + type_count t i

    meet_count : (m : MeetText) → open_nodes (meet_schema c v m) ≡ meet_nodes m
    meet_count (only_product p) = product_count p
    meet_count (meet m p) = λ i. 1 + meet_count m i + product_count p i

    product_count : (p : ProductText) → open_nodes (product_schema c v p) ≡ product_nodes p
    product_count (only_atom a) = atom_count a
    product_count (product p a) = λ i. 1 + product_count p i + atom_count a i

    atom_count : (a : AtomText) → open_nodes (atom_schema c v a) ≡ atom_nodes a
    atom_count grammar.omega = refl
    atom_count (named x) = refl
    atom_count (applied x t) = λ i. 1 + type_count t i
    atom_count (variable x) = refl
    atom_count (inside t) = type_count t

-- the parentheses that a text needs
abbrev pub depth_at : ℕ → OpenType → ℕ
depth_at k schemas.omega = 0
depth_at k (schemas.variable v) = 0
depth_at k (schemas.constructor c schemas.omega) = 0
depth_at k (schemas.constructor c (schemas.constructor d s)) = 1 + depth_at 0 (schemas.constructor d s)
depth_at k (schemas.constructor c (schemas.product s t)) = 1 + depth_at 0 (schemas.product s t)
depth_at k (schemas.constructor c (schemas.arrow s t)) = 1 + depth_at 0 (schemas.arrow s t)
depth_at k (schemas.constructor c (schemas.meet s t)) = 1 + depth_at 0 (schemas.meet s t)
depth_at k (schemas.constructor c (schemas.variable v)) = 1
depth_at k (schemas.product s t) = if nat_lt 2 k then 1 + max (depth_at 2 s) (depth_at 3 t) else max (depth_at 2 s) (depth_at 3 t)
depth_at k (schemas.arrow s t) = if nat_lt 0 k then 1 + max (depth_at 1 s) (depth_at 0 t) else max (depth_at 1 s) (depth_at 0 t)
depth_at k (schemas.meet s t) = if nat_lt 1 k then 1 + max (depth_at 1 s) (depth_at 2 t) else max (depth_at 1 s) (depth_at 2 t)

pub closed_depth : (k : ℕ) (t : ClosedType) → depth_at k (opened t) ≡ open_at k t
closed_depth k types.omega = refl
closed_depth k (types.constructor c types.omega) = refl
closed_depth k (types.constructor c (types.constructor d s)) = ap (λ n. 1 + n) (closed_depth 0 (types.constructor d s))
closed_depth k (types.constructor c (types.product s t)) = ap (λ n. 1 + n) (closed_depth 0 (types.product s t))
closed_depth k (types.constructor c (types.arrow s t)) = ap (λ n. 1 + n) (closed_depth 0 (types.arrow s t))
closed_depth k (types.constructor c (types.meet s t)) = ap (λ n. 1 + n) (closed_depth 0 (types.meet s t))
closed_depth k (types.product s t) = let a = closed_depth 2 s in let b = closed_depth 3 t in λ i. if nat_lt 2 k then 1 + max (a i) (b i) else max (a i) (b i)
closed_depth k (types.arrow s t) = let a = closed_depth 1 s in let b = closed_depth 0 t in λ i. if nat_lt 0 k then 1 + max (a i) (b i) else max (a i) (b i)
closed_depth k (types.meet s t) = let a = closed_depth 1 s in let b = closed_depth 2 t in λ i. if nat_lt 1 k then 1 + max (a i) (b i) else max (a i) (b i)

-- where a stronger form is wanted no fewer parentheses are, and one more at most
record Grows (s : OpenType) : Type 0 where
  first : depth_at 0 s ≤ depth_at 1 s
  second : depth_at 1 s ≤ depth_at 2 s
  third : depth_at 2 s ≤ depth_at 3 s
  most : depth_at 3 s ≤ 1 + depth_at 0 s

grows : (s : OpenType) → Grows s
grows schemas.omega = record { first = omega arith; second = omega arith; third = omega arith; most = omega arith }
grows (schemas.variable v) = record { first = omega arith; second = omega arith; third = omega arith; most = omega arith }
grows (schemas.constructor c schemas.omega) = record { first = omega arith; second = omega arith; third = omega arith; most = omega arith }
grows (schemas.constructor c (schemas.variable v)) = record { first = omega arith; second = omega arith; third = omega arith; most = omega arith }
grows (schemas.constructor c (schemas.constructor d s)) = record { first = omega arith; second = omega arith; third = omega arith; most = omega arith }
grows (schemas.constructor c (schemas.product s t)) = record { first = omega arith; second = omega arith; third = omega arith; most = omega arith }
grows (schemas.constructor c (schemas.arrow s t)) = record { first = omega arith; second = omega arith; third = omega arith; most = omega arith }
grows (schemas.constructor c (schemas.meet s t)) = record { first = omega arith; second = omega arith; third = omega arith; most = omega arith }
grows (schemas.product s t) = record { first = omega arith; second = omega arith; third = omega arith; most = omega arith }
grows (schemas.arrow s t) = record { first = omega arith; second = omega arith; third = omega arith; most = omega arith }
grows (schemas.meet s t) = record { first = omega arith; second = omega arith; third = omega arith; most = omega arith }

over : (c : ℕ) (s : OpenType) → depth_at 3 (schemas.constructor c s) ≤ 1 + depth_at 0 s
over c schemas.omega = omega arith
over c (schemas.variable v) = omega arith
over c (schemas.constructor d s) = omega arith
over c (schemas.product s t) = omega arith
over c (schemas.arrow s t) = omega arith
over c (schemas.meet s t) = omega arith

-- the parentheses that are open at once in a text
abbrev mutual
  pub type_open : TypeText → ℕ
  type_open (only_meet m) = meet_open m
  type_open (arrow m t) = max (meet_open m) (type_open t)

  meet_open : MeetText → ℕ
  meet_open (only_product p) = product_open p
  meet_open (meet m p) = max (meet_open m) (product_open p)

  product_open : ProductText → ℕ
  product_open (only_atom a) = atom_open a
  product_open (product p a) = max (product_open p) (atom_open a)

  atom_open : AtomText → ℕ
  atom_open grammar.omega = 0
  atom_open (named x) = 0
  atom_open (applied x t) = 1 + type_open t
  atom_open (variable x) = 0
  atom_open (inside t) = 1 + type_open t

module _ (c v : List ℕ → ℕ) where
  mutual
    pub type_depth : (t : TypeText) → depth_at 0 (type_schema c v t) ≤ type_open t
    type_depth (only_meet m) = let g = (grows (meet_schema c v m)).first in let h = meet_depth m in omega (arith, g, h)
    type_depth (arrow m t) = let g = meet_depth m in let h = type_depth t in omega (arith, g, h)

    meet_depth : (m : MeetText) → depth_at 1 (meet_schema c v m) ≤ meet_open m
    meet_depth (only_product p) = let g = (grows (product_schema c v p)).second in let h = product_depth p in omega (arith, g, h)
    meet_depth (meet m p) = let g = meet_depth m in let h = product_depth p in omega (arith, g, h)

    product_depth : (p : ProductText) → depth_at 2 (product_schema c v p) ≤ product_open p
    product_depth (only_atom a) = let g = (grows (atom_schema c v a)).third in let h = atom_depth a in omega (arith, g, h)
    product_depth (product p a) = let g = product_depth p in let h = atom_depth a in omega (arith, g, h)

    atom_depth : (a : AtomText) → depth_at 3 (atom_schema c v a) ≤ atom_open a
    atom_depth grammar.omega = omega arith
    atom_depth (named x) = omega arith
    atom_depth (applied x t) = let g = over (c x) (type_schema c v t) in let h = type_depth t in omega (arith, g, h)
    atom_depth (variable x) = omega arith
    atom_depth (inside t) = let g = (grows (type_schema c v t)).most in let h = type_depth t in omega (arith, g, h)

abbrev pub none : ℕ → List ℕ
none n = []

dollar_name : (x : List ℕ) → Opens none (sign kinds.Dollar ∷ name x ∷ []) 0
dollar_name x now most rest = ap (λ m. most_open now m rest) (omega arith)

mutual
  pub type_opens : (t : TypeText) → Opens none (type_words t) (type_open t)
  type_opens (only_meet m) = meet_opens m
  type_opens (arrow m t) = join_opens none (meet_words m) (type_words t) (sign kinds.To) (meet_open m) (type_open t) (λ n. refl) (meet_opens m) (type_opens t)

  meet_opens : (m : MeetText) → Opens none (meet_words m) (meet_open m)
  meet_opens (only_product p) = product_opens p
  meet_opens (meet m p) = join_opens none (meet_words m) (product_words p) (sign kinds.And) (meet_open m) (product_open p) (λ n. refl) (meet_opens m) (product_opens p)

  product_opens : (p : ProductText) → Opens none (product_words p) (product_open p)
  product_opens (only_atom a) = atom_opens a
  product_opens (product p a) = join_opens none (product_words p) (atom_words a) (sign kinds.Times) (product_open p) (atom_open a) (λ n. refl) (product_opens p) (atom_opens a)

  atom_opens : (a : AtomText) → Opens none (atom_words a) (atom_open a)
  atom_opens grammar.omega = one_word none word.omega (λ n. refl)
  atom_opens (named x) = one_word none (name x) (λ n. refl)
  atom_opens (applied x t) = con_enclosed none x t (type_open t) (type_opens t)
  atom_opens (variable x) = dollar_name x
  atom_opens (inside t) = enclose_opens none (type_words t) (type_open t) (type_opens t)

pub text_open : (t : TypeText) → most_open 0 0 (type_words t) ≡ type_open t
text_open t = ap (most_open 0 0) (sym (append-nil (type_words t))) ∙ (type_opens t 0 0 [] ∙ omega arith)

-- each name in the words is one of these
module _ (Q : List ℕ → Type 0) where
  abbrev GoodWord : Word → Type 0
  GoodWord word.omega = Unit {0}
  GoodWord (name x) = Q x
  GoodWord (number n) = Unit {0}
  GoodWord (sign kind) = Unit {0}

  abbrev pub AllGood : List Word → Type 0
  AllGood [] = Unit {0}
  AllGood (w ∷ ws) = GoodWord w × AllGood ws

  pub parts : (xs ys : List Word) → AllGood (xs ++ ys) → AllGood xs × AllGood ys
  parts [] ys h = (tt, h)
  parts (x ∷ xs) ys h = let p = parts xs ys h.1 in ((h.0, p.0), p.1)

  -- and so are those of a type that they spell
  module _ (P : ℕ → Type 0) where
    abbrev pub GoodNames : OpenType → Type 0
    GoodNames schemas.omega = Unit {0}
    GoodNames (schemas.constructor c s) = P c × GoodNames s
    GoodNames (schemas.product s t) = GoodNames s × GoodNames t
    GoodNames (schemas.arrow s t) = GoodNames s × GoodNames t
    GoodNames (schemas.meet s t) = GoodNames s × GoodNames t
    GoodNames (schemas.variable v) = Unit {0}

    module _ (c v : List ℕ → ℕ) (to : (x : List ℕ) → Q x → P (c x)) where
      mutual
        pub type_good : (t : TypeText) → AllGood (type_words t) → GoodNames (type_schema c v t)
        type_good (only_meet m) h = meet_good m h
        type_good (arrow m t) h = let p = parts (meet_words m) (sign kinds.To ∷ type_words t) h in (meet_good m p.0, type_good t p.1.1)

        meet_good : (m : MeetText) → AllGood (meet_words m) → GoodNames (meet_schema c v m)
        meet_good (only_product p) h = product_good p h
        meet_good (meet m p) h = let q = parts (meet_words m) (sign kinds.And ∷ product_words p) h in (meet_good m q.0, product_good p q.1.1)

        product_good : (p : ProductText) → AllGood (product_words p) → GoodNames (product_schema c v p)
        product_good (only_atom a) h = atom_good a h
        product_good (product p a) h = let q = parts (product_words p) (sign kinds.Times ∷ atom_words a) h in (product_good p q.0, atom_good a q.1.1)

        atom_good : (a : AtomText) → AllGood (atom_words a) → GoodNames (atom_schema c v a)
        atom_good grammar.omega h = tt
        atom_good (named x) h = (to x h.0, tt)
        atom_good (applied x t) h = (to x h.0, type_good t (parts (type_words t) (sign kinds.Close ∷ []) h.1.1).0)
        atom_good (variable x) h = tt
        atom_good (inside t) h = type_good t (parts (type_words t) (sign kinds.Close ∷ []) h.1).0

module _ (known : List (List ℕ)) where
  abbrev pub Held : List ℕ → Type 0
  Held x = list_any (bytes_eq x) known ≡ true

  abbrev pub Below : ℕ → Type 0
  Below n = n < length known

  pub record IsGood (x : List ℕ) : Type 0 where
    held : Held x
    proper : IsProperName x

  abbrev pub Proper : ℕ → Type 0
  Proper n = IsProperName (name_in known n)

  found_within : (table : List (List ℕ)) (x : List ℕ) → list_any (bytes_eq x) table ≡ true → (number_of table x < length table) × (get_or table (number_of table x) [] ≡ x)
  found_within [] x h = cc
  found_within (y ∷ ys) x h =
      (elim (bytes_eq x y) as (λ b. bytes_eq x y ≡ b → (b || list_any (bytes_eq x) ys) ≡ true → (cond (not b) (1 + number_of ys x) 0 < length (y ∷ ys)) × (get_or (y ∷ ys) (cond (not b) (1 + number_of ys x) 0) [] ≡ x)) [
        | true ↦ λ e k. (omega arith, sym ((bytes_eq-Decides x y).0 e))
        | false ↦ λ e k.
            let r = found_within ys x k in
            let less = r.0 in
            let next : 1 + number_of ys x ≡ suc (number_of ys x) = omega arith in
            (omega (arith, less), ap (λ n. get_or (y ∷ ys) n []) next ∙ r.1)
      ]) refl h

  pub below_of : (x : List ℕ) → Held x → Below (number_of known x)
  below_of x h = (found_within known x h).0

  pub proper_of : (x : List ℕ) → IsGood x → Proper (number_of known x)
  proper_of x g = subst (λ (y : List ℕ). IsProperName y) (sym (found_within known x g.held).1) g.proper

  pub names_below : (t : ClosedType) → GoodNames Held Below (opened t) → HasNamesBelow (length known) t
  names_below types.omega h = tt
  names_below (types.constructor c s) h = (h.0, names_below s h.1)
  names_below (types.product s t) h = (names_below s h.0, names_below t h.1)
  names_below (types.arrow s t) h = (names_below s h.0, names_below t h.1)
  names_below (types.meet s t) h = (names_below s h.0, names_below t h.1)

  pub names_proper : (t : ClosedType) → GoodNames IsGood Proper (opened t) → HasProperNames (name_in known) t
  names_proper types.omega h = tt
  names_proper (types.constructor c s) h = (h.0, names_proper s h.1)
  names_proper (types.product s t) h = (names_proper s h.0, names_proper t h.1)
  names_proper (types.arrow s t) h = (names_proper s h.0, names_proper t h.1)
  names_proper (types.meet s t) h = (names_proper s h.0, names_proper t h.1)

  abbrev pub AllHeld : List (List ℕ) → Type 0
  AllHeld [] = Unit {0}
  AllHeld (x ∷ xs) = Held x × AllHeld xs

  -- words without a dollar whose names are held
  pub all_held : (ws : List Word) → HasNoDollar ws → AllHeld (constructors_in false ws) → AllGood Held ws
  all_held [] d h = tt
  all_held (word.omega ∷ ws) d h = (tt, all_held ws d h)
  all_held (name x ∷ ws) d h = (h.0, all_held ws d h.1)
  all_held (number n ∷ ws) d h = (tt, all_held ws d h)
  all_held (sign kind ∷ ws) d h =
      let q = or_parts (is_dollar (sign kind)) (list_any is_dollar ws) d in
      (tt, all_held ws q.1 (subst (λ (b : Bool). AllHeld (constructors_in b ws)) q.0 h))

  pub all_good : (ws : List Word) → AllGood IsProperName ws → AllGood Held ws → AllGood IsGood ws
  all_good [] p h = tt
  all_good (word.omega ∷ ws) p h = (tt, all_good ws p.1 h.1)
  all_good (name x ∷ ws) p h = (record { held = h.0; proper = p.0 }, all_good ws p.1 h.1)
  all_good (number n ∷ ws) p h = (tt, all_good ws p.1 h.1)
  all_good (sign kind ∷ ws) p h = (tt, all_good ws p.1 h.1)

-- the texts of a table that came into it
pub held_by : (texts xs ys : List (List ℕ)) → ys ≡ with_texts texts xs → AllHeld ys xs
held_by texts [] ys e = tt
held_by texts (x ∷ xs) ys e = (ap (list_any (bytes_eq x)) e ∙ stays_all (with_text texts x) xs x (comes_in texts x), held_by (with_text texts x) xs ys e)

-- the names of a type that is read are held
pub read_below : (old : List (List ℕ)) (text : TypeText) (t : ClosedType) → HasNoDollar (type_words text) → Spells (number_of (with_texts old (constructors_in false (type_words text)))) text t → HasNamesBelow (length (with_texts old (constructors_in false (type_words text)))) t
read_below old text t closed spells =
    let xs : List (List ℕ) = constructors_in false (type_words text) in
    let names : List (List ℕ) = with_texts old xs in
    let v : List ℕ → ℕ = λ x. 0 in
    let held : AllGood (Held names) (type_words text) = all_held names (type_words text) closed (held_by old xs names refl) in
    names_below names t (subst (λ (o : OpenType). GoodNames (Held names) (Below names) o) (sym (spells v)) (type_good (Held names) (Below names) (number_of names) v (below_of names) text held))

-- each name in a line is proper
name_proper : (b : ℕ) (bs : List ℕ) (v : Bool) → (v ≡ false → IsProperName (b ∷ bs)) → GoodWord IsProperName (if v then word.omega else name (b ∷ bs))
name_proper b bs true h = tt
name_proper b bs false h = h refl

word_proper : (kind : TokenKind) (text : List ℕ) → spelling.Spells kind text → GoodWord IsProperName (word_from kind text)
word_proper _ _ (spelling.name {b} {bs} start all few) = name_proper b bs (bytes_eq (b ∷ bs) reserved_name) (λ e. (start, all, few, e))
word_proper _ _ (spelling.number start all) = tt
word_proper _ _ spelling.to = tt
word_proper _ _ spelling.at_most = tt
word_proper _ _ spelling.and = tt
word_proper _ _ spelling.times = tt
word_proper _ _ spelling.opens = tt
word_proper _ _ spelling.closes = tt
word_proper _ _ spelling.comma = tt
word_proper _ _ spelling.dollar = tt
word_proper _ _ spelling.colon = tt
word_proper _ _ spelling.equals = tt
word_proper _ _ spelling.bar = tt
word_proper _ _ (spelling.too_long start all many) = tt
word_proper _ _ (spelling.other start digit no_sign blank all) = tt

tokens_proper : (line : List ℕ) (ts : List Located) → AllByRecursion (IsLongestAt line) ts → AllGood IsProperName (map said ts)
tokens_proper line [] h = tt
tokens_proper line (t ∷ ts) h = (word_proper t.kind t.text h.0.is.spelled, tokens_proper line ts h.1)

pub line_proper : (line : List ℕ) → AllGood IsProperName (words_of line)
unfolding words_of
line_proper line = tokens_proper line (tokens_of line) (tokens_longest line)

pub read_again : ReadTypesAreReadAgain
read_again old line text t distinct whole closed spells =
    let xs : List (List ℕ) = constructors_in false (words_of line) in
    let names : List (List ℕ) = with_texts old xs in
    let v : List ℕ → ℕ = λ x. 0 in
    let held : AllGood (Held names) (words_of line) = all_held names (words_of line) closed (held_by old xs names refl) in
    let good : AllGood (IsGood names) (words_of line) = all_good names (words_of line) (line_proper line) held in
    let said = sym whole.spells in
    let below = names_below names t (subst (λ (o : OpenType). GoodNames (Held names) (Below names) o) (sym (spells v)) (type_good (Held names) (Below names) (number_of names) v (below_of names) text (subst (λ (ws : List Word). AllGood (Held names) ws) said held))) in
    let proper = names_proper names t (subst (λ (o : OpenType). GoodNames (IsGood names) (Proper names) o) (sym (spells v)) (type_good (IsGood names) (Proper names) (number_of names) v (proper_of names) text (subst (λ (ws : List Word). AllGood (IsGood names) ws) said good))) in
    let count = sym (closed_nodes t) ∙ (ap open_nodes (spells v) ∙ type_count (number_of names) v text) in
    let few = whole.few in
    let deep = sym (closed_depth 0 t) ∙ ap (depth_at 0) (spells v) in
    let most = type_depth (number_of names) v text in
    let flat = whole.flat in
    let open_most = sym (ap (most_open 0 0) whole.spells) ∙ text_open text in
    (below, read_back names t distinct below proper (omega (arith, count, few)) (omega (arith, deep, most, open_most, flat)))
