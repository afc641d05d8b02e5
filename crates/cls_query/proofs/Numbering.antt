-- The names of a query are numbered once, and a type keeps its meaning whatever names come later.
use Rattle.std.proofs.Common.{◌≡◌, ℕ, ◌+◌, Bool, true, false, cond, not, List, [], ◌∷◌, ◌++◌, length, take, refl, ap, sym, ◌∙◌, subst, append-nil, append_assoc}
use Rattle.std.specs.Prelude.{◌||◌, if◌then◌else◌}
use Rattle.std.specs.List.{list_any, AllByRecursion}
use Rattle.std.specs.Str.{bytes_eq}
use Rattle.std.proofs.lemmas.Bool.{true≢false}
use Rattle.std.proofs.lemmas.List.Folds.{list_any-append}
use Rattle.std.proofs.lemmas.Slice.Eq.{bytes_eq-Decides}
use Rattle.cls_base.specs.Schemas as schemas
use Rattle.cls_base.specs.Types.{ClosedType}
use Rattle.cls_lexer.specs.Names.{number_of, with_text, with_texts}
use Rattle.cls_lexer.specs.Words.{Word, sign}
use Rattle.cls_lexer.specs.declared.token.TokenKind.TheVariants.{To, And, Times, Close, Comma}
use Rattle.cls_syntax.specs.declared.role.Role.TheVariants.{Constructor}
use Rattle.cls_syntax.specs.ClosedTypes.{closed, Spells}
use Rattle.cls_syntax.specs.Forms.{Part, fixed, naming, numeral, type_parts, meet_parts, product_parts, atom_parts, term_parts, terms_parts, constructors_named}
use Rattle.cls_syntax.specs.TermTexts as term
use Rattle.cls_syntax.specs.TermTexts.{TermText, TermList}
use Rattle.cls_syntax.specs.TypeSchemas.{type_schema, meet_schema, product_schema, atom_schema, with_constructors}
use Rattle.cls_syntax.specs.TypeTexts.{TypeText, MeetText, ProductText, AtomText, only_meet, arrow, only_product, meet, only_atom, product, omega, named, applied, variable, inside, type_words}
use Rattle.cls_syntax.proofs.ClosedAgain.{closed-opened}
use Rattle.cls_syntax.proofs.PartNames.{type_constructors}
use Rattle.cls_query.specs.Queries.{type_in, with_names}
use Rattle.cls_query.proofs.Searches.{all_first, all_last}

-- the type that a text spells is its meaning
pub spelled_is : (constructors : List (List ℕ)) (t : TypeText) (type : ClosedType) → Spells (number_of constructors) t type → type ≡ type_in constructors t
spelled_is constructors t type s = sym (closed-opened type) ∙ ap closed (s (λ x. 0))

-- names that are collected from two lists of parts
pub named_both : (ps qs : List Part) → constructors_named (ps ++ qs) ≡ constructors_named ps ++ constructors_named qs
named_both [] qs = refl
named_both (fixed w ∷ ps) qs = named_both ps qs
named_both (numeral l g d ∷ ps) qs = named_both ps qs
named_both (naming Constructor x ∷ ps) qs = ap (λ (xs : List (List ℕ)). x ∷ xs) (named_both ps qs)
named_both (naming _ x ∷ ps) qs = named_both ps qs

none_joined : (ps : List Part) (w : Word) (qs : List Part) → constructors_named ps ≡ [] → constructors_named qs ≡ [] → constructors_named (ps ++ fixed w ∷ qs) ≡ []
none_joined ps w qs a b = named_both ps (fixed w ∷ qs) ∙ (λ i. a i ++ b i)

-- a term names no constructor
mutual
  pub term_names : (e : TermText) → constructors_named (term_parts e) ≡ []
  term_names (term.named x) = refl
  term_names (term.applied x es) = none_joined (terms_parts es) (sign Close) [] (terms_names es) refl

  terms_names : (es : TermList) → constructors_named (terms_parts es) ≡ []
  terms_names (term.last e) = term_names e
  terms_names (term.more e es) = none_joined (term_parts e) (sign Comma) (terms_parts es) (term_names e) (terms_names es)

-- the names of a type, by its parts and by its words
pub names_of_type : (table : List (List ℕ)) (t : TypeText) → with_constructors table (type_words t) ≡ with_names table (type_parts t)
names_of_type table t = ap (with_texts table) (sym (type_constructors t))

pub texts_both : (table xs ys : List (List ℕ)) → with_texts table (xs ++ ys) ≡ with_texts (with_texts table xs) ys
texts_both table [] ys = refl
texts_both table (x ∷ xs) ys = texts_both (with_text table x) xs ys

-- A text that is held.
abbrev pub IsHeld : List (List ℕ) → List ℕ → Type 0
IsHeld table x = list_any (bytes_eq x) table ≡ true

-- one text more at most goes last
pub record IsGrown (old new : List (List ℕ)) : Type 0 where
  pub more : List (List ℕ)
  pub joined : new ≡ old ++ more

grown_text : (table : List (List ℕ)) (x : List ℕ) → IsGrown table (with_text table x)
grown_text table x = elim (list_any (bytes_eq x) table) as (λ (b : Bool). IsGrown table (if b then table else table ++ x ∷ [])) [
  | true ↦ record { more = []; joined = sym (append-nil table) }
  | false ↦ record { more = x ∷ []; joined = refl }
]

grown_further : (a b c : List (List ℕ)) → IsGrown a b → IsGrown b c → IsGrown a c
grown_further a b c p q = record { more = p.more ++ q.more; joined = q.joined ∙ (ap (λ (xs : List (List ℕ)). xs ++ q.more) p.joined ∙ append_assoc a p.more q.more) }

pub grown_texts : (table xs : List (List ℕ)) → IsGrown table (with_texts table xs)
grown_texts table [] = record { more = []; joined = sym (append-nil table) }
grown_texts table (x ∷ xs) = grown_further table (with_text table x) (with_texts (with_text table x) xs) (grown_text table x) (grown_texts (with_text table x) xs)

take_front : (xs ys : List (List ℕ)) → take (length xs) (xs ++ ys) ≡ xs
take_front [] ys = refl
take_front (x ∷ xs) ys = ap (λ (zs : List (List ℕ)). x ∷ zs) (take_front xs ys)

-- what stood in the table stays in front
pub old_stays : (old new : List (List ℕ)) → IsGrown old new → take (length old) new ≡ old
old_stays old new g = ap (take (length old)) g.joined ∙ take_front old g.more

-- what is held stays held, with its number
held_front : (x : List ℕ) (table more : List (List ℕ)) → IsHeld table x → IsHeld (table ++ more) x
held_front x table more h = list_any-append (bytes_eq x) table more ∙ ap (λ b. b || list_any (bytes_eq x) more) h

number_front : (x : List ℕ) (table more : List (List ℕ)) → IsHeld table x → number_of (table ++ more) x ≡ number_of table x
number_front x [] more h = absurd (true≢false (sym h))
number_front x (y ∷ table) more h =
    (elim (bytes_eq x y) as (λ b. (b || list_any (bytes_eq x) table) ≡ true → cond (not b) (1 + number_of (table ++ more) x) 0 ≡ cond (not b) (1 + number_of table x) 0) [
      | true ↦ λ k. refl
      | false ↦ λ k. ap (λ n. 1 + n) (number_front x table more k)
    ]) h

held_stays : (x : List ℕ) (old new : List (List ℕ)) → IsGrown old new → IsHeld old x → IsHeld new x
held_stays x old new g h = subst (λ (t : List (List ℕ)). IsHeld t x) (sym g.joined) (held_front x old g.more h)

number_stays : (x : List ℕ) (old new : List (List ℕ)) → IsGrown old new → IsHeld old x → number_of new x ≡ number_of old x
number_stays x old new g h = ap (λ (t : List (List ℕ)). number_of t x) g.joined ∙ number_front x old g.more h

same_bytes : (x : List ℕ) → bytes_eq x x ≡ true
same_bytes x = (bytes_eq-Decides x x).1 refl

held_last : (x : List ℕ) (table : List (List ℕ)) → IsHeld (table ++ x ∷ []) x
held_last x [] = ap (λ b. b || false) (same_bytes x)
held_last x (y ∷ table) = ap (λ b. bytes_eq x y || b) (held_last x table) ∙ or_true (bytes_eq x y)
  where
    or_true : (b : Bool) → (b || true) ≡ true
    or_true true = refl
    or_true false = refl

put_held : (table : List (List ℕ)) (x : List ℕ) → IsHeld (with_text table x) x
put_held table x = (elim (list_any (bytes_eq x) table) as (λ (b : Bool). list_any (bytes_eq x) table ≡ b → IsHeld (if b then table else table ++ x ∷ []) x) [
  | true ↦ λ h. h
  | false ↦ λ h. held_last x table
]) refl

pub all_held : (table xs : List (List ℕ)) → AllByRecursion (IsHeld (with_texts table xs)) xs
all_held table [] = tt
all_held table (x ∷ xs) = (held_stays x (with_text table x) (with_texts (with_text table x) xs) (grown_texts (with_text table x) xs) (put_held table x), all_held (with_text table x) xs)

-- A type means the same for two numberings that agree on its names.
module _ (c d : List ℕ → ℕ) where
  abbrev Agrees : List (List ℕ) → Type 0
  Agrees xs = AllByRecursion (λ x. c x ≡ d x) xs

  left : (ps : List Part) (w : Word) (qs : List Part) → Agrees (constructors_named (ps ++ fixed w ∷ qs)) → Agrees (constructors_named ps)
  left ps w qs a = all_first (λ x. c x ≡ d x) (constructors_named ps) (constructors_named qs) (subst Agrees (named_both ps (fixed w ∷ qs)) a)

  right : (ps : List Part) (w : Word) (qs : List Part) → Agrees (constructors_named (ps ++ fixed w ∷ qs)) → Agrees (constructors_named qs)
  right ps w qs a = all_last (λ x. c x ≡ d x) (constructors_named ps) (constructors_named qs) (subst Agrees (named_both ps (fixed w ∷ qs)) a)

  mutual
    pub type_same : (t : TypeText) → Agrees (constructors_named (type_parts t)) → type_schema c (λ x. 0) t ≡ type_schema d (λ x. 0) t
    type_same (only_meet m) a = meet_same m a
    type_same (arrow m t) a = λ i. schemas.arrow (meet_same m (left (meet_parts m) (sign To) (type_parts t) a) i) (type_same t (right (meet_parts m) (sign To) (type_parts t) a) i)

    meet_same : (m : MeetText) → Agrees (constructors_named (meet_parts m)) → meet_schema c (λ x. 0) m ≡ meet_schema d (λ x. 0) m
    meet_same (only_product p) a = product_same p a
    meet_same (meet m p) a = λ i. schemas.meet (meet_same m (left (meet_parts m) (sign And) (product_parts p) a) i) (product_same p (right (meet_parts m) (sign And) (product_parts p) a) i)

    product_same : (p : ProductText) → Agrees (constructors_named (product_parts p)) → product_schema c (λ x. 0) p ≡ product_schema d (λ x. 0) p
    product_same (only_atom b) a = atom_same b a
    product_same (product p b) a = λ i. schemas.product (product_same p (left (product_parts p) (sign Times) (atom_parts b) a) i) (atom_same b (right (product_parts p) (sign Times) (atom_parts b) a) i)

    atom_same : (b : AtomText) → Agrees (constructors_named (atom_parts b)) → atom_schema c (λ x. 0) b ≡ atom_schema d (λ x. 0) b
    atom_same omega a = refl
    atom_same (named x) a = λ i. schemas.constructor (a.0 i) schemas.omega
    atom_same (applied x t) a = λ i. schemas.constructor (a.0 i) (type_same t (left (type_parts t) (sign Close) [] a.1) i)
    atom_same (variable x) a = refl
    atom_same (inside t) a = type_same t (left (type_parts t) (sign Close) [] a)

numbers_stay : (old new xs : List (List ℕ)) → IsGrown old new → AllByRecursion (IsHeld old) xs → AllByRecursion (λ x. number_of new x ≡ number_of old x) xs
numbers_stay old new [] g h = tt
numbers_stay old new (x ∷ xs) g h = (number_stays x old new g h.0, numbers_stay old new xs g h.1)

-- the type keeps its meaning when later names come
pub type_stays : (table xs : List (List ℕ)) (t : TypeText) → type_in (with_texts (with_names table (type_parts t)) xs) t ≡ type_in (with_names table (type_parts t)) t
type_stays table xs t =
    let old = with_names table (type_parts t) in
    let new = with_texts old xs in
    ap closed (type_same (number_of new) (number_of old) t (numbers_stay old new (constructors_named (type_parts t)) (grown_texts old xs) (all_held table (constructors_named (type_parts t)))))
