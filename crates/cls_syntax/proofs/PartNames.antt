-- The names among the parts of a type, by its words.
use Rattle.std.proofs.Common.{◌≡◌, ℕ, Bool, true, false, List, [], ◌∷◌, ◌++◌, refl, ap, sym, ◌∙◌, append_assoc}
use Rattle.cls_lexer.specs.declared.token.TokenKind.{TokenKind}
use Rattle.cls_lexer.specs.declared.token.TokenKind.TheVariants.{To, And, Times, Open, Close, Dollar}
use Rattle.cls_lexer.specs.Words.{Word, name, number, sign}
use Rattle.cls_lexer.specs.Words as word
use Rattle.cls_syntax.specs.declared.role.Role.TheVariants.{Constructor, Variable, NewVariable}
use Rattle.cls_syntax.specs.TypeTexts.{TypeText, MeetText, ProductText, AtomText, only_meet, arrow, only_product, meet, only_atom, product, omega, named, applied, variable, inside, type_words, meet_words, product_words, atom_words}
use Rattle.cls_syntax.specs.TypeSchemas.{is_dollar, name_text, constructors_in, variables_in}
use Rattle.cls_syntax.specs.Forms.{Part, fixed, naming, numeral, type_parts, meet_parts, product_parts, atom_parts, constructors_named, variables_named}

-- Names are collected from parts and from words in the same way: from some parts, then a sign, then others.
record Collects (of_parts : List Part → List (List ℕ)) (of_words : Bool → List Word → List (List ℕ)) : Type 0 where
  parts : (ps : List Part) (w : Word) (qs : List Part) → of_parts (ps ++ fixed w ∷ qs) ≡ of_parts ps ++ of_parts qs
  words : (b : Bool) (ws : List Word) (k : TokenKind) (vs : List Word) → of_words b (ws ++ sign k ∷ vs) ≡ of_words b ws ++ of_words (is_dollar (sign k)) vs
  open_part : (qs : List Part) → of_parts (fixed (sign Open) ∷ qs) ≡ of_parts qs
  open_word : (vs : List Word) → of_words false (sign Open ∷ vs) ≡ of_words false vs
  nothing_part : of_parts [] ≡ []
  nothing_word : of_words false [] ≡ []
  of_omega : of_parts (fixed word.omega ∷ []) ≡ of_words false (word.omega ∷ [])
  of_name : (x : List ℕ) → of_parts (naming Constructor x ∷ []) ≡ of_words false (name x ∷ [])
  of_variable : (x : List ℕ) → of_parts (fixed (sign Dollar) ∷ naming Variable x ∷ []) ≡ of_words false (sign Dollar ∷ name x ∷ [])
  of_applied : (x : List ℕ) (ps : List Part) (ws : List Word) → of_parts ps ≡ of_words false ws → of_parts (naming Constructor x ∷ fixed (sign Open) ∷ ps) ≡ of_words false (name x ∷ sign Open ∷ ws)

module _ (P : List Part → List (List ℕ)) (W : Bool → List Word → List (List ℕ)) (c : Collects P W) where
  join : (ps qs : List Part) (ws vs : List Word) (k : TokenKind) → is_dollar (sign k) ≡ false → P ps ≡ W false ws → P qs ≡ W false vs → P (ps ++ fixed (sign k) ∷ qs) ≡ W false (ws ++ sign k ∷ vs)
  join ps qs ws vs k plain a b =
      c.parts ps (sign k) qs ∙ ((λ i. a i ++ b i) ∙ sym (c.words false ws k vs ∙ ap (λ (d : Bool). W false ws ++ W d vs) plain))

  closed_same : (ps : List Part) (ws : List Word) → P ps ≡ W false ws → P (ps ++ fixed (sign Close) ∷ []) ≡ W false (ws ++ sign Close ∷ [])
  closed_same ps ws a = join ps [] ws [] Close refl a (c.nothing_part ∙ sym c.nothing_word)

  mutual
    type_same : (t : TypeText) → P (type_parts t) ≡ W false (type_words t)
    type_same (only_meet m) = meet_same m
    type_same (arrow m t) = join (meet_parts m) (type_parts t) (meet_words m) (type_words t) To refl (meet_same m) (type_same t)

    meet_same : (m : MeetText) → P (meet_parts m) ≡ W false (meet_words m)
    meet_same (only_product p) = product_same p
    meet_same (meet m p) = join (meet_parts m) (product_parts p) (meet_words m) (product_words p) And refl (meet_same m) (product_same p)

    product_same : (p : ProductText) → P (product_parts p) ≡ W false (product_words p)
    product_same (only_atom a) = atom_same a
    product_same (product p a) = join (product_parts p) (atom_parts a) (product_words p) (atom_words a) Times refl (product_same p) (atom_same a)

    atom_same : (a : AtomText) → P (atom_parts a) ≡ W false (atom_words a)
    atom_same omega = c.of_omega
    atom_same (named x) = c.of_name x
    atom_same (applied x t) = c.of_applied x (type_parts t ++ fixed (sign Close) ∷ []) (type_words t ++ sign Close ∷ []) (closed_same (type_parts t) (type_words t) (type_same t))
    atom_same (variable x) = c.of_variable x
    atom_same (inside t) =
        c.open_part (type_parts t ++ fixed (sign Close) ∷ []) ∙ (closed_same (type_parts t) (type_words t) (type_same t) ∙ sym (c.open_word (type_words t ++ sign Close ∷ [])))

constructors_join : (ps : List Part) (w : Word) (qs : List Part) → constructors_named (ps ++ fixed w ∷ qs) ≡ constructors_named ps ++ constructors_named qs
constructors_join [] w qs = refl
constructors_join (fixed v ∷ ps) w qs = constructors_join ps w qs
constructors_join (numeral l g d ∷ ps) w qs = constructors_join ps w qs
constructors_join (naming Constructor x ∷ ps) w qs = ap (λ (xs : List (List ℕ)). x ∷ xs) (constructors_join ps w qs)
constructors_join (naming _ x ∷ ps) w qs = constructors_join ps w qs

variables_join : (ps : List Part) (w : Word) (qs : List Part) → variables_named (ps ++ fixed w ∷ qs) ≡ variables_named ps ++ variables_named qs
variables_join [] w qs = refl
variables_join (fixed v ∷ ps) w qs = variables_join ps w qs
variables_join (numeral l g d ∷ ps) w qs = variables_join ps w qs
variables_join (naming Variable x ∷ ps) w qs = ap (λ (xs : List (List ℕ)). x ∷ xs) (variables_join ps w qs)
variables_join (naming NewVariable x ∷ ps) w qs = ap (λ (xs : List (List ℕ)). x ∷ xs) (variables_join ps w qs)
variables_join (naming _ x ∷ ps) w qs = variables_join ps w qs

constructors_split : (b : Bool) (ws : List Word) (k : TokenKind) (vs : List Word) → constructors_in b (ws ++ sign k ∷ vs) ≡ constructors_in b ws ++ constructors_in (is_dollar (sign k)) vs
constructors_split b [] k vs = refl
constructors_split true (w ∷ ws) k vs = ap (λ (xs : List (List ℕ)). name_text false w ++ xs) (constructors_split (is_dollar w) ws k vs) ∙ sym (append_assoc (name_text false w) (constructors_in (is_dollar w) ws) (constructors_in (is_dollar (sign k)) vs))
constructors_split false (w ∷ ws) k vs = ap (λ (xs : List (List ℕ)). name_text true w ++ xs) (constructors_split (is_dollar w) ws k vs) ∙ sym (append_assoc (name_text true w) (constructors_in (is_dollar w) ws) (constructors_in (is_dollar (sign k)) vs))

variables_split : (b : Bool) (ws : List Word) (k : TokenKind) (vs : List Word) → variables_in b (ws ++ sign k ∷ vs) ≡ variables_in b ws ++ variables_in (is_dollar (sign k)) vs
variables_split b [] k vs = refl
variables_split b (w ∷ ws) k vs = ap (λ (xs : List (List ℕ)). name_text b w ++ xs) (variables_split (is_dollar w) ws k vs) ∙ sym (append_assoc (name_text b w) (variables_in (is_dollar w) ws) (variables_in (is_dollar (sign k)) vs))

pub type_constructors : (t : TypeText) → constructors_named (type_parts t) ≡ constructors_in false (type_words t)
type_constructors t = type_same constructors_named constructors_in (record {
  parts = constructors_join;
  words = constructors_split;
  open_part = λ qs. refl;
  open_word = λ vs. refl;
  nothing_part = refl;
  nothing_word = refl;
  of_omega = refl;
  of_name = λ x. refl;
  of_variable = λ x. refl;
  of_applied = λ x ps ws e. ap (λ (xs : List (List ℕ)). x ∷ xs) e;
}) t

pub type_variables : (t : TypeText) → variables_named (type_parts t) ≡ variables_in false (type_words t)
type_variables t = type_same variables_named variables_in (record {
  parts = variables_join;
  words = variables_split;
  open_part = λ qs. refl;
  open_word = λ vs. refl;
  nothing_part = refl;
  nothing_word = refl;
  of_omega = refl;
  of_name = λ x. refl;
  of_variable = λ x. refl;
  of_applied = λ x ps ws e. e;
}) t
