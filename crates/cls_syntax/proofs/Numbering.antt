-- Numbering the names while a schema is built gives them the numbers that they have in the tables in the end.
use Rattle.std.proofs.Common.{◌≡◌, ℕ, ◌+◌, ◌<◌, Bool, true, false, List, [], ◌∷◌, refl, ap, sym, subst, ◌∙◌, drop, get_or, length}
use Rattle.std.specs.Prelude.{Option, Some, None, if◌then◌else◌}
use Rattle.std.proofs.lemmas.List.{at_drop_more}
use Rattle.std.specs.Option.{option_map}
use Rattle.cls_base.specs.Schemas as schema
use Rattle.cls_base.specs.Schemas.{OpenType}
use Rattle.cls_lexer.specs.Names.{number_of, with_texts}
use Rattle.cls_lexer.specs.declared.token.Token.{Token}
use Rattle.cls_lexer.specs.declared.token.TokenKind.TheVariants as kinds
use Rattle.cls_lexer.specs.Words as word
use Rattle.cls_lexer.specs.Words.{Word, name, number, sign, word_of, words}
use Rattle.cls_syntax.specs.Sorts.{sort_of}
use Rattle.cls_syntax.specs.TypeSchemas.{is_dollar, name_text, constructors_in, variables_in, with_constructors, with_variables}
use Rattle.cls_syntax.specs.SchemaReading.{Level, level, empty_level, Outer, whole, within, State, operand, after_dollar, after_name, after, atom_read, step_after, step_name, step, with_left, schema_reading}
use Rattle.cls_syntax.specs.Numberings.{constructors_after, variables_after, number_in, numbered_step, numbered_reading}
use Rattle.cls_syntax.proofs.GrowingTables.{comes_in, number_stays, with_more}
use Rattle.cls_syntax.proofs.SchemaImages.{Says, kind_says}

-- whether a `$` stands directly before the next token
abbrev pub is_behind : State → Bool
is_behind (after_dollar o l) = true
is_behind _ = false

abbrev pub IsNext : Option State → Bool → Type 0
IsNext None b = Unit {0}
IsNext (Some s) b = is_behind s ≡ b

after_next : (o : Outer) (l : Level) (t : OpenType) (w : Word) → IsNext (step_after o l t (sort_of w)) (is_dollar w)
after_next o (level ss m p) t (sign kinds.Times) = refl
after_next o (level ss m p) t (sign kinds.And) = refl
after_next o (level ss m p) t (sign kinds.To) = refl
after_next whole (level ss m p) t (sign kinds.Close) = tt
after_next (within o c (level ss' m' p')) (level ss m p) t (sign kinds.Close) = refl
after_next o (level ss m p) t (sign _) = tt
after_next o (level ss m p) t word.omega = tt
after_next o (level ss m p) t (name x) = tt
after_next o (level ss m p) t (number x) = tt

name_next : (o : Outer) (l : Level) (c : ℕ) (w : Word) → IsNext (step_name o l c (sort_of w)) (is_dollar w)
name_next o (level ss m p) c (sign kinds.Open) = refl
name_next o (level ss m p) c w = after_next o (level ss m None) (with_left schema.product p (schema.constructor c schema.omega)) w

module _ (constructor : List ℕ → ℕ) (variable : List ℕ → Option OpenType) where
  atom_next : (o : Outer) (l : Level) (t : Option OpenType) → IsNext (option_map (atom_read o l) t) false
  atom_next o l None = tt
  atom_next o (level ss m p) (Some t) = refl

  pub step_next : (s : State) (w : Word) (text : List ℕ) → IsNext (step constructor variable s (sort_of w) text) (is_dollar w)
  step_next (operand o (level ss m p)) word.omega text = refl
  step_next (operand o l) (name x) text = refl
  step_next (operand o l) (number x) text = tt
  step_next (operand o l) (sign kinds.Dollar) text = refl
  step_next (operand o l) (sign kinds.Open) text = refl
  step_next (operand o l) (sign _) text = tt
  step_next (after_dollar o l) word.omega text = tt
  step_next (after_dollar o l) (name x) text = atom_next o l (variable text)
  step_next (after_dollar o l) (number x) text = tt
  step_next (after_dollar o l) (sign kinds.Name) text = tt
  step_next (after_dollar o l) (sign kinds.Number) text = tt
  step_next (after_dollar o l) (sign kinds.To) text = tt
  step_next (after_dollar o l) (sign kinds.And) text = tt
  step_next (after_dollar o l) (sign kinds.Times) text = tt
  step_next (after_dollar o l) (sign kinds.Open) text = tt
  step_next (after_dollar o l) (sign kinds.Close) text = tt
  step_next (after_dollar o l) (sign kinds.Comma) text = tt
  step_next (after_dollar o l) (sign kinds.Dollar) text = tt
  step_next (after_dollar o l) (sign kinds.Colon) text = tt
  step_next (after_dollar o l) (sign kinds.Equals) text = tt
  step_next (after_dollar o l) (sign kinds.Bar) text = tt
  step_next (after_dollar o l) (sign kinds.AtMost) text = tt
  step_next (after_dollar o l) (sign kinds.Bad) text = tt
  step_next (after_name o l c) w text = name_next o l c w
  step_next (after o l t) w text = after_next o l t w

module _ (leaf : ℕ → Option OpenType) where
  -- a table of one name, and those that come after it
  number_now : (table more : List (List ℕ)) (x : List ℕ) → number_of (with_texts (with_texts table (x ∷ [])) more) x ≡ number_of (with_texts table (x ∷ [])) x
  number_now table more x = number_stays (with_texts table (x ∷ [])) more x (comes_in table x)

  -- a step with the number of the name at that time is the step with its number in the end
  step_is :
      (cs vs cs' vs' : List (List ℕ)) (s : State) (w : Word) (text : List ℕ) → Says w text
      → numbered_step leaf (number_in (constructors_after cs (is_behind s) w) (variables_after vs (is_behind s) w) (is_behind s) (sort_of w) text) s (sort_of w)
      ≡ step (number_of (with_texts (constructors_after cs (is_behind s) w) cs')) (λ x. leaf (number_of (with_texts (variables_after vs (is_behind s) w) vs') x)) s (sort_of w) text
  step_is cs vs cs' vs' (operand o (level ss m p)) word.omega text h = refl
  step_is cs vs cs' vs' (operand o l) (name x) text h =
      rw h (ap (λ (n : ℕ). Some (after_name o l n)) (sym (number_now cs cs' x)))
  step_is cs vs cs' vs' (operand o l) (number x) text h = refl
  step_is cs vs cs' vs' (operand o l) (sign kinds.Dollar) text h = refl
  step_is cs vs cs' vs' (operand o l) (sign kinds.Open) text h = refl
  step_is cs vs cs' vs' (operand o l) (sign _) text h = refl
  step_is cs vs cs' vs' (after_dollar o l) word.omega text h = refl
  step_is cs vs cs' vs' (after_dollar o l) (name x) text h =
      rw h (ap (λ (n : ℕ). option_map (atom_read o l) (leaf n)) (sym (number_now vs vs' x)))
  step_is cs vs cs' vs' (after_dollar o l) (number x) text h = refl
  step_is cs vs cs' vs' (after_dollar o l) (sign kinds.Name) text h = refl
  step_is cs vs cs' vs' (after_dollar o l) (sign kinds.Number) text h = refl
  step_is cs vs cs' vs' (after_dollar o l) (sign kinds.To) text h = refl
  step_is cs vs cs' vs' (after_dollar o l) (sign kinds.And) text h = refl
  step_is cs vs cs' vs' (after_dollar o l) (sign kinds.Times) text h = refl
  step_is cs vs cs' vs' (after_dollar o l) (sign kinds.Open) text h = refl
  step_is cs vs cs' vs' (after_dollar o l) (sign kinds.Close) text h = refl
  step_is cs vs cs' vs' (after_dollar o l) (sign kinds.Comma) text h = refl
  step_is cs vs cs' vs' (after_dollar o l) (sign kinds.Dollar) text h = refl
  step_is cs vs cs' vs' (after_dollar o l) (sign kinds.Colon) text h = refl
  step_is cs vs cs' vs' (after_dollar o l) (sign kinds.Equals) text h = refl
  step_is cs vs cs' vs' (after_dollar o l) (sign kinds.Bar) text h = refl
  step_is cs vs cs' vs' (after_dollar o l) (sign kinds.AtMost) text h = refl
  step_is cs vs cs' vs' (after_dollar o l) (sign kinds.Bad) text h = refl
  step_is cs vs cs' vs' (after_name o l c) w text h = refl
  step_is cs vs cs' vs' (after o l t) w text h = refl

  -- the tables in the end
  abbrev constructors_end : List (List ℕ) → Bool → List Token → List (List ℕ)
  constructors_end cs b ls = with_texts cs (constructors_in b (words ls))

  abbrev variables_end : List (List ℕ) → Bool → List Token → List (List ℕ)
  variables_end vs b ls = with_texts vs (variables_in b (words ls))

  abbrev IsRead : List (List ℕ) → List (List ℕ) → State → Bool → List Token → Type 0
  IsRead cs vs s b ls =
      numbered_reading leaf cs vs b s ls
      ≡ schema_reading (number_of (constructors_end cs b ls)) (λ x. leaf (number_of (variables_end vs b ls) x)) s ls

  pub reading_is : (ls : List Token) (cs vs : List (List ℕ)) (s : State) (b : Bool) → is_behind s ≡ b → IsRead cs vs s b ls
  reading_is [] cs vs s b e = refl
  reading_is (l ∷ ls) cs vs s b e =
      let w = word_of l in
      let before = is_behind s in
      let cs' = constructors_after cs before w in
      let vs' = variables_after vs before w in
      let con = number_of (constructors_end cs' (is_dollar w) ls) in
      let var : List ℕ → Option OpenType = λ x. leaf (number_of (variables_end vs' (is_dollar w) ls) x) in
      let one = step_is cs vs (constructors_in (is_dollar w) (words ls)) (variables_in (is_dollar w) (words ls)) s w l.text.now (kind_says l.kind l.text.now) in
      let next : (o : Option State) → IsNext o (is_dollar w) → (elim o as (λ _. Option OpenType) [ None ↦ None | Some t ↦ numbered_reading leaf cs' vs' (is_dollar w) t ls ]) ≡ (elim o as (λ _. Option OpenType) [ None ↦ None | Some t ↦ schema_reading con var t ls ])
      = λ o. elim o as (λ o. IsNext o (is_dollar w) → (elim o as (λ _. Option OpenType) [ None ↦ None | Some t ↦ numbered_reading leaf cs' vs' (is_dollar w) t ls ]) ≡ (elim o as (λ _. Option OpenType) [ None ↦ None | Some t ↦ schema_reading con var t ls ])) [
        | None ↦ λ k. refl
        | Some t ↦ λ k. reading_is ls cs' vs' t (is_dollar w) k
      ] in
      let read = ap (λ (o : Option State). elim o as (λ _. Option OpenType) [ None ↦ None | Some t ↦ numbered_reading leaf cs' vs' (is_dollar w) t ls ]) one ∙ next (step con var s (sort_of w) l.text.now) (step_next con var s w l.text.now) in
      let constructors = with_more cs (name_text (if before then false else true) w) (constructors_in (is_dollar w) (words ls)) in
      let variables = with_more vs (name_text before w) (variables_in (is_dollar w) (words ls)) in
      subst (λ (b : Bool). IsRead cs vs s b (l ∷ ls)) e
      (read ∙ (ap (λ (t : List (List ℕ)). schema_reading (number_of t) var s (l ∷ ls)) (sym constructors)
      ∙ ap (λ (t : List (List ℕ)). schema_reading (number_of (constructors_end cs before (l ∷ ls))) (λ x. leaf (number_of t x)) s (l ∷ ls)) (sym variables)))

  -- what is read from a state on, if there is one
  abbrev pub read_from : List (List ℕ) → List (List ℕ) → Bool → List Token → Option State → Option OpenType
  read_from cs vs b ls o = elim o as (λ _. Option OpenType) [ None ↦ None | Some t ↦ numbered_reading leaf cs vs b t ls ]

  -- one token on
  pub read_on :
      (cs vs cs' vs' : List (List ℕ)) (b : Bool) (s : State) (o : Option State) (n : ℕ) (ls : List Token) (i : ℕ) (d l : Token)
      → i < length ls → l ≡ get_or ls i d → cs' ≡ constructors_after cs b (word_of l) → vs' ≡ variables_after vs b (word_of l)
      → n ≡ number_in cs' vs' b (sort_of (word_of l)) l.text.now → o ≡ numbered_step leaf n s (sort_of (word_of l))
      → numbered_reading leaf cs vs b s (drop i ls) ≡ read_from cs' vs' (is_dollar (word_of l)) (drop (i + 1) ls) o
  read_on cs vs cs' vs' b s o n ls i d l h at con var name_is next =
      let w = word_of l in
      let rest = drop (i + 1) ls in
      let now = constructors_after cs b w in
      let also = variables_after vs b w in
      at_drop_more (λ (xs : List Token). numbered_reading leaf cs vs b s xs) ls i d h
      ∙ (ap (λ (x : Token). numbered_reading leaf cs vs b s (x ∷ rest)) (sym at)
      ∙ (ap (λ (t : List (List ℕ)). read_from t also (is_dollar w) rest (numbered_step leaf (number_in t also b (sort_of w) l.text.now) s (sort_of w))) (sym con)
      ∙ (ap (λ (t : List (List ℕ)). read_from cs' t (is_dollar w) rest (numbered_step leaf (number_in cs' t b (sort_of w) l.text.now) s (sort_of w))) (sym var)
      ∙ (ap (λ (k : ℕ). read_from cs' vs' (is_dollar w) rest (numbered_step leaf k s (sort_of w))) (sym name_is)
      ∙ ap (λ (x : Option State). read_from cs' vs' (is_dollar w) rest x) (sym next)))))

  -- numbered while it is built, or before
  pub numbered_is :
      (ls : List Token) (cs vs : List (List ℕ))
      → numbered_reading leaf cs vs false (operand whole empty_level) ls
      ≡ schema_reading (number_of (with_constructors cs (words ls))) (λ x. leaf (number_of (with_variables vs (words ls)) x)) (operand whole empty_level) ls
  numbered_is ls cs vs = reading_is ls cs vs (operand whole empty_level) false refl

-- the tables, one token on
pub constructors_on :
    (cs cs' : List (List ℕ)) (b : Bool) (ls : List Token) (i : ℕ) (d l : Token)
    → i < length ls → l ≡ get_or ls i d → cs' ≡ constructors_after cs b (word_of l)
    → with_texts cs (constructors_in b (words (drop i ls))) ≡ with_texts cs' (constructors_in (is_dollar (word_of l)) (words (drop (i + 1) ls)))
constructors_on cs cs' b ls i d l h at con =
    let rest = drop (i + 1) ls in
    at_drop_more (λ (xs : List Token). with_texts cs (constructors_in b (words xs))) ls i d h
    ∙ (ap (λ (x : Token). with_texts cs (constructors_in b (words (x ∷ rest)))) (sym at)
    ∙ (with_more cs (name_text (if b then false else true) (word_of l)) (constructors_in (is_dollar (word_of l)) (words rest))
    ∙ ap (λ (t : List (List ℕ)). with_texts t (constructors_in (is_dollar (word_of l)) (words rest))) (sym con)))

pub variables_on :
    (vs vs' : List (List ℕ)) (b : Bool) (ls : List Token) (i : ℕ) (d l : Token)
    → i < length ls → l ≡ get_or ls i d → vs' ≡ variables_after vs b (word_of l)
    → with_texts vs (variables_in b (words (drop i ls))) ≡ with_texts vs' (variables_in (is_dollar (word_of l)) (words (drop (i + 1) ls)))
variables_on vs vs' b ls i d l h at var =
    let rest = drop (i + 1) ls in
    at_drop_more (λ (xs : List Token). with_texts vs (variables_in b (words xs))) ls i d h
    ∙ (ap (λ (x : Token). with_texts vs (variables_in b (words (x ∷ rest)))) (sym at)
    ∙ (with_more vs (name_text b (word_of l)) (variables_in (is_dollar (word_of l)) (words rest))
    ∙ ap (λ (t : List (List ℕ)). with_texts t (variables_in (is_dollar (word_of l)) (words rest))) (sym var)))
