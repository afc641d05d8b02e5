-- Reading tokens without a `$` makes the same, whatever variables are.
use Rattle.std.proofs.Common.{◌≡◌, ℕ, true, List, [], ◌∷◌, refl, ap, sym, ◌∙◌}
use Rattle.std.specs.Prelude.{Option, Some, None}
use Rattle.std.specs.List.{list_any}
use Rattle.std.proofs.lemmas.Bool.{or_parts, false≢true}
use Rattle.cls_base.specs.Schemas as schema
use Rattle.cls_base.specs.Schemas.{OpenType}
use Rattle.cls_lexer.specs.declared.token.Token.{Token}
use Rattle.cls_lexer.specs.declared.token.TokenKind.TheVariants as kinds
use Rattle.cls_lexer.specs.Words as word
use Rattle.cls_lexer.specs.Words.{Word, name, number, sign, word_of, words}
use Rattle.cls_syntax.specs.declared.sort.Sort.{Sort}
use Rattle.cls_syntax.specs.declared.sort.Sort.TheVariants.{Omega, Name, To, And, Times, Open, Close, Dollar}
use Rattle.cls_syntax.specs.Sorts.{sort_of}
use Rattle.cls_syntax.specs.ClosedTypes.{HasNoDollar}
use Rattle.cls_syntax.specs.TypeTexts.{TypeText, type_words}
use Rattle.cls_syntax.specs.TypeSchemas.{is_dollar, type_schema}
use Rattle.cls_syntax.specs.SchemaReading.{Level, level, empty_level, Outer, whole, within, State, operand, after_dollar, after_name, after, step_after, step_name, step, with_left, schema_reading}
use Rattle.cls_syntax.proofs.SchemaImages.{schema_is}

-- no name of a variable comes next
abbrev IsFree : State → Type 0
IsFree (after_dollar o l) = ⊥
IsFree _ = Unit {0}

abbrev IsFreeNext : Option State → Type 0
IsFreeNext None = Unit {0}
IsFreeNext (Some s) = IsFree s

after_free : (o : Outer) (l : Level) (t : OpenType) (sort : Sort) → IsFreeNext (step_after o l t sort)
after_free o (level ss m p) t Times = tt
after_free o (level ss m p) t And = tt
after_free o (level ss m p) t To = tt
after_free whole (level ss m p) t Close = tt
after_free (within o c (level ss' m' p')) (level ss m p) t Close = tt
after_free o (level ss m p) t _ = tt

name_free : (o : Outer) (l : Level) (c : ℕ) (sort : Sort) → IsFreeNext (step_name o l c sort)
name_free o (level ss m p) c Open = tt
name_free o (level ss m p) c sort = after_free o (level ss m None) (with_left schema.product p (schema.constructor c schema.omega)) sort

-- only the sign `$` is of its sort
dollar_sort : (w : Word) → sort_of w ≡ Dollar → is_dollar w ≡ true
dollar_sort word.omega e = cc
dollar_sort (name x) e = cc
dollar_sort (number n) e = cc
dollar_sort (sign kinds.Dollar) e = refl
dollar_sort (sign _) e = cc

module _ (constructor : List ℕ → ℕ) (leaf leaf' : List ℕ → Option OpenType) where
  step_same :
      (s : State) (sort : Sort) (text : List ℕ) → IsFree s → (sort ≡ Dollar → ⊥)
      → (step constructor leaf s sort text ≡ step constructor leaf' s sort text) × IsFreeNext (step constructor leaf s sort text)
  step_same (operand o (level ss m p)) Omega text h n = (refl, tt)
  step_same (operand o l) Name text h n = (refl, tt)
  step_same (operand o l) Dollar text h n = absurd (n refl)
  step_same (operand o l) Open text h n = (refl, tt)
  step_same (operand o l) _ text h n = (refl, tt)
  step_same (after_dollar o l) sort text h n = absurd h
  step_same (after_name o l c) sort text h n = (refl, name_free o l c sort)
  step_same (after o l t) sort text h n = (refl, after_free o l t sort)

  reading_same :
      (ls : List Token) (s : State) → IsFree s → HasNoDollar (words ls)
      → schema_reading constructor leaf s ls ≡ schema_reading constructor leaf' s ls
  reading_same [] s h n = refl
  reading_same (l ∷ ls) s h n =
      let parts = or_parts (is_dollar (word_of l)) (list_any is_dollar (words ls)) n in
      let one = step_same s (sort_of (word_of l)) l.text.now h (λ e. false≢true (sym parts.0 ∙ dollar_sort (word_of l) e)) in
      let next : (o : Option State) → IsFreeNext o → (elim o as (λ _. Option OpenType) [ None ↦ None | Some t ↦ schema_reading constructor leaf t ls ]) ≡ (elim o as (λ _. Option OpenType) [ None ↦ None | Some t ↦ schema_reading constructor leaf' t ls ])
      = λ o. elim o as (λ o. IsFreeNext o → (elim o as (λ _. Option OpenType) [ None ↦ None | Some t ↦ schema_reading constructor leaf t ls ]) ≡ (elim o as (λ _. Option OpenType) [ None ↦ None | Some t ↦ schema_reading constructor leaf' t ls ])) [ None ↦ λ k. refl | Some t ↦ λ k. reading_same ls t k parts.1 ] in
      next (step constructor leaf s (sort_of (word_of l)) l.text.now) one.1
      ∙ ap (λ (o : Option State). elim o as (λ _. Option OpenType) [ None ↦ None | Some t ↦ schema_reading constructor leaf' t ls ]) one.0

-- the tokens of a type without variables make its schema, whatever variables are
pub closed_is :
    (constructor variable : List ℕ → ℕ) (leaf : List ℕ → Option OpenType) (ls : List Token) (t : TypeText) → words ls ≡ type_words t
    → HasNoDollar (words ls) → schema_reading constructor leaf (operand whole empty_level) ls ≡ Some (type_schema constructor variable t)
closed_is constructor variable leaf ls t e n =
    reading_same constructor leaf (λ x. Some (schema.variable (variable x))) ls (operand whole empty_level) tt n ∙ schema_is constructor variable ls t e
