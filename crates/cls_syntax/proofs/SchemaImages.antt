-- Reading the tokens of a type makes its schema.
use Rattle.std.proofs.Common.{◌≡◌, ℕ, Bool, true, false, List, [], ◌∷◌, ◌++◌, refl, ap, sym, ◌∙◌}
use Rattle.std.specs.Prelude.{Option, Some, None, if◌then◌else◌}
use Rattle.std.specs.Option.{option_map}
use Rattle.std.specs.Str.{bytes_eq}
use Rattle.cls_base.specs.Schemas as schema
use Rattle.cls_base.specs.Schemas.{OpenType}
use Rattle.cls_lexer.specs.declared.token.TokenKind.{TokenKind}
use Rattle.cls_lexer.specs.declared.token.TokenKind.TheVariants as kinds
use Rattle.cls_syntax.specs.declared.sort.Sort.{Sort}
use Rattle.cls_lexer.specs.declared.token.Token.{Token}
use Rattle.cls_lexer.specs.Words as word
use Rattle.cls_lexer.specs.Words.{Word, name, number, sign, word_from, word_of, reserved_name}
use Rattle.cls_syntax.specs.Sorts.{sort_of}
use Rattle.cls_lexer.specs.Words.{words}
use Rattle.cls_syntax.specs.TypeTexts.{TypeText, MeetText, ProductText, AtomText, only_meet, arrow, only_product, meet, only_atom, product, named, applied, variable, inside, type_words}
use Rattle.cls_syntax.specs.TypeTexts as grammar
use Rattle.cls_syntax.specs.TypeReading as reading
use Rattle.cls_syntax.specs.TypeReading.{Opener, plain, of_name, type_machine, with_product, with_meet, with_sources, closed, enclosed, after_atom}
use Rattle.cls_syntax.specs.TypeSchemas.{type_schema, meet_schema, product_schema, atom_schema}
use Rattle.cls_syntax.specs.SchemaReading as tree
use Rattle.cls_syntax.specs.SchemaReading.{atom_read, step_after, step_name, step, ended, schema_reading}
use Rattle.cls_syntax.proofs.MachineRuns.{run}
use Rattle.cls_syntax.proofs.TypeReads as types

-- the text beside a word is the word's, where it is a name
abbrev pub Says : Word → List ℕ → Type 0
Says word.omega text = Unit {0}
Says (name x) text = text ≡ x
Says (number n) text = Unit {0}
Says (sign kind) text = Unit {0}

name_says : (b : Bool) (text : List ℕ) → Says (if b then word.omega else name text) text
name_says true text = tt
name_says false text = refl

pub kind_says : (kind : TokenKind) (text : List ℕ) → Says (word_from kind text) text
kind_says kinds.Name text = name_says (bytes_eq text reserved_name) text
kind_says kinds.Number text = tt
kind_says _ text = tt

module _ (constructor variable_number : List ℕ → ℕ) where
  abbrev sources : List MeetText → List OpenType
  sources [] = []
  sources (m ∷ ss) = sources ss ++ meet_schema constructor variable_number m ∷ []

  abbrev a_meet : Option MeetText → Option OpenType
  a_meet m = option_map (meet_schema constructor variable_number) m

  abbrev a_product : Option ProductText → Option OpenType
  a_product p = option_map (product_schema constructor variable_number) p

  abbrev level_image : reading.Level → tree.Level
  level_image (reading.level ss m p) = tree.level (sources ss) (a_meet m) (a_product p)

  abbrev opener_image : Opener → Option ℕ
  opener_image plain = None
  opener_image (of_name x) = Some (constructor x)

  abbrev outer_image : reading.Outer → tree.Outer
  outer_image reading.whole = tree.whole
  outer_image (reading.within o k l) = tree.within (outer_image o) (opener_image k) (level_image l)

  abbrev image : reading.State → tree.State
  image (reading.operand o l) = tree.operand (outer_image o) (level_image l)
  image (reading.after_dollar o l) = tree.after_dollar (outer_image o) (level_image l)
  image (reading.after_name o l x) = tree.after_name (outer_image o) (level_image l) (constructor x)
  image (reading.after o ss m p) = tree.after (outer_image o) (tree.level (sources ss) (a_meet m) None) (product_schema constructor variable_number p)

  product_is : (p : Option ProductText) (a : AtomText) → product_schema constructor variable_number (with_product p a) ≡ tree.with_left schema.product (a_product p) (atom_schema constructor variable_number a)
  product_is None a = refl
  product_is (Some p) a = refl

  meet_is : (m : Option MeetText) (p : ProductText) → meet_schema constructor variable_number (with_meet m p) ≡ tree.with_left schema.meet (a_meet m) (product_schema constructor variable_number p)
  meet_is None p = refl
  meet_is (Some m) p = refl

  last_source : (ss : List OpenType) (s t : OpenType) → tree.with_sources (ss ++ s ∷ []) t ≡ tree.with_sources ss (schema.arrow s t)
  last_source [] s t = refl
  last_source (r ∷ ss) s t = ap (schema.arrow r) (last_source ss s t)

  sources_is : (ss : List MeetText) (t : TypeText) → type_schema constructor variable_number (with_sources ss t) ≡ tree.with_sources (sources ss) (type_schema constructor variable_number t)
  sources_is [] t = refl
  sources_is (m ∷ ss) t = sources_is ss (arrow m t) ∙ sym (last_source (sources ss) (meet_schema constructor variable_number m) (type_schema constructor variable_number t))

  closed_is : (ss : List MeetText) (m : Option MeetText) (p : ProductText) → type_schema constructor variable_number (closed ss m p) ≡ tree.closed (tree.level (sources ss) (a_meet m) None) (product_schema constructor variable_number p)
  closed_is ss m p = sources_is ss (only_meet (with_meet m p)) ∙ ap (tree.with_sources (sources ss)) (meet_is m p)

  enclosed_is : (k : Opener) (t : TypeText) → atom_schema constructor variable_number (enclosed k t) ≡ tree.applied (opener_image k) (type_schema constructor variable_number t)
  enclosed_is plain t = refl
  enclosed_is (of_name x) t = refl

  atom_is : (o : reading.Outer) (l : reading.Level) (a : AtomText) → image (after_atom o l a) ≡ atom_read (outer_image o) (level_image l) (atom_schema constructor variable_number a)
  atom_is o (reading.level ss m p) a = ap (tree.after (outer_image o) (tree.level (sources ss) (a_meet m) None)) (product_is p a)

  -- a step of the one is a step of the other
  abbrev After : reading.Outer → List MeetText → Option MeetText → ProductText → Word → Type 0
  After o ss m p w = step_after (outer_image o) (tree.level (sources ss) (a_meet m) None) (product_schema constructor variable_number p) (sort_of w) ≡ option_map image (reading.step_after o ss m p w)

  step_after_is : (o : reading.Outer) (ss : List MeetText) (m : Option MeetText) (p : ProductText) (w : Word) → After o ss m p w
  step_after_is o ss m p (sign kinds.Times) = refl
  step_after_is o ss m p (sign kinds.And) = ap (λ (t : OpenType). Some (tree.operand (outer_image o) (tree.level (sources ss) (Some t) None))) (sym (meet_is m p))
  step_after_is o ss m p (sign kinds.To) = ap (λ (t : OpenType). Some (tree.operand (outer_image o) (tree.level (sources ss ++ t ∷ []) None None))) (sym (meet_is m p))
  step_after_is reading.whole ss m p (sign kinds.Close) = refl
  step_after_is (reading.within o k l) ss m p (sign kinds.Close) = ap (λ (x : tree.State). Some x) (sym (atom_is o l (enclosed k (closed ss m p)) ∙ ap (atom_read (outer_image o) (level_image l)) (enclosed_is k (closed ss m p) ∙ ap (tree.applied (opener_image k)) (closed_is ss m p))))
  step_after_is o ss m p _ = refl

  step_name_is : (o : reading.Outer) (l : reading.Level) (x : List ℕ) (w : Word) → step_name (outer_image o) (level_image l) (constructor x) (sort_of w) ≡ option_map image (reading.step_name o l x w)
  step_name_is o l x (sign kinds.Open) = refl
  step_name_is o (reading.level ss m p) x w = ap (λ (t : OpenType). step_after (outer_image o) (tree.level (sources ss) (a_meet m) None) t (sort_of w)) (sym (product_is p (named x))) ∙ step_after_is o ss m (with_product p (named x)) w

  -- a variable is its number
  abbrev numbered : List ℕ → Option OpenType
  numbered x = Some (schema.variable (variable_number x))

  abbrev schema_step : tree.State → Sort → List ℕ → Option tree.State
  schema_step s sort text = step constructor numbered s sort text

  dollar_sign : (o : tree.Outer) (l : tree.Level) (kind : TokenKind) (text : List ℕ) → schema_step (tree.after_dollar o l) (sort_of (sign kind)) text ≡ None
  dollar_sign o l kinds.To text = refl
  dollar_sign o l _ text = refl

  step_is : (s : reading.State) (w : Word) (text : List ℕ) → Says w text → schema_step (image s) (sort_of w) text ≡ option_map image (reading.step s w)
  step_is (reading.operand o l) word.omega text h = ap (λ (x : tree.State). Some x) (sym (atom_is o l grammar.omega))
  step_is (reading.operand o l) (name x) text h = ap (λ (y : List ℕ). Some (tree.after_name (outer_image o) (level_image l) (constructor y))) h
  step_is (reading.operand o l) (sign kinds.Dollar) text h = refl
  step_is (reading.operand o l) (sign kinds.Open) text h = refl
  step_is (reading.operand o l) _ text h = refl
  step_is (reading.after_dollar o l) (name x) text h = ap (λ (y : List ℕ). Some (atom_read (outer_image o) (level_image l) (schema.variable (variable_number y)))) h ∙ ap (λ (x : tree.State). Some x) (sym (atom_is o l (variable x)))
  step_is (reading.after_dollar o l) (sign kind) text h = dollar_sign (outer_image o) (level_image l) kind text
  step_is (reading.after_dollar o l) _ text h = refl
  step_is (reading.after_name o l x) w text h = step_name_is o l x w
  step_is (reading.after o ss m p) w text h = step_after_is o ss m p w

  ended_is : (s : reading.State) → ended (image s) ≡ option_map (type_schema constructor variable_number) (reading.ended s)
  ended_is (reading.after reading.whole ss m p) = ap (λ (t : OpenType). Some t) (sym (closed_is ss m p))
  ended_is (reading.after (reading.within o k l) ss m p) = refl
  ended_is (reading.after_name reading.whole (reading.level ss m p) x) = ap (λ (t : OpenType). Some (tree.closed (tree.level (sources ss) (a_meet m) None) t)) (sym (product_is p (named x))) ∙ ap (λ (t : OpenType). Some t) (sym (closed_is ss m (with_product p (named x))))
  ended_is (reading.after_name (reading.within o k l) m x) = refl
  ended_is (reading.operand o l) = refl
  ended_is (reading.after_dollar o l) = refl

  run_is : (ls : List Token) (s s' : reading.State) → run type_machine s (words ls) ≡ Some s' → schema_reading constructor numbered (image s) ls ≡ ended (image s')
  run_is [] s s' h = let e : s ≡ s' = cc in ap (λ (x : reading.State). ended (image x)) e
  run_is (l ∷ ls) s s' h =
      let next : (o : Option reading.State) → (elim o as (λ _. Option reading.State) [ None ↦ None | Some t ↦ run type_machine t (words ls) ]) ≡ Some s' → (elim (option_map image o) as (λ _. Option OpenType) [ None ↦ None | Some t ↦ schema_reading constructor numbered t ls ]) ≡ ended (image s')
      = λ o. elim o as (λ o. (elim o as (λ _. Option reading.State) [ None ↦ None | Some t ↦ run type_machine t (words ls) ]) ≡ Some s' → (elim (option_map image o) as (λ _. Option OpenType) [ None ↦ None | Some t ↦ schema_reading constructor numbered t ls ]) ≡ ended (image s')) [ None ↦ λ k. cc | Some t ↦ λ k. run_is ls t s' k ] in
      ap (λ (o : Option tree.State). elim o as (λ _. Option OpenType) [ None ↦ None | Some t ↦ schema_reading constructor numbered t ls ]) (step_is s (word_of l) l.text.now (kind_says l.kind l.text.now)) ∙ next (reading.step s (word_of l)) h

  -- the tokens of a type make its schema
  pub schema_is : (ls : List Token) (t : TypeText) → words ls ≡ type_words t → schema_reading constructor (λ x. Some (schema.variable (variable_number x))) (tree.operand tree.whole tree.empty_level) ls ≡ Some (type_schema constructor variable_number t)
  schema_is ls t e =
      run_is ls reading.start (types.past t) (ap (run type_machine reading.start) e ∙ types.type_reads.runs t)
      ∙ (ended_is (types.past t) ∙ ap (option_map (type_schema constructor variable_number)) (types.type_reads.ends t))
