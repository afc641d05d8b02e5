-- What comes of tokens, one token on.
use Rattle.std.proofs.Common.{◌≡◌, ℕ, zero, suc, ◌+◌, ◌<◌, Bool, true, false, List, [], ◌∷◌, refl, ap, sym, subst, ◌∙◌, drop, get_or, length, arith}
use Rattle.std.specs.Prelude.{Option, Some, None, if◌then◌else◌, slice_get}
use Rattle.std.specs.Str.{bytes_eq}
use Rattle.cls_base.specs.Schemas as schema
use Rattle.cls_base.specs.Schemas.{OpenType}
use Rattle.cls_lexer.specs.Names.{number_of, with_text, with_texts}
use Rattle.cls_lexer.specs.declared.token.Token.{Token}
use Rattle.cls_lexer.specs.declared.token.TokenKind.{TokenKind}
use Rattle.cls_lexer.specs.declared.token.TokenKind.TheVariants as kinds
use Rattle.cls_lexer.specs.Words as word
use Rattle.cls_lexer.specs.Words.{Word, name, number, sign, word_from, word_of, words, reserved_name}
use Rattle.cls_syntax.specs.declared.sort.Sort.{Sort}
use Rattle.cls_syntax.specs.declared.sort.Sort.TheVariants as sort
use Rattle.cls_syntax.specs.Sorts.{sort_of}
use Rattle.cls_syntax.specs.TypeSchemas.{is_dollar, name_text, constructors_in, variables_in}
use Rattle.cls_syntax.specs.SchemaReading.{Level, level, empty_level, Outer, whole, within, State, operand, after_name, atom_read, ended}
use Rattle.cls_syntax.specs.Numberings.{constructors_after, variables_after, number_in, numbered_step, Outcome, outcome, is_opening}
use Rattle.cls_syntax.specs.WaitingStacks.{with_times, with_and, with_to}
use Rattle.cls_syntax.proofs.Numbering.{read_from, read_on, constructors_on, variables_on}
use Rattle.cls_syntax.proofs.SchemaImages.{Says, kind_says}

abbrev pub IsSign : Sort → Type 0
IsSign sort.Name = ⊥
IsSign _ = Unit {0}

abbrev pub is_dollar_sort : Sort → Bool
is_dollar_sort sort.Dollar = true
is_dollar_sort _ = false

unnamed : (wanted : Bool) (w : Word) → IsSign (sort_of w) → name_text wanted w ≡ []
unnamed wanted word.omega h = refl
unnamed wanted (name x) h = absurd h
unnamed wanted (number n) h = refl
unnamed wanted (sign kind) h = refl

dollar_is : (w : Word) → is_dollar w ≡ is_dollar_sort (sort_of w)
dollar_is (sign kinds.Dollar) = refl
dollar_is (sign _) = refl
dollar_is _ = refl

named : (w : Word) (text : List ℕ) → Says w text → sort_of w ≡ sort.Name → name_text true w ≡ text ∷ []
named (name x) text h e = ap (λ (t : List ℕ). t ∷ []) (sym h)
named (sign kinds.Dollar) text h e = cc
named (sign _) text h e = cc
named _ text h e = cc

named_elsewhere : (w : Word) → sort_of w ≡ sort.Name → name_text false w ≡ []
named_elsewhere (name x) e = refl
named_elsewhere _ e = refl

no_number : (cs vs : List (List ℕ)) (b : Bool) (q : Sort) (text : List ℕ) → IsSign q → 0 ≡ number_in cs vs b q text
no_number cs vs b sort.Name text h = absurd h
no_number cs vs b _ text h = refl

-- where a parenthesis opens
open_kind : (k : TokenKind) → (elim k as (λ _. Bool) [ kinds.Open ↦ true | _ ↦ false ]) ≡ true → k ≡ kinds.Open
open_kind kinds.Open e = refl
open_kind _ e = cc

opening_there : (ls : List Token) (i : ℕ) (d : Token) → is_opening (slice_get ls i) ≡ true → (i < length ls) × ((get_or ls i d).kind ≡ kinds.Open)
opening_there [] i d e = cc
opening_there (l ∷ ls) zero d e = (omega arith, open_kind l.kind e)
opening_there (l ∷ ls) (suc i) d e = let k = opening_there ls i d e in (omega (arith, k.0), k.1)

name_not_open : (b : Bool) (text : List ℕ) → sort_of (if b then word.omega else name text) ≡ sort.Open → ⊥
name_not_open true text e = cc
name_not_open false text e = cc

not_open : (k : TokenKind) (text : List ℕ) → (elim k as (λ _. Bool) [ kinds.Open ↦ true | _ ↦ false ]) ≡ false → sort_of (word_from k text) ≡ sort.Open → ⊥
not_open kinds.Open text n e = cc
not_open kinds.Name text n e = name_not_open (bytes_eq text reserved_name) text e
not_open _ text n e = cc

front_is : (ls : List Token) (i : ℕ) → slice_get ls i ≡ slice_get (drop i ls) 0
front_is [] zero = refl
front_is [] (suc i) = refl
front_is (l ∷ ls) zero = refl
front_is (l ∷ ls) (suc i) = front_is ls i

module _ (leaf : ℕ → Option OpenType) where
  -- what comes of what follows, if a state was reached
  abbrev pub outcome_from : List (List ℕ) → List (List ℕ) → Bool → List Token → Option State → Outcome
  outcome_from cs vs b ls o = record {
    schema = read_from leaf cs vs b ls o;
    constructors = with_texts cs (constructors_in b (words ls));
    variables = with_texts vs (variables_in b (words ls));
  }

  outcome_on :
      (cs vs cs' vs' : List (List ℕ)) (b : Bool) (s : State) (n : ℕ) (ls : List Token) (i : ℕ) (d l : Token)
      → i < length ls → l ≡ get_or ls i d → cs' ≡ constructors_after cs b (word_of l) → vs' ≡ variables_after vs b (word_of l)
      → n ≡ number_in cs' vs' b (sort_of (word_of l)) l.text.now
      → outcome leaf cs vs b s (drop i ls) ≡ outcome_from cs' vs' (is_dollar (word_of l)) (drop (i + 1) ls) (numbered_step leaf n s (sort_of (word_of l)))
  outcome_on cs vs cs' vs' b s n ls i d l h at con var is =
      let read = read_on leaf cs vs cs' vs' b s (numbered_step leaf n s (sort_of (word_of l))) n ls i d l h at con var is refl in
      let constructors = constructors_on cs cs' b ls i d l h at con in
      let variables = variables_on vs vs' b ls i d l h at var in
      λ k. record { schema = read k; constructors = constructors k; variables = variables k }

  -- a token that is no name
  pub sign_on :
      (cs vs : List (List ℕ)) (b : Bool) (s : State) (ls : List Token) (i : ℕ) (d l : Token) (q : Sort)
      → i < length ls → l ≡ get_or ls i d → sort_of (word_of l) ≡ q → IsSign q
      → outcome leaf cs vs b s (drop i ls) ≡ outcome_from cs vs (is_dollar_sort q) (drop (i + 1) ls) (numbered_step leaf 0 s q)
  sign_on cs vs b s ls i d l q h at e sign_q =
      let w = word_of l in
      let here = subst IsSign (sym e) sign_q in
      let con = sym (ap (with_texts cs) (unnamed (if b then false else true) w here)) in
      let var = sym (ap (with_texts vs) (unnamed b w here)) in
      outcome_on cs vs cs vs b s 0 ls i d l h at con var (no_number cs vs b (sort_of w) l.text.now here)
      ∙ (ap (λ (b : Bool). outcome_from cs vs b (drop (i + 1) ls) (numbered_step leaf 0 s (sort_of w))) (dollar_is w)
      ∙ ap (λ (q : Sort). outcome_from cs vs (is_dollar_sort q) (drop (i + 1) ls) (numbered_step leaf 0 s q)) e)

  -- a constructor
  pub name_on :
      (cs vs cs' : List (List ℕ)) (s : State) (n : ℕ) (ls : List Token) (i : ℕ) (d l : Token)
      → i < length ls → l ≡ get_or ls i d → sort_of (word_of l) ≡ sort.Name → cs' ≡ with_text cs l.text.now → n ≡ number_of cs' l.text.now
      → outcome leaf cs vs false s (drop i ls) ≡ outcome_from cs' vs false (drop (i + 1) ls) (numbered_step leaf n s sort.Name)
  name_on cs vs cs' s n ls i d l h at e table is =
      let w = word_of l in
      let con = table ∙ sym (ap (with_texts cs) (named w l.text.now (kind_says l.kind l.text.now) e)) in
      let var = sym (ap (with_texts vs) (named_elsewhere w e)) in
      outcome_on cs vs cs' vs false s n ls i d l h at con var (is ∙ sym (ap (λ (q : Sort). number_in cs' vs false q l.text.now) e))
      ∙ (ap (λ (b : Bool). outcome_from cs' vs b (drop (i + 1) ls) (numbered_step leaf n s (sort_of w))) (dollar_is w)
      ∙ ap (λ (q : Sort). outcome_from cs' vs (is_dollar_sort q) (drop (i + 1) ls) (numbered_step leaf n s q)) e)

  -- a bare name is an atom where no parenthesis opens behind it
  step_same : (o : Outer) (l : Level) (c n : ℕ) (q : Sort) → (q ≡ sort.Open → ⊥) → numbered_step leaf n (after_name o l c) q ≡ numbered_step leaf n (atom_read o l (schema.constructor c schema.omega)) q
  step_same o (level ss m p) c n sort.Open f = absurd (f refl)
  step_same o (level ss m p) c n _ f = refl

  ended_same : (o : Outer) (l : Level) (c : ℕ) → ended (after_name o l c) ≡ ended (atom_read o l (schema.constructor c schema.omega))
  ended_same whole (level ss m p) c = refl
  ended_same (within k n j) (level ss m p) c = refl

  bare_front : (cs vs : List (List ℕ)) (o : Outer) (l : Level) (c : ℕ) (ls : List Token) → is_opening (slice_get ls 0) ≡ false → outcome leaf cs vs false (after_name o l c) ls ≡ outcome leaf cs vs false (atom_read o l (schema.constructor c schema.omega)) ls
  bare_front cs vs o l c [] h = ap (λ (s : Option OpenType). record { schema = s; constructors = cs; variables = vs }) (ended_same o l c)
  bare_front cs vs o l c (t ∷ ls) h =
      let w = word_of t in
      let cs' = constructors_after cs false w in
      let vs' = variables_after vs false w in
      let schema = ap (read_from leaf cs' vs' (is_dollar w) ls) (step_same o l c (number_in cs' vs' false (sort_of w) t.text.now) (sort_of w) (not_open t.kind t.text.now h)) in
      λ k. record { schema = schema k; constructors = with_texts cs (constructors_in false (words (t ∷ ls))); variables = with_texts vs (variables_in false (words (t ∷ ls))) }

  pub bare_on : (cs vs : List (List ℕ)) (o : Outer) (l : Level) (c : ℕ) (ls : List Token) (i : ℕ) → is_opening (slice_get ls i) ≡ false → outcome leaf cs vs false (after_name o l c) (drop i ls) ≡ outcome leaf cs vs false (atom_read o l (schema.constructor c schema.omega)) (drop i ls)
  bare_on cs vs o l c ls i h = bare_front cs vs o l c (drop i ls) (ap is_opening (sym (front_is ls i)) ∙ h)

  -- an operator
  operator_on : (cs vs : List (List ℕ)) (o : Outer) (l k : Level) (t : OpenType) (ls : List Token) (i : ℕ) (d x : Token) (q : Sort) → i < length ls → x ≡ get_or ls i d → sort_of (word_of x) ≡ q → IsSign q → is_dollar_sort q ≡ false → numbered_step leaf 0 (atom_read o l t) q ≡ Some (operand o k)
      → outcome leaf cs vs false (operand o k) (drop (i + 1) ls) ≡ outcome leaf cs vs false (atom_read o l t) (drop i ls)
  operator_on cs vs o l k t ls i d x q h at e sign_q dollar step =
      sym (sign_on cs vs false (atom_read o l t) ls i d x q h at e sign_q
      ∙ (ap (λ (b : Bool). outcome_from cs vs b (drop (i + 1) ls) (numbered_step leaf 0 (atom_read o l t) q)) dollar
      ∙ ap (outcome_from cs vs false (drop (i + 1) ls)) step))

  pub times_on : (cs vs : List (List ℕ)) (o : Outer) (l : Level) (t : OpenType) (ls : List Token) (i : ℕ) (d : Token) → i < length ls → (get_or ls i d).kind ≡ kinds.Times → outcome leaf cs vs false (operand o (with_times l t)) (drop (i + 1) ls) ≡ outcome leaf cs vs false (atom_read o l t) (drop i ls)
  times_on cs vs o (level ss m p) t ls i d h e = operator_on cs vs o (level ss m p) _ t ls i d (get_or ls i d) sort.Times h refl (ap (λ (k : TokenKind). sort_of (word_from k (get_or ls i d).text.now)) e) tt refl refl

  pub and_on : (cs vs : List (List ℕ)) (o : Outer) (l : Level) (t : OpenType) (ls : List Token) (i : ℕ) (d : Token) → i < length ls → (get_or ls i d).kind ≡ kinds.And → outcome leaf cs vs false (operand o (with_and l t)) (drop (i + 1) ls) ≡ outcome leaf cs vs false (atom_read o l t) (drop i ls)
  and_on cs vs o (level ss m p) t ls i d h e = operator_on cs vs o (level ss m p) _ t ls i d (get_or ls i d) sort.And h refl (ap (λ (k : TokenKind). sort_of (word_from k (get_or ls i d).text.now)) e) tt refl refl

  pub to_on : (cs vs : List (List ℕ)) (o : Outer) (l : Level) (t : OpenType) (ls : List Token) (i : ℕ) (d : Token) → i < length ls → (get_or ls i d).kind ≡ kinds.To → outcome leaf cs vs false (operand o (with_to l t)) (drop (i + 1) ls) ≡ outcome leaf cs vs false (atom_read o l t) (drop i ls)
  to_on cs vs o (level ss m p) t ls i d h e = operator_on cs vs o (level ss m p) _ t ls i d (get_or ls i d) sort.To h refl (ap (λ (k : TokenKind). sort_of (word_from k (get_or ls i d).text.now)) e) tt refl refl

  -- a parenthesis
  pub open_on : (cs vs : List (List ℕ)) (o : Outer) (l : Level) (ls : List Token) (i : ℕ) (d x : Token) → i < length ls → x ≡ get_or ls i d → sort_of (word_of x) ≡ sort.Open → outcome leaf cs vs false (operand (within o None l) empty_level) (drop (i + 1) ls) ≡ outcome leaf cs vs false (operand o l) (drop i ls)
  open_on cs vs o l ls i d x h at e = sym (sign_on cs vs false (operand o l) ls i d x sort.Open h at e tt)

  pub open_behind : (cs vs : List (List ℕ)) (o : Outer) (l : Level) (c : ℕ) (ls : List Token) (i : ℕ) (d : Token) → is_opening (slice_get ls i) ≡ true → outcome leaf cs vs false (operand (within o (Some c) l) empty_level) (drop (i + 1) ls) ≡ outcome leaf cs vs false (after_name o l c) (drop i ls)
  open_behind cs vs o l c ls i d e =
      let there = opening_there ls i d e in
      sym (sign_on cs vs false (after_name o l c) ls i d (get_or ls i d) sort.Open there.0 refl (ap (λ (k : TokenKind). sort_of (word_from k (get_or ls i d).text.now)) there.1) tt)
