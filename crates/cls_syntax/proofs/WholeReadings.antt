-- Where the builder's machine reads all the tokens, they are the whole of a type.
use Rattle.std.proofs.Common.{◌≡◌, ℕ, ◌+◌, Bool, false, List, [], ◌∷◌, refl, ap, sym, ◌∙◌, subst, map, length, arith}
use Rattle.std.specs.Prelude.{Option, Some, None, Result, Ok, IsTrue, ◌||◌}
use Rattle.std.specs.Option.{option_map}
use Rattle.std.specs.List.{list_any}
use Rattle.std.proofs.Math.Seq.{take-length}
use Rattle.cls_base.specs.Schemas as schema
use Rattle.cls_base.specs.Schemas.{OpenType}
use Rattle.cls_lexer.specs.declared.token.Token.{Token}
use Rattle.cls_lexer.specs.Words.{word_of, words}
use Rattle.cls_syntax.specs.declared.sort.Sort.{Sort}
use Rattle.cls_syntax.specs.declared.sort.Sort.TheVariants.{Omega, Name, To, And, Times, Open, Close, Dollar}
use Rattle.cls_syntax.specs.declared.type_shape.Mode.{Mode}
use Rattle.cls_syntax.specs.declared.type_shape.Mode.TheVariants as modes
use Rattle.cls_syntax.specs.declared.type_shape.TypeShape.{TypeShape}
use Rattle.cls_syntax.specs.ClosedTypes.{HasNoDollar}
use Rattle.cls_syntax.specs.Numberings.{constructors_after, variables_after, number_in, numbered_step, numbered_reading}
use Rattle.cls_syntax.specs.SchemaReading.{Level, level, empty_level, Outer, whole, within, State, operand, after_dollar, after_name, after, atom_read, step_after, step_name, ended, with_left}
use Rattle.cls_syntax.specs.Sorts.{sort_of}
use Rattle.cls_syntax.specs.Spans.{is_whole}
use Rattle.cls_syntax.specs.TypeReading.{type_front}
use Rattle.cls_syntax.specs.TypeSchemas.{is_dollar}
use Rattle.cls_syntax.specs.TypeShapes.{held, shape_after, shape_name, shape_step, shape_stopped, shape_start, shape_reading}
use Rattle.cls_syntax.proofs.Numbering.{is_behind, IsNext, step_next, read_from}
use Rattle.cls_syntax.proofs.TypeSpans.{type_span}

abbrev mode_of : State → Mode
mode_of (operand o l) = modes.Operand
mode_of (after_dollar o l) = modes.AfterDollar
mode_of (after_name o l c) = modes.AfterName
mode_of (after o l t) = modes.After

abbrev depth_of : Outer → ℕ
depth_of whole = 0
depth_of (within o c l) = depth_of o + 1

abbrev open_of : State → ℕ
open_of (operand o l) = depth_of o
open_of (after_dollar o l) = depth_of o
open_of (after_name o l c) = depth_of o
open_of (after o l t) = depth_of o

abbrev shape : Mode → ℕ → ℕ → TypeShape
shape mode depth n = record { mode = mode; depth = depth; nodes = n }

-- the shape of a state, with any number of nodes
abbrev image : State → ℕ → TypeShape
image s n = shape (mode_of s) (open_of s) n

-- where the builder goes on, so does the shape
abbrev Follows : Option State → Option TypeShape → Type 0
Follows None r = Unit {0}
Follows (Some s) r = (n : ℕ) × (r ≡ Some (image s n))

closing : (n d : ℕ) → shape_after (shape modes.After (d + 1) n) Close ≡ Some (shape modes.After d n)
closing n d = grind arith

follows_after : (o : Outer) (l : Level) (t : OpenType) (n : ℕ) (k : Sort) → Follows (step_after o l t k) (shape_after (shape modes.After (depth_of o) n) k)
follows_after o (level ss m p) t n Times = (held (n + 1), refl)
follows_after o (level ss m p) t n And = (held (n + 1), refl)
follows_after o (level ss m p) t n To = (held (n + 1), refl)
follows_after whole (level ss m p) t n Close = tt
follows_after (within o c (level ss' m' p')) (level ss m p) t n Close = (n, closing n (depth_of o))
follows_after o (level ss m p) t n _ = tt

follows_name : (o : Outer) (l : Level) (c n : ℕ) (k : Sort) → Follows (step_name o l c k) (shape_name (shape modes.AfterName (depth_of o) n) k)
follows_name o (level ss m p) c n Open = (n, refl)
follows_name o (level ss m p) c n k = follows_after o (level ss m None) (with_left schema.product p (schema.constructor c schema.omega)) (held (n + 1)) k

follows_variable : (o : Outer) (l : Level) (t : Option OpenType) (n : ℕ) → Follows (option_map (atom_read o l) t) (Some (shape modes.After (depth_of o) n))
follows_variable o l None n = tt
follows_variable o (level ss m p) (Some t) n = (n, refl)

-- the end of the type, with some number of nodes
abbrev EndsAt : ℕ → Result (ℕ × ℕ) (ℕ × Bool) → Type 0
EndsAt end r = (n : ℕ) × (Ok (end, n) ≡ r)

stopped_at : (s : State) (t : OpenType) (n place : ℕ) → ended s ≡ Some t → EndsAt place (shape_stopped (image s n) place)
stopped_at (after whole l t) u n place h = (n, refl)
stopped_at (after_name whole (level ss m p) c) u n place h = (held (n + 1), refl)
stopped_at _ u n place h = cc

module _ (leaf : ℕ → Option OpenType) where
  follows : (x : ℕ) (s : State) (n : ℕ) (k : Sort) → Follows (numbered_step leaf x s k) (shape_step (image s n) k)
  follows x (operand o (level ss m p)) n Omega = (held (n + 1), refl)
  follows x (operand o l) n Name = (held (n + 1), refl)
  follows x (operand o l) n Dollar = (n, refl)
  follows x (operand o l) n Open = (n, refl)
  follows x (operand o l) n _ = tt
  follows x (after_dollar o l) n Name = follows_variable o l (leaf x) (held (n + 1))
  follows x (after_dollar o l) n _ = tt
  follows x (after_name o l c) n k = follows_name o l c n k
  follows x (after o l t) n k = follows_after o l t n k

  reading_ends :
      (ls : List Token) (cs vs : List (List ℕ)) (b : Bool) (s : State) (t : OpenType) (n place : ℕ) → numbered_reading leaf cs vs b s ls ≡ Some t
      → EndsAt (place + length ls) (shape_reading (image s n) place (map (λ l. sort_of (word_of l)) ls))
  reading_ends [] cs vs b s t n place h = subst (λ (end : ℕ). EndsAt end (shape_stopped (image s n) place)) (omega arith) (stopped_at s t n place h)
  reading_ends (l ∷ ls) cs vs b s t n place h =
      let w = word_of l in
      let cs' = constructors_after cs b w in
      let vs' = variables_after vs b w in
      let ks = map (λ l. sort_of (word_of l)) ls in
      let go : (o : Option State) → Follows o (shape_step (image s n) (sort_of w)) → read_from leaf cs' vs' (is_dollar w) ls o ≡ Some t → EndsAt (place + length (l ∷ ls)) (shape_reading (image s n) place (sort_of w ∷ ks))
      = λ o. elim o as (λ o. Follows o (shape_step (image s n) (sort_of w)) → read_from leaf cs' vs' (is_dollar w) ls o ≡ Some t → EndsAt (place + length (l ∷ ls)) (shape_reading (image s n) place (sort_of w ∷ ks))) [
        | None ↦ λ f k. cc
        | Some s' ↦ λ f k.
            let r = reading_ends ls cs' vs' (is_dollar w) s' t f.0 (place + 1) k in
            let there : (place + 1) + length ls ≡ place + length (l ∷ ls) = omega arith in
            let on = ap (λ (o : Option TypeShape). elim o as (λ _. Result (ℕ × ℕ) (ℕ × Bool)) [ None ↦ shape_stopped (image s n) place | Some s' ↦ shape_reading s' (place + 1) ks ]) f.1 in
            (r.0, ap (λ (end : ℕ). Ok (end, r.0)) (sym there) ∙ (r.1 ∙ sym on))
      ] in
      go (numbered_step leaf (number_in cs' vs' b (sort_of w) l.text.now) s (sort_of w)) (follows (number_in cs' vs' b (sort_of w) l.text.now) s n (sort_of w)) h

  -- the tokens that are read are the whole of a type
  pub whole_reading :
      (ls : List Token) (cs vs : List (List ℕ)) (t : OpenType) → numbered_reading leaf cs vs false (operand whole empty_level) ls ≡ Some t → IsTrue (is_whole (type_front (words ls)))
  whole_reading ls cs vs t h =
      let r = reading_ends ls cs vs false (operand whole empty_level) t 0 0 h in
      let e : Ok (length ls, r.0) ≡ shape_reading shape_start 0 (map (λ l. sort_of (word_of l)) ls) = ap (λ (end : ℕ). Ok (end, r.0)) (omega arith) ∙ r.1 in
      subst (λ (xs : List Token). IsTrue (is_whole (type_front (words xs)))) (take-length ls) (type_span ls (length ls) r.0 e).spelled

-- where no variable is, none is read
abbrev no_leaf : ℕ → Option OpenType
no_leaf n = None

no_variable : (x : ℕ) (o : Outer) (l : Level) (k : Sort) → numbered_step no_leaf x (after_dollar o l) k ≡ None
no_variable x o l Name = refl
no_variable x o l _ = refl

-- what is read from here on has no name of a variable first
reads_free : (ls : List Token) (cs vs : List (List ℕ)) (b : Bool) (s : State) (t : OpenType) → numbered_reading no_leaf cs vs b s ls ≡ Some t → is_behind s ≡ false
reads_free [] cs vs b (after_dollar o l) t h = cc
reads_free (l ∷ ls) cs vs b (after_dollar o k) t h =
    let w = word_of l in
    let cs' = constructors_after cs b w in
    let vs' = variables_after vs b w in
    let none = ap (λ (o : Option State). read_from no_leaf cs' vs' (is_dollar w) ls o) (no_variable (number_in cs' vs' b (sort_of w) l.text.now) o k (sort_of w)) in
    let wrong : Path (Option OpenType) None (Some t) = sym none ∙ h in
    cc
reads_free ls cs vs b (operand o l) t h = refl
reads_free ls cs vs b (after_name o l c) t h = refl
reads_free ls cs vs b (after o l u) t h = refl

reads_closed : (ls : List Token) (cs vs : List (List ℕ)) (b : Bool) (s : State) (t : OpenType) → numbered_reading no_leaf cs vs b s ls ≡ Some t → HasNoDollar (words ls)
reads_closed [] cs vs b s t h = refl
reads_closed (l ∷ ls) cs vs b s t h =
    let w = word_of l in
    let cs' = constructors_after cs b w in
    let vs' = variables_after vs b w in
    let x = number_in cs' vs' b (sort_of w) l.text.now in
    let go : (o : Option State) → IsNext o (is_dollar w) → read_from no_leaf cs' vs' (is_dollar w) ls o ≡ Some t → HasNoDollar (w ∷ words ls)
    = λ o. elim o as (λ o. IsNext o (is_dollar w) → read_from no_leaf cs' vs' (is_dollar w) ls o ≡ Some t → HasNoDollar (w ∷ words ls)) [
      | None ↦ λ n k. cc
      | Some s ↦ λ n k.
          let free : is_dollar w ≡ false = sym n ∙ reads_free ls cs' vs' (is_dollar w) s t k in
          ap (λ (b : Bool). b || list_any is_dollar (words ls)) free ∙ reads_closed ls cs' vs' (is_dollar w) s t k
    ] in
    go (numbered_step no_leaf x s (sort_of w)) (step_next (λ (y : List ℕ). x) (λ (y : List ℕ). no_leaf x) s w []) h

-- the tokens that are read where no variable is have no `$`
pub closed_reading :
    (ls : List Token) (cs vs : List (List ℕ)) (t : OpenType) → numbered_reading (λ _. None) cs vs false (operand whole empty_level) ls ≡ Some t → HasNoDollar (words ls)
closed_reading ls cs vs t h = reads_closed ls cs vs false (operand whole empty_level) t h
