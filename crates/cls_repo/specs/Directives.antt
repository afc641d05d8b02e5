-- The lines of a repository: their forms, and what each one says.
use Rattle.std.specs.Prelude.{ℕ, Bool, true, false, ◌||◌, List, [], ◌∷◌, codes, Option}
use Rattle.std.proofs.Common.{inl, inr}
use Rattle.cls_base.specs.Limits.{max_cost}
use Rattle.cls_lexer.specs.declared.token.TokenKind.TheVariants.{Colon, Equals, To}
use Rattle.cls_lexer.specs.Skipped.{IsText, IsSkipped}
use Rattle.cls_lexer.specs.Words.{Word, words_of, name}
use Rattle.cls_syntax.specs.declared.role.Role.TheVariants.{Constructor, NewVariable, Component, NewComponent, Variance, Filter, NewFilter, State, StateOrAny, StateOrNone}
use Rattle.cls_syntax.specs.Faults.{Says}
use Rattle.cls_syntax.specs.Forms.{nothing, ◌⨾◌, the_word, the_sign, a_name, a_number, a_type, perhaps, names, types, anything, Part, fixed, line_parts}
use Rattle.cls_syntax.specs.Fronts.{is_word}
use Rattle.cls_syntax.specs.LineGrammars.{Row, LineOf, row_words, RowStands}
use Rattle.cls_syntax.specs.TypeTexts.{TypeText, TypeList}

-- What a line of a repository says, in the texts that stand in it.
pub data Directive : Type 0 where
  -- the first constructor is below the second
  sub : (lower upper : List ℕ) → Directive
  -- the types that the variable stands for, none if nothing stands behind the sign
  kind : (variable : List ℕ) → (choices : Option TypeList) → Directive
  -- a component and its type
  comp : (component : List ℕ) → (type : TypeText) → Directive
  -- the template of the component is what stands behind the sign, which isn't read as words
  text : (component : List ℕ) → (words : List Word) → Directive
  -- no further line is one of the repository
  end : Directive
  -- the cost of the component, in digits
  cost : (component digits : List ℕ) → Directive
  -- the variance of the constructor, by its word
  variance : (constructor word : List ℕ) → Directive
  -- a filter and its accepting states, of which there is one
  filter : (filter state : List ℕ) → (states : List (List ℕ)) → Directive
  -- the state of the component by the filter, or `none`
  leaf : (filter component state : List ℕ) → Directive
  -- the state of an application by those of its parts, of which each may be `_`, or `none`
  app : (filter left right state : List ℕ) → Directive
  -- the state of what no line of the filter speaks of
  other : (filter state : List ℕ) → Directive

-- The forms of the lines, by their first words.
abbrev pub repository_rows : List Row
repository_rows =
    record { first = codes "sub"; form = a_name Constructor ⨾ a_name Constructor ⨾ nothing }
    ∷ record { first = codes "kind"; form = a_name NewVariable ⨾ the_sign Equals ⨾ perhaps types }
    ∷ record { first = codes "comp"; form = a_name NewComponent ⨾ the_sign Colon ⨾ a_type ⨾ nothing }
    ∷ record { first = codes "text"; form = a_name Component ⨾ the_sign Equals ⨾ anything }
    ∷ record { first = codes "end"; form = nothing }
    ∷ record { first = codes "cost"; form = a_name Component ⨾ a_number 1 max_cost ⨾ nothing }
    ∷ record { first = codes "variance"; form = a_name Constructor ⨾ a_name Variance ⨾ nothing }
    ∷ record { first = codes "filter"; form = a_name NewFilter ⨾ the_word (codes "accepts") ⨾ a_name State ⨾ names State }
    ∷ record { first = codes "leaf"; form = a_name Filter ⨾ a_name Component ⨾ the_sign To ⨾ a_name StateOrNone ⨾ nothing }
    ∷ record { first = codes "app"; form = a_name Filter ⨾ a_name StateOrAny ⨾ a_name StateOrAny ⨾ the_sign To ⨾ a_name StateOrNone ⨾ nothing }
    ∷ record { first = codes "other"; form = a_name Filter ⨾ a_name State ⨾ nothing }
    ∷ []

-- The line of the table that says this.
abbrev pub row_of : Directive → LineOf repository_rows
row_of (sub a b) = inl (a, (b, tt))
row_of (kind x ts) = inr (inl (x, ts))
row_of (comp x t) = inr (inr (inl (x, (t, tt))))
row_of (text x ws) = inr (inr (inr (inl (x, ws))))
row_of end = inr (inr (inr (inr (inl tt))))
row_of (cost x ds) = inr (inr (inr (inr (inr (inl (x, (ds, tt)))))))
row_of (variance c w) = inr (inr (inr (inr (inr (inr (inl (c, (w, tt))))))))
row_of (filter f q qs) = inr (inr (inr (inr (inr (inr (inr (inl (f, (q, qs)))))))))
row_of (leaf f x q) = inr (inr (inr (inr (inr (inr (inr (inr (inl (f, (x, (q, tt)))))))))))
row_of (app f p q r) = inr (inr (inr (inr (inr (inr (inr (inr (inr (inl (f, (p, (q, (r, tt)))))))))))))
row_of (other f q) = inr (inr (inr (inr (inr (inr (inr (inr (inr (inr (inl (f, (q, tt))))))))))))

-- The words say this.
abbrev pub WordsSay : Directive → List Word → Type 0
WordsSay said ws = Says (row_words repository_rows) (RowStands repository_rows) (row_of said) ws

-- The line says this: it is a text that isn't skipped, and its words say it.
pub record LineSays (line : List ℕ) (said : Directive) : Type 0 where
  pub text : IsText line
  pub unskipped : IsSkipped line → ⊥
  pub says : WordsSay said (words_of line)

-- The parts of a line of the table: its words, each with what it is for.
abbrev pub row_parts : (rows : List Row) → LineOf rows → List Part
row_parts [] v = absurd v
row_parts (row ∷ rows) (inl v) = fixed (name row.first) ∷ line_parts row.form v
row_parts (row ∷ rows) (inr v) = row_parts rows v

abbrev pub parts_of : Directive → List Part
parts_of said = row_parts repository_rows (row_of said)

-- The words begin with this very word.
abbrev pub begins_word : List ℕ → List Word → Bool
begins_word x [] = false
begins_word x (w ∷ ws) = is_word x w

-- The words begin with the first word of a line of a repository.
abbrev pub begins_directive : List Word → Bool
begins_directive ws =
    begins_word (codes "sub") ws || begins_word (codes "kind") ws || begins_word (codes "comp") ws
    || begins_word (codes "text") ws || begins_word (codes "end") ws || begins_word (codes "cost") ws
    || begins_word (codes "variance") ws || begins_word (codes "filter") ws || begins_word (codes "leaf") ws
    || begins_word (codes "app") ws || begins_word (codes "other") ws

-- It is the last line of a repository.
abbrev pub is_end : Directive → Bool
is_end end = true
is_end _ = false
