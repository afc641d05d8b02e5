-- internal: how the code of a term is written, word by word
use Rattle.std.specs.Prelude.{ℕ, ◌≡◌, ◌+◌, ◌-◌, ◌<◌, List, [], ◌∷◌, ◌++◌, length, take, slice_index_or, slice_set}
use Rattle.cls_lexer.specs.declared.token.TokenKind.TheVariants.{Open, Close, Comma}
use Rattle.cls_lexer.specs.Words.{Word, name, sign}
use Rattle.cls_term.specs.declared.code_builder.Draft.{Draft}

-- The code of what was read, and where the counts of the open components stand, the innermost last.
pub record State : Type 0 where
  pub code : List ℕ
  pub places : List ℕ

-- what the code's draft says
abbrev pub state_of : Draft → State
state_of d = record { code = d.code.items; places = d.places.items }

-- where the count of the innermost open component stands
abbrev pub innermost : List ℕ → ℕ
innermost places = slice_index_or places (length places - 1) 0

-- A component is open.
pub record IsOpen (s : State) : Type 0 where
  pub some : 0 < length s.places
  pub within : innermost s.places < length s.code

-- one argument more of the innermost open component
abbrev pub with_argument : State → State
with_argument s =
    let place = innermost s.places in
    record { code = slice_set s.code place (slice_index_or s.code place 0 + 1); places = s.places }

-- The word may come here: no name is reserved, a component stands before a parenthesis, and a comma stands in one.
abbrev pub Fits : State → Word → Type 0
Fits s (name x) = Unit {0}
Fits s (sign Open) = 0 < length s.code
Fits s (sign Comma) = IsOpen s
Fits s (sign Close) = Unit {0}
Fits s _ = ⊥

-- `number` gives the number of a component's name.
module _ (number : List ℕ → ℕ) where
  abbrev pub after : State → Word → State
  after s (name x) = record { code = s.code ++ number x ∷ 0 ∷ []; places = s.places }
  after s (sign Open) = with_argument (record { code = s.code; places = s.places ++ (length s.code - 1) ∷ [] })
  after s (sign Comma) = with_argument s
  after s (sign Close) = record { code = s.code; places = take (length s.places - 1) s.places }
  after s _ = s

  -- The words may all come, one after another, and they lead from the one state to the other.
  abbrev pub Leads : State → List Word → State → Type 0
  Leads s [] end = s ≡ end
  Leads s (w ∷ ws) end = Fits s w × Leads (after s w) ws end
