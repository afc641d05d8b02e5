-- Where a line leaves a grammar.
use Rattle.std.specs.Prelude.{ℕ, ◌≡◌, ◌↔◌, Bool, false, IsTrue, List, [], ◌∷◌, ◌++◌, Result, Ok, Err}
use Rattle.cls_lexer.specs.Words.{Word, name}
use Rattle.cls_syntax.specs.Roles.{is_set_aside}

-- The words from the first one on that can't follow, none if the line ends too early; and whether each name could stand
-- there that isn't set aside.
pub data Stop : Type 0 where
  stop : (rest : List Word) → (wants_name : Bool) → Stop

-- Nothing more is asked of a line.
abbrev pub Always : {A : Type 0} → A → Type 0
Always a = Unit {0}

-- `words` gives the words of what a line may say, and `Stands` says which of it a line does say.
module _ {A : Type 0} (words : A → List Word) (Stands : A → Type 0) where
  -- some line of the grammar begins with the words
  pub record CanGoOn (front : List Word) : Type 0 where
    pub line : A
    pub stands : Stands line
    pub more : List Word
    pub begins : words line ≡ front ++ more

  -- no line goes on with the next word or, if none is left, none is the front alone
  abbrev pub Refuses : List Word → List Word → Type 0
  Refuses front [] = (line : A) → Stands line → words line ≡ front → ⊥
  Refuses front (w ∷ ws) = CanGoOn (front ++ w ∷ []) → ⊥

  -- each name could follow that isn't set aside
  abbrev pub WantsName : List Word → Type 0
  WantsName front = (x : List ℕ) → is_set_aside x ≡ false → CanGoOn (front ++ name x ∷ [])

  -- a line of the grammar begins with the words in front of the rest, and none goes on with the rest's first word
  pub record IsFault (ws rest : List Word) (wants_name : Bool) : Type 0 where
    pub front : List Word
    pub split : ws ≡ front ++ rest
    pub live : CanGoOn front
    pub refused : Refuses front rest
    pub named : IsTrue wants_name ↔ WantsName front

  -- the line says this
  pub record Says (line : A) (ws : List Word) : Type 0 where
    pub spelled : words line ≡ ws
    pub stands : Stands line

  -- exactly the lines of the grammar are taken, each as what it says, and otherwise the place is that of the fault
  abbrev pub Exactly : List Word → Result A Stop → Type 0
  Exactly ws (Ok line) = Says line ws
  Exactly ws (Err (stop rest wants_name)) = IsFault ws rest wants_name
