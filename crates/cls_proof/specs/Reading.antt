-- What lines say as a certificate, and otherwise which of them is the first bad one.
use Rattle.std.specs.Prelude.{ℕ, ◌≡◌, ◌+◌, ◌≤◌, Some, false, List, [], ◌∷◌, ◌++◌, length, slice_get}
use Rattle.std.specs.List.{list_any}
use Rattle.cls_base.specs.Limits.{max_type_nodes, max_type_spread}
use Rattle.cls_base.specs.Types.{ClosedType, spread}
use Rattle.cls_lexer.specs.Names.{number_of, with_texts}
use Rattle.cls_lexer.specs.Numerals.{number_value}
use Rattle.cls_lexer.specs.Skipped.{IsText, IsSkipped}
use Rattle.cls_lexer.specs.Words.{words_of}
use Rattle.cls_syntax.specs.ClosedTypes.{HasNoDollar, Spells}
use Rattle.cls_syntax.specs.Faults as faults
use Rattle.cls_syntax.specs.LineGrammars.{row_words, RowStands}
use Rattle.cls_syntax.specs.SyntaxFaults.{IsFlat}
use Rattle.cls_syntax.specs.TypeTexts.{TypeText, type_nodes}
use Rattle.cls_proof.specs.declared.proof_fault.ProofFault.{ProofFault}
use Rattle.cls_proof.specs.declared.proof_fault.ProofFault.TheVariants.{OutOfMemory, BadLine, NoQed}
use Rattle.cls_proof.specs.Certificates.{ProofRow, Certificate}
use Rattle.cls_proof.specs.Forms.{greatest_number, certificate_rows, Written, line_of, constructors_of}
use Rattle.cls_proof.specs.Forms as written
use Rattle.cls_proof.specs.Statements.{Statement, inhabited, row, empty, member, block, layer, set, qed, statements_of, is_qed}

-- The digits spell the number, which is within the limit.
abbrev pub IsNumber : List ℕ → ℕ → Type 0
IsNumber digits n = (number_value digits ≡ n) × (n ≤ greatest_number)

-- The numerals spell the numbers in turn.
abbrev pub AreNumbers : List (List ℕ) → List ℕ → Type 0
AreNumbers [] ns = ns ≡ []
AreNumbers (digits ∷ numerals) ns = (n : ℕ) × (rest : List ℕ) × IsNumber digits n × AreNumbers numerals rest × (ns ≡ n ∷ rest)

-- The text spells the goal, with these numbers of constructors, and is within the limits.
pub record IsGoal (number : List ℕ → ℕ) (text : TypeText) (goal : ClosedType) : Type 0 where
  pub spells : Spells number text goal
  pub few : type_nodes text ≤ max_type_nodes
  pub narrow : spread goal ≤ max_type_spread

-- the numbers of constructors, and the table of the names of components
module _ (number : List ℕ → ℕ) (components : List (List ℕ)) where
  -- The component of this number has the name.
  abbrev pub IsComponent : List ℕ → ℕ → Type 0
  IsComponent name component = slice_get components component ≡ Some name

  pub record IsRow (goal : TypeText) (component n : List ℕ) (cover : List (List ℕ)) (r : ProofRow) : Type 0 where
    pub goal_is : IsGoal number goal r.goal
    pub component_is : IsComponent component r.component
    pub n_is : IsNumber n r.n
    pub cover_is : AreNumbers cover r.cover

  -- What is written means the statement.
  abbrev pub Means : Written → Statement → Type 0
  Means written.inhabited s = s ≡ inhabited
  Means (written.row t x d ds) s = (r : ProofRow) × (s ≡ row r) × IsRow t x d ds r
  Means written.empty s = s ≡ empty
  Means (written.member t) s = (goal : ClosedType) × (s ≡ member goal) × IsGoal number t goal
  Means (written.block x d) s = (component n : ℕ) × (s ≡ block component n) × IsComponent x component × IsNumber d n
  Means written.layer s = s ≡ layer
  Means (written.set ds) s = (positions : List ℕ) × (s ≡ set positions) × AreNumbers ds positions
  Means written.qed s = s ≡ qed

  -- A line that isn't skipped says the statement, and names these constructors in turn. It is a text of at most
  -- `max_line_bytes` bytes, not too deep, without a variable.
  pub record SaysStatement (line : List ℕ) (names : List (List ℕ)) (s : Statement) : Type 0 where
    pub text : IsText line
    pub unskipped : IsSkipped line → ⊥
    pub flat : IsFlat line
    pub closed : HasNoDollar (words_of line)
    pub written : Written
    pub says : faults.Says (row_words certificate_rows) (RowStands certificate_rows) (line_of written) (words_of line)
    pub means : Means written s
    pub named : names ≡ constructors_of written

  -- The line is skipped or says a statement.
  pub data Says (line : List ℕ) (names : List (List ℕ)) (ss : List Statement) : Type 0 where
    no_statement : IsSkipped line → names ≡ [] → ss ≡ [] → Says line names ss
    one_statement : (s : Statement) → SaysStatement line names s → ss ≡ s ∷ [] → Says line names ss

  -- The lines say these statements in turn, and name these constructors.
  abbrev pub LinesSay : List (List ℕ) → List (List ℕ) → List Statement → Type 0
  LinesSay [] names ss = (names ≡ []) × (ss ≡ [])
  LinesSay (line ∷ lines) names ss =
      (names' names'' : List (List ℕ)) × (ss' ss'' : List Statement) × Says line names' ss' × LinesSay lines names'' ss''
      × (names ≡ names' ++ names'') × (ss ≡ ss' ++ ss'')

-- The lines say the certificate. Its constructors are numbered in the order of their tokens: the table of constructors was
-- `old` and is `new`.
pub record SaysCertificate (old new components lines : List (List ℕ)) (c : Certificate) : Type 0 where
  pub names : List (List ℕ)
  pub numbered : new ≡ with_texts old names
  pub says : LinesSay (number_of new) components lines names (statements_of c)

-- The lines begin a certificate, whatever numbers constructors have: none of them is bad.
pub record BeginCertificate (components lines : List (List ℕ)) : Type 0 where
  pub number : List ℕ → ℕ
  pub names : List (List ℕ)
  pub statements : List Statement
  pub says : LinesSay number components lines names statements
  pub certificate : Certificate
  pub more : List Statement
  pub begins : statements_of certificate ≡ statements ++ more

-- The number, from 1, of the first bad line: the lines before it begin a certificate, and with it they don't.
pub record IsFirstBad (components lines : List (List ℕ)) (n : ℕ) : Type 0 where
  pub before : List (List ℕ)
  pub line : List ℕ
  pub after : List (List ℕ)
  pub split : lines ≡ before ++ line ∷ after
  pub number : n ≡ length before + 1
  pub good : BeginCertificate components before
  pub bad : BeginCertificate components (before ++ line ∷ []) → ⊥

-- No line is bad, and none is `qed`.
pub record LacksQed (components lines : List (List ℕ)) : Type 0 where
  pub good : BeginCertificate components lines
  pub no_qed : list_any is_qed good.statements ≡ false

-- Why the lines say no certificate. Out of memory says nothing.
abbrev pub IsProofFault : (components lines : List (List ℕ)) → ProofFault → Type 0
IsProofFault components lines OutOfMemory = Unit {0}
IsProofFault components lines (BadLine n) = IsFirstBad components lines n
IsProofFault components lines NoQed = LacksQed components lines
