-- The certificate that is made for goal 0 of a grammar.
--
-- If goal 0 is productive, it is a list of rows: the goals whose rank is less than that of goal 0, by rank and then by
-- number, and then goal 0. Otherwise it is a list of members, the unproductive goals by number.
use Rattle.std.specs.Prelude.{ℕ, zero, suc, ◌≡◌, ◌≤◌, ◌<◌, ◌⊎◌, ◌↔◌, List, [], ◌∷◌, ◌++◌, length, Some, Contains, slice_get, slice_index_or, IsSomeAnd}
use Rattle.std.specs.List.{AllZip}
use Rattle.cls_base.specs.Languages.{NodeRule, rules_at}
use Rattle.cls_base.specs.Terms.{Precedes}
use Rattle.cls_base.specs.declared.rule.Rule.{Rule}
use Rattle.cls_path.specs.Paths.{TypePath, Paths, none, more, type_of_paths}
use Rattle.cls_cover.specs.Lists.{Rises, IsAscending}
use Rattle.cls_cover.specs.Covers.{AreMinimal}
use Rattle.cls_base.specs.Arguments.{arguments_of_rule, map_rule}
use Rattle.cls_core.specs.Rows.{Row}
use Rattle.cls_grammar.specs.Grammars.{book_of}
use Rattle.cls_grammar.specs.Ranks.{IsRank, IsProductiveIn}
use Rattle.cls_library.specs.Arrows.{arity_of}
use Rattle.cls_library.specs.Libraries.{Library, paths_at, arrows_at}
use Rattle.cls_library.specs.Reaching.{PathLeIn, CoversGoal}
use Rattle.cls_library.specs.Rules.{Choice, ComesBefore, IsChoice, IsRuleFor}
use Rattle.cls_cert.specs.Conditions.{forms_of}
use Rattle.cls_proof.specs.Certificates as proof
use Rattle.cls_proof.specs.Certificates.{ProofRow, Block, Certificate, inhabited, empty}

-- the first element of the list that has the property
pub record IsFirst {A : Type 0} (P : A → Type 0) (xs : List A) (x : A) : Type 0 where
  pub place : ℕ
  pub there : slice_get xs place ≡ Some x
  pub holds : P x
  pub none_before : (j : ℕ) (y : A) → j < place → slice_get xs j ≡ Some y → P y → ⊥

-- so many paths from the front
abbrev pub front_of : ℕ → Paths → Paths
front_of zero n = none
front_of (suc j) none = none
front_of (suc j) (more p n) = more p (front_of j n)

-- the number of paths
abbrev pub path_count : Paths → ℕ
path_count none = 0
path_count (more p n) = suc (path_count n)

-- the goal with this number
abbrev pub goal_in : List Paths → ℕ → Paths
goal_in goals i = slice_index_or goals i none

-- the rule with goals for their numbers
abbrev pub named : List Paths → Rule ℕ → Rule Paths
named goals r = map_rule (goal_in goals) r

-- The number of a goal, with its rank.
pub record Ranked : Type 0 where
  pub number : ℕ
  pub rank : ℕ

-- by rank, and then by number
abbrev pub ComesEarlier : Ranked → Ranked → Type 0
ComesEarlier d e = (d.rank < e.rank) ⊎ ((d.rank ≡ e.rank) × (d.number < e.number))

-- by component, and then by the number of arguments
abbrev pub BlockBefore : Block → Block → Type 0
BlockBefore b c = Precedes (b.component ∷ b.n ∷ []) (c.component ∷ c.n ∷ [])

-- the library
module _ (l : Library) where
  -- the first choice that gives the rule
  pub record IsFirstChoice (goal : Paths) (r : Rule Paths) (c : Choice) : Type 0 where
    pub choice : IsChoice l goal c
    pub gives : IsRuleFor l c r
    pub none_before : (d : Choice) → IsChoice l goal d → ComesBefore d c → IsRuleFor l d r → ⊥

  -- the arrows of the component that take n arguments, one of which leads to the first path of the goal
  abbrev pub HasFirst : Paths → ℕ → ℕ → Type 0
  HasFirst none x n = ⊥
  HasFirst (more q rest) x n =
      (x < length l.components) × (n ≤ arity_of (paths_at l x))
      × ((i : ℕ) × IsSomeAnd (slice_get (arrows_at l x n) i) (λ a. PathLeIn l a.target q))

  -- layer number j holds the minimal covers of the first j paths
  pub record AreLayers (goal : Paths) (x n : ℕ) (layers : List (List (List ℕ))) : Type 0 where
    pub count : length layers ≡ path_count goal
    pub each : (j : ℕ) (layer : List (List ℕ)) → slice_get layers j ≡ Some layer
        → AreMinimal (CoversGoal l (arrows_at l x n) (front_of (suc j) goal)) layer

  -- a block for each component and number of arguments by which an arrow leads to the first path
  pub record IsMemberFor (goal : Paths) (m : proof.Member) : Type 0 where
    pub type : m.goal ≡ type_of_paths goal
    pub in_order : Rises BlockBefore m.blocks
    pub exactly : (x n : ℕ) → ((b : Block) × Contains m.blocks b × (b.component ≡ x) × (b.n ≡ n)) ↔ HasFirst goal x n
    pub layers : (b : Block) → Contains m.blocks b → AreLayers goal b.component b.n b.layers

  -- the goals, and the rules of each over their numbers
  module _ (goals : List Paths) (book : List (List (Rule ℕ))) where
    abbrev pub IsRanked : Ranked → Type 0
    IsRanked e = IsRank ℕ (NodeRule book) e.number e.rank

    -- each argument of the rule has a rank that is less than h
    abbrev pub IsLower : ℕ → Rule ℕ → Type 0
    IsLower h r =
        (i : ℕ) → Contains (arguments_of_rule r) i → (k : ℕ) × IsRank ℕ (NodeRule book) i k × (k < h)

    -- the first rule whose arguments have lower ranks, and the first choice that gives this rule
    pub record IsRuleRow (e : Ranked) (row : ProofRow) : Type 0 where
      pub rule : Rule ℕ
      pub first_rule : IsFirst (IsLower e.rank) (rules_at book e.number) rule
      pub choice : Choice
      pub first_choice : IsFirstChoice (goal_in goals e.number) (named goals rule) choice
      pub row_is : row ≡ record {
        goal = type_of_paths (goal_in goals e.number);
        component = choice.component;
        n = choice.places;
        cover = choice.cover;
      }

    -- the row of a goal: that of omega has the first component without arguments
    abbrev pub IsRowOf : Paths → Ranked → ProofRow → Type 0
    IsRowOf none e row = row ≡ record { goal = type_of_paths none; component = 0; n = 0; cover = [] }
    IsRowOf (more q rest) e row = IsRuleRow e row

    abbrev pub IsRowFor : Ranked → ProofRow → Type 0
    IsRowFor e row = IsRowOf (goal_in goals e.number) e row

    -- the goals with a rank less than that of goal 0 in order, and then goal 0
    pub record AreRows (rows : List ProofRow) : Type 0 where
      pub rank : ℕ
      pub is_rank : IsRank ℕ (NodeRule book) 0 rank
      pub earlier : List Ranked
      pub in_order : Rises ComesEarlier earlier
      pub exactly : (e : Ranked) → Contains earlier e ↔ (IsRanked e × (e.rank < rank))
      pub made : AllZip IsRowFor (earlier ++ record { number = 0; rank = rank } ∷ []) rows

    -- the unproductive goals, by number
    pub record AreMembers (members : List proof.Member) : Type 0 where
      pub unproductive : List ℕ
      pub in_order : IsAscending unproductive
      pub exactly : (i : ℕ) → Contains unproductive i ↔ ((i < length goals) × (IsProductiveIn book i → ⊥))
      pub made : AllZip (λ i m. IsMemberFor (goal_in goals i) m) unproductive members

    -- rows if goal 0 is productive, and members otherwise
    abbrev pub IsMade : Certificate → Type 0
    IsMade (inhabited rows) = IsProductiveIn book 0 × AreRows rows
    IsMade (empty members) = (IsProductiveIn book 0 → ⊥) × AreMembers members

-- the certificate is made for goal 0 of the grammar with these rows
abbrev pub IsMadeFor : Library → List (Row (List TypePath)) → Certificate → Type 0
IsMadeFor l rows c = IsMade l (forms_of rows) (book_of rows) c
