-- The text of the generator, which stands for an input.
use Rattle.std.specs.Prelude.{ℕ, zero, suc, ◌-◌, List, [], ◌∷◌, ◌++◌, codes}
use Rattle.std.specs.Fmt.{decimal}

-- a line of the input
abbrev pub line : List ℕ → List ℕ
line text = text ++ 10 ∷ []

-- the texts for 1 to n
abbrev pub up_to : (ℕ → List ℕ) → ℕ → List ℕ
up_to text zero = []
up_to text (suc n) = up_to text n ++ text (suc n)

-- a text and the number behind it, without a blank
abbrev pub numbered : List ℕ → ℕ → List ℕ
numbered text i = text ++ decimal i

-- comp cI : (TI -> TJ) & (UI -> UJ), with J one less than I
abbrev pub chain_line : ℕ → List ℕ
chain_line i =
    line (numbered (codes "comp c") i
    ++ numbered (codes " : (T") i ++ numbered (codes " -> T") (i - 1)
    ++ numbered (codes ") & (U") i ++ numbered (codes " -> U") (i - 1) ++ codes ")")

-- comp dI : TI -> P -> TJ, with J one less than I
abbrev pub side_line : ℕ → List ℕ
side_line i =
    line (numbered (codes "comp d") i ++ numbered (codes " : T") i ++ numbered (codes " -> P -> T") (i - 1))

-- the lines before those that are numbered, and after them
abbrev pub first_lines : ℕ → List ℕ
first_lines n =
    line (codes "kind a = P | Q")
    ++ line (codes "comp p : P")
    ++ line (codes "comp q : $a -> $a")
    ++ line (numbered (codes "comp z : T") n ++ numbered (codes " & U") n)

abbrev pub last_lines : List ℕ
last_lines =
    line (codes "end")
    ++ line (codes "inhabit T0 & U0")
    ++ line (codes "list T0 & U0 max 64 take 2")
    ++ line (codes "inhabit T0")
    ++ line (codes "inhabit U0 & P")
    ++ line (codes "sub T0 & U0 <= T0")

-- the text for the number n
abbrev pub generated_text : ℕ → List ℕ
generated_text n = first_lines n ++ up_to chain_line n ++ up_to side_line n ++ last_lines
