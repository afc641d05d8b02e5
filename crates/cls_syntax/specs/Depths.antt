-- The parentheses that are open at once in a line.
use Rattle.std.specs.Prelude.{ℕ, ◌+◌, ◌-◌, max, List, [], ◌∷◌}
use Rattle.cls_syntax.specs.declared.sort.Sort.{Sort}
use Rattle.cls_syntax.specs.declared.sort.Sort.TheVariants.{Open, Close}
use Rattle.cls_lexer.specs.Words.{Word}
use Rattle.cls_syntax.specs.Sorts.{sort_of}

-- How many are open after a word of this sort. One that closes where none is open doesn't count.
abbrev pub open_after : ℕ → Sort → ℕ
open_after n Open = n + 1
open_after n Close = n - 1
open_after n _ = n

-- The most that were open or are open at once, where `now` are open and `most` were.
abbrev pub most_open : (now most : ℕ) → List Word → ℕ
most_open now most [] = most
most_open now most (w ∷ ws) = most_open (open_after now (sort_of w)) (max (open_after now (sort_of w)) most) ws
