-- internal: linked lists of the rules that wait. Each link has the number of links among which the rest of its list stands.
use Rattle.std.specs.Prelude.{ℕ, zero, suc, ◌≡◌, ◌≤◌, List, [], ◌∷◌, length, map, slice_get, slice_index_or, Some}
use Rattle.cls_grammar.specs.declared.waiting.Waiting.{Waiting}
use Rattle.cls_grammar.specs.declared.waiting.Link.{Link}

abbrev pub no_link : Link
no_link = record { waiting = record { node = 0; rule = 0; argument = 0 }; before = 0 }

abbrev pub link_at : List Link → ℕ → Link
link_at links i = slice_index_or links i no_link

-- at most so many rules of the list that begins with the last of the first k links
abbrev pub walk : ℕ → List Link → ℕ → List Waiting
walk zero links k = []
walk (suc steps) links zero = []
walk (suc steps) links (suc i) = let l = link_at links i in l.waiting ∷ walk steps links l.before

-- the list that begins with the last of the first k links, if there is one
abbrev pub rules_among : List Link → ℕ → List Waiting
rules_among links k = walk k links k

abbrev pub lists_among : List Link → List ℕ → List (List Waiting)
lists_among links ks = map (rules_among links) ks

-- the rest of each link's list stands before it
abbrev pub AreOrdered : List Link → Type 0
AreOrdered links = (i : ℕ) (l : Link) → slice_get links i ≡ Some l → l.before ≤ i

-- each list stands among the links
abbrev pub AreAmong : List Link → List ℕ → Type 0
AreAmong links ks = (i k : ℕ) → slice_get ks i ≡ Some k → k ≤ length links
