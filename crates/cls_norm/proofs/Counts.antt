-- The nodes of an intersection of paths.
use Rattle.std.proofs.Common.{◌≡◌, ℕ, ◌+◌, ◌-◌, ◌≤◌, ◌∙◌, sym, ap, arith, List, [], ◌∷◌, length, take, drop, get_or}
use Rattle.std.proofs.lemmas.List.{take_all}
use Rattle.cls_base.specs.Types.{ClosedType, nodes, meet}
use Rattle.cls_path.specs.Paths.{TypePath, Paths, none, more, type_of_path, type_of_paths, meets, listed}

-- what paths behind others add
abbrev pub further_nodes : Paths → ℕ
further_nodes none = 0
further_nodes (more p n) = 1 + nodes (type_of_path p) + further_nodes n

pub nodes-meets : (s : ClosedType) (n : Paths) → nodes (meets s n) ≡ nodes s + further_nodes n
nodes-meets s none = omega arith
nodes-meets s (more p n) = let e = nodes-meets (meet s (type_of_path p)) n in omega arith

-- the first path, and those behind it
pub nodes-first : (ys xs : List TypePath) (p : TypePath) → xs ≡ ys → 1 ≤ length xs → p ≡ get_or xs 0 p → nodes (type_of_paths (listed ys)) ≡ nodes (type_of_path p) + further_nodes (listed (take (length xs - 1) (drop 1 xs)))
nodes-first ys [] p e h i = absurd (omega arith)
nodes-first ys (x ∷ xs) p e h i =
    ap (λ l. nodes (type_of_paths (listed l))) (sym e) ∙ (nodes-meets (type_of_path x) (listed xs)
    ∙ (λ j. nodes (type_of_path (sym i j)) + further_nodes (listed (sym (take_all (length (x ∷ xs) - 1) xs (omega arith)) j))))
