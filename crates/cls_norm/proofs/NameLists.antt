-- The type of a list of bare names is fit if and only if there are not too many.
use Rattle.std.proofs.Common.{◌≡◌, refl, ℕ, ◌+◌, ◌*◌, ◌≤◌, ◌↔◌, arith, true, List, [], ◌∷◌, length}
use Rattle.std.proofs.lemmas.Bool.{false≢true}
use Rattle.std.specs.List.{list_all}
use Rattle.cls_base.specs.Types as types
use Rattle.cls_base.specs.Types.{ClosedType, constructor, meet, open_at}
use Rattle.cls_path.specs.Paths.{TypePath, atom, inside, unit, left, right, function, sealed, Paths, more, meets, type_of_paths, listed}
use Rattle.cls_norm.specs.Fit.{IsFit, is_name}
use Rattle.cls_norm.proofs.Counts.{further_nodes, nodes-meets}
use Rattle.cls_norm.proofs.Sums.{spread_in, spread-listed}

-- What so many names add to those before them. An intersection nested to the left needs no parentheses.
record Adds (n : Paths) (k : ℕ) : Type 0 where
  nodes : further_nodes n ≡ 3 * k
  spread : spread_in n ≡ k
  flat : (s : ClosedType) → open_at 0 s ≤ 0 → open_at 1 s ≤ 0 → open_at 0 (meets s n) ≤ 0

names-add : (ps : List TypePath) → list_all is_name ps ≡ true → Adds (listed ps) (length ps)
names-add [] h = record { nodes = refl; spread = refl; flat = λ s a b. a }
names-add (atom c ∷ ps) h =
    let r = names-add ps h in record {
      nodes = let e = r.nodes in omega (arith, e);
      spread = let e = r.spread in omega (arith, e);
      flat = λ s a b. r.flat (meet s (constructor c types.omega)) (omega (arith, b)) (omega (arith, b));
    }
names-add (inside c p ∷ ps) h = absurd (false≢true h)
names-add (unit ∷ ps) h = absurd (false≢true h)
names-add (left p ∷ ps) h = absurd (false≢true h)
names-add (right p ∷ ps) h = absurd (false≢true h)
names-add (function n p ∷ ps) h = absurd (false≢true h)
names-add (sealed c n ∷ ps) h = absurd (false≢true h)

-- so many names are fit: 3 nodes for each but the first, which has 2
few-names-fit : (c : ℕ) (n : Paths) (k : ℕ) → Adds n k → 1 + k ≤ 341 → IsFit (meets (constructor c types.omega) n)
few-names-fit c n k r h = record {
  few = let e = nodes-meets (constructor c types.omega) n in let d = r.nodes in omega (arith, e, d, h);
  shallow = let d = r.flat (constructor c types.omega) (omega arith) (omega arith) in omega (arith, d);
  narrow = let e = spread-listed (more (atom c) n) in let d = r.spread in omega (arith, e, d, h);
}

fit-names-few : (c : ℕ) (n : Paths) (k : ℕ) → Adds n k → IsFit (meets (constructor c types.omega) n) → 1 + k ≤ 341
fit-names-few c n k r f =
    let e = nodes-meets (constructor c types.omega) n in
    let d = r.nodes in
    let l = f.few in
    omega (arith, e, d, l)

pub names_fit : (ps : List TypePath) → list_all is_name ps ≡ true → length ps ≤ 341 ↔ IsFit (type_of_paths (listed ps))
names_fit [] h = ((λ _. record { few = omega arith; shallow = omega arith; narrow = omega arith }), (λ _. omega arith))
names_fit (atom c ∷ ps) h =
    let r = names-add ps h in
    ((λ l. few-names-fit c (listed ps) (length ps) r (omega (arith, l))), (λ f. let l = fit-names-few c (listed ps) (length ps) r f in omega (arith, l)))
names_fit (inside c p ∷ ps) h = absurd (false≢true h)
names_fit (unit ∷ ps) h = absurd (false≢true h)
names_fit (left p ∷ ps) h = absurd (false≢true h)
names_fit (right p ∷ ps) h = absurd (false≢true h)
names_fit (function n p ∷ ps) h = absurd (false≢true h)
names_fit (sealed c n ∷ ps) h = absurd (false≢true h)
