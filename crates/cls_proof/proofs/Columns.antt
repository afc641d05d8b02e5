-- Rows that are kept in columns.
use Rattle.std.proofs.Common.{◌≡◌, ℕ, zero, suc, ◌<◌, List, [], ◌∷◌, ◌++◌, length, get_or, slice_get, Some, ap, refl, sym, arith}
use Rattle.std.specs.Prelude.{slice_index_or}
use Rattle.cls_base.specs.declared.ty.Ty.{Ty}
use Rattle.cls_base.specs.Ty.{type_of}
use Rattle.cls_proof.specs.declared.row.RowPlace.{RowPlace}
use Rattle.cls_proof.specs.Certificates.{ProofRow}
use Rattle.cls_proof.specs.Columns.{rows_of, HaveOneLength}

abbrev made : Ty → RowPlace → List ℕ → ProofRow
made g p c = record { goal = type_of g; component = p.component; n = p.n; cover = c }

tails : (g : Ty) (gs : List Ty) (p : RowPlace) (ps : List RowPlace) (c : List ℕ) (cs : List (List ℕ)) → HaveOneLength (g ∷ gs) (p ∷ ps) (c ∷ cs) → HaveOneLength gs ps cs
tails g gs p ps c cs h = record { same_places = omega (arith, h.same_places); same_covers = omega (arith, h.same_covers) }

pub rows-length : (gs : List Ty) (ps : List RowPlace) (cs : List (List ℕ)) → HaveOneLength gs ps cs → length (rows_of gs ps cs) ≡ length gs
rows-length [] ps cs h = refl
rows-length (g ∷ gs) [] cs h = absurd (omega (arith, h.same_places))
rows-length (g ∷ gs) (p ∷ ps) [] h = absurd (omega (arith, h.same_covers))
rows-length (g ∷ gs) (p ∷ ps) (c ∷ cs) h = ap suc (rows-length gs ps cs (tails g gs p ps c cs h))

-- one row more
pub rows-push : (gs : List Ty) (ps : List RowPlace) (cs : List (List ℕ)) (g : Ty) (p : RowPlace) (c : List ℕ) → HaveOneLength gs ps cs → rows_of (gs ++ g ∷ []) (ps ++ p ∷ []) (cs ++ c ∷ []) ≡ rows_of gs ps cs ++ made g p c ∷ []
rows-push [] [] [] g p c h = refl
rows-push [] (x ∷ ps) cs g p c h = absurd (omega (arith, h.same_places))
rows-push [] [] (y ∷ cs) g p c h = absurd (omega (arith, h.same_covers))
rows-push (g' ∷ gs) [] cs g p c h = absurd (omega (arith, h.same_places))
rows-push (g' ∷ gs) (p' ∷ ps) [] g p c h = absurd (omega (arith, h.same_covers))
rows-push (g' ∷ gs) (p' ∷ ps) (c' ∷ cs) g p c h = ap (λ (rows : List ProofRow). made g' p' c' ∷ rows) (rows-push gs ps cs g p c (tails g' gs p' ps c' cs h))

-- the row at a place
pub rows-at : (gs : List Ty) (ps : List RowPlace) (cs : List (List ℕ)) (i : ℕ) (g : Ty) (p : RowPlace) (c : List ℕ) → HaveOneLength gs ps cs → i < length gs → g ≡ get_or gs i g → p ≡ get_or ps i p → c ≡ slice_index_or cs i [] → slice_get (rows_of gs ps cs) i ≡ Some (made g p c)
rows-at [] ps cs i g p c h l a b d = absurd (omega arith)
rows-at (g' ∷ gs) [] cs i g p c h l a b d = absurd (omega (arith, h.same_places))
rows-at (g' ∷ gs) (p' ∷ ps) [] i g p c h l a b d = absurd (omega (arith, h.same_covers))
rows-at (g' ∷ gs) (p' ∷ ps) (c' ∷ cs) zero g p c h l a b d = λ j. Some (made (sym a j) (sym b j) (sym d j))
rows-at (g' ∷ gs) (p' ∷ ps) (c' ∷ cs) (suc i) g p c h l a b d = rows-at gs ps cs i g p c (tails g' gs p' ps c' cs h) (omega arith) a b d
