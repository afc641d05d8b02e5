-- How many terms of a node there are, by the codes that a walk over frames lists.
use Rattle.std.proofs.Common.{◌≡◌, ℕ, List, [], ◌∷◌, ◌++◌, length, map, sym, ap, ◌∙◌, subst, inl, inr, arith, Bool, false}
use Rattle.std.proofs.lemmas.List.{length-map}
use Rattle.cls_base.specs.Limits.{max_term_length}
use Rattle.cls_base.specs.Lists.{AreDistinct}
use Rattle.cls_base.specs.Terms.{Applicative, code_of}
use Rattle.cls_base.specs.declared.rule.Rule.{Rule}
use Rattle.cls_term.specs.Costs.{cost_of}
use Rattle.cls_term.proofs.Codes.{code_of-one_to_one}
use Rattle.cls_term.proofs.Orders.{Precedes-irrefl}
use Rattle.cls_enum.specs.Candidates.{IsInCell}
use Rattle.cls_enum.specs.Members.{IsIn}
use Rattle.cls_enum.proofs.Counting.{no_more_than}
use Rattle.cls_enum.proofs.Members.{in_from, in_map}
use Rattle.cls_walk.specs.Counts.{AtLeast, AtMost}
use Rattle.cls_walk.specs.FrameGuides.{IsGuide}
use Rattle.cls_walk.specs.FrameWalks.{IsDueOn}
use Rattle.cls_walk.specs.Fronts.{Ascends, IsFront}
use Rattle.cls_walk.specs.Walks.{IsBehind, Lists}
use Rattle.cls_walk.specs.declared.cursor.Cursor.{Cursor}
use Rattle.cls_walk.specs.declared.plan.Plan.{Plan}
use Rattle.cls_walk.specs.declared.walk.Walk.{Walk}
use Rattle.cls_walk.proofs.Attempts.{same-long, terms-of}
use Rattle.cls_walk.proofs.FrameEnds.{lists-start, start-lists}
use Rattle.cls_walk.proofs.Lists.{once-map}
use Rattle.cls_walk.proofs.PageFronts.{code-in}

-- codes that ascend are of different terms
once-codes : (es : List Applicative) → Ascends (map code_of es) → AreDistinct es
once-codes [] h = tt
once-codes (e ∷ es) h = ((λ c. Precedes-irrefl (code_of e) (h.0 (code_of e) (code-in es e (in_from es e c)))), once-codes es h.1)

module _ (book : List (List (Rule ℕ))) (cost : ℕ → ℕ) (node size : ℕ) (cursor : Cursor) where
  abbrev Due : List ℕ → Type 0
  Due = IsDueOn book cost node [] size max_term_length cursor

  -- the term of a code
  due-term : (w : List ℕ) → Due w → (e : Applicative) × IsInCell book cost node size e × (w ≡ code_of e)
  due-term w d = let q = lists-start book cost node size max_term_length w d.lists in (q.0, (q.1, q.2, q.3), q.4)

  due-cell : (e : Applicative) → Due (code_of e) → IsInCell book cost node size e
  due-cell e d =
      let q = due-term (code_of e) d in
      let P : Applicative → Type 0 = λ z. IsInCell book cost node size z in
      subst P (code_of-one_to_one q.0 e (sym q.2)) q.1

  -- what is listed is of different terms
  front-least : (F : Type 0) (ws : List (List ℕ)) → IsFront Due F ws → AtLeast book cost size node (length ws)
  front-least F ws f =
      let t = terms-of ws (λ w i. let q = due-term w (f.each w i) in (q.0, q.2)) in
      let A : List (List ℕ) → Type 0 = λ vs. Ascends vs in
      let l : length ws ≡ length t.0 = ap (λ (vs : List (List ℕ)). length vs) (sym t.1) ∙ same-long t.0 in (
        t.0,
        record {
          different = once-codes t.0 (subst A (sym t.1) f.ascends);
          terms = λ e i. (let I : List (List ℕ) → Type 0 = λ vs. IsIn vs (code_of e) in due-cell e (f.each (code_of e) (subst I t.1 (code-in t.0 e i))));
        },
        omega (arith, l),
      )

  -- if nothing is missing, there are no others
  front-most : (F : Type 0) (ws : List (List ℕ)) → (F → ⊥) → ((w : List ℕ) → IsBehind cursor w) → IsFront Due F ws → AtMost book cost size node (length ws)
  front-most F ws full behind f es a =
      let l = no_more_than (map code_of es) ws (once-map code_of es code_of-one_to_one a.different) (λ w i.
      let r = in_map code_of es w i in
      let g = a.terms r.0 r.1 in
      let I : List ℕ → Type 0 = λ v. IsIn ws v in
      let d : Due (code_of r.0) = record { lists = start-lists book cost node size max_term_length r.0 g.0 g.1 g.2; behind = behind (code_of r.0) } in
      elim (f.all (code_of r.0) d) [ inl j ↦ subst I r.2 j | inr j ↦ absurd (full j.0) ]) in
      omega (arith, l, same-long es)

  -- the codes are all that are listed
  listed-long : (old new : Walk) (going : Bool) → old.codes ≡ [] → (h : Lists Due old new going) → length new.codes ≡ length h.0
  listed-long old new going e h =
      let behind : List ℕ → List ℕ = λ w. old.code.items ++ w in
      ap (λ (vs : List (List ℕ)). length vs) (h.2 ∙ ap (λ (vs : List (List ℕ)). vs ++ map behind h.0) e) ∙ length-map h.0 behind

  pub listed-least : (old new : Walk) (going : Bool) → old.codes ≡ [] → Lists Due old new going → AtLeast book cost size node (length new.codes)
  listed-least old new going e h =
      let P : ℕ → Type 0 = λ n. AtLeast book cost size node n in
      subst P (sym (listed-long old new going e h)) (front-least (going ≡ false) h.0 h.1)

  pub listed-most : (old new : Walk) (going : Bool) → old.codes ≡ [] → ((w : List ℕ) → IsBehind cursor w) → (going ≡ false → ⊥) → Lists Due old new going → AtMost book cost size node (length new.codes)
  listed-most old new going e behind full h =
      let P : ℕ → Type 0 = λ n. AtMost book cost size node n in
      subst P (sym (listed-long old new going e h)) (front-most (going ≡ false) h.0 full behind h.1)

-- what a plan of another node lists, which has the same costs
module _ (book : List (List (Rule ℕ))) (plan of_node : Plan) (costs : of_node.costs.now ≡ plan.costs.now) where
  pub node-guided : IsGuide book (cost_of plan.costs.now) of_node.guide → IsGuide book (cost_of of_node.costs.now) of_node.guide
  node-guided g = let P : List ℕ → Type 0 = λ ns. IsGuide book (cost_of ns) of_node.guide in subst P (sym costs) g

  pub node-listed : (node size : ℕ) (cursor : Cursor) (old new : Walk) (going : Bool) → of_node.guide.start ≡ node
      → Lists (IsDueOn book (cost_of of_node.costs.now) of_node.guide.start [] size max_term_length cursor) old new going
      → Lists (IsDueOn book (cost_of plan.costs.now) node [] size max_term_length cursor) old new going
  node-listed node size cursor old new going start h =
      let P : List ℕ → Type 0 = λ ns. Lists (IsDueOn book (cost_of ns) of_node.guide.start [] size max_term_length cursor) old new going in
      let Q : ℕ → Type 0 = λ n. Lists (IsDueOn book (cost_of plan.costs.now) n [] size max_term_length cursor) old new going in
      subst Q start (subst P costs h)
