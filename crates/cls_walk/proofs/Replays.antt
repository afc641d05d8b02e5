-- What is known of a listing stays right while codes are added, and what is copied by it.
use Rattle.std.proofs.Common.{◌≡◌, ℕ, ◌+◌, ◌-◌, ◌<◌, ◌≤◌, List, [], ◌∷◌, ◌++◌, length, map, take, drop, refl, sym, ap, subst, inl, inr, ◌∙◌, arith, append-nil, append_assoc, length-append, Bool, true, false}
use Rattle.std.specs.Prelude.{◌↔◌, slice_index_or, Option, None, Some, Result, Ok, Err, IfOk}
use Rattle.std.proofs.Math.Seq.{drop-append_seam}
use Rattle.std.proofs.lemmas.List.{get_or-append-add, get_or_append_left, get_or-map, length-map, map-append, take-append-drop, take_more}
use Rattle.cls_base.specs.Terms.{Precedes}
use Rattle.cls_enum.specs.Members.{IsIn}
use Rattle.cls_enum.proofs.Members.{in_cases, in_left, in_right, take-whole}
use Rattle.cls_walk.specs.Filled.{needs}
use Rattle.cls_walk.specs.Fronts.{Ascends, IsFront}
use Rattle.cls_walk.specs.Stretches.{stretch_at, Holds, HoldsAll, IsOf, Copies, Remembers}
use Rattle.cls_walk.specs.Walks.{IsWanted, Lists}
use Rattle.cls_walk.specs.declared.cursor.Cursor.{Cursor}
use Rattle.cls_walk.specs.declared.plan.Plan.{Plan}
use Rattle.cls_walk.specs.declared.stretch.Stretch.{Stretch}
use Rattle.cls_walk.specs.declared.walk.Walk.{Walk}
use Rattle.cls_walk.proofs.Fronts.{front-same}
use Rattle.cls_walk.proofs.Stretches.{same_or_not}
use Rattle.cls_walk.proofs.Walks.{front-going, true_no_false}

-- the first codes of a listing, and those after them
ascends-left : (vs ws : List (List ℕ)) → Ascends (vs ++ ws) → Ascends vs
ascends-left [] ws h = tt
ascends-left (v ∷ vs) ws h = ((λ w i. h.0 w (in_left vs ws w i)), ascends-left vs ws h.1)

ascends-cross : (vs ws : List (List ℕ)) (v w : List ℕ) → Ascends (vs ++ ws) → IsIn vs v → IsIn ws w → Precedes v w
ascends-cross [] ws v w h i j = absurd i
ascends-cross (u ∷ vs) ws v w h (inl p) j = let P : List ℕ → Type 0 = λ z. Precedes z w in subst P p (h.0 w (in_right vs ws w j))
ascends-cross (u ∷ vs) ws v w h (inr i) j = ascends-cross vs ws v w h.1 i j

front-cut : (P : List ℕ → Type 0) (F : Type 0) (vs ws : List (List ℕ)) → F → IsFront P ⊥ (vs ++ ws) → IsFront P F vs
front-cut P F vs ws f h = record {
  ascends = ascends-left vs ws h.ascends;
  each = λ w i. h.each w (in_left vs ws w i);
  all = λ w p. elim (h.all w p) [
    | inl i ↦ elim (in_cases vs ws w i) [
      | inl j ↦ inl j
      | inr j ↦ inr (f, (λ v k. ascends-cross vs ws v w h.ascends k j))
    ]
    | inr z ↦ absurd z.0
  ];
}

-- a whole listing, whether the list is full or not
front-whole : (P : List ℕ → Type 0) (F : Type 0) (ws : List (List ℕ)) → IsFront P ⊥ ws → IsFront P F ws
front-whole P F ws h = record { ascends = h.ascends; each = h.each; all = λ w p. elim (h.all w p) [ inl i ↦ inl i | inr z ↦ absurd z.0 ] }

-- all of a listing, or the first codes of it
front-taken : (P : List ℕ → Type 0) (going : Bool) (k : ℕ) (ws : List (List ℕ)) → (going ≡ true → k ≡ length ws) → IsFront P ⊥ ws → IsFront P (going ≡ false) (take k ws)
front-taken P true k ws e h =
    let Q : List (List ℕ) → Type 0 = λ vs. IsFront P (true ≡ false) vs in
    subst Q (sym (take-whole k ws (omega (arith, e refl)))) (front-whole P (true ≡ false) ws h)
front-taken P false k ws e h =
    let Q : List (List ℕ) → Type 0 = λ vs. IsFront P ⊥ vs in
    front-cut P (false ≡ false) (take k ws) (drop k ws) refl (subst Q (sym (take-append-drop k ws)) h)

-- more codes are listed
pub holds-grown : (r : Stretch) (listed more ws : List (List ℕ)) → Holds r listed ws → Holds r (listed ++ more) ws
holds-grown r listed more ws h =
    let vs : List (List ℕ) = map (λ w. h.begun ++ w) ws in
    record {
      earlier = h.earlier;
      begun = h.begun;
      later = h.later ++ more;
      codes = ap (λ (us : List (List ℕ)). us ++ more) h.codes ∙ append_assoc (h.earlier ++ vs) h.later more;
      start = h.start;
      end = h.end;
      from = h.from;
    }

pub remembers-grown : (plan : Plan) (old new : Walk) (more : List (List ℕ)) → new.known ≡ old.known → new.codes ≡ old.codes ++ more → Remembers plan old → Remembers plan new
remembers-grown plan old new more k c h = λ n slack r p.
    let q = h n slack r (ap (λ (columns : List (List (Option Stretch))). stretch_at columns n slack) (sym k) ∙ p) in
    let P : List (List ℕ) → Type 0 = λ us. Holds r us q.0 in
    (q.0, subst P (sym c) (holds-grown r old.codes more q.0 q.1), q.2)

-- nothing is known
pub remembers-none : (plan : Plan) (walk : Walk) → walk.known ≡ [] → Remembers plan walk
remembers-none plan walk k = λ n slack r p. absurd (none_no_some r (ap (λ (columns : List (List (Option Stretch))). stretch_at columns n slack) (sym k) ∙ p))
  where
    none_no_some : (r : Stretch) → None ≡ Some r → ⊥
    none_no_some r p = cc

-- where the codes of a stretch stand
pub holds-at : (r : Stretch) (listed ws : List (List ℕ)) (i : ℕ) → Holds r listed ws → i < length ws
    → (r.start + i < length listed) × ((v : List ℕ) × (length v ≡ r.from) × (slice_index_or listed (r.start + i) [] ≡ v ++ slice_index_or ws i []))
holds-at r listed ws i h l =
    let f : List ℕ → List ℕ = λ w. h.begun ++ w in
    let vs : List (List ℕ) = map f ws in
    let n = length-map ws f in
    let b = length-append h.earlier vs in
    let at : slice_index_or (h.earlier ++ vs ++ h.later) (length h.earlier + i) [] ≡ h.begun ++ slice_index_or ws i [] =
    get_or_append_left (h.earlier ++ vs) h.later [] (length h.earlier + i) (omega (arith, l, n, b)) ∙ get_or-append-add h.earlier vs i [] ∙ get_or-map f ws i [] [] l in
    let P : ℕ → Type 0 = λ k. slice_index_or listed k [] ≡ h.begun ++ slice_index_or ws i [] in (
      (let a = ap (λ (us : List (List ℕ)). length us) h.codes in let c = length-append (h.earlier ++ vs) h.later in let s = h.start in omega (arith, a, b, c, n, s, l)),
      (h.begun, h.from, subst P (ap (λ (k : ℕ). k + i) h.start) (ap (λ (us : List (List ℕ)). slice_index_or us (length h.earlier + i) []) h.codes ∙ at)),
    )

module _ (r : Stretch) (old listed ws : List (List ℕ)) (more : List (List ℕ)) (place : ℕ) where
  -- the next code to be copied stands there still, behind what was written before it
  pub next-at : Holds r old ws → listed ≡ old ++ more → r.start ≤ place → place < r.end
      → (place < length listed) × ((v : List ℕ) × (length v ≡ r.from) × (slice_index_or listed place [] ≡ v ++ slice_index_or ws (place - r.start) []))
  next-at h e l m =
      let P : List (List ℕ) → Type 0 = λ us. Holds r us ws in
      let n = h.end in
      let q = holds-at r listed ws (place - r.start) (subst P (sym e) (holds-grown r old more ws h)) (omega (arith, l, m, n)) in
      let Q : ℕ → Type 0 = λ k. (k < length listed) × ((v : List ℕ) × (length v ≡ r.from) × (slice_index_or listed k [] ≡ v ++ slice_index_or ws (place - r.start) [])) in
      subst Q (omega (arith, l)) q

  pub next-long : Holds r old ws → listed ≡ old ++ more → r.start ≤ place → place < r.end → r.from ≤ length (slice_index_or listed place [])
  next-long h e l m =
      let q = next-at h e l m in
      let a = ap (λ (w : List ℕ). length w) q.1.2 in
      let b = length-append q.1.0 (slice_index_or ws (place - r.start) []) in
      let c = q.1.1 in
      omega (arith, a, b, c)

  -- what is copied of it
  pub next-is : Holds r old ws → listed ≡ old ++ more → r.start ≤ place → place < r.end → drop r.from (slice_index_or listed place []) ≡ slice_index_or ws (place - r.start) []
  next-is h e l m =
      let q = next-at h e l m in
      let w = slice_index_or ws (place - r.start) [] in
      ap (drop r.from) q.1.2 ∙ ap (λ (k : ℕ). drop k (q.1.0 ++ w)) (sym q.1.1) ∙ drop-append_seam q.1.0 w

-- one code more is copied
pub copies-next : (r : Stretch) (old listed new ws : List (List ℕ)) (code begun : List ℕ) (place : ℕ) → Holds r old ws
    → listed ≡ old ++ map (λ w. code ++ w) (take (place - r.start) ws) → r.start ≤ place → place < r.end → begun ≡ code
    → new ≡ listed ++ (begun ++ drop r.from (slice_index_or listed place [])) ∷ []
    → new ≡ old ++ map (λ w. code ++ w) (take (place + 1 - r.start) ws)
copies-next r old listed new ws code begun place h e l m b n =
    let f : List ℕ → List ℕ = λ w. code ++ w in
    let i = place - r.start in
    let vs : List (List ℕ) = map f (take i ws) in
    let w = slice_index_or ws i [] in
    let z = h.end in
    let one : new ≡ listed ++ f w ∷ [] = n ∙ (λ j. listed ++ (b j ++ next-is r old listed ws vs place h e l m j) ∷ []) in
    let t : take (place + 1 - r.start) ws ≡ take i ws ++ w ∷ [] =
    ap (λ (k : ℕ). take k ws) (let q : place + 1 - r.start ≡ i + 1 = omega (arith, l) in q) ∙ take_more ws i [] (omega (arith, l, m, z)) in
    one ∙ ap (λ (us : List (List ℕ)). us ++ f w ∷ []) e ∙ append_assoc old vs (f w ∷ [])
    ∙ ap (λ (us : List (List ℕ)). old ++ us) (sym (map-append f (take i ws) (w ∷ [])) ∙ ap (map f) (sym t))

-- where the cursor is passed
wanted-of : (plan : Plan) (n size : ℕ) (cursor : Cursor) → cursor.passed ≡ true → (w : List ℕ) → IsOf plan n size w ↔ IsWanted plan (n ∷ []) size cursor w
wanted-of plan n size cursor p w = (
  (λ h. record { filled = h.filled; sized = h.sized; behind = λ f. absurd (true_no_false (sym p ∙ f)) }),
  (λ h. record { filled = h.filled; sized = h.sized }),
)

-- the copied codes are those that are wanted
pub lists-copied : (plan : Plan) (n slack : ℕ) (r : Stretch) (cursor : Cursor) (old new : Walk) (going : Bool) → cursor.passed ≡ true → (h : HoldsAll plan n slack r old.codes) → Copies h.0 old new going
    → Lists (IsWanted plan (n ∷ []) (needs plan.least.now (n ∷ []) + slack) cursor) old new going
lists-copied plan n slack r cursor old new going p h c =
    let size = needs plan.least.now (n ∷ []) + slack in (
      take c.0 h.0,
      front-same (IsOf plan n size) (IsWanted plan (n ∷ []) size cursor) (going ≡ false) (take c.0 h.0) (wanted-of plan n size cursor p) (front-taken (IsOf plan n size) going c.0 h.0 c.1 h.2),
      c.2,
    )

-- codes that are listed whole
pub holds-listed : (plan : Plan) (n slack : ℕ) (r : Stretch) (cursor : Cursor) (old new : Walk) → cursor.passed ≡ true → r.start ≡ length old.codes → r.end ≡ length new.codes → r.from ≡ length old.code.items
    → Lists (IsWanted plan (n ∷ []) (needs plan.least.now (n ∷ []) + slack) cursor) old new true → HoldsAll plan n slack r new.codes
holds-listed plan n slack r cursor old new p s e b l =
    let size = needs plan.least.now (n ∷ []) + slack in
    let vs : List (List ℕ) = map (λ w. old.code.items ++ w) l.0 in
    let same : (w : List ℕ) → IsWanted plan (n ∷ []) size cursor w ↔ IsOf plan n size w = λ w. let q = wanted-of plan n size cursor p w in (q.1, q.0) in (
      l.0,
      record {
        earlier = old.codes;
        begun = old.code.items;
        later = [];
        codes = l.2 ∙ sym (append-nil (old.codes ++ vs));
        start = sym s;
        end = (let a = ap (λ (us : List (List ℕ)). length us) l.2 in let c = length-append old.codes vs in let d = length-map l.0 (λ w. old.code.items ++ w) in omega (arith, a, c, d, s, e));
        from = sym b;
      },
      front-same (IsWanted plan (n ∷ []) size cursor) (IsOf plan n size) ⊥ l.0 same (front-going (IsWanted plan (n ∷ []) size cursor) l.0 l.1),
    )

-- a stretch is known from now on
pub remembers-kept : (plan : Plan) (n slack : ℕ) (r : Stretch) (old new : Walk) → new.codes ≡ old.codes → stretch_at new.known n slack ≡ Some r
    → ((m s : ℕ) → ((m ≡ n) × (s ≡ slack) → ⊥) → stretch_at new.known m s ≡ stretch_at old.known m s)
    → HoldsAll plan n slack r old.codes → Remembers plan old → Remembers plan new
remembers-kept plan n slack r old new c k o h old_all = λ m s q p.
    let P : List (List ℕ) → Type 0 = λ us. HoldsAll plan m s q us in
    let other : ((m ≡ n) × (s ≡ slack) → ⊥) → HoldsAll plan m s q old.codes = λ d. old_all m s q (sym (o m s d) ∙ p) in
    subst P (sym c) (elim (same_or_not m n) [
      | inr d ↦ other (λ e. d e.0)
      | inl e ↦ elim (same_or_not s slack) [
        | inr d ↦ other (λ f. d f.1)
        | inl f ↦ (
            let at : Some r ≡ Some q = sym k ∙ (λ i. stretch_at new.known (sym e i) (sym f i)) ∙ p in
            let Q : ℕ → ℕ → Stretch → Type 0 = λ x y z. HoldsAll plan x y z old.codes in
            let A : Stretch → Type 0 = λ z. Q m s z in
            subst A (some-same r q at) (let B : ℕ → Type 0 = λ x. Q x s r in subst B (sym e) (let C : ℕ → Type 0 = λ y. Q n y r in subst C (sym f) h)))
      ]
    ])
  where
    some-same : (a b : Stretch) → Some a ≡ Some b → a ≡ b
    some-same a b p = cc

-- what is replayed of a stretch that is known
pub lists-replayed : {E : Type 0} (plan : Plan) (n slack : ℕ) (r : Stretch) (cursor : Cursor) (old new : Walk) (result : Result Bool E) → cursor.passed ≡ true → (h : HoldsAll plan n slack r old.codes)
    → IfOk result (Copies h.0 old new) → IfOk result (Lists (IsWanted plan (n ∷ []) (needs plan.least.now (n ∷ []) + slack) cursor) old new)
lists-replayed plan n slack r cursor old new (Ok going) p h c = lists-copied plan n slack r cursor old new going p h c
lists-replayed plan n slack r cursor old new (Err e) p h c = tt
