-- A walk from size to size.
use Rattle.std.proofs.Common.{◌≡◌, ℕ, suc, ◌+◌, ◌-◌, ◌<◌, ◌≤◌, List, [], ◌∷◌, ◌++◌, length, map, take, refl, sym, ap, ◌∙◌, subst, inl, inr, arith, Bool, true, false}
use Rattle.std.specs.Prelude.{◌⊎◌, ◌↔◌, nat_lt, slice_index, Option, IfSome, Result, Ok, Err, IfOk}
use Rattle.std.proofs.lemmas.List.{map-append}
use Rattle.cls_base.specs.Terms.{Applicative, size_of, code_of, Before}
use Rattle.cls_base.specs.declared.rule.Rule.{Rule}
use Rattle.cls_base.specs.Languages.{IsGenerated}
use Rattle.cls_base.specs.Limits.{max_term_length}
use Rattle.cls_base.specs.Pages.{Request, IsDue, IsPage}
use Rattle.cls_base.specs.Pools.{IsEnough}
use Rattle.cls_base.proofs.Lists.{Contains-nil}
use Rattle.cls_term.specs.Costs.{cost_of}
use Rattle.cls_enum.specs.Candidates.{IsInCell}
use Rattle.cls_enum.specs.Members.{IsIn}
use Rattle.cls_enum.specs.Requests.{request}
use Rattle.cls_enum.specs.States.{FitsPool}
use Rattle.cls_enum.proofs.CellLaws.{costs_something}
use Rattle.cls_walk.specs.Attempts.{AreDueCodes, AreFormsUpTo}
use Rattle.cls_walk.specs.Bounds.{HasUpper}
use Rattle.cls_walk.specs.Counts.{total_below, up_below, AreTerms}
use Rattle.cls_walk.specs.Filled.{forms_at}
use Rattle.cls_walk.specs.Forms.{AreForms}
use Rattle.cls_walk.specs.FrameGuides.{IsGuide}
use Rattle.cls_walk.specs.FramePlans.{IsPlan}
use Rattle.cls_walk.specs.FrameWalks.{IsDueOn}
use Rattle.cls_walk.specs.Fronts.{IsFront}
use Rattle.cls_walk.specs.PageFronts.{IsDueFront, IsDueCode}
use Rattle.cls_walk.specs.Tables.{capped, number_at, Holds}
use Rattle.cls_walk.specs.Totals.{total_held}
use Rattle.cls_walk.specs.Walks.{IsBehind, IsWanted, Lists}
use Rattle.cls_walk.specs.declared.cursor.Cursor.{Cursor}
use Rattle.cls_walk.specs.declared.plan.Plan.{Plan}
use Rattle.cls_walk.specs.declared.walk.Walk.{Walk}
use Rattle.cls_walk.proofs.Counts.{at_most}
use Rattle.cls_walk.proofs.Capped.{capped-plus, capped-total}
use Rattle.cls_walk.proofs.Filled.{filled-least, filled-one, one-filled}
use Rattle.cls_walk.proofs.FrameWalks.{due-listed}
use Rattle.cls_walk.proofs.PageFronts.{front-size, front_decides, front_is_page}
use Rattle.cls_walk.proofs.Pools.{accepted}
use Rattle.cls_walk.proofs.Sure.{length-size}
use Rattle.cls_walk.proofs.Tables.{capped-twice}
use Rattle.cls_walk.proofs.Walks.{lists-none, lists-same}

module _ (book : List (List (Rule ℕ))) (plan : Plan) (after : Option Applicative) (max last size : ℕ) (forms : AreFormsUpTo book last plan.forms.now) (some : 1 ≤ size) (within : size ≤ last) (least : size ≤ max) (short : size ≤ 64) where
  abbrev cost : ℕ → ℕ
  cost = cost_of plan.costs.now

  abbrev r : Request
  r = request plan.costs.now after max plan.take

  abbrev Code : List ℕ → Type 0
  Code = IsDueCode (IsDue (IsGenerated book 0) r) cost size

  abbrev most : ℕ
  most = last - 1

  all-forms : (n : ℕ) → AreForms book most n (forms_at plan.forms.now n)
  all-forms n = forms n most (omega (arith, some, within))

  wanted-due : (cursor : Cursor) → ((e : Applicative) → size_of cost e ≡ size → IfSome after (λ a. Before cost a e) ↔ IsBehind cursor (code_of e)) → (w : List ℕ) → IsWanted plan (0 ∷ []) size cursor w ↔ Code w
  wanted-due cursor c w = (
    (λ h.
        let q = filled-one book cost plan.positive plan.forms.now most all-forms 0 size w h.filled h.sized in
        let B : List ℕ → Type 0 = IsBehind cursor in
        let k = length-size cost plan.positive q.0 in (
          q.0,
          record {
            typed = q.1;
            small = (let z = q.2 in omega (arith, z, least));
            short = (let z = q.2 in omega (arith, z, k, short));
            later = (c q.0 q.2).1 (subst B q.3 h.behind);
          },
          q.2,
          q.3,
        )),
    (λ h.
        let q = one-filled book cost plan.positive plan.forms.now most all-forms 0 size h.0 h.1.typed h.2 (omega (arith, within, some)) in
        let P : List ℕ → Type 0 = λ u. IsWanted plan (0 ∷ []) size cursor u in
        subst P (sym h.3) (record { filled = q.0; sized = q.1; behind = (c h.0 h.2).0 h.1.later })),
  )

  -- what is listed of a size
  lists-due : (cursor : Cursor) (old new : Walk) (going : Bool) → ((e : Applicative) → size_of cost e ≡ size → IfSome after (λ a. Before cost a e) ↔ IsBehind cursor (code_of e)) → Lists (IsWanted plan (0 ∷ []) size cursor) old new going → Lists Code old new going
  lists-due cursor old new going c l = lists-same (IsWanted plan (0 ∷ []) size cursor) Code old new going (wanted-due cursor c) l

  pub ok-due : {E : Type 0} (cursor : Cursor) (old new : Walk) (r : Result Bool E) → ((e : Applicative) → size_of cost e ≡ size → IfSome after (λ a. Before cost a e) ↔ IsBehind cursor (code_of e)) → IfOk r (Lists (IsWanted plan (0 ∷ []) size cursor) old new) → IfOk r (Lists Code old new)
  ok-due cursor old new (Ok going) c l = lists-due cursor old new going c l
  ok-due cursor old new (Err e) c l = tt

  -- terms of the size come before the cursor
  pub none-due : (old : Walk) → ((e : Applicative) → size_of cost e ≡ size → IfSome after (λ a. Before cost a e) → ⊥) → Lists Code old old true
  none-due old n = lists-none Code old (λ w h. n h.0 h.2 h.1.later)

-- terms of node 0 are greater
pub too-small : (plan : Plan) (size : ℕ) (cursor : Cursor) (a : Walk) → size < slice_index plan.least.now 0 → Lists (IsWanted plan (0 ∷ []) size cursor) a a true
too-small plan size cursor a l = lists-none (IsWanted plan (0 ∷ []) size cursor) a (λ w h.
    let k = filled-least plan.forms.now (cost_of plan.costs.now) plan.least.now plan.least_sizes (0 ∷ []) w h.filled in
    let s = h.sized in
    omega (arith, k, s, l))

-- a plan goes by forms or by frames
forms-or-frames : (b : Bool) → (b ≡ true) ⊎ (b ≡ false)
forms-or-frames true = inl refl
forms-or-frames false = inr refl

-- what is listed of a size over frames
pub framed-due : {E : Type 0} (book : List (List (Rule ℕ))) (plan : Plan) (after : Option Applicative) (max size : ℕ) → size ≤ max → (cursor : Cursor) (old new : Walk) (answer : Result Bool E)
    → let r = request plan.costs.now after max plan.take in
    ((e : Applicative) → size_of r.cost e ≡ size → IfSome after (λ a. Before r.cost a e) ↔ IsBehind cursor (code_of e))
    → IfOk answer (Lists (IsDueOn book r.cost 0 [] size max_term_length cursor) old new) → IfOk answer (Lists (IsDueCode (IsDue (IsGenerated book 0) r) r.cost size) old new)
framed-due book plan after max size least cursor old new (Ok going) c l = due-listed book (request plan.costs.now after max plan.take) size least cursor c old new going l
framed-due book plan after max size least cursor old new (Err e) c l = tt

-- what is listed of a size
pub planned-due : {E : Type 0} (book : List (List (Rule ℕ))) (plan : Plan) (after : Option Applicative) (max last size : ℕ) → IsPlan book last plan → 1 ≤ size → size ≤ last → size ≤ max → size ≤ 64 → (cursor : Cursor) (old new : Walk) (answer : Result Bool E)
    → let r = request plan.costs.now after max plan.take in
    ((e : Applicative) → size_of r.cost e ≡ size → IfSome after (λ a. Before r.cost a e) ↔ IsBehind cursor (code_of e))
    → (plan.is_rising ≡ true → IfOk answer (Lists (IsWanted plan (0 ∷ []) size cursor) old new))
    → (plan.is_rising ≡ false → (b : List (List (Rule ℕ))) → IsGuide b r.cost plan.guide → IfOk answer (Lists (IsDueOn b r.cost plan.guide.start [] size max_term_length cursor) old new))
    → IfOk answer (Lists (IsDueCode (IsDue (IsGenerated book 0) r) r.cost size) old new)
planned-due book plan after max last size known some within least short cursor old new answer c f g = elim (forms-or-frames plan.is_rising) [
  | inl e ↦ ok-due book plan after max last size (known.forms e) some within least short cursor old new answer c (f e)
  | inr e ↦
      let r = request plan.costs.now after max plan.take in
      let P : ℕ → Type 0 = λ n. IfOk answer (Lists (IsDueOn book r.cost n [] size max_term_length cursor) old new) in
      framed-due book plan after max size least cursor old new answer c (subst P (known.start e) (g e book (known.guide e)))
]

-- no term is made that the upper bound rules out
none-made : (book : List (List (Rule ℕ))) (cost : ℕ → ℕ) → ((x : ℕ) → 1 ≤ cost x) → (known size n : ℕ) → size < known → up_below book cost known size n ≡ 0 → (e : Applicative) → IsInCell book cost n size e → ⊥
none-made book cost positive known size n l z e g =
    let P : Applicative → Type 0 = λ f. IsInCell book cost n size f in
    let h : AreTerms book cost size n (e ∷ []) = record {
      different = ((λ c. Contains-nil e c), tt);
      terms = λ f i. elim i [ inl p ↦ subst P p g | inr y ↦ absurd y ];
    } in
    let a = at_most book cost positive known size n l (e ∷ []) h in
    omega (arith, a, z)

pub none-of-size : (book : List (List (Rule ℕ))) (plan : Plan) (after : Option Applicative) (max last size : ℕ) → HasUpper book (cost_of plan.costs.now) (last + 1) plan.upper.now → size ≤ last → number_at plan.upper.now size 0 ≡ 0 → (old : Walk)
    → let r = request plan.costs.now after max plan.take in Lists (IsDueCode (IsDue (IsGenerated book 0) r) r.cost size) old old true
none-of-size book plan after max last size upper within none old =
    let r = request plan.costs.now after max plan.take in
    let cost = cost_of plan.costs.now in
    let a = upper.1 size 0 in
    lists-none (IsDueCode (IsDue (IsGenerated book 0) r) cost size) old (λ w h.
    none-made book cost plan.positive (last + 1) size 0 (omega (arith, within)) (omega (arith, a, none)) h.0 (h.1.typed, h.2, h.1.short))

-- the terms of codes
pub terms-of : (ws : List (List ℕ)) → ((w : List ℕ) → IsIn ws w → (e : Applicative) × (w ≡ code_of e)) → (es : List Applicative) × (map code_of es ≡ ws)
terms-of [] f = ([], refl)
terms-of (w ∷ ws) f =
    let h = f w (inl refl) in
    let r = terms-of ws (λ v i. f v (inr i)) in
    (h.0 ∷ r.0, (λ i. sym h.1 i ∷ r.1 i))

map-same : (ws : List (List ℕ)) (c : List ℕ) → c ≡ [] → map (λ w. c ++ w) ws ≡ ws
map-same ws c p = (λ i. map (λ w. p i ++ w) ws) ∙ plain ws
  where
    plain : (ws : List (List ℕ)) → map (λ w. [] ++ w) ws ≡ ws
    plain [] = refl
    plain (w ∷ ws) = ap (λ (vs : List (List ℕ)). w ∷ vs) (plain ws)

module _ (Due : Applicative → Type 0) (cost : ℕ → ℕ) (positive : (x : ℕ) → 1 ≤ cost x) where
  -- before size 1 there is nothing
  pub front-start : IsDueFront Due cost 1 ⊥ []
  front-start = record {
    rises = tt;
    each = λ e i. absurd i;
    all = λ e t l. absurd (let z = costs_something cost positive e in omega (arith, z, l));
  }

  -- one size more
  pub front-next : (size : ℕ) (es : List Applicative) (old new : Walk) (going : Bool) → old.code.items ≡ [] → old.codes ≡ map code_of es → IsDueFront Due cost size ⊥ es → Lists (IsDueCode Due cost size) old new going → (fs : List Applicative) × (new.codes ≡ map code_of fs) × IsDueFront Due cost (size + 1) (going ≡ false) fs
  front-next size es old new going code codes front h =
      let ws = h.0 in
      let f = h.1 in
      let t = terms-of ws (λ w i. let p = f.each w i in (p.0, p.3)) in
      let P : List (List ℕ) → Type 0 = λ vs. IsFront (IsDueCode Due cost size) (going ≡ false) vs in (
        es ++ t.0,
        h.2
            ∙ (λ i. codes i ++ map-same ws old.code.items code i)
            ∙ ap (λ (vs : List (List ℕ)). map code_of es ++ vs) (sym t.1)
            ∙ sym (map-append code_of es t.0),
        front-size Due cost size (going ≡ false) es t.0 front (subst P (sym t.1) f),
      )

  pub front-still : (size : ℕ) (es : List Applicative) → IsDueFront Due cost size (true ≡ false) es → IsDueFront Due cost size ⊥ es
  front-still size es h = record {
    rises = h.rises;
    each = h.each;
    all = λ e t l. elim (h.all e t l) [ inl i ↦ inl i | inr j ↦ absurd (let p = j.0 in cc) ];
  }

  front-full : (size n : ℕ) (es : List Applicative) (going : Bool) → (going ≡ false → n < length es) → IsDueFront Due cost size (going ≡ false) es → IsDueFront Due cost size (n < length es) es
  front-full size n es going f h = record {
    rises = h.rises;
    each = h.each;
    all = λ e t l. elim (h.all e t l) [ inl i ↦ inl i | inr j ↦ inr (f j.0, j.1) ];
  }

pub same-long : (es : List Applicative) → length (map code_of es) ≡ length es
same-long [] = refl
same-long (e ∷ es) = ap suc (same-long es)

-- one size more, where the list is full or this size is the last
pub due-codes : (book : List (List (Rule ℕ))) (r : Request) → ((x : ℕ) → 1 ≤ r.cost x) → (size : ℕ) (es : List Applicative) (old new : Walk) (going : Bool) → old.code.items ≡ [] → old.codes ≡ map code_of es → IsDueFront (IsDue (IsGenerated book 0) r) r.cost size ⊥ es → Lists (IsDueCode (IsDue (IsGenerated book 0) r) r.cost size) old new going → (going ≡ false → r.take < length new.codes) → AreDueCodes book r (size + 1) new.codes
due-codes book r positive size es old new going code codes front l full =
    let Due : Applicative → Type 0 = IsDue (IsGenerated book 0) r in
    let n = front-next Due r.cost positive size es old new going code codes front l in
    let a : length new.codes ≡ length n.0 = ap (λ (ws : List (List ℕ)). length ws) n.1 ∙ same-long n.0 in
    (n.0, n.1, front-full Due r.cost positive (size + 1) r.take n.0 going (λ f. let z = full f in omega (arith, a, z)) n.2)

-- sums of numbers that are capped
same-held : (count other : ℕ → ℕ → ℕ) → ((t n : ℕ) → capped (count t n) ≡ capped (other t n)) → (width s : ℕ) → capped (total_held count width s) ≡ capped (total_held other width s)
same-held count other h width s =
    let f : ℕ → ℕ = λ t. total_below width (λ n. count t n) in
    let g : ℕ → ℕ = λ t. total_below width (λ n. other t n) in
    let p : capped (total_below s f) ≡ capped (total_below s g) = capped-total s f g (λ t l. capped-total width (λ n. count t n) (λ n. other t n) (λ n m. h t n)) in
    sym (capped-plus (total_below s f) (count s 0)) ∙ (λ i. capped (p i + h s 0 i)) ∙ capped-plus (total_below s g) (other s 0)

-- the page is known at a size, and the upper bound of its pool is within the bound
pub page-within : (book : List (List (Rule ℕ))) (r : Request) → ((x : ℕ) → 1 ≤ r.cost x) → 0 < length book → (last s pool width : ℕ) (table : List (List ℕ)) → width ≡ length book → Holds (up_below book r.cost (last + 1)) (last + 1) table → s ≤ last → IsEnough (IsDue (IsGenerated book 0) r) r.cost r.take s ⊎ (s ≡ r.max) → ((n : ℕ) → capped n ≡ capped (total_held (number_at table) width s) → n ≤ pool) → FitsPool book r pool
page-within book r positive some last s pool width table e holds l known within =
    let up : ℕ → ℕ → ℕ = up_below book r.cost (last + 1) in
    let p : capped (total_held up width s) ≡ capped (total_held (number_at table) width s) = same-held up (number_at table) (λ t n. sym (capped-twice (up t n)) ∙ ap capped (sym (holds.1 t n))) width s in
    let P : ℕ → Type 0 = λ k. total_held up k s ≤ pool in
    accepted book r positive (last + 1) some s (omega (arith, l)) pool known (subst P e (within (total_held up width s) p))

-- the codes of the due terms up to a size at which the page is known
pub page-known : (book : List (List (Rule ℕ))) (r : Request) → 1 ≤ r.take → (s : ℕ) (codes : List (List ℕ)) → s ≤ r.max → (h : AreDueCodes book r (s + 1) codes) → (r.take < length codes) ⊎ (s ≡ r.max)
    → IsPage (IsGenerated book 0) r (take r.take h.0) (nat_lt r.take (length codes)) × (IsEnough (IsDue (IsGenerated book 0) r) r.cost r.take s ⊎ (s ≡ r.max))
page-known book r some s codes within h known =
    let a : length codes ≡ length h.0 = ap (λ (ws : List (List ℕ)). length ws) h.1 ∙ same-long h.0 in
    let d : (r.take < length h.0) ⊎ (s ≡ r.max) = elim known [ inl l ↦ inl (omega (arith, a, l)) | inr p ↦ inr p ] in
    let P : ℕ → Type 0 = λ k. IsPage (IsGenerated book 0) r (take r.take h.0) (nat_lt r.take k) in
    (subst P (sym a) (front_is_page (IsGenerated book 0) r some s h.0 within h.2 d), front_decides (IsGenerated book 0) r some s h.0 within h.2 d)
