-- Steps of the walk over the frames of the code.
use Rattle.std.proofs.Common.{◌≡◌, ℕ, ◌+◌, ◌-◌, ◌<◌, ◌≤◌, List, [], ◌∷◌, ◌++◌, length, get_or, refl, sym, ap, ◌∙◌, subst, inl, inr, arith, Bool, true, false}
use Rattle.std.specs.Prelude.{◌⊎◌, ◌↔◌, IfOk, Option, None, Some, Result}
use Rattle.cls_base.specs.Limits.{max_term_length}
use Rattle.cls_base.specs.declared.rule.Rule.{Rule}
use Rattle.cls_enum.specs.Members.{IsIn}
use Rattle.cls_walk.specs.FrameGuides.{least_of, IsGuide}
use Rattle.cls_walk.specs.FrameHeaps.{no_mark, stack_of, standings_of, AreFrames, AreGrown, AreSameFrames, Settled}
use Rattle.cls_walk.specs.FrameLevels.{levels_of, AreSameLevels}
use Rattle.cls_walk.specs.FrameOpenings.{Begins}
use Rattle.cls_walk.specs.FramePlans.{AreAimed, IsAimed, IsSettled}
use Rattle.cls_walk.specs.FrameWalks.{BeginsTo, BeginsWith, IsDueOn, IsOffered}
use Rattle.cls_walk.specs.Frames.{await_count, Place, Frame, AreAsking, Settles}
use Rattle.cls_walk.specs.Openings.{IsEarliest}
use Rattle.cls_walk.specs.Walks.{IsBehind, Lists}
use Rattle.cls_walk.specs.declared.cursor.Cursor.{Cursor}
use Rattle.cls_walk.specs.declared.aims.Levels.{Levels}
use Rattle.cls_walk.specs.declared.guide.Guide.{Guide}
use Rattle.cls_walk.specs.declared.opening.Opening.{Opening}
use Rattle.cls_walk.specs.declared.standing.Frames.{Frames}
use Rattle.cls_walk.specs.declared.walk.Walk.{Walk}
use Rattle.cls_walk.proofs.FrameHeaps.{frame_at, stacks-same, top-stack}
use Rattle.cls_walk.proofs.FramePlans.{all-here, aimed-begun, aimed-here, aimed-settled, asking-first, settled-ready}
use Rattle.cls_walk.proofs.FrameSettling.{count-some, settled-count, spare-opened}
use Rattle.cls_walk.proofs.FrameStacks.{stack-none}
use Rattle.cls_walk.proofs.FrameWalks.{due-begins, due-offered, due-opened, due-settled, emit-due, emit-undue, to-end, to-next, to-stop, to-with}
use Rattle.cls_walk.proofs.Walks.{lists-none}

-- what is due on a stack, where so many occurrences are to spare
abbrev pub DueOn : List (List (Rule ℕ)) → (ℕ → ℕ) → ℕ → List Frame → ℕ → ℕ → Cursor → List ℕ → Type 0
DueOn book cost start stack size spare cursor = IsDueOn book cost start stack size (spare + await_count stack) cursor

module _ (book : List (List (Rule ℕ))) (cost : ℕ → ℕ) (g : Guide) (right : IsGuide book cost g) (f : Frames) (l : Levels) (top most size spare : ℕ) (cursor : Cursor) (aimed : IsAimed book g f l top most) (few : spare ≤ most) (asks : AreAsking (stack_of f top)) where
  abbrev Due : List ℕ → Type 0
  Due = DueOn book cost g.start (stack_of f top) size spare cursor

  abbrev Offered : ℕ → ℕ → Type 0
  Offered = IsOffered book (least_of g) cost (levels_of l top) size spare

  due-first : (w : List ℕ) → Due w → (x : ℕ) × (k : ℕ) × (v : List ℕ) × (w ≡ x ∷ k ∷ v)
  due-first w d = due-begins book (least_of g) cost right.least g.start (stack_of f top) size (spare + await_count (stack_of f top)) cursor w (asking-first (stack_of f top) asks) d

  due-offers : (x k : ℕ) (v : List ℕ) → Due (x ∷ k ∷ v) → Offered x k
  due-offers x k v d = due-offered book (least_of g) cost right.least g.start (stack_of f top) most (levels_of l top) aimed.steps aimed.aims size (spare + await_count (stack_of f top)) spare cursor x k v few refl d

  pub stroll-stop : (last : Option Opening) (a c : Walk) → Lists (BeginsTo Due last) a c false → Lists Due a c false
  stroll-stop last a c h = to-stop Due Offered due-first due-offers last a c h

  pub stroll-end : (last : Option Opening) (a c : Walk) (going : Bool) → IsEarliest Offered last None → Lists (BeginsTo Due last) a c going → Lists Due a c going
  stroll-end last a c going e k = to-end Due Offered due-first due-offers last a c going e k

  -- the openings that aren't listed
  due-with : (o : Opening) (w : List ℕ) → BeginsWith Due o w → (v : List ℕ) × Due (o.component ∷ o.count ∷ v)
  due-with o w q = (q.rest, subst Due q.begins q.wanted)

  pub too-costly : (o : Opening) (a : Walk) → size < cost o.component → Lists (BeginsWith Due o) a a true
  too-costly o a z = lists-none (BeginsWith Due o) a (λ w q. let (v, d) = due-with o w q in let c = (due-offers o.component o.count v d).cheap in omega (arith, c, z))

  pub too-many : (o : Opening) (a : Walk) → spare < o.count → Lists (BeginsWith Due o) a a true
  too-many o a z = lists-none (BeginsWith Due o) a (λ w q. let (v, d) = due-with o w q in let c = (due-offers o.component o.count v d).few in omega (arith, c, z))

  pub too-soon : (o : Opening) (a : Walk) → ((v : List ℕ) → IsBehind cursor (o.component ∷ o.count ∷ v) → ⊥) → Lists (BeginsWith Due o) a a true
  too-soon o a b = lists-none (BeginsWith Due o) a (λ w q. let (v, d) = due-with o w q in b v d.behind)

  -- the same steps, where frames and levels are back
  module _ (here : Frames) (there : Levels) (back : AreSameFrames f here) (same : AreSameLevels l there) where
    abbrev Here : List ℕ → Type 0
    Here = DueOn book cost g.start (stack_of here top) size spare cursor

    pub stroll-next : (last : Option Opening) (o : Opening) (a b c : Walk) (going goes : Bool) → going ≡ goes → b.code.items ≡ a.code.items → IsEarliest Offered last (Some o) → Lists (BeginsTo Due last) a b true
        → AreAimed book g f l → (AreAimed book g here there → IsAimed book g here there top most → spare ≤ most → AreAsking (stack_of here top) → Lists (BeginsWith Here o) b c going)
        → Lists (BeginsTo Due (Some o)) a c goes
    stroll-next last o a b c going goes t p e k all opened =
        let s = stacks-same f here back top in
        let A : List Frame → Type 0 = λ fs. AreAsking fs in
        let B : List Frame → Type 0 = λ fs. Lists (BeginsWith (DueOn book cost g.start fs size spare cursor) o) b c going in
        let R : Bool → Type 0 = λ z. Lists (BeginsTo Due (Some o)) a c z in
        let w = opened (all-here book g f here l there back same all) (aimed-here book g f here l there top most back same aimed) few (subst A (sym s) asks) in
        subst R t (to-next Due Offered due-first due-offers last o a b c going e p k (subst B s w))

  -- the step into an opening, where its frame is begun and arguments end
  module _ (o : Opening) (left : ℕ) (next : Cursor) (begun ended : Frames) (first now : ℕ) (b : Begins book (least_of g) (levels_of l top) f begun top left o.component o.count first) (s : Settled g.rules.now begun ended first now) where
    ends : Settles book (record { places = b.places; left = o.count }) (stack_of f top) (stack_of ended now)
    ends = s.settles book right.rules (record { places = b.places; left = o.count }) (stack_of f top) b.stack asks

    awaits : o.count ≤ spare → (spare - o.count) + await_count (stack_of ended now) + 1 ≡ spare + await_count (stack_of f top)
    awaits k =
        let x : Frame = record { places = b.places; left = o.count } in
        let n = settled-count book x (stack_of f top) (stack_of ended now) ends asks in
        let m = count-some (stack_of f top) asks in
        let r = spare-opened x (stack_of f top) spare (spare + await_count (stack_of f top) - 1) o.count asks refl k (omega (arith, m)) in
        omega (arith, n, m, r)

    due-steps : size ≡ cost o.component + left → o.count ≤ spare → ((v : List ℕ) → IsBehind cursor (o.component ∷ o.count ∷ v) ↔ IsBehind next v) → (v : List ℕ) → Due (o.component ∷ o.count ∷ v) ↔ DueOn book cost g.start (stack_of ended now) left (spare - o.count) next v
    due-steps z k c v =
        let room = (spare - o.count) + await_count (stack_of ended now) in
        let x : Frame = record { places = b.places; left = o.count } in
        let P : ℕ → ℕ → Type 0 = λ y r. IsDueOn book cost g.start (stack_of f top) y r cursor (o.component ∷ o.count ∷ v) in
        let A : ℕ → Type 0 = λ y. P y (spare + await_count (stack_of f top)) in
        let B : ℕ → Type 0 = λ r. P (cost o.component + left) r in
        let t = due-opened book (least_of g) cost right.least g.start (stack_of f top) most (levels_of l top) aimed.steps aimed.aims left room cursor next o b.places (omega (arith, k, few)) b.offered c v in
        let u = due-settled book cost g.start left room next v x (stack_of f top) (stack_of ended now) ends in
        let e = awaits k in (
          (λ d. u.0 (t.0 (subst B (sym e) (subst A z d)))),
          (λ d. subst A (sym z) (subst B e (t.1 (u.1 d)))),
        )

    pub stroll-into : (old new in_old in_new : Walk) (going : Bool) → size ≡ cost o.component + left → o.count ≤ spare → ((v : List ℕ) → IsBehind cursor (o.component ∷ o.count ∷ v) ↔ IsBehind next v)
        → AreFrames f → AreFrames begun → AreGrown f begun → length begun.marks.items ≡ length f.marks.items + 1
        → ((get_or begun.marks.items (length f.marks.items) no_mark).below ≡ top) × ((get_or begun.marks.items (length f.marks.items) no_mark).left ≡ o.count)
        → ((i : ℕ) → i ≤ length f.marks.items → stack_of begun i ≡ stack_of f i) → top ≤ length f.marks.items → length l.stacks.items ≡ top + 1 → AreAimed book g f l
        → in_old.code.items ≡ old.code.items ++ o.component ∷ o.count ∷ [] → in_old.codes ≡ old.codes → new.codes ≡ in_new.codes
        → (AreAimed book g ended l → IsSettled (stack_of ended now) → Lists (DueOn book cost g.start (stack_of ended now) left (spare - o.count) next) in_old in_new going)
        → Lists (BeginsWith Due o) old new going
    stroll-into old new in_old in_new going z k c hf hb w n m kept t u all p q r listed =
        let a = aimed-begun book g f begun l top o.count most hf w n m kept t (omega (arith, u)) (omega (arith, k, few)) aimed all in
        let d = aimed-settled book g begun ended l hb s.grown s.stand s.kept a in
        let i = listed d (settled-ready book (record { places = b.places; left = o.count }) (stack_of f top) (stack_of ended now) ends asks) in
        to-with Due Offered due-first due-offers o (DueOn book cost g.start (stack_of ended now) left (spare - o.count) next) old new in_old in_new going (due-steps z k c) p q r i

-- the code so far, where the frame on top is alone and whole
module _ (book : List (List (Rule ℕ))) (cost : ℕ → ℕ) (start : ℕ) (f : Frames) (top size room : ℕ) (x : Frame) (cursor : Cursor) (right : AreFrames f) (some : 1 ≤ top) (within : top ≤ length f.marks.items) (alone : stack_of f top ≡ x ∷ []) (whole : x.left ≡ 0) (seen : List Place) (places : seen ≡ (frame_at f (top - 1)).places) (old new : Walk) (going : Bool) where
  seen-same : seen ≡ x.places
  seen-same = places ∙ ap (λ (fs : List Frame). (get_or fs 0 x).places) (sym (top-stack f top right some within).1 ∙ alone)

  pub stroll-one : size ≡ 0 → IsIn seen (start, []) → cursor.passed ≡ true → new.codes ≡ old.codes ++ old.code.items ∷ [] → Lists (IsDueOn book cost start (x ∷ []) size room cursor) old new going
  stroll-one s i p c = let P : List Place → Type 0 = λ ps. IsIn ps (start, []) in emit-due book cost start size room x whole cursor old new going s (subst P seen-same i) p c

  pub stroll-none : ((size ≡ 0 → IsIn seen (start, []) → ⊥) ⊎ (cursor.passed ≡ false)) → new.codes ≡ old.codes → Lists (IsDueOn book cost start (x ∷ []) size room cursor) old new going
  stroll-none h c =
      let P : List Place → Type 0 = λ ps. IsIn ps (start, []) in
      emit-undue book cost start size room x whole cursor old new going (elim h [ inl n ↦ inl (λ s i. n s (subst P (sym seen-same) i)) | inr p ↦ inr p ]) c

-- the walk from no frame on
pub stroll-whole : {E : Type 0} (book : List (List (Rule ℕ))) (cost : ℕ → ℕ) (start : ℕ) (f : Frames) (size : ℕ) (cursor : Cursor) (old new : Walk) (r : Result Bool E) → IfOk r (Lists (DueOn book cost start (stack_of f 0) size 63 cursor) old new) → IfOk r (Lists (IsDueOn book cost start [] size max_term_length cursor) old new)
stroll-whole book cost start f size cursor old new r h =
    let P : List Frame → Type 0 = λ fs. IfOk r (Lists (DueOn book cost start fs size 63 cursor) old new) in
    subst P (stack-none (standings_of f)) h

pub asking-none : (f : Frames) → AreAsking (stack_of f 0)
asking-none f = let P : List Frame → Type 0 = λ fs. AreAsking fs in subst P (sym (stack-none (standings_of f))) tt
