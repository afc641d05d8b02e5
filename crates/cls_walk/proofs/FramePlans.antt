-- Stacks that are ready for the walk to go on with: their aims are right, and so are those of the stacks below.
use Rattle.std.proofs.Common.{◌≡◌, ℕ, ◌+◌, ◌-◌, ◌<◌, ◌≤◌, List, [], ◌∷◌, length, get_or, refl, sym, ap, ◌∙◌, subst, inl, inr, arith}
use Rattle.std.proofs.lemmas.Bool.{cases_lt}
use Rattle.cls_base.specs.declared.rule.Rule.{Rule}
use Rattle.cls_walk.specs.FrameAims.{Aim, next_aims, start_aims, AreAims, AreLevels, AreThinned}
use Rattle.cls_walk.specs.FrameGuides.{least_of}
use Rattle.cls_walk.specs.FrameHeaps.{no_mark, stack_of, standings_of, AreBelow, AreFrames, AreGrown, AreSameFrames}
use Rattle.cls_walk.specs.FrameLevels.{levels_of, AreGrownLevels, AreLevelColumns, AreSameLevels}
use Rattle.cls_walk.specs.FramePlans.{AreAimed, IsAimed, IsSettled}
use Rattle.cls_walk.specs.Frames.{Frame, Place as SeenPlace, AreAsking, IsAsking, Settles, whole, asking, ended}
use Rattle.cls_walk.specs.declared.aims.Levels.{Levels}
use Rattle.cls_walk.specs.declared.guide.Guide.{Guide}
use Rattle.cls_walk.specs.declared.standing.Frames.{Frames}
use Rattle.cls_walk.specs.declared.standing.Mark.{Mark}
use Rattle.cls_walk.proofs.FrameAims.{next-right, start-aims, thinned-right}
use Rattle.cls_walk.proofs.FrameHeaps.{frame_at, stacks-same, taken-at, taken-long, top-frame, top-stack}
use Rattle.cls_walk.proofs.FrameStacks.{stack-none}
use Rattle.cls_walk.proofs.FrameLevels.{levels-kept, levels-same}

pub asking-first : (frames : List Frame) → AreAsking frames → IsAsking frames
asking-first [] a = tt
asking-first (f ∷ fs) a = a.0

-- what arguments end in
pub settled-ready : (book : List (List (Rule ℕ))) (f : Frame) (fs frames : List Frame) → Settles book f fs frames → AreAsking fs → IsSettled frames
settled-ready book f _ _ whole a = elim (cases_lt 0 f.left) [
  | inl l ↦ inl (omega (arith, l), tt)
  | inr l ↦ inr (omega (arith, l), refl)
]
settled-ready book f fs _ (asking l) a = inl (l, a)
settled-ready book f _ frames (ended {h = h} {fs = fs} e v s) a = settled-ready book h fs frames s a.1

-- a frame without arguments to come is the only one
pub settled-alone : (f : Frame) (fs : List Frame) → IsSettled (f ∷ fs) → f.left ≡ 0 → fs ≡ []
settled-alone f fs (inl s) z = absurd (let l = s.0 in omega (arith, l, z))
settled-alone f fs (inr s) z = s.1

-- one with arguments to come stands on such
pub settled-asks : (f : Frame) (fs : List Frame) → IsSettled (f ∷ fs) → 1 ≤ f.left → AreAsking (f ∷ fs)
settled-asks f fs (inl s) l = s
settled-asks f fs (inr s) l = absurd (let z = s.0 in omega (arith, l, z))

-- the stack with a frame without arguments to come on top
pub whole-alone : (f : Frames) (top : ℕ) → AreFrames f → 1 ≤ top → top ≤ length f.marks.items → IsSettled (stack_of f top) → (frame_at f (top - 1)).left ≡ 0 → stack_of f top ≡ frame_at f (top - 1) ∷ []
whole-alone f top h s t r z =
    let e = (top-stack f top h s t).1 in
    let P : List Frame → Type 0 = λ fs. IsSettled fs in
    let x = frame_at f (top - 1) in
    e ∙ ap (λ (fs : List Frame). x ∷ fs) (settled-alone x _ (subst P e r) z)

pub more-asks : (f : Frames) (top : ℕ) → AreFrames f → 1 ≤ top → top ≤ length f.marks.items → IsSettled (stack_of f top) → 1 ≤ (frame_at f (top - 1)).left → AreAsking (stack_of f top)
more-asks f top h s t r l =
    let e = (top-stack f top h s t).1 in
    let P : List Frame → Type 0 = λ fs. IsSettled fs in
    let A : List Frame → Type 0 = λ fs. AreAsking fs in
    subst A (sym e) (settled-asks (frame_at f (top - 1)) _ (subst P e r) l)

module _ (book : List (List (Rule ℕ))) (g : Guide) where
  -- the stack that a mark stands on is aimed, as far as its arguments go
  abbrev pub AimedAt : Frames → Levels → Mark → Type 0
  AimedAt f l m = (most : ℕ) × (m.left ≤ most + 1) × (m.below < length l.stacks.items) × IsAimed book g f l m.below most

  -- where the stack and its levels stay
  pub aimed-same : (e f : Frames) (k l : Levels) (s most : ℕ) → stack_of f s ≡ stack_of e s → ((q : ℕ) → levels_of l s q ≡ levels_of k s q) → IsAimed book g e k s most → IsAimed book g f l s most
  aimed-same e f k l s most p q a =
      let here : ℕ → List Aim = λ n. levels_of k s n in
      let there : ℕ → List Aim = λ n. levels_of l s n in
      let w : here ≡ there = λ i n. sym (q n) i in
      let A : List Frame → Type 0 = λ fs. AreAims book (least_of g) g.start fs (here 0) in
      let B : (ℕ → List Aim) → Type 0 = λ ls. AreAims book (least_of g) g.start (stack_of f s) (ls 0) in
      let C : (ℕ → List Aim) → Type 0 = λ ls. AreLevels book (least_of g) most ls in
      record { aims = subst B w (subst A (sym p) a.aims); steps = subst C w a.steps }

  -- where the columns are the same
  pub aimed-here : (e f : Frames) (k l : Levels) (s most : ℕ) → AreSameFrames e f → AreSameLevels k l → IsAimed book g e k s most → IsAimed book g f l s most
  aimed-here e f k l s most p q a = aimed-same e f k l s most (stacks-same e f p s) (λ n. levels-same k l s n q) a

  pub all-here : (e f : Frames) (k l : Levels) → AreSameFrames e f → AreSameLevels k l → AreAimed book g e k → AreAimed book g f l
  all-here e f k l p q a i n =
      let P : List Mark → Type 0 = λ ms. AimedAt f l (get_or ms i no_mark) in
      let N : List Mark → Type 0 = λ ms. i < length ms in
      let (most, b, s, c) = a i (subst N p.marks n) in
      let t = ap length q.stacks in
      subst P (sym p.marks) (most, b, omega (arith, s, t), aimed-here e f k l _ most p q c)

  -- frames that were there
  aimed-kept : (old new : Frames) (l : Levels) (i : ℕ) → AreFrames old → AreGrown old new → ((s : ℕ) → s ≤ length old.marks.items → stack_of new s ≡ stack_of old s) → AreAimed book g old l → i < length old.marks.items → AimedAt new l (get_or new.marks.items i no_mark)
  aimed-kept old new l i h w k a n =
      let P : Mark → Type 0 = λ m. AimedAt new l m in
      let (most, b, s, c) = a i n in
      let u = (top-frame old i h n).0 in
      subst P (sym (taken-at old.marks.items new.marks.items i no_mark w.marks n)) (most, b, s, aimed-same old new l l _ most (k _ (omega (arith, u, n))) (λ q. refl) c)

  -- a frame more, on a stack that is aimed
  pub aimed-begun : (old new : Frames) (l : Levels) (top count most : ℕ) → AreFrames old → AreGrown old new → length new.marks.items ≡ length old.marks.items + 1
      → ((get_or new.marks.items (length old.marks.items) no_mark).below ≡ top) × ((get_or new.marks.items (length old.marks.items) no_mark).left ≡ count)
      → ((s : ℕ) → s ≤ length old.marks.items → stack_of new s ≡ stack_of old s) → top ≤ length old.marks.items → top < length l.stacks.items → count ≤ most + 1
      → IsAimed book g old l top most → AreAimed book g old l → AreAimed book g new l
  aimed-begun old new l top count most h w e m k t s c z a i n =
      elim (cases_lt i (length old.marks.items)) [
        | inl o ↦ aimed-kept old new l i h w k a o
        | inr o ↦
            let j : length old.marks.items ≡ i = omega (arith, e, n, o) in
            let P : ℕ → Type 0 = λ x. AimedAt new l (get_or new.marks.items x no_mark) in
            let Q : ℕ → Type 0 = λ x. IsAimed book g new l x most in
            let below = m.0 in
            let left = m.1 in
            subst P j (most, omega (arith, left, c), omega (arith, below, s), subst Q (sym below) (aimed-same old new l l top most (k top t) (λ q. refl) z))
      ]

  -- frames more, each where an earlier one stands
  pub aimed-settled : (old new : Frames) (l : Levels) → AreFrames old → AreGrown old new → AreBelow old new → ((s : ℕ) → s ≤ length old.marks.items → stack_of new s ≡ stack_of old s) → AreAimed book g old l → AreAimed book g new l
  aimed-settled old new l h w d k a i n =
      elim (cases_lt i (length old.marks.items)) [
        | inl o ↦ aimed-kept old new l i h w k a o
        | inr o ↦
            let (j, u, x, y) = d i o n in
            let (most, b, s, c) = a j u in
            let v = (top-frame old j h u).0 in
            let Q : ℕ → Type 0 = λ z. IsAimed book g new l z most in
            (most, omega (arith, b, y), omega (arith, s, x), subst Q (sym x) (aimed-same old new l l _ most (k _ (omega (arith, u, v))) (λ q. refl) c))
      ]

  -- levels more
  pub aimed-grown : (f : Frames) (old new : Levels) → AreLevelColumns old → AreGrownLevels old new → AreAimed book g f old → AreAimed book g f new
  aimed-grown f old new h w a i n =
      let (most, b, s, c) = a i n in
      let t = taken-long old.stacks.items new.stacks.items w.stacks in
      (most, b, omega (arith, s, t), aimed-same f f old new _ most refl (λ q. levels-kept old new _ q h w s) c)

  -- the levels of the stack with a frame on top that has arguments to come
  pub aimed-on : (f : Frames) (old new : Levels) (top most : ℕ) → AreFrames f → 1 ≤ top → top ≤ length f.marks.items → AreAimed book g f old → 1 ≤ (frame_at f (top - 1)).left
      → AreThinned (next_aims book (least_of g) (levels_of old (get_or f.marks.items (top - 1) no_mark).below) (frame_at f (top - 1))) (levels_of new top 0)
      → AreLevels book (least_of g) most (levels_of new top) → IsAimed book g f new top most
  aimed-on f old new top most h s t a l w steps =
      let m = get_or f.marks.items (top - 1) no_mark in
      let x = frame_at f (top - 1) in
      let (far, b, u, c) = a (top - 1) (omega (arith, s, t)) in
      let e = (top-stack f top h s t).1 in
      let A : List Frame → Type 0 = λ fs. AreAims book (least_of g) g.start fs (levels_of new top 0) in
      let r = next-right book (least_of g) g.start x (stack_of f m.below) far (levels_of old m.below) c.steps c.aims l b in
      record { aims = subst A (sym e) (thinned-right book (least_of g) g.start (x ∷ stack_of f m.below) _ _ w r); steps = steps }

  -- the same by what the code has of the frame
  pub aimed-code : (f : Frames) (old new : Levels) (top most : ℕ) (m : Mark) (seen : List SeenPlace) → m ≡ get_or f.marks.items (top - 1) no_mark → seen ≡ (frame_at f (top - 1)).places → AreFrames f → 1 ≤ top → top ≤ length f.marks.items → AreAimed book g f old → 1 ≤ m.left
      → AreThinned (next_aims book (least_of g) (levels_of old m.below) record { places = seen; left = m.left }) (levels_of new top 0)
      → AreLevels book (least_of g) most (levels_of new top) → IsAimed book g f new top most
  aimed-code f old new top most m seen p q h s t a l w steps =
      let A : Mark → Type 0 = λ n. 1 ≤ n.left in
      let B : Mark → Type 0 = λ n. AreThinned (next_aims book (least_of g) (levels_of old n.below) record { places = seen; left = n.left }) (levels_of new top 0) in
      let C : List SeenPlace → Type 0 = λ ps. AreThinned (next_aims book (least_of g) (levels_of old (get_or f.marks.items (top - 1) no_mark).below) record { places = ps; left = (get_or f.marks.items (top - 1) no_mark).left }) (levels_of new top 0) in
      aimed-on f old new top most h s t a (subst A p l) (subst C q (subst B p w)) steps

  -- the levels of stack 0
  pub aimed-start : (f : Frames) (l : Levels) (most : ℕ) → levels_of l 0 0 ≡ start_aims g.start → AreLevels book (least_of g) most (levels_of l 0) → IsAimed book g f l 0 most
  aimed-start f l most e steps =
      let A : List Frame → Type 0 = λ fs. AreAims book (least_of g) g.start fs (levels_of l 0 0) in
      let B : List Aim → Type 0 = λ aims. AreAims book (least_of g) g.start [] aims in
      record { aims = subst A (sym (stack-none (standings_of f))) (subst B (sym e) (start-aims book (least_of g) g.start)); steps = steps }
