-- The frames of the code: which places stand where, and which stacks there are.
use Rattle.std.proofs.Common.{◌≡◌, ℕ, zero, suc, ◌+◌, ◌-◌, ◌<◌, ◌≤◌, List, [], ◌∷◌, ◌++◌, length, map, take, drop, get_or, refl, sym, ap, ◌∙◌, subst, inl, inr, arith, length-append}
use Rattle.std.specs.Prelude.{◌⊎◌, Result, Ok, Err, OnOk, IfOk}
use Rattle.std.proofs.Math.Seq.{get_or-append_seam, take-append_seam}
use Rattle.std.proofs.lemmas.List.{get_or-take, length-map, length-take, map-append, take-append-drop, take-append-le, take_all}
use Rattle.std.proofs.lemmas.Bool.{cases_lt}
use Rattle.cls_base.specs.declared.rule.Rule.{Rule}
use Rattle.cls_walk.specs.FrameColumns.{place_of, AreFollowed, AreRules, Grows}
use Rattle.cls_walk.specs.FrameHeaps.{frame_of, mark_of, no_mark, places_at, stack_of, standings_of, AreBelow, AreFrames, AreGrown, AreKept, AreSameFrames, Advances, Settled, Settling}
use Rattle.cls_walk.specs.FrameStacks.{Mark as SeenMark, Standing, standings, stack_at, AreMarks, AreStanding}
use Rattle.cls_walk.specs.Frames.{Place as SeenPlace, Frame, AreAsking, IsAdvanced, IsComplete, Settles, whole, asking, ended}
use Rattle.cls_walk.specs.declared.places.Place.{Place}
use Rattle.cls_walk.specs.declared.rules.Rules.{Rules}
use Rattle.cls_walk.specs.declared.standing.Mark.{Mark}
use Rattle.cls_walk.specs.declared.standing.Frames.{Frames}
use Rattle.cls_walk.proofs.FrameStacks.{stack-none, marks-rise, marks-push, standings-push, standing-push, standing-at, stack-kept, stack-pushed, stack-top}

-- what begins with a list
pub taken-at : {A : Type 0} (xs ys : List A) (i : ℕ) (d : A) → take (length xs) ys ≡ xs → i < length xs → get_or ys i d ≡ get_or xs i d
taken-at {A} xs ys i d e l = sym (get_or-take (length xs) ys i d l) ∙ ap (λ (zs : List A). get_or zs i d) e

pub taken-long : {A : Type 0} (xs ys : List A) → take (length xs) ys ≡ xs → length xs ≤ length ys
taken-long xs ys e = let n = ap length e in let m = length-take (length xs) ys in omega (arith, n, m)

pub taken-then : {A : Type 0} (xs ys zs : List A) → take (length xs) ys ≡ xs → take (length ys) zs ≡ ys → take (length xs) zs ≡ xs
taken-then {A} xs ys zs p q =
    let n = length ys in
    let l = taken-long xs ys p in
    let m = ap length q in
    ap (λ (us : List A). take (length xs) us) (sym (take-append-drop n zs))
    ∙ take-append-le (length xs) (take n zs) (drop n zs) (omega (arith, l, m))
    ∙ ap (λ (us : List A). take (length xs) us) q
    ∙ p

-- nothing more, and more and more
pub grows-none : (f : Frames) → AreGrown f f
grows-none f = record {
  marks = take_all (length f.marks.items) f.marks.items (omega arith);
  places = take_all (length f.places.items) f.places.items (omega arith);
}

pub grows-then : (a b c : Frames) → AreGrown a b → AreGrown b c → AreGrown a c
grows-then a b c g h = record {
  marks = taken-then a.marks.items b.marks.items c.marks.items g.marks h.marks;
  places = taken-then a.places.items b.places.items c.places.items g.places h.places;
}

-- what was added is taken away
pub frames-back : (old new back : Frames) → AreGrown old new → back.marks.items ≡ take (length old.marks.items) new.marks.items → back.places.items ≡ take (length old.places.items) new.places.items → AreSameFrames old back
frames-back old new back g m p = record { marks = m ∙ g.marks; places = p ∙ g.places }

-- Stacks go by the columns alone.
pub stacks-same : (old new : Frames) → AreSameFrames old new → (s : ℕ) → stack_of new s ≡ stack_of old s
stacks-same old new e s = λ i. stack_at (standings (map place_of (e.places i)) 0 (map mark_of (e.marks i))) s

pub frames-same : (old new : Frames) → AreSameFrames old new → AreFrames old → AreFrames new
frames-same old new e h =
    let P : List Place → List Mark → Type 0 = λ ps ms. AreMarks 0 (length ps) (map mark_of ms) in
    let A : List Place → Type 0 = λ ps. P ps old.marks.items in
    let B : List Mark → Type 0 = λ ms. P new.places.items ms in
    let S : List Standing → Type 0 = λ ss. AreStanding 0 ss in
    record {
      marks = subst B (sym e.marks) (subst A (sym e.places) h.marks);
      standing = subst S (λ i. standings (map place_of (sym e.places i)) 0 (map mark_of (sym e.marks i))) h.standing;
    }

-- one mark more
pub grows-one : (old new : Frames) (m : Mark) (more : List Place) → new.places.items ≡ old.places.items ++ more → new.marks.items ≡ old.marks.items ++ m ∷ [] → AreGrown old new
grows-one old new m more p k = record {
  marks = ap (λ (ms : List Mark). take (length old.marks.items) ms) k ∙ take-append_seam old.marks.items (m ∷ []);
  places = ap (λ (ps : List Place). take (length old.places.items) ps) p ∙ take-append_seam old.places.items more;
}

pub mark-one : (old new : Frames) (m : Mark) → new.marks.items ≡ old.marks.items ++ m ∷ [] → get_or new.marks.items (length old.marks.items) no_mark ≡ m
mark-one old new m k = ap (λ (ms : List Mark). get_or ms (length old.marks.items) no_mark) k ∙ get_or-append_seam old.marks.items m [] no_mark

-- each further frame stands where an earlier one stands
pub stands-none : (f : Frames) → AreBelow f f
stands-none f i l m = absurd (omega (arith, l, m))

pub stands-one : (old new : Frames) (below : ℕ) → 1 ≤ below → below ≤ length old.marks.items → length new.marks.items ≡ length old.marks.items + 1 → (get_or new.marks.items (length old.marks.items) no_mark).below ≡ (get_or old.marks.items (below - 1) no_mark).below → (get_or new.marks.items (length old.marks.items) no_mark).left ≤ (get_or old.marks.items (below - 1) no_mark).left → AreBelow old new
stands-one old new below b u n e l i p q =
    let k : length old.marks.items ≡ i = omega (arith, n, p, q) in
    let P : ℕ → Type 0 = λ z. (get_or new.marks.items z no_mark).below ≡ (get_or old.marks.items (below - 1) no_mark).below in
    let Q : ℕ → Type 0 = λ z. (get_or new.marks.items z no_mark).left ≤ (get_or old.marks.items (below - 1) no_mark).left in
    (below - 1, omega (arith, b, u), subst P k e, subst Q k l)

pub stands-then : (a b c : Frames) → AreGrown a b → AreGrown b c → AreBelow a b → AreBelow b c → AreBelow a c
stands-then a b c g h p q i l m =
    elim (cases_lt i (length b.marks.items)) [
      | inl n ↦
          let e = taken-at b.marks.items c.marks.items i no_mark h.marks n in
          let (j, k, x, y) = p i l n in
          (j, k, ap (λ (z : Mark). z.below) e ∙ x, (let w = ap (λ (z : Mark). z.left) e in omega (arith, w, y)))
      | inr n ↦
          let (j, k, x, y) = q i n m in
          elim (cases_lt j (length a.marks.items)) [
            | inl o ↦
                let e = taken-at a.marks.items b.marks.items j no_mark g.marks o in
                (j, o, x ∙ ap (λ (z : Mark). z.below) e, (let w = ap (λ (z : Mark). z.left) e in omega (arith, w, y)))
            | inr o ↦
                let (r, s, t, u) = p j o k in
                (r, s, x ∙ t, omega (arith, y, u))
          ]
    ]

pub mark-first : (ms : List Mark) (end : ℕ) → 0 < length ms → AreMarks 0 end (map mark_of ms) → (get_or ms 0 no_mark).last ≤ end
mark-first [] end l h = absurd (omega arith)
mark-first (m ∷ ms) end l h = marks-rise m.last end (map mark_of ms) h.1

pub marks-next : (ms : List Mark) (i start end : ℕ) → suc i < length ms → AreMarks start end (map mark_of ms) → ((get_or ms i no_mark).last ≤ (get_or ms (suc i) no_mark).last) × ((get_or ms (suc i) no_mark).last ≤ end)
marks-next [] i start end l h = absurd (omega arith)
marks-next (m ∷ []) i start end l h = absurd (omega arith)
marks-next (m ∷ n ∷ ms) zero start end l h = (h.1.0, marks-rise n.last end (map mark_of ms) h.1.1)
marks-next (m ∷ n ∷ ms) (suc i) start end l h = marks-next (n ∷ ms) i m.last end (omega arith) h.1

pub places-first : (ms : List Mark) (ps : List SeenPlace) → 0 < length ms → places_at ps 0 (map mark_of ms) 0 ≡ take ((get_or ms 0 no_mark).last - 0) (drop 0 ps)
places-first [] ps l = absurd (omega arith)
places-first (m ∷ ms) ps l = refl

pub places-next : (ms : List Mark) (i start : ℕ) (ps : List SeenPlace) → suc i < length ms → places_at ps start (map mark_of ms) (suc i) ≡ take ((get_or ms (suc i) no_mark).last - (get_or ms i no_mark).last) (drop (get_or ms i no_mark).last ps)
places-next [] i start ps l = absurd (omega arith)
places-next (m ∷ []) i start ps l = absurd (omega arith)
places-next (m ∷ n ∷ ms) zero start ps l = refl
places-next (m ∷ n ∷ ms) (suc i) start ps l = places-next (n ∷ ms) i m.last ps (omega arith)

-- the same by the number of the stack
pub start-bounds : (ms : List Mark) (top end : ℕ) → 2 ≤ top → top ≤ length ms → AreMarks 0 end (map mark_of ms) → ((get_or ms (top - 2) no_mark).last ≤ (get_or ms (top - 1) no_mark).last) × ((get_or ms (top - 1) no_mark).last ≤ end)
start-bounds ms top end t l h =
    let e : suc (top - 2) ≡ top - 1 = omega (arith, t) in
    let P : ℕ → Type 0 = λ k. ((get_or ms (top - 2) no_mark).last ≤ (get_or ms k no_mark).last) × ((get_or ms k no_mark).last ≤ end) in
    subst P e (marks-next ms (top - 2) 0 end (omega (arith, t, l)) h)

pub start-places : (ms : List Mark) (top : ℕ) (ps : List SeenPlace) → 2 ≤ top → top ≤ length ms → places_at ps 0 (map mark_of ms) (top - 1) ≡ take ((get_or ms (top - 1) no_mark).last - (get_or ms (top - 2) no_mark).last) (drop (get_or ms (top - 2) no_mark).last ps)
start-places ms top ps t l =
    let e : suc (top - 2) ≡ top - 1 = omega (arith, t) in
    let P : ℕ → Type 0 = λ k. places_at ps 0 (map mark_of ms) k ≡ take ((get_or ms k no_mark).last - (get_or ms (top - 2) no_mark).last) (drop (get_or ms (top - 2) no_mark).last ps) in
    subst P e (places-next ms (top - 2) 0 ps (omega (arith, t, l)))

pub map-take : (k : ℕ) (ps : List Place) → map place_of (take k ps) ≡ take k (map place_of ps)
map-take zero ps = refl
map-take (suc k) [] = refl
map-take (suc k) (p ∷ ps) = ap (λ (zs : List SeenPlace). place_of p ∷ zs) (map-take k ps)

pub map-drop : (k : ℕ) (ps : List Place) → map place_of (drop k ps) ≡ drop k (map place_of ps)
map-drop zero ps = refl
map-drop (suc k) [] = refl
map-drop (suc k) (p ∷ ps) = map-drop k ps

pub map-part : (first last : ℕ) (ps : List Place) → map place_of (take (last - first) (drop first ps)) ≡ take (last - first) (drop first (map place_of ps))
map-part first last ps = map-take (last - first) (drop first ps) ∙ ap (λ (zs : List SeenPlace). take (last - first) zs) (map-drop first ps)

-- one frame more
pub heap-grown : (ps more : List Place) (ms : List Mark) (m : Mark) → AreMarks 0 (length ps) (map mark_of ms) → m.last ≡ length (ps ++ more) → standings (map place_of (ps ++ more)) 0 (map mark_of (ms ++ m ∷ [])) ≡ standings (map place_of ps) 0 (map mark_of ms) ++ frame_of (map place_of more) m.left m.below ∷ []
heap-grown ps more ms m h e =
    let P : ℕ → Type 0 = λ k. AreMarks 0 k (map mark_of ms) in
    let l : m.last ≡ length (map place_of ps) + length (map place_of more) = omega (arith, e, length-append ps more, length-map ps place_of, length-map more place_of) in
    (λ i. standings (map-append place_of ps more i) 0 (map-append mark_of ms (m ∷ []) i)) ∙ standings-push (map place_of ps) (map place_of more) 0 (map mark_of ms) (mark_of m) (subst P (sym (length-map ps place_of)) h) l

pub heap-marks : (ps more : List Place) (ms : List Mark) (m : Mark) → AreMarks 0 (length ps) (map mark_of ms) → m.last ≡ length (ps ++ more) → AreMarks 0 (length (ps ++ more)) (map mark_of (ms ++ m ∷ []))
heap-marks ps more ms m h e =
    let P : ℕ → Type 0 = λ k. AreMarks 0 k (map mark_of (ms ++ m ∷ [])) in
    let Q : List SeenMark → Type 0 = λ zs. AreMarks 0 m.last zs in
    subst P e (subst Q (sym (map-append mark_of ms (m ∷ []))) (marks-push 0 (length ps) (map mark_of ms) (mark_of m) h (omega (arith, e, length-append ps more))))

pub length-standings : (ps : List SeenPlace) (start : ℕ) (ms : List Mark) → length (standings ps start (map mark_of ms)) ≡ length ms
length-standings ps start [] = refl
length-standings ps start (m ∷ ms) = let r = length-standings ps m.last ms in omega (arith, r)

pub frames-grown : (old new : Frames) (m : Mark) → AreFrames old → m.below ≤ length old.marks.items → new.places.items ≡ old.places.items ++ old.made.items → m.last ≡ length new.places.items → new.marks.items ≡ old.marks.items ++ m ∷ [] → AreFrames new
frames-grown old new m h b p l k =
    let ps = old.places.items in
    let more = old.made.items in
    let ms = old.marks.items in
    let e : m.last ≡ length (ps ++ more) = l ∙ ap length p in
    let S : List Standing → Type 0 = λ zs. AreStanding 0 zs in
    record {
      marks = let Q : List Place → List Mark → Type 0 = λ zs ns. AreMarks 0 (length zs) (map mark_of ns) in
          let A : List Place → Type 0 = λ zs. Q zs (ms ++ m ∷ []) in
          let B : List Mark → Type 0 = λ ns. Q new.places.items ns in
          subst B (sym k) (subst A (sym p) (heap-marks ps more ms m h.marks e));
      standing = subst S (sym ((λ i. standings (map place_of (p i)) 0 (map mark_of (k i))) ∙ heap-grown ps more ms m h.marks e))
          (standing-push 0 (standings_of old) (frame_of (map place_of more) m.left m.below) h.standing (omega (arith, b, length-standings (map place_of ps) 0 ms)));
    }

pub standings-grown : (old new : Frames) (m : Mark) → AreFrames old → new.places.items ≡ old.places.items ++ old.made.items → m.last ≡ length new.places.items → new.marks.items ≡ old.marks.items ++ m ∷ [] → standings_of new ≡ standings_of old ++ frame_of (map place_of old.made.items) m.left m.below ∷ []
standings-grown old new m h p l k =
    (λ i. standings (map place_of (p i)) 0 (map mark_of (k i))) ∙ heap-grown old.places.items old.made.items old.marks.items m h.marks (l ∙ ap length p)

standing-get : (ps : List SeenPlace) (start : ℕ) (ms : List Mark) (i : ℕ) → i < length ms → get_or (standings ps start (map mark_of ms)) i (frame_of [] 0 0) ≡ frame_of (places_at ps start (map mark_of ms) i) (get_or ms i no_mark).left (get_or ms i no_mark).below
standing-get ps start [] i l = absurd (omega arith)
standing-get ps start (m ∷ ms) zero l = refl
standing-get ps start (m ∷ ms) (suc i) l = standing-get ps m.last ms i (omega arith)

cut-at : (ss : List Standing) (i : ℕ) (d : Standing) → i < length ss → ss ≡ take i ss ++ get_or ss i d ∷ drop (suc i) ss
cut-at [] i d l = absurd (omega arith)
cut-at (s ∷ ss) zero d l = refl
cut-at (s ∷ ss) (suc i) d l = ap (λ (zs : List Standing). s ∷ zs) (cut-at ss i d (omega arith))

length-taken : (ss : List Standing) (i : ℕ) → i ≤ length ss → length (take i ss) ≡ i
length-taken ss zero l = refl
length-taken [] (suc i) l = absurd (omega arith)
length-taken (s ∷ ss) (suc i) l = let r = length-taken ss i (omega arith) in omega (arith, r)

top-any : (ss : List Standing) (i : ℕ) (d : Standing) → i < length ss → AreStanding 0 ss → ((get_or ss i d).below ≤ i) × (stack_at ss (i + 1) ≡ (get_or ss i d).frame ∷ stack_at ss (get_or ss i d).below)
top-any ss i d l h =
    let s = get_or ss i d in
    let front = take i ss in
    let behind = drop (suc i) ss in
    let e = cut-at ss i d l in
    let n = length-taken ss i (omega (arith, l)) in
    let S : List Standing → Type 0 = λ zs. AreStanding 0 zs in
    let b : s.below ≤ length front = let r = standing-at 0 front behind s (subst S e h) in omega (arith, r) in (
      omega (arith, b, n),
      (λ j. stack_at (e j) (i + 1)) ∙ ap (λ (k : ℕ). stack_at (front ++ s ∷ behind) (k + 1)) (sym n) ∙ stack-top front behind s b ∙ ap (λ (zs : List Standing). s.frame ∷ stack_at zs s.below) (sym e),
    )

abbrev pub frame_at : Frames → ℕ → Frame
frame_at f i = record { places = places_at (map place_of f.places.items) 0 (map mark_of f.marks.items) i; left = (get_or f.marks.items i no_mark).left }

-- the stack with frame i on top
pub top-frame : (f : Frames) (i : ℕ) → AreFrames f → i < length f.marks.items
    → ((get_or f.marks.items i no_mark).below ≤ i) × (stack_of f (i + 1) ≡ record { places = places_at (map place_of f.places.items) 0 (map mark_of f.marks.items) i; left = (get_or f.marks.items i no_mark).left } ∷ stack_of f (get_or f.marks.items i no_mark).below)
top-frame f i h l =
    let ps = map place_of f.places.items in
    let ms = f.marks.items in
    let e = standing-get ps 0 ms i l in
    let P : Standing → Type 0 = λ s. (s.below ≤ i) × (stack_of f (i + 1) ≡ s.frame ∷ stack_of f s.below) in
    subst P e (top-any (standings_of f) i (frame_of [] 0 0) (omega (arith, l, length-standings ps 0 ms)) h.standing)

pub top-stack : (f : Frames) (top : ℕ) → AreFrames f → 1 ≤ top → top ≤ length f.marks.items
    → ((get_or f.marks.items (top - 1) no_mark).below ≤ top - 1) × (stack_of f top ≡ record { places = places_at (map place_of f.places.items) 0 (map mark_of f.marks.items) (top - 1); left = (get_or f.marks.items (top - 1) no_mark).left } ∷ stack_of f (get_or f.marks.items (top - 1) no_mark).below)
top-stack f top h s l =
    let r = top-frame f (top - 1) h (omega (arith, s, l)) in
    let e : top ≡ top - 1 + 1 = omega (arith, s) in
    (r.0, ap (stack_of f) e ∙ r.1)

-- the stacks that stay
pub stacks-kept : (old new : Frames) (s : Standing) (top : ℕ) → standings_of new ≡ standings_of old ++ s ∷ [] → top ≤ length old.marks.items → stack_of new top ≡ stack_of old top
stacks-kept old new s top e l =
    ap (λ (zs : List Standing). stack_at zs top) e ∙ stack-kept (standings_of old) (s ∷ []) top (omega (arith, l, length-standings (map place_of old.places.items) 0 old.marks.items))

pub stack-new : (old new : Frames) (s : Standing) (t : ℕ) → standings_of new ≡ standings_of old ++ s ∷ [] → t ≡ length old.marks.items + 1 → stack_of new t ≡ s.frame ∷ stack_of old s.below
stack-new old new s t e n =
    let k : t ≡ length (standings_of old) + 1 = omega (arith, n, length-standings (map place_of old.places.items) 0 old.marks.items) in
    (λ i. stack_at (e i) (k i)) ∙ stack-pushed (standings_of old) s

first-of : (f g : Frame) (fs gs : List Frame) → f ∷ fs ≡ g ∷ gs → f ≡ g
first-of f g fs gs e = ap (λ (zs : List Frame). get_or zs 0 f) e

rest-of : (f g : Frame) (fs gs : List Frame) → f ∷ fs ≡ g ∷ gs → fs ≡ gs
rest-of f g fs gs e = ap (λ (zs : List Frame). drop 1 zs) e

-- what grows from nothing by what follows is the frame behind the argument
pub grown-advanced : (book : List (List (Rule ℕ))) (f g : Frame) (made : List Place) → Grows (AreFollowed book f.places g.places) [] made → 1 ≤ g.left → IsAdvanced book (IsComplete f) g record { places = map place_of made; left = g.left - 1 }
grown-advanced book f g made h l = record {
  count = omega (arith, l);
  each = λ q i. elim (h.each q i) [ inl j ↦ absurd j | inr (p, j, r) ↦ (p, r.0, j, r.1, r.2) ];
  all = λ p q m i k r. h.all q (p, i, (m, k, r));
}

pub advances : (book : List (List (Rule ℕ))) (old new : Frames) (top below t : ℕ) (made : List Place) → AreFrames old → 1 ≤ top → top ≤ length old.marks.items → 1 ≤ below → below ≤ length old.marks.items
    → standings_of new ≡ standings_of old ++ frame_of (map place_of made) ((get_or old.marks.items (below - 1) no_mark).left - 1) (get_or old.marks.items (below - 1) no_mark).below ∷ []
    → t ≡ length old.marks.items + 1
    → Grows (AreFollowed book (places_at (map place_of old.places.items) 0 (map mark_of old.marks.items) (top - 1)) (places_at (map place_of old.places.items) 0 (map mark_of old.marks.items) (below - 1))) [] made
    → Advances book old new top below t
advances book old new top below t made h s l b u e n g =
    let m = get_or old.marks.items (below - 1) no_mark in
    let F = frame_at old (top - 1) in
    let G = frame_at old (below - 1) in
    let st = frame_of (map place_of made) (m.left - 1) m.below in
    let x = (top-stack old top h s l).1 in
    let y = (top-stack old below h b u).1 in
    record {
      kept = λ z k. stacks-kept old new st z e k;
      advanced = λ f0 g0 fs gs p q r.
          let ef = first-of F f0 _ fs (sym x ∙ p) in
          let eg = first-of G g0 _ gs (sym y ∙ q) in
          let er = rest-of G g0 _ gs (sym y ∙ q) in
          let P : Frame → Type 0 = λ z. 1 ≤ z.left in
          let A : Frame → Type 0 = λ z. IsAdvanced book (IsComplete z) g0 st.frame in
          let B : Frame → Type 0 = λ z. IsAdvanced book (IsComplete F) z st.frame in
          (st.frame, subst A ef (subst B eg (grown-advanced book F G made g (subst P (sym eg) r))), stack-new old new st t e n ∙ ap (λ (zs : List Frame). st.frame ∷ zs) er);
    }

pub if-ok : {E : Type 0} (r : Result ℕ E) (P : ℕ → Type 0) (G : Type 0) (n : ℕ) → OnOk r G → IfOk r (λ t. t ≡ n) → (G → (t : ℕ) → t ≡ n → P t) → IfOk r P
if-ok (Ok t) P G n g e f = f g t e
if-ok (Err x) P G n g e f = tt

pub get-any : (ms : List Mark) (i : ℕ) (d : Mark) → i < length ms → get_or ms i d ≡ get_or ms i no_mark
get-any [] i d l = absurd (omega arith)
get-any (m ∷ ms) zero d l = refl
get-any (m ∷ ms) (suc i) d l = get-any ms i d (omega arith)

pub if-ok-all : {E : Type 0} (r : Result ℕ E) (P : ℕ → Type 0) (G H K M : Type 0) (n : ℕ) → OnOk r G → OnOk r H → OnOk r K → OnOk r M → IfOk r (λ t. t ≡ n) → (G → H → K → M → (t : ℕ) → t ≡ n → P t) → IfOk r P
if-ok-all (Ok t) P G H K M n g h k m e f = f g h k m t e
if-ok-all (Err x) P G H K M n g h k m e f = tt

pub kept-by : (old new : Frames) (below t : ℕ) (st : Standing) → AreFrames old → 1 ≤ below → below ≤ length old.marks.items → standings_of new ≡ standings_of old ++ st ∷ [] → length new.marks.items ≡ length old.marks.items + 1 → t ≡ length old.marks.items + 1 → st.below ≡ (get_or old.marks.items (below - 1) no_mark).below → AreGrown old new → AreBelow old new → AreKept old new below t
kept-by old new below t st h b u e n k s g w =
    let x = ap length (stack-new old new st t e k ∙ ap (λ (z : ℕ). st.frame ∷ stack_of old z) s) in
    let y = ap length (top-stack old below h b u).1 in
    record {
      grown = g;
      stand = w;
      kept = λ z l. stacks-kept old new st z e l;
      more = sym n;
      last = k ∙ sym n;
      high = x ∙ sym y;
    }

pub settling-start : (rules : Rules) (f : Frames) (top : ℕ) → AreFrames f → 1 ≤ top → top ≤ length f.marks.items → Settling rules f f top top
settling-start rules f top h s l = record {
  frames = h;
  grown = grows-none f;
  stand = stands-none f;
  rises = omega arith;
  some = s;
  within = l;
  more = omega arith;
  kept = λ z k. refl;
  settles = λ book r g gs p a. (g, gs, p, a, λ fs z. z);
}

pub under : (f : Frames) (now below : ℕ) → AreFrames f → 1 ≤ now → now ≤ length f.marks.items → below ≡ (get_or f.marks.items (now - 1) no_mark).below → below ≤ length f.marks.items
under f now below h s l e = let r = (top-stack f now h s l).0 in omega (arith, r, e, l, s)

pub lower : (f g : Frames) (now below t : ℕ) → AreFrames f → 1 ≤ now → now ≤ length f.marks.items → below ≡ (get_or f.marks.items (now - 1) no_mark).below → AreKept f g below t → length (stack_of g t) < length (stack_of f now)
lower f g now below t h s l e k =
    let r = ap length (top-stack f now h s l).1 in
    let u : length (stack_of f below) ≡ length (stack_of f (get_or f.marks.items (now - 1) no_mark).below) = ap (λ (z : ℕ). length (stack_of f z)) e in
    let v = k.high in
    omega (arith, r, u, v)

pub settling-next : (rules : Rules) (old f g : Frames) (top now below t : ℕ) → Settling rules old f top now → 1 ≤ below → below ≡ (get_or f.marks.items (now - 1) no_mark).below → (get_or f.marks.items (now - 1) no_mark).left ≡ 0
    → AreFrames g → AreKept f g below t → ((book : List (List (Rule ℕ))) → AreRules book rules → Advances book f g now below t) → Settling rules old g top t
settling-next rules old f g top now below t w b e z h k a = record {
  frames = h;
  grown = grows-then old f g w.grown k.grown;
  stand = stands-then old f g w.grown k.grown w.stand k.stand;
  rises = let m = k.more in let n = k.last in let r = w.rises in let i = w.within in omega (arith, m, n, r, i);
  some = let m = k.more in let n = k.last in omega (arith, m, n);
  within = let n = k.last in omega (arith, n);
  more = let m = k.more in let n = w.more in omega (arith, m, n);
  kept = λ s l. k.kept s (let n = w.more in omega (arith, l, n)) ∙ w.kept s l;
  settles = λ book r f0 fs p q.
      let (h0, hs, x, y, c) = w.settles book r f0 fs p q in
      let F = frame_at f (now - 1) in
      let G = frame_at f (below - 1) in
      let u = under f now below w.frames w.some w.within e in
      let i = (top-stack f now w.frames w.some w.within).1 in
      let j = (top-stack f below w.frames b u).1 in
      let gs = stack_of f (get_or f.marks.items (below - 1) no_mark).below in
      let eh = first-of F h0 _ hs (sym i ∙ x) in
      let er = rest-of F h0 _ hs (sym i ∙ x) in
      let es : hs ≡ G ∷ gs = sym er ∙ ap (stack_of f) (sym e) ∙ j in
      let A : List Frame → Type 0 = λ zs. AreAsking zs in
      let y2 = subst A es y in
      let (n, adv, new) = (a book r).advanced h0 G hs gs x j y2.0 in
      let left : h0.left ≡ 0 = sym (ap (λ (v : Frame). v.left) eh) ∙ z in
      let B : List Frame → List Frame → Type 0 = λ vs zs. Settles book h0 vs zs in
      (n, gs, new, y2.1, λ zs s. c zs (let C : List Frame → Type 0 = λ vs. Settles book h0 vs zs in subst C (sym es) (ended left adv s)));
}

pub settling-end : (rules : Rules) (old f : Frames) (top now : ℕ) → Settling rules old f top now → (1 ≤ (get_or f.marks.items (now - 1) no_mark).left) ⊎ ((get_or f.marks.items (now - 1) no_mark).below ≡ 0) → Settled rules old f top now
settling-end rules old f top now w d = record {
  frames = w.frames;
  grown = w.grown;
  stand = w.stand;
  rises = w.rises;
  some = w.some;
  within = w.within;
  more = w.more;
  kept = w.kept;
  settles = λ book r f0 fs p q.
      let (h0, hs, x, y, c) = w.settles book r f0 fs p q in
      let F = frame_at f (now - 1) in
      let i = (top-stack f now w.frames w.some w.within).1 in
      let eh = first-of F h0 _ hs (sym i ∙ x) in
      let er = rest-of F h0 _ hs (sym i ∙ x) in
      let C : List Frame → Type 0 = λ zs. Settles book f0 fs zs in
      subst C (sym x) (c (h0 ∷ hs) (elim d [
        | inl l ↦ let P : Frame → Type 0 = λ v. 1 ≤ v.left in asking (subst P eh l)
        | inr e ↦
            let es : hs ≡ [] = sym er ∙ ap (stack_of f) e ∙ stack-none (standings_of f) in
            let D : List Frame → Type 0 = λ vs. Settles book h0 vs (h0 ∷ vs) in
            subst D (sym es) whole
      ]));
}
