-- Levels of the code: where each stands, and that those of earlier stacks stay.
use Rattle.std.proofs.Common.{◌≡◌, ℕ, zero, suc, ◌+◌, ◌-◌, ◌<◌, ◌≤◌, List, [], ◌∷◌, ◌++◌, length, map, take, drop, get_or, refl, sym, ap, ◌∙◌, subst, arith, length-append}
use Rattle.std.proofs.lemmas.List.{take-append-le, drop-append-le, length-drop, length-map, take_all, take-append-drop, map-append, get_or_append_left, get_or_past, get_or-drop}
use Rattle.std.proofs.Math.Seq.{drop-append_seam, take-append_seam, get_or-append_seam}
use Rattle.cls_walk.specs.FrameAims.{Aim}
use Rattle.cls_walk.specs.FrameBegins.{aim_of}
use Rattle.cls_walk.specs.FrameLevels.{cuts, cut_start, all_levels, levels_of, AreCuts, AreLevelColumns, AreGrownLevels, AreSameLevels}
use Rattle.cls_walk.specs.declared.aims.Aim.{Aim as CodeAim}
use Rattle.cls_walk.specs.declared.aims.Levels.{Levels}
use Rattle.cls_walk.specs.declared.aims.Reach.{Reach}

-- columns that are cut
pub cuts-rise : (start end : ℕ) (es : List ℕ) → AreCuts start end es → start ≤ end
cuts-rise start end [] h = omega (arith, h)
cuts-rise start end (e ∷ es) h = omega (arith, h.0, cuts-rise e end es h.1)

pub cuts-length : {A : Type 0} (xs : List A) (start : ℕ) (es : List ℕ) → length (cuts xs start es) ≡ length es
cuts-length xs start [] = refl
cuts-length xs start (e ∷ es) = let r = cuts-length xs e es in omega (arith, r)

part-front : {A : Type 0} (xs ys : List A) (s k : ℕ) → s + k ≤ length xs → take k (drop s (xs ++ ys)) ≡ take k (drop s xs)
part-front {A} xs ys s k l =
    ap (λ (zs : List A). take k zs) (drop-append-le s xs ys (omega (arith, l)))
    ∙ take-append-le k (drop s xs) ys (omega (arith, l, length-drop s xs))

-- what is added behind changes no part
cuts-front : {A : Type 0} (xs more : List A) (start : ℕ) (es : List ℕ) → AreCuts start (length xs) es → cuts (xs ++ more) start es ≡ cuts xs start es
cuts-front xs more start [] h = refl
cuts-front xs more start (e ∷ es) h =
    let l = cuts-rise e (length xs) es h.1 in
    let p = part-front xs more start (e - start) (omega (arith, h.0, l)) in
    let o = cuts-front xs more e es h.1 in
    λ i. p i ∷ o i

cuts-append : {A : Type 0} (xs : List A) (start end : ℕ) (es fs : List ℕ) → AreCuts start end es → cuts xs start (es ++ fs) ≡ cuts xs start es ++ cuts xs end fs
cuts-append xs start end [] fs h = ap (λ (k : ℕ). cuts xs k fs) h
cuts-append {A} xs start end (e ∷ es) fs h =
    ap (λ (zs : List (List A)). take (e - start) (drop start xs) ∷ zs) (cuts-append xs e end es fs h.1)

-- further parts stand behind
pub cuts-grown : {A : Type 0} (xs more : List A) (es fs : List ℕ) → AreCuts 0 (length xs) es → cuts (xs ++ more) 0 (es ++ fs) ≡ cuts xs 0 es ++ cuts (xs ++ more) (length xs) fs
cuts-grown {A} xs more es fs h =
    cuts-append (xs ++ more) 0 (length xs) es fs h
    ∙ ap (λ (zs : List (List A)). zs ++ cuts (xs ++ more) (length xs) fs) (cuts-front xs more 0 es h)

-- one more part
pub cuts-push : {A : Type 0} (xs more : List A) (es : List ℕ) (e : ℕ) → AreCuts 0 (length xs) es → e ≡ length (xs ++ more) → cuts (xs ++ more) 0 (es ++ e ∷ []) ≡ cuts xs 0 es ++ more ∷ []
cuts-push {A} xs more es e h p =
    let n = length xs in
    let k : e - n ≡ length more = omega (arith, p, length-append xs more) in
    let a : take (e - n) (drop n (xs ++ more)) ≡ more = (λ i. take (k i) (drop-append_seam xs more i)) ∙ take_all (length more) more (omega arith) in
    cuts-grown xs more es (e ∷ []) h ∙ ap (λ (z : List A). cuts xs 0 es ++ z ∷ []) a

pub are-push : (start end new : ℕ) (es : List ℕ) → AreCuts start end es → end ≤ new → AreCuts start new (es ++ new ∷ [])
are-push start end new [] h l = (omega (arith, h, l), refl)
are-push start end new (e ∷ es) h l = (h.0, are-push e end new es h.1 l)

-- the part with a number
abbrev cut_from : ℕ → List ℕ → ℕ → ℕ
cut_from start es zero = start
cut_from start es (suc i) = get_or es i 0

part-from : {A : Type 0} (xs : List A) (start : ℕ) (es : List ℕ) (i : ℕ) → i < length es → get_or (cuts xs start es) i [] ≡ take (get_or es i 0 - cut_from start es i) (drop (cut_from start es i) xs)
part-from xs start [] i l = absurd (omega arith)
part-from xs start (e ∷ es) zero l = refl
part-from xs start (e ∷ es) (suc zero) l = part-from xs e es zero (omega arith)
part-from xs start (e ∷ es) (suc (suc i)) l = part-from xs e es (suc i) (omega arith)

bounds-from : (start end : ℕ) (es : List ℕ) (i : ℕ) → i < length es → AreCuts start end es → (cut_from start es i ≤ get_or es i 0) × (get_or es i 0 ≤ end)
bounds-from start end [] i l h = absurd (omega arith)
bounds-from start end (e ∷ es) zero l h = (h.0, cuts-rise e end es h.1)
bounds-from start end (e ∷ es) (suc zero) l h = bounds-from e end es zero (omega arith) h.1
bounds-from start end (e ∷ es) (suc (suc i)) l h = bounds-from e end es (suc i) (omega arith) h.1

from-start : (es : List ℕ) (i : ℕ) → cut_from 0 es i ≡ cut_start es i
from-start es zero = refl
from-start es (suc i) = refl

pub cut-part : {A : Type 0} (xs : List A) (es : List ℕ) (i : ℕ) → i < length es → get_or (cuts xs 0 es) i [] ≡ take (get_or es i 0 - cut_start es i) (drop (cut_start es i) xs)
cut-part xs es i l = part-from xs 0 es i l ∙ ap (λ (k : ℕ). take (get_or es i 0 - k) (drop k xs)) (from-start es i)

pub cut-bounds : (end : ℕ) (es : List ℕ) (i : ℕ) → i < length es → AreCuts 0 end es → (cut_start es i ≤ get_or es i 0) × (get_or es i 0 ≤ end)
cut-bounds end es i l h = let P : ℕ → Type 0 = λ k. (k ≤ get_or es i 0) × (get_or es i 0 ≤ end) in subst P (from-start es i) (bounds-from 0 end es i l h)

pub start-next : (es : List ℕ) (i : ℕ) → 1 ≤ i → cut_start es i ≡ get_or es (i - 1) 0
start-next es i l = let e : suc (i - 1) ≡ i = omega (arith, l) in ap (cut_start es) (sym e)

-- aims as they are seen
pub aims-take : (k : ℕ) (xs : List CodeAim) → map aim_of (take k xs) ≡ take k (map aim_of xs)
aims-take zero xs = refl
aims-take (suc k) [] = refl
aims-take (suc k) (x ∷ xs) = ap (λ (zs : List Aim). aim_of x ∷ zs) (aims-take k xs)

pub aims-drop : (k : ℕ) (xs : List CodeAim) → map aim_of (drop k xs) ≡ drop k (map aim_of xs)
aims-drop zero xs = refl
aims-drop (suc k) [] = refl
aims-drop (suc k) (x ∷ xs) = aims-drop k xs

pub aims-part : (first last : ℕ) (xs : List CodeAim) → map aim_of (take (last - first) (drop first xs)) ≡ take (last - first) (drop first (map aim_of xs))
aims-part first last xs = aims-take (last - first) (drop first xs) ∙ ap (λ (zs : List Aim). take (last - first) zs) (aims-drop first xs)

-- a level is closed
pub closed-cuts : (xs more ys : List CodeAim) (es fs : List ℕ) (e : ℕ) → AreCuts 0 (length xs) es → ys ≡ xs ++ more → e ≡ length ys → fs ≡ es ++ e ∷ [] → AreCuts 0 (length ys) fs
closed-cuts xs more ys es fs e h p q r =
    let l : length xs ≤ e = let n = ap length p in omega (arith, n, q, length-append xs more) in
    let P : ℕ → Type 0 = λ k. AreCuts 0 k fs in
    let Q : List ℕ → Type 0 = λ zs. AreCuts 0 e zs in
    subst P q (subst Q (sym r) (are-push 0 (length xs) e es h l))

pub closed-all : (xs more ys : List CodeAim) (es fs : List ℕ) (e : ℕ) → AreCuts 0 (length xs) es → ys ≡ xs ++ more → e ≡ length ys → fs ≡ es ++ e ∷ [] → cuts (map aim_of ys) 0 fs ≡ cuts (map aim_of xs) 0 es ++ map aim_of more ∷ []
closed-all xs more ys es fs e h p q r =
    let m = ap (map aim_of) p ∙ map-append aim_of xs more in
    let P : ℕ → Type 0 = λ k. AreCuts 0 k es in
    let k : e ≡ length (map aim_of xs ++ map aim_of more) = q ∙ sym (length-map ys aim_of) ∙ ap length m in
    (λ i. cuts (m i) 0 (r i)) ∙ cuts-push (map aim_of xs) (map aim_of more) es e (subst P (sym (length-map xs aim_of)) h) k

-- the part of a stack that is closed
pub stack-closed : {A : Type 0} (ls : List A) (es fs : List ℕ) (stack first end : ℕ) → AreCuts 0 first es → length es ≡ stack → fs ≡ es ++ end ∷ [] → length ls ≡ end → get_or (cuts ls 0 fs) stack [] ≡ drop first ls
stack-closed {A} ls es fs stack first end h n r e =
    let c = ap (λ (zs : List ℕ). cuts ls 0 zs) r ∙ cuts-append ls 0 first es (end ∷ []) h in
    let k : stack ≡ length (cuts ls 0 es) = sym n ∙ sym (cuts-length ls 0 es) in
    ap (λ (zs : List (List A)). get_or zs stack []) c
    ∙ ap (λ (i : ℕ). get_or (cuts ls 0 es ++ take (end - first) (drop first ls) ∷ []) i []) k
    ∙ get_or-append_seam (cuts ls 0 es) (take (end - first) (drop first ls)) [] []
    ∙ take_all (end - first) (drop first ls) (omega (arith, e, length-drop first ls))

-- past the last stack
pub stack-past : (ls : List (List Aim)) (es : List ℕ) (stack : ℕ) → length es ≤ stack → get_or (cuts ls 0 es) stack [] ≡ []
stack-past ls es stack l = get_or_past (cuts ls 0 es) stack [] (let e = cuts-length ls 0 es in omega (arith, e, l))

-- what a column that has grown is
column-grown : {A : Type 0} (xs ys : List A) → take (length xs) ys ≡ xs → ys ≡ xs ++ drop (length xs) ys
column-grown {A} xs ys e = sym (take-append-drop (length xs) ys) ∙ ap (λ (zs : List A). zs ++ drop (length xs) ys) e

column-then : {A : Type 0} (xs ys zs : List A) → take (length xs) ys ≡ xs → take (length ys) zs ≡ ys → take (length xs) zs ≡ xs
column-then {A} xs ys zs e f =
    let p = column-grown xs ys e in
    let l : length xs ≤ length ys = let q = ap length p in omega (arith, q, length-append xs (drop (length xs) ys)) in
    ap (λ (ws : List A). take (length xs) ws) (column-grown ys zs f) ∙ take-append-le (length xs) ys (drop (length ys) zs) l ∙ e

pub column-push : {A : Type 0} (xs ys more zs : List A) → take (length xs) ys ≡ xs → zs ≡ ys ++ more → take (length xs) zs ≡ xs
column-push {A} xs ys more zs e f = column-then xs ys zs e (ap (λ (ws : List A). take (length ys) ws) f ∙ take-append_seam ys more)

pub all-length : (l : Levels) → length (all_levels l) ≡ length l.ends.items
all-length l = cuts-length (map aim_of l.aims.items) 0 l.ends.items

-- further levels stand behind those that were there
pub all-grown : (old new : Levels) → AreCuts 0 (length old.aims.items) old.ends.items → AreGrownLevels old new → (rest : List (List Aim)) × (all_levels new ≡ all_levels old ++ rest)
all-grown old new h g =
    let xs = map aim_of old.aims.items in
    let tail = drop (length old.aims.items) new.aims.items in
    let more = map aim_of tail in
    let es = old.ends.items in
    let fs = drop (length es) new.ends.items in
    let p : map aim_of new.aims.items ≡ xs ++ more = ap (map aim_of) (column-grown old.aims.items new.aims.items g.aims) ∙ map-append aim_of old.aims.items tail in
    let q = column-grown es new.ends.items g.ends in
    let P : ℕ → Type 0 = λ k. AreCuts 0 k es in
    let k = subst P (sym (length-map old.aims.items aim_of)) h in
    (cuts (xs ++ more) (length xs) fs, (λ i. cuts (p i) 0 (q i)) ∙ cuts-grown xs more es fs k)

pub all-kept : (old new : Levels) (i : ℕ) → AreCuts 0 (length old.aims.items) old.ends.items → AreGrownLevels old new → i < length old.ends.items → get_or (all_levels new) i [] ≡ get_or (all_levels old) i []
all-kept old new i h g l =
    let (rest, e) = all-grown old new h g in
    ap (λ (ls : List (List Aim)). get_or ls i []) e ∙ get_or_append_left (all_levels old) rest [] i (omega (arith, l, all-length old))

-- the levels of the stacks that were there
pub levels-kept : (old new : Levels) (s q : ℕ) → AreLevelColumns old → AreGrownLevels old new → s < length old.stacks.items → levels_of new s q ≡ levels_of old s q
levels-kept old new s q h g l =
    let (rest, e) = all-grown old new h.aims g in
    let a = all_levels old in
    let es = old.stacks.items in
    let fs = drop (length es) new.stacks.items in
    let p = column-grown es new.stacks.items g.stacks in
    let P : ℕ → Type 0 = λ k. AreCuts 0 k es in
    let k = subst P (sym (all-length old)) h.levels in
    let c = (λ i. cuts (e i) 0 (p i)) ∙ cuts-grown a rest es fs k in
    ap (λ (ls : List (List (List Aim))). get_or (get_or ls s []) q []) c
    ∙ ap (λ (ls : List (List Aim)). get_or ls q []) (get_or_append_left (cuts a 0 es) (cuts (a ++ rest) (length a) fs) [] s (omega (arith, l, cuts-length a 0 es)))

pub levels-same : (old new : Levels) (s q : ℕ) → AreSameLevels old new → levels_of new s q ≡ levels_of old s q
levels-same old new s q h = λ i. get_or (get_or (cuts (cuts (map aim_of (h.aims i)) 0 (h.ends i)) 0 (h.stacks i)) s []) q []

pub columns-same : (old new : Levels) → AreSameLevels old new → AreLevelColumns old → AreLevelColumns new
columns-same old new h c = record {
  aims = subst (λ (xs : List ℕ). AreCuts 0 (length new.aims.items) xs) (sym h.ends) (subst (λ (xs : List CodeAim). AreCuts 0 (length xs) old.ends.items) (sym h.aims) c.aims);
  levels = subst (λ (xs : List ℕ). AreCuts 0 (length new.ends.items) xs) (sym h.stacks) (subst (λ (xs : List ℕ). AreCuts 0 (length xs) old.stacks.items) (sym h.ends) c.levels);
}

pub all-same : (old new : Levels) → AreSameLevels old new → all_levels new ≡ all_levels old
all-same old new h = λ i. cuts (map aim_of (h.aims i)) 0 (h.ends i)

pub same-refl : (l : Levels) → AreSameLevels l l
same-refl l = record { aims = refl; ends = refl; stacks = refl }

pub same-then : (a b c : Levels) → AreSameLevels a b → AreSameLevels b c → AreSameLevels a c
same-then a b c g h = record { aims = h.aims ∙ g.aims; ends = h.ends ∙ g.ends; stacks = h.stacks ∙ g.stacks }

column-same : {A : Type 0} (xs ys : List A) → ys ≡ xs → take (length xs) ys ≡ xs
column-same {A} xs ys e = ap (λ (zs : List A). take (length xs) zs) e ∙ take_all (length xs) xs (omega arith)

pub same-grown : (old new : Levels) → AreSameLevels old new → AreGrownLevels old new
same-grown old new h = record {
  aims = column-same old.aims.items new.aims.items h.aims;
  ends = column-same old.ends.items new.ends.items h.ends;
  stacks = column-same old.stacks.items new.stacks.items h.stacks;
}

pub grown-refl : (l : Levels) → AreGrownLevels l l
grown-refl l = same-grown l l (same-refl l)

pub grown-then : (a b c : Levels) → AreGrownLevels a b → AreGrownLevels b c → AreGrownLevels a c
grown-then a b c g h = record {
  aims = column-then a.aims.items b.aims.items c.aims.items g.aims h.aims;
  ends = column-then a.ends.items b.ends.items c.ends.items g.ends h.ends;
  stacks = column-then a.stacks.items b.stacks.items c.stacks.items g.stacks h.stacks;
}

column-cut : {A : Type 0} (xs ys zs : List A) (n : ℕ) → take (length xs) ys ≡ xs → n ≡ length xs → zs ≡ take n ys → zs ≡ xs
column-cut {A} xs ys zs n e p q = q ∙ ap (λ (k : ℕ). take k ys) p ∙ e

-- levels that have grown are cut back to their reach
pub grown-cut : (old now new : Levels) (reach : Reach) → AreGrownLevels old now
    → reach.aims ≡ length old.aims.items → reach.ends ≡ length old.ends.items → reach.stacks ≡ length old.stacks.items
    → new.aims.items ≡ take reach.aims now.aims.items → new.ends.items ≡ take reach.ends now.ends.items → new.stacks.items ≡ take reach.stacks now.stacks.items
    → AreSameLevels old new
grown-cut old now new reach g a e s p q r = record {
  aims = column-cut old.aims.items now.aims.items new.aims.items reach.aims g.aims a p;
  ends = column-cut old.ends.items now.ends.items new.ends.items reach.ends g.ends e q;
  stacks = column-cut old.stacks.items now.stacks.items new.stacks.items reach.stacks g.stacks s r;
}

-- the levels of a stack are all levels from one on
pub levels-top : (l : Levels) (stack first q : ℕ) → get_or (cuts (all_levels l) 0 l.stacks.items) stack [] ≡ drop first (all_levels l) → levels_of l stack q ≡ get_or (all_levels l) (first + q) []
levels-top l stack first q e = ap (λ (ls : List (List Aim)). get_or ls q []) e ∙ get_or-drop first (all_levels l) q []
