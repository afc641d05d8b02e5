-- Stacks of frames in one column.
use Rattle.std.proofs.Common.{◌≡◌, ℕ, zero, suc, ◌+◌, ◌<◌, ◌≤◌, List, [], ◌∷◌, ◌++◌, length, refl, sym, ap, ◌∙◌, arith, append_assoc, length-append, ◌-◌, take, drop}
use Rattle.std.specs.Prelude.{slice_index_or}
use Rattle.std.proofs.lemmas.List.{take-append-le, drop-append-le, length-drop, take_all}
use Rattle.std.proofs.Math.Seq.{drop-append_seam}
use Rattle.cls_walk.specs.Frames.{Place, Frame}
use Rattle.cls_walk.specs.FrameStacks.{Standing, stacks_on, stack_at, AreStanding, Mark, standings, AreMarks}

front-at : (xs ys : List (List Frame)) (k : ℕ) → k < length xs → slice_index_or (xs ++ ys) k [] ≡ slice_index_or xs k []
front-at [] ys k l = absurd (omega arith)
front-at (x ∷ xs) ys zero l = refl
front-at (x ∷ xs) ys (suc k) l = front-at xs ys k (omega arith)

end-at : (xs : List (List Frame)) (y : List Frame) → slice_index_or (xs ++ y ∷ []) (length xs) [] ≡ y
end-at [] y = refl
end-at (x ∷ xs) y = end-at xs y

on-append : (stacks : List (List Frame)) (ss ts : List Standing) → stacks_on stacks (ss ++ ts) ≡ stacks_on (stacks_on stacks ss) ts
on-append stacks [] ts = refl
on-append stacks (s ∷ ss) ts = on-append (stacks ++ (s.frame ∷ slice_index_or stacks s.below []) ∷ []) ss ts

on-length : (stacks : List (List Frame)) (ss : List Standing) → length (stacks_on stacks ss) ≡ length stacks + length ss
on-length stacks [] = omega arith
on-length stacks (s ∷ ss) =
    let one = (s.frame ∷ slice_index_or stacks s.below []) ∷ [] in
    omega (arith, on-length (stacks ++ one) ss, length-append stacks one)

-- further frames leave the stacks so far
on-front : (stacks : List (List Frame)) (ss : List Standing) (k : ℕ) → k < length stacks → slice_index_or (stacks_on stacks ss) k [] ≡ slice_index_or stacks k []
on-front stacks [] k l = refl
on-front stacks (s ∷ ss) k l =
    let one = (s.frame ∷ slice_index_or stacks s.below []) ∷ [] in
    on-front (stacks ++ one) ss k (omega (arith, l, length-append stacks one)) ∙ front-at stacks one k l

pub stack-none : (ss : List Standing) → stack_at ss 0 ≡ []
stack-none ss = on-front ([] ∷ []) ss 0 (omega arith)

pub stack-kept : (ss ts : List Standing) (top : ℕ) → top ≤ length ss → stack_at (ss ++ ts) top ≡ stack_at ss top
stack-kept ss ts top l =
    ap (λ (xs : List (List Frame)). slice_index_or xs top []) (on-append ([] ∷ []) ss ts)
    ∙ on-front (stacks_on ([] ∷ []) ss) ts top (omega (arith, l, on-length ([] ∷ []) ss))

pub stack-pushed : (ss : List Standing) (s : Standing) → stack_at (ss ++ s ∷ []) (length ss + 1) ≡ s.frame ∷ stack_at ss s.below
stack-pushed ss s =
    let stacks = stacks_on ([] ∷ []) ss in
    let k : length ss + 1 ≡ length stacks = omega (arith, on-length ([] ∷ []) ss) in
    ap (λ (xs : List (List Frame)). slice_index_or xs (length ss + 1) []) (on-append ([] ∷ []) ss (s ∷ []))
    ∙ ap (λ (i : ℕ). slice_index_or (stacks ++ (s.frame ∷ slice_index_or stacks s.below []) ∷ []) i []) k
    ∙ end-at stacks (s.frame ∷ slice_index_or stacks s.below [])

-- the stack with a frame on top, wherever that stands
pub stack-top : (ss ts : List Standing) (s : Standing) → s.below ≤ length ss → stack_at (ss ++ s ∷ ts) (length ss + 1) ≡ s.frame ∷ stack_at (ss ++ s ∷ ts) s.below
stack-top ss ts s l =
    let a = stack-kept (ss ++ s ∷ []) ts (length ss + 1) (omega (arith, length-append ss (s ∷ []))) in
    let b = stack-kept ss (s ∷ ts) s.below l in
    let e : (ss ++ s ∷ []) ++ ts ≡ ss ++ s ∷ ts = append_assoc ss (s ∷ []) ts in
    sym (ap (λ (xs : List Standing). stack_at xs (length ss + 1)) e) ∙ a ∙ stack-pushed ss s ∙ ap (λ (zs : List Frame). s.frame ∷ zs) (sym b)

pub standing-push : (count : ℕ) (ss : List Standing) (s : Standing) → AreStanding count ss → s.below ≤ count + length ss → AreStanding count (ss ++ s ∷ [])
standing-push count [] s h l = (omega (arith, l), tt)
standing-push count (t ∷ ss) s h l = (h.0, standing-push (count + 1) ss s h.1 (omega (arith, l)))

pub standing-front : (count : ℕ) (ss ts : List Standing) → AreStanding count (ss ++ ts) → AreStanding count ss
standing-front count [] ts h = tt
standing-front count (s ∷ ss) ts h = (h.0, standing-front (count + 1) ss ts h.1)

pub standing-at : (count : ℕ) (ss ts : List Standing) (s : Standing) → AreStanding count (ss ++ s ∷ ts) → s.below ≤ count + length ss
standing-at count [] ts s h = omega (arith, h.0)
standing-at count (t ∷ ss) ts s h = omega (arith, standing-at (count + 1) ss ts s h.1)

-- frames whose places stand in one column
pub marks-rise : (start end : ℕ) (ms : List Mark) → AreMarks start end ms → start ≤ end
marks-rise start end [] h = omega (arith, h)
marks-rise start end (m ∷ ms) h = omega (arith, h.0, marks-rise m.last end ms h.1)

pub marks-push : (start end : ℕ) (ms : List Mark) (m : Mark) → AreMarks start end ms → end ≤ m.last → AreMarks start m.last (ms ++ m ∷ [])
marks-push start end [] m h l = (omega (arith, h, l), refl)
marks-push start end (n ∷ ms) m h l = (h.0, marks-push n.last end ms m h.1 l)

part-front : (xs ys : List Place) (s k : ℕ) → s + k ≤ length xs → take k (drop s (xs ++ ys)) ≡ take k (drop s xs)
part-front xs ys s k l =
    ap (λ (zs : List Place). take k zs) (drop-append-le s xs ys (omega (arith, l)))
    ∙ take-append-le k (drop s xs) ys (omega (arith, l, length-drop s xs))

-- further places change none of the frames
pub standings-front : (places more : List Place) (start : ℕ) (ms : List Mark) → AreMarks start (length places) ms → standings (places ++ more) start ms ≡ standings places start ms
standings-front places more start [] h = refl
standings-front places more start (m ∷ ms) h =
    let l = marks-rise m.last (length places) ms h.1 in
    let e = part-front places more start (m.last - start) (omega (arith, h.0, l)) in
    let o = standings-front places more m.last ms h.1 in
    λ i. record { frame = record { places = e i; left = m.left }; below = m.below } ∷ o i

standings-append : (places : List Place) (start end : ℕ) (ms ns : List Mark) → AreMarks start end ms → standings places start (ms ++ ns) ≡ standings places start ms ++ standings places end ns
standings-append places start end [] ns h = ap (λ (k : ℕ). standings places k ns) h
standings-append places start end (m ∷ ms) ns h =
    let s : Standing = record { frame = record { places = take (m.last - start) (drop start places); left = m.left }; below = m.below } in
    ap (λ (ss : List Standing). s ∷ ss) (standings-append places m.last end ms ns h.1)

-- one frame more
pub standings-push : (places more : List Place) (start : ℕ) (ms : List Mark) (m : Mark) → AreMarks start (length places) ms → m.last ≡ length places + length more → standings (places ++ more) start (ms ++ m ∷ []) ≡ standings places start ms ++ record { frame = record { places = more; left = m.left }; below = m.below } ∷ []
standings-push places more start ms m h p =
    let n = length places in
    let k : m.last - n ≡ length more = omega (arith, p) in
    let a : take (m.last - n) (drop n (places ++ more)) ≡ more = (λ i. take (k i) (drop-append_seam places more i)) ∙ take_all (length more) more (omega arith) in
    let b : standings (places ++ more) n (m ∷ []) ≡ record { frame = record { places = more; left = m.left }; below = m.below } ∷ [] = λ i. record { frame = record { places = a i; left = m.left }; below = m.below } ∷ [] in
    standings-append (places ++ more) start n ms (m ∷ []) h ∙ (λ i. standings-front places more start ms h i ++ b i)
