-- Steps of counting the heads of a node by runs.
use Rattle.std.proofs.Common.{◌≡◌, ℕ, suc, ◌+◌, ◌-◌, ◌^◌, min, max, List, [], ◌∷◌, length, drop, get_or, sym, ap, ◌∙◌, subst, arith, add-one, Bool, true, false}
use Rattle.std.specs.Prelude.{Some, slice_get, nat_eq, ◌&&◌, if◌then◌else◌}
use Rattle.std.proofs.Math.Seq.{drop-cons}
use Rattle.std.proofs.lemmas.Bool.Decides.{nat_tests}
use Rattle.std.proofs.lemmas.Option.{get_or_from_slice_get, slice_get_within}
use Rattle.cls_base.specs.declared.rule.Rule.{Rule}
use Rattle.cls_walk.specs.Counts.{HeadRule, run}
use Rattle.cls_walk.specs.Tables.{capped}
use Rattle.cls_walk.proofs.Counts.{chosen_both}

min-max : (m b c d : ℕ) → min b m ≡ min c m → min (max b d) m ≡ min (max c d) m
min-max m b c d p = omega arith

min-left : (m b c d : ℕ) → min b m ≡ min c m → min (b + d) m ≡ min (c + d) m
min-left m b c d p = omega arith

min-right : (m b c d : ℕ) → min b m ≡ min c m → min (d + b) m ≡ min (d + c) m
min-right m b c d p = omega arith

min-moved : (m t b r u : ℕ) → min u m ≡ min r m → min (min (t + b) m + u) m ≡ min (t + (b + r)) m
min-moved m t b r u p = omega arith

min-twice : (m a : ℕ) → min (min a m) m ≡ min a m
min-twice m a = omega arith

-- what is open counts as far as it is capped
run-capped : (f : HeadRule → ℕ) (x k b c : ℕ) (hs : List HeadRule) → capped b ≡ capped c → capped (run f x k b hs) ≡ capped (run f x k c hs)
run-capped f x k b c [] p = p
run-capped f x k b c (h ∷ hs) p = chosen_both (λ (m n : ℕ). capped m ≡ capped n) (nat_eq x h.0 && nat_eq k (length h.1))
    (run f x k (max b (f h)) hs) (b + run f h.0 (length h.1) (f h) hs)
    (run f x k (max c (f h)) hs) (c + run f h.0 (length h.1) (f h) hs)
    (λ q. run-capped f x k (max b (f h)) (max c (f h)) hs (min-max (2 ^ 64 - 1) b c (f h) p))
    (λ q. min-left (2 ^ 64 - 1) b c (run f h.0 (length h.1) (f h) hs) p)

pub run-same : (f : HeadRule → ℕ) (x k best total y a ways new sum : ℕ) (ns : List ℕ) (hs : List HeadRule) → x ≡ y → k ≡ a → a ≡ length ns → ways ≡ capped (f (y, ns)) → new ≡ max best ways → capped (total + run f x k best ((y, ns) ∷ hs)) ≡ capped sum → capped (total + run f x k new hs) ≡ capped sum
run-same f x k best total y a ways new sum ns hs p q l w n h =
    let m = 2 ^ 64 - 1 in
    let test : (nat_eq x y && nat_eq k (length ns)) ≡ true = passes x y k (length ns) p (omega arith) in
    let P : Bool → Type 0 = λ b. capped (total + (if b then run f x k (max best (f (y, ns))) hs else best + run f y (length ns) (f (y, ns)) hs)) ≡ capped sum in
    let e : capped new ≡ capped (max best (f (y, ns))) = same m new best ways (f (y, ns)) n w in
    min-right m (run f x k new hs) (run f x k (max best (f (y, ns))) hs) total (run-capped f x k new (max best (f (y, ns))) hs e) ∙ subst P test h
  where
    passes : (x y k l : ℕ) → x ≡ y → k ≡ l → (nat_eq x y && nat_eq k l) ≡ true
    passes x y k l p q = grind (arith, nat_tests)

    same : (m new best ways v : ℕ) → new ≡ max best ways → ways ≡ min v m → min new m ≡ min (max best v) m
    same m new best ways v p q = omega arith

pub run-next : (f : HeadRule → ℕ) (x k best total y a ways new sum : ℕ) (ns : List ℕ) (hs : List HeadRule) → (nat_eq x y && nat_eq k a) ≡ false → a ≡ length ns → ways ≡ capped (f (y, ns)) → new ≡ capped (total + best) → capped (total + run f x k best ((y, ns) ∷ hs)) ≡ capped sum → capped (new + run f y a ways hs) ≡ capped sum
run-next f x k best total y a ways new sum ns hs t l w n h =
    let m = 2 ^ 64 - 1 in
    let P : Bool → Type 0 = λ b. capped (total + (if b then run f x k (max best (f (y, ns))) hs else best + run f y (length ns) (f (y, ns)) hs)) ≡ capped sum in
    let test : (nat_eq x y && nat_eq k (length ns)) ≡ false = ap (λ (i : ℕ). nat_eq x y && nat_eq k i) (sym l) ∙ t in
    let e : capped (run f y a ways hs) ≡ capped (run f y (length ns) (f (y, ns)) hs) =
    ap (λ (i : ℕ). capped (run f y i ways hs)) l ∙ run-capped f y (length ns) ways (f (y, ns)) hs (ap capped w ∙ min-twice m (f (y, ns))) in
    ap (λ (i : ℕ). capped (i + run f y a ways hs)) n
    ∙ min-moved m total best (run f y (length ns) (f (y, ns)) hs) (run f y a ways hs) e
    ∙ subst P test h

-- the rules from this one on
pub rules-from : (rs : List (Rule ℕ)) (i : ℕ) (r : Rule ℕ) → slice_get rs i ≡ Some r → drop i rs ≡ r ∷ drop (i + 1) rs
rules-from rs i r p =
    let e : drop i rs ≡ get_or rs i r ∷ drop (suc i) rs = drop-cons rs i r (slice_get_within rs i r p) in
    let d : get_or rs i r ∷ drop (suc i) rs ≡ r ∷ drop (i + 1) rs = λ j. get_or_from_slice_get rs i r r p j ∷ drop (sym (add-one i) j) rs in
    e ∙ d

pub differ_by : (x y k a : ℕ) → (x ≡ y → k ≡ a → ⊥) → (nat_eq x y && nat_eq k a) ≡ false
differ_by x y k a h = grind (arith, nat_tests)

-- the greatest so far, and one more
pub greatest-more : (best x v g most : ℕ) → x ≡ max best v → capped (max best (max (v) g)) ≡ capped most → capped (max x g) ≡ capped most
greatest-more best x v g most p h = ap (λ (i : ℕ). capped (max i g)) p ∙ ap capped (max-assoc best v g) ∙ h
  where
    max-assoc : (a b c : ℕ) → max (max a b) c ≡ max a (max b c)
    max-assoc a b c = omega arith

pub greatest-capped : (best x v w g most : ℕ) → v ≡ capped w → x ≡ max best v → capped (max best (max w g)) ≡ capped most → capped (max x g) ≡ capped most
greatest-capped best x v w g most q p h = ap (λ (i : ℕ). capped (max i g)) (p ∙ ap (λ (i : ℕ). max best i) q) ∙ moved (2 ^ 64 - 1) best w g ∙ h
  where
    moved : (m b w g : ℕ) → min (max (max b (min w m)) g) m ≡ min (max b (max w g)) m
    moved m b w g = omega arith

pub sure-capped : (a b c x y z s new : ℕ) → x ≡ capped a → y ≡ capped b → z ≡ capped c → s ≡ capped (y + z) → new ≡ max x s → new ≡ capped (max a (b + c))
sure-capped a b c x y z s new p q r t u = moved (2 ^ 64 - 1) a b c x y z s new p q r t u
  where
    moved : (m a b c x y z s new : ℕ) → x ≡ min a m → y ≡ min b m → z ≡ min c m → s ≡ min (y + z) m → new ≡ max x s → new ≡ min (max a (b + c)) m
    moved m a b c x y z s new p q r t u = omega arith
