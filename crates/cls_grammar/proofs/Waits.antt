-- The lists of waiting rules, as the links have them.
use Rattle.std.proofs.Common.{◌≡◌, ℕ, zero, suc, ◌+◌, ◌<◌, ◌≤◌, List, [], ◌∷◌, ◌++◌, Some, length, map, set, get_or, slice_get, refl, sym, ap, subst, ◌∙◌, arith, ◌⊎◌, inl, inr, length-append, length-set, add-one}
use Rattle.std.specs.Prelude.{replicate}
use Rattle.std.proofs.lemmas.List.{map-set}
use Rattle.std.proofs.lemmas.Option.{slice_get_within, get_or_from_slice_get}
use Rattle.cls_core.proofs.Columns.{get-within, get-some, get-set-same, get-set-other, lt-split}
use Rattle.cls_grammar.specs.declared.waiting.Waiting.{Waiting}
use Rattle.cls_grammar.specs.declared.waiting.Link.{Link}
use Rattle.cls_grammar.specs.WaitingLists.{no_link, link_at, walk, rules_among, lists_among, AreOrdered, AreAmong}

-- the rest of a list stands before its first link
pub before-less : (links : List Link) (i : ℕ) → AreOrdered links → i < length links → (link_at links i).before ≤ i
before-less links i o l = let u = get-some links i l in let e = get_or_from_slice_get links i u.0 no_link u.1 in let h = o i u.0 u.1 in
    subst (λ (q : Link). q.before ≤ i) (sym e) h

-- more steps than there are links change nothing
pub walk-steps : (links : List Link) (f g k : ℕ) → AreOrdered links → k ≤ length links → k ≤ f → k ≤ g → walk f links k ≡ walk g links k
walk-steps links zero zero k o l a b = refl
walk-steps links zero (suc g) zero o l a b = refl
walk-steps links zero (suc g) (suc k) o l a b = absurd (omega arith)
walk-steps links (suc f) zero zero o l a b = refl
walk-steps links (suc f) zero (suc k) o l a b = absurd (omega arith)
walk-steps links (suc f) (suc g) zero o l a b = refl
walk-steps links (suc f) (suc g) (suc k) o l a b =
    let q = link_at links k in
    let m : q.before ≤ k = before-less links k o (omega arith) in
    ap (λ ws. q.waiting ∷ ws) (walk-steps links f g q.before o (omega arith) (omega arith) (omega arith))

link-within : (links ls : List Link) (i : ℕ) → i < length links → link_at (links ++ ls) i ≡ link_at links i
link-within [] ls i l = absurd (omega arith)
link-within (q ∷ links) ls zero l = refl
link-within (q ∷ links) ls (suc i) l = link-within links ls i (omega arith)

link-last : (links : List Link) (q : Link) → link_at (links ++ q ∷ []) (length links) ≡ q
link-last [] q = refl
link-last (p ∷ links) q = link-last links q

-- nor do more links
walk-more : (links ls : List Link) (f k : ℕ) → AreOrdered links → k ≤ length links → walk f (links ++ ls) k ≡ walk f links k
walk-more links ls zero k o l = refl
walk-more links ls (suc f) zero o l = refl
walk-more links ls (suc f) (suc k) o l =
    let P : Link → Type 0 = λ p. p.waiting ∷ walk f (links ++ ls) p.before ≡ walk (suc f) links (suc k) in
    let m : (link_at links k).before ≤ k = before-less links k o (omega arith) in
    subst P (sym (link-within links ls k (omega arith))) (ap (λ ws. (link_at links k).waiting ∷ ws) (walk-more links ls f (link_at links k).before o (omega arith)))

rules-more : (links ls : List Link) (k : ℕ) → AreOrdered links → k ≤ length links → rules_among (links ++ ls) k ≡ rules_among links k
rules-more links ls k o l = walk-more links ls k k o l

-- one rule more
rules-new : (links : List Link) (q : Link) → AreOrdered links → q.before ≤ length links → rules_among (links ++ q ∷ []) (suc (length links)) ≡ q.waiting ∷ rules_among links q.before
rules-new links q o l =
    let n = length links in
    let P : Link → Type 0 = λ p. p.waiting ∷ walk n (links ++ q ∷ []) p.before ≡ q.waiting ∷ rules_among links q.before in
    subst P (sym (link-last links q)) (ap (λ ws. q.waiting ∷ ws) (walk-more links (q ∷ []) n q.before o l ∙ walk-steps links n q.before q.before o l l (omega arith)))

-- a step along a list
pub rules-step : (links : List Link) (k : ℕ) → AreOrdered links → k < length links → rules_among links (suc k) ≡ (link_at links k).waiting ∷ rules_among links (link_at links k).before
rules-step links k o l =
    let m : (link_at links k).before ≤ k = before-less links k o l in
    ap (λ ws. (link_at links k).waiting ∷ ws) (walk-steps links k (link_at links k).before (link_at links k).before o (omega arith) m (omega arith))

pub lists-none : (n : ℕ) → lists_among [] (replicate n 0) ≡ replicate n []
lists-none zero = refl
lists-none (suc n) = ap (λ (ws : List (List Waiting)). [] ∷ ws) (lists-none n)

lists-same : (f g : ℕ → List Waiting) (ks : List ℕ) → ((i k : ℕ) → slice_get ks i ≡ Some k → f k ≡ g k) → map f ks ≡ map g ks
lists-same f g [] h = refl
lists-same f g (k ∷ ks) h = λ t. h 0 k refl t ∷ lists-same f g ks (λ i. h (suc i)) t

get-lists : (f : ℕ → List Waiting) (ks : List ℕ) (i : ℕ) → i < length ks → get_or (map f ks) i [] ≡ f (get_or ks i 0)
get-lists f [] i l = absurd (omega arith)
get-lists f (k ∷ ks) zero l = refl
get-lists f (k ∷ ks) (suc i) l = get-lists f ks i (omega arith)

pub lists-at : (links : List Link) (ks : List ℕ) (i : ℕ) → i < length ks → get_or (lists_among links ks) i [] ≡ rules_among links (get_or ks i 0)
lists-at links ks i l = get-lists (rules_among links) ks i l

pub lists-length : (links : List Link) (ks : List ℕ) → length (lists_among links ks) ≡ length ks
lists-length links [] = refl
lists-length links (k ∷ ks) = ap suc (lists-length links ks)

pub among-at : (links : List Link) (ks : List ℕ) (i : ℕ) → AreAmong links ks → i < length ks → get_or ks i 0 ≤ length links
among-at links ks i a l = let u = get-some ks i l in let e : get_or ks i 0 ≡ u.0 = get_or_from_slice_get ks i u.0 0 u.1 in let h = a i u.0 u.1 in omega arith

any-at : (ks : List ℕ) (i d e : ℕ) → i < length ks → get_or ks i d ≡ get_or ks i e
any-at [] i d e l = absurd (omega arith)
any-at (k ∷ ks) zero d e l = refl
any-at (k ∷ ks) (suc i) d e l = any-at ks i d e (omega arith)

-- the rule of a new link waits
pub lists-push : (links : List Link) (ks : List ℕ) (i d : ℕ) (q : Link) → AreOrdered links → AreAmong links ks → i < length ks → q.before ≡ get_or ks i d
    → lists_among (links ++ q ∷ []) (set ks i (length links + 1)) ≡ set (lists_among links ks) i (q.waiting ∷ get_or (lists_among links ks) i [])
lists-push links ks i d q o a l given =
    let n = length links in
    let e : q.before ≡ get_or ks i 0 = given ∙ any-at ks i d 0 l in
    let f = rules_among (links ++ q ∷ []) in
    let le : q.before ≤ n = omega (arith, among-at links ks i a l) in
    let new : f (n + 1) ≡ q.waiting ∷ get_or (lists_among links ks) i [] =
    ap f (add-one n) ∙ (rules-new links q o le ∙ ap (λ ws. q.waiting ∷ ws) (ap (rules_among links) e ∙ sym (lists-at links ks i l))) in
    let old : map f ks ≡ lists_among links ks = lists-same f (rules_among links) ks (λ j k m. rules-more links (q ∷ []) k o (a j k m)) in
    map-set f ks i (n + 1) ∙ (λ t. set (old t) i (new t))

pub lists-take : (links : List Link) (ks : List ℕ) (i : ℕ) → lists_among links (set ks i 0) ≡ set (lists_among links ks) i []
lists-take links ks i = map-set (rules_among links) ks i 0

pub ordered-push : (links : List Link) (q : Link) → AreOrdered links → q.before ≤ length links → AreOrdered (links ++ q ∷ [])
ordered-push links q o l i p e = by (lt-split (length links) i (omega (arith, slice_get_within (links ++ q ∷ []) i p e, length-append links (q ∷ []))))
  where
    by : (i < length links) ⊎ (i ≡ length links) → p.before ≤ i
    by (inl m) = o i p (sym (get-within links (q ∷ []) i m) ∙ e)
    by (inr m) =
        let f : link_at (links ++ q ∷ []) i ≡ p = get_or_from_slice_get (links ++ q ∷ []) i p no_link e in
        let g : link_at (links ++ q ∷ []) i ≡ q = ap (link_at (links ++ q ∷ [])) m ∙ link-last links q in
        let s : p ≡ q = sym f ∙ g in
        let b : p.before ≡ q.before = ap (λ (x : Link). x.before) s in
        omega arith

equal-or-not : (a z : ℕ) → (a ≡ z) ⊎ (a ≡ z → ⊥)
equal-or-not a z = grind arith

among-set : (links : List Link) (ks : List ℕ) (i n m : ℕ) → AreAmong links ks → n ≤ m → length links ≤ m → (j k : ℕ) → slice_get (set ks i n) j ≡ Some k → k ≤ m
among-set links ks i n m a l b j k e = by (equal-or-not j i)
  where
    by : (j ≡ i) ⊎ (j ≡ i → ⊥) → k ≤ m
    by (inr d) = let h = a j k (sym (get-set-other ks i j n d) ∙ e) in omega arith
    by (inl s) =
        let less : i < length ks = omega (arith, slice_get_within (set ks i n) j k e, length-set ks i n) in
        let now = get-set-same ks i n less in
        let at : slice_get (set ks i n) i ≡ Some k = subst (λ x. slice_get (set ks i n) x ≡ Some k) s e in
        let p : k ≡ n = cc in omega arith

pub among-push : (links : List Link) (ks : List ℕ) (i : ℕ) (q : Link) → AreAmong links ks → AreAmong (links ++ q ∷ []) (set ks i (length links + 1))
among-push links ks i q a = among-set links ks i (length links + 1) (length (links ++ q ∷ [])) a (omega (arith, length-append links (q ∷ []))) (omega (arith, length-append links (q ∷ [])))

pub among-take : (links : List Link) (ks : List ℕ) (i : ℕ) → AreAmong links ks → AreAmong links (set ks i 0)
among-take links ks i a = among-set links ks i 0 (length links) a (omega arith) (omega arith)

pub among-none : (n : ℕ) → AreAmong [] (replicate n 0)
among-none zero i k e = cc
among-none (suc n) zero k e = let f : 0 ≡ k = cc in omega arith
among-none (suc n) (suc i) k e = among-none n i k e
