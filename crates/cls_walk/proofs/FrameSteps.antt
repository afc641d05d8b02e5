-- The steps of a walk over frames as lists are those that its laws speak of.
use Rattle.std.proofs.Common.{◌≡◌, ℕ, zero, suc, ◌+◌, ◌-◌, ◌<◌, ◌≤◌, Bool, true, false, List, [], ◌∷◌, ◌++◌, length, map, refl, sym, ap, ◌∙◌, subst, inl, inr, arith, length-append}
use Rattle.std.specs.Prelude.{nat_eq, if◌then◌else◌, Contains}
use Rattle.std.specs.List.{flat_map}
use Rattle.std.proofs.lemmas.Bool.Decides.{nat_tests}
use Rattle.std.proofs.lemmas.List.{get_or_past}
use native.Mathlib.Decide.{dec_lt}
use Rattle.cls_base.specs.declared.rule.Rule.{Rule}
use Rattle.cls_base.specs.declared.rule.Rule.TheVariants.{Head, Any}
use Rattle.cls_base.specs.Languages.{NodeRule, rules_at}
use Rattle.cls_base.proofs.Lists.{Contains-nil}
use Rattle.cls_enum.specs.Members.{IsIn}
use Rattle.cls_enum.proofs.Members.{in_from, in_to, in_over, over_in, in_flat_map, flat_map_in, in_map}
use Rattle.cls_walk.specs.Counts.{HeadRule, heads_of, pairs_of}
use Rattle.cls_walk.proofs.Sure.{heads-rule, pairs-rule}
use Rattle.cls_walk.specs.Frames.{Place, Frame, Reaches, Makes, Awaits, IsOpened, Follows, IsAdvanced, AreSame, IsComplete, IsAsking, pairs_from, asked_at, asked, back, places_at, opened, followed, advanced, complete_at, complete}
use Rattle.cls_walk.proofs.Frames.{first-same}

pub in-if : {A : Type 0} (t : Bool) (xs : List A) (e : A) → IsIn (if t then xs else []) e → (t ≡ true) × IsIn xs e
in-if true xs e i = (refl, i)
in-if false xs e i = absurd i

pub if-in : {A : Type 0} (t : Bool) (xs : List A) (e : A) → t ≡ true → IsIn xs e → IsIn (if t then xs else []) e
if-in true xs e p i = i
if-in false xs e p i = absurd (cc)

-- a list of one
pub only : {A : Type 0} (x e : A) → IsIn (x ∷ []) e → x ≡ e
only x e (inl p) = p
only x e (inr i) = absurd i

pub same : (a b : ℕ) → nat_eq a b ≡ true → a ≡ b
same a b p = grind (arith, nat_tests)

pub equal : (a b : ℕ) → a ≡ b → nat_eq a b ≡ true
equal a b p = grind (arith, nat_tests)

pub map-in : {A B : Type 0} (f : A → B) (xs : List A) (x : A) → IsIn xs x → IsIn (map f xs) (f x)
map-in f [] x i = absurd i
map-in f (y ∷ xs) x (inl p) = inl (ap f p)
map-in f (y ∷ xs) x (inr i) = inr (map-in f xs x i)

-- a rule's parts
rule-head : (rs : List (Rule ℕ)) (x : ℕ) (ns : List ℕ) → IsIn rs (Head x ns) → IsIn (heads_of rs) (x, ns)
rule-head [] x ns i = absurd i
rule-head (Head y ms ∷ rs) x ns (inl p) =
    let comp : Rule ℕ → ℕ = λ r. elim r [ Head z zs ↦ z | Any l m ↦ 0 ] in
    let args : Rule ℕ → List ℕ = λ r. elim r [ Head z zs ↦ zs | Any l m ↦ [] ] in
    inl (λ i. (ap comp p i, ap args p i))
rule-head (Head y ms ∷ rs) x ns (inr i) = inr (rule-head rs x ns i)
rule-head (Any l m ∷ rs) x ns (inl p) = absurd (cc)
rule-head (Any l m ∷ rs) x ns (inr i) = rule-head rs x ns i

rule-pair : (rs : List (Rule ℕ)) (l m : ℕ) → IsIn rs (Any l m) → IsIn (pairs_of rs) (l, m)
rule-pair [] l m i = absurd i
rule-pair (Head y ms ∷ rs) l m (inl p) = absurd (cc)
rule-pair (Head y ms ∷ rs) l m (inr i) = rule-pair rs l m i
rule-pair (Any k j ∷ rs) l m (inl p) =
    let left : Rule ℕ → ℕ = λ r. elim r [ Head z zs ↦ 0 | Any a b ↦ a ] in
    let right : Rule ℕ → ℕ = λ r. elim r [ Head z zs ↦ 0 | Any a b ↦ b ] in
    inl (λ i. (ap left p i, ap right p i))
rule-pair (Any k j ∷ rs) l m (inr i) = inr (rule-pair rs l m i)

module _ (book : List (List (Rule ℕ))) where
  rule-below : (n : ℕ) (r : Rule ℕ) → NodeRule book n r → n < length book
  rule-below n r m = go (dec_lt n (length book))
    where
      go : Dec (n < length book) → n < length book
      go (yes l) = l
      go (no f) = absurd (Contains-nil r (subst (λ (rs : List (Rule ℕ)). Contains rs r) (get_or_past book n [] (omega arith)) m))

  pub head-in : (l x : ℕ) (ns : List ℕ) → NodeRule book l (Head x ns) → IsIn (heads_of (rules_at book l)) (x, ns)
  head-in l x ns c = rule-head (rules_at book l) x ns (in_from (rules_at book l) (Head x ns) c)

  pub in-head : (l : ℕ) (h : HeadRule) → IsIn (heads_of (rules_at book l)) h → NodeRule book l (Head h.0 h.1)
  in-head l h i = in_to (rules_at book l) (Head h.0 h.1) (heads-rule (rules_at book l) h i)

  pub pair-in : (k l m : ℕ) → NodeRule book k (Any l m) → IsIn (pairs_of (rules_at book k)) (l, m)
  pair-in k l m c = rule-pair (rules_at book k) l m (in_from (rules_at book k) (Any l m) c)

  pub in-pair : (k : ℕ) (p : ℕ × ℕ) → IsIn (pairs_of (rules_at book k)) p → NodeRule book k (Any p.0 p.1)
  in-pair k p i = in_to (rules_at book k) (Any p.0 p.1) (pairs-rule (rules_at book k) p i)

  -- pairs from a node
  abbrev turned : ℕ → ℕ → ℕ × ℕ → List (ℕ × ℕ)
  turned l k p = if nat_eq p.0 l then (p.1, k) ∷ [] else []

  pub pairs-in : (k l m : ℕ) → NodeRule book k (Any l m) → IsIn (pairs_from book l) (m, k)
  pairs-in k l m c = over_in (length book) (λ j. flat_map (turned l j) (pairs_of (rules_at book j))) (m, k) k (rule-below k (Any l m) c)
      (flat_map_in (turned l k) (pairs_of (rules_at book k)) (m, k) (l, m) (pair-in k l m c) (if-in (nat_eq l l) ((m, k) ∷ []) (m, k) (equal l l refl) (inl refl)))

  pub in-pairs : (l : ℕ) (q : ℕ × ℕ) → IsIn (pairs_from book l) q → NodeRule book q.1 (Any l q.0)
  in-pairs l q i =
      let r = in_over (length book) (λ j. flat_map (turned l j) (pairs_of (rules_at book j))) q i in
      let k = r.0 in
      let s = in_flat_map (turned l k) (pairs_of (rules_at book k)) q r.2 in
      let p = s.0 in
      let t = in-if (nat_eq p.0 l) ((p.1, k) ∷ []) q s.2 in
      let P : ℕ × ℕ → Type 0 = λ z. NodeRule book z.1 (Any l z.0) in
      let Q : ℕ → Type 0 = λ z. NodeRule book k (Any z p.1) in
      subst P (only (p.1, k) q t.1) (subst Q (same p.0 l t.0) (in-pair k p s.1))

  -- an argument has ended
  module _ (nodes : List ℕ) where
    abbrev paired : ℕ × ℕ → ℕ → List Place
    paired q m = if nat_eq q.0 m then (q.1, []) ∷ [] else []

    abbrev passed : ℕ → List ℕ → ℕ → ℕ → List Place
    passed l rest n m = if nat_eq n m then (l, rest) ∷ [] else []

    followed-to : (p q : Place) (m : ℕ) → IsIn nodes m → Follows book p m q → IsIn (followed book nodes p) q
    followed-to (l, []) q m i f =
        flat_map_in (λ z. flat_map (paired z) nodes) (pairs_from book l) q (m, q.0) (pairs-in q.0 l m f.0)
        (flat_map_in (paired (m, q.0)) nodes q m i (if-in (nat_eq m m) ((q.0, []) ∷ []) q (equal m m refl) (inl (λ j. (q.0, sym f.1 j)))))
    followed-to (l, n ∷ rest) q m i f =
        flat_map_in (passed l rest n) nodes q m i (if-in (nat_eq n m) ((l, rest) ∷ []) q (equal n m f.0) (inl (sym f.1)))

    followed-from : (p q : Place) → IsIn (followed book nodes p) q → (m : ℕ) × IsIn nodes m × Follows book p m q
    followed-from (l, []) q i =
        let r = in_flat_map (λ z. flat_map (paired z) nodes) (pairs_from book l) q i in
        let z = r.0 in
        let s = in_flat_map (paired z) nodes q r.2 in
        let m = s.0 in
        let t = in-if (nat_eq z.0 m) ((z.1, []) ∷ []) q s.2 in
        let e = only (z.1, []) q t.1 in
        let P : Place → Type 0 = λ y. NodeRule book y.0 (Any l m) × (y.1 ≡ []) in
        let Q : ℕ → Type 0 = λ y. NodeRule book z.1 (Any l y) in
        (m, s.1, subst P e (subst Q (same z.0 m t.0) (in-pairs l z r.1), refl))
    followed-from (l, n ∷ rest) q i =
        let s = in_flat_map (passed l rest n) nodes q i in
        let m = s.0 in
        let t = in-if (nat_eq n m) ((l, rest) ∷ []) q s.2 in
        (m, s.1, (same n m t.0, sym (only (l, rest) q t.1)))

    pub advanced-right : (f : Frame) → 1 ≤ f.left → IsAdvanced book (IsIn nodes) f (advanced book nodes f)
    advanced-right f l = record {
      count = omega (arith, l);
      each = λ q i. (
          let r = in_flat_map (followed book nodes) f.places q i in
          let s = followed-from r.0 q r.2 in
          (r.0, s.0, r.1, s.1, s.2)
          );
      all = λ p q m i h g. flat_map_in (followed book nodes) f.places q p i (followed-to p q m h g);
    }

    -- and so may be another list with the same places
    pub advanced-by : (f : Frame) (left : ℕ) (places : List Place) → f.left ≡ left + 1 → AreSame (flat_map (followed book nodes) f.places) places → IsAdvanced book (λ m. IsIn nodes m) f (record { places = places; left = left })
    advanced-by f left places l s =
        let r = advanced-right f (omega (arith, l)) in
        record {
          count = l;
          each = λ q i. r.each q (s.each q i);
          all = λ p q m i h g. s.all q (r.all p q m i h g);
        }

  complete-to : (p : Place) (n : ℕ) → p ≡ (n, []) → IsIn (complete_at p) n
  complete-to (l, []) n e = inl (ap (λ (z : Place). z.0) e)
  complete-to (l, m ∷ rest) n e = absurd (let q : m ∷ rest ≡ [] = ap (λ (z : Place). z.1) e in cc)

  pub complete-in : (f : Frame) (n : ℕ) → IsComplete f n → IsIn (complete f) n
  complete-in f n i = flat_map_in (complete_at) f.places n (n, []) i (inl refl)

  complete-from : (p : Place) (n : ℕ) → IsIn (complete_at p) n → p ≡ (n, [])
  complete-from (l, []) n i = let e = only l n i in λ j. (e j, [])
  complete-from (l, m ∷ rest) n i = absurd i

  pub in-complete : (f : Frame) (n : ℕ) → IsIn (complete f) n → IsComplete f n
  in-complete f n i =
      let r = in_flat_map (complete_at) f.places n i in
      let P : Place → Type 0 = λ z. IsIn f.places z in
      subst P (complete-from r.0 n r.2) r.1

  -- what is asked for
  asked-place : (n l k : ℕ) (rest more own : List ℕ) → Reaches book l more k → n ∷ own ≡ rest ++ more → IsIn (asked_at book (l, rest)) n
  asked-place n l k [] [] own r p = absurd (cc)
  asked-place n l k [] (m ∷ more) own r p =
      let P : ℕ → Type 0 = λ z. IsIn (map (λ (q : ℕ × ℕ). q.0) (pairs_from book l)) z in
      subst P (sym (first-same n m own more p)) (map-in (λ (q : ℕ × ℕ). q.0) (pairs_from book l) (m, r.0) (pairs-in r.0 l m r.1))
  asked-place n l k (m ∷ rest) more own r p = inl (sym (first-same n m own (rest ++ more) p))

  asked-made : (f : Frame) (n k : ℕ) (js own others : List ℕ) → 1 ≤ f.left → Makes book f k own → n ∷ js ≡ own ++ others → IsIn (flat_map (asked_at book) f.places) n
  asked-made f n k js [] others l m p = absurd (omega (arith, l, m.counted))
  asked-made f n k js (j ∷ own) others l m p =
      let i = flat_map_in (asked_at book) f.places j (m.node, m.rest) m.place (asked-place j m.node k m.rest m.more own m.reached m.awaited) in
      let P : ℕ → Type 0 = λ z. IsIn (flat_map (asked_at book) f.places) z in
      subst P (sym (first-same n j js (own ++ others) p)) i

  pub asked-in : (start n : ℕ) (js : List ℕ) (frames : List Frame) → IsAsking frames → Awaits book start frames (n ∷ js) → IsIn (asked book start frames) n
  asked-in start n js [] l a = inl (sym (first-same n start js [] a))
  asked-in start n js (f ∷ fs) l a = asked-made f n a.node js a.own a.others l a.makes a.both

  abbrev stepped : ℕ → List ℕ
  stepped n = map (λ p. p.0) (pairs_of (rules_at book n))

  -- back from nodes by pairs
  pub back-in : (l n : ℕ) (ms nodes : List ℕ) → IsIn nodes n → Reaches book l ms n → IsIn (back book (length ms) nodes) l
  back-in l n [] nodes i r = let P : ℕ → Type 0 = λ z. IsIn nodes z in subst P (sym r) i
  back-in l n (m ∷ ms) nodes i r =
      flat_map_in stepped (back book (length ms) nodes) l r.0 (back-in r.0 n ms nodes i r.2)
      (map-in (λ (p : ℕ × ℕ). p.0) (pairs_of (rules_at book r.0)) (l, m) (pair-in r.0 l m r.1))

  pub in-back : (q l : ℕ) (nodes : List ℕ) → IsIn (back book q nodes) l → (n : ℕ) × (ms : List ℕ) × IsIn nodes n × Reaches book l ms n × (length ms ≡ q)
  in-back zero l nodes i = (l, [], i, refl, refl)
  in-back (suc q) l nodes i =
      let r = in_flat_map stepped (back book q nodes) l i in
      let k = r.0 in
      let s = in_map (λ (p : ℕ × ℕ). p.0) (pairs_of (rules_at book k)) l r.2 in
      let p = s.0 in
      let t = in-back q k nodes r.1 in
      let P : ℕ → Type 0 = λ z. NodeRule book k (Any z p.1) in
      (t.0, p.1 ∷ t.1, t.2, (k, subst P s.2 (in-pair k p s.1), t.3), ap suc t.4)

  -- a head rule begins
  module _ (x j l : ℕ) where
    abbrev counted : HeadRule → List Place
    counted h = if nat_eq (length h.1) j then (l, h.1) ∷ [] else []

    abbrev begun : HeadRule → List Place
    begun h = if nat_eq h.0 x then counted h else []

    places-in : (ns : List ℕ) → NodeRule book l (Head x ns) → length ns ≡ j → IsIn (places_at book x j l) (l, ns)
    places-in ns c e = flat_map_in begun (heads_of (rules_at book l)) (l, ns) (x, ns) (head-in l x ns c)
        (if-in (nat_eq x x) (counted (x, ns)) (l, ns) (equal x x refl) (if-in (nat_eq (length ns) j) ((l, ns) ∷ []) (l, ns) (equal (length ns) j e) (inl refl)))

    in-places : (p : Place) → IsIn (places_at book x j l) p → (l ≡ p.0) × NodeRule book l (Head x p.1) × (length p.1 ≡ j)
    in-places p i =
        let r = in_flat_map begun (heads_of (rules_at book l)) p i in
        let h = r.0 in
        let s = in-if (nat_eq h.0 x) (counted h) p r.2 in
        let t = in-if (nat_eq (length h.1) j) ((l, h.1) ∷ []) p s.1 in
        let e = only (l, h.1) p t.1 in
        let q : h.1 ≡ p.1 = ap (λ (z : Place). z.1) e in
        let P : ℕ → Type 0 = λ z. NodeRule book l (Head z h.1) in
        let Q : List ℕ → Type 0 = λ z. NodeRule book l (Head x z) in
        (ap (λ (z : Place). z.0) e, subst Q q (subst P (same h.0 x s.0) (in-head l h r.1)), ap (λ (z : List ℕ). length z) (sym q) ∙ same (length h.1) j t.0)

  -- a term is begun
  module _ (nodes : List ℕ) (x k : ℕ) where
    abbrev by_pairs : ℕ → List Place
    by_pairs q = flat_map (places_at book x (k - q)) (back book q nodes)

    -- each place of it leads to one of the nodes
    pub in-opened : (p : Place) → IsIn (opened book nodes x k).places p → NodeRule book p.0 (Head x p.1) × ((n : ℕ) × (ms : List ℕ) × IsIn nodes n × Reaches book p.0 ms n × (length p.1 + length ms ≡ k))
    in-opened p i =
        let r = in_over (k + 1) by_pairs p i in
        let q = r.0 in
        let s = in_flat_map (places_at book x (k - q)) (back book q nodes) p r.2 in
        let l = s.0 in
        let t = in-places x (k - q) l p s.2 in
        let u = in-back q l nodes s.1 in
        let P : ℕ → Type 0 = λ z. NodeRule book z (Head x p.1) in
        let Q : ℕ → Type 0 = λ z. Reaches book z u.1 u.0 in
        (subst P t.0 t.1, (u.0, u.1, u.2, subst Q t.0 u.3, omega (arith, t.2, u.4, r.1)))

    pub opened-in : (l n : ℕ) (ns ms : List ℕ) → IsIn nodes n → NodeRule book l (Head x ns) → Reaches book l ms n → length (ns ++ ms) ≡ k → IsIn (opened book nodes x k).places (l, ns)
    opened-in l n ns ms i c r e =
        let q = length ms in
        let f : length ns ≡ k - q = omega (arith, e, length-append ns ms) in
        let s : q < k + 1 = omega (arith, e, length-append ns ms) in
        over_in (k + 1) by_pairs (l, ns) q s
        (flat_map_in (places_at book x (k - q)) (back book q nodes) (l, ns) l (back-in l n ms nodes i r) (places-in x (k - q) l ns c f))

  pub opened-right : (start x k : ℕ) (frames : List Frame) (Kept : List ℕ → Type 0) → IsAsking frames → IsOpened book (Awaits book start frames) Kept x k (opened book (asked book start frames) x k)
  opened-right start x k frames Kept a = record {
    count = refl;
    each = λ l ns i. (in-opened (asked book start frames) x k (l, ns) i).0;
    all = λ n l ns ms js b c r e kept. opened-in (asked book start frames) x k l n ns ms (asked-in start n js frames a b) c r e;
  }
