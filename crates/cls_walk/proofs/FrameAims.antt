-- Aims tell which openings can be completed within a size.
use Rattle.std.proofs.Common.{◌≡◌, ℕ, zero, suc, ◌+◌, ◌-◌, ◌<◌, ◌≤◌, Bool, true, false, List, [], ◌∷◌, ◌++◌, length, refl, sym, ap, ◌∙◌, subst, inl, arith, length-append}
use Rattle.std.specs.Prelude.{nat_eq, nat_le, if◌then◌else◌}
use Rattle.std.specs.List.{flat_map}
use Rattle.std.proofs.lemmas.Bool.Decides.{nat_tests}
use Rattle.cls_base.specs.declared.rule.Rule.{Rule}
use Rattle.cls_base.specs.declared.rule.Rule.TheVariants.{Head, Any}
use Rattle.cls_base.specs.Languages.{NodeRule, rules_at}
use Rattle.cls_enum.specs.Members.{IsIn}
use Rattle.cls_enum.proofs.Members.{in_over, over_in, in_flat_map, flat_map_in, in_map}
use Rattle.cls_walk.specs.Counts.{HeadRule, heads_of, pairs_of}
use Rattle.cls_walk.specs.Frames.{Place, Frame, Reaches, Makes, Awaits, IsOpened, least_sum, IsCompletable}
use Rattle.cls_walk.specs.FrameAims.{Aim, start_aims, AreAims, AreThinned, stepped, AreLevels, whole_levels, places_with, opened_with, Offers, OffersBy, AreOffered, aimed_by, aims_at, next_aims}
use Rattle.cls_walk.proofs.Frames.{first-same, rest-same}
use Rattle.cls_walk.proofs.FrameSteps.{in-if, if-in, only, same, equal, map-in, head-in, in-head, pair-in, in-pair}
use Rattle.cls_walk.proofs.FrameSizes.{sum-append}

module _ (book : List (List (Rule ℕ))) (least : ℕ → ℕ) where
  -- of what is thinned, all that it is good for is left
  pub thinned-right : (start : ℕ) (frames : List Frame) (whole part : List Aim) → AreThinned whole part → AreAims book least start frames whole → AreAims book least start frames part
  thinned-right start frames whole part t r = record {
    each = λ n b i. r.each n b (t.each (n, b) i);
    all = λ n js a.
        let h = r.all n js a in
        let g = t.all n h.0 h.1 in
        (g.0, g.1, omega (arith, g.2, h.2));
  }

  pub thinned-same : (whole : List Aim) → AreThinned whole whole
  thinned-same whole = record { each = λ a i. i; all = λ n b i. (b, i, omega arith) }

  pub whole-right : (aims : List Aim) (most : ℕ) → AreLevels book least most (whole_levels book least aims)
  whole-right aims most q l = thinned-same (flat_map (stepped book least) (whole_levels book least aims q))

  -- a chain of pairs from a node to an aim
  pub record Leads (aims : List Aim) (q l b : ℕ) : Type 0 where
    pub nodes : List ℕ
    pub end : ℕ
    pub rest : ℕ
    pub aim : IsIn aims (end, rest)
    pub reached : Reaches book l nodes end
    pub many : length nodes ≡ q
    pub sum : b ≡ least_sum least nodes + rest

  module _ (most : ℕ) (levels : ℕ → List Aim) (steps : AreLevels book least most levels) where
    pub level-in : (l n b : ℕ) (ms : List ℕ) → length ms ≤ most → IsIn (levels 0) (n, b) → Reaches book l ms n → (c : ℕ) × IsIn (levels (length ms)) (l, c) × (c ≤ least_sum least ms + b)
    level-in l n b [] w i r = let P : ℕ → Type 0 = λ z. IsIn (levels 0) (z, b) in (b, subst P (sym r) i, omega arith)
    level-in l n b (m ∷ ms) w i r =
        let q = length ms in
        let h = level-in r.0 n b ms (omega (arith, w)) i r.2 in
        let t = least m + h.0 in
        let g = (steps q (omega (arith, w))).all l t
        (flat_map_in (stepped book least) (levels q) (l, t) (r.0, h.0) h.1
        (map-in (λ (p : ℕ × ℕ). (p.0, least p.1 + h.0)) (pairs_of (rules_at book r.0)) (l, m) (pair-in book r.0 l m r.1))) in
        (g.0, g.1, omega (arith, g.2, h.2))

    pub in-level : (q l b : ℕ) → q ≤ most → IsIn (levels q) (l, b) → Leads (levels 0) q l b
    in-level zero l b w i = record {
      nodes = [];
      end = l;
      rest = b;
      aim = i;
      reached = refl;
      many = refl;
      sum = omega arith;
    }
    in-level (suc q) l b w i =
        let r = in_flat_map (stepped book least) (levels q) (l, b) ((steps q (omega (arith, w))).each (l, b) i) in
        let a = r.0 in
        let s = in_map (λ (p : ℕ × ℕ). (p.0, least p.1 + a.1)) (pairs_of (rules_at book a.0)) (l, b) r.2 in
        let p = s.0 in
        let d = in-level q a.0 a.1 (omega (arith, w)) r.1 in
        let P : ℕ → Type 0 = λ z. NodeRule book a.0 (Any z p.1) in
        let e : least p.1 + a.1 ≡ b = ap (λ (z : Aim). z.1) s.2 in
        record {
          nodes = p.1 ∷ d.nodes;
          end = d.end;
          rest = d.rest;
          aim = d.aim;
          reached = (a.0, subst P (ap (λ (z : Aim). z.0) s.2) (in-pair book a.0 p s.1), d.reached);
          many = ap suc d.many;
          sum = omega (arith, e, d.sum);
        }

  -- a head rule begins
  module _ (x j : ℕ) (a : Aim) where
    abbrev counted : HeadRule → List (Place × ℕ)
    counted h = if nat_eq (length h.1) j then ((a.0, h.1), least_sum least h.1 + a.1) ∷ [] else []

    abbrev begun : HeadRule → List (Place × ℕ)
    begun h = if nat_eq h.0 x then counted h else []

    pub places-in : (ns : List ℕ) → NodeRule book a.0 (Head x ns) → length ns ≡ j → IsIn (places_with book least x j a) ((a.0, ns), least_sum least ns + a.1)
    places-in ns c e =
        let p : Place × ℕ = ((a.0, ns), least_sum least ns + a.1) in
        flat_map_in begun (heads_of (rules_at book a.0)) p (x, ns) (head-in book a.0 x ns c)
        (if-in (nat_eq x x) (counted (x, ns)) p (equal x x refl) (if-in (nat_eq (length ns) j) (p ∷ []) p (equal (length ns) j e) (inl refl)))

    pub in-places : (l b : ℕ) (ns : List ℕ) → IsIn (places_with book least x j a) ((l, ns), b) → (a.0 ≡ l) × NodeRule book l (Head x ns) × (length ns ≡ j) × (b ≡ least_sum least ns + a.1)
    in-places l b ns i =
        let p : Place × ℕ = ((l, ns), b) in
        let r = in_flat_map begun (heads_of (rules_at book a.0)) p i in
        let h = r.0 in
        let s = in-if (nat_eq h.0 x) (counted h) p r.2 in
        let t = in-if (nat_eq (length h.1) j) (((a.0, h.1), least_sum least h.1 + a.1) ∷ []) p s.1 in
        let e = only ((a.0, h.1), least_sum least h.1 + a.1) p t.1 in
        let q : h.1 ≡ ns = ap (λ (z : Place × ℕ). z.0.1) e in
        let f : a.0 ≡ l = ap (λ (z : Place × ℕ). z.0.0) e in
        let P : ℕ → Type 0 = λ z. NodeRule book a.0 (Head z h.1) in
        let Q : List ℕ → Type 0 = λ z. NodeRule book a.0 (Head x z) in
        let R : ℕ → Type 0 = λ z. NodeRule book z (Head x ns) in (
          f,
          subst R f (subst Q q (subst P (same h.0 x s.0) (in-head book a.0 h r.1))),
          ap (λ (z : List ℕ). length z) (sym q) ∙ same (length h.1) j t.0,
          sym (ap (λ (z : Place × ℕ). z.1) e) ∙ ap (λ (z : List ℕ). least_sum least z + a.1) q,
        )

  -- what is offered is offered by a head rule of a node of a level
  module _ (levels : ℕ → List Aim) (size x k : ℕ) where
    abbrev at_pairs : ℕ → List (Place × ℕ)
    at_pairs q = flat_map (places_with book least x (k - q)) (levels q)

    pub offers-by : Offers book least levels size x k → OffersBy book least levels size x k
    offers-by (p, b, i, l) =
        let r = in_over (k + 1) at_pairs (p, b) i in
        let q = r.0 in
        let s = in_flat_map (places_with book least x (k - q)) (levels q) (p, b) r.2 in
        let a = s.0 in
        let t = in-places x (k - q) a p.0 b p.1 s.2 in
        let P : ℕ → Type 0 = λ z. IsIn (levels q) (z, a.1) in
        record {
          pairs = q;
          node = p.0;
          behind = a.1;
          nodes = p.1;
          aim = subst P t.0 s.1;
          rule = t.1;
          count = omega (arith, t.2, r.1);
          small = omega (arith, t.3, l);
        }

    pub by-offers : OffersBy book least levels size x k → Offers book least levels size x k
    by-offers o =
        let q = o.pairs in
        let a : Aim = (o.node, o.behind) in
        let p : Place × ℕ = ((o.node, o.nodes), least_sum least o.nodes + o.behind) in
        let c : length o.nodes ≡ k - q = omega (arith, o.count) in
        let s : q < k + 1 = omega (arith, o.count) in (
          p.0,
          p.1,
          over_in (k + 1) at_pairs p q s (flat_map_in (places_with book least x (k - q)) (levels q) p a o.aim (places-in x (k - q) a o.nodes o.rule c)),
          o.small,
        )

  -- a place that is offered leads to an aim
  pub record IsOffer (aims : List Aim) (x k l b : ℕ) (ns : List ℕ) : Type 0 where
    pub nodes : List ℕ
    pub end : ℕ
    pub rest : ℕ
    pub rule : NodeRule book l (Head x ns)
    pub aim : IsIn aims (end, rest)
    pub reached : Reaches book l nodes end
    pub many : length (ns ++ nodes) ≡ k
    pub sum : b ≡ least_sum least (ns ++ nodes) + rest

  -- a term is begun
  module _ (most : ℕ) (levels : ℕ → List Aim) (steps : AreLevels book least most levels) (x k : ℕ) (fits : k ≤ most) where
    abbrev by_pairs : ℕ → List (Place × ℕ)
    by_pairs q = flat_map (places_with book least x (k - q)) (levels q)

    pub opened-in : (l n b : ℕ) (ns ms : List ℕ) → IsIn (levels 0) (n, b) → NodeRule book l (Head x ns) → Reaches book l ms n → length (ns ++ ms) ≡ k → (c : ℕ) × IsIn (opened_with book least levels x k) ((l, ns), c) × (c ≤ least_sum least (ns ++ ms) + b)
    opened-in l n b ns ms i c r e =
        let q = length ms in
        let f : length ns ≡ k - q = omega (arith, e, length-append ns ms) in
        let s : q < k + 1 = omega (arith, e, length-append ns ms) in
        let h = level-in most levels steps l n b ms (omega (arith, s, fits)) i r in
        let t = least_sum least ns + h.0 in
        let p : Place × ℕ = ((l, ns), t) in (
          t,
          over_in (k + 1) by_pairs p q s (flat_map_in (places_with book least x (k - q)) (levels q) p (l, h.0) h.1 (places-in x (k - q) (l, h.0) ns c f)),
          omega (arith, h.2, sum-append least ns ms),
        )

    pub in-opened : (l b : ℕ) (ns : List ℕ) → IsIn (opened_with book least levels x k) ((l, ns), b) → IsOffer (levels 0) x k l b ns
    in-opened l b ns i =
        let r = in_over (k + 1) by_pairs ((l, ns), b) i in
        let q = r.0 in
        let s = in_flat_map (places_with book least x (k - q)) (levels q) ((l, ns), b) r.2 in
        let a = s.0 in
        let t = in-places x (k - q) a l b ns s.2 in
        let d = in-level most levels steps q a.0 a.1 (omega (arith, r.1, fits)) s.1 in
        let P : ℕ → Type 0 = λ z. Reaches book z d.nodes d.end in
        record {
          nodes = d.nodes;
          end = d.end;
          rest = d.rest;
          rule = t.1;
          aim = d.aim;
          reached = subst P t.0 d.reached;
          many = omega (arith, t.2, d.many, r.1, length-append ns d.nodes);
          sum = omega (arith, t.3, d.sum, sum-append least ns d.nodes);
        }

  module _ (start : ℕ) (frames : List Frame) (most : ℕ) (levels : ℕ → List Aim) (steps : AreLevels book least most levels) (right : AreAims book least start frames (levels 0)) where
    -- the places that are offered within a size are enough
    pub offered-right : (size x k : ℕ) (places : List Place) → k ≤ most → AreOffered book least levels size x k places → IsOpened book (Awaits book start frames) (λ ns. least_sum least ns ≤ size) x k (record { places = places; left = k })
    offered-right size x k places fits o = record {
      count = refl;
      each = λ l ns i. (let e = o.each (l, ns) i in (in-opened most levels steps x k fits l e.0 ns e.1).rule);
      all = λ n l ns ms js b c r e kept.
          let a = right.all n js b in
          let g = opened-in most levels steps x k fits l n a.0 ns ms a.1 c r e in
          o.all (l, ns) g.0 g.1 (omega (arith, kept, g.2, a.2, sum-append least (ns ++ ms) js));
    }

    -- and each of them can be completed within what it comes to: no opening is a dead end
    pub offer-completable : (f : Frame) (x k l b : ℕ) (ns : List ℕ) → k ≤ most → f.left ≡ k → IsIn f.places (l, ns) → IsIn (opened_with book least levels x k) ((l, ns), b) → IsCompletable book least start (f ∷ frames) b
    offer-completable f x k l b ns fits c p i =
        let o = in-opened most levels steps x k fits l b ns i in
        let a = right.each o.end o.rest o.aim in
        let own = ns ++ o.nodes in (
          own ++ a.0,
          record {
            node = o.end;
            own = own;
            others = a.0;
            makes = record {
              node = l;
              rest = ns;
              more = o.nodes;
              place = p;
              reached = o.reached;
              awaited = refl;
              counted = o.many ∙ sym c;
            };
            below = a.1;
            both = refl;
          },
          omega (arith, o.sum, a.2, sum-append least own a.0),
        )

  -- the aims of no frame
  pub start-aims : (start : ℕ) → AreAims book least start [] (start_aims start)
  start-aims start = record {
    each = λ n b i.
        let e = only (start, 0) (n, b) i in (
          [],
          ap (λ (z : Aim). z.0 ∷ []) (sym e),
          omega arith,
        );
    all = λ n js a. (0, inl (λ i. (sym (first-same n start js [] a) i, 0)), omega arith);
  }

  -- the aims of a frame on others
  module _ (start : ℕ) (f : Frame) (frames : List Frame) (most : ℕ) (levels : ℕ → List Aim) (steps : AreLevels book least most levels) (right : AreAims book least start frames (levels 0)) (asking : 1 ≤ f.left) (fits : f.left ≤ most + 1) where
    abbrev passed : ℕ → ℕ → List ℕ → Aim → List Aim
    passed l m rest a = if nat_eq a.0 l then (m, least_sum least rest + a.1) ∷ [] else []

    abbrev paired : ℕ → Aim → ℕ × ℕ → List Aim
    paired l a p = if nat_eq p.0 l then (p.1, a.1) ∷ [] else []

    -- what is awaited by a place, a chain of pairs and an aim
    behind-place : (l n : ℕ) (own rest more : List ℕ) (e c : ℕ) → IsIn f.places (l, rest) → Reaches book l more e → n ∷ own ≡ rest ++ more → length (n ∷ own) ≡ f.left → IsIn (levels 0) (e, c) → (js : List ℕ) × Awaits book start (f ∷ frames) (n ∷ js) × (least_sum least js ≤ least_sum least own + c)
    behind-place l n own rest more e c p r a m i =
        let b = right.each e c i in (
          own ++ b.0,
          record {
            node = e;
            own = n ∷ own;
            others = b.0;
            makes = record {
              node = l;
              rest = rest;
              more = more;
              place = p;
              reached = r;
              awaited = a;
              counted = m;
            };
            below = b.1;
            both = refl;
          },
          omega (arith, b.2, sum-append least own b.0),
        )

    abbrev Behind : ℕ → ℕ → Type 0
    Behind n b = (js : List ℕ) × Awaits book start (f ∷ frames) (n ∷ js) × (least_sum least js ≤ b)

    in-passed : (l m n b : ℕ) (rest : List ℕ) (t : Bool) → nat_le (length rest + 1) f.left ≡ t → IsIn f.places (l, m ∷ rest) → IsIn (if t then flat_map (passed l m rest) (levels (f.left - (length rest + 1))) else []) (n, b) → Behind n b
    in-passed l m n b rest true u p i =
        let q = f.left - (length rest + 1) in
        let within : length rest + 1 ≤ f.left = grind (arith, nat_tests) in
        let r = in_flat_map (passed l m rest) (levels q) (n, b) i in
        let a = r.0 in
        let s = in-if (nat_eq a.0 l) ((m, least_sum least rest + a.1) ∷ []) (n, b) r.2 in
        let e = only (m, least_sum least rest + a.1) (n, b) s.1 in
        let d = in-level most levels steps q a.0 a.1 (omega (arith, within, fits)) r.1 in
        let P : ℕ → Type 0 = λ z. Reaches book z d.nodes d.end in
        let many : length (m ∷ (rest ++ d.nodes)) ≡ f.left = omega (arith, within, d.many, length-append rest d.nodes) in
        let h = behind-place l m (rest ++ d.nodes) (m ∷ rest) d.nodes d.end d.rest p (subst P (same a.0 l s.0) d.reached) refl many d.aim in
        let Q : ℕ → Type 0 = λ z. Awaits book start (f ∷ frames) (z ∷ h.0) in
        let t : least_sum least rest + a.1 ≡ b = ap (λ (z : Aim). z.1) e in
        (h.0, subst Q (ap (λ (z : Aim). z.0) e) h.1, omega (arith, h.2, t, d.sum, sum-append least rest d.nodes))
    in-passed l m n b rest false u p i = absurd i

    in-paired : (l n b : ℕ) → IsIn f.places (l, []) → IsIn (flat_map (aimed_by book least l) (levels (f.left - 1))) (n, b) → Behind n b
    in-paired l n b p i =
        let r = in_flat_map (aimed_by book least l) (levels (f.left - 1)) (n, b) i in
        let a = r.0 in
        let s = in_flat_map (paired l a) (pairs_of (rules_at book a.0)) (n, b) r.2 in
        let k = s.0 in
        let u = in-if (nat_eq k.0 l) ((k.1, a.1) ∷ []) (n, b) s.2 in
        let e = only (k.1, a.1) (n, b) u.1 in
        let d = in-level most levels steps (f.left - 1) a.0 a.1 (omega (arith, asking, fits)) r.1 in
        let P : ℕ → Type 0 = λ z. NodeRule book a.0 (Any z k.1) in
        let rule = subst P (same k.0 l u.0) (in-pair book a.0 k s.1) in
        let many : length (k.1 ∷ d.nodes) ≡ f.left = omega (arith, asking, d.many) in
        let h = behind-place l k.1 d.nodes [] (k.1 ∷ d.nodes) d.end d.rest p (a.0, rule, d.reached) refl many d.aim in
        let Q : ℕ → Type 0 = λ z. Awaits book start (f ∷ frames) (z ∷ h.0) in
        let t : a.1 ≡ b = ap (λ (z : Aim). z.1) e in
        (h.0, subst Q (ap (λ (z : Aim). z.0) e) h.1, omega (arith, h.2, t, d.sum))

    in-aims : (p : Place) (n b : ℕ) → IsIn f.places p → IsIn (aims_at book least levels f.left p) (n, b) → Behind n b
    in-aims (l, []) n b p i = in-paired l n b p i
    in-aims (l, m ∷ rest) n b p i = in-passed l m n b rest (nat_le (length rest + 1) f.left) refl p i

    abbrev AimsAt : Place → ℕ → ℕ → Type 0
    AimsAt p n b = (c : ℕ) × IsIn (aims_at book least levels f.left p) (n, c) × (c ≤ b)

    aims-in : (n l e c : ℕ) (own rest more : List ℕ) → IsIn (levels 0) (e, c) → Reaches book l more e → n ∷ own ≡ rest ++ more → length (n ∷ own) ≡ f.left → AimsAt (l, rest) n (least_sum least own + c)
    aims-in n l e c own [] [] i r p m = absurd (cc)
    aims-in n l e c own [] (j ∷ more) i r p m =
        let o : own ≡ more = rest-same n j own more p in
        let z : length own ≡ length more = ap (λ (zs : List ℕ). length zs) o in
        let q : length more ≡ f.left - 1 = omega (arith, m, z) in
        let h = level-in most levels steps r.0 e c more (omega (arith, m, z, fits)) i r.2 in
        let t = h.0 in
        let L : ℕ → Type 0 = λ y. IsIn (levels y) (r.0, t) in
        let P : ℕ → Type 0 = λ y. IsIn (aims_at book least levels f.left (l, [])) (y, t) in
        let w : least_sum least own ≡ least_sum least more = ap (least_sum least) o in (
          t,
          subst P (sym (first-same n j own more p))
              (flat_map_in (aimed_by book least l) (levels (f.left - 1)) (j, t) (r.0, t) (subst L q h.1)
              (flat_map_in (paired l (r.0, t)) (pairs_of (rules_at book r.0)) (j, t) (l, j) (pair-in book r.0 l j r.1) (if-in (nat_eq l l) ((j, t) ∷ []) (j, t) (equal l l refl) (inl refl)))),
          omega (arith, h.2, w),
        )
    aims-in n l e c own (j ∷ rest) more i r p m =
        let o : own ≡ rest ++ more = rest-same n j own (rest ++ more) p in
        let z : length own ≡ length (rest ++ more) = ap (λ (zs : List ℕ). length zs) o in
        let q : length more ≡ f.left - (length rest + 1) = omega (arith, m, z, length-append rest more) in
        let within : length rest + 1 ≤ f.left = omega (arith, m, z, length-append rest more) in
        let h = level-in most levels steps l e c more (omega (arith, m, z, fits, length-append rest more)) i r in
        let t = least_sum least rest + h.0 in
        let L : ℕ → Type 0 = λ y. IsIn (levels y) (l, h.0) in
        let P : ℕ → Type 0 = λ y. IsIn (aims_at book least levels f.left (l, j ∷ rest)) (y, t) in
        let w : least_sum least own ≡ least_sum least (rest ++ more) = ap (least_sum least) o in (
          t,
          subst P (sym (first-same n j own (rest ++ more) p))
              (if-in (nat_le (length rest + 1) f.left) (flat_map (passed l j rest) (levels (f.left - (length rest + 1)))) (j, t) (grind (arith, nat_tests))
              (flat_map_in (passed l j rest) (levels (f.left - (length rest + 1))) (j, t) (l, h.0) (subst L q h.1)
              (if-in (nat_eq l l) ((j, t) ∷ []) (j, t) (equal l l refl) (inl refl)))),
          omega (arith, h.2, w, sum-append least rest more),
        )

    own-in : (n : ℕ) (js own others : List ℕ) (e : ℕ) → Makes book f e own → Awaits book start frames (e ∷ others) → n ∷ js ≡ own ++ others → (b : ℕ) × IsIn (next_aims book least levels f) (n, b) × (b ≤ least_sum least js)
    own-in n js [] others e k a p = absurd (omega (arith, asking, k.counted))
    own-in n js (j ∷ own) others e k a p =
        let h = right.all e others a in
        let o : least_sum least js ≡ least_sum least (own ++ others) = ap (least_sum least) (rest-same n j js (own ++ others) p) in
        let g = aims-in j k.node e h.0 own k.rest k.more h.1 k.reached k.awaited k.counted in
        let i = flat_map_in (aims_at book least levels f.left) f.places (j, g.0) (k.node, k.rest) k.place g.1 in
        let P : ℕ → Type 0 = λ z. IsIn (next_aims book least levels f) (z, g.0) in
        (g.0, subst P (sym (first-same n j js (own ++ others) p)) i, omega (arith, o, h.2, g.2, sum-append least own others))

    pub next-right : AreAims book least start (f ∷ frames) (next_aims book least levels f)
    next-right = record {
      each = λ n b i. (let r = in_flat_map (aims_at book least levels f.left) f.places (n, b) i in in-aims r.0 n b r.1 r.2);
      all = λ n js a. own-in n js a.own a.others a.node a.makes a.below a.both;
    }
