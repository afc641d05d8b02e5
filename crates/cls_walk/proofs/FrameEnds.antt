-- Where a walk over frames begins and ends, and that what isn't pruned can be completed.
use Rattle.std.proofs.Common.{◌≡◌, ℕ, zero, suc, ◌+◌, ◌≤◌, List, [], ◌∷◌, ◌++◌, length, refl, sym, ap, ◌∙◌, subst, inl, inr, arith, append_assoc, append-nil}
use Rattle.std.specs.Prelude.{◌↔◌}
use Rattle.cls_base.specs.Terms.{Applicative, component, apply, length_of, size_of, head_of, argument_codes, code_of}
use Rattle.cls_base.specs.Spines.{sizes_of, codes_of}
use Rattle.cls_base.specs.declared.rule.Rule.{Rule}
use Rattle.cls_base.specs.declared.rule.Rule.TheVariants.{Head}
use Rattle.cls_base.specs.Languages.{IsGenerated, NodeRule, by_any}
use Rattle.cls_term.proofs.Codes.{length-code_of}
use Rattle.cls_walk.specs.Filled.{code_size}
use Rattle.cls_walk.specs.Forms.{headed, AreOf, Fills}
use Rattle.cls_walk.specs.Frames.{Frame, Awaits, IsComplete, IsAsking, FilledBy, ListsBy, least_sum, AreMet, AreTight, IsCompletable}
use Rattle.cls_walk.proofs.Frames.{first-same, rest-same, made-none, made-whole}
use Rattle.cls_walk.proofs.Forms.{unformed, fills-first, none-fills, one-fills, fills-one}

-- a term's code has its size
arguments-size : (cost : ℕ → ℕ) (e : Applicative) (w : List ℕ) → cost (head_of e) + code_size cost (argument_codes e ++ w) ≡ size_of cost e + code_size cost w
arguments-size cost (component x) w = refl
arguments-size cost (apply f a) w =
    let p : code_size cost ((argument_codes f ++ code_of a) ++ w) ≡ code_size cost (argument_codes f ++ (code_of a ++ w)) = ap (code_size cost) (append_assoc (argument_codes f) (code_of a) w) in
    omega (arith, p, arguments-size cost f (code_of a ++ w), arguments-size cost a w)

codes-size : (cost : ℕ → ℕ) (es : List Applicative) → code_size cost (codes_of es) ≡ sizes_of cost es
codes-size cost [] = refl
codes-size cost (e ∷ es) = omega (arith, arguments-size cost e (codes_of es), codes-size cost es)

one-size : (cost : ℕ → ℕ) (e : Applicative) → code_size cost (code_of e) ≡ size_of cost e
one-size cost e =
    let p : code_size cost (code_of e) ≡ code_size cost (code_of e ++ []) = ap (code_size cost) (sym (append-nil (code_of e))) in
    omega (arith, p, arguments-size cost e [])

-- where arguments are to come, nodes are awaited
one-own : (ns own others : List ℕ) → 1 ≤ length own → ns ≡ own ++ others → (n : ℕ) × (js : List ℕ) × (ns ≡ n ∷ js)
one-own ns [] others l p = absurd (omega (arith, l))
one-own ns (n ∷ own) others l p = (n, own ++ others, p)

pub awaits-one : (book : List (List (Rule ℕ))) (start : ℕ) (frames : List Frame) (ns : List ℕ) → IsAsking frames → Awaits book start frames ns → (n : ℕ) × (js : List ℕ) × (ns ≡ n ∷ js)
awaits-one book start [] ns l a = (start, [], a)
awaits-one book start (f ∷ fs) ns l a =
    let m = a.makes in
    one-own ns a.own a.others (omega (arith, l, m.counted)) a.both

module _ (book : List (List (Rule ℕ))) (cost : ℕ → ℕ) where
  -- with no frame, the codes of the terms of the start are listed
  pub lists-start : (start size room : ℕ) (w : List ℕ) → ListsBy book cost start [] size room w → (e : Applicative) × IsGenerated book start e × (size_of cost e ≡ size) × (length_of e ≤ room) × (w ≡ code_of e)
  lists-start start size room w l =
      let f = l.filled in
      let P : List ℕ → Type 0 = λ ns. Fills book ns w in
      let r = one-fills book start w (subst P f.1 f.2) in
      let e = r.0 in
      let p : code_size cost w ≡ code_size cost (code_of e) = ap (code_size cost) r.2 in
      let q : length w ≡ length (code_of e) = ap (λ (zs : List ℕ). length zs) r.2 in
      (e, r.1, sym (one-size cost e) ∙ sym p ∙ l.sized, omega (arith, q, length-code_of e, l.short), r.2)

  pub start-lists : (start size room : ℕ) (e : Applicative) → IsGenerated book start e → size_of cost e ≡ size → length_of e ≤ room → ListsBy book cost start [] size room (code_of e)
  start-lists start size room e g s l = record {
    filled = (start ∷ [], refl, fills-one book start e g);
    sized = one-size cost e ∙ s;
    short = omega (arith, l, length-code_of e);
  }

  -- the outermost frame, where it is whole: nothing more is awaited, if it is a term of the start
  module _ (start size room : ℕ) (f : Frame) (ended : f.left ≡ 0) where
    lists-ended : (w : List ℕ) → ListsBy book cost start (f ∷ []) size room w → (w ≡ []) × (size ≡ 0) × IsComplete f start
    lists-ended w l =
        let g = l.filled in
        let a = g.1 in
        let none : a.others ≡ [] = rest-same a.node start a.others [] a.below in
        let e : g.0 ≡ [] = a.both ∙ (λ i. made-none book f ended a.node a.own a.makes i ++ none i) in
        let P : List ℕ → Type 0 = λ ns. Fills book ns w in
        let p : w ≡ [] = none-fills book w (subst P e g.2) in
        let Q : ℕ → Type 0 = λ n. IsComplete f n in
        (p, sym l.sized ∙ ap (code_size cost) p, subst Q (first-same a.node start a.others [] a.below) (made-whole book f ended a.node a.own a.makes))

    ended-lists : (w : List ℕ) → (w ≡ []) × (size ≡ 0) × IsComplete f start → ListsBy book cost start (f ∷ []) size room w
    ended-lists w (p, z, c) = record {
      filled = (
        [],
        record {
          node = start;
          own = [];
          others = [];
          makes = record {
            node = start;
            rest = [];
            more = [];
            place = c;
            reached = refl;
            awaited = refl;
            counted = sym ended;
          };
          below = refl;
          both = refl;
        },
        ([], tt, p),
      );
      sized = ap (code_size cost) p ∙ sym z;
      short = (let q : length w ≡ 0 = ap (λ (zs : List ℕ). length zs) p in omega (arith, q));
    }

    pub lists-whole : (w : List ℕ) → ListsBy book cost start (f ∷ []) size room w ↔ ((w ≡ []) × (size ≡ 0) × IsComplete f start)
    lists-whole w = (lists-ended w, ended-lists w)

  -- where arguments are to come, a code follows
  pub lists-begins : (start size room : ℕ) (frames : List Frame) (w : List ℕ) → IsAsking frames → ListsBy book cost start frames size room w → (x : ℕ) × (k : ℕ) × (v : List ℕ) × (w ≡ x ∷ k ∷ v) × (cost x ≤ size) × (1 ≤ room)
  lists-begins start size room frames w a l =
      let g = l.filled in
      let s = awaits-one book start frames g.0 a g.1 in
      let P : List ℕ → Type 0 = λ ns. Fills book ns w in
      let r = fills-first book s.0 s.1 w (subst P s.2 g.2) in
      let x = r.0 in
      let k = length r.1 in
      let v = r.2 in
      let c : code_size cost w ≡ cost x + code_size cost v = ap (code_size cost) r.4 in
      let d : length w ≡ length (x ∷ k ∷ v) = ap (λ (zs : List ℕ). length zs) r.4 in
      (x, k, v, r.4, omega (arith, c, l.sized), omega (arith, d, l.short))

  module _ (least : ℕ → ℕ) (size : ℕ) (met : AreMet book least cost size) where
    met-terms : (ns : List ℕ) → least_sum least ns ≤ size → (es : List Applicative) × AreOf book ns es × (sizes_of cost es ≤ least_sum least ns)
    met-terms [] l = ([], tt, omega arith)
    met-terms (n ∷ ns) l =
        let a = met n (omega (arith, l)) in
        let r = met-terms ns (omega (arith, l)) in
        (a.0 ∷ r.0, (a.1, r.1), omega (arith, a.2, r.2))

    -- what can be completed is completed by terms of the size at most
    pub completable-lists : (start : ℕ) (frames : List Frame) → IsCompletable book least start frames size → (w : List ℕ) × FilledBy book start frames w × (code_size cost w ≤ size)
    completable-lists start frames (ns, a, l) =
        let r = met-terms ns l in
        (codes_of r.0, (ns, a, (r.0, r.1, refl)), omega (arith, codes-size cost r.0, r.2, l))

-- least sizes that rules come to are met
module _ (book : List (List (Rule ℕ))) (least cost : ℕ → ℕ) (s : ℕ) (positive : (x : ℕ) → 1 ≤ cost x) (some : (n : ℕ) → 1 ≤ least n) (tight : AreTight book least cost s) where
  abbrev Small : ℕ → Type 0
  Small n = (e : Applicative) × IsGenerated book n e × (size_of cost e ≤ least n)

  small-terms : (t : ℕ) → ((n : ℕ) → least n ≤ t → least n ≤ s → Small n) → (ns : List ℕ) → least_sum least ns ≤ t → least_sum least ns ≤ s → (es : List Applicative) × AreOf book ns es × (sizes_of cost es ≤ least_sum least ns)
  small-terms t f [] l m = ([], tt, omega arith)
  small-terms t f (n ∷ ns) l m =
      let a = f n (omega (arith, l)) (omega (arith, m)) in
      let r = small-terms t f ns (omega (arith, l)) (omega (arith, m)) in
      (a.0 ∷ r.0, (a.1, r.1), omega (arith, a.2, r.2))

  small-head : (t n x : ℕ) (ns : List ℕ) → ((k : ℕ) → least k ≤ t → least k ≤ s → Small k) → NodeRule book n (Head x ns) → cost x + least_sum least ns ≤ least n → least n ≤ suc t → least n ≤ s → Small n
  small-head t n x ns f c q l m =
      let r = small-terms t f ns (omega (arith, positive x, q, l)) (omega (arith, q, m)) in
      let u = unformed book n x ns r.0 (headed c) r.1 in
      let e : code_size cost (code_of u.0) ≡ cost x + code_size cost (codes_of r.0) = ap (code_size cost) u.2 in
      (u.0, u.1, omega (arith, e, one-size cost u.0, codes-size cost r.0, r.2, q))

  small-within : (t n : ℕ) → least n ≤ t → least n ≤ s → Small n
  small-within zero n l m = absurd (omega (arith, l, some n))
  small-within (suc t) n l m = elim (tight n m) [
    | inl h ↦ small-head t n h.0 h.1 (small-within t) h.2 h.3 l m
    | inr h ↦
        let q = h.3 in
        let a = small-within t h.0 (omega (arith, q, l, some h.1)) (omega (arith, q, m)) in
        let b = small-within t h.1 (omega (arith, q, l, some h.0)) (omega (arith, q, m)) in
        (apply a.0 b.0, by_any h.2 a.1 b.1, omega (arith, a.2, b.2, q))
  ]

  pub tight-met : AreMet book least cost s
  tight-met n m = small-within (least n) n (omega arith) m
