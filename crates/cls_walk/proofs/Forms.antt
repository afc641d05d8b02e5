-- The codes of a node's terms begin as its forms say.
use Rattle.std.proofs.Common.{◌≡◌, ℕ, suc, ◌+◌, List, [], ◌∷◌, ◌++◌, length, refl, sym, ap, ◌∙◌, subst, arith, append-nil, length-append}
use Rattle.cls_base.specs.Terms.{Applicative, component, apply, head_of, argument_count, argument_codes, code_of}
use Rattle.cls_base.specs.Spines.{spine, codes_of}
use Rattle.cls_base.specs.declared.rule.Rule.{Rule}
use Rattle.cls_base.specs.Languages.{NodeRule, IsGenerated, Applies, done, next, by_head, by_any}
use Rattle.cls_term.proofs.Spines.{code_of-spine, codes_of-append}
use Rattle.cls_walk.specs.Forms.{HasForm, headed, applied, AreOf, Fills}

-- parts of a code
first_same : (x y k m : ℕ) (v w : List ℕ) → x ∷ k ∷ v ≡ y ∷ m ∷ w → x ≡ y
first_same x y k m v w p = cc

second_same : (x y k m : ℕ) (v w : List ℕ) → x ∷ k ∷ v ≡ y ∷ m ∷ w → k ≡ m
second_same x y k m v w p = cc

rest_same : (x y k m : ℕ) (v w : List ℕ) → x ∷ k ∷ v ≡ y ∷ m ∷ w → v ≡ w
rest_same x y k m v w p = cc

module _ (book : List (List (Rule ℕ))) where
  pub as_many : (ns : List ℕ) (es : List Applicative) → AreOf book ns es → length ns ≡ length es
  as_many [] [] h = refl
  as_many [] (e ∷ es) h = absurd h
  as_many (n ∷ ns) [] h = absurd h
  as_many (n ∷ ns) (e ∷ es) h = ap suc (as_many ns es h.1)

  pub of-append : (ns ms : List ℕ) (es fs : List Applicative) → AreOf book ns es → AreOf book ms fs → AreOf book (ns ++ ms) (es ++ fs)
  of-append [] ms [] fs h k = k
  of-append [] ms (e ∷ es) fs h k = absurd h
  of-append (n ∷ ns) ms [] fs h k = absurd h
  of-append (n ∷ ns) ms (e ∷ es) fs h k = (h.0, of-append ns ms es fs h.1 k)

  pub of-split : (ns ms : List ℕ) (es : List Applicative) → AreOf book (ns ++ ms) es → (fs : List Applicative) × (gs : List Applicative) × (es ≡ fs ++ gs) × AreOf book ns fs × AreOf book ms gs
  of-split [] ms es h = ([], es, refl, tt, h)
  of-split (n ∷ ns) ms [] h = absurd h
  of-split (n ∷ ns) ms (e ∷ es) h = let r = of-split ns ms es h.1 in (e ∷ r.0, r.1, ap (λ (xs : List Applicative). e ∷ xs) r.2, (h.0, r.3), r.4)

  of-one : (m : ℕ) (es : List Applicative) → AreOf book (m ∷ []) es → (a : Applicative) × (es ≡ a ∷ []) × IsGenerated book m a
  of-one m [] h = absurd h
  of-one m (a ∷ []) h = (a, refl, h.0)
  of-one m (a ∷ b ∷ es) h = absurd h.1

  -- arguments in turn, and the spine of them
  spread : (f : Applicative) (ns : List ℕ) (e : Applicative) → Applies ℕ (NodeRule book) f ns e → (es : List Applicative) × AreOf book ns es × (e ≡ spine f es)
  spread f _ _ done = ([], tt, refl)
  spread f _ e (next {a = a} {n = n} {ns = ns} g h) = let r = spread (apply f a) ns e h in (a ∷ r.0, (g, r.1), r.2)

  gathered : (ns : List ℕ) (es : List Applicative) (f : Applicative) → AreOf book ns es → Applies ℕ (NodeRule book) f ns (spine f es)
  gathered [] [] f h = done
  gathered [] (e ∷ es) f h = absurd h
  gathered (n ∷ ns) [] f h = absurd h
  gathered (n ∷ ns) (e ∷ es) f h = next h.0 (gathered ns es (apply f e) h.1)

  -- a term of the node has one of its forms
  pub formed : (n : ℕ) (e : Applicative) → IsGenerated book n e → (x : ℕ) × (ns : List ℕ) × (es : List Applicative) × HasForm book n x ns × AreOf book ns es × (code_of e ≡ x ∷ length ns ∷ codes_of es)
  formed n e (by_head {x = x} {ns = ns} c h) =
      let r = spread (component x) ns e h in (
        x,
        ns,
        r.0,
        headed c,
        r.1,
        ap code_of r.2 ∙ code_of-spine x r.0 ∙ ap (λ (k : ℕ). x ∷ k ∷ codes_of r.0) (sym (as_many ns r.0 r.1)),
      )
  formed n _ (by_any {l = l} {m = m} {f = f} {a = a} c g h) =
      let r = formed l f g in
      let x = r.0 in
      let ns = r.1 in
      let es = r.2 in
      let p : head_of f ≡ x = first_same (head_of f) x (argument_count f) (length ns) (argument_codes f) (codes_of es) r.5 in
      let q : argument_count f ≡ length ns = second_same (head_of f) x (argument_count f) (length ns) (argument_codes f) (codes_of es) r.5 in
      let s : argument_codes f ≡ codes_of es = rest_same (head_of f) x (argument_count f) (length ns) (argument_codes f) (codes_of es) r.5 in
      let k : argument_count f + 1 ≡ length (ns ++ m ∷ []) = omega (arith, q, length-append ns (m ∷ [])) in
      let t : argument_codes f ++ code_of a ≡ codes_of (es ++ a ∷ []) = ap (λ (w : List ℕ). w ++ code_of a) s ∙ ap (λ (w : List ℕ). codes_of es ++ w) (sym (append-nil (code_of a))) ∙ sym (codes_of-append es (a ∷ [])) in (
        x,
        ns ++ m ∷ [],
        es ++ a ∷ [],
        applied c r.3 refl,
        of-append ns (m ∷ []) es (a ∷ []) r.4 (h, tt),
        (λ i. p i ∷ k i ∷ t i),
      )

  -- and the other way round
  pub unformed : (n x : ℕ) (ns : List ℕ) (es : List Applicative) → HasForm book n x ns → AreOf book ns es → (e : Applicative) × IsGenerated book n e × (code_of e ≡ x ∷ length ns ∷ codes_of es)
  unformed n x ns es (headed c) h = (
    spine (component x) es,
    by_head c (gathered ns es (component x) h),
    code_of-spine x es ∙ ap (λ (k : ℕ). x ∷ k ∷ codes_of es) (sym (as_many ns es h)),
  )
  unformed n x ks es (applied {l = l} {m = m} {ns = ns} c f p) h =
      let P : List ℕ → Type 0 = λ js. AreOf book js es in
      let r = of-split ns (m ∷ []) es (subst P p h) in
      let o = of-one m r.1 r.4 in
      let a = o.0 in
      let u = unformed l x ns r.0 f r.3 in
      let e = u.0 in
      let d : head_of e ≡ x = first_same (head_of e) x (argument_count e) (length ns) (argument_codes e) (codes_of r.0) u.2 in
      let q : argument_count e ≡ length ns = second_same (head_of e) x (argument_count e) (length ns) (argument_codes e) (codes_of r.0) u.2 in
      let s : argument_codes e ≡ codes_of r.0 = rest_same (head_of e) x (argument_count e) (length ns) (argument_codes e) (codes_of r.0) u.2 in
      let k : argument_count e + 1 ≡ length ks = omega (arith, q, length-append ns (m ∷ []), ap (λ (js : List ℕ). length js) p) in
      let z : es ≡ r.0 ++ a ∷ [] = r.2 ∙ ap (λ (xs : List Applicative). r.0 ++ xs) o.1 in
      let t : argument_codes e ++ code_of a ≡ codes_of es = ap (λ (w : List ℕ). w ++ code_of a) s ∙ ap (λ (w : List ℕ). codes_of r.0 ++ w) (sym (append-nil (code_of a))) ∙ sym (codes_of-append r.0 (a ∷ [])) ∙ ap codes_of (sym z) in (
        apply e a,
        by_any c u.1 o.2,
        (λ i. d i ∷ k i ∷ t i),
      )

  -- what fills a node and further ones begins with a form of the node
  pub fills-first : (n : ℕ) (ms w : List ℕ) → Fills book (n ∷ ms) w → (x : ℕ) × (ns : List ℕ) × (v : List ℕ) × HasForm book n x ns × (w ≡ x ∷ length ns ∷ v) × Fills book (ns ++ ms) v
  fills-first n ms w ([], h, p) = absurd h
  fills-first n ms w (e ∷ es, h, p) =
      let r = formed n e h.0 in
      let ns = r.1 in
      let es0 = r.2 in (
        r.0,
        ns,
        codes_of es0 ++ codes_of es,
        r.3,
        p ∙ ap (λ (u : List ℕ). u ++ codes_of es) r.5,
        (es0 ++ es, of-append ns ms es0 es r.4 h.1, sym (codes_of-append es0 es)),
      )

  pub first-fills : (n x : ℕ) (ns ms v : List ℕ) → HasForm book n x ns → Fills book (ns ++ ms) v → Fills book (n ∷ ms) (x ∷ length ns ∷ v)
  first-fills n x ns ms v f h =
      let r = of-split ns ms h.0 h.1 in
      let u = unformed n x ns r.0 f r.3 in (
        u.0 ∷ r.1,
        (u.1, r.4),
        ap (λ (z : List ℕ). x ∷ length ns ∷ z) (h.2 ∙ ap codes_of r.2 ∙ codes_of-append r.0 r.1) ∙ sym (ap (λ (z : List ℕ). z ++ codes_of r.1) u.2),
      )

  -- where no node is left, nothing follows
  pub none-fills : (w : List ℕ) → Fills book [] w → w ≡ []
  none-fills w ([], h, p) = p
  none-fills w (e ∷ es, h, p) = absurd h

  -- what fills one node is the code of a term of it
  pub one-fills : (n : ℕ) (w : List ℕ) → Fills book (n ∷ []) w → (e : Applicative) × IsGenerated book n e × (w ≡ code_of e)
  one-fills n w h = let o = of-one n h.0 h.1 in (o.0, o.2, h.2 ∙ ap codes_of o.1 ∙ append-nil (code_of o.0))

  pub fills-one : (n : ℕ) (e : Applicative) → IsGenerated book n e → Fills book (n ∷ []) (code_of e)
  fills-one n e g = (e ∷ [], (g, tt), sym (append-nil (code_of e)))
