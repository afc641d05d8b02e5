-- What is offered by the aims of frames is what their listing goes on with.
use Rattle.std.proofs.Common.{◌≡◌, ℕ, suc, ◌+◌, ◌*◌, ◌≤◌, List, [], ◌∷◌, ◌++◌, length, refl, sym, ap, ◌∙◌, subst, arith, length-append}
use Rattle.std.specs.Prelude.{◌↔◌}
use Rattle.cls_base.specs.declared.rule.Rule.{Rule}
use Rattle.cls_enum.specs.Members.{IsIn}
use Rattle.cls_walk.specs.Filled.{code_size}
use Rattle.cls_walk.specs.Forms.{HasForm, Fills}
use Rattle.cls_walk.specs.Frames.{Place, Frame, Awaits, IsAsking, await_count, FilledBy, ListsBy, least_sum, AreLeastSizes, AreMet, IsCompletable}
use Rattle.cls_walk.specs.FrameAims.{Aim, AreAims, AreLevels, Offers, AreOffered}
use Rattle.cls_walk.proofs.Forms.{fills-first, none-fills}
use Rattle.cls_walk.proofs.Frames.{none-same, headed-by, opening-from}
use Rattle.cls_walk.proofs.FrameAims.{opened-in, offered-right, offer-completable}
use Rattle.cls_walk.proofs.FrameEnds.{awaits-one, completable-lists}
use Rattle.cls_walk.proofs.FrameSizes.{sum-append, fills-least, fills-long, awaits-count, code-first, code-second, code-rest, opening}

no-rest : (ns : List ℕ) → length ns ≡ 0 → ns ≡ []
no-rest [] p = refl
no-rest (n ∷ ns) p = absurd (omega (arith, p))

-- an opening has no more arguments than the codes that follow it have terms
module _ (book : List (List (Rule ℕ))) (start : ℕ) (frames : List Frame) (x k : ℕ) (v : List ℕ) where
  few-first : (n : ℕ) (js : List ℕ) → Awaits book start frames (n ∷ js) → Fills book (n ∷ js) (x ∷ k ∷ v) → 2 * (k + await_count frames) ≤ length (x ∷ k ∷ v)
  few-first n js a h =
      let r = fills-first book n js (x ∷ k ∷ v) h in
      let ks = r.1 in
      let Q : List ℕ → Type 0 = λ zs. Fills book (ks ++ js) zs in
      let fills : Fills book (ks ++ js) v = subst Q (sym (code-rest x r.0 k (length ks) v r.2 r.4)) r.5 in
      let c : length ks ≡ k = sym (code-second x r.0 k (length ks) v r.2 r.4) in
      let count : suc (length js) ≡ await_count frames = awaits-count book start frames (n ∷ js) a in
      omega (arith, count, c, fills-long book (ks ++ js) v fills, length-append ks js)

  few-some : (ns : List ℕ) → Awaits book start frames ns → Fills book ns (x ∷ k ∷ v) → 2 * (k + await_count frames) ≤ length (x ∷ k ∷ v)
  few-some [] a h = absurd (none-same x (k ∷ v) (none-fills book (x ∷ k ∷ v) h))
  few-some (n ∷ js) a h = few-first n js a h

  pub lists-few : (cost : ℕ → ℕ) (size room : ℕ) → ListsBy book cost start frames size room (x ∷ k ∷ v) → k + await_count frames ≤ room
  lists-few cost size room l =
      let g = l.filled in
      omega (arith, few-some g.0 g.1 g.2, l.short)

module _ (book : List (List (Rule ℕ))) (least : ℕ → ℕ) (start : ℕ) (frames : List Frame) (most : ℕ) (levels : ℕ → List Aim) (steps : AreLevels book least most levels) (right : AreAims book least start frames (levels 0)) where
  -- the aims tell within which sizes frames can be completed
  pub aims-completable : (n b s : ℕ) → IsIn (levels 0) (n, b) → least n + b ≤ s → IsCompletable book least start frames s
  aims-completable n b s i l = let r = right.each n b i in (n ∷ r.0, r.1, omega (arith, l, r.2))

  pub completable-aims : (s : ℕ) → IsAsking frames → IsCompletable book least start frames s → (n : ℕ) × (b : ℕ) × IsIn (levels 0) (n, b) × (least n + b ≤ s)
  completable-aims s q (ns, a, l) =
      let r = awaits-one book start frames ns q a in
      let P : List ℕ → Type 0 = λ zs. Awaits book start frames zs in
      let h = right.all r.0 r.1 (subst P r.2 a) in
      let e : least_sum least ns ≡ least r.0 + least_sum least r.1 = ap (least_sum least) r.2 in
      (r.0, h.0, h.1, omega (arith, h.2, e, l))

  -- an opening that is offered is completed by terms
  module _ (cost : ℕ → ℕ) (size x k : ℕ) (fits : k ≤ most) (places : List Place) (o : AreOffered book least levels size x k places) where
    abbrev new : Frame
    new = record { places = places; left = k }

    pub offers-completable : Offers book least levels size x k → IsCompletable book least start (new ∷ frames) size
    offers-completable (p, b, i, l) =
        let r = offer-completable book least start frames most levels steps right new x k p.0 b p.1 fits refl (o.all p b i l) i in
        (r.0, r.1, omega (arith, r.2, l))

    pub offers-lists : AreMet book least cost size → Offers book least levels size x k → (v : List ℕ) × FilledBy book start frames (x ∷ k ∷ v) × (code_size cost v ≤ size)
    offers-lists met h =
        let r = completable-lists book cost least size met start (new ∷ frames) (offers-completable h) in
        let Kept : List ℕ → Type 0 = λ ns. least_sum least ns ≤ size in
        (r.0, opening-from book (Awaits book start frames) Kept x k new (offered-right book least start frames most levels steps right size x k places fits o) r.1.0 r.0 r.1.1 r.1.2, r.2)

  -- what is listed begins with an opening that is offered
  module _ (cost : ℕ → ℕ) (sizes : AreLeastSizes book least cost) (size room x k : ℕ) (fits : k ≤ most) where
    offers-first : (n : ℕ) (js v : List ℕ) → Awaits book start frames (n ∷ js) → Fills book (n ∷ js) (x ∷ k ∷ v) → code_size cost v ≡ size → Offers book least levels size x k
    offers-first n js v a h s =
        let r = fills-first book n js (x ∷ k ∷ v) h in
        let y = r.0 in
        let ks = r.1 in
        let P : ℕ → Type 0 = λ z. HasForm book n z ks in
        let Q : List ℕ → Type 0 = λ zs. Fills book (ks ++ js) zs in
        let form : HasForm book n x ks = subst P (sym (code-first x y k (length ks) v r.2 r.4)) r.3 in
        let fills : Fills book (ks ++ js) v = subst Q (sym (code-rest x y k (length ks) v r.2 r.4)) r.5 in
        let c : length ks ≡ k = sym (code-second x y k (length ks) v r.2 r.4) in
        let d = headed-by book n x ks form in
        let many : length (d.1 ++ d.2) ≡ k = ap (λ (zs : List ℕ). length zs) (sym d.5) ∙ c in
        let b = right.all n js a in
        let e : least_sum least ks ≡ least_sum least (d.1 ++ d.2) = ap (least_sum least) d.5 in
        let u = fills-least book least cost sizes (ks ++ js) v fills in
        let g = opened-in book least most levels steps x k fits d.0 n b.0 d.1 d.2 b.1 d.3 d.4 many in
        ((d.0, d.1), g.0, g.1, omega (arith, e, u, s, b.2, g.2, sum-append least ks js))

    offers-some : (ns v : List ℕ) → Awaits book start frames ns → Fills book ns (x ∷ k ∷ v) → code_size cost v ≡ size → Offers book least levels size x k
    offers-some [] v a h s = absurd (none-same x (k ∷ v) (none-fills book (x ∷ k ∷ v) h))
    offers-some (n ∷ js) v a h s = offers-first n js v a h s

    pub lists-offers : (v : List ℕ) → ListsBy book cost start frames (cost x + size) room (x ∷ k ∷ v) → Offers book least levels size x k
    lists-offers v l =
        let g = l.filled in
        offers-some g.0 v g.1 g.2 (omega (arith, l.sized))

    -- The step of the walk: what is listed with the opening is listed by the frames with the new one, if all places that
    -- are offered within the size are there.
    pub offered-opening : (places : List Place) (v : List ℕ) → AreOffered book least levels size x k places → ListsBy book cost start frames (cost x + size) (room + 1) (x ∷ k ∷ v) ↔ ListsBy book cost start (record { places = places; left = k } ∷ frames) size room v
    offered-opening places v o = opening book least cost sizes start x k size room frames (record { places = places; left = k }) (offered-right book least start frames most levels steps right size x k places fits o) v

  -- where one node is awaited, what is listed depends on the nodes of the aims alone
  module _ (cost : ℕ → ℕ) (alone : await_count frames ≡ 1) where
    alone-lists : (size room : ℕ) (w : List ℕ) → ((n : ℕ) × (b : ℕ) × IsIn (levels 0) (n, b) × ListsBy book cost n [] size room w) → ListsBy book cost start frames size room w
    alone-lists size room w (n, b, i, l) =
        let g = l.filled in
        let r = right.each n b i in
        let e : suc (length r.0) ≡ await_count frames = awaits-count book start frames (n ∷ r.0) r.1 in
        let none : r.0 ≡ [] = no-rest r.0 (omega (arith, e, alone)) in
        let P : List ℕ → Type 0 = λ zs. Awaits book start frames zs in
        record {
          filled = (g.0, subst P (ap (λ (zs : List ℕ). n ∷ zs) none ∙ sym g.1) r.1, g.2);
          sized = l.sized;
          short = l.short;
        }

    lists-one : (size room : ℕ) (w ns : List ℕ) → Awaits book start frames ns → Fills book ns w → code_size cost w ≡ size → length w ≤ 2 * room → (n : ℕ) × (b : ℕ) × IsIn (levels 0) (n, b) × ListsBy book cost n [] size room w
    lists-one size room w [] a h s t = absurd (omega (arith, awaits-count book start frames [] a, alone))
    lists-one size room w (n ∷ js) a h s t =
        let r = right.all n js a in
        let e : suc (length js) ≡ await_count frames = awaits-count book start frames (n ∷ js) a in
        let none : js ≡ [] = no-rest js (omega (arith, e, alone)) in
        (n, r.0, r.1, record { filled = (n ∷ js, ap (λ (zs : List ℕ). n ∷ zs) none, h); sized = s; short = t })

    pub lists-alone : (size room : ℕ) (w : List ℕ) → ListsBy book cost start frames size room w ↔ ((n : ℕ) × (b : ℕ) × IsIn (levels 0) (n, b) × ListsBy book cost n [] size room w)
    lists-alone size room w = ((λ l. let g = l.filled in lists-one size room w g.0 g.1 g.2 l.sized l.short), alone-lists size room w)
