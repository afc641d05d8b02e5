-- Sizes of what a walk over frames lists.
use Rattle.std.proofs.Common.{◌≡◌, ℕ, suc, ◌+◌, ◌*◌, ◌≤◌, List, [], ◌∷◌, ◌++◌, length, sym, ap, subst, arith, length-append}
use Rattle.std.specs.Prelude.{◌↔◌}
use Rattle.cls_base.specs.declared.rule.Rule.{Rule}
use Rattle.cls_walk.specs.Filled.{code_size}
use Rattle.cls_walk.specs.Forms.{HasForm, headed, applied, Fills}
use Rattle.cls_walk.proofs.Forms.{fills-first}
use Rattle.cls_walk.specs.Frames.{await_count, Frame, Awaits, IsOpened, IsAdvanced, IsComplete, ListsBy, least_sum, AreLeastSizes, IsCompletable}
use Rattle.cls_walk.proofs.Frames.{opening-to, opening-from, ending-to, ending-from}

pub sum-append : (least : ℕ → ℕ) (ms ns : List ℕ) → least_sum least (ms ++ ns) ≡ least_sum least ms + least_sum least ns
sum-append least [] ns = omega arith
sum-append least (m ∷ ms) ns = omega (arith, sum-append least ms ns)

pub code-rest : (x y k m : ℕ) (v w : List ℕ) → x ∷ k ∷ v ≡ y ∷ m ∷ w → v ≡ w
code-rest x y k m v w p = cc

pub code-second : (x y k m : ℕ) (v w : List ℕ) → x ∷ k ∷ v ≡ y ∷ m ∷ w → k ≡ m
code-second x y k m v w p = cc

pub code-first : (x y k m : ℕ) (v w : List ℕ) → x ∷ k ∷ v ≡ y ∷ m ∷ w → x ≡ y
code-first x y k m v w p = cc

-- a code of a term for each node
pub fills-long : (book : List (List (Rule ℕ))) (ns w : List ℕ) → Fills book ns w → 2 * length ns ≤ length w
fills-long book [] w h = omega arith
fills-long book (n ∷ ns) [] h = absurd (let p = (fills-first book n ns [] h).4 in cc)
fills-long book (n ∷ ns) (x ∷ []) h = absurd (let p = (fills-first book n ns (x ∷ []) h).4 in cc)
fills-long book (n ∷ ns) (x ∷ k ∷ w) h =
    let r = fills-first book n ns (x ∷ k ∷ w) h in
    let ks = r.1 in
    let P : List ℕ → Type 0 = λ zs. Fills book (ks ++ ns) zs in
    let f : Fills book (ks ++ ns) w = subst P (sym (code-rest x r.0 k (length ks) w r.2 r.4)) r.5 in
    omega (arith, fills-long book (ks ++ ns) w f, length-append ks ns)

-- as many nodes are awaited each time
pub awaits-count : (book : List (List (Rule ℕ))) (start : ℕ) (frames : List Frame) (ns : List ℕ) → Awaits book start frames ns → length ns ≡ await_count frames
awaits-count book start [] ns a = ap (λ (zs : List ℕ). length zs) a
awaits-count book start (f ∷ fs) ns a =
    let own = a.own in
    let js = a.others in
    let e : length ns ≡ length (own ++ js) = ap (λ (zs : List ℕ). length zs) a.both in
    let c : suc (length js) ≡ await_count fs = awaits-count book start fs (a.node ∷ js) a.below in
    omega (arith, e, c, a.makes.counted, length-append own js)

module _ (book : List (List (Rule ℕ))) (least cost : ℕ → ℕ) (sizes : AreLeastSizes book least cost) where
  form-least : (n x : ℕ) (ks : List ℕ) → HasForm book n x ks → least n ≤ cost x + least_sum least ks
  form-least n x ks (headed c) = sizes.heads n x ks c
  form-least n x ks (applied {l = l} {m = m} {ns = ns} c f p) =
      let a = sizes.pairs n l m c in
      let b = form-least l x ns f in
      let d = sum-append least ns (m ∷ []) in
      let e : least_sum least ks ≡ least_sum least (ns ++ m ∷ []) = ap (least_sum least) p in
      omega (arith, a, b, d, e)

  -- what fills nodes comes to no less than their least sizes
  pub fills-least : (ns w : List ℕ) → Fills book ns w → least_sum least ns ≤ code_size cost w
  fills-least [] w h = omega arith
  fills-least (n ∷ ns) [] h = absurd (let p = (fills-first book n ns [] h).4 in cc)
  fills-least (n ∷ ns) (x ∷ []) h = absurd (let p = (fills-first book n ns (x ∷ []) h).4 in cc)
  fills-least (n ∷ ns) (x ∷ k ∷ w) h =
      let r = fills-first book n ns (x ∷ k ∷ w) h in
      let y = r.0 in
      let ks = r.1 in
      let P : List ℕ → Type 0 = λ zs. Fills book (ks ++ ns) zs in
      let f : Fills book (ks ++ ns) w = subst P (sym (code-rest x y k (length ks) w r.2 r.4)) r.5 in
      let a = form-least n y ks r.3 in
      let b = fills-least (ks ++ ns) w f in
      let c = sum-append least ks ns in
      let d : cost x ≡ cost y = ap cost (code-first x y k (length ks) w r.2 r.4) in
      omega (arith, a, b, c, d)

  -- pruning leaves out nothing that is listed
  pub lists-completable : (start size room : ℕ) (frames : List Frame) (w : List ℕ) → ListsBy book cost start frames size room w → IsCompletable book least start frames size
  lists-completable start size room frames w l =
      let f = l.filled in
      (f.0, f.1, omega (arith, fills-least f.0 w f.2, l.sized))

  -- the law of opening, where places may be missing that come to more than the size
  module _ (start x k size room : ℕ) (frames : List Frame) (f : Frame) (o : IsOpened book (Awaits book start frames) (λ ns. least_sum least ns ≤ size) x k f) where
    pub lists-opened : (v : List ℕ) → ListsBy book cost start frames (cost x + size) (room + 1) (x ∷ k ∷ v) → ListsBy book cost start (f ∷ frames) size room v
    lists-opened v l =
        let s : code_size cost v ≡ size = omega (arith, l.sized) in
        let g = l.filled in
        record {
          filled = opening-to book (Awaits book start frames) (λ ns. least_sum least ns ≤ size) x k f o g.0 v g.1 g.2 (λ ns h. omega (arith, s, fills-least ns v h));
          sized = s;
          short = omega (arith, l.short);
        }

    pub opened-lists : (v : List ℕ) → ListsBy book cost start (f ∷ frames) size room v → ListsBy book cost start frames (cost x + size) (room + 1) (x ∷ k ∷ v)
    opened-lists v l =
        let g = l.filled in
        record {
          filled = opening-from book (Awaits book start frames) (λ ns. least_sum least ns ≤ size) x k f o g.0 v g.1 g.2;
          sized = omega (arith, l.sized);
          short = omega (arith, l.short);
        }

    pub opening : (v : List ℕ) → ListsBy book cost start frames (cost x + size) (room + 1) (x ∷ k ∷ v) ↔ ListsBy book cost start (f ∷ frames) size room v
    opening v = (lists-opened v, opened-lists v)

-- the law of an argument's end
module _ (book : List (List (Rule ℕ))) (start : ℕ) (above old new : Frame) (frames : List Frame) (Has : ℕ → Type 0) (adv : IsAdvanced book Has old new) (ended : above.left ≡ 0) (has : (m : ℕ) → IsComplete above m → Has m) (had : (m : ℕ) → Has m → IsComplete above m) where
  pub ending : (ns : List ℕ) → Awaits book start (above ∷ old ∷ frames) ns ↔ Awaits book start (new ∷ frames) ns
  ending ns = (
    ending-to book Has old new adv above (Awaits book start frames) ended has had ns,
    ending-from book Has old new adv above (Awaits book start frames) ended has had ns,
  )

  pub lists-ended : (cost : ℕ → ℕ) (size room : ℕ) (w : List ℕ) → ListsBy book cost start (above ∷ old ∷ frames) size room w ↔ ListsBy book cost start (new ∷ frames) size room w
  lists-ended cost size room w = (
    (λ l.
        let g = l.filled in
        record { filled = (g.0, (ending g.0).0 g.1, g.2); sized = l.sized; short = l.short }),
    (λ l.
        let g = l.filled in
        record { filled = (g.0, (ending g.0).1 g.1, g.2); sized = l.sized; short = l.short }),
  )
