-- The two steps of a walk over frames change nothing of what is awaited.
use Rattle.std.proofs.Common.{◌≡◌, ℕ, List, [], ◌∷◌, ◌++◌, length, refl, sym, ap, ◌∙◌, subst, arith, append_assoc, append-nil}
use Rattle.cls_base.specs.declared.rule.Rule.{Rule}
use Rattle.cls_base.specs.declared.rule.Rule.TheVariants.{Head, Any}
use Rattle.cls_base.specs.Languages.{NodeRule}
use Rattle.cls_enum.specs.Members.{IsIn}
use Rattle.cls_walk.specs.Forms.{HasForm, headed, applied, Fills}
use Rattle.cls_walk.proofs.Forms.{fills-first, first-fills, none-fills}
use Rattle.cls_walk.specs.Frames.{Place, Frame, Reaches, Makes, AwaitsOver, IsOpened, Follows, IsAdvanced, IsComplete}

-- parts of lists
pub first-same : (m n : ℕ) (ms ns : List ℕ) → m ∷ ms ≡ n ∷ ns → m ≡ n
first-same m n ms ns p = cc

pub rest-same : (m n : ℕ) (ms ns : List ℕ) → m ∷ ms ≡ n ∷ ns → ms ≡ ns
rest-same m n ms ns p = cc

pub both-same : (m n : ℕ) (ms ns : List ℕ) → m ≡ n → ms ≡ ns → m ∷ ms ≡ n ∷ ns
both-same m n ms ns p q = cc

pub none-same : (m : ℕ) (ms : List ℕ) → m ∷ ms ≡ [] → ⊥
none-same m ms p = absurd (cc)

pub no-length : (ns : List ℕ) → length ns ≡ 0 → ns ≡ []
no-length [] p = refl
no-length (n ∷ ns) p = absurd (omega (arith, p))

code-first : (x y k m : ℕ) (v w : List ℕ) → x ∷ k ∷ v ≡ y ∷ m ∷ w → x ≡ y
code-first x y k m v w p = cc

code-second : (x y k m : ℕ) (v w : List ℕ) → x ∷ k ∷ v ≡ y ∷ m ∷ w → k ≡ m
code-second x y k m v w p = cc

code-rest : (x y k m : ℕ) (v w : List ℕ) → x ∷ k ∷ v ≡ y ∷ m ∷ w → v ≡ w
code-rest x y k m v w p = cc

module _ (book : List (List (Rule ℕ))) where
  -- one pair more at the end of a chain
  reaches-more : (l n k m : ℕ) (ms : List ℕ) → Reaches book l ms n → NodeRule book k (Any n m) → Reaches book l (ms ++ m ∷ []) k
  reaches-more l n k m [] p r = let P : ℕ → Type 0 = λ z. NodeRule book k (Any z m) in (k, subst P (sym p) r, refl)
  reaches-more l n k m (j ∷ ms) h r = (h.0, h.1, reaches-more h.0 n k m ms h.2 r)

  -- a form is a head rule, and pairs for the further arguments
  pub headed-by : (n x : ℕ) (ks : List ℕ) → HasForm book n x ks → (l : ℕ) × (ns : List ℕ) × (ms : List ℕ) × NodeRule book l (Head x ns) × Reaches book l ms n × (ks ≡ ns ++ ms)
  headed-by n x ns (headed c) = (n, ns, [], c, refl, sym (append-nil ns))
  headed-by n x ks (applied {l = l} {m = m} {ns = ns} c f p) =
      let r = headed-by l x ns f in (
        r.0,
        r.1,
        r.2 ++ m ∷ [],
        r.3,
        reaches-more r.0 l n m r.2 r.4 c,
        p ∙ ap (λ (js : List ℕ). js ++ m ∷ []) r.5 ∙ append_assoc r.1 r.2 (m ∷ []),
      )

  form-on : (l x n : ℕ) (ks ms : List ℕ) → HasForm book l x ks → Reaches book l ms n → HasForm book n x (ks ++ ms)
  form-on l x n ks [] f p =
      let P : ℕ → Type 0 = λ z. HasForm book z x (ks ++ []) in
      let Q : List ℕ → Type 0 = λ js. HasForm book l x js in
      subst P p (subst Q (sym (append-nil ks)) f)
  form-on l x n ks (m ∷ ms) f h =
      let Q : List ℕ → Type 0 = λ js. HasForm book n x js in
      subst Q (append_assoc ks (m ∷ []) ms) (form-on h.0 x n (ks ++ m ∷ []) ms (applied h.1 f refl) h.2)

  pub heads-form : (l x n : ℕ) (ns ms : List ℕ) → NodeRule book l (Head x ns) → Reaches book l ms n → HasForm book n x (ns ++ ms)
  heads-form l x n ns ms c h = form-on l x n ns ms (headed c) h

  -- a term is begun
  module _ (Below Kept : List ℕ → Type 0) (x k : ℕ) (f : Frame) (o : IsOpened book Below Kept x k f) where
    opened-by : (n : ℕ) (js ks v : List ℕ) → Below (n ∷ js) → HasForm book n x ks → length ks ≡ k → Fills book (ks ++ js) v → ((ns : List ℕ) → Fills book ns v → Kept ns) → AwaitsOver book f Below (ks ++ js)
    opened-by n js ks v b h c g kept =
        let d = headed-by n x ks h in
        let q : ks ≡ d.1 ++ d.2 = d.5 in
        let P : List ℕ → Type 0 = λ zs. Kept (zs ++ js) in
        let many : length (d.1 ++ d.2) ≡ k = ap (λ (zs : List ℕ). length zs) (sym q) ∙ c in
        record {
          node = n;
          own = ks;
          others = js;
          makes = record {
            node = d.0;
            rest = d.1;
            more = d.2;
            place = o.all n d.0 d.1 d.2 js b d.3 d.4 many (subst P q (kept (ks ++ js) g));
            reached = d.4;
            awaited = q;
            counted = c ∙ sym o.count;
          };
          below = b;
          both = refl;
        }

    pub opening-to : (ns v : List ℕ) → Below ns → Fills book ns (x ∷ k ∷ v) → ((ks : List ℕ) → Fills book ks v → Kept ks) → (ks : List ℕ) × AwaitsOver book f Below ks × Fills book ks v
    opening-to [] v b h kept = absurd (none-same x (k ∷ v) (none-fills book (x ∷ k ∷ v) h))
    opening-to (n ∷ js) v b h kept =
        let r = fills-first book n js (x ∷ k ∷ v) h in
        let y = r.0 in
        let ks = r.1 in
        let P : ℕ → Type 0 = λ z. HasForm book n z ks in
        let Q : List ℕ → Type 0 = λ zs. Fills book (ks ++ js) zs in
        let form : HasForm book n x ks = subst P (sym (code-first x y k (length ks) v r.2 r.4)) r.3 in
        let fills : Fills book (ks ++ js) v = subst Q (sym (code-rest x y k (length ks) v r.2 r.4)) r.5 in
        let c : length ks ≡ k = sym (code-second x y k (length ks) v r.2 r.4) in
        (ks ++ js, opened-by n js ks v b form c fills kept, fills)

    pub opening-from : (ks v : List ℕ) → AwaitsOver book f Below ks → Fills book ks v → (ns : List ℕ) × Below ns × Fills book ns (x ∷ k ∷ v)
    opening-from ks v a h =
        let m = a.makes in
        let n = a.node in
        let own = a.own in
        let P : List ℕ → Type 0 = λ zs. HasForm book n x zs in
        let form : HasForm book n x own = subst P (sym m.awaited) (heads-form m.node x n m.rest m.more (o.each m.node m.rest m.place) m.reached) in
        let Q : List ℕ → Type 0 = λ zs. Fills book zs v in
        let R : ℕ → Type 0 = λ z. Fills book (n ∷ a.others) (x ∷ z ∷ v) in
        (n ∷ a.others, a.below, subst R (m.counted ∙ o.count) (first-fills book n x own a.others v form (subst Q a.both h)))

  -- a frame without arguments to come is of the nodes at which it is complete
  module _ (above : Frame) (ended : above.left ≡ 0) where
    whole-place : (m l : ℕ) (rest more : List ℕ) → IsIn above.places (l, rest) → Reaches book l more m → [] ≡ rest ++ more → IsComplete above m
    whole-place m l [] [] i r p = let P : ℕ → Type 0 = λ z. IsIn above.places (z, []) in subst P r i
    whole-place m l [] (j ∷ more) i r p = absurd (none-same j more (sym p))
    whole-place m l (j ∷ rest) more i r p = absurd (none-same j (rest ++ more) (sym p))

    pub made-none : (m : ℕ) (own : List ℕ) → Makes book above m own → own ≡ []
    made-none m own k = no-length own (k.counted ∙ ended)

    pub made-whole : (m : ℕ) (own : List ℕ) → Makes book above m own → IsComplete above m
    made-whole m own k = whole-place m k.node k.rest k.more k.place k.reached (sym (made-none m own k) ∙ k.awaited)

  -- an argument has ended
  module _ (Has : ℕ → Type 0) (old new : Frame) (adv : IsAdvanced book Has old new) where
    places-on : (m n l : ℕ) (rest more own : List ℕ) → IsIn old.places (l, rest) → Reaches book l more n → m ∷ own ≡ rest ++ more → length (m ∷ own) ≡ old.left → Has m → Makes book new n own
    places-on m n l [] [] own i r p c h = absurd (none-same m own p)
    places-on m n l [] (j ∷ more) own i r p c h =
        let P : ℕ → Type 0 = λ z. NodeRule book r.0 (Any l z) in
        record {
          node = r.0;
          rest = [];
          more = more;
          place = adv.all (l, []) (r.0, []) m i h (subst P (sym (first-same m j own more p)) r.1, refl);
          reached = r.2;
          awaited = rest-same m j own more p;
          counted = omega (arith, c, adv.count);
        }
    places-on m n l (j ∷ rest) more own i r p c h = record {
      node = l;
      rest = rest;
      more = more;
      place = adv.all (l, j ∷ rest) (l, rest) m i h (sym (first-same m j own (rest ++ more) p), refl);
      reached = r;
      awaited = rest-same m j own (rest ++ more) p;
      counted = omega (arith, c, adv.count);
    }

    pub makes-on : (m n : ℕ) (own : List ℕ) → Makes book old n (m ∷ own) → Has m → Makes book new n own
    makes-on m n own k h = places-on m n k.node k.rest k.more own k.place k.reached k.awaited k.counted h

    places-back : (n l : ℕ) (rest more own : List ℕ) (p : Place) (m : ℕ) → IsIn old.places p → Follows book p m (l, rest) → Reaches book l more n → own ≡ rest ++ more → length own ≡ new.left → Makes book old n (m ∷ own)
    places-back n l rest more own (j, []) m i f r e c = record {
      node = j;
      rest = [];
      more = m ∷ more;
      place = i;
      reached = (l, f.0, r);
      awaited = ap (λ (zs : List ℕ). m ∷ zs) (e ∙ ap (λ (zs : List ℕ). zs ++ more) f.1);
      counted = omega (arith, c, adv.count);
    }
    places-back n l rest more own (j, k ∷ ks) m i f r e c =
        let P : ℕ → Type 0 = λ z. Reaches book z more n in
        let s : l ≡ j = ap (λ (z : Place). z.0) f.1 in
        let t : rest ≡ ks = ap (λ (z : Place). z.1) f.1 in
        record {
          node = j;
          rest = k ∷ ks;
          more = more;
          place = i;
          reached = subst P s r;
          awaited = both-same m k own (ks ++ more) (sym f.0) (e ∙ ap (λ (zs : List ℕ). zs ++ more) t);
          counted = omega (arith, c, adv.count);
        }

    pub makes-back : (n : ℕ) (own : List ℕ) → Makes book new n own → (m : ℕ) × Has m × Makes book old n (m ∷ own)
    makes-back n own k =
        let e = adv.each (k.node, k.rest) k.place in
        (e.1, e.3, places-back n k.node k.rest k.more own e.0 e.1 e.2 e.4 k.reached k.awaited k.counted)

    -- where the frame above has ended
    module _ (above : Frame) (Below : List ℕ → Type 0) (ended : above.left ≡ 0) (has : (m : ℕ) → IsComplete above m → Has m) (had : (m : ℕ) → Has m → IsComplete above m) where
      own-on : (m n : ℕ) (others own js : List ℕ) → Makes book old n own → Below (n ∷ js) → m ∷ others ≡ own ++ js → Has m → AwaitsOver book new Below others
      own-on m n others [] js k b p h = absurd (omega (arith, k.counted, adv.count))
      own-on m n others (j ∷ own) js k b p h = record {
        node = n;
        own = own;
        others = js;
        makes = makes-on j n own k (subst Has (first-same m j others (own ++ js) p) h);
        below = b;
        both = rest-same m j others (own ++ js) p;
      }

      pub ending-to : (ns : List ℕ) → AwaitsOver book above (AwaitsOver book old Below) ns → AwaitsOver book new Below ns
      ending-to ns a =
          let P : List ℕ → Type 0 = λ zs. AwaitsOver book new Below zs in
          let b = a.below in
          let h = has a.node (made-whole above ended a.node a.own a.makes) in
          let e : ns ≡ a.others = a.both ∙ ap (λ (zs : List ℕ). zs ++ a.others) (made-none above ended a.node a.own a.makes) in
          subst P (sym e) (own-on a.node b.node a.others b.own b.others b.makes b.below b.both h)

      pub ending-from : (ns : List ℕ) → AwaitsOver book new Below ns → AwaitsOver book above (AwaitsOver book old Below) ns
      ending-from ns a =
          let r = makes-back a.node a.own a.makes in
          let m = r.0 in
          record {
            node = m;
            own = [];
            others = ns;
            makes = record {
              node = m;
              rest = [];
              more = [];
              place = had m r.1;
              reached = refl;
              awaited = refl;
              counted = sym ended;
            };
            below = record {
              node = a.node;
              own = m ∷ a.own;
              others = a.others;
              makes = r.2;
              below = a.below;
              both = ap (λ (zs : List ℕ). m ∷ zs) a.both;
            };
            both = refl;
          }
