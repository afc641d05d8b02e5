-- The frame of an opening has the places that are offered.
use Rattle.std.proofs.Common.{◌≡◌, ℕ, ◌+◌, ◌-◌, ◌<◌, ◌≤◌, List, [], ◌∷◌, ◌++◌, length, map, refl, sym, ap, ◌∙◌, subst, inl, inr, arith}
use Rattle.std.specs.Prelude.{◌⊎◌, Result, Ok, Err, OnOk}
use Rattle.std.specs.List.{flat_map}
use Rattle.std.proofs.lemmas.Bool.{cases_lt}
use Rattle.cls_base.specs.declared.rule.Rule.{Rule}
use Rattle.cls_base.specs.declared.rule.Rule.TheVariants.{Head as HeadOf}
use Rattle.cls_base.specs.Languages.{NodeRule}
use Rattle.cls_enum.specs.Members.{IsIn}
use Rattle.cls_enum.proofs.Members.{in_over, over_in, in_flat_map, flat_map_in}
use Rattle.cls_walk.specs.Counts.{HeadRule}
use Rattle.cls_walk.specs.FrameAims.{Aim, places_with, opened_with, AreOffered}
use Rattle.cls_walk.specs.FrameBegins.{heads_in, AreBegun}
use Rattle.cls_walk.specs.FrameColumns.{head_of, place_of, Grows}
use Rattle.cls_walk.specs.FrameGuides.{least_of, own_size, IsGuide}
use Rattle.cls_walk.specs.FrameHeaps.{frame_of, mark_of, standings_of, AreFrames, AreSameFrames}
use Rattle.cls_walk.specs.FrameOpenings.{Begins}
use Rattle.cls_walk.specs.FrameStacks.{standings, AreMarks, AreStanding, Standing}
use Rattle.cls_walk.specs.Frames.{Place as SeenPlace, least_sum}
use Rattle.cls_walk.specs.declared.guide.Guide.{Guide}
use Rattle.cls_walk.specs.declared.places.Place.{Place}
use Rattle.cls_walk.specs.declared.rules.Rules.{Rules}
use Rattle.cls_walk.specs.declared.standing.Frames.{Frames}
use Rattle.cls_walk.specs.declared.standing.Mark.{Mark}
use Rattle.cls_walk.proofs.FrameAims.{places-in, in-places}
use Rattle.cls_walk.proofs.FrameColumns.{grows-on}
use Rattle.cls_walk.proofs.FrameHeaps.{stack-new}
use Rattle.cls_walk.proofs.FrameSteps.{head-in, in-head}

module _ (own : HeadRule → ℕ) (r : Rules) (levels : ℕ → List Aim) (x k size : ℕ) where
  -- the places by the levels below i
  abbrev pub AreBegunTo : ℕ → SeenPlace → Type 0
  AreBegunTo i q = (p : ℕ) × (p < i) × AreBegun own r (levels p) x (k - p) size q

  pub to-level : (i : ℕ) (b c e : List Place) → Grows (AreBegunTo i) b c → Grows (AreBegun own r (levels i) x (k - i) size) c e → Grows (AreBegunTo (i + 1)) b e
  to-level i b c e g h =
      grows-on (AreBegunTo i) (AreBegun own r (levels i) x (k - i) size) (AreBegunTo (i + 1)) b c e g h
      (λ q (p, l, w). (p, omega (arith, l), w))
      (λ q w. (i, omega arith, w))
      (λ q (p, l, w). elim (cases_lt p i) [
        | inl m ↦ inl (p, m, w)
        | inr m ↦ let s : p ≡ i = omega (arith, l, m) in inr (let P : ℕ → Type 0 = λ z. AreBegun own r (levels z) x (k - z) size q in subst P s w)
      ])

-- a head rule of the book is one of the code, and the other way round
module _ (book : List (List (Rule ℕ))) (cost : ℕ → ℕ) (g : Guide) (right : IsGuide book cost g) where
  pub rule-in : (n x : ℕ) (ns : List ℕ) → NodeRule book n (HeadOf x ns) → IsIn (map head_of (heads_in g.rules.now n)) (x, ns)
  rule-in n x ns c = let P : List HeadRule → Type 0 = λ hs. IsIn hs (x, ns) in subst P (sym (right.rules.heads n)) (head-in book n x ns c)

  pub in-rule : (n x : ℕ) (h : HeadRule) → IsIn (map head_of (heads_in g.rules.now n)) h → h.0 ≡ x → NodeRule book n (HeadOf x h.1)
  in-rule n x h i e =
      let P : List HeadRule → Type 0 = λ hs. IsIn hs h in
      let Q : ℕ → Type 0 = λ z. NodeRule book n (HeadOf z h.1) in
      subst Q e (in-head book n h (subst P (right.rules.heads n) i))

  module _ (levels : ℕ → List Aim) (x k size : ℕ) (cheap : cost x ≤ size) where
    abbrev at_pairs : ℕ → List (SeenPlace × ℕ)
    at_pairs q = flat_map (places_with book (least_of g) x (k - q)) (levels q)

    offered : (p : SeenPlace) (a : Aim) (ns : List ℕ) (q : ℕ) → q < k + 1 → IsIn (levels q) a → NodeRule book a.0 (HeadOf x ns) → length ns ≡ k - q → p ≡ (a.0, ns) → (b : ℕ) × IsIn (opened_with book (least_of g) levels x k) (p, b)
    offered p a ns q l i c e s =
        let b = least_sum (least_of g) ns + a.1 in
        let t : SeenPlace × ℕ = ((a.0, ns), b) in
        let P : SeenPlace → Type 0 = λ z. IsIn (opened_with book (least_of g) levels x k) (z, b) in
        (b, subst P (sym s) (over_in (k + 1) at_pairs t q l (flat_map_in (places_with book (least_of g) x (k - q)) (levels q) t a i (places-in book (least_of g) x (k - q) a ns c e))))

    -- what begins by all levels that have aims is what is offered
    pub begun-offered : (i : ℕ) (made : List Place) → i ≤ k + 1 → ((p : ℕ) → p < k + 1 → (p < i) ⊎ (levels p ≡ [])) → Grows (AreBegunTo (own_size cost g) g.rules.now levels x k size i) [] made → AreOffered book (least_of g) levels (size - cost x) x k (map place_of made)
    begun-offered i made l f h = record {
      each = λ p j. elim (h.each p j) [
        | inl o ↦ absurd o
        | inr (q, m, (a, n, (d, o, w))) ↦
            offered p a d.1 q (omega (arith, m, l)) n (in-rule a.0 x d o w.component) w.count w.place
      ];
      all = λ p b j s.
          let u = in_over (k + 1) at_pairs (p, b) j in
          let q = u.0 in
          let v = in_flat_map (places_with book (least_of g) x (k - q)) (levels q) (p, b) u.2 in
          let a = v.0 in
          let t = in-places book (least_of g) x (k - q) a p.0 b p.1 v.2 in
          elim (f q u.1) [
            | inl m ↦
                let P : ℕ → Type 0 = λ z. NodeRule book z (HeadOf x p.1) in
                let y = t.3 in
                h.all p (
                  q,
                  m,
                  (
                    a,
                    v.1,
                    (
                      (x, p.1),
                      rule-in a.0 x p.1 (subst P (sym t.0) t.1),
                      record {
                        component = refl;
                        count = t.2;
                        small = omega (arith, y, s, cheap);
                        place = λ z. (sym t.0 z, p.1);
                      },
                    ),
                  ),
                )
            | inr e ↦ absurd (let P : List Aim → Type 0 = λ zs. IsIn zs a in subst P e v.1)
          ];
    }

    pub begins : (old new : Frames) (top t : ℕ) (made : List Place) → AreOffered book (least_of g) levels (size - cost x) x k (map place_of made) → standings_of new ≡ standings_of old ++ frame_of (map place_of made) k top ∷ [] → t ≡ length old.marks.items + 1 → Begins book (least_of g) levels old new top (size - cost x) x k t
    begins old new top t made o e n = record {
      places = map place_of made;
      offered = o;
      stack = stack-new old new (frame_of (map place_of made) k top) t e n;
    }

pub on-ok : {E : Type 0} (r : Result ℕ E) (G H : Type 0) → OnOk r G → (G → H) → OnOk r H
on-ok (Ok t) G H g f = f g
on-ok (Err x) G H g f = tt

-- frames with the same columns
same-standings : (old new : Frames) → AreSameFrames old new → standings_of new ≡ standings_of old
same-standings old new e = λ i. standings (map place_of (e.places i)) 0 (map mark_of (e.marks i))

pub same-frames : (old new : Frames) → AreSameFrames old new → AreFrames old → AreFrames new
same-frames old new e h =
    let P : List Place → List Mark → Type 0 = λ ps ms. AreMarks 0 (length ps) (map mark_of ms) in
    let Q : List Standing → Type 0 = λ ss. AreStanding 0 ss in
    record {
      marks = let A : List Place → Type 0 = λ ps. P ps old.marks.items in let B : List Mark → Type 0 = λ ms. P new.places.items ms in subst B (sym e.marks) (subst A (sym e.places) h.marks);
      standing = subst Q (sym (same-standings old new e)) h.standing;
    }

-- one frame more than those with the same columns
module _ (old mid new : Frames) (same : AreSameFrames old mid) where
  pub same-more : (s : Standing) → standings_of new ≡ standings_of mid ++ s ∷ [] → standings_of new ≡ standings_of old ++ s ∷ []
  same-more s e = e ∙ ap (λ (ss : List Standing). ss ++ s ∷ []) (same-standings old mid same)
