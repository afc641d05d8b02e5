-- What places say of one more size.
use Rattle.std.proofs.Common.{◌≡◌, ℕ, zero, suc, ◌+◌, ◌-◌, ◌<◌, ◌≤◌, List, [], ◌∷◌, ◌++◌, length, map, take, get_or, refl, sym, ap, ◌∙◌, subst, inl, inr, arith}
use Rattle.std.specs.Prelude.{slice_index}
use Rattle.std.proofs.lemmas.Bool.{cases_lt}
use Rattle.std.proofs.lemmas.List.{get_or_past, length_push, take_more, map-append}
use Rattle.cls_base.specs.Terms.{Applicative, apply, length_of, size_of}
use Rattle.cls_base.specs.declared.rule.Rule.{Rule}
use Rattle.cls_base.specs.Languages.{done, next}
use Rattle.cls_enum.specs.Members.{IsIn}
use Rattle.cls_enum.specs.Plans.{after, nodes_of, places_of, IsBound, AreBounds, IsReady, AreReady, AllReady, AreWhole, IsExtended}
use Rattle.cls_enum.specs.declared.plan.Place.{Place}
use Rattle.cls_enum.specs.declared.plan.Plan.{Plan}
use Rattle.cls_enum.proofs.CellLaws.{applied_size, applied_length}
use Rattle.cls_enum.proofs.Members.{in_cases}
use Rattle.cls_term.specs.Banks.{at}

module _ (book : List (List (Rule ℕ))) (cost : ℕ → ℕ) (s : ℕ) where
  -- what the places say of any rest is a bound
  after-bound : (places : List Place) (rest : ℕ) → AreBounds book cost s places → IsBound book cost s (nodes_of places) rest (after places rest)
  after-bound [] zero h f _ done q = inl (omega arith)
  after-bound [] (suc rest) h f _ done q = absurd (omega arith)
  after-bound (p ∷ places) rest h f e a q = h.1 rest f e a q

  none-bound : (ns : List ℕ) (rest bound : ℕ) → bound ≡ 0 → IsBound book cost s ns rest bound
  none-bound ns rest bound z f e a q = inl (omega (arith, z, applied_length book cost a))

  -- one more place before them
  bound-step : (cell : ℕ → ℕ → List Applicative) (n : ℕ) (places : List Place) (b : ℕ) → AreWhole book cost cell s → AreBounds book cost s places → ((t : ℕ) → t ≤ s → (a : Applicative) → IsIn (cell t n) a → b ≤ length_of a + after places (s - t)) → b ≤ 65 → IsBound book cost s (n ∷ nodes_of places) s b
  bound-step cell n places b whole h least small f e (next {a = a} g k) q =
      let z = applied_size book cost k in
      let l = applied_length book cost k in
      let t : size_of cost a ≤ s = omega arith in
      let r = after-bound places (s - size_of cost a) h (apply f a) e k (omega arith) in
      elim (cases_lt 64 (length_of a)) [
        | inl m ↦ inr (omega (arith, m, l))
        | inr m ↦
            let i = least (size_of cost a) t a (whole (size_of cost a) t n a (g, refl, m)) in
            elim r [ inl y ↦ inl (omega (arith, i, y)) | inr y ↦ inr y ]
      ]

  get-push : (xs : List ℕ) (x i : ℕ) → i < length xs → slice_index (xs ++ x ∷ []) i ≡ slice_index xs i
  get-push [] x i l = absurd (omega arith)
  get-push (y ∷ xs) x zero l = refl
  get-push (y ∷ xs) x (suc i) l = get-push xs x i (omega arith)

  get-last : (xs : List ℕ) (x i : ℕ) → length xs ≡ i → slice_index (xs ++ x ∷ []) i ≡ x
  get-last [] x zero l = refl
  get-last [] x (suc i) l = absurd (omega arith)
  get-last (y ∷ xs) x zero l = absurd (omega arith)
  get-last (y ∷ xs) x (suc i) l = get-last xs x i (omega arith)

  extended-bound : (cell : ℕ → ℕ → List Applicative) (n : ℕ) (places : List Place) (old new : List ℕ) → AreWhole book cost cell s → AreBounds book cost s places → ((rest : ℕ) → IsBound book cost s (n ∷ nodes_of places) rest (slice_index old rest)) → IsExtended cell n places s old new → (rest : ℕ) → IsBound book cost s (n ∷ nodes_of places) rest (slice_index new rest)
  extended-bound cell n places old new whole h k (inl p) rest = subst (λ (l : List ℕ). IsBound book cost s (n ∷ nodes_of places) rest (slice_index l rest)) (sym p) (k rest)
  extended-bound cell n places old new whole h k (inr x) rest = elim (cases_lt rest s) [
    | inl l ↦
        let e : slice_index new rest ≡ slice_index old rest = ap (λ (xs : List ℕ). slice_index xs rest) x.2 ∙ get-push old x.1 rest (omega (arith, x.0, l)) in
        subst (λ (b : ℕ). IsBound book cost s (n ∷ nodes_of places) rest b) (sym e) (k rest)
    | inr l ↦ elim (cases_lt s rest) [
      | inl m ↦ none-bound (n ∷ nodes_of places) rest (slice_index new rest) (get_or_past new rest 0 (omega (arith, ap length x.2, length_push old x.1, x.0, m)))
      | inr m ↦
          let z : s ≡ rest = omega arith in
          let e : slice_index new s ≡ x.1 = ap (λ (xs : List ℕ). slice_index xs s) x.2 ∙ get-last old x.1 s x.0 in
          subst (λ (r : ℕ). IsBound book cost s (n ∷ nodes_of places) r (slice_index new r)) z
          (subst (λ (b : ℕ). IsBound book cost s (n ∷ nodes_of places) s b) (sym e) (bound-step cell n places x.1 whole h x.3 x.4))
    ]
  ]

  extended-length : (cell : ℕ → ℕ → List Applicative) (n : ℕ) (places : List Place) (old new : List ℕ) → length old ≤ s → IsExtended cell n places s old new → length new ≤ s + 1
  extended-length cell n places old new l (inl p) = omega (arith, ap length p, l)
  extended-length cell n places old new l (inr x) = omega (arith, ap length x.2, length_push old x.1, x.0)

  -- the first of the places
  pub extended-first : (cell : ℕ → ℕ → List Applicative) (p q : Place) (places new : List Place) → AreWhole book cost cell s → AreBounds book cost s (p ∷ places) → IsExtended cell p.node places s p.least.items q.least.items → q.node ≡ p.node → nodes_of new ≡ nodes_of places → AreBounds book cost (s + 1) new → AreBounds book cost (s + 1) (q ∷ new)
  extended-first cell p q places new whole h x e d k = (
    extended-length cell p.node places p.least.items q.least.items h.0 x,
    (λ rest. subst (λ (ns : List ℕ). IsBound book cost (s + 1) ns rest (slice_index q.least.items rest)) (λ i. sym e i ∷ sym d i) (extended-bound cell p.node places p.least.items q.least.items whole h.2 h.1 x rest)),
    k,
  )

-- the least of one more
pub least-next : (ts : List Applicative) (numbers : List ℕ) (i m k : ℕ) → i < length numbers → k ≤ m → k ≤ length_of (at ts (get_or numbers i 0)) → ((a : Applicative) → IsIn (map (at ts) (take i numbers)) a → m ≤ length_of a) → (a : Applicative) → IsIn (map (at ts) (take (i + 1) numbers)) a → k ≤ length_of a
least-next ts numbers i m k l p q h a j =
    let e : map (at ts) (take (i + 1) numbers) ≡ map (at ts) (take i numbers) ++ at ts (get_or numbers i 0) ∷ [] =
    ap (map (at ts)) (take_more numbers i 0 l) ∙ map-append (at ts) (take i numbers) (get_or numbers i 0 ∷ []) in
    elim (in_cases (map (at ts) (take i numbers)) (at ts (get_or numbers i 0) ∷ []) a (subst (λ (es : List Applicative). IsIn es a) e j)) [
      | inl z ↦ omega (arith, p, h a z)
      | inr z ↦ elim z [ inl y ↦ omega (arith, q, ap length_of y) | inr y ↦ absurd y ]
    ]

pub ready-at : (book : List (List (Rule ℕ))) (cost : ℕ → ℕ) (s : ℕ) (ps : List Plan) (i : ℕ) (p : Plan) → AreReady book cost s ps → i < length ps → p ≡ get_or ps i p → IsReady book cost s p
ready-at book cost s [] i p h l e = absurd (omega arith)
ready-at book cost s (q ∷ ps) zero p h l e = let P : Plan → Type 0 = λ x. IsReady book cost s x in subst P (sym e) h.0
ready-at book cost s (q ∷ ps) (suc i) p h l e = ready-at book cost s ps i p h.1 (omega arith) e

-- the lesser of two numbers

module _ (book : List (List (Rule ℕ))) (cost : ℕ → ℕ) (s : ℕ) where
  bounds-later : (ps : List Place) → AreBounds book cost s ps → AreBounds book cost (s + 1) ps
  bounds-later [] h = tt
  bounds-later (p ∷ ps) h = (omega (arith, h.0), h.1, bounds-later ps h.2)

  ready-later : (ps : List Plan) → AreReady book cost s ps → AreReady book cost (s + 1) ps
  ready-later [] h = tt
  ready-later (p ∷ ps) h = (record { planned = h.0.planned; bounds = bounds-later (places_of p) h.0.bounds }, ready-later ps h.1)

  pub all_ready-later : (plans : List (List Plan)) → AllReady book cost s plans → AllReady book cost (s + 1) plans
  all_ready-later [] h = tt
  all_ready-later (p ∷ plans) h = (ready-later p h.0, all_ready-later plans h.1)
