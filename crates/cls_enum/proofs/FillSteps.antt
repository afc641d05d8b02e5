-- Steps of the two loops that find terms.
use Rattle.std.proofs.Common.{◌≡◌, ℕ, ◌+◌, ◌-◌, ◌<◌, List, [], ◌∷◌, ◌++◌, length, map, take, get_or, sym, ap, ◌∙◌, subst, inl, inr, arith, length-append, append-nil}
use Rattle.std.specs.Prelude.{◌⊎◌}
use Rattle.std.specs.List.{flat_map}
use Rattle.std.proofs.lemmas.List.{take_more}
use Rattle.std.proofs.lemmas.List.Concat.{flat_map-append}
use Rattle.std.proofs.Math.Seq.{take-append_seam}
use Rattle.cls_base.specs.Terms.{Applicative, apply}
use Rattle.cls_term.specs.Banks.{at, term_by}
use Rattle.cls_enum.specs.Candidates.{over, fills}
use Rattle.cls_enum.specs.CellTables.{cell_at, cell_of}
use Rattle.cls_enum.specs.Faults.{IfTooMany}
use Rattle.cls_enum.specs.Members.{IsIn, IsAdded, IsOverfull}
use Rattle.cls_enum.specs.Plans.{nodes_of}
use Rattle.cls_enum.specs.declared.fault.PageFault.{PageFault}
use Rattle.cls_enum.specs.declared.fault.PageFault.TheVariants.{OutOfMemory, TooManyTerms}
use Rattle.cls_enum.specs.declared.plan.Place.{Place}
use Rattle.cls_enum.proofs.Members.{in_at, in_over, over_in, in_flat_map, flat_map_in, in-take}
use Rattle.cls_enum.proofs.Additions.{IsAdded-append, IsAdded-same, IsOverfull-within, over-next, over-none, flat_map-next, at_in, take_in, last-barren}

pub IfTooMany-weaker : (e : PageFault) (P Q : Type 0) → (P → Q) → IfTooMany e P → IfTooMany e Q
IfTooMany-weaker OutOfMemory P Q f h = tt
IfTooMany-weaker TooManyTerms P Q f h = f h

-- what is left where the last is taken off
pub popped : (xs new rest : List ℕ) (a n : ℕ) → rest ≡ take (n - 1) new → new ≡ xs ++ a ∷ [] → n ≡ length new → rest ≡ xs
popped xs new rest a n p q l =
    let m : n - 1 ≡ length xs = omega (arith, ap length q, length-append xs (a ∷ [])) in
    p ∙ (λ i. take (m i) (q i)) ∙ take-append_seam xs (a ∷ [])

module _ (ts : List Applicative) (cells : ℕ × List (List ℕ)) (u u' : Applicative) (old mid new : List (ℕ × List ℕ)) where
  abbrev pub at_size : ℕ → List ℕ → ℕ → ℕ → List Applicative
  at_size n ns rest t = flat_map (λ a. fills (cell_of ts cells) (apply u a) ns (rest - t)) (cell_of ts cells t n)

  pub each-step : (ns numbers : List ℕ) (rest i : ℕ) → i < length numbers → u' ≡ apply u (at ts (get_or numbers i 0)) → IsAdded ts old (flat_map (λ a. fills (cell_of ts cells) (apply u a) ns rest) (map (at ts) (take i numbers))) mid → IsAdded ts mid (fills (cell_of ts cells) u' ns rest) new → IsAdded ts old (flat_map (λ a. fills (cell_of ts cells) (apply u a) ns rest) (map (at ts) (take (i + 1) numbers))) new
  each-step ns numbers rest i l p h k =
      let f = fills (cell_of ts cells) u' ns rest in
      let g : Applicative → List Applicative = λ a. fills (cell_of ts cells) (apply u a) ns rest in
      let e : f ≡ g (at ts (get_or numbers i 0)) = ap (λ (t : Applicative). fills (cell_of ts cells) t ns rest) p in
      IsAdded-same ts old new (flat_map g (map (at ts) (take i numbers)) ++ g (at ts (get_or numbers i 0))) (flat_map g (map (at ts) (take (i + 1) numbers))) (sym (flat_map-next ts g numbers i l))
      (IsAdded-append ts old mid new (flat_map g (map (at ts) (take i numbers))) (g (at ts (get_or numbers i 0))) h (IsAdded-same ts mid new f (g (at ts (get_or numbers i 0))) e k))

  pub each-over : (ns numbers : List ℕ) (rest i limit : ℕ) → i < length numbers → u' ≡ apply u (at ts (get_or numbers i 0)) → IsAdded ts old (flat_map (λ a. fills (cell_of ts cells) (apply u a) ns rest) (map (at ts) (take i numbers))) mid → IsOverfull limit (map (term_by ts) mid) (fills (cell_of ts cells) u' ns rest) → IsOverfull limit (map (term_by ts) old) (flat_map (λ a. fills (cell_of ts cells) (apply u a) ns rest) (map (at ts) numbers))
  each-over ns numbers rest i limit l p h k =
      let f = fills (cell_of ts cells) u' ns rest in
      let g : Applicative → List Applicative = λ a. fills (cell_of ts cells) (apply u a) ns rest in
      let e : f ≡ g (at ts (get_or numbers i 0)) = ap (λ (t : Applicative). fills (cell_of ts cells) t ns rest) p in
      IsOverfull-within ts limit old mid (flat_map g (map (at ts) (take i numbers))) f (flat_map g (map (at ts) numbers)) h
      (λ z j. let r = in_flat_map g (map (at ts) (take i numbers)) z j in flat_map_in g (map (at ts) numbers) z r.0 (take_in ts numbers i r.0 r.1) r.2)
      (λ z j. let P : List Applicative → Type 0 = λ zs. IsIn zs z in flat_map_in g (map (at ts) numbers) z (at ts (get_or numbers i 0)) (at_in ts numbers i l) (subst P e j))
      k

  pub size-step : (n : ℕ) (ns numbers : List ℕ) (rest t : ℕ) → u' ≡ u → numbers ≡ cell_at cells t n → IsAdded ts old (over t (at_size n ns rest)) mid → IsAdded ts mid (flat_map (λ a. fills (cell_of ts cells) (apply u' a) ns (rest - t)) (map (at ts) numbers)) new → IsAdded ts old (over (t + 1) (at_size n ns rest)) new
  size-step n ns numbers rest t p q h k =
      let e : flat_map (λ a. fills (cell_of ts cells) (apply u' a) ns (rest - t)) (map (at ts) numbers) ≡ at_size n ns rest t =
      λ i. flat_map (λ a. fills (cell_of ts cells) (apply (p i) a) ns (rest - t)) (map (at ts) (q i)) in
      IsAdded-same ts old new (over t (at_size n ns rest) ++ at_size n ns rest t) (over (t + 1) (at_size n ns rest)) (sym (over-next t (at_size n ns rest)))
      (IsAdded-append ts old mid new (over t (at_size n ns rest)) (at_size n ns rest t) h (IsAdded-same ts mid new _ (at_size n ns rest t) e k))

  pub size-over : (n : ℕ) (ns numbers : List ℕ) (rest t limit : ℕ) → t < rest + 1 → u' ≡ u → numbers ≡ cell_at cells t n → IsAdded ts old (over t (at_size n ns rest)) mid → IsOverfull limit (map (term_by ts) mid) (flat_map (λ a. fills (cell_of ts cells) (apply u' a) ns (rest - t)) (map (at ts) numbers)) → IsOverfull limit (map (term_by ts) old) (over (rest + 1) (at_size n ns rest))
  size-over n ns numbers rest t limit l p q h k =
      let f = flat_map (λ a. fills (cell_of ts cells) (apply u' a) ns (rest - t)) (map (at ts) numbers) in
      let e : f ≡ at_size n ns rest t = λ i. flat_map (λ a. fills (cell_of ts cells) (apply (p i) a) ns (rest - t)) (map (at ts) (q i)) in
      IsOverfull-within ts limit old mid (over t (at_size n ns rest)) f (over (rest + 1) (at_size n ns rest)) h
      (λ z j. let r = in_over t (at_size n ns rest) z j in over_in (rest + 1) (at_size n ns rest) z r.0 (omega (arith, r.1)) r.2)
      (λ z j. let P : List Applicative → Type 0 = λ zs. IsIn zs z in over_in (rest + 1) (at_size n ns rest) z t l (subst P e j))
      k

  -- where the loop over sizes may begin
  pub first-size : (n : ℕ) (others : List Place) (rest first : ℕ) → ((length others ≡ 0) × (first ≡ rest)) ⊎ (first ≡ 0) → over first (at_size n (nodes_of others) rest) ≡ []
  first-size n others rest first (inr p) = ap (λ (m : ℕ). over m (at_size n (nodes_of others) rest)) p
  first-size n [] rest first (inl (l, p)) =
      ap (λ (m : ℕ). over m (at_size n [] rest)) p ∙ over-none rest (at_size n [] rest) (λ t m. last-barren (cell_of ts cells) u rest t (cell_of ts cells t n) m)
  first-size n (o ∷ others) rest first (inl (l, p)) = absurd (omega arith)

-- a loop over a list, whose elements each give terms
module _ {A : Type 0} (ts : List Applicative) (g : A → List Applicative) (old mid new : List (ℕ × List ℕ)) where
  flat_map-more : (xs : List A) (i : ℕ) (x : A) → i < length xs → x ≡ get_or xs i x → flat_map g (take (i + 1) xs) ≡ flat_map g (take i xs) ++ g x
  flat_map-more xs i x l p =
      ap (flat_map g) (take_more xs i x l) ∙ flat_map-append g (take i xs) (get_or xs i x ∷ [])
      ∙ ap (λ (ys : List Applicative). flat_map g (take i xs) ++ ys) (append-nil (g (get_or xs i x)) ∙ ap g (sym p))

  pub list-step : (xs : List A) (i : ℕ) (x : A) → i < length xs → x ≡ get_or xs i x → IsAdded ts old (flat_map g (take i xs)) mid → IsAdded ts mid (g x) new → IsAdded ts old (flat_map g (take (i + 1) xs)) new
  list-step xs i x l p h k = IsAdded-same ts old new (flat_map g (take i xs) ++ g x) (flat_map g (take (i + 1) xs)) (sym (flat_map-more xs i x l p)) (IsAdded-append ts old mid new (flat_map g (take i xs)) (g x) h k)

  pub list-over : (xs : List A) (i limit : ℕ) (x : A) → i < length xs → x ≡ get_or xs i x → IsAdded ts old (flat_map g (take i xs)) mid → IsOverfull limit (map (term_by ts) mid) (g x) → IsOverfull limit (map (term_by ts) old) (flat_map g xs)
  list-over xs i limit x l p h k =
      IsOverfull-within ts limit old mid (flat_map g (take i xs)) (g x) (flat_map g xs) h
      (λ z j. let r = in_flat_map g (take i xs) z j in flat_map_in g xs z r.0 (in-take i r.0 xs r.1) r.2)
      (λ z j. flat_map_in g xs z x (in_at xs x i l (sym p)) j)
      k

-- the same where the list is of numbers of terms
module _ (ts : List Applicative) (g : Applicative → List Applicative) (old mid new : List (ℕ × List ℕ)) where
  pub number-step : (numbers : List ℕ) (i : ℕ) (f : Applicative) → i < length numbers → f ≡ at ts (get_or numbers i 0) → IsAdded ts old (flat_map g (map (at ts) (take i numbers))) mid → IsAdded ts mid (g f) new → IsAdded ts old (flat_map g (map (at ts) (take (i + 1) numbers))) new
  number-step numbers i f l p h k =
      IsAdded-same ts old new (flat_map g (map (at ts) (take i numbers)) ++ g (at ts (get_or numbers i 0))) (flat_map g (map (at ts) (take (i + 1) numbers))) (sym (flat_map-next ts g numbers i l))
      (IsAdded-append ts old mid new (flat_map g (map (at ts) (take i numbers))) (g (at ts (get_or numbers i 0))) h (IsAdded-same ts mid new (g f) (g (at ts (get_or numbers i 0))) (ap g p) k))

  pub number-over : (numbers : List ℕ) (i limit : ℕ) (f : Applicative) → i < length numbers → f ≡ at ts (get_or numbers i 0) → IsAdded ts old (flat_map g (map (at ts) (take i numbers))) mid → IsOverfull limit (map (term_by ts) mid) (g f) → IsOverfull limit (map (term_by ts) old) (flat_map g (map (at ts) numbers))
  number-over numbers i limit f l p h k =
      IsOverfull-within ts limit old mid (flat_map g (map (at ts) (take i numbers))) (g f) (flat_map g (map (at ts) numbers)) h
      (λ z j. let r = in_flat_map g (map (at ts) (take i numbers)) z j in flat_map_in g (map (at ts) numbers) z r.0 (take_in ts numbers i r.0 r.1) r.2)
      (λ z j. let P : Applicative → Type 0 = λ w. IsIn (g w) z in flat_map_in g (map (at ts) numbers) z (at ts (get_or numbers i 0)) (at_in ts numbers i l) (subst P p j))
      k

-- a loop over numbers below a bound
module _ (ts : List Applicative) (h : ℕ → List Applicative) (old mid new : List (ℕ × List ℕ)) where
  pub over-step : (t : ℕ) (es : List Applicative) → es ≡ h t → IsAdded ts old (over t h) mid → IsAdded ts mid es new → IsAdded ts old (over (t + 1) h) new
  over-step t es p a b = IsAdded-same ts old new (over t h ++ h t) (over (t + 1) h) (sym (over-next t h)) (IsAdded-append ts old mid new (over t h) (h t) a (IsAdded-same ts mid new es (h t) p b))

  pub over-over : (t n limit : ℕ) (es : List Applicative) → t < n → es ≡ h t → IsAdded ts old (over t h) mid → IsOverfull limit (map (term_by ts) mid) es → IsOverfull limit (map (term_by ts) old) (over n h)
  over-over t n limit es l p a b =
      IsOverfull-within ts limit old mid (over t h) es (over n h) a
      (λ z j. let r = in_over t h z j in over_in n h z r.0 (omega (arith, r.1, l)) r.2)
      (λ z j. let P : List Applicative → Type 0 = λ zs. IsIn zs z in over_in n h z t l (subst P p j))
      b
