-- The arrows of one ending that lead to a path, and where they stand.
use Rattle.std.proofs.Common.{◌≡◌, ℕ, zero, suc, ◌+◌, ◌<◌, ◌≤◌, min, ◌⊎◌, inl, inr, true, List, [], ◌∷◌, length, Option, None, Some, refl, sym, subst, ap, ◌∙◌, arith, IsTrue}
use Rattle.std.specs.Borrow.{Bor}
use Rattle.std.specs.Prelude.{Contains, slice_get, slice_index_or, IsSomeAnd}
use Rattle.std.proofs.lemmas.Option.{slice_get_within}
use Rattle.cls_base.specs.Limits.{max_arity}
use Rattle.cls_base.proofs.Lists.{Contains-at, Contains-nil, Contains-place}
use Rattle.cls_path.specs.Paths.{TypePath, atom, inside, unit, left, right, function, sealed, Paths, none, more, PathLe, atoms, inside_atom, units, left_unit, right_unit}
use Rattle.cls_taxon.specs.DecisionLaws.{is_below-reflexive}
use Rattle.cls_taxon.specs.Decisions.{is_below}
use Rattle.cls_taxon.specs.Orders.{Declared, class_by}
use Rattle.cls_library.specs.declared.ending.Ending.{Ending}
use Rattle.cls_library.specs.declared.ending.Head.{Head}
use Rattle.cls_library.specs.declared.ending.Head.TheVariants.{Covariant, Product, Sealed}
use Rattle.cls_library.specs.declared.index.Entry.{Entry}
use Rattle.cls_library.specs.declared.lead.Lead.{Lead}
use Rattle.cls_library.specs.declared.place.Place.{Place}
use Rattle.cls_library.specs.declared.sought.Sought.{Sought}
use Rattle.cls_library.specs.Arrows.{MultiArrow, leading_arrows, arity_of, arrows_of, onto}
use Rattle.cls_library.specs.Endings.{IsSought, ending_behind, ending_of, head_of, is_alone, is_bare}
use Rattle.cls_library.specs.Families.{IsBefore, IsFamilyIn, IsNext, IsPlace}
use Rattle.cls_library.specs.Index.{AreEntries, EndsIn, IsEntry, Spot, paths_in}
use Rattle.cls_library.specs.Leads.{AreSoughtEntries, EndAlike, IsFirstFrom, IsLead, Leads}
use Rattle.cls_library.specs.Libraries.{Component, Library, below_in, variances_in, no_component, arrows_at}
use Rattle.cls_library.proofs.EndingLaws.{may-end, same-ending}
use Rattle.cls_library.proofs.Lone.{one-leads}
use Rattle.cls_library.proofs.Orders.{less-or-not, before_itself, not_later}
use Rattle.cls_library.proofs.Places.{split-few}

-- the entries that a lead keeps
pub kept-entries : (l : Library) (lead : Lead) (entries : Bor (List Entry)) → lead.entries ≡ Some entries → IsLead l lead → AreSoughtEntries l lead.sought (Some entries)
kept-entries l lead entries is h = subst (λ (o : Option (Bor (List Entry))). AreSoughtEntries l lead.sought o) is h.entries

some-map : {A : Type 0} (o : Option A) (P Q : A → Type 0) → ((a : A) → P a → Q a) → IsSomeAnd o P → IsSomeAnd o Q
some-map None P Q f h = h
some-map (Some a) P Q f h = f a h

pub some-within : {A : Type 0} (xs : List A) (i : ℕ) (P : A → Type 0) → IsSomeAnd (slice_get xs i) P → i < length xs
some-within [] i P h = absurd h
some-within (x ∷ xs) zero P h = omega arith
some-within (x ∷ xs) (suc i) P h = let r = some-within xs i P h in omega arith

-- an arrow stands at a place of its component
pub within-arity : (n : ℕ) (ps : Paths) (i : ℕ) (P : MultiArrow → Type 0) → IsSomeAnd (slice_get (arrows_of n ps) i) P → n ≤ arity_of ps
within-arity n none i P h = absurd h
within-arity n (more p rest) i P h = elim (less-or-not (leading_arrows p) n) [
  | inl l ↦ (let r = within-arity n rest i P (subst (λ o. IsSomeAnd (slice_get (onto o (arrows_of n rest)) i) P) (split-few n p l) h) in omega arith)
  | inr l ↦ omega arith
]

in-or-none : (cs : List Component) (x : ℕ) → (x < length cs) ⊎ (slice_index_or cs x no_component ≡ no_component)
in-or-none [] x = inr refl
in-or-none (c ∷ cs) zero = inl (omega arith)
in-or-none (c ∷ cs) (suc x) = elim (in-or-none cs x) [ inl l ↦ inl (omega arith) | inr e ↦ inr e ]

pub within-library : (cs : List Component) (x n i : ℕ) (P : MultiArrow → Type 0) → IsSomeAnd (slice_get (arrows_of n (paths_in cs x)) i) P → x < length cs
within-library cs x n i P h = elim (in-or-none cs x) [
  | inl l ↦ l
  | inr e ↦ absurd (let k = subst (λ (c : Component). IsSomeAnd (slice_get (arrows_of n c.paths) i) P) e h in k)
]

-- a path that is below one whose head is alone has the same ending
same-end : (d : Declared) (p q : TypePath) → PathLe (below_in d) (variances_in d) p q → is_alone (class_by d.pairs) (head_of q) ≡ true → ending_of p ≡ ending_of q
same-end d p q le alone =
    let m = may-end (is_below d) (variances_in d) 0 p q (omega arith) le in
    let w : ending_behind 0 (ending_of q) ≡ ending_of p = same-ending (ending_behind 0 (ending_of q)) (ending_of p) (sym (one-leads d 0 (ending_of q) alone (ending_of p)) ∙ m) in
    let a : min (max_arity + 1) (0 + min (max_arity + 1) (leading_arrows q)) ≡ min (max_arity + 1) (leading_arrows q) = omega arith in
    let b : ending_behind 0 (ending_of q) ≡ ending_of q = (λ i. record { arrows = a i; head = head_of q }) in
    sym w ∙ b

abbrev name-of : Head → ℕ
name-of (Covariant c) = c.0
name-of Product = 0
name-of (Sealed c) = c.0

no-arrows : (p q : TypePath) → leading_arrows q ≡ 0 → ending_of p ≡ ending_of q → leading_arrows p ≡ 0
no-arrows p q z e =
    let a : min (max_arity + 1) (leading_arrows p) ≡ min (max_arity + 1) (leading_arrows q) = ap (λ (f : Ending). f.arrows) e in
    omega arith

module _ (d : Declared) where
  below-same : (b c : ℕ) → b ≡ c → IsTrue (is_below d b c)
  below-same b c e = subst (λ (k : ℕ). IsTrue (is_below d b k)) e (is_below-reflexive d b)

  -- a path whose head is the name, without leading arrows, is below the name over omega
  below-name : (p : TypePath) (c : ℕ) → leading_arrows p ≡ 0 → head_of p ≡ head_of (atom c) → PathLe (below_in d) (variances_in d) p (atom c)
  below-name (atom b) c e h = atoms (below-same b c (ap name-of h))
  below-name (inside b p) c e h = inside_atom (below-same b c (ap name-of h))
  below-name unit c e h = cc
  below-name (left p) c e h = cc
  below-name (right p) c e h = cc
  below-name (function n p) c e h = absurd (omega arith)
  below-name (sealed b n) c e h = cc

  -- a product is below that of omega and omega
  below-unit : (p : TypePath) → leading_arrows p ≡ 0 → head_of p ≡ Product → PathLe (below_in d) (variances_in d) p unit
  below-unit (atom b) e h = cc
  below-unit (inside b p) e h = cc
  below-unit unit e h = units
  below-unit (left p) e h = left_unit
  below-unit (right p) e h = right_unit
  below-unit (function n p) e h = absurd (omega arith)
  below-unit (sealed b n) e h = cc

  -- each path of its ending is below a bare path
  below-bare : (p q : TypePath) → is_bare q ≡ true → ending_of p ≡ ending_of q → PathLe (below_in d) (variances_in d) p q
  below-bare p (atom c) b e = below-name p c (no-arrows p (atom c) refl e) (ap (λ (f : Ending). f.head) e)
  below-bare p unit b e = below-unit p (no-arrows p unit refl e) (ap (λ (f : Ending). f.head) e)
  below-bare p (inside c q) b e = cc
  below-bare p (left q) b e = cc
  below-bare p (right q) b e = cc
  below-bare p (function n q) b e = cc
  below-bare p (sealed c n) b e = cc

module _ (l : Library) (t : Spot) where
  -- an arrow whose target has the ending of a bare path leads to it
  pub bare-leads : (q : TypePath) → is_bare q ≡ true → EndsIn l.components (ending_of q) t → Leads l q t
  bare-leads q b h = some-map (slice_get (arrows_at l t.place.component t.place.count) t.position) (λ a. ending_of a.target ≡ ending_of q) (λ a. PathLe (below_in l.taxonomy) (variances_in l.taxonomy) a.target q)
      (λ a e. below-bare l.taxonomy a.target q b e) h

  -- the arrow is one of a component of the library
  module _ (e : Ending) (h : EndsIn l.components e t) where
    pub spot-place : IsPlace l t.place
    spot-place = record {
      declared = within-library l.components t.place.component t.place.count t.position (λ a. ending_of a.target ≡ e) h;
      within = within-arity t.place.count (paths_in l.components t.place.component) t.position (λ a. ending_of a.target ≡ e) h;
    }

    pub spot-within : t.position < length (arrows_at l t.place.component t.place.count)
    spot-within = some-within (arrows_at l t.place.component t.place.count) t.position (λ a. ending_of a.target ≡ e) h

module _ (l : Library) (q : TypePath) (s : Sought) (sought : IsSought l.taxonomy q s) (alone : IsTrue s.alone) (entries : List Entry) (h : AreEntries l.components s.ending entries) where
  lone : is_alone (class_by l.taxonomy.pairs) (head_of q) ≡ true
  lone = ap (λ (e : Ending). is_alone (class_by l.taxonomy.pairs) e.head) (sym sought.ending) ∙ (sym sought.alone ∙ alone)

  -- an arrow that leads has the ending that is sought
  ends-so : (t : Spot) → Leads l q t → EndsIn l.components s.ending t
  ends-so t leads =
      some-map (slice_get (arrows_at l t.place.component t.place.count) t.position) (λ a. PathLe (below_in l.taxonomy) (variances_in l.taxonomy) a.target q) (λ a. ending_of a.target ≡ s.ending)
      (λ a le. same-end l.taxonomy a.target q le lone ∙ sym sought.ending) leads

  -- its place stands among the entries
  stands : (t : Spot) → Leads l q t → (u : Entry) × Contains entries u × (u.place ≡ t.place)
  stands t leads = h.whole t (ends-so t leads)

  is-place : (t : Entry) → Contains entries t → IsPlace l t.place
  is-place t c = let r = (h.each t c).some in spot-place l (record { place = t.place; position = r.0 }) s.ending r.1

  pub none-at : (p : Place) → ((t : Entry) → Contains entries t → t.place ≡ p → ⊥) → IsFamilyIn l.taxonomy (arrows_at l p.component p.count) q []
  none-at p n = record {
    ascends = λ k m. absurd (omega arith);
    exactly = λ i. ((λ c. absurd (Contains-nil i c)), (λ leads. absurd (let r = stands (record { place = p; position = i }) leads in n r.0 r.1 r.2)));
  }

  module _ (from : Place) (i : ℕ) (f : IsFirstFrom entries from i) where
    pub next-none : (rest : Paths) → length entries ≤ i → IsNext l (more q rest) from None
    next-none rest k = λ p w later. none-at p (λ t c g.
        let r = Contains-place entries t c in
        let m = slice_get_within entries r.0 t r.1 in
        later (subst (λ (x : Place). IsBefore x from) g (f.before r.0 t (omega arith) r.1)))

    pub next-some : (rest : Paths) (t : Entry) → slice_get entries i ≡ Some t → IsNext l (more q rest) from (Some t.place)
    next-some rest t e = record {
      place = is-place t (Contains-at entries i t e);
      later = f.from t e;
      passed = λ p w later before. none-at p (λ u c g.
          let r = Contains-place entries u c in
          elim (less-or-not r.0 i) [
            | inl m ↦ later (subst (λ (x : Place). IsBefore x from) g (f.before r.0 u m r.1))
            | inr m ↦ between r.0 u r.1 m (subst (λ (x : Place). IsBefore x t.place) (sym g) before)
          ]);
    }
      where
        between : (k : ℕ) (u : Entry) → slice_get entries k ≡ Some u → i ≤ k → IsBefore u.place t.place → ⊥
        between k u g m before = elim (less-or-not i k) [
          | inl n ↦ not_later t.place u.place (h.in_order i k t u n e g) before
          | inr n ↦ (let same : k ≡ i = omega arith in
              let both : Some u ≡ Some t = sym g ∙ (ap (slice_get entries) same ∙ e) in
              let one : u ≡ t = cc in
              before_itself t.place (subst (λ (x : Entry). IsBefore x.place t.place) one before))
        ]

  pub entry-for : (t : Entry) → Contains entries t → IsEntry (EndsIn l.components (ending_of q)) t
  entry-for t c = subst (λ (f : Ending). IsEntry (EndsIn l.components f) t) sought.ending (h.each t c)

  pub ends-alike : (p : Place) → EndAlike l q p
  ends-alike p = λ k leads. subst (λ (f : Ending). EndsIn l.components f (record { place = p; position = k })) sought.ending (ends-so (record { place = p; position = k }) leads)

module _ (l : Library) (q : TypePath) (t : Entry) (entry : IsEntry (EndsIn l.components (ending_of q)) t) (ends : EndAlike l q t.place) where
  abbrev pub at : ℕ → Spot
  at i = record { place = t.place; position = i }

  pub entry-place : IsPlace l t.place
  entry-place = spot-place l (at entry.some.0) (ending_of q) entry.some.1

  -- the entry has one arrow of the place alone
  module _ (position : ℕ) (one : t.only ≡ Some position) where
    it-alone : (i : ℕ) → EndsIn l.components (ending_of q) (at i) → i ≡ position
    it-alone i here = entry.only position i one here

    pub family-silent : (Leads l q (at position) → ⊥) → IsFamilyIn l.taxonomy (arrows_at l t.place.component t.place.count) q []
    family-silent away = record {
      ascends = λ k m. absurd (omega arith);
      exactly = λ i. (
        (λ c. absurd (Contains-nil i c)),
        (λ leads. absurd (away (subst (λ (k : ℕ). Leads l q (at k)) (it-alone i (ends i leads)) leads))),
      );
    }
