-- Stems of paths: what a path tells of those below it, and the chains that hold all of them.
use Rattle.std.proofs.Common.{◌≡◌, ℕ, zero, suc, ◌+◌, ◌%◌, ◌<◌, true, false, List, [], ◌∷◌, length, get_or, Option, None, Some, IsTrue, refl, sym, subst, ap, ◌∙◌, eqb-true}
use Rattle.std.specs.Borrow.{Bor}
use Rattle.std.specs.Prelude.{◌==◌, IfSome}
use Rattle.std.proofs.lemmas.List.{get_or-map, length-map}
use Rattle.std.proofs.lemmas.Nat.{mod_below}
use Rattle.std.proofs.lemmas.Option.{slice_get_within}
use Rattle.cls_base.specs.Lists.{AreBelow}
use Rattle.cls_base.specs.Taxa.{Below}
use Rattle.cls_path.specs.Paths.{TypePath, atom, inside, unit, left, right, function, sealed, PathLe, atoms, inside_atom, insides, units, left_unit, right_unit, lefts, rights, functions, contravariants, invariants}
use Rattle.cls_taxon.specs.Decisions.{is_below}
use Rattle.cls_taxon.specs.Orders.{Declared, class_by}
use Rattle.cls_library.specs.declared.ending.Ending.{Ending}
use Rattle.cls_library.specs.declared.stems.StemTable.{StemTable}
use Rattle.cls_library.specs.declared.stems.Stems.{Stems}
use Rattle.cls_library.specs.Chains.{AreChained}
use Rattle.cls_library.specs.Endings.{AreEndings, IsFound, ending_behind, ending_of, head_of, is_alone}
use Rattle.cls_library.specs.Libraries.{below_in, variances_in}
use Rattle.cls_library.specs.Splits.{target_at}
use Rattle.cls_library.specs.Quick.{is_own, tells}
use Rattle.cls_library.specs.Stems.{stem_of, digest_of, stem_number, numbers_of, AreStems, IsStemTable, IsTableIf, HoldsLeading}
use Rattle.cls_library.proofs.Along.{silent-other}
use Rattle.cls_library.proofs.EndingLaws.{both, endings-length}
use Rattle.cls_library.proofs.Lone.{alone, not-zero}

differs : false ≡ true → ⊥
differs e = cc

-- the stem of what is left of a path
target-stem : (k n : ℕ) (p : TypePath) → stem_of k (target_at n p) ≡ stem_of k p
target-stem zero n p = refl
target-stem (suc k) zero p = refl
target-stem (suc k) (suc n) (function s p) = target-stem (suc k) n p
target-stem (suc k) (suc n) (atom c) = refl
target-stem (suc k) (suc n) (inside c p) = refl
target-stem (suc k) (suc n) unit = refl
target-stem (suc k) (suc n) (left p) = refl
target-stem (suc k) (suc n) (right p) = refl
target-stem (suc k) (suc n) (sealed c s) = refl

-- no more of a stem is wanted
no-more : (k : ℕ) (p : TypePath) → (k == 0) ≡ true → stem_of k p ≡ []
no-more k p e = subst (λ (j : ℕ). stem_of j p ≡ []) (sym (eqb-true k 0 e)) refl

module _ (d : Declared) where
  abbrev class : ℕ → ℕ
  class = class_by d.pairs

  own-alike : (a b : ℕ) → is_own class b ≡ true → Below (is_below d) a b → a ≡ b
  own-alike a b o l = alone d a b (not-zero (class b) o) l

  -- a path below one that tells has the same stem
  pub alike : (k : ℕ) {p q : TypePath} → tells class k q ≡ true → PathLe (below_in d) (variances_in d) p q → stem_of k p ≡ stem_of k q
  alike zero t h = refl
  alike (suc k) t (atoms {c = c} {d = e} h) = ap (λ (x : ℕ). (x + 2) ∷ []) (own-alike c e (both (is_own class e) (k == 0) t).0 h)
  alike (suc k) t (inside_atom {c = c} {d = e} {p = p} h) =
      let r = both (is_own class e) (k == 0) t in
      ap (λ (x : ℕ). (x + 2) ∷ stem_of k p) (own-alike c e r.0 h) ∙ ap (λ (xs : List ℕ). (e + 2) ∷ xs) (no-more k p r.1)
  alike (suc k) t (insides {c = c} {d = e} {p = p} {q = q} h l) =
      let r = both (is_own class e) (tells class k q) t in
      ap (λ (x : ℕ). (x + 2) ∷ stem_of k p) (own-alike c e r.0 h) ∙ ap (λ (xs : List ℕ). (e + 2) ∷ xs) (alike k r.1 l)
  alike (suc k) t units = refl
  alike (suc k) t left_unit = absurd (differs t)
  alike (suc k) t right_unit = absurd (differs t)
  alike (suc k) t (lefts l) = ap (λ (xs : List ℕ). 0 ∷ xs) (alike k t l)
  alike (suc k) t (rights l) = ap (λ (xs : List ℕ). 1 ∷ xs) (alike k t l)
  alike (suc k) t (functions h l) = alike (suc k) t l
  alike (suc k) t (contravariants {c = c} {d = e} v w h l) = ap (λ (x : ℕ). (x + 2) ∷ []) (own-alike c e (both (is_own class e) (k == 0) t).0 h)
  alike (suc k) t (invariants {c = c} {d = e} v w h l m) = ap (λ (x : ℕ). (x + 2) ∷ []) (own-alike c e (both (is_own class e) (k == 0) t).0 h)

pub number-below : (count depth : ℕ) (p : TypePath) → 0 < count → stem_number count depth p < count
number-below count depth p s = mod_below (digest_of 0 (stem_of depth p)) count s

pub numbers-below : (count depth : ℕ) → 0 < count → (ps : List TypePath) → AreBelow count (numbers_of count depth ps)
numbers-below count depth s [] = tt
numbers-below count depth s (p ∷ ps) = (number-below count depth p s, numbers-below count depth s ps)

module _ (d : Declared) (n : ℕ) (q : TypePath) (ps : List TypePath) where
  -- by its stem the path tells in which chain all paths are that lead to it
  pub by-stem : (t : StemTable) → IsStemTable ps t → tells (class_by d.pairs) t.depth q ≡ true
      → HoldsLeading d n q ps t.chains.firsts.items t.chains.next.items (stem_number t.count t.depth q)
  by-stem t h told = record {
    kinds = numbers_of t.count t.depth ps;
    count = t.count;
    within = number-below t.count t.depth q h.some;
    many = length-map ps (stem_number t.count t.depth);
    chained = h.chained;
    other = λ i l apart many le. apart (get_or-map (stem_number t.count t.depth) ps i unit 0 l ∙ same (get_or ps i unit) le);
  }
    where
      same : (p : TypePath) → PathLe (below_in d) (variances_in d) (target_at n p) q → stem_number t.count t.depth p ≡ stem_number t.count t.depth q
      same p le = ap (λ (xs : List ℕ). digest_of 0 xs % t.count) (sym (target-stem t.depth n p) ∙ alike d t.depth told le)

  -- the same by the ending that alone may lead to it
  pub by-ending :
      IsTrue (is_alone (class_by d.pairs) (head_of q)) → (kinds : List Ending) (ks firsts next : List ℕ) → AreEndings kinds ks ps
      → AreChained 0 (length kinds) ks firsts next → (k : ℕ) → IsFound kinds (ending_behind n (ending_of q)) (Some k) → HoldsLeading d n q ps firsts next k
  by-ending own kinds ks firsts next h chained k found = record {
    kinds = ks;
    count = length kinds;
    within = slice_get_within kinds k _ ((found k).1 refl);
    many = endings-length kinds ks ps h;
    chained = chained;
    other = λ i l apart. silent-other d n q ps own kinds ks h k i found l apart;
  }

-- a table that is found among those of pairs is one of the paths
pub of-pairs :
    (s : Stems) (r : Option (Bor StemTable)) → IfSome r (λ t. (ps : List TypePath) → IsTableIf ps s.pairs → IsStemTable ps t.now)
    → IfSome r (λ t. (ps : List TypePath) → AreStems ps s → IsStemTable ps t.now)
of-pairs s None h = h
of-pairs s (Some t) h = λ ps k. h ps k.0
