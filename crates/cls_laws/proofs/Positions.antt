-- The positions of a minimal cover.
use Rattle.std.proofs.Common.{ℕ, zero, suc, ◌≡◌, ◌<◌, sym, subst, List, [], ◌∷◌, length, arith, Contains}
use Rattle.std.specs.Prelude.{slice_get, IsSomeAnd}
use Rattle.cls_path.specs.Paths.{Paths}
use Rattle.cls_cert.specs.Subsets.{kept, kept_sub, kept_has, kept_below}
use Rattle.cls_cover.specs.Covers.{IsMinimal}
use Rattle.cls_cover.specs.Members.{Member}
use Rattle.cls_cover.proofs.Lists.{contains_member, member_contains}
use Rattle.cls_library.specs.Arrows.{MultiArrow}
use Rattle.cls_library.specs.Libraries.{Library}
use Rattle.cls_library.specs.Reaching.{CoversGoal}

some_within : (P : MultiArrow → Type 0) (xs : List MultiArrow) (i : ℕ) → IsSomeAnd (slice_get xs i) P → i < length xs
some_within P [] i h = absurd h
some_within P (x ∷ xs) zero h = omega arith
some_within P (x ∷ xs) (suc i) h = let j : i < length xs = some_within P xs i h in omega arith

module _ (l : Library) where
  pub minimal_below : (arrows : List MultiArrow) (goal : Paths) (s : List ℕ) → IsMinimal (CoversGoal l arrows goal) s → (i : ℕ) → Contains s i → i < length arrows
  minimal_below arrows goal s m i h =
      let n = length arrows in
      let covers : CoversGoal l arrows goal (kept n s) = λ q k. let r = m.covers q k in (r.0, member_contains (kept_has n r.0 s (some_within _ arrows r.0 r.2) (contains_member s r.0 r.1)), r.2) in
      let e : kept n s ≡ s = m.minimal (kept n s) (kept_sub n s) covers in
      kept_below n i s (subst (λ (t : List ℕ). Member t i) (sym e) (contains_member s i h))
