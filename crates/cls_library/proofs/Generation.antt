-- Applications and intersections have types as their parts do.
use Rattle.std.proofs.Common.{ℕ, ◌↔◌}
use Rattle.cls_base.specs.Types.{ClosedType, arrow, meet}
use Rattle.cls_base.specs.Taxonomies.{Variance}
use Rattle.cls_base.specs.Subtyping.{Subtype, reflexivity, transitivity, meet_left, meet_right, to_meet, arrow_meet, arrows}
use Rattle.cls_base.specs.Terms.{Applicative, apply}
use Rattle.cls_base.specs.Typing.{HasType, by_application, by_intersection, by_subsumption}

module _ (below : ℕ → ℕ → Type 0) (variance : ℕ → Variance) (instance : ℕ → ClosedType → Type 0) where
  abbrev Sub : ClosedType → ClosedType → Type 0
  Sub s t = Subtype below variance s t

  abbrev Typed : Applicative → ClosedType → Type 0
  Typed e t = HasType below variance instance e t

  -- the intersection of two arrows is below the arrow of both intersections
  both_arrows : (s t u v : ClosedType) → Sub (meet (arrow s t) (arrow u v)) (arrow (meet s u) (meet t v))
  both_arrows s t u v =
      transitivity (to_meet (transitivity meet_left (arrows meet_left reflexivity)) (transitivity meet_right (arrows meet_right reflexivity))) arrow_meet

  pub generated : {f a : Applicative} {t : ClosedType} → Typed (apply f a) t → (s : ClosedType) × Typed f (arrow s t) × Typed a s
  generated (by_application {s = s} h k) = (s, h, k)
  generated (by_intersection {s = t} {t = v} h k) =
      let l = generated h in
      let r = generated k in
      (meet l.0 r.0, by_subsumption (by_intersection l.1 r.1) (both_arrows l.0 t r.0 v), by_intersection l.2 r.2)
  generated (by_subsumption h k) = let r = generated h in (r.0, by_subsumption r.1 (arrows reflexivity k), r.2)

  pub application : (f a : Applicative) (t : ClosedType) → Typed (apply f a) t ↔ ((s : ClosedType) × Typed f (arrow s t) × Typed a s)
  application f a t = ((λ h. generated h), (λ r. by_application r.1 r.2))

  pub intersection : (e : Applicative) (s t : ClosedType) → Typed e (meet s t) ↔ (Typed e s × Typed e t)
  intersection e s t = ((λ h. (by_subsumption h meet_left, by_subsumption h meet_right)), (λ r. by_intersection r.0 r.1))
