use Rattle.std.proofs.Common.{rules, ◌≡◌, sym, subst, ◌⊎◌, ◌↔◌, inl, inr, [], ◌∷◌, ◌++◌}
use Rattle.std.specs.Prelude.{Contains}
use Rattle.std.proofs.lemmas.List.Elements.{Contains-push, Contains-push_cases, Contains-append_left}
use Rattle.cls_base.proofs.Lists.{Contains-nil}
use Rattle.cls_path.specs.Paths.{TypePath}
use Rattle.cls_path.specs.Groups.{Holds}
use Rattle.cls_path.proofs.GroupLaws.{groups_of}
use Rattle.cls_path.proofs.groups.grouped.Goals as goal

pub loop-path-preserved : goal.loop-path-preserved
loop-path-preserved g c =
    let n = c.pop.new.self.items in
    let p = c.in-Some.path in
    let old = c.loop-path.groups.items in
    let e : c.loop-path.paths.items ≡ n ++ p ∷ [] = c.in-Some.ensures.items in
    let held : (q : TypePath) → Holds c.put_in_group.new.groups.items q ↔ (Holds old q ⊎ (q ≡ p)) = c.in_ok-put_in_group.ensures.held in
    record {
      keyed = c.in_ok-put_in_group.ensures.keyed;
      same = λ q. (
        λ h. (c.loop-path.invariant.same q).0 (elim h [
          | inl a ↦ elim ((held q).0 a) [
            | inl b ↦ inl b
            | inr f ↦ inr (subst (λ l. Contains l q) (sym e) (subst (λ x. Contains (n ++ p ∷ []) x) (sym f) (Contains-push n p)))
          ]
          | inr b ↦ inr (subst (λ l. Contains l q) (sym e) (Contains-append_left n (p ∷ []) q b))
        ]),
        λ h. elim ((c.loop-path.invariant.same q).1 h) [
          | inl a ↦ inl ((held q).1 (inl a))
          | inr b ↦ elim (Contains-push_cases n p q (subst (λ l. Contains l q) e b)) [
            | inl k ↦ inr k
            | inr f ↦ inl ((held q).1 (inr (sym f)))
          ]
        ],
      );
    }

pub returns : goal.returns
returns g c =
    let t = c.args.taxa.now in
    let met = g.met.T.Taxa in
    let e : c.loop-path.paths.items ≡ [] = search rules in
    groups_of (g.T.Taxa.is_below t) (g.T.Taxa.variance_of_name t) (met.reflexive t) (met.transitive t) (met.one_variance t) (g.T.Taxa.class t) (met.one_class t) c.args.mask c.args.paths.items c.requires.suits c.requires.fits c.loop-path.keys.keys c.loop-path.groups.items c.loop-path.invariant.keyed (λ p. (
      λ h. (c.loop-path.invariant.same p).0 (inl h),
      λ h. elim ((c.loop-path.invariant.same p).1 h) [ inl a ↦ a | inr b ↦ absurd (Contains-nil p (subst (λ l. Contains l p) e b)) ],
    ))
