use Rattle.std.proofs.Common.{arith, ◌≡◌, sym, ap, ◌∙◌, subst, ◌++◌, List, map, ℕ, ◌==◌, true}
use Rattle.std.specs.List.{IsDistinct}
use Rattle.std.proofs.lemmas.Bool.Decides.{nat_tests}
use Rattle.std.proofs.lemmas.List.{drop_all, append-nil}
use Rattle.cls_path.specs.Paths.{TypePath}
use Rattle.cls_path.specs.Labels.{key_of, digest_of}
use Rattle.cls_path.proofs.GroupLaws.{distinct_digests}
use Rattle.cls_path.proofs.groups.are_apart.Goals as goal

same_number : (n : ℕ) → (n == n) ≡ true
same_number n = grind (arith, nat_tests)

pub returns : goal.returns
returns g c =
    let t = c.args.taxa.now in
    let met = g.met.T.Taxa in
    let f : TypePath → ℕ = λ p. digest_of (key_of (g.T.Taxa.class t) c.args.mask p) in
    let n = c.args.paths.now in
    let ks = c.loop-path.digests.keys in
    let e : map f n ≡ ks = c.loop-path.invariant.same ∙ (ap (λ (l : List TypePath). ks ++ map f l) (drop_all c.loop-path.path-index n (omega (arith, c.loop-path-test.false))) ∙ append-nil ks) in
    λ _. distinct_digests (g.T.Taxa.is_below t) (g.T.Taxa.variance_of_name t) (met.reflexive t) (met.transitive t) (met.one_variance t) (g.T.Taxa.class t) (met.one_class t) c.args.mask n c.requires.suits c.requires.fits (λ m n. m == n) same_number n (λ p i. i)
    (subst (λ (ks : List ℕ). IsDistinct (λ m n. m == n) ks) (sym e) c.loop-path.invariant.distinct)
