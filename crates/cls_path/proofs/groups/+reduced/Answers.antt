use Rattle.std.proofs.Common.{rules, arith, ◌≡◌, ◌∙◌, sym, subst, [], inl, inr}
use Rattle.std.specs.Prelude.{Contains}
use Rattle.std.specs.List.{IsDistinct}
use Rattle.cls_base.specs.Taxa.{Below}
use Rattle.cls_path.specs.Paths.{TypePath, listed, SuitsAll, InPaths}
use Rattle.cls_path.specs.Groups.{IsCleared, comparable}
use Rattle.cls_path.specs.Labels.{Fits}
use Rattle.cls_path.proofs.Ascending.{in_contained, contained_in}
use Rattle.cls_path.proofs.Clearing.{reduced_cleared}
use Rattle.cls_path.proofs.Remains.{suits_within, canonical_within}
use Rattle.cls_path.proofs.GroupLaws.{AreJoined, joined_first, joined_held, joined_more, joined_all, reduced_one, reduced_apart}
use Rattle.cls_path.proofs.LabelLaws.{heads_fit}
use Rattle.cls_path.proofs.groups.+reduced.Goals as goal

pub loop-group-init : goal.loop-group-init
loop-group-init g t c =
    let b = g.T.Taxa.is_below c.args.taxa.now in
    let v = g.T.Taxa.variance_of_name c.args.taxa.now in
    subst (λ n. AreJoined b v c.args.paths.items c.in_ok-groups.groups.items n) (sym c.new-least.ensures.items) (joined_first b v c.args.paths.items c.in_ok-groups.groups.items c.in_ok-groups.ensures)

pub are_apart-requires-clause-fits : goal.are_apart-requires-clause-fits
are_apart-requires-clause-fits g t c = λ p i. c.of-all.ensures p (subst (λ l. Contains l p) (c.deref-2.ensures.value ∙ sym c.deref.ensures.value) i)

pub grouped-requires-clause-fits : goal.grouped-requires-clause-fits
grouped-requires-clause-fits g t c = λ p i.
    let b = Below (g.T.Taxa.is_below c.args.taxa.now) in
    let k = g.T.Taxa.class c.args.taxa.now in
    elim c.in_round-mask.ensures [
      | inl e ↦ subst (λ m. Fits b k m p) (sym e) (c.of-all.ensures p (subst (λ l. Contains l p) (sym c.deref.ensures.value) i))
      | inr e ↦ subst (λ m. Fits b k m p) (sym e) (heads_fit b k p)
    ]

pub cleared-requires : goal.cleared-requires
cleared-requires g t c =
    let b = g.T.Taxa.is_below c.args.taxa.now in
    let v = g.T.Taxa.variance_of_name c.args.taxa.now in
    let n = c.args.paths.items in
    let gs = c.pop.new.self.items in
    let h = subst (λ x. AreJoined b v n x c.loop-group.least.items) c.in-Some.ensures.items c.loop-group.invariant in
    let into : (p : TypePath) → InPaths (listed c.in-Some.group) p → InPaths (listed n) p =
    (λ p i. contained_in n p (joined_held b v n c.loop-group.least.items gs c.in-Some.group h p (in_contained c.in-Some.group p i))) in
    subst (λ m. SuitsAll v (listed m)) (sym c.group.view_is) (suits_within (Below b) v (listed c.in-Some.group) (listed n) c.requires.suits into)

pub reduced-requires : goal.reduced-requires
reduced-requires g t c =
    let b = g.T.Taxa.is_below c.args.taxa.now in
    let v = g.T.Taxa.variance_of_name c.args.taxa.now in
    let n = c.args.paths.items in
    let gs = c.pop.new.self.items in
    let h = subst (λ x. AreJoined b v n x c.loop-group.least.items) c.in-Some.ensures.items c.loop-group.invariant in
    let rest = c.in_ok-rest.rest.items in
    let cleared = subst (λ m. IsCleared b v m rest) c.group.view_is c.in_ok-rest.ensures in
    let into : (p : TypePath) → InPaths (listed rest) p → InPaths (listed n) p =
    (λ p i. contained_in n p (joined_held b v n c.loop-group.least.items gs c.in-Some.group h p (cleared.within p (in_contained rest p i)))) in
    let suits = suits_within (Below b) v (listed rest) (listed n) c.requires.suits into in
    let canonical = canonical_within (Below b) v (listed rest) (listed n) c.requires.canonical into in
    λ κs sub. (omega (arith, c.decreases, c.if-rounds-eq0.false), (sub, (suits, canonical)))

pub loop-group-preserved : goal.loop-group-preserved
loop-group-preserved g t c =
    let b = g.T.Taxa.is_below c.args.taxa.now in
    let v = g.T.Taxa.variance_of_name c.args.taxa.now in
    let met = g.met.T.Taxa in
    let x = c.args.taxa.now in
    let n = c.args.paths.items in
    let gs = c.pop.new.self.items in
    let out = c.loop-group.least.items in
    let rest = c.in_ok-rest.rest.items in
    let few = c.in_ok-few.few.items in
    let h = subst (λ x. AreJoined b v n x out) c.in-Some.ensures.items c.loop-group.invariant in
    let cleared = subst (λ m. IsCleared b v m rest) c.group.view_is c.in_ok-rest.ensures in
    let r = reduced_cleared b v (met.reflexive x) (met.transitive x) (met.one_variance x) c.in-Some.group rest few cleared c.in_ok-few.ensures in
    subst (λ m. AreJoined b v n gs m) (sym c.in_ok-append.ensures.items) (joined_more b v (met.reflexive x) (met.transitive x) (met.one_variance x) n gs c.in-Some.group out few h r)

pub returns : goal.returns
returns g t c =
    let b = g.T.Taxa.is_below c.args.taxa.now in
    let v = g.T.Taxa.variance_of_name c.args.taxa.now in
    let met = g.met.T.Taxa in
    let x = c.args.taxa.now in
    let n = c.args.paths.items in
    let e : c.loop-group.groups.items ≡ [] = search rules in
    joined_all b v (met.reflexive x) (met.transitive x) (met.one_variance x) n c.loop-group.least.items (subst (λ y. AreJoined b v n y c.loop-group.least.items) e c.loop-group.invariant)

pub returns-then-len-le1 : goal.returns-then-len-le1
returns-then-len-le1 g t c =
    let b = g.T.Taxa.is_below c.args.taxa.now in
    let v = g.T.Taxa.variance_of_name c.args.taxa.now in
    let met = g.met.T.Taxa in
    let x = c.args.taxa.now in
    reduced_one b v (met.reflexive x) (met.transitive x) (met.one_variance x) c.args.paths.items (omega (arith, c.len.ensures, c.if-len-le1.true)) c.requires.suits

pub returns-then-branch : goal.returns-then-branch
returns-then-branch g t c =
    let b = g.T.Taxa.is_below c.args.taxa.now in
    let v = g.T.Taxa.variance_of_name c.args.taxa.now in
    let met = g.met.T.Taxa in
    let x = c.args.taxa.now in
    let n = c.args.paths.items in
    let apart = subst (λ m. IsDistinct (comparable b v) m) c.deref-2.ensures.value (c.in_ok-are_apart.ensures c.if-branch.true) in
    reduced_apart b v (met.reflexive x) (met.transitive x) (met.one_variance x) n apart c.requires.suits
