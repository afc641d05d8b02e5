use Rattle.std.proofs.Common.{◌≡◌, Some, true, false, ap, sym, subst, ◌∙◌}
use Rattle.cls_taxon.specs.Orders.{Declared}
use Rattle.cls_path.specs.Paths.{TypePath, Paths, PathLe, none, more, listed, InPaths, first_in}
use Rattle.cls_path.specs.declared.source.ArrowSource.TheVariants as taken
use Rattle.cls_library.specs.Libraries.{below_in, variances_in}
use Rattle.cls_library.specs.Reaching.{PathLeIn}
use Rattle.cls_check.specs.Deciding.{SomeAbove, source_of}
use Rattle.cls_check.proofs.Arguments.{found_source, sole}
use Rattle.cls_check.proofs.Lists.{not_got}
use Rattle.cls_check.proofs.asked.leads_to_source.Goals as goal

nothing : (q : TypePath) → InPaths none q → ⊥
nothing q i = elim i [ ]

pub returns-in-Some-Name : goal.returns-in-Some-Name
returns-in-Some-Name c =
    let q = c.atom.result in
    let here : more q none ≡ source_of c.args.arrow.now c.args.place = (ap (λ (p : TypePath). more p none) c.atom.ensures)
    ∙ found_source c.args.arrow.now c.args.place c.source.result (taken.Name c.in-Some-Name.name) c.source.ensures (c.in-Some-Name.is ∙ ap Some c.in-Some-Name.field-0-is) in
    let below = λ (t : Declared). PathLe (below_in t) (variances_in t) c.args.target.now q in (
      (λ e. (q, subst (λ (n : Paths). InPaths n q) here first_in, subst below c.taxonomy.ensures (c.le-in-Some-Name.ensures.cases.0 e))),
      (λ h. c.le-in-Some-Name.ensures.cases.1 (subst below (sym c.taxonomy.ensures)
          (subst (λ (p : TypePath). PathLeIn c.args.lib.now c.args.target.now p) (sole q h.0 (subst (λ (n : Paths). InPaths n h.0) (sym here) h.1)) h.2))),
    )

pub returns-in-Some-Paths : goal.returns-in-Some-Paths
returns-in-Some-Paths c =
    let here : listed c.in-Some-Paths.source.now ≡ source_of c.args.arrow.now c.args.place =
    found_source c.args.arrow.now c.args.place c.source.result (taken.Paths c.in-Some-Paths.source) c.source.ensures (c.in-Some-Paths.is ∙ ap Some c.in-Some-Paths.field-0-is) in (
      (λ e. subst (λ (n : Paths). SomeAbove c.args.lib.now n c.args.target.now) here (c.leads_to.ensures.0 e)),
      (λ h. c.leads_to.ensures.1 (subst (λ (n : Paths). SomeAbove c.args.lib.now n c.args.target.now) (sym here) h)),
    )

pub returns-in-None : goal.returns-in-None
returns-in-None c =
    let missing : source_of c.args.arrow.now c.args.place ≡ none = not_got c.args.arrow.now.sources c.args.place none c.in-None.ensures in (
      (λ e. absurd (let f : false ≡ true = e in cc)),
      (λ h. absurd (nothing h.0 (subst (λ (n : Paths). InPaths n h.0) missing h.1))),
    )
