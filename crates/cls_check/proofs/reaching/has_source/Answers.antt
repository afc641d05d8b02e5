use Rattle.std.proofs.Common.{◌≡◌, Some, ap, sym, subst, refl, ◌∙◌}
use Rattle.cls_path.specs.Paths.{TypePath, Paths, none, more, empty, listed, first_in}
use Rattle.cls_path.specs.declared.source.ArrowSource.TheVariants as taken
use Rattle.cls_library.specs.Reaching.{PathsLeIn}
use Rattle.cls_check.specs.Deciding.{SomeBelow, targets_of, source_of}
use Rattle.cls_check.proofs.Arguments.{found_source, sole}
use Rattle.cls_check.proofs.Deciding.{cover_one, cover_each}
use Rattle.cls_check.proofs.Lists.{not_got}
use Rattle.cls_check.proofs.reaching.has_source.Goals as goal

pub returns-in-Some-Name : goal.returns-in-Some-Name
returns-in-Some-Name c =
    let q = c.atom.result in
    let had = targets_of c.args.had.now in
    let here : more q none ≡ source_of c.args.arrow.now c.args.place = (ap (λ (p : TypePath). more p none) c.atom.ensures)
    ∙ found_source c.args.arrow.now c.args.place c.source.result (taken.Name c.in-Some-Name.name) c.source.ensures (c.in-Some-Name.is ∙ ap Some c.in-Some-Name.field-0-is) in (
      (λ e. subst (λ (n : Paths). PathsLeIn c.args.lib.now had n) here (cover_each c.args.lib.now c.count-count.ensures.library had (more q none)
          (λ r i. subst (λ (p : TypePath). SomeBelow c.args.lib.now had p) (sym (sole q r i)) (c.is_above-in-Some-Name.ensures.0 e)))),
      (λ h. c.is_above-in-Some-Name.ensures.1 (cover_one c.args.lib.now c.count-count.ensures.library had (more q none) (subst (λ (n : Paths). PathsLeIn c.args.lib.now had n) (sym here) h) q first_in)),
    )

pub returns-in-Some-Paths : goal.returns-in-Some-Paths
returns-in-Some-Paths c =
    let here : listed c.in-Some-Paths.source.now ≡ source_of c.args.arrow.now c.args.place =
    found_source c.args.arrow.now c.args.place c.source.result (taken.Paths c.in-Some-Paths.source) c.source.ensures (c.in-Some-Paths.is ∙ ap Some c.in-Some-Paths.field-0-is) in (
      (λ e. subst (λ (n : Paths). PathsLeIn c.args.lib.now (targets_of c.args.had.now) n) here (c.are_above.ensures.0 e)),
      (λ h. c.are_above.ensures.1 (subst (λ (n : Paths). PathsLeIn c.args.lib.now (targets_of c.args.had.now) n) (sym here) h)),
    )

pub returns-in-None : goal.returns-in-None
returns-in-None c =
    let missing : source_of c.args.arrow.now c.args.place ≡ none = not_got c.args.arrow.now.sources c.args.place none c.in-None.ensures in
    ((λ _. subst (λ (n : Paths). PathsLeIn c.args.lib.now (targets_of c.args.had.now) n) (sym missing) empty), (λ _. refl))
