-- The rules of a goal are its typing.
use Rattle.std.proofs.Common.{◌≡◌, ◌∙◌, refl, sym, subst, List, length, inl, inr, Contains}
use Rattle.cls_base.specs.Terms.{component}
use Rattle.cls_base.specs.Spines.{spine}
use Rattle.cls_base.specs.declared.rule.Rule.{Rule}
use Rattle.cls_base.specs.declared.rule.Rule.TheVariants.{Head}
use Rattle.cls_path.specs.Paths.{Paths, more, type_of_paths, SuitsAll, first_in}
use Rattle.std.specs.List.{AllZip}
use Rattle.cls_base.proofs.Lists.{Contains-nil}
use Rattle.cls_cover.specs.Members.{Member}
use Rattle.cls_cover.proofs.Lists.{contains_member, member_contains}
use Rattle.cls_library.specs.Libraries.{Library, IsLibrary, variances_in}
use Rattle.cls_library.specs.Reaching.{IsReduced, columns}
use Rattle.cls_library.proofs.ByCases.{Zip, zip_left, zip_right, zip_all, all_zip}
use Rattle.cls_library.specs.Typing.{HasTypeIn}
use Rattle.cls_library.proofs.LibraryTyping.{typed, over_spine, spine_over, each_typed, each_all}
use Rattle.cls_library.specs.Laws.{RulesAreTheTyping}
use Rattle.cls_library.proofs.FirstOnes.{first_ones_from, first_ones_all}
use Rattle.cls_library.proofs.RuleHeads.{rule_declared}
use Rattle.cls_library.proofs.RuleTyping.{rule_reaches, rule_from, reduced_of}

module _ (lib : Library) (law : IsLibrary lib) where
  -- the arguments of a rule suit the variances
  suits_reduced : {ms ns : List Paths} → Zip (IsReduced lib) ms ns → (n : Paths) → Member ns n → SuitsAll (variances_in lib.taxonomy) n
  suits_reduced z n m = let r = zip_right n z m in r.2.normal.suits

pub rules_are_the_typing : RulesAreTheTyping
rules_are_the_typing lib law q n rs s rules x es = (to, back)
  where
    to : HasTypeIn lib (spine (component x) es) (type_of_paths (more q n)) → (ns : List Paths) × Contains rs (Head x ns) × AllZip (λ e m. HasTypeIn lib e (type_of_paths m)) es ns
    to h =
        let u = (typed lib law (spine (component x) es) (more q n) s).0 h in
        let over = spine_over lib law (length lib.components) es (component x) u.0 in
        let r = rule_from lib law (more q n) q x es s over.0 first_in u.1 in
        let candidate = zip_left r.0 (all_zip rules.choices rules.candidates rules.made) (contains_member rules.choices r.0 ((rules.chosen.exactly r.0).1 r.1)) in
        let v = r.3 candidate.0 candidate.2 in
        let standing = elim (first_ones_all candidate.0 rules.first_ones (member_contains candidate.1)) as (λ _. Contains rs candidate.0) [ inl k ↦ absurd (Contains-nil candidate.0 k) | inr k ↦ k ] in
        let same : candidate.2.arguments ≡ v.0 = (let e : ◌≡◌ {A = Rule Paths} (Head r.0.component candidate.2.arguments) (Head x v.0) = sym candidate.2.rule ∙ v.1 in cc) in
        (v.0, subst (λ (c : Rule Paths). Contains rs c) v.1 standing, zip_all (each_typed lib law (λ m k. suits_reduced lib law (subst (λ (a : List Paths). Zip (IsReduced lib) (columns r.0.places candidate.2.picked) a) same (reduced_of lib law r.0 candidate.0 candidate.2)) m k) over.1 v.2))

    back : (ns : List Paths) × Contains rs (Head x ns) × AllZip (λ e m. HasTypeIn lib e (type_of_paths m)) es ns → HasTypeIn lib (spine (component x) es) (type_of_paths (more q n))
    back r =
        let candidate = first_ones_from (Head x r.0) rules.first_ones r.1 in
        let u = zip_right (Head x r.0) (all_zip rules.choices rules.candidates rules.made) (contains_member rules.candidates (Head x r.0) candidate) in
        let same : u.2.arguments ≡ r.0 = (let e : ◌≡◌ {A = Rule Paths} (Head x r.0) (Head u.0.component u.2.arguments) = u.2.rule in cc) in
        let v = each_all lib law (λ m k. suits_reduced lib law (subst (λ (a : List Paths). Zip (IsReduced lib) (columns u.0.places u.2.picked) a) same (reduced_of lib law u.0 (Head x r.0) u.2)) m k) (all_zip es r.0 r.2) in
        let d = rule_declared lib (more q n) x r.0 (rs, rules, r.1) in
        (typed lib law (spine (component x) es) (more q n) s).1
        (over_spine lib law (length lib.components) es (component x) d v.1, rule_reaches lib law (more q n) u.0 (Head x r.0) x r.0 es ((rules.chosen.exactly u.0).0 (member_contains u.1)) u.2 refl v.0)
