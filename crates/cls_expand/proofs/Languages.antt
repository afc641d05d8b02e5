-- The languages of goals are their types.
use Rattle.std.proofs.Common.{Contains}
use Rattle.cls_path.specs.Paths.{none}
use Rattle.cls_cover.proofs.Lists.{member_contains}
use Rattle.cls_library.proofs.LibraryTyping.{typed}
use Rattle.cls_expand.specs.Laws.{OmegaHasAllTerms, LanguagesAreTypes}
use Rattle.cls_expand.proofs.LanguageTyping.{made_has, omega_makes, makes_exactly}

pub omega_has_all_terms : OmegaHasAllTerms
omega_has_all_terms lib law e = ((λ m. (typed lib law e none tt).1 (made_has lib law m)), (λ h. omega_makes lib law e ((typed lib law e none tt).0 h).0))

pub languages_are_types : LanguagesAreTypes
languages_are_types lib law goals f g m e =
    let x = makes_exactly lib law (λ h. Contains goals h) (λ h k. (f h k).suits) (λ h k. let c = f h k in (c.rules, c.are_rules, (λ n i. c.arguments n (member_contains i)))) g e m in
    let t = typed lib law e g (f g m).suits in
    ((λ h. t.1 (x.0 h)), (λ h. x.1 (t.0 h)))
