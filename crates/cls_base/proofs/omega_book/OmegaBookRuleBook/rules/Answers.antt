use Rattle.std.proofs.Common.{◌≡◌, ℕ, arith, subst}
use Rattle.cls_base.specs.Languages.{rules_at}
use Rattle.cls_base.specs.Books.{HaveNodesBelow, omega_book}
use Rattle.cls_base.proofs.Books.{omega_rules-within}
use Rattle.cls_base.proofs.omega_book.OmegaBookRuleBook.rules.Goals as goal

pub returns-clause-within : goal.returns-clause-within
returns-clause-within c =
    let P : ℕ → Type 0 = λ j. HaveNodesBelow 1 (rules_at (omega_book c.args.self.now) j) in
    let e : 0 ≡ c.args.i = omega (arith, c.requires) in
    subst P e (omega_rules-within c.args.self.now)
