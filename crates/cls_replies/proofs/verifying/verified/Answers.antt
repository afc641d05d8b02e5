use Rattle.std.proofs.Common.{◌≡◌, refl, ap, ◌∙◌, subst}
use Rattle.cls_base.specs.declared.ty.Ty.{Ty}
use Rattle.cls_base.specs.Ty.{type_of}
use Rattle.cls_base.specs.Types.{ClosedType}
use Rattle.cls_query.specs.declared.query.Query.TheVariants.{About}
use Rattle.cls_query.specs.declared.word.GoalWord.{GoalWord}
use Rattle.cls_query.specs.declared.word.GoalWord.TheVariants.{Inhabit, Verify}
use Rattle.cls_query.specs.Queries.{Query, verify}
use Rattle.cls_query.specs.Readable.{IsVerify}
use Rattle.cls_query.specs.ReadQueries.{BuiltQuery, asked_of}
use Rattle.cls_replies.proofs.verifying.verified.Goals as goal

abbrev asks : GoalWord → ClosedType → Query
asks word t = About word t

-- the one word that asks for a verification
one_word : (word : GoalWord) (t : ClosedType) → IsVerify (asks word t) → asks word t ≡ verify t
one_word Verify t h = refl
one_word Inhabit t h = absurd h
one_word word t h = absurd h

goal_of : (q : BuiltQuery) (word : GoalWord) (t : Ty) → q ≡ About word t → IsVerify (asked_of q) → asked_of q ≡ verify (type_of t)
goal_of q word t e h = ap asked_of e ∙ one_word word (type_of t) (subst (λ (p : BuiltQuery). IsVerify (asked_of p)) e h)

pub returns : goal.returns
returns c = goal_of c.args.query _ c.in-About.goal c.in-About.is c.requires
