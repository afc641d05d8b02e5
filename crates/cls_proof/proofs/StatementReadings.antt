-- What a line means, from what its parts are read as.
use Rattle.std.proofs.Common.{◌≡◌, ℕ, List, length, sym, subst, Option, Some, None}
use Rattle.std.specs.Prelude.{MatchOption, OnSome, IfSome, IsSomeAnd}
use Rattle.cls_base.specs.Ty.{type_of}
use Rattle.cls_base.specs.Types.{ClosedType}
use Rattle.cls_base.specs.declared.ty.Ty.{Ty}
use Rattle.cls_lexer.specs.Names.{number_of, with_texts}
use Rattle.cls_syntax.specs.TypePrinting.{HasNamesBelow}
use Rattle.cls_syntax.specs.TypeSchemas.{with_constructors}
use Rattle.cls_syntax.specs.TypeTexts.{TypeText, type_words}
use Rattle.cls_proof.specs.declared.statement.Statement as code
use Rattle.cls_proof.specs.Forms.{Written}
use Rattle.cls_proof.specs.Forms as written
use Rattle.cls_proof.specs.Reading.{IsGoal}
use Rattle.cls_proof.specs.Said.{statement_of, IsMeant, IsMeaningless}
use Rattle.cls_proof.specs.Statements.{member}
use Rattle.cls_proof.proofs.LineMeanings.{member_nothing, member_meant}

module _ (components old new : List (List ℕ)) (w : Written) where
  abbrev pub IsRead : Option code.Statement → Type 0
  IsRead r = MatchOption r (IsMeaningless components w) (λ s. IsMeant components old new w (statement_of s))

  -- a statement that is made of a part
  pub mapped : {A : Type 0} (f : A → code.Statement) (post : A → code.Statement → Type 0) → ((x : A) (s : code.Statement) → post x s → s ≡ f x) → (o : Option A) (r : Option code.Statement) → MatchOption o (r ≡ None) (λ x. IsSomeAnd r (post x)) → MatchOption o (IsMeaningless components w) (λ x. IsMeant components old new w (statement_of (f x))) → IsRead r
  mapped f post is None r e h = subst IsRead (sym e) h
  mapped f post is (Some x) None e h = absurd e
  mapped f post is (Some x) (Some s) e h = subst (λ (t : code.Statement). IsMeant components old new w (statement_of t)) (sym (is x s e)) h

-- a block, whose table stays
pub block_read : (components table : List (List ℕ)) (w : Written) (o : Option code.Statement) → MatchOption o (IsMeaningless components w) (λ s. (names : List (List ℕ)) → IsMeant components names names w (statement_of s)) → IsRead components table table w o
block_read components table w None h = h
block_read components table w (Some s) h = h table

-- a member
pub member_read : (components old new : List (List ℕ)) (t : TypeText) (o : Option Ty) → MatchOption o ((number : List ℕ → ℕ) (g : ClosedType) → IsGoal number t g → ⊥) (λ ty. (later : List (List ℕ)) → IsGoal (number_of (with_texts new later)) t (type_of ty)) → OnSome o (new ≡ with_constructors old (type_words t)) → IfSome o (λ ty. HasNamesBelow (length new) (type_of ty)) → MatchOption o (IsMeaningless components (written.member t)) (λ ty. IsMeant components old new (written.member t) (member (type_of ty)))
member_read components old new t None s n h = member_nothing components t s
member_read components old new t (Some ty) s n h = member_meant components old new t (type_of ty) n s h
