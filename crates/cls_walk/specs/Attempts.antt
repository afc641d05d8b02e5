-- internal: a walk from size to size, and the page that it ends with
use Rattle.std.specs.Prelude.{ℕ, ◌≡◌, ◌+◌, ◌<◌, List, length, map, Option, IfSome}
use Rattle.cls_base.specs.Terms.{Applicative, size_of, code_of}
use Rattle.cls_base.specs.declared.rule.Rule.{Rule}
use Rattle.cls_base.specs.Pages.{Request, IsDue}
use Rattle.cls_base.specs.Languages.{IsGenerated}
use Rattle.cls_walk.specs.Counts.{HeadRule}
use Rattle.cls_walk.specs.Forms.{AreForms}
use Rattle.cls_walk.specs.PageFronts.{IsDueFront}
use Rattle.cls_walk.specs.Filled.{forms_at}

-- the forms of each node with fewer arguments than `last`
abbrev pub AreFormsUpTo : List (List (Rule ℕ)) → ℕ → List (List HeadRule) → Type 0
AreFormsUpTo book last forms = (n most : ℕ) → most + 1 ≡ last → AreForms book most n (forms_at forms n)

-- the size and the code of the cursor, where there is one
abbrev pub IsStart : (ℕ → ℕ) → Option Applicative → ℕ → List ℕ → Type 0
IsStart cost after from code = IfSome after (λ a. (from ≡ size_of cost a) × (code ≡ code_of a))

-- the codes are of the due terms of size below s, in their order; once the list is full, of the first of them
abbrev pub AreDueCodes : List (List (Rule ℕ)) → Request → ℕ → List (List ℕ) → Type 0
AreDueCodes book r s codes =
    (es : List Applicative) × (codes ≡ map code_of es)
    × IsDueFront (IsDue (IsGenerated book 0) r) r.cost s (r.take < length es) es
