-- Lines are taken in one way, and are refused for one fault.
use Rattle.std.proofs.Common.{◌≡◌, ℕ, ◌+◌, true, false, List, [], ◌∷◌, sym, ap, ◌∙◌, subst, inl, inr}
use Rattle.std.specs.Prelude.{◌⊎◌, Option, Some, None}
use Rattle.std.proofs.lemmas.Bool.{true≢false}
use Rattle.cls_assemble.specs.declared.piece.Piece.{Piece}
use Rattle.cls_assemble.proofs.Readings.{templates_are_unique}
use Rattle.cls_base.specs.Firsts.{First, IsDetermined}
use Rattle.cls_base.specs.Types.{ClosedType}
use Rattle.cls_lexer.specs.Names.{number_of}
use Rattle.cls_lexer.specs.Words.{words_of}
use Rattle.cls_syntax.specs.ClosedTypes.{AreSpelled}
use Rattle.cls_syntax.specs.TypeTexts.{TypeList, last, more}
use Rattle.cls_syntax.proofs.ClosedAgain.{spelled-once}
use Rattle.cls_repo.specs.Declarations.{with_names, with_kind, with_template, template_text, AreChoices, Declares}
use Rattle.cls_repo.specs.Directives.{Directive, sub, kind, comp, text, end, cost, variance, filter, leaf, app, other, LineSays, is_end}
use Rattle.cls_repo.specs.Drafts.{Draft}
use Rattle.cls_repo.specs.Readings.{Reading, Takes, skipped, declares, Refuses, TakesAll, FirstFault, closing_faults}
use Rattle.cls_repo.proofs.Lines.{said_one}
use Rattle.cls_repo.proofs.OneEnding.{closing_one}
use Rattle.cls_repo.proofs.OneFault.{fault_one}

types_one : (number : List ℕ → ℕ) (ts : TypeList) (xs ys : List ClosedType) → AreSpelled number ts xs → AreSpelled number ts ys → xs ≡ ys
types_one number (last t) xs ys p q = p.2 ∙ (ap (λ (c : ClosedType). c ∷ []) (spelled-once number t p.0 q.0 p.1 q.1) ∙ sym q.2)
types_one number (more t ts) xs ys p q = p.4 ∙ ((λ i. spelled-once number t p.0 q.0 p.2 q.2 i ∷ types_one number ts p.1 q.1 p.3 q.3 i) ∙ sym q.4)

choices_one : (number : List ℕ → ℕ) (ts : Option TypeList) (xs ys : List ClosedType) → AreChoices number ts xs → AreChoices number ts ys → xs ≡ ys
choices_one number None xs ys p q = p ∙ sym q
choices_one number (Some ts) xs ys p q = types_one number ts xs ys p q

-- a line declares one thing
declares_one : (d : Draft) (n : ℕ) (line : List ℕ) (said : Directive) (a b : Draft) → Declares d n line said a → Declares d n line said b → a ≡ b
declares_one d n line (kind x ts) a b p q =
    let named = with_names d (kind x ts) in
    p.2 ∙ (ap (with_kind named x) (choices_one (number_of named.names) ts p.0 q.0 p.1 q.1) ∙ sym q.2)
declares_one d n line (text x ws) a b p q = p.2 ∙ (ap (λ (pieces : List Piece). with_template d x pieces) (templates_are_unique (template_text line) p.0 q.0 p.1 q.1) ∙ sym q.2)
declares_one d n line (sub x y) a b p q = p ∙ sym q
declares_one d n line (comp x t) a b p q = p ∙ sym q
declares_one d n line end a b p q = p ∙ sym q
declares_one d n line (cost x ds) a b p q = p ∙ sym q
declares_one d n line (variance x w) a b p q = p ∙ sym q
declares_one d n line (filter f s ss) a b p q = p ∙ sym q
declares_one d n line (leaf f x s) a b p q = p ∙ sym q
declares_one d n line (app f l r s) a b p q = p ∙ sym q
declares_one d n line (other f s) a b p q = p ∙ sym q

pub says_one : (line : List ℕ) (said second : Directive) → LineSays line said → LineSays line second → said ≡ second
says_one line said second p q = said_one (words_of line) said second p.says q.says

-- a line is taken in one way
pub takes_one : (old : Reading) (line : List ℕ) (a b : Reading) → Takes old line a → Takes old line b → a ≡ b
takes_one old line a b (skipped s e) (skipped t f) = e ∙ sym f
takes_one old line a b (skipped s e) (declares said l silent d h f) = absurd (l.unskipped s)
takes_one old line a b (declares said l silent d h e) (skipped s f) = absurd (l.unskipped s)
takes_one old line a b (declares said l silent d h e) (declares second m quiet c k f) =
    let same = says_one line said second l m in
    let drafts = declares_one old.draft (old.lines + 1) line said d c h (subst (λ (g : Directive). Declares old.draft (old.lines + 1) line g c) (sym same) k) in
    e ∙ ((λ i. record { draft = drafts i; lines = old.lines + 1; ended = is_end (same i) }) ∙ sym f)

-- a line isn't both taken and refused
pub taken_or_refused : (old : Reading) (line : List ℕ) (new : Reading) (said : ℕ × List ℕ) → Takes old line new → Refuses old line said → ⊥
taken_or_refused old line new said (skipped s e) r = r.unskipped s
taken_or_refused old line new said (declares d l silent c h e) r = silent said.1 r.first

refuses_one : (old : Reading) (line : List ℕ) → IsDetermined (Refuses old line)
refuses_one old line said second p q =
    let number = p.number ∙ sym q.number in
    let words = fault_one old.draft line said.1 second.1 p.first q.first in
    λ i. (number i, words i)

not_both : (r : Reading) → r.ended ≡ true → r.ended ≡ false → ⊥
not_both r e f = true≢false (sym e ∙ f)

-- how it goes on behind a line that is taken
abbrev Ends : List (List ℕ) → Reading → Reading → Type 0
Ends lines new next = ((next.ended ≡ true) × (new ≡ next)) ⊎ ((next.ended ≡ false) × TakesAll next lines new)

abbrev Faulty : List (List ℕ) → ℕ × List ℕ → Reading → Type 0
Faulty lines said next = ((next.ended ≡ true) × First (closing_faults next) said) ⊎ ((next.ended ≡ false) × FirstFault next lines said)

module _ (next : Reading) (lines : List (List ℕ)) where
  ends_one : (a b : Reading) → (TakesAll next lines a → TakesAll next lines b → a ≡ b) → Ends lines a next → Ends lines b next → a ≡ b
  ends_one a b one (inl e) (inl f) = e.1 ∙ sym f.1
  ends_one a b one (inl e) (inr f) = absurd (not_both next e.0 f.0)
  ends_one a b one (inr e) (inl f) = absurd (not_both next f.0 e.0)
  ends_one a b one (inr e) (inr f) = one e.1 f.1

  closing_behind : (new : Reading) (said : ℕ × List ℕ) → (TakesAll next lines new → FirstFault next lines said → First (closing_faults new) said) → Ends lines new next → Faulty lines said next → First (closing_faults new) said
  closing_behind new said on (inl e) (inl f) = subst (λ (r : Reading). First (closing_faults r) said) (sym e.1) f.1
  closing_behind new said on (inl e) (inr f) = absurd (not_both next e.0 f.0)
  closing_behind new said on (inr e) (inl f) = absurd (not_both next f.0 e.0)
  closing_behind new said on (inr e) (inr f) = on e.1 f.1

  faulty_one : (said second : ℕ × List ℕ) → (FirstFault next lines said → FirstFault next lines second → said ≡ second) → Faulty lines said next → Faulty lines second next → said ≡ second
  faulty_one said second one (inl e) (inl f) = closing_one next said second e.1 f.1
  faulty_one said second one (inl e) (inr f) = absurd (not_both next e.0 f.0)
  faulty_one said second one (inr e) (inl f) = absurd (not_both next f.0 e.0)
  faulty_one said second one (inr e) (inr f) = one e.1 f.1

-- lines are read in one way
pub takes_all_one : (old : Reading) (lines : List (List ℕ)) (a b : Reading) → TakesAll old lines a → TakesAll old lines b → a ≡ b
takes_all_one old [] a b p q = p ∙ sym q
takes_all_one old (line ∷ lines) a b p q = ends_one p.0 lines a b (λ e f. takes_all_one p.0 lines a b e f) p.2 (subst (Ends lines b) (sym (takes_one old line p.0 q.0 p.1 q.1)) q.2)

-- a fault of lines that are all taken is one of what was read
pub closing_of : (old : Reading) (lines : List (List ℕ)) (new : Reading) (said : ℕ × List ℕ) → TakesAll old lines new → FirstFault old lines said → First (closing_faults new) said
closing_of old [] new said p q = subst (λ (r : Reading). First (closing_faults r) said) (sym p) q
closing_of old (line ∷ lines) new said p (inl r) = absurd (taken_or_refused old line p.0 said p.1 r)
closing_of old (line ∷ lines) new said p (inr q) = closing_behind p.0 lines new said (λ e f. closing_of p.0 lines new said e f) p.2 (subst (Faulty lines said) (sym (takes_one old line p.0 q.0 p.1 q.1)) q.2)

-- lines have one first fault
pub first_fault_one : (old : Reading) (lines : List (List ℕ)) → IsDetermined (FirstFault old lines)
first_fault_one old [] said second p q = closing_one old said second p q
first_fault_one old (line ∷ lines) said second (inl p) (inl q) = refuses_one old line said second p q
first_fault_one old (line ∷ lines) said second (inl p) (inr q) = absurd (taken_or_refused old line q.0 said q.1 p)
first_fault_one old (line ∷ lines) said second (inr p) (inl q) = absurd (taken_or_refused old line p.0 second p.1 q)
first_fault_one old (line ∷ lines) said second (inr p) (inr q) =
    faulty_one p.0 lines said second (λ e f. first_fault_one p.0 lines said second e f) p.2 (subst (Faulty lines second) (sym (takes_one old line p.0 q.0 p.1 q.1)) q.2)
