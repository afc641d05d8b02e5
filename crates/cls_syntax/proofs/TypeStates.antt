-- What was read up to a state, as words.
use Rattle.std.proofs.Common.{◌≡◌, ℕ, List, [], ◌∷◌, ◌++◌, refl, ap, sym, ◌∙◌, append_assoc, append-nil, subst}
use Rattle.std.specs.Prelude.{Option, Some, None}
use Rattle.cls_lexer.specs.declared.token.TokenKind.TheVariants.{To, And, Times, Open, Close, Dollar}
use Rattle.cls_lexer.specs.Words.{Word, omega, name, sign}
use Rattle.cls_syntax.specs.TypeTexts.{TypeText, MeetText, ProductText, AtomText, only_meet, arrow, only_product, meet, only_atom, product, named, applied, variable, inside, type_words, meet_words, product_words, atom_words}
use Rattle.cls_syntax.specs.TypeTexts as grammar
use Rattle.cls_syntax.specs.TypeReading.{Opener, plain, of_name, Level, level, Outer, whole, within, State, operand, after_dollar, after_name, after, with_product, with_meet, with_sources, closed, enclosed, after_atom, step_after, step_name, step, ended, type_machine}
use Rattle.cls_syntax.proofs.MachineRuns.{run}

abbrev pub product_left : Option ProductText → List Word
product_left None = []
product_left (Some p) = product_words p ++ sign Times ∷ []

abbrev pub meet_left : Option MeetText → List Word
meet_left None = []
meet_left (Some m) = meet_words m ++ sign And ∷ []

abbrev pub sources_left : List MeetText → List Word
sources_left [] = []
sources_left (m ∷ ss) = sources_left ss ++ (meet_words m ++ sign To ∷ [])

abbrev pub level_left : Level → List Word
level_left (level ss m p) = sources_left ss ++ (meet_left m ++ product_left p)

abbrev pub opener_left : Opener → List Word
opener_left plain = sign Open ∷ []
opener_left (of_name x) = name x ∷ sign Open ∷ []

abbrev pub outer_left : Outer → List Word
outer_left whole = []
outer_left (within o k l) = outer_left o ++ (level_left l ++ opener_left k)

-- all that was read up to the state
abbrev pub state_words : State → List Word
state_words (operand o l) = outer_left o ++ level_left l
state_words (after_dollar o l) = outer_left o ++ (level_left l ++ sign Dollar ∷ [])
state_words (after_name o l x) = outer_left o ++ (level_left l ++ name x ∷ [])
state_words (after o ss m p) = outer_left o ++ (sources_left ss ++ (meet_left m ++ product_words p))

product_is : (p : Option ProductText) (a : AtomText) → product_words (with_product p a) ≡ product_left p ++ atom_words a
product_is None a = refl
product_is (Some p) a = simp append_assoc

meet_is : (m : Option MeetText) (p : ProductText) → meet_words (with_meet m p) ≡ meet_left m ++ product_words p
meet_is None p = refl
meet_is (Some m) p = simp append_assoc

type_is : (ss : List MeetText) (t : TypeText) → type_words (with_sources ss t) ≡ sources_left ss ++ type_words t
type_is [] t = refl
type_is (m ∷ ss) t = type_is ss (arrow m t) ∙ simp append_assoc

closed_is : (ss : List MeetText) (m : Option MeetText) (p : ProductText) → type_words (closed ss m p) ≡ sources_left ss ++ (meet_left m ++ product_words p)
closed_is ss m p = type_is ss (only_meet (with_meet m p)) ∙ ap (λ ws. sources_left ss ++ ws) (meet_is m p)

atom_is : (k : Opener) (t : TypeText) → atom_words (enclosed k t) ≡ opener_left k ++ (type_words t ++ sign Close ∷ [])
atom_is plain t = refl
atom_is (of_name x) t = refl

after_atom_is : (o : Outer) (l : Level) (a : AtomText) → state_words (after_atom o l a) ≡ outer_left o ++ (level_left l ++ atom_words a)
after_atom_is o (level ss m p) a = ap (λ ws. outer_left o ++ (sources_left ss ++ (meet_left m ++ ws))) (product_is p a) ∙ simp append_assoc

abbrev Adds : Option State → List Word → Type 0
Adds None ws = Unit {0}
Adds (Some s) ws = state_words s ≡ ws

adds_after : (o : Outer) (ss : List MeetText) (m : Option MeetText) (p : ProductText) (w : Word) → Adds (step_after o ss m p w) (state_words (after o ss m p) ++ w ∷ [])
adds_after o ss m p (sign Times) = simp append_assoc
adds_after o ss m p (sign And) = ap (λ ws. outer_left o ++ (sources_left ss ++ ((ws ++ sign And ∷ []) ++ []))) (meet_is m p) ∙ simp (append_assoc, append-nil)
adds_after o ss m p (sign To) = ap (λ ws. outer_left o ++ ((sources_left ss ++ (ws ++ sign To ∷ [])) ++ [])) (meet_is m p) ∙ simp (append_assoc, append-nil)
adds_after whole ss m p (sign Close) = tt
adds_after (within o k l) ss m p (sign Close) = after_atom_is o l (enclosed k (closed ss m p)) ∙ ap (λ ws. outer_left o ++ (level_left l ++ ws)) (atom_is k (closed ss m p) ∙ ap (λ ws. opener_left k ++ (ws ++ sign Close ∷ [])) (closed_is ss m p)) ∙ simp append_assoc
adds_after o ss m p _ = tt

named_is : (o : Outer) (ss : List MeetText) (m : Option MeetText) (p : Option ProductText) (x : List ℕ) → state_words (after o ss m (with_product p (named x))) ≡ state_words (after_name o (level ss m p) x)
named_is o ss m p x = after_atom_is o (level ss m p) (named x)

renamed : (o : Outer) (ss : List MeetText) (m : Option MeetText) (p : Option ProductText) (x : List ℕ) (w : Word) → Adds (step_after o ss m (with_product p (named x)) w) (state_words (after_name o (level ss m p) x) ++ w ∷ [])
renamed o ss m p x w = subst (λ (vs : List Word). Adds (step_after o ss m (with_product p (named x)) w) (vs ++ w ∷ [])) (named_is o ss m p x) (adds_after o ss m (with_product p (named x)) w)

adds_name : (o : Outer) (l : Level) (x : List ℕ) (w : Word) → Adds (step_name o l x w) (state_words (after_name o l x) ++ w ∷ [])
adds_name o l x (sign Open) = simp (append_assoc, append-nil)
adds_name o (level ss m p) x w = renamed o ss m p x w

pub adds : (s : State) (w : Word) → Adds (step s w) (state_words s ++ w ∷ [])
adds (operand o l) omega = after_atom_is o l grammar.omega ∙ simp append_assoc
adds (operand o l) (name x) = simp append_assoc
adds (operand o l) (sign Dollar) = simp append_assoc
adds (operand o l) (sign Open) = simp (append_assoc, append-nil)
adds (operand o l) _ = tt
adds (after_dollar o l) (name x) = after_atom_is o l (variable x) ∙ simp append_assoc
adds (after_dollar o l) _ = tt
adds (after_name o l x) w = adds_name o l x w
adds (after o ss m p) w = adds_after o ss m p w

pub run_adds : (ws : List Word) (s s' : State) → run type_machine s ws ≡ Some s' → state_words s' ≡ state_words s ++ ws
run_adds [] s s' h = let e : s ≡ s' = cc in rw (← e, append-nil) refl
run_adds (w ∷ ws) s s' h =
    (elim (step s w) as (λ o. Adds o (state_words s ++ w ∷ []) → (elim o [ None ↦ None | Some t ↦ run type_machine t ws ]) ≡ Some s' → state_words s' ≡ state_words s ++ w ∷ ws)
    [ None ↦ λ a k. cc | Some t ↦ λ a k. run_adds ws t s' k ∙ ap (λ vs. vs ++ ws) a ∙ append_assoc (state_words s) (w ∷ []) ws ]) (adds s w) h

pub ended_is : (s : State) (t : TypeText) → ended s ≡ Some t → state_words s ≡ type_words t
ended_is (after whole ss m p) t h = sym (closed_is ss m p) ∙ (let e : closed ss m p ≡ t = cc in ap type_words e)
ended_is (after_name whole (level ss m p) x) t h = sym (named_is whole ss m p x) ∙ (sym (closed_is ss m (with_product p (named x))) ∙ (let e : closed ss m (with_product p (named x)) ≡ t = cc in ap type_words e))
ended_is _ t h = cc
