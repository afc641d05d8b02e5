-- The machine of types reads exactly the words of types.
use Rattle.std.proofs.Common.{◌≡◌, ℕ, true, false, List, [], ◌∷◌, refl, sym, ◌∙◌}
use Rattle.std.specs.Prelude.{Option, Some, None}
use Rattle.cls_lexer.specs.declared.token.TokenKind.TheVariants.{Close}
use Rattle.cls_lexer.specs.Words.{Word, omega, name, sign}
use Rattle.cls_syntax.specs.TypeTexts.{TypeText, MeetText, ProductText, AtomText, only_meet, arrow, only_product, meet, only_atom, product, variable, type_words, inside, applied}
use Rattle.cls_syntax.specs.TypeTexts as grammar
use Rattle.cls_syntax.specs.TypeReading.{Level, level, Outer, whole, within, State, operand, after_dollar, after_name, after, with_product, closed, enclosed, step, ended, wants_name, type_machine, start}
use Rattle.cls_syntax.proofs.MachineRuns.{run, Ends, Reads}
use Rattle.cls_syntax.proofs.TypeRuns.{type_run, type_ends, past_type, past_product, past_atom}
use Rattle.cls_syntax.proofs.TypeStates.{run_adds, ended_is}

-- from each state some words lead to the end of a type
abbrev closes : Outer → List Word
closes whole = []
closes (within o k l) = sign Close ∷ closes o

abbrev EndsBy : State → List Word → Type 0
EndsBy s ws = (last : State) × (t : TypeText) × (run type_machine s ws ≡ Some last) × (ended last ≡ Some t)

after_ends : (o : Outer) (ss : List MeetText) (m : Option MeetText) (p : ProductText) → EndsBy (after o ss m p) (closes o)
after_ends whole ss m p = (after whole ss m p, closed ss m p, refl, refl)
after_ends (within o k (level ts n q)) ss m p = let r = after_ends o ts n (with_product q (enclosed k (closed ss m p))) in (r.0, r.1, r.2, r.3)

name_ends : (o : Outer) (l : Level) (x : List ℕ) → EndsBy (after_name o l x) (closes o)
name_ends whole (level ss m p) x = (after_name whole (level ss m p) x, closed ss m (with_product p (grammar.named x)), refl, refl)
name_ends (within o k (level ts n q)) (level ss m p) x = let r = after_ends o ts n (with_product q (enclosed k (closed ss m (with_product p (grammar.named x))))) in (r.0, r.1, r.2, r.3)

abbrev completion : State → List Word
completion (operand o l) = omega ∷ closes o
completion (after_dollar o l) = name [] ∷ closes o
completion (after_name o l x) = closes o
completion (after o ss m p) = closes o

ends_by : (s : State) → EndsBy s (completion s)
ends_by (operand o (level ss m p)) = let r = after_ends o ss m (with_product p grammar.omega) in (r.0, r.1, r.2, r.3)
ends_by (after_dollar o (level ss m p)) = let r = after_ends o ss m (with_product p (variable [])) in (r.0, r.1, r.2, r.3)
ends_by (after_name o l x) = name_ends o l x
ends_by (after o ss m p) = after_ends o ss m p

goes : (s : State) → Ends type_machine s
goes s = let r = ends_by s in record { words = completion s; last = r.0; value = r.1; runs = r.2; ended = r.3 }

names : (s : State) (x : List ℕ) → wants_name s ≡ true → (t : State) × (step s (name x) ≡ Some t)
names (operand o l) x h = (after_name o l x, refl)
names (after_dollar o (level ss m p)) x h = (after o ss m (with_product p (variable x)), refl)
names (after_name o l y) x h = cc
names (after o ss m p) x h = cc

no_names : (s : State) (x : List ℕ) → wants_name s ≡ false → step s (name x) ≡ None
no_names (operand o l) x h = cc
no_names (after_dollar o l) x h = cc
no_names (after_name o (level ss m p) y) x h = refl
no_names (after o ss m p) x h = refl

atom_name : (o : Outer) (l : Level) (a : AtomText) → wants_name (past_atom o l a) ≡ false
atom_name o (level ss m p) grammar.omega = refl
atom_name o (level ss m p) (grammar.named x) = refl
atom_name o (level ss m p) (applied x t) = refl
atom_name o (level ss m p) (variable x) = refl
atom_name o (level ss m p) (inside t) = refl

product_name : (o : Outer) (ss : List MeetText) (m : Option MeetText) (p : ProductText) → wants_name (past_product o ss m p) ≡ false
product_name o ss m (only_atom a) = atom_name o (level ss m None) a
product_name o ss m (product p a) = atom_name o (level ss m (Some p)) a

type_name : (ss : List MeetText) (t : TypeText) → wants_name (past_type whole ss t) ≡ false
type_name ss (only_meet (only_product p)) = product_name whole ss None p
type_name ss (only_meet (meet m p)) = product_name whole ss (Some m) p
type_name ss (arrow m t) = type_name (m ∷ ss) t

sound : (ws : List Word) (s : State) (t : TypeText) → run type_machine start ws ≡ Some s → ended s ≡ Some t → type_words t ≡ ws
sound ws s t h e = sym (ended_is s t e) ∙ run_adds ws start s h

abbrev pub past : TypeText → State
past t = past_type whole [] t

pub type_reads : Reads type_machine start type_words past
type_reads = record {
  runs = λ t. type_run t whole [];
  ends = type_ends [];
  sound = sound;
  goes = goes;
  names = names;
  no_names = no_names;
  past_name = type_name [];
}
