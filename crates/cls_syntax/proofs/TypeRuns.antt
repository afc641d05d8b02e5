-- What spells a type is read, as that type.
use Rattle.std.proofs.Common.{◌≡◌, List, [], ◌∷◌, refl, ◌∙◌}
use Rattle.std.specs.Prelude.{Option, Some, None}
use Rattle.cls_lexer.specs.declared.token.TokenKind.TheVariants.{To, And, Times, Close}
use Rattle.cls_lexer.specs.Words.{Word, sign}
use Rattle.cls_syntax.specs.TypeTexts.{TypeText, MeetText, ProductText, AtomText, only_meet, arrow, only_product, meet, only_atom, product, named, applied, variable, inside, type_words, meet_words, product_words, atom_words}
use Rattle.cls_syntax.specs.TypeTexts as grammar
use Rattle.cls_syntax.specs.TypeReading.{Opener, plain, of_name, Level, level, Outer, whole, within, State, operand, after_name, with_product, with_sources, closed, enclosed, after_atom, step_after, step, ended, type_machine}
use Rattle.cls_syntax.proofs.MachineRuns.{run, run_then}

-- the states after an atom, a product, an intersection and a type
abbrev pub past_atom : Outer → Level → AtomText → State
past_atom o l grammar.omega = after_atom o l grammar.omega
past_atom o l (named x) = after_name o l x
past_atom o l (applied x t) = after_atom o l (applied x t)
past_atom o l (variable x) = after_atom o l (variable x)
past_atom o l (inside t) = after_atom o l (inside t)

abbrev pub past_product : Outer → List MeetText → Option MeetText → ProductText → State
past_product o ss m (only_atom a) = past_atom o (level ss m None) a
past_product o ss m (product p a) = past_atom o (level ss m (Some p)) a

abbrev pub past_meet : Outer → List MeetText → MeetText → State
past_meet o ss (only_product p) = past_product o ss None p
past_meet o ss (meet m p) = past_product o ss (Some m) p

abbrev pub past_type : Outer → List MeetText → TypeText → State
past_type o ss (only_meet m) = past_meet o ss m
past_type o ss (arrow m t) = past_type o (m ∷ ss) t

-- they go on as after an operand, but for a parenthesis
pub data Goes : Word → Type 0 where
  goes_times : Goes (sign Times)
  goes_and : Goes (sign And)
  goes_to : Goes (sign To)
  goes_close : Goes (sign Close)

pub atom_goes : (o : Outer) (ss : List MeetText) (m : Option MeetText) (p : Option ProductText) (a : AtomText) (w : Word) → Goes w → step (past_atom o (level ss m p) a) w ≡ step_after o ss m (with_product p a) w
atom_goes o ss m p grammar.omega w g = refl
atom_goes o ss m p (named x) _ goes_times = refl
atom_goes o ss m p (named x) _ goes_and = refl
atom_goes o ss m p (named x) _ goes_to = refl
atom_goes o ss m p (named x) _ goes_close = refl
atom_goes o ss m p (applied x t) w g = refl
atom_goes o ss m p (variable x) w g = refl
atom_goes o ss m p (inside t) w g = refl

pub product_goes : (o : Outer) (ss : List MeetText) (m : Option MeetText) (p : ProductText) (w : Word) → Goes w → step (past_product o ss m p) w ≡ step_after o ss m p w
product_goes o ss m (only_atom a) w g = atom_goes o ss m None a w g
product_goes o ss m (product p a) w g = atom_goes o ss m (Some p) a w g

pub meet_and : (o : Outer) (ss : List MeetText) (m : MeetText) → step (past_meet o ss m) (sign And) ≡ Some (operand o (level ss (Some m) None))
meet_and o ss (only_product p) = product_goes o ss None p (sign And) goes_and
meet_and o ss (meet m p) = product_goes o ss (Some m) p (sign And) goes_and

pub meet_to : (o : Outer) (ss : List MeetText) (m : MeetText) → step (past_meet o ss m) (sign To) ≡ Some (operand o (level (m ∷ ss) None None))
meet_to o ss (only_product p) = product_goes o ss None p (sign To) goes_to
meet_to o ss (meet m p) = product_goes o ss (Some m) p (sign To) goes_to

pub type_close : (o : Outer) (k : Opener) (l : Level) (ss : List MeetText) (t : TypeText) → step (past_type (within o k l) ss t) (sign Close) ≡ Some (after_atom o l (enclosed k (with_sources ss t)))
type_close o k l ss (only_meet (only_product p)) = product_goes (within o k l) ss None p (sign Close) goes_close
type_close o k l ss (only_meet (meet m p)) = product_goes (within o k l) ss (Some m) p (sign Close) goes_close
type_close o k l ss (arrow m t) = type_close o k l (m ∷ ss) t

pub atom_ends : (ss : List MeetText) (m : Option MeetText) (p : Option ProductText) (a : AtomText) → ended (past_atom whole (level ss m p) a) ≡ Some (closed ss m (with_product p a))
atom_ends ss m p grammar.omega = refl
atom_ends ss m p (named x) = refl
atom_ends ss m p (applied x t) = refl
atom_ends ss m p (variable x) = refl
atom_ends ss m p (inside t) = refl

pub product_ends : (ss : List MeetText) (m : Option MeetText) (p : ProductText) → ended (past_product whole ss m p) ≡ Some (closed ss m p)
product_ends ss m (only_atom a) = atom_ends ss m None a
product_ends ss m (product p a) = atom_ends ss m (Some p) a

pub type_ends : (ss : List MeetText) (t : TypeText) → ended (past_type whole ss t) ≡ Some (with_sources ss t)
type_ends ss (only_meet (only_product p)) = product_ends ss None p
type_ends ss (only_meet (meet m p)) = product_ends ss (Some m) p
type_ends ss (arrow m t) = type_ends (m ∷ ss) t

mutual
  pub type_run : (t : TypeText) (o : Outer) (ss : List MeetText) → run type_machine (operand o (level ss None None)) (type_words t) ≡ Some (past_type o ss t)
  type_run (only_meet m) o ss = meet_run m o ss
  type_run (arrow m t) o ss = run_then type_machine (meet_words m) (type_words t) (sign To) _ _ _ (meet_run m o ss) (meet_to o ss m) ∙ type_run t o (m ∷ ss)

  pub meet_run : (m : MeetText) (o : Outer) (ss : List MeetText) → run type_machine (operand o (level ss None None)) (meet_words m) ≡ Some (past_meet o ss m)
  meet_run (only_product p) o ss = product_run p o ss None
  meet_run (meet m p) o ss = run_then type_machine (meet_words m) (product_words p) (sign And) _ _ _ (meet_run m o ss) (meet_and o ss m) ∙ product_run p o ss (Some m)

  pub product_run : (p : ProductText) (o : Outer) (ss : List MeetText) (m : Option MeetText) → run type_machine (operand o (level ss m None)) (product_words p) ≡ Some (past_product o ss m p)
  product_run (only_atom a) o ss m = atom_run a o (level ss m None)
  product_run (product p a) o ss m = run_then type_machine (product_words p) (atom_words a) (sign Times) _ _ _ (product_run p o ss m) (product_goes o ss m p (sign Times) goes_times) ∙ atom_run a o (level ss m (Some p))

  pub atom_run : (a : AtomText) (o : Outer) (l : Level) → run type_machine (operand o l) (atom_words a) ≡ Some (past_atom o l a)
  atom_run grammar.omega o l = refl
  atom_run (named x) o l = refl
  atom_run (applied x t) o l = run_then type_machine (type_words t) [] (sign Close) _ _ _ (type_run t (within o (of_name x) l) []) (type_close o (of_name x) l [] t)
  atom_run (variable x) o l = refl
  atom_run (inside t) o l = run_then type_machine (type_words t) [] (sign Close) _ _ _ (type_run t (within o plain l) []) (type_close o plain l [] t)
