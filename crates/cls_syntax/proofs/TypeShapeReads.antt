-- The shape of a state is enough to know where a type ends, and how many nodes it has.
use Rattle.std.proofs.Common.{◌≡◌, ℕ, ◌+◌, Bool, true, false, List, [], ◌∷◌, refl, ap, sym, ◌∙◌, subst, drop, map, arith}
use Rattle.std.proofs.lemmas.List.{drop-drop}
use Rattle.std.specs.Prelude.{Option, Some, None, Result, Ok, Err, ◌==◌, if◌then◌else◌}
use Rattle.std.specs.Option.{option_map}
use Rattle.cls_lexer.specs.declared.token.TokenKind.{TokenKind}
use Rattle.cls_lexer.specs.declared.token.TokenKind.TheVariants as kinds
use Rattle.cls_syntax.specs.declared.sort.Sort.{Sort}
use Rattle.cls_syntax.specs.declared.sort.Sort.TheVariants as sorts
use Rattle.cls_syntax.specs.declared.type_shape.Mode.{Mode}
use Rattle.cls_syntax.specs.declared.type_shape.Mode.TheVariants as modes
use Rattle.cls_syntax.specs.declared.type_shape.TypeShape.{TypeShape}
use Rattle.cls_lexer.specs.Words as word
use Rattle.cls_lexer.specs.Words.{Word, name, number, sign}
use Rattle.cls_syntax.specs.Sorts.{sort_of}
use Rattle.cls_syntax.specs.Faults.{Stop, stop}
use Rattle.cls_syntax.specs.Machines.{stopped, reading}
use Rattle.cls_syntax.specs.TypeTexts.{TypeText, MeetText, ProductText, AtomText, only_meet, only_product, only_atom, meet, product, arrow, variable, type_nodes, meet_nodes, product_nodes, atom_nodes}
use Rattle.cls_syntax.specs.TypeTexts as grammar
use Rattle.cls_syntax.specs.TypeReading.{Opener, plain, of_name, Level, level, Outer, whole, within, State, operand, after_dollar, after_name, after, with_product, with_meet, with_sources, closed, enclosed, after_atom, step_after, step_name, step, ended, wants_name, type_machine, start, type_front}
use Rattle.cls_syntax.specs.TypeShapes.{held, with_node, shape_start, shape_after, shape_variable, shape_name, shape_step, shape_stopped, shape_reading}

-- the nodes of what was read
abbrev product_left : Option ProductText → ℕ
product_left None = 0
product_left (Some p) = product_nodes p + 1

abbrev meet_left : Option MeetText → ℕ
meet_left None = 0
meet_left (Some m) = meet_nodes m + 1

abbrev sources_left : List MeetText → ℕ
sources_left [] = 0
sources_left (m ∷ ss) = sources_left ss + (meet_nodes m + 1)

abbrev level_left : Level → ℕ
level_left (level ss m p) = sources_left ss + (meet_left m + product_left p)

abbrev opener_left : Opener → ℕ
opener_left plain = 0
opener_left (of_name x) = 1

abbrev outer_left : Outer → ℕ
outer_left whole = 0
outer_left (within o k l) = outer_left o + (level_left l + opener_left k)

abbrev state_nodes : State → ℕ
state_nodes (operand o l) = outer_left o + level_left l
state_nodes (after_dollar o l) = outer_left o + level_left l
state_nodes (after_name o l x) = outer_left o + (level_left l + 1)
state_nodes (after o ss m p) = outer_left o + (sources_left ss + (meet_left m + product_nodes p))

abbrev mode_of : State → Mode
mode_of (operand o l) = modes.Operand
mode_of (after_dollar o l) = modes.AfterDollar
mode_of (after_name o l x) = modes.AfterName
mode_of (after o ss m p) = modes.After

abbrev depth_of : Outer → ℕ
depth_of whole = 0
depth_of (within o k l) = depth_of o + 1

abbrev open_of : State → ℕ
open_of (operand o l) = depth_of o
open_of (after_dollar o l) = depth_of o
open_of (after_name o l x) = depth_of o
open_of (after o ss m p) = depth_of o

abbrev shape : Mode → ℕ → ℕ → TypeShape
shape mode depth n = record { mode = mode; depth = depth; nodes = held n }

abbrev image : State → TypeShape
image s = shape (mode_of s) (open_of s) (state_nodes s)

product_is : (p : Option ProductText) (a : AtomText) → product_nodes (with_product p a) ≡ product_left p + atom_nodes a
product_is None a = omega arith
product_is (Some p) a = omega arith

meet_is : (m : Option MeetText) (p : ProductText) → meet_nodes (with_meet m p) ≡ meet_left m + product_nodes p
meet_is None p = omega arith
meet_is (Some m) p = omega arith

type_is : (ss : List MeetText) (t : TypeText) → type_nodes (with_sources ss t) ≡ sources_left ss + type_nodes t
type_is [] t = omega arith
type_is (m ∷ ss) t = let e = type_is ss (arrow m t) in omega (arith, e)

closed_is : (ss : List MeetText) (m : Option MeetText) (p : ProductText) → type_nodes (closed ss m p) ≡ sources_left ss + (meet_left m + product_nodes p)
closed_is ss m p = let e = type_is ss (only_meet (with_meet m p)) in let f = meet_is m p in omega (arith, e, f)

enclosed_is : (k : Opener) (t : TypeText) → atom_nodes (enclosed k t) ≡ opener_left k + type_nodes t
enclosed_is plain t = omega arith
enclosed_is (of_name x) t = omega arith

-- one node more
held_more : (n : ℕ) → held (held n + 1) ≡ held (n + 1)
held_more n = grind arith

more : (mode : Mode) (d n n' : ℕ) → n' ≡ n + 1 → Path (Option TypeShape) (Some (record { mode = mode; depth = d; nodes = held (held n + 1) })) (Some (shape mode d n'))
more mode d n n' e = ap (λ k. Some (record { mode = mode; depth = d; nodes = k })) (held_more n ∙ ap held (sym e))

same : (mode : Mode) (d n n' : ℕ) → n' ≡ n → Path (Option TypeShape) (Some (shape mode d n)) (Some (shape mode d n'))
same mode d n n' e = ap (λ k. Some (shape mode d k)) (sym e)

-- an atom was read
atom_is : (o : Outer) (l : Level) (a : AtomText) → state_nodes (after_atom o l a) ≡ outer_left o + (level_left l + atom_nodes a)
atom_is o (level ss m p) a = let e = product_is p a in omega (arith, e)

after_atom_mode : (o : Outer) (l : Level) (a : AtomText) (n : ℕ) → state_nodes (after_atom o l a) ≡ n → Path (Option TypeShape) (Some (shape modes.After (depth_of o) n)) (Some (image (after_atom o l a)))
after_atom_mode o (level ss m p) a n e = ap (λ k. Some (shape modes.After (depth_of o) k)) (sym e)

closing : (n d : ℕ) → shape_after (shape modes.After (d + 1) n) sorts.Close ≡ Some (shape modes.After d n)
closing n d = grind arith

shape_after_is : (o : Outer) (ss : List MeetText) (m : Option MeetText) (p : ProductText) (w : Word) → shape_after (shape modes.After (depth_of o) (state_nodes (after o ss m p))) (sort_of w) ≡ option_map image (step_after o ss m p w)
shape_after_is o ss m p (sign kinds.Times) = more modes.Operand (depth_of o) (state_nodes (after o ss m p)) (state_nodes (operand o (level ss m (Some p)))) (omega arith)
shape_after_is o ss m p (sign kinds.And) = let e = meet_is m p in more modes.Operand (depth_of o) (state_nodes (after o ss m p)) (state_nodes (operand o (level ss (Some (with_meet m p)) None))) (omega (arith, e))
shape_after_is o ss m p (sign kinds.To) = let e = meet_is m p in more modes.Operand (depth_of o) (state_nodes (after o ss m p)) (state_nodes (operand o (level (with_meet m p ∷ ss) None None))) (omega (arith, e))
shape_after_is whole ss m p (sign kinds.Close) = refl
shape_after_is (within o k l) ss m p (sign kinds.Close) =
    let a = atom_is o l (enclosed k (closed ss m p)) in
    let b = enclosed_is k (closed ss m p) in
    let c = closed_is ss m p in
    closing (state_nodes (after (within o k l) ss m p)) (depth_of o) ∙ after_atom_mode o l (enclosed k (closed ss m p)) (state_nodes (after (within o k l) ss m p)) (omega (arith, a, b, c))
shape_after_is o ss m p _ = refl

named_is : (o : Outer) (ss : List MeetText) (m : Option MeetText) (p : Option ProductText) (x : List ℕ) → state_nodes (after o ss m (with_product p (grammar.named x))) ≡ outer_left o + (level_left (level ss m p) + 1) + 1
named_is o ss m p x = let e = product_is p (grammar.named x) in omega (arith, e)

shape_name_is : (o : Outer) (l : Level) (x : List ℕ) (w : Word) → shape_name (image (after_name o l x)) (sort_of w) ≡ option_map image (step_name o l x w)
shape_name_is o l x (sign kinds.Open) = same modes.Operand (depth_of o + 1) (state_nodes (after_name o l x)) (state_nodes (operand (within o (of_name x) l) (level [] None None))) (omega arith)
shape_name_is o (level ss m p) x w =
    ap (λ n. shape_after (record { mode = modes.After; depth = depth_of o; nodes = n }) (sort_of w)) (held_more (outer_left o + (level_left (level ss m p) + 1)) ∙ ap held (sym (named_is o ss m p x)))
    ∙ shape_after_is o ss m (with_product p (grammar.named x)) w

atom_more : (o : Outer) (l : Level) (a : AtomText) → atom_nodes a ≡ 1 → Path (Option TypeShape) (Some (with_node (shape modes.Operand (depth_of o) (outer_left o + level_left l)) modes.After)) (Some (image (after_atom o l a)))
atom_more o (level ss m p) a one = let e = product_is p a in more modes.After (depth_of o) (outer_left o + level_left (level ss m p)) (state_nodes (after_atom o (level ss m p) a)) (omega (arith, e, one))

no_variable : (s : TypeShape) (kind : TokenKind) → shape_variable s (sort_of (sign kind)) ≡ None
no_variable s kinds.To = refl
no_variable s _ = refl

shape_step_is : (s : State) (w : Word) → shape_step (image s) (sort_of w) ≡ option_map image (step s w)
shape_step_is (operand o l) word.omega = atom_more o l grammar.omega refl
shape_step_is (operand o l) (name x) = more modes.AfterName (depth_of o) (outer_left o + level_left l) (state_nodes (after_name o l x)) (omega arith)
shape_step_is (operand o l) (sign kinds.Dollar) = refl
shape_step_is (operand o l) (sign kinds.Open) = same modes.Operand (depth_of o + 1) (outer_left o + level_left l) (state_nodes (operand (within o plain l) (level [] None None))) (omega arith)
shape_step_is (operand o l) _ = refl
shape_step_is (after_dollar o l) (name x) = atom_more o l (variable x) refl
shape_step_is (after_dollar o l) (sign kind) = no_variable (image (after_dollar o l)) kind
shape_step_is (after_dollar o l) _ = refl
shape_step_is (after_name o l x) w = shape_name_is o l x w
shape_step_is (after o ss m p) w = shape_after_is o ss m p w

-- the place where the type ends and its nodes, or the place of the stop
abbrev pub EndsAt : List Word → Result (ℕ × ℕ) (ℕ × Bool) → Result (TypeText × List Word) Stop → Type 0
EndsAt ws (Ok p) r = (t : TypeText) × (r ≡ Ok (t, drop p.0 ws)) × (p.1 ≡ held (type_nodes t))
EndsAt ws (Err p) r = r ≡ Err (stop (drop p.0 ws) p.1)

still_open : (mode : Mode) (d n i : ℕ) → Path (Result (ℕ × ℕ) (ℕ × Bool)) (if d + 1 == 0 then Ok (i, n) else Err (i, false)) (Err (i, false))
still_open mode d n i = grind arith

stopped_is : (s : State) (i : ℕ) (all ws : List Word) → drop i all ≡ ws → EndsAt all (shape_stopped (image s) i) (stopped (ended s) (wants_name s) ws)
stopped_is (operand o l) i all ws e = ap (λ vs. Err (stop vs true)) (sym e)
stopped_is (after_dollar o l) i all ws e = ap (λ vs. Err (stop vs true)) (sym e)
stopped_is (after_name whole (level ss m p) x) i all ws e =
    let t = closed ss m (with_product p (grammar.named x)) in
    let a = closed_is ss m (with_product p (grammar.named x)) in
    let b = named_is whole ss m p x in
    (t, ap (λ (vs : List Word). Ok (t, vs)) (sym e), held_more (state_nodes (after_name whole (level ss m p) x)) ∙ ap held (omega (arith, a, b)))
stopped_is (after whole ss m p) i all ws e = let a = closed_is ss m p in (closed ss m p, ap (λ (vs : List Word). Ok (closed ss m p, vs)) (sym e), ap held (omega (arith, a)))
stopped_is (after_name (within o k l) (level ss m p) x) i all ws e = subst (λ (r : Result (ℕ × ℕ) (ℕ × Bool)). EndsAt all r (Err (stop ws false))) (sym (still_open modes.AfterName (depth_of o) _ i)) (ap (λ vs. Err (stop vs false)) (sym e))
stopped_is (after (within o k l) ss m p) i all ws e = subst (λ (r : Result (ℕ × ℕ) (ℕ × Bool)). EndsAt all r (Err (stop ws false))) (sym (still_open modes.After (depth_of o) _ i)) (ap (λ vs. Err (stop vs false)) (sym e))

tail_of : (i : ℕ) (all ws : List Word) (w : Word) → drop i all ≡ w ∷ ws → drop (i + 1) all ≡ ws
tail_of i all ws w e = sym (drop-drop 1 i all) ∙ ap (λ (vs : List Word). drop 1 vs) e

abbrev next : TypeShape → ℕ → List Sort → Option TypeShape → Result (ℕ × ℕ) (ℕ × Bool)
next s i ks None = shape_stopped s i
next s i ks (Some t) = shape_reading t (i + 1) ks

reading_is : (ws : List Word) (s : State) (i : ℕ) (all : List Word) → drop i all ≡ ws → EndsAt all (shape_reading (image s) i (map sort_of ws)) (reading type_machine s ws)
reading_is [] s i all e = stopped_is s i all [] e
reading_is (w ∷ ws) s i all e =
    let go : (o : Option State) → EndsAt all (elim (option_map image o) as (λ _. Result (ℕ × ℕ) (ℕ × Bool)) [ None ↦ shape_stopped (image s) i | Some t ↦ shape_reading t (i + 1) (map sort_of ws) ]) (elim o [ None ↦ stopped (ended s) (wants_name s) (w ∷ ws) | Some t ↦ reading type_machine t ws ])
    = λ o. elim o as (λ o. EndsAt all (elim (option_map image o) as (λ _. Result (ℕ × ℕ) (ℕ × Bool)) [ None ↦ shape_stopped (image s) i | Some t ↦ shape_reading t (i + 1) (map sort_of ws) ]) (elim o [ None ↦ stopped (ended s) (wants_name s) (w ∷ ws) | Some t ↦ reading type_machine t ws ]))
    [ None ↦ stopped_is s i all (w ∷ ws) e | Some t ↦ reading_is ws t (i + 1) all (tail_of i all ws w e) ] in
    subst (λ (o : Option TypeShape). EndsAt all (elim o as (λ _. Result (ℕ × ℕ) (ℕ × Bool)) [ None ↦ shape_stopped (image s) i | Some t ↦ shape_reading t (i + 1) (map sort_of ws) ]) (reading type_machine s (w ∷ ws))) (sym (shape_step_is s w)) (go (step s w))

pub type_ends_at : (ws : List Word) → EndsAt ws (shape_reading shape_start 0 (map sort_of ws)) (type_front ws)
unfolding type_front
type_ends_at ws = reading_is ws start 0 ws refl
