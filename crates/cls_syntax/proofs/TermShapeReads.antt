-- The shape of a state is enough to know where a term ends.
use Rattle.std.proofs.Common.{◌≡◌, ℕ, ◌+◌, ◌-◌, Bool, true, false, List, [], ◌∷◌, refl, ap, sym, ◌∙◌, subst, drop, map, arith}
use Rattle.std.proofs.lemmas.List.{drop-drop}
use Rattle.std.specs.Prelude.{Option, Some, None, Result, Ok, Err, nat_lt, ◌==◌, if◌then◌else◌}
use Rattle.std.specs.Option.{option_map}
use Rattle.cls_lexer.specs.declared.token.TokenKind.{TokenKind}
use Rattle.cls_lexer.specs.declared.token.TokenKind.TheVariants as kinds
use Rattle.cls_syntax.specs.declared.term_shape.TermMode.{TermMode}
use Rattle.cls_syntax.specs.declared.term_shape.TermMode.TheVariants as modes
use Rattle.cls_syntax.specs.declared.term_shape.TermShape.{TermShape}
use Rattle.cls_lexer.specs.Words.{Word, name, sign}
use Rattle.cls_syntax.specs.Sorts.{sort_of}
use Rattle.cls_syntax.specs.Faults.{Stop, stop}
use Rattle.cls_syntax.specs.Machines.{stopped, reading}
use Rattle.cls_syntax.specs.TermTexts.{TermText, named}
use Rattle.cls_syntax.specs.TermReading.{Outer, whole, within, State, operand, after_name, after, step_after, step_name, step, ended, wants_name, term_machine, start, term_front}
use Rattle.cls_syntax.specs.TermShapes.{shape_start, shape_after, shape_operand, shape_name, shape_step, shape_stopped, shape_reading}

abbrev mode_of : State → TermMode
mode_of (operand o) = modes.Operand
mode_of (after_name o x) = modes.AfterName
mode_of (after o e) = modes.After

abbrev depth_of : Outer → ℕ
depth_of whole = 0
depth_of (within o x ds) = depth_of o + 1

abbrev open_of : State → ℕ
open_of (operand o) = depth_of o
open_of (after_name o x) = depth_of o
open_of (after o e) = depth_of o

abbrev image : State → TermShape
image s = record { mode = mode_of s; depth = open_of s }

closing : (d : ℕ) → Path (Option TermShape) (if nat_lt 0 (d + 1) then Some (record { mode = modes.After; depth = d + 1 - 1 }) else None) (Some (record { mode = modes.After; depth = d }))
closing d = grind arith

another : (d : ℕ) → Path (Option TermShape) (if nat_lt 0 (d + 1) then Some (record { mode = modes.Operand; depth = d + 1 }) else None) (Some (record { mode = modes.Operand; depth = d + 1 }))
another d = grind arith

shape_after_is : (o : Outer) (e : TermText) (w : Word) → shape_after (depth_of o) (sort_of w) ≡ option_map image (step_after o e w)
shape_after_is whole e (sign kinds.Comma) = refl
shape_after_is (within o x ds) e (sign kinds.Comma) = another (depth_of o)
shape_after_is whole e (sign kinds.Close) = refl
shape_after_is (within o x ds) e (sign kinds.Close) = closing (depth_of o)
shape_after_is whole e _ = refl
shape_after_is (within o x ds) e _ = refl

shape_name_is : (o : Outer) (x : List ℕ) (w : Word) → shape_name (depth_of o) (sort_of w) ≡ option_map image (step_name o x w)
shape_name_is o x (sign kinds.Open) = refl
shape_name_is o x (sign kinds.Comma) = shape_after_is o (named x) (sign kinds.Comma)
shape_name_is o x (sign kinds.Close) = shape_after_is o (named x) (sign kinds.Close)
shape_name_is o x w = shape_after_is o (named x) w

no_operand : (d : ℕ) (kind : TokenKind) → shape_operand d (sort_of (sign kind)) ≡ None
no_operand d kinds.To = refl
no_operand d _ = refl

shape_step_is : (s : State) (w : Word) → shape_step (image s) (sort_of w) ≡ option_map image (step s w)
shape_step_is (operand o) (name x) = refl
shape_step_is (operand o) (sign kind) = no_operand (depth_of o) kind
shape_step_is (operand o) _ = refl
shape_step_is (after_name o x) w = shape_name_is o x w
shape_step_is (after o e) w = shape_after_is o e w

-- the place where the term ends, or that of the stop
abbrev pub EndsAt : List Word → Result ℕ (ℕ × Bool) → Result (TermText × List Word) Stop → Type 0
EndsAt ws (Ok end) r = (e : TermText) × (r ≡ Ok (e, drop end ws))
EndsAt ws (Err p) r = r ≡ Err (stop (drop p.0 ws) p.1)

still_open : (d i : ℕ) → Path (Result ℕ (ℕ × Bool)) (if d + 1 == 0 then Ok i else Err (i, false)) (Err (i, false))
still_open d i = grind arith

stopped_is : (s : State) (i : ℕ) (all ws : List Word) → drop i all ≡ ws → EndsAt all (shape_stopped (image s) i) (stopped (ended s) (wants_name s) ws)
stopped_is (operand o) i all ws h = ap (λ vs. Err (stop vs true)) (sym h)
stopped_is (after_name whole x) i all ws h = (named x, ap (λ (vs : List Word). Ok (named x, vs)) (sym h))
stopped_is (after whole e) i all ws h = (e, ap (λ (vs : List Word). Ok (e, vs)) (sym h))
stopped_is (after_name (within o y ds) x) i all ws h = subst (λ (r : Result ℕ (ℕ × Bool)). EndsAt all r (Err (stop ws false))) (sym (still_open (depth_of o) i)) (ap (λ vs. Err (stop vs false)) (sym h))
stopped_is (after (within o y ds) e) i all ws h = subst (λ (r : Result ℕ (ℕ × Bool)). EndsAt all r (Err (stop ws false))) (sym (still_open (depth_of o) i)) (ap (λ vs. Err (stop vs false)) (sym h))

tail_of : (i : ℕ) (all ws : List Word) (w : Word) → drop i all ≡ w ∷ ws → drop (i + 1) all ≡ ws
tail_of i all ws w e = sym (drop-drop 1 i all) ∙ ap (λ (vs : List Word). drop 1 vs) e

reading_is : (ws : List Word) (s : State) (i : ℕ) (all : List Word) → drop i all ≡ ws → EndsAt all (shape_reading (image s) i (map sort_of ws)) (reading term_machine s ws)
reading_is [] s i all e = stopped_is s i all [] e
reading_is (w ∷ ws) s i all e =
    let go : (o : Option State) → EndsAt all (elim (option_map image o) as (λ _. Result ℕ (ℕ × Bool)) [ None ↦ shape_stopped (image s) i | Some t ↦ shape_reading t (i + 1) (map sort_of ws) ]) (elim o [ None ↦ stopped (ended s) (wants_name s) (w ∷ ws) | Some t ↦ reading term_machine t ws ])
    = λ o. elim o as (λ o. EndsAt all (elim (option_map image o) as (λ _. Result ℕ (ℕ × Bool)) [ None ↦ shape_stopped (image s) i | Some t ↦ shape_reading t (i + 1) (map sort_of ws) ]) (elim o [ None ↦ stopped (ended s) (wants_name s) (w ∷ ws) | Some t ↦ reading term_machine t ws ]))
    [ None ↦ stopped_is s i all (w ∷ ws) e | Some t ↦ reading_is ws t (i + 1) all (tail_of i all ws w e) ] in
    subst (λ (o : Option TermShape). EndsAt all (elim o as (λ _. Result ℕ (ℕ × Bool)) [ None ↦ shape_stopped (image s) i | Some t ↦ shape_reading t (i + 1) (map sort_of ws) ]) (reading term_machine s (w ∷ ws))) (sym (shape_step_is s w)) (go (step s w))

pub term_ends_at : (ws : List Word) → EndsAt ws (shape_reading shape_start 0 (map sort_of ws)) (term_front ws)
unfolding term_front
term_ends_at ws = reading_is ws start 0 ws refl
