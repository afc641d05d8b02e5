-- The tokens of a list of types at the front of a line.
use Rattle.std.proofs.Common.{◌≡◌, ℕ, ◌+◌, ◌-◌, ◌<◌, ◌≤◌, Bool, true, false, List, [], ◌∷◌, ◌++◌, refl, ap, sym, ◌∙◌, take, length, append-nil, arith, length-append}
use Rattle.std.specs.Prelude.{Option, Some, None, Result, Ok, Err, IsTrue, max, if◌then◌else◌, ◌==◌}
use Rattle.std.proofs.lemmas.List.{take-map, length-map, take_at}
use Rattle.cls_lexer.specs.declared.token.TokenKind.{TokenKind}
use Rattle.cls_lexer.specs.declared.token.Token.{Token}
use Rattle.cls_lexer.specs.Words as word
use Rattle.cls_lexer.specs.Words.{Word, name, number, sign, word_of}
use Rattle.cls_lexer.specs.Words.{words}
use Rattle.cls_syntax.specs.Fronts.{after_sign, kind_place}
use Rattle.cls_syntax.specs.Faults.{Stop, stop}
use Rattle.cls_syntax.specs.Machines.{stopped, reading}
use Rattle.cls_syntax.specs.TypeTexts.{TypeText, type_words, type_nodes, TypeList, last, more}
use Rattle.cls_syntax.specs.TypeReading as type
use Rattle.cls_syntax.specs.TypeReading.{State, type_machine, type_front}
use Rattle.cls_syntax.specs.TypeLists.{types_words, types_nodes, with_types, is_the_sign, next_type, stepped, with_last, types_machine, types_front}
use Rattle.cls_syntax.specs.TypeShapes.{held}
use Rattle.cls_syntax.specs.Spans.{is_whole, read_or, omega_text, types_in}
use Rattle.cls_syntax.specs.Forms.{the_sign}
use Rattle.cls_syntax.specs.GoodForms.{EndsType}
use Rattle.cls_syntax.specs.LineReading.{item_front}
use Rattle.cls_syntax.proofs.MachineRuns.{Halts, reading_run, halted}
use Rattle.cls_syntax.proofs.TypeReads as types
use Rattle.cls_syntax.proofs.TypeListReads.{Pairs, types_run_type, at_sign}
use Rattle.cls_syntax.proofs.ItemFronts.{type_ok, types_ok, types_again, type_halts, after_ok, after_err}
use Rattle.cls_syntax.proofs.WordFronts.{fronts_exact}

module _ (kind : TokenKind) where
  stuck_end : (o : Option TypeText) (b : Bool) (vs : List Word) (e : Stop) → stopped o b vs ≡ Err e → (o ≡ None) × (stop vs b ≡ e)
  stuck_end None b vs e h = (refl, cc)
  stuck_end (Some t) b vs e h = cc

  abbrev goes_on : Pairs kind → List Word → Result (TypeList × List Word) Stop → Option (Pairs kind) → Result (TypeList × List Word) Stop
  goes_on p ws r o = elim o [ None ↦ r | Some q ↦ reading (types_machine kind) q ws ]

  -- where a type can't be read, no list goes on
  reading_failed : (ws : List Word) (s : State) (ds : List TypeText) (e : Stop) → reading type_machine s ws ≡ Err e → reading (types_machine kind) (ds, s) ws ≡ Err e
  reading_failed [] s ds e h =
      let p = stuck_end (type.ended s) (type.wants_name s) [] e h in
      ap (λ (o : Option TypeText). stopped (with_last ds o) (type.wants_name s) []) p.0 ∙ ap (λ x. Err x) p.1
  reading_failed (w ∷ ws) s ds e h =
      let r : Result (TypeList × List Word) Stop = stopped (with_last ds (type.ended s)) (type.wants_name s) (w ∷ ws) in
      (elim (type.step s w) as (λ o. (elim o as (λ _. Result (TypeText × List Word) Stop) [ None ↦ stopped (type.ended s) (type.wants_name s) (w ∷ ws) | Some u ↦ reading type_machine u ws ]) ≡ Err e → goes_on (ds, s) ws r (stepped kind ds w (type.ended s) o) ≡ Err e) [
        | None ↦ λ k.
            let p = stuck_end (type.ended s) (type.wants_name s) (w ∷ ws) e k in
            ap (λ (o : Option TypeText). goes_on (ds, s) ws r (next_type kind ds w o)) p.0
            ∙ (ap (λ (o : Option TypeText). stopped (with_last ds o) (type.wants_name s) (w ∷ ws)) p.0 ∙ ap (λ x. Err x) p.1)
        | Some u ↦ λ k. reading_failed ws u ds e k
      ]) h

  -- a type that was read is one of the list
  one_more : (ws rest : List Word) (ds : List TypeText) (t : TypeText) → ws ≡ type_words t ++ rest → reading (types_machine kind) (ds, type.start) ws ≡ reading (types_machine kind) (ds, types.past t) rest
  one_more ws rest ds t is =
      ap (reading (types_machine kind) (ds, type.start)) is
      ∙ reading_run (types_machine kind) (type_words t) rest (ds, type.start) (ds, types.past t) (types_run_type kind (type_words t) ds type.start (types.past t) (types.type_reads.runs t))

  -- behind the sign the next type begins
  sign_read : (ds : List TypeText) (t : TypeText) (rest next : List Word) → EndsType kind → rest ≡ sign kind ∷ next → reading (types_machine kind) (ds, types.past t) rest ≡ reading (types_machine kind) (t ∷ ds, type.start) next
  sign_read ds t rest next e is =
      ap (reading (types_machine kind) (ds, types.past t)) is
      ∙ ap (λ (o : Option (Pairs kind)). elim o as (λ _. Result (TypeList × List Word) Stop) [ None ↦ stopped (with_last ds (type.ended (types.past t))) (type.wants_name (types.past t)) (sign kind ∷ next) | Some p ↦ reading (types_machine kind) p next ]) (at_sign kind ds (types.past t) t (type_halts kind e [] t) (types.type_reads.ends t))

  if_none_false : (b : Bool) (ws : List Word) → Path (Option (List Word)) (if b then Some ws else None) None → b ≡ false
  if_none_false true ws h = cc
  if_none_false false ws h = refl

  no_sign : (w : Word) (ws : List Word) → after_sign kind (w ∷ ws) ≡ None → is_the_sign kind w ≡ false
  no_sign word.omega ws h = refl
  no_sign (name x) ws h = refl
  no_sign (number n) ws h = refl
  no_sign (sign k) ws h = if_none_false (kind_place kind == kind_place k) ws h

  -- where neither the type nor the list goes on, the list ends
  ends_here : (ds : List TypeText) (t : TypeText) (rest : List Word) → Halts type_machine (types.past t) rest → after_sign kind rest ≡ None → Halts (types_machine kind) (ds, types.past t) rest
  ends_here ds t [] h n = tt
  ends_here ds t (w ∷ ws) h n =
      ap (λ (o : Option State). stepped kind ds w (type.ended (types.past t)) o) h
      ∙ (ap (λ (o : Option TypeText). next_type kind ds w o) (types.type_reads.ends t)
      ∙ ap (λ (b : Bool). if b then Some (t ∷ ds, type.start) else None) (no_sign w ws n))

  end_read : (ds : List TypeText) (t : TypeText) (rest : List Word) → Halts type_machine (types.past t) rest → after_sign kind rest ≡ None → reading (types_machine kind) (ds, types.past t) rest ≡ Ok (with_types ds (last t), rest)
  end_read ds t rest h n =
      halted (types_machine kind) (ds, types.past t) rest (ends_here ds t rest h n)
      ∙ ap (λ (o : Option TypeText). stopped (with_last ds o) (type.wants_name (types.past t)) rest) (types.type_reads.ends t)

  -- what was read of a list up to the end of one of its types
  pub record IsReading (ws rest : List Word) (most : ℕ) : Type 0 where
    pub earlier : List TypeText
    pub latest : TypeText
    pub halts : Halts type_machine (types.past latest) rest
    pub same : types_front kind ws ≡ reading (types_machine kind) (earlier, types.past latest) rest
    pub counted : most ≡ held (types_nodes (with_types earlier (last latest)))

  abbrev nodes_left : List TypeText → ℕ
  nodes_left [] = 0
  nodes_left (d ∷ ds) = max (nodes_left ds) (type_nodes d)

  nodes_are : (ds : List TypeText) (ts : TypeList) → types_nodes (with_types ds ts) ≡ max (nodes_left ds) (types_nodes ts)
  nodes_are [] ts = omega arith
  nodes_are (d ∷ ds) ts = let e = nodes_are ds (more d ts) in omega (arith, e)

  held_max : (a b : ℕ) → max (held a) (held b) ≡ held (max a b)
  held_max a b = grind arith

  pub first_read : (ws rest : List Word) (t : TypeText) (n : ℕ) → type_front ws ≡ Ok (t, rest) → n ≡ held (type_nodes t) → IsReading ws rest n
  unfolding types_front
  first_read ws rest t n h c =
      let is = type_ok ws rest t h in
      record { earlier = []; latest = t; halts = is.1; same = one_more ws rest [] t is.0; counted = c }

  pub next_read : (ws rest next after : List Word) (most n : ℕ) (t : TypeText) → EndsType kind → IsReading ws rest most → item_front (the_sign kind) rest ≡ Ok (tt, next) → type_front next ≡ Ok (t, after) → n ≡ held (type_nodes t) → IsReading ws after (max most n)
  next_read ws rest next after most n t e r s h c =
      let is = type_ok next after t h in
      let at : rest ≡ sign kind ∷ next = (fronts_exact.signs rest next kind).0 (after_ok rest next (after_sign kind rest) tt s) in
      let a = nodes_are r.earlier (last r.latest) in
      let b = nodes_are r.earlier (more r.latest (last t)) in
      record {
        earlier = r.latest ∷ r.earlier;
        latest = t;
        halts = is.1;
        same = r.same ∙ (sign_read r.earlier r.latest rest next e at ∙ one_more next after (r.latest ∷ r.earlier) t is.0);
        counted =
            ap (λ m. max m n) r.counted ∙ (ap (λ m. max (held (types_nodes (with_types r.earlier (last r.latest)))) m) c
            ∙ (held_max (types_nodes (with_types r.earlier (last r.latest))) (type_nodes t) ∙ ap held (omega (arith, a, b))));
      }

  pub next_failed : (ws rest next : List Word) (most : ℕ) (s : Stop) → EndsType kind → IsReading ws rest most → item_front (the_sign kind) rest ≡ Ok (tt, next) → type_front next ≡ Err s → types_front kind ws ≡ Err s
  unfolding type_front
  next_failed ws rest next most s e r is h =
      let at : rest ≡ sign kind ∷ next = (fronts_exact.signs rest next kind).0 (after_ok rest next (after_sign kind rest) tt is) in
      r.same ∙ (sign_read r.earlier r.latest rest next e at ∙ reading_failed next type.start (r.latest ∷ r.earlier) s h)

  pub first_failed : (ws : List Word) (s : Stop) → type_front ws ≡ Err s → types_front kind ws ≡ Err s
  unfolding type_front types_front
  first_failed ws s h = reading_failed ws type.start [] s h

  pub shorter : (rest next after : List Word) (t : TypeText) → item_front (the_sign kind) rest ≡ Ok (tt, next) → type_front next ≡ Ok (t, after) → length after < length rest
  shorter rest next after t s h =
      let at : rest ≡ sign kind ∷ next = (fronts_exact.signs rest next kind).0 (after_ok rest next (after_sign kind rest) tt s) in
      let a = ap length at in
      let b = ap length (type_ok next after t h).0 in
      let c = length-append (type_words t) after in
      omega (arith, a, b, c)

  -- the front of the tokens spells types
  pub record IsTypesSpan (ls rest : List Token) (most : ℕ) : Type 0 where
    pub within : length rest ≤ length ls
    pub spelled : IsTrue (is_whole (types_front kind (words (take (length ls - length rest) ls))))
    pub counted : most ≡ held (types_nodes (types_in kind (words (take (length ls - length rest) ls))))
    pub reads : types_front kind (words ls) ≡ Ok (types_in kind (words (take (length ls - length rest) ls)), words rest)

  pub types_span : (ls rest : List Token) (most : ℕ) (s : Stop) → EndsType kind → IsReading (words ls) (words rest) most → item_front (the_sign kind) (words rest) ≡ Err s → IsTypesSpan ls rest most
  types_span ls rest most (stop left b) e r s =
      let none : after_sign kind (words rest) ≡ None = (after_err (words rest) left (after_sign kind (words rest)) b s).2 in
      let ts : TypeList = with_types r.earlier (last r.latest) in
      let read : types_front kind (words ls) ≡ Ok (ts, words rest) = r.same ∙ end_read r.earlier r.latest (words rest) r.halts none in
      let is : words ls ≡ types_words kind ts ++ words rest = (types_ok kind e (words ls) (words rest) ts read).0 in
      let many : length ls ≡ length (types_words kind ts) + length rest = sym (length-map ls word_of) ∙ (ap length is ∙ (length-append (types_words kind ts) (words rest) ∙ ap (λ n. length (types_words kind ts) + n) (length-map rest word_of))) in
      let n : ℕ = length ls - length rest in
      let front : types_words kind ts ≡ words (take n ls) = sym (take_at (types_words kind ts) (words rest) n (omega (arith, many))) ∙ (ap (λ (x : List Word). take n x) (sym is) ∙ take-map word_of n ls) in
      let whole : types_front kind (words (take n ls)) ≡ Ok (ts, []) = ap (types_front kind) (sym front ∙ sym (append-nil (types_words kind ts))) ∙ types_again kind e ts [] tt in
      let same : types_in kind (words (take n ls)) ≡ ts = ap (λ (x : Result (TypeList × List Word) Stop). read_or (last omega_text) x) whole in
      record {
        within = omega (arith, many);
        spelled = ap (λ (x : Result (TypeList × List Word) Stop). is_whole x) whole;
        counted = r.counted ∙ ap (λ (x : TypeList). held (types_nodes x)) (sym same);
        reads = read ∙ ap (λ (x : TypeList). Ok (x, words rest)) (sym same);
      }

pub ruleset types_spans = (first_read, next_read, next_failed, first_failed, shorter, types_span)
