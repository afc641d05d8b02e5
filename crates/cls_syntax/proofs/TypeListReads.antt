-- The machine of lists of types reads exactly the words of such lists.
use Rattle.std.proofs.Common.{◌≡◌, ℕ, Bool, true, false, List, [], ◌∷◌, ◌++◌, refl, ap, sym, ◌∙◌, append_assoc, append-nil, subst}
use Rattle.std.specs.Prelude.{Option, Some, None, if◌then◌else◌}
use Rattle.std.proofs.lemmas.Bool.{eq-eqb}
use Rattle.cls_lexer.specs.declared.token.TokenKind.{TokenKind}
use Rattle.cls_lexer.specs.Words.{Word, omega, name, number, sign}
use Rattle.cls_syntax.specs.TypeTexts.{TypeText, type_words, TypeList, last, more}
use Rattle.cls_syntax.specs.TypeReading as type
use Rattle.cls_syntax.specs.TypeReading.{State, type_machine}
use Rattle.cls_syntax.specs.TypeLists.{types_words, with_types, is_the_sign, next_type, stepped, step, with_last, ended, types_machine}
use Rattle.cls_syntax.proofs.MachineRuns.{run, run_then, Ends, Reads}
use Rattle.cls_syntax.proofs.TypeReads as types
use Rattle.cls_syntax.proofs.WordFronts.{kind_place-same}
use Rattle.std.proofs.lemmas.Bool.{eqb-true}

module _ (kind : TokenKind) where
  abbrev pub Pairs : Type 0
  Pairs = List TypeText × State

  abbrev pub begin : Pairs
  begin = ([], type.start)

  -- what the machine of types runs, this one runs too
  pub types_run_type : (ws : List Word) (ds : List TypeText) (s t : State) → run type_machine s ws ≡ Some t → run (types_machine kind) (ds, s) ws ≡ Some (ds, t)
  types_run_type [] ds s t h = let e : s ≡ t = cc in ap (λ x. Some (ds, x)) e
  types_run_type (w ∷ ws) ds s t h =
      (elim (type.step s w) as (λ o. (elim o [ None ↦ None | Some u ↦ run type_machine u ws ]) ≡ Some t → (elim (stepped kind ds w (type.ended s) o) as (λ _. Option Pairs) [ None ↦ None | Some p ↦ run (types_machine kind) p ws ]) ≡ Some (ds, t))
      [ None ↦ λ k. cc | Some u ↦ λ k. types_run_type ws ds u t k ]) h

  same_sign : is_the_sign kind (sign kind) ≡ true
  same_sign = eq-eqb _ _ refl

  -- the sign behind a type begins the next one
  pub at_sign : (ds : List TypeText) (s : State) (t : TypeText) → type.step s (sign kind) ≡ None → type.ended s ≡ Some t → step kind (ds, s) (sign kind) ≡ Some (t ∷ ds, type.start)
  at_sign ds s t halts ends =
      ap (λ (o : Option State). stepped kind ds (sign kind) (type.ended s) o) halts
      ∙ (ap (λ (o : Option TypeText). next_type kind ds (sign kind) o) ends
      ∙ ap (λ (b : Bool). if b then Some (t ∷ ds, type.start) else None) same_sign)

  abbrev pub past_types : List TypeText → TypeList → Pairs
  past_types ds (last t) = (ds, types.past t)
  past_types ds (more t ts) = past_types (t ∷ ds) ts

  module _ (halts : (t : TypeText) → type.step (types.past t) (sign kind) ≡ None) where
    types_run : (ts : TypeList) (ds : List TypeText) → run (types_machine kind) (ds, type.start) (types_words kind ts) ≡ Some (past_types ds ts)
    types_run (last t) ds = types_run_type (type_words t) ds type.start (types.past t) (types.type_reads.runs t)
    types_run (more t ts) ds =
        run_then (types_machine kind) (type_words t) (types_words kind ts) (sign kind) (ds, type.start) (ds, types.past t) (t ∷ ds, type.start)
        (types_run_type (type_words t) ds type.start (types.past t) (types.type_reads.runs t))
        (at_sign ds (types.past t) t (halts t) (types.type_reads.ends t))
        ∙ types_run ts (t ∷ ds)

    types_end : (ts : TypeList) (ds : List TypeText) → ended (past_types ds ts) ≡ Some (with_types ds ts)
    types_end (last t) ds = ap (λ (o : Option TypeText). with_last ds o) (types.type_reads.ends t)
    types_end (more t ts) ds = types_end ts (t ∷ ds)

    types_name : (ts : TypeList) (ds : List TypeText) → type.wants_name (past_types ds ts).1 ≡ false
    types_name (last t) ds = types.type_reads.past_name t
    types_name (more t ts) ds = types_name ts (t ∷ ds)

    -- the words of the types that were read
    abbrev left : List TypeText → List Word
    left [] = []
    left (d ∷ ds) = left ds ++ (type_words d ++ sign kind ∷ [])

    -- what was read: these types, and the words of the one that is being read
    record IsRead (p : Pairs) (ws : List Word) : Type 0 where
      own : List Word
      split : ws ≡ left p.0 ++ own
      runs : run type_machine type.start own ≡ Some p.1

    is_sign : (w : Word) → is_the_sign kind w ≡ true → w ≡ sign kind
    is_sign omega h = cc
    is_sign (name x) h = cc
    is_sign (number x) h = cc
    is_sign (sign k) h = ap sign (sym (kind_place-same kind k (eqb-true _ _ h)))

    next_read : (ds : List TypeText) (s : State) (ws : List Word) (w : Word) (o : Option TypeText) (q : Pairs) → type.ended s ≡ o → IsRead (ds, s) ws → next_type kind ds w o ≡ Some q → IsRead q (ws ++ w ∷ [])
    next_read ds s ws w None q e r h = cc
    next_read ds s ws w (Some t) q e r h =
        (elim (is_the_sign kind w) as (λ b. is_the_sign kind w ≡ b → (if b then Some (t ∷ ds, type.start) else None) ≡ Some q → IsRead q (ws ++ w ∷ [])) [
          | true ↦ λ is k.
              let same : Path Pairs (t ∷ ds, type.start) q = cc in
              let said : type_words t ≡ r.own = types.type_reads.sound r.own s t r.runs e in
              subst (λ (x : Pairs). IsRead x (ws ++ w ∷ [])) same (record {
                own = [];
                split = ap (λ (v : List Word). v ++ w ∷ []) (r.split ∙ ap (λ (v : List Word). left ds ++ v) (sym said)) ∙ (ap (λ (x : Word). (left ds ++ type_words t) ++ x ∷ []) (is_sign w is) ∙ simp (append_assoc, append-nil));
                runs = refl;
              })
          | false ↦ λ is k. cc
        ]) refl h

    step_read : (p q : Pairs) (ws : List Word) (w : Word) → IsRead p ws → step kind p w ≡ Some q → IsRead q (ws ++ w ∷ [])
    step_read (ds, s) q ws w r h =
        (elim (type.step s w) as (λ o. type.step s w ≡ o → stepped kind ds w (type.ended s) o ≡ Some q → IsRead q (ws ++ w ∷ [])) [
          | None ↦ λ e k. next_read ds s ws w (type.ended s) q refl r k
          | Some u ↦ λ e k.
              let same : Path Pairs (ds, u) q = cc in
              subst (λ (x : Pairs). IsRead x (ws ++ w ∷ [])) same (record {
                own = r.own ++ w ∷ [];
                split = ap (λ (v : List Word). v ++ w ∷ []) r.split ∙ append_assoc (left ds) r.own (w ∷ []);
                runs = run_then type_machine r.own [] w type.start s u r.runs e;
              })
        ]) refl h

    run_read : (ws vs : List Word) (p q : Pairs) → IsRead p vs → run (types_machine kind) p ws ≡ Some q → IsRead q (vs ++ ws)
    run_read [] vs p q r h = let e : p ≡ q = cc in rw append-nil (subst (λ (x : Pairs). IsRead x vs) e r)
    run_read (w ∷ ws) vs p q r h =
        (elim (step kind p w) as (λ o. step kind p w ≡ o → (elim o as (λ _. Option Pairs) [ None ↦ None | Some u ↦ run (types_machine kind) u ws ]) ≡ Some q → IsRead q (vs ++ w ∷ ws)) [
          | None ↦ λ e k. cc
          | Some u ↦ λ e k. subst (λ (x : List Word). IsRead q x) (append_assoc vs (w ∷ []) ws) (run_read ws (vs ++ w ∷ []) u q (step_read p u vs w r e) k)
        ]) refl h

    types_is : (ds : List TypeText) (ts : TypeList) → types_words kind (with_types ds ts) ≡ left ds ++ types_words kind ts
    types_is [] ts = refl
    types_is (d ∷ ds) ts = types_is ds (more d ts) ∙ simp append_assoc

    sound_at : (ws : List Word) (p : Pairs) (ts : TypeList) (o : Option TypeText) → type.ended p.1 ≡ o → IsRead p ws → with_last p.0 o ≡ Some ts → types_words kind ts ≡ ws
    sound_at ws p ts None e r h = cc
    sound_at ws p ts (Some t) e r h =
        let same : with_types p.0 (last t) ≡ ts = cc in
        let said : type_words t ≡ r.own = types.type_reads.sound r.own p.1 t r.runs e in
        ap (types_words kind) (sym same) ∙ (types_is p.0 (last t) ∙ (ap (λ (v : List Word). left p.0 ++ v) said ∙ sym r.split))

    sound : (ws : List Word) (p : Pairs) (ts : TypeList) → run (types_machine kind) begin ws ≡ Some p → ended p ≡ Some ts → types_words kind ts ≡ ws
    sound ws p ts h e = sound_at ws p ts (type.ended p.1) refl (run_read ws [] begin p (record { own = []; split = refl; runs = refl }) h) e

    goes : (p : Pairs) → Ends (types_machine kind) p
    goes (ds, s) =
        let r = types.type_reads.goes s in
        record { words = r.words; last = (ds, r.last); value = with_types ds (last r.value); runs = types_run_type r.words ds s r.last r.runs; ended = ap (λ (o : Option TypeText). with_last ds o) r.ended }

    names : (p : Pairs) (x : List ℕ) → type.wants_name p.1 ≡ true → (q : Pairs) × (step kind p (name x) ≡ Some q)
    names (ds, s) x h = let r = types.type_reads.names s x h in ((ds, r.0), ap (λ (o : Option State). stepped kind ds (name x) (type.ended s) o) r.1)

    no_next : (ds : List TypeText) (x : List ℕ) (o : Option TypeText) → next_type kind ds (name x) o ≡ None
    no_next ds x None = refl
    no_next ds x (Some t) = refl

    no_names : (p : Pairs) (x : List ℕ) → type.wants_name p.1 ≡ false → step kind p (name x) ≡ None
    no_names (ds, s) x h = ap (λ (o : Option State). stepped kind ds (name x) (type.ended s) o) (types.type_reads.no_names s x h) ∙ no_next ds x (type.ended s)

    pub types_reads : Reads (types_machine kind) begin (types_words kind) (past_types [])
    types_reads = record {
      runs = λ ts. types_run ts [];
      ends = λ ts. types_end ts [];
      sound = sound;
      goes = goes;
      names = names;
      no_names = no_names;
      past_name = λ ts. types_name ts [];
    }
