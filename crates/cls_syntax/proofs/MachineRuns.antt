-- What a machine reads, and where it stops.
use Rattle.std.proofs.Common.{◌≡◌, ℕ, Bool, true, false, List, [], ◌∷◌, ◌++◌, refl, ap, sym, ◌∙◌, subst}
use Rattle.std.specs.Prelude.{Option, Some, None, Result, Ok, Err}
use Rattle.cls_lexer.specs.Words.{Word, name}
use Rattle.cls_syntax.specs.Faults.{Stop, stop, Always, CanGoOn}
use Rattle.cls_syntax.specs.Machines.{Machine, stopped, reading}
use Rattle.cls_syntax.proofs.FrontFaults.{FrontFault}

-- the parts of a stop
pub stop_parts : {B : Type 0} (rest vs : List Word) (a b : Bool) → Path (Result B Stop) (Err (stop rest a)) (Err (stop vs b)) → (rest ≡ vs) × (a ≡ b)
stop_parts rest vs a b h = (cc, cc)

module _ {S A : Type 0} (m : Machine S A) where
  -- the state after all the words
  abbrev pub run : S → List Word → Option S
  run s [] = Some s
  run s (w ∷ ws) = elim (m.step s w) [ None ↦ None | Some t ↦ run t ws ]

  pub run_append : (ws vs : List Word) (s s' : S) → run s ws ≡ Some s' → run s (ws ++ vs) ≡ run s' vs
  run_append [] vs s s' h = let e : s ≡ s' = cc in rw e refl
  run_append (w ∷ ws) vs s s' h =
      (elim (m.step s w) as (λ o. (elim o [ None ↦ None | Some t ↦ run t ws ]) ≡ Some s' → (elim o [ None ↦ None | Some t ↦ run t (ws ++ vs) ]) ≡ run s' vs)
      [ None ↦ λ k. cc | Some t ↦ λ k. run_append ws vs t s' k ]) h

  pub reading_run : (ws vs : List Word) (s s' : S) → run s ws ≡ Some s' → reading m s (ws ++ vs) ≡ reading m s' vs
  reading_run [] vs s s' h = let e : s ≡ s' = cc in rw e refl
  reading_run (w ∷ ws) vs s s' h =
      (elim (m.step s w) as (λ o. (elim o [ None ↦ None | Some t ↦ run t ws ]) ≡ Some s' → (elim o [ None ↦ stopped (m.ended s) (m.wants_name s) (w ∷ (ws ++ vs)) | Some t ↦ reading m t (ws ++ vs) ]) ≡ reading m s' vs)
      [ None ↦ λ k. cc | Some t ↦ λ k. reading_run ws vs t s' k ]) h

  -- one more word, after many
  pub run_then : (ws vs : List Word) (w : Word) (s s' s'' : S) → run s ws ≡ Some s' → m.step s' w ≡ Some s'' → run s (ws ++ w ∷ vs) ≡ run s'' vs
  run_then ws vs w s s' s'' h e = run_append ws (w ∷ vs) s s' h ∙ ap (λ (o : Option S). elim o as (λ _. Option S) [ None ↦ None | Some t ↦ run t vs ]) e

  -- no step leads on
  abbrev pub Halts : S → List Word → Type 0
  Halts s [] = Unit {0}
  Halts s (w ∷ ws) = m.step s w ≡ None

  -- words that lead from the state to the end of a value
  pub record Ends (s : S) : Type 0 where
    pub words : List Word
    pub last : S
    pub value : A
    pub runs : run s words ≡ Some last
    pub ended : m.ended last ≡ Some value

  -- the machine reads exactly the words of values
  pub record Reads (start : S) (words : A → List Word) (past : A → S) : Type 0 where
    pub runs : (a : A) → run start (words a) ≡ Some (past a)
    pub ends : (a : A) → m.ended (past a) ≡ Some a
    pub sound : (ws : List Word) (s : S) (a : A) → run start ws ≡ Some s → m.ended s ≡ Some a → words a ≡ ws
    pub goes : (s : S) → Ends s
    pub names : (s : S) (x : List ℕ) → m.wants_name s ≡ true → (t : S) × (m.step s (name x) ≡ Some t)
    pub no_names : (s : S) (x : List ℕ) → m.wants_name s ≡ false → m.step s (name x) ≡ None
    pub past_name : (a : A) → m.wants_name (past a) ≡ false

  -- the words up to a state from which no step leads on
  pub record Stops (s : S) (ws : List Word) (result : Result (A × List Word) Stop) : Type 0 where
    pub front : List Word
    pub rest : List Word
    pub last : S
    pub split : ws ≡ front ++ rest
    pub runs : run s front ≡ Some last
    pub halts : Halts last rest
    pub gives : result ≡ stopped (m.ended last) (m.wants_name last) rest

  pub stops : (ws : List Word) (s : S) → Stops s ws (reading m s ws)
  stops [] s = record { front = []; rest = []; last = s; split = refl; runs = refl; halts = tt; gives = refl }
  stops (w ∷ ws) s =
      (elim (m.step s w) as (λ o. m.step s w ≡ o → Stops s (w ∷ ws) (elim o [ None ↦ stopped (m.ended s) (m.wants_name s) (w ∷ ws) | Some t ↦ reading m t ws ])) [
        | None ↦ λ e. record { front = []; rest = w ∷ ws; last = s; split = refl; runs = refl; halts = e; gives = refl }
        | Some t ↦ λ e. let r = stops ws t in record { front = w ∷ r.front; rest = r.rest; last = r.last; split = ap (λ vs. w ∷ vs) r.split; runs = ap (λ (o : Option S). elim o as (λ _. Option S) [ None ↦ None | Some t ↦ run t r.front ]) e ∙ r.runs; halts = r.halts; gives = r.gives }
      ]) refl

  pub halted : (s : S) (ws : List Word) → Halts s ws → reading m s ws ≡ stopped (m.ended s) (m.wants_name s) ws
  halted s [] h = refl
  halted s (w ∷ ws) h = ap (λ (o : Option S). elim o as (λ _. Result (A × List Word) Stop) [ None ↦ stopped (m.ended s) (m.wants_name s) (w ∷ ws) | Some t ↦ reading m t ws ]) h

  module _ (start : S) (words : A → List Word) (past : A → S) (reads : Reads start words past) where
    past_runs : (ws : List Word) (a : A) → words a ≡ ws → run start ws ≡ Some (past a)
    past_runs ws a e = subst (λ (vs : List Word). run start vs ≡ Some (past a)) e (reads.runs a)

    -- what runs to a state can go on
    pub live : (ws : List Word) (s : S) → run start ws ≡ Some s → CanGoOn words Always ws
    live ws s h =
        let r = reads.goes s in
        record { line = r.value; stands = tt; more = r.words; begins = reads.sound (ws ++ r.words) r.last r.value (run_append ws r.words start s h ∙ r.runs) r.ended }

    pub reading_again : (a : A) (rest : List Word) → Halts (past a) rest → reading m start (words a ++ rest) ≡ Ok (a, rest)
    reading_again a rest h =
        reading_run (words a) rest start (past a) (reads.runs a)
        ∙ (halted (past a) rest h ∙ ap (λ (o : Option A). stopped o (m.wants_name (past a)) rest) (reads.ends a))

    -- no name makes a value longer
    pub halts_name : (a : A) (x : List ℕ) (us : List Word) → Halts (past a) (name x ∷ us)
    halts_name a x us = reads.no_names (past a) x (reads.past_name a)

    ok_at : (ws front vs rest : List Word) (s : S) (a : A) (o : Option A) (b : Bool) → ws ≡ front ++ vs → run start front ≡ Some s → Halts s vs → m.ended s ≡ o → stopped o b vs ≡ Ok (a, rest) → (ws ≡ words a ++ rest) × Halts (past a) rest
    ok_at ws front vs rest s a None b split runs h e g = cc
    ok_at ws front vs rest s a (Some u) b split runs h e g =
        let both : Path (A × List Word) (u, vs) (a, rest) = cc in
        let same : u ≡ a = ap (λ (x : A × List Word). x.0) both in
        let left : vs ≡ rest = ap (λ (x : A × List Word). x.1) both in
        let said : words a ≡ front = reads.sound front s a runs (e ∙ ap (λ x. Some x) same) in
        let at : Some (past a) ≡ Some s = sym (past_runs front a said) ∙ runs in
        let state : s ≡ past a = cc in
        (split ∙ (ap (λ xs. xs ++ vs) (sym said) ∙ ap (λ xs. words a ++ xs) left), subst (λ (x : S). Halts x rest) state (subst (λ (xs : List Word). Halts s xs) left h))

    pub reading_ok : (ws rest : List Word) (a : A) → reading m start ws ≡ Ok (a, rest) → (ws ≡ words a ++ rest) × Halts (past a) rest
    reading_ok ws rest a g = let r = stops ws start in ok_at ws r.front r.rest rest r.last a (m.ended r.last) (m.wants_name r.last) r.split r.runs r.halts refl (sym r.gives ∙ g)

    -- where no value ends and no step leads on, the machine stops
    stuck : (front vs : List Word) (s : S) → run start front ≡ Some s → Halts s vs → m.ended s ≡ None → reading m start (front ++ vs) ≡ Err (stop vs (m.wants_name s))
    stuck front vs s runs h e = reading_run front vs start s runs ∙ (halted s vs h ∙ ap (λ (o : Option A). stopped o (m.wants_name s) vs) e)

    err_at : (ws front vs rest : List Word) (s : S) (o : Option A) (b : Bool) → ws ≡ front ++ vs → run start front ≡ Some s → Halts s vs → m.ended s ≡ o → stopped o (m.wants_name s) vs ≡ Err (stop rest b) → FrontFault (reading m start) words Always ws rest b
    err_at ws front vs rest s (Some t) b split runs h e g = cc
    err_at ws front vs rest s None b split runs h e g =
        let parts = stop_parts {B = A × List Word} vs rest (m.wants_name s) b g in
        let left : vs ≡ rest = parts.0 in
        let wants : m.wants_name s ≡ b = parts.1 in
        record {
          front = front;
          split = split ∙ ap (λ xs. front ++ xs) left;
          live = live front s runs;
          always = λ w ws' us is. stuck front (w ∷ us) s runs (subst (λ (xs : List Word). Halts s xs) (left ∙ is) h) e ∙ ap (λ c. Err (stop (w ∷ us) c)) wants;
          named = λ want x plain. let r = reads.names s x (wants ∙ want) in live (front ++ name x ∷ []) r.0 (run_then front [] (name x) start s r.0 runs r.1);
          unnamed = λ not_wanted. record { text = []; plain = refl; always = λ us. stuck front (name [] ∷ us) s runs (reads.no_names s [] (wants ∙ not_wanted)) e ∙ ap (λ c. Err (stop (name [] ∷ us) c)) wants };
        }

    pub reading_err : (ws rest : List Word) (b : Bool) → reading m start ws ≡ Err (stop rest b) → FrontFault (reading m start) words Always ws rest b
    reading_err ws rest b g = let r = stops ws start in err_at ws r.front r.rest rest r.last (m.ended r.last) b r.split r.runs r.halts refl (sym r.gives ∙ g)
