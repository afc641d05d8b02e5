-- An accepted certificate is true.
use Rattle.std.proofs.Common.{ℕ, zero, suc, ◌≡◌, ◌<◌, ◌≤◌, refl, sym, ◌∙◌, ap, subst, ◌⊎◌, inl, inr, List, [], ◌∷◌, ◌++◌, length, get_or, Option, Some, arith}
use Rattle.std.specs.Prelude.{All, Contains, slice_get, IsSomeAnd}
use Rattle.std.specs.List.{AllZip}
use Rattle.std.proofs.lemmas.List.{get_or_default}
use Rattle.std.proofs.lemmas.List.Elements.{All-contains, Contains-push_cases}
use Rattle.std.proofs.lemmas.Option.{get_or_from_slice_get}
use native.Mathlib.Decide.{dec_le}
use Rattle.cls_base.proofs.Lists.{Contains-nil, Contains-here, Contains-cases, Contains-at, Contains-place}
use Rattle.cls_base.specs.Types as types
use Rattle.cls_base.specs.Types.{ClosedType}
use Rattle.cls_base.specs.Subtyping.{to_omega}
use Rattle.cls_base.specs.Terms.{Applicative, component, apply}
use Rattle.cls_base.specs.Spines.{spine}
use Rattle.cls_base.specs.Typing.{by_instance, by_subsumption}
use Rattle.cls_path.specs.Paths.{TypePath, Paths, none, more, InPaths, first_in, later_in, paths_of, type_of_path, type_of_paths}
use Rattle.cls_path.proofs.RoundTrip.{paths_back}
use Rattle.cls_library.specs.Arrows.{MultiArrow, arity_of}
use Rattle.cls_library.proofs.LibraryTyping.{paths_are_reached}
use Rattle.cls_library.specs.Libraries.{Library, variances_in, paths_at, arrows_at, IsLibrary}
use Rattle.cls_library.specs.Reaching.{PathLeIn, IsReachedBy}
use Rattle.cls_library.specs.Typing.{HasTypeIn}
use Rattle.cls_proof.specs.Certificates as proof
use Rattle.cls_proof.specs.Certificates.{ProofRow}
use Rattle.cls_check.specs.Arguments.{no_arrow, source_type, argument_type}
use Rattle.cls_check.specs.Checking.{path_total, layers_for, LeadsTo, PassesRow, PassRows, EndsBelow, IsBlocked, Steps, BlockedFrom, PassesUnblocked, PassesMember, IsAboveRow, IsBelowMember}
use Rattle.cls_check.proofs.Order.{form_up}
use Rattle.cls_check.proofs.Typing.{below_path, has_type, omega_spine, declared, arguments_have, argument_below, has_argument, source_count, zip_from}
use Rattle.cls_check.proofs.MemberLaws.{zip_at}

module _ (l : Library) (is : IsLibrary l) where
  abbrev Has : Applicative → ClosedType → Type 0
  Has e t = HasTypeIn l e t

  abbrev nobody : Applicative
  nobody = component 0

  -- each term has what the arrow takes there
  abbrev Given : List Applicative → MultiArrow → Type 0
  Given es a = AllZip (λ e n. Has e (type_of_paths n)) es a.sources

  -- Inhabited

  abbrev HasTerm : ClosedType → Type 0
  HasTerm t = (e : Applicative) × Has e t

  -- terms for the arguments
  terms_for : (A : ℕ → ClosedType) (n : ℕ) → ((i : ℕ) → i < n → HasTerm (A i)) → (es : List Applicative) × (length es ≡ n) × ((i : ℕ) → i < n → Has (get_or es i nobody) (A i))
  terms_for A zero f = ([], refl, (λ i k. absurd (omega arith)))
  terms_for A (suc n) f =
      let e = f 0 (omega arith) in
      let r = terms_for (λ i. A (suc i)) n (λ i k. f (suc i) (omega arith)) in
      (e.0 ∷ r.0, ap suc r.1, at e r)
    where
      at : (e : HasTerm (A 0)) (r : (es : List Applicative) × (length es ≡ n) × ((i : ℕ) → i < n → Has (get_or es i nobody) (A (suc i)))) → (i : ℕ) → i < suc n → Has (get_or (e.0 ∷ r.0) i nobody) (A i)
      at e r zero k = e.1
      at e r (suc i) k = r.2 i (omega arith)

  -- what has the arguments over a cover has the goal
  row_term : (earlier : List ProofRow) (r : ProofRow) → PassesRow l (IsAboveRow l earlier) r → ((e : ProofRow) → Contains earlier e → HasTerm e.goal) → HasTerm r.goal
  row_term earlier r p f =
      let x = r.component in
      let arrows = arrows_at l x r.n in
      let es = terms_for (λ i. argument_type arrows r.cover i) r.n (λ i k. let e = p.argument i k in let t = f e.0 e.1 in (t.0, by_subsumption t.1 e.2)) in
      let start : Has (component x) types.omega = by_subsumption (by_instance (p.arrow.0.declared, refl)) to_omega in
      let omegas : (e : Applicative) → Contains es.0 e → Has e types.omega = (λ e c. subst (λ (a : Applicative). Has a types.omega) (get_or_default es.0 c.0 nobody e c.1 ∙ c.2) (by_subsumption (es.2 c.0 (let m = c.1 in let n = es.1 in omega arith)) to_omega)) in
      (spine (component x) es.0, has_type l (spine (component x) es.0) r.goal (omega_spine l (component x) es.0 start omegas) (λ q i. path es q i))
    where
      path : (es : (es : List Applicative) × (length es ≡ r.n) × ((i : ℕ) → i < r.n → Has (get_or es i nobody) (argument_type (arrows_at l r.component r.n) r.cover i)))
          → (q : TypePath) → InPaths (paths_of (variances_in l.taxonomy) r.goal) q → Has (spine (component r.component) es.0) (type_of_path q)
      path es q i =
          let arrows = arrows_at l r.component r.n in
          let u = p.target q i in
          let v = leading arrows u.0 q u.2 in
          let count = source_count r.n (paths_at l r.component) u.0 v.0 v.1 in
          let given : Given es.0 v.0 = zip_from (λ e n. Has e (type_of_paths n)) es.0 v.0.sources nobody none (es.1 ∙ sym count)
          (λ k m. subst (λ (a : MultiArrow). Has (get_or es.0 k nobody) (source_type a k)) (get_or_from_slice_get arrows u.0 v.0 no_arrow v.1) (by_subsumption (es.2 k (let o = es.1 in omega arith)) (argument_below l arrows r.cover u.0 k u.1))) in
          (paths_are_reached l is r.component es.0 q (below_path l r.goal q i).0).1 (record {
            within = subst (λ k. k ≤ arity_of (paths_at l r.component)) (sym es.1) p.arrow.0.within;
            arrow = v.0;
            is_one = subst (λ k. Contains (arrows_at l r.component k) v.0) (sym es.1) (Contains-at arrows u.0 v.0 v.1);
            target = v.2;
            sources = given;
          })
        where
          leading : (arrows : List MultiArrow) (i : ℕ) (q : TypePath) → LeadsTo l arrows q i → (a : MultiArrow) × (slice_get arrows i ≡ Some a) × PathLeIn l a.target q
          leading [] i q h = absurd h
          leading (a ∷ arrows) zero q h = (a, refl, h)
          leading (a ∷ arrows) (suc i) q h = leading arrows i q h

  rows_terms : (rows earlier : List ProofRow) (asked : ClosedType) → PassRows l earlier rows → ((e : ProofRow) → Contains earlier e → HasTerm e.goal) → EndsBelow l rows asked → HasTerm asked
  rows_terms [] earlier asked p f e = absurd e
  rows_terms (r ∷ []) earlier asked p f e = let t = row_term earlier r p.0 f in (t.0, by_subsumption t.1 e)
  rows_terms (r ∷ s ∷ rows) earlier asked p f e = rows_terms (s ∷ rows) (earlier ++ r ∷ []) asked p.1 (λ d m. elim (Contains-push_cases earlier r d m) [
    | inl c ↦ f d c
    | inr same ↦ subst (λ (w : ProofRow). HasTerm w.goal) same (row_term earlier r p.0 f)
  ]) e

  pub inhabited_sound : (rows : List ProofRow) (asked : ClosedType) → PassRows l [] rows → EndsBelow l rows asked → (e : Applicative) × HasTypeIn l e asked
  inhabited_sound rows asked pass ends = rows_terms rows [] asked pass (λ e m. absurd (Contains-nil e m)) ends

  -- Empty

  module _ (members : List proof.Member) where
    abbrev NoMember : Applicative → Type 0
    NoMember e = (m : proof.Member) → Contains members m → Has e m.goal → ⊥

    abbrev Blocked : List MultiArrow → ℕ → List ℕ → Type 0
    Blocked arrows n s = IsBlocked l (IsBelowMember l members) arrows n s

    -- an arrow at the position, which takes the terms
    abbrev IsGiven : List MultiArrow → List Applicative → ℕ → Type 0
    IsGiven arrows es i = (a : MultiArrow) × (slice_get arrows i ≡ Some a) × Given es a

    -- so it is for each position of the set
    abbrev AllGiven : List MultiArrow → List Applicative → List ℕ → Type 0
    AllGiven arrows es s = (i : ℕ) → Contains s i → IsGiven arrows es i

    not_blocked : (arrows : List MultiArrow) (es : List Applicative) (s : List ℕ) → ((a : Applicative) → Contains es a → NoMember a × Has a types.omega) → AllGiven arrows es s → Blocked arrows (length es) s → ⊥
    not_blocked arrows es s h f b =
        let e = get_or es b.0 nobody in
        let here : Contains es e = (b.0, b.1, get_or_default es b.0 e nobody b.1) in
        let has = has_argument l arrows s b.0 e (h e here).1 (λ k c. takes k (f k c)) in
        (h e here).0 b.2.0 b.2.1 (by_subsumption has b.2.2)
      where
        takes : (k : ℕ) → IsGiven arrows es k → Has (get_or es b.0 nobody) (source_type (get_or arrows k no_arrow) b.0)
        takes k g = subst (λ (a : MultiArrow). Has (get_or es b.0 nobody) (source_type a b.0)) (sym (get_or_from_slice_get arrows k g.0 no_arrow g.1))
            (zip_at (λ e n. Has e (type_of_paths n)) es g.0.sources b.0 nobody none g.2 b.1)

    walk : (arrows : List MultiArrow) (es : List Applicative) (rest : Paths) (sets : List (List ℕ)) (ls : List (List (List ℕ))) (s : List ℕ)
        → ((t : List ℕ) → AllGiven arrows es t → Blocked arrows (length es) t → ⊥)
        → BlockedFrom l (IsBelowMember l members) arrows (length es) rest sets ls
        → ((q : TypePath) → InPaths rest q → (i : ℕ) × LeadsTo l arrows q i × IsGiven arrows es i)
        → Contains sets s → AllGiven arrows es s → ⊥
    walk arrows es none sets ls s f b met c given = f s given (All-contains (Blocked arrows (length es)) sets s b c)
    walk arrows es (more q rest) sets [] s f b met c given = b
    walk arrows es (more q rest) sets (layer ∷ ls) s f b met c given = elim (All-contains (λ t. Blocked arrows (length es) t ⊎ Steps l arrows layer q t) sets s b.0 c) [
      | inl k ↦ f s given k
      | inr steps ↦ (let u = met q first_in in let t = steps u.0 u.1 in walk arrows es rest layer ls t.0 f b.1 (λ p i. met p (later_in i)) t.1 (λ j k. stepped u.0 u.2 j (t.2 j k)))
    ]
      where
        stepped : (i : ℕ) → IsGiven arrows es i → (j : ℕ) → Contains (i ∷ s) j → IsGiven arrows es j
        stepped i g j k = elim (Contains-cases i s j k) [
          | inl e ↦ subst (λ m. IsGiven arrows es m) (sym e) g
          | inr d ↦ given j d
        ]

    no_spine : ((m : proof.Member) → Contains members m → PassesMember l (IsBelowMember l members) m) → (x : ℕ) (es : List Applicative) → ((a : Applicative) → Contains es a → NoMember a) → NoMember (spine (component x) es)
    no_spine passes x es h m c has =
        let p = passes m c in
        let all : Has (spine (component x) es) (type_of_paths p.form) = by_subsumption has (form_up l m.goal p.form p.is_form) in
        let back = paths_back p.form (variances_in l.taxonomy) p.is_form.normal.suits in
        let met : (q : TypePath) → InPaths p.form q → IsReachedBy l x es q
        = (λ q i. let r = below_path l (type_of_paths p.form) q (subst (λ (n : Paths). InPaths n q) (sym back) i) in (paths_are_reached l is x es q r.0).0 (by_subsumption all r.1)) in
        go p.form met (declared l x es m.goal has) p.unblocked (dec_le (length es) (arity_of (paths_at l x)))
      where
        blocked : (t : List ℕ) → AllGiven (arrows_at l x (length es)) es t → Blocked (arrows_at l x (length es)) (length es) t → ⊥
        blocked t given b = not_blocked (arrows_at l x (length es)) es t (λ a d. (h a d, arguments_have l (component x) es m.goal has a d)) given b

        found : (q : TypePath) → IsReachedBy l x es q → (i : ℕ) × LeadsTo l (arrows_at l x (length es)) q i × IsGiven (arrows_at l x (length es)) es i
        found q r =
            let at = Contains-place (arrows_at l x (length es)) r.arrow r.is_one in
            (at.0, subst (λ (o : Option MultiArrow). IsSomeAnd o (λ a. PathLeIn l a.target q)) (sym at.1) r.target, (r.arrow, at.1, r.sources))

        go : (form : Paths) → ((q : TypePath) → InPaths form q → IsReachedBy l x es q) → x < length l.components → PassesUnblocked l (IsBelowMember l members) m.blocks form → Dec (length es ≤ arity_of (paths_at l x)) → ⊥
        go form met d unblocked (yes within) =
            walk (arrows_at l x (length es)) es form ([] ∷ []) (layers_for m.blocks (path_total form) x (length es)) [] blocked
            (unblocked x (length es) (record { declared = d; within = within })) (λ q i. found q (met q i)) (Contains-here [] []) (λ i k. absurd (Contains-nil i k))
        go none met d unblocked (no beyond) =
            let b = unblocked x 0 (record { declared = d; within = omega arith }) in
            let n : (b : (i : ℕ) × (i < 0) × IsBelowMember l members (argument_type (arrows_at l x 0) [] i)) → ⊥ = (λ b. absurd (let k = b.1 in omega arith)) in
            n (b 0 [] (omega arith))
        go (more q form) met d unblocked (no beyond) = beyond (met q first_in).within

    no_member : ((m : proof.Member) → Contains members m → PassesMember l (IsBelowMember l members) m) → (e : Applicative) (es : List Applicative) → ((a : Applicative) → Contains es a → NoMember a) → NoMember (spine e es)
    no_member passes (component x) es h = no_spine passes x es h
    no_member passes (apply f a) es h = no_member passes f (a ∷ es) (λ b c. of_both b c (no_member passes a [] (λ d k. absurd (Contains-nil d k))))
      where
        of_both : (b : Applicative) → Contains (a ∷ es) b → NoMember a → NoMember b
        of_both b c n = elim (Contains-cases a es b c) [
          | inl e ↦ subst NoMember (sym e) n
          | inr d ↦ h b d
        ]

  pub empty_sound : (members : List proof.Member) (asked : ClosedType) → All (PassesMember l (IsBelowMember l members)) members → IsBelowMember l members asked → (e : Applicative) → HasTypeIn l e asked → ⊥
  empty_sound members asked pass lower e has =
      no_member members (λ m c. All-contains (PassesMember l (IsBelowMember l members)) members m pass c) e [] (λ b c. absurd (Contains-nil b c)) lower.0 lower.1 (by_subsumption has lower.2)
