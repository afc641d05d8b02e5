-- What is found breadth first stands in the canonical order.
use Rattle.std.proofs.Common.{ℕ, zero, suc, ◌≡◌, ◌≤◌, ◌++◌, refl, sym, ◌∙◌, subst, ap, ◌⊎◌, inl, inr, List, [], ◌∷◌, Option, None, Some, length, take, slice_get, arith, Bool, true, false, append_assoc, if◌then◌else◌}
use Rattle.std.specs.Prelude.{Contains, map}
use Rattle.std.specs.List.{AllZip, list_any}
use Rattle.std.proofs.lemmas.List.{append-nil, take_all, map-append}
use Rattle.indexmap.specs.IndexSet.{insert_key, insert_all}
use Rattle.cls_core.specs.declared.answer.Answer.{Answer}
use Rattle.cls_core.specs.Arguments.{arguments_of}
use Rattle.cls_core.specs.Machine.{grown}
use Rattle.cls_base.specs.Lists.{AreDistinct}
use Rattle.cls_base.proofs.Lists.{Contains-nil, Contains-head, Contains-here, Contains-later, Contains-cases, Contains-at}
use Rattle.cls_core.specs.Closure.{IsReached, at_start, at_argument, AllReached}
use Rattle.cls_core.specs.Canonical.{FirstOnes, no_more, fresh, again, all_arguments, IsNumbering}
use Rattle.cls_core.specs.Renumbering.{worked_off, found}
use Rattle.cls_core.proofs.Members.{any-contains, contains-any, all-distinct, all-only}
use Rattle.cls_core.proofs.Insertion.{all-front}
use Rattle.cls_core.proofs.Canonical.{turned, arguments-append}

module _ {A : Type 0} where
  -- one more of a list, which was seen or is one of its first ones
  more-again : {seen xs us : List A} (y : A) → FirstOnes seen xs us → Contains seen y ⊎ Contains us y
      → FirstOnes seen (xs ++ y ∷ []) us
  more-again y no_more (inl m) = again m no_more
  more-again y no_more (inr m) = absurd (Contains-nil y m)
  more-again {seen = seen} y (fresh {ys = us} {x = x} n h) m = fresh n (more-again y h (turned seen us x y m))
  more-again y (again s h) m = again s (more-again y h m)

  -- one more of a list, which is new
  more-fresh : {seen xs us : List A} (y : A) → FirstOnes seen xs us → (Contains seen y → ⊥) → (Contains us y → ⊥)
      → FirstOnes seen (xs ++ y ∷ []) (us ++ y ∷ [])
  more-fresh y no_more n m = fresh n no_more
  more-fresh y (fresh {seen = seen} {ys = us} {x = x} f h) n m = fresh f (more-fresh y h (λ k. elim (Contains-cases x seen y k) [ inl e ↦ m (Contains-head y x us e) | inr s ↦ n s ]) (λ k. m (Contains-later y x us k)))
  more-fresh y (again s h) n m = again s (more-fresh y h n m)

  -- the elements up to one place more
  take-front : (gs more : List A) (k : ℕ) (g : A) → slice_get gs k ≡ Some g → take (suc k) (gs ++ more) ≡ take k gs ++ g ∷ []
  take-front [] more k g e = cc
  take-front (x ∷ gs) more zero g e = ap (λ y. y ∷ []) (let h : x ≡ g = cc in h)
  take-front (x ∷ gs) more (suc k) g e = ap (λ l. x ∷ l) (take-front gs more k g e)

  past : (gs : List A) (k : ℕ) → slice_get gs k ≡ None → length gs ≤ k
  past [] k e = omega arith
  past (x ∷ gs) zero e = cc
  past (x ∷ gs) (suc k) e = (let h = past gs k e in omega arith)

module _ {G : Type 0} (eq : G → G → Bool) (exact : (x y : G) → eq x y ≡ true → x ≡ y) (reflexive : (x : G) → eq x x ≡ true) where
  more-key : (xs us : List G) (y : G) → FirstOnes [] xs us → FirstOnes [] (xs ++ y ∷ []) (insert_key eq us y)
  more-key xs us y h = by (list_any (eq y) us) refl
    where
      by : (b : Bool) → list_any (eq y) us ≡ b → FirstOnes [] (xs ++ y ∷ []) (if b then us else us ++ y ∷ [])
      by true e = more-again y h (inr (any-contains eq exact reflexive us y e))
      by false e = more-fresh y h (λ m. Contains-nil y m) (λ m. let t = contains-any eq exact reflexive us y m in cc)

  -- the first ones of a list, with what is put behind them unless it is among them, are the first ones of a longer list
  more-all : (xs us ys : List G) → FirstOnes [] xs us → FirstOnes [] (xs ++ ys) (insert_all eq us ys)
  more-all xs us [] h = subst (λ l. FirstOnes [] l us) (sym (append-nil xs)) h
  more-all xs us (y ∷ ys) h =
      subst (λ l. FirstOnes [] l (insert_all eq us (y ∷ ys))) (append_assoc xs (y ∷ []) ys) (more-all (xs ++ y ∷ []) (insert_key eq us y) ys (more-key xs us y h))

  -- `answer` gives an answer of each goal of the closure
  module _ (IsAnswer : G → Answer G → Type 0) (start : G) (answer : G → Answer G) (answers : (g : G) → IsReached IsAnswer start g → IsAnswer g (answer g)) where
    abbrev arguments_after : List G → List G
    arguments_after gs = all_arguments (map answer gs)

    -- gs are the first ones of the start goal and of the arguments of its first k goals
    abbrev Stream : ℕ → List G → Type 0
    Stream k gs = FirstOnes [] (start ∷ arguments_after (take k gs)) gs

    distinct-step : (gs : List G) (o : Option G) → AreDistinct gs → AreDistinct (worked_off eq answer gs o)
    distinct-step gs None d = d
    distinct-step gs (Some g) d = all-distinct eq exact reflexive gs (arguments_of (answer g)) d

    reached-step : (gs : List G) (k : ℕ) (o : Option G) → slice_get gs k ≡ o → AllReached IsAnswer start gs
        → AllReached IsAnswer start (worked_off eq answer gs o)
    reached-step gs k None e q = q
    reached-step gs k (Some g) e q =
        let this = q g (Contains-at gs k g e) in
        λ h m. elim (all-only eq exact reflexive gs (arguments_of (answer g)) h m) [ inl l ↦ q h l | inr r ↦ at_argument g h (answer g) this (answers g this) r ]

    stream-step : (gs : List G) (k : ℕ) (o : Option G) → slice_get gs k ≡ o → Stream k gs
        → Stream (suc k) (worked_off eq answer gs o)
    stream-step gs k None e f =
        let h = past gs k e in
        subst (λ l. FirstOnes [] (start ∷ arguments_after l) gs) (take_all k gs h ∙ sym (take_all (suc k) gs (omega arith))) f
    stream-step gs k (Some g) e f =
        let front = all-front eq gs (arguments_of (answer g)) in
        let next : take (suc k) (grown eq gs (answer g)) ≡ take k gs ++ g ∷ [] = ap (take (suc k)) front.1 ∙ take-front gs front.0 k g e in
        let after : arguments_after (take (suc k) (grown eq gs (answer g))) ≡ arguments_after (take k gs) ++ arguments_of (answer g) =
        ap arguments_after next ∙ (ap all_arguments (map-append answer (take k gs) (g ∷ [])) ∙ (arguments-append (map answer (take k gs)) (answer g ∷ []) ∙ ap (λ l. arguments_after (take k gs) ++ l) (append-nil (arguments_of (answer g))))) in
        subst (λ l. FirstOnes [] (start ∷ l) (grown eq gs (answer g))) (sym after) (more-all (start ∷ arguments_after (take k gs)) gs (arguments_of (answer g)) f)

    found-distinct : (k : ℕ) → AreDistinct (found eq answer start k)
    found-distinct zero = (Contains-nil start, tt)
    found-distinct (suc k) = distinct-step (found eq answer start k) (slice_get (found eq answer start k) k) (found-distinct k)

    reached-first : (h : G) → (h ≡ start) ⊎ Contains [] h → IsReached IsAnswer start h
    reached-first h (inl e) = subst (IsReached IsAnswer start) (sym e) at_start
    reached-first h (inr f) = absurd (Contains-nil h f)

    pub found-reached : (k : ℕ) → AllReached IsAnswer start (found eq answer start k)
    found-reached zero = λ h m. reached-first h (Contains-cases start [] h m)
    found-reached (suc k) =
        reached-step (found eq answer start k) k (slice_get (found eq answer start k) k) refl (found-reached k)

    found-first : (k : ℕ) → Stream k (found eq answer start k)
    found-first zero = fresh (Contains-nil start) no_more
    found-first (suc k) = stream-step (found eq answer start k) k (slice_get (found eq answer start k) k) refl (found-first k)

    answers-beside : (gs : List G) → AllReached IsAnswer start gs → AllZip IsAnswer gs (map answer gs)
    answers-beside [] q = tt
    answers-beside (g ∷ gs) q = (answers g (q g (Contains-here g gs)), answers-beside gs (λ x m. q x (Contains-later x g gs m)))

    -- After as many steps as there are goals all of them are found, in the canonical order.
    pub found-numbering : (n : ℕ) → ((gs : List G) → AreDistinct gs → AllReached IsAnswer start gs → length gs ≤ n)
        → IsNumbering IsAnswer start (found eq answer start n)
    found-numbering n few = record {
      answers = map answer (found eq answer start n);
      answered = answers-beside (found eq answer start n) (found-reached n);
      reached = found-reached n;
      breadth_first = subst (λ l. FirstOnes [] (start ∷ arguments_after l) (found eq answer start n)) (take_all n (found eq answer start n) (few (found eq answer start n) (found-distinct n) (found-reached n))) (found-first n);
    }
