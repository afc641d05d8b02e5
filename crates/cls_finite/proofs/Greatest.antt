-- The greatest sizes of the terms that rules make, counted up to a cap.
use Rattle.std.proofs.Common.{◌≡◌, ℕ, ◌+◌, ◌<◌, ◌≤◌, min, max, Bool, true, false, cond, List, [], ◌∷◌, ◌++◌, Some, slice_get, take, length, get_or, refl, sym, ap, subst, ◌∙◌, arith, ◌⊎◌, inl, inr}
use Rattle.std.specs.Prelude.{Contains, IsTrue}
use Rattle.std.specs.List.{sum_by}
use Rattle.std.proofs.lemmas.List.Sums.{sum_by-cons, sum_by_more}
use Rattle.std.proofs.lemmas.List.{take_more}
use Rattle.std.proofs.lemmas.Option.{slice_get_within, get_or_from_slice_get}
use Rattle.cls_base.specs.Terms.{Applicative, component, apply, size_of}
use Rattle.cls_base.specs.declared.rule.Rule.{Rule}
use Rattle.cls_base.specs.declared.rule.Rule.TheVariants.{Head, Any}
use Rattle.cls_base.specs.Languages.{Applies, by_head, by_any, done, next, NodeRule, IsGenerated, rules_at}
use Rattle.cls_base.proofs.Lists.{Contains-nil, Contains-here, Contains-later, Contains-cases}
use Rattle.cls_base.specs.Arguments.{arguments_of_rule}
use Rattle.cls_grammar.specs.Ranks.{IsProductiveIn, AreProductive}
use Rattle.cls_grammar.specs.Trimming.{is_useful}
use Rattle.cls_grammar.proofs.Trees.{productive_exactly}
use Rattle.cls_grammar.proofs.Trims.{productive-useful, useful-productive}
use Rattle.cls_finite.specs.declared.descent.Mark.{Mark}
use Rattle.cls_finite.specs.declared.descent.Mark.TheVariants.{Done}
use Rattle.cls_finite.specs.Descents.{size_at, done_size, IsDone, AreDone, size_by, greatest_by, IsCapped}
use Rattle.cls_finite.specs.Finiteness.{IsGreatestSize, IsUnbounded}

-- one size more of a sum that is counted up to the cap
pub sum-next : (f : ℕ → ℕ) (cap : ℕ) (ns : List ℕ) (i : ℕ) → i < length ns → min (min (sum_by f (take i ns)) cap + f (get_or ns i 0)) cap ≡ min (sum_by f (take (i + 1) ns)) cap
sum-next f cap ns i l = let e = sum_by_more f ns i 0 l in omega (arith, e)

module _ (cap : ℕ) (cost : ℕ → ℕ) (marks : List Mark) (flags : List Bool) where
  abbrev size_if : Bool → Rule ℕ → ℕ
  size_if b r = cond b (size_by cap cost marks r) 0

  greatest-push : (rs : List (Rule ℕ)) (r : Rule ℕ) → greatest_by cap cost marks flags (rs ++ r ∷ []) ≡ max (size_if (is_useful flags r) r) (greatest_by cap cost marks flags rs)
  greatest-push [] r = refl
  greatest-push (q ∷ rs) r = turned (size_if (is_useful flags q) q) (size_if (is_useful flags r) r) (greatest_by cap cost marks flags rs) (greatest_by cap cost marks flags (rs ++ r ∷ [])) (greatest-push rs r)
    where
      turned : (a b m n : ℕ) → n ≡ max b m → max a n ≡ max b (max a m)
      turned a b m n e = omega arith

  -- the greatest size with one rule more
  pub greatest-next : (rs : List (Rule ℕ)) (i : ℕ) (r : Rule ℕ) → slice_get rs i ≡ Some r → (b : Bool) → is_useful flags r ≡ b → greatest_by cap cost marks flags (take (i + 1) rs) ≡ max (size_if b r) (greatest_by cap cost marks flags (take i rs))
  greatest-next rs i r e b f =
      ap (greatest_by cap cost marks flags) (take_more rs i r (slice_get_within rs i r e) ∙ ap (λ x. take i rs ++ x ∷ []) (get_or_from_slice_get rs i r r e))
      ∙ (greatest-push (take i rs) r ∙ ap (λ x. max (size_if x r) (greatest_by cap cost marks flags (take i rs))) f)

module _ (cost : ℕ → ℕ) where
  -- terms of one kind or another
  pub greatest-or : (P Q R : Applicative → Type 0) → ((e : Applicative) → P e → R e) → ((e : Applicative) → Q e → R e) → ((e : Applicative) → R e → P e ⊎ Q e)
      → (a b : ℕ) → IsGreatestSize cost P a → IsGreatestSize cost Q b → IsGreatestSize cost R (max a b)
  greatest-or P Q R left right either a b p q = record { bounds = λ e r. bound e (either e r); reached = by p.reached q.reached (order a b) }
    where
      order : (a b : ℕ) → (b ≤ a) ⊎ (a ≤ b)
      order a b = grind arith

      bound : (e : Applicative) → P e ⊎ Q e → size_of cost e ≤ max a b
      bound e (inl x) = let l = p.bounds e x in omega arith
      bound e (inr x) = let l = q.bounds e x in omega arith

      none : ((e : Applicative) → P e → ⊥) → ((e : Applicative) → Q e → ⊥) → (e : Applicative) → R e → ⊥
      none f g e r = elim (either e r) [ inl x ↦ f e x | inr x ↦ g e x ]

      by : ((e : Applicative) × P e × (size_of cost e ≡ a)) ⊎ ((a ≡ 0) × ((e : Applicative) → P e → ⊥)) → ((e : Applicative) × Q e × (size_of cost e ≡ b)) ⊎ ((b ≡ 0) × ((e : Applicative) → Q e → ⊥)) → (b ≤ a) ⊎ (a ≤ b)
          → ((e : Applicative) × R e × (size_of cost e ≡ max a b)) ⊎ ((max a b ≡ 0) × ((e : Applicative) → R e → ⊥))
      by (inl u) (inl v) (inl l) = let s = u.2 in inl (u.0, left u.0 u.1, omega arith)
      by (inl u) (inl v) (inr l) = let s = v.2 in inl (v.0, right v.0 v.1, omega arith)
      by (inl u) (inr v) o = let s = u.2 in let z = v.0 in inl (u.0, left u.0 u.1, omega arith)
      by (inr u) (inl v) o = let s = v.2 in let z = u.0 in inl (v.0, right v.0 v.1, omega arith)
      by (inr u) (inr v) o = let y = u.0 in let z = v.0 in inr (omega arith, none u.1 v.1)

  pub greatest-same : (P Q : Applicative → Type 0) → ((e : Applicative) → P e → Q e) → ((e : Applicative) → Q e → P e) → (n : ℕ) → IsGreatestSize cost P n → IsGreatestSize cost Q n
  greatest-same P Q f g n p = record { bounds = λ e q. p.bounds e (g e q); reached = by p.reached }
    where
      by : ((e : Applicative) × P e × (size_of cost e ≡ n)) ⊎ ((n ≡ 0) × ((e : Applicative) → P e → ⊥)) → ((e : Applicative) × Q e × (size_of cost e ≡ n)) ⊎ ((n ≡ 0) × ((e : Applicative) → Q e → ⊥))
      by (inl u) = inl (u.0, f u.0 u.1, u.2)
      by (inr u) = inr (u.0, λ e q. u.1 e (g e q))

  pub greatest-none : (P : Applicative → Type 0) → ((e : Applicative) → P e → ⊥) → IsGreatestSize cost P 0
  greatest-none P f = record { bounds = λ e p. absurd (f e p); reached = inr (refl, f) }

  -- there is one greatest size at most
  pub greatest-one : (P : Applicative → Type 0) (a b : ℕ) → IsGreatestSize cost P a → IsGreatestSize cost P b → a ≡ b
  greatest-one P a b p q = by p.reached q.reached
    where
      by : ((e : Applicative) × P e × (size_of cost e ≡ a)) ⊎ ((a ≡ 0) × ((e : Applicative) → P e → ⊥)) → ((e : Applicative) × P e × (size_of cost e ≡ b)) ⊎ ((b ≡ 0) × ((e : Applicative) → P e → ⊥)) → a ≡ b
      by (inl u) (inl v) = let s = u.2 in let t = v.2 in let l = q.bounds u.0 u.1 in let m = p.bounds v.0 v.1 in omega arith
      by (inl u) (inr v) = absurd (v.1 u.0 u.1)
      by (inr u) (inl v) = absurd (u.1 v.0 v.1)
      by (inr u) (inr v) = u.0 ∙ sym v.0

module _ (cap : ℕ) (cost : ℕ → ℕ) (book : List (List (Rule ℕ))) where
  -- the terms that a rule makes
  abbrev pub Made : Rule ℕ → Applicative → Type 0
  Made (Head x ns) e = Applies ℕ (NodeRule book) (component x) ns e
  Made (Any l m) e = (f : Applicative) × (a : Applicative) × IsGenerated book l f × IsGenerated book m a × (e ≡ apply f a)

  abbrev MadeBy : List (Rule ℕ) → Applicative → Type 0
  MadeBy rs e = (r : Rule ℕ) × Contains rs r × Made r e

  made-generated : (i : ℕ) (r : Rule ℕ) (e : Applicative) → NodeRule book i r → Made r e → IsGenerated book i e
  made-generated i (Head x ns) e c m = by_head c m
  made-generated i (Any l m) e c u = subst (IsGenerated book i) (sym u.4) (by_any c u.2 u.3)

  generated-made : {i : ℕ} {e : Applicative} → IsGenerated book i e → MadeBy (rules_at book i) e
  generated-made (by_head {x = x} {ns = ns} c a) = (Head x ns, c, a)
  generated-made (by_any {l = l} {m = m} {f = f} {a = a} c g h) = (Any l m, c, (f, a, g, h, refl))

  applied-productive : {f e : Applicative} {ns : List ℕ} → Applies ℕ (NodeRule book) f ns e → (n : ℕ) → Contains ns n → IsProductiveIn book n
  applied-productive done n h = absurd (Contains-nil n h)
  applied-productive (next {a = a} {n = m} {ns = ns} g k) n h = elim (Contains-cases m ns n h) [
    | inl e ↦ subst (IsProductiveIn book) (sym e) ((productive_exactly ℕ (NodeRule book) m).1 (a, g))
    | inr c ↦ applied-productive k n c
  ]

  -- the arguments of a rule that makes a term are productive
  made-productive : (r : Rule ℕ) (e : Applicative) → Made r e → (n : ℕ) → Contains (arguments_of_rule r) n → IsProductiveIn book n
  made-productive (Head x ns) e m n h = applied-productive m n h
  made-productive (Any l r) e u n h = elim (Contains-cases l (r ∷ []) n h) [
    | inl s ↦ subst (IsProductiveIn book) (sym s) ((productive_exactly ℕ (NodeRule book) l).1 (u.0, u.2))
    | inr c ↦ elim (Contains-cases r [] n c) [ inl s ↦ subst (IsProductiveIn book) (sym s) ((productive_exactly ℕ (NodeRule book) r).1 (u.1, u.3)) | inr z ↦ absurd (Contains-nil n z) ]
  ]

  module _ (marks : List Mark) (sizes : (n size : ℕ) → slice_get marks n ≡ Some (Done size) → IsCapped cap cost (IsGenerated book n) size) where
    -- the terms of a productive node that is done
    record Measured (n : ℕ) : Type 0 where
      size : ℕ
      bounds : (e : Applicative) → IsGenerated book n e → size_of cost e ≤ size
      term : Applicative
      made : IsGenerated book n term
      reached : size_of cost term ≡ size
      capped : size_at marks n ≡ min size cap

    measured : (n : ℕ) → IsDone marks n → IsProductiveIn book n → Measured n
    measured n d p = by c.greatest.reached
      where
        c : IsCapped cap cost (IsGenerated book n) d.0
        c = sizes n d.0 d.1

        by : ((e : Applicative) × IsGenerated book n e × (size_of cost e ≡ c.size)) ⊎ ((c.size ≡ 0) × ((e : Applicative) → IsGenerated book n e → ⊥)) → Measured n
        by (inl u) = record { size = c.size; bounds = c.greatest.bounds; term = u.0; made = u.1; reached = u.2; capped = ap done_size d.1 ∙ c.capped }
        by (inr u) = absurd (let g = (productive_exactly ℕ (NodeRule book) n).0 p in u.1 g.0 g.1)

    -- the terms that are an applied to one of each node in turn
    record MeasuredAll (ns : List ℕ) : Type 0 where
      size : ℕ
      bounds : (f e : Applicative) → Applies ℕ (NodeRule book) f ns e → size_of cost e ≤ size_of cost f + size
      reached : (f : Applicative) → (e : Applicative) × Applies ℕ (NodeRule book) f ns e × (size_of cost e ≡ size_of cost f + size)
      capped : min (sum_by (size_at marks) ns) cap ≡ min size cap

    measured-all : (ns : List ℕ) → AreDone marks ns → ((n : ℕ) → Contains ns n → IsProductiveIn book n) → MeasuredAll ns
    measured-all [] d p = record { size = 0; bounds = λ f e a. none f e [] a refl; reached = λ f. (f, done, omega arith); capped = refl }
      where
        none : (f e : Applicative) (ns : List ℕ) → Applies ℕ (NodeRule book) f ns e → ns ≡ [] → size_of cost e ≤ size_of cost f + 0
        none f _ ns done s = omega arith
        none f e ns (next g a) s = absurd (cc)
    measured-all (m ∷ ns) d p = by (measured m d.0 (p m (Contains-here m ns))) (measured-all ns d.1 (λ n h. p n (Contains-later n m ns h)))
      where
        by : Measured m → MeasuredAll ns → MeasuredAll (m ∷ ns)
        by u v = record {
          size = u.size + v.size;
          bounds = λ f e a. bound f e (m ∷ ns) a refl;
          reached = λ f. let w = v.reached (apply f u.term) in (w.0, next u.made w.1, (let s = w.2 in let t = u.reached in let k : size_of cost (apply f u.term) ≡ size_of cost f + size_of cost u.term = refl in omega arith));
          capped = (let s = sum_by-cons (size_at marks) m ns in let a = u.capped in let b = v.capped in omega arith);
        }
          where
            bound : (f e : Applicative) (ms : List ℕ) → Applies ℕ (NodeRule book) f ms e → ms ≡ m ∷ ns → size_of cost e ≤ size_of cost f + (u.size + v.size)
            bound f _ ms done s = absurd (cc)
            bound f e ms (next {a = a} {n = n} {ns = rest} g k) s =
                let first : n ≡ m = cc in
                let others : rest ≡ ns = cc in
                let x = u.bounds a (subst (λ j. IsGenerated book j a) first g) in
                let y = v.bounds (apply f a) e (subst (λ l. Applies ℕ (NodeRule book) (apply f a) l e) others k) in
                let z : size_of cost (apply f a) ≡ size_of cost f + size_of cost a = refl in
                omega arith

    rule-capped : (r : Rule ℕ) → AreDone marks (arguments_of_rule r) → ((n : ℕ) → Contains (arguments_of_rule r) n → IsProductiveIn book n) → IsCapped cap cost (Made r) (size_by cap cost marks r)
    rule-capped (Head x ns) d p = by (measured-all ns d p)
      where
        by : MeasuredAll ns → IsCapped cap cost (Made (Head x ns)) (min (cost x + sum_by (size_at marks) ns) cap)
        by v = record {
          size = cost x + v.size;
          greatest = record { bounds = λ e a. v.bounds (component x) e a; reached = inl (v.reached (component x)) };
          capped = (let s = v.capped in omega arith);
        }
    rule-capped (Any l m) d p = by (measured l d.0 (p l (Contains-here l (m ∷ [])))) (measured m d.1.0 (p m (Contains-later m l (m ∷ []) (Contains-here m []))))
      where
        by : Measured l → Measured m → IsCapped cap cost (Made (Any l m)) (min (sum_by (size_at marks) (l ∷ m ∷ [])) cap)
        by u v = record {
          size = u.size + v.size;
          greatest = record {
            bounds = λ e w. let a = u.bounds w.0 w.2 in let b = v.bounds w.1 w.3 in let s = ap (size_of cost) w.4 in let z : size_of cost (apply w.0 w.1) ≡ size_of cost w.0 + size_of cost w.1 = refl in omega arith;
            reached = inl (apply u.term v.term, (u.term, v.term, u.made, v.made, refl), (let a = u.reached in let b = v.reached in let z : size_of cost (apply u.term v.term) ≡ size_of cost u.term + size_of cost v.term = refl in omega arith));
          };
          capped = (let s = sum_by-cons (size_at marks) l (m ∷ []) in let t = sum_by-cons (size_at marks) m [] in let a = u.capped in let b = v.capped in omega arith);
        }

    module _ (flags : List Bool) (p : AreProductive book flags) where
      -- the terms of a rule that may be used, or none
      useful-capped : (r : Rule ℕ) → (IsTrue (is_useful flags r) → AreDone marks (arguments_of_rule r)) → (b : Bool) → is_useful flags r ≡ b → IsCapped cap cost (Made r) (cond b (size_by cap cost marks r) 0)
      useful-capped r d true e = rule-capped r (d e) (useful-productive book flags p r e)
      useful-capped r d false e = record {
        size = 0;
        greatest = greatest-none cost (Made r) (λ t m. let u = productive-useful book flags p r (made-productive r t m) in let f : true ≡ false = sym u ∙ e in cc);
        capped = omega arith;
      }

      rules-capped : (rs : List (Rule ℕ)) → ((r : Rule ℕ) → Contains rs r → IsTrue (is_useful flags r) → AreDone marks (arguments_of_rule r)) → IsCapped cap cost (MadeBy rs) (greatest_by cap cost marks flags rs)
      rules-capped [] d = record { size = 0; greatest = greatest-none cost (MadeBy []) (λ e m. Contains-nil m.0 m.1); capped = omega arith }
      rules-capped (r ∷ rs) d = by (useful-capped r (d r (Contains-here r rs)) (is_useful flags r) refl) (rules-capped rs (λ q h. d q (Contains-later q r rs h)))
        where
          first : (e : Applicative) → Made r e → MadeBy (r ∷ rs) e
          first e m = (r, Contains-here r rs, m)

          later : (e : Applicative) → MadeBy rs e → MadeBy (r ∷ rs) e
          later e m = (m.0, Contains-later m.0 r rs m.1, m.2)

          either : (e : Applicative) → MadeBy (r ∷ rs) e → Made r e ⊎ MadeBy rs e
          either e m = elim (Contains-cases r rs m.0 m.1) [ inl s ↦ inl (subst (λ q. Made q e) s m.2) | inr c ↦ inr (m.0, c, m.2) ]

          by : IsCapped cap cost (Made r) (cond (is_useful flags r) (size_by cap cost marks r) 0) → IsCapped cap cost (MadeBy rs) (greatest_by cap cost marks flags rs) → IsCapped cap cost (MadeBy (r ∷ rs)) (greatest_by cap cost marks flags (r ∷ rs))
          by u v = record {
            size = max u.size v.size;
            greatest = greatest-or cost (Made r) (MadeBy rs) (MadeBy (r ∷ rs)) first later either u.size v.size u.greatest v.greatest;
            capped = most (cond (is_useful flags r) (size_by cap cost marks r) 0) (greatest_by cap cost marks flags rs) u.size v.size u.capped v.capped;
          }
            where
              most : (a b m n : ℕ) → a ≡ min m cap → b ≡ min n cap → max a b ≡ min (max m n) cap
              most a b m n e f = omega arith

      -- a node whose rules have only arguments that are done, if they may be used
      pub node-capped : (i : ℕ) → ((r : Rule ℕ) → Contains (rules_at book i) r → IsTrue (is_useful flags r) → AreDone marks (arguments_of_rule r)) → IsCapped cap cost (IsGenerated book i) (greatest_by cap cost marks flags (rules_at book i))
      node-capped i d = by (rules-capped (rules_at book i) d)
        where
          by : IsCapped cap cost (MadeBy (rules_at book i)) (greatest_by cap cost marks flags (rules_at book i)) → IsCapped cap cost (IsGenerated book i) (greatest_by cap cost marks flags (rules_at book i))
          by u = record {
            size = u.size;
            greatest = greatest-same cost (MadeBy (rules_at book i)) (IsGenerated book i) (λ e m. made-generated i m.0 e m.1 m.2) (λ e g. generated-made g) u.size u.greatest;
            capped = u.capped;
          }

  -- a node with a greatest size has a bound
  pub capped-bounded : (i n : ℕ) → IsCapped cap cost (IsGenerated book i) n → IsUnbounded book cost i → ⊥
  capped-bounded i n c u = let m = u c.size in let l = c.greatest.bounds m.0 m.1 in let k = m.2 in omega arith
