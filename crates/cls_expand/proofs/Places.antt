-- Steps of the expander.
use Rattle.std.proofs.Common.{ℕ, zero, suc, ◌≡◌, ◌+◌, ◌<◌, ◌≤◌, refl, sym, ◌∙◌, subst, ap, List, [], ◌∷◌, ◌++◌, length, get_or, take, arith, Bool, true, false, Result, Ok, Err, All, Contains}
use Rattle.std.specs.Prelude.{map, MatchBool, IfOk, OnOk, slice_get, IsSomeAnd}
use Rattle.std.specs.Bool.{◌==◌}
use Rattle.std.proofs.lemmas.List.Elements.{All-get_or}
use Rattle.cls_base.proofs.Lists.{map_last}
use Rattle.cls_base.specs.declared.rule.Rule.{Rule}
use Rattle.cls_base.specs.declared.rule.Rule.TheVariants.{Head, Any}
use Rattle.cls_path.specs.Paths.{TypePath, Paths, none, more, listed}
use Rattle.cls_cover.specs.Lists.{IsAscending}
use Rattle.cls_cover.specs.Covers.{IsMinimal, AreMinimal, HasMore, MeetsEach}
use Rattle.cls_cover.specs.MemberCovers.{IsMinimalSet, SharesEach}
use Rattle.cls_cover.proofs.Ascending.{ascending}
use Rattle.cls_cover.proofs.Growth.{own}
use Rattle.cls_cover.proofs.Lists.{contains_member, member_contains}
use Rattle.cls_cover.proofs.Public.{ascending_members}
use Rattle.cls_core.specs.declared.answer.Answer.{Answer}
use Rattle.cls_core.specs.declared.answer.Answer.TheVariants.{Rules, Wide}
use Rattle.cls_library.specs.Arrows.{MultiArrow, arity_of}
use Rattle.cls_library.specs.Families.{AreFamilies, AreFamiliesAt, IsPlace, IsNextPlace}
use Rattle.cls_library.specs.declared.place.Place.{Place}
use Rattle.cls_library.specs.Libraries.{Library, IsLibrary, IsWithinLimits, no_component, paths_at, arrows_at}
use Rattle.cls_library.specs.Reaching.{CoversGoal}
use Rattle.cls_library.specs.Rules.{IsChoice, IsWide, IsWideBy, IsRules, IsRulesBy, heads, numbers_from, omega_rules}
use Rattle.cls_expand.specs.Answers.{IsAnswer, IsAnswerBy, rule_of}
use Rattle.cls_expand.specs.declared.spine.Spine.{Spine}
use Rattle.cls_expand.specs.contracts.spine.SpinePartialEq.TheImpl.{eq-value}
use Rattle.cls_expand.specs.Making.{AddsPlace, AreBegun, AreRulesBetween, choice_at, rule_of_spine}
use Rattle.cls_expand.specs.Listing.{append_nothing}
use Rattle.cls_expand.proofs.Making.{begun_place, begun_rules, begun_by}
use Rattle.cls_expand.proofs.FamilyCovers.{covers_goal, many_to}
use Rattle.cls_expand.proofs.Unreached.{reached, reached_at_most, begun_next}

pub if_ok_map : {T E : Type 0} (r : Result T E) (P Q : T → Type 0) → ((t : T) → P t → Q t) → IfOk r P → IfOk r Q
if_ok_map (Ok t) P Q f h = f t h
if_ok_map (Err e) P Q f h = tt

pub on_ok_map : {T E : Type 0} (r : Result T E) {P Q : Type 0} → (P → Q) → OnOk r P → OnOk r Q
on_ok_map (Ok t) f h = f h
on_ok_map (Err e) f h = tt

pub bool_map : (b : Bool) {A B C D : Type 0} → (A → C) → (B → D) → MatchBool b A B → MatchBool b C D
bool_map true f g h = f h
bool_map false f g h = g h

pub when_false : {b : Bool} (A : Type 0) {B : Type 0} → b ≡ false → MatchBool b A B → B
when_false {b} A {B} e h = subst (λ c. MatchBool c A B) e h

pub when_true : {b : Bool} {A : Type 0} (B : Type 0) → b ≡ true → MatchBool b A B → A
when_true {b} {A} B e h = subst (λ c. MatchBool c A B) e h

pub parts : (goal ps : List TypePath) (b : Bool) → ps ≡ goal → b ≡ (length ps == 0) → b ≡ false → (q : TypePath) × (rest : Paths) × (listed goal ≡ more q rest)
parts [] ps b e f g = absurd (let k : (length ps == 0) ≡ true = ap (λ (xs : List TypePath). length xs == 0) e in let m : true ≡ false = sym k ∙ (sym f ∙ g) in cc)
parts (q ∷ goal) ps b e f g = (q, listed goal, refl)

-- the rules of omega
from_last : (x k : ℕ) → numbers_from x (suc k) ≡ numbers_from x k ++ (x + k) ∷ []
from_last x zero = ap (λ n. n ∷ []) (let e : x ≡ x + 0 = omega arith in e)
from_last x (suc k) = ap (λ ns. x ∷ ns) (from_last (suc x) k ∙ ap (λ n. numbers_from (suc x) k ++ n ∷ []) (let e : suc x + k ≡ x + suc k = omega arith in e))

heads_last : (ns : List ℕ) (n : ℕ) → heads (ns ++ n ∷ []) ≡ heads ns ++ Head n [] ∷ []
heads_last [] n = refl
heads_last (x ∷ ns) n = ap (λ rs. Head x [] ∷ rs) (heads_last ns n)

pub omega_step : (old new : List (Rule (List TypePath))) (args : List (List TypePath)) (k : ℕ) → args ≡ [] → new ≡ old ++ Head k args ∷ [] → map rule_of old ≡ heads (numbers_from 0 k) → map rule_of new ≡ heads (numbers_from 0 (k + 1))
omega_step old new args k f e h =
    ap (map rule_of) e
    ∙ (map_last rule_of old (Head k args)
    ∙ (ap (λ (rs : List (Rule Paths)). rs ++ Head k (map listed args) ∷ []) h
    ∙ (ap (λ (ns : List (List TypePath)). heads (numbers_from 0 k) ++ Head k (map listed ns) ∷ []) f
    ∙ (sym (heads_last (numbers_from 0 k) k)
    ∙ (ap (λ (n : ℕ). heads (numbers_from 0 k ++ n ∷ [])) (let e : k ≡ 0 + k = omega arith in e)
    ∙ ap heads (sym (from_last 0 k) ∙ ap (numbers_from 0) (let e : suc k ≡ k + 1 = omega arith in e)))))))

pub omega_last : (old new : List (Rule (List TypePath))) (left right : List TypePath) (k count : ℕ) → left ≡ [] → right ≡ [] → new ≡ old ++ Any left right ∷ [] → k ≡ count → map rule_of old ≡ heads (numbers_from 0 k) → map rule_of new ≡ omega_rules count
omega_last old new left right k count l r e c h =
    ap (map rule_of) e
    ∙ (map_last rule_of old (Any left right)
    ∙ (ap (λ (rs : List (Rule Paths)). rs ++ Any (listed left) (listed right) ∷ []) h
    ∙ ((λ i. heads (numbers_from 0 k) ++ Any (listed (l i)) (listed (r i)) ∷ [])
    ∙ ap (λ (n : ℕ). heads (numbers_from 0 n) ++ Any none none ∷ []) c)))

module _ (l : Library) (arrows : List MultiArrow) where
  pub families_ascend : (goal : List TypePath) (fs : List (List ℕ)) → AreFamilies l arrows goal fs → All IsAscending fs
  families_ascend [] [] h k d m = absurd (let j : k < 0 = m in omega arith)
  families_ascend [] (f ∷ fs) h k d m = absurd h
  families_ascend (q ∷ goal) [] h k d m = absurd h
  families_ascend (q ∷ goal) (f ∷ fs) h zero d m = ascending f h.0.ascends
  families_ascend (q ∷ goal) (f ∷ fs) h (suc k) d m = families_ascend goal fs h.1 k d (let j : suc k < suc (length fs) = m in omega arith)

  some_within : (P : MultiArrow → Type 0) (xs : List MultiArrow) (i : ℕ) → IsSomeAnd (slice_get xs i) P → i < length xs
  some_within P [] i h = absurd h
  some_within P (x ∷ xs) zero h = omega arith
  some_within P (x ∷ xs) (suc i) h = let j : i < length xs = some_within P xs i h in omega arith

  family_below : (goal : List TypePath) (fs : List (List ℕ)) → AreFamilies l arrows goal fs → (k : ℕ) → k < length fs → (i : ℕ) → Contains (get_or fs k []) i → i < length arrows
  family_below [] [] h k m i n = absurd (let j : k < 0 = m in omega arith)
  family_below [] (f ∷ fs) h k m i n = absurd h
  family_below (q ∷ goal) [] h k m i n = absurd h
  family_below (q ∷ goal) (f ∷ fs) h zero m i n = some_within _ arrows i ((h.0.exactly i).0 n)
  family_below (q ∷ goal) (f ∷ fs) h (suc k) m i n = family_below goal fs h.1 k (let j : suc k < suc (length fs) = m in omega arith) i n

  by_members : (fs : List (List ℕ)) (s : List ℕ) → IsMinimal (MeetsEach fs) s → IsMinimalSet (SharesEach fs) s
  by_members fs s m = record {
    ascending = ascending_members s m.ascending;
    covers = (λ f k. let r = m.covers f (member_contains k) in (r.0, contains_member f r.0 r.1, contains_member s r.0 r.2));
    minimal = (λ t u c. m.minimal t u (λ f k. let r = c f (contains_member fs f k) in (r.0, member_contains r.1, member_contains r.2)));
  }

  -- the positions of a minimal cover
  pub cover_below : (goal : List TypePath) (fs : List (List ℕ)) → AreFamilies l arrows goal fs → (s : List ℕ) → IsMinimal (MeetsEach fs) s → (i : ℕ) → Contains s i → i < length arrows
  cover_below goal fs h s m i k = let o = own fs s (by_members fs s m) i (contains_member s i k) in family_below goal fs h o.place o.within i (member_contains o.met)

module _ (l : Library) (x n : ℕ) (goal : List TypePath) (fs list : List (List ℕ)) where
  pub place_done : x < length l.components → n ≤ arity_of (paths_at l x) → AreFamilies l (arrows_at l x n) goal fs → AreMinimal (MeetsEach fs) list → ((j : ℕ) → j ≤ length fs → HasMore (MeetsEach (take j fs)) 1024 → ⊥)
      → (narrow : Bool) (old new : List (Rule Paths)) (q : TypePath) (rest : Paths) (from : ℕ) → listed goal ≡ more q rest → from ≤ x → AreBegun l (listed goal) from x n [] old
      → (((s : List ℕ) → Contains list s → IsChoice l (more q rest) (choice_at x n s)) → AreBegun l (more q rest) from x n [] old → MatchBool narrow (AreBegun l (more q rest) from x n list new) (IsWideBy l x (more q rest)))
      → MatchBool narrow (AreBegun l (listed goal) from x (n + 1) [] new) (IsWideBy l x (listed goal))
  place_done d w h m t narrow old new q rest from e le b f =
      let covers = covers_goal l (arrows_at l x n) goal fs list h m in
      let choice : (s : List ℕ) → Contains list s → IsChoice l (more q rest) (choice_at x n s) = λ s k. record { declared = d; within = w; minimal = subst (λ (p : Paths). IsMinimal (CoversGoal l (arrows_at l x n) p) s) e ((covers.exactly s).0 k) } in
      bool_map narrow
      (λ k. begun_place l (listed goal) from x n list new le d w covers (many_to l x n goal fs h w t) (subst (λ (p : Paths). AreBegun l p from x n list new) (sym e) k))
      (λ k. subst (λ (p : Paths). IsWideBy l x p) (sym e) k)
      (f choice (subst (λ (p : Paths). AreBegun l p from x n [] old) e b))

last_apart : {A : Type 0} (xs ys : List A) (x : A) → (xs ++ x ∷ []) ++ ys ≡ xs ++ x ∷ ys
last_apart [] ys x = refl
last_apart (z ∷ xs) ys x = ap (λ l. z ∷ l) (last_apart xs ys x)

-- one rule of the spines more, put behind others
pub heads_step : (old new : List (Rule (List TypePath))) (before after : List Spine) (all : List (Rule Paths)) (s : Spine) → new ≡ old ++ Head s.component s.args.items ∷ [] → before ≡ s ∷ after → map rule_of old ++ map rule_of_spine before ≡ all → map rule_of new ++ map rule_of_spine after ≡ all
heads_step old new before after all s e g h =
    let r : Rule (List TypePath) = Head s.component s.args.items in
    ap (λ (qs : List (Rule (List TypePath))). map rule_of qs ++ map rule_of_spine after) e
    ∙ (ap (λ (qs : List (Rule Paths)). qs ++ map rule_of_spine after) (map_last rule_of old r)
    ∙ (last_apart (map rule_of old) (map rule_of_spine after) (rule_of r)
    ∙ (ap (λ (ss : List Spine). map rule_of old ++ map rule_of_spine ss) (sym g) ∙ h)))

pub heads_done : (rs : List (Rule (List TypePath))) (iterator : List Spine) (all : List (Rule Paths)) → iterator ≡ [] → map rule_of rs ++ map rule_of_spine iterator ≡ all → map rule_of rs ≡ all
heads_done rs iterator all e h = sym (append_nothing (map rule_of rs)) ∙ (ap (λ (ss : List Spine). map rule_of rs ++ map rule_of_spine ss) (sym e) ∙ h)

-- the answer, once all components are done
pub rules_all : (l : Library) (goal : Paths) (q : TypePath) (rest : Paths) (x : ℕ) (rs : List (Rule Paths)) → goal ≡ more q rest → x ≡ length l.components → AreBegun l goal 0 x 0 [] rs → (IsWide l goal → ⊥) × IsRules l goal rs
rules_all l goal q rest x rs e f b =
    let k : AreBegun l (more q rest) 0 (length l.components) 0 [] rs = subst (λ (y : ℕ). AreBegun l (more q rest) 0 y 0 [] rs) f (subst (λ (p : Paths). AreBegun l p 0 x 0 [] rs) e b) in
    subst (λ (p : Paths). (IsWide l p → ⊥) × IsRules l p rs) (sym e) (begun_rules l q rest rs k)

pub rules_by_all : (l : Library) (goal : Paths) (q : TypePath) (rest : Paths) (x : ℕ) (rs : List (Rule Paths)) → goal ≡ more q rest → AreBegun l goal x (x + 1) 0 [] rs → (IsWideBy l x goal → ⊥) × IsRulesBy l x goal rs
rules_by_all l goal q rest x rs e b =
    subst (λ (p : Paths). (IsWideBy l x p → ⊥) × IsRulesBy l x p rs) (sym e) (begun_by l q rest x rs (subst (λ (p : Paths). AreBegun l p x (x + 1) 0 [] rs) e b))

-- the answer by the components from one on that come before another one
pub all_between : (l : Library) (goal : List TypePath) (n : ℕ) (a : Answer (List TypePath)) (q : TypePath) (rest : Paths) → listed goal ≡ more q rest → n ≡ length l.components → AreRulesBetween l goal 0 n a → IsAnswer l goal a
all_between l goal n (Rules rs) q rest e f b = rules_all l (listed goal) q rest n (map rule_of rs) e f b
all_between l goal n Wide q rest e f b = record { component = b.0; declared = (let i : b.0 < n = b.2 in omega arith); wide = b.3 }

pub by_between : (l : Library) (goal : List TypePath) (x : ℕ) (a : Answer (List TypePath)) (q : TypePath) (rest : Paths) → listed goal ≡ more q rest → AreRulesBetween l goal x (x + 1) a → IsAnswerBy l x goal a
by_between l goal x (Rules rs) q rest e b = rules_by_all l (listed goal) q rest x (map rule_of rs) e b
by_between l goal x Wide q rest e b =
    let i : x ≤ b.0 = b.1 in
    let j : b.0 < x + 1 = b.2 in
    let same : b.0 ≡ x = omega arith in
    subst (λ (y : ℕ). IsWideBy l y (listed goal)) same b.3

pub some_parts : (goal : List TypePath) → 0 < length goal → (q : TypePath) × (rest : Paths) × (listed goal ≡ more q rest)
some_parts [] h = absurd (let k : 0 < 0 = h in omega arith)
some_parts (q ∷ goal) h = (q, listed goal, refl)

pub families_at :
    (k l : Library) (goal : List TypePath) (p : Place) (all fs : List (List ℕ)) → k ≡ l → all ≡ fs → AreFamiliesAt k goal p all
    → AreFamilies l (arrows_at l p.component p.count) goal fs
families_at k l goal p all fs e f h =
    subst (λ (gs : List (List ℕ)). AreFamilies l (arrows_at l p.component p.count) goal gs) f (subst (λ (m : Library). AreFamiliesAt m goal p all) e h)

-- the rules of the covers of a place
pub covers_added :
    (l : Library) (goal : List TypePath) (p : Place) (fs list : List (List ℕ)) (old new : List (Rule (List TypePath))) (narrow : Bool)
    → 0 < length goal → IsPlace l p → AreFamilies l (arrows_at l p.component p.count) goal fs → AreMinimal (MeetsEach fs) list
    → ((j : ℕ) → j ≤ length fs → HasMore (MeetsEach (take j fs)) 1024 → ⊥)
    → ((q : TypePath) (rest : Paths) (begin : ℕ) → begin ≤ p.component
    → ((s : List ℕ) → Contains list s → IsChoice l (more q rest) (choice_at p.component p.count s))
    → AreBegun l (more q rest) begin p.component p.count [] (map rule_of old)
    → MatchBool narrow (AreBegun l (more q rest) begin p.component p.count list (map rule_of new)) (IsWideBy l p.component (more q rest)))
    → AddsPlace l goal p old new narrow
covers_added l goal p fs list old new narrow path h families m t f = λ begin le b.
    let q = some_parts goal path in
    place_done l p.component p.count goal fs list h.declared h.within families m t narrow (map rule_of old) (map rule_of new) q.0 q.1 begin q.2 le b (λ choice k. f q.0 q.1 begin le choice k)

-- the rules of the next place
pub next_added :
    (l : Library) (goal : List TypePath) (begin : ℕ) (from p : Place) (old new : List (Rule (List TypePath))) (narrow : Bool) → 0 < length goal
    → begin ≤ from.component → AreBegun l (listed goal) begin from.component from.count [] (map rule_of old) → IsNextPlace l (listed goal) from p
    → AddsPlace l goal p old new narrow
    → MatchBool narrow (AreBegun l (listed goal) begin p.component (p.count + 1) [] (map rule_of new)) (IsWideBy l p.component (listed goal))
next_added l goal begin from p old new narrow path after b h a =
    let q = some_parts goal path in
    let later : from.component ≤ p.component = reached_at_most from.component from.count p.component p.count (reached from.component from.count p.component p.count h.later) in
    a begin (omega arith) (begun_next l (listed goal) q.0 q.1 q.2 begin from (map rule_of old) b p h)

pub arity_within : (l : Library) (x : ℕ) → IsLibrary l → x < length l.components → arity_of (paths_at l x) ≤ 32
arity_within l x h d = (All-get_or (IsWithinLimits l.taxonomy) l.components x no_component d h.each).arity

-- keys that are put behind others where they aren't among them
abbrev pub spine_same : Spine → Spine → Bool
spine_same = eq-value.it
