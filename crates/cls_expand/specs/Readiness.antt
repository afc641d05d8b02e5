-- internal: the arguments of an answer can be worked on again. Proofs, kept here since the laws of an `impl` are cited from
-- specs/.
use Rattle.std.proofs.Common.{ℕ, suc, ◌≡◌, ◌≤◌, ◌<◌, refl, sym, ◌∙◌, subst, ap, ◌⊎◌, inl, inr, List, [], ◌∷◌, ◌++◌, length, get_or, arith}
use Rattle.std.specs.Prelude.{map}
use Rattle.cls_base.specs.declared.rule.Rule.{Rule}
use Rattle.cls_base.specs.declared.rule.Rule.TheVariants.{Head, Any}
use Rattle.cls_core.specs.declared.answer.Answer.TheVariants.{Rules, Wide}
use Rattle.cls_core.specs.Arguments.{ArgumentsAreReady}
use Rattle.cls_base.specs.Arguments.{arguments_of_rule, arguments_in}
use Rattle.cls_path.specs.Paths.{TypePath, Paths, none, more, listed, type_of_paths}
use Rattle.cls_norm.specs.Fit.{IsFit}
use Rattle.cls_cover.specs.Members.{Member, first, later}
use Rattle.cls_cover.proofs.Lists.{contains_member, member_contains, member_append, get_member}
use Rattle.cls_library.specs.Libraries.{Library, IsLibrary}
use Rattle.cls_library.specs.Rules.{Choice, IsRuleFor, IsRules, IsChoice, IsWide, by_size, heads, numbers_from}
use Rattle.cls_library.proofs.ByCases.{all_zip, zip_right}
use Rattle.cls_expand.specs.Answers.{rule_of, IsAnswer, IsReady}
use Rattle.cls_library.proofs.FirstOnes.{first_ones_from}
use Rattle.cls_expand.specs.Listing.{mapped_in, rule_args, unlisted, unlisted_back}

-- an argument of rules is one of some rule
in_rule : (rs : List (Rule (List TypePath))) (g : List TypePath) → Member (arguments_in rs) g → (r : Rule (List TypePath)) × Member rs r × Member (arguments_of_rule r) g
in_rule [] g m = elim m [ ]
in_rule (r ∷ rs) g m = go (λ k. in_rule rs g k) (member_append (arguments_of_rule r) (arguments_in rs) g m)
  where
    go : (Member (arguments_in rs) g → (q : Rule (List TypePath)) × Member rs q × Member (arguments_of_rule q) g) → Member (arguments_of_rule r) g ⊎ Member (arguments_in rs) g → (q : Rule (List TypePath)) × Member (r ∷ rs) q × Member (arguments_of_rule q) g
    go rest (inl k) = (r, first, k)
    go rest (inr k) = let u = rest k in (u.0, later u.1, u.2)

-- what isn't otherwise holds, of bounds
below_stable : (a b : ℕ) → ((a ≤ b → ⊥) → ⊥) → a ≤ b
below_stable a b f = go (cases a b)
  where
    cases : (a b : ℕ) → (a ≤ b) ⊎ (b < a)
    cases a b = grind arith

    go : (a ≤ b) ⊎ (b < a) → a ≤ b
    go (inl h) = h
    go (inr h) = absurd (f (λ k. omega arith))

abbrev lefts : Rule Paths → Paths
lefts (Head x ns) = none
lefts (Any n m) = n

abbrev rights : Rule Paths → Paths
rights (Head x ns) = none
rights (Any n m) = m

abbrev is_any : Rule Paths → ℕ
is_any (Head x ns) = 0
is_any (Any n m) = 1

module _ (l : Library) (law : IsLibrary l) where
  fit_stable : (n : Paths) → ((IsFit (type_of_paths n) → ⊥) → ⊥) → IsFit (type_of_paths n)
  fit_stable n f = record {
    few = below_stable _ _ (λ g. f (λ h. g h.few));
    shallow = below_stable _ _ (λ g. f (λ h. g h.shallow));
    narrow = below_stable _ _ (λ g. f (λ h. g h.narrow));
  }

  none_ready : IsReady l []
  none_ready = record { library = law; normal = record { suits = tt; canonical = tt }; fit = record { few = omega arith; shallow = omega arith; narrow = omega arith } }

  none_only : (g : List TypePath) → listed g ≡ none → IsReady l g
  none_only g e = subst (λ (h : List TypePath). IsReady l h) (sym (sym (unlisted_back g) ∙ ap unlisted e)) none_ready

  -- the arguments of the rules of omega
  of_omega : (ns : List ℕ) (r : Rule (List TypePath)) → Member (heads ns ++ Any none none ∷ []) (rule_of r) → (g : List TypePath) → Member (arguments_of_rule r) g → IsReady l g
  of_omega ns (Head x args) m g k = absurd (no_args ns x args m g k)
    where
      no_member : (args : List (List TypePath)) → map listed args ≡ [] → (g : List TypePath) → Member args g → ⊥
      no_member [] e g k = elim k [ ]
      no_member (a ∷ args) e g k = let n : suc (length (map listed args)) ≡ 0 = ap (λ (ns : List Paths). length ns) e in omega arith

      parts : (rs : List (Rule Paths)) (q r : Rule Paths) → Member (q ∷ rs) r → (r ≡ q) ⊎ Member rs r
      parts rs q _ first = inl refl
      parts rs q r (later m) = inr m

      empty : (ns : List ℕ) (r : Rule Paths) → Member (heads ns ++ Any none none ∷ []) r → rule_args r ≡ []
      empty [] r m = elim (parts [] (Any none none) r m) [ inl e ↦ ap rule_args e | inr k ↦ elim k [ ] ]
      empty (n ∷ ns) r m = elim (parts (heads ns ++ Any none none ∷ []) (Head n []) r m) [ inl e ↦ ap rule_args e | inr k ↦ empty ns r k ]

      no_args : (ns : List ℕ) (x : ℕ) (args : List (List TypePath)) → Member (heads ns ++ Any none none ∷ []) (rule_of (Head x args)) → (g : List TypePath) → Member args g → ⊥
      no_args ns x args m g k = no_member args (empty ns (Head x (map listed args)) m) g k
  of_omega ns (Any left right) m g k = none_only g (elim (either g k) [ inl e ↦ ap listed e ∙ (sides ns m).0 | inr e ↦ ap listed e ∙ (sides ns m).1 ])
    where
      either : (g : List TypePath) → Member (left ∷ right ∷ []) g → (g ≡ left) ⊎ (g ≡ right)
      either _ first = inl refl
      either g (later k) = inr (single g k)
        where
          single : (g : List TypePath) → Member (right ∷ []) g → g ≡ right
          single _ first = refl
          single g (later k) = elim k [ ]

      one : (ns : List ℕ) (r : Rule Paths) → Member (heads ns ++ Any none none ∷ []) r → (lefts r ≡ none) × (rights r ≡ none)
      one [] _ first = (refl, refl)
      one [] r (later k) = elim k [ ]
      one (n ∷ ns) _ first = (refl, refl)
      one (n ∷ ns) r (later k) = one ns r k

      sides : (ns : List ℕ) → Member (heads ns ++ Any none none ∷ []) (Any (listed left) (listed right)) → (listed left ≡ none) × (listed right ≡ none)
      sides ns m = one ns (Any (listed left) (listed right)) m

  -- the arguments of the rule of a choice
  of_choice : (q : TypePath) (rest : Paths) → (IsWide l (more q rest) → ⊥) → (c : Choice) → IsChoice l (more q rest) c → (r : Rule (List TypePath)) → IsRuleFor l c (rule_of r) → (g : List TypePath) → Member (arguments_of_rule r) g → IsReady l g
  of_choice q rest n c h (Head x args) k g m =
      let e : map listed args ≡ k.arguments = ap rule_args k.rule in
      let a : Member k.arguments (listed g) = subst (λ (ns : List Paths). Member ns (listed g)) e (mapped_in listed m) in
      let z = zip_right (listed g) (all_zip _ k.arguments k.reduced) a in
      record {
        library = law;
        normal = z.2.normal;
        fit = fit_stable (listed g) (λ u. n (record {
          component = c.component;
          declared = h.declared;
          wide = by_size c refl (record { choice = h; made = rule_of (Head x args); rule = k; argument = listed g; place = member_contains a; unfit = u });
        }));
      }
  of_choice q rest n c h (Any left right) k g m = absurd (let e : 1 ≡ 0 = ap is_any k.rule in omega arith)

  each_ready : (goal : Paths) (rs : List (Rule (List TypePath))) → (IsWide l goal → ⊥) → IsRules l goal (map rule_of rs) → (g : List TypePath) → Member (arguments_in rs) g → IsReady l g
  each_ready none rs n h g m =
      let u = in_rule rs g m in
      of_omega (numbers_from 0 (length l.components)) u.0 (subst (λ (qs : List (Rule Paths)). Member qs (rule_of u.0)) h (mapped_in rule_of u.1)) g u.2
  each_ready (more q rest) rs n h g m =
      let u = in_rule rs g m in
      let k = first_ones_from (rule_of u.0) h.first_ones (member_contains (mapped_in rule_of u.1)) in
      let z = zip_right (rule_of u.0) (all_zip h.choices h.candidates h.made) (contains_member h.candidates (rule_of u.0) k) in
      of_choice q rest n z.0 ((h.chosen.exactly z.0).0 (member_contains z.1)) u.0 z.2 g u.2

pub arguments_are_ready : (l : Library) → ArgumentsAreReady (IsReady l) (IsAnswer l)
arguments_are_ready l goal (Rules rs) r h = λ k d m. each_ready l r.library (listed goal) rs h.0 h.1 (get_or (arguments_in rs) k d) (get_member (arguments_in rs) k d m)
arguments_are_ready l goal Wide r h = λ k d m. absurd (let e : k < 0 = m in omega arith)
