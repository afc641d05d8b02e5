-- These are the node's forms.
use Rattle.std.proofs.Common.{◌≡◌, ℕ, zero, suc, ◌+◌, ◌<◌, ◌≤◌, List, [], ◌∷◌, ◌++◌, length, refl, sym, ap, ◌∙◌, subst, inl, inr, arith, append-nil, append_assoc, length-append}
use Rattle.std.specs.Prelude.{Option, None, Some}
use Rattle.cls_base.specs.declared.rule.Rule.{Rule}
use Rattle.cls_base.specs.declared.rule.Rule.TheVariants.{Head, Any}
use Rattle.cls_base.specs.Languages.{NodeRule, rules_at}
use Rattle.cls_enum.specs.Members.{IsIn}
use Rattle.cls_enum.proofs.Members.{in_from, in_to, in_over, over_in, in_flat_map, flat_map_in}
use Rattle.cls_walk.specs.Counts.{HeadRule, heads_of, pairs_of}
use Rattle.cls_walk.specs.Forms.{HasForm, headed, applied, AreForms}
use Rattle.cls_walk.specs.Repeats.{copies, IsRepeat, repeated, forms_by}
use Rattle.cls_walk.proofs.Sure.{heads-rule, pairs-rule}

length-copies : (m k : ℕ) → length (copies m k) ≡ k
length-copies m zero = refl
length-copies m (suc k) = omega (arith, length-append (copies m k) (m ∷ []), length-copies m k)

rule-heads : (rs : List (Rule ℕ)) (x : ℕ) (ns : List ℕ) → IsIn rs (Head x ns) → IsIn (heads_of rs) (x, ns)
rule-heads [] x ns i = absurd i
rule-heads (Head y ms ∷ rs) x ns (inl p) = inl (λ i. (let comp : Rule ℕ → ℕ = λ r. elim r [ Head z zs ↦ z | Any l m ↦ 0 ] in ap comp p i, let args : Rule ℕ → List ℕ = λ r. elim r [ Head z zs ↦ zs | Any l m ↦ [] ] in ap args p i))
rule-heads (Head y ms ∷ rs) x ns (inr i) = inr (rule-heads rs x ns i)
rule-heads (Any l m ∷ rs) x ns (inl p) = absurd (cc)
rule-heads (Any l m ∷ rs) x ns (inr i) = rule-heads rs x ns i

rule-pairs : (rs : List (Rule ℕ)) (l m : ℕ) → IsIn rs (Any l m) → IsIn (pairs_of rs) (l, m)
rule-pairs [] l m i = absurd i
rule-pairs (Head y ms ∷ rs) l m (inl p) = absurd (cc)
rule-pairs (Head y ms ∷ rs) l m (inr i) = rule-pairs rs l m i
rule-pairs (Any k j ∷ rs) l m (inl p) = inl (λ i. (let left : Rule ℕ → ℕ = λ r. elim r [ Head z zs ↦ 0 | Any a b ↦ a ] in ap left p i, let right : Rule ℕ → ℕ = λ r. elim r [ Head z zs ↦ 0 | Any a b ↦ b ] in ap right p i))
rule-pairs (Any k j ∷ rs) l m (inr i) = inr (rule-pairs rs l m i)

module _ (book : List (List (Rule ℕ))) (n : ℕ) where
  abbrev rs : List (Rule ℕ)
  rs = rules_at book n

  grown : (m : ℕ) → pairs_of rs ≡ (n, m) ∷ [] → (x : ℕ) (ns : List ℕ) → NodeRule book n (Head x ns) → (j : ℕ) → HasForm book n x (ns ++ copies m j)
  grown m p x ns c zero = let P : List ℕ → Type 0 = λ ks. HasForm book n x ks in subst P (sym (append-nil ns)) (headed c)
  grown m p x ns c (suc j) =
      let P : List (ℕ × ℕ) → Type 0 = λ ps. IsIn ps (n, m) in
      let i = pairs-rule rs (n, m) (subst P (sym p) (inl refl)) in
      applied (in_to rs (Any n m) i) (grown m p x ns c j) (sym (append_assoc ns (copies m j) (m ∷ [])))

  forms-each : (repeat : Option ℕ) (size : ℕ) → IsRepeat n rs repeat → (h : HeadRule) → IsIn (forms_by repeat size rs) h → HasForm book n h.0 h.1
  forms-each None size p h i =
      let r = in_flat_map (repeated None size) (heads_of rs) h i in
      let P : HeadRule → Type 0 = λ g. HasForm book n g.0 g.1 in
      elim r.2 [
        | inl q ↦ subst P q (headed (in_to rs (Head r.0.0 r.0.1) (heads-rule rs r.0 r.1)))
        | inr z ↦ absurd z
      ]
  forms-each (Some m) size p h i =
      let r = in_flat_map (repeated (Some m) size) (heads_of rs) h i in
      let g = r.0 in
      let o = in_over size (λ j. (g.0, g.1 ++ copies m j) ∷ []) h r.2 in
      let P : HeadRule → Type 0 = λ f. HasForm book n f.0 f.1 in
      elim o.2 [
        | inl q ↦ subst P q (grown m p g.0 g.1 (in_to rs (Head g.0 g.1) (heads-rule rs g r.1)) o.0)
        | inr z ↦ absurd z
      ]

  -- without a pair, each form is a head rule
  plain : pairs_of rs ≡ [] → (k x : ℕ) (ks : List ℕ) → k ≡ n → HasForm book k x ks → IsIn (heads_of rs) (x, ks)
  plain p k x ks e (headed {ns = ns} c) =
      let P : ℕ → Type 0 = λ i. NodeRule book i (Head x ks) in
      rule-heads rs x ks (in_from rs (Head x ks) (subst P e c))
  plain p k x ks e (applied {l = l} {m = m} c f q) =
      let P : ℕ → Type 0 = λ i. NodeRule book i (Any l m) in
      let Q : List (ℕ × ℕ) → Type 0 = λ ps. IsIn ps (l, m) in
      absurd (subst Q p (rule-pairs rs l m (in_from rs (Any l m) (subst P e c))))

  -- with one pair, each form is a head rule with further arguments
  longer : (m : ℕ) → pairs_of rs ≡ (n, m) ∷ [] → (k x : ℕ) (ks : List ℕ) → k ≡ n → HasForm book k x ks → (h : HeadRule) × IsIn (heads_of rs) h × (j : ℕ) × (x ≡ h.0) × (ks ≡ h.1 ++ copies m j)
  longer m p k x ks e (headed {ns = ns} c) =
      let P : ℕ → Type 0 = λ i. NodeRule book i (Head x ks) in
      ((x, ks), rule-heads rs x ks (in_from rs (Head x ks) (subst P e c)), 0, refl, sym (append-nil ks))
  longer m p k x ks e (applied {l = l} {m = o} {ns = ns} c f q) =
      let P : ℕ → Type 0 = λ i. NodeRule book i (Any l o) in
      let Q : List (ℕ × ℕ) → Type 0 = λ ps. IsIn ps (l, o) in
      let i = subst Q p (rule-pairs rs l o (in_from rs (Any l o) (subst P e c))) in
      elim i [
        | inl z ↦
            let a : l ≡ n = ap (λ (u : ℕ × ℕ). u.0) (sym z) in
            let b : o ≡ m = ap (λ (u : ℕ × ℕ). u.1) (sym z) in
            let r = longer m p l x ns a f in (
              r.0,
              r.1,
              suc r.2,
              r.3,
              q ∙ ap (λ (js : List ℕ). js ++ o ∷ []) r.4 ∙ ap (λ (u : ℕ). (r.0.1 ++ copies m r.2) ++ u ∷ []) b ∙ append_assoc r.0.1 (copies m r.2) (m ∷ []),
            )
        | inr z ↦ absurd z
      ]

  forms-all : (repeat : Option ℕ) (size : ℕ) → IsRepeat n rs repeat → (x : ℕ) (ks : List ℕ) → HasForm book n x ks → length ks < size → IsIn (forms_by repeat size rs) (x, ks)
  forms-all None size p x ks f l = flat_map_in (repeated None size) (heads_of rs) (x, ks) (x, ks) (plain p n x ks refl f) (inl refl)
  forms-all (Some m) size p x ks f l =
      let r = longer m p n x ks refl f in
      let h = r.0 in
      let j = r.2 in
      let k : length ks ≡ length h.1 + j = ap (λ (js : List ℕ). length js) r.4 ∙ length-append h.1 (copies m j) ∙ ap (λ (u : ℕ). length h.1 + u) (length-copies m j) in
      let e : (h.0, h.1 ++ copies m j) ≡ (x, ks) = λ i. (sym r.3 i, sym r.4 i) in
      flat_map_in (repeated (Some m) size) (heads_of rs) (x, ks) h r.1 (over_in size (λ u. (h.0, h.1 ++ copies m u) ∷ []) (x, ks) j (omega (arith, k, l)) (inl e))

  pub are_forms : (repeat : Option ℕ) (size most : ℕ) (forms : List HeadRule) → forms ≡ forms_by repeat size rs → most + 1 ≡ size → IsRepeat n rs repeat → AreForms book most n forms
  are_forms repeat size most forms e q p =
      let P : List HeadRule → Type 0 = λ hs. (h : HeadRule) → IsIn hs h → HasForm book n h.0 h.1 in
      let Q : List HeadRule → Type 0 = λ hs. (x : ℕ) (ks : List ℕ) → HasForm book n x ks → length ks ≤ most → IsIn hs (x, ks) in
      record {
        each = subst P (sym e) (forms-each repeat size p);
        all = subst Q (sym e) (λ x ks f l. forms-all repeat size p x ks f (omega (arith, l, q)));
      }
