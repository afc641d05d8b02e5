-- For one grammar one certificate is made.
use Rattle.std.proofs.Common.{ℕ, suc, ◌≡◌, ◌<◌, refl, sym, ◌∙◌, subst, ap, inl, inr, List, [], ◌∷◌, ◌++◌, length, arith, Contains, Option, Some}
use Rattle.std.specs.Prelude.{slice_get}
use Rattle.std.specs.List.{AllZip}
use Rattle.cls_base.specs.Languages.{rules_at}
use Rattle.cls_base.specs.Terms.{Precedes}
use Rattle.cls_base.specs.declared.rule.Rule.{Rule}
use Rattle.cls_path.specs.Paths.{Paths, none, more, type_of_paths}
use Rattle.cls_cover.specs.Lists.{Rises, IsAscending}
use Rattle.cls_cover.specs.Covers.{AreMinimal}
use Rattle.cls_cover.specs.Members as members
use Rattle.cls_cover.proofs.Lists.{contains_member, member_contains, rises_unique, precedes_not, precedes_same}
use Rattle.cls_library.specs.Libraries.{Library, arrows_at}
use Rattle.cls_library.specs.Reaching.{CoversGoal}
use Rattle.cls_library.specs.Rules.{Choice, code_of_choice}
use Rattle.cls_library.proofs.ByCases.{all_zip, zip_unique}
use Rattle.cls_proof.specs.Certificates as proof
use Rattle.cls_proof.specs.Certificates.{ProofRow, Block, Certificate, inhabited, empty}
use Rattle.cls_cert.specs.Making.{IsFirst, IsFirstChoice, front_of, goal_in, named, Ranked, ComesEarlier, BlockBefore, AreLayers, IsMemberFor, IsRanked, IsLower, IsRuleRow, IsRowOf, IsRowFor, AreRows, AreMembers, IsMade}
use Rattle.cls_cert.proofs.Ranking.{rank_same}

rising : {A : Type 0} (R : A → A → Type 0) (xs : List A) → Rises R xs → members.Rises R xs
rising R [] r = tt
rising R (x ∷ xs) r = ((λ y m. r.0 y (member_contains m)), rising R xs r.1)

-- two lists in one order with the same elements
one_list : {A : Type 0} (R : A → A → Type 0) → ((x y : A) → R x y → R y x → ⊥) → (xs ys : List A) → Rises R xs → Rises R ys → ((x : A) → Contains xs x → Contains ys x) → ((x : A) → Contains ys x → Contains xs x) → xs ≡ ys
one_list R f xs ys r s g h = rises_unique R f xs ys (rising R xs r) (rising R ys s) (λ x m. contains_member ys x (g x (member_contains m))) (λ x m. contains_member xs x (h x (member_contains m)))

one_zip : {A B : Type 0} (R : A → B → Type 0) → ((x : A) (y z : B) → R x y → R x z → y ≡ z) → (xs : List A) (ys zs : List B) → AllZip R xs ys → AllZip R xs zs → ys ≡ zs
one_zip R f xs ys zs h k = zip_unique f (all_zip xs ys h) (all_zip xs zs k)

one_some : {A : Type 0} (o : Option A) (a b : A) → o ≡ Some a → o ≡ Some b → a ≡ b
one_some o a b e f = cc

between : (n m : ℕ) → (n < m → ⊥) → (m < n → ⊥) → n ≡ m
between n m f g = omega arith

one_first : {A : Type 0} (P : A → Type 0) (xs : List A) (x y : A) → IsFirst P xs x → IsFirst P xs y → x ≡ y
one_first P xs x y h k =
    let e : h.place ≡ k.place = between h.place k.place (λ l. k.none_before h.place x l h.there h.holds) (λ l. h.none_before k.place y l k.there k.holds) in
    one_some (slice_get xs k.place) x y (ap (slice_get xs) (sym e) ∙ h.there) k.there

pub one_ascending : (s t : List ℕ) → IsAscending s → IsAscending t → ((x : ℕ) → Contains s x → Contains t x) → ((x : ℕ) → Contains t x → Contains s x) → s ≡ t
one_ascending s t a b f g = one_list (λ x y. x < y) (λ x y l m. omega arith) s t a b f g

pub one_minimal : (Covers : List ℕ → Type 0) (s t : List (List ℕ)) → AreMinimal Covers s → AreMinimal Covers t → s ≡ t
one_minimal Covers s t h k = one_list Precedes precedes_not s t h.in_order k.in_order (λ x m. (k.exactly x).1 ((h.exactly x).0 m)) (λ x m. (h.exactly x).1 ((k.exactly x).0 m))

-- lists of one length with the same elements at each place
one_at_each : {A : Type 0} (xs ys : List A) → length xs ≡ length ys → ((j : ℕ) (x y : A) → slice_get xs j ≡ Some x → slice_get ys j ≡ Some y → x ≡ y) → xs ≡ ys
one_at_each [] [] e f = refl
one_at_each [] (y ∷ ys) e f = absurd (let k : 0 ≡ suc (length ys) = e in omega arith)
one_at_each (x ∷ xs) [] e f = absurd (let k : suc (length xs) ≡ 0 = e in omega arith)
one_at_each (x ∷ xs) (y ∷ ys) e f =
    ap (λ z. z ∷ xs) (f 0 x y refl refl)
    ∙ ap (λ zs. y ∷ zs) (one_at_each xs ys (let k : suc (length xs) ≡ suc (length ys) = e in omega arith) (λ j a b g h. f (suc j) a b g h))

same_code : (c d : Choice) → code_of_choice c ≡ code_of_choice d → c ≡ d
same_code c d e =
    let p : c.component ≡ d.component = cc in
    let q : c.places ≡ d.places = cc in
    let r : c.cover ≡ d.cover = cc in
    λ i. record { component = p i; places = q i; cover = r i }

module _ (l : Library) where
  one_choice : (goal : Paths) (r : Rule Paths) (c d : Choice) → IsFirstChoice l goal r c → IsFirstChoice l goal r d → c ≡ d
  one_choice goal r c d h k = same_code c d (precedes_same (code_of_choice c) (code_of_choice d) (λ p. k.none_before c h.choice p h.gives) (λ p. h.none_before d k.choice p k.gives))

  one_layers : (goal : Paths) (x n : ℕ) (s t : List (List (List ℕ))) → AreLayers l goal x n s → AreLayers l goal x n t → s ≡ t
  one_layers goal x n s t h k = one_at_each s t (h.count ∙ sym k.count) (λ j a b e f. one_minimal (CoversGoal l (arrows_at l x n) (front_of (suc j) goal)) a b (h.each j a e) (k.each j b f))

  one_block : (goal : Paths) (b c : Block) → c.component ≡ b.component → c.n ≡ b.n → AreLayers l goal b.component b.n b.layers → AreLayers l goal c.component c.n c.layers → c ≡ b
  one_block goal b c e f h k =
      let layers : c.layers ≡ b.layers = one_layers goal b.component b.n c.layers b.layers (subst (λ (n : ℕ). AreLayers l goal b.component n c.layers) f (subst (λ (x : ℕ). AreLayers l goal x c.n c.layers) e k)) h in
      λ i. record { component = e i; n = f i; layers = layers i }

  blocks_into : (goal : Paths) (m o : proof.Member) → IsMemberFor l goal m → IsMemberFor l goal o → (b : Block) → Contains m.blocks b → Contains o.blocks b
  blocks_into goal m o h k b i =
      let found = (k.exactly b.component b.n).1 ((h.exactly b.component b.n).0 (b, i, refl, refl)) in
      subst (λ (c : Block). Contains o.blocks c) (one_block goal b found.0 found.2 found.3 (h.layers b i) (k.layers found.0 found.1)) found.1

  one_member : (goal : Paths) (m o : proof.Member) → IsMemberFor l goal m → IsMemberFor l goal o → m ≡ o
  one_member goal m o h k =
      let type : m.goal ≡ o.goal = h.type ∙ sym k.type in
      let blocks : m.blocks ≡ o.blocks = one_list BlockBefore (λ b c. precedes_not (b.component ∷ b.n ∷ []) (c.component ∷ c.n ∷ [])) m.blocks o.blocks h.in_order k.in_order (blocks_into goal m o h k) (blocks_into goal o m k h) in
      λ i. record { goal = type i; blocks = blocks i }

  module _ (goals : List Paths) (book : List (List (Rule ℕ))) where
    one_rule_row : (e : Ranked) (a b : ProofRow) → IsRuleRow l goals book e a → IsRuleRow l goals book e b → a ≡ b
    one_rule_row e a b h k =
        let rule : h.rule ≡ k.rule = one_first (IsLower l goals book e.rank) (rules_at book e.number) h.rule k.rule h.first_rule k.first_rule in
        let choice : h.choice ≡ k.choice = one_choice (goal_in goals e.number) (named goals k.rule) h.choice k.choice (subst (λ (r : Rule ℕ). IsFirstChoice l (goal_in goals e.number) (named goals r) h.choice) rule h.first_choice) k.first_choice in
        h.row_is ∙ (ap (λ (c : Choice). record { goal = type_of_paths (goal_in goals e.number); component = c.component; n = c.places; cover = c.cover }) choice ∙ sym k.row_is)

    one_row_of : (g : Paths) (e : Ranked) (a b : ProofRow) → IsRowOf l goals book g e a → IsRowOf l goals book g e b → a ≡ b
    one_row_of none e a b h k = h ∙ sym k
    one_row_of (more q n) e a b h k = one_rule_row e a b h k

    one_row : (e : Ranked) (a b : ProofRow) → IsRowFor l goals book e a → IsRowFor l goals book e b → a ≡ b
    one_row e a b h k = one_row_of (goal_in goals e.number) e a b h k

    earlier_not : (d e : Ranked) → ComesEarlier d e → ComesEarlier e d → ⊥
    earlier_not d e (inl a) (inl b) = omega arith
    earlier_not d e (inl a) (inr b) = (let p : e.rank ≡ d.rank = b.0 in omega arith)
    earlier_not d e (inr a) (inl b) = (let p : d.rank ≡ e.rank = a.0 in omega arith)
    earlier_not d e (inr a) (inr b) = (let p : d.number < e.number = a.1 in let q : e.number < d.number = b.1 in omega arith)

    one_rows : (a b : List ProofRow) → AreRows l goals book a → AreRows l goals book b → a ≡ b
    one_rows a b h k =
        let rank : h.rank ≡ k.rank = rank_same book 0 h.rank k.rank h.is_rank k.is_rank in
        let to : (e : Ranked) → Contains h.earlier e → Contains k.earlier e = λ e m. (k.exactly e).1 (subst (λ (x : ℕ). IsRanked l goals book e × (e.rank < x)) rank ((h.exactly e).0 m)) in
        let back : (e : Ranked) → Contains k.earlier e → Contains h.earlier e = λ e m. (h.exactly e).1 (subst (λ (x : ℕ). IsRanked l goals book e × (e.rank < x)) (sym rank) ((k.exactly e).0 m)) in
        let earlier : h.earlier ≡ k.earlier = one_list ComesEarlier earlier_not h.earlier k.earlier h.in_order k.in_order to back in
        one_zip (IsRowFor l goals book) one_row (k.earlier ++ record { number = 0; rank = k.rank } ∷ []) a b
        (subst (λ (x : ℕ). AllZip (IsRowFor l goals book) (k.earlier ++ record { number = 0; rank = x } ∷ []) a) rank (subst (λ (es : List Ranked). AllZip (IsRowFor l goals book) (es ++ record { number = 0; rank = h.rank } ∷ []) a) earlier h.made)) k.made

    one_members : (a b : List proof.Member) → AreMembers l goals book a → AreMembers l goals book b → a ≡ b
    one_members a b h k =
        let same : h.unproductive ≡ k.unproductive = one_ascending h.unproductive k.unproductive h.in_order k.in_order (λ i m. (k.exactly i).1 ((h.exactly i).0 m)) (λ i m. (h.exactly i).1 ((k.exactly i).0 m)) in
        one_zip (λ i m. IsMemberFor l (goal_in goals i) m) (λ i m o u v. one_member (goal_in goals i) m o u v) k.unproductive a b
        (subst (λ (is : List ℕ). AllZip (λ i m. IsMemberFor l (goal_in goals i) m) is a) same h.made) k.made

    pub one_made : (c d : Certificate) → IsMade l goals book c → IsMade l goals book d → c ≡ d
    one_made (inhabited a) (inhabited b) h k = ap inhabited (one_rows a b h.1 k.1)
    one_made (inhabited a) (empty b) h k = absurd (k.0 h.0)
    one_made (empty a) (inhabited b) h k = absurd (h.0 k.0)
    one_made (empty a) (empty b) h k = ap empty (one_members a b h.1 k.1)
