-- Members, one after another.
use Rattle.std.proofs.Common.{ℕ, zero, suc, ◌≡◌, ◌+◌, ◌<◌, ◌↔◌, inl, inr, refl, sym, subst, ap, ◌∙◌, List, [], ◌∷◌, ◌++◌, length, take, drop, get_or, Some, None, arith}
use Rattle.std.specs.Prelude.{All, Contains}
use Rattle.std.specs.List.{AllZip}
use Rattle.std.proofs.lemmas.List.{length-take}
use Rattle.std.proofs.lemmas.List.Elements.{All-push}
use Rattle.std.proofs.Math.Seq.{take-length}
use Rattle.cls_base.specs.Types.{ClosedType}
use Rattle.cls_base.specs.Subtyping.{transitivity}
use Rattle.cls_base.proofs.Lists.{Contains-nil, Contains-here, Contains-later, Contains-cases}
use Rattle.cls_path.specs.Paths.{TypePath, Paths, none, more, listed}
use Rattle.cls_library.specs.Arrows.{MultiArrow}
use Rattle.cls_library.specs.Libraries.{Library}
use Rattle.cls_proof.specs.Certificates as proof
use Rattle.cls_proof.specs.Certificates.{Block}
use Rattle.cls_check.specs.declared.fault.Reason.{Reason}
use Rattle.cls_check.specs.declared.fault.Reason.TheVariants.{Arrow, Target, Argument, Goal, Layers, Unblocked}
use Rattle.cls_check.specs.Checking.{path_total, IsForm, IsBlocked, BlockedFrom, PassesLayers, PassesUnblocked, IsBelowMember, member_causes, PassesMember, member_refusal}
use Rattle.cls_base.specs.Firsts.{First, FirstAfter, FirstAlong}
use Rattle.cls_check.specs.Goals.{IsBelowGoal, AllSuit, AreForms, AreGoals}
use Rattle.cls_check.specs.Tests.{TellsMember}
use Rattle.cls_check.proofs.Loops.{drop-one, take-one}
use Rattle.cls_check.proofs.Order.{form_down, form_up, one_form}
use Rattle.cls_check.proofs.Verdicts.{member-passes}

-- two lists, place by place
pub zip_last : {A B : Type 0} (R : A → B → Type 0) (xs : List A) (ys : List B) (x : A) (y : B) → AllZip R xs ys → R x y → AllZip R (xs ++ x ∷ []) (ys ++ y ∷ [])
zip_last R [] [] x y z r = (r, tt)
zip_last R [] (b ∷ ys) x y z r = absurd z
zip_last R (a ∷ xs) [] x y z r = absurd z
zip_last R (a ∷ xs) (b ∷ ys) x y z r = (z.0, zip_last R xs ys x y z.1 r)

zip_left : {A B : Type 0} (R : A → B → Type 0) (xs : List A) (ys : List B) (x : A) → AllZip R xs ys → Contains xs x → (y : B) × Contains ys y × R x y
zip_left R [] ys x z c = absurd (Contains-nil x c)
zip_left R (a ∷ xs) [] x z c = absurd z
zip_left {A} {B} R (a ∷ xs) (b ∷ ys) x z c = elim (Contains-cases a xs x c) [
  | inl e ↦ (b, Contains-here b ys, subst (λ (w : A). R w b) (sym e) z.0)
  | inr d ↦ (let r = zip_left R xs ys x z.1 d in (r.0, Contains-later r.0 b ys r.1, r.2))
]

zip_right : {A B : Type 0} (R : A → B → Type 0) (xs : List A) (ys : List B) (y : B) → AllZip R xs ys → Contains ys y → (x : A) × Contains xs x × R x y
zip_right R xs [] y z c = absurd (Contains-nil y c)
zip_right R [] (b ∷ ys) y z c = absurd z
zip_right {A} {B} R (a ∷ xs) (b ∷ ys) y z c = elim (Contains-cases b ys y c) [
  | inl e ↦ (a, Contains-here a xs, subst (λ (w : B). R a w) (sym e) z.0)
  | inr d ↦ (let r = zip_right R xs ys y z.1 d in (r.0, Contains-later r.0 a xs r.1, r.2))
]

pub zip_at : {A B : Type 0} (R : A → B → Type 0) (xs : List A) (ys : List B) (i : ℕ) (d : A) (e : B) → AllZip R xs ys → i < length xs → R (get_or xs i d) (get_or ys i e)
zip_at R [] ys i d e z l = absurd (omega arith)
zip_at R (a ∷ xs) [] i d e z l = absurd z
zip_at R (a ∷ xs) (b ∷ ys) zero d e z l = z.0
zip_at R (a ∷ xs) (b ∷ ys) (suc i) d e z l = zip_at R xs ys i d e z.1 (omega arith)

pub zip_length : {A B : Type 0} (R : A → B → Type 0) (xs : List A) (ys : List B) → AllZip R xs ys → length xs ≡ length ys
zip_length R [] [] z = refl
zip_length R [] (b ∷ ys) z = absurd z
zip_length R (a ∷ xs) [] z = absurd z
zip_length R (a ∷ xs) (b ∷ ys) z = ap suc (zip_length R xs ys z.1)

module _ (l : Library) where
  abbrev pub Form : proof.Member → List TypePath → Type 0
  Form m g = IsForm l m.goal (listed g)

  module _ (P Q : ClosedType → Type 0) (f : (t : ClosedType) → P t → Q t) where
    blocked_map : (arrows : List MultiArrow) (n : ℕ) (s : List ℕ) → IsBlocked l P arrows n s → IsBlocked l Q arrows n s
    blocked_map arrows n s h = (h.0, h.1, f _ h.2)

    from_map : (arrows : List MultiArrow) (n : ℕ) (form : Paths) (sets : List (List ℕ)) (layers : List (List (List ℕ))) → BlockedFrom l P arrows n form sets layers → BlockedFrom l Q arrows n form sets layers
    from_map arrows n none sets layers h = λ k d m. blocked_map arrows n (get_or sets k d) (h k d m)
    from_map arrows n (more q rest) sets [] h = h
    from_map arrows n (more q rest) sets (layer ∷ layers) h = ((λ k d m. elim (h.0 k d m) [ inl b ↦ inl (blocked_map arrows n (get_or sets k d) b) | inr t ↦ inr t ]), from_map arrows n rest layer layers h.1)

    pub unblocked_map : (blocks : List Block) (form : Paths) → PassesUnblocked l P blocks form → PassesUnblocked l Q blocks form
    unblocked_map blocks form h x n place = from_map _ n form _ _ (h x n place)

  -- the table of the members' normal forms stands for the members
  pub below_exactly : (members : List proof.Member) (forms goals : List (List TypePath)) → AreForms l members forms → AreGoals forms goals → (t : ClosedType) → IsBelowGoal l goals t ↔ IsBelowMember l members t
  below_exactly members forms goals z e t = (
    (λ h. let r = zip_right Form members forms h.0 z ((e h.0).0 h.1) in (r.0, r.1, transitivity h.2 (form_down l r.0.goal (listed h.0) r.2))),
    (λ h. let r = zip_left Form members forms h.0 z h.1 in (r.0, (e r.0).1 r.1, transitivity h.2 (form_up l h.0.goal (listed r.0) r.2))),
  )

  pub goals_suit : (members : List proof.Member) (forms goals : List (List TypePath)) → AreForms l members forms → AreGoals forms goals → AllSuit l goals
  goals_suit members forms goals z e g m = (zip_right Form members forms g z ((e g).0 m)).2.normal.suits

  pub form_at : (members : List proof.Member) (forms : List (List TypePath)) → AreForms l members forms → (i : ℕ) (d : proof.Member) (e : List TypePath) → i < length members → Form (get_or members i d) (get_or forms i e)
  form_at members forms z i d e m = zip_at Form members forms i d e z m

  -- the first i members passed
  pub record MembersTo (members : List proof.Member) (i : ℕ) : Type 0 where
    pub passed : All (PassesMember l (IsBelowMember l members)) (take i members)
    pub refused : (p : ℕ × Reason) → FirstAfter (member_refusal l members) (take i members) (drop i members) p → FirstAlong (member_refusal l members) members p

  pub members_start : (members : List proof.Member) → MembersTo members 0
  members_start members = record { passed = λ k d m. absurd (omega arith); refused = λ p h. h }

  module _ (members : List proof.Member) (forms goals : List (List TypePath)) (z : AreForms l members forms) (e : AreGoals forms goals) where
    -- what the tests of a member tell
    pub tells_pass : (m : proof.Member) (g : List TypePath) → Form m g → TellsMember l goals m.blocks (listed g) None → PassesMember l (IsBelowMember l members) m
    tells_pass m g f t = record { form = listed g; is_form = f; layers = t.0; unblocked = unblocked_map (IsBelowGoal l goals) (IsBelowMember l members) (λ n. (below_exactly members forms goals z e n).0) m.blocks (listed g) t.1 }

    pub tells_fail : (m : proof.Member) (g : List TypePath) (reason : Reason) → Form m g → TellsMember l goals m.blocks (listed g) (Some reason) → First (member_causes l (IsBelowMember l members) m) reason
    tells_fail m g Layers f t = inl ((listed g, f, t), refl)
    tells_fail m g Unblocked f t = inr (
      (λ r h. h.0.2 (subst (λ (n : Paths). PassesLayers l m.blocks (path_total n)) (one_form l m.goal (listed g) h.0.0 f h.0.1) t.0)),
      inl ((listed g, f, (λ p. t.1 (unblocked_map (IsBelowMember l members) (IsBelowGoal l goals) (λ n. (below_exactly members forms goals z e n).1) m.blocks (listed g) p))), refl),
    )
    tells_fail m g Arrow f t = absurd t
    tells_fail m g Target f t = absurd t
    tells_fail m g Argument f t = absurd t
    tells_fail m g Goal f t = absurd t

  module _ (members : List proof.Member) (i : ℕ) (h : MembersTo members i) (m : proof.Member) (is : m ≡ get_or members i m) (low : i < length members) where
    left_is : drop i members ≡ m ∷ drop (i + 1) members
    left_is = drop-one members i m is low

    front_is : take (i + 1) members ≡ take i members ++ m ∷ []
    front_is = take-one members i m is low

    front_length : length (take i members) ≡ i
    front_length = simp length-take (omega arith)

    pub members_fail : (reason : Reason) → First (member_causes l (IsBelowMember l members) m) reason → FirstAlong (member_refusal l members) members (i + 1, reason)
    members_fail reason f = h.refused (i + 1, reason) (subst (λ (q : List proof.Member). FirstAfter (member_refusal l members) (take i members) q (i + 1, reason)) (sym left_is)
        (inl (ap (λ (k : ℕ). k + 1) (sym front_length), f)))

    pub members_next : PassesMember l (IsBelowMember l members) m → MembersTo members (i + 1)
    members_next p = record {
      passed = subst (λ (q : List proof.Member). All (PassesMember l (IsBelowMember l members)) q) (sym front_is) (All-push (PassesMember l (IsBelowMember l members)) (take i members) m h.passed p);
      refused = λ q f. h.refused q (subst (λ (x : List proof.Member). FirstAfter (member_refusal l members) (take i members) x q) (sym left_is)
          (inr ((λ t k. member-passes l (IsBelowMember l members) m p t.1 k.1), subst (λ (x : List proof.Member). FirstAfter (member_refusal l members) x (drop (i + 1) members) q) front_is f)));
    }

  pub members_done : (members : List proof.Member) (i : ℕ) → i ≡ length members → MembersTo members i → All (PassesMember l (IsBelowMember l members)) members
  members_done members i k h = subst (λ (x : List proof.Member). All (PassesMember l (IsBelowMember l members)) x) (ap (λ (j : ℕ). take j members) k ∙ take-length members) h.passed
