-- The positions of a family in groups.
use Rattle.std.proofs.Common.{ℕ, suc, ◌≡◌, ◌+◌, ◌<◌, ◌≤◌, refl, sym, ◌∙◌, subst, ap, inl, inr, List, [], ◌∷◌, ◌++◌, length, get_or, take, drop, arith, append_assoc, Some, None, slice_get, take-append-drop, add-one}
use Rattle.std.proofs.Math.Seq.{take-suc, drop-cons}
use Rattle.std.specs.List.Sorted.{IsPermutation}
use Rattle.std.proofs.lemmas.List.Sorted.{Contains-permutation, IsPermutation-sym, length_permutation}
use Rattle.cls_base.proofs.Lists.{take_whole}
use Rattle.cls_cover.specs.Members.{Member, first, later, Ascending, Differ}
use Rattle.cls_cover.specs.Groups.{together, row_at, HasRowOf, IsAlike, AreRuns, AreGroups}
use Rattle.cls_cover.proofs.Lists.{contains_member, member_contains, differ_by_length, member_append, member_append_left, member_append_right, get_member}

pub together-append : (gs hs : List (List ℕ)) → together (gs ++ hs) ≡ together gs ++ together hs
together-append [] hs = refl
together-append (g ∷ gs) hs = ap (λ l. g ++ l) (together-append gs hs) ∙ sym (append_assoc g (together gs) (together hs))

pub append_none : {A : Type 0} (xs : List A) → xs ++ [] ≡ xs
append_none [] = refl
append_none (x ∷ xs) = ap (λ l. x ∷ l) (append_none xs)

pub together_last : (gs : List (List ℕ)) (g : List ℕ) → together (gs ++ g ∷ []) ≡ together gs ++ g
together_last gs g = together-append gs (g ∷ []) ∙ ap (λ l. together gs ++ l) (append_none g)

-- one group more
pub together_more : (gs : List (List ℕ)) (i : ℕ) (g : List ℕ) → i < length gs → g ≡ get_or gs i g → together (take (i + 1) gs) ≡ together (take i gs) ++ g
together_more gs i g l e = rw add-one (ap together (take-suc gs i g l ∙ ap (λ h. take i gs ++ h ∷ []) (sym e)) ∙ together_last (take i gs) g)

pub together_front : (gs : List (List ℕ)) (i : ℕ) → together gs ≡ together (take i gs) ++ together (drop i gs)
together_front gs i = ap together (sym (take-append-drop i gs)) ∙ together-append (take i gs) (drop i gs)

pub in_together : (gs : List (List ℕ)) (g : List ℕ) (x : ℕ) → Member gs g → Member g x → Member (together gs) x
in_together (g ∷ gs) _ x first m = member_append_left (together gs) x m
in_together (h ∷ gs) g x (later n) m = member_append_right h (together gs) x (in_together gs g x n m)
in_together [] g x n m = elim n [ ]

pub differ_front : {A : Type 0} (xs ys : List A) → Differ (xs ++ ys) → Differ xs
differ_front [] ys d = tt
differ_front (x ∷ xs) ys d = ((λ m. d.0 (member_append_left ys x m)), differ_front xs ys d.1)

differ_seam : {A : Type 0} (xs : List A) (x : A) (ys : List A) → Differ (xs ++ x ∷ ys) → Member xs x → ⊥
differ_seam (x ∷ xs) _ ys d first = d.0 (member_append_right xs (x ∷ ys) x first)
differ_seam (y ∷ xs) x ys d (later m) = differ_seam xs x ys d.1 m
differ_seam [] x ys d m = elim m [ ]

-- the number at the place isn't among what stands before it
pub fresh_at : (done group : List ℕ) (n : ℕ) → Differ (done ++ group) → n < length group → Member (done ++ take n group) (get_or group n 0) → ⊥
fresh_at done group n d l =
    let e : group ≡ take n group ++ (get_or group n 0 ∷ drop (suc n) group) = sym (take-append-drop n group) ∙ ap (λ r. take n group ++ r) (drop-cons group n 0 l) in
    let h : done ++ group ≡ (done ++ take n group) ++ (get_or group n 0 ∷ drop (suc n) group) = ap (λ r. done ++ r) e ∙ sym (append_assoc done (take n group) (get_or group n 0 ∷ drop (suc n) group)) in
    differ_seam (done ++ take n group) (get_or group n 0) (drop (suc n) group) (subst (λ (r : List ℕ). Differ r) h d)

pub one_more : (done group : List ℕ) (n : ℕ) → n < length group → (done ++ take n group) ++ get_or group n 0 ∷ [] ≡ done ++ take (n + 1) group
one_more done group n l = append_assoc done (take n group) (get_or group n 0 ∷ []) ∙ ap (λ r. done ++ r) (sym (rw add-one (take-suc group n 0 l)))

pub taken_member : (group : List ℕ) (n x : ℕ) → Member (take n group) x → Member group x
taken_member group n x m = subst (λ (l : List ℕ). Member l x) (take-append-drop n group) (member_append_left (drop n group) x m)

-- a permutation has the same elements, and no more often
pub permuted_member : {A : Type 0} (xs ys : List A) (x : A) → IsPermutation xs ys → Member xs x → Member ys x
permuted_member xs ys x p m = contains_member ys x (Contains-permutation xs ys x p (member_contains m))

permuted_distinct : {A : Type 0} (xs ys : List A) → IsPermutation xs ys → Differ xs → Differ ys
permuted_distinct xs ys p d =
    let e = length_permutation xs ys p in
    differ_by_length xs ys d (λ x m. permuted_member xs ys x p m) (omega arith) (λ x m. permuted_member ys xs x (IsPermutation-sym xs ys p) m)

pub ascending_differ : (s : List ℕ) → Ascending s → Differ s
ascending_differ [] a = tt
ascending_differ (x ∷ s) a = ((λ m. let l : x < x = a.0 x m in omega arith), ascending_differ s a.1)

pub runs_groups : (rows : List (List ℕ)) (family positions : List ℕ) (groups : List (List ℕ)) → Ascending family → IsPermutation family positions → AreRuns rows positions groups → AreGroups rows family groups
runs_groups rows family positions groups a p r = record {
  same = (λ x. (
    (λ m. permuted_member positions family x (IsPermutation-sym family positions p) (subst (λ (l : List ℕ). Member l x) r.whole m)),
    (λ m. subst (λ (l : List ℕ). Member l x) (sym r.whole) (permuted_member family positions x p m)),
  ));
  differ = subst (λ (l : List ℕ). Differ l) (sym r.whole) (permuted_distinct family positions p (ascending_differ family a));
  alike = r.alike;
}

-- what holds of a group while it is made
pub record IsBegun (rows : List (List ℕ)) (before : List ℕ) (groups : List (List ℕ)) (group : List ℕ) : Type 0 where
  pub whole : together groups ++ group ≡ before
  pub alike : (g : List ℕ) → Member groups g → IsAlike rows g
  pub last : IsAlike rows group

pub begun_none : (rows : List (List ℕ)) → IsBegun rows [] [] []
begun_none rows = record { whole = refl; alike = (λ g m. elim m [ ]); last = (λ x m. elim m [ ]) }

row_of_first : (rows : List (List ℕ)) (group : List ℕ) (x y : ℕ) → HasRowOf rows group y → Member (group ++ x ∷ []) y → HasRowOf rows (group ++ x ∷ []) y
row_of_first rows [] x _ h first = refl
row_of_first rows [] x y h (later m) = elim m [ ]
row_of_first rows (z ∷ group) x y h m = h

pub alike_more : (rows : List (List ℕ)) (group : List ℕ) (x : ℕ) → HasRowOf rows group x → IsAlike rows group → IsAlike rows (group ++ x ∷ [])
alike_more rows group x h a y m = row_of_first rows group x y (elim (member_append group (x ∷ []) y m) [ inl k ↦ a y k | inr k ↦ only y k ]) m
  where
    only : (y : ℕ) → Member (x ∷ []) y → HasRowOf rows group y
    only _ first = h
    only y (later k) = elim k [ ]

pub begun_more : (rows : List (List ℕ)) (before : List ℕ) (groups : List (List ℕ)) (group : List ℕ) (x : ℕ) → HasRowOf rows group x → IsBegun rows before groups group → IsBegun rows (before ++ x ∷ []) groups (group ++ x ∷ [])
begun_more rows before groups group x h b = record {
  whole = sym (append_assoc (together groups) group (x ∷ [])) ∙ ap (λ l. l ++ x ∷ []) b.whole;
  alike = b.alike;
  last = alike_more rows group x h b.last;
}

-- the group is put to the others
pub begun_next : (rows : List (List ℕ)) (before : List ℕ) (groups : List (List ℕ)) (group : List ℕ) → IsBegun rows before groups group → IsBegun rows before (groups ++ group ∷ []) []
begun_next rows before groups group b = record {
  whole = append_none (together (groups ++ group ∷ [])) ∙ (together_last groups group ∙ b.whole);
  alike = (λ g m. elim (member_append groups (group ∷ []) g m) [ inl k ↦ b.alike g k | inr k ↦ only g k ]);
  last = (λ x m. elim m [ ]);
}
  where
    only : (g : List ℕ) → Member (group ∷ []) g → IsAlike rows g
    only _ first = b.last
    only g (later k) = elim k [ ]

pub begun_runs : (rows : List (List ℕ)) (positions : List ℕ) (groups : List (List ℕ)) → IsBegun rows positions groups [] → AreRuns rows positions groups
begun_runs rows positions groups b = record { whole = sym (append_none (together groups)) ∙ b.whole; alike = b.alike }

pub alike_rows : (rows : List (List ℕ)) (group : List ℕ) (x y : ℕ) → IsAlike rows group → Member group x → Member group y → row_at rows x ≡ row_at rows y
alike_rows rows (z ∷ group) x y a m n = a x m ∙ sym (a y n)
alike_rows rows [] x y a m n = elim m [ ]

-- what the tests of a group's first position tell
pub first_member : (group : List ℕ) (y : ℕ) → Some y ≡ slice_get group 0 → Member group y
first_member [] y e = absurd cc
first_member (z ∷ group) y e = subst (λ w. Member (z ∷ group) w) (let f : z ≡ y = cc in f) first

pub no_first : (group : List ℕ) (x : ℕ) → None ≡ slice_get group 0 → Member group x → ⊥
no_first [] x e m = elim m [ ]
no_first (z ∷ group) x e m = cc

pub first_row : (rows : List (List ℕ)) (group : List ℕ) (x y : ℕ) → Some y ≡ slice_get group 0 → row_at rows x ≡ row_at rows y → HasRowOf rows group x
first_row rows [] x y e h = tt
first_row rows (z ∷ group) x y e h = h ∙ ap (λ w. row_at rows w) (let f : y ≡ z = cc in f)

-- the steps of making groups
pub begun_start : (rows : List (List ℕ)) (groups : List (List ℕ)) (group : List ℕ) → groups ≡ [] → group ≡ [] → IsBegun rows [] groups group
begun_start rows groups group e d = subst (λ (l : List (List ℕ)). IsBegun rows [] l group) (sym e) (subst (λ (l : List ℕ). IsBegun rows [] [] l) (sym d) (begun_none rows))

pub begun_member : (rows : List (List ℕ)) (before : List ℕ) (groups : List (List ℕ)) (group : List ℕ) (y : ℕ) → IsBegun rows before groups group → Member group y → Member before y
begun_member rows before groups group y b m = subst (λ (l : List ℕ). Member l y) b.whole (member_append_right (together groups) group y m)

module _ (rows : List (List ℕ)) (positions : List ℕ) (n : ℕ) (groups groups' : List (List ℕ)) (group group' new : List ℕ) (l : n < length positions) (b : IsBegun rows (take n positions) groups group) (e : new ≡ group' ++ get_or positions n 0 ∷ []) where
  one_on : take n positions ++ get_or positions n 0 ∷ [] ≡ take (n + 1) positions
  one_on = sym (rw add-one (take-suc positions n 0 l))

  pub begun_apart : groups' ≡ groups ++ group ∷ [] → group' ≡ [] → IsBegun rows (take (n + 1) positions) groups' new
  begun_apart g h =
      subst (λ (k : List ℕ). IsBegun rows k groups' new) one_on
      (subst (λ (k : List (List ℕ)). IsBegun rows (take n positions ++ get_or positions n 0 ∷ []) k new) (sym g)
      (subst (λ (k : List ℕ). IsBegun rows (take n positions ++ get_or positions n 0 ∷ []) (groups ++ group ∷ []) k) (sym (e ∙ ap (λ (k : List ℕ). k ++ get_or positions n 0 ∷ []) h))
      (begun_more rows (take n positions) (groups ++ group ∷ []) [] (get_or positions n 0) tt (begun_next rows (take n positions) groups group b))))

  pub begun_same : groups' ≡ groups → group' ≡ group → HasRowOf rows group (get_or positions n 0) → IsBegun rows (take (n + 1) positions) groups' new
  begun_same g h r =
      subst (λ (k : List ℕ). IsBegun rows k groups' new) one_on
      (subst (λ (k : List (List ℕ)). IsBegun rows (take n positions ++ get_or positions n 0 ∷ []) k new) (sym g)
      (subst (λ (k : List ℕ). IsBegun rows (take n positions ++ get_or positions n 0 ∷ []) groups k) (sym (e ∙ ap (λ (k : List ℕ). k ++ get_or positions n 0 ∷ []) h))
      (begun_more rows (take n positions) groups group (get_or positions n 0) r b)))

pub begun_whole : (rows : List (List ℕ)) (positions : List ℕ) (n : ℕ) (groups groups' : List (List ℕ)) (group : List ℕ) → length positions ≤ n → IsBegun rows (take n positions) groups group → groups' ≡ groups ++ group ∷ [] → AreRuns rows positions groups'
begun_whole rows positions n groups groups' group l b e =
    subst (λ (k : List (List ℕ)). AreRuns rows positions k) (sym e)
    (begun_runs rows positions (groups ++ group ∷ []) (subst (λ (k : List ℕ). IsBegun rows k (groups ++ group ∷ []) []) (take_whole positions n l) (begun_next rows (take n positions) groups group b)))

-- what is done of the groups
module _ (rows : List (List ℕ)) (family : List ℕ) (groups : List (List ℕ)) (g : AreGroups rows family groups) where
  pub done_in_family : (n x : ℕ) → Member (together (take n groups)) x → Member family x
  done_in_family n x m = (g.same x).0 (subst (λ (l : List ℕ). Member l x) (sym (together_front groups n)) (member_append_left (together (drop n groups)) x m))

  pub group_in_family : (group : List ℕ) → Member groups group → (x : ℕ) → Member group x → Member family x
  group_in_family group m x n = (g.same x).0 (in_together groups group x m n)

  pub done_differ : (n : ℕ) (group : List ℕ) → n < length groups → group ≡ get_or groups n group → Differ (together (take n groups) ++ group)
  done_differ n group l e =
      subst (λ (k : List ℕ). Differ k) (together_more groups n group l e)
      (differ_front (together (take (n + 1) groups)) (together (drop (n + 1) groups)) (subst (λ (k : List ℕ). Differ k) (together_front groups (n + 1)) g.differ))

  pub done_all : (n : ℕ) → length groups ≤ n → (x : ℕ) → Member family x → Member (together (take n groups)) x
  done_all n l x m = subst (λ (k : List (List ℕ)). Member (together k) x) (sym (take_whole groups n l)) ((g.same x).1 m)

-- the item that is read at a place
pub item_member : {A : Type 0} (xs : List A) (n : ℕ) (x : A) → n < length xs → x ≡ get_or xs n x → Member xs x
item_member xs n x l e = subst (λ y. Member xs y) (sym e) (get_member xs n x l)
