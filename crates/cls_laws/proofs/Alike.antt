-- Lines that say statements by some numbers of constructors say some by any others, and those of a certificate say one.
use Rattle.std.proofs.Common.{◌≡◌, ◌≤◌, ℕ, List, [], ◌∷◌, ◌++◌, map, refl, ap, sym, ◌∙◌, subst}
use Rattle.std.specs.List.{flat_map}
use Rattle.cls_base.specs.Limits.{max_type_spread}
use Rattle.cls_base.specs.Types.{ClosedType}
use Rattle.cls_proof.specs.Certificates as certificate
use Rattle.cls_proof.specs.Certificates.{ProofRow, Block, Member, Certificate}
use Rattle.cls_proof.specs.Forms.{Written}
use Rattle.cls_proof.specs.Forms as written
use Rattle.cls_proof.specs.Reading.{IsGoal, Means, Says, no_statement, one_statement, LinesSay}
use Rattle.cls_proof.specs.Statements.{Statement, inhabited, row, empty, member, block, layer, set, qed, layer_statements, block_statements, member_statements, statements_of}
use Rattle.cls_proof.proofs.GoalTexts.{one_spread}
use Rattle.cls_syntax.specs.TypeTexts.{TypeText}
use Rattle.cls_laws.proofs.Spelling.{spelled_again}

-- the second statement is the first one, but for the type in it
abbrev IsAlike : Statement → Statement → Type 0
IsAlike inhabited s = s ≡ inhabited
IsAlike (row r) s = (other : ProofRow) × (s ≡ row other)
IsAlike empty s = s ≡ empty
IsAlike (member t) s = (other : ClosedType) × (s ≡ member other)
IsAlike (block x n) s = s ≡ block x n
IsAlike layer s = s ≡ layer
IsAlike (set positions) s = s ≡ set positions
IsAlike qed s = s ≡ qed

abbrev pub AreAlike : List Statement → List Statement → Type 0
AreAlike [] ys = ys ≡ []
AreAlike (x ∷ xs) [] = ⊥
AreAlike (x ∷ xs) (y ∷ ys) = IsAlike x y × AreAlike xs ys

both_alike : (xs ys us vs : List Statement) → AreAlike xs us → AreAlike ys vs → AreAlike (xs ++ ys) (us ++ vs)
both_alike [] ys us vs h k = subst (λ (zs : List Statement). AreAlike ys (zs ++ vs)) (sym h) k
both_alike (x ∷ xs) ys [] vs h k = absurd h
both_alike (x ∷ xs) ys (u ∷ us) vs h k = (h.0, both_alike xs ys us vs h.1 k)

-- WHAT A LINE SAYS BY OTHER NUMBERS
module _ (old new : List ℕ → ℕ) (components : List (List ℕ)) where
  goal_again : (text : TypeText) (t : ClosedType) → IsGoal old text t → (s : ClosedType) × IsGoal new text s
  goal_again text t h =
      let s = spelled_again old new text t h.spells in
      (s.0, record { spells = s.1; few = h.few; narrow = subst (λ n. n ≤ max_type_spread) (one_spread old new text t s.0 h.spells s.1) h.narrow })

  abbrev Again : Written → Statement → Type 0
  Again w s = (t : Statement) × Means new components w t × IsAlike s t

  means_again : (w : Written) (s : Statement) → Means old components w s → Again w s
  means_again written.inhabited s h = (inhabited, refl, subst (λ (x : Statement). IsAlike x inhabited) (sym h) refl)
  means_again (written.row t x d ds) s (r, e, is) =
      let g = goal_again t r.goal is.goal_is in
      let q : ProofRow = record { goal = g.0; component = r.component; n = r.n; cover = r.cover } in
      (row q, (q, refl, record { goal_is = g.1; component_is = is.component_is; n_is = is.n_is; cover_is = is.cover_is }), subst (λ (y : Statement). IsAlike y (row q)) (sym e) (q, refl))
  means_again written.empty s h = (empty, refl, subst (λ (x : Statement). IsAlike x empty) (sym h) refl)
  means_again (written.member t) s (goal, e, is) =
      let g = goal_again t goal is in
      (member g.0, (g.0, refl, g.1), subst (λ (x : Statement). IsAlike x (member g.0)) (sym e) (g.0, refl))
  means_again (written.block x d) s (component, n, e, is, number) =
      (block component n, (component, n, refl, is, number), subst (λ (y : Statement). IsAlike y (block component n)) (sym e) refl)
  means_again written.layer s h = (layer, refl, subst (λ (x : Statement). IsAlike x layer) (sym h) refl)
  means_again (written.set ds) s (positions, e, are) = (set positions, (positions, refl, are), subst (λ (x : Statement). IsAlike x (set positions)) (sym e) refl)
  means_again written.qed s h = (qed, refl, subst (λ (x : Statement). IsAlike x qed) (sym h) refl)

  line_again : (line : List ℕ) (names : List (List ℕ)) (ss : List Statement) → Says old components line names ss → (ts : List Statement) × Says new components line names ts × AreAlike ss ts
  line_again line names ss (no_statement h a e) = ([], no_statement h a refl, subst (λ (xs : List Statement). AreAlike xs []) (sym e) refl)
  line_again line names ss (one_statement s h e) =
      let m = means_again h.written s h.means in (
        m.0 ∷ [],
        one_statement m.0 (record { text = h.text; unskipped = h.unskipped; flat = h.flat; closed = h.closed; written = h.written; says = h.says; means = m.1; named = h.named }) refl,
        subst (λ (xs : List Statement). AreAlike xs (m.0 ∷ [])) (sym e) (m.2, refl),
      )

  pub lines_again : (lines names : List (List ℕ)) (ss : List Statement) → LinesSay old components lines names ss → (ts : List Statement) × LinesSay new components lines names ts × AreAlike ss ts
  lines_again [] names ss h = ([], (h.0, refl), subst (λ (xs : List Statement). AreAlike xs []) (sym h.1) refl)
  lines_again (line ∷ lines) names ss (n1, n2, s1, s2, first, rest, en, es) =
      let f = line_again line n1 s1 first in
      let r = lines_again lines n2 s2 rest in (
        f.0 ++ r.0,
        (n1, n2, f.0, r.0, f.1, r.1, en, refl),
        subst (λ (xs : List Statement). AreAlike xs (f.0 ++ r.0)) (sym es) (both_alike s1 s2 f.0 r.0 f.2 r.2),
      )

-- WHAT IS ALIKE TO THE STATEMENTS OF A CERTIFICATE
record Parts (xs ys zs : List Statement) : Type 0 where
  front : List Statement
  rest : List Statement
  joined : zs ≡ front ++ rest
  alike : AreAlike xs front
  rest_alike : AreAlike ys rest

parts : (xs ys zs : List Statement) → AreAlike (xs ++ ys) zs → Parts xs ys zs
parts [] ys zs h = record { front = []; rest = zs; joined = refl; alike = refl; rest_alike = h }
parts (x ∷ xs) ys [] h = absurd h
parts (x ∷ xs) ys (z ∷ zs) h =
    let p = parts xs ys zs h.1 in
    record { front = z ∷ p.front; rest = p.rest; joined = ap (λ (us : List Statement). z ∷ us) p.joined; alike = (h.0, p.alike); rest_alike = p.rest_alike }

-- no type is in the statement
abbrev IsPlain : Statement → Type 0
IsPlain (row r) = ⊥
IsPlain (member t) = ⊥
IsPlain _ = Unit {0}

abbrev ArePlain : List Statement → Type 0
ArePlain [] = Unit {0}
ArePlain (s ∷ ss) = IsPlain s × ArePlain ss

both_plain : (xs ys : List Statement) → ArePlain xs → ArePlain ys → ArePlain (xs ++ ys)
both_plain [] ys h k = k
both_plain (x ∷ xs) ys h k = (h.0, both_plain xs ys h.1 k)

plain_same : (s t : Statement) → IsPlain s → IsAlike s t → t ≡ s
plain_same inhabited t h k = k
plain_same (row r) t h k = absurd h
plain_same empty t h k = k
plain_same (member g) t h k = absurd h
plain_same (block x n) t h k = k
plain_same layer t h k = k
plain_same (set positions) t h k = k
plain_same qed t h k = k

all_same : (xs ys : List Statement) → ArePlain xs → AreAlike xs ys → ys ≡ xs
all_same [] ys h k = k
all_same (x ∷ xs) [] h k = absurd k
all_same (x ∷ xs) (y ∷ ys) h k = λ i. plain_same x y h.0 k.0 i ∷ all_same xs ys h.1 k.1 i

sets_plain : (sets : List (List ℕ)) → ArePlain (map (λ s. set s) sets)
sets_plain [] = tt
sets_plain (s ∷ sets) = (tt, sets_plain sets)

layers_plain : (layers : List (List (List ℕ))) → ArePlain (flat_map layer_statements layers)
layers_plain [] = tt
layers_plain (sets ∷ layers) = (tt, both_plain (map (λ s. set s) sets) (flat_map layer_statements layers) (sets_plain sets) (layers_plain layers))

blocks_plain : (blocks : List Block) → ArePlain (flat_map block_statements blocks)
blocks_plain [] = tt
blocks_plain (b ∷ blocks) = (tt, both_plain (flat_map layer_statements b.layers) (flat_map block_statements blocks) (layers_plain b.layers) (blocks_plain blocks))

rows_again : (rows : List ProofRow) (ys : List Statement) → AreAlike (map (λ r. row r) rows) ys → (others : List ProofRow) × (ys ≡ map (λ r. row r) others)
rows_again [] ys h = ([], h)
rows_again (r ∷ rows) [] h = absurd h
rows_again (r ∷ rows) (y ∷ ys) h = let u = rows_again rows ys h.1 in (h.0.0 ∷ u.0, λ i. h.0.1 i ∷ u.1 i)

members_again : (members : List Member) (ys : List Statement) → AreAlike (flat_map member_statements members) ys → (others : List Member) × (ys ≡ flat_map member_statements others)
members_again [] ys h = ([], h)
members_again (m ∷ members) [] h = absurd h
members_again (m ∷ members) (y ∷ ys) h =
    let p = parts (flat_map block_statements m.blocks) (flat_map member_statements members) ys h.1 in
    let u = members_again members p.rest p.rest_alike in
    let same = all_same (flat_map block_statements m.blocks) p.front (blocks_plain m.blocks) p.alike in
    (record { goal = h.0.0; blocks = m.blocks } ∷ u.0, (λ i. h.0.1 i ∷ p.joined i) ∙ ap (λ (zs : List Statement). member h.0.0 ∷ zs) (λ i. same i ++ u.1 i))

last_again : (ys : List Statement) → AreAlike (qed ∷ []) ys → ys ≡ qed ∷ []
last_again [] h = absurd h
last_again (y ∷ ys) h = λ i. h.0 i ∷ h.1 i

pub certificate_again : (c : Certificate) (ys : List Statement) → AreAlike (statements_of c) ys → (d : Certificate) × (statements_of d ≡ ys)
certificate_again (certificate.inhabited rows) [] h = absurd h
certificate_again (certificate.inhabited rows) (y ∷ ys) h =
    let p = parts (map (λ r. row r) rows) (qed ∷ []) ys h.1 in
    let u = rows_again rows p.front p.alike in
    let end = last_again p.rest p.rest_alike in
    (certificate.inhabited u.0, sym ((λ i. h.0 i ∷ p.joined i) ∙ ap (λ (zs : List Statement). inhabited ∷ zs) (λ i. u.1 i ++ end i)))
certificate_again (certificate.empty members) [] h = absurd h
certificate_again (certificate.empty members) (y ∷ ys) h =
    let p = parts (flat_map member_statements members) (qed ∷ []) ys h.1 in
    let u = members_again members p.front p.alike in
    let end = last_again p.rest p.rest_alike in
    (certificate.empty u.0, sym ((λ i. h.0 i ∷ p.joined i) ∙ ap (λ (zs : List Statement). empty ∷ zs) (λ i. u.1 i ++ end i)))
