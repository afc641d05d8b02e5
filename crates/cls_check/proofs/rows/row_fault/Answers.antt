use Rattle.std.proofs.Common.{ℕ, ◌≡◌, length, refl, sym, subst, ap, ◌∙◌, inl, inr, List}
use Rattle.cls_path.specs.Paths.{Paths, listed, paths_of}
use Rattle.cls_library.specs.Arrows.{MultiArrow}
use Rattle.cls_library.specs.Libraries.{Library, arrows_at, variances_in}
use Rattle.cls_library.specs.Reaching.{CoversGoal}
use Rattle.cls_proof.specs.Certificates.{ProofRow}
use Rattle.cls_proof.specs.Rows.{row_seen}
use Rattle.cls_check.specs.Checking.{ArePositions, IsForm, PassesArrow, PassesTarget}
use Rattle.cls_check.proofs.Loops.{differs}
use Rattle.cls_check.proofs.RowLaws.{covers_up}
use Rattle.cls_check.proofs.rows.row_fault.Goals as goal

-- the positions as the code counts them
positions_seen : (arrows seen : List MultiArrow) → seen ≡ arrows → (count : ℕ) → count ≡ length seen → (s : List ℕ) → ArePositions count s → ArePositions (length arrows) s
positions_seen arrows seen e count f s h = subst (λ n. ArePositions n s) (f ∙ ap (λ (q : List MultiArrow). length q) e) h

covers_seen : (l : Library) (r : ProofRow) (n : Paths) → IsForm l r.goal n → CoversGoal l (arrows_at l r.component r.n) n r.cover → PassesTarget l r
covers_seen l r n f h = covers_up l (arrows_at l r.component r.n) n (paths_of (variances_in l.taxonomy) r.goal) r.cover f.lower h

covers_back : (l : Library) (r : ProofRow) (n : Paths) → IsForm l r.goal n → PassesTarget l r → CoversGoal l (arrows_at l r.component r.n) n r.cover
covers_back l r n f h = covers_up l (arrows_at l r.component r.n) (paths_of (variances_in l.taxonomy) r.goal) n r.cover f.upper h

pub returns-then-not-cover_goal-clause-tells : goal.returns-then-not-cover_goal-clause-tells
returns-then-not-cover_goal-clause-tells c =
    let l = c.args.lib.now in
    let r = row_seen c.args.row in
    let arrow : PassesArrow l r = (c.stands.ensures.0 c.if-not-stands.false, positions_seen (arrows_at l r.component r.n) c.arrows.result c.arrows.ensures.arrows c.len.result c.len.ensures r.cover (c.are_positions.ensures.0 c.if-not-are_positions.false)) in
    inr (
      (λ t h. h.0 arrow),
      inl ((λ p. differs (sym c.if-not-cover_goal.true ∙ c.cover_goal.ensures.1 (covers_back l r (listed c.args.goal.now) c.requires.form p))), refl),
    )

pub returns-then-not-branch-clause-tells : goal.returns-then-not-branch-clause-tells
returns-then-not-branch-clause-tells c =
    let l = c.args.lib.now in
    let r = row_seen c.args.row in
    let arrow : PassesArrow l r = (c.stands.ensures.0 c.if-not-stands.false, positions_seen (arrows_at l r.component r.n) c.arrows.result c.arrows.ensures.arrows c.len.result c.len.ensures r.cover (c.are_positions.ensures.0 c.if-not-are_positions.false)) in
    let target : PassesTarget l r = covers_seen l r (listed c.args.goal.now) c.requires.form (c.cover_goal.ensures.0 c.if-not-cover_goal.false) in
    inr (
      (λ t h. h.0 arrow),
      inr (
        (λ t h. h.0 target),
        inl (
          (λ p. differs (sym c.if-not-branch.true ∙ c.in_ok-is_known_to_meet.ensures.meets.1
              p)),
          refl,
        ),
      ),
    )

pub returns-clause-tells : goal.returns-clause-tells
returns-clause-tells c =
    let l = c.args.lib.now in
    let r = row_seen c.args.row in
    record {
      arrow = (c.stands.ensures.0 c.if-not-stands.false, positions_seen (arrows_at l r.component r.n) c.arrows.result c.arrows.ensures.arrows c.len.result c.len.ensures r.cover (c.are_positions.ensures.0 c.if-not-are_positions.false));
      target = covers_seen l r (listed c.args.goal.now) c.requires.form (c.cover_goal.ensures.0 c.if-not-cover_goal.false);
      argument = c.in_ok-is_known_to_meet.ensures.meets.0 c.if-not-branch.false;
    }
