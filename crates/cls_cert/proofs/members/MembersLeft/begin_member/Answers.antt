use Rattle.std.proofs.Common.{ℕ, ◌≡◌, ◌∙◌, ◌+◌, ◌++◌, ◌∷◌, [], List, drop, get_or, ap, refl, sym, subst, string_bytes}
use Rattle.std.specs.Prelude.{Bool, IfSome, Option, None, codes, is_some}
use Rattle.cls_base.specs.Types.{ClosedType}
use Rattle.cls_path.specs.Paths.{type_of_paths}
use Rattle.cls_library.specs.declared.place.Place.{Place}
use Rattle.cls_proof.specs.Texts.{line, member_line}
use Rattle.cls_cert.specs.Computed.{members_from, start_place}
use Rattle.cls_cert.specs.Conditions.{forms_of}
use Rattle.cls_cert.specs.Left.{block_left, blocks_left, blocks_text, members_text}
use Rattle.cls_cert.specs.Making.{goal_in}
use Rattle.cls_cert.proofs.MadeMembers.{members_left_next}
use Rattle.cls_cert.proofs.MemberWriting.{member_begun, unranked_text, ranked_text, parts_text}
use Rattle.cls_cert.proofs.Ruled.{told_form}
use Rattle.cls_cert.proofs.members.MembersLeft.begin_member.Goals as goal

-- whether the goal with this number has a rank
abbrev is_some_at : List (Option ℕ) → ℕ → Bool
is_some_at xs i = is_some (get_or xs i None)

pub returns-then-is_some-clause-lines : goal.returns-then-is_some-clause-lines
returns-then-is_some-clause-lines c = λ l.
    let m = c.args.self.now in
    let names = c.args.named.now.names.now in
    let components = c.args.named.now.components.now in
    let rows = c.args.named.now.grammar.now in
    let goals = forms_of rows in
    let i = c.args.number in
    let t = string_bytes c.args.text.now in
    let here = members_from l (goal_in goals i ∷ []) (get_or m.ranks i None ∷ []) in
    let others = members_from l (drop (i + 1) goals) (drop (i + 1) m.ranks) in
    let all = members_from l (drop i goals) (drop i m.ranks) in
    let some = ap (λ (xs : List (Option ℕ)). is_some_at xs i) (sym c.as_slice.ensures) ∙ (sym c.is_some.ensures ∙ c.if-is_some.true) in
    let parts = parts_text names components l here others all (members_left_next l rows m.ranks c.requires.ranked i c.requires.more) in
    let same : members_text names components l goals m.ranks (i + 1) ≡ members_text names components l goals m.ranks m.next =
    sym (ap (λ (n : ℕ). members_text names components l goals m.ranks n) c.requires.next ∙ (parts ∙ ap (λ (v : List ℕ). v ++ members_text names components l goals m.ranks (i + 1)) (ranked_text names components l (goal_in goals i) (get_or m.ranks i None) some))) in
    ap (λ (v : List ℕ). t ++ (block_left m.block ++ (blocks_left components l (goal_in goals m.goal) m.from ++ (v ++ line (codes "qed"))))) same

pub returns-clause-lines : goal.returns-clause-lines
returns-clause-lines c = λ l.
    let m = c.args.self.now in
    let names = c.args.named.now.names.now in
    let components = c.args.named.now.components.now in
    let rows = c.args.named.now.grammar.now in
    let goals = forms_of rows in
    let i = c.args.number in
    let t = string_bytes c.args.text.now in
    let g = goal_in goals i in
    let here = members_from l (g ∷ []) (get_or m.ranks i None ∷ []) in
    let others = members_from l (drop (i + 1) goals) (drop (i + 1) m.ranks) in
    let all = members_from l (drop i goals) (drop i m.ranks) in
    let none = ap (λ (xs : List (Option ℕ)). is_some_at xs i) (sym c.as_slice.ensures) ∙ (sym c.is_some.ensures ∙ c.if-is_some.false) in
    let parts = parts_text names components l here others all (members_left_next l rows m.ranks c.requires.ranked i c.requires.more) in
    let first = member_line names (type_of_paths g) in
    let split : members_text names components l goals m.ranks m.next ≡ (first ++ blocks_text components l g start_place) ++ members_text names components l goals m.ranks (i + 1) =
    ap (λ (n : ℕ). members_text names components l goals m.ranks n) c.requires.next ∙ (parts ∙ ap (λ (v : List ℕ). v ++ members_text names components l goals m.ranks (i + 1)) (unranked_text names components l g (get_or m.ranks i None) none)) in
    let form = told_form rows i c.goal.result.now c.goal.ensures in
    let written : string_bytes c.write_member.new.text ≡ t ++ first =
    c.in_ok-write_member.ensures ∙ ap (λ (ty : ClosedType). t ++ member_line names ty) (c.in_ok-ty.ensures ∙ ap type_of_paths (sym form)) in
    member_begun t (string_bytes c.write_member.new.text) (block_left m.block) first (blocks_text components l g start_place) (members_text names components l goals m.ranks m.next) (members_text names components l goals m.ranks (i + 1)) (line (codes "qed")) c.requires.none.0 written split
    ∙ ap (λ (o : Option Place). t ++ (block_left m.block ++ (blocks_left components l (goal_in goals m.goal) o ++ (members_text names components l goals m.ranks m.next ++ line (codes "qed"))))) (sym c.requires.none.1)

pub returns-then-is_some-clause-from : goal.returns-then-is_some-clause-from
returns-then-is_some-clause-from c = subst (λ o. IfSome o (λ place. place ≡ start_place)) (sym c.requires.none.1) tt

pub goal-requires : goal.goal-requires
goal-requires c = c.requires.more

pub returns-clause-from : goal.returns-clause-from
returns-clause-from c = refl
