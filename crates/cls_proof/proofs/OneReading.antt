-- Lines say one thing alone.
use Rattle.std.proofs.Common.{◌≡◌, ℕ, ◌<◌, Bool, true, false, List, [], ◌∷◌, ◌++◌, Option, Some, None, length, map, slice_get, refl, ap, sym, ◌∙◌, subst, arith, append_assoc, append-nil}
use Rattle.std.specs.List.{flat_map, list_any, IsDistinct}
use Rattle.std.specs.Str.{bytes_eq}
use Rattle.std.proofs.lemmas.Bool.{or_parts, true≢false}
use Rattle.std.proofs.lemmas.Option.{slice_get_within, get_or_from_slice_get}
use Rattle.cls_base.specs.Types.{ClosedType}
use Rattle.cls_lexer.specs.Names.{number_of, with_texts}
use Rattle.cls_lexer.specs.Words.{words_of}
use Rattle.cls_syntax.specs.TypeTexts.{TypeText}
use Rattle.cls_syntax.proofs.ClosedAgain.{spelled-once}
use Rattle.cls_syntax.proofs.ReadBack.{number_back}
use Rattle.cls_proof.specs.Certificates as certificate
use Rattle.cls_proof.specs.Certificates.{ProofRow, Block, Member, Certificate}
use Rattle.cls_proof.specs.Forms.{Written, constructors_of}
use Rattle.cls_proof.specs.Forms as written
use Rattle.cls_proof.specs.Statements.{Statement, inhabited, row, empty, member, block, layer, set, qed, layer_statements, block_statements, member_statements, statements_of, is_qed}
use Rattle.cls_proof.specs.Reading.{AreNumbers, IsRow, Means, SaysStatement, Says, no_statement, one_statement, LinesSay, SaysCertificate, BeginCertificate, IsFirstBad, LacksQed}
use Rattle.cls_proof.specs.ReadOnce.{SayOneCertificate, HaveOneFirstBad, AreExclusive}
use Rattle.cls_proof.specs.Drafts.{Place, at_start, in_rows, in_members, in_member, in_block, in_layer, at_end, after}
use Rattle.cls_proof.proofs.Allowed.{run_from, certificate_run}
use Rattle.cls_proof.proofs.SaidLines.{written_one, lines_alike}

-- what the first lines say
record SayFront (number : List ℕ → ℕ) (components front : List (List ℕ)) (ss : List Statement) : Type 0 where
  names : List (List ℕ)
  first : List Statement
  rest : List Statement
  says : LinesSay number components front names first
  joined : ss ≡ first ++ rest

say_front : (number : List ℕ → ℕ) (components front back names : List (List ℕ)) (ss : List Statement) → LinesSay number components (front ++ back) names ss → SayFront number components front ss
say_front number components [] back names ss h = record { names = []; first = []; rest = ss; says = (refl, refl); joined = refl }
say_front number components (l ∷ front) back names ss (n1, n2, s1, s2, first, rest, en, es) =
    let r = say_front number components front back n2 s2 rest in
    record {
      names = n1 ++ r.names;
      first = s1 ++ r.first;
      rest = r.rest;
      says = (n1, r.names, s1, r.first, first, r.says, refl, refl);
      joined = es ∙ (ap (λ (ts : List Statement). s1 ++ ts) r.joined ∙ sym (append_assoc s1 r.first r.rest));
    }

-- the first of lines that begin a certificate begin it
begin_front : (components front back : List (List ℕ)) → BeginCertificate components (front ++ back) → BeginCertificate components front
begin_front components front back b =
    let r = say_front b.number components front back b.names b.statements b.says in
    record {
      number = b.number;
      names = r.names;
      statements = r.first;
      says = r.says;
      certificate = b.certificate;
      more = r.rest ++ b.more;
      begins = b.begins ∙ (ap (λ (ts : List Statement). ts ++ b.more) r.joined ∙ append_assoc r.first r.rest b.more);
    }

-- lines with a bad one begin none
bad_whole : (components lines : List (List ℕ)) (n : ℕ) → IsFirstBad components lines n → BeginCertificate components lines → ⊥
bad_whole components lines n b g =
    b.bad (begin_front components (b.before ++ b.line ∷ []) b.after (subst (λ (ls : List (List ℕ)). BeginCertificate components ls) (b.split ∙ sym (append_assoc b.before (b.line ∷ []) b.after)) g))

says_begin : (old new components lines : List (List ℕ)) (c : Certificate) → SaysCertificate old new components lines c → BeginCertificate components lines
says_begin old new components lines c s = record {
  number = number_of new;
  names = s.names;
  statements = statements_of c;
  says = s.says;
  certificate = c;
  more = [];
  begins = sym (append-nil (statements_of c));
}

-- of two cuts of a list, the longer front has the shorter one and the item behind it
heads : (x y : List ℕ) (xs ys : List (List ℕ)) → x ∷ xs ≡ y ∷ ys → (x ≡ y) × (xs ≡ ys)
heads x y xs ys h = (cc, cc)

longer_front : (xs ys after after' : List (List ℕ)) (x y : List ℕ) → xs ++ x ∷ after ≡ ys ++ y ∷ after' → length xs < length ys → (more : List (List ℕ)) × (ys ≡ (xs ++ x ∷ []) ++ more)
longer_front xs [] after after' x y e l = absurd (omega (arith, l))
longer_front [] (z ∷ ys) after after' x y e l = let p = heads x z after (ys ++ y ∷ after') e in (ys, ap (λ (w : List ℕ). w ∷ ys) (sym p.0))
longer_front (w ∷ xs) (z ∷ ys) after after' x y e l =
    let p = heads w z (xs ++ x ∷ after) (ys ++ y ∷ after') e in
    let r = longer_front xs ys after after' x y p.1 (omega (arith, l)) in
    (r.0, λ i. sym p.0 i ∷ r.1 i)

no_later : (components lines : List (List ℕ)) (n n' : ℕ) (b : IsFirstBad components lines n) (b' : IsFirstBad components lines n') → length b.before < length b'.before → ⊥
no_later components lines n n' b b' l =
    let r = longer_front b.before b'.before b.after b'.after b.line b'.line (sym b.split ∙ b'.split) l in
    b.bad (begin_front components (b.before ++ b.line ∷ []) r.0 (subst (λ (ls : List (List ℕ)). BeginCertificate components ls) r.1 b'.good))

pub one_first_bad : HaveOneFirstBad
one_first_bad components lines n n' b b' =
    let h = no_later components lines n n' b b' in
    let k = no_later components lines n' n b' b in
    let e = b.number in
    let f = b'.number in
    omega (arith, h, k, e, f)

-- `qed` alone leads to the end
abbrev is_end : Place → Bool
is_end at_end = true
is_end _ = false

abbrev IsBeforeEnd : Option Place → Type 0
IsBeforeEnd None = Unit {0}
IsBeforeEnd (Some p) = is_end p ≡ false

not_end : (s : Statement) (p : Place) → is_qed s ≡ false → IsBeforeEnd (after s p)
not_end inhabited at_start h = refl
not_end inhabited _ h = tt
not_end (row r) in_rows h = refl
not_end (row r) _ h = tt
not_end empty at_start h = refl
not_end empty _ h = tt
not_end (member g) in_members h = refl
not_end (member g) in_member h = refl
not_end (member g) in_block h = refl
not_end (member g) in_layer h = refl
not_end (member g) _ h = tt
not_end (block c n) in_member h = refl
not_end (block c n) in_block h = refl
not_end (block c n) in_layer h = refl
not_end (block c n) _ h = tt
not_end layer in_block h = refl
not_end layer in_layer h = refl
not_end layer _ h = tt
not_end (set s) in_layer h = refl
not_end (set s) _ h = tt
not_end qed p h = absurd (true≢false h)

abbrev end_of : Option Place → Bool
end_of None = false
end_of (Some p) = is_end p

never_end : (o : Option Place) (ss : List Statement) → IsBeforeEnd o → list_any is_qed ss ≡ false → end_of (run_from o ss) ≡ false
never_end None [] b h = refl
never_end None (s ∷ ss) b h = refl
never_end (Some p) [] b h = b
never_end (Some p) (s ∷ ss) b h =
    let q = or_parts (is_qed s) (list_any is_qed ss) h in
    never_end (after s p) ss (not_end s p q.0) q.1

said_lacking : (old new components lines : List (List ℕ)) (c : Certificate) → SaysCertificate old new components lines c → LacksQed components lines → ⊥
said_lacking old new components lines c s l =
    let start : Option Place = Some at_start in
    let same = lines_alike l.good.number (number_of new) components lines l.good.names s.names l.good.statements (statements_of c) l.good.says s.says start in
    let ended : run_from start l.good.statements ≡ Some at_end = same ∙ certificate_run c in
    true≢false (sym (ap end_of ended) ∙ never_end start l.good.statements refl l.no_qed)

pub exclusive : AreExclusive
exclusive = record {
  said_or_bad = λ old new components lines c n s b. bad_whole components lines n b (says_begin old new components lines c s);
  said_or_lacking = said_lacking;
  bad_or_lacking = λ components lines n b l. bad_whole components lines n b l.good;
}

numbers_one : (ds : List (List ℕ)) (ns ms : List ℕ) → AreNumbers ds ns → AreNumbers ds ms → ns ≡ ms
numbers_one [] ns ms h k = h ∙ sym k
numbers_one (d ∷ ds) ns ms (n, ns', a, h, e) (m, ms', b, k, f) = e ∙ ((λ i. (sym a.0 ∙ b.0) i ∷ numbers_one ds ns' ms' h k i) ∙ sym f)

module _ (number : List ℕ → ℕ) (components : List (List ℕ)) (distinct : IsDistinct bytes_eq components) where
  component_one : (x : List ℕ) (k k' : ℕ) → slice_get components k ≡ Some x → slice_get components k' ≡ Some x → k ≡ k'
  component_one x k k' h h' =
      let a = number_back components k distinct (slice_get_within components k x h) in
      let b = number_back components k' distinct (slice_get_within components k' x h') in
      sym a ∙ (ap (number_of components) (get_or_from_slice_get components k x [] h ∙ sym (get_or_from_slice_get components k' x [] h')) ∙ b)

  row_one : (t : TypeText) (x d : List ℕ) (ds : List (List ℕ)) (r r' : ProofRow) → IsRow number components t x d ds r → IsRow number components t x d ds r' → r ≡ r'
  row_one t x d ds r r' h k = λ i. record {
    goal = spelled-once number t r.goal r'.goal h.goal_is.spells k.goal_is.spells i;
    component = component_one x r.component r'.component h.component_is k.component_is i;
    n = (sym h.n_is.0 ∙ k.n_is.0) i;
    cover = numbers_one ds r.cover r'.cover h.cover_is k.cover_is i;
  }

  means_one : (w : Written) (s s' : Statement) → Means number components w s → Means number components w s' → s ≡ s'
  means_one written.inhabited s s' h k = h ∙ sym k
  means_one (written.row t x d ds) s s' h k = h.1 ∙ (ap (λ (r : ProofRow). row r) (row_one t x d ds h.0 k.0 h.2 k.2) ∙ sym k.1)
  means_one written.empty s s' h k = h ∙ sym k
  means_one (written.member t) s s' h k = h.1 ∙ (ap (λ (g : ClosedType). member g) (spelled-once number t h.0 k.0 h.2.spells k.2.spells) ∙ sym k.1)
  means_one (written.block x d) s s' h k = h.2 ∙ ((λ i. block (component_one x h.0 k.0 h.3 k.3 i) ((sym h.4.0 ∙ k.4.0) i)) ∙ sym k.2)
  means_one written.layer s s' h k = h ∙ sym k
  means_one (written.set ds) s s' h k = h.1 ∙ (ap (λ (ns : List ℕ). set ns) (numbers_one ds h.0 k.0 h.2 k.2) ∙ sym k.1)
  means_one written.qed s s' h k = h ∙ sym k

  statement_one : (line : List ℕ) (names names' : List (List ℕ)) (s s' : Statement) → SaysStatement number components line names s → SaysStatement number components line names' s' → s ≡ s'
  statement_one line names names' s s' h k =
      let e = written_one (words_of line) h.written k.written h.says k.says in
      means_one k.written s s' (subst (λ (w : Written). Means number components w s) e h.means) k.means

  line_one : (line : List ℕ) (names names' : List (List ℕ)) (ss ss' : List Statement) → Says number components line names ss → Says number components line names' ss' → ss ≡ ss'
  line_one line names names' ss ss' (no_statement h a e) (no_statement k b f) = e ∙ sym f
  line_one line names names' ss ss' (no_statement h a e) (one_statement s k f) = absurd (k.unskipped h)
  line_one line names names' ss ss' (one_statement s h e) (no_statement k b f) = absurd (h.unskipped k)
  line_one line names names' ss ss' (one_statement s h e) (one_statement s' k f) = e ∙ (ap (λ (x : Statement). x ∷ []) (statement_one line names names' s s' h k) ∙ sym f)

  lines_one : (lines names names' : List (List ℕ)) (ss ss' : List Statement) → LinesSay number components lines names ss → LinesSay number components lines names' ss' → ss ≡ ss'
  lines_one [] names names' ss ss' h k = h.1 ∙ sym k.1
  lines_one (line ∷ lines) names names' ss ss' (n1, n2, s1, s2, a, h, en, es) (m1, m2, t1, t2, b, k, em, et) =
      es ∙ ((λ i. line_one line n1 m1 s1 t1 a b i ++ lines_one lines n2 m2 s2 t2 h k i) ∙ sym et)

-- the constructors that lines name, by whatever numbers
module _ (number number' : List ℕ → ℕ) (components : List (List ℕ)) where
  line_names : (line : List ℕ) (names names' : List (List ℕ)) (ss ss' : List Statement) → Says number components line names ss → Says number' components line names' ss' → names ≡ names'
  line_names line names names' ss ss' (no_statement h a e) (no_statement k b f) = a ∙ sym b
  line_names line names names' ss ss' (no_statement h a e) (one_statement s k f) = absurd (k.unskipped h)
  line_names line names names' ss ss' (one_statement s h e) (no_statement k b f) = absurd (h.unskipped k)
  line_names line names names' ss ss' (one_statement s h e) (one_statement s' k f) = h.named ∙ (ap constructors_of (written_one (words_of line) h.written k.written h.says k.says) ∙ sym k.named)

  lines_names : (lines names names' : List (List ℕ)) (ss ss' : List Statement) → LinesSay number components lines names ss → LinesSay number' components lines names' ss' → names ≡ names'
  lines_names [] names names' ss ss' h k = h.0 ∙ sym k.0
  lines_names (line ∷ lines) names names' ss ss' (n1, n2, s1, s2, a, h, en, es) (m1, m2, t1, t2, b, k, em, et) =
      en ∙ ((λ i. line_names line n1 m1 s1 t1 a b i ++ lines_names lines n2 m2 s2 t2 h k i) ∙ sym em)

-- What statements come to, the last one first: sets that wait for their layer, and so on.
record Waiting : Type 0 where
  rows : List ProofRow
  members : List Member
  blocks : List Block
  layers : List (List (List ℕ))
  sets : List (List ℕ)

abbrev put : Statement → Waiting → Waiting
put (row r) w = record { rows = r ∷ w.rows; members = w.members; blocks = w.blocks; layers = w.layers; sets = w.sets }
put (set s) w = record { rows = w.rows; members = w.members; blocks = w.blocks; layers = w.layers; sets = s ∷ w.sets }
put layer w = record { rows = w.rows; members = w.members; blocks = w.blocks; layers = w.sets ∷ w.layers; sets = [] }
put (block c n) w = record { rows = w.rows; members = w.members; blocks = record { component = c; n = n; layers = w.layers } ∷ w.blocks; layers = []; sets = [] }
put (member g) w = record { rows = w.rows; members = record { goal = g; blocks = w.blocks } ∷ w.members; blocks = []; layers = []; sets = [] }
put _ w = w

abbrev gathered : List Statement → Waiting
gathered [] = record { rows = []; members = []; blocks = []; layers = []; sets = [] }
gathered (s ∷ ss) = put s (gathered ss)

abbrev certificate_in : List Statement → Certificate
certificate_in [] = certificate.inhabited []
certificate_in (inhabited ∷ ss) = certificate.inhabited (gathered ss).rows
certificate_in (_ ∷ ss) = certificate.empty (gathered ss).members

rows_back : (rs : List ProofRow) → (gathered (map (λ r. row r) rs ++ qed ∷ [])).rows ≡ rs
rows_back [] = refl
rows_back (r ∷ rs) = ap (λ (xs : List ProofRow). r ∷ xs) (rows_back rs)

sets_back : (sets : List (List ℕ)) (rest : List Statement) (w : Waiting) → gathered rest ≡ w → w.sets ≡ [] → gathered (map (λ s. set s) sets ++ rest) ≡ record { rows = w.rows; members = w.members; blocks = w.blocks; layers = w.layers; sets = sets }
sets_back [] rest w e f = e ∙ (λ i. record { rows = w.rows; members = w.members; blocks = w.blocks; layers = w.layers; sets = f i })
sets_back (s ∷ sets) rest w e f = ap (put (set s)) (sets_back sets rest w e f)

layers_back : (ls : List (List (List ℕ))) (rest : List Statement) (w : Waiting) → gathered rest ≡ w → w.sets ≡ [] → w.layers ≡ [] → gathered (flat_map layer_statements ls ++ rest) ≡ record { rows = w.rows; members = w.members; blocks = w.blocks; layers = ls; sets = [] }
layers_back [] rest w e f g = e ∙ (λ i. record { rows = w.rows; members = w.members; blocks = w.blocks; layers = g i; sets = f i })
layers_back (l ∷ ls) rest w e f g =
    let tail = layers_back ls rest w e f g in
    ap gathered (append_assoc (layer_statements l) (flat_map layer_statements ls) rest)
    ∙ ap (put layer) (sets_back l (flat_map layer_statements ls ++ rest) record { rows = w.rows; members = w.members; blocks = w.blocks; layers = ls; sets = [] } tail refl)

blocks_back : (bs : List Block) (rest : List Statement) (w : Waiting) → gathered rest ≡ w → w.sets ≡ [] → w.layers ≡ [] → w.blocks ≡ [] → gathered (flat_map block_statements bs ++ rest) ≡ record { rows = w.rows; members = w.members; blocks = bs; layers = []; sets = [] }
blocks_back [] rest w e f g h = e ∙ (λ i. record { rows = w.rows; members = w.members; blocks = h i; layers = g i; sets = f i })
blocks_back (b ∷ bs) rest w e f g h =
    let tail = blocks_back bs rest w e f g h in
    ap gathered (append_assoc (block_statements b) (flat_map block_statements bs) rest)
    ∙ ap (put (block b.component b.n)) (layers_back b.layers (flat_map block_statements bs ++ rest) record { rows = w.rows; members = w.members; blocks = bs; layers = []; sets = [] } tail refl refl)

members_back : (ms : List Member) → gathered (flat_map member_statements ms ++ qed ∷ []) ≡ record { rows = []; members = ms; blocks = []; layers = []; sets = [] }
members_back [] = refl
members_back (m ∷ ms) =
    ap gathered (append_assoc (member_statements m) (flat_map member_statements ms) (qed ∷ []))
    ∙ ap (put (member m.goal)) (blocks_back m.blocks (flat_map member_statements ms ++ qed ∷ []) record { rows = []; members = ms; blocks = []; layers = []; sets = [] } (members_back ms) refl refl refl)

certificate_back : (c : Certificate) → certificate_in (statements_of c) ≡ c
certificate_back (certificate.inhabited rows) = ap (λ (rs : List ProofRow). certificate.inhabited rs) (rows_back rows)
certificate_back (certificate.empty members) = ap (λ (w : Waiting). certificate.empty w.members) (members_back members)

pub one_certificate : SayOneCertificate
one_certificate old new new' components lines c c' distinct s s' =
    let names = lines_names (number_of new) (number_of new') components lines s.names s'.names (statements_of c) (statements_of c') s.says s'.says in
    let table : new ≡ new' = s.numbered ∙ (ap (with_texts old) names ∙ sym s'.numbered) in
    let says : LinesSay (number_of new') components lines s.names (statements_of c) = subst (λ (t : List (List ℕ)). LinesSay (number_of t) components lines s.names (statements_of c)) table s.says in
    let same = lines_one (number_of new') components distinct lines s.names s'.names (statements_of c) (statements_of c') says s'.says in
    (sym (certificate_back c) ∙ (ap certificate_in same ∙ certificate_back c'), table)
