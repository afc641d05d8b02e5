-- A term that is read from its code, argument by argument.
use Rattle.std.proofs.Common.{ℕ, zero, suc, ◌≡◌, ◌+◌, ◌-◌, ◌<◌, ◌≤◌, sym, ◌∙◌, subst, ap, ◌↔◌, Contains, List, [], ◌∷◌, ◌++◌, length, take, drop, get_or, arith, add-one, append_assoc, length-append}
use Rattle.std.specs.Prelude.{slice_index_or}
use Rattle.std.proofs.Math.Seq.{drop-cons}
use Rattle.cls_base.specs.Terms.{Applicative, component, code_of, IsTermOver}
use Rattle.cls_base.specs.Spines.{spine, codes_of}
use Rattle.cls_term.specs.Decodes.{ArePassed, BeginsWithTerms}
use Rattle.cls_term.proofs.Codes.{IsCodes-code_of, codes_cancel, code_of-one_to_one}
use Rattle.cls_term.proofs.Decodes.{first-of, second-of, tail-of}
use Rattle.cls_term.proofs.Spines.{code_of-spine, each_term_is_a_spine}
use Rattle.cls_path.specs.Paths.{Paths}
use Rattle.cls_library.specs.Arrows.{MultiArrow, arity_of}
use Rattle.cls_library.specs.Libraries.{Library, IsLibrary, paths_at, arrows_at}
use Rattle.cls_library.specs.Reaching.{PathsLeIn}
use Rattle.cls_library.proofs.ByCases.{At, at_first, at_later, at_member}
use Rattle.cls_library.proofs.LibraryTyping.{spine_over}
use Rattle.cls_check.specs.Deciding.{AllSuitIn, AreKept, AreSuited, BeginsWithTermIn, IsDecided, IsLeading, KnowsPaths, argument_of, source_of, sources_of, targets_of}
use Rattle.cls_check.proofs.Deciding.{all_known, are_suited, kept_end, kept_more, kept_none, kept_suit, none_known}

-- the numbers behind one term's code, where they begin with another's as well: the terms are the same
pub one_term : (e t : Applicative) (us vs : List ℕ) → code_of e ++ us ≡ code_of t ++ vs → (e ≡ t) × (us ≡ vs)
one_term e t us vs p =
    let d = codes_cancel 1 (code_of e) (code_of t) us vs (IsCodes-code_of e) (IsCodes-code_of t) p in
    (code_of-one_to_one e t d.0, d.1)

-- as many terms leave the same numbers behind
passed_same : (es fs : List Applicative) (us vs : List ℕ) → length es ≡ length fs → codes_of es ++ us ≡ codes_of fs ++ vs → us ≡ vs
passed_same [] [] us vs n p = p
passed_same [] (f ∷ fs) us vs n p = absurd (omega (arith, n))
passed_same (e ∷ es) [] us vs n p = absurd (omega (arith, n))
passed_same (e ∷ es) (f ∷ fs) us vs n p =
    passed_same es fs us vs (omega (arith, n))
    (one_term e f (codes_of es ++ us) (codes_of fs ++ vs) (sym (append_assoc (code_of e) (codes_of es) us) ∙ p ∙ append_assoc (code_of f) (codes_of fs) vs)).1

at_get : (es : List Applicative) (i : ℕ) (d : Applicative) → i < length es → At es i (get_or es i d)
at_get [] i d l = absurd (omega arith)
at_get (e ∷ es) zero d l = at_first
at_get (e ∷ es) (suc i) d l = at_later (at_get es i d (omega arith))

-- A term of the head with this number of arguments, with whose code the numbers begin: its arguments, and what stands
-- behind it.
pub record IsOpened (lib : Library) (code : List ℕ) (head count : ℕ) : Type 0 where
  pub args : List Applicative
  pub behind : List ℕ
  pub many : length args ≡ count
  pub begins : code ≡ code_of (spine (component head) args) ++ behind
  pub over : (i : ℕ) → i < length args → IsTermOver (length lib.components) (argument_of args i)

-- So many arguments were passed; the rest are the codes of the others. Of the arrows of the head those are kept.
pub record IsHalfway (lib : Library) (code : List ℕ) (head count : ℕ) (goals : List Paths) (place : ℕ) (rest : List ℕ) (kept : List MultiArrow) : Type 0 where
  pub whole : IsOpened lib code head count
  pub left : rest ≡ codes_of (drop place whole.args) ++ whole.behind
  pub chosen : AreKept lib (arrows_at lib head count) goals whole.args place kept

drop_long : (es : List Applicative) (place : ℕ) → length (drop place es) ≡ length es - place
drop_long [] zero = omega arith
drop_long [] (suc k) = omega arith
drop_long (e ∷ es) zero = omega arith
drop_long (e ∷ es) (suc k) = omega (arith, drop_long es k)

codes_short : (es : List Applicative) (place : ℕ) → length (codes_of (drop place es)) ≤ length (codes_of es)
codes_short [] zero = omega arith
codes_short [] (suc k) = omega arith
codes_short (e ∷ es) zero = omega arith
codes_short (e ∷ es) (suc k) = omega (arith, codes_short es k, length-append (code_of e) (codes_of es))

module _ (lib : Library) (code : List ℕ) (head count : ℕ) (goals : List Paths) (place : ℕ) (rest : List ℕ) (kept : List MultiArrow) (h : IsHalfway lib code head count goals place rest kept) where
  -- the codes of the other arguments begin what is left
  pub halfway_begins : BeginsWithTerms (count - place) rest
  halfway_begins =
      (drop place h.whole.args, h.whole.behind, omega (arith, drop_long h.whole.args place, h.whole.many), h.left)

  pub shorter : length rest < length code
  shorter =
      let es = h.whole.args in
      let whole = ap (λ (w : List ℕ). length w) (h.whole.begins ∙ ap (λ (w : List ℕ). w ++ h.whole.behind) (code_of-spine head es)) in
      let left = ap (λ (w : List ℕ). length w) h.left in
      omega (arith, whole, left, codes_short es place, length-append (codes_of (drop place es)) h.whole.behind, length-append (codes_of es) h.whole.behind)

module _ (lib : Library) (law : IsLibrary lib) where
  pub opened : (code : List ℕ) → BeginsWithTermIn lib code → (o : IsOpened lib code (slice_index_or code 0 0) (slice_index_or code 1 0)) × (slice_index_or code 0 0 < length lib.components) × (take (length code - 2) (drop 2 code) ≡ codes_of o.args ++ o.behind)
  opened code (e, over, behind, p) =
      let s = each_term_is_a_spine e in
      let x = s.0 in
      let es = s.1 in
      let n = length lib.components in
      let w = ap (λ (t : Applicative). code_of t ++ behind) (sym s.2) in
      let q : code ≡ x ∷ length es ∷ (codes_of es ++ behind) = p ∙ w ∙ ap (λ (ns : List ℕ). ns ++ behind) (code_of-spine x es) in
      let first = first-of code (codes_of es ++ behind) x (length es) q in
      let second = second-of code (codes_of es ++ behind) x (length es) q in
      let o = spine_over lib law n es (component x) (subst (λ (t : Applicative). IsTermOver n t) (sym s.2) over) in (
        record {
          args = es;
          behind = behind;
          many = sym second;
          begins = p ∙ w ∙ ap (λ (y : ℕ). code_of (spine (component y) es) ++ behind) (sym first);
          over = λ i l. o.1 (argument_of es i) (at_member (at_get es i (component 0) l));
        },
        subst (λ (y : ℕ). y < n) (sym first) o.0,
        tail-of code (codes_of es ++ behind) x (length es) q,
      )

  nothing_left : (es : List Applicative) (place : ℕ) (us vs : List ℕ) → length es ≤ place → us ≡ codes_of (drop place es) ++ vs → us ≡ vs
  nothing_left [] zero us vs l p = p
  nothing_left [] (suc k) us vs l p = p
  nothing_left (e ∷ es) zero us vs l p = absurd (omega arith)
  nothing_left (e ∷ es) (suc k) us vs l p = nothing_left es k us vs (omega arith) p

  next_code : (es : List Applicative) (place : ℕ) (us vs : List ℕ) → place < length es → us ≡ codes_of (drop place es) ++ vs → us ≡ code_of (argument_of es place) ++ (codes_of (drop (place + 1) es) ++ vs)
  next_code es place us vs l p =
      let c : drop place es ≡ argument_of es place ∷ drop (suc place) es = drop-cons es place (component 0) l in
      let d : drop place es ≡ argument_of es place ∷ drop (place + 1) es = rw add-one c in
      p ∙ ap (λ (fs : List Applicative). codes_of fs ++ vs) d ∙ append_assoc (code_of (argument_of es place)) (codes_of (drop (place + 1) es)) vs

  module _ (code : List ℕ) (head count : ℕ) (goals : List Paths) where
    pub halfway_first : (rest : List ℕ) (kept : List MultiArrow) → (o : IsOpened lib code head count) → rest ≡ codes_of o.args ++ o.behind
        → ((a : MultiArrow) → Contains kept a ↔ (Contains (arrows_at lib head count) a × IsLeading lib goals a.target)) → IsHalfway lib code head count goals 0 rest kept
    halfway_first rest kept o p f = record { whole = o; left = p; chosen = kept_none lib law (arrows_at lib head count) goals o.args kept f }

    -- the next argument is a term over the library's components, and shorter
    pub next_begins : (place : ℕ) (rest : List ℕ) (kept : List MultiArrow) → IsHalfway lib code head count goals place rest kept → place < count → BeginsWithTermIn lib rest
    next_begins place rest kept h l =
        let es = h.whole.args in
        let m : place < length es = omega (arith, h.whole.many) in
        (argument_of es place, h.whole.over place m, codes_of (drop (place + 1) es) ++ h.whole.behind, next_code es place rest h.whole.behind m h.left)

    pub halfway_suits : (place : ℕ) (rest : List ℕ) (kept : List MultiArrow) → IsHalfway lib code head count goals place rest kept → AreSuited lib kept
    halfway_suits place rest kept h = kept_suit lib law (arrows_at lib head count) goals h.whole.args place kept (are_suited lib law head count) h.chosen

    pub halfway_more : (place : ℕ) (rest after : List ℕ) (kept left : List MultiArrow) (had : Paths) → IsHalfway lib code head count goals place rest kept → place < count
        → IsDecided lib (sources_of kept place) rest after had → ((a : MultiArrow) → Contains left a ↔ (Contains kept a × PathsLeIn lib had (source_of a place)))
        → IsHalfway lib code head count goals (place + 1) after left
    halfway_more place rest after kept left had h l d f =
        let es = h.whole.args in
        let m : place < length es = omega (arith, h.whole.many) in
        let next = next_code es place rest h.whole.behind m h.left in
        let same = one_term d.term (argument_of es place) after (codes_of (drop (place + 1) es) ++ h.whole.behind) (sym d.begins ∙ next) in
        record {
          whole = h.whole;
          left = same.1;
          chosen = kept_more lib law (arrows_at lib head count) goals es place kept left had (h.whole.over place m) (halfway_suits place rest kept h) h.chosen
              (subst (λ (e : Applicative). KnowsPaths lib e (sources_of kept place) had) same.0 d.known) f;
        }

    module _ (suits : (n : Paths) → Contains goals n → AllSuitIn lib n) where
      decided : (o : IsOpened lib code head count) (behind : List ℕ) (kept : List MultiArrow) → count ≤ arity_of (paths_at lib head) → o.behind ≡ behind
          → AreKept lib (arrows_at lib head count) goals o.args count kept → IsDecided lib goals code behind (targets_of kept)
      decided o behind kept within p b =
          let k : AreKept lib (arrows_at lib head (length o.args)) goals o.args (length o.args) kept = subst (λ (n : ℕ). AreKept lib (arrows_at lib head n) goals o.args n kept) (sym o.many) b in
          record {
            term = spine (component head) o.args;
            begins = o.begins ∙ ap (λ (w : List ℕ). code_of (spine (component head) o.args) ++ w) p;
            known = all_known lib law head o.args goals suits kept (omega (arith, within, o.many)) k;
          }

      -- all arguments were looked at
      pub halfway_last : (place : ℕ) (rest : List ℕ) (kept : List MultiArrow) → IsHalfway lib code head count goals place rest kept → place ≡ count → count ≤ arity_of (paths_at lib head) → IsDecided lib goals code rest (targets_of kept)
      halfway_last place rest kept h e within =
          decided h.whole rest kept within
          (sym (nothing_left h.whole.args place rest h.whole.behind (omega (arith, e, h.whole.many)) h.left))
          (subst (λ (n : ℕ). AreKept lib (arrows_at lib head count) goals h.whole.args n kept) e h.chosen)

      -- no arrow is kept, and the other arguments are passed over
      pub halfway_none : (place left : ℕ) (rest behind : List ℕ) (kept : List MultiArrow) → IsHalfway lib code head count goals place rest kept → place + left ≡ count → length kept ≡ 0 → count ≤ arity_of (paths_at lib head)
          → ArePassed left rest behind → IsDecided lib goals code behind (targets_of kept)
      halfway_none place left rest behind kept h e none within passed =
          let es = h.whole.args in
          let n : length (drop place es) ≡ length passed.0 = omega (arith, drop_long es place, passed.1, h.whole.many, e) in
          decided h.whole behind kept within
          (passed_same (drop place es) passed.0 h.whole.behind behind n (sym h.left ∙ passed.2))
          (kept_end lib law (arrows_at lib head count) goals es place count kept (omega (arith, e)) none h.chosen)

      -- more arguments than any arrow of the head takes
      pub none_decided : (o : IsOpened lib code head count) (rest behind : List ℕ) → rest ≡ codes_of o.args ++ o.behind → arity_of (paths_at lib head) < count → ArePassed count rest behind → IsDecided lib goals code behind (targets_of [])
      none_decided o rest behind p over passed = record {
        term = spine (component head) o.args;
        begins = o.begins ∙ ap (λ (w : List ℕ). code_of (spine (component head) o.args) ++ w) (passed_same o.args passed.0 o.behind behind (omega (arith, o.many, passed.1)) (sym p ∙ passed.2));
        known = none_known lib law head o.args goals suits (omega (arith, over, o.many));
      }
