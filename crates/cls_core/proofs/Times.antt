-- Each row is claimed at most once and filed at most once, and once if it is filed.
use Rattle.std.proofs.Common.{◌≡◌, ◌≢◌, ℕ, zero, suc, ◌+◌, ◌-◌, ◌<◌, ◌≤◌, ◌==◌, Bool, true, false, List, [], ◌∷◌, ◌++◌, Option, Some, None, length, set, slice_get, refl, sym, ap, subst, ◌∙◌, arith, if◌then◌else◌}
use Rattle.std.specs.Prelude.{replicate, nat_lt}
use Rattle.std.proofs.lemmas.Bool.Decides.{nat_tests}
use Rattle.std.proofs.lemmas.Option.{slice_get_within, slice_get_past}
use Rattle.cls_core.specs.Rows.{Machine}
use Rattle.cls_core.specs.Machine.{begun, grown, numbered, Replays, AllFiled, IsFiled}
use Rattle.cls_core.specs.Times.{claims_of, filings_of, EachAtMostOnce, EachOnce}
use Rattle.cls_core.specs.declared.state.RowState.{RowState}
use Rattle.cls_core.specs.declared.state.RowState.TheVariants.{Free, Held, Filed}
use Rattle.cls_core.specs.declared.entry.Entry.{Entry}
use Rattle.cls_core.specs.declared.entry.Entry.TheVariants.{Claim, File}
use Rattle.cls_core.specs.declared.answer.Answer.{Answer}
use Rattle.cls_core.proofs.Columns.{get-set-same, get-set-other, get-within, get-behind, get-some}

-- how often a row in this state was claimed, and filed
abbrev claim_mark : Option RowState → ℕ
claim_mark None = 0
claim_mark (Some Free) = 0
claim_mark (Some (Held worker)) = 1
claim_mark (Some (Filed a)) = 1

abbrev file_mark : Option RowState → ℕ
file_mark None = 0
file_mark (Some Free) = 0
file_mark (Some (Held worker)) = 0
file_mark (Some (Filed a)) = 1

free-marks : (n i : ℕ) → (claim_mark (slice_get (replicate n Free) i) ≡ 0) × (file_mark (slice_get (replicate n Free) i) ≡ 0)
free-marks zero i = (refl, refl)
free-marks (suc n) zero = (refl, refl)
free-marks (suc n) (suc i) = free-marks n i

-- new rows have no marks
append-marks : (ss : List RowState) (n i : ℕ)
    → (claim_mark (slice_get (ss ++ replicate n Free) i) ≡ claim_mark (slice_get ss i)) × (file_mark (slice_get (ss ++ replicate n Free) i) ≡ file_mark (slice_get ss i))
append-marks ss n i = by (nat_lt i (length ss)) refl
  where
    by : (b : Bool) → nat_lt i (length ss) ≡ b
        → (claim_mark (slice_get (ss ++ replicate n Free) i) ≡ claim_mark (slice_get ss i)) × (file_mark (slice_get (ss ++ replicate n Free) i) ≡ file_mark (slice_get ss i))
    by true e =
        let less : i < length ss = grind (arith, nat_tests) in
        let at = get-within ss (replicate n Free) i less in
        (ap claim_mark at, ap file_mark at)
    by false e =
        let more : length ss ≤ i = grind (arith, nat_tests) in
        let at = get-behind ss (replicate n Free) i more in
        let none = slice_get_past ss i more in
        let free = free-marks n (i - length ss) in
        (ap claim_mark at ∙ (free.0 ∙ sym (ap claim_mark none)), ap file_mark at ∙ (free.1 ∙ sym (ap file_mark none)))

-- what is claimed has one claim more, and no other row has
claim-marks : (ss : List RowState) (row worker i : ℕ) → slice_get ss row ≡ Some Free
    → (claim_mark (slice_get (set ss row (Held worker)) i) ≡ (if row == i then 1 else 0) + claim_mark (slice_get ss i)) × (file_mark (slice_get (set ss row (Held worker)) i) ≡ file_mark (slice_get ss i))
claim-marks ss row worker i free = by (row == i) refl
  where
    by : (b : Bool) → (row == i) ≡ b
        → (claim_mark (slice_get (set ss row (Held worker)) i) ≡ (if b then 1 else 0) + claim_mark (slice_get ss i)) × (file_mark (slice_get (set ss row (Held worker)) i) ≡ file_mark (slice_get ss i))
    by true e =
        let same : row ≡ i = grind (arith, nat_tests) in
        subst (λ j. (claim_mark (slice_get (set ss row (Held worker)) j) ≡ 1 + claim_mark (slice_get ss j)) × (file_mark (slice_get (set ss row (Held worker)) j) ≡ file_mark (slice_get ss j))) same
        (let new = get-set-same ss row (Held worker) (slice_get_within ss row Free free) in
        (omega (arith, ap claim_mark new, ap claim_mark free), ap file_mark new ∙ sym (ap file_mark free)))
    by false e =
        let other : i ≢ row = grind (arith, nat_tests) in
        let at = get-set-other ss row i (Held worker) other in
        (omega (arith, ap claim_mark at), ap file_mark at)

file-marks : (ss : List RowState) (row worker i : ℕ) (a : Answer ℕ) → slice_get ss row ≡ Some (Held worker)
    → (claim_mark (slice_get (set ss row (Filed a)) i) ≡ claim_mark (slice_get ss i)) × (file_mark (slice_get (set ss row (Filed a)) i) ≡ (if row == i then 1 else 0) + file_mark (slice_get ss i))
file-marks ss row worker i a held = by (row == i) refl
  where
    by : (b : Bool) → (row == i) ≡ b
        → (claim_mark (slice_get (set ss row (Filed a)) i) ≡ claim_mark (slice_get ss i)) × (file_mark (slice_get (set ss row (Filed a)) i) ≡ (if b then 1 else 0) + file_mark (slice_get ss i))
    by true e =
        let same : row ≡ i = grind (arith, nat_tests) in
        subst (λ j. (claim_mark (slice_get (set ss row (Filed a)) j) ≡ claim_mark (slice_get ss j)) × (file_mark (slice_get (set ss row (Filed a)) j) ≡ 1 + file_mark (slice_get ss j))) same
        (let new = get-set-same ss row (Filed a) (slice_get_within ss row (Held worker) held) in
        (ap claim_mark new ∙ sym (ap claim_mark held), omega (arith, ap file_mark new, ap file_mark held)))
    by false e =
        let other : i ≢ row = grind (arith, nat_tests) in
        let at = get-set-other ss row i (Filed a) other in
        (ap claim_mark at, omega (arith, ap file_mark at))

module _ {G : Type 0} (eq : G → G → Bool) (IsAnswer : G → Answer G → Type 0) where
  abbrev Marked : ℕ → List Entry → Machine G → Machine G → Type 0
  Marked i es r t =
      (claim_mark (slice_get r.states i) + claims_of i es ≡ claim_mark (slice_get t.states i)) × (file_mark (slice_get r.states i) + filings_of i es ≡ file_mark (slice_get t.states i))

  marked : (es : List Entry) (r t : Machine G) (i : ℕ) → Replays eq IsAnswer r es t → Marked i es r t
  marked [] r t i h =
      (omega (arith, ap (λ (m : Machine G). claim_mark (slice_get m.states i)) h), omega (arith, ap (λ (m : Machine G). file_mark (slice_get m.states i)) h))
  marked (Claim worker row ∷ es) r t i h =
      let rest = marked es h.0 t i h.2 in
      let one = claim-marks r.states row worker i h.1.0 in
      (omega (arith, rest.0, one.0, ap (λ (m : Machine G). claim_mark (slice_get m.states i)) h.1.1), omega (arith, rest.1, one.1, ap (λ (m : Machine G). file_mark (slice_get m.states i)) h.1.1))
  marked (File worker row ∷ es) r t i h =
      let rest = marked es h.0 t i h.2 in
      let filing = h.1 in
      let gs = grown eq r.goals filing.answer in
      let new = numbered eq gs filing.answer in
      let one = file-marks r.states row worker i new filing.held in
      let wide = append-marks (set r.states row (Filed new)) (length gs - length r.goals) i in
      (omega (arith, rest.0, one.0, wide.0, ap (λ (m : Machine G). claim_mark (slice_get m.states i)) filing.rows_after), omega (arith, rest.1, one.1, wide.1, ap (λ (m : Machine G). file_mark (slice_get m.states i)) filing.rows_after))

  claim-bound : (s : Option RowState) → claim_mark s ≤ 1
  claim-bound None = omega arith
  claim-bound (Some Free) = omega arith
  claim-bound (Some (Held worker)) = omega arith
  claim-bound (Some (Filed a)) = omega arith

  file-bound : (s : Option RowState) → file_mark s ≤ 1
  file-bound None = omega arith
  file-bound (Some Free) = omega arith
  file-bound (Some (Held worker)) = omega arith
  file-bound (Some (Filed a)) = omega arith

  -- In a legal history each row is claimed at most once and filed at most once.
  pub at-most-once : (start : G) (es : List Entry) (t : Machine G) → Replays eq IsAnswer (begun start) es t → EachAtMostOnce es
  at-most-once start es t h row =
      let m = marked es (begun start) t row h in
      (omega (arith, m.0, claim-bound (slice_get t.states row)), omega (arith, m.1, file-bound (slice_get t.states row)))

  -- In a legal complete history each row is claimed once and filed once.
  pub each-once : (start : G) (es : List Entry) (t : Machine G) → Replays eq IsAnswer (begun start) es t → AllFiled t
      → EachOnce (length t.states) es
  each-once start es t h f row within =
      let m = marked es (begun start) t row h in
      let free = free-marks 1 row in
      let s = get-some t.states row within in
      let marks = filed-marks s.0 (f row s.0 s.1) in
      (omega (arith, m.0, free.0, ap claim_mark s.1, marks.0), omega (arith, m.1, free.1, ap file_mark s.1, marks.1))
    where
      filed-marks : (x : RowState) → IsFiled x → (claim_mark (Some x) ≡ 1) × (file_mark (Some x) ≡ 1)
      filed-marks Free q = absurd q
      filed-marks (Held worker) q = absurd q
      filed-marks (Filed a) q = (refl, refl)
