-- A text is read in one way.
use Rattle.std.proofs.Common.{◌≡◌, ◌≢◌, ℕ, ◌<◌, List, [], ◌∷◌, ◌++◌, length, take, drop, refl, sym, ap, ◌∙◌, subst, arith, append_assoc, append-nil, length-append}
use Rattle.std.specs.Prelude.{Some}
use Rattle.std.specs.List.{AllByRecursion}
use Rattle.std.proofs.Math.Seq.{take-append_seam, drop-append_seam}
use Rattle.cls_base.specs.Limits.{max_hole}
use Rattle.cls_assemble.specs.declared.piece.Piece.{Piece}
use Rattle.cls_assemble.specs.declared.piece.Piece.TheVariants.{Hole}
use Rattle.cls_assemble.specs.declared.fault.TemplateFault.TheVariants.{BadHole, HoleZero, HoleOver16, OutOfMemory}
use Rattle.cls_assemble.specs.Spelling.{Spells, plain, opening, closing, line_feed, backslash, hole, AreSpelled, IsNumbered, IsTemplate}
use Rattle.cls_assemble.specs.Faults.{BeginsTemplate, BeginsPiece, HasBadHole, HasHole}
use Rattle.cls_assemble.specs.Fronts.{first_piece}
use Rattle.cls_assemble.specs.Laws.{TemplatesAreUnique, TemplatesHaveNoFault, FaultsAreUnique}
use Rattle.cls_assemble.proofs.Fronts.{first_piece-spells, piece_in, count_in}

-- no piece that a template may have begins here
abbrev Stops : List ℕ → Type 0
Stops rest = (p : Piece) → IsNumbered p → BeginsPiece rest p → ⊥

-- two pieces that begin one text are the same piece
record IsSame (p q : Piece) (xs ys : List ℕ) : Type 0 where
  pub piece : p ≡ q
  pub bytes : length xs ≡ length ys

same_first : (p q : Piece) (xs ys us vs : List ℕ) → Spells p xs → Spells q ys → xs ++ us ≡ ys ++ vs → IsSame p q xs ys
same_first p q xs ys us vs h k e =
    let found : Some (p, length xs) ≡ Some (q, length ys) = sym (first_piece-spells h us) ∙ (ap first_piece e ∙ first_piece-spells k vs) in
    record { piece = ap piece_in found; bytes = ap count_in found }

begin_same : (text : List ℕ) (p q : Piece) → BeginsPiece text p → BeginsPiece text q → p ≡ q
begin_same text p q h k = (same_first p q h.front k.front h.more k.more h.spelled k.spelled (sym h.split ∙ k.split)).piece

front_same : (xs ys us vs : List ℕ) → length xs ≡ length ys → xs ++ us ≡ ys ++ vs → xs ≡ ys
front_same xs ys us vs l e =
    sym (take-append_seam xs us) ∙ (ap (λ (zs : List ℕ). take (length xs) zs) e ∙ (ap (λ (k : ℕ). take k (ys ++ vs)) l ∙ take-append_seam ys vs))

back_same : (xs ys us vs : List ℕ) → length xs ≡ length ys → xs ++ us ≡ ys ++ vs → us ≡ vs
back_same xs ys us vs l e =
    sym (drop-append_seam xs us) ∙ (ap (λ (zs : List ℕ). drop (length xs) zs) e ∙ (ap (λ (k : ℕ). drop k (ys ++ vs)) l ∙ drop-append_seam ys vs))

record IsOneReading (ps qs : List Piece) (xs ys us vs : List ℕ) : Type 0 where
  pub pieces : ps ≡ qs
  pub fronts : xs ≡ ys
  pub rests : us ≡ vs

stopped : (p : Piece) (xs front rest us vs : List ℕ) → xs ≡ [] → xs ++ us ≡ (front ++ rest) ++ vs → Spells p front → IsNumbered p → Stops us → ⊥
stopped p xs front rest us vs n e h k s =
    let whole : us ≡ front ++ (rest ++ vs) = ap (λ (zs : List ℕ). zs ++ us) (sym n) ∙ (e ∙ append_assoc front rest vs) in
    s p k (record { front = front; more = rest ++ vs; split = whole; spelled = h })

one_reading : (ps qs : List Piece) (xs ys us vs : List ℕ) → AreSpelled ps xs → AllByRecursion IsNumbered ps → AreSpelled qs ys → AllByRecursion IsNumbered qs → xs ++ us ≡ ys ++ vs → Stops us → Stops vs → IsOneReading ps qs xs ys us vs
one_reading [] [] xs ys us vs h n k m e s t =
    record { pieces = refl; fronts = h ∙ sym k; rests = ap (λ (zs : List ℕ). zs ++ us) (sym h) ∙ (e ∙ ap (λ (zs : List ℕ). zs ++ vs) k) }
one_reading [] (q ∷ qs) xs ys us vs h n k m e s t =
    absurd (stopped q xs k.0 k.1 us vs h (e ∙ ap (λ (zs : List ℕ). zs ++ vs) k.2) k.3 m.0 s)
one_reading (p ∷ ps) [] xs ys us vs h n k m e s t =
    absurd (stopped p ys h.0 h.1 vs us k (sym e ∙ ap (λ (zs : List ℕ). zs ++ us) h.2) h.3 n.0 t)
one_reading (p ∷ ps) (q ∷ qs) xs ys us vs h n k m e s t =
    let whole : h.0 ++ (h.1 ++ us) ≡ k.0 ++ (k.1 ++ vs) = sym (append_assoc h.0 h.1 us) ∙ (ap (λ (zs : List ℕ). zs ++ us) (sym h.2) ∙ (e ∙ (ap (λ (zs : List ℕ). zs ++ vs) k.2 ∙ append_assoc k.0 k.1 vs))) in
    let first = same_first p q h.0 k.0 (h.1 ++ us) (k.1 ++ vs) h.3 k.3 whole in
    let front = front_same h.0 k.0 (h.1 ++ us) (k.1 ++ vs) first.bytes whole in
    let more = one_reading ps qs h.1 k.1 us vs h.4 n.1 k.4 m.1 (back_same h.0 k.0 (h.1 ++ us) (k.1 ++ vs) first.bytes whole) s t in
    record {
      pieces = λ i. first.piece i ∷ more.pieces i;
      fronts = h.2 ∙ ((λ i. front i ++ more.fronts i) ∙ sym k.2);
      rests = more.rests;
    }

spelled_some : {p : Piece} {xs : List ℕ} → Spells p xs → 0 < length xs
spelled_some (plain h) = omega arith
spelled_some opening = omega arith
spelled_some closing = omega arith
spelled_some line_feed = omega arith
spelled_some backslash = omega arith
spelled_some (hole ds h) = omega arith

stops_at_end : Stops []
stops_at_end p n h = let size = ap length h.split in omega (arith, size, spelled_some h.spelled, length-append h.front h.more)

abbrev whole_begins : (text : List ℕ) (ps : List Piece) → IsTemplate text ps → BeginsTemplate text (length text) []
whole_begins text ps h = record { front = text; pieces = ps; split = sym (append-nil text); place = refl; template = h }

one_stop : (text us vs : List ℕ) (a b : ℕ) (h : BeginsTemplate text a us) (k : BeginsTemplate text b vs) → Stops us → Stops vs → IsOneReading h.pieces k.pieces h.front k.front us vs
one_stop text us vs a b h k s t =
    one_reading h.pieces k.pieces h.front k.front us vs h.template.spelled h.template.numbered k.template.spelled k.template.numbered (sym h.split ∙ k.split) s t

pub templates_are_unique : TemplatesAreUnique
templates_are_unique text ps qs h k = (one_stop text [] [] (length text) (length text) (whole_begins text ps h) (whole_begins text qs k) stops_at_end stops_at_end).pieces

-- where a fault stands, and that nothing goes on there
record IsStop (text : List ℕ) (byte : ℕ) (rest : List ℕ) : Type 0 where
  pub begins : BeginsTemplate text byte rest
  pub stops : Stops rest
  pub goes_on : rest ≢ []

bad_stop : (text : List ℕ) (byte : ℕ) (h : HasBadHole text byte) → IsStop text byte h.rest
bad_stop text byte h = record { begins = h.begins; stops = λ p n b. h.no_piece p b; goes_on = h.goes_on }

hole_goes_on : (rest : List ℕ) (p : Piece) → BeginsPiece rest p → rest ≢ []
hole_goes_on rest p h e = let size = ap length (sym h.split ∙ e) in omega (arith, size, spelled_some h.spelled, length-append h.front h.more)

hole_stop : (text : List ℕ) (byte number : ℕ) (h : HasHole text byte number) → (IsNumbered (Hole number) → ⊥) → IsStop text byte h.rest
hole_stop text byte number h x = record {
  begins = h.begins;
  stops = λ p n b. x (subst IsNumbered (begin_same h.rest p (Hole number) b h.hole) n);
  goes_on = hole_goes_on h.rest (Hole number) h.hole;
}

no_stop : (text rest : List ℕ) (byte : ℕ) (ps : List Piece) → IsTemplate text ps → IsStop text byte rest → ⊥
no_stop text rest byte ps h k = k.goes_on (one_stop text rest [] byte (length text) k.begins (whole_begins text ps h) k.stops stops_at_end).rests

zero_is_none : IsNumbered (Hole 0) → ⊥
zero_is_none h = omega (arith, h.0)

over_is_none : (number : ℕ) → max_hole < number → IsNumbered (Hole number) → ⊥
over_is_none number l h = omega (arith, h.1)

pub templates_have_no_fault : TemplatesHaveNoFault
templates_have_no_fault text ps (BadHole b) h k = absurd (no_stop text k.rest b ps h (bad_stop text b k))
templates_have_no_fault text ps (HoleZero b) h k = absurd (no_stop text k.rest b ps h (hole_stop text b 0 k zero_is_none))
templates_have_no_fault text ps (HoleOver16 b) h k = absurd (no_stop text k.2.rest b ps h (hole_stop text b k.0 k.2 (over_is_none k.0 k.1)))
templates_have_no_fault text ps OutOfMemory h k = refl

record IsOneStop (a b : ℕ) (us vs : List ℕ) : Type 0 where
  pub bytes : a ≡ b
  pub rests : us ≡ vs

same_stop : (text us vs : List ℕ) (a b : ℕ) → IsStop text a us → IsStop text b vs → IsOneStop a b us vs
same_stop text us vs a b h k =
    let one = one_stop text us vs a b h.begins k.begins h.stops k.stops in
    record { bytes = sym h.begins.place ∙ (ap length one.fronts ∙ k.begins.place); rests = one.rests }

bad_and_hole : (text : List ℕ) (a b number : ℕ) (h : HasBadHole text a) (k : HasHole text b number) → (IsNumbered (Hole number) → ⊥) → ⊥
bad_and_hole text a b number h k x =
    let one = same_stop text h.rest k.rest a b (bad_stop text a h) (hole_stop text b number k x) in
    h.no_piece (Hole number) (subst (λ (rest : List ℕ). BeginsPiece rest (Hole number)) (sym one.rests) k.hole)

two_holes : (text : List ℕ) (a b m n : ℕ) (h : HasHole text a m) (k : HasHole text b n) → (IsNumbered (Hole m) → ⊥) → (IsNumbered (Hole n) → ⊥) → (a ≡ b) × (m ≡ n)
two_holes text a b m n h k x y =
    let one = same_stop text h.rest k.rest a b (hole_stop text a m h x) (hole_stop text b n k y) in
    let same = begin_same h.rest (Hole m) (Hole n) h.hole (subst (λ (rest : List ℕ). BeginsPiece rest (Hole n)) (sym one.rests) k.hole) in
    (one.bytes, cc)

pub faults_are_unique : FaultsAreUnique
faults_are_unique text (BadHole a) (BadHole b) x y h k = ap BadHole (same_stop text h.rest k.rest a b (bad_stop text a h) (bad_stop text b k)).bytes
faults_are_unique text (BadHole a) (HoleZero b) x y h k = absurd (bad_and_hole text a b 0 h k zero_is_none)
faults_are_unique text (BadHole a) (HoleOver16 b) x y h k = absurd (bad_and_hole text a b k.0 h k.2 (over_is_none k.0 k.1))
faults_are_unique text (HoleZero a) (BadHole b) x y h k = absurd (bad_and_hole text b a 0 k h zero_is_none)
faults_are_unique text (HoleZero a) (HoleZero b) x y h k = ap HoleZero (two_holes text a b 0 0 h k zero_is_none zero_is_none).0
faults_are_unique text (HoleZero a) (HoleOver16 b) x y h k = let same = two_holes text a b 0 k.0 h k.2 zero_is_none (over_is_none k.0 k.1) in absurd (omega (arith, same.1, k.1))
faults_are_unique text (HoleOver16 a) (BadHole b) x y h k = absurd (bad_and_hole text b a h.0 k h.2 (over_is_none h.0 h.1))
faults_are_unique text (HoleOver16 a) (HoleZero b) x y h k = let same = two_holes text a b h.0 0 h.2 k (over_is_none h.0 h.1) zero_is_none in absurd (omega (arith, same.1, h.1))
faults_are_unique text (HoleOver16 a) (HoleOver16 b) x y h k = ap HoleOver16 (two_holes text a b h.0 k.0 h.2 k.2 (over_is_none h.0 h.1) (over_is_none k.0 k.1)).0
faults_are_unique text OutOfMemory g x y h k = absurd (x refl)
faults_are_unique text (BadHole a) OutOfMemory x y h k = absurd (y refl)
faults_are_unique text (HoleZero a) OutOfMemory x y h k = absurd (y refl)
faults_are_unique text (HoleOver16 a) OutOfMemory x y h k = absurd (y refl)
