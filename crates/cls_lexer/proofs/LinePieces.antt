-- The laws of the lines of a text.
use Rattle.std.proofs.Common.{◌≡◌, ℕ, ◌≤◌, true, false, eqb, List, [], ◌∷◌, ◌++◌, map, length, refl, ap, sym, ◌∙◌, append_assoc, arith}
use Rattle.std.specs.Prelude.{if◌then◌else◌, ◌≢◌}
use Rattle.std.proofs.lemmas.List.{map-append, length-map}
use Rattle.cls_lexer.specs.Lines.{onto_first, onto_ended, pieces_of, ended_pieces, without_return, lines_of, ended_lines, HasNoFeed, CutsLine, BeginsWith, HasOneMore}

pieces_of-feed : (raw rest : List ℕ) → HasNoFeed raw → pieces_of (raw ++ 10 ∷ rest) ≡ raw ∷ pieces_of rest
pieces_of-feed [] rest h = refl
pieces_of-feed (b ∷ raw) rest h = let e = pieces_of-feed raw rest h.1 in let n = h.0 in rw e (grind arith)

ended_pieces-feed : (raw rest : List ℕ) → HasNoFeed raw → ended_pieces (raw ++ 10 ∷ rest) ≡ raw ∷ ended_pieces rest
ended_pieces-feed [] rest h = refl
ended_pieces-feed (b ∷ raw) rest h = let e = ended_pieces-feed raw rest h.1 in let n = h.0 in rw e (grind arith)

-- a line that is cut off is the first of the lines, and of those that ended
pub lines_of-CutsLine : (text line rest : List ℕ) → CutsLine text line rest → lines_of text ≡ line ∷ lines_of rest
unfolding lines_of
lines_of-CutsLine text line rest cut = ap (λ (t : List ℕ). map without_return (pieces_of t)) cut.whole ∙ (ap (map without_return) (pieces_of-feed cut.raw rest cut.no_feed) ∙ ap (λ (l : List ℕ). l ∷ map without_return (pieces_of rest)) (sym cut.shown))

pub ended_lines-CutsLine : (text line rest : List ℕ) → CutsLine text line rest → ended_lines text ≡ line ∷ ended_lines rest
unfolding ended_lines
ended_lines-CutsLine text line rest cut = ap (λ (t : List ℕ). map without_return (ended_pieces t)) cut.whole ∙ (ap (map without_return) (ended_pieces-feed cut.raw rest cut.no_feed) ∙ ap (λ (l : List ℕ). l ∷ map without_return (ended_pieces rest)) (sym cut.shown))

-- what follows a text doesn't change the line that is cut off
pub CutsLine-append : (text line rest more : List ℕ) → CutsLine text line rest → CutsLine (text ++ more) line (rest ++ more)
CutsLine-append text line rest more cut = record {
  raw = cut.raw;
  no_feed = cut.no_feed;
  whole = ap (λ (t : List ℕ). t ++ more) cut.whole ∙ append_assoc cut.raw (10 ∷ rest) more;
  shown = cut.shown;
}

-- no text, no line
pub lines_of-nil : lines_of [] ≡ []
unfolding lines_of
lines_of-nil = refl

ended_pieces-HasNoFeed : (held : List ℕ) → HasNoFeed held → ended_pieces held ≡ []
ended_pieces-HasNoFeed [] h = refl
ended_pieces-HasNoFeed (b ∷ held) h = let e = ended_pieces-HasNoFeed held h.1 in let n = h.0 in rw e (grind arith)

-- without a line feed no line has ended
pub ended_lines-HasNoFeed : (held : List ℕ) → HasNoFeed held → ended_lines held ≡ []
unfolding ended_lines
ended_lines-HasNoFeed held h = ap (map without_return) (ended_pieces-HasNoFeed held h)

pieces_of-HasNoFeed : (b : ℕ) (held : List ℕ) → HasNoFeed (b ∷ held) → pieces_of (b ∷ held) ≡ (b ∷ held) ∷ []
pieces_of-HasNoFeed b [] h = let n = h.0 in grind arith
pieces_of-HasNoFeed b (c ∷ held) h = let e = pieces_of-HasNoFeed c held h.1 in let n = h.0 in rw e (grind arith)

-- bytes without a line feed are one line
pub lines_of-HasNoFeed : (held : List ℕ) → HasNoFeed held → held ≢ [] → lines_of held ≡ without_return held ∷ []
unfolding lines_of
lines_of-HasNoFeed [] h some = absurd (some refl)
lines_of-HasNoFeed (b ∷ held) h some = ap (map without_return) (pieces_of-HasNoFeed b held h)

-- one byte more goes onto the pieces that ended, or onto the one that didn't
onto_first-HasOneMore : (b : ℕ) (front lines : List (List ℕ)) → HasOneMore front lines → HasOneMore (onto_ended b front) (onto_first b lines)
onto_first-HasOneMore b (l ∷ front) lines h = record { last = h.last; joined = ap (onto_first b) h.joined; few = h.few }
onto_first-HasOneMore b [] lines h = record { last = onto_first b h.last; joined = ap (onto_first b) h.joined; few = one b h.last h.few }
  where
    one : (b : ℕ) (last : List (List ℕ)) → length last ≤ 1 → length (onto_first b last) ≤ 1
    one b [] few = omega arith
    one b (l ∷ last) few = few

pieces_end : (text : List ℕ) → HasOneMore (ended_pieces text) (pieces_of text)
pieces_end [] = record { last = []; joined = refl; few = omega arith }
pieces_end (b ∷ text) =
    let h = pieces_end text in
    elim (eqb b 10) as (λ v. HasOneMore (if v then [] ∷ ended_pieces text else onto_ended b (ended_pieces text)) (if v then [] ∷ pieces_of text else onto_first b (pieces_of text))) [
      | true ↦ record { last = h.last; joined = ap (λ (ls : List (List ℕ)). [] ∷ ls) h.joined; few = h.few }
      | false ↦ onto_first-HasOneMore b (ended_pieces text) (pieces_of text) h
    ]

-- the lines are those that ended, and at most one more
pub lines_of-ended_lines : (text : List ℕ) → HasOneMore (ended_lines text) (lines_of text)
unfolding lines_of ended_lines
lines_of-ended_lines text =
    let h = pieces_end text in
    record {
      last = map without_return h.last;
      joined = ap (map without_return) h.joined ∙ map-append without_return (ended_pieces text) h.last;
      few = omega (arith, h.few, length-map h.last without_return);
    }

onto_ended-BeginsWith : (b : ℕ) (front lines : List (List ℕ)) → BeginsWith front lines → BeginsWith (onto_ended b front) (onto_ended b lines)
onto_ended-BeginsWith b (l ∷ front) lines h = record { rest = h.rest; joined = ap (onto_ended b) h.joined }
onto_ended-BeginsWith b [] lines h = record { rest = onto_ended b lines; joined = refl }

pieces_stay : (text more : List ℕ) → BeginsWith (ended_pieces text) (ended_pieces (text ++ more))
pieces_stay [] more = record { rest = ended_pieces more; joined = refl }
pieces_stay (b ∷ text) more =
    let h = pieces_stay text more in
    elim (eqb b 10) as (λ v. BeginsWith (if v then [] ∷ ended_pieces text else onto_ended b (ended_pieces text)) (if v then [] ∷ ended_pieces (text ++ more) else onto_ended b (ended_pieces (text ++ more)))) [
      | true ↦ record { rest = h.rest; joined = ap (λ (ls : List (List ℕ)). [] ∷ ls) h.joined }
      | false ↦ onto_ended-BeginsWith b (ended_pieces text) (ended_pieces (text ++ more)) h
    ]

-- a line that ended stays, whatever follows
pub ended_lines-append : (text more : List ℕ) → BeginsWith (ended_lines text) (ended_lines (text ++ more))
unfolding ended_lines
ended_lines-append text more =
    let h = pieces_stay text more in
    record { rest = map without_return h.rest; joined = ap (map without_return) h.joined ∙ map-append without_return (ended_pieces text) h.rest }

pub lines_of-append : (text more : List ℕ) → BeginsWith (ended_lines text) (lines_of (text ++ more))
lines_of-append text more =
    let all = lines_of-ended_lines (text ++ more) in
    let front = ended_lines-append text more in
    record { rest = front.rest ++ all.last; joined = all.joined ∙ (ap (λ (ls : List (List ℕ)). ls ++ all.last) front.joined ∙ append_assoc (ended_lines text) front.rest all.last) }
