-- What is written for a line after a repository is one text, whatever the number of workers, but for audits, and queries are
-- answered by one thing after it.
use Rattle.std.proofs.Common.{ℕ, ◌≡◌, ◌⊎◌, inl, inr, sym, ◌∙◌, ap, subst, List, [], ◌∷◌, ◌++◌, append-nil}
use Rattle.std.specs.List.{IsDistinct}
use Rattle.std.specs.Str.{bytes_eq}
use Rattle.cls_base.specs.Types.{ClosedType}
use Rattle.cls_query.specs.Queries.{Query, audit}
use Rattle.cls_engine.specs.declared.fault.EngineFault.{EngineFault}
use Rattle.cls_replies.specs.Responder.{Responder, holding}
use Rattle.cls_replies.specs.Texts.{error_line, fault_words}
use Rattle.cls_replies.specs.Answering.{Asks, Answers, Answered, Verified}
use Rattle.cls_replies.specs.Answering as answering
use Rattle.cls_replies.specs.Lines.{Goes, Ends}
use Rattle.cls_replies.specs.Lines as lines
use Rattle.cls_laws.specs.Alike.{served_by, AreSame}
use Rattle.cls_laws.specs.Alike as alike
use Rattle.cls_laws.specs.Uniqueness.{AsksAudit}
use Rattle.cls_laws.proofs.ByWorkers.{audit_or_not, fault_by, answers_by, misread_by, asks_by, verified_by}
use Rattle.cls_laws.proofs.OneReply.{fault_one, answer_one}
use Rattle.cls_laws.proofs.OneLine.{misread_one, asks_one, read_or_not, nil_cons, held_one, holds_one}
use Rattle.cls_laws.proofs.OneChange.{changed_same}
use Rattle.cls_laws.proofs.SkippedLines.{skipped_opens, skipped_changes, opens_changes}

-- where no audit is asked for, replies that are the same are one text
pub one_unless_audit : (s : Responder) (n : ℕ) (line text other : List ℕ) → (AsksAudit s line → ⊥) → AreSame s n line text other → text ≡ other
one_unless_audit s n line text other free (alike.AreSame.one_text e) = e
one_unless_audit s n line text other free (alike.AreSame.histories goal m none h a b) = absurd (free (goal, m, h))

module _ (n : ℕ) where
  -- A QUERY
  -- what is written for an audit, by what has its names numbered
  module _ (s : Responder) (line : List ℕ) (m : Responder) (t u : List ℕ) (next next' : Responder) (none : s.held ≡ []) where
    audits_same : (goal : ClosedType) → Asks s line (audit goal) m → Answers m (audit goal) t next → Answers (served_by n m) (audit goal) u next' → AreSame s n line t u × (next' ≡ served_by n next)
    audits_same goal h (answering.Answers.failed f p e same) (answering.Answers.failed g q d same') =
        (alike.AreSame.one_text (e ∙ (ap (λ (x : EngineFault). error_line (fault_words m.names x)) (fault_one (served_by n m) (audit goal) f g (fault_by n m (audit goal) f p) q) ∙ sym d)), same' ∙ sym (ap (served_by n) same))
    audits_same goal h (answering.Answers.failed f p e same) (answering.Answers.replied silent r same') = absurd (silent f (fault_by n m (audit goal) f p))
    audits_same goal h (answering.Answers.replied silent r same) (answering.Answers.failed g q d same') = absurd (silent g q)
    audits_same goal h (answering.Answers.replied silent r same) (answering.Answers.replied silent' r' same') = (alike.AreSame.histories goal m none h r r', same' ∙ sym (ap (served_by n) same))

    answers_same : (q : Query) → Asks s line q m → ((goal : ClosedType) × (q ≡ audit goal)) ⊎ ((goal : ClosedType) → q ≡ audit goal → ⊥)
        → Answers m q t next → Answers (served_by n m) q u next' → AreSame s n line t u × (next' ≡ served_by n next)
    answers_same q h (inl (goal, e)) a b =
        audits_same goal (subst (λ (x : Query). Asks s line x m) e h) (subst (λ (x : Query). Answers m x t next) e a) (subst (λ (x : Query). Answers (served_by n m) x u next') e b)
    answers_same q h (inr free) a b =
        let one = answer_one (served_by n m) q free t u (served_by n next) next' (answers_by n m q t next free a) b in
        (alike.AreSame.one_text one.0, sym one.1)

  answered_same : (s : Responder) (line : List ℕ) → s.held ≡ [] → (t u : List ℕ) (m k : Responder) → Answered s line t m → Answered (served_by n s) line u k → AreSame s n line t u × (k ≡ served_by n m)
  answered_same s line none t u m k (answering.Answered.misread h) (answering.Answered.misread g) =
      let one = misread_one (served_by n s) line t u (served_by n m) k (misread_by n s line t m h) g in
      (alike.AreSame.one_text one.0, sym one.1)
  answered_same s line none t u m k (answering.Answered.misread h) (answering.Answered.asked r y g b) = absurd (read_or_not (served_by n s) line r t y (served_by n m) g (misread_by n s line t m h))
  answered_same s line none t u m k (answering.Answered.asked q x h a) (answering.Answered.misread g) = absurd (read_or_not (served_by n s) line q u (served_by n x) k (asks_by n s line q x h) g)
  answered_same s line none t u m k (answering.Answered.asked q x h a) (answering.Answered.asked r y g b) =
      let one = asks_one (served_by n s) line q r (served_by n x) y (asks_by n s line q x h) g in
      let b' : Answers (served_by n x) q u k = subst (λ (z : Responder). Answers z q u k) (sym one.1) (subst (λ (p : Query). Answers y p u k) (sym one.0) b) in
      answers_same s line x t u m k none q h (audit_or_not q) a b'

  -- A LINE
  module _ (s : Responder) (distinct : IsDistinct bytes_eq s.components) where
    held_same : (first first' : List ℕ) (inside inside' more : List (List ℕ)) (t u : List ℕ) (m k : Responder) → s.held ≡ first ∷ inside → s.held ≡ first' ∷ inside'
        → Verified (holding s []) first (inside ++ more) t m → Verified (holding (served_by n s) []) first' (inside' ++ more) u k → (t ≡ u) × (k ≡ served_by n m)
    held_same first first' inside inside' more t u m k e f h g =
        let one = held_one (served_by n s) distinct first first' inside inside' more t u (served_by n m) k e f (verified_by n (holding s []) first (inside ++ more) t m h) g in
        (one.0, sym one.1)

    -- the same text, and the same responder but for the number of workers
    abbrev Same : List ℕ → List ℕ → List ℕ → Responder → Responder → Type 0
    Same line t u m k = AreSame s n line t u × (k ≡ served_by n m)

    plain : (line t u : List ℕ) (m k : Responder) → (t ≡ u) × (k ≡ served_by n m) → Same line t u m k
    plain line t u m k e = (alike.AreSame.one_text e.0, e.1)

    pub goes_same : (line t u : List ℕ) (m k : Responder) → Goes s line t m → Goes (served_by n s) line u k → Same line t u m k
    goes_same line t u m k (lines.Goes.skips e a p c) (lines.Goes.skips f b q d) = plain line t u m k (p ∙ sym q, d ∙ sym (ap (served_by n) c))
    goes_same line t u m k (lines.Goes.skips e a p c) (lines.Goes.asks f b w) = absurd (b.unskipped a)
    goes_same line t u m k (lines.Goes.skips e a p c) (lines.Goes.changes f b w) = absurd (skipped_changes line a b)
    goes_same line t u m k (lines.Goes.skips e a p c) (lines.Goes.opens f b q d) = absurd (skipped_opens line a b)
    goes_same line t u m k (lines.Goes.skips e a p c) (lines.Goes.holds y ys f b q d) = absurd (nil_cons s.held y ys e f)
    goes_same line t u m k (lines.Goes.skips e a p c) (lines.Goes.ends y ys f b w) = absurd (nil_cons s.held y ys e f)
    goes_same line t u m k (lines.Goes.asks e a v) (lines.Goes.skips f b q d) = absurd (a.unskipped b)
    goes_same line t u m k (lines.Goes.asks e a v) (lines.Goes.asks f b w) = answered_same s line e t u m k v w
    goes_same line t u m k (lines.Goes.asks e a v) (lines.Goes.changes f b w) = absurd (a.unchanging b)
    goes_same line t u m k (lines.Goes.asks e a v) (lines.Goes.opens f b q d) = absurd (a.closed b)
    goes_same line t u m k (lines.Goes.asks e a v) (lines.Goes.holds y ys f b q d) = absurd (nil_cons s.held y ys e f)
    goes_same line t u m k (lines.Goes.asks e a v) (lines.Goes.ends y ys f b w) = absurd (nil_cons s.held y ys e f)
    goes_same line t u m k (lines.Goes.changes e a v) (lines.Goes.skips f b q d) = absurd (skipped_changes line b a)
    goes_same line t u m k (lines.Goes.changes e a v) (lines.Goes.asks f b w) = absurd (b.unchanging a)
    goes_same line t u m k (lines.Goes.changes e a v) (lines.Goes.changes f b w) = plain line t u m k (changed_same n s line t u m k v w)
    goes_same line t u m k (lines.Goes.changes e a v) (lines.Goes.opens f b q d) = absurd (opens_changes line b a)
    goes_same line t u m k (lines.Goes.changes e a v) (lines.Goes.holds y ys f b q d) = absurd (nil_cons s.held y ys e f)
    goes_same line t u m k (lines.Goes.changes e a v) (lines.Goes.ends y ys f b w) = absurd (nil_cons s.held y ys e f)
    goes_same line t u m k (lines.Goes.opens e a p c) (lines.Goes.skips f b q d) = absurd (skipped_opens line b a)
    goes_same line t u m k (lines.Goes.opens e a p c) (lines.Goes.asks f b w) = absurd (b.closed a)
    goes_same line t u m k (lines.Goes.opens e a p c) (lines.Goes.changes f b w) = absurd (opens_changes line a b)
    goes_same line t u m k (lines.Goes.opens e a p c) (lines.Goes.opens f b q d) = plain line t u m k (p ∙ sym q, d ∙ sym (ap (served_by n) c))
    goes_same line t u m k (lines.Goes.opens e a p c) (lines.Goes.holds y ys f b q d) = absurd (nil_cons s.held y ys e f)
    goes_same line t u m k (lines.Goes.opens e a p c) (lines.Goes.ends y ys f b w) = absurd (nil_cons s.held y ys e f)
    goes_same line t u m k (lines.Goes.holds x xs e a p c) (lines.Goes.skips f b q d) = absurd (nil_cons s.held x xs f e)
    goes_same line t u m k (lines.Goes.holds x xs e a p c) (lines.Goes.asks f b w) = absurd (nil_cons s.held x xs f e)
    goes_same line t u m k (lines.Goes.holds x xs e a p c) (lines.Goes.changes f b w) = absurd (nil_cons s.held x xs f e)
    goes_same line t u m k (lines.Goes.holds x xs e a p c) (lines.Goes.opens f b q d) = absurd (nil_cons s.held x xs f e)
    goes_same line t u m k (lines.Goes.holds x xs e a p c) (lines.Goes.holds y ys f b q d) =
        plain line t u m k (p ∙ sym q, d ∙ (sym (holds_one (served_by n s) distinct line x y xs ys e f) ∙ sym (ap (served_by n) c)))
    goes_same line t u m k (lines.Goes.holds x xs e a p c) (lines.Goes.ends y ys f b w) = absurd (a b)
    goes_same line t u m k (lines.Goes.ends x xs e a v) (lines.Goes.skips f b q d) = absurd (nil_cons s.held x xs f e)
    goes_same line t u m k (lines.Goes.ends x xs e a v) (lines.Goes.asks f b w) = absurd (nil_cons s.held x xs f e)
    goes_same line t u m k (lines.Goes.ends x xs e a v) (lines.Goes.changes f b w) = absurd (nil_cons s.held x xs f e)
    goes_same line t u m k (lines.Goes.ends x xs e a v) (lines.Goes.opens f b q d) = absurd (nil_cons s.held x xs f e)
    goes_same line t u m k (lines.Goes.ends x xs e a v) (lines.Goes.holds y ys f b q d) = absurd (b a)
    goes_same line t u m k (lines.Goes.ends x xs e a v) (lines.Goes.ends y ys f b w) = plain line t u m k (held_same x y xs ys (line ∷ []) t u m k e f v w)

    -- THE END
    whole : (x : Responder) (first : List ℕ) (inside : List (List ℕ)) (text : List ℕ) (m : Responder) → Verified (holding x []) first inside text m → Verified (holding x []) first (inside ++ []) text m
    whole x first inside text m h = subst (λ (ls : List (List ℕ)). Verified (holding x []) first ls text m) (sym (append-nil inside)) h

    pub ends_same : (t u : List ℕ) → Ends s t → Ends (served_by n s) u → t ≡ u
    ends_same t u (lines.Ends.free e p) (lines.Ends.free f q) = p ∙ sym q
    ends_same t u (lines.Ends.free e p) (lines.Ends.held y ys k f w) = absurd (nil_cons s.held y ys e f)
    ends_same t u (lines.Ends.held x xs m e v) (lines.Ends.free f q) = absurd (nil_cons s.held x xs f e)
    ends_same t u (lines.Ends.held x xs m e v) (lines.Ends.held y ys k f w) =
        (held_same x y xs ys [] t u m k e f (whole s x xs t m v) (whole (served_by n s) y ys u k w)).0
