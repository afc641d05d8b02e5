-- How a line is taken or refused, by what was found of it.
use Rattle.cls_base.specs.Limits.{max_line_bytes}
use Rattle.std.proofs.Common.{◌≡◌, ℕ, ◌≤◌, ◌<◌, ◌+◌, Bool, true, false, List, [], ◌∷◌, ◌++◌, length, refl, sym, ◌∙◌, subst, arith, inl, inr, IsUtf8}
use Rattle.std.specs.Prelude.{codes}
use Rattle.cls_base.specs.Firsts.{IsSilent, First}
use Rattle.cls_lexer.specs.Skipped.{IsText, IsSkipped}
use Rattle.cls_lexer.specs.Words.{words_of}
use Rattle.cls_repo.specs.declared.fault.FaultKind.{FaultKind}
use Rattle.cls_repo.specs.declared.fault.FaultKind.TheVariants.{OutOfMemory}
use Rattle.cls_repo.specs.Directives.{Directive, WordsSay, LineSays, is_end}
use Rattle.cls_repo.specs.Drafts.{Draft}
use Rattle.cls_repo.specs.FaultWords.{fault_words, OnWords, IsFirst, IsSaid, is_out_of_memory}
use Rattle.cls_repo.specs.LineFaults.{too_long, not_utf8, wrong_directive, directive_faults, line_faults}
use Rattle.cls_repo.specs.Readings.{Reading, Takes, Refuses, closing_faults}
use Rattle.cls_repo.specs.Readings as reading
use Rattle.cls_repo.specs.Written.{spelling_faults, TakesDirective, TakesLine, RefusesLine}
use Rattle.cls_repo.specs.Written as written
use Rattle.cls_repo.proofs.Causes.{silent_cons, none_silent, in_front, behind, both_silent}
use Rattle.cls_repo.specs.declared.fault.RepoFault.{RepoFault}
use Rattle.cls_repo.specs.EndFaults.{end_faults}
use Rattle.cls_repo.proofs.Endings.{ended_first}
use Rattle.cls_repo.proofs.Lines.{said_one}

-- what follows from the words of a fault
pub on_words : (P Q : List ℕ → Type 0) → ((words : List ℕ) → P words → Q words) → (kind : FaultKind) → OnWords P kind → OnWords Q kind
on_words P Q f OutOfMemory h = tt
on_words P Q f _ h = f _ h

-- what would make a content none can't be
pub told : {S : Type 0} → (S → true ≡ false) → S → ⊥
told h s = let e = h s in absurd (cc)

-- the words of a fault that isn't out of memory
pub on_said : (P : List ℕ → Type 0) (kind : FaultKind) → P (fault_words kind) → OnWords P kind
on_said P OutOfMemory h = tt
on_said P _ h = h

pub words_of_fault : (P : List ℕ → Type 0) (kind : FaultKind) → is_out_of_memory kind ≡ false → OnWords P kind → P (fault_words kind)
words_of_fault P OutOfMemory e h = let k : true ≡ false = e in absurd (cc)
words_of_fault P _ e h = h

module _ (d : Draft) (line : List ℕ) where
  pub long_first : max_line_bytes < length line → First (line_faults d line) (codes "long")
  long_first long = inl (long, refl)

  pub utf8_first : length line ≤ max_line_bytes → (IsUtf8 line → ⊥) → First (line_faults d line) (codes "utf8")
  utf8_first few none = inr ((λ words h. let many = h.0 in absurd (omega arith)), inl (none, refl))

  module _ (text : IsText line) where
    not_long : IsSilent (too_long line)
    not_long words h = let many = h.0 in let few = text.0 in absurd (omega arith)

    is_utf8 : IsSilent (not_utf8 line)
    is_utf8 words h = h.0 text.1

    -- a fault of the spelling
    pub spelling_first : (words : List ℕ) → First (spelling_faults line) words → First (line_faults d line) words
    spelling_first words h = inr (not_long, inr (is_utf8, in_front (spelling_faults line) (wrong_directive d line ∷ []) words h))

    module _ (unskipped : IsSkipped line → ⊥) (said : Directive) (says : WordsSay said (words_of line)) (spelled : IsSilent (First (spelling_faults line))) where
      pub line_says : LineSays line said
      line_says = record { text = text; unskipped = unskipped; says = says }

      -- a fault of what the line says
      pub wrong_first : (words : List ℕ) → First (directive_faults d line said) words → First (line_faults d line) words
      wrong_first words h = inr (not_long, inr (is_utf8, behind (spelling_faults line) (wrong_directive d line ∷ []) words spelled (inl (said, line_says, h))))

      right : IsSilent (First (directive_faults d line said)) → IsSilent (wrong_directive d line)
      right s words h = s words (subst (λ (e : Directive). First (directive_faults d line e) words) (said_one (words_of line) h.0 said h.1.says says) h.2)

      pub line_silent : IsSilent (First (directive_faults d line said)) → IsSilent (First (line_faults d line))
      line_silent s =
          let later = both_silent (spelling_faults line) (wrong_directive d line ∷ []) spelled (silent_cons (wrong_directive d line) [] (right s) none_silent) in
          silent_cons (too_long line) (not_utf8 line ∷ (spelling_faults line ++ wrong_directive d line ∷ [])) not_long (silent_cons (not_utf8 line) (spelling_faults line ++ wrong_directive d line ∷ []) is_utf8 later)

      pub line_taken : (n : ℕ) (new : Draft) → TakesDirective d n line said new → TakesLine d n line new (is_end said)
      line_taken n new t = written.declares said line_says (line_silent t.silent) t.declared refl

  -- the line is at fault before it is read
  pub long_refused : max_line_bytes < length line → RefusesLine d line (codes "long")
  long_refused long = record { unskipped = λ s. (let few = s.0.0 in absurd (omega (arith, long, few))); first = long_first long }

  pub utf8_refused : length line ≤ max_line_bytes → (IsUtf8 line → ⊥) → RefusesLine d line (codes "utf8")
  utf8_refused few none = record { unskipped = λ s. none s.0.1; first = utf8_first few none }

  module _ (text : IsText line) (unskipped : IsSkipped line → ⊥) where
    -- or in its spelling
    pub spelling_refused : (kind : FaultKind) → IsFirst (spelling_faults line) kind → OnWords (RefusesLine d line) kind
    spelling_refused kind h = on_words (First (spelling_faults line)) (RefusesLine d line) (λ words first. record { unskipped = unskipped; first = spelling_first text words first }) kind h

    -- or in what it says
    pub wrong_refused : (said : Directive) → WordsSay said (words_of line) → IsSilent (First (spelling_faults line)) → (kind : FaultKind) → IsFirst (directive_faults d line said) kind → OnWords (RefusesLine d line) kind
    wrong_refused said says spelled kind h = on_words (First (directive_faults d line said)) (RefusesLine d line) (λ words first. record { unskipped = unskipped; first = wrong_first text unskipped said says spelled words first }) kind h

-- the reader's line
pub taken : (old : Reading) (line : List ℕ) (new : Draft) (ended : Bool) → old.ended ≡ false → TakesLine old.draft (old.lines + 1) line new ended → Takes old line (record { draft = new; lines = old.lines + 1; ended = ended })
taken old line new ended going (written.skipped s d e) = reading.skipped s (λ i. record { draft = d i; lines = old.lines + 1; ended = (e ∙ sym going) i })
taken old line new ended going (written.declares said says silent d e) = reading.declares said says silent new d (λ i. record { draft = new; lines = old.lines + 1; ended = e i })

pub refused : (old : Reading) (line words : List ℕ) (n : ℕ) → n ≡ old.lines + 1 → RefusesLine old.draft line words → Refuses old line (n, words)
refused old line words n e r = record { unskipped = r.unskipped; number = e; first = r.first }

-- the reader's fault
pub said_refused : (old : Reading) (line : List ℕ) (kind : FaultKind) (n : ℕ) → n ≡ old.lines + 1 → OnWords (RefusesLine old.draft line) kind → OnWords (λ words. Refuses old line (n, words)) kind
said_refused old line kind n e h = on_words (RefusesLine old.draft line) (λ words. Refuses old line (n, words)) (λ words r. refused old line words n e r) kind h

pub ended_said : (r : Reading) (fault : RepoFault) → r.ended ≡ true → IsSaid (First (end_faults r.draft r.lines)) fault → IsSaid (First (closing_faults r)) fault
ended_said r fault e h = on_words (λ words. First (end_faults r.draft r.lines) (fault.line, words)) (λ words. First (closing_faults r) (fault.line, words)) (λ words s. ended_first r (fault.line, words) e s) fault.kind h
