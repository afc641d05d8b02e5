use Rattle.std.proofs.Common.{◌≡◌, ℕ, List, [], ◌∷◌, true, false, Option, Some, ap, sym, ◌∙◌, codes, slice_get}
use Rattle.std.specs.Prelude.{◌||◌, is_ok}
use Rattle.std.proofs.lemmas.Bool.{true≢false}
use Rattle.cls_lexer.specs.Words.{Word, words_of, word_of}
use Rattle.cls_syntax.specs.Fronts.{is_word}
use Rattle.cls_query.specs.Changes.{begins_change}
use Rattle.cls_query.specs.Readable.{begins_with}
use Rattle.cls_replies.proofs.FirstWords.{another}
use Rattle.cls_replies.proofs.certificates.kind_of.Goals as goal

-- the first of the words alone decides
by_first : (x : List ℕ) (w : Word) (ws : List Word) → ◌≡◌ {A = Option Word} (Some w) (slice_get ws 0) → begins_with x ws ≡ is_word x w
by_first x w [] e = absurd cc
by_first x w (v ∷ ws) e = let same : w ≡ v = cc in ap (is_word x) (sym same)

change_by_first : (w : Word) (ws : List Word) → ◌≡◌ {A = Option Word} (Some w) (slice_get ws 0) → begins_change ws ≡ begins_change (w ∷ [])
change_by_first w ws e = λ j. by_first (codes "add") w ws e j || by_first (codes "drop") w ws e j

pub returns-then-begins_change : goal.returns-then-begins_change
returns-then-begins_change c =
    let same = rw c.in-Ok-Some.field-0-is at c.in-Ok-Some.ensures.same in
    let line = c.args.line.now in
    record {
      text = c.content.ensures.ok.0 (ap is_ok c.in-Ok-Some.is);
      begins =
          ap (λ (l : List ℕ). begins_change (words_of l)) (sym same)
          ∙ (change_by_first (word_of c.in-Some.first) (words_of c.in-Ok-Some.text.now) c.in-Some.ensures.word
          ∙ (sym c.begins_change.ensures ∙ c.if-begins_change.true));
    }

pub returns-else-begins_change : goal.returns-else-begins_change
returns-else-begins_change c =
    let same = rw c.in-Ok-Some.field-0-is at c.in-Ok-Some.ensures.same in
    let skips = rw c.in-Ok-Some.field-0-is at c.in-Ok-Some.ensures.skipped in
    record {
      unskipped = λ skipped. let none : true ≡ false = skips.1 skipped in absurd cc;
      closed = λ opens. another (codes "verify") (word_of c.in-Some.first) _ c.in-Err-word_at.ensures
          (sym (by_first (codes "verify") (word_of c.in-Some.first) (words_of c.in-Ok-Some.text.now) c.in-Some.ensures.word)
          ∙ (ap (λ (line : List ℕ). begins_with (codes "verify") (words_of line)) same ∙ opens.begins));
      unchanging = λ changes. true≢false (sym changes.begins
          ∙ (ap (λ (l : List ℕ). begins_change (words_of l)) (sym same)
          ∙ (change_by_first (word_of c.in-Some.first) (words_of c.in-Ok-Some.text.now) c.in-Some.ensures.word
          ∙ (sym c.begins_change.ensures ∙ c.if-begins_change.false))));
    }
