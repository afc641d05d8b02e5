-- The faults of the spelling of a line, and that a line without one has none.
use Rattle.cls_base.specs.Limits.{max_type_depth}
use Rattle.std.proofs.Common.{◌≡◌, ℕ, ◌-◌, ◌<◌, Bool, true, false, List, length, refl, sym, ap, ◌∙◌, subst, inl, inr}
use Rattle.std.specs.Prelude.{codes, Err, ◌&&◌}
use Rattle.std.proofs.lemmas.Bool.{true≢false}
use Rattle.cls_base.specs.Firsts.{IsSilent, First}
use Rattle.cls_lexer.specs.Tokens.{tokens_of, byte_at}
use Rattle.cls_lexer.specs.Words.{Word, words_of}
use Rattle.cls_syntax.specs.Depths.{most_open}
use Rattle.cls_syntax.specs.Faults.{stop}
use Rattle.cls_syntax.specs.LineGrammars.{grammar_read}
use Rattle.cls_syntax.specs.Sorts.{begins_reserved}
use Rattle.cls_repo.specs.Directives.{Directive, repository_rows, WordsSay, begins_word, begins_directive}
use Rattle.cls_repo.specs.LineFaults.{unknown_directive, too_deep, spelling_words}
use Rattle.cls_repo.specs.Written.{spelling_faults}
use Rattle.cls_repo.proofs.Causes.{each_silent}
use Rattle.cls_repo.proofs.Lines.{not_misspelled, stopped}

module _ (line : List ℕ) (ws : List Word) (is : ws ≡ words_of line) where
  pub unknown_first : begins_directive ws ≡ false → First (spelling_faults line) (codes "directive")
  unknown_first e = inl (ap begins_directive (sym is) ∙ e, refl)

  module _ (known : begins_directive ws ≡ true) where
    not_unknown : IsSilent (unknown_directive line)
    not_unknown words h = true≢false (sym known ∙ (ap begins_directive is ∙ h.0))

    pub deep_first : begins_word (codes "text") ws ≡ false → max_type_depth < most_open 0 0 ws → First (spelling_faults line) (codes "deep")
    deep_first t d = inr (not_unknown, inl (ap (begins_word (codes "text")) (sym is) ∙ t, subst (λ (us : List Word). max_type_depth < most_open 0 0 us) is d, refl))

    module _ (flat : (begins_word (codes "text") ws ≡ false) × (max_type_depth < most_open 0 0 ws) → ⊥) where
      not_deep : IsSilent (too_deep line)
      not_deep words h = flat (subst (λ (us : List Word). (begins_word (codes "text") us ≡ false) × (max_type_depth < most_open 0 0 us)) (sym is) (h.0, h.1))

      -- the words of the line say something
      pub spelled : (said : Directive) → WordsSay said (words_of line) → IsSilent (First (spelling_faults line))
      spelled said s = each_silent (spelling_faults line) (not_unknown, (not_deep, (not_misspelled line said s, tt)))

      -- they leave the table
      pub place_first : (rest : List Word) (b : Bool) (count : ℕ) (words : List ℕ) → count ≡ length (tokens_of line) → grammar_read repository_rows ws ≡ Err (stop rest b)
          → words ≡ spelling_words (byte_at line (count - length rest)) (b && begins_reserved rest) → First (spelling_faults line) words
      place_first rest b count words e h said = inr (not_unknown, inr (not_deep, inl (stopped line ws rest b count words is e h said)))
