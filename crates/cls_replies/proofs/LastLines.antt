-- A line that begins with another byte than `qed` doesn't end a certificate.
use Rattle.std.proofs.Common.{◌≡◌, ◌∙◌, ℕ, List, [], ◌∷◌, Some, true, refl, ap, sym, codes, slice_get}
use Rattle.std.proofs.lemmas.Slice.Eq.{bytes_eq-Decides}
use Rattle.cls_lexer.specs.Skipped.{first_byte}
use Rattle.cls_lexer.specs.Words.{Word, words_of, omega, name, number, sign}
use Rattle.cls_lexer.proofs.FirstBytes.{name_byte}
use Rattle.cls_replies.specs.LineKinds.{is_alone, IsQed}

by_words : (line : List ℕ) (ws : List Word) → words_of line ≡ ws → is_alone (codes "qed") ws ≡ true → first_byte line ≡ Some 113
by_words line [] e h = absurd cc
by_words line (omega ∷ []) e h = absurd cc
by_words line (name x ∷ []) e h = name_byte line x [] e ∙ ap (λ (y : List ℕ). slice_get y 0) (sym ((bytes_eq-Decides (codes "qed") x).0 h))
by_words line (number x ∷ []) e h = absurd cc
by_words line (sign kind ∷ []) e h = absurd cc
by_words line (w ∷ v ∷ ws) e h = absurd cc

pub not_qed : (line : List ℕ) → (first_byte line ≡ Some 113 → ⊥) → IsQed line → ⊥
not_qed line other h = other (by_words line (words_of line) refl h.alone)
