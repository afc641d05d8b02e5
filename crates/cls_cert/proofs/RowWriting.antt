-- How the rows of a certificate are written, row after row.
use Rattle.std.proofs.Common.{◌≡◌, ◌∙◌, ℕ, ◌+◌, ◌<◌, ◌≤◌, List, ◌++◌, length, drop, get_or, ap, sym, append_assoc, append-nil}
use Rattle.std.proofs.lemmas.List.{drop_more, drop_all}
use Rattle.cls_path.specs.Paths.{Paths}
use Rattle.cls_proof.specs.Texts.{row_text}
use Rattle.cls_cert.specs.declared.rows.MadeRow.{MadeRow}
use Rattle.cls_cert.specs.Left.{row_for, rows_text}

module _ (names components : List (List ℕ)) (goals : List Paths) where
  pub row_next : (rows : List MadeRow) (i : ℕ) (row : MadeRow) (before new all : List ℕ) → row ≡ get_or rows i row → i < length rows → new ≡ before ++ row_text names components (row_for goals row)
      → before ++ rows_text names components goals (drop i rows) ≡ all → new ++ rows_text names components goals (drop (i + 1) rows) ≡ all
  row_next rows i row before new all is less written so_far =
      let others = rows_text names components goals (drop (i + 1) rows) in
      let first : row_text names components (row_for goals row) ≡ row_text names components (row_for goals (get_or rows i row)) = ap (λ (r : MadeRow). row_text names components (row_for goals r)) is in
      ap (λ (v : List ℕ). v ++ others) (written ∙ ap (λ (v : List ℕ). before ++ v) first)
      ∙ (append_assoc before (row_text names components (row_for goals (get_or rows i row))) others
      ∙ (ap (λ (rs : List MadeRow). before ++ rows_text names components goals rs) (sym (drop_more rows i row less)) ∙ so_far))

  -- the last line is written
  pub rows_done : (rows : List MadeRow) (next : ℕ) (t u v last rest : List ℕ) → length rows ≤ next → v ≡ u ++ last → u ++ rows_text names components goals (drop next rows) ≡ t ++ rest → v ≡ t ++ (rest ++ last)
  rows_done rows next t u v last rest over w so_far =
      w
      ∙ (ap (λ (x : List ℕ). x ++ last) (sym (append-nil u) ∙ (ap (λ (rs : List MadeRow). u ++ rows_text names components goals rs) (sym (drop_all next rows over)) ∙ so_far))
      ∙ append_assoc t rest last)
