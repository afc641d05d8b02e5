-- How portions of a reply are written: lines from a place on, and behind the last place the last line.
use Rattle.std.proofs.Common.{◌≡◌, ◌∙◌, ℕ, zero, suc, ◌≤◌, List, [], ◌∷◌, ◌++◌, length, drop, ap, sym, subst, refl, arith, append_assoc, append-nil}
use Rattle.std.specs.Prelude.{codes, Result, Ok, Err, String, IfOk, OnOk, string_bytes}
use Rattle.std.specs.List.{flat_map}
use Rattle.std.proofs.lemmas.List.{drop_all}
use Rattle.cls_cert.proofs.Writing.{with_end}
use Rattle.cls_path.specs.Paths.{TypePath, listed}
use Rattle.cls_replies.specs.declared.printing.Printing.{Printing}
use Rattle.cls_replies.specs.Printing.{behind, left_of}
use Rattle.cls_replies.specs.Rests.{IsPrintingOf}
use Rattle.cls_replies.specs.Responder.{Responder}
use Rattle.cls_replies.specs.Texts.{reply_line, path_lines, paths_text}

-- no line is left, and what follows them was written
pub at_end : {A : Type 0} (shown : A → List ℕ) (xs : List A) (next : ℕ) (u t v g e : List ℕ) → length xs ≤ next → v ≡ u ++ e
    → u ++ flat_map shown (drop next xs) ≡ t ++ g → v ++ [] ≡ t ++ (g ++ e)
at_end {A} shown xs next u t v g e over w so_far =
    append-nil v
    ∙ (w
    ∙ (ap (λ (x : List ℕ). x ++ e) (sym (append-nil u) ∙ (ap (λ (ys : List A). u ++ flat_map shown ys) (sym (drop_all next xs over)) ∙ so_far))
    ∙ append_assoc t g e))

module _ (names : List (List ℕ)) (items paths : List TypePath) (same : items ≡ paths) (from place : ℕ) (t u : List ℕ) (so_far : u ++ path_lines names (listed (drop place items)) ≡ t ++ path_lines names (listed (drop from items))) where
  -- paths are written, and some are left
  pub paths_on : u ++ paths_text names (listed (drop place paths)) ≡ t ++ paths_text names (listed (drop from paths))
  paths_on =
      subst (λ (ps : List TypePath). u ++ paths_text names (listed (drop place ps)) ≡ t ++ paths_text names (listed (drop from ps))) same
      (with_end u t (path_lines names (listed (drop place items))) (path_lines names (listed (drop from items))) (reply_line (codes "done")) so_far)

  -- none is left
  pub paths_done : (v : List ℕ) → length items ≤ place → v ≡ u ++ reply_line (codes "done") → v ++ [] ≡ t ++ paths_text names (listed (drop from paths))
  paths_done v over w =
      let d = reply_line (codes "done") in
      append-nil v
      ∙ (w
      ∙ (ap (λ (x : List ℕ). x ++ d) (sym (append-nil u) ∙ (ap (λ (ps : List TypePath). u ++ path_lines names (listed ps)) (sym (drop_all place items over)) ∙ so_far))
      ∙ (append_assoc t (path_lines names (listed (drop from items))) d
      ∙ ap (λ (ps : List TypePath). t ++ paths_text names (listed (drop from ps))) same)))

-- the paths from a place on, of those that are listed
pub behind-listed : (place : ℕ) (ps : List TypePath) → behind place (listed ps) ≡ listed (drop place ps)
behind-listed zero ps = refl
behind-listed (suc place) [] = refl
behind-listed (suc place) (p ∷ ps) = behind-listed place ps

-- a text of a portion isn't empty
pub some_text : (text rest : List ℕ) → 32768 ≤ length text → text ≡ [] → rest ≡ []
some_text text rest many none = absurd (let n = ap length none in omega (arith, n, many))

-- A text that is printed already: what holds of it holds of the reply.
pub printing_as : {A E F : Type 0} (r : Result (String A) E) (o : Result Printing F) (s : Responder) (P : List ℕ → Type 0) → IsPrintingOf r o
    → IfOk r (λ text. P (string_bytes text)) → IfOk o (λ p. P (left_of s p))
printing_as (Ok text) (Ok p) s P h k = subst P (sym (h s)) k
printing_as (Ok text) (Err f) s P h k = absurd h
printing_as (Err e) (Ok p) s P h k = absurd h
printing_as (Err e) (Err f) s P h k = record {}

-- What holds in any case holds where there is a reply.
pub printing_any : {F : Type 0} (o : Result Printing F) (P : Type 0) → P → OnOk o P
printing_any (Ok p) P h = h
printing_any (Err f) P h = record {}

pub printing_ok : {A E F : Type 0} (r : Result (String A) E) (o : Result Printing F) (P : Type 0) → IsPrintingOf r o → OnOk r P → OnOk o P
printing_ok (Ok text) (Ok p) P h k = k
printing_ok (Ok text) (Err f) P h k = absurd h
printing_ok (Err e) (Ok p) P h k = absurd h
printing_ok (Err e) (Err f) P h k = record {}
