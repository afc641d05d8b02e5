-- No two components that lines declare have one name.
use Rattle.std.proofs.Common.{ℕ, ◌≡◌, ◌+◌, false, List, [], ◌∷◌, ◌++◌, sym, subst, refl, inl, inr, codes, Contains}
use Rattle.std.specs.List.{IsDistinct, AllByRecursion}
use Rattle.std.specs.Str.{bytes_eq}
use Rattle.std.proofs.lemmas.Bool.{false_from_ne_true}
use Rattle.std.proofs.lemmas.Slice.Eq.{bytes_eq-Decides}
use Rattle.cls_base.specs.Firsts.{First, IsSilent}
use Rattle.cls_base.proofs.Lists.{Contains-head, Contains-later}
use Rattle.cls_query.proofs.FirstErrors.{each_silent}
use Rattle.cls_repo.specs.Declarations.{Declares}
use Rattle.cls_repo.specs.Directives.{Directive, sub, kind, comp, text, end, cost, variance, filter, leaf, app, other}
use Rattle.cls_repo.specs.Drafts.{Draft}
use Rattle.cls_repo.specs.LineFaults.{directive_faults, line_faults}
use Rattle.cls_repo.specs.Readings.{Reading, Takes, skipped, declares, TakesAll}

-- one text more, which is new
pub distinct_push : (xs : List (List ℕ)) (x : List ℕ) → IsDistinct bytes_eq xs → (Contains xs x → ⊥) → IsDistinct bytes_eq (xs ++ x ∷ [])
unfolding IsDistinct
distinct_push [] x d n = (tt, tt)
distinct_push (y ∷ xs) x d n = (
  apart xs d.0 (false_from_ne_true (bytes_eq y x) (λ e. n (Contains-head x y xs (sym ((bytes_eq-Decides y x).0 e))))),
  distinct_push xs x d.1 (λ c. n (Contains-later x y xs c)),
)
  where
    apart : (zs : List (List ℕ)) → AllByRecursion (λ z. bytes_eq y z ≡ false) zs → bytes_eq y x ≡ false → AllByRecursion (λ z. bytes_eq y z ≡ false) (zs ++ x ∷ [])
    apart [] h e = (e, tt)
    apart (z ∷ zs) h e = (h.0, apart zs h.1 e)

abbrev pub AreNamedApart : Draft → Type 0
AreNamedApart d = IsDistinct bytes_eq d.component_names

declared_apart : (d : Draft) (n : ℕ) (line : List ℕ) (said : Directive) (new : Draft) → IsSilent (First (directive_faults d line said)) → Declares d n line said new → AreNamedApart d → AreNamedApart new
declared_apart d n line (sub a b) new f e h = subst AreNamedApart (sym e) h
declared_apart d n line (kind x ts) new f (types, choices, e) h = subst AreNamedApart (sym e) h
declared_apart d n line (comp x t) new f e h =
    subst AreNamedApart (sym e) (distinct_push d.component_names x h (λ c. (each_silent (directive_faults d line (comp x t)) f).1.0 (codes "duplicate-component " ++ x) (c, refl)))
declared_apart d n line (text x ws) new f (pieces, template, e) h = subst AreNamedApart (sym e) h
declared_apart d n line end new f e h = subst AreNamedApart (sym e) h
declared_apart d n line (cost x digits) new f e h = subst AreNamedApart (sym e) h
declared_apart d n line (variance c word) new f e h = subst AreNamedApart (sym e) h
declared_apart d n line (filter g q qs) new f e h = subst AreNamedApart (sym e) h
declared_apart d n line (leaf g x q) new f e h = subst AreNamedApart (sym e) h
declared_apart d n line (app g p q r) new f e h = subst AreNamedApart (sym e) h
declared_apart d n line (other g q) new f e h = subst AreNamedApart (sym e) h

pub taken_apart : (old : Reading) (line : List ℕ) (new : Reading) → Takes old line new → AreNamedApart old.draft → AreNamedApart new.draft
taken_apart old line new (skipped s e) h = subst (λ (r : Reading). AreNamedApart r.draft) (sym e) h
taken_apart old line new (declares said says silent draft d e) h =
    subst (λ (r : Reading). AreNamedApart r.draft) (sym e)
    (declared_apart old.draft (old.lines + 1) line said draft (λ words w. (each_silent (line_faults old.draft line) silent).1.1.1.1.1.0 words (said, says, w)) d h)

pub all_apart : (old : Reading) (lines : List (List ℕ)) (new : Reading) → TakesAll old lines new → AreNamedApart old.draft → AreNamedApart new.draft
all_apart old [] new e h = subst (λ (r : Reading). AreNamedApart r.draft) (sym e) h
all_apart old (line ∷ lines) new (next, t, inl (ended, e)) h = subst (λ (r : Reading). AreNamedApart r.draft) (sym e) (taken_apart old line next t h)
all_apart old (line ∷ lines) new (next, t, inr (going, rest)) h = all_apart next lines new rest (taken_apart old line next t h)
