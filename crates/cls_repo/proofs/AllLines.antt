-- Lines that are read one after another.
use Rattle.std.proofs.Common.{◌≡◌, ℕ, ◌+◌, ◌<◌, ◌^◌, true, false, List, [], ◌∷◌, length, drop, get_or, refl, sym, ap, ◌∙◌, subst, arith, inl, inr}
use Rattle.std.proofs.lemmas.List.{drop_more}
use Rattle.cls_base.specs.Firsts.{First}
use Rattle.cls_repo.specs.Readings.{Reading, Takes, skipped, declares, Refuses, TakesAll, FirstFault, closing_faults}

-- Some lines were taken, none of them `end`, and the rest is left.
pub record IsGoing (start : Reading) (lines : List (List ℕ)) (now : Reading) (rest : List (List ℕ)) : Type 0 where
  pub going : now.ended ≡ false
  pub counted : now.lines + length rest ≡ start.lines + length lines
  pub taken : (new : Reading) → TakesAll now rest new → TakesAll start lines new
  pub fault : (said : ℕ × List ℕ) → FirstFault now rest said → FirstFault start lines said

pub started : (start : Reading) (lines : List (List ℕ)) → start.ended ≡ false → IsGoing start lines start lines
started start lines e = record { going = e; counted = refl; taken = λ new h. h; fault = λ said h. h }

one_more : (old new : Reading) (line : List ℕ) → Takes old line new → new.lines ≡ old.lines + 1
one_more old new line (skipped s e) = ap (λ (r : Reading). r.lines) e
one_more old new line (declares said l s d a e) = ap (λ (r : Reading). r.lines) e

module _ (start : Reading) (lines : List (List ℕ)) (now : Reading) (line : List ℕ) (rest left : List (List ℕ)) (is : left ≡ line ∷ rest) (i : IsGoing start lines now left) where
  -- a line that doesn't end the repository is taken
  pub goes_on : (new : Reading) → Takes now line new → new.ended ≡ false → IsGoing start lines new rest
  goes_on new t e =
      let more = one_more now new line t in
      let many = i.counted in
      let long = ap length is in
      record {
        going = e;
        counted = omega (arith, more, many, long);
        taken = λ last h. i.taken last (subst (λ ls. TakesAll now ls last) (sym is) (new, t, inr (e, h)));
        fault = λ said h. i.fault said (subst (λ ls. FirstFault now ls said) (sym is) (inr (new, t, inr (e, h))));
      }

  -- the line `end`
  pub all_taken : (new : Reading) → Takes now line new → new.ended ≡ true → TakesAll start lines new
  all_taken new t e = i.taken new (subst (λ ls. TakesAll now ls new) (sym is) (new, t, inl (e, refl)))

  pub closing_fault : (new : Reading) → Takes now line new → new.ended ≡ true → (said : ℕ × List ℕ) → First (closing_faults new) said → FirstFault start lines said
  closing_fault new t e said h = i.fault said (subst (λ ls. FirstFault now ls said) (sym is) (inr (new, t, inl (e, h))))

  -- the line is at fault
  pub line_fault : (said : ℕ × List ℕ) → Refuses now line said → FirstFault start lines said
  line_fault said h = i.fault said (subst (λ ls. FirstFault now ls said) (sym is) (inl h))

  -- there is room to count the line
  pub has_room : start.lines + length lines < 2 ^ 32 → now.lines + 1 < 2 ^ 32
  has_room few = let many = i.counted in let long = ap length is in omega (arith, few, many, long)

-- no line is left
module _ (start : Reading) (lines : List (List ℕ)) (now : Reading) (left : List (List ℕ)) (is : left ≡ []) (i : IsGoing start lines now left) where
  pub last_taken : TakesAll start lines now
  last_taken = i.taken now (subst (λ ls. TakesAll now ls now) (sym is) refl)

  pub last_closing : (said : ℕ × List ℕ) → First (closing_faults now) said → FirstFault start lines said
  last_closing said h = i.fault said (subst (λ ls. FirstFault now ls said) (sym is) h)

-- the next line is taken from those that are left
pub next_line : (lines : List (List ℕ)) (i : ℕ) (line : List ℕ) → i < length lines → line ≡ get_or lines i line → drop i lines ≡ line ∷ drop (i + 1) lines
next_line lines i line l is = drop_more lines i line l ∙ ap (λ (x : List ℕ). x ∷ drop (i + 1) lines) (sym is)
