-- The first fault of lines by the reader of repositories, and by a session.
use Rattle.std.proofs.Common.{ℕ, ◌≡◌, true, false, List, [], ◌∷◌, ◌++◌, refl, sym, ap, subst, inl, inr, ◌⊎◌}
use Rattle.std.specs.Prelude.{codes}
use Rattle.cls_base.specs.Firsts.{First}
use Rattle.cls_repo.specs.Readings.{Reading, no_reading, Takes, TakesAll, Refuses, FirstFault, closing_faults}
use Rattle.cls_session.specs.Repositories.{IsFirstFault, of_line, of_repository, IsWithoutEnd}
use Rattle.cls_session.specs.Laws.{FaultsAgree}
use Rattle.cls_session.proofs.OneRepository.{fault_behind}

-- WHERE A FAULT STANDS, OF LINES THAT FOLLOW ONES THAT WERE READ
pub data Faulty (old : Reading) (lines : List (List ℕ)) (said : ℕ × List ℕ) : Type 0 where
  at_line :
      (before after : List (List ℕ)) (line : List ℕ) (reading : Reading) → lines ≡ before ++ line ∷ after → TakesAll old before reading
      → reading.ended ≡ false → Refuses reading line said → Faulty old lines said
  at_end :
      (before after : List (List ℕ)) (line : List ℕ) (reading ended : Reading) → lines ≡ before ++ line ∷ after → TakesAll old before reading
      → reading.ended ≡ false → Takes reading line ended → ended.ended ≡ true → First (closing_faults ended) said → Faulty old lines said
  missing : (reading : Reading) → TakesAll old lines reading → reading.ended ≡ false → said ≡ (reading.lines, codes "no-end") → Faulty old lines said

further : (old next : Reading) (line : List ℕ) (lines : List (List ℕ)) (said : ℕ × List ℕ) → Takes old line next → next.ended ≡ false
    → Faulty next lines said → Faulty old (line ∷ lines) said
further old next line lines said t on (at_line before after bad reading e h going r) =
    at_line (line ∷ before) after bad reading (ap (λ ls. line ∷ ls) e) (next, t, inr (on, h)) going r
further old next line lines said t on (at_end before after end reading ended e h going u f first) =
    at_end (line ∷ before) after end reading ended (ap (λ ls. line ∷ ls) e) (next, t, inr (on, h)) going u f first
further old next line lines said t on (missing reading h going words) = missing reading (next, t, inr (on, h)) going words

found : (old : Reading) (lines : List (List ℕ)) (said : ℕ × List ℕ) → old.ended ≡ false → FirstFault old lines said → Faulty old lines said
found old [] said going (inl h) = missing old refl going h.1
found old [] said going (inr h) = absurd (h.0 (old.lines, codes "no-end") (going, refl))
found old (line ∷ lines) said going (inl r) = at_line [] lines line old refl refl going r
found old (line ∷ lines) said going (inr (next, t, inl (f, first))) = at_end [] lines line old next refl refl going t f first
found old (line ∷ lines) said going (inr (next, t, inr (on, h))) = further old next line lines said t on (found next lines said on h)

said_of : (lines : List (List ℕ)) (said : ℕ × List ℕ) → Faulty no_reading lines said → IsFirstFault lines said ⊎ IsWithoutEnd lines said
said_of lines said (at_line before after line reading e h going r) =
    inl (of_line before after line reading e (record { taken = h; unended = going }) r)
said_of lines said (at_end before after end reading ended e h going t f first) =
    inl (of_repository before after end reading ended e (record { taken = h; unended = going }) t f first)
said_of lines said (missing reading h going words) =
    inr (record { reading = reading; taken = record { taken = h; unended = going }; words = words })

-- THE OTHER WAY
unended : (reading : Reading) (said : ℕ × List ℕ) → reading.ended ≡ false → said ≡ (reading.lines, codes "no-end") → FirstFault reading [] said
unended reading said going words = inl (going, words)

first_of : (lines : List (List ℕ)) (said : ℕ × List ℕ) → IsFirstFault lines said → FirstFault no_reading lines said
first_of lines said (of_line before after line reading e taken r) =
    subst (λ ls. FirstFault no_reading ls said) (sym e) (fault_behind (line ∷ after) reading taken.unended no_reading before said taken.taken (inl r))
first_of lines said (of_repository before after end reading ended e taken t f first) =
    subst (λ ls. FirstFault no_reading ls said) (sym e)
    (fault_behind (end ∷ after) reading taken.unended no_reading before said taken.taken (inr (ended, t, inl (f, first))))

append-none : (ls : List (List ℕ)) → ls ++ [] ≡ ls
append-none [] = refl
append-none (l ∷ ls) = ap (λ k. l ∷ k) (append-none ls)

first_without : (lines : List (List ℕ)) (said : ℕ × List ℕ) → IsWithoutEnd lines said → FirstFault no_reading lines said
first_without lines said w =
    subst (λ ls. FirstFault no_reading ls said) (append-none lines)
    (fault_behind [] w.reading w.taken.unended no_reading lines said w.taken.taken (unended w.reading said w.taken.unended w.words))

either : (lines : List (List ℕ)) (said : ℕ × List ℕ) → IsFirstFault lines said ⊎ IsWithoutEnd lines said → FirstFault no_reading lines said
either lines said (inl f) = first_of lines said f
either lines said (inr w) = first_without lines said w

pub faults_agree : FaultsAgree
faults_agree lines said = (λ h. said_of lines said (found no_reading lines said refl h), either lines said)
