-- Lines begin with one repository, or they have one first fault, or neither.
use Rattle.std.proofs.Common.{ℕ, ◌≡◌, ◌+◌, true, false, List, [], ◌∷◌, ◌++◌, length, refl, sym, ◌∙◌, ap, subst, inl, inr, arith}
use Rattle.std.specs.List.{IsDistinct}
use Rattle.std.specs.Str.{bytes_eq}
use Rattle.cls_base.specs.Firsts.{First, IsSilent, IsDetermined}
use Rattle.cls_repo.specs.Drafts.{Draft}
use Rattle.cls_repo.specs.Readings.{Reading, no_reading, Takes, skipped, declares, TakesAll, FirstFault, closing_faults}
use Rattle.cls_repo.proofs.OneReading.{takes_all_one, first_fault_one, closing_of, taken_or_refused}
use Rattle.cls_session.specs.Repositories.{AreTaken, IsRepository, IsFirstFault}
use Rattle.cls_session.specs.Repositories as repositories
use Rattle.cls_session.proofs.ComponentNames.{AreNamedApart, all_apart}

differ : (r r' : Reading) → r ≡ r' → r.ended ≡ true → r'.ended ≡ false → ⊥
differ r r' e f g = let h : r.ended ≡ r'.ended = ap (λ (x : Reading). x.ended) e in cc

-- the next line alone
one_taken : (old : Reading) (line : List ℕ) (new : Reading) → Takes old line new → TakesAll old (line ∷ []) new
one_taken old line new t = (elim (new.ended) as (λ b. new.ended ≡ b → TakesAll old (line ∷ []) new) [
  | true ↦ λ e. (new, t, inl (e, refl))
  | false ↦ λ e. (new, t, inr (e, refl))
]) refl

one_next : (old : Reading) (line : List ℕ) (a b : Reading) → Takes old line a → Takes old line b → a ≡ b
one_next old line a b p q = takes_all_one old (line ∷ []) a b (one_taken old line a p) (one_taken old line b q)

-- BEHIND LINES THAT ARE TAKEN
module _ (rest : List (List ℕ)) (reading : Reading) (going : reading.ended ≡ false) where
  -- they go on as the reading goes on
  taken_behind : (old : Reading) (before : List (List ℕ)) (new : Reading) → TakesAll old before reading → TakesAll reading rest new → TakesAll old (before ++ rest) new
  taken_behind old [] new e h = subst (λ (r : Reading). TakesAll r rest new) e h
  taken_behind old (line ∷ before) new (next, t, inl (ended, e)) h = absurd (differ next reading (sym e) ended going)
  taken_behind old (line ∷ before) new (next, t, inr (on, hs)) h = (next, t, inr (on, taken_behind next before new hs h))

  pub fault_behind : (old : Reading) (before : List (List ℕ)) (said : ℕ × List ℕ) → TakesAll old before reading → FirstFault reading rest said → FirstFault old (before ++ rest) said
  fault_behind old [] said e h = subst (λ (r : Reading). FirstFault r rest said) e h
  fault_behind old (line ∷ before) said (next, t, inl (ended, e)) h = absurd (differ next reading (sym e) ended going)
  fault_behind old (line ∷ before) said (next, t, inr (on, hs)) h = inr (next, t, inr (on, fault_behind next before said hs h))

  rest_taken : (old : Reading) (before : List (List ℕ)) (new : Reading) → TakesAll old before reading → TakesAll old (before ++ rest) new → TakesAll reading rest new
  rest_taken old [] new e h = subst (λ (r : Reading). TakesAll r rest new) (sym e) h
  rest_taken old (line ∷ before) new (next, t, inl (ended, e)) h = absurd (differ next reading (sym e) ended going)
  rest_taken old (line ∷ before) new (next, t, inr (on, hs)) (next', t', inl (ended, e)) = absurd (differ next' next (one_next old line next' next t' t) ended on)
  rest_taken old (line ∷ before) new (next, t, inr (on, hs)) (next', t', inr (on', ks)) =
      rest_taken next before new hs (subst (λ (r : Reading). TakesAll r (before ++ rest) new) (one_next old line next' next t' t) ks)

-- the number of lines
taken_count : (old : Reading) (line : List ℕ) (new : Reading) → Takes old line new → new.lines ≡ old.lines + 1
taken_count old line new (skipped s e) = ap (λ (r : Reading). r.lines) e
taken_count old line new (declares said says silent draft d e) = ap (λ (r : Reading). r.lines) e

all_count : (old : Reading) (lines : List (List ℕ)) (new : Reading) → new.ended ≡ false → TakesAll old lines new → new.lines ≡ old.lines + length lines
all_count old [] new going e = omega (arith, ap (λ (r : Reading). r.lines) e)
all_count old (line ∷ lines) new going (next, t, inl (ended, e)) = absurd (differ next new (sym e) ended going)
all_count old (line ∷ lines) new going (next, t, inr (on, hs)) =
    omega (arith, all_count next lines new going hs, taken_count old line next t)

-- Lines are read up to the end of a repository with so many lines, which declares this.
pub record IsReadUp (lines : List (List ℕ)) (count : ℕ) (d : Draft) : Type 0 where
  pub reading : Reading
  pub taken : TakesAll no_reading lines reading
  pub ended : reading.ended ≡ true
  pub silent : IsSilent (First (closing_faults reading))
  pub counted : reading.lines ≡ count
  pub declared : d ≡ reading.draft

pub read_up : (lines repository queries : List (List ℕ)) (end : List ℕ) (d : Draft) → lines ≡ repository ++ end ∷ queries → IsRepository repository end d → IsReadUp lines (length repository + 1) d
read_up lines repository queries end d split h =
    let old = h.before in
    let count = all_count no_reading repository old h.taken.unended h.taken.taken in
    let next = taken_count old end h.reading h.ends in
    record {
      reading = h.reading;
      taken = subst (λ (ls : List (List ℕ)). TakesAll no_reading ls h.reading) (sym split) (taken_behind (end ∷ queries) old h.taken.unended no_reading repository h.reading h.taken.taken (h.reading, h.ends, inl (h.ended, refl)));
      ended = h.ended;
      silent = h.faultless;
      counted = omega (arith, count, next);
      declared = h.declares;
    }

-- it is one repository
pub one_read : (lines : List (List ℕ)) (n m : ℕ) (d e : Draft) → IsReadUp lines n d → IsReadUp lines m e → (n ≡ m) × (d ≡ e)
one_read lines n m d e h k =
    let same = takes_all_one no_reading lines h.reading k.reading h.taken k.taken in
    (sym h.counted ∙ (ap (λ (r : Reading). r.lines) same ∙ k.counted), h.declared ∙ (ap (λ (r : Reading). r.draft) same ∙ sym k.declared))

none_named : IsDistinct bytes_eq no_reading.draft.component_names
unfolding IsDistinct
none_named = tt

-- and has components of different names
pub read_apart : (lines : List (List ℕ)) (n : ℕ) (d : Draft) → IsReadUp lines n d → AreNamedApart d
read_apart lines n d h = subst AreNamedApart (sym h.declared) (all_apart no_reading lines h.reading h.taken none_named)

pub one_taking : (lines : List (List ℕ)) (r r' : Reading) → AreTaken lines r → AreTaken lines r' → r ≡ r'
one_taking lines r r' h k = takes_all_one no_reading lines r r' h.taken k.taken

-- lines of which none is `end` have no repository
pub taken_or_read : (lines : List (List ℕ)) (r : Reading) (n : ℕ) (d : Draft) → AreTaken lines r → IsReadUp lines n d → ⊥
taken_or_read lines r n d h k = differ k.reading r (takes_all_one no_reading lines k.reading r k.taken h.taken) k.ended h.unended

-- THE FIRST FAULT
fault_of : (lines : List (List ℕ)) (said : ℕ × List ℕ) → IsFirstFault lines said → FirstFault no_reading lines said
fault_of lines said (repositories.IsFirstFault.of_line before after line reading split t r) =
    subst (λ (ls : List (List ℕ)). FirstFault no_reading ls said) (sym split) (fault_behind (line ∷ after) reading t.unended no_reading before said t.taken (inl r))
fault_of lines said (repositories.IsFirstFault.of_repository before after end reading ended split t k is f) =
    subst (λ (ls : List (List ℕ)). FirstFault no_reading ls said) (sym split) (fault_behind (end ∷ after) reading t.unended no_reading before said t.taken (inr (ended, k, inl (is, f))))

pub one_fault : (lines : List (List ℕ)) → IsDetermined (IsFirstFault lines)
one_fault lines said other h k = first_fault_one no_reading lines said other (fault_of lines said h) (fault_of lines other k)

pub fault_or_read : (lines : List (List ℕ)) (said : ℕ × List ℕ) (n : ℕ) (d : Draft) → IsFirstFault lines said → IsReadUp lines n d → ⊥
fault_or_read lines said n d h k = k.silent said (closing_of no_reading lines k.reading said k.taken (fault_of lines said h))

pub fault_or_taken : (lines : List (List ℕ)) (said : ℕ × List ℕ) (r : Reading) → IsFirstFault lines said → AreTaken lines r → ⊥
fault_or_taken lines said r (repositories.IsFirstFault.of_line before after line reading split t f) h =
    let k = rest_taken (line ∷ after) reading t.unended no_reading before r t.taken (subst (λ (ls : List (List ℕ)). TakesAll no_reading ls r) split h.taken) in
    taken_or_refused reading line k.0 said k.1 f
fault_or_taken lines said r (repositories.IsFirstFault.of_repository before after end reading ended split t e is f) h =
    ends (rest_taken (end ∷ after) reading t.unended no_reading before r t.taken (subst (λ (ls : List (List ℕ)). TakesAll no_reading ls r) split h.taken))
  where
    ends : TakesAll reading (end ∷ after) r → ⊥
    ends (next, k, inl (over, same)) = differ next r (sym same) over h.unended
    ends (next, k, inr (on, ks)) = differ ended next (one_next reading end ended next e k) is on
