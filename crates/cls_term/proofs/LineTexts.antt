-- The text of a term, written component by component.
use Rattle.std.proofs.Common.{◌≡◌, ℕ, zero, suc, ◌+◌, ◌*◌, ◌≤◌, ◌<◌, List, [], ◌∷◌, ◌++◌, length, get_or, refl, sym, ap, ◌∙◌, arith, append_assoc, append-nil}
use Rattle.cls_base.specs.Terms.{Applicative, component, apply, length_of, head_of, argument_count, argument_codes, code_of}
use Rattle.cls_term.specs.Lines.{close_text, close_stack, mark_text, mark_stack, text_behind, stack_behind}
use Rattle.cls_term.specs.Texts.{text_of, open_text}

regroup-open : (us vs ws ys : List ℕ) → us ++ (vs ++ (ws ++ ys)) ≡ ((us ++ vs) ++ ws) ++ ys
regroup-open us vs ws ys = sym (append_assoc us vs (ws ++ ys)) ∙ sym (append_assoc (us ++ vs) ws ys)

regroup-close : (us vs ws xs ys : List ℕ) → us ++ (vs ++ ((ws ++ xs) ++ ys)) ≡ ((us ++ vs) ++ ws) ++ (xs ++ ys)
regroup-close us vs ws xs ys =
    ap (λ (v : List ℕ). us ++ (vs ++ v)) (append_assoc ws xs ys) ∙ regroup-open us vs ws (xs ++ ys)

module _ (name : ℕ → List ℕ) where
  mutual
    -- a function with arguments to come
    opened :
        (f : Applicative) (stack rest : List ℕ) (more k : ℕ)
        → text_behind name stack (length_of f + k) (head_of f ∷ (argument_count f + suc more) ∷ (argument_codes f ++ rest)) ≡ open_text name f ++ text_behind name (more ∷ stack) k rest
    opened (component x) stack rest more k =
        let n : 1 + k ≡ suc k = omega arith in
        let m : 0 + suc more ≡ suc more = omega arith in
        λ i. text_behind name stack (n i) (x ∷ m i ∷ rest)
    opened (apply f a) stack rest more k =
        let n : (length_of f + length_of a) + k ≡ length_of f + (length_of a + k) = omega arith in
        let m : (argument_count f + 1) + suc more ≡ argument_count f + suc (suc more) = omega arith in
        (λ i. text_behind name stack (n i) (head_of f ∷ m i ∷ append_assoc (argument_codes f) (code_of a) rest i))
        ∙ opened f stack (code_of a ++ rest) (suc more) (length_of a + k)
        ∙ ap (λ (v : List ℕ). open_text name f ++ v) (closed a (suc more ∷ stack) rest k)
        ∙ regroup-open (open_text name f) (text_of name a) (close_text (suc more ∷ stack)) (text_behind name (more ∷ stack) k rest)

    closed :
        (e : Applicative) (stack rest : List ℕ) (k : ℕ)
        → text_behind name stack (length_of e + k) (code_of e ++ rest) ≡ text_of name e ++ (close_text stack ++ text_behind name (close_stack stack) k rest)
    closed (component x) stack rest k =
        let n : 1 + k ≡ suc k = omega arith in
        (λ i. text_behind name stack (n i) (x ∷ 0 ∷ rest)) ∙ append_assoc (name x) (close_text stack) (text_behind name (close_stack stack) k rest)
    closed (apply f a) stack rest k =
        let n : (length_of f + length_of a) + k ≡ length_of f + (length_of a + k) = omega arith in
        let m : argument_count f + 1 ≡ argument_count f + suc 0 = omega arith in
        (λ i. text_behind name stack (n i) (head_of f ∷ m i ∷ append_assoc (argument_codes f) (code_of a) rest i))
        ∙ opened f stack (code_of a ++ rest) 0 (length_of a + k)
        ∙ ap (λ (v : List ℕ). open_text name f ++ v) (closed a (0 ∷ stack) rest k)
        ∙ regroup-close (open_text name f) (text_of name a) _ (close_text stack) (text_behind name (close_stack stack) k rest)

  -- a whole code writes the text of its term
  pub text_behind-code_of : (e : Applicative) → text_behind name [] (length_of e) (code_of e) ≡ text_of name e
  text_behind-code_of e =
      let n : length_of e ≡ length_of e + 0 = omega arith in
      (λ i. text_behind name [] (n i) (sym (append-nil (code_of e)) i)) ∙ closed e [] [] 0 ∙ append-nil (text_of name e)

  next-text :
      (k i : ℕ) (stack code : List ℕ) → i ≡ 2 * k → suc i < length code
      → text_behind name stack (suc k) code ≡ text_behind name stack k code ++ (name (get_or code i 0) ++ mark_text (stack_behind stack k code) (get_or code (suc i) 0))
  next-text k i stack [] p l = absurd (omega arith)
  next-text k i stack (x ∷ []) p l = absurd (omega arith)
  next-text zero zero stack (x ∷ n ∷ code) p l = append-nil (name x ++ mark_text stack n)
  next-text zero (suc i) stack (x ∷ n ∷ code) p l = absurd (omega arith)
  next-text (suc k) zero stack (x ∷ n ∷ code) p l = absurd (omega arith)
  next-text (suc k) (suc zero) stack (x ∷ n ∷ code) p l = absurd (omega arith)
  next-text (suc k) (suc (suc i)) stack (x ∷ n ∷ code) p l =
      ap (λ (v : List ℕ). (name x ++ mark_text stack n) ++ v) (next-text k i (mark_stack stack n) code (omega arith) (omega arith))
      ∙ sym (append_assoc (name x ++ mark_text stack n) (text_behind name (mark_stack stack n) k code) _)

  -- what fewer components write stands first
  pub starts : (j k : ℕ) (stack code : List ℕ) → j ≤ k → (rest : List ℕ) × (text_behind name stack k code ≡ text_behind name stack j code ++ rest)
  starts zero k stack code l = (text_behind name stack k code, refl)
  starts (suc j) zero stack code l = absurd (omega arith)
  starts (suc j) (suc k) stack [] l = ([], refl)
  starts (suc j) (suc k) stack (x ∷ []) l = ([], refl)
  starts (suc j) (suc k) stack (x ∷ n ∷ code) l =
      let r = starts j k (mark_stack stack n) code (omega arith) in
      let front = name x ++ mark_text stack n in
      (r.0, ap (λ (v : List ℕ). front ++ v) r.1 ∙ sym (append_assoc front (text_behind name (mark_stack stack n) j code) r.0))

  -- codes that begin with the same components write the same there
  pub same-text :
      (k : ℕ) (stack before code : List ℕ) → 2 * k ≤ length before → 2 * k ≤ length code → ((i : ℕ) → i < 2 * k → get_or before i 0 ≡ get_or code i 0)
      → text_behind name stack k before ≡ text_behind name stack k code
  same-text zero stack before code l m h = refl
  same-text (suc k) stack [] code l m h = absurd (omega arith)
  same-text (suc k) stack (x ∷ []) code l m h = absurd (omega arith)
  same-text (suc k) stack (x ∷ n ∷ before) [] l m h = absurd (omega arith)
  same-text (suc k) stack (x ∷ n ∷ before) (y ∷ []) l m h = absurd (omega arith)
  same-text (suc k) stack (x ∷ n ∷ before) (y ∷ o ∷ code) l m h =
      let p : x ≡ y = h 0 (omega arith) in
      let q : n ≡ o = h 1 (omega arith) in
      (λ i. (name (p i) ++ mark_text stack (q i)) ++ text_behind name (mark_stack stack (q i)) k before)
      ∙ ap (λ (v : List ℕ). (name y ++ mark_text stack o) ++ v) (same-text k (mark_stack stack o) before code (omega arith) (omega arith) (λ i b. h (suc (suc i)) (omega arith)))

next-stack :
    (k i : ℕ) (stack code : List ℕ) → i ≡ 2 * k → suc i < length code
    → stack_behind stack (suc k) code ≡ mark_stack (stack_behind stack k code) (get_or code (suc i) 0)
next-stack k i stack [] p l = absurd (omega arith)
next-stack k i stack (x ∷ []) p l = absurd (omega arith)
next-stack zero zero stack (x ∷ n ∷ code) p l = refl
next-stack zero (suc i) stack (x ∷ n ∷ code) p l = absurd (omega arith)
next-stack (suc k) zero stack (x ∷ n ∷ code) p l = absurd (omega arith)
next-stack (suc k) (suc zero) stack (x ∷ n ∷ code) p l = absurd (omega arith)
next-stack (suc k) (suc (suc i)) stack (x ∷ n ∷ code) p l = next-stack k i (mark_stack stack n) code (omega arith) (omega arith)

pub same-stack :
    (k : ℕ) (stack before code : List ℕ) → 2 * k ≤ length before → 2 * k ≤ length code → ((i : ℕ) → i < 2 * k → get_or before i 0 ≡ get_or code i 0)
    → stack_behind stack k before ≡ stack_behind stack k code
same-stack zero stack before code l m h = refl
same-stack (suc k) stack [] code l m h = absurd (omega arith)
same-stack (suc k) stack (x ∷ []) code l m h = absurd (omega arith)
same-stack (suc k) stack (x ∷ n ∷ before) [] l m h = absurd (omega arith)
same-stack (suc k) stack (x ∷ n ∷ before) (y ∷ []) l m h = absurd (omega arith)
same-stack (suc k) stack (x ∷ n ∷ before) (y ∷ o ∷ code) l m h =
    let q : n ≡ o = h 1 (omega arith) in
    (λ i. stack_behind (mark_stack stack (q i)) k before)
    ∙ same-stack k (mark_stack stack o) before code (omega arith) (omega arith) (λ i b. h (suc (suc i)) (omega arith))

-- one component more, as the code reads it
pub text-more :
    (name : ℕ → List ℕ) (k : ℕ) (stack code : List ℕ) → 2 * k + 1 < length code
    → text_behind name stack (k + 1) code ≡ text_behind name stack k code ++ (name (get_or code (2 * k) 0) ++ mark_text (stack_behind stack k code) (get_or code (2 * k + 1) 0))
text-more name k stack code l =
    let n : k + 1 ≡ suc k = omega arith in
    let i : suc (2 * k) ≡ 2 * k + 1 = omega arith in
    ap (λ (j : ℕ). text_behind name stack j code) n ∙ next-text name k (2 * k) stack code refl (omega arith)
    ∙ ap (λ (j : ℕ). text_behind name stack k code ++ (name (get_or code (2 * k) 0) ++ mark_text (stack_behind stack k code) (get_or code j 0))) i

pub stack-more :
    (k : ℕ) (stack code : List ℕ) → 2 * k + 1 < length code
    → stack_behind stack (k + 1) code ≡ mark_stack (stack_behind stack k code) (get_or code (2 * k + 1) 0)
stack-more k stack code l =
    let n : k + 1 ≡ suc k = omega arith in
    let i : suc (2 * k) ≡ 2 * k + 1 = omega arith in
    ap (λ (j : ℕ). stack_behind stack j code) n ∙ next-stack k (2 * k) stack code refl (omega arith)
    ∙ ap (λ (j : ℕ). mark_stack (stack_behind stack k code) (get_or code j 0)) i
