-- Words that aren't those of a line of a grammar leave it at one place.
use Rattle.std.proofs.Common.{◌≡◌, ℕ, Bool, true, false, List, [], ◌∷◌, ◌++◌, length, refl, ap, sym, ◌∙◌, subst, append_assoc, append-nil}
use Rattle.std.specs.Prelude.{◌&&◌}
use Rattle.cls_lexer.specs.Tokens.{byte_at}
use Rattle.cls_lexer.specs.Words.{Word, words_of}
use Rattle.cls_syntax.specs.Faults.{CanGoOn, Refuses, WantsName, IsFault, Says}
use Rattle.cls_syntax.specs.Sorts.{begins_reserved}
use Rattle.cls_syntax.specs.SyntaxFaults.{LeavesAt}

-- Of two fronts of a list one begins with the other.
pub data Compared {A : Type 0} (f r g s : List A) : Type 0 where
  same : f ≡ g → r ≡ s → Compared f r g s
  longer : (x : A) (xs : List A) → g ≡ f ++ x ∷ xs → r ≡ x ∷ (xs ++ s) → Compared f r g s
  shorter : (x : A) (xs : List A) → f ≡ g ++ x ∷ xs → s ≡ x ∷ (xs ++ r) → Compared f r g s

module _ {A : Type 0} where
  head_or : A → List A → A
  head_or d [] = d
  head_or d (x ∷ xs) = x

  pub heads : {x y : A} {xs ys : List A} → x ∷ xs ≡ y ∷ ys → x ≡ y
  unfolding head_or
  heads {x} e = ap (head_or x) e

  rest_of : List A → List A
  rest_of [] = []
  rest_of (x ∷ xs) = xs

  pub rests : {x y : A} {xs ys : List A} → x ∷ xs ≡ y ∷ ys → xs ≡ ys
  unfolding rest_of
  rests e = ap rest_of e

  on : (x y : A) (f r g s : List A) → x ≡ y → Compared f r g s → Compared (x ∷ f) r (y ∷ g) s
  on x y f r g s e (same a b) = same (λ i. e i ∷ a i) b
  on x y f r g s e (longer z zs a b) = longer z zs (λ i. sym e i ∷ a i) b
  on x y f r g s e (shorter z zs a b) = shorter z zs (λ i. e i ∷ a i) b

  pub compared : (f r g s : List A) → f ++ r ≡ g ++ s → Compared f r g s
  compared [] r [] s e = same refl e
  compared [] r (y ∷ g) s e = longer y g refl e
  compared (x ∷ f) r [] s e = shorter x f refl (sym e)
  compared (x ∷ f) r (y ∷ g) s e = on x y f r g s (heads e) (compared f r g s (rests e))

same_bool : (a b : Bool) → (a ≡ true → b ≡ true) → (b ≡ true → a ≡ true) → a ≡ b
same_bool true true p q = refl
same_bool true false p q = sym (p refl)
same_bool false true p q = q refl
same_bool false false p q = refl

module _ {A : Type 0} (words : A → List Word) (Stands : A → Type 0) where
  -- a line of the grammar doesn't leave it
  pub line_stays : (a : A) (ws rest : List Word) (b : Bool) → Says words Stands a ws → IsFault words Stands ws rest b → ⊥
  line_stays a ws [] b s f = f.refused a s.stands (s.spelled ∙ (f.split ∙ append-nil f.front))
  line_stays a ws (w ∷ us) b s f = f.refused (record {
    line = a;
    stands = s.stands;
    more = us;
    begins = s.spelled ∙ (f.split ∙ sym (append_assoc f.front (w ∷ []) us));
  })

  -- a front with which some line goes on isn't behind a word with which none does
  not_behind : (front rest other others us : List Word) (w : Word) → Refuses words Stands front rest → CanGoOn words Stands other → other ≡ front ++ w ∷ us → rest ≡ w ∷ (us ++ others) → ⊥
  not_behind front rest other others us w refused live e d =
      let on : CanGoOn words Stands (front ++ w ∷ us) = subst (CanGoOn words Stands) e live in
      let no : Refuses words Stands front (w ∷ (us ++ others)) = subst (Refuses words Stands front) d refused in
      no (record { line = on.line; stands = on.stands; more = us ++ on.more; begins = on.begins ∙ (append_assoc front (w ∷ us) on.more ∙ sym (append_assoc front (w ∷ []) (us ++ on.more))) })

  -- two faults of the same words are one
  record AreOne (front other rest others : List Word) (wants also : Bool) : Type 0 where
    fronts : front ≡ other
    places : rest ≡ others
    reasons : wants ≡ also

  one_fault : (ws rest others : List Word) (wants also : Bool) (f : IsFault words Stands ws rest wants) (g : IsFault words Stands ws others also) → AreOne f.front g.front rest others wants also
  one_fault ws rest others wants also f g = elim (compared f.front rest g.front others (sym f.split ∙ g.split)) [
    | same e d ↦ record {
      fronts = e;
      places = d;
      reasons = same_bool wants also (λ h. g.named.1 (subst (WantsName words Stands) e (f.named.0 h))) (λ h. f.named.1 (subst (WantsName words Stands) (sym e) (g.named.0 h)));
    }
    | longer w us e d ↦ absurd (not_behind f.front rest g.front others us w f.refused g.live e d)
    | shorter w us e d ↦ absurd (not_behind g.front others f.front rest us w g.refused f.live e d)
  ]

  -- the line leaves the grammar at one byte
  pub record IsOneByte (byte other : ℕ) (reserved also : Bool) : Type 0 where
    pub bytes : byte ≡ other
    pub flags : reserved ≡ also

  pub one_byte : (line : List ℕ) (byte other : ℕ) (reserved also : Bool) → LeavesAt words Stands line byte reserved → LeavesAt words Stands line other also → IsOneByte byte other reserved also
  one_byte line byte other reserved also l k =
      let one = one_fault (words_of line) l.rest k.rest l.wants_name k.wants_name l.fault k.fault in
      record {
        bytes = l.byte_is ∙ (ap (λ (f : List Word). byte_at line (length f)) one.fronts ∙ sym k.byte_is);
        flags = l.reserved_is ∙ ((λ i. one.reasons i && begins_reserved (one.places i)) ∙ sym k.reserved_is);
      }
