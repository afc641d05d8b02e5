-- How the lines after a repository are answered, one after another.
use Rattle.std.specs.Prelude.{ℕ, ◌≡◌, List, [], ◌∷◌, ◌++◌}
use Rattle.cls_lexer.specs.Skipped.{IsSkipped}
use Rattle.cls_replies.specs.Changing.{Changed}
use Rattle.cls_replies.specs.LineKinds.{Opens, IsQed, IsSingle, Changes}
use Rattle.cls_replies.specs.Responder.{Responder, holding}
use Rattle.cls_replies.specs.Answering.{Answered, Verified}

-- What is written for one line more, and what queries are answered by after it.
pub data Goes (s : Responder) (line text : List ℕ) (s' : Responder) : Type 0 where
  -- outside of a certificate
  skips : s.held ≡ [] → IsSkipped line → text ≡ [] → s' ≡ s → Goes s line text s'
  asks : s.held ≡ [] → IsSingle line → Answered s line text s' → Goes s line text s'
  changes : s.held ≡ [] → Changes line → Changed s line text s' → Goes s line text s'
  opens : s.held ≡ [] → Opens line → text ≡ [] → s' ≡ holding s (line ∷ []) → Goes s line text s'
  -- inside of one that the line `first` opened
  holds : (first : List ℕ) (inside : List (List ℕ)) → s.held ≡ first ∷ inside → (IsQed line → ⊥) → text ≡ []
      → s' ≡ holding s (first ∷ (inside ++ line ∷ [])) → Goes s line text s'
  ends : (first : List ℕ) (inside : List (List ℕ)) → s.held ≡ first ∷ inside → IsQed line
      → Verified (holding s []) first (inside ++ line ∷ []) text s' → Goes s line text s'

-- What is written for lines in turn.
abbrev pub Replies : Responder → (lines : List (List ℕ)) → (text : List ℕ) → Responder → Type 0
Replies s [] text s' = (text ≡ []) × (s' ≡ s)
Replies s (line ∷ lines) text s'' =
    (s' : Responder) × (first rest : List ℕ) × Goes s line first s' × Replies s' lines rest s'' × (text ≡ first ++ rest)

-- What is written if no line follows: a certificate that hasn't ended ends there.
pub data Ends (s : Responder) (text : List ℕ) : Type 0 where
  free : s.held ≡ [] → text ≡ [] → Ends s text
  held : (first : List ℕ) (inside : List (List ℕ)) (s' : Responder) → s.held ≡ first ∷ inside
      → Verified (holding s []) first inside text s' → Ends s text
