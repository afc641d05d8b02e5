-- How the lines of a certificate are held, and answered at its end.
use Rattle.std.proofs.Common.{◌≡◌, ℕ, List, [], ◌∷◌, ◌++◌, refl, sym, subst}
use Rattle.cls_replies.specs.Answering.{Verified}
use Rattle.cls_replies.specs.LineKinds.{IsQed}
use Rattle.cls_replies.specs.Lines.{Goes, Ends}
use Rattle.cls_replies.specs.Lines as lines
use Rattle.cls_replies.specs.Responder.{Responder, holding}
use Rattle.cls_replies.specs.Steps.{Concludes}

-- Lines are held, and v is the same with none.
pub concludes_held : (s v s' : Responder) (first : List ℕ) (inside : List (List ℕ)) (text : List ℕ) → s.held ≡ first ∷ inside → v ≡ holding s [] → Verified v first inside text s' → Concludes s s.held text s'
concludes_held s v s' first inside text held free verified =
    subst (λ (ls : List (List ℕ)). Concludes s ls text s') (sym held) (subst (λ (x : Responder). Verified x first inside text s') free verified)

pub concludes_none : (s s' : Responder) (text : List ℕ) → s.held ≡ [] → text ≡ [] → Concludes s s.held text s'
concludes_none s s' text none e = subst (λ (ls : List (List ℕ)). Concludes s ls text s') (sym none) e

-- No further line comes.
ends_with : (s s' : Responder) (held : List (List ℕ)) (text : List ℕ) → s.held ≡ held → Concludes s held text s' → Ends s text
ends_with s s' [] text e h = lines.Ends.free e h
ends_with s s' (first ∷ inside) text e h = lines.Ends.held first inside s' e h

pub ends_last : (s s' : Responder) (text : List ℕ) → Concludes s s.held text s' → Ends s text
ends_last s s' text h = ends_with s s' s.held text refl h

-- The line is held, and m is the same with it.
module _ (s m : Responder) (line first : List ℕ) (inside more : List (List ℕ)) (text : List ℕ) (held : s.held ≡ first ∷ inside) (e : more ≡ inside ++ line ∷ []) (same : m ≡ holding s (first ∷ more)) where
  same_held : m ≡ holding s (first ∷ (inside ++ line ∷ []))
  same_held = subst (λ (ls : List (List ℕ)). m ≡ holding s (first ∷ ls)) e same

  -- it ends the certificate
  pub ends_by : (s' : Responder) → IsQed line → Concludes m m.held text s' → Goes s line text s'
  ends_by s' q h = lines.Goes.ends first inside held q (subst (λ (x : Responder). Concludes x x.held text s') same_held h)

  -- others follow it
  pub holds_on : (IsQed line → ⊥) → text ≡ [] → Goes s line text m
  holds_on going none = lines.Goes.holds first inside held going none same_held
