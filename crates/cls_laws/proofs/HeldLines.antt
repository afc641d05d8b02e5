-- Lines behind one that opened a certificate: nothing is written for them up to `qed`.
use Rattle.std.proofs.Common.{ℕ, ◌≡◌, List, [], ◌∷◌, ◌++◌, refl, sym, ◌∙◌, ap, subst, append_assoc, append-nil, codes}
use Rattle.std.specs.List.{IsDistinct}
use Rattle.std.specs.Str.{bytes_eq}
use Rattle.cls_base.specs.Types.{ClosedType}
use Rattle.cls_query.specs.Queries.{audit, verify}
use Rattle.cls_replies.specs.Answering.{Asks, Verified}
use Rattle.cls_replies.specs.LineKinds.{Opens, IsQed}
use Rattle.cls_replies.specs.Lines.{Goes, Replies}
use Rattle.cls_replies.specs.Lines as lines
use Rattle.cls_replies.specs.Responder.{Responder, holding}
use Rattle.cls_laws.specs.Alike.{AreSame}
use Rattle.cls_laws.specs.Alike as alike
use Rattle.cls_laws.proofs.OneLine.{asks_one, nil_cons}
use Rattle.cls_laws.proofs.SameLine.{goes_same}
use Rattle.cls_laws.proofs.QedLines.{AreNoQeds, qed_is_qed, EndWithQed}

-- a line that was opened, and others behind it
module _ (s : Responder) where
  abbrev Within : (first : List ℕ) (inside : List (List ℕ)) → Responder
  Within first inside = holding s (first ∷ inside)

  held_replies : (first : List ℕ) (inside ls more : List (List ℕ)) → AreNoQeds ls → (text : List ℕ) (end : Responder)
      → Replies (Within first (inside ++ ls)) more text end → Replies (Within first inside) (ls ++ more) text end
  held_replies first inside [] more none text end r = subst (λ (xs : List (List ℕ)). Replies (Within first xs) more text end) (append-nil inside) r
  held_replies first inside (l ∷ ls) more none text end r =
      let r' = subst (λ (xs : List (List ℕ)). Replies (Within first xs) more text end) (sym (append_assoc inside (l ∷ []) ls)) r in
      let on = held_replies first (inside ++ l ∷ []) ls more none.1 text end r' in
      (Within first (inside ++ l ∷ []), [], text, lines.Goes.holds first inside refl none.0 refl refl, on, refl)

-- one text, where no audit is asked for
one_text : (s : Responder) (n : ℕ) (line text other : List ℕ) → ((goal : ClosedType) (m : Responder) → s.held ≡ [] → Asks s line (audit goal) m → ⊥) → AreSame s n line text other → text ≡ other
one_text s n line text other free (alike.AreSame.one_text e) = e
one_text s n line text other free (alike.AreSame.histories goal m none asks a b) = absurd (free goal m none asks)

verify_audit : (a b : ClosedType) → verify a ≡ audit b → ⊥
verify_audit a b e = cc

module _ (s : Responder) (apart : IsDistinct bytes_eq s.components) where
  -- a line inside of a certificate
  held_step : (first : List ℕ) (inside : List (List ℕ)) (l : List ℕ) → (IsQed l → ⊥) → (text : List ℕ) (next : Responder) → Goes (Within s first inside) l text next
      → ([] ≡ text) × (next ≡ Within s first (inside ++ l ∷ []))
  held_step first inside l none text next g =
      let n = s.engine.options.workers in
      let known : Goes (Within s first inside) l [] (Within s first (inside ++ l ∷ [])) = lines.Goes.holds first inside refl none refl refl in
      let one = goes_same n (Within s first inside) apart l [] text (Within s first (inside ++ l ∷ [])) next known g in
      (one_text (Within s first inside) n l [] text (λ goal m e asks. nil_cons (first ∷ inside) first inside e refl) one.0, one.1)

  held_alone : (first : List ℕ) (inside ls more : List (List ℕ)) → AreNoQeds ls → (text : List ℕ) (end : Responder)
      → Replies (Within s first inside) (ls ++ more) text end → Replies (Within s first (inside ++ ls)) more text end
  held_alone first inside [] more none text end r = subst (λ (xs : List (List ℕ)). Replies (Within s first xs) more text end) (sym (append-nil inside)) r
  held_alone first inside (l ∷ ls) more none text end (next, t, rest, g, rs, e) =
      let one = held_step first inside l none.0 t next g in
      let on = held_alone first (inside ++ l ∷ []) ls more none.1 rest end (subst (λ (x : Responder). Replies x (ls ++ more) rest end) one.1 rs) in
      let same : rest ≡ text = ap (λ (ts : List ℕ). ts ++ rest) one.0 ∙ sym e in
      subst (λ (ts : List ℕ). Replies (Within s first (inside ++ l ∷ ls)) more ts end) same
      (subst (λ (xs : List (List ℕ)). Replies (Within s first xs) more rest end) (append_assoc inside (l ∷ []) ls) on)

  -- THE LINES OF A CERTIFICATE, behind one that asks for a verification
  module _ (free : s.held ≡ []) (first : List ℕ) (goal : ClosedType) (asks : Asks s first (verify goal) s) (opens : Opens first) (certificate : List (List ℕ)) (ends : EndWithQed certificate) (text : List ℕ) (v : Verified s first certificate text s) where
    -- the line `qed` ends it
    goes_on : Goes (Within s first ends.before) (codes "qed") text s
    goes_on =
        let same : s ≡ holding s [] = ap (λ (ls : List (List ℕ)). holding s ls) free in
        let verified = subst (λ (ls : List (List ℕ)). Verified (holding s []) first ls text s) ends.split (subst (λ (x : Responder). Verified x first certificate text s) same v) in
        lines.Goes.ends first ends.before refl qed_is_qed verified

    pub replied : Replies s (first ∷ certificate) text s
    replied =
        let last : Replies (Within s first ends.before) (codes "qed" ∷ []) text s = (s, text, [], goes_on, (refl, refl), sym (append-nil text)) in
        let held = held_replies s first [] ends.before (codes "qed" ∷ []) ends.free text s last in
        let all : Replies s (first ∷ (ends.before ++ codes "qed" ∷ [])) text s = (Within s first [], [], text, lines.Goes.opens free opens refl refl, held, refl) in
        subst (λ (ls : List (List ℕ)). Replies s (first ∷ ls) text s) (sym ends.split) all

    -- what else may be written for them
    last_alone : (other : List ℕ) (end : Responder) → Replies (Within s first ends.before) (codes "qed" ∷ []) other end → (other ≡ text) × (end ≡ s)
    last_alone other end (m, t, rest, g, (p, q), e) =
        let n = s.engine.options.workers in
        let one = goes_same n (Within s first ends.before) apart (codes "qed") text t s m goes_on g in
        let same = one_text (Within s first ends.before) n (codes "qed") text t (λ b k none h. nil_cons (first ∷ ends.before) first ends.before none refl) one.0 in
        (e ∙ (ap (λ (ts : List ℕ). t ++ ts) p ∙ (append-nil t ∙ sym same)), q ∙ one.1)

    first_alone : (other : List ℕ) (end : Responder) → Replies s (first ∷ (ends.before ++ codes "qed" ∷ [])) other end → (other ≡ text) × (end ≡ s)
    first_alone other end (m, t, rest, g, rs, e) =
        let n = s.engine.options.workers in
        let known : Goes s first [] (Within s first []) = lines.Goes.opens free opens refl refl in
        let one = goes_same n s apart first [] t (Within s first []) m known g in
        let none = one_text s n first [] t (λ b k held h. verify_audit goal b (asks_one s first (verify goal) (audit b) s k asks h).0) one.0 in
        let held = held_alone first [] ends.before (codes "qed" ∷ []) ends.free rest end (subst (λ (x : Responder). Replies x (ends.before ++ codes "qed" ∷ []) rest end) one.1 rs) in
        let last = last_alone rest end held in
        (e ∙ (ap (λ (ts : List ℕ). ts ++ rest) (sym none) ∙ last.0), last.1)

    pub alone : (other : List ℕ) (end : Responder) → Replies s (first ∷ certificate) other end → (other ≡ text) × (end ≡ s)
    alone other end r = first_alone other end (subst (λ (ls : List (List ℕ)). Replies s (first ∷ ls) other end) ends.split r)
