-- What a line after a repository asks, and what is written for a certificate, is one thing.
use Rattle.std.proofs.Common.{ℕ, ◌≡◌, refl, sym, ◌∙◌, ap, subst, List, [], ◌∷◌, ◌++◌, Option, Some, None}
use Rattle.std.specs.List.{IsDistinct}
use Rattle.std.specs.Str.{bytes_eq}
use Rattle.cls_base.specs.Firsts.{IsDetermined}
use Rattle.cls_base.specs.Types.{ClosedType}
use Rattle.cls_lexer.specs.Words.{words_of}
use Rattle.cls_proof.specs.declared.proof_fault.ProofFault.{ProofFault}
use Rattle.cls_proof.specs.declared.proof_fault.ProofFault.TheVariants.{BadLine, NoQed, OutOfMemory}
use Rattle.cls_proof.specs.Certificates.{Certificate}
use Rattle.cls_proof.specs.Reading.{IsProofFault, SaysCertificate}
use Rattle.cls_proof.proofs.OneReading.{one_certificate, one_first_bad, exclusive}
use Rattle.cls_check.specs.declared.fault.Reason.{Reason}
use Rattle.cls_check.proofs.Verdicts.{accepted_silent, refusal_determined}
use Rattle.cls_library.specs.Libraries.{Library}
use Rattle.cls_query.specs.Queries.{Query, QueryText, Tables, verify, with_query, query_of}
use Rattle.cls_query.proofs.QueryErrors.{errors_determined, lines_read_once}
use Rattle.cls_engine.specs.declared.fault.EngineFault.{EngineFault}
use Rattle.cls_engine.specs.declared.verdict.Verdict.{Verdict}
use Rattle.cls_engine.specs.declared.verdict.Verdict.TheVariants.{Accepted, Refused}
use Rattle.cls_engine.specs.Verdicts.{IsVerdict}
use Rattle.cls_replies.specs.Responder.{Responder, tables_in, with_tables, with_names, holding}
use Rattle.cls_replies.specs.Texts.{error_line, fault_words, verdict_text}
use Rattle.cls_replies.specs.Errors.{proof_words}
use Rattle.cls_replies.specs.Answering.{Asks, IsMisread, Judges, Verifies, Verified}
use Rattle.cls_replies.specs.Answering as answering
use Rattle.cls_laws.proofs.OneReply.{fault_one}

-- WHAT A LINE ASKS
module _ (s : Responder) (line : List ℕ) where
  pub misread_one : (t u : List ℕ) (m n : Responder) → IsMisread s line t m → IsMisread s line u n → (t ≡ u) × (m ≡ n)
  misread_one t u m n h k =
      (h.written ∙ (ap error_line (errors_determined (tables_in s) line h.words k.words h.first k.first) ∙ sym k.written), h.same ∙ sym k.same)

  pub asks_one : (q r : Query) (m n : Responder) → Asks s line q m → Asks s line r n → (q ≡ r) × (m ≡ n)
  asks_one q r m n h k =
      let said : h.0.said ≡ k.0.said = lines_read_once (words_of line) h.0.said k.0.said h.0.spelled k.0.spelled in
      let tables : tables_in m ≡ tables_in n = h.0.numbered ∙ (ap (λ (v : QueryText). with_query (tables_in s) v) said ∙ sym k.0.numbered) in (
        h.0.asked ∙ (ap (λ (v : QueryText). query_of (with_query (tables_in s) v) v) said ∙ sym k.0.asked),
        h.1 ∙ (ap (λ (x : Tables). with_tables s x) tables ∙ sym k.1),
      )

  pub read_or_not : (q : Query) (t : List ℕ) (m n : Responder) → Asks s line q m → IsMisread s line t n → ⊥
  read_or_not q t m n h k = h.0.faultless k.words k.first

-- CERTIFICATES
verdict_one : (lib : Library) (goal : ClosedType) (c : Certificate) (v w : Verdict) → IsVerdict lib goal c v → IsVerdict lib goal c w → v ≡ w
verdict_one lib goal c Accepted Accepted h k = refl
verdict_one lib goal c Accepted (Refused row reason) h k = absurd (accepted_silent lib goal c h (row, reason) k)
verdict_one lib goal c (Refused row reason) Accepted h k = absurd (accepted_silent lib goal c k (row, reason) h)
verdict_one lib goal c (Refused row reason) (Refused row' reason') h k =
    ap (λ (p : ℕ × Reason). Refused p.0 p.1) (refusal_determined lib goal c (row, reason) (row', reason') h k)

judged_one : (s : Responder) (goal : ClosedType) (c : Certificate) → IsDetermined (Judges s goal c)
judged_one s goal c t u (answering.Judges.failed f h e) (answering.Judges.failed g k d) =
    e ∙ (ap (λ (x : EngineFault). error_line (fault_words s.names x)) (fault_one s (verify goal) f g h k) ∙ sym d)
judged_one s goal c t u (answering.Judges.failed f h e) (answering.Judges.judged silent v k d) = absurd (silent f h)
judged_one s goal c t u (answering.Judges.judged silent v h e) (answering.Judges.failed g k d) = absurd (silent g k)
judged_one s goal c t u (answering.Judges.judged silent v h e) (answering.Judges.judged silent' w k d) =
    e ∙ (ap verdict_text (verdict_one s.engine.library goal c v w h k) ∙ sym d)

none_some : {A : Type 0} (a : A) → None ≡ Some a → ⊥
none_some a e = cc

same_some : {A : Type 0} (o o' : Option A) (a b : A) → o ≡ o' → o ≡ Some a → o' ≡ Some b → a ≡ b
same_some o o' a b e f g = cc

module _ (components certificate : List (List ℕ)) where
  proof_fault_one : (f g : ProofFault) (v w : List ℕ) → IsProofFault components certificate f → proof_words f ≡ Some v → IsProofFault components certificate g → proof_words g ≡ Some w → v ≡ w
  proof_fault_one OutOfMemory g v w h e k d = absurd (none_some v e)
  proof_fault_one f OutOfMemory v w h e k d = absurd (none_some w d)
  proof_fault_one (BadLine a) (BadLine b) v w h e k d = same_some (proof_words (BadLine a)) (proof_words (BadLine b)) v w (ap (λ (n : ℕ). proof_words (BadLine n)) (one_first_bad components certificate a b h k)) e d
  proof_fault_one (BadLine a) NoQed v w h e k d = absurd (exclusive.bad_or_lacking components certificate a h k)
  proof_fault_one NoQed (BadLine b) v w h e k d = absurd (exclusive.bad_or_lacking components certificate b k h)
  proof_fault_one NoQed NoQed v w h e k d = same_some (proof_words NoQed) (proof_words NoQed) v w refl e d

  said_or_not : (old new : List (List ℕ)) (c : Certificate) (f : ProofFault) (v : List ℕ) → SaysCertificate old new components certificate c → IsProofFault components certificate f → proof_words f ≡ Some v → ⊥
  said_or_not old new c OutOfMemory v h k e = none_some v e
  said_or_not old new c (BadLine n) v h k e = exclusive.said_or_bad old new components certificate c n h k
  said_or_not old new c NoQed v h k e = exclusive.said_or_lacking old new components certificate c h k

module _ (s : Responder) (distinct : IsDistinct bytes_eq s.components) where
  verifies_one : (goal : ClosedType) (certificate : List (List ℕ)) (t u : List ℕ) (m n : Responder) → Verifies s goal certificate t m → Verifies s goal certificate u n → (t ≡ u) × (m ≡ n)
  verifies_one goal certificate t u m n (answering.Verifies.bad f v h e d same) (answering.Verifies.bad g w k i j same') =
      (d ∙ (ap error_line (proof_fault_one s.components certificate f g v w h e k i) ∙ sym j), same ∙ sym same')
  verifies_one goal certificate t u m n (answering.Verifies.bad f v h e d same) (answering.Verifies.read c k same' j) = absurd (said_or_not s.components certificate s.names n.names c f v k h e)
  verifies_one goal certificate t u m n (answering.Verifies.read c h same j) (answering.Verifies.bad g w k i d same') = absurd (said_or_not s.components certificate s.names m.names c g w h k i)
  verifies_one goal certificate t u m n (answering.Verifies.read c h same a) (answering.Verifies.read d k same' b) =
      let one = one_certificate s.names m.names n.names s.components certificate c d distinct h k in
      let responders : m ≡ n = same ∙ (ap (λ (x : List (List ℕ)). with_names s x) one.1 ∙ sym same') in
      (judged_one m goal c t u a (subst (λ (x : Responder). Judges x goal c u) (sym responders) (subst (λ (x : Certificate). Judges n goal x u) (sym one.0) b)), responders)

verify_goal : (a b : ClosedType) → verify a ≡ verify b → a ≡ b
verify_goal a b e = cc

asked_components : (s : Responder) (line : List ℕ) (q : Query) (m : Responder) → Asks s line q m → IsDistinct bytes_eq s.components → IsDistinct bytes_eq m.components
asked_components s line q m h d = subst (λ (x : Responder). IsDistinct bytes_eq x.components) (sym h.1) d

module _ (s : Responder) (distinct : IsDistinct bytes_eq s.components) (line : List ℕ) (certificate : List (List ℕ)) where
  verified_one : (t u : List ℕ) (m n : Responder) → Verified s line certificate t m → Verified s line certificate u n → (t ≡ u) × (m ≡ n)
  verified_one t u m n (answering.Verified.misread h) (answering.Verified.misread k) = misread_one s line t u m n h k
  verified_one t u m n (answering.Verified.misread h) (answering.Verified.asked goal x k b) = absurd (read_or_not s line (verify goal) t x m k h)
  verified_one t u m n (answering.Verified.asked goal x h a) (answering.Verified.misread k) = absurd (read_or_not s line (verify goal) u x n h k)
  verified_one t u m n (answering.Verified.asked goal x h a) (answering.Verified.asked goal' y k b) =
      let one = asks_one s line (verify goal) (verify goal') x y h k in
      let b' : Verifies x goal certificate u n = subst (λ (z : Responder). Verifies z goal certificate u n) (sym one.1) (subst (λ (g : ClosedType). Verifies y g certificate u n) (sym (verify_goal goal goal' one.0)) b) in
      verifies_one x (asked_components s line (verify goal) x h distinct) goal certificate t u m n a b'

-- ONE LINE
pub nil_cons : {A : Type 0} (l : List A) (x : A) (xs : List A) → l ≡ [] → l ≡ x ∷ xs → ⊥
nil_cons l x xs e f = cc

same_front : {A : Type 0} (l : List A) (x y : A) (xs ys : List A) → l ≡ x ∷ xs → l ≡ y ∷ ys → (x ≡ y) × (xs ≡ ys)
same_front l x y xs ys e f = (cc, cc)

module _ (s : Responder) (distinct : IsDistinct bytes_eq s.components) where
  -- the certificates that two lists of held lines begin
  pub held_one : (first first' : List ℕ) (inside inside' more : List (List ℕ)) (t u : List ℕ) (m n : Responder) → s.held ≡ first ∷ inside → s.held ≡ first' ∷ inside'
      → Verified (holding s []) first (inside ++ more) t m → Verified (holding s []) first' (inside' ++ more) u n → (t ≡ u) × (m ≡ n)
  held_one first first' inside inside' more t u m n e f h k =
      let same = same_front s.held first first' inside inside' e f in
      verified_one (holding s []) distinct first (inside ++ more) t u m n h
      (subst (λ (l : List ℕ). Verified (holding s []) l (inside ++ more) u n) (sym same.0) (subst (λ (ls : List (List ℕ)). Verified (holding s []) first' (ls ++ more) u n) (sym same.1) k))

  pub holds_one : (line first first' : List ℕ) (inside inside' : List (List ℕ)) → s.held ≡ first ∷ inside → s.held ≡ first' ∷ inside' → holding s (first ∷ (inside ++ line ∷ [])) ≡ holding s (first' ∷ (inside' ++ line ∷ []))
  holds_one line first first' inside inside' e f =
      let same = same_front s.held first first' inside inside' e f in
      λ i. holding s (same.0 i ∷ (same.1 i ++ line ∷ []))
