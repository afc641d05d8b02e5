-- The certificate that is printed for a type is accepted for it where it is fed back.
use Rattle.std.proofs.Common.{ℕ, ◌≡◌, List, [], ◌∷◌, refl, subst, inl, inr}
use Rattle.std.specs.List.{IsDistinct}
use Rattle.std.specs.Str.{bytes_eq}
use Rattle.cls_base.specs.Types.{ClosedType}
use Rattle.cls_base.proofs.Lists.{Contains-nil, Contains-cases}
use Rattle.cls_library.specs.Libraries.{Library}
use Rattle.cls_lexer.specs.Lines.{lines_of}
use Rattle.cls_proof.specs.Certificates.{Certificate}
use Rattle.cls_proof.specs.Reading.{SaysCertificate}
use Rattle.cls_proof.specs.RoundTrips.{IsCertificateSayable}
use Rattle.cls_proof.specs.Texts.{certificate_text}
use Rattle.cls_proof.proofs.PrintedCertificates.{printed_read}
use Rattle.cls_check.specs.Checking.{Accepts}
use Rattle.cls_query.specs.Queries.{certify, verify}
use Rattle.cls_engine.specs.declared.fault.EngineFault.TheVariants.{Size}
use Rattle.cls_engine.specs.declared.options.Options.{Options}
use Rattle.cls_engine.specs.declared.verdict.Verdict.TheVariants.{Accepted}
use Rattle.cls_engine.specs.Certified.{IsCertified}
use Rattle.cls_engine.specs.Faults.{compare_faults, closure_faults, AreSilent}
use Rattle.cls_engine.specs.Goals.{IsSpread}
use Rattle.cls_engine.specs.Laws.{CertificatesDecide}
use Rattle.cls_replies.specs.Answering.{Asks, Verified}
use Rattle.cls_replies.specs.Answering as answering
use Rattle.cls_replies.specs.Errors.{faults_of}
use Rattle.cls_replies.specs.Responder.{Responder}
use Rattle.cls_replies.specs.Texts.{verdict_text}
use Rattle.cls_session.specs.Transcripts.{IsAnswered}
use Rattle.cls_laws.proofs.OneTranscript.{answered_apart}
use Rattle.cls_laws.specs.FedBack.{IsCertificateWithin, fed_back, AreAccepted, CertificatesAreAccepted}
use Rattle.cls_laws.proofs.AskedNames.{goal_known}
use Rattle.cls_laws.proofs.CertificateNames.{certificate_sayable}
use Rattle.cls_laws.proofs.HeldLines.{replied, alone}
use Rattle.cls_laws.proofs.Openings.{answered_can}
use Rattle.cls_laws.proofs.QedLines.{EndWithQed, printed_end}
use Rattle.cls_laws.proofs.SameType.{asks_opens, same_type}
use Rattle.cls_laws.proofs.ResponderNames.{IsCalled, session_called}

-- a type that the engine can work on can be compared
one_spread : (t goal : ClosedType) → t ≡ goal → IsSpread t → IsSpread goal
one_spread t goal e h = subst (λ (u : ClosedType). IsSpread u) e h

can_compare : (lib : Library) (o : Options) (goal : ClosedType) → AreSilent (closure_faults lib o goal) → AreSilent (compare_faults (goal ∷ []))
can_compare lib o goal silent f (inl ((t, stands, spread), e)) = elim (Contains-cases goal [] t stands) [
  | inl same ↦ silent Size (inl (inl (one_spread t goal same spread), refl))
  | inr none ↦ Contains-nil t none
]
can_compare lib o goal silent f (inr (none, h)) = h

module _ (decide : CertificatesDecide) (o : Options) (lines : List (List ℕ)) (before : List ℕ) (s : Responder) (answered : IsAnswered o lines before s) (free : s.held ≡ []) (goal : ClosedType) (c : Certificate) (silent : AreSilent (faults_of s (certify goal))) (certified : IsCertified s.engine.library goal c) (within : IsCertificateWithin s.names s.components c) (line : List ℕ) (asks : Asks s line (verify goal) s) where
  abbrev printed : List (List ℕ)
  printed = lines_of (certificate_text s.names s.components c)

  accepts : Accepts s.engine.library goal c
  accepts = (decide s.engine.library (answered_can o lines before s answered).library s.engine.options goal silent c certified).0

  called : IsCalled s
  called = session_called o lines before s answered

  sayable : IsCertificateSayable s.names s.components c
  sayable = certificate_sayable s called goal (goal_known s s line goal asks) c certified accepts within

  says : SaysCertificate s.names s.names s.components printed c
  says = printed_read s.names s.components c called.apart sayable

  verified : Verified s line printed (verdict_text Accepted) s
  verified = answering.Verified.asked goal s asks (answering.Verifies.read c says refl (answering.Judges.judged (can_compare s.engine.library s.engine.options goal silent) Accepted accepts refl))

  apart : IsDistinct bytes_eq s.components
  apart = answered_apart o lines before s answered

  ends : EndWithQed printed
  ends = printed_end s.names s.names s.names s.components c says

  are_accepted : AreAccepted s (fed_back s line c)
  are_accepted =
      let opens = asks_opens s line goal s asks in
      record {
        replied = replied s apart free line goal asks opens printed ends (verdict_text Accepted) verified;
        alone = alone s apart free line goal asks opens printed ends (verdict_text Accepted) verified;
      }

pub certificates_accepted : CertificatesDecide → CertificatesAreAccepted
certificates_accepted decide = record { accepted = are_accepted decide; alike = same_type }
