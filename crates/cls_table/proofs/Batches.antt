-- What is at hand after a claim or a filing has come or left.
use Rattle.std.proofs.Common.{◌≡◌, refl, sym, ◌∙◌, ap, subst, ℕ, List, [], ◌∷◌, ◌++◌, map, append_assoc, Option}
use Rattle.std.specs.Prelude.{All, IfSome, reverse}
use Rattle.std.specs.Option.{option_to_list}
use Rattle.std.proofs.lemmas.List.{append-nil, map-append, reverse-append}
use Rattle.std.proofs.lemmas.List.Elements.{All-pop, All-push, All-same, All-weaker}
use Rattle.cls_table.specs.declared.tag.Tag.{Tag}
use Rattle.cls_table.specs.Batches.{IsBatchFor, IsClaimBy, KeepsWork}
use Rattle.cls_table.specs.Seen.{BatchSeen, ClaimSeen, FiledSeen}

module _ {B G : Type 0} where
  abbrev pub at_hand : List (ClaimSeen B G) → List (FiledSeen B G) → BatchSeen B G
  at_hand claims filings = record { claims = claims; filings = filings }

  abbrev claim_of : FiledSeen B G → ClaimSeen B G
  claim_of f = f.claim

  module _ (tag : Tag B G) (worker : ℕ) where
    pub claim-leaves : (claims rest : List (ClaimSeen B G)) (filings : List (FiledSeen B G)) (r : Option (ClaimSeen B G))
        → claims ≡ rest ++ option_to_list r → IsBatchFor tag worker (at_hand claims filings)
        → IsBatchFor tag worker (at_hand rest filings) × IfSome r (IsClaimBy tag worker)
    claim-leaves claims rest filings r e b =
        let left = All-pop (IsClaimBy tag worker) claims rest r e b.claims in
        (record { claims = left.0; filings = b.filings }, left.1)

    pub claim-comes : (claims more : List (ClaimSeen B G)) (filings : List (FiledSeen B G)) (c : ClaimSeen B G)
        → more ≡ claims ++ c ∷ [] → IsClaimBy tag worker c → IsBatchFor tag worker (at_hand claims filings)
        → IsBatchFor tag worker (at_hand more filings)
    claim-comes claims more filings c e same b = record {
      claims = All-same (IsClaimBy tag worker) more (claims ++ c ∷ []) e (All-push (IsClaimBy tag worker) claims c b.claims same);
      filings = b.filings;
    }

    pub filing-comes : (claims : List (ClaimSeen B G)) (filings more : List (FiledSeen B G)) (f : FiledSeen B G)
        → more ≡ filings ++ f ∷ [] → IsClaimBy tag worker f.claim → IsBatchFor tag worker (at_hand claims filings)
        → IsBatchFor tag worker (at_hand claims more)
    filing-comes claims filings more f e same b =
        let P : FiledSeen B G → Type 0 = λ x. IsClaimBy tag worker x.claim in record {
          claims = b.claims;
          filings = All-same P more (filings ++ f ∷ []) e (All-push P filings f b.filings same);
        }

    -- the filings of a batch for a tag have it
    pub tagged : (b : BatchSeen B G) → IsBatchFor tag worker b → All (λ (f : FiledSeen B G). f.claim.tag ≡ tag) b.filings
    tagged b h =
        let P : FiledSeen B G → Type 0 = λ x. IsClaimBy tag worker x.claim in
        let Q : FiledSeen B G → Type 0 = λ x. x.claim.tag ≡ tag in
        All-weaker P Q (λ f k. k.same_tag) b.filings h.filings

  -- the claims of what is at hand while claims are worked on
  pub work-begins : (b : BatchSeen B G) → KeepsWork b b
  work-begins b = record { claims = refl; filings = ([], sym (append-nil b.filings)) }

  pub work-goes :
      (b : BatchSeen B G) (claims rest : List (ClaimSeen B G)) (filings more : List (FiledSeen B G)) (c : ClaimSeen B G)
      (f : FiledSeen B G) → claims ≡ rest ++ c ∷ [] → more ≡ filings ++ f ∷ [] → f.claim ≡ c
      → KeepsWork b (at_hand claims filings) → KeepsWork b (at_hand rest more)
  work-goes b claims rest filings more c f e k same h = record {
    claims =
        ap (λ (l : List (FiledSeen B G)). map claim_of l ++ reverse rest) k
        ∙ ap (λ (l : List (ClaimSeen B G)). l ++ reverse rest) (map-append claim_of filings (f ∷ []))
        ∙ append_assoc (map claim_of filings) (f.claim ∷ []) (reverse rest)
        ∙ ap (λ (d : ClaimSeen B G). map claim_of filings ++ (d ∷ reverse rest)) same
        ∙ ap (λ (l : List (ClaimSeen B G)). map claim_of filings ++ l) (sym (ap reverse e ∙ reverse-append rest (c ∷ [])))
        ∙ h.claims;
    filings = (
      h.filings.0 ++ f ∷ [],
      k ∙ ap (λ (l : List (FiledSeen B G)). l ++ f ∷ []) h.filings.1 ∙ append_assoc b.filings h.filings.0 (f ∷ []),
    );
  }

  -- no claim came
  pub work-stays :
      (b : BatchSeen B G) (claims again : List (ClaimSeen B G)) (filings : List (FiledSeen B G)) → claims ≡ again
      → KeepsWork b (at_hand claims filings) → KeepsWork b (at_hand again filings)
  work-stays b claims again filings e h = subst (λ (l : List (ClaimSeen B G)). KeepsWork b (at_hand l filings)) e h

  -- a claim that was handed back
  pub work-again :
      (b : BatchSeen B G) (claims rest again : List (ClaimSeen B G)) (filings : List (FiledSeen B G)) (c d : ClaimSeen B G)
      → claims ≡ rest ++ c ∷ [] → again ≡ rest ++ d ∷ [] → d ≡ c → KeepsWork b (at_hand claims filings)
      → KeepsWork b (at_hand again filings)
  work-again b claims rest again filings c d e k same h =
      work-stays b claims again filings (e ∙ (ap (λ (x : ClaimSeen B G). rest ++ x ∷ []) (sym same) ∙ sym k)) h
