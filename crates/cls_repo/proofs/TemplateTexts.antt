-- The text of a template in its line, and the places of its faults.
use Rattle.std.proofs.Common.{◌≡◌, ℕ, ◌≤◌, zero, suc, true, false, List, [], ◌∷◌, refl, sym, ap, ◌∙◌, subst, arith, map, drop, length, length-append, length-drop, Bor}
use Rattle.std.specs.Prelude.{◌==◌, ◌||◌, ◌≢◌, if◌then◌else◌, Option, Some, None, MatchOption, slice_get, IsUtf8}
use Rattle.std.specs.List.{AllByRecursion}
use Rattle.std.specs.Option.{option_map, option_map_or, unwrap_or}
use Rattle.std.specs.Str.{IsCharBoundary}
use Rattle.std.proofs.lemmas.Option.{slice_get-map, slice_get_past}
use Rattle.cls_assemble.specs.declared.fault.TemplateFault.{TemplateFault}
use Rattle.cls_assemble.specs.declared.fault.TemplateFault.TheVariants.{BadHole, HoleZero, HoleOver16}
use Rattle.cls_assemble.specs.Faults.{BeginsTemplate, IsFaultOf}
use Rattle.cls_taxon.specs.DecisionLaws.{same_name}
use Rattle.cls_lexer.specs.declared.token.Token.{Token}
use Rattle.cls_lexer.specs.Tokens.{Located, tokens_of, located, end_of, IsCut}
use Rattle.cls_lexer.proofs.TokenCuts.{tokens_cut}
use Rattle.cls_repo.specs.Declarations.{template_text, without_blank}

-- the text is no longer than the line
without_shorter : (bs : List ℕ) → length (without_blank bs) ≤ length bs
without_shorter [] = omega arith
without_shorter (b ∷ bs) = elim ((b == 32) || (b == 9)) as (λ t. length (if t then bs else b ∷ bs) ≤ length (b ∷ bs)) [ true ↦ omega arith | false ↦ omega arith ]

-- the text begins with a space, or with another byte
pub behind_space : (bs rest : List ℕ) → bs ≡ 32 ∷ rest → rest ≡ without_blank bs
behind_space bs rest is = sym (ap without_blank is)

no_blank : (bs : List ℕ) → ((rest : List ℕ) → bs ≢ 32 ∷ rest) → ((rest : List ℕ) → bs ≢ 9 ∷ rest) → without_blank bs ≡ bs
no_blank [] space tab = refl
no_blank (b ∷ bs) space tab =
    (elim (b == 32) as (λ t. (b == 32) ≡ t → (if t || (b == 9) then bs else b ∷ bs) ≡ b ∷ bs) [
      | true ↦ λ e. absurd (space bs (ap (λ (n : ℕ). n ∷ bs) (same_name b 32 e)))
      | false ↦ λ e. (elim (b == 9) as (λ t. (b == 9) ≡ t → (if t then bs else b ∷ bs) ≡ b ∷ bs) [
        | true ↦ λ f. absurd (tab bs (ap (λ (n : ℕ). n ∷ bs) (same_name b 9 f)))
        | false ↦ λ f. refl
      ]) refl
    ]) refl

pub behind_tab : (bs : List ℕ) (stripped : Option (Bor (List ℕ))) (all : Bor (List ℕ)) → all.now ≡ bs → ((rest : List ℕ) → bs ≢ 32 ∷ rest)
    → MatchOption stripped ((rest : List ℕ) → bs ≢ 9 ∷ rest) (λ x. bs ≡ 9 ∷ x.now) → (unwrap_or stripped all).now ≡ without_blank bs
behind_tab bs (Some rest) all e space tab = sym (ap without_blank tab)
behind_tab bs None all e space tab = e ∙ sym (no_blank bs space tab)

abbrev behind : List ℕ → Option Located → List ℕ
behind line o = option_map_or (λ token. drop (end_of token) line) o []

behind_shorter : (line : List ℕ) (o : Option Located) → length (behind line o) ≤ length line
behind_shorter line None = omega arith
behind_shorter line (Some token) = let l = length-drop (end_of token) line in omega (arith, l)

pub text_shorter : (line : List ℕ) → length (template_text line) ≤ length line
text_shorter line = let a = without_shorter (behind line (slice_get (tokens_of line) 2)) in let b = behind_shorter line (slice_get (tokens_of line) 2) in omega (arith, a, b)

module _ (line : List ℕ) (tokens : List Token) (cut : map located tokens ≡ tokens_of line) where
  third : (o : Option Token) → slice_get tokens 2 ≡ o → slice_get (tokens_of line) 2 ≡ option_map located o
  third o e = ap (λ (ls : List Located). slice_get ls 2) (sym cut) ∙ (slice_get-map located tokens 2 ∙ ap (option_map located) e)

  -- what stands behind the sign
  pub behind_sign : (token : Token) → slice_get tokens 2 ≡ Some token → template_text line ≡ without_blank (drop (end_of (located token)) line)
  behind_sign token e = ap (λ (o : Option Located). without_blank (behind line o)) (third (Some token) e)

  pub no_sign : length tokens ≤ 2 → template_text line ≡ []
  no_sign few = ap (λ (o : Option Located). without_blank (behind line o)) (third None (slice_get_past tokens 2 few))

  cut_at : (ls : List Located) (place : ℕ) (token : Located) → AllByRecursion (IsCut line) ls → slice_get ls place ≡ Some token → IsCut line token
  cut_at [] place token all e = absurd (cc)
  cut_at (l ∷ ls) zero token all e = let same : l ≡ token = grind arith in subst (IsCut line) same all.0
  cut_at (l ∷ ls) (suc place) token all e = cut_at ls place token all.1 e

  -- the sign ends between two characters
  pub sign_cut : (token : Token) → IsUtf8 line → slice_get tokens 2 ≡ Some token → IsCharBoundary line (end_of (located token))
  sign_cut token utf8 e = (cut_at (tokens_of line) 2 (located token) (tokens_cut line utf8) (third (Some token) e)).1

-- a fault stands within the text
module _ (text : List ℕ) where
  within : (byte : ℕ) (rest : List ℕ) → BeginsTemplate text byte rest → byte ≤ length text
  within byte rest b = let l = ap length b.split ∙ length-append b.front rest in let p = b.place in omega (arith, l, p)

  pub bad_hole_within : (fault : TemplateFault) (byte : ℕ) → fault ≡ BadHole byte → IsFaultOf text fault → byte ≤ length text
  bad_hole_within fault byte e h = let is = subst (λ (f : TemplateFault). IsFaultOf text f) e h in within byte is.rest is.begins

  pub hole_zero_within : (fault : TemplateFault) (byte : ℕ) → fault ≡ HoleZero byte → IsFaultOf text fault → byte ≤ length text
  hole_zero_within fault byte e h = let is = subst (λ (f : TemplateFault). IsFaultOf text f) e h in within byte is.rest is.begins

  pub hole_over_within : (fault : TemplateFault) (byte : ℕ) → fault ≡ HoleOver16 byte → IsFaultOf text fault → byte ≤ length text
  hole_over_within fault byte e h = let is = subst (λ (f : TemplateFault). IsFaultOf text f) e h in within byte is.2.rest is.2.begins
